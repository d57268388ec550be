-- A machine stays sound.
use Rattle.std.proofs.Common.{◌≡◌, ℕ, List, [], ◌∷◌, length, ◌<◌, get_or, set, map, ap, sym, ◌∙◌, refl, arith}
use Rattle.std.specs.Vec.{with_item}
use Rattle.std.proofs.Math.Seq.{map-set_same}
use Rattle.std.proofs.lemmas.List.{length-set, length-map, map-set, set-get_or, get_or-set_same}
use Rattle.private_machine.specs.declared.vcpu.Vcpu.{Vcpu}
use Rattle.private_machine.specs.Vcpu.{no_vcpu}
use Rattle.private_machine.specs.Showing.{shown_by}
use Rattle.private_machine.specs.Links.{unlinked, unlinked_page, unlinked_others}
use Rattle.flat_machine.specs.declared.machine.Machine.{Machine}
use Rattle.page_ops.specs.declared.memo.Memo.{Memo}
use Rattle.flat_machine.specs.FlatView.{IsSound}

-- when one of its virtual processors becomes another that shows the same
pub IsSound-with_item : (m : Machine) (v : ℕ) (new kept : Vcpu) → IsSound m → kept ≡ get_or m.vcpus.items v kept → shown_by new ≡ shown_by kept → IsSound (record m { vcpus = with_item m.vcpus v new })
IsSound-with_item m v new kept sound is same = record {
  whole = sound.whole;
  pages = sound.pages;
  transfers = sound.transfers ∙ sym (length-set m.vcpus.items v new);
  agree = map-set_same shown_by m.vcpus.items v new kept (same ∙ ap shown_by is) ∙ sound.agree;
  armed = sound.armed;
  empty = sound.empty;
  room = sound.room;
}

-- whatever words were met
pub IsSound-memo : (m : Machine) (memo : Memo) → IsSound m → IsSound (record m { memo = memo })
IsSound-memo m memo sound = record {
  whole = sound.whole;
  pages = sound.pages;
  transfers = sound.transfers;
  agree = sound.agree;
  armed = sound.armed;
  empty = sound.empty;
  room = sound.room;
}

-- those that a store unlinks show the same
pub shown_by-all-unlinked : (line : ℕ) (xs : List Vcpu) → map shown_by (map (unlinked line) xs) ≡ map shown_by xs
shown_by-all-unlinked line [] = refl
shown_by-all-unlinked line (x ∷ xs) = ap (λ ys. shown_by x ∷ ys) (shown_by-all-unlinked line xs)

pub shown_by-unlinked_others : (line v : ℕ) (xs : List Vcpu) → map shown_by (unlinked_others line v xs) ≡ map shown_by xs
shown_by-unlinked_others line v xs =
    map-set shown_by (map (unlinked line) xs) v (get_or xs v no_vcpu)
    ∙ ap (λ ys. set ys v (shown_by (get_or xs v no_vcpu))) (shown_by-all-unlinked line xs)
    ∙ sym (map-set shown_by xs v (get_or xs v no_vcpu)) ∙ ap (map shown_by) (set-get_or xs v no_vcpu)

pub length-unlinked_others : (line v : ℕ) (xs : List Vcpu) → length (unlinked_others line v xs) ≡ length xs
length-unlinked_others line v xs = length-set (map (unlinked line) xs) v (get_or xs v no_vcpu) ∙ length-map xs (unlinked line)

pub unlinked_others-own : (line v : ℕ) (xs : List Vcpu) → v < length xs → get_or (unlinked_others line v xs) v no_vcpu ≡ get_or xs v no_vcpu
unlinked_others-own line v xs there = get_or-set_same (map (unlinked line) xs) v (get_or xs v no_vcpu) no_vcpu (omega (arith, length-map xs (unlinked line), there))

pub shown_by-unlinked_page : (page : ℕ) (xs : List Vcpu) → map shown_by (map (unlinked_page page) xs) ≡ map shown_by xs
shown_by-unlinked_page page [] = refl
shown_by-unlinked_page page (x ∷ xs) = ap (λ ys. shown_by x ∷ ys) (shown_by-unlinked_page page xs)
