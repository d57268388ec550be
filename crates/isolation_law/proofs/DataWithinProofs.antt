-- The page of a step's data access is one of the guest's.
use Rattle.std.proofs.Common.{◌≡◌, ℕ, ◌<◌, true, false, if◌then◌else◌, Ok, length, sym, subst}
use Rattle.base_words.specs.declared.effect.Request.{Request}
use Rattle.base_words.specs.declared.effect.Request.TheVariants as asks
use Rattle.base_words.specs.Halves.{Half}
use Rattle.private_machine.specs.Backing.{Held}
use Rattle.private_machine.specs.Reaching.{Sight, Wanted, Reached, at_half, wanted}
use Rattle.private_machine.specs.HardwareStep.{Done}
use Rattle.private_machine.specs.DirectAccess.{link_of, line_at, load_told, store_told, data_told, data_reached}
use Rattle.private_machine.specs.Links.{is_linked}
use Rattle.isolation_law.specs.GuestState.{GuestState, vcpu_of}
use Rattle.isolation_law.specs.Coherence.{Consistent}
use Rattle.isolation_law.specs.DirectStep.{with_inputs, sight, held_of}
use Rattle.isolation_law.specs.Traps.{step_on}
use Rattle.isolation_law.specs.DataWithin.{IsWithinPages}
use Rattle.isolation_law.proofs.DirectProofs.{ByHalf}
use Rattle.isolation_law.proofs.DirectContent.{DataReached, ran-ok}

told-within : (v : ℕ) (pages : ℕ) (x : Sight) (at : Reached) (held : Held) (r : Request) → ((h : Half) (w : Wanted) → ByHalf x w h → h.page < pages) → DataReached x (wanted r) at → IsWithinPages pages (data_told v at r held)
told-within v pages x at held r below got = by r got
  where
    here : (w : Wanted) → (h : Half) × (at ≡ at_half h) × ByHalf x w h → at.page < pages
    here w got = subst (λ (a : Reached). a.page < pages) (sym got.1) (below got.0 w got.2)

    by : (r : Request) → DataReached x (wanted r) at → IsWithinPages pages (data_told v at r held)
    by asks.Nothing got = tt
    by (asks.Load kind address target) got = here _ got
    by (asks.Store kind address value) got = here _ got
    by (asks.LoadLinked address target) got = here _ got
    by (asks.StoreConditional address value target) got =
        elim (is_linked (link_of v held) (line_at at address)) as (λ b. IsWithinPages pages (if b then store_told at else load_told at)) [
          | true ↦ here _ got
          | false ↦ here _ got
        ]
    by (asks.ReadCp0 number target) got = tt
    by (asks.WriteCp0 number value) got = tt
    by (asks.System op) got = tt

pub data-within : (s : GuestState) (p v : ℕ) (d : Done) → Consistent s → step_on s p v ≡ Ok d → IsWithinPages (length s.pages) (data_told v (data_reached d) d.does.request (held_of (with_inputs s v)))
data-within s p v d co e =
    let u = with_inputs s v in
    let ran = ran-ok (sight u p v) u.pages (vcpu_of u v).registers d e in
    told-within v (length s.pages) (sight u p v) (data_reached d) (held_of u) d.does.request (λ h w by. co.within p h by.has) ran.by_data
