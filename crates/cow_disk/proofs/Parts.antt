-- A disk's parts as its callers see them.
use Rattle.std.proofs.Common.{◌≡◌, ℕ, zero, suc, ◌<◌, List, [], ◌∷◌, length, get_or, set, true, is_some, Option, Some, None, IsSome, Result, Ok, Err, OnErr, Bor, refl, sym, ap, ◌∙◌, arith}
use Rattle.std.proofs.lemmas.List.{length-map}
use Rattle.std.specs.Global.{Box}
use Rattle.std.specs.List.{slice_get}
use Rattle.std.specs.Option.{option_map, option_copied, unwrap_or}
use Rattle.base_words.specs.declared.page.Page.{Page}
use Rattle.private_machine.specs.Disk.{Block, no_block, block_now}
use Rattle.cow_disk.specs.DiskView.{bytes_of, base_pages, owns_of, overlaid}
use Rattle.cow_disk.specs.DiskParts.{disk_of, IsOver}
use Rattle.cow_disk.specs.DiskCalls.{is_private_at, written}
use Rattle.cow_disk.specs.declared.disk.Disk.TheInside.{Inside}
use Rattle.cow_disk.proofs.Overlays.{slice_get-overlaid, overlay_at, length-overlaid, overlaid-same, overlaid-set}

pub count_seen : (d : Inside) (v : List Block) → disk_of d ≡ v → length v ≡ length (base_pages d.base)
count_seen d v is = ap length (sym is) ∙ length-overlaid (bytes_of (base_pages d.base)) (owns_of d.overlay.items) ∙ length-map (base_pages d.base) (λ page. page.value)

pub block_seen : (d : Inside) (v : List Block) (k : ℕ) → disk_of d ≡ v
    → slice_get v k ≡ option_map (λ g. record { given = g; overlay = get_or (owns_of d.overlay.items) k None }) (slice_get (bytes_of (base_pages d.base)) k)
block_seen d v k is = ap (λ x. slice_get x k) (sym is) ∙ slice_get-overlaid (bytes_of (base_pages d.base)) (owns_of d.overlay.items) k

pub overlay_seen : (d : Inside) (v : List Block) (k : ℕ) → disk_of d ≡ v → IsOver d → (get_or v k no_block).overlay ≡ get_or (owns_of d.overlay.items) k None
overlay_seen d v k is over =
    ap (λ x. (get_or x k no_block).overlay) (sym is)
    ∙ overlay_at (bytes_of (base_pages d.base)) (owns_of d.overlay.items) k
    (let owns : length (owns_of d.overlay.items) ≡ length d.overlay.items = length-map d.overlay.items _ in
    let given : length (bytes_of (base_pages d.base)) ≡ length (base_pages d.base) = length-map (base_pages d.base) (λ page. page.value) in
    let few = over.over in omega arith)

-- a block as it was given, and as it is read
given_alone : (own : Option (List ℕ)) (o : Option (List ℕ)) → option_map (λ (b : Block). b.given) (option_map (λ g. record { given = g; overlay = own }) o) ≡ o
given_alone own None = refl
given_alone own (Some g) = refl

pub given_seen : (d : Inside) (v : List Block) (k : ℕ) → disk_of d ≡ v → option_map (λ (b : Block). b.given) (slice_get v k) ≡ slice_get (bytes_of (base_pages d.base)) k
given_seen d v k is = ap (option_map (λ (b : Block). b.given)) (block_seen d v k is) ∙ given_alone (get_or (owns_of d.overlay.items) k None) (slice_get (bytes_of (base_pages d.base)) k)

now_alone : (own : Option (Bor Page)) (given : Bor Page) → (unwrap_or own given).now ≡ unwrap_or (option_copied own) given.now
now_alone None given = refl
now_alone (Some page) given = refl

pub read_seen : (d : Inside) (v : List Block) (k : ℕ) (own : Option (Bor Page)) (given : Bor Page) → disk_of d ≡ v → option_copied own ≡ get_or (owns_of d.overlay.items) k None
    → Some given.now ≡ slice_get (bytes_of (base_pages d.base)) k → Some (unwrap_or own given).now ≡ option_map block_now (slice_get v k)
read_seen d v k own given is stands there =
    ap Some (now_alone own given ∙ ap (λ (o : Option Page). unwrap_or o given.now) stands)
    ∙ sym (ap (option_map block_now) (block_seen d v k is ∙ ap (option_map (λ g. record { given = g; overlay = get_or (owns_of d.overlay.items) k None })) (sym there)))

pub none_seen : (d : Inside) (v : List Block) (k : ℕ) → disk_of d ≡ v → None ≡ slice_get (bytes_of (base_pages d.base)) k → None ≡ option_map block_now (slice_get v k)
none_seen d v k is there = sym (ap (option_map block_now) (block_seen d v k is ∙ ap (option_map (λ g. record { given = g; overlay = get_or (owns_of d.overlay.items) k None })) (sym there)))

-- a block that the guest wrote
pub private_seen : (d : Inside) (v : List Block) (k : ℕ) (own : Option (Bor Page)) → disk_of d ≡ v → IsOver d → option_copied own ≡ get_or (owns_of d.overlay.items) k None → is_some own ≡ is_private_at v k
private_seen d v k own is over stands = copied own ∙ ap is_some (stands ∙ sym (overlay_seen d v k is over))
  where
    copied : (o : Option (Bor Page)) → is_some o ≡ is_some (option_copied o)
    copied None = refl
    copied (Some page) = refl

is_there : {X : Type 0} (xs : List (Option X)) (k : ℕ) → is_some (get_or xs k None) ≡ true → k < length xs
is_there [] k some = absurd cc
is_there (x ∷ xs) zero some = omega arith
is_there (x ∷ xs) (suc k) some = let rest = is_there xs k some in omega arith

pub private_stands : (d : Inside) (v : List Block) (k : ℕ) → disk_of d ≡ v → IsOver d → is_private_at v k ≡ true → (k < length d.overlay.items) × IsSome (get_or (owns_of d.overlay.items) k None)
private_stands d v k is over some =
    let stands : is_some (get_or (owns_of d.overlay.items) k None) ≡ true = ap is_some (sym (overlay_seen d v k is over)) ∙ some in
    let within = is_there (owns_of d.overlay.items) k stands in
    let count : length (owns_of d.overlay.items) ≡ length d.overlay.items = length-map d.overlay.items _ in
    (omega arith, stands)

-- what stands over the blocks after a write
pub unwritten_seen : (d : Inside) (v : List Block) (mid : List (Option (Box Page))) → disk_of d ≡ v → ((j : ℕ) → get_or (owns_of mid) j None ≡ get_or (owns_of d.overlay.items) j None)
    → overlaid (bytes_of (base_pages d.base)) (owns_of mid) ≡ v
unwritten_seen d v mid is same = overlaid-same (bytes_of (base_pages d.base)) (owns_of mid) (owns_of d.overlay.items) same ∙ is

pub written_seen : (d : Inside) (v : List Block) (k : ℕ) (page : List ℕ) (mid new : List (Option (Box Page))) → disk_of d ≡ v
    → ((j : ℕ) → get_or (owns_of mid) j None ≡ get_or (owns_of d.overlay.items) j None) → k < length mid → owns_of new ≡ set (owns_of mid) k (Some page)
    → overlaid (bytes_of (base_pages d.base)) (owns_of new) ≡ written v k page
written_seen d v k page mid new is same within put =
    let given = bytes_of (base_pages d.base) in
    let count : length (owns_of mid) ≡ length mid = length-map mid _ in
    ap (overlaid given) put ∙ overlaid-set given (owns_of mid) k (Some page) (omega arith) ∙ ap (λ x. written x k page) (unwritten_seen d v mid is same)

pub kept : {T E : Type 0} (r : Result T E) (d : Inside) (v : List Block) (mid : List (Option (Box Page))) → disk_of d ≡ v → ((j : ℕ) → get_or (owns_of mid) j None ≡ get_or (owns_of d.overlay.items) j None)
    → OnErr r (overlaid (bytes_of (base_pages d.base)) (owns_of mid) ≡ v)
kept (Ok x) d v mid is same = tt
kept (Err e) d v mid is same = unwritten_seen d v mid is same
