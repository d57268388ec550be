-- A disk that was made of blocks is as it was given.
use Rattle.std.proofs.Common.{◌≡◌, ◌<◌, ℕ, List, [], ◌∷◌, Some, length, map, get_or, refl, sym, ap, ◌∙◌, subst}
use Rattle.private_machine.specs.Disk.{Block, as_given}
use Rattle.cow_disk.specs.DiskView.{bytes_of, base_pages}
use Rattle.guest_course.specs.BootCalls.{given_blocks}
use Rattle.guest_cases.proofs.describing.disk_of.Goals as goal

-- the blocks of a disk that has been made of them
given-back : (blocks : List (List ℕ)) → given_blocks (map as_given blocks) ≡ blocks
given-back [] = refl
given-back (b ∷ blocks) = ap (λ l. b ∷ l) (given-back blocks)

given : (disk : List Block) (blocks : List (List ℕ)) → disk ≡ map as_given blocks → given_blocks disk ≡ blocks
given disk blocks is = ap given_blocks is ∙ given-back blocks

unwritten : (disk : List Block) (blocks : List (List ℕ)) → disk ≡ map as_given blocks → disk ≡ map as_given (given_blocks disk)
unwritten disk blocks is = is ∙ ap (map as_given) (sym (given disk blocks is))

whole : (disk : List Block) (blocks : List (List ℕ)) → disk ≡ map as_given blocks → ((k : ℕ) → k < length blocks → length (get_or blocks k []) ≡ 4096)
    → (k : ℕ) → k < length (given_blocks disk) → length (get_or (given_blocks disk) k []) ≡ 4096
whole disk blocks is all = subst (λ (l : List (List ℕ)). (k : ℕ) → k < length l → length (get_or l k []) ≡ 4096) (sym (given disk blocks is)) all

pub returns-clause-blocks : goal.returns-clause-blocks
returns-clause-blocks c = whole c.new-disk.result (bytes_of (base_pages (Some c.in_ok-block.field-0))) c.new-disk.ensures c.in_ok-block.ensures.whole

pub returns-clause-unwritten : goal.returns-clause-unwritten
returns-clause-unwritten c = unwritten c.new-disk.result (bytes_of (base_pages (Some c.in_ok-block.field-0))) c.new-disk.ensures
