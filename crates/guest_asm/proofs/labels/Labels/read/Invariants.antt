use Rattle.std.proofs.Common.{◌≡◌, ℕ, ◌+◌, ◌*◌, ◌≤◌, List, map}
use Rattle.guest_asm.specs.Addresses.{end, address_of}
use Rattle.guest_asm.specs.Sites.{site_in}
use Rattle.guest_asm.proofs.Kept.{site_below}
use Rattle.guest_asm.proofs.labels.Labels.read.Given as goal

-- the labels of the lines so far, and the address of the next line
abbrev pub invariant-loop-number : goal.invariant-loop-number
invariant-loop-number l = record {
  address : l.address ≡ address_of (map (λ line. line.now) l.lines) l.number;
  bound : l.address ≤ end + 4 * l.number;
  kept : (name : List ℕ) → site_in l.labels name ≡ site_below (map (λ line. line.now) l.lines) l.number name;
}
