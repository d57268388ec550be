-- A state stays coherent when what pages are taken shared from is another, which still has the bytes of each open move.
use Rattle.std.proofs.Common.{◌≡◌, ℕ, ◌<◌, ◌≤◌, Bool, inl, ⊎_elim, Option, Some, None, List, length, map, get_or, arith}
use Rattle.private_machine.specs.Backing.{Change, Migrates, Replicates, Collapses, Breaks, TakesShared, GivesShared, Move, Page}
use Rattle.private_machine.specs.Operation.{Packet, Operation, ReadsBlock, Delivers}
use Rattle.private_machine.specs.Disk.{no_block}
use Rattle.isolation_law.specs.GuestState.{GuestState, page, operation_of}
use Rattle.isolation_law.specs.Coherence.{Sound, Consistent}
use Rattle.isolation_law.specs.PageRules.{Sources, sources, HasBytes, ChangeRule, MoveRule, PageRule, BlockRule, HasBytesOf}

abbrev pub Still : Sources → Sources → Type 0
Still from new = (o : Operation) (bytes : List ℕ) → HasBytes from bytes o → HasBytes new bytes o

bytes-still : (from new : Sources) (op : Option Operation) (bytes : List ℕ) → Still from new → HasBytesOf from bytes op → HasBytesOf new bytes op
bytes-still from new None bytes still rule = rule
bytes-still from new (Some o) bytes still rule = still o bytes rule

change-still : (from new : Sources) (op : Option Operation) (shared : Bool) (c : Change) → Still from new → ChangeRule from op shared c → ChangeRule new op shared c
change-still from new op shared (Migrates target) still rule = rule
change-still from new op shared (Replicates target) still rule = rule
change-still from new op shared Collapses still rule = rule
change-still from new op shared (Breaks target) still rule = rule
change-still from new op shared (TakesShared target) still rule = (bytes-still from new op target.bytes still rule.0, rule.1)
change-still from new op shared (GivesShared target) still rule = rule

move-still : (from new : Sources) (op : Option Operation) (shared : Bool) (mapped : List Bool) (m : Option Move) → Still from new → MoveRule from op shared mapped m → MoveRule new op shared mapped m
move-still from new op shared mapped None still rule = tt
move-still from new op shared mapped (Some m) still rule = (rule.0, change-still from new op shared m.change still rule.1)

pub rule-still : (from new : Sources) (n : ℕ) (op : Option Operation) (g : Page) → Still from new → PageRule from n op g → PageRule new n op g
rule-still from new n op g still rule = record { whole = rule.whole; equal = rule.equal; single = rule.single; moves = move-still from new op g.shared g.mapped g.move still rule.moves; sized = rule.sized }

pub coherent_with_sources : (s : GuestState) (new : Sources) → Consistent s → Still (sources s) new
    → ((b : ℕ) → b < length new.disk → BlockRule (get_or new.disk b no_block))
    → ((x : Packet) → new.hand ≡ Some x → length x.bytes ≤ 4096)
    → Sound new s.operations s.pages s.spares s.processors (map (λ c. c.tlb) s.vcpus) s.seconds s.devices.armed
coherent_with_sources s new co still blocks short =
    record { by_page = λ q below. rule-still (sources s) new (length s.processors) (operation_of s q) (page s q) still (co.by_page q below); as_many = co.as_many; within = co.within; on_page = co.on_page; in_tlb = co.in_tlb; exact = co.exact; empty = co.empty; once = co.once; rests = co.rests; by_second = co.by_second; enough = co.enough; blocks = blocks; armed_page = co.armed_page; packet = short }

-- a packet that was in hand, or came before, came before the next
pub passed : (from new : Sources) → (o : Operation) (bytes : List ℕ) → new.disk ≡ from.disk → from.place < new.place → HasBytes from bytes o → HasBytes new bytes o
passed from new (ReadsBlock v b) bytes disk more old = rw disk old
passed from new (Delivers place packet) bytes disk more old = (
  old.0,
  inl (⊎_elim
      (λ (lt : place < from.place). omega arith)
      (λ (here : (place ≡ from.place) × (from.hand ≡ Some packet)). let at = here.0 in omega arith)
      old.1),
)
