-- A block of the disk becomes a page.
use Rattle.std.proofs.Common.{◌≡◌, ℕ, ◌+◌, ◌*◌, ◌<◌, List, ◌++◌, length, take, drop, set, ap, sym, ◌∙◌, arith}
use Rattle.std.proofs.lemmas.List.{map-set, length-take, length-drop, drop_all, append-nil}
use Rattle.std.proofs.lemmas.Bool.Decides.{nat_tests}
use Rattle.std.specs.Global.{Box}
use Rattle.base_words.specs.declared.device.Transfer.{Transfer}
use Rattle.private_machine.specs.DevicePage.{transfer_of}
use Rattle.private_machine.specs.DeviceRegisters.{with_status}
use Rattle.private_machine.specs.PrivateMachine.{PrivateMachine}
use Rattle.private_machine.specs.Links.{page_bytes}
use Rattle.private_machine.specs.Devices.{commanded, disk_status}
use Rattle.flat_machine.specs.Attempts.{disk_done}
use Rattle.base_words.specs.declared.page.Page.{Page}
use Rattle.flat_machine.specs.FlatView.{blocks_of}

-- the bytes of a page of memory are 4096
pub length-page : (memory : List ℕ) (pages page : ℕ) → length memory ≡ 4096 * pages → page < pages → length (take 4096 (drop (page * 4096) memory)) ≡ 4096
length-page memory pages page whole within = simp (length-take, length-drop) (omega (arith, whole))

-- all bytes of a page are replaced
pub filled-all : (old bytes new : List ℕ) → length old ≡ 4096 → length bytes ≡ 4096 → new ≡ take 0 old ++ (bytes ++ drop (0 + length bytes) old) → new ≡ bytes
filled-all old bytes new long all is = is ∙ ap (λ rest. bytes ++ rest) (drop_all (0 + length bytes) old (omega (arith, long, all))) ∙ append-nil bytes

pub blocks_of-set : (disk : List (Box Page)) (i : ℕ) (new : Box Page) → blocks_of (set disk i new) ≡ set (blocks_of disk) i new.value
blocks_of-set disk i new = map-set (λ (b : Box Page). b.value) disk i new

-- the status of a write of a page that is there to a block that is there
done_status : (m : PrivateMachine) (t : Transfer) → t.block < length m.disk → t.page < m.pages → disk_status m t 2 ≡ 0
done_status m t block page = grind (arith, nat_tests)

pub disk_done-write : (m : PrivateMachine) (v : ℕ) (t : Transfer) → t ≡ transfer_of m.devices v → t.block < length m.disk → t.page < m.pages
    → disk_done m v 2 ≡ record m { devices = with_status v 0 m.devices; disk = set m.disk t.block (page_bytes m t.page 4096) }
disk_done-write m v t is block page =
    ap (λ (u : Transfer). commanded m v u 2 (disk_status m u 2)) (sym is) ∙ ap (commanded m v t 2) (done_status m t block page)
