-- A guest as it sees itself, however its pages are backed.
use Rattle.std.specs.Prelude.{map, flat_map, length}
use Rattle.private_machine.specs.PrivateMachine.{PrivateMachine}
use Rattle.private_machine.specs.Disk.{block_now}
use Rattle.private_machine.specs.RegisterPage.{has_page}
use Rattle.isolation_law.specs.GuestState.{GuestState}

-- a page's content is its master's bytes
abbrev pub content : GuestState → PrivateMachine
content s = record {
  pages = length s.pages;
  memory = flat_map (λ g. g.master.bytes) s.pages;
  vcpus = s.vcpus;
  devices = s.devices;
  disk = map block_now s.disk;
  register_page = has_page s.around.profile;
}

-- what the guest sees of its virtual processors and devices becomes this machine's
abbrev pub with_own : PrivateMachine → GuestState → GuestState
with_own m s = record s { vcpus = m.vcpus; devices = m.devices }
