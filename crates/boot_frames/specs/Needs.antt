-- What guests need of the machine's frames.
use Rattle.machine_desc.specs.declared.machine.GuestSpec.{GuestSpec}
use Rattle.boot_frames.specs.declared.needs.Need.{Need}

-- a frame for each page, and they are at home on a node
abbrev pub need_of : GuestSpec → Need
need_of spec = record { node = spec.node; pages = spec.pages }
