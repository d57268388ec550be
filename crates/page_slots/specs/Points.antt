-- Where a caller's next access is made, as its gate is told.
use Rattle.std.specs.Prelude.{ℕ, ◌-◌, ◌^◌, min, length}
use Rattle.outside_io.specs.declared.gate.GatePoint.{GatePoint}
use Rattle.page_slots.specs.Slots.{CallerState}

-- how many accesses the caller has made; the count stands still at its type's end
abbrev pub made_by : CallerState → ℕ
made_by caller = min (length caller.mine) (2 ^ 64 - 1)

-- the processor is the caller, of guest 0 and its virtual processor 0
abbrev pub point_of : CallerState → GatePoint
point_of caller = record { processor = record { 0 = caller.number }; guest = record { 0 = 0 }; vcpu = record { 0 = 0 }; turn = made_by caller }
