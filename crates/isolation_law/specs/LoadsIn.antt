-- What an entry of a guest's journal leaves loaded on a processor: only loads and unloads change it.
use Rattle.std.specs.Prelude.{ℕ, ◌==◌, if◌then◌else◌, Option, Some, None}
use Rattle.base_words.specs.declared.events.Event.{Event}
use Rattle.base_words.specs.declared.events.Event.TheVariants.{Direct, Refill, Emulate, Begin, Ack, Finish, Load, Unload, PacketIn, Discard, Skip, CellFails, End as Ending}

-- on processor r, where l was loaded on it before
abbrev pub loaded_after : Event → ℕ → Option ℕ → Option ℕ
loaded_after (Load p v) r l = if r == p.0 then Some v.0 else l
loaded_after (Unload p) r l = if r == p.0 then None else l
loaded_after (Direct p v) r l = l
loaded_after (Refill p) r l = l
loaded_after (Emulate p v) r l = l
loaded_after (Begin q kind node by) r l = l
loaded_after (Ack p q) r l = l
loaded_after (Finish q) r l = l
loaded_after (PacketIn k) r l = l
loaded_after (Discard k) r l = l
loaded_after (Skip k) r l = l
loaded_after (CellFails c) r l = l
loaded_after (Ending end) r l = l
