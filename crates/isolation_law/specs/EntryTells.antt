-- What entries tell of the moves that weren't begun.
use Rattle.std.specs.Prelude.{◌≡◌, ℕ, ◌++◌, List, [], ◌∷◌, length}
use Rattle.base_words.specs.declared.events.Event.{Event}
use Rattle.base_words.specs.declared.events.Event.TheVariants.{Direct, Refill, Emulate, Begin, Ack, Finish, Load, Unload, PacketIn, Discard, Skip, CellFails, End as Ending}
use Rattle.isolation_law.specs.Parts.{SkipEntry}

-- the place in the list of skips of which an entry tells
abbrev pub skip_of : Event → List ℕ
skip_of (Load p v) = []
skip_of (Unload p) = []
skip_of (Direct p v) = []
skip_of (Refill p) = []
skip_of (Emulate p v) = []
skip_of (Begin q kind node by) = []
skip_of (Ack p q) = []
skip_of (Finish q) = []
skip_of (PacketIn k) = []
skip_of (Discard k) = []
skip_of (Skip k) = k ∷ []
skip_of (CellFails c) = []
skip_of (Ending end) = []

-- the list of skips grows by one at each of these places, and by nothing else
abbrev pub AddsSkips : List SkipEntry → List ℕ → List SkipEntry → Type 0
AddsSkips old [] new = new ≡ old
AddsSkips old (k ∷ places) new = (k ≡ length old) × ((entry : SkipEntry) × AddsSkips (old ++ entry ∷ []) places new)
