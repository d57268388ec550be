-- The same with the register page and without it: of a processor, and of a guest.
use Rattle.std.specs.Prelude.{Bool, None, Result, Ok, Err}
use Rattle.base_words.specs.declared.exception.Exception.{Exception}
use Rattle.private_machine.specs.PrivateMachine.{PrivateMachine}
use Rattle.private_machine.specs.Reaching.{Sight}

abbrev pub without_page : Sight → Sight
without_page x = record x { block = None }

abbrev pub paged : Bool → PrivateMachine → PrivateMachine
paged has m = record m { register_page = has }

-- and of what a step comes to
abbrev pub paged_to : Bool → Result PrivateMachine Exception → Result PrivateMachine Exception
paged_to has (Ok m) = Ok (paged has m)
paged_to has (Err x) = Err x
