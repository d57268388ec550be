-- Tokens and seats may go to other threads.
use denote.Param.Send.{IsSend}
use Rattle.shootdown.specs.contracts.token.ProcToken as token
use Rattle.shootdown.specs.contracts.seat.GuestSeat as seat
use Rattle.shootdown.proofs.token.ProcToken.TheSendSync as of_token
use Rattle.shootdown.proofs.seat.GuestSeat.TheSendSync as of_seat

pub token_send : IsSend token.the_row
token_send = of_token.the_send

pub seat_send : IsSend seat.the_row
seat_send = of_seat.the_send
