-- A request that changes nothing.
use Rattle.std.proofs.Common.{◌≡◌, Option, None, refl}
use Rattle.std.specs.Prelude.{Some}
use Rattle.protocol_spec.specs.Chain.Certificates.{Rules}
use Rattle.protocol_spec.specs.Member.Calls.{Call}
use Rattle.world_spec.specs.Seats.{Seated, rules_of_seat}
use Rattle.world_core.specs.Replies.{Accepting}
use Rattle.process_lines.specs.declared.request.Request.{Request}
use Rattle.validator_process.specs.Moves.{IsLook, IsNone, call_of, due_by, due_for, moved, moved_by}

none_moves : (r : Rules) (seat : Seated) (call : Option Call) → IsNone call → moved_by r seat call ≡ seat
none_moves r seat None look = refl
none_moves r seat (Some call) look = absurd look

none_owes : (r : Rules) (seat : Seated) (call : Option Call) → IsNone call → due_by r seat call ≡ None
none_owes r seat None look = refl
none_owes r seat (Some call) look = absurd look

pub look_moves : (accepts : Accepting) (seat : Seated) (q : Request) → IsLook q → moved accepts seat q ≡ seat
look_moves accepts seat q look = none_moves (rules_of_seat seat accepts) seat (call_of q) look

pub look_owes : (accepts : Accepting) (seat : Seated) (q : Request) → IsLook q → due_for accepts seat q ≡ None
look_owes accepts seat q look = none_owes (rules_of_seat seat accepts) seat (call_of q) look
