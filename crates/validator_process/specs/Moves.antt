-- What a request does to the member of a process, and the record that it leaves. Source: this profile.
use Rattle.std.specs.Prelude.{Option, Some, None}
use Rattle.journal_core.specs.declared.records.Record.{Record}
use Rattle.protocol_spec.specs.Chain.Certificates.{Rules}
use Rattle.protocol_spec.specs.Member.Calls.{Call, closes, due, holds, runs, sees, turns, votes}
use Rattle.world_spec.specs.Posts.{seat_behind}
use Rattle.world_spec.specs.Seats.{Seated, rules_of_seat}
use Rattle.world_core.specs.Replies.{Accepting}
use Rattle.process_lines.specs.declared.request.Request.{Request}
use Rattle.process_lines.specs.declared.request.Request.TheVariants as request

-- the call that a request makes; none if it changes nothing
abbrev pub call_of : Request → Option Call
call_of (request.Vote bytes) = Some (votes bytes)
call_of (request.Hold bytes) = Some (holds bytes)
call_of (request.See number entry) = Some (sees number entry)
call_of (request.Run workers) = Some runs
call_of request.Close = Some closes
call_of request.End = None
call_of request.Turn = Some turns
call_of (request.Ack tx) = None
call_of (request.Checkpoint number) = None
call_of (request.Object id) = None
call_of (request.Version id version) = None
call_of (request.Effects tx) = None
call_of request.State = None

abbrev pub moved_by : Rules → Seated → Option Call → Seated
moved_by r seat None = seat
moved_by r seat (Some call) = seat_behind r call seat

abbrev pub due_by : Rules → Seated → Option Call → Option Record
due_by r seat None = None
due_by r seat (Some call) = due r seat.state call

-- the member after a request that was answered, and the record that stands then
abbrev pub moved : Accepting → Seated → Request → Seated
moved accepts seat q = moved_by (rules_of_seat seat accepts) seat (call_of q)

abbrev pub due_for : Accepting → Seated → Request → Option Record
due_for accepts seat q = due_by (rules_of_seat seat accepts) seat (call_of q)

-- a request that changes nothing, and one that calls the member
abbrev pub IsNone : Option Call → Type 0
IsNone None = Unit {0}
IsNone (Some call) = ⊥

abbrev pub IsSome : Option Call → Type 0
IsSome None = ⊥
IsSome (Some call) = Unit {0}

abbrev pub IsLook : Request → Type 0
IsLook q = IsNone (call_of q)

abbrev pub IsCall : Request → Type 0
IsCall q = IsSome (call_of q)
