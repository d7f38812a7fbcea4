-- What a line leaves in observable lists, and which lines hand a call to a member.
use Rattle.std.specs.Prelude.{Bool, true, false, not, Option, Result, Ok, Err}
use Rattle.outside.specs.Lists.{Journals}
use Rattle.protocol_spec.specs.Chain.Certificates.{Rules}
use Rattle.protocol_spec.specs.Member.Calls.{Call, ends, acks}
use Rattle.schedule_text.specs.declared.words.Event.{Event}
use Rattle.world_spec.specs.Moves.{Move, requests, delivers, starts_again, Request, direct, move_of}
use Rattle.world_spec.specs.Scene.{Scene}
use Rattle.world_spec.specs.SceneSteps.{AddsLine, MayAddLine, Work, records_left}

-- what a line adds to observable lists: if it was completed, all records that it leaves; after a fault, the first few
-- of them (some, none or all)
abbrev pub LeavesAs : {A E : Type 0} → Rules → Scene → Work → Option Journals → Option Journals → Result A E → Type 0
LeavesAs r sc work before now (Ok a) = AddsLine (records_left r sc work) before now
LeavesAs r sc work before now (Err e) = MayAddLine (records_left r sc work) before now

-- whether a call may append a record
abbrev pub may_record : Call → Bool
may_record ends = false
may_record (acks tx) = false
may_record call = true

abbrev pub asks_record : Request → Bool
asks_record (direct call) = may_record call
asks_record ask = true

-- whether a move reads and appends no record
abbrev pub is_quiet_move : Move → Bool
is_quiet_move (requests m ask) = not (asks_record ask)
is_quiet_move (delivers m entries) = false
is_quiet_move (starts_again m) = false
is_quiet_move mv = true

-- whether a line reads and appends no record; each line is a call, quiet, a `see` or a `restart`
abbrev pub is_quiet : Event → Bool
is_quiet e = is_quiet_move (move_of e)
