-- The report's words for entries, in terms of the directory of names; and what a `see` line has done so far.
use Rattle.std.specs.Prelude.{◌≡◌, ◌+◌, ℕ, false, List, [], ◌∷◌, ◌++◌, length, slice_get, Option, None, option_and_then, option_map, Result, Ok, Err, if◌then◌else◌}
use Rattle.chain_messages.specs.declared.messages.Entry.{Entry}
use Rattle.chain_messages.specs.declared.messages.Statement.{Statement}
use Rattle.journal_core.specs.declared.records.Record.{Record}
use Rattle.outside.specs.Lists.{Journals}
use Rattle.protocol_spec.specs.Member.Member.{Member}
use Rattle.protocol_spec.specs.Member.Calls.{Call}
use Rattle.protocol_spec.specs.declared.answers.Seen.{Seen}
use Rattle.protocol_spec.specs.declared.refusals.SeeRefusal.{SeeRefusal}
use Rattle.report_text.specs.declared.lines.Line.{Line}
use Rattle.report_text.specs.declared.lines.Line.TheVariants as line
use Rattle.report_text.specs.declared.lines.SeeText.TheVariants as see_text
use Rattle.report_text.specs.declared.lines.EntryText.TheVariants as entry_text
use Rattle.world_spec.specs.Setting.{Trust}
use Rattle.world_spec.specs.World.{built_statements, entries_at, numbered_call}
use Rattle.world_spec.specs.Report.{Lines, entry_lines}
use Rattle.world_spec.specs.Known.{Known, setting_staked, world_with}
use Rattle.world_spec.specs.Posts.{AddsAll, AddsFront, Post}
use Rattle.world_spec.specs.Scene.{Scene, rules_in}
use Rattle.world_core.specs.Cuts.{books_in}
use Rattle.world_core.specs.declared.reply.Reply.{Reply}
use Rattle.world_core.specs.declared.reply.Reply.TheVariants as reply
use Rattle.world_spec.specs.SceneSteps.{seat_state, sees_left, sees_to, standing_at}
use Rattle.world_core.specs.Steps.{entries_lines_in}

-- the report's lines for a member's reply to an entry, and whether the line goes on; by the stakes of the committee
abbrev pub see_replied : Known → List ℕ → ℕ → ℕ → Reply (Result Seen SeeRefusal) → Lines
see_replied k stakes m number reply.Down = (line.See m see_text.Down ∷ [], false)
see_replied k stakes m number reply.Stopped = (line.SeeEntry m number entry_text.Stopped ∷ [], false)
see_replied k stakes m number (reply.Answered given) = entry_lines (setting_staked stakes k) (world_with k) m number given

-- what a member states by its reply to an entry
abbrev pub see_stated : Reply (Result Seen SeeRefusal) → List Statement
see_stated reply.Down = []
see_stated reply.Stopped = []
see_stated (reply.Answered given) = built_statements given

-- the next entry of these sequences for a member in this state
abbrev pub next_for : List (List Entry) → Member → Option Call
next_for sequences m = option_map (numbered_call m.sequence.number) (if m.sequence.ended then None else slice_get (entries_at sequences m.epoch) m.sequence.number)

-- the next entry of a member that is up, as the call that hands it in
abbrev pub next_by : List Post → List (List Entry) → ℕ → Option Call
next_by posts sequences m = option_and_then (next_for sequences) (option_map seat_state (standing_at (slice_get posts m)))

-- what several calls add to observable lists: if all were completed, all these records; after a fault, the first few
-- of them
abbrev pub LeavesAll : {A E : Type 0} → Option Journals → Option Journals → ℕ → List Record → Result A E → Type 0
LeavesAll before now m records (Ok a) = AddsAll before now m records
LeavesAll before now m records (Err e) = AddsFront before now m records

-- the state of a `see` line for `n` entries while `still` of them are left: the world is the one after `taken`
-- entries, and the lines and records so far, followed by those of the entries that are left, are those of the whole
-- line
pub record HasSeen (trust : Trust) (m n : ℕ) (old now : Scene) (before told : Option Journals) (lines so_far : List Line) (still : ℕ) : Type 0 where
  pub scene : sees_to (rules_in trust.accepts old) still now m ≡ sees_to (rules_in trust.accepts old) n old m
  pub says : so_far ++ entries_lines_in trust still now m ≡ lines ++ entries_lines_in trust n old m
  pub done : List Record
  pub records : sees_left (rules_in trust.accepts old) n old m ≡ done ++ sees_left (rules_in trust.accepts old) still now m
  pub adds : AddsAll before told m done
  pub taken : ℕ
  pub sum : taken + still ≡ n
  pub reached : now ≡ sees_to (rules_in trust.accepts old) taken old m
  pub gave : done ≡ sees_left (rules_in trust.accepts old) taken old m
  pub books : books_in now ≡ books_in old
  pub rules : now.terms ≡ old.terms
  pub many : length now.posts ≡ length old.posts
