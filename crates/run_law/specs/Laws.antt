-- First theorems of every run.
use Rattle.std.specs.Prelude.{◌≡◌, ◌≤◌, ℕ, List, map, length, None, Ok}
use Rattle.chain_types.specs.declared.objects.Object.{Object}
use Rattle.journal_core.specs.declared.records.RanItem.{RanItem}
use Rattle.journal_core.specs.declared.records.Record.{Record}
use Rattle.journal_core.specs.declared.records.Record.TheVariants as record_as
use Rattle.schedule_text.specs.declared.words.Event.{Event}
use Rattle.schedule_text.specs.declared.words.Event.TheVariants as event
use Rattle.protocol_spec.specs.Chain.Certificates.{Rules}
use Rattle.protocol_spec.specs.Member.Member.{Member}
use Rattle.protocol_spec.specs.Member.Calls.{Call, due, called}
use Rattle.protocol_spec.specs.Member.Replay.{replayed}
use Rattle.world_spec.specs.Setting.{Setting}
use Rattle.world_spec.specs.World.{World, member_at}
use Rattle.world_spec.specs.Step.{happens}
use Rattle.world_spec.specs.Run.{report, journal}

abbrev pub EachEventIsReported : Type 0
EachEventIsReported = (s : Setting) (events : List Event) → length events ≤ length (report s events)

abbrev pub RestartKeepsStates : Type 0
RestartKeepsStates = (s : Setting) (w : World) (m n : ℕ) → member_at s (happens s w (event.Restart m)) n ≡ member_at s w n

abbrev pub NoRecordNoChange : Type 0
NoRecordNoChange = (r : Rules) (m : Member) (call : Call) → due r m call ≡ None → called r m call ≡ m

-- the same event with another number of workers, if it is a run
abbrev pub with_workers : ℕ → Event → Event
with_workers n (event.Run m workers) = event.Run m n
with_workers n e = e

-- the number of workers of the run lines changes neither the report nor any member's journal
abbrev pub WorkersChangeNothing : Type 0
WorkersChangeNothing =
    (s : Setting) (events : List Event) (n : ℕ) →
    (report s (map (with_workers n) events) ≡ report s events) × ((m : ℕ) → journal s (map (with_workers n) events) m ≡ journal s events m)

-- a record as it was before runs named their effects
abbrev pub as_older : Record → Record
as_older (record_as.Ran2 items) = record_as.Ran (map (λ (i : RanItem). i.tx) items)
as_older x = x

-- a start from older records gives the same state
abbrev pub OlderRunsAreRead : Type 0
OlderRunsAreRead = (r : Rules) (opening : List Object) (records : List Record) (m : Member) → replayed r opening records ≡ Ok m → replayed r opening (map as_older records) ≡ Ok m
