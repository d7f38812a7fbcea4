-- The lines of an event that was taken, or of a bad record, as they are written.
use Rattle.std.proofs.Common.{ℕ, List, Option, Result, Ok, Err, OnOk, OnErr}
use Rattle.std.specs.Io.KnownBytes.{Appends}
use Rattle.std.proofs.KnownBytes.{Keeps-refl}
use Rattle.outside.specs.Lists.{Journals}
use Rattle.report_text.specs.declared.lines.Line.{Line}
use Rattle.schedule_text.specs.declared.words.Event.{Event}
use Rattle.world_spec.specs.Setting.{Trust}
use Rattle.world_spec.specs.Scene.{Scene, rules_in}
use Rattle.world_spec.specs.SceneSteps.{MayAddLine, records_left, work_of}
use Rattle.committee_core.specs.Report.{lines_text}
use Rattle.committee_core.specs.Steps.{IsBadRecord, IsCutAt, untaken, unwritten, unsaid, IsTaken, Passes, ReadsBad}
use Rattle.outside.specs.Streams.{AppendsFront}
use Rattle.committee_core.specs.Ways.{bad_record_text}

pub passes_as : {E : Type 0} (r : Result (Unit {0}) E) (trust : Trust) (e : Event) (sc now : Scene) (told told' : Option Journals) (held held' : Option (List ℕ)) (given : List Line)
    → IsTaken trust e sc now told told' given → OnOk r (Appends held held' (lines_text given)) → OnOk r (Passes trust e sc now told told' held held')
passes_as (Ok u) trust e sc now told told' held held' given taken done = record { given = given; taken = taken; written = done }
passes_as (Err f) trust e sc now told told' held held' given taken done = tt

pub cut_taken : {E : Type 0} (r : Result (Unit {0}) E) (trust : Trust) (e : Event) (sc now : Scene) (told told' : Option Journals) (held held' : Option (List ℕ)) (given : List Line)
    → IsTaken trust e sc now told told' given → AppendsFront held held' (lines_text given) → OnErr r (IsCutAt trust e sc told told' held held')
cut_taken (Ok u) trust e sc now told told' held held' given taken done = tt
cut_taken (Err f) trust e sc now told told' held held' given taken done = unwritten (record { now = now; given = given; taken = taken; written = done })

pub cut_untaken : (trust : Trust) (e : Event) (sc : Scene) (told told' : Option Journals) (held : Option (List ℕ))
    → MayAddLine (records_left (rules_in trust.accepts sc) sc (work_of sc e)) told told' → IsCutAt trust e sc told told' held held
cut_untaken trust e sc told told' held left = untaken (record { kept = left; written = Keeps-refl held })

pub cut_bad : {E : Type 0} (r : Result (Unit {0}) E) (trust : Trust) (e : Event) (sc : Scene) (told told' : Option Journals) (held held' : Option (List ℕ)) (member place : ℕ)
    → ReadsBad trust e sc told member place → AppendsFront held held' (bad_record_text member place) → OnErr r (IsCutAt trust e sc told told' held held')
cut_bad (Ok u) trust e sc told told' held held' member place reads done = tt
cut_bad (Err f) trust e sc told told' held held' member place reads done = unsaid (record { member = member; place = place; reads = reads; written = done })

pub said_bad : {S : Type 0} (said : S) (trust : Trust) (e : Event) (sc : Scene) (told : Option Journals) (held held' : Option (List ℕ)) (member place : ℕ)
    → ReadsBad trust e sc told member place → (S → Appends held held' (bad_record_text member place)) → IsBadRecord trust e sc told Appends held held'
said_bad said trust e sc told held held' member place reads done = record { member = member; place = place; reads = reads; written = done said }
