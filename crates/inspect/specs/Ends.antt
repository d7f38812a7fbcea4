-- What the program promises of each question: a relation between what source, sink and keeper show and count before and
-- after it, and the status.
use Rattle.std.specs.Prelude.{◌≡◌, ◌⊎◌, ℕ, List, Option, Some, None, Result, Ok, Err, length}
use Rattle.std.specs.Io.KnownBytes.{Appends, Keeps}
use Rattle.outside.specs.Causes.{Rose}
use Rattle.outside.specs.Lists.{Journals, KeepsJournals}
use Rattle.outside.specs.Streams.{AppendsFront, ReadsText}
use Rattle.schedule_text.specs.declared.words.Schedule.{Schedule}
use Rattle.schedule_text.specs.Schedule.{Refused, lines_of, longest_text, schedule_of}
use Rattle.world_spec.specs.Run.{world_after}
use Rattle.committee_core.specs.Headline.{program_trust}
use Rattle.committee_core.specs.Journals.{KeepsFronts, KeepsRun, ReadsBack}
use Rattle.committee_core.specs.Outside.{Outside}
use Rattle.committee_core.specs.Report.{refusal_text, setting_in}
use Rattle.committee_core.specs.Ways.{MeetsBadRecord}
use Rattle.inspect.specs.declared.questions.Question.{Question}
use Rattle.inspect.specs.declared.questions.Question.TheVariants as question
use Rattle.inspect.specs.Blame.{SaysBlame}
use Rattle.inspect.specs.Chain.{SaysChain}
use Rattle.inspect.specs.Digests.{SaysDigests}
use Rattle.inspect.specs.Part.{part_of}
use Rattle.inspect.specs.Sight.{Sight, sight_of}
use Rattle.inspect.specs.StateLines.{SaysStates, SaysStatesAt}

-- the status and bytes that answer a question, in terms of what the questions look at (`Sight`)
abbrev pub Says : Question → Sight → ℕ → List ℕ → Type 0
Says (question.Chain m members) x status text = SaysChain program_trust.accepts x.states m members status text
Says question.Digests x status text = SaysDigests x.known x.states status text
Says question.Blame x status text = SaysBlame x.rules x.names x.formed x.events status text
Says question.States x status text = SaysStates x.known x.crew x.states status text
Says (question.StatesAt line) x status text = SaysStatesAt line x.lines x.known x.crew x.states status text

-- what became of the answer's bytes: all were written, or a prefix
abbrev pub Writing : Type 1
Writing = List ℕ → Type 0

-- bytes that answer the question were written as `Written` says
abbrev pub SaysOf : Question → Sight → ℕ → Writing → Type 0
SaysOf q x status Written = (text : List ℕ) × Says q x status text × Written text

-- bytes that answer the question about the world after the whole run of a schedule, under the seals of the program,
-- were written, if what its lines read back is what was appended
abbrev pub SaysBehind : Question → List ℕ → Schedule → Option Journals → ℕ → Writing → Type 0
SaysBehind q text s kept status Written = ReadsBack kept s.events → SaysOf q (sight_of (setting_in program_trust s) (world_after (setting_in program_trust s) s.events) s.events (length (lines_of text))) status Written

-- the text is a schedule, it ran, its records were kept, and what is to be said of it was written
pub record RunsAndSays (q : Question) (text : List ℕ) (status : ℕ) (Written : Writing) (kept kept' : Option Journals) : Type 0 where
  pub schedule : Schedule
  pub is : schedule_of text ≡ Ok schedule
  pub journals : KeepsRun program_trust schedule kept kept'
  pub says : SaysBehind q text schedule kept status Written

-- a prefix of each journal of the schedule's run was kept; nothing of a text that is not a schedule
abbrev pub KeepsSome : Result Schedule Refused → Option Journals → Option Journals → Type 0
KeepsSome (Ok s) kept kept' = KeepsFronts program_trust s kept kept'
KeepsSome (Err r) kept kept' = KeepsJournals kept kept'

-- an answer, or the line that refuses the text, was written as `Written` says
abbrev pub SaysSome : Question → List ℕ → Result Schedule Refused → Option Journals → Writing → Type 0
SaysSome q text (Ok s) kept Written = (status : ℕ) × SaysBehind q text s kept status Written
SaysSome q text (Err r) kept Written = Written (refusal_text r)

-- what stands of a text after a run that broke off: prefixes of its journals, and a prefix of the answer or nothing
pub record CutsText (q : Question) (text : List ℕ) (held held' : Option (List ℕ)) (kept kept' : Option Journals) : Type 0 where
  pub journals : KeepsSome (schedule_of text) kept kept'
  pub written : Keeps held held' ⊎ SaysSome q text (schedule_of text) kept (AppendsFront held held')

-- the text is a schedule, and its run met a bad record when it read one back
abbrev pub MeetsBad : List ℕ → Option Journals → Type 0
MeetsBad text kept = (s : Schedule) × (schedule_of text ≡ Ok s) × MeetsBadRecord program_trust s Appends None None kept

-- the text is not a schedule, and the line that says why was written
abbrev pub Refuses : List ℕ → Option (List ℕ) → Option (List ℕ) → Option Journals → Option Journals → Type 0
Refuses text held held' kept kept' = (r : Refused) × (schedule_of text ≡ Err r) × Appends held held' (refusal_text r) × KeepsJournals kept kept'

-- the source was read, to its end or to one byte past the limit, and `Is` holds of the bytes
pub record OfText (Is : List ℕ → Type 0) (left left' : Option (List ℕ)) : Type 0 where
  pub text : List ℕ
  pub read : ReadsText longest_text left left' text
  pub so : Is text

-- how the program may end for a question, by its status; `part_of` is as much of the text as the question runs
pub record AskEnds (q : Question) (before now : Outside) (status : ℕ) : Type 0 where
  pub known : (status ≡ 0) ⊎ (status ≡ 3) ⊎ (status ≡ 4) ⊎ (status ≡ 5) ⊎ (status ≡ 6) ⊎ (status ≡ 7) ⊎ (status ≡ 8)
  pub whole : (status ≡ 0) ⊎ (status ≡ 8) → OfText (λ text. RunsAndSays q (part_of q text) status (Appends before.held now.held) before.kept now.kept) before.left now.left
  pub refused : status ≡ 3 → OfText (λ text. Refuses (part_of q text) before.held now.held before.kept now.kept) before.left now.left
  pub read_fault : status ≡ 4 → Rose before.read_faults now.read_faults
  pub unread : status ≡ 4 → Keeps before.held now.held × KeepsJournals before.kept now.kept
  pub write_fault : status ≡ 5 → Rose before.write_faults now.write_faults
  pub keep_fault : status ≡ 6 → Rose before.keep_faults now.keep_faults ⊎ OfText (λ text. MeetsBad (part_of q text) before.kept) before.left now.left
  pub unsaid : status ≡ 6 → Keeps before.held now.held
  pub cut : (status ≡ 5) ⊎ (status ≡ 6) ⊎ (status ≡ 7) → (Keeps before.held now.held × KeepsJournals before.kept now.kept) ⊎ OfText (λ text. CutsText q (part_of q text) before.held now.held before.kept now.kept) before.left now.left

-- words that ask nothing: nothing is read, written, kept or counted
pub record IsUnused (before now : Outside) (status : ℕ) : Type 0 where
  pub two : status ≡ 2
  pub same : now ≡ before

-- how the program ends, by what the words ask
abbrev pub Ends : Option Question → Outside → Outside → ℕ → Type 0
Ends None before now status = IsUnused before now status
Ends (Some q) before now status = AskEnds q before now status
