-- What a call does to a member and to its list of records, by how the call ended.
use Rattle.std.specs.Prelude.{◌≡◌, ◌⊎◌, ℕ, Bool, true, false, [], Option, Some, None, Result, Ok, Err}
use Rattle.journal_core.specs.declared.records.Record.{Record}
use Rattle.journal_core.specs.Records as journals
use Rattle.outside.specs.Lists.{Journals, AddsRecord, KeepsJournals}
use Rattle.protocol_spec.specs.Chain.Certificates.{Rules}
use Rattle.protocol_spec.specs.Member.Member.{Member, fresh}
use Rattle.protocol_spec.specs.Member.Calls.{Call, due}
use Rattle.validator_core.specs.declared.keeping.JournalFault.{JournalFault}
use Rattle.world_spec.specs.Seats.{Seated, behind}

-- ---- how a call ended

-- the call answered; or its record was not kept, or memory was refused, and the member is down (fell)
pub data Ended : Type 0 where
  answered : Ended
  fell : Ended

abbrev pub has_fallen : Ended → Bool
has_fallen answered = false
has_fallen fell = true

-- a member that fell: it is down, and nothing is left of its state
abbrev pub fallen : Seated → Seated
fallen seat = record seat { up = false; state = fresh [] }

abbrev pub Fell : Seated → Seated → Type 0
Fell old new = new ≡ fallen old

-- the new state is `next` if the call answered; nothing is said of it if the member fell
abbrev pub Becomes : Member → Member → Ended → Type 0
Becomes next new answered = new ≡ next
Becomes next new fell = Unit {0}

abbrev pub Behaves : Rules → Call → Seated → Seated → Ended → Type 0
Behaves r call old new answered = new ≡ behind r old call
Behaves r call old new fell = Fell old new

-- ---- the records

-- if lists are observable, the due record was added; if none is due, they are as before
abbrev pub Keeps : Option Journals → Option Journals → ℕ → Option Record → Type 0
Keeps before now member None = KeepsJournals before now
Keeps before now member (Some x) = AddsRecord before now member (journals.journal_record.spell x)

-- after an append: at Ok the record was added; else it was, or the lists are as before
abbrev pub Appended : Option Journals → Option Journals → ℕ → Record → Result (Unit {0}) JournalFault → Type 0
Appended before now member x (Ok done) = AddsRecord before now member (journals.journal_record.spell x)
Appended before now member x (Err why) = AddsRecord before now member (journals.journal_record.spell x) ⊎ KeepsJournals before now

-- `Appended` if there may be no record to append
abbrev pub AppendedWhere : Option Journals → Option Journals → ℕ → Option Record → Result (Unit {0}) JournalFault → Type 0
AppendedWhere before now member due (Ok done) = Keeps before now member due
AppendedWhere before now member due (Err why) = Keeps before now member due ⊎ KeepsJournals before now

-- after a call: if it answered, its due record was added; if the member fell, it was, or the lists are as before
abbrev pub Journaled : Option Journals → Option Journals → ℕ → Option Record → Ended → Type 0
Journaled before now member due answered = Keeps before now member due
Journaled before now member due fell = Keeps before now member due ⊎ KeepsJournals before now
