-- The records of one member. Source: this profile.
use Rattle.std.specs.Prelude.{◌≡◌, ◌⊎◌, ℕ, List, [], ◌∷◌, ◌++◌, length, replicate, ⊤, Option, Some, None, option_map, Result, MatchResult}
use Rattle.std.specs.List.{slice_index_or}
use Rattle.journal_core.specs.declared.records.Record.{Record}
use Rattle.journal_core.specs.Records as journals
use Rattle.outside.specs.Lists.{Journals, journal_of}
use Rattle.outside.specs.declared.faults.OutFault.{OutFault}
use Rattle.outside.specs.declared.faults.OutFault.TheVariants as fault
use Rattle.validator_core.specs.Seats.{Ended, answered, fell}

abbrev pub Records : Type 0
Records = List (List ℕ)

-- observable records stay as they were
abbrev pub Stays : Option Records → Option Records → Type 0
Stays None new = ⊤
Stays (Some records) new = new ≡ Some records

-- observable records grow by this one
abbrev pub Grows : Option Records → Option Records → List ℕ → Type 0
Grows None new bytes = ⊤
Grows (Some records) new bytes = new ≡ Some (records ++ bytes ∷ [])

-- what an append does to observable records: at `Ok` the record is added, after a fault it is added or not, and if
-- memory was refused the records are as they were
abbrev pub Adds : Option Records → Option Records → List ℕ → Result (Unit {0}) OutFault → Type 0
Adds old new bytes result = MatchResult result (λ _. Grows old new bytes) (after_fault old new bytes)
  where
    after_fault : Option Records → Option Records → List ℕ → OutFault → Type 0
    after_fault old new bytes fault.Failed = Grows old new bytes ⊎ Stays old new
    after_fault old new bytes fault.OutOfMemory = Stays old new

-- what was read is the observable record at this place
abbrev pub IsAt : Option Records → ℕ → List ℕ → Type 0
IsAt None place bytes = ⊤
IsAt (Some records) place bytes = bytes ≡ slice_index_or records place []

-- the count is the length of the observable records
abbrev pub IsCount : Option Records → ℕ → Type 0
IsCount None count = ⊤
IsCount (Some records) count = count ≡ length records

-- ---- the first list of a keeper

abbrev pub first_of : Option Journals → Option Records
first_of lists = option_map (λ (all : Journals). journal_of all 0) lists

-- ---- one member's records, as lists of members: those before it have none

abbrev pub alone : ℕ → Records → Journals
alone member records = replicate member [] ++ records ∷ []

abbrev pub as_lists : ℕ → Option Records → Option Journals
as_lists member records = option_map (alone member) records

-- these are the records, if they are observable
abbrev pub AreAll : Option Records → List (List ℕ) → Type 0
AreAll None kept = ⊤
AreAll (Some records) kept = kept ≡ records

-- ---- what a call of a member keeps

-- the record that is due, if one is, was added after the others
abbrev pub KeepsDue : Option Records → Option Records → Option Record → Type 0
KeepsDue before now None = Stays before now
KeepsDue before now (Some x) = Grows before now (journals.journal_record.spell x)

-- what a call leaves in observable records: if it answers, its due record was added; if the member fell, that record
-- was added or nothing was
abbrev pub Kept : Option Records → Option Records → Option Record → Ended → Type 0
Kept before now due answered = KeepsDue before now due
Kept before now due fell = KeepsDue before now due ⊎ Stays before now
