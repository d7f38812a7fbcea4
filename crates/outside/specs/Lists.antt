-- The lists of records that a keeper keeps, one for each member. Source: this profile.
use Rattle.std.specs.Prelude.{◌≡◌, ℕ, List, [], ◌∷◌, ◌++◌, length, ⊤, Option, Result, Some, None, ◌⊎◌, MatchResult, slice_set}
use Rattle.std.specs.List.{slice_index_or}
use Rattle.outside.specs.declared.faults.OutFault.{OutFault}
use Rattle.outside.specs.declared.faults.OutFault.TheVariants as fault

-- a record is its bytes, and each member has a list of them
abbrev pub Journals : Type 0
Journals = List (List (List ℕ))

-- the records of a member
abbrev pub journal_of : Journals → ℕ → List (List ℕ)
journal_of lists member = slice_index_or lists member []

-- the member's list has one record more at its end
abbrev pub with_record : Journals → ℕ → List ℕ → Journals
with_record lists member bytes = slice_set lists member (journal_of lists member ++ bytes ∷ [])

-- observable lists stay as they were
abbrev pub KeepsJournals : Option Journals → Option Journals → Type 0
KeepsJournals None new = ⊤
KeepsJournals (Some lists) new = new ≡ Some lists

-- observable lists grow by this record of this member
abbrev pub AddsRecord : Option Journals → Option Journals → ℕ → List ℕ → Type 0
AddsRecord None new member bytes = ⊤
AddsRecord (Some lists) new member bytes = new ≡ Some (with_record lists member bytes)

-- what an append does to observable lists: at Ok the record stands, after a fault it stands or does not,
-- and if memory was refused the lists are as they were
abbrev pub Appended : Option Journals → Option Journals → ℕ → List ℕ → Result (Unit {0}) OutFault → Type 0
Appended old new member bytes result =
    MatchResult result (λ _. AddsRecord old new member bytes) (after_fault old new member bytes)
  where
    after_fault : Option Journals → Option Journals → ℕ → List ℕ → OutFault → Type 0
    after_fault old new member bytes fault.Failed = AddsRecord old new member bytes ⊎ KeepsJournals old new
    after_fault old new member bytes fault.OutOfMemory = KeepsJournals old new

-- what was read is the observable record at this place
abbrev pub IsRecordAt : Option Journals → ℕ → ℕ → List ℕ → Type 0
IsRecordAt None member place bytes = ⊤
IsRecordAt (Some lists) member place bytes = bytes ≡ slice_index_or (journal_of lists member) place []

-- the count is the length of the observable list
abbrev pub IsCountOf : Option Journals → ℕ → ℕ → Type 0
IsCountOf None member count = ⊤
IsCountOf (Some lists) member count = count ≡ length (journal_of lists member)

-- there are as many observable lists as members
abbrev pub HasMembers : Option Journals → ℕ → Type 0
HasMembers None members = ⊤
HasMembers (Some lists) members = length lists ≡ members
