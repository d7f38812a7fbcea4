-- One member's records among lists of members.
use Rattle.std.proofs.Common.{◌≡◌, ◌∙◌, ◌<◌, ℕ, zero, suc, List, [], ◌∷◌, ◌++◌, Option, Some, None, Result, Ok, Err, refl, sym, ap, arith, inl, inr}
use Rattle.std.specs.Prelude.{slice_set}
use Rattle.outside.specs.Lists.{AddsRecord, Appended, HasMembers, Journals, KeepsJournals, journal_of, with_record}
use Rattle.outside.specs.declared.faults.OutFault.{OutFault}
use Rattle.outside.specs.declared.faults.OutFault.TheVariants as fault
use Rattle.sui_validator.specs.Journals.{Adds, Grows, Records, Stays, alone, as_lists, first_of}

-- ---- the first list of a keeper

first_grows : (lists lists' : Option Journals) (members : ℕ) (bytes : List ℕ) → HasMembers lists members → 0 < members → AddsRecord lists lists' 0 bytes → Grows (first_of lists) (first_of lists') bytes
first_grows None new members bytes are some adds = tt
first_grows (Some []) new members bytes are some adds = absurd (omega (arith, are, some))
first_grows (Some (x ∷ xs)) new members bytes are some adds = ap first_of adds

first_stays : (lists lists' : Option Journals) → KeepsJournals lists lists' → Stays (first_of lists) (first_of lists')
first_stays None new keeps = tt
first_stays (Some xs) new keeps = ap first_of keeps

pub first_adds : (lists lists' : Option Journals) (members : ℕ) (bytes : List ℕ) (result : Result (Unit {0}) OutFault) → HasMembers lists members → 0 < members → Appended lists lists' 0 bytes result
    → Adds (first_of lists) (first_of lists') bytes result
first_adds lists new members bytes (Ok done) are some adds = first_grows lists new members bytes are some adds
first_adds lists new members bytes (Err fault.Failed) are some (inl adds) = inl (first_grows lists new members bytes are some adds)
first_adds lists new members bytes (Err fault.Failed) are some (inr keeps) = inr (first_stays lists new keeps)
first_adds lists new members bytes (Err fault.OutOfMemory) are some keeps = first_stays lists new keeps

-- ---- one member only

pub own_list : (member : ℕ) (records : Records) → journal_of (alone member records) member ≡ records
own_list zero records = refl
own_list (suc member) records = own_list member records

own_set : (member : ℕ) (records x : Records) → slice_set (alone member records) member x ≡ alone member x
own_set zero records x = refl
own_set (suc member) records x = ap (λ (l : Journals). [] ∷ l) (own_set member records x)

pub own_record : (member : ℕ) (records : Records) (bytes : List ℕ) → with_record (alone member records) member bytes ≡ alone member (records ++ bytes ∷ [])
own_record member records bytes = own_set member records _ ∙ ap (λ (rs : Records). alone member (rs ++ bytes ∷ [])) (own_list member records)

grows : (member : ℕ) (records records' : Option Records) (bytes : List ℕ) → Grows records records' bytes → AddsRecord (as_lists member records) (as_lists member records') member bytes
grows member None new bytes g = tt
grows member (Some rs) new bytes g = ap (as_lists member) g ∙ ap (λ (l : Journals). Some l) (sym (own_record member rs bytes))

stays : (member : ℕ) (records records' : Option Records) → Stays records records' → KeepsJournals (as_lists member records) (as_lists member records')
stays member None new s = tt
stays member (Some rs) new s = ap (as_lists member) s

pub adds_alone : (member : ℕ) (records records' : Option Records) (bytes : List ℕ) (result : Result (Unit {0}) OutFault) → Adds records records' bytes result → Appended (as_lists member records) (as_lists member records') member bytes result
adds_alone member old new bytes (Ok done) adds = grows member old new bytes adds
adds_alone member old new bytes (Err fault.Failed) (inl adds) = inl (grows member old new bytes adds)
adds_alone member old new bytes (Err fault.Failed) (inr keeps) = inr (stays member old new keeps)
adds_alone member old new bytes (Err fault.OutOfMemory) keeps = stays member old new keeps
