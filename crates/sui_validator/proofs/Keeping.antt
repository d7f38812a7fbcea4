-- What a call keeps in one journal, from what it keeps in the lists of members.
use Rattle.std.proofs.Common.{◌≡◌, ◌∙◌, ◌+◌, ℕ, List, [], ◌∷◌, ◌++◌, Option, Some, None, sym, ap, subst, arith, inl, inr}
use Rattle.journal_core.specs.declared.records.Record.{Record}
use Rattle.journal_core.specs.Records as journals
use Rattle.outside.specs.Lists.{AddsRecord, Journals, KeepsJournals, journal_of}
use Rattle.validator_core.specs.Seats.{Ended, Journaled, Keeps, answered, fell}
use Rattle.sui_validator.specs.Journals.{Grows, Kept, KeepsDue, Records, Stays, alone, as_lists}
use Rattle.sui_validator.proofs.Alone.{own_list, own_record}

one_list : (member : ℕ) (records : Option Records) (rs : Records) → as_lists member records ≡ Some (alone member rs) → records ≡ Some rs
one_list member None rs e = absurd (cc)
one_list member (Some qs) rs e = ap (λ (r : Records). Some r) (sym (own_list member qs) ∙ (ap of_some e ∙ own_list member rs))
  where
    of_some : Option Journals → Records
    of_some None = []
    of_some (Some lists) = journal_of lists member

stays_back : (member : ℕ) (records records' : Option Records) → KeepsJournals (as_lists member records) (as_lists member records') → Stays records records'
stays_back member None new keeps = tt
stays_back member (Some rs) new keeps = one_list member new rs keeps

grows_back : (member : ℕ) (records records' : Option Records) (bytes : List ℕ) → AddsRecord (as_lists member records) (as_lists member records') member bytes → Grows records records' bytes
grows_back member None new bytes adds = tt
grows_back member (Some rs) new bytes adds = one_list member new (rs ++ bytes ∷ []) (adds ∙ ap (λ (l : Journals). Some l) (own_record member rs bytes))

due_back : (member : ℕ) (records records' : Option Records) (due : Option Record) → Keeps (as_lists member records) (as_lists member records') member due → KeepsDue records records' due
due_back member old new None keeps = stays_back member old new keeps
due_back member old new (Some x) adds = grows_back member old new (journals.journal_record.spell x) adds

back : (member : ℕ) (records records' : Option Records) (due : Option Record) (ended : Ended) → Journaled (as_lists member records) (as_lists member records') member due ended → Kept records records' due ended
back member old new due answered keeps = due_back member old new due keeps
back member old new due fell (inl keeps) = inl (due_back member old new due keeps)
back member old new due fell (inr stays) = inr (stays_back member old new stays)

-- the keeper's number stays, since its width does
pub same_number : (k k' : ℕ) → k' + 1 ≡ k + 1 → k' ≡ k
same_number k k' e = omega (arith, e)

pub keeps_own : (member k k' : ℕ) (records records' : Option Records) (due : Option Record) (ended : Ended) → member ≡ k → k' + 1 ≡ k + 1
    → Journaled (as_lists k records) (as_lists k' records') member due ended → Kept records records' due ended
keeps_own member k k' old new due ended own width journaled =
    back member old new due ended
    (subst (λ (n : ℕ). Journaled (as_lists n old) (as_lists member new) member due ended) (sym own)
    (subst (λ (n : ℕ). Journaled (as_lists k old) (as_lists n new) member due ended) (same_number k k' width ∙ sym own) journaled))
