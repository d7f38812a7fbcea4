-- Records that are read one after the other.
use Rattle.std.proofs.Common.{◌≡◌, ℕ, ◌+◌, ◌<◌, List, [], ◌∷◌, ◌++◌, take, get_or, Option, Some, None, refl, sym, ap, ◌∙◌, subst, arith}
use Rattle.std.proofs.lemmas.List.{take_more, take_all}
use Rattle.outside.specs.Lists.{Journals, IsCountOf, IsRecordAt, KeepsJournals, journal_of}
use Rattle.world_core.specs.SeatRestarts.{IsJournal}

-- these are the first records of a member, if lists are observable
abbrev pub AreFirst : Option Journals → ℕ → ℕ → List (List ℕ) → Type 0
AreFirst None m k kept = Unit {0}
AreFirst (Some lists) m k kept = kept ≡ take k (journal_of lists m)

pub none_read : (before : Option Journals) (m : ℕ) → AreFirst before m 0 []
none_read None m = tt
none_read (Some lists) m = refl

pub one_read : (before now : Option Journals) (m k n : ℕ) (kept : List (List ℕ)) (bytes : List ℕ) → AreFirst before m k kept → KeepsJournals before now → IsCountOf before m n → k < n → IsRecordAt now m k bytes → AreFirst before m (k + 1) (kept ++ bytes ∷ [])
one_read None now m k n kept bytes first same count low is = tt
one_read (Some lists) now m k n kept bytes first same count low is =
    let here : bytes ≡ get_or (journal_of lists m) k [] = subst (λ (o : Option Journals). IsRecordAt o m k bytes) same is in
    ap (λ (l : List (List ℕ)). l ++ bytes ∷ []) first
    ∙ ap (λ (b : List ℕ). take k (journal_of lists m) ++ b ∷ []) here
    ∙ sym (take_more (journal_of lists m) k [] (subst (λ (j : ℕ). k < j) count low))

pub same_then : (before now later : Option Journals) → KeepsJournals before now → KeepsJournals now later → KeepsJournals before later
same_then None now later same then_ = tt
same_then (Some lists) now later same then_ = subst (λ (o : Option Journals). KeepsJournals o later) same then_

pub all_read : (before : Option Journals) (m n : ℕ) (kept : List (List ℕ)) → AreFirst before m n kept → IsCountOf before m n → IsJournal before m kept
all_read None m n kept first count = tt
all_read (Some lists) m n kept first count = first ∙ take_all n (journal_of lists m) (omega (arith, count))
