-- Records that are read one after the other.
use Rattle.std.proofs.Common.{◌≡◌, ℕ, ◌+◌, ◌<◌, List, [], ◌∷◌, ◌++◌, take, get_or, Option, Some, None, refl, sym, ap, ◌∙◌, subst, arith}
use Rattle.std.proofs.lemmas.List.{take_more, take_all}
use Rattle.sui_validator.specs.Journals.{AreAll, IsAt, IsCount, Records, Stays}

-- these are the first records, if they are observable
abbrev pub AreFirst : Option Records → ℕ → List (List ℕ) → Type 0
AreFirst None k kept = Unit {0}
AreFirst (Some records) k kept = kept ≡ take k records

pub none_read : (before : Option Records) → AreFirst before 0 []
none_read None = tt
none_read (Some records) = refl

pub one_read : (before now : Option Records) (k n : ℕ) (kept : List (List ℕ)) (bytes : List ℕ) → AreFirst before k kept → Stays before now → IsCount before n → k < n → IsAt now k bytes → AreFirst before (k + 1) (kept ++ bytes ∷ [])
one_read None now k n kept bytes first same count low is = tt
one_read (Some records) now k n kept bytes first same count low is =
    let here : bytes ≡ get_or records k [] = subst (λ (o : Option Records). IsAt o k bytes) same is in
    ap (λ (l : List (List ℕ)). l ++ bytes ∷ []) first
    ∙ ap (λ (b : List ℕ). take k records ++ b ∷ []) here
    ∙ sym (take_more records k [] (subst (λ (j : ℕ). k < j) count low))

pub same_then : (before now later : Option Records) → Stays before now → Stays now later → Stays before later
same_then None now later same then_ = tt
same_then (Some records) now later same then_ = subst (λ (o : Option Records). Stays o later) same then_

pub all_read : (before : Option Records) (n : ℕ) (kept : List (List ℕ)) → AreFirst before n kept → IsCount before n → AreAll before kept
all_read None n kept first count = tt
all_read (Some records) n kept first count = first ∙ take_all n records (omega (arith, count))
