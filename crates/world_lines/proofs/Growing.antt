-- Lists that were to grow to a whole.
use Rattle.std.proofs.Common.{◌≡◌, sym, refl, subst, List, [], ◌∷◌, ◌++◌}
use Rattle.protocol_spec.specs.Chain.Words.{IsFront}
use Rattle.protocol_spec.proofs.ListLemmas.{front_then, front_whole}
use Rattle.world_lines.specs.Pushed.{GrowsToward}

-- one more item
pub front_pushed : {A : Type 0} (old now new : List A) (x : A) → IsFront old now → new ≡ now ++ x ∷ [] → IsFront old new
front_pushed old now new x is e = front_then old now new is (x ∷ [], e)

-- nothing was added
pub none_added : {A : Type 0} (old new more : List A) → new ≡ old → GrowsToward old new (old ++ more)
none_added old new more e =
    subst (λ (l : List _). GrowsToward old l (old ++ more)) (sym e) (record { kept = front_whole old; ahead = (more, refl) })

-- all was added
pub all_added : {A : Type 0} (old new more : List A) → new ≡ old ++ more → GrowsToward old new (old ++ more)
all_added old new more e = record { kept = (more, e); ahead = subst (λ (l : List _). IsFront new l) e (front_whole new) }

-- some is left
pub some_added : {A : Type 0} (old now new rest more : List A) → IsFront old now → now ++ rest ≡ old ++ more → new ≡ now → GrowsToward old new (old ++ more)
some_added old now new rest more is e same =
    subst (λ (l : List _). GrowsToward old l (old ++ more)) (sym same) (record { kept = is; ahead = (rest, sym e) })
