-- Places in the list of held certificates.
use Rattle.std.specs.Prelude.{◌≡◌, ◌≤◌, ◌⊎◌, ℕ, suc, List, [], ◌∷◌}
use Rattle.std.specs.BTreeSet.{insert_key}
use Rattle.std.specs.Ordering.{nat_cmp}
use Rattle.protocol_spec.specs.declared.answers.Held.{Held}
use Rattle.protocol_spec.specs.Chain.Words.{Each}

-- the places, in ascending order, of certificates in this list, whose first has place `place`; every certificate whose
-- place is not there is Idle, and a place past the list may follow
abbrev pub Picks : (Held → Type 0) → ℕ → List ℕ → List Held → Type 0
Picks Idle place places [] = Each (λ p. place ≤ p) places
Picks Idle place [] (h ∷ hs) = Idle h × Picks Idle (suc place) [] hs
Picks Idle place (p ∷ ps) (h ∷ hs) = ((p ≡ place) × Picks Idle (suc place) ps hs) ⊎ (Idle h × Picks Idle (suc place) (p ∷ ps) hs)

-- ---- sets of places, as ascending lists

-- the set with one more place
abbrev pub placed : List ℕ → ℕ → List ℕ
placed set place = insert_key nat_cmp set place
