-- Legal histories: what calls of one object, made one after the other, may leave and answer (the definition of linearizable objects, Herlihy and Wing 1990, in its sequential part).
use Rattle.std.specs.Prelude.{◌≡◌, List, [], ◌∷◌, ◌++◌}

-- the first list is a prefix of the second
abbrev pub IsFront : {A : Type 0} → List A → List A → Type 0
IsFront {A} xs ys = (rest : List A) × (ys ≡ xs ++ rest)

-- the calls of these entries lead from one state to another, each made in the state that the one before it left
abbrev pub IsHistory : {S E : Type 0} → (S → E → S → Type 0) → S → List E → S → Type 0
IsHistory step from [] to = to ≡ from
IsHistory {S} step from (entry ∷ entries) to = (next : S) × step from entry next × IsHistory step next entries to

-- the calls of these entries may be made, one after the other, from this state on
abbrev pub IsLegal : {S E : Type 0} → (S → E → S → Type 0) → S → List E → Type 0
IsLegal {S} step from entries = (to : S) × IsHistory step from entries to
