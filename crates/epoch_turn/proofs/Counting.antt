-- Members that are counted once are at most as many as the committee has.
use Rattle.std.proofs.Common.{◌≡◌, ◌∙◌, refl, sym, ap, arith, ℕ, ◌+◌, ◌<◌, Bool, true, false, ◌||◌, List, [], ◌∷◌, ◌++◌, length, length-append}
use Rattle.std.specs.Prelude.{nat_eq, nat_lt, ◌==◌}
use Rattle.std.specs.List.{list_any, IsDistinct}
use Rattle.std.proofs.lemmas.Bool.{ltb-true, and_parts, and_from, eqb-true}
use Rattle.std.proofs.lemmas.Cmp.{nat_eq_equiv}
use Rattle.std.proofs.lemmas.Map.Keys.{IsDistinct-push}
use Rattle.std.proofs.lemmas.Map.Steps.{length-le_from_distinct_below}
use Rattle.quorum_core.specs.Committee.{is_among, all_known}
use Rattle.epoch_turn.specs.Ends.{IsCount, greatest}

turned : (members : List ℕ) (member : ℕ) → list_any (nat_eq member) members ≡ is_among members member
turned [] member = refl
turned (m ∷ ms) member = ap (λ b. b || list_any (nat_eq member) ms) (nat_eq_equiv.symm member m) ∙ ap (λ b. (m == member) || b) (turned ms member)

-- a member that is known stays known
pub one_known : (stakes members : List ℕ) (member : ℕ) → member < length stakes → all_known stakes members ≡ true → all_known stakes (members ++ member ∷ []) ≡ true
one_known stakes [] member less known = grind arith
one_known stakes (m ∷ ms) member less known =
    let parts = and_parts (nat_lt m (length stakes)) (all_known stakes ms) known in
    and_from (nat_lt m (length stakes)) (all_known stakes (ms ++ member ∷ [])) parts.0 (one_known stakes ms member less parts.1)

below : (stakes members : List ℕ) (q : ℕ) → all_known stakes members ≡ true → list_any (nat_eq q) members ≡ true → q < length stakes
below stakes [] q known found = absurd (cc)
below stakes (m ∷ ms) q known found =
    let parts = and_parts (nat_lt m (length stakes)) (all_known stakes ms) known in
    here (nat_eq q m) refl (ltb-true m (length stakes) parts.0) (below stakes ms q parts.1)
  where
    here : (b : Bool) → nat_eq q m ≡ b → m < length stakes → (list_any (nat_eq q) ms ≡ true → q < length stakes) → q < length stakes
    here true e less rest = let same = eqb-true q m e in omega (arith, same, less)
    here false e less rest = rest (ap (λ b. b || list_any (nat_eq q) ms) (sym e) ∙ found)

pub nobody : IsCount 0 []
unfolding IsDistinct
nobody = record { many = refl; once = tt; known = refl }

-- one more member that was not counted
pub one_more : (count : ℕ) (members : List ℕ) (member : ℕ) → is_among members member ≡ false → member < 64 → IsCount count members → IsCount (count + 1) (members ++ member ∷ [])
one_more count members member new less is = record {
  many = let l = length-append members (member ∷ []) in let m = is.many in omega (arith, l, m);
  once = IsDistinct-push nat_eq_equiv members member is.once (turned members member ∙ new);
  known = one_known greatest members member less is.known;
}

-- there is room for it
pub has_room : (members : List ℕ) (member : ℕ) → IsDistinct nat_eq members → all_known greatest members ≡ true → member < 64 → is_among members member ≡ false → length members < 64
has_room members member once known less new =
    let more = one_more (length members) members member new less (record { many = refl; once = once; known = known }) in
    let most = length-le_from_distinct_below (members ++ member ∷ []) 64 more.once (λ q. below greatest (members ++ member ∷ []) q more.known) in
    let l = length-append members (member ∷ []) in
    omega (arith, most, l)
