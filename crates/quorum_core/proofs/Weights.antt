-- Weights: their bounds, and what one more member of a roll adds.
use Rattle.std.proofs.Common.{◌≡◌, ℕ, zero, suc, ◌+◌, ◌*◌, ◌<◌, ◌≤◌, Bool, true, false, cond, ◌||◌, List, [], ◌∷◌, length, get_or, drop, drop-cons, take, take_all, add-one, refl, ap, sym, ◌∙◌, arith}
use Rattle.std.specs.Prelude.{nat_lt, sum}
use Rattle.std.proofs.lemmas.Bool.{ltb-true, and_parts, and_from, eq-eqb}
use Rattle.std.proofs.lemmas.Grind.{common_steps}
use Rattle.wire_bcs.specs.Ascending.{ascends}
use Rattle.wire_bcs.proofs.InOrder.{apart, apart_over, ascends_after}
use Rattle.quorum_core.specs.Committee.{weight_from, weight_of, weight, total_of, is_among, is_roll, all_known}

all_from : (member : ℕ) (stakes : List ℕ) → weight_from member stakes (λ _. true) ≡ sum stakes
all_from member [] = refl
all_from member (stake ∷ stakes) = grind (arith, common_steps, all_from (suc member) stakes)

pub total_is_sum : (stakes : List ℕ) → total_of stakes ≡ sum stakes
unfolding total_of weight_of
total_is_sum stakes = all_from 0 stakes

part_most : (b : Bool) (stake : ℕ) → cond b stake 0 ≤ stake
part_most true stake = omega arith
part_most false stake = omega arith

most_from : (member : ℕ) (stakes : List ℕ) (among : ℕ → Bool) → weight_from member stakes among ≤ weight_from member stakes (λ _. true)
most_from member [] among = omega arith
most_from member (stake ∷ stakes) among = let a = part_most (among member) stake in let b = most_from (suc member) stakes among in omega arith

-- no set outweighs all members
pub weight_most : (stakes members : List ℕ) → weight stakes members ≤ total_of stakes
unfolding total_of weight_of
weight_most stakes members = most_from 0 stakes (is_among members)

-- a member below the list's first adds nothing to it
past_from : (member : ℕ) (stakes : List ℕ) (m : ℕ) (ms : List ℕ) → m < member → weight_from member stakes (is_among (m ∷ ms)) ≡ weight_from member stakes (is_among ms)
past_from member [] m ms less = refl
past_from member (stake ∷ stakes) m ms less =
    ap (λ b. cond (b || is_among ms member) stake 0 + weight_from (suc member) stakes (is_among (m ∷ ms))) (apart m member less)
    ∙ ap (λ n. cond (is_among ms member) stake 0 + n) (past_from (suc member) stakes m ms (omega arith))

-- a member that is not among the others adds its stake
adds_from : (member : ℕ) (stakes : List ℕ) (place m : ℕ) (ms : List ℕ) → m ≡ place + member → is_among ms m ≡ false
    → weight_from member stakes (is_among (m ∷ ms)) ≡ get_or stakes place 0 + weight_from member stakes (is_among ms)
adds_from member [] place m ms e new = refl
adds_from member (stake ∷ stakes) zero m ms e new =
    let same : m ≡ member = omega arith in
    let none : weight_from (suc member) stakes (is_among ms) ≡ 0 + weight_from (suc member) stakes (is_among ms) = omega arith in
    let here : is_among ms member ≡ false = ap (is_among ms) (sym same) ∙ new in
    ap (λ b. cond (b || is_among ms member) stake 0 + weight_from (suc member) stakes (is_among (m ∷ ms))) (eq-eqb m member same)
    ∙ ap (λ n. stake + n) (past_from (suc member) stakes m ms (omega arith))
    ∙ ap (λ n. stake + n) none
    ∙ sym (ap (λ b. stake + (cond b stake 0 + weight_from (suc member) stakes (is_among ms))) here)
adds_from member (stake ∷ stakes) (suc place) m ms e new =
    let more = adds_from (suc member) stakes place m ms (omega arith) new in
    let other = ap (λ b. cond (b || is_among ms member) stake 0 + weight_from (suc member) stakes (is_among (m ∷ ms))) (apart_over member m (omega arith)) in
    other ∙ omega arith

-- a list that ascends from above a member does not contain it
above : (m n : ℕ) (ms : List ℕ) → m < n → ascends (n ∷ ms) ≡ true → is_among (n ∷ ms) m ≡ false
above m n [] less up = ap (λ b. b || false) (apart_over m n less)
above m n (k ∷ ks) less up =
    let parts = and_parts (nat_lt n k) (ascends (k ∷ ks)) up in
    let next : n < k = ltb-true n k parts.0 in
    ap (λ b. b || is_among (k ∷ ks) m) (apart_over m n less) ∙ above m k ks (omega arith) parts.1

new_in : (m : ℕ) (ms : List ℕ) → ascends (m ∷ ms) ≡ true → is_among ms m ≡ false
new_in m [] up = refl
new_in m (n ∷ ms) up = let parts = and_parts (nat_lt m n) (ascends (n ∷ ms)) up in above m n ms (ltb-true m n parts.0) parts.1

-- the first member of a roll is known, the others are a roll, and it adds its stake to their weight
pub record FirstOfRoll (stakes : List ℕ) (m : ℕ) (ms : List ℕ) : Type 0 where
  pub known : m < length stakes
  pub roll : is_roll stakes ms ≡ true
  pub adds : weight stakes (m ∷ ms) ≡ get_or stakes m 0 + weight stakes ms

pub first_of_roll : (stakes : List ℕ) (m : ℕ) (ms : List ℕ) → is_roll stakes (m ∷ ms) ≡ true → FirstOfRoll stakes m ms
unfolding weight_of
first_of_roll stakes m ms h =
    let parts = and_parts (ascends (m ∷ ms)) (all_known stakes (m ∷ ms)) h in
    let known = and_parts (nat_lt m (length stakes)) (all_known stakes ms) parts.1 in
    record {
      known = ltb-true m (length stakes) known.0;
      roll = and_from (ascends ms) (all_known stakes ms) (ascends_after m ms parts.0) known.1;
      adds = adds_from 0 stakes m m ms (omega arith) (new_in m ms parts.0);
    }

-- a weight of stakes below a bound
below_from : (bound member : ℕ) (stakes : List ℕ) (among : ℕ → Bool) → ((place : ℕ) → get_or stakes place 0 ≤ bound) → weight_from member stakes among ≤ length stakes * bound
below_from bound member [] among small = omega arith
below_from bound member (stake ∷ stakes) among small =
    let first : stake ≤ bound = small 0 in
    let part = part_most (among member) stake in
    let rest = below_from bound (suc member) stakes among (λ place. small (suc place)) in
    product (length stakes) bound (cond (among member) stake 0) (weight_from (suc member) stakes among) (omega arith) rest
  where
    product : (n bound a b : ℕ) → a ≤ bound → b ≤ n * bound → a + b ≤ suc n * bound
    product n bound a b first rest = grind arith

pub weight_below : (bound : ℕ) (stakes members : List ℕ) → ((place : ℕ) → get_or stakes place 0 ≤ bound) → weight stakes members ≤ length stakes * bound
unfolding weight_of
weight_below bound stakes members small = below_from bound 0 stakes (is_among members) small

-- the members from a place on, as the one there and those after it: for a loop from the start of a roll
front_of : (members : List ℕ) (place : ℕ) → place < length members → drop place members ≡ get_or members place 0 ∷ drop (place + 1) members
front_of members place below = rw (add-one, drop-cons members place 0) refl

pub roll_at : (stakes members : List ℕ) (place : ℕ) → place < length members → is_roll stakes (drop place members) ≡ true → FirstOfRoll stakes (get_or members place 0) (drop (place + 1) members)
roll_at stakes members place below roll = first_of_roll stakes (get_or members place 0) (drop (place + 1) members) (ap (is_roll stakes) (sym (front_of members place below)) ∙ roll)

pub adds_at : (stakes members : List ℕ) (place : ℕ) → place < length members → is_roll stakes (drop place members) ≡ true
    → weight stakes (drop place members) ≡ get_or stakes (get_or members place 0) 0 + weight stakes (drop (place + 1) members)
adds_at stakes members place below roll = ap (weight stakes) (front_of members place below) ∙ (roll_at stakes members place below roll).adds

-- stakes are u32s
pub weight_fits : (stakes members : List ℕ) → ((place : ℕ) → get_or stakes place 0 < 4294967296) → weight stakes members ≤ length stakes * 4294967295
weight_fits stakes members small = weight_below 4294967295 stakes members (λ place. let one = small place in omega arith)

-- a roll that is gone through has no weight left
pub none_left : (stakes members : List ℕ) (place so_far : ℕ) → length members ≤ place → so_far + weight stakes (drop place members) ≡ weight stakes members → so_far ≡ weight stakes members
unfolding weight_of
none_left stakes members place so_far end e =
    let empty : drop place members ≡ [] = grind (arith, common_steps) in
    let nothing : weight stakes (drop place members) ≡ 0 = ap (weight stakes) empty ∙ weightless 0 stakes in
    omega arith
  where
    weightless : (member : ℕ) (stakes : List ℕ) → weight_from member stakes (is_among []) ≡ 0
    weightless member [] = refl
    weightless member (stake ∷ stakes) = let rest = weightless (suc member) stakes in omega arith

pub all_taken : (stakes : List ℕ) (place so_far : ℕ) → length stakes ≤ place → so_far ≡ sum (take place stakes) → so_far ≡ total_of stakes
all_taken stakes place so_far end e = e ∙ ap sum (take_all place stakes end) ∙ sym (total_is_sum stakes)
