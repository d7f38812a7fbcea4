-- The causes with the places that were seen are those with the earlier arguments.
use Rattle.std.proofs.Common.{◌≡◌, ℕ, ◌+◌, length, take, arith, append_assoc, length-append, Bool, true, false, not, ◌&&◌, ◌||◌, List, [], ◌∷◌, ◌++◌, map, Option, Some, None, refl, ap, sym, ◌∙◌, cond}
use Rattle.std.specs.Prelude.{◌==◌, option_map}
use Rattle.std.specs.List.{list_any}
use Rattle.std.proofs.lemmas.List.{map-append, take_at}
use Rattle.std.proofs.lemmas.Bool.{and_parts, eqb-true, eq-eqb, ne_eqb}
use Rattle.chain_types.specs.declared.transactions.Argument.{Argument}
use Rattle.chain_types.specs.declared.transactions.Argument.TheVariants as argument
use Rattle.chain_types.specs.declared.transactions.Command.{Command}
use Rattle.chain_types.specs.declared.transactions.Transaction.{Transaction}
use Rattle.protocol_spec.proofs.ListLemmas.{any_last}
use Rattle.protocol_spec.specs.Chain.Words.{first_some, where_true}
use Rattle.protocol_spec.specs.Block.Block as block
use Rattle.protocol_spec.specs.Block.Commands as commands
use Rattle.ptb_run.specs.declared.halt.Cause.{Cause}
use Rattle.ptb_run.specs.declared.halt.Cause.TheVariants as cause
use Rattle.ptb_run.specs.declared.value.Spot.{Spot}
use Rattle.ptb_run.specs.declared.value.Spot.TheVariants as spots
use Rattle.ptb_run.specs.declared.needs.Wanted.{Wanted}
use Rattle.ptb_run.specs.Values.{spot_at, spot_eq, spot_of}
use Rattle.ptb_run.specs.Needs.{need_meant, wanted_of}
use Rattle.ptb_run.specs.Causes.{cause_of, causes_after, causes_at, is_named, is_seen, named_place_cause, named_value_cause, noted, number_of_cause}

lies_at : (a : Argument) → spot_of (spot_at a) ≡ commands.place_of a
lies_at argument.Gas = refl
lies_at (argument.Input n) = refl
lies_at (argument.Result c) = refl
lies_at (argument.Nested c k) = refl

turned : (a b : ℕ) → (a == b) ≡ (b == a)
turned a b = go (a == b) refl
  where
    go : (t : Bool) → (a == b) ≡ t → (a == b) ≡ (b == a)
    go true e = e ∙ sym (eq-eqb b a (sym (eqb-true a b e)))
    go false e = e ∙ sym (ne_eqb b a (λ (s : b ≡ a). let clash = sym e ∙ eq-eqb a b (sym s) in absurd (cc)))

-- the test of the code is that of the definitions, with its two sides swapped
same_test : (p s : Spot) → spot_eq p s ≡ block.place_eq (spot_of s) (spot_of p)
same_test spots.Gas spots.Gas = refl
same_test spots.Gas (spots.Input b) = refl
same_test spots.Gas (spots.Result b j) = refl
same_test (spots.Input a) spots.Gas = refl
same_test (spots.Input a) (spots.Input b) = turned a b
same_test (spots.Input a) (spots.Result b j) = refl
same_test (spots.Result a i) spots.Gas = refl
same_test (spots.Result a i) (spots.Input b) = refl
same_test (spots.Result a i) (spots.Result b j) = ap (λ t. t && (i == j)) (turned a b) ∙ ap (λ t. (b == a) && t) (turned i j)

-- places that pass the test are one
one_place : (p s : Spot) → spot_eq p s ≡ true → p ≡ s
one_place spots.Gas spots.Gas e = refl
one_place spots.Gas (spots.Input b) e = absurd (cc)
one_place spots.Gas (spots.Result b j) e = absurd (cc)
one_place (spots.Input a) spots.Gas e = absurd (cc)
one_place (spots.Input a) (spots.Input b) e = ap (λ (n : ℕ). spots.Input n) (eqb-true a b e)
one_place (spots.Input a) (spots.Result b j) e = absurd (cc)
one_place (spots.Result a i) spots.Gas e = absurd (cc)
one_place (spots.Result a i) (spots.Input b) e = absurd (cc)
one_place (spots.Result a i) (spots.Result b j) e =
    let parts = and_parts (a == b) (i == j) e in
    ap (λ (n : ℕ). spots.Result n i) (eqb-true a b parts.0) ∙ ap (λ (n : ℕ). spots.Result b n) (eqb-true i j parts.1)

or_false : (b : Bool) → b ≡ (b || false)
or_false true = refl
or_false false = refl

-- what was seen, with one more place
one_more : (seen : List Spot) (s p : Spot) → is_seen (noted seen s) p ≡ (is_seen seen p || spot_eq p s)
one_more seen s p = go (is_seen seen s) refl
  where
    met : (b : Bool) → spot_eq p s ≡ b → is_seen seen s ≡ true → is_seen seen p ≡ (is_seen seen p || b)
    met false e is = or_false (is_seen seen p)
    met true e is = let same : is_seen seen p ≡ true = ap (λ (q : Spot). is_seen seen q) (one_place p s e) ∙ is in same ∙ sym (ap (λ t. t || true) same)

    go : (b : Bool) → is_seen seen s ≡ b → is_seen (cond b seen (seen ++ s ∷ [])) p ≡ (is_seen seen p || spot_eq p s)
    go true is = met (spot_eq p s) refl is
    go false is = any_last (λ (other : Spot). spot_eq p other) seen s

-- ---- causes and their numbers

abbrev numbered : Option Cause → Option ℕ
numbered said = option_map number_of_cause said

first_numbered : (x y : Option Cause) → numbered (first_some (x ∷ y ∷ [])) ≡ first_some (numbered x ∷ numbered y ∷ [])
first_numbered (Some k) y = refl
first_numbered None (Some k) = refl
first_numbered None None = refl

one_numbered : (b : Bool) (k : Cause) → numbered (where_true b k) ≡ where_true b (number_of_cause k)
one_numbered true k = refl
one_numbered false k = refl

five_numbered : (a b c d e : Bool)
    → numbered (first_some (where_true a cause.BadPure ∷ where_true b cause.WrongKind ∷ where_true c cause.OnlyLent ∷ where_true d cause.ReadOnly ∷ where_true e cause.Aliased ∷ []))
    ≡ first_some (where_true a 3 ∷ where_true b 4 ∷ where_true c 5 ∷ where_true d 6 ∷ where_true e 7 ∷ [])
five_numbered true b c d e = refl
five_numbered false true c d e = refl
five_numbered false false true d e = refl
five_numbered false false false true e = refl
five_numbered false false false false true = refl
five_numbered false false false false false = refl

value_same : (t : Transaction) (c : Command) (earlier : List Argument) (a : Argument) (need : commands.Need) (v : Option block.Value)
    → numbered (named_place_cause t c (list_any (λ (e : Argument). block.place_eq (commands.place_of e) (commands.place_of a)) earlier) (commands.place_of a) need v) ≡ commands.value_cause t c earlier a need v
unfolding named_value_cause
value_same t c earlier a need None = refl
value_same t c earlier a need (Some value) =
    five_numbered (commands.is_bad_pure need value) (not (commands.is_right_kind need value)) (commands.takes_value need && commands.stays_in_place t c (commands.place_of a)) (commands.changes_value need && commands.is_frozen_place t (commands.place_of a)) (commands.is_aliased earlier a value)

cause_same : (t : Transaction) (b : block.Block) (c : Command) (earlier : List Argument) (w : Wanted)
    → numbered (cause_of t b c (list_any (λ (e : Argument). block.place_eq (commands.place_of e) (commands.place_of w.argument)) earlier) w) ≡ commands.argument_cause t b c earlier w.argument (need_meant w.need)
unfolding cause_of
cause_same t b c earlier w =
    let named = list_any (λ (e : Argument). block.place_eq (commands.place_of e) (commands.place_of w.argument)) earlier in
    let held = block.value_in (commands.place_of w.argument) b.slots in
    let at_value = named_place_cause t c named (commands.place_of w.argument) (need_meant w.need) held in
    first_numbered (where_true (commands.has_no_result b w.argument) cause.NoResult) at_value
    ∙ ap (λ (x : Option ℕ). first_some (x ∷ numbered at_value ∷ [])) (one_numbered (commands.has_no_result b w.argument) cause.NoResult)
    ∙ ap (λ (v : Option ℕ). first_some (where_true (commands.has_no_result b w.argument) 2 ∷ v ∷ [])) (value_same t c earlier w.argument (need_meant w.need) held)

agrees_more : (seen : List Spot) (earlier : List Argument) (a : Argument)
    → ((p : Spot) → is_seen seen p ≡ list_any (λ (e : Argument). block.place_eq (commands.place_of e) (spot_of p)) earlier)
    → (p : Spot) → is_seen (noted seen (spot_at a)) p ≡ list_any (λ (e : Argument). block.place_eq (commands.place_of e) (spot_of p)) (earlier ++ a ∷ [])
agrees_more seen earlier a agrees p =
    one_more seen (spot_at a) p
    ∙ ap (λ t. t || spot_eq p (spot_at a)) (agrees p)
    ∙ ap (λ t. list_any (λ (e : Argument). block.place_eq (commands.place_of e) (spot_of p)) earlier || t) (same_test p (spot_at a) ∙ ap (λ (q : block.Place). block.place_eq q (spot_of p)) (lies_at a))
    ∙ sym (any_last (λ (e : Argument). block.place_eq (commands.place_of e) (spot_of p)) earlier a)

causes_from : (t : Transaction) (b : block.Block) (c : Command) (seen : List Spot) (earlier : List Argument)
    → ((p : Spot) → is_seen seen p ≡ list_any (λ (e : Argument). block.place_eq (commands.place_of e) (spot_of p)) earlier)
    → (wanted : List Wanted) → numbered (causes_after t b c seen wanted) ≡ commands.arguments_cause t b c earlier (map wanted_of wanted)
causes_from t b c seen earlier agrees [] = refl
causes_from t b c seen earlier agrees (w ∷ rest) =
    let named : is_seen seen (spot_at w.argument) ≡ list_any (λ (e : Argument). block.place_eq (commands.place_of e) (commands.place_of w.argument)) earlier
    = agrees (spot_at w.argument) ∙ ap (λ (q : block.Place). list_any (λ (e : Argument). block.place_eq (commands.place_of e) q) earlier) (lies_at w.argument) in
    let own = cause_of t b c (is_seen seen (spot_at w.argument)) w in
    let later = causes_after t b c (noted seen (spot_at w.argument)) rest in
    let first : numbered own ≡ commands.argument_cause t b c earlier w.argument (need_meant w.need)
    = ap (λ (n : Bool). numbered (cause_of t b c n w)) named ∙ cause_same t b c earlier w in
    let others = causes_from t b c (noted seen (spot_at w.argument)) (earlier ++ w.argument ∷ []) (agrees_more seen earlier w.argument agrees) rest in
    first_numbered own later
    ∙ ap (λ (x : Option ℕ). first_some (x ∷ numbered later ∷ [])) first
    ∙ ap (λ (x : Option ℕ). first_some (commands.argument_cause t b c earlier w.argument (need_meant w.need) ∷ x ∷ [])) others

pub causes_are : (t : Transaction) (b : block.Block) (c : Command) (wanted : List Wanted) → option_map number_of_cause (causes_after t b c [] wanted) ≡ commands.arguments_cause t b c [] (map wanted_of wanted)
causes_are t b c wanted = causes_from t b c [] [] (λ p. refl) wanted

argument_of : Wanted → Argument
argument_of w = w.argument

named_same : (earlier : List Wanted) (a : Argument) → is_named earlier (spot_at a) ≡ list_any (λ (e : Argument). block.place_eq (commands.place_of e) (commands.place_of a)) (map argument_of earlier)
unfolding argument_of
named_same [] a = refl
named_same (w ∷ rest) a =
    let own : spot_eq (spot_at a) (spot_at w.argument) ≡ block.place_eq (commands.place_of w.argument) (commands.place_of a)
    = same_test (spot_at a) (spot_at w.argument)
    ∙ ap (λ (q : block.Place). block.place_eq q (spot_of (spot_at a))) (lies_at w.argument)
    ∙ ap (λ (q : block.Place). block.place_eq (commands.place_of w.argument) q) (lies_at a) in
    ap (λ t. t || is_named rest (spot_at a)) own
    ∙ ap (λ t. block.place_eq (commands.place_of w.argument) (commands.place_of a) || t) (named_same rest a)

causes_from_place : (t : Transaction) (b : block.Block) (c : Command) (whole earlier : List Wanted) (place : ℕ) (rest : List Wanted)
    → whole ≡ earlier ++ rest → length earlier ≡ place
    → numbered (causes_at t b c whole place rest) ≡ commands.arguments_cause t b c (map argument_of earlier) (map wanted_of rest)
unfolding argument_of
causes_from_place t b c whole earlier place [] e at = refl
causes_from_place t b c whole earlier place (w ∷ rest) e at =
    let before : take place whole ≡ earlier = ap (λ (l : List Wanted). take place l) e ∙ take_at earlier (w ∷ rest) place at in
    let named : is_named (take place whole) (spot_at w.argument) ≡ list_any (λ (x : Argument). block.place_eq (commands.place_of x) (commands.place_of w.argument)) (map argument_of earlier)
    = ap (λ (l : List Wanted). is_named l (spot_at w.argument)) before ∙ named_same earlier w.argument in
    let own = cause_of t b c (is_named (take place whole) (spot_at w.argument)) w in
    let later = causes_at t b c whole (place + 1) rest in
    let first : numbered own ≡ commands.argument_cause t b c (map argument_of earlier) w.argument (need_meant w.need)
    = ap (λ (n : Bool). numbered (cause_of t b c n w)) named ∙ cause_same t b c (map argument_of earlier) w in
    let count : length (earlier ++ w ∷ []) ≡ place + 1 = let n = length-append earlier (w ∷ []) in omega (arith, n, at) in
    let others = causes_from_place t b c whole (earlier ++ w ∷ []) (place + 1) rest (e ∙ sym (append_assoc earlier (w ∷ []) rest)) count in
    first_numbered own later
    ∙ ap (λ (x : Option ℕ). first_some (x ∷ numbered later ∷ [])) first
    ∙ ap (λ (x : Option ℕ). first_some (commands.argument_cause t b c (map argument_of earlier) w.argument (need_meant w.need) ∷ x ∷ []))
    (others ∙ ap (λ (l : List Argument). commands.arguments_cause t b c l (map wanted_of rest)) (map-append argument_of earlier (w ∷ [])))

-- the arguments one by one, each with those before it, are the arguments
pub few_are : (t : Transaction) (b : block.Block) (c : Command) (wanted : List Wanted) → option_map number_of_cause (causes_at t b c wanted 0 wanted) ≡ commands.arguments_cause t b c [] (map wanted_of wanted)
few_are t b c wanted = causes_from_place t b c wanted [] 0 wanted refl refl
