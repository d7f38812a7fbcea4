-- What can become ready. A certificate waits for the transactions that made what it needs; once all of them
-- are executed, it is ready at once or never.
use Rattle.std.proofs.Common.{◌≡◌, Bool, true, false, cond, not, ◌&&◌, ◌||◌, List, [], ◌∷◌, ◌++◌, map, Some, None, is_some, refl, ap, ◌∙◌, option_map}
use Rattle.std.specs.Prelude.{find, flat_map}
use Rattle.std.specs.List.{list_any}
use Rattle.digest_core.specs.declared.Digest.{Digest}
use Rattle.chain_types.specs.declared.objects.Object.{Object}
use Rattle.chain_types.specs.declared.objects.ObjectKey.{ObjectKey}
use Rattle.chain_types.specs.declared.objects.Producer.{Producer}
use Rattle.chain_types.specs.declared.objects.Producer.TheVariants as producers
use Rattle.chain_types.specs.Equal.{digest_eq, key_eq}
use Rattle.protocol_spec.specs.Chain.Words.{repeats}
use Rattle.protocol_spec.specs.Chain.Tests.{producer_eq}
use Rattle.protocol_spec.specs.Chain.Keys.{object_key}
use Rattle.protocol_spec.specs.Member.Versions.{Execution, is_executed, object_in, opened, versions, written, written_by}
use Rattle.protocol_spec.specs.Member.Rounds.{found, holds_key, is_wanted, writes_new}
use Rattle.exec_plan.specs.Written.{writes}
use Rattle.exec_plan.proofs.Following.{holds_join}

-- ---- searches

pub find_none : {A : Type 0} (test : A → Bool) (xs ys : List A) → find test ys ≡ None → find test (xs ++ ys) ≡ find test xs
find_none test [] ys none = none
find_none test (x ∷ xs) ys none = go (test x) (find_none test xs ys none)
  where
    go : (b : Bool) → find test (xs ++ ys) ≡ find test xs → cond b (Some x) (find test (xs ++ ys)) ≡ cond b (Some x) (find test xs)
    go true more = refl
    go false more = ap (λ o. o) more

and_false : (a : Bool) → (a && false) ≡ false
and_false true = refl
and_false false = refl

-- ---- which transaction made what a transaction wrote

-- a transaction wrote nothing that another made
pub not_by : (key : ObjectKey) (p : Producer) (tx : Digest) (objects : List Object) → producer_eq (producers.Tx tx) p ≡ false → find (is_wanted key (Some p)) (map (written tx) objects) ≡ None
not_by key p tx [] other = refl
not_by key p tx (o ∷ os) other =
    ap (λ b. cond b (Some (written tx o)) (find (is_wanted key (Some p)) (map (written tx) os))) (ap (λ b. key_eq (object_key o) key && b) other ∙ and_false (key_eq (object_key o) key))
    ∙ not_by key p tx os other

-- none of these transactions is the maker
abbrev pub AreOthers : Producer → List Execution → Type 0
AreOthers p [] = Unit {0}
AreOthers p (x ∷ xs) = (producer_eq (producers.Tx x.digest) p ≡ false) × AreOthers p xs

pub none_by : (key : ObjectKey) (p : Producer) (xs : List Execution) → AreOthers p xs → find (is_wanted key (Some p)) (flat_map written_by xs) ≡ None
none_by key p [] others = refl
none_by key p (x ∷ xs) others =
    find_none (is_wanted key (Some p)) (written_by x) (flat_map written_by xs) (none_by key p xs others.1)
    ∙ not_by key p x.digest x.gave.objects others.0

-- one that was not executed is none of those that were
pub not_among : (tx : Digest) (xs : List Execution) → is_executed xs tx ≡ false → AreOthers (producers.Tx tx) xs
not_among tx [] none = tt
not_among tx (x ∷ xs) none = go (digest_eq x.digest tx) refl none (λ rest. not_among tx xs rest)
  where
    go : (b : Bool) → digest_eq x.digest tx ≡ b → is_some (cond b (Some x) (find (λ (y : Execution). digest_eq y.digest tx) xs)) ≡ false → (is_executed xs tx ≡ false → AreOthers (producers.Tx tx) xs)
        → AreOthers (producers.Tx tx) (x ∷ xs)
    go true is none rest = absurd (cc)
    go false is none rest = (is, rest none)

-- an opening object is nobody's
pub not_opened : (key : ObjectKey) (tx : Digest) (objects : List Object) → find (is_wanted key (Some (producers.Tx tx))) (map opened objects) ≡ None
not_opened key tx [] = refl
not_opened key tx (o ∷ os) =
    ap (λ b. cond b (Some (opened o)) (find (is_wanted key (Some (producers.Tx tx))) (map opened os))) (and_false (key_eq (object_key o) key))
    ∙ not_opened key tx os

-- what a transaction makes is not there before it is executed
pub not_made : (opening : List Object) (executed : List Execution) (key : ObjectKey) (tx : Digest) → is_executed executed tx ≡ false
    → found (versions opening executed) (record { key = key; producer = Some (producers.Tx tx) }) ≡ None
unfolding versions
not_made opening executed key tx none =
    ap (option_map object_in)
    (find_none (is_wanted key (Some (producers.Tx tx))) (map opened opening) (flat_map written_by executed) (none_by key (producers.Tx tx) executed (not_among tx executed none))
    ∙ not_opened key tx opening)

-- ---- what is written, after more executions

still_held : (opening : List Object) (before more : List Execution) (keys : List ObjectKey) → list_any (holds_key (versions opening before)) keys ≡ true → list_any (holds_key (versions opening (before ++ more))) keys ≡ true
still_held opening before more [] held = absurd (cc)
still_held opening before more (k ∷ ks) held = go (holds_key (versions opening before) k) (holds_join opening before more k) held (still_held opening before more ks)
  where
    go : (b : Bool) → holds_key (versions opening (before ++ more)) k ≡ (b || writes more k) → (b || list_any (holds_key (versions opening before)) ks) ≡ true
        → (list_any (holds_key (versions opening before)) ks ≡ true → list_any (holds_key (versions opening (before ++ more))) ks ≡ true)
        → (holds_key (versions opening (before ++ more)) k || list_any (holds_key (versions opening (before ++ more))) ks) ≡ true
    go true is held rest = ap (λ c. c || list_any (holds_key (versions opening (before ++ more))) ks) is
    go false is held rest = any_of (holds_key (versions opening (before ++ more)) k) (rest held)
      where
        any_of : (c : Bool) → list_any (holds_key (versions opening (before ++ more))) ks ≡ true → (c || list_any (holds_key (versions opening (before ++ more))) ks) ≡ true
        any_of true e = refl
        any_of false e = e

-- what is not new is not new after more executions
pub never_new : (opening : List Object) (before more : List Execution) (keys : List ObjectKey) → writes_new (versions opening before) keys ≡ false → writes_new (versions opening (before ++ more)) keys ≡ false
never_new opening before more keys old = go (list_any (holds_key (versions opening before)) keys) refl (repeats key_eq keys) old
  where
    go : (h : Bool) → list_any (holds_key (versions opening before)) keys ≡ h → (r : Bool) → (not h && not r) ≡ false → (not (list_any (holds_key (versions opening (before ++ more))) keys) && not r) ≡ false
    go true is r old = ap (λ b. not b && not r) (still_held opening before more keys is)
    go false is true old = and_false (not (list_any (holds_key (versions opening (before ++ more))) keys))
    go false is false old = absurd (cc)
