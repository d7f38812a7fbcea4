-- The members of a round, one after the other, can each be executed after those before it.
use Rattle.std.proofs.Common.{◌≡◌, Bool, true, false, cond, not, ◌||◌, List, [], ◌∷◌, ◌++◌, map, Some, is_some, refl, ap, ◌∙◌}
use Rattle.std.specs.Prelude.{find, flat_map}
use Rattle.std.specs.List.{list_any}
use Rattle.digest_core.specs.declared.Digest.{Digest}
use Rattle.chain_types.specs.declared.objects.Object.{Object}
use Rattle.chain_types.specs.declared.objects.ObjectKey.{ObjectKey}
use Rattle.protocol_spec.specs.declared.answers.Held.{Held}
use Rattle.chain_types.specs.Equal.{digest_eq, key_eq}
use Rattle.protocol_spec.proofs.Equality.{key_same, test_turned, key_self}
use Rattle.protocol_spec.proofs.Executions.{versions_more}
use Rattle.protocol_spec.specs.Chain.Words.{Each, repeats}
use Rattle.protocol_spec.specs.Chain.Tests.{has_key}
use Rattle.protocol_spec.specs.Chain.Keys.{object_key}
use Rattle.protocol_spec.proofs.ListLemmas.{and-first, and-second, not-true}
use Rattle.protocol_spec.proofs.Truth.{both_true, or_false_left, or_false_right}
use Rattle.protocol_spec.specs.Block.Execution.{written_keys}
use Rattle.protocol_spec.specs.Member.Versions.{Execution, Version, is_executed, versions, written, written_by}
use Rattle.protocol_spec.specs.Member.Rounds.{holds_key, writes_new}
use Rattle.version_store.proofs.Based.{any_both}
use Rattle.exec_plan.specs.Written.{writes}

-- ---- tests of lists that are joined

pub executed_join : (xs ys : List Execution) (tx : Digest) → is_executed (xs ++ ys) tx ≡ (is_executed xs tx || is_executed ys tx)
executed_join [] ys tx = refl
executed_join (x ∷ xs) ys tx = go (digest_eq x.digest tx) (executed_join xs ys tx)
  where
    go : (b : Bool) → is_executed (xs ++ ys) tx ≡ (is_executed xs tx || is_executed ys tx)
        → is_some (cond b (Some x) (find (λ (y : Execution). digest_eq y.digest tx) (xs ++ ys))) ≡ (is_some (cond b (Some x) (find (λ (y : Execution). digest_eq y.digest tx) xs)) || is_executed ys tx)
    go true more = refl
    go false more = more

both_false : (a b : Bool) → a ≡ false → b ≡ false → (a || b) ≡ false
both_false a b p q = ap (λ c. c || b) p ∙ q

-- ---- versions after more executions

-- the objects of an execution are held if it writes them
holds_objects : (tx : Digest) (objects : List Object) (key : ObjectKey) → holds_key (map (written tx) objects) key ≡ has_key (map object_key objects) key
holds_objects tx [] key = refl
holds_objects tx (o ∷ os) key = ap (λ b. b || holds_key (map (written tx) os) key) (test_turned key_eq key_same key_self (object_key o) key) ∙ ap (λ b. key_eq key (object_key o) || b) (holds_objects tx os key)

pub holds_written : (round : List Execution) (key : ObjectKey) → holds_key (flat_map written_by round) key ≡ writes round key
holds_written [] key = refl
holds_written (x ∷ xs) key =
    any_both (λ (v : Version). key_eq (object_key v.object) key) (written_by x) (flat_map written_by xs)
    ∙ ap (λ b. b || holds_key (flat_map written_by xs) key) (holds_objects x.digest x.gave.objects key)
    ∙ ap (λ b. has_key (written_keys x.gave) key || b) (holds_written xs key)

pub holds_join : (opening : List Object) (before more : List Execution) (key : ObjectKey) → holds_key (versions opening (before ++ more)) key ≡ (holds_key (versions opening before) key || writes more key)
holds_join opening before more key =
    ap (λ vs. holds_key vs key) (versions_more opening before more)
    ∙ any_both (λ (v : Version). key_eq (object_key v.object) key) (versions opening before) (flat_map written_by more)
    ∙ ap (λ b. holds_key (versions opening before) key || b) (holds_written more key)

-- keys that are neither held nor written by the round are held nowhere after it
none_held : (opening : List Object) (before more : List Execution) (keys : List ObjectKey) → list_any (holds_key (versions opening before)) keys ≡ false → list_any (writes more) keys ≡ false
    → list_any (holds_key (versions opening (before ++ more))) keys ≡ false
none_held opening before more [] p q = refl
none_held opening before more (k ∷ ks) p q =
    both_false (holds_key (versions opening (before ++ more)) k) (list_any (holds_key (versions opening (before ++ more))) ks)
    (holds_join opening before more k ∙ both_false (holds_key (versions opening before) k) (writes more k) (or_false_left (holds_key (versions opening before) k) (list_any (holds_key (versions opening before)) ks) p) (or_false_left (writes more k) (list_any (writes more) ks) q))
    (none_held opening before more ks (or_false_right (holds_key (versions opening before) k) (list_any (holds_key (versions opening before)) ks) p) (or_false_right (writes more k) (list_any (writes more) ks) q))

-- what is new is still new after a round that writes none of it
pub still_new : (opening : List Object) (before more : List Execution) (keys : List ObjectKey) → writes_new (versions opening before) keys ≡ true → list_any (writes more) keys ≡ false
    → writes_new (versions opening (before ++ more)) keys ≡ true
still_new opening before more keys new none =
    both_true (not (list_any (holds_key (versions opening (before ++ more))) keys)) (not (repeats key_eq keys))
    (ap not (none_held opening before more keys (not-true (list_any (holds_key (versions opening before)) keys) (and-first (not (list_any (holds_key (versions opening before)) keys)) (not (repeats key_eq keys)) new)) none))
    (and-second (not (list_any (holds_key (versions opening before)) keys)) (not (repeats key_eq keys)) new)

pub none_out : (hs : List Held) → Each (λ (h : Held). is_executed [] h.digest ≡ false) hs
none_out [] = tt
none_out (h ∷ hs) = (refl, none_out hs)
