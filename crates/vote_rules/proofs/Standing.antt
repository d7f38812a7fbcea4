-- The locks stand for the votes, also after one more vote.
use Rattle.std.proofs.Common.{◌≡◌, Bool, true, false, cond, ◌&&◌, ◌||◌, not, List, [], ◌∷◌, ◌++◌, Option, Some, None, refl, ap, sym, ◌∙◌, option_map, inl, inr}
use Rattle.std.specs.Prelude.{find}
use Rattle.std.specs.Option.{option_or}
use Rattle.std.proofs.lemmas.List.Folds.{find-append}
use Rattle.indexmap.specs.IndexMap.{insert_entry}
use Rattle.digest_core.specs.declared.Digest.{Digest}
use Rattle.chain_types.specs.declared.objects.ObjectKey.{ObjectKey}
use Rattle.chain_types.specs.declared.refusals.DecideRefusal.TheVariants as refused
use Rattle.chain_types.specs.Equal.{digest_eq, key_eq}
use Rattle.protocol_spec.proofs.Equality.{key_same}
use Rattle.protocol_spec.proofs.Truth.{or_false}
use Rattle.protocol_spec.specs.Chain.Words.{first_of, first_some}
use Rattle.protocol_spec.specs.Chain.Tests.{has_key}
use Rattle.lock_table.specs.Locks.{Locks, locked_by, or_other, other_lock, unless_own, with_locks}
use Rattle.lock_table.proofs.Locking.{Among, IsFree, all_locked, free_from, put_other}
use Rattle.protocol_spec.specs.Member.Votes.{Cast, is_lock, locked}
use Rattle.vote_rules.specs.Decide.{StandFor}

-- ---- keys that are locked, and keys that are not

among : (keys : List ObjectKey) (q : ObjectKey) → has_key keys q ≡ true → Among q keys
among [] q h = absurd (cc)
among (k ∷ ks) q h = by (key_eq q k) refl h (among ks q)
  where
    by : (b : Bool) → key_eq q k ≡ b → (b || has_key ks q) ≡ true → (has_key ks q ≡ true → Among q ks) → Among q (k ∷ ks)
    by true is h more = inl (key_same q k is)
    by false is h more = inr (more h)

-- the lock of a key that is not among the keys stays
untouched : (keys : List ObjectKey) (locks : Locks) (tx : Digest) (q : ObjectKey) → has_key keys q ≡ false → locked_by (with_locks locks keys tx) q ≡ locked_by locks q
untouched [] locks tx q h = refl
untouched (k ∷ ks) locks tx q h =
    let p : (key_eq q k ≡ false) × (has_key ks q ≡ false) = or_false (key_eq q k) (has_key ks q) h in
    untouched ks (insert_entry key_eq locks k tx) tx q p.1 ∙ put_other locks k tx q p.0

-- ---- votes that leave the keys free

last_none : {A : Type 0} → (o : Option A) → first_some (o ∷ []) ≡ None → o ≡ None
last_none None h = refl
last_none (Some x) h = absurd (cc)

-- if no vote for another transaction consumes one of the keys, no other transaction holds one
pub no_other : (locks : Locks) (votes : List Cast) (tx : Digest) (keys : List ObjectKey) → StandFor locks votes → first_of (locked votes tx) keys ≡ None → other_lock locks tx keys ≡ None
no_other locks votes tx [] stand free = refl
no_other locks votes tx (k ∷ ks) stand free = by (find (is_lock tx k) votes) (stand tx k) free (no_other locks votes tx ks stand)
  where
    by : (o : Option Cast) → unless_own k tx (locked_by locks k) ≡ option_map (λ (v : Cast). (k, v.digest)) o
        → first_some (option_map (λ (v : Cast). refused.Locked k v.digest) o ∷ first_of (locked votes tx) ks ∷ []) ≡ None
        → (first_of (locked votes tx) ks ≡ None → other_lock locks tx ks ≡ None)
        → or_other (unless_own k tx (locked_by locks k)) (other_lock locks tx ks) ≡ None
    by None is free more = ap (λ o. or_other o (other_lock locks tx ks)) is ∙ more (last_none (first_of (locked votes tx) ks) free)
    by (Some v) is free more = absurd (cc)

-- ---- one more vote

module _ (locks : Locks) (votes : List Cast) (v : Cast) (stand : StandFor locks votes) (free : first_of (locked votes v.digest) v.consumed ≡ None) (tx : Digest) (key : ObjectKey) where
  abbrev told : Cast → ObjectKey × Digest
  told w = (key, w.digest)

  abbrev before : Option (ObjectKey × Digest)
  before = unless_own key tx (locked_by locks key)

  -- what the new vote adds, if it consumes the key or not
  abbrev added : Bool → Option (ObjectKey × Digest)
  added b = cond (not (digest_eq v.digest tx) && b) (Some (told v)) None

  mapped : (o : Option Cast) (b : Bool) → option_map told (option_or o (cond b (Some v) None)) ≡ option_or (option_map told o) (cond b (Some (told v)) None)
  mapped (Some w) b = refl
  mapped None true = refl
  mapped None false = refl

  by_votes : option_map told (find (is_lock tx key) (votes ++ v ∷ [])) ≡ option_or before (added (has_key v.consumed key))
  by_votes =
      ap (option_map told) (find-append (is_lock tx key) votes (v ∷ []))
      ∙ mapped (find (is_lock tx key) votes) (is_lock tx key v)
      ∙ ap (λ o. option_or o (added (has_key v.consumed key))) (sym (stand tx key))

  nothing : (o : Option (ObjectKey × Digest)) (b : Bool) → o ≡ option_or o (cond (b && false) (Some (told v)) None)
  nothing None true = refl
  nothing None false = refl
  nothing (Some l) b = refl

  -- the key was free, or the transaction's own
  own : (o : Option Digest) → ((by : Digest) → o ≡ Some by → by ≡ v.digest) → unless_own key tx (Some v.digest) ≡ option_or (unless_own key tx o) (added true)
  own None is = at (digest_eq v.digest tx)
    where
      at : (b : Bool) → cond b None (Some (told v)) ≡ cond (not b && true) (Some (told v)) None
      at true = refl
      at false = refl
  own (Some by) is = at (digest_eq v.digest tx) ∙ sym (ap (λ d. option_or (unless_own key tx (Some d)) (added true)) (is by refl))
    where
      at : (b : Bool) → cond b None (Some (told v)) ≡ option_or (cond b None (Some (told v))) (cond (not b && true) (Some (told v)) None)
      at true = refl
      at false = refl

  by_locks : (b : Bool) → has_key v.consumed key ≡ b → unless_own key tx (locked_by (with_locks locks v.consumed v.digest) key) ≡ option_or before (added b)
  by_locks true is =
      let mine : IsFree locks v.consumed v.digest = free_from v.consumed locks v.digest (no_other locks votes v.digest v.consumed stand free) in
      ap (unless_own key tx) (all_locked v.consumed locks v.digest key mine (among v.consumed key is))
      ∙ own (locked_by locks key) (mine key (among v.consumed key is))
  by_locks false is = ap (unless_own key tx) (untouched v.consumed locks v.digest key is) ∙ nothing before (not (digest_eq v.digest tx))

  one_more : unless_own key tx (locked_by (with_locks locks v.consumed v.digest) key) ≡ option_map told (find (is_lock tx key) (votes ++ v ∷ []))
  one_more = by_locks (has_key v.consumed key) refl ∙ sym by_votes

-- the locks stand for the votes after one more, whose keys no vote for another transaction consumes
pub stands : (locks : Locks) (votes : List Cast) (v : Cast) → StandFor locks votes → first_of (locked votes v.digest) v.consumed ≡ None → StandFor (with_locks locks v.consumed v.digest) (votes ++ v ∷ [])
stands locks votes v stand free tx key = one_more locks votes v stand free tx key
