-- Over a whole journal the votes of one epoch are apart.
use Rattle.std.proofs.Common.{inl, inr, refl, sym, subst, ap, ◌∙◌}
use Rattle.std.proofs.lemmas.Bool.{eqb-true}
use Rattle.std.specs.Prelude.{◌≡◌, ◌⊎◌, ◌≤◌, ◌+◌, ℕ, Bool, true, false, ◌||◌, List, [], ◌∷◌, ◌++◌, find, slice_get, Option, Some, None}
use native.Mathlib.Omega.{arith}
use Rattle.digest_core.specs.declared.Digest.{Digest}
use Rattle.chain_types.specs.Equal.{digest_eq, key_eq}
use Rattle.chain_types.specs.Digests.{transaction_digest, consumed_keys}
use Rattle.chain_types.specs.declared.objects.ObjectKey.{ObjectKey}
use Rattle.chain_types.specs.declared.transactions.Transaction.{Transaction}
use Rattle.journal_core.specs.declared.records.Record.{Record}
use Rattle.journal_core.specs.declared.records.Record.TheVariants as record_as
use Rattle.schedule_text.specs.declared.words.Event.{Event}
use Rattle.protocol_spec.proofs.Equality.{digest_same, digest_self, key_self}
use Rattle.protocol_spec.proofs.ListLemmas.{push_has, has_left, each_has}
use Rattle.protocol_spec.specs.Chain.Words.{Has, Each}
use Rattle.protocol_spec.specs.Chain.Tests.{has_key}
use Rattle.protocol_spec.specs.Chain.Certificates.{Rules}
use Rattle.protocol_spec.specs.Member.Votes.{Cast}
use Rattle.protocol_spec.specs.Member.Member.{Member, ballot, cast_of, after, state}
use Rattle.protocol_spec.specs.Member.Calls.{Call, due}
use Rattle.world_spec.specs.Setting.{Setting}
use Rattle.world_spec.specs.World.{Seat}
use Rattle.world_spec.specs.Run.{world_after}
use Rattle.world_spec.specs.Assumptions.{signed_read}
use Rattle.safety_law.specs.Members.{IsApartFrom}
use Rattle.safety_law.proofs.InWorld.{in_world, each-any}
use Rattle.safety_law.proofs.Apart.{none-found, not-locked, due-free, state-push}

-- ---- elements

either-way : {A : Type 0} (z x y : A) (zs : List A) → Has zs y ⊎ (x ≡ y) → Has (z ∷ zs) y ⊎ (x ≡ y)
either-way z x y zs (inl h) = inl (inr h)
either-way z x y zs (inr e) = inr e

-- an element of a list with one more is one of the list, or that one
pub has-push : {A : Type 0} (xs : List A) (x y : A) → Has (xs ++ x ∷ []) y → Has xs y ⊎ (x ≡ y)
has-push [] x y (inl e) = inr e
has-push [] x y (inr h) = absurd h
has-push (z ∷ zs) x y (inl e) = inl (inl e)
has-push (z ∷ zs) x y (inr h) = either-way z x y zs (has-push zs x y h)

-- ---- tests of equality

pub differ : (a b : Digest) → (a ≡ b → ⊥) → digest_eq a b ≡ false
differ a b other = go (digest_eq a b) refl
  where
    go : (x : Bool) → digest_eq a b ≡ x → digest_eq a b ≡ false
    go false e = e
    go true e = absurd (other (digest_same a b e))

-- what is not found is not among them
not-found : (tx : Digest) (vs : List Cast) (v : Cast) → find (λ (w : Cast). digest_eq w.digest tx) vs ≡ None → Has vs v → v.digest ≡ tx → ⊥
not-found tx [] v e h d = h
not-found tx (w ∷ vs) v e (inl q) d =
    let same = digest_self tx in
    let other = subst (λ (x : Digest). digest_eq x tx ≡ false) (ap (λ (y : Cast). y.digest) q ∙ d) (none-found (λ (y : Cast). digest_eq y.digest tx) w vs e).0 in cc
not-found tx (w ∷ vs) v e (inr h) d = not-found tx vs v (none-found (λ (y : Cast). digest_eq y.digest tx) w vs e).1 h d

pub has-key : (keys : List ObjectKey) (key : ObjectKey) → Has keys key → has_key keys key ≡ true
has-key [] key h = absurd h
has-key (k ∷ keys) key (inl e) = subst (λ (z : ObjectKey). (key_eq key z || has_key keys key) ≡ true) (sym e) (rw (key_self key) refl)
has-key (k ∷ keys) key (inr h) = go (key_eq key k) (has-key keys key h)
  where
    go : (b : Bool) → has_key keys key ≡ true → (b || has_key keys key) ≡ true
    go true e = refl
    go false e = e

-- ---- journals

-- votes are of epochs up to the present one, those of the present one are cast, those of one epoch are apart,
-- and those for one transaction name the same origins
pub record IsOnce (records : List Record) (epoch : ℕ) (votes : List Cast) : Type 0 where
  pub epochs : (t : Transaction) (o : List (Option Digest)) → Has records (record_as.Vote t o) → t.epoch ≤ epoch
  pub cast : (t : Transaction) (o : List (Option Digest)) → Has records (record_as.Vote t o) → t.epoch ≡ epoch → Has votes (cast_of t o)
  pub apart : (t u : Transaction) (o p : List (Option Digest)) → Has records (record_as.Vote t o) → Has records (record_as.Vote u p) → t.epoch ≡ u.epoch
      → (transaction_digest t ≡ transaction_digest u → ⊥) → (key : ObjectKey) → Has (consumed_keys t) key → Has (consumed_keys u) key → ⊥
  pub same : (t u : Transaction) (o p : List (Option Digest)) → Has records (record_as.Vote t o) → Has records (record_as.Vote u p) → t.epoch ≡ u.epoch → transaction_digest t ≡ transaction_digest u → o ≡ p

module _ (records : List Record) (epoch : ℕ) (votes : List Cast) (once : IsOnce records epoch votes) where
  -- another record changes nothing
  old : (x : Record) → ((t : Transaction) (o : List (Option Digest)) → x ≡ record_as.Vote t o → ⊥) → (t : Transaction) (o : List (Option Digest)) → Has (records ++ x ∷ []) (record_as.Vote t o) → Has records (record_as.Vote t o)
  old x none t o h = go (has-push records x (record_as.Vote t o) h)
    where
      go : Has records (record_as.Vote t o) ⊎ (x ≡ record_as.Vote t o) → Has records (record_as.Vote t o)
      go (inl h) = h
      go (inr e) = absurd (none t o e)

  once-other : (x : Record) → ((t : Transaction) (o : List (Option Digest)) → x ≡ record_as.Vote t o → ⊥) → IsOnce (records ++ x ∷ []) epoch votes
  once-other x none = record {
    epochs = λ t o h. once.epochs t o (old x none t o h);
    cast = λ t o h e. once.cast t o (old x none t o h) e;
    apart = λ t u o p h k. once.apart t u o p (old x none t o h) (old x none u p k);
    same = λ t u o p h k. once.same t u o p (old x none t o h) (old x none u p k);
  }

  late : (n : ℕ) → n ≤ epoch → n ≡ epoch + 1 → ⊥
  late n le e = omega arith

  once-turn : ((t : Transaction) (o : List (Option Digest)) → record_as.Turn ≡ record_as.Vote t o → ⊥) → IsOnce (records ++ record_as.Turn ∷ []) (epoch + 1) []
  once-turn none = record {
    epochs = λ t o h. let le = once.epochs t o (old record_as.Turn none t o h) in omega (arith, le);
    cast = λ t o h e. absurd (late t.epoch (once.epochs t o (old record_as.Turn none t o h)) e);
    apart = λ t u o p h k. once.apart t u o p (old record_as.Turn none t o h) (old record_as.Turn none u p k);
    same = λ t u o p h k. once.same t u o p (old record_as.Turn none t o h) (old record_as.Turn none u p k);
  }

  -- a new vote is apart from each
  module _ (tx : Transaction) (origins : List (Option Digest)) (same : tx.epoch ≡ epoch) (free : Each (IsApartFrom (cast_of tx origins)) votes) (new : find (λ (v : Cast). digest_eq v.digest (transaction_digest tx)) votes ≡ None) where
    now : (t : Transaction) (o : List (Option Digest)) → record_as.Vote tx origins ≡ record_as.Vote t o → tx ≡ t
    now t o e = cc

    named : (t : Transaction) (o : List (Option Digest)) → record_as.Vote tx origins ≡ record_as.Vote t o → origins ≡ o
    named t o e = cc

    -- an earlier vote and the new one
    earlier : (t : Transaction) (o : List (Option Digest)) → Has records (record_as.Vote t o) → t.epoch ≡ epoch → (transaction_digest t ≡ transaction_digest tx → ⊥) → (key : ObjectKey) → Has (consumed_keys t) key → Has (consumed_keys tx) key → ⊥
    earlier t o h e other key k l =
        let no = each_has (IsApartFrom (cast_of tx origins)) votes (cast_of t o) free (once.cast t o h e) (differ (transaction_digest t) (transaction_digest tx) other) key l in
        let has = has-key (consumed_keys t) key k in cc

    -- no earlier vote is for its transaction
    unvoted : (t : Transaction) (o : List (Option Digest)) → Has records (record_as.Vote t o) → t.epoch ≡ epoch → transaction_digest t ≡ transaction_digest tx → ⊥
    unvoted t o h e d = not-found (transaction_digest tx) votes (cast_of t o) new (once.cast t o h e) d

    once-vote : IsOnce (records ++ record_as.Vote tx origins ∷ []) epoch (votes ++ cast_of tx origins ∷ [])
    once-vote = record {
      epochs = λ t o h. epochs t o (has-push records (record_as.Vote tx origins) (record_as.Vote t o) h);
      cast = λ t o h e. cast t o e (has-push records (record_as.Vote tx origins) (record_as.Vote t o) h);
      apart = λ t u o p h k. apart t u o p (has-push records (record_as.Vote tx origins) (record_as.Vote t o) h) (has-push records (record_as.Vote tx origins) (record_as.Vote u p) k);
      same = λ t u o p h k. alike t u o p (has-push records (record_as.Vote tx origins) (record_as.Vote t o) h) (has-push records (record_as.Vote tx origins) (record_as.Vote u p) k);
    }
      where
        epochs : (t : Transaction) (o : List (Option Digest)) → Has records (record_as.Vote t o) ⊎ (record_as.Vote tx origins ≡ record_as.Vote t o) → t.epoch ≤ epoch
        epochs t o (inl h) = once.epochs t o h
        epochs t o (inr e) = subst (λ (y : Transaction). y.epoch ≤ epoch) (now t o e) (omega (arith, same))

        cast : (t : Transaction) (o : List (Option Digest)) → t.epoch ≡ epoch → Has records (record_as.Vote t o) ⊎ (record_as.Vote tx origins ≡ record_as.Vote t o) → Has (votes ++ cast_of tx origins ∷ []) (cast_of t o)
        cast t o e (inl h) = has_left votes (cast_of tx origins ∷ []) (cast_of t o) (once.cast t o h e)
        cast t o e (inr q) = subst (λ (y : Transaction). Has (votes ++ cast_of tx origins ∷ []) (cast_of y o)) (now t o q)
            (subst (λ (os : List (Option Digest)). Has (votes ++ cast_of tx origins ∷ []) (cast_of tx os)) (named t o q) (push_has votes (cast_of tx origins)))

        apart : (t u : Transaction) (o p : List (Option Digest)) → Has records (record_as.Vote t o) ⊎ (record_as.Vote tx origins ≡ record_as.Vote t o) → Has records (record_as.Vote u p) ⊎ (record_as.Vote tx origins ≡ record_as.Vote u p)
            → t.epoch ≡ u.epoch → (transaction_digest t ≡ transaction_digest u → ⊥) → (key : ObjectKey) → Has (consumed_keys t) key → Has (consumed_keys u) key → ⊥
        apart t u o p (inl h) (inl k) e other key a b = once.apart t u o p h k e other key a b
        apart t u o p (inl h) (inr q) e other key a b =
            earlier t o h (e ∙ sym (ap (λ (y : Transaction). y.epoch) (now u p q)) ∙ same)
            (λ d. other (d ∙ ap transaction_digest (now u p q))) key a (subst (λ (y : Transaction). Has (consumed_keys y) key) (sym (now u p q)) b)
        apart t u o p (inr q) (inl k) e other key a b =
            earlier u p k (sym e ∙ sym (ap (λ (y : Transaction). y.epoch) (now t o q)) ∙ same)
            (λ d. other (sym (d ∙ ap transaction_digest (now t o q)))) key b (subst (λ (y : Transaction). Has (consumed_keys y) key) (sym (now t o q)) a)
        apart t u o p (inr q) (inr z) e other key a b = other (sym (ap transaction_digest (now t o q)) ∙ ap transaction_digest (now u p z))

        alike : (t u : Transaction) (o p : List (Option Digest)) → Has records (record_as.Vote t o) ⊎ (record_as.Vote tx origins ≡ record_as.Vote t o) → Has records (record_as.Vote u p) ⊎ (record_as.Vote tx origins ≡ record_as.Vote u p)
            → t.epoch ≡ u.epoch → transaction_digest t ≡ transaction_digest u → o ≡ p
        alike t u o p (inl h) (inl k) e d = once.same t u o p h k e d
        alike t u o p (inl h) (inr q) e d = absurd (unvoted t o h (e ∙ sym (ap (λ (y : Transaction). y.epoch) (now u p q)) ∙ same) (d ∙ sym (ap transaction_digest (now u p q))))
        alike t u o p (inr q) (inl k) e d = absurd (unvoted u p k (sym e ∙ sym (ap (λ (y : Transaction). y.epoch) (now t o q)) ∙ same) (sym d ∙ sym (ap transaction_digest (now t o q))))
        alike t u o p (inr q) (inr z) e d = sym (named t o q) ∙ named u p z

once-after : (r : Rules) (m : Member) (records : List Record) (call : Call) (x : Record) → due r m call ≡ Some x → IsOnce records m.epoch m.votes → IsOnce (records ++ x ∷ []) (after r m x).epoch (after r m x).votes
unfolding after
once-after r m records call (record_as.Vote tx origins) d once =
    let cast = due-free (λ _. Unit {0}) r m tx origins call (each-any (signed_read r call)) d in
    once-vote records m.epoch m.votes once tx origins (eqb-true tx.epoch m.epoch cast.epoch) (not-locked (ballot m) tx origins cast.free) cast.new
once-after r m records call (record_as.Hold c) d once = once-other records m.epoch m.votes once (record_as.Hold c) (λ t o e. cc)
once-after r m records call (record_as.See bytes) d once = once-other records m.epoch m.votes once (record_as.See bytes) (λ t o e. cc)
once-after r m records call record_as.Close d once = once-other records m.epoch m.votes once record_as.Close (λ t o e. cc)
once-after r m records call (record_as.Ran txs) d once = once-other records m.epoch m.votes once (record_as.Ran txs) (λ t o e. cc)
once-after r m records call record_as.Turn d once = once-turn records m.epoch m.votes once (λ t o e. cc)
once-after r m records call (record_as.Ran2 items) d once = once-other records m.epoch m.votes once (record_as.Ran2 items) (λ t o e. cc)

none-yet : (epoch : ℕ) (votes : List Cast) → IsOnce [] epoch votes
none-yet epoch votes = record { epochs = λ t o h. absurd h; cast = λ t o h. absurd h; apart = λ t u o p h. absurd h; same = λ t u o p h. absurd h }

pub journal-once : (s : Setting) (events : List Event) (m : ℕ) (seat : Seat) → slice_get (world_after s events).seats m ≡ Some seat
    → IsOnce seat.records (state s.rules s.opening seat.records).epoch (state s.rules s.opening seat.records).votes
journal-once s events m seat e =
    in_world s (λ records. IsOnce records (state s.rules s.opening records).epoch (state s.rules s.opening records).votes)
    (λ records call x d once. subst (λ (n : Member). IsOnce (records ++ x ∷ []) n.epoch n.votes) (sym (state-push s.rules s.opening records x)) (once-after s.rules (state s.rules s.opening records) records call x d once))
    (none-yet (state s.rules s.opening []).epoch (state s.rules s.opening []).votes) events m seat e

pub voted-once : (s : Setting) (events : List Event) (m : ℕ) (seat : Seat) → slice_get (world_after s events).seats m ≡ Some seat
    → (t u : Transaction) (o p : List (Option Digest)) → Has seat.records (record_as.Vote t o) → Has seat.records (record_as.Vote u p) → t.epoch ≡ u.epoch
    → (transaction_digest t ≡ transaction_digest u → ⊥) → (key : ObjectKey) → Has (consumed_keys t) key → Has (consumed_keys u) key → ⊥
voted-once s events m seat e = (journal-once s events m seat e).apart

pub voted-alike : (s : Setting) (events : List Event) (m : ℕ) (seat : Seat) → slice_get (world_after s events).seats m ≡ Some seat
    → (t u : Transaction) (o p : List (Option Digest)) → Has seat.records (record_as.Vote t o) → Has seat.records (record_as.Vote u p) → t.epoch ≡ u.epoch
    → transaction_digest t ≡ transaction_digest u → o ≡ p
voted-alike s events m seat e = (journal-once s events m seat e).same
