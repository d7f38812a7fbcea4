-- If a `final` line says that a transaction is final, the members of the line acknowledged one effects digest of it.
use Rattle.std.proofs.Common.{inl, inr, refl, sym, subst, ap, ◌∙◌}
use Rattle.std.proofs.lemmas.Bool.{eqb-true}
use Rattle.std.specs.Prelude.{◌≡◌, ℕ, Bool, true, false, not, ◌&&◌, ◌==◌, List, [], ◌∷◌, Option, Some, None}
use Rattle.digest_core.specs.declared.Digest.{Digest}
use Rattle.chain_types.specs.Equal.{digest_eq}
use Rattle.chain_messages.specs.declared.messages.Statement.{Statement}
use Rattle.chain_messages.specs.declared.messages.Statement.TheVariants as statement
use Rattle.schedule_text.specs.declared.words.Event.TheVariants as event
use Rattle.report_text.specs.declared.lines.Line.TheVariants as line
use Rattle.report_text.specs.declared.lines.FinalText.{FinalText}
use Rattle.report_text.specs.declared.lines.FinalText.TheVariants as final_text
use Rattle.protocol_spec.proofs.Equality.{digest_same}
use Rattle.protocol_spec.specs.Chain.Collecting.{Collected, lacks, short, differ, whole, collected, differ_from, differs_among, lacks_where, too_short, whole_or}
use Rattle.protocol_spec.specs.Chain.Words.{Has, first_of, first_some, where_true}
use Rattle.protocol_spec.specs.Chain.Committee.{is_quorum, is_roll, total_of, weight}
use Rattle.protocol_spec.proofs.ListLemmas.{and-first, and-second}
use Rattle.protocol_spec.proofs.Truth.{where_not_true, some_same}
use Rattle.protocol_spec.specs.Member.Checkpoints.{zero_digest}
use Rattle.world_spec.specs.Setting.{Name, Setting}
use Rattle.world_spec.specs.Names.{made_named}
use Rattle.world_spec.specs.World.{Made, World}
use Rattle.world_spec.specs.Step.{ack_in, last_said}
use Rattle.world_spec.specs.Report.{acks_collected, final_collected, final_lines, lines_of, lines_over}
use Rattle.safety_law.proofs.Apart.{none-of}
use Rattle.safety_law.proofs.Steps.{last-said}
use Rattle.safety_law.proofs.Totals.{each-all}
use Rattle.safety_law.proofs.Lists.{first-says}
use Rattle.headline_law.specs.Printed.{IsFinalHere, final_by}
use Rattle.world_spec.specs.Assumptions.{HasSaid}

-- ---- what collecting the whole says

-- what each member said last, as a number of a list has it
module _ (stakes : List ℕ) (reads : ℕ → Option Digest) where
  -- no cause is the whole
  abbrev IsCause : Option Collected → Type 0
  IsCause o = o ≡ Some whole → ⊥

  where-cause : (b : Bool) (c : Collected) → (c ≡ whole → ⊥) → IsCause (where_true b c)
  where-cause true c other e = other (some_same c whole e)
  where-cause false c other e = cc

  lacks-cause : (m : ℕ) (o : Option Digest) → IsCause (lacks_where m o)
  lacks-cause m None e = cc
  lacks-cause m (Some x) e = cc

  differ-cause : (a m : ℕ) (x y : Option Digest) → IsCause (differ_from digest_eq a x m y)
  differ-cause a m None y e = cc
  differ-cause a m (Some x) None e = cc
  differ-cause a m (Some x) (Some y) e = where-cause (not (digest_eq x y)) (differ a m) (λ q. cc) e

  first-cause : {A : Type 0} (says : A → Option Collected) (xs : List A) → ((x : A) → IsCause (says x)) → IsCause (first_of says xs)
  first-cause says xs each e = let x = first-says says xs whole e in each x.0 x.2

  differs-cause : (ms : List ℕ) → IsCause (differs_among digest_eq reads ms)
  differs-cause [] e = cc
  differs-cause (a ∷ ms) e = first-cause (λ b. differ_from digest_eq a (reads a) b (reads b)) ms (λ b. differ-cause a b (reads a) (reads b)) e

  -- if the whole is collected, no cause applies
  record IsFree (ms : List ℕ) : Type 0 where
    none_lacks : first_of (λ m. lacks_where m (reads m)) ms ≡ None
    enough : too_short stakes ms ≡ None
    none_differs : differs_among digest_eq reads ms ≡ None

  whole-free : (ms : List ℕ) → collected digest_eq stakes reads ms ≡ whole → IsFree ms
  whole-free ms e = go (first_of (λ m. lacks_where m (reads m)) ms) refl (too_short stakes ms) refl (differs_among digest_eq reads ms) refl e
    where
      go : (a : Option Collected) → first_of (λ m. lacks_where m (reads m)) ms ≡ a → (b : Option Collected) → too_short stakes ms ≡ b → (c : Option Collected) → differs_among digest_eq reads ms ≡ c
          → whole_or (first_some (a ∷ b ∷ c ∷ [])) ≡ whole → IsFree ms
      go (Some x) p b q c r e = absurd (first-cause (λ m. lacks_where m (reads m)) ms (λ m. lacks-cause m (reads m)) (p ∙ ap (λ (y : Collected). Some y) e))
      go None p (Some x) q c r e = absurd (where-cause (not (is_quorum stakes (weight stakes ms))) (short (weight stakes ms) (total_of stakes)) (λ k. cc) (q ∙ ap (λ (y : Collected). Some y) e))
      go None p None q (Some x) r e = absurd (differs-cause ms (r ∙ ap (λ (y : Collected). Some y) e))
      go None p None q None r e = record { none_lacks = p; enough = q; none_differs = r }

  free-quorum : (ms : List ℕ) → IsFree ms → is_quorum stakes (weight stakes ms) ≡ true
  free-quorum ms free = where_not_true (is_quorum stakes (weight stakes ms)) (short (weight stakes ms) (total_of stakes)) free.enough

  read-of : (m : ℕ) (o : Option Digest) → lacks_where m o ≡ None → (x : Digest) × (o ≡ Some x)
  read-of m None e = absurd (cc)
  read-of m (Some x) e = (x, refl)

  same-read : (a m : ℕ) (o p : Option Digest) (x y : Digest) → o ≡ Some x → p ≡ Some y → differ_from digest_eq a o m p ≡ None → x ≡ y
  same-read a m None p x y eo ep e = absurd (cc)
  same-read a m (Some u) None x y eo ep e = absurd (cc)
  same-read a m (Some u) (Some v) x y eo ep e = sym (some_same u x eo) ∙ (digest_same u v (where_not_true (digest_eq u v) (differ a m) e) ∙ some_same v y ep)

  -- all members said one thing
  free-same : (ms : List ℕ) → IsFree ms → (x : Digest) × ((m : ℕ) → Has ms m → reads m ≡ Some x)
  free-same [] free = (zero_digest, λ m h. absurd h)
  free-same (a ∷ ms) free = (first.0, each)
    where
      first : (x : Digest) × (reads a ≡ Some x)
      first = read-of a (reads a) (none-of (λ m. lacks_where m (reads m)) (a ∷ ms) a free.none_lacks (inl refl))

      each : (m : ℕ) → Has (a ∷ ms) m → reads m ≡ Some first.0
      each m (inl same) = subst (λ (k : ℕ). reads k ≡ Some first.0) same first.1
      each m (inr h) =
          let own = read-of m (reads m) (none-of (λ k. lacks_where k (reads k)) (a ∷ ms) m free.none_lacks (inr h)) in
          let one = same-read a m (reads a) (reads m) first.0 own.0 first.1 own.1 (none-of (λ b. differ_from digest_eq a (reads a) b (reads b)) ms m free.none_differs h) in
          own.1 ∙ ap (λ (d : Digest). Some d) (sym one)

-- ---- acknowledgements

is-ack : (epoch : ℕ) (tx : Digest) (st : Statement) (d : Digest) → ack_in epoch tx st ≡ Some d → st ≡ statement.Ack epoch tx d
is-ack epoch tx (statement.Vote e t origins) d q = absurd (cc)
is-ack epoch tx (statement.End e) d q = absurd (cc)
is-ack epoch tx (statement.Checkpoint e number digest) d q = absurd (cc)
is-ack epoch tx (statement.Ack e t x) d q = go ((e == epoch) && digest_eq t tx) refl q
  where
    named : e ≡ epoch → t ≡ tx → x ≡ d → statement.Ack e t x ≡ statement.Ack epoch tx d
    named a b c = cc

    go : (b : Bool) → ((e == epoch) && digest_eq t tx) ≡ b → where_true b x ≡ Some d → statement.Ack e t x ≡ statement.Ack epoch tx d
    go true h q = named (eqb-true e epoch (and-first (e == epoch) (digest_eq t tx) h)) (digest_same t tx (and-second (e == epoch) (digest_eq t tx) h)) (some_same x d q)
    go false h q = absurd (cc)

module _ (s : Setting) (w : World) where
  -- the members' last acknowledgements name one effects digest
  record AreOfOne (t : Made) (ms : List ℕ) : Type 0 where
    effects : Digest
    quorum : is_quorum s.rules.stakes (weight s.rules.stakes ms) ≡ true
    said : (m : ℕ) → Has ms m → HasSaid w m (statement.Ack t.signed.tx.epoch t.digest effects)

  module _ (t : Made) where
    abbrev reads : ℕ → Option Digest
    reads m = last_said (ack_in t.signed.tx.epoch t.digest) m w.said

    whole-one : (ms : List ℕ) → acks_collected s w t ms ≡ whole → AreOfOne t ms
    unfolding acks_collected
    whole-one ms e =
        let free = whole-free s.rules.stakes reads ms e in
        let one = free-same s.rules.stakes reads ms free in
        record {
          effects = one.0;
          quorum = free-quorum s.rules.stakes reads ms free;
          said = λ m h.
              let told = last-said (ack_in t.signed.tx.epoch t.digest) m w.said one.0 (one.1 m h) in
              subst (HasSaid w m) (is-ack t.signed.tx.epoch t.digest told.0 one.0 told.3) (told.1, told.2);
        }

  -- only the whole is printed so
  printed-whole : (asked members : List ℕ) (c : Collected) → final_collected asked c ≡ final_text.FinalBy members → (c ≡ whole) × (asked ≡ members)
  printed-whole asked members (lacks m) e = absurd (cc)
  printed-whole asked members (short weight total) e = absurd (cc)
  printed-whole asked members (differ a b) e = absurd (cc)
  printed-whole asked members whole e = (refl, same e)
    where
      same : final_text.FinalBy asked ≡ final_text.FinalBy members → asked ≡ members
      same e = cc

  text-same : (name : Name) (a b : FinalText) → line.Final name a ≡ line.Final name b → a ≡ b
  text-same name a b e = cc

  -- the transaction of the line, and its acknowledgements
  record IsSaidOf (name : Name) (members : List ℕ) : Type 0 where
    made : Made
    named : made_named w name ≡ Some made
    effects : Digest
    quorum : is_quorum s.rules.stakes (weight s.rules.stakes members) ≡ true
    said : (m : ℕ) → Has members m → HasSaid w m (statement.Ack made.signed.tx.epoch made.digest effects)

  says-final : (name : Name) (asked members : List ℕ) → Has (lines_of s w (event.Final name asked)) (final_by name members) → IsSaidOf name members
  unfolding lines_over
  says-final name asked members h = go (made_named w name) refl h
    where
      said-of : (t : Made) → made_named w name ≡ Some t → (c : Collected) → acks_collected s w t asked ≡ c → final_collected asked c ≡ final_text.FinalBy members → IsSaidOf name members
      said-of t named c q e =
          let printed = printed-whole asked members c e in
          let it = whole-one t asked (q ∙ printed.0) in
          record {
            made = t;
            named = named;
            effects = it.effects;
            quorum = subst (λ (ms : List ℕ). is_quorum s.rules.stakes (weight s.rules.stakes ms) ≡ true) printed.1 it.quorum;
            said = λ m k. it.said m (subst (λ (ms : List ℕ). Has ms m) (sym printed.1) k);
          }

      go : (o : Option Made) → made_named w name ≡ o → Has (final_lines s w name asked o) (line.Final name (final_text.FinalBy members)) → IsSaidOf name members
      go None q (inl e) = absurd (let f = text-same name (final_text.NoAck 0) (final_text.FinalBy members) e in cc)
      go None q (inr h) = absurd h
      go (Some t) q (inl e) = said-of t q (acks_collected s w t asked) refl (text-same name (final_collected asked (acks_collected s w t asked)) (final_text.FinalBy members) e)
      go (Some t) q (inr h) = absurd h

-- the members of the line are those that it asks for
pub printed-asked : (s : Setting) (w : World) (name other : Name) (asked members : List ℕ) → Has (lines_of s w (event.Final other asked)) (final_by name members) → (other ≡ name) × (asked ≡ members)
unfolding lines_over
printed-asked s w name other asked members h = go (made_named w other) h
  where
    names : (a b : FinalText) → line.Final other a ≡ line.Final name b → other ≡ name
    names a b e = cc

    texts : (a b : FinalText) → line.Final other a ≡ line.Final name b → a ≡ b
    texts a b e = cc

    go : (o : Option Made) → Has (final_lines s w other asked o) (final_by name members) → (other ≡ name) × (asked ≡ members)
    go None (inl e) = absurd (let f = texts (final_text.NoAck 0) (final_text.FinalBy members) e in cc)
    go None (inr h) = absurd h
    go (Some t) (inl e) =
        let text = texts (final_collected asked (acks_collected s w t asked)) (final_text.FinalBy members) e in
        (names (final_collected asked (acks_collected s w t asked)) (final_text.FinalBy members) e, (printed-whole s w asked members (acks_collected s w t asked) text).1)
    go (Some t) (inr h) = absurd h

pub printed-is-final : (s : Setting) (w : World) (name : Name) (asked members : List ℕ) → is_roll s.rules.stakes members ≡ true → Has (lines_of s w (event.Final name asked)) (final_by name members) → IsFinalHere s w name members
printed-is-final s w name asked members known h =
    let it = says-final s w name asked members h in
    record {
      made = it.made;
      named = it.named;
      effects = it.effects;
      final = record { known = known; quorum = it.quorum; said = each-all (λ m. HasSaid w m (statement.Ack it.made.signed.tx.epoch it.made.digest it.effects)) members it.said };
    }
