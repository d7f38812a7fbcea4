-- Acknowledgements that a quorum gave and that agree are one statement.
use Rattle.std.proofs.Common.{◌≡◌, ℕ, List, [], ◌∷◌, Option, Some, None, Bool, true, false, refl, ap, sym, ◌∙◌, subst, arith}
use Rattle.std.specs.Prelude.{not}
use Rattle.std.proofs.lemmas.Bool.{and_parts}
use Rattle.digest_core.specs.declared.Digest.{Digest}
use Rattle.wire_bcs.specs.Ascending.{ascends}
use Rattle.quorum_core.specs.Committee.{all_known, is_roll}
use Rattle.chain_messages.specs.declared.messages.Statement.{Statement}
use Rattle.chain_messages.specs.declared.messages.Statement.TheVariants as statement
use Rattle.chain_messages.specs.declared.messages.Sealed.{Sealed}
use Rattle.protocol_spec.proofs.Equality.{digest_same}
use Rattle.protocol_spec.specs.Chain.Words.{Each, first_of, first_some, where_true}
use Rattle.protocol_spec.specs.Chain.Collecting.{Collected, differ, lacks, whole, whole_or}
use Rattle.cert_rules.specs.Collect.{voters}
use Rattle.cert_rules.specs.Finality.{AreAcks, IsAckOf, acked, acks_collected, effects_in, first_acked, same_ack}
use Rattle.cert_rules.proofs.Words.{differs_from, first_differing, lack_none, none_differs}

pub acks_lack_none : (stakes : List ℕ) (acks : List Sealed) (m : ℕ) → is_roll stakes (voters acks) ≡ true → acks_collected stakes acks ≡ lacks m → ⊥
unfolding acks_collected
acks_lack_none stakes acks m roll e = lack_none same_ack stakes acks m roll e

pub first_is : (acks : List Sealed) → AreAcks acks → first_acked acks ≡ None → ⊥
first_is [] it e = absurd (let none = it.some in omega (arith, none))
first_is (s ∷ acks) it e = absurd (let is = ap acked it.each.0 in cc)

-- ---- the statement

others_agree : (epoch : ℕ) (tx : Digest) (v : Sealed) (acks : List Sealed) → whole_or (first_of (differs_from same_ack v) acks) ≡ whole → Each (IsAckOf epoch tx) acks
    → Each (λ (w : Sealed). w.statement ≡ statement.Ack epoch tx (effects_in v.statement)) acks
others_agree epoch tx v [] all each = tt
others_agree epoch tx v (w ∷ acks) all each = go (same_ack v w) refl all (λ h. others_agree epoch tx v acks h each.1)
  where
    go : (b : Bool) → same_ack v w ≡ b
        → whole_or (first_some (where_true (not b) (differ v.member w.member) ∷ first_of (differs_from same_ack v) acks ∷ [])) ≡ whole
        → (whole_or (first_of (differs_from same_ack v) acks) ≡ whole → Each (λ (x : Sealed). x.statement ≡ statement.Ack epoch tx (effects_in v.statement)) acks)
        → Each (λ (x : Sealed). x.statement ≡ statement.Ack epoch tx (effects_in v.statement)) (w ∷ acks)
    go true is h more = (each.0 ∙ ap (statement.Ack epoch tx) (sym (digest_same (effects_in v.statement) (effects_in w.statement) is)), more (rest (first_of (differs_from same_ack v) acks) h))
      where
        rest : (x : Option Collected) → whole_or (first_some (None ∷ x ∷ [])) ≡ whole → whole_or x ≡ whole
        rest None e = refl
        rest (Some c) e = e
    go false is h more = absurd (cc)

abbrev Parts : Type 0
Parts = ℕ × Digest × Digest

same_parts : (p q : Parts) → Some p ≡ Some q → p ≡ q
same_parts p q h = cc

agree : (epoch : ℕ) (tx : Digest) (acks : List Sealed) → whole_or (first_differing same_ack acks) ≡ whole → Each (IsAckOf epoch tx) acks → (e : ℕ) (t x : Digest) → Some (e, t, x) ≡ first_acked acks
    → Each (λ (s : Sealed). s.statement ≡ statement.Ack e t x) acks
agree epoch tx [] all each e t x first = tt
agree epoch tx (v ∷ acks) all each e t x first =
    let is = same_parts (e, t, x) (epoch, tx, effects_in v.statement) (first ∙ ap acked each.0) in
    subst (λ (p : Parts). Each (λ (s : Sealed). s.statement ≡ statement.Ack p.0 p.1 p.2) (v ∷ acks)) (sym is) (each.0, others_agree epoch tx v acks all each.1)

pub acks_agree : (stakes : List ℕ) (acks : List Sealed) → AreAcks acks → is_roll stakes (voters acks) ≡ true → acks_collected stakes acks ≡ whole → (e : ℕ) (t x : Digest) → Some (e, t, x) ≡ first_acked acks
    → Each (λ (s : Sealed). s.statement ≡ statement.Ack e t x) acks
unfolding acks_collected
acks_agree stakes acks it roll all e t x first =
    agree it.epoch it.tx acks (none_differs same_ack stakes acks (and_parts (ascends (voters acks)) (all_known stakes (voters acks)) roll).0 all) it.each e t x first
