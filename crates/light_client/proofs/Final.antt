-- What is passed was acknowledged by a quorum.
use Rattle.std.proofs.Common.{◌≡◌, ◌∙◌, ℕ, ◌+◌, Bool, true, false, List, [], ◌∷◌, Option, Some, None, Result, Ok, refl, sym, ap, subst}
use Rattle.std.specs.Prelude.{◌==◌, ◌&&◌, not, bytes_eq}
use Rattle.std.proofs.lemmas.Bool.{eqb-true}
use Rattle.std.proofs.lemmas.Slice.Eq.{bytes_eq-Decides}
use Rattle.digest_core.specs.declared.Digest.{Digest}
use Rattle.wire_bcs.specs.Shapes.{seq}
use Rattle.quorum_core.specs.declared.signer.Signer.TheVariants as signers
use Rattle.quorum_core.specs.Committee.{is_quorum, is_roll, total_of, weight}
use Rattle.chain_messages.specs.Messages.{sealed, statement}
use Rattle.chain_messages.specs.declared.messages.Sealed.{Sealed}
use Rattle.chain_messages.specs.declared.messages.Statement.{Statement}
use Rattle.chain_messages.specs.declared.messages.Statement.TheVariants as statements
use Rattle.protocol_spec.proofs.ListLemmas.{and-first, and-second}
use Rattle.protocol_spec.specs.Chain.Words.{Each, first_of, first_some, where_true}
use Rattle.light_check.specs.Certified.{Accepting}
use Rattle.light_check.proofs.Shorts.{each_of_all}
use Rattle.light_client.specs.declared.finality.Acknowledged.{Acknowledged}
use Rattle.light_client.specs.declared.refusal.Refusal.{Refusal}
use Rattle.light_client.specs.declared.refusal.Refusal.TheVariants as refusal
use Rattle.light_client.specs.Input.{Answers}
use Rattle.light_client.specs.Finality.{Acknowledges, AllShort, SpellsFinal, acknowledged_in, acknowledged_or, bad_seal, differing, differs_from, final_of, first_acknowledged, is_other, no_acknowledgement, not_one, same_acknowledged, sealers, why_not_final, why_unsealed}

pub all_short : (said : List Sealed) → (seq sealed).short said → AllShort said
all_short said short = each_of_all sealed.short said short.1

pub statement_short : (s : Sealed) → sealed.short s → statement.short s.statement
unfolding sealed
statement_short s short = short.1.0

-- ---- lists of cases

none_first : {A : Type 0} (a b : Option A) → first_some (a ∷ b ∷ []) ≡ None → (a ≡ None) × (b ≡ None)
none_first None None e = (refl, refl)
none_first None (Some y) e = absurd (cc)
none_first (Some x) b e = absurd (cc)

none_of_four : {A : Type 0} (a b c d : Option A) → first_some (a ∷ b ∷ c ∷ d ∷ []) ≡ None → (a ≡ None) × ((b ≡ None) × ((c ≡ None) × (d ≡ None)))
none_of_four None None None None e = (refl, (refl, (refl, refl)))
none_of_four None None None (Some x) e = absurd (cc)
none_of_four None None (Some x) d e = absurd (cc)
none_of_four None (Some x) c d e = absurd (cc)
none_of_four (Some x) b c d e = absurd (cc)

passes_test : {A : Type 0} (b : Bool) (x : A) → where_true (not b) x ≡ None → b ≡ true
passes_test true x e = refl
passes_test false x e = absurd (cc)

fails_test : {A : Type 0} (b : Bool) (x : A) → where_true b x ≡ None → b ≡ false
fails_test true x e = absurd (cc)
fails_test false x e = refl

-- ---- one statement

same_digest : (a b : Digest) → bytes_eq a.0 b.0 ≡ true → a ≡ b
same_digest a b h = ap (λ (x : List ℕ). let d : Digest = record { 0 = x } in d) ((bytes_eq-Decides a.0 b.0).0 h)

same_parts : (e f : ℕ) (t u x y : Digest) → e ≡ f → t ≡ u → x ≡ y → (let a : Acknowledged = record { epoch = e; tx = t; effects = x } in a) ≡ record { epoch = f; tx = u; effects = y }
same_parts e f t u x y same_epoch same_tx same_effects = rw (same_epoch, same_tx, same_effects) refl

is_same : (a b : Acknowledged) → same_acknowledged a b ≡ true → a ≡ b
is_same a b h =
    let epoch = eqb-true a.epoch b.epoch (and-first (a.epoch == b.epoch) (bytes_eq a.tx.0 b.tx.0 && bytes_eq a.effects.0 b.effects.0) h) in
    let rest = and-second (a.epoch == b.epoch) (bytes_eq a.tx.0 b.tx.0 && bytes_eq a.effects.0 b.effects.0) h in
    let tx = same_digest a.tx b.tx (and-first (bytes_eq a.tx.0 b.tx.0) (bytes_eq a.effects.0 b.effects.0) rest) in
    let effects = same_digest a.effects b.effects (and-second (bytes_eq a.tx.0 b.tx.0) (bytes_eq a.effects.0 b.effects.0) rest) in
    same_parts a.epoch b.epoch a.tx b.tx a.effects b.effects epoch tx effects

is_acknowledgement : (s : Statement) (a : Acknowledged) → acknowledged_in s ≡ Some a → s ≡ statements.Ack a.epoch a.tx a.effects
is_acknowledgement (statements.Ack epoch tx effects) a e = cc
is_acknowledgement (statements.Vote epoch tx origins) a e = absurd (cc)
is_acknowledgement (statements.End epoch) a e = absurd (cc)
is_acknowledgement (statements.Checkpoint epoch number digest) a e = absurd (cc)

-- ---- all of them

each_is_one : (place : ℕ) (said : List Sealed) → no_acknowledgement place said ≡ None → Each (λ (s : Sealed). not_one 0 (acknowledged_in s.statement) ≡ None) said
each_is_one place [] e = tt
each_is_one place (s ∷ said) e =
    let both = none_first (not_one place (acknowledged_in s.statement)) (no_acknowledgement (place + 1) said) e in
    (at_any (acknowledged_in s.statement) both.0, each_is_one (place + 1) said both.1)
  where
    at_any : (o : Option Acknowledged) → not_one place o ≡ None → not_one 0 o ≡ None
    at_any None h = absurd (cc)
    at_any (Some a) h = refl

each_agrees : (first : Sealed) (a : Acknowledged) (said : List Sealed) → acknowledged_in first.statement ≡ Some a → Each (λ (s : Sealed). not_one 0 (acknowledged_in s.statement) ≡ None) said → first_of (differs_from first) said ≡ None
    → Each (λ (s : Sealed). acknowledged_in s.statement ≡ Some a) said
each_agrees first a [] is ones e = tt
each_agrees first a (s ∷ said) is ones e =
    let both = none_first (differs_from first s) (first_of (differs_from first) said) e in
    let test = fails_test (is_other (acknowledged_in first.statement) (acknowledged_in s.statement)) (refusal.Differ first.member s.member) both.0 in
    (go (acknowledged_in s.statement) ones.0 (subst (λ (o : Option Acknowledged). is_other o (acknowledged_in s.statement) ≡ false) is test), each_agrees first a said is ones.1 both.1)
  where
    not_false : (b : Bool) → not b ≡ false → b ≡ true
    not_false true h = refl
    not_false false h = absurd (cc)

    go : (o : Option Acknowledged) → not_one 0 o ≡ None → is_other (Some a) o ≡ false → o ≡ Some a
    go None h f = absurd (cc)
    go (Some b) h f = ap (λ (x : Acknowledged). Some x) (sym (is_same a b (not_false (same_acknowledged a b) f)))

each_sealed : (accepts : Accepting) (a : Acknowledged) (said : List Sealed) → Each (λ (s : Sealed). acknowledged_in s.statement ≡ Some a) said → first_of (bad_seal accepts) said ≡ None → Each (Acknowledges accepts a) said
each_sealed accepts a [] agree e = tt
each_sealed accepts a (s ∷ said) agree e =
    let both = none_first (bad_seal accepts s) (first_of (bad_seal accepts) said) e in (
      record {
        is = is_acknowledgement s.statement a agree.0;
        accepted = passes_test (accepts (signers.Member s.member) (statement.spell s.statement) s.seal) (refusal.BadSeal s.member) both.0;
      },
      each_sealed accepts a said agree.1 both.1,
    )

agreed : (a : Acknowledged) (said : List Sealed) → first_acknowledged said ≡ Some a → no_acknowledgement 0 said ≡ None → differing said ≡ None → Each (λ (s : Sealed). acknowledged_in s.statement ≡ Some a) said
agreed a [] first ones e = tt
agreed a (s ∷ said) first ones e = (first, each_agrees s a said first (each_is_one 0 (s ∷ said) ones).1 e)

passed : (stakes : List ℕ) (accepts : Accepting) (bytes : List ℕ) (said : List Sealed) → (bytes ≡ (seq sealed).spell said) × (seq sealed).fits said → (a : Acknowledged)
    → final_of stakes accepts said ≡ Ok a → SpellsFinal stakes accepts bytes a
unfolding why_not_final why_unsealed
passed stakes accepts bytes said spelled a is = go (why_not_final stakes accepts said) (first_acknowledged said) refl refl is
  where
    Answer : Type 0
    Answer = Result Acknowledged Refusal

    same : (x y : Acknowledged) → (let r : Answer = Ok x in r) ≡ Ok y → Some x ≡ Some y
    same x y h = cc

    go : (why : Option Refusal) (first : Option Acknowledged) → why_not_final stakes accepts said ≡ why → first_acknowledged said ≡ first → acknowledged_or why first ≡ Ok a → SpellsFinal stakes accepts bytes a
    go (Some x) first e f h = absurd (cc)
    go None None e f h = absurd (cc)
    go None (Some x) e f h =
        let seals = none_first (why_unsealed stakes said) (first_of (bad_seal accepts) said) e in
        let order = where_true (not (is_roll stakes (sealers said))) refusal.Order in
        let stake = where_true (not (is_quorum stakes (weight stakes (sealers said)))) (refusal.ShortStake (weight stakes (sealers said)) (total_of stakes)) in
        let four = none_of_four (no_acknowledgement 0 said) order stake (differing said) seals.0 in
        record {
          said = said;
          spelled = spelled.0;
          fits = spelled.1;
          roll = passes_test (is_roll stakes (sealers said)) refusal.Order four.1.0;
          quorum = passes_test (is_quorum stakes (weight stakes (sealers said))) (refusal.ShortStake (weight stakes (sealers said)) (total_of stakes)) four.1.1.0;
          each = each_sealed accepts a said (agreed a said (f ∙ same x a h) four.0 four.1.1.1) seals.1;
        }

pub passes : (stakes : List ℕ) (accepts : Accepting) (bytes : List ℕ) (said : List Sealed) (result : Result Acknowledged Refusal) → (bytes ≡ (seq sealed).spell said) × (seq sealed).fits said
    → Answers result (final_of stakes accepts said) → (a : Acknowledged) → result ≡ Ok a → SpellsFinal stakes accepts bytes a
passes stakes accepts bytes said result spelled answers a is = passed stakes accepts bytes said spelled a (subst (λ (r : Result Acknowledged Refusal). Answers r (final_of stakes accepts said)) is answers)
