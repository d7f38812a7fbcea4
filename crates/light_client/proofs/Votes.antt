-- What a certificate is answered.
use Rattle.std.proofs.Common.{◌≡◌, ℕ, false, List, Option, Some, None, Result, Ok, Err, refl, sym, ap, subst}
use Rattle.std.specs.Prelude.{option_map}
use Rattle.digest_core.specs.declared.Digest.{Digest}
use Rattle.wire_bcs.specs.Digests.{digest}
use Rattle.chain_types.specs.Digests.{transaction_digest}
use Rattle.chain_types.specs.Transactions.{transaction}
use Rattle.chain_types.specs.declared.refusals.CertRefusal.{CertRefusal}
use Rattle.chain_types.specs.declared.refusals.CertRefusal.TheVariants as refused
use Rattle.chain_messages.specs.Messages as messages
use Rattle.chain_messages.specs.declared.messages.Statement.TheVariants as statement
use Rattle.chain_messages.specs.declared.messages.Certificate.{Certificate}
use Rattle.protocol_spec.specs.Chain.Words.{unless_refused}
use Rattle.light_check.specs.Certified.{Accepting}
use Rattle.cert_rules.specs.Answers.{Checks}
use Rattle.light_client.specs.declared.refusal.Refusal.{Refusal}
use Rattle.light_client.specs.Certificates.{SpellsCertificate, certified_answer, of_certificate, why_invalid}
use Rattle.light_client.specs.Input.{Answers, is_memory}

-- a certificate that can be encoded has a transaction and a vote that can
pub vote_short : (c : Certificate) (epoch : ℕ) (tx : Digest) → messages.certificate.short c → messages.statement.short (statement.Vote epoch tx c.origins)
unfolding messages.certificate messages.statement digest
vote_short c epoch tx short = (tt, (tt, short.1.0))

pub tx_short : (c : Certificate) → messages.certificate.short c → transaction.short c.tx
unfolding messages.certificate
tx_short c short = short.0

-- ---- what is answered

refused_as : (stakes : List ℕ) (accepts : Accepting) (c : Certificate) (r : CertRefusal) → why_invalid stakes accepts c ≡ Some r → certified_answer stakes accepts c ≡ Err (of_certificate r)
refused_as stakes accepts c r is = ap (λ (o : Option CertRefusal). unless_refused (option_map of_certificate o) (transaction_digest c.tx, c.tx.epoch)) is

pub is_refused : (stakes : List ℕ) (accepts : Accepting) (c : Certificate) (r : CertRefusal) → Checks {X = Unit {0}} (Err r) (why_invalid stakes accepts c) → is_memory (of_certificate r) ≡ false
    → certified_answer stakes accepts c ≡ Err (of_certificate r)
is_refused stakes accepts c (refused.Shape n) is other = refused_as stakes accepts c (refused.Shape n) is
is_refused stakes accepts c refused.Order is other = refused_as stakes accepts c refused.Order is
is_refused stakes accepts c (refused.ShortStake w t) is other = refused_as stakes accepts c (refused.ShortStake w t) is
is_refused stakes accepts c (refused.BadSeal m) is other = refused_as stakes accepts c (refused.BadSeal m) is
is_refused stakes accepts c refused.OutOfMemory is other = absurd (cc)

pub is_valid : (stakes : List ℕ) (accepts : Accepting) (c : Certificate) → why_invalid stakes accepts c ≡ None → certified_answer stakes accepts c ≡ Ok (transaction_digest c.tx, c.tx.epoch)
is_valid stakes accepts c is = ap (λ (o : Option CertRefusal). unless_refused (option_map of_certificate o) (transaction_digest c.tx, c.tx.epoch)) is

-- ---- what is passed is valid

passed : (stakes : List ℕ) (accepts : Accepting) (bytes : List ℕ) (c : Certificate) → (bytes ≡ messages.certificate.spell c) × messages.certificate.fits c → (tx : Digest) (epoch : ℕ)
    → certified_answer stakes accepts c ≡ Ok (tx, epoch) → SpellsCertificate stakes accepts bytes tx epoch
passed stakes accepts bytes c spelled tx epoch is = go (why_invalid stakes accepts c) refl is
  where
    Answer : Type 0
    Answer = Result (Digest × ℕ) Refusal

    digest_in : Answer → Digest
    digest_in (Ok at) = at.0
    digest_in (Err e) = tx

    epoch_in : Answer → ℕ
    epoch_in (Ok at) = at.1
    epoch_in (Err e) = epoch

    go : (o : Option CertRefusal) → why_invalid stakes accepts c ≡ o → unless_refused {A = Digest × ℕ} (option_map of_certificate o) (transaction_digest c.tx, c.tx.epoch) ≡ Ok (tx, epoch) → SpellsCertificate stakes accepts bytes tx epoch
    go (Some r) e h = absurd (cc)
    go None e h = record {
      cert = c;
      spelled = spelled.0;
      fits = spelled.1;
      valid = e;
      digest = sym (ap digest_in h);
      in_epoch = sym (ap epoch_in h);
    }

pub passes : (stakes : List ℕ) (accepts : Accepting) (bytes : List ℕ) (c : Certificate) (result : Result (Digest × ℕ) Refusal) → (bytes ≡ messages.certificate.spell c) × messages.certificate.fits c
    → Answers result (certified_answer stakes accepts c) → (tx : Digest) (epoch : ℕ) → result ≡ Ok (tx, epoch) → SpellsCertificate stakes accepts bytes tx epoch
passes stakes accepts bytes c result spelled answers tx epoch is =
    passed stakes accepts bytes c spelled tx epoch (subst (λ (r : Result (Digest × ℕ) Refusal). Answers r (certified_answer stakes accepts c)) is answers)
