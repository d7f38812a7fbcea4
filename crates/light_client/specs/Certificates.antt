-- The answer for bytes that should be a certificate. Source: this profile, over the valid certificates of Sui Lutris.
use Rattle.std.specs.Prelude.{◌≡◌, ℕ, List, Option, None, option_map, Result}
use Rattle.digest_core.specs.declared.Digest.{Digest}
use Rattle.chain_types.specs.Digests.{transaction_digest}
use Rattle.chain_types.specs.declared.refusals.CertRefusal.{CertRefusal}
use Rattle.chain_types.specs.declared.refusals.CertRefusal.TheVariants as refused
use Rattle.chain_messages.specs.declared.messages.Certificate.{Certificate}
use Rattle.chain_messages.specs.Messages.{certificate}
use Rattle.protocol_spec.specs.Chain.Words.{and_then, unless_refused}
use Rattle.protocol_spec.specs.Chain.Certificates.{cert_refusal, rules_of}
use Rattle.light_check.specs.Certified.{Accepting}
use Rattle.light_client.specs.Input.{input}
use Rattle.light_client.specs.declared.refusal.Refusal.{Refusal}
use Rattle.light_client.specs.declared.refusal.Refusal.TheVariants as refusal

abbrev pub of_certificate : CertRefusal → Refusal
of_certificate (refused.Shape fault) = refusal.Shape fault
of_certificate refused.Order = refusal.Order
of_certificate (refused.ShortStake weight total) = refusal.ShortStake weight total
of_certificate (refused.BadSeal member) = refusal.BadSeal member
of_certificate refused.OutOfMemory = refusal.OutOfMemory

-- why a certificate of the stakes is not valid; a limit of writers plays no part
abbrev pub why_invalid : List ℕ → Accepting → Certificate → Option CertRefusal
why_invalid stakes accepts c = cert_refusal (rules_of stakes None accepts) c

-- the answer for a decoded certificate: the digest and the epoch of its transaction, or why it is not valid
abbrev pub certified_answer : List ℕ → Accepting → Certificate → Result (Digest × ℕ) Refusal
certified_answer stakes accepts c = unless_refused (option_map of_certificate (why_invalid stakes accepts c)) (transaction_digest c.tx, c.tx.epoch)

-- the answer for bytes: why they do not decode to a certificate, else the answer for the certificate
unfoldable pub certificate_answer : List ℕ → Accepting → List ℕ → Result (Digest × ℕ) Refusal
certificate_answer stakes accepts bytes = and_then (input certificate bytes) (λ c. certified_answer stakes accepts c)

-- the bytes encode a valid certificate of the transaction with this digest, in this epoch
pub record SpellsCertificate (stakes : List ℕ) (accepts : Accepting) (bytes : List ℕ) (tx : Digest) (epoch : ℕ) : Type 0 where
  pub cert : Certificate
  pub spelled : bytes ≡ certificate.spell cert
  pub fits : certificate.fits cert
  pub valid : why_invalid stakes accepts cert ≡ None
  pub digest : tx ≡ transaction_digest cert.tx
  pub in_epoch : epoch ≡ cert.tx.epoch
