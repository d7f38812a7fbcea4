-- What a checked transaction or certificate has, and what can be encoded.
use Rattle.std.proofs.Common.{Option, Some, None, refl}
use Rattle.std.proofs.lemmas.Bool.{ltb-false, eqb-true}
use Rattle.std.specs.Prelude.{IfSome, ◌≡◌, ℕ, ◌≤◌, Bool, true, false, nat_lt, length, ◌==◌}
use Rattle.digest_core.specs.declared.Digest.{Digest}
use Rattle.wire_bcs.specs.Digests.{digest}
use Rattle.chain_types.specs.declared.transactions.Transaction.{Transaction}
use Rattle.protocol_spec.proofs.Truth.{map_none, where_not_true}
use Rattle.protocol_spec.specs.Chain.Certificates.{Rules, cert_cases, cert_refusal}
use Rattle.protocol_spec.specs.Chain.Keys.{objects_of}
use Rattle.protocol_spec.specs.Chain.Shape.{shape_cases, shape_fault}
use Rattle.protocol_spec.specs.Chain.Words.{where_true}
use Rattle.protocol_spec.proofs.ListLemmas.{all_none}
use Rattle.chain_messages.specs.declared.messages.Certificate.{Certificate}
use Rattle.chain_types.specs.declared.refusals.CertRefusal.TheVariants as refused
use Rattle.chain_types.specs.declared.transactions.SignedTx.{SignedTx}
use Rattle.chain_types.specs.Transactions as transactions

pub origin_short : (o : Option Digest) → IfSome o digest.short
unfolding digest
origin_short None = tt
origin_short (Some d) = tt

pub few_inputs : (t : Transaction) → shape_fault t ≡ None → length t.inputs ≤ 256
unfolding shape_fault
few_inputs t e = go (nat_lt 256 (length t.inputs)) refl (all_none (shape_cases t) e).1.1.1.0
  where
    go : (b : Bool) → nat_lt 256 (length t.inputs) ≡ b → where_true {A = ℕ} b 4 ≡ None → length t.inputs ≤ 256
    go true q e = absurd (cc)
    go false q e = ltb-false 256 (length t.inputs) q

pub valid_shape : (r : Rules) (c : Certificate) → cert_refusal r c ≡ None → shape_fault c.tx ≡ None
unfolding cert_refusal
valid_shape r c e = map_none _ (shape_fault c.tx) (all_none (cert_cases r c) e).0

pub valid_length : (r : Rules) (c : Certificate) → cert_refusal r c ≡ None → length c.origins ≡ length (objects_of c.tx)
unfolding cert_refusal
valid_length r c e = eqb-true (length c.origins) (length (objects_of c.tx)) (where_not_true (length c.origins == length (objects_of c.tx)) (refused.Shape 13) (all_none (cert_cases r c) e).1.0)

pub tx_short : (x : SignedTx) → transactions.signed.short x → transactions.transaction.short x.tx
unfolding transactions.signed
tx_short x short = short.0
