-- The facts about a certificate that an admission keeps beside it, so that it is not walked again.
use Rattle.std.specs.Prelude.{◌≡◌, ℕ, List, fold}
use Rattle.chain_types.specs.declared.objects.ObjectId.{ObjectId}
use Rattle.chain_messages.specs.declared.messages.Certificate.{Certificate}
use Rattle.protocol_spec.specs.Member.Admission.{mutable_ids}
use Rattle.version_assign.specs.Lines.{greater_named}

-- the shared objects that it writes, in input order, and the greatest version that its gas coin and inputs name
pub record IsExcerpt (c : Certificate) (written : List ObjectId) (named : ℕ) : Type 0 where
  pub written_are : written ≡ mutable_ids c
  pub named_is : named ≡ fold greater_named c.tx.gas.version c.tx.inputs
