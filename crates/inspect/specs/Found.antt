-- What the code keeps beside certificates: each of them can be encoded, and its encoding is the name that stands for
-- it.
use Rattle.std.specs.Prelude.{◌≡◌, ℕ, true, List, is_some}
use Rattle.chain_messages.specs.Messages as messages
use Rattle.chain_messages.specs.declared.messages.Certificate.{Certificate}
use Rattle.quorum_core.specs.Committee.{is_roll}
use Rattle.protocol_spec.specs.Chain.Certificates.{members_of}
use Rattle.protocol_spec.specs.Chain.Words.{Each}
use Rattle.tables.specs.Named.{Named, named}
use Rattle.inspect.specs.Certified.{is_there}

-- a certificate that may be kept: it can be encoded, and its members ascend, are distinct and are known
pub record IsSound (stakes : List ℕ) (c : Certificate) : Type 0 where
  pub short : messages.certificate.short c
  pub roll : is_roll stakes (members_of c) ≡ true

-- each of the certificates is sound, and the names are their encodings
pub record AreFound (stakes : List ℕ) (certs : List Certificate) (spelled : Named (Unit {0})) : Type 0 where
  pub sound : Each (IsSound stakes) certs
  pub names : (c : Certificate) → is_some (named spelled (messages.certificate.spell c)) ≡ is_there certs c
