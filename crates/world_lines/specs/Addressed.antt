-- Addresses that are kept under the names of their users, so that a name is hashed once.
use Rattle.std.specs.Prelude.{◌≡◌, ℕ, List, Some}
use Rattle.digest_core.specs.declared.Digest.{Digest}
use Rattle.digest_core.specs.Tagged.{address_of_name}
use Rattle.tables.specs.Named.{Named, named}

-- what is known under a name is the address of the user of this name
abbrev pub AreAddresses : Named Digest → Type 0
AreAddresses known = (name : List ℕ) (address : Digest) → named known name ≡ Some address → address ≡ address_of_name name
