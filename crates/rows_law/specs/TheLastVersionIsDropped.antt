-- The admission of a transaction at the limit of versions.
use Rattle.std.specs.Prelude.{◌≡◌, ℕ, true, [], ◌∷◌, map, None}
use Rattle.chain_types.specs.declared.objects.Object.{Object}
use Rattle.chain_types.specs.declared.objects.Content.TheVariants as content
use Rattle.chain_types.specs.declared.objects.Owner.TheVariants as owner
use Rattle.chain_types.specs.declared.transactions.Transaction.{Transaction}
use Rattle.chain_types.specs.declared.transactions.Input.TheVariants as inputs
use Rattle.chain_types.specs.declared.transactions.Command.TheVariants as command
use Rattle.chain_types.specs.declared.transactions.Argument.TheVariants as argument
use Rattle.chain_types.specs.Digests.{transaction_digest}
use Rattle.protocol_spec.specs.declared.answers.Held.{Held}
use Rattle.protocol_spec.specs.Member.Admission.{Admission, nothing_admitted, entered, digest_of_admitted}
use Rattle.rows_law.specs.SomeTransaction.{some_id, transaction_of}

-- a shared counter of this version, and a transaction that changes it
abbrev pub counter : ℕ → Object
counter version = record { id = some_id 4; version = version; owner = owner.Shared 1; content = content.Counter 5 }

abbrev pub adds : Transaction
adds = transaction_of 2000 (inputs.Shared (some_id 4) 1 true ∷ []) (command.Call 4 (argument.Input 0 ∷ []) ∷ [])

abbrev pub entry : Held
entry = record { digest = transaction_digest adds; cert = record { tx = adds; origins = None ∷ None ∷ []; seals = [] } }

abbrev pub behind : ℕ → Admission
behind version = entered None (counter version ∷ []) nothing_admitted entry

pub record TheLastVersionIsDropped : Type 0 where
  pub none_admitted : (behind 4611686018427387903).admitted ≡ []
  pub dropped : (behind 4611686018427387903).dropped ≡ transaction_digest adds ∷ []
  pub admitted : map digest_of_admitted (behind 4611686018427387902).admitted ≡ transaction_digest adds ∷ []
  pub none_dropped : (behind 4611686018427387902).dropped ≡ []
