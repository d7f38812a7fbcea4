-- What holds of the admitted transactions of every sequence.
use Rattle.std.specs.Prelude.{◌≡◌, ℕ, Bool, true, false, List, [], Option, Some, None}
use Rattle.std.specs.List.{list_all}
use Rattle.digest_core.specs.declared.Digest.{Digest}
use Rattle.chain_types.specs.declared.objects.Object.{Object}
use Rattle.protocol_spec.specs.Chain.Words.{Along}
use Rattle.protocol_spec.specs.Chain.Certificates.{Rules}
use Rattle.protocol_spec.specs.declared.answers.Held.{Held}
use Rattle.protocol_spec.specs.Member.Admission.{Admitted, Admission, is_admitted, admit, deferred_on}
use Rattle.protocol_spec.specs.Member.Sequence.{seen}

abbrev pub is_origin_in : List Admitted → Option Digest → Bool
is_origin_in before None = true
is_origin_in before (Some tx) = is_admitted before tx

abbrev pub held_again : Admitted → Held
held_again a = record { digest = a.digest; cert = a.cert }

-- after these, an admitted transaction is new, its origins are among them, and its versions are those that
-- admission assigns after them
pub record IsInOrder (opening : List Object) (before : List Admitted) (a : Admitted) : Type 0 where
  pub new : is_admitted before a.digest ≡ false
  pub origins : list_all (is_origin_in before) a.cert.origins ≡ true
  pub versions : a ≡ admit opening before (held_again a)

-- in every sequence, whatever its entries are, each admitted transaction is in order after those before it
abbrev pub AdmittedInOrder : Type 0
AdmittedInOrder = (r : Rules) (opening : List Object) (epoch : ℕ) (entries : List (List ℕ)) → Along (IsInOrder opening) [] (seen r opening epoch entries).admission.admitted

abbrev pub NothingDeferred : Type 0
NothingDeferred = (a : Admission) (tx : Digest) → deferred_on None a tx ≡ None
