-- What a certificate's shared inputs would be assigned is what the definition says.
use Rattle.std.proofs.Common.{◌≡◌, List, [], ◌∷◌, ◌++◌, Option, refl, ap, sym, ◌∙◌, append_assoc, append-nil}
use Rattle.std.specs.Prelude.{filter, filter_map, zip}
use Rattle.digest_core.specs.declared.Digest.{Digest}
use Rattle.chain_types.specs.declared.objects.Object.{Object}
use Rattle.chain_types.specs.declared.transactions.Input.{Input}
use Rattle.chain_types.specs.declared.transactions.Input.TheVariants as inputs
use Rattle.chain_types.specs.Digests.{is_object}
use Rattle.chain_messages.specs.declared.messages.Certificate.{Certificate}
use Rattle.protocol_spec.specs.declared.answers.Assigned.{Assigned}
use Rattle.protocol_spec.specs.Member.Admission.{assigned_to, begins}
use Rattle.version_assign.specs.Books.{begun_of}
use Rattle.version_assign.specs.Lines.{begun, begun_after, begun_behind}

behind : (opening : List Object) (is : List Input) (all : List Assigned) (os : List (Option Digest)) → begun_after opening all is os ≡ all ++ filter_map (begun opening) (zip (filter is_object is) os)
behind opening [] all os = sym (ap (λ xs. all ++ xs) (nothing os) ∙ append-nil all)
  where
    nothing : (os : List (Option Digest)) → filter_map (begun opening) (zip [] os) ≡ []
    nothing [] = refl
    nothing (o ∷ os) = refl
behind opening (inputs.Pure bytes ∷ is) all os = behind opening is all os
behind opening (inputs.Owned r ∷ is) all [] = sym (append-nil all)
behind opening (inputs.Owned r ∷ is) all (o ∷ os) = behind opening is all os
behind opening (inputs.Immutable r ∷ is) all [] = sym (append-nil all)
behind opening (inputs.Immutable r ∷ is) all (o ∷ os) = behind opening is all os
behind opening (inputs.Shared y n m ∷ is) all [] = sym (append-nil all)
behind opening (inputs.Shared y n m ∷ is) all (o ∷ os) =
    behind opening is (all ++ assigned_to (begins opening y n o) y m ∷ []) os
    ∙ append_assoc all (assigned_to (begins opening y n o) y m ∷ []) (filter_map (begun opening) (zip (filter is_object is) os))

pub begun_is : (opening : List Object) (c : Certificate) → begun_behind opening c.tx.inputs c.origins ≡ begun_of opening c
begun_is opening c = go c.origins
  where
    go : (os : List (Option Digest)) → begun_behind opening c.tx.inputs os ≡ filter_map (begun opening) (zip (inputs.Owned c.tx.gas ∷ filter is_object c.tx.inputs) os)
    go [] = refl
    go (o ∷ os) = behind opening c.tx.inputs [] os
