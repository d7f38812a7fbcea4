-- What a certificate's transaction wants, as its definition has it.
use Rattle.std.proofs.Common.{◌≡◌, List, [], ◌∷◌, Option, None, Some, map, refl, ap, sym, ◌∙◌}
use Rattle.std.specs.Prelude.{filter, find, option_map, zip}
use Rattle.digest_core.specs.declared.Digest.{Digest}
use Rattle.chain_types.specs.declared.objects.ObjectKey.{ObjectKey}
use Rattle.chain_types.specs.declared.transactions.Input.{Input}
use Rattle.chain_types.specs.declared.transactions.Input.TheVariants as inputs
use Rattle.chain_types.specs.Digests.{is_object, key_of}
use Rattle.protocol_spec.specs.declared.answers.Assigned.{Assigned}
use Rattle.protocol_spec.specs.declared.answers.Held.{Held}
use Rattle.protocol_spec.specs.Member.Versions.{Version, object_in}
use Rattle.protocol_spec.specs.Member.Admission.{Admission, assigned_of}
use Rattle.protocol_spec.specs.Member.Rounds.{Wanted, found, is_wanted, wanted_by, wants_of}
use Rattle.exec_plan.specs.Wants.{named_in, named_left, want_of, wants_left}

-- ---- what is wanted

wants_joined : (assigned : Option (List Assigned)) (is : List Input) (origins : List (Option Digest))
    → wants_left assigned (map named_in (filter is_object is)) origins ≡ map (wanted_by assigned) (zip (filter is_object is) origins)
wants_joined assigned [] origins = refl
wants_joined assigned (inputs.Pure bytes ∷ is) origins = wants_joined assigned is origins
wants_joined assigned (inputs.Owned r ∷ is) [] = refl
wants_joined assigned (inputs.Owned r ∷ is) (o ∷ os) = ap (λ ws. wanted_by assigned (inputs.Owned r, o) ∷ ws) (wants_joined assigned is os)
wants_joined assigned (inputs.Immutable r ∷ is) [] = refl
wants_joined assigned (inputs.Immutable r ∷ is) (o ∷ os) = ap (λ ws. wanted_by assigned (inputs.Immutable r, o) ∷ ws) (wants_joined assigned is os)
wants_joined assigned (inputs.Shared id initial mutable ∷ is) [] = refl
wants_joined assigned (inputs.Shared id initial mutable ∷ is) (o ∷ os) = ap (λ ws. wanted_by assigned (inputs.Shared id initial mutable, o) ∷ ws) (wants_joined assigned is os)

pub wants_are : (a : Admission) (h : Held) → wants_left (assigned_of a h.digest) (named_left (Some (key_of h.cert.tx.gas)) h.cert.tx.inputs) h.cert.origins ≡ wants_of a h
unfolding wants_of
wants_are a h = wants_joined (assigned_of a h.digest) (inputs.Owned h.cert.tx.gas ∷ h.cert.tx.inputs) h.cert.origins

-- ---- nobody made what is not assigned

nobody : (held : List Version) (key : ObjectKey) → find (is_wanted key None) held ≡ None
nobody [] key = refl
nobody (v ∷ vs) key = nobody vs key

pub nobody_made : (held : List Version) (w : Wanted) → w.producer ≡ None → None ≡ found held w
nobody_made held w is = sym (ap (λ p. option_map object_in (find (is_wanted w.key p) held)) is ∙ ap (option_map object_in) (nobody held w.key))
