-- The loop over the versions that a certificate's transaction wants: its gas coin, and then what its inputs name.
use Rattle.std.specs.Prelude.{List, [], ◌∷◌, filter, map, Option, Some, None}
use Rattle.digest_core.specs.declared.Digest.{Digest}
use Rattle.chain_types.specs.declared.transactions.Input.{Input}
use Rattle.chain_types.specs.declared.transactions.Input.TheVariants as inputs
use Rattle.protocol_spec.specs.declared.answers.Assigned.{Assigned}
use Rattle.chain_types.specs.declared.objects.ObjectKey.{ObjectKey}
use Rattle.chain_types.specs.Digests.{is_object, key_of}
use Rattle.protocol_spec.specs.Member.Versions.{Version}
use Rattle.protocol_spec.specs.Member.Rounds.{Wanted, assigned_id, wanted_as, wanted_version}
use Rattle.exec_plan.specs.declared.inputs.Named.{Named}
use Rattle.exec_plan.specs.declared.inputs.Named.TheVariants as named

abbrev pub named_in : Input → Named
named_in (inputs.Pure bytes) = named.Shared (record { 0 = record { 0 = [] } }) 0
named_in (inputs.Owned r) = named.Version (key_of r)
named_in (inputs.Immutable r) = named.Version (key_of r)
named_in (inputs.Shared id initial mutable) = named.Shared id initial

-- the version wanted for a named object of this origin; for a shared one the assigned version
abbrev pub want_of : Option (List Assigned) → Named → Option Digest → Wanted
want_of assigned (named.Version key) origin = wanted_version key origin
want_of assigned (named.Shared id initial) origin = wanted_as id initial (assigned_id assigned id)

-- the objects that are left: the gas coin's version, if it is there, and what these inputs name
abbrev pub named_left : Option ObjectKey → List Input → List Named
named_left None inputs = map named_in (filter is_object inputs)
named_left (Some key) inputs = named.Version key ∷ map named_in (filter is_object inputs)

-- the versions wanted for these objects, each with its origin
abbrev pub wants_left : Option (List Assigned) → List Named → List (Option Digest) → List Wanted
wants_left assigned [] origins = []
wants_left assigned (n ∷ ns) [] = []
wants_left assigned (n ∷ ns) (o ∷ os) = want_of assigned n o ∷ wants_left assigned ns os
