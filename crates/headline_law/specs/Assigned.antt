-- The versions of shared objects along an admitted list. Source: Sui Lutris (shared versions).
use Rattle.std.specs.Prelude.{◌≡◌, ◌<◌, ℕ, true, List, []}
use Rattle.chain_types.specs.declared.objects.Object.{Object}
use Rattle.protocol_spec.specs.declared.answers.Assigned.{Assigned}
use Rattle.protocol_spec.specs.Chain.Words.{Has, Along}
use Rattle.protocol_spec.specs.Chain.Certificates.{Rules}
use Rattle.protocol_spec.specs.Member.Admission.{Admitted}
use Rattle.protocol_spec.specs.Member.Sequence.{seen}

-- what is assigned to this transaction is above what was assigned, of the same object, to each one before it that writes it
abbrev pub IsAssignedAbove : List Admitted → Admitted → Type 0
IsAssignedAbove before b = (a : Admitted) → Has before a → (u v : Assigned) → Has a.assigned u → Has b.assigned v → u.id ≡ v.id → u.mutable ≡ true → u.version < v.version

-- in every sequence, whatever its entries are, each admitted transaction is assigned versions above those of the
-- writers before it: so a version is assigned to at most one transaction that writes it
abbrev pub AssignedVersionsRise : Type 0
AssignedVersionsRise = (r : Rules) (opening : List Object) (epoch : ℕ) (entries : List (List ℕ)) → Along IsAssignedAbove [] (seen r opening epoch entries).admission.admitted
