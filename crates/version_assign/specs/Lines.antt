-- A line for each shared object that a certificate named: its current version with the writer, and its writers since
-- the mark. Source: Sui Lutris (shared versions); that writers are counted from mark to mark is this profile's own.
use Rattle.std.specs.Prelude.{ℕ, ◌+◌, nat_lt, max, Bool, true, false, List, [], ◌∷◌, ◌++◌, fold, Option, Some, None, is_some, unwrap_or, if◌then◌else◌}
use Rattle.std.specs.List.{list_all}
use Rattle.std.specs.Map.{lookup}
use Rattle.indexmap.specs.IndexMap.{insert_entry}
use Rattle.digest_core.specs.declared.Digest.{Digest}
use Rattle.chain_types.specs.declared.objects.Object.{Object}
use Rattle.chain_types.specs.declared.objects.ObjectId.{ObjectId}
use Rattle.chain_types.specs.declared.objects.Producer.TheVariants as producers
use Rattle.chain_types.specs.declared.transactions.Input.{Input}
use Rattle.chain_types.specs.declared.transactions.Input.TheVariants as inputs
use Rattle.chain_types.specs.Equal.{id_eq}
use Rattle.chain_types.specs.Digests.{is_object}
use Rattle.protocol_spec.specs.declared.answers.Assigned.{Assigned}
use Rattle.protocol_spec.specs.Member.Admission.{Standing, assigned_to, begins}
use Rattle.version_assign.specs.declared.lines.Line.{Line}

abbrev pub LineMap : Type 0
LineMap = List (ObjectId × Line)

-- the line of an object that no certificate has named
abbrev pub no_line : Line
no_line = record { standing = None; writers = 0 }

abbrev pub line_at : LineMap → ObjectId → Line
line_at lines id = unwrap_or (lookup (id_eq id) lines) no_line

abbrev pub has_line : LineMap → ObjectId → Bool
has_line lines id = is_some (lookup (id_eq id) lines)

-- each of these objects has a line
abbrev pub are_lined : LineMap → List Assigned → Bool
are_lined lines assigned = list_all (λ (x : Assigned). has_line lines x.id) assigned

-- ---- the version that an object has, before a transaction

-- what a shared input is assigned if its certificate is the first to name the object
abbrev pub begun : List Object → (Input × Option Digest) → Option Assigned
begun opening (inputs.Pure bytes, origin) = None
begun opening (inputs.Owned r, origin) = None
begun opening (inputs.Immutable r, origin) = None
begun opening (inputs.Shared id initial mutable, origin) = Some (assigned_to (begins opening id initial origin) id mutable)

abbrev pub standing_as : Assigned → Option Standing → Assigned
standing_as x None = x
standing_as x (Some s) = assigned_to s x.id x.mutable

-- the assignment with the current version and its writer, if the object's line has them
abbrev pub filled : LineMap → Assigned → Assigned
filled lines x = standing_as x (line_at lines x.id).standing

-- an owned or immutable input's version
abbrev pub named_version : Input → ℕ
named_version (inputs.Pure bytes) = 0
named_version (inputs.Owned r) = r.version
named_version (inputs.Immutable r) = r.version
named_version (inputs.Shared id initial mutable) = 0

abbrev pub greater_named : ℕ → Input → ℕ
greater_named greatest i = max greatest (named_version i)

abbrev pub greater_assigned : ℕ → Assigned → ℕ
greater_assigned greatest x = max greatest x.version

abbrev pub greatest_of : ℕ → List Input → List Assigned → ℕ
greatest_of gas is assigned = fold greater_assigned (fold greater_named gas is) assigned

-- ---- how an admitted transaction moves the objects

abbrev pub one_more : ℕ → ℕ
one_more n = if nat_lt n 4294967295 then n + 1 else n

-- the line of an object after an admitted transaction, by whether that writes it: it is at the transaction's version
-- with one more writer, or at the version that was read
abbrev pub moved : Bool → ℕ → Digest → Assigned → Line → Line
moved true version tx x line = record { standing = Some (version, producers.Tx tx); writers = one_more line.writers }
moved false version tx x line = record { standing = Some (x.version, x.writer); writers = line.writers }

abbrev pub move_one : ℕ → Digest → LineMap → Assigned → LineMap
move_one version tx lines x = insert_entry id_eq lines x.id (moved x.mutable version tx x (line_at lines x.id))

abbrev pub move_all : ℕ → Digest → LineMap → List Assigned → LineMap
move_all version tx lines assigned = fold (move_one version tx) lines assigned

-- ---- after a mark

abbrev pub cleared : Line → Line
cleared line = record { standing = line.standing; writers = 0 }

abbrev pub clear_one : LineMap → Assigned → LineMap
clear_one lines x = insert_entry id_eq lines x.id (cleared (line_at lines x.id))

abbrev pub clear_all : LineMap → List Assigned → LineMap
clear_all lines assigned = fold clear_one lines assigned

-- ---- the loop of `begun` over a certificate's inputs

abbrev pub pushed : List Assigned → Option Assigned → List Assigned
pushed all None = all
pushed all (Some x) = all ++ x ∷ []

abbrev pub with_origin : List Assigned → List (Option Digest) → (Option Digest → List (Option Digest) → List Assigned) → List Assigned
with_origin all [] next = all
with_origin all (o ∷ os) next = next o os

-- the list so far, and after it `begun` of each input with its origin
abbrev pub begun_after : List Object → List Assigned → List Input → List (Option Digest) → List Assigned
begun_after opening all [] os = all
begun_after opening all (i ∷ is) os =
    if is_object i then with_origin all os (λ o more. begun_after opening (pushed all (begun opening (i, o))) is more) else begun_after opening all is os

-- of a whole certificate: the first origin is that of the gas coin, and is passed over
abbrev pub begun_behind : List Object → List Input → List (Option Digest) → List Assigned
begun_behind opening is [] = []
begun_behind opening is (o ∷ os) = begun_after opening [] is os
