-- The shared objects with which the next epoch opens, by what the epoch changed. Source: Sui Lutris.
use Rattle.std.specs.Prelude.{◌≡◌, true, List, [], ◌∷◌, Option, Some, None, if◌then◌else◌}
use Rattle.std.specs.Map.{lookup}
use Rattle.chain_types.specs.declared.objects.Object.{Object}
use Rattle.chain_types.specs.declared.objects.ObjectId.{ObjectId}
use Rattle.chain_types.specs.Equal.{id_eq}
use Rattle.protocol_spec.specs.Chain.Keys.{is_shared}
use Rattle.protocol_spec.specs.Chain.Words.{Each}
use Rattle.protocol_spec.specs.Member.Admission.{nothing_admitted, opening_object}
use Rattle.version_assign.specs.declared.changes.Change.{Change}
use Rattle.version_assign.specs.Calls.{Admitting}
use Rattle.version_assign.specs.Sharing.{if_shared}

-- a live object stands under its own id
abbrev pub HasId : ObjectId → Option Object → Type 0
HasId id None = Unit {0}
HasId id (Some o) = o.id ≡ id

abbrev pub IsOwn : Change → Type 0
IsOwn c = HasId c.id c.lives

-- the shared object under an id after a change, if it was `o` before
abbrev pub changed_at : Change → ObjectId → Option Object → Option Object
changed_at c id o = if id_eq id c.id then if_shared c.lives else o

abbrev pub changed_by : List Change → ObjectId → Option Object → Option Object
changed_by [] id o = o
changed_by (c ∷ cs) id o = changed_by cs id (changed_at c id o)

-- ---- tables of shared objects

abbrev pub Shelved : Type 0
Shelved = List (ObjectId × Object)

-- what a table has under an id, if anything, is a shared object of this id
abbrev pub IsSharedUnder : ObjectId → Option Object → Type 0
IsSharedUnder id None = Unit {0}
IsSharedUnder id (Some o) = (o.id ≡ id) × (is_shared o.owner ≡ true)

abbrev pub AreShared : Shelved → Type 0
AreShared entries = (id : ObjectId) → IsSharedUnder id (lookup (id_eq id) entries)

abbrev pub Puts : Shelved → Shelved → ObjectId → Option Object → Type 0
Puts old new id o = (q : ObjectId) → lookup (id_eq q) new ≡ (if id_eq q id then o else lookup (id_eq q) old)

abbrev pub Changes : Shelved → Shelved → List Change → Type 0
Changes old new changes = (q : ObjectId) → lookup (id_eq q) new ≡ changed_by changes q (lookup (id_eq q) old)

-- loop: applying the remaining changes to the table as it is now gives what all changes give from the old one
pub record ChangesOn (old now : Shelved) (all rest : List Change) : Type 0 where
  pub own : Each IsOwn rest
  pub shared : AreShared now
  pub changes : (q : ObjectId) → changed_by rest q (lookup (id_eq q) now) ≡ changed_by all q (lookup (id_eq q) old)

-- ---- the next epoch's admission: nothing has come yet, and the opening objects are those after the changes
pub record Renews (old new : Admitting) (changes : List Change) : Type 0 where
  pub nothing : new.admission ≡ nothing_admitted
  pub opening : (id : ObjectId) → opening_object new.opening id ≡ changed_by changes id (opening_object old.opening id)
