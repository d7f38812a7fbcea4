-- The set-up, line by line: the stakes, which members are honest, and the objects with which epoch 0 opens.
use Rattle.std.specs.Prelude.{ℕ, Bool, List, [], ◌∷◌, ◌++◌, length, Result, Ok, Err}
use Rattle.std.specs.List.{list_any}
use Rattle.chain_types.specs.Equal.{id_eq}
use Rattle.chain_types.specs.declared.objects.ObjectId.{ObjectId}
use Rattle.chain_types.specs.declared.objects.Object.{Object}
use Rattle.chain_types.specs.declared.objects.Content.TheVariants as content
use Rattle.quorum_core.specs.declared.committee.CommitteeRefusal.{CommitteeRefusal}
use Rattle.schedule_text.specs.declared.words.Setup.{Setup}
use Rattle.schedule_text.specs.declared.words.Setup.TheVariants as line
use Rattle.world_spec.specs.Setting.{owned_thing, shared_thing}

-- the stakes, with that of this line at the end if it makes a member
abbrev pub with_stake : List ℕ → Setup → List ℕ
with_stake stakes (line.Member stake honest) = stakes ++ stake ∷ []
with_stake stakes (line.Coin name who balance) = stakes
with_stake stakes (line.Counter name value) = stakes
with_stake stakes (line.Cap name who currency) = stakes
with_stake stakes (line.Writers n) = stakes

-- the flags, with that of this line at the end if it makes a member (true: honest)
abbrev pub with_flag : List Bool → Setup → List Bool
with_flag flags (line.Member stake honest) = flags ++ honest ∷ []
with_flag flags (line.Coin name who balance) = flags
with_flag flags (line.Counter name value) = flags
with_flag flags (line.Cap name who currency) = flags
with_flag flags (line.Writers n) = flags

-- the objects, with that of this line at the end if it makes one; its number is how many there were
abbrev pub with_object : List Object → Setup → List Object
with_object objects (line.Member stake honest) = objects
with_object objects (line.Coin name who balance) = objects ++ owned_thing (length objects) who (content.Coin 0 balance) ∷ []
with_object objects (line.Counter name value) = objects ++ shared_thing (length objects) (content.Counter value) ∷ []
with_object objects (line.Cap name who currency) = objects ++ owned_thing (length objects) who (content.Cap currency 0) ∷ []
with_object objects (line.Writers n) = objects

abbrev pub object_id : Object → ObjectId
object_id o = o.id

-- whether an id is one of these
abbrev pub has_id : List ObjectId → ObjectId → Bool
has_id ids id = list_any (id_eq id) ids

-- the set-up has no committee: no members, more than 64, or one without a stake
abbrev pub IsRefused : Result (List ℕ) CommitteeRefusal → Type 0
IsRefused (Ok stakes) = ⊥
IsRefused (Err refusal) = Unit {0}
