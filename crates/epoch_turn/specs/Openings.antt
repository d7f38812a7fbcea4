-- How the next epoch opens with what this one changed.
use Rattle.std.specs.Prelude.{List, [], ◌∷◌, ◌++◌}
use Rattle.chain_types.specs.declared.objects.Object.{Object}
use Rattle.chain_types.specs.declared.objects.ObjectId.{ObjectId}
use Rattle.protocol_spec.specs.Member.Versions.{live}
use Rattle.version_assign.specs.declared.changes.Change.{Change}
use Rattle.version_assign.specs.Sharing.{KeepsShared}
use Rattle.version_store.specs.Changed.{IsSingle}
use Rattle.version_store.specs.Stores.{Stored}

-- an admission's opening objects are the shared ones of the epoch's, which have distinct ids as far as look-ups say
abbrev pub Opens : List Object → List Object → Type 0
Opens kept opening = KeepsShared kept opening × IsSingle opening

-- the change of an id: the live object, or none
abbrev pub change_in : Stored → ObjectId → Change
change_in s id = record { id = id; lives = live s.opening s.executed id }

-- loop: the changes so far, and after them those of these ids
abbrev pub changes_after : Stored → List Change → List ObjectId → List Change
changes_after s changes [] = changes
changes_after s changes (id ∷ ids) = changes_after s (changes ++ change_in s id ∷ []) ids
