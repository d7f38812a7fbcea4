-- Loops that collect what a block leaves: written objects, deleted ids, created objects, and the list in the effects.
use Rattle.std.specs.Prelude.{ℕ, zero, suc, List, [], ◌∷◌, ◌++◌, Option, Some, None}
use Rattle.digest_core.specs.declared.Digest.{Digest}
use Rattle.digest_core.specs.Tagged.{created_id_of}
use Rattle.chain_types.specs.declared.objects.ObjectId.{ObjectId}
use Rattle.chain_types.specs.declared.objects.Object.{Object}
use Rattle.effects_core.specs.declared.effects.Written.{Written}
use Rattle.protocol_spec.specs.Block.Block.{Block}
use Rattle.protocol_spec.specs.Block.Execution.{same_object, written_of}
use Rattle.ptb_run.specs.declared.written.Moved.{Moved}
use Rattle.ptb_run.specs.Left.{Left, moved_now, object_left}

abbrev pub with_object : List Object → Option Object → List Object
with_object objects None = objects
with_object objects (Some o) = objects ++ o ∷ []

abbrev pub kept_after : ℕ → Left → Block → List Object → List Moved → List Object
kept_after version left b objects [] = objects
kept_after version left b objects (m ∷ rest) = kept_after version left b (with_object objects (moved_now version left b m)) rest

abbrev pub with_gone : List ObjectId → ObjectId → Option Object → List ObjectId
with_gone ids id None = ids ++ id ∷ []
with_gone ids id (Some o) = ids

abbrev pub gone_after : ℕ → Left → Block → List ObjectId → List Moved → List ObjectId
gone_after version left b ids [] = ids
gone_after version left b ids (m ∷ rest) = gone_after version left b (with_gone ids m.object.id (moved_now version left b m)) rest

-- the created objects with a creation number below this one, by number: those that left the block
abbrev pub created_below : Digest → ℕ → Left → ℕ → List Object
created_below tx version left zero = []
created_below tx version left (suc n) = with_object (created_below tx version left n) (object_left version left (record { 0 = created_id_of tx n }))

abbrev pub same_after : ℕ → List Object → List Moved → List Object
same_after version objects [] = objects
same_after version objects (m ∷ rest) = same_after version (objects ++ same_object version m.object ∷ []) rest

abbrev pub listed_after : List Written → List Object → List Written
listed_after written [] = written
listed_after written (o ∷ rest) = listed_after (written ++ written_of o ∷ []) rest
