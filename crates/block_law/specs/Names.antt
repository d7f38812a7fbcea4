-- The ids that a transaction draws, and those that its effects name.
use Rattle.std.specs.Prelude.{◌≡◌, ℕ, true, false, List, ◌++◌, map}
use Rattle.digest_core.specs.declared.Digest.{Digest}
use Rattle.digest_core.specs.Tagged.{created_id_of}
use Rattle.chain_types.specs.declared.objects.ObjectId.{ObjectId}
use Rattle.chain_types.specs.declared.objects.Object.{Object}
use Rattle.chain_types.specs.declared.transactions.Transaction.{Transaction}
use Rattle.effects_core.specs.declared.effects.Effects.{Effects}
use Rattle.effects_core.specs.declared.effects.Written.{Written}
use Rattle.chain_types.specs.Equal.{id_eq}
use Rattle.protocol_spec.specs.Chain.Words.{numbers_below, repeats}
use Rattle.protocol_spec.specs.Chain.Tests.{has_id}
use Rattle.protocol_spec.specs.Chain.Keys.{fits, named_ids}
use Rattle.protocol_spec.specs.Block.Execution.{execution}

abbrev pub drawn_id : Digest → ℕ → ObjectId
drawn_id tx n = record { 0 = created_id_of tx n }

-- the first ids that a transaction draws
abbrev pub drawn_ids : Digest → ℕ → List ObjectId
drawn_ids tx count = map (drawn_id tx) (numbers_below count)

-- the ids that it may touch: those that it names, and those that it drew
abbrev pub touched_ids : Transaction → Effects → List ObjectId
touched_ids t e = named_ids t ++ drawn_ids e.tx e.created

-- the ids of written and of deleted objects
abbrev pub effect_ids : Effects → List ObjectId
effect_ids e = map (λ (w : Written). w.id) e.written ++ e.deleted

-- if no drawn id is another or a named one, no id is written twice, deleted twice, or written and deleted
abbrev pub EffectsNameEachIdOnce : Type 0
EffectsNameEachIdOnce =
    (t : Transaction) (objects : List Object) → fits t objects ≡ true →
    repeats id_eq (touched_ids t (execution t objects).effects) ≡ false →
    repeats id_eq (effect_ids (execution t objects).effects) ≡ false

-- effects write and delete only ids that the transaction may touch
abbrev pub EffectsNameWhatIsTouched : Type 0
EffectsNameWhatIsTouched =
    (t : Transaction) (objects : List Object) → fits t objects ≡ true → (id : ObjectId) →
    has_id (touched_ids t (execution t objects).effects) id ≡ false →
    has_id (effect_ids (execution t objects).effects) id ≡ false
