-- Transactions with the objects on which they are executed, in no order: each object was there as the epoch opened, or
-- another of them wrote it.
use Rattle.std.specs.Prelude.{◌≡◌, ◌⊎◌, true, false, List, zip}
use Rattle.chain_types.specs.declared.objects.ObjectId.{ObjectId}
use Rattle.chain_types.specs.declared.objects.Object.{Object}
use Rattle.chain_types.specs.declared.transactions.Input.{Input}
use Rattle.chain_types.specs.Equal.{id_eq}
use Rattle.chain_types.specs.Digests.{transaction_digest}
use Rattle.protocol_spec.specs.Chain.Words.{Has, repeats}
use Rattle.protocol_spec.specs.Chain.Keys.{objects_of, named_ids, fits}
use Rattle.block_law.specs.Names.{drawn_ids}
use Rattle.block_law.specs.Orderly.{Step, gave, Makes, IsOpening, AreApart}
use Rattle.headline_law.specs.Chained.{MayWrite}

-- of one transaction, with what it gave
pub record IsSame (x y : Step) : Type 0 where
  pub digest : transaction_digest x.tx ≡ transaction_digest y.tx
  pub given : gave x ≡ gave y

abbrev pub IsWrote : (Step → Type 0) → Object → Type 0
IsWrote Among o = (y : Step) × Among y × Has (gave y).objects o

-- an opening object, or one of them wrote it
abbrev pub IsThere : List Object → (Step → Type 0) → Object → Type 0
IsThere opening Among o = Has opening o ⊎ IsWrote Among o

-- Each object that one of them names is there, the ids that they draw are new and apart, and no two of them may write
-- one object.
pub record IsFamily (opening : List Object) (Among : Step → Type 0) : Type 0 where
  pub distinct : AreApart opening
  pub fit : (x : Step) → Among x → fits x.tx x.inputs ≡ true
  pub sources : (x : Step) → Among x → (i : Input) (o : Object) → Has (zip (objects_of x.tx) x.inputs) (i, o) → IsThere opening Among o
  pub fresh : (x : Step) → Among x → (id : ObjectId) → Makes x id → IsOpening opening id → ⊥
  pub makers : (x y : Step) → Among x → Among y → (id : ObjectId) → Makes x id → Makes y id → IsSame x y
  pub takers : (x y : Step) → Among x → Among y → (o : Object) → MayWrite x o → MayWrite y o → IsSame x y
  pub names : (x : Step) → Among x → repeats id_eq (named_ids x.tx) ≡ false
  pub draws : (x : Step) → Among x → repeats id_eq (drawn_ids (transaction_digest x.tx) (gave x).effects.created) ≡ false
