-- What sequential execution does not touch.
use Rattle.std.specs.Prelude.{◌≡◌, false, List, Option, Some, None}
use Rattle.std.specs.FinMap.{get}
use Rattle.chain_types.specs.declared.objects.ObjectId.{ObjectId}
use Rattle.chain_types.specs.declared.transactions.Transaction.{Transaction}
use Rattle.effects_core.specs.declared.effects.Effects.{Effects}
use Rattle.protocol_spec.specs.Chain.Words.{Each}
use Rattle.protocol_spec.specs.Chain.Tests.{has_id}
use Rattle.protocol_spec.specs.Chain.Keys.{named_ids}
use Rattle.protocol_spec.specs.Member.Sequential.{Objects, fold_all}
use Rattle.block_law.specs.Names.{drawn_ids}

-- a transaction names the id neither as its gas coin nor as an input
abbrev pub NamesNot : ObjectId → Transaction → Type 0
NamesNot id t = has_id (named_ids t) id ≡ false

-- an execution did not draw this id; true of a transaction without effects
abbrev pub DrawsNot : ObjectId → Option Effects → Type 0
DrawsNot id None = Unit {0}
DrawsNot id (Some e) = has_id (drawn_ids e.tx e.created) id ≡ false

-- what stands under an id that no transaction of the list names, and that none of their executions drew, stands
-- there in the end
abbrev pub UntouchedObjectsStay : Type 0
UntouchedObjectsStay =
    (m : Objects) (txs : List Transaction) (id : ObjectId) →
    Each (NamesNot id) txs →
    Each (DrawsNot id) (fold_all m txs).effects →
    get (fold_all m txs).map id ≡ get m id
