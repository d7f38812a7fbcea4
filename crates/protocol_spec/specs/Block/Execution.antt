-- The execution of a transaction on the objects that fit it. Source: Sui documentation (programmable
-- transaction blocks, gas); what a failed block writes is this profile's own.
use Rattle.std.specs.Prelude.{ℕ, suc, ◌+◌, ◌-◌, min, Bool, true, false, List, [], ◌∷◌, ◌++◌, map, length, find, filter_map, Option, Some, None, option_map, Result, Ok, Err, if◌then◌else◌}
use Rattle.std.specs.List.{list_any}
use Rattle.digest_core.specs.declared.Digest.{Digest}
use Rattle.digest_core.specs.Tagged.{created_id_of}
use Rattle.chain_types.specs.declared.objects.ObjectId.{ObjectId}
use Rattle.chain_types.specs.declared.objects.ObjectKey.{ObjectKey}
use Rattle.chain_types.specs.declared.objects.Object.{Object}
use Rattle.chain_types.specs.declared.objects.Owner.{Owner}
use Rattle.chain_types.specs.declared.transactions.Input.{Input}
use Rattle.chain_types.specs.declared.transactions.Input.TheVariants as inputs
use Rattle.chain_types.specs.declared.transactions.Command.{Command}
use Rattle.chain_types.specs.declared.transactions.Transaction.{Transaction}
use Rattle.effects_core.specs.declared.effects.Status.{Status}
use Rattle.effects_core.specs.declared.effects.Status.TheVariants as status
use Rattle.effects_core.specs.declared.effects.Written.{Written}
use Rattle.protocol_spec.specs.declared.pieces.Item.{Item}
use Rattle.protocol_spec.specs.declared.pieces.Placed.{Placed}
use Rattle.protocol_spec.specs.declared.pieces.Executed.{Executed}
use Rattle.chain_types.specs.Equal.{id_eq}
use Rattle.chain_types.specs.Digests.{transaction_digest, digest_of_object}
use Rattle.protocol_spec.specs.Chain.Words.{numbers_below}
use Rattle.protocol_spec.specs.Chain.Keys.{version_of, object_key}
use Rattle.protocol_spec.specs.Chain.Shape.{cost}
use Rattle.protocol_spec.specs.Block.Natives.{amount_limit, amount_of, with_amount}
use Rattle.protocol_spec.specs.Block.Block.{Place, gas, input, result, Value, pure, object, Slot, Block, value_in}
use Rattle.protocol_spec.specs.Block.Commands.{Fault, cause, abort, command_step, piece_of}

-- ---- the block before the first command

abbrev pub item_of : Object → Item
item_of o = record { id = o.id; content = o.content; fresh = false }

-- the gas coin shows its balance less the budget
abbrev pub gas_item : Transaction → Object → Item
gas_item t o = record { id = o.id; content = with_amount (amount_of o.content - t.budget) o.content; fresh = false }

-- each input with its number and its object, if it names one
abbrev pub input_slots : ℕ → List Input → List Object → List Slot
input_slots n [] os = []
input_slots n (inputs.Pure bytes ∷ is) os = record { place = input n; value = Some (pure bytes) } ∷ input_slots (suc n) is os
input_slots n (i ∷ is) [] = []
input_slots n (i ∷ is) (o ∷ os) = record { place = input n; value = Some (object (item_of o)) } ∷ input_slots (suc n) is os

abbrev pub first_slots : Transaction → List Object → List Slot
first_slots t [] = []
first_slots t (coin ∷ os) = record { place = gas; value = Some (object (gas_item t coin)) } ∷ input_slots 0 t.inputs os

abbrev pub first_block : Transaction → List Object → Block
first_block t objects = record { slots = first_slots t objects; placed = []; made = 0 }

-- ---- the commands in order

-- why a block failed: the number of the command, and the fault
abbrev pub Failure : Type 0
Failure = ℕ × Fault

abbrev pub commands_next : Transaction → Digest → ℕ → ℕ → (Block → Result Block Failure) → Result Block Fault → Result Block Failure
commands_next t tx version c next (Ok b) = next b
commands_next t tx version c next (Err fault) = Err (c, fault)

abbrev pub commands_from : Transaction → Digest → ℕ → ℕ → List Command → Block → Result Block Failure
commands_from t tx version c [] b = Ok b
commands_from t tx version c (x ∷ xs) b = commands_next t tx version c (commands_from t tx version (suc c) xs) (command_step t tx version c b x)

-- 12: a result place still holds a value
abbrev pub is_left : Place → Option Value → Bool
is_left gas v = false
is_left (input n) v = false
is_left (result c k) None = false
is_left (result c k) (Some v) = true

abbrev pub is_unused : Slot → Bool
is_unused s = is_left s.place s.value

abbrev pub none_unused : Transaction → Block → Result Block Failure
none_unused t b = if list_any is_unused b.slots then Err (length t.commands, cause 12) else Ok b

abbrev pub checked_end : Transaction → Result Block Failure → Result Block Failure
checked_end t (Ok b) = none_unused t b
checked_end t (Err failure) = Err failure

-- the block after its commands, or why it failed
unfoldable pub outcome : Transaction → Digest → List Object → Result Block Failure
outcome t tx objects = checked_end t (commands_from t tx (version_of objects) 0 t.commands (first_block t objects))

-- ---- the objects that a block leaves

-- an item as an object of this owner, at the version of the transaction
abbrev pub object_at : ℕ → Owner → Item → Object
object_at version who item = record { id = item.id; version = version; owner = who; content = item.content }

-- an object that left the block
abbrev pub left_in : ℕ → List Placed → ObjectId → Option Object
left_in version placed id = option_map (λ (p : Placed). object_at version p.owner p.item) (find (λ (p : Placed). id_eq p.item.id id) placed)

-- an object in its place keeps its owner; one whose place is spent is where it went, or is deleted
abbrev pub now_in : ℕ → List Placed → Object → Option Item → Option Object
now_in version placed o (Some item) = Some (object_at version o.owner item)
now_in version placed o None = left_in version placed o.id

abbrev pub after_block : ℕ → Block → Place → Object → Option Object
after_block version b p o = now_in version b.placed o (piece_of (value_in p b.slots))

-- the places that are written: gas, the owned inputs and the mutable shared ones, each with its object
abbrev pub is_written : Input → Bool
is_written (inputs.Pure bytes) = false
is_written (inputs.Owned r) = true
is_written (inputs.Immutable r) = false
is_written (inputs.Shared id initial mutable) = mutable

abbrev pub written_inputs : ℕ → List Input → List Object → List (Place × Object)
written_inputs n [] os = []
written_inputs n (inputs.Pure bytes ∷ is) os = written_inputs (suc n) is os
written_inputs n (i ∷ is) [] = []
written_inputs n (i ∷ is) (o ∷ os) = if is_written i then (input n, o) ∷ written_inputs (suc n) is os else written_inputs (suc n) is os

abbrev pub written_places : Transaction → List Object → List (Place × Object)
written_places t [] = []
written_places t (coin ∷ os) = (gas, coin) ∷ written_inputs 0 t.inputs os

-- the objects that the block created and that left it, by number
abbrev pub created_objects : Digest → ℕ → Block → List Object
created_objects tx version b = filter_map (λ n. left_in version b.placed (record { 0 = created_id_of tx n })) (numbers_below b.made)

-- at the end the budget less the cost goes back to the gas coin, whoever owns it then, up to the largest amount
-- that there is. A Merge counts the withheld budget, so the bound can be met only if another object has the
-- gas coin's id: if ids are apart, the conservation of money shows that it is not
abbrev pub with_rest : Transaction → Object → Object
with_rest t o = record o { content = with_amount (min (amount_of o.content + (t.budget - cost t)) (amount_limit - 1)) o.content }

abbrev pub with_rest_first : Transaction → List Object → List Object
with_rest_first t [] = []
with_rest_first t (coin ∷ os) = with_rest t coin ∷ os

-- what a block that succeeded leaves: gas coin, inputs in order, created ones by number
abbrev pub done_objects : Transaction → Digest → List Object → Block → List Object
done_objects t tx objects b =
    with_rest_first t (filter_map (λ (x : Place × Object). after_block (version_of objects) b x.0 x.1) (written_places t objects))
    ++ created_objects tx (version_of objects) b

abbrev pub is_none_left : Option Object → Bool
is_none_left None = true
is_none_left (Some o) = false

abbrev pub deleted_id : ℕ → Block → (Place × Object) → Option ObjectId
deleted_id version b x = if is_none_left (after_block version b x.0 x.1) then Some x.1.id else None

-- the inputs that are deleted, in input order
abbrev pub deleted_ids : Transaction → List Object → Block → List ObjectId
deleted_ids t objects b = filter_map (deleted_id (version_of objects) b) (written_places t objects)

-- what a block that failed leaves: the same objects, and the gas coin less the cost
abbrev pub same_object : ℕ → Object → Object
same_object version o = record o { version = version }

abbrev pub less_cost : Transaction → Object → Object
less_cost t o = record o { content = with_amount (amount_of o.content - cost t) o.content }

abbrev pub less_cost_first : Transaction → List Object → List Object
less_cost_first t [] = []
less_cost_first t (coin ∷ os) = less_cost t coin ∷ os

abbrev pub failed_objects : Transaction → List Object → List Object
failed_objects t objects = less_cost_first t (map (λ (x : Place × Object). same_object (version_of objects) x.1) (written_places t objects))

-- ---- effects

abbrev pub written_of : Object → Written
written_of o = record { id = o.id; owner = o.owner; digest = digest_of_object o }

abbrev pub failed_status : Failure → Status
failed_status (c, cause n) = status.Failed c n
failed_status (c, abort n) = status.Aborted c n

abbrev pub executed_as : Transaction → Digest → ℕ → Status → ℕ → List Object → List ObjectId → Executed
executed_as t tx version how made objects deleted = record {
  effects = record { tx = tx; status = how; version = version; gas = cost t; created = made; written = map written_of objects; deleted = deleted };
  objects = objects;
}

abbrev pub executed_by : Transaction → Digest → List Object → Result Block Failure → Executed
executed_by t tx objects (Ok b) = executed_as t tx (version_of objects) status.Done b.made (done_objects t tx objects b) (deleted_ids t objects b)
executed_by t tx objects (Err failure) = executed_as t tx (version_of objects) (failed_status failure) 0 (failed_objects t objects) []

-- the effects of a transaction on objects that fit it, and the objects that it writes
unfoldable pub execution : Transaction → List Object → Executed
execution t objects = executed_by t (transaction_digest t) objects (outcome t (transaction_digest t) objects)

-- the keys that an execution writes
abbrev pub written_keys : Executed → List ObjectKey
written_keys x = map object_key x.objects
