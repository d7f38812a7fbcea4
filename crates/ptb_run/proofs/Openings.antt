-- The places of the inputs are those of the definition.
use Rattle.std.proofs.Common.{◌≡◌, ℕ, suc, ◌+◌, List, [], ◌∷◌, ◌++◌, length, Option, Some, refl, ap, sym, ◌∙◌, append-nil, append_assoc, add-one}
use Rattle.chain_types.specs.declared.objects.Object.{Object}
use Rattle.chain_types.specs.declared.transactions.Input.{Input}
use Rattle.chain_types.specs.declared.transactions.Input.TheVariants as inputs
use Rattle.chain_types.specs.declared.transactions.Transaction.{Transaction}
use Rattle.protocol_spec.specs.declared.pieces.Placed.{Placed}
use Rattle.protocol_spec.specs.Block.Block as block
use Rattle.protocol_spec.specs.Block.Execution as execution
use Rattle.ptb_run.specs.declared.value.Value.{Value}
use Rattle.ptb_run.specs.declared.value.Value.TheVariants as values
use Rattle.ptb_run.specs.declared.block.Block.{Block}
use Rattle.ptb_run.specs.Blocks.{block_of, rows_of}
use Rattle.ptb_run.specs.Opening.{cells_after}
use Rattle.ptb_run.specs.Slots.{all_slots, input_row, slots_of}

cells : List Input → List Object → List (Option Value)
cells [] os = []
cells (inputs.Pure bytes ∷ is) os = Some (values.Pure bytes) ∷ cells is os
cells (inputs.Owned r ∷ is) [] = []
cells (inputs.Immutable r ∷ is) [] = []
cells (inputs.Shared id initial mutable ∷ is) [] = []
cells (inputs.Owned r ∷ is) (o ∷ os) = Some (values.Object (execution.item_of o)) ∷ cells is os
cells (inputs.Immutable r ∷ is) (o ∷ os) = Some (values.Object (execution.item_of o)) ∷ cells is os
cells (inputs.Shared id initial mutable ∷ is) (o ∷ os) = Some (values.Object (execution.item_of o)) ∷ cells is os

more : (front : List (Option Value)) (v : Option Value) (rest back : List (Option Value)) → back ≡ (front ++ v ∷ []) ++ rest → back ≡ front ++ (v ∷ rest)
more front v rest back e = e ∙ append_assoc front (v ∷ []) rest

cells_from : (front : List (Option Value)) (is : List Input) (os : List Object) → cells_after front is os ≡ front ++ cells is os
unfolding cells
cells_from front [] os = sym (append-nil front)
cells_from front (inputs.Pure bytes ∷ is) os = more front (Some (values.Pure bytes)) (cells is os) _ (cells_from (front ++ Some (values.Pure bytes) ∷ []) is os)
cells_from front (inputs.Owned r ∷ is) [] = sym (append-nil front)
cells_from front (inputs.Immutable r ∷ is) [] = sym (append-nil front)
cells_from front (inputs.Shared id initial mutable ∷ is) [] = sym (append-nil front)
cells_from front (inputs.Owned r ∷ is) (o ∷ os) = more front (Some (values.Object (execution.item_of o))) (cells is os) _ (cells_from (front ++ Some (values.Object (execution.item_of o)) ∷ []) is os)
cells_from front (inputs.Immutable r ∷ is) (o ∷ os) = more front (Some (values.Object (execution.item_of o))) (cells is os) _ (cells_from (front ++ Some (values.Object (execution.item_of o)) ∷ []) is os)
cells_from front (inputs.Shared id initial mutable ∷ is) (o ∷ os) = more front (Some (values.Object (execution.item_of o))) (cells is os) _ (cells_from (front ++ Some (values.Object (execution.item_of o)) ∷ []) is os)

one_slot : (n : ℕ) (v : block.Value) (is : List Input) (os : List Object) → input_row (n + 1) (cells is os) ≡ execution.input_slots (n + 1) is os
    → record { place = block.input n; value = Some v } ∷ input_row (n + 1) (cells is os) ≡ record { place = block.input n; value = Some v } ∷ execution.input_slots (suc n) is os
one_slot n v is os e =
    ap (λ (l : List block.Slot). record { place = block.input n; value = Some v } ∷ l) (e ∙ ap (λ (m : ℕ). execution.input_slots m is os) (add-one n))

slots_are : (n : ℕ) (is : List Input) (os : List Object) → input_row n (cells is os) ≡ execution.input_slots n is os
unfolding cells
slots_are n [] os = refl
slots_are n (inputs.Pure bytes ∷ is) os = one_slot n (block.pure bytes) is os (slots_are (n + 1) is os)
slots_are n (inputs.Owned r ∷ is) [] = refl
slots_are n (inputs.Immutable r ∷ is) [] = refl
slots_are n (inputs.Shared id initial mutable ∷ is) [] = refl
slots_are n (inputs.Owned r ∷ is) (o ∷ os) = one_slot n (block.object (execution.item_of o)) is os (slots_are (n + 1) is os)
slots_are n (inputs.Immutable r ∷ is) (o ∷ os) = one_slot n (block.object (execution.item_of o)) is os (slots_are (n + 1) is os)
slots_are n (inputs.Shared id initial mutable ∷ is) (o ∷ os) = one_slot n (block.object (execution.item_of o)) is os (slots_are (n + 1) is os)

pub opened : (t : Transaction) (gas : Object) (others : List Object) (b : Block)
    → b.slots.gas ≡ Some (values.Object (execution.gas_item t gas)) → b.slots.inputs ≡ cells_after [] t.inputs others → b.slots.results.items ≡ [] → b.placed ≡ [] → b.made ≡ 0
    → block_of b ≡ execution.first_block t (gas ∷ others)
unfolding block_of slots_of
opened t gas others b is_gas are none left zero =
    ap (λ (l : List Placed). record { slots = all_slots b.slots.gas b.slots.inputs b.slots.results.items; placed = l; made = b.made }) left
    ∙ ap (λ (n : ℕ). record { slots = all_slots b.slots.gas b.slots.inputs b.slots.results.items; placed = []; made = n }) zero
    ∙ ap (λ (v : Option Value). record { slots = all_slots v b.slots.inputs b.slots.results.items; placed = []; made = 0 }) is_gas
    ∙ ap (λ (r : List (List (Option Value))). record { slots = all_slots (Some (values.Object (execution.gas_item t gas))) b.slots.inputs r; placed = []; made = 0 }) none
    ∙ ap (λ (l : List block.Slot). record { slots = record { place = block.gas; value = Some (block.object (execution.gas_item t gas)) } ∷ l; placed = []; made = 0 })
    (append-nil (input_row 0 b.slots.inputs) ∙ ap (λ (l : List (Option Value)). input_row 0 l) (are ∙ cells_from [] t.inputs others) ∙ slots_are 0 t.inputs others)

pub no_rows : (b : Block) → b.slots.results.items ≡ [] → rows_of b ≡ 0
unfolding rows_of
no_rows b none = ap (λ (l : List (List (Option Value))). length l) none
