-- What all the commands of a block keep together.
use Rattle.std.proofs.Common.{refl, sym, subst, ◌∙◌}
use Rattle.std.proofs.lemmas.Bool.{eq-eqb, ne_eqb}
use Rattle.std.specs.Prelude.{◌≡◌, ◌≤◌, ◌+◌, ℕ, suc, Bool, true, false, cond, not, ◌==◌, List, [], ◌∷◌, map, length, slice_get, option_map, Option, Some, None, Result, Ok, Err}
use Rattle.std.specs.List.{list_any}
use native.Mathlib.Omega.{arith}
use Rattle.digest_core.specs.declared.Digest.{Digest}
use Rattle.chain_types.specs.declared.objects.ObjectId.{ObjectId}
use Rattle.chain_types.specs.declared.objects.Object.{Object}
use Rattle.chain_types.specs.declared.transactions.Input.{Input}
use Rattle.chain_types.specs.declared.transactions.Input.TheVariants as inputs
use Rattle.chain_types.specs.declared.transactions.Command.{Command}
use Rattle.chain_types.specs.declared.transactions.Command.TheVariants as command
use Rattle.chain_types.specs.declared.transactions.Transaction.{Transaction}
use Rattle.protocol_spec.specs.declared.pieces.Item.{Item}
use Rattle.protocol_spec.proofs.ListLemmas.{all_none}
use Rattle.protocol_spec.proofs.Truth.{map_none, where_false}
use Rattle.protocol_spec.specs.Chain.Words.{where_true, refused_or}
use Rattle.protocol_spec.specs.Chain.Keys.{version_of}
use Rattle.protocol_spec.specs.Block.Natives.{parameters_of, amount_of}
use Rattle.protocol_spec.specs.Block.Block.{input, Value, pure, object, Slot, Block, value_in}
use Rattle.protocol_spec.specs.Block.Commands.{Fault, cause, needs_of, wrong_count, is_read_only, arguments_cause, taken_cause, performed, command_step, transfer_block, vector_block, address_in}
use Rattle.protocol_spec.specs.Block.Execution.{Failure, item_of, gas_item, input_slots, first_slots, first_block, commands_from, commands_next, is_unused, checked_end, outcome}
use Rattle.block_law.specs.Names.{drawn_ids}
use Rattle.block_law.proofs.Counts.{times}
use Rattle.block_law.proofs.Slots.{block_weight, Every}
use Rattle.block_law.proofs.Reading.{all-read}
use Rattle.block_law.proofs.Amounts.{money, supply, caps, amount-same}
use Rattle.block_law.proofs.Kept.{Like, Turned, Good, Stands}
use Rattle.block_law.proofs.Steps.{counts, IsStep, ok-same, split-step, merge-step, transfer-step, vector-step}
use Rattle.block_law.proofs.Natives.{call-step}

-- ---- one command

pub refused-ok : {A E : Type 0} (r : Option E) (rest : Result A E) (y : A) → refused_or r rest ≡ Ok y → (r ≡ None) × (rest ≡ Ok y)
refused-ok None rest y e = (refl, e)
refused-ok (Some refusal) rest y e = absurd (cc)

not-false : (x : Bool) → not x ≡ false → x ≡ true
not-false true e = refl
not-false false e = absurd (cc)

module _ (t : Transaction) (tx : Digest) (version c : ℕ) (first : List Slot) (b : Block) (each : Every (Good t first b.placed) b.slots) where
  performed-step : (x : Command) (after : Block) → wrong_count x ≡ false → arguments_cause t b x [] (needs_of x) ≡ None → performed t tx version c b x ≡ Ok after → IsStep t tx first b after
  performed-step (command.Call native args) after right none e = call-step t tx version c first b each (command.Call native args) refl native args after (not-false (length args == length (parameters_of native)) right) (all-read t b (command.Call native args) [] (needs_of (command.Call native args)) none) e
  performed-step (command.Transfer values to) after right none e = subst (IsStep t tx first b) (ok-same Fault (transfer_block b values (address_in b to)) after e) (transfer-step t tx version c first b each (command.Transfer values to) values to (address_in b to) (all-read t b (command.Transfer values to) [] (needs_of (command.Transfer values to)) none))
  performed-step (command.Split coin amounts) after right none e = split-step t tx version c first b each (command.Split coin amounts) coin amounts after (all-read t b (command.Split coin amounts) [] (needs_of (command.Split coin amounts)) none) e
  performed-step (command.Merge target sources) after right none e = merge-step t tx version c first b each (command.Merge target sources) target sources after refl (all-read t b (command.Merge target sources) [] (needs_of (command.Merge target sources)) none) e
  performed-step (command.MakeVec k values) after right none e = subst (IsStep t tx first b) (ok-same Fault (vector_block c b k values) after e) (vector-step t tx version c first b each (command.MakeVec k values) k values refl (all-read t b (command.MakeVec k values) [] (needs_of (command.MakeVec k values)) none))

  pub step-is : (x : Command) (after : Block) → command_step t tx version c b x ≡ Ok after → IsStep t tx first b after
  unfolding command_step
  step-is x after e =
      let r = refused-ok (option_map cause (taken_cause t b x)) (performed t tx version c b x) after e in
      let n = all_none (where_true (wrong_count x) 11 ∷ arguments_cause t b x [] (needs_of x) ∷ []) (map_none cause (taken_cause t b x) r.0) in
      performed-step x after (where_false (wrong_count x) 11 n.0) n.1.0 r.1

-- ---- all commands

-- what is kept from the first block on
pub record IsKept (t : Transaction) (tx : Digest) (start b : Block) : Type 0 where
  pub good : Every (Good t start.slots b.placed) b.slots
  pub stands : Stands (map (λ (s : Slot). s.place) start.slots) b.slots
  pub ids : (x : ObjectId) → block_weight (counts x) b ≤ block_weight (counts x) start + times x (drawn_ids tx b.made)
  pub sums : (c : ℕ) → block_weight (money c) b + block_weight (supply c) start ≡ block_weight (money c) start + block_weight (supply c) b
  pub all_caps : (c : ℕ) → block_weight (caps c) b ≡ block_weight (caps c) start

kept-step : (t : Transaction) (tx : Digest) (start b after : Block) → IsKept t tx start b → IsStep t tx start.slots b after → IsKept t tx start after
kept-step t tx start b after kept step = record {
  good = step.good;
  stands = step.stands (map (λ (s : Slot). s.place) start.slots) kept.stands;
  ids = λ x.
      let before = kept.ids x in
      let weighs = step.weighs (counts x) in
      let drew = step.balanced.drew x in
      omega (arith, before, weighs, drew);
  sums = λ c.
      let before = kept.sums c in
      let weighs = step.weighs (money c) in
      let supplies = step.weighs (supply c) in
      let moved = step.balanced.moved c in
      omega (arith, before, weighs, supplies, moved);
  all_caps = λ c.
      let before = kept.all_caps c in
      let weighs = step.weighs (caps c) in
      let same = step.balanced.same_caps c in
      omega (arith, before, weighs, same);
}

kept-commands : (t : Transaction) (tx : Digest) (version c : ℕ) (xs : List Command) (start b after : Block) → IsKept t tx start b → commands_from t tx version c xs b ≡ Ok after → IsKept t tx start after
kept-commands t tx version c [] start b after kept e = subst (IsKept t tx start) (ok-same Failure b after e) kept
kept-commands t tx version c (x ∷ xs) start b after kept e = go (command_step t tx version c b x) refl e (λ next k f. kept-commands t tx version (suc c) xs start next after k f)
  where
    go : (r : Result Block Fault) → command_step t tx version c b x ≡ r → commands_next t tx version c (commands_from t tx version (suc c) xs) r ≡ Ok after → ((next : Block) → IsKept t tx start next → commands_from t tx version (suc c) xs next ≡ Ok after → IsKept t tx start after) → IsKept t tx start after
    go (Ok next) h e rest = rest next (kept-step t tx start b next kept (step-is t tx version c start.slots b kept.good x next h)) e
    go (Err fault) h e rest = absurd (cc)

-- ---- the first block

pub like-same : (i : Item) → Like i i
like-same i = (refl, (amount_of i.content, amount-same i.content))

turned-pure : (b : Bool) (first : Option Value) (bytes : List ℕ) → first ≡ Some (pure bytes) → Turned b first (pure bytes)
turned-pure true first bytes e = e
turned-pure false first bytes e = subst (λ (v : Option Value). Turned false v (pure bytes)) (sym e) tt

turned-object : (b : Bool) (first : Option Value) (i : Item) → first ≡ Some (object i) → Turned b first (object i)
turned-object true first i e = e
turned-object false first i e = subst (λ (v : Option Value). Turned false v (object i)) (sym e) (like-same i)

-- places from a number on are looked up after it
abbrev pub Behind : List Slot → ℕ → List Slot → Type 0
Behind whole n slots = (m : ℕ) → n ≤ m → value_in (input m) whole ≡ value_in (input m) slots

pub behind-next : (whole : List Slot) (n : ℕ) (s : Slot) (slots : List Slot) → s.place ≡ input n → Behind whole n (s ∷ slots) → Behind whole (suc n) slots
behind-next whole n s slots at behind = λ m above.
    let apart : (n == m) ≡ false = ne_eqb n m (λ e. omega (arith, above, e)) in
    let here : value_in (input m) (s ∷ slots) ≡ value_in (input m) slots = skip m apart in
    behind m (omega (arith, above)) ∙ here
  where
    skip : (m : ℕ) → (n == m) ≡ false → value_in (input m) (s ∷ slots) ≡ value_in (input m) slots
    skip m apart = rw at (rw apart refl)

pub behind-here : (whole : List Slot) (n : ℕ) (s : Slot) (slots : List Slot) → s.place ≡ input n → Behind whole n (s ∷ slots) → value_in (input n) whole ≡ s.value
behind-here whole n s slots at behind = behind n (omega arith) ∙ found
  where
    found : value_in (input n) (s ∷ slots) ≡ s.value
    found = rw at (rw (eq-eqb n n refl) refl)

first-good : (t : Transaction) (whole : List Slot) (n : ℕ) (is : List Input) (os : List Object) → Behind whole n (input_slots n is os) → Every (Good t whole []) (input_slots n is os)
first-good t whole n [] os behind = tt
first-good t whole n (inputs.Pure bytes ∷ is) os behind = (
  turned-pure (is_read_only (slice_get t.inputs n)) (value_in (input n) whole) bytes (behind-here whole n (record { place = input n; value = Some (pure bytes) }) (input_slots (suc n) is os) refl behind),
  first-good t whole (suc n) is os (behind-next whole n (record { place = input n; value = Some (pure bytes) }) (input_slots (suc n) is os) refl behind),
)
first-good t whole n (inputs.Owned r ∷ is) [] behind = tt
first-good t whole n (inputs.Owned r ∷ is) (o ∷ os) behind = (
  turned-object (is_read_only (slice_get t.inputs n)) (value_in (input n) whole) (item_of o) (behind-here whole n (record { place = input n; value = Some (object (item_of o)) }) (input_slots (suc n) is os) refl behind),
  first-good t whole (suc n) is os (behind-next whole n (record { place = input n; value = Some (object (item_of o)) }) (input_slots (suc n) is os) refl behind),
)
first-good t whole n (inputs.Immutable r ∷ is) [] behind = tt
first-good t whole n (inputs.Immutable r ∷ is) (o ∷ os) behind = (
  turned-object (is_read_only (slice_get t.inputs n)) (value_in (input n) whole) (item_of o) (behind-here whole n (record { place = input n; value = Some (object (item_of o)) }) (input_slots (suc n) is os) refl behind),
  first-good t whole (suc n) is os (behind-next whole n (record { place = input n; value = Some (object (item_of o)) }) (input_slots (suc n) is os) refl behind),
)
first-good t whole n (inputs.Shared id initial mutable ∷ is) [] behind = tt
first-good t whole n (inputs.Shared id initial mutable ∷ is) (o ∷ os) behind = (
  turned-object (is_read_only (slice_get t.inputs n)) (value_in (input n) whole) (item_of o) (behind-here whole n (record { place = input n; value = Some (object (item_of o)) }) (input_slots (suc n) is os) refl behind),
  first-good t whole (suc n) is os (behind-next whole n (record { place = input n; value = Some (object (item_of o)) }) (input_slots (suc n) is os) refl behind),
)

pub first-behind : (t : Transaction) (coin : Object) (os : List Object) → Behind (first_slots t (coin ∷ os)) 0 (input_slots 0 t.inputs os)
first-behind t coin os = λ m above. refl

stands-self : (slots : List Slot) → Stands (map (λ (s : Slot). s.place) slots) slots
stands-self [] = tt
stands-self (s ∷ slots) = (refl, stands-self slots)

start-good : (t : Transaction) (objects : List Object) → Every (Good t (first_slots t objects) []) (first_slots t objects)
start-good t [] = tt
start-good t (coin ∷ os) = (like-same (gas_item t coin), first-good t (first_slots t (coin ∷ os)) 0 t.inputs os (first-behind t coin os))

pub kept-start : (t : Transaction) (tx : Digest) (objects : List Object) → IsKept t tx (first_block t objects) (first_block t objects)
kept-start t tx objects = record {
  good = start-good t objects;
  stands = stands-self (first_slots t objects);
  ids = λ x. omega arith;
  sums = λ c. omega arith;
  all_caps = λ c. refl;
}

-- ---- the block after all commands

-- a block after all commands: what was kept is kept, and no result holds a value any more
pub record IsDone (t : Transaction) (tx : Digest) (objects : List Object) (b : Block) : Type 0 where
  pub kept : IsKept t tx (first_block t objects) b
  pub used : list_any is_unused b.slots ≡ false

pub done-is : (t : Transaction) (tx : Digest) (objects : List Object) (b : Block) → outcome t tx objects ≡ Ok b → IsDone t tx objects b
unfolding outcome
done-is t tx objects b e = go (commands_from t tx (version_of objects) 0 t.commands (first_block t objects)) refl e
  where
    left : (after : Block) (u : Bool) → list_any is_unused after.slots ≡ u → cond {A = Result Block Failure} u (Err (length t.commands, cause 12)) (Ok after) ≡ Ok b → IsKept t tx (first_block t objects) after → IsDone t tx objects b
    left after true h e kept = absurd (cc)
    left after false h e kept = subst (IsDone t tx objects) (ok-same Failure after b e) (record { kept = kept; used = h })

    go : (r : Result Block Failure) → commands_from t tx (version_of objects) 0 t.commands (first_block t objects) ≡ r → checked_end t r ≡ Ok b → IsDone t tx objects b
    go (Ok after) h e = left after (list_any is_unused after.slots) refl e (kept-commands t tx (version_of objects) 0 t.commands (first_block t objects) (first_block t objects) after (kept-start t tx objects) h)
    go (Err failure) h e = absurd (cc)
