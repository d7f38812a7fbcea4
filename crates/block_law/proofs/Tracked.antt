-- After every command an object that is marked as new has an id that the transaction drew, and only such objects were
-- shared.
use Rattle.std.proofs.Common.{refl, sym, subst, inl, inr, arith}
use Rattle.std.specs.Prelude.{◌≡◌, ◌≤◌, ◌<◌, ◌+◌, ◌-◌, ℕ, suc, Bool, true, false, cond, nat_lt, List, [], ◌∷◌, ◌++◌, map, sum, length, option_map, Option, Some, None, Result, Ok, Err}
use Rattle.std.specs.List.{list_any, enumerate_from, cons_option}
use Rattle.digest_core.specs.declared.Digest.{Digest}
use Rattle.chain_types.specs.declared.objects.ObjectId.{ObjectId}
use Rattle.chain_types.specs.declared.objects.Address.{Address}
use Rattle.chain_types.specs.declared.objects.Kind.{Kind}
use Rattle.chain_types.specs.declared.objects.Object.{Object}
use Rattle.chain_types.specs.declared.objects.Owner.{Owner}
use Rattle.chain_types.specs.declared.objects.Owner.TheVariants as owner
use Rattle.chain_types.specs.declared.transactions.Argument.{Argument}
use Rattle.chain_types.specs.declared.transactions.Input.{Input}
use Rattle.chain_types.specs.declared.transactions.Input.TheVariants as inputs
use Rattle.chain_types.specs.declared.transactions.Command.{Command}
use Rattle.chain_types.specs.declared.transactions.Command.TheVariants as command
use Rattle.chain_types.specs.declared.transactions.Transaction.{Transaction}
use Rattle.protocol_spec.specs.declared.pieces.Item.{Item}
use Rattle.protocol_spec.specs.declared.pieces.Given.{Given}
use Rattle.protocol_spec.specs.declared.pieces.Placed.{Placed}
use Rattle.protocol_spec.specs.declared.pieces.Gave.{Gave}
use Rattle.protocol_spec.specs.declared.pieces.Gave.TheVariants as gave
use Rattle.protocol_spec.specs.Chain.Words.{Each, first_some}
use Rattle.protocol_spec.specs.Chain.Keys.{version_of}
use Rattle.protocol_spec.specs.Block.Natives.{currency_of, amount_of, holding, parameters_of, Site, no_item, native_gives}
use Rattle.protocol_spec.proofs.ListLemmas.{each_as}
use Rattle.protocol_spec.proofs.Gifts.{MayLeave, Handed, IsChange, IsResult, Changes, Leaves, Gift, AnyNumber, gift}
use Rattle.protocol_spec.specs.Block.Block.{Place, Value, pure, object, vector, Slot, Block, value_in, result_slots}
use Rattle.protocol_spec.specs.Block.Commands.{Fault, cause, Need, number, address, by_value, by_mut, by_ref, coins, paired, place_of, takes_value, piece_of, item_in, items_in, number_in, spend, spend_all, numbered_coin, split_block, split, sum_of, merge_cases, merge_block, merge, placed_at, address_in, transfer_block, vector_block, given_as, given_all, spend_taken, put_back, put_changed, placed_list, called_block, called, site, performed, taken_cause, command_step}
use Rattle.protocol_spec.specs.Block.Execution.{Failure, input_slots, first_block, commands_from, commands_next, is_unused, checked_end, outcome}
use Rattle.block_law.specs.Names.{drawn_id}
use Rattle.block_law.proofs.Slots.{Every, put-every, value-every, every-append, spend-placed, spend-made, spend-every}
use Rattle.block_law.proofs.Kept.{result_slot}
use Rattle.block_law.proofs.Steps.{ok-same, unless-ok}
use Rattle.block_law.proofs.Blocks.{refused-ok}

module _ (tx : Digest) (version : ℕ) where
  -- ---- objects that are new

  -- one of the first ids that the transaction draws
  abbrev pub IsDrawn : ℕ → ObjectId → Type 0
  IsDrawn made id = (n : ℕ) × (n < made) × (drawn_id tx n ≡ id)

  abbrev pub Marked : ℕ → Item → Type 0
  Marked made i = i.fresh ≡ true → IsDrawn made i.id

  -- an object that left the block: shared only if it is new, since the version of the transaction
  abbrev pub Left : ℕ → ObjectId → Owner → Type 0
  Left made id (owner.Address a) = Unit {0}
  Left made id (owner.Shared initial) = (initial ≡ version) × IsDrawn made id
  Left made id owner.Immutable = Unit {0}

  abbrev pub HasLeft : ℕ → Placed → Type 0
  HasLeft made p = Left made p.item.id p.owner

  abbrev Holds : ℕ → Option Value → Type 0
  Holds made None = Unit {0}
  Holds made (Some (pure bytes)) = Unit {0}
  Holds made (Some (object i)) = Marked made i
  Holds made (Some (vector k is)) = Each (Marked made) is

  abbrev Lying : ℕ → Place → Option Value → Type 0
  Lying made p v = Holds made v

  pub record IsTracked (b : Block) : Type 0 where
    pub slots : Every (Lying b.made) b.slots
    pub placed : Each (HasLeft b.made) b.placed

  -- ---- more ids are drawn

  drawn-more : (low high : ℕ) → low ≤ high → (id : ObjectId) → IsDrawn low id → IsDrawn high id
  drawn-more low high le id (n, less, e) = (n, omega (arith, le, less), e)

  marked-more : (low high : ℕ) → low ≤ high → (i : Item) → Marked low i → Marked high i
  marked-more low high le i m = λ e. drawn-more low high le i.id (m e)

  each-more : (low high : ℕ) → low ≤ high → (is : List Item) → Each (Marked low) is → Each (Marked high) is
  each-more low high le [] each = tt
  each-more low high le (i ∷ is) each = (marked-more low high le i each.0, each-more low high le is each.1)

  left-more : (low high : ℕ) → low ≤ high → (id : ObjectId) (who : Owner) → Left low id who → Left high id who
  left-more low high le id (owner.Address a) l = tt
  left-more low high le id (owner.Shared initial) l = (l.0, drawn-more low high le id l.1)
  left-more low high le id owner.Immutable l = tt

  placed-more : (low high : ℕ) → low ≤ high → (ps : List Placed) → Each (HasLeft low) ps → Each (HasLeft high) ps
  placed-more low high le [] each = tt
  placed-more low high le (p ∷ ps) each = (left-more low high le p.item.id p.owner each.0, placed-more low high le ps each.1)

  holds-more : (low high : ℕ) → low ≤ high → (v : Option Value) → Holds low v → Holds high v
  holds-more low high le None h = tt
  holds-more low high le (Some (pure bytes)) h = tt
  holds-more low high le (Some (object i)) h = marked-more low high le i h
  holds-more low high le (Some (vector k is)) h = each-more low high le is h

  slots-more : (low high : ℕ) → low ≤ high → (slots : List Slot) → Every (Lying low) slots → Every (Lying high) slots
  slots-more low high le [] each = tt
  slots-more low high le (s ∷ slots) each = (holds-more low high le s.value each.0, slots-more low high le slots each.1)

  each-both : {A : Type 0} (P : A → Type 0) (xs ys : List A) → Each P xs → Each P ys → Each P (xs ++ ys)
  each-both P [] ys each more = more
  each-both P (x ∷ xs) ys each more = (each.0, each-both P xs ys each.1 more)

  -- ---- what natives give

  abbrev IsChanged : ℕ → Option Item → Type 0
  IsChanged made None = Unit {0}
  IsChanged made (Some i) = Marked made i

  abbrev Goes : ℕ → Option Placed → Type 0
  Goes made None = Unit {0}
  Goes made (Some p) = HasLeft made p

  record IsGiven (before : ℕ) (results : List Item) (changed : Option Item) (left : Option Placed) (made : ℕ) : Type 0 where
    rises : before ≤ made
    results_are : Each (Marked made) results
    changed_is : IsChanged made changed
    left_is : Goes made left

  abbrev Gives : ℕ → Gave → Type 0
  Gives before (gave.Abort code) = Unit {0}
  Gives before (gave.Done results changed left made) = IsGiven before results changed left made

  abbrev MarkedGiven : ℕ → Given → Type 0
  MarkedGiven made = Handed (Marked made) AnyNumber

  no-item : (made : ℕ) → Marked made no_item
  no-item made = λ e. absurd (cc)

  module _ (made : ℕ) where
    abbrev here : Site
    here = record { tx = tx; version = version; made = made }

    -- what was handed over or drawn, by what was drawn at the end
    module _ (after : ℕ) (rises : made ≤ after) where
      change : (i : Item) → IsChange (Marked made) AnyNumber i → Marked after i
      change i c = subst (Marked after) (sym c.same) (marked-more made after rises c.was c.had)

      result : (native : ℕ) (args : List Given) (i : Item) → IsResult (Marked made) AnyNumber native here args after i → Marked after i
      result native args i (inl n) = λ e. (n.number, n.low, sym n.same)
      result native args i (inr c) = change i c

      changed-as : (o : Option Item) → Changes (Marked made) AnyNumber o → IsChanged after o
      changed-as None c = tt
      changed-as (Some i) c = change i c

      left-by : (i : Item) (who : Owner) → Marked made i → MayLeave here i who → Left after i.id who
      left-by i (owner.Address a) m may = tt
      left-by i (owner.Shared initial) m may = (may.0, drawn-more made after rises i.id (m may.1))
      left-by i owner.Immutable m may = tt

      left-as : (o : Option Placed) → Leaves (Marked made) AnyNumber here o → Goes after o
      left-as None l = tt
      left-as (Some p) l = left-by p.item p.owner l.0 l.1

    native-given : (args : List Given) → Each (MarkedGiven made) args → (native : ℕ) → Gives made (native_gives native here args)
    native-given args marked native = go (native_gives native here args) (gift (Marked made) AnyNumber (no-item made) tt here args marked native)
      where
        go : (g : Gave) → Gift (Marked made) AnyNumber here args native g → Gives made g
        go (gave.Abort code) h = tt
        go (gave.Done results changed left after) h = record {
          rises = h.rises;
          results_are = each_as (IsResult (Marked made) AnyNumber native here args after) (Marked after) results (result after h.rises native args) h.results_are;
          changed_is = changed-as after h.rises changed h.changed_is;
          left_is = left-as after h.rises left h.left_is;
        }

  -- ---- results

  results-lie : (made c n : ℕ) (values : List Value) → Each (λ (v : Value). Holds made (Some v)) values → Every (Lying made) (map (result_slot c) (enumerate_from n values))
  results-lie made c n [] each = tt
  results-lie made c n (v ∷ values) each = (each.0, results-lie made c (n + 1) values each.1)

  more-results : (made c : ℕ) (slots : List Slot) (values : List Value) → Every (Lying made) slots → Each (λ (v : Value). Holds made (Some v)) values → Every (Lying made) (slots ++ result_slots c values)
  more-results made c slots values each more = every-append (Lying made) slots (result_slots c values) each (results-lie made c 0 values more)

  objects-hold : (made : ℕ) (is : List Item) → Each (Marked made) is → Each (λ (v : Value). Holds made (Some v)) (map object is)
  objects-hold made [] each = tt
  objects-hold made (i ∷ is) each = (each.0, objects-hold made is each.1)

  -- ---- one command

  module _ (c : ℕ) (b : Block) (it : IsTracked b) where
    piece-marked : (p : Place) (i : Item) → piece_of (value_in p b.slots) ≡ Some i → Marked b.made i
    piece-marked p i e = go (value_in p b.slots) refl e
      where
        same : (j : Item) → Some j ≡ Some i → j ≡ i
        same j e = cc

        go : (v : Option Value) → value_in p b.slots ≡ v → piece_of v ≡ Some i → Marked b.made i
        go None h e = absurd (cc)
        go (Some (pure bytes)) h e = absurd (cc)
        go (Some (object j)) h e = subst (Marked b.made) (same j e) (value-every (Lying b.made) p (object j) b.slots it.slots h)
        go (Some (vector k is)) h e = absurd (cc)

    items-of : (args : List Argument) → Each (Marked b.made) (items_in b args)
    items-of [] = tt
    items-of (a ∷ args) = go (item_in b a) refl (items-of args)
      where
        go : (o : Option Item) → item_in b a ≡ o → Each (Marked b.made) (items_in b args) → Each (Marked b.made) (cons_option o (items_in b args))
        go None e rest = rest
        go (Some i) e rest = (piece-marked (place_of a) i e, rest)

    none-hold : (args : List Argument) → Each (λ (a : Argument). Holds b.made None) args
    none-hold [] = tt
    none-hold (a ∷ args) = (tt, none-hold args)

    spent : (args : List Argument) → Every (Lying b.made) (spend_all args b).slots
    spent args = spend-every (Lying b.made) args b (none-hold args) it.slots

    -- Split draws an id for each new coin
    new-coins : (after currency n : ℕ) (amounts : List ℕ) → b.made + n + length amounts ≤ after → Each (λ (v : Value). Holds after (Some v)) (map (numbered_coin (site tx version b) currency) (enumerate_from n amounts))
    new-coins after currency n [] le = tt
    new-coins after currency n (x ∷ xs) le = (λ e. (b.made + n, omega (arith, le), refl), new-coins after currency (n + 1) xs (omega (arith, le)))

    split-tracked : (coin : Argument) (amounts : List ℕ) (o : Option Item) (after : Block) → item_in b coin ≡ o → split (site tx version b) c b coin o amounts ≡ Ok after → IsTracked after
    split-tracked coin amounts None after h e = absurd (cc)
    split-tracked coin amounts (Some i) after h e = go (nat_lt (amount_of i.content) (sum amounts)) e
      where
        high : ℕ
        high = b.made + length amounts

        rise : b.made ≤ high
        rise = omega arith

        held : Item
        held = holding (amount_of i.content - sum amounts) i

        done : IsTracked (split_block (site tx version b) c b coin i amounts)
        done = record {
          slots = more-results high c (put_back coin held b).slots (map (numbered_coin (site tx version b) (currency_of i.content)) (enumerate_from 0 amounts))
              (put-every (Lying high) (place_of coin) (Some (object held)) b.slots (slots-more b.made high rise b.slots it.slots) (marked-more b.made high rise i (piece-marked (place_of coin) i h)))
              (new-coins high (currency_of i.content) 0 amounts (omega arith));
          placed = placed-more b.made high rise b.placed it.placed;
        }

        go : (x : Bool) → cond x (Err (cause 8)) (Ok (split_block (site tx version b) c b coin i amounts)) ≡ Ok after → IsTracked after
        go true e = absurd (cc)
        go false e = subst IsTracked (ok-same Fault (split_block (site tx version b) c b coin i amounts) after e) done

    same-made : (args : List Argument) → (spend_all args b).made ≡ b.made
    same-made args = spend-made args b

    -- a block with these slots, whose ids and objects that left are those of this one
    tracked-as : (after : Block) → after.made ≡ b.made → Every (Lying b.made) after.slots → Each (HasLeft b.made) after.placed → IsTracked after
    tracked-as after made slots placed = record {
      slots = subst (λ (n : ℕ). Every (Lying n) after.slots) (sym made) slots;
      placed = subst (λ (n : ℕ). Each (HasLeft n) after.placed) (sym made) placed;
    }

    merge-tracked : (t : Transaction) (target : Argument) (sources : List Argument) (o : Option Item) (after : Block) → item_in b target ≡ o → merge t b target o sources ≡ Ok after → IsTracked after
    merge-tracked t target sources None after h e = absurd (cc)
    merge-tracked t target sources (Some i) after h e =
        let r = unless-ok (first_some (merge_cases t target i (items_in b sources))) (merge_block b target i sources) after e in
        subst IsTracked r.1 (tracked-as (merge_block b target i sources) (same-made sources)
        (put-every (Lying b.made) (place_of target) (Some (object (holding (amount_of i.content + sum_of (items_in b sources)) i))) (spend_all sources b).slots (spent sources) (piece-marked (place_of target) i h))
        (subst (Each (HasLeft b.made)) (sym (spend-placed sources b)) it.placed))

    to-address : (who : Address) (is : List Item) → Each (HasLeft b.made) (map (placed_at (owner.Address who)) is)
    to-address who [] = tt
    to-address who (i ∷ is) = (tt, to-address who is)

    transfer-tracked : (values : List Argument) (who : Address) → IsTracked (transfer_block b values who)
    transfer-tracked values who = tracked-as (transfer_block b values who) (same-made values) (spent values)
        (each-both (HasLeft b.made) b.placed (map (placed_at (owner.Address who)) (items_in b values)) it.placed (to-address who (items_in b values)))

    vector-tracked : (k : Kind) (values : List Argument) → IsTracked (vector_block c b k values)
    vector-tracked k values = tracked-as (vector_block c b k values) (same-made values)
        (more-results b.made c (spend_all values b).slots (vector k (items_in b values) ∷ []) (spent values) (items-of values, tt))
        (subst (Each (HasLeft b.made)) (sym (spend-placed values b)) it.placed)

    -- ---- a call

    given-marked : (need : Need) (p : Place) (v : Option Value) → value_in p b.slots ≡ v → MarkedGiven b.made (given_as need v)
    given-marked number p v h = tt
    given-marked address p v h = tt
    given-marked (by_value k) p None h = tt
    given-marked (by_value k) p (Some (pure bytes)) h = tt
    given-marked (by_value k) p (Some (object i)) h = value-every (Lying b.made) p (object i) b.slots it.slots h
    given-marked (by_value k) p (Some (vector l is)) h = value-every (Lying b.made) p (vector l is) b.slots it.slots h
    given-marked (by_mut k) p None h = tt
    given-marked (by_mut k) p (Some (pure bytes)) h = tt
    given-marked (by_mut k) p (Some (object i)) h = value-every (Lying b.made) p (object i) b.slots it.slots h
    given-marked (by_mut k) p (Some (vector l is)) h = value-every (Lying b.made) p (vector l is) b.slots it.slots h
    given-marked (by_ref k) p None h = tt
    given-marked (by_ref k) p (Some (pure bytes)) h = tt
    given-marked (by_ref k) p (Some (object i)) h = value-every (Lying b.made) p (object i) b.slots it.slots h
    given-marked (by_ref k) p (Some (vector l is)) h = value-every (Lying b.made) p (vector l is) b.slots it.slots h
    given-marked coins p None h = tt
    given-marked coins p (Some (pure bytes)) h = tt
    given-marked coins p (Some (object i)) h = value-every (Lying b.made) p (object i) b.slots it.slots h
    given-marked coins p (Some (vector l is)) h = value-every (Lying b.made) p (vector l is) b.slots it.slots h

    all-marked : (needs : List (Argument × Need)) → Each (MarkedGiven b.made) (given_all b needs)
    all-marked [] = tt
    all-marked (x ∷ needs) = (given-marked x.1 (place_of x.0) (value_in (place_of x.0) b.slots) refl, all-marked needs)

    taken-lie : (needs : List (Argument × Need)) (d : Block) → Every (Lying b.made) d.slots → Every (Lying b.made) (spend_taken needs d).slots
    taken-lie [] d lying = lying
    taken-lie (x ∷ rest) d lying = taken-lie rest _ (go (takes_value x.1))
      where
        go : (z : Bool) → Every (Lying b.made) (cond z (spend x.0 d) d).slots
        go true = put-every (Lying b.made) (place_of x.0) None d.slots lying tt
        go false = lying

    put-lie : (made : ℕ) (needs : List (Argument × Need)) (changed : Option Item) (d : Block) → IsChanged made changed → Every (Lying made) d.slots → Every (Lying made) (put_changed needs changed d).slots
    put-lie made [] changed d is lying = lying
    put-lie made (x ∷ rest) None d is lying = lying
    put-lie made (x ∷ rest) (Some i) d is lying = put-every (Lying made) (place_of x.0) (Some (object i)) d.slots lying is

    goes : (made : ℕ) (left : Option Placed) → Goes made left → Each (HasLeft made) (placed_list left)
    goes made None l = tt
    goes made (Some p) l = (l, tt)

    called-tracked : (needs : List (Argument × Need)) (g : Gave) (after : Block) → Gives b.made g → called c b needs g ≡ Ok after → IsTracked after
    called-tracked needs (gave.Abort code) after g e = absurd (cc)
    called-tracked needs (gave.Done results changed left made) after g e = subst IsTracked (ok-same Fault (called_block c b needs results changed left made) after e) (record {
      slots = more-results made c (put_changed needs changed (spend_taken needs b)).slots (map object results)
          (put-lie made needs changed (spend_taken needs b) g.changed_is (slots-more b.made made g.rises (spend_taken needs b).slots (taken-lie needs b it.slots)))
          (objects-hold made results g.results_are);
      placed = each-both (HasLeft made) b.placed (placed_list left) (placed-more b.made made g.rises b.placed it.placed) (goes made left g.left_is);
    })

    performed-tracked : (t : Transaction) (x : Command) (after : Block) → performed t tx version c b x ≡ Ok after → IsTracked after
    performed-tracked t (command.Split coin amounts) after e = split-tracked coin (map (number_in b) amounts) (item_in b coin) after refl e
    performed-tracked t (command.Merge target sources) after e = merge-tracked t target sources (item_in b target) after refl e
    performed-tracked t (command.Transfer values to) after e = subst IsTracked (ok-same Fault (transfer_block b values (address_in b to)) after e) (transfer-tracked values (address_in b to))
    performed-tracked t (command.MakeVec k values) after e = subst IsTracked (ok-same Fault (vector_block c b k values) after e) (vector-tracked k values)
    performed-tracked t (command.Call native args) after e =
        called-tracked (paired args (parameters_of native)) (native_gives native (site tx version b) (given_all b (paired args (parameters_of native)))) after
        (native-given b.made (given_all b (paired args (parameters_of native))) (all-marked (paired args (parameters_of native))) native) e

    step-tracked : (t : Transaction) (x : Command) (after : Block) → command_step t tx version c b x ≡ Ok after → IsTracked after
    unfolding command_step
    step-tracked t x after e = performed-tracked t x after (refused-ok (option_map cause (taken_cause t b x)) (performed t tx version c b x) after e).1

  -- ---- all commands

  commands-tracked : (t : Transaction) (c : ℕ) (xs : List Command) (b after : Block) → IsTracked b → commands_from t tx version c xs b ≡ Ok after → IsTracked after
  commands-tracked t c [] b after it e = subst IsTracked (ok-same Failure b after e) it
  commands-tracked t c (x ∷ xs) b after it e = go (command_step t tx version c b x) refl e (λ next k f. commands-tracked t (suc c) xs next after k f)
    where
      go : (r : Result Block Fault) → command_step t tx version c b x ≡ r → commands_next t tx version c (commands_from t tx version (suc c) xs) r ≡ Ok after
          → ((next : Block) → IsTracked next → commands_from t tx version (suc c) xs next ≡ Ok after → IsTracked after) → IsTracked after
      go (Ok next) h e rest = rest next (step-tracked c b it t x next h) e
      go (Err fault) h e rest = absurd (cc)

  -- ---- from the first block, where nothing is new

  inputs-lie : (n : ℕ) (is : List Input) (os : List Object) → Every (Lying 0) (input_slots n is os)
  inputs-lie n [] os = tt
  inputs-lie n (inputs.Pure bytes ∷ is) os = (tt, inputs-lie (suc n) is os)
  inputs-lie n (inputs.Owned r ∷ is) [] = tt
  inputs-lie n (inputs.Owned r ∷ is) (o ∷ os) = (λ e. absurd (cc), inputs-lie (suc n) is os)
  inputs-lie n (inputs.Immutable r ∷ is) [] = tt
  inputs-lie n (inputs.Immutable r ∷ is) (o ∷ os) = (λ e. absurd (cc), inputs-lie (suc n) is os)
  inputs-lie n (inputs.Shared id initial mutable ∷ is) [] = tt
  inputs-lie n (inputs.Shared id initial mutable ∷ is) (o ∷ os) = (λ e. absurd (cc), inputs-lie (suc n) is os)

  starts : (t : Transaction) (objects : List Object) → IsTracked (first_block t objects)
  starts t [] = record { slots = tt; placed = tt }
  starts t (coin ∷ os) = record { slots = (λ e. absurd (cc), inputs-lie 0 t.inputs os); placed = tt }

pub ends-tracked : (t : Transaction) (tx : Digest) (objects : List Object) (b : Block) → outcome t tx objects ≡ Ok b → IsTracked tx (version_of objects) b
unfolding outcome
ends-tracked t tx objects b e = go (commands_from t tx (version_of objects) 0 t.commands (first_block t objects)) refl e
  where
    left : (after : Block) (u : Bool) → cond {A = Result Block Failure} u (Err (length t.commands, cause 12)) (Ok after) ≡ Ok b → IsTracked tx (version_of objects) after → IsTracked tx (version_of objects) b
    left after true e it = absurd (cc)
    left after false e it = subst (IsTracked tx (version_of objects)) (ok-same Failure after b e) it

    go : (r : Result Block Failure) → commands_from t tx (version_of objects) 0 t.commands (first_block t objects) ≡ r → checked_end t r ≡ Ok b → IsTracked tx (version_of objects) b
    go (Ok after) h e = left after (list_any is_unused after.slots) e (commands-tracked tx (version_of objects) t 0 t.commands (first_block t objects) after (starts tx (version_of objects) t objects) h)
    go (Err failure) h e = absurd (cc)
