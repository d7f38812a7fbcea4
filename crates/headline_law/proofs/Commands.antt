-- After every command all that a block holds are amounts, if it opened so.
use Rattle.std.proofs.Common.{refl, ap, sym, subst, ◌∙◌, arith}
use Rattle.std.proofs.lemmas.Bool.{leb-false, ltb-false}
use Rattle.std.specs.Prelude.{◌≡◌, ◌≤◌, ◌<◌, ◌+◌, ◌-◌, ℕ, suc, Bool, true, false, cond, nat_lt, nat_le, List, [], ◌∷◌, ◌++◌, map, sum, length, option_map, Option, Some, None, Result, Ok, Err}
use Rattle.std.specs.Int.{w64, from_le_bytes}
use Rattle.std.specs.List.{list_any, enumerate_from, cons_option}
use Rattle.digest_core.specs.declared.Digest.{Digest}
use Rattle.chain_types.specs.declared.objects.Address.{Address}
use Rattle.chain_types.specs.declared.objects.Kind.{Kind}
use Rattle.chain_types.specs.declared.objects.Kind.TheVariants as kind
use Rattle.chain_types.specs.declared.objects.Object.{Object}
use Rattle.chain_types.specs.declared.objects.Owner.TheVariants as owner
use Rattle.chain_types.specs.declared.transactions.Argument.{Argument}
use Rattle.chain_types.specs.declared.transactions.Input.{Input}
use Rattle.chain_types.specs.declared.transactions.Input.TheVariants as inputs
use Rattle.chain_types.specs.declared.transactions.Command.{Command}
use Rattle.chain_types.specs.declared.transactions.Command.TheVariants as command
use Rattle.chain_types.specs.declared.transactions.Transaction.{Transaction}
use Rattle.protocol_spec.specs.declared.pieces.Item.{Item}
use Rattle.protocol_spec.specs.declared.pieces.Placed.{Placed}
use Rattle.protocol_spec.specs.declared.pieces.Gave.{Gave}
use Rattle.protocol_spec.specs.declared.pieces.Gave.TheVariants as gave
use Rattle.chain_types.specs.declared.natives.Mode.{Mode}
use Rattle.chain_types.specs.declared.natives.Mode.TheVariants as mode
use Rattle.protocol_spec.proofs.ListLemmas.{each_join, all_none}
use Rattle.protocol_spec.proofs.Truth.{where_false, map_none}
use Rattle.protocol_spec.proofs.Gifts.{takes_vault}
use Rattle.protocol_spec.specs.Chain.Words.{Each, first_some, where_true}
use Rattle.protocol_spec.specs.Chain.Tests.{kind_eq}
use Rattle.protocol_spec.specs.Chain.Keys.{version_of}
use Rattle.protocol_spec.specs.Block.Natives.{kind_of, currency_of, amount_of, holding, parameters_of, amount_limit, item_at, native_gives}
use Rattle.protocol_spec.specs.Block.Block.{Place, Value, pure, object, vector, Slot, Block, value_in, result_slots}
use Rattle.protocol_spec.specs.Block.Commands.{Fault, cause, Need, number, address, by_value, by_mut, by_ref, coins, paired, all_by, needs_of, place_of, takes_value, wrong_count, arguments_cause, piece_of, item_in, items_in, number_in, spend, spend_all, numbered_coin, split_block, split, withheld, sum_of, merge_cases, merge_block, merge, placed_at, address_in, transfer_block, vector_block, given_as, given_all, spend_taken, put_back, put_changed, placed_list, called_block, called, site, performed, taken_cause, command_step}
use Rattle.protocol_spec.specs.Block.Execution.{Failure, input_slots, first_block, commands_from, commands_next, is_unused, checked_end, outcome}
use Rattle.block_law.proofs.Slots.{Every, put-every, value-every, every-append, spend-placed, spend-every}
use Rattle.block_law.proofs.Reading.{AllRead, all-read, is-changed}
use Rattle.block_law.proofs.Amounts.{sum-cons}
use Rattle.block_law.proofs.Kept.{result_slot}
use Rattle.block_law.proofs.Steps.{ok-same, unless-ok}
use Rattle.block_law.proofs.Blocks.{refused-ok}
use Rattle.headline_law.proofs.Low.{Low, LowNumber, with-low, less-low, coin-amount, vault-amount, coin-low, number-low, bytes-low, zero-low}
use Rattle.headline_law.proofs.Natives.{LowItem, LowPlaced, LowChange, LowLeft, Gives, LowGiven, native-low}

module _ (all : Bool) where
  abbrev pub Holds : Option Value → Type 0
  Holds None = Unit {0}
  Holds (Some (pure bytes)) = LowNumber all (from_le_bytes w64 bytes)
  Holds (Some (object i)) = LowItem all i
  Holds (Some (vector k is)) = Each (LowItem all) is

  abbrev pub Lying : Place → Option Value → Type 0
  Lying p v = Holds v

  pub record IsLow (b : Block) : Type 0 where
    pub slots : Every Lying b.slots
    pub placed : Each (LowPlaced all) b.placed

  -- ---- results

  results-lie : (c n : ℕ) (values : List Value) → Each (λ (v : Value). Holds (Some v)) values → Every Lying (map (result_slot c) (enumerate_from n values))
  results-lie c n [] each = tt
  results-lie c n (v ∷ values) each = (each.0, results-lie c (n + 1) values each.1)

  more-results : (c : ℕ) (slots : List Slot) (values : List Value) → Every Lying slots → Each (λ (v : Value). Holds (Some v)) values → Every Lying (slots ++ result_slots c values)
  more-results c slots values each more = every-append Lying slots (result_slots c values) each (results-lie c 0 values more)

  objects-hold : (is : List Item) → Each (LowItem all) is → Each (λ (v : Value). Holds (Some v)) (map object is)
  objects-hold [] each = tt
  objects-hold (i ∷ is) each = (each.0, objects-hold is each.1)

  -- ---- one command

  module _ (t : Transaction) (tx : Digest) (version c : ℕ) (b : Block) (it : IsLow b) where
    piece-low : (p : Place) (i : Item) → piece_of (value_in p b.slots) ≡ Some i → LowItem all i
    piece-low p i e = go (value_in p b.slots) refl e
      where
        same : (j : Item) → Some j ≡ Some i → j ≡ i
        same j e = cc

        go : (v : Option Value) → value_in p b.slots ≡ v → piece_of v ≡ Some i → LowItem all i
        go None h e = absurd (cc)
        go (Some (pure bytes)) h e = absurd (cc)
        go (Some (object j)) h e = subst (LowItem all) (same j e) (value-every Lying p (object j) b.slots it.slots h)
        go (Some (vector k is)) h e = absurd (cc)

    items-low : (args : List Argument) → Each (LowItem all) (items_in b args)
    items-low [] = tt
    items-low (a ∷ args) = go (item_in b a) refl (items-low args)
      where
        go : (o : Option Item) → item_in b a ≡ o → Each (LowItem all) (items_in b args) → Each (LowItem all) (cons_option o (items_in b args))
        go None e rest = rest
        go (Some i) e rest = (piece-low (place_of a) i e, rest)

    none-hold : (args : List Argument) → Each (λ (a : Argument). Holds None) args
    none-hold [] = tt
    none-hold (a ∷ args) = (tt, none-hold args)

    spent : (args : List Argument) → Every Lying (spend_all args b).slots
    spent args = spend-every Lying args b (none-hold args) it.slots

    -- Split: each new coin holds no more than the coin did
    new-coins : (currency most n : ℕ) (amounts : List ℕ) → sum amounts ≤ most → most < amount_limit → Each (λ (v : Value). Holds (Some v)) (map (numbered_coin (site tx version b) currency) (enumerate_from n amounts))
    new-coins currency most n [] le less = tt
    new-coins currency most n (x ∷ xs) le less =
        let both = sum-cons (λ (k : ℕ). k) x xs in
        (coin-low all currency x (omega (arith, le, less, both)), new-coins currency most (n + 1) xs (omega (arith, le, both)) less)

    split-low : (cmd : Command) (coin : Argument) (amounts : List Argument) (after : Block) → AllRead t b cmd [] ((coin, by_mut kind.Coin) ∷ all_by number amounts) → split (site tx version b) c b coin (item_in b coin) (map (number_in b) amounts) ≡ Ok after → IsLow after
    split-low cmd coin amounts after read e = go (nat_lt (amount_of o.0.content) (sum ns)) refl (subst (λ i. split (site tx version b) c b coin i ns ≡ Ok after) (ap piece_of there) e)
      where
        ns : List ℕ
        ns = map (number_in b) amounts

        o : (i : Item) × ((read.0.value ≡ object i) × (kind_eq (kind_of i.content) kind.Coin ≡ true))
        o = is-changed kind.Coin read.0.value read.0.fitting

        there : value_in (place_of coin) b.slots ≡ Some (object o.0)
        there = read.0.there ∙ ap Some o.1.0

        here : LowItem all o.0
        here = value-every Lying (place_of coin) (object o.0) b.slots it.slots there

        held : Item
        held = holding (amount_of o.0.content - sum ns) o.0

        done : sum ns ≤ amount_of o.0.content → IsLow (split_block (site tx version b) c b coin o.0 ns)
        done enough = record {
          slots = more-results c (put_back coin held b).slots (map (numbered_coin (site tx version b) (currency_of o.0.content)) (enumerate_from 0 ns))
              (put-every Lying (place_of coin) (Some (object held)) b.slots it.slots (less-low all (sum ns) o.0.content here))
              (new-coins (currency_of o.0.content) (amount_of o.0.content) 0 ns enough (coin-amount all o.0.content o.1.1 here));
          placed = it.placed;
        }

        go : (x : Bool) → nat_lt (amount_of o.0.content) (sum ns) ≡ x → cond x (Err (cause 8)) (Ok (split_block (site tx version b) c b coin o.0 ns)) ≡ Ok after → IsLow after
        go true h e = absurd (cc)
        go false h e = subst IsLow (ok-same Fault (split_block (site tx version b) c b coin o.0 ns) after e) (done (ltb-false (amount_of o.0.content) (sum ns) h))

    -- a block with these slots, whose objects that left are those of this one
    low-as : (after : Block) → after.placed ≡ b.placed → Every Lying after.slots → IsLow after
    low-as after same slots = record { slots = slots; placed = subst (Each (LowPlaced all)) (sym same) it.placed }

    -- Merge refuses a sum that is not an amount
    merge-low : (target : Argument) (sources : List Argument) (o : Option Item) (after : Block) → merge t b target o sources ≡ Ok after → IsLow after
    merge-low target sources None after e = absurd (cc)
    merge-low target sources (Some i) after e = subst IsLow merged.1 (low-as (merge_block b target i sources) (spend-placed sources b)
        (put-every Lying (place_of target) (Some (object (holding total i))) (spend_all sources b).slots (spent sources) (with-low all total i.content small)))
      where
        merged : (first_some (merge_cases t target i (items_in b sources)) ≡ None) × (merge_block b target i sources ≡ after)
        merged = unless-ok (first_some (merge_cases t target i (items_in b sources))) (merge_block b target i sources) after e

        total : ℕ
        total = amount_of i.content + sum_of (items_in b sources)

        small : total < amount_limit
        small =
            let none = all_none (merge_cases t target i (items_in b sources)) merged.0 in
            let below = leb-false amount_limit (amount_of i.content + withheld t target + sum_of (items_in b sources)) (where_false (nat_le amount_limit (amount_of i.content + withheld t target + sum_of (items_in b sources))) (cause 9) none.1.0) in
            omega (arith, below)

    to-address : (who : Address) (is : List Item) → Each (LowItem all) is → Each (LowPlaced all) (map (placed_at (owner.Address who)) is)
    to-address who [] each = tt
    to-address who (i ∷ is) each = (each.0, to-address who is each.1)

    transfer-low : (values : List Argument) (who : Address) → IsLow (transfer_block b values who)
    transfer-low values who = record {
      slots = spent values;
      placed = each_join (LowPlaced all) b.placed (map (placed_at (owner.Address who)) (items_in b values)) it.placed (to-address who (items_in b values) (items-low values));
    }

    vector-low : (k : Kind) (values : List Argument) → IsLow (vector_block c b k values)
    vector-low k values = low-as (vector_block c b k values) (spend-placed values b)
        (more-results c (spend_all values b).slots (vector k (items_in b values) ∷ []) (spent values) (items-low values, tt))

    -- ---- a call

    given-low : (need : Need) (p : Place) (v : Option Value) → value_in p b.slots ≡ v → LowGiven all (given_as need v)
    given-low number p None h = number-low all (from_le_bytes w64 []) (bytes-low [] tt)
    given-low number p (Some (pure bytes)) h = value-every Lying p (pure bytes) b.slots it.slots h
    given-low number p (Some (object i)) h = number-low all (from_le_bytes w64 []) (bytes-low [] tt)
    given-low number p (Some (vector l is)) h = number-low all (from_le_bytes w64 []) (bytes-low [] tt)
    given-low address p v h = zero-low all
    given-low (by_value k) p None h = zero-low all
    given-low (by_value k) p (Some (pure bytes)) h = zero-low all
    given-low (by_value k) p (Some (object i)) h = value-every Lying p (object i) b.slots it.slots h
    given-low (by_value k) p (Some (vector l is)) h = value-every Lying p (vector l is) b.slots it.slots h
    given-low (by_mut k) p None h = zero-low all
    given-low (by_mut k) p (Some (pure bytes)) h = zero-low all
    given-low (by_mut k) p (Some (object i)) h = value-every Lying p (object i) b.slots it.slots h
    given-low (by_mut k) p (Some (vector l is)) h = value-every Lying p (vector l is) b.slots it.slots h
    given-low (by_ref k) p None h = zero-low all
    given-low (by_ref k) p (Some (pure bytes)) h = zero-low all
    given-low (by_ref k) p (Some (object i)) h = value-every Lying p (object i) b.slots it.slots h
    given-low (by_ref k) p (Some (vector l is)) h = value-every Lying p (vector l is) b.slots it.slots h
    given-low coins p None h = zero-low all
    given-low coins p (Some (pure bytes)) h = zero-low all
    given-low coins p (Some (object i)) h = value-every Lying p (object i) b.slots it.slots h
    given-low coins p (Some (vector l is)) h = value-every Lying p (vector l is) b.slots it.slots h

    all-given : (needs : List (Argument × Need)) → Each (LowGiven all) (given_all b needs)
    all-given [] = tt
    all-given (x ∷ needs) = (given-low x.1 (place_of x.0) (value_in (place_of x.0) b.slots) refl, all-given needs)

    same-vault : (k : Kind) → kind_eq k kind.Vault ≡ true → k ≡ kind.Vault
    same-vault kind.Coin e = absurd (cc)
    same-vault kind.Cap e = absurd (cc)
    same-vault kind.Counter e = absurd (cc)
    same-vault kind.Vault e = refl
    same-vault kind.VaultKey e = absurd (cc)
    same-vault kind.Limit e = absurd (cc)

    -- a first argument that is to be a vault is one
    vault-first : (cmd : Command) (args : List Argument) (modes : List Mode) → takes_vault modes ≡ true → AllRead t b cmd [] (paired args modes) → amount_of (item_at (given_all b (paired args modes)) 0).content < amount_limit
    vault-first cmd [] modes takes read = omega arith
    vault-first cmd (a ∷ args) [] takes read = absurd (cc)
    vault-first cmd (a ∷ args) (mode.Number ∷ modes) takes read = absurd (cc)
    vault-first cmd (a ∷ args) (mode.ByValue k ∷ modes) takes read = absurd (cc)
    vault-first cmd (a ∷ args) (mode.ByRef k ∷ modes) takes read = absurd (cc)
    vault-first cmd (a ∷ args) (mode.Coins ∷ modes) takes read = absurd (cc)
    vault-first cmd (a ∷ args) (mode.ByMut k ∷ modes) takes read =
        let o = is-changed k read.0.value read.0.fitting in
        let there : value_in (place_of a) b.slots ≡ Some (object o.0) = read.0.there ∙ ap Some o.1.0 in
        let is : kind_eq (kind_of o.0.content) kind.Vault ≡ true = subst (λ (v : Kind). kind_eq (kind_of o.0.content) v ≡ true) (same-vault k takes) o.1.1 in
        rw there (vault-amount all o.0.content is (value-every Lying (place_of a) (object o.0) b.slots it.slots there))

    taken-lie : (needs : List (Argument × Need)) (d : Block) → Every Lying d.slots → Every Lying (spend_taken needs d).slots
    taken-lie [] d lying = lying
    taken-lie (x ∷ rest) d lying = taken-lie rest _ (go (takes_value x.1))
      where
        go : (z : Bool) → Every Lying (cond z (spend x.0 d) d).slots
        go true = put-every Lying (place_of x.0) None d.slots lying tt
        go false = lying

    put-lie : (needs : List (Argument × Need)) (changed : Option Item) (d : Block) → LowChange all changed → Every Lying d.slots → Every Lying (put_changed needs changed d).slots
    put-lie [] changed d is lying = lying
    put-lie (x ∷ rest) None d is lying = lying
    put-lie (x ∷ rest) (Some i) d is lying = put-every Lying (place_of x.0) (Some (object i)) d.slots lying is

    goes : (left : Option Placed) → LowLeft all left → Each (LowPlaced all) (placed_list left)
    goes None l = tt
    goes (Some p) l = (l, tt)

    called-low : (needs : List (Argument × Need)) (g : Gave) (after : Block) → Gives all g → called c b needs g ≡ Ok after → IsLow after
    called-low needs (gave.Abort code) after g e = absurd (cc)
    called-low needs (gave.Done results changed left made) after g e = subst IsLow (ok-same Fault (called_block c b needs results changed left made) after e) (record {
      slots = more-results c (put_changed needs changed (spend_taken needs b)).slots (map object results)
          (put-lie needs changed (spend_taken needs b) g.changed_is (taken-lie needs b it.slots)) (objects-hold results g.results_are);
      placed = each_join (LowPlaced all) b.placed (placed_list left) it.placed (goes left g.left_is);
    })

    performed-low : (x : Command) (after : Block) → arguments_cause t b x [] (needs_of x) ≡ None → performed t tx version c b x ≡ Ok after → IsLow after
    performed-low (command.Split coin amounts) after none e = split-low (command.Split coin amounts) coin amounts after (all-read t b (command.Split coin amounts) [] (needs_of (command.Split coin amounts)) none) e
    performed-low (command.Merge target sources) after none e = merge-low target sources (item_in b target) after e
    performed-low (command.Transfer values to) after none e = subst IsLow (ok-same Fault (transfer_block b values (address_in b to)) after e) (transfer-low values (address_in b to))
    performed-low (command.MakeVec k values) after none e = subst IsLow (ok-same Fault (vector_block c b k values) after e) (vector-low k values)
    performed-low (command.Call native args) after none e =
        called-low (paired args (parameters_of native)) (native_gives native (site tx version b) (given_all b (paired args (parameters_of native)))) after
        (native-low all native (given_all b (paired args (parameters_of native)))
        (λ takes. vault-first (command.Call native args) args (parameters_of native) takes (all-read t b (command.Call native args) [] (needs_of (command.Call native args)) none))
        (site tx version b) (all-given (paired args (parameters_of native)))) e

    step-low : (x : Command) (after : Block) → command_step t tx version c b x ≡ Ok after → IsLow after
    unfolding command_step
    step-low x after e =
        let r = refused-ok (option_map cause (taken_cause t b x)) (performed t tx version c b x) after e in
        let n = all_none (where_true (wrong_count x) 11 ∷ arguments_cause t b x [] (needs_of x) ∷ []) (map_none cause (taken_cause t b x) r.0) in
        performed-low x after n.1.0 r.1

  -- ---- all commands

  commands-low : (t : Transaction) (tx : Digest) (version c : ℕ) (xs : List Command) (b after : Block) → IsLow b → commands_from t tx version c xs b ≡ Ok after → IsLow after
  commands-low t tx version c [] b after it e = subst IsLow (ok-same Failure b after e) it
  commands-low t tx version c (x ∷ xs) b after it e = go (command_step t tx version c b x) refl e (λ next k f. commands-low t tx version (suc c) xs next after k f)
    where
      go : (r : Result Block Fault) → command_step t tx version c b x ≡ r → commands_next t tx version c (commands_from t tx version (suc c) xs) r ≡ Ok after
          → ((next : Block) → IsLow next → commands_from t tx version (suc c) xs next ≡ Ok after → IsLow after) → IsLow after
      go (Ok next) h e rest = rest next (step-low t tx version c b it x next h) e
      go (Err fault) h e rest = absurd (cc)

  -- ---- from the first block

  abbrev pub LowObject : Object → Type 0
  LowObject o = Low all o.content

  -- what the pure inputs say
  abbrev pub LowInput : Input → Type 0
  LowInput (inputs.Pure bytes) = LowNumber all (from_le_bytes w64 bytes)
  LowInput (inputs.Owned r) = Unit {0}
  LowInput (inputs.Immutable r) = Unit {0}
  LowInput (inputs.Shared id initial mutable) = Unit {0}

  inputs-lie : (n : ℕ) (is : List Input) (os : List Object) → Each LowInput is → Each LowObject os → Every Lying (input_slots n is os)
  inputs-lie n [] os ins each = tt
  inputs-lie n (inputs.Pure bytes ∷ is) os ins each = (ins.0, inputs-lie (suc n) is os ins.1 each)
  inputs-lie n (inputs.Owned r ∷ is) [] ins each = tt
  inputs-lie n (inputs.Owned r ∷ is) (o ∷ os) ins each = (each.0, inputs-lie (suc n) is os ins.1 each.1)
  inputs-lie n (inputs.Immutable r ∷ is) [] ins each = tt
  inputs-lie n (inputs.Immutable r ∷ is) (o ∷ os) ins each = (each.0, inputs-lie (suc n) is os ins.1 each.1)
  inputs-lie n (inputs.Shared id initial mutable ∷ is) [] ins each = tt
  inputs-lie n (inputs.Shared id initial mutable ∷ is) (o ∷ os) ins each = (each.0, inputs-lie (suc n) is os ins.1 each.1)

  starts : (t : Transaction) (objects : List Object) → Each LowInput t.inputs → Each LowObject objects → IsLow (first_block t objects)
  starts t [] ins each = record { slots = tt; placed = tt }
  starts t (coin ∷ os) ins each = record { slots = (less-low all t.budget coin.content each.0, inputs-lie 0 t.inputs os ins each.1); placed = tt }

  pub ends-low : (t : Transaction) (tx : Digest) (objects : List Object) (b : Block) → Each LowInput t.inputs → Each LowObject objects → outcome t tx objects ≡ Ok b → IsLow b
  unfolding outcome
  ends-low t tx objects b ins each e = go (commands_from t tx (version_of objects) 0 t.commands (first_block t objects)) refl e
    where
      left : (after : Block) (u : Bool) → cond {A = Result Block Failure} u (Err (length t.commands, cause 12)) (Ok after) ≡ Ok b → IsLow after → IsLow b
      left after true e it = absurd (cc)
      left after false e it = subst IsLow (ok-same Failure after b e) it

      go : (r : Result Block Failure) → commands_from t tx (version_of objects) 0 t.commands (first_block t objects) ≡ r → checked_end t r ≡ Ok b → IsLow b
      go (Ok after) h e = left after (list_any is_unused after.slots) e (commands-low t tx (version_of objects) 0 t.commands (first_block t objects) after (starts t objects ins each) h)
      go (Err failure) h e = absurd (cc)
