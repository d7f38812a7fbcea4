-- After every command the gas coin and the withheld budget are an amount together, wherever the coin is.
use Rattle.std.proofs.Common.{refl, ap, sym, subst, ◌∙◌, inl, inr}
use Rattle.std.specs.Prelude.{◌≡◌, ◌≤◌, ◌<◌, ◌+◌, ◌-◌, ℕ, zero, suc, Bool, true, false, cond, not, ◌&&◌, nat_lt, nat_le, List, [], ◌∷◌, ◌++◌, map, sum, length, slice_get, option_map, Option, Some, None, Result, Ok, Err}
use Rattle.std.specs.List.{list_all, list_any, enumerate_from}
use Rattle.std.proofs.lemmas.Bool.{leb-false}
use native.Mathlib.Omega.{arith}
use Rattle.digest_core.specs.declared.Digest.{Digest}
use Rattle.chain_types.specs.declared.objects.ObjectId.{ObjectId}
use Rattle.chain_types.specs.declared.objects.Address.{Address}
use Rattle.chain_types.specs.declared.objects.Owner.TheVariants as owner
use Rattle.chain_types.specs.declared.objects.Kind.{Kind}
use Rattle.chain_types.specs.declared.objects.Kind.TheVariants as kind
use Rattle.chain_types.specs.declared.objects.Object.{Object}
use Rattle.chain_types.specs.declared.objects.Content.{Content}
use Rattle.chain_types.specs.declared.objects.Content.TheVariants as content
use Rattle.chain_types.specs.declared.transactions.Argument.{Argument}
use Rattle.chain_types.specs.declared.transactions.Argument.TheVariants as argument
use Rattle.chain_types.specs.declared.transactions.Input.{Input}
use Rattle.chain_types.specs.declared.transactions.Input.TheVariants as inputs
use Rattle.chain_types.specs.declared.transactions.Command.{Command}
use Rattle.chain_types.specs.declared.transactions.Command.TheVariants as command
use Rattle.chain_types.specs.declared.transactions.Transaction.{Transaction}
use Rattle.protocol_spec.specs.declared.pieces.Item.{Item}
use Rattle.protocol_spec.specs.declared.pieces.Placed.{Placed}
use Rattle.protocol_spec.specs.declared.pieces.Gave.{Gave}
use Rattle.protocol_spec.specs.declared.pieces.Gave.TheVariants as gave
use Rattle.chain_types.specs.declared.natives.Mode.{Mode}
use Rattle.protocol_spec.proofs.ListLemmas.{all_none, and-first, and-second, each_as, has_left, has_right, append_nil, has_map}
use Rattle.protocol_spec.proofs.Truth.{where_false, map_none}
use Rattle.protocol_spec.specs.Chain.Words.{Each, Has, first_some, where_true}
use Rattle.protocol_spec.specs.Chain.Tests.{kind_eq}
use Rattle.protocol_spec.specs.Chain.Keys.{version_of}
use Rattle.protocol_spec.specs.Block.Natives.{kind_of, amount_of, with_amount, holding, parameters, parameters_at, parameters_of, amount_limit, native_gives}
use Rattle.protocol_spec.specs.Block.Block.{Place, gas, input, result, Value, pure, object, vector, Slot, Block, value_in, put_in, result_slots}
use Rattle.protocol_spec.specs.Block.Commands.{Fault, cause, Need, number, address, by_value, by_mut, by_ref, coins, need_of, paired, all_by, needs_of, place_of, is_right_kind, is_transfer, takes_value, stays_in_place, wrong_count, arguments_cause, taken_cause, piece_of, item_in, items_in, number_in, spend, spend_all, split, split_block, withheld, sum_of, merge_cases, merge_block, merge, placed_at, address_in, transfer_block, vector_block, given_all, spend_taken, put_changed, placed_list, called_block, called, site, performed, command_step}
use Rattle.protocol_spec.specs.Block.Execution.{Failure, gas_item, input_slots, first_block, commands_from, commands_next, is_unused, checked_end, outcome}
use Rattle.block_law.proofs.Slots.{Every, put-every, value-every, every-append, Lies, spend-placed, spend-every}
use Rattle.block_law.proofs.Reading.{IsRead, AllRead, all-read, is-changed, Takes, takes}
use Rattle.block_law.proofs.Amounts.{amount}
use Rattle.block_law.proofs.Kept.{result_slot}
use Rattle.block_law.proofs.Steps.{ok-same, unless-ok}
use Rattle.block_law.proofs.Blocks.{refused-ok}

-- ---- the coin that pays gas

-- of this id, a coin of the currency that pays gas, and with the budget no more than an amount
pub record IsPayer (t : Transaction) (id : ObjectId) (i : Item) : Type 0 where
  pub same : i.id ≡ id
  pub shows : ℕ
  pub is_coin : i.content ≡ content.Coin 0 shows
  pub low : shows + t.budget < amount_limit

pub payer-holding : (t : Transaction) (id : ObjectId) (i : Item) (n : ℕ) → IsPayer t id i → n + t.budget < amount_limit → IsPayer t id (holding n i)
payer-holding t id i n pays low = record { same = pays.same; shows = n; is_coin = ap (with_amount n) pays.is_coin; low = low }

payer-amount : (t : Transaction) (id : ObjectId) (i : Item) → IsPayer t id i → amount i + t.budget < amount_limit
payer-amount t id i pays = let same = ap amount_of pays.is_coin in let low = pays.low in omega (arith, same, low)

-- ---- where it lies

module _ (t : Transaction) (id : ObjectId) where
  -- the place of the gas coin holds it, or it is among the objects that left
  abbrev pub Pays : List Placed → Place → Option Value → Type 0
  Pays placed gas None = (p : Placed) × (Has placed p × IsPayer t id p.item)
  Pays placed gas (Some (pure bytes)) = ⊥
  Pays placed gas (Some (object i)) = IsPayer t id i
  Pays placed gas (Some (vector k is)) = ⊥
  Pays placed (input n) v = Unit {0}
  Pays placed (result c k) v = Unit {0}

  pays-grows : (placed more : List Placed) (p : Place) (v : Option Value) → Pays placed p v → Pays (placed ++ more) p v
  pays-grows placed more gas None pays = (pays.0, (has_left placed more pays.0 pays.1.0, pays.1.1))
  pays-grows placed more gas (Some (pure bytes)) pays = pays
  pays-grows placed more gas (Some (object i)) pays = pays
  pays-grows placed more gas (Some (vector k is)) pays = pays
  pays-grows placed more (input n) v pays = tt
  pays-grows placed more (result c k) v pays = tt

  every-pays-grows : (placed more : List Placed) (slots : List Slot) → Every (Pays placed) slots → Every (Pays (placed ++ more)) slots
  every-pays-grows placed more [] each = tt
  every-pays-grows placed more (s ∷ slots) each = (pays-grows placed more s.place s.value each.0, every-pays-grows placed more slots each.1)

  results-pay : (placed : List Placed) (c n : ℕ) (values : List Value) → Every (Pays placed) (map (result_slot c) (enumerate_from n values))
  results-pay placed c n [] = tt
  results-pay placed c n (v ∷ values) = (tt, results-pay placed c (n + 1) values)

  with-results : (placed : List Placed) (slots : List Slot) (c : ℕ) (values : List Value) → Every (Pays placed) slots → Every (Pays placed) (slots ++ result_slots c values)
  with-results placed slots c values each = every-append (Pays placed) slots (result_slots c values) each (results-pay placed c 0 values)

  -- a place that is not that of the gas coin may be spent
  spent-pays : (c : Command) (placed : List Placed) (p : Place) → is_transfer c ≡ false → stays_in_place t c p ≡ false → Pays placed p None
  spent-pays c placed gas kept moves = go (is_transfer c) kept moves
    where
      go : (b : Bool) → b ≡ false → not b ≡ false → Pays placed gas None
      go true e f = absurd (cc)
      go false e f = absurd (cc)
  spent-pays c placed (input n) kept moves = tt
  spent-pays c placed (result d k) kept moves = tt

  -- another amount
  holding-pays : (placed : List Placed) (a : Argument) (i : Item) (n : ℕ) → (IsPayer t id i → n + withheld t a < amount_limit) → Pays placed (place_of a) (Some (object i)) → Pays placed (place_of a) (Some (object (holding n i)))
  holding-pays placed argument.Gas i n low pays = payer-holding t id i n pays (low pays)
  holding-pays placed (argument.Input k) i n low pays = tt
  holding-pays placed (argument.Result c) i n low pays = tt
  holding-pays placed (argument.Nested c k) i n low pays = tt

  -- ---- one command

  module _ (tx : Digest) (version c : ℕ) (b : Block) (each : Every (Pays b.placed) b.slots) where
    spent-all : (cmd : Command) (args : List Argument) → is_transfer cmd ≡ false → Each (λ (a : Argument). stays_in_place t cmd (place_of a) ≡ false) args → Every (Pays b.placed) (spend_all args b).slots
    spent-all cmd args kept moves = spend-every (Pays b.placed) args b (each_as (λ (a : Argument). stays_in_place t cmd (place_of a) ≡ false) (λ (a : Argument). Pays b.placed (place_of a) None) args (λ a m. spent-pays cmd b.placed (place_of a) kept m) moves) each

    -- Split takes from the coin
    less : (a : Argument) (i : Item) (n : ℕ) → IsPayer t id i → amount i - n + withheld t a < amount_limit
    less argument.Gas i n pays = let low = payer-amount t id i pays in omega (arith, low)
    less (argument.Input k) i n pays = let low = payer-amount t id i pays in omega (arith, low)
    less (argument.Result d) i n pays = let low = payer-amount t id i pays in omega (arith, low)
    less (argument.Nested d k) i n pays = let low = payer-amount t id i pays in omega (arith, low)

    split-pays : (cmd : Command) (coin : Argument) (amounts : List Argument) (after : Block) → AllRead t b cmd [] ((coin, by_mut kind.Coin) ∷ all_by number amounts) → split (site tx version b) c b coin (item_in b coin) (map (number_in b) amounts) ≡ Ok after → Every (Pays after.placed) after.slots
    split-pays cmd coin amounts after read e = go (nat_lt (amount o.0) (sum ns)) (subst (λ i. split (site tx version b) c b coin i ns ≡ Ok after) (ap piece_of there) e)
      where
        ns : List ℕ
        ns = map (number_in b) amounts

        o : (i : Item) × ((read.0.value ≡ object i) × (kind_eq (kind_of i.content) kind.Coin ≡ true))
        o = is-changed kind.Coin read.0.value read.0.fitting

        there : value_in (place_of coin) b.slots ≡ Some (object o.0)
        there = read.0.there ∙ ap Some o.1.0

        held : Item
        held = holding (amount o.0 - sum ns) o.0

        done : Every (Pays b.placed) (split_block (site tx version b) c b coin o.0 ns).slots
        done = with-results b.placed (put_in (place_of coin) (Some (object held)) b.slots) c _
            (put-every (Pays b.placed) (place_of coin) (Some (object held)) b.slots each
            (holding-pays b.placed coin o.0 (amount o.0 - sum ns) (less coin o.0 (sum ns)) (value-every (Pays b.placed) (place_of coin) (object o.0) b.slots each there)))

        go : (x : Bool) → cond x (Err (cause 8)) (Ok (split_block (site tx version b) c b coin o.0 ns)) ≡ Ok after → Every (Pays after.placed) after.slots
        go true e = absurd (cc)
        go false e = subst (λ (d : Block). Every (Pays d.placed) d.slots) (ok-same Fault (split_block (site tx version b) c b coin o.0 ns) after e) done

    -- Merge counts the withheld budget
    merge-pays : (cmd : Command) (target : Argument) (sources : List Argument) (after : Block) → is_transfer cmd ≡ false → AllRead t b cmd [] ((target, by_mut kind.Coin) ∷ all_by (by_value (Some kind.Coin)) sources) → merge t b target (item_in b target) sources ≡ Ok after → Every (Pays after.placed) after.slots
    merge-pays cmd target sources after kept read e = subst (λ (d : Block). Every (Pays d.placed) d.slots) merged.1 done
      where
        o : (i : Item) × ((read.0.value ≡ object i) × (kind_eq (kind_of i.content) kind.Coin ≡ true))
        o = is-changed kind.Coin read.0.value read.0.fitting

        there : value_in (place_of target) b.slots ≡ Some (object o.0)
        there = read.0.there ∙ ap Some o.1.0

        rest : AllRead t b cmd (target ∷ []) (all_by (by_value (Some kind.Coin)) sources ++ [])
        rest = subst (AllRead t b cmd (target ∷ [])) (sym (append_nil (all_by (by_value (Some kind.Coin)) sources))) read.1

        k : Takes t b cmd sources
        k = takes t b cmd (Some kind.Coin) (target ∷ []) sources [] rest

        merged : (first_some (merge_cases t target o.0 (items_in b sources)) ≡ None) × (merge_block b target o.0 sources ≡ after)
        merged = unless-ok (first_some (merge_cases t target o.0 (items_in b sources))) (merge_block b target o.0 sources) after (subst (λ i. merge t b target i sources ≡ Ok after) (ap piece_of there) e)

        total : ℕ
        total = amount o.0 + sum_of (items_in b sources)

        low : total + withheld t target < amount_limit
        low =
            let none = all_none (merge_cases t target o.0 (items_in b sources)) merged.0 in
            let below = leb-false amount_limit (amount_of o.0.content + withheld t target + sum_of (items_in b sources)) (where_false (nat_le amount_limit (amount_of o.0.content + withheld t target + sum_of (items_in b sources))) (cause 9) none.1.0) in
            omega (arith, below)

        done : Every (Pays (merge_block b target o.0 sources).placed) (merge_block b target o.0 sources).slots
        done = subst (λ placed. Every (Pays placed) (merge_block b target o.0 sources).slots) (sym (spend-placed sources b))
            (put-every (Pays b.placed) (place_of target) (Some (object (holding total o.0))) (spend_all sources b).slots (spent-all cmd sources kept k.moves)
            (holding-pays b.placed target o.0 total (λ pays. low) (value-every (Pays b.placed) (place_of target) (object o.0) b.slots each there)))

    -- Transfer lets it leave
    gone-pays : (placed : List Placed) (p : Place) (i : Item) → ((q : Placed) × (Has placed q × (q.item ≡ i))) → Pays placed p (Some (object i)) → Pays placed p None
    gone-pays placed gas i found pays = (found.0, (found.1.0, subst (IsPayer t id) (sym found.1.1) pays))
    gone-pays placed (input n) i found pays = tt
    gone-pays placed (result d k) i found pays = tt

    all-gone : (placed : List Placed) (args : List Argument) (items : List Item) → Lies b.slots args (map object items) → ((i : Item) → Has items i → (q : Placed) × (Has placed q × (q.item ≡ i))) → Every (Pays placed) b.slots → Each (λ (a : Argument). Pays placed (place_of a) None) args
    all-gone placed [] [] lies found grown = tt
    all-gone placed (a ∷ args) (i ∷ items) lies found grown = (
      gone-pays placed (place_of a) i (found i (inl refl)) (value-every (Pays placed) (place_of a) (object i) b.slots grown lies.0),
      all-gone placed args items lies.1.1 (λ j has. found j (inr has)) grown,
    )
    all-gone placed [] (i ∷ items) lies found grown = tt
    all-gone placed (a ∷ args) [] lies found grown = absurd lies

    transfer-pays : (cmd : Command) (values : List Argument) (to : Argument) (who : Address) → AllRead t b cmd [] (all_by (by_value None) values ++ (to, address) ∷ []) → Every (Pays (transfer_block b values who).placed) (transfer_block b values who).slots
    transfer-pays cmd values to who read = spend-every (Pays (b.placed ++ new)) values b (all-gone (b.placed ++ new) values k.items k.lies leaves grown) grown
      where
        k : Takes t b cmd values
        k = takes t b cmd None [] values ((to, address) ∷ []) read

        new : List Placed
        new = map (placed_at (owner.Address who)) (items_in b values)

        grown : Every (Pays (b.placed ++ new)) b.slots
        grown = every-pays-grows b.placed new b.slots each

        leaves : (i : Item) → Has k.items i → (p : Placed) × (Has (b.placed ++ new) p × (p.item ≡ i))
        leaves i has = (placed_at (owner.Address who) i, (has_right b.placed new (placed_at (owner.Address who) i) (has_map (placed_at (owner.Address who)) (items_in b values) i (subst (λ is. Has is i) (sym k.found) has)), refl))

    vector-pays : (cmd : Command) (k : Kind) (values : List Argument) → is_transfer cmd ≡ false → AllRead t b cmd [] (all_by (by_value (Some k)) values) → Every (Pays (vector_block c b k values).placed) (vector_block c b k values).slots
    vector-pays cmd k values kept read = subst (λ placed. Every (Pays placed) (vector_block c b k values).slots) (sym (spend-placed values b))
        (with-results b.placed (spend_all values b).slots c (vector k (items_in b values) ∷ [])
        (spent-all cmd values kept (takes t b cmd (Some k) [] values [] (subst (AllRead t b cmd []) (sym (append_nil (all_by (by_value (Some k)) values))) read)).moves))

    -- ---- no native takes the gas coin

    taken-pays : (cmd : Command) (earlier : List Argument) (needs : List (Argument × Need)) (d : Block) → is_transfer cmd ≡ false → AllRead t b cmd earlier needs → Every (Pays b.placed) d.slots → Every (Pays b.placed) (spend_taken needs d).slots
    taken-pays cmd earlier [] d kept read paying = paying
    taken-pays cmd earlier (x ∷ rest) d kept read paying = taken-pays cmd (earlier ++ x.0 ∷ []) rest _ kept read.1 (go (takes_value x.1) read.0.moves)
      where
        go : (z : Bool) → (z && stays_in_place t cmd (place_of x.0)) ≡ false → Every (Pays b.placed) (cond z (spend x.0 d) d).slots
        go true moves = put-every (Pays b.placed) (place_of x.0) None d.slots paying (spent-pays cmd b.placed (place_of x.0) kept moves)
        go false moves = paying

    -- an argument for a parameter that is not a coin by reference is not the gas coin
    abbrev no_coin : Need → Bool
    no_coin number = true
    no_coin address = true
    no_coin (by_value k) = true
    no_coin (by_mut k) = not (kind_eq kind.Coin k)
    no_coin (by_ref k) = not (kind_eq kind.Coin k)
    no_coin coins = true

    kind-coin : (i : Item) (k : Kind) → IsPayer t id i → kind_eq (kind_of i.content) k ≡ true → not (kind_eq kind.Coin k) ≡ true → ⊥
    kind-coin i k pays fitting other = go (kind_eq kind.Coin k) (subst (λ (l : Content). kind_eq (kind_of l) k ≡ true) pays.is_coin fitting) other
      where
        go : (z : Bool) → z ≡ true → not z ≡ true → ⊥
        go true e f = cc
        go false e f = cc

    stays-gas : (cmd : Command) → is_transfer cmd ≡ false → (true && not (is_transfer cmd)) ≡ false → ⊥
    stays-gas cmd kept moves = go (is_transfer cmd) kept moves
      where
        go : (z : Bool) → z ≡ false → (true && not z) ≡ false → ⊥
        go true e f = cc
        go false e f = cc

    never-gas : (cmd : Command) (need : Need) (v : Value) → is_transfer cmd ≡ false → no_coin need ≡ true → is_right_kind need v ≡ true → (takes_value need && not (is_transfer cmd)) ≡ false → Pays b.placed gas (Some v) → ⊥
    never-gas cmd need (pure bytes) kept other fitting moves pays = pays
    never-gas cmd need (vector k is) kept other fitting moves pays = pays
    never-gas cmd number (object i) kept other fitting moves pays = cc
    never-gas cmd address (object i) kept other fitting moves pays = cc
    never-gas cmd (by_value k) (object i) kept other fitting moves pays = stays-gas cmd kept moves
    never-gas cmd (by_mut k) (object i) kept other fitting moves pays = kind-coin i k pays fitting other
    never-gas cmd (by_ref k) (object i) kept other fitting moves pays = kind-coin i k pays fitting other
    never-gas cmd coins (object i) kept other fitting moves pays = cc

    changed-pays : (cmd : Command) (a : Argument) (need : Need) (i : Item) → is_transfer cmd ≡ false → no_coin need ≡ true → IsRead t b cmd [] a need → Pays b.placed (place_of a) (Some (object i))
    changed-pays cmd argument.Gas need i kept other read = absurd (never-gas cmd need read.value kept other read.fitting read.moves (value-every (Pays b.placed) gas read.value b.slots each read.there))
    changed-pays cmd (argument.Input n) need i kept other read = tt
    changed-pays cmd (argument.Result d) need i kept other read = tt
    changed-pays cmd (argument.Nested d k) need i kept other read = tt

    abbrev FirstIsNoCoin : List (Argument × Need) → Type 0
    FirstIsNoCoin [] = Unit {0}
    FirstIsNoCoin (x ∷ rest) = no_coin x.1 ≡ true

    put-pays : (cmd : Command) (needs : List (Argument × Need)) (changed : Option Item) (d : Block) → is_transfer cmd ≡ false → FirstIsNoCoin needs → AllRead t b cmd [] needs → Every (Pays b.placed) d.slots → Every (Pays b.placed) (put_changed needs changed d).slots
    put-pays cmd [] changed d kept other read paying = paying
    put-pays cmd (x ∷ rest) None d kept other read paying = paying
    put-pays cmd (x ∷ rest) (Some i) d kept other read paying = put-every (Pays b.placed) (place_of x.0) (Some (object i)) d.slots paying (changed-pays cmd x.0 x.1 i kept other read.0)

    called-pays : (cmd : Command) (needs : List (Argument × Need)) (g : Gave) (after : Block) → is_transfer cmd ≡ false → FirstIsNoCoin needs → AllRead t b cmd [] needs → called c b needs g ≡ Ok after → Every (Pays after.placed) after.slots
    called-pays cmd needs (gave.Abort code) after kept other read e = absurd (cc)
    called-pays cmd needs (gave.Done results changed left made) after kept other read e = subst (λ (d : Block). Every (Pays d.placed) d.slots) (ok-same Fault (called_block c b needs results changed left made) after e)
        (with-results (b.placed ++ placed_list left) (put_changed needs changed (spend_taken needs b)).slots c (map object results)
        (every-pays-grows b.placed (placed_list left) (put_changed needs changed (spend_taken needs b)).slots (put-pays cmd needs changed (spend_taken needs b) kept other read (taken-pays cmd [] needs b kept read each))))

    -- the first parameter of no native is a coin by reference
    abbrev first_right : List Mode → Bool
    first_right [] = true
    first_right (m ∷ ms) = no_coin (need_of m)

    right-at : (table : List (List Mode)) (native : ℕ) → list_all first_right table ≡ true → first_right (parameters_at (slice_get table native)) ≡ true
    right-at [] native all = refl
    right-at (modes ∷ table) zero all = and-first (first_right modes) (list_all first_right table) all
    right-at (modes ∷ table) (suc native) all = right-at table native (and-second (first_right modes) (list_all first_right table) all)

    first-right : (native : ℕ) → first_right (parameters_of native) ≡ true
    first-right native = right-at parameters native refl

    first-need : (args : List Argument) (modes : List Mode) → first_right modes ≡ true → FirstIsNoCoin (paired args modes)
    first-need [] modes right = tt
    first-need (a ∷ args) [] right = tt
    first-need (a ∷ args) (m ∷ modes) right = right

    performed-pays : (x : Command) (after : Block) → arguments_cause t b x [] (needs_of x) ≡ None → performed t tx version c b x ≡ Ok after → Every (Pays after.placed) after.slots
    performed-pays (command.Call native args) after none e = called-pays (command.Call native args) (paired args (parameters_of native)) (native_gives native (site tx version b) (given_all b (paired args (parameters_of native)))) after refl (first-need args (parameters_of native) (first-right native)) (all-read t b (command.Call native args) [] (needs_of (command.Call native args)) none) e
    performed-pays (command.Transfer values to) after none e = subst (λ (d : Block). Every (Pays d.placed) d.slots) (ok-same Fault (transfer_block b values (address_in b to)) after e) (transfer-pays (command.Transfer values to) values to (address_in b to) (all-read t b (command.Transfer values to) [] (needs_of (command.Transfer values to)) none))
    performed-pays (command.Split coin amounts) after none e = split-pays (command.Split coin amounts) coin amounts after (all-read t b (command.Split coin amounts) [] (needs_of (command.Split coin amounts)) none) e
    performed-pays (command.Merge target sources) after none e = merge-pays (command.Merge target sources) target sources after refl (all-read t b (command.Merge target sources) [] (needs_of (command.Merge target sources)) none) e
    performed-pays (command.MakeVec k values) after none e = subst (λ (d : Block). Every (Pays d.placed) d.slots) (ok-same Fault (vector_block c b k values) after e) (vector-pays (command.MakeVec k values) k values refl (all-read t b (command.MakeVec k values) [] (needs_of (command.MakeVec k values)) none))

    step-pays : (x : Command) (after : Block) → command_step t tx version c b x ≡ Ok after → Every (Pays after.placed) after.slots
    unfolding command_step
    step-pays x after e =
        let r = refused-ok (option_map cause (taken_cause t b x)) (performed t tx version c b x) after e in
        let n = all_none (where_true (wrong_count x) 11 ∷ arguments_cause t b x [] (needs_of x) ∷ []) (map_none cause (taken_cause t b x) r.0) in
        performed-pays x after n.1.0 r.1

  -- ---- all commands

  commands-pay : (tx : Digest) (version c : ℕ) (xs : List Command) (b after : Block) → Every (Pays b.placed) b.slots → commands_from t tx version c xs b ≡ Ok after → Every (Pays after.placed) after.slots
  commands-pay tx version c [] b after each e = subst (λ (d : Block). Every (Pays d.placed) d.slots) (ok-same Failure b after e) each
  commands-pay tx version c (x ∷ xs) b after each e = go (command_step t tx version c b x) refl e (λ next k f. commands-pay tx version (suc c) xs next after k f)
    where
      go : (r : Result Block Fault) → command_step t tx version c b x ≡ r → commands_next t tx version c (commands_from t tx version (suc c) xs) r ≡ Ok after
          → ((next : Block) → Every (Pays next.placed) next.slots → commands_from t tx version (suc c) xs next ≡ Ok after → Every (Pays after.placed) after.slots) → Every (Pays after.placed) after.slots
      go (Ok next) h e rest = rest next (step-pays tx version c b each x next h) e
      go (Err fault) h e rest = absurd (cc)

  -- ---- from the first block to the end

  inputs-pay : (n : ℕ) (is : List Input) (os : List Object) → Every (Pays []) (input_slots n is os)
  inputs-pay n [] os = tt
  inputs-pay n (inputs.Pure bytes ∷ is) os = (tt, inputs-pay (suc n) is os)
  inputs-pay n (inputs.Owned r ∷ is) [] = tt
  inputs-pay n (inputs.Owned r ∷ is) (o ∷ os) = (tt, inputs-pay (suc n) is os)
  inputs-pay n (inputs.Immutable r ∷ is) [] = tt
  inputs-pay n (inputs.Immutable r ∷ is) (o ∷ os) = (tt, inputs-pay (suc n) is os)
  inputs-pay n (inputs.Shared id initial mutable ∷ is) [] = tt
  inputs-pay n (inputs.Shared id initial mutable ∷ is) (o ∷ os) = (tt, inputs-pay (suc n) is os)

-- the gas coin opens as a payer: its budget is withheld
opens : (t : Transaction) (coin : Object) (balance : ℕ) → coin.content ≡ content.Coin 0 balance → t.budget ≤ balance → balance < amount_limit → IsPayer t coin.id (gas_item t coin)
opens t coin balance held enough low = record {
  same = refl;
  shows = balance - t.budget;
  is_coin = ap (λ (k : Content). with_amount (amount_of k - t.budget) k) held;
  low = omega (arith, enough, low);
}

pub ends : (t : Transaction) (tx : Digest) (coin : Object) (os : List Object) (balance : ℕ) (b : Block) → coin.content ≡ content.Coin 0 balance → t.budget ≤ balance → balance < amount_limit
    → outcome t tx (coin ∷ os) ≡ Ok b → Every (Pays t coin.id b.placed) b.slots
unfolding outcome
ends t tx coin os balance b held enough low e = go (commands_from t tx (version_of (coin ∷ os)) 0 t.commands (first_block t (coin ∷ os))) refl e
  where
    left : (after : Block) (u : Bool) → cond {A = Result Block Failure} u (Err (length t.commands, cause 12)) (Ok after) ≡ Ok b → Every (Pays t coin.id after.placed) after.slots → Every (Pays t coin.id b.placed) b.slots
    left after true e pays = absurd (cc)
    left after false e pays = subst (λ (d : Block). Every (Pays t coin.id d.placed) d.slots) (ok-same Failure after b e) pays

    go : (r : Result Block Failure) → commands_from t tx (version_of (coin ∷ os)) 0 t.commands (first_block t (coin ∷ os)) ≡ r → checked_end t r ≡ Ok b → Every (Pays t coin.id b.placed) b.slots
    go (Ok after) h e = left after (list_any is_unused after.slots) e
        (commands-pay t coin.id tx (version_of (coin ∷ os)) 0 t.commands (first_block t (coin ∷ os)) after (opens t coin balance held enough low, inputs-pay t coin.id 0 t.inputs os) h)
    go (Err failure) h e = absurd (cc)
