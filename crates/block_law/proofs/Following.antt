-- Money along a list of transactions.
use Rattle.std.proofs.Common.{refl, ap, sym, subst, ◌∙◌}
use Rattle.std.proofs.lemmas.Bool.{ne_eqb}
use Rattle.std.specs.Prelude.{◌≡◌, ◌≢◌, ◌+◌, ℕ, suc, Bool, true, false, cond, ◌&&◌, ◌==◌, nat_lt, List, [], ◌∷◌, ◌++◌, map, fold, filter_map, Option, Some, None, Result, Ok, Err}
use Rattle.std.specs.List.{cons_option}
use native.Mathlib.Omega.{arith}
use Rattle.std.specs.FinMap.{values, get}
use Rattle.digest_core.specs.declared.Digest.{Digest}
use Rattle.digest_core.specs.Tagged.{created_id_of}
use Rattle.chain_types.specs.declared.objects.ObjectId.{ObjectId}
use Rattle.chain_types.specs.declared.objects.Object.{Object}
use Rattle.chain_types.specs.declared.objects.Content.{Content}
use Rattle.chain_types.specs.declared.transactions.Input.{Input}
use Rattle.chain_types.specs.declared.transactions.Input.TheVariants as inputs
use Rattle.chain_types.specs.declared.transactions.Transaction.{Transaction}
use Rattle.chain_types.specs.Equal.{digest_eq, id_eq}
use Rattle.chain_types.specs.Digests.{transaction_digest, digest_of_object}
use Rattle.effects_core.specs.declared.effects.Effects.{Effects}
use Rattle.effects_core.specs.declared.effects.Written.{Written}
use Rattle.protocol_spec.proofs.Equality.{id_same}
use Rattle.protocol_spec.specs.Chain.Words.{Each, all_some, onto_some, numbers_below, repeats}
use Rattle.protocol_spec.specs.Chain.Keys.{fits, fits_input, fit_inputs, pays_gas, objects_of, version_of, version_limit, money_of, currency_sum, is_owned_by, is_immutable, is_shared_since}
use Rattle.protocol_spec.proofs.ListLemmas.{and-first, and-second}
use Rattle.protocol_spec.specs.Block.Block.{Place, Slot, Block}
use Rattle.protocol_spec.specs.Block.Execution.{Failure, execution, executed_by, outcome, first_slots, written_inputs, written_places, after_block, left_in, is_none_left, deleted_id, deleted_ids, created_objects, with_rest_first, done_objects, same_object, failed_objects}
use Rattle.protocol_spec.specs.Member.Sequential.{Objects, at_version, named_in, read_by, map_after, Folded, without_effects, with_execution, executed_on, fold_one, fold_all}
use Rattle.block_law.specs.Money.{supply_of, caps_of, cap_count}
use Rattle.block_law.specs.Names.{drawn_id, drawn_ids}
use Rattle.block_law.specs.Keeping.{objects_before, gas_in}
use Rattle.block_law.proofs.Slots.{Every}
use Rattle.block_law.proofs.Kept.{Good}
use Rattle.block_law.proofs.Steps.{map-append}
use Rattle.block_law.proofs.Blocks.{done-is}
use Rattle.block_law.proofs.Effects.{IsOrigin, origins, after-id, left-id, id_of, first_ids, written-ids, written-are, rest-ids, cost-ids, same-ids, name_once, first-of-four}
use Rattle.block_law.proofs.Sums.{objects_weight, option_weight}
use Rattle.block_law.proofs.Keeping.{money_moves, caps_kept, no-supply, sum-weight}
use Rattle.block_law.specs.Kept.{held_in, supplied_in, gas_of, MayFollow, Follow, opened_with}
use Rattle.block_law.proofs.Moving.{map_weight, at_id, ids_at, change-weight}

-- ---- what a transaction reads stands under the ids of its objects

abbrev Stands : Objects → Object → Type 0
Stands m o = get m o.id ≡ Some o

at-found : (version : ℕ) (g : Option Object) (o : Object) → at_version version g ≡ Some o → g ≡ Some o
at-found version None o e = absurd (cc)
at-found version (Some p) o e = go (p.version == version) e
  where
    go : (b : Bool) → cond b (Some p) None ≡ Some o → Some p ≡ Some o
    go true e = e
    go false e = absurd (cc)

named-stands : (m : Objects) (t : Transaction) (i : Input) (o : Object) → named_in m i ≡ Some o → fits_input t i o ≡ true → Stands m o
named-stands m t (inputs.Pure bytes) o e fit = absurd (cc)
named-stands m t (inputs.Owned r) o e fit = ap (get m) (id_same o.id r.id (first-of-four (id_eq o.id r.id) (o.version == r.version) (digest_eq (digest_of_object o) r.digest) (is_owned_by t.sender o.owner) fit)) ∙ at-found r.version (get m r.id) o e
named-stands m t (inputs.Immutable r) o e fit = ap (get m) (id_same o.id r.id (first-of-four (id_eq o.id r.id) (o.version == r.version) (digest_eq (digest_of_object o) r.digest) (is_immutable o.owner) fit)) ∙ at-found r.version (get m r.id) o e
named-stands m t (inputs.Shared id initial mutable) o e fit = ap (get m) (id_same o.id id (and-first (id_eq o.id id) (is_shared_since initial o.owner) fit)) ∙ e

pub onto-parts : (x : Object) (rest : Option (List Object)) (o : Object) (os : List Object) → onto_some x rest ≡ Some (o ∷ os) → (x ≡ o) × (rest ≡ Some os)
onto-parts x None o os e = absurd (cc)
onto-parts x (Some xs) o os e = (cc, cc)

read-stand : (m : Objects) (t : Transaction) (is : List Input) (os : List Object) → all_some (map (named_in m) is) ≡ Some os → fit_inputs t is os ≡ true → Each (Stands m) os
read-stand m t [] [] e fit = tt
read-stand m t [] (o ∷ os) e fit = absurd (cc)
read-stand m t (i ∷ is) [] e fit = absurd (cc)
read-stand m t (i ∷ is) (o ∷ os) e fit = go (named_in m i) refl e (read-stand m t is os)
  where
    go : (g : Option Object) → named_in m i ≡ g → all_some (g ∷ map (named_in m) is) ≡ Some (o ∷ os) → (all_some (map (named_in m) is) ≡ Some os → fit_inputs t is os ≡ true → Each (Stands m) os) → Each (Stands m) (o ∷ os)
    go None h e rest = absurd (cc)
    go (Some x) h e rest =
        let parts = onto-parts x (all_some (map (named_in m) is)) o os e in
        (named-stands m t i o (h ∙ ap Some parts.0) (and-first (fits_input t i o) (fit_inputs t is os) fit), rest parts.1 (and-second (fits_input t i o) (fit_inputs t is os) fit))

objects-stand : (m : Objects) (t : Transaction) (objects : List Object) → read_by m t ≡ Some objects → fits t objects ≡ true → Each (Stands m) objects
unfolding fits
objects-stand m t objects e fit = read-stand m t (objects_of t) objects e (and-first (fit_inputs t (objects_of t) objects) (pays_gas t objects) (and-first (fit_inputs t (objects_of t) objects && pays_gas t objects) (nat_lt (version_of objects) version_limit) fit))

inputs-stand : (m : Objects) (n : ℕ) (is : List Input) (os : List Object) → Each (Stands m) os → Each (λ (x : Place × Object). Stands m x.1) (written_inputs n is os)
inputs-stand m n [] os each = tt
inputs-stand m n (inputs.Pure bytes ∷ is) os each = inputs-stand m (suc n) is os each
inputs-stand m n (inputs.Owned r ∷ is) [] each = tt
inputs-stand m n (inputs.Owned r ∷ is) (o ∷ os) each = (each.0, inputs-stand m (suc n) is os each.1)
inputs-stand m n (inputs.Immutable r ∷ is) [] each = tt
inputs-stand m n (inputs.Immutable r ∷ is) (o ∷ os) each = inputs-stand m (suc n) is os each.1
inputs-stand m n (inputs.Shared id initial mutable ∷ is) [] each = tt
inputs-stand m n (inputs.Shared id initial true ∷ is) (o ∷ os) each = (each.0, inputs-stand m (suc n) is os each.1)
inputs-stand m n (inputs.Shared id initial false ∷ is) (o ∷ os) each = inputs-stand m (suc n) is os each.1

places-stand : (m : Objects) (t : Transaction) (objects : List Object) → Each (Stands m) objects → Each (λ (x : Place × Object). Stands m x.1) (written_places t objects)
places-stand m t [] each = tt
places-stand m t (coin ∷ os) each = (each.0, inputs-stand m 0 t.inputs os each.1)

-- ---- what lies under the ids that the effects name

module _ (f : Content → ℕ) (m : Objects) where
  at-append : (xs ys : List ObjectId) → ids_at f m (xs ++ ys) ≡ ids_at f m xs + ids_at f m ys
  at-append [] ys = omega arith
  at-append (x ∷ xs) ys = let rest = at-append xs ys in omega (arith, rest)

  at-first : (xs : List (Place × Object)) → Each (λ (x : Place × Object). Stands m x.1) xs → ids_at f m (first_ids xs) ≡ objects_weight f (map (λ (x : Place × Object). x.1) xs)
  at-first [] each = refl
  at-first (x ∷ xs) each = let rest = at-first xs each.1 in let here = ap (option_weight f) each.0 in omega (arith, rest, here)

  at-places : (t : Transaction) (first : List Slot) (version : ℕ) (b : Block) (xs : List (Place × Object)) → Each (IsOrigin first) xs → Every (Good t first b.placed) b.slots
      → ids_at f m (map id_of (filter_map (λ (x : Place × Object). after_block version b x.0 x.1) xs)) + ids_at f m (filter_map (deleted_id version b) xs) ≡ ids_at f m (first_ids xs)
  at-places t first version b [] origin good = refl
  at-places t first version b (x ∷ xs) origin good = go (after_block version b x.0 x.1) refl (at-places t first version b xs origin.1 good)
    where
      rest_objects : List Object
      rest_objects = filter_map (λ (x : Place × Object). after_block version b x.0 x.1) xs

      gone_ids : List ObjectId
      gone_ids = filter_map (deleted_id version b) xs

      go : (a : Option Object) → after_block version b x.0 x.1 ≡ a → ids_at f m (map id_of rest_objects) + ids_at f m gone_ids ≡ ids_at f m (first_ids xs)
          → ids_at f m (map id_of (cons_option a rest_objects)) + ids_at f m (cons_option (cond (is_none_left a) (Some x.1.id) None) gone_ids) ≡ at_id f m x.1.id + ids_at f m (first_ids xs)
      go None h rest = omega (arith, rest)
      go (Some o) h rest = let same = ap (at_id f m) (after-id t first version b x o origin.0 good h) in omega (arith, rest, same)

  at-created : (tx : Digest) (version : ℕ) (b : Block) (ns : List ℕ) → Each (λ (id : ObjectId). get m id ≡ None) (map (drawn_id tx) ns) → ids_at f m (map id_of (filter_map (λ n. left_in version b.placed (record { 0 = created_id_of tx n })) ns)) ≡ 0
  at-created tx version b [] new = refl
  at-created tx version b (n ∷ ns) new = go (left_in version b.placed (drawn_id tx n)) refl (at-created tx version b ns new.1)
    where
      rest_objects : List Object
      rest_objects = filter_map (λ n. left_in version b.placed (record { 0 = created_id_of tx n })) ns

      go : (a : Option Object) → left_in version b.placed (drawn_id tx n) ≡ a → ids_at f m (map id_of rest_objects) ≡ 0 → ids_at f m (map id_of (cons_option a rest_objects)) ≡ 0
      go None h rest = rest
      go (Some o) h rest = let same = ap (at_id f m) (left-id version b.placed (drawn_id tx n) o h) in let none = ap (option_weight f) new.0 in omega (arith, rest, same, none)

  at-effects : (t : Transaction) (objects : List Object) → Each (Stands m) objects → Each (λ (id : ObjectId). get m id ≡ None) (drawn_ids (execution t objects).effects.tx (execution t objects).effects.created)
      → ids_at f m (map id_of (execution t objects).objects ++ (execution t objects).effects.deleted) ≡ objects_weight f (objects_before t objects)
  unfolding execution
  at-effects t objects each new = go (outcome t (transaction_digest t) objects) refl new
    where
      before : ids_at f m (first_ids (written_places t objects)) ≡ objects_weight f (objects_before t objects)
      before = at-first (written_places t objects) (places-stand m t objects each)

      go : (r : Result Block Failure) → outcome t (transaction_digest t) objects ≡ r → Each (λ (id : ObjectId). get m id ≡ None) (drawn_ids (executed_by t (transaction_digest t) objects r).effects.tx (executed_by t (transaction_digest t) objects r).effects.created)
          → ids_at f m (map id_of (executed_by t (transaction_digest t) objects r).objects ++ (executed_by t (transaction_digest t) objects r).effects.deleted) ≡ objects_weight f (objects_before t objects)
      go (Err failure) h new =
          let ids : map id_of (failed_objects t objects) ≡ first_ids (written_places t objects) = cost-ids t (map (λ (x : Place × Object). same_object (version_of objects) x.1) (written_places t objects)) ∙ same-ids (version_of objects) (written_places t objects) in
          let same = ap (ids_at f m) ids in
          let both = at-append (map id_of (failed_objects t objects)) [] in
          omega (arith, same, both, before)
      go (Ok b) h new =
          let places : List Object = filter_map (λ (x : Place × Object). after_block (version_of objects) b x.0 x.1) (written_places t objects) in
          let ids : map id_of (done_objects t (transaction_digest t) objects b) ≡ map id_of places ++ map id_of (created_objects (transaction_digest t) (version_of objects) b) =
          map-append id_of (with_rest_first t places) (created_objects (transaction_digest t) (version_of objects) b) ∙ ap (λ ids. ids ++ map id_of (created_objects (transaction_digest t) (version_of objects) b)) (rest-ids t places) in
          let same = ap (ids_at f m) ids in
          let left = at-append (map id_of (done_objects t (transaction_digest t) objects b)) (deleted_ids t objects b) in
          let middle = at-append (map id_of places) (map id_of (created_objects (transaction_digest t) (version_of objects) b)) in
          let once = at-places t (first_slots t objects) (version_of objects) b (written_places t objects) (origins t objects) (done-is t (transaction_digest t) objects b h).kept.good in
          let made = at-created (transaction_digest t) (version_of objects) b (numbers_below b.made) new in
          omega (arith, same, left, middle, once, made, before)

  -- one execution
  after-weight : (t : Transaction) (objects : List Object) → read_by m t ≡ Some objects → fits t objects ≡ true → MayFollow m t objects → map_weight f (map_after m (execution t objects)) + objects_weight f (objects_before t objects) ≡ map_weight f m + objects_weight f (execution t objects).objects
  after-weight t objects e fit may =
      let ids : map (λ (w : Written). w.id) (execution t objects).effects.written ≡ map id_of (execution t objects).objects = ap (map (λ (w : Written). w.id)) (written-are t objects) ∙ written-ids (execution t objects).objects in
      let apart = subst (λ is. repeats id_eq (is ++ (execution t objects).effects.deleted) ≡ false) ids (name_once t objects fit may.may.apart) in
      let changed = change-weight f m (execution t objects).objects (execution t objects).effects.deleted apart in
      let named = at-effects t objects (objects-stand m t objects e fit) may.new in
      omega (arith, changed, named)

-- ---- along the list

gas-append : (c : ℕ) (effects : List (Option Effects)) (e : Option Effects) → gas_of c (effects ++ e ∷ []) ≡ gas_of c effects + gas_of c (e ∷ [])
gas-append c [] e = omega arith
gas-append c (None ∷ effects) e = gas-append c effects e
gas-append c (Some x ∷ effects) e = let rest = gas-append c effects e in omega (arith, rest)

abbrev Balances : ℕ → Folded → Folded → Type 0
Balances c f g = map_weight (money_of c) g.map + gas_of c g.effects + map_weight (supply_of c) f.map ≡ map_weight (money_of c) f.map + gas_of c f.effects + map_weight (supply_of c) g.map

one-balances : (c : ℕ) (f : Folded) (t : Transaction) → ((objects : List Object) → read_by f.map t ≡ Some objects → fits t objects ≡ true → MayFollow f.map t objects) → Balances c f (fold_one f t)
unfolding fold_one currency_sum
one-balances c f t may = go (read_by f.map t) refl
  where
    none : Balances c f (without_effects f)
    none = let gas = gas-append c f.effects None in omega (arith, gas)

    some : (objects : List Object) → read_by f.map t ≡ Some objects → fits t objects ≡ true → Balances c f (with_execution f (execution t objects))
    some objects e fit =
        let ran = may objects e fit in
        let moneys = after-weight (money_of c) f.map t objects e fit ran in
        let supplies = after-weight (supply_of c) f.map t objects e fit ran in
        let moved = money_moves t objects ran.may c in
        let a = sum-weight (money_of c) (execution t objects).objects in
        let b = sum-weight (money_of c) (objects_before t objects) in
        let d = sum-weight (supply_of c) (execution t objects).objects in
        let g = sum-weight (supply_of c) (objects_before t objects) in
        let gas = gas-append c f.effects (Some (execution t objects).effects) in
        omega (arith, moneys, supplies, moved, a, b, d, g, gas)

    fitting : (x : Bool) (objects : List Object) → read_by f.map t ≡ Some objects → fits t objects ≡ x → Balances c f (cond x (with_execution f (execution t objects)) (without_effects f))
    fitting true objects e fit = some objects e fit
    fitting false objects e fit = none

    go : (read : Option (List Object)) → read_by f.map t ≡ read → Balances c f (executed_on f t read)
    go None e = none
    go (Some objects) e = fitting (fits t objects) objects e refl

all-balance : (c : ℕ) (txs : List Transaction) (f : Folded) → Follow f txs → Balances c f (fold fold_one f txs)
all-balance c [] f follow = omega arith
all-balance c (t ∷ txs) f follow =
    let one = one-balances c f t follow.0 in
    let rest = all-balance c txs (fold_one f t) follow.1 in
    omega (arith, one, rest)

pub moves : (m : Objects) (txs : List Transaction) → Follow (opened_with m) txs → (c : ℕ) → held_in (fold_all m txs).map c + gas_of c (fold_all m txs).effects + supplied_in m c ≡ held_in m c + supplied_in (fold_all m txs).map c
unfolding fold_all currency_sum
moves m txs follow c =
    let all = all-balance c txs (opened_with m) follow in
    let a = sum-weight (money_of c) (values (fold_all m txs).map) in
    let b = sum-weight (money_of c) (values m) in
    let d = sum-weight (supply_of c) (values (fold_all m txs).map) in
    let e = sum-weight (supply_of c) (values m) in
    omega (arith, all, a, b, d, e)

-- ---- a currency that pays no gas

no-gas : (c : ℕ) → c ≢ 0 → (effects : List (Option Effects)) → gas_of c effects ≡ 0
no-gas c other [] = refl
no-gas c other (None ∷ effects) = no-gas c other effects
no-gas c other (Some e ∷ effects) = let rest = no-gas c other effects in let here = none c other e.gas in omega (arith, rest, here)
  where
    none : (c : ℕ) → c ≢ 0 → (price : ℕ) → gas_in c price ≡ 0
    none c other price = ap (λ (b : Bool). cond {A = ℕ} b price 0) (ne_eqb 0 c (λ e. other (sym e)))

pub stay_backed : (m : Objects) (txs : List Transaction) → Follow (opened_with m) txs → (c : ℕ) → c ≢ 0 → held_in m c ≡ supplied_in m c → held_in (fold_all m txs).map c ≡ supplied_in (fold_all m txs).map c
stay_backed m txs follow c other backed =
    let moved = moves m txs follow c in
    let gas = no-gas c other (fold_all m txs).effects in
    omega (arith, moved, gas, backed)

-- ---- the currency that pays gas

one-keeps : (c : ℕ) (f : Folded) (t : Transaction) → ((objects : List Object) → read_by f.map t ≡ Some objects → fits t objects ≡ true → MayFollow f.map t objects) → map_weight (caps_of c) (fold_one f t).map ≡ map_weight (caps_of c) f.map
unfolding fold_one
one-keeps c f t may = go (read_by f.map t) refl
  where
    some : (objects : List Object) → read_by f.map t ≡ Some objects → fits t objects ≡ true → map_weight (caps_of c) (with_execution f (execution t objects)).map ≡ map_weight (caps_of c) f.map
    some objects e fit =
        let ran = may objects e fit in
        let after = after-weight (caps_of c) f.map t objects e fit ran in
        let same = caps_kept t objects ran.may c in
        let a = sum-weight (caps_of c) (execution t objects).objects in
        let b = sum-weight (caps_of c) (objects_before t objects) in
        omega (arith, after, same, a, b)

    fitting : (x : Bool) (objects : List Object) → read_by f.map t ≡ Some objects → fits t objects ≡ x → map_weight (caps_of c) (cond x (with_execution f (execution t objects)) (without_effects f)).map ≡ map_weight (caps_of c) f.map
    fitting true objects e fit = some objects e fit
    fitting false objects e fit = refl

    go : (read : Option (List Object)) → read_by f.map t ≡ read → map_weight (caps_of c) (executed_on f t read).map ≡ map_weight (caps_of c) f.map
    go None e = refl
    go (Some objects) e = fitting (fits t objects) objects e refl

all-keep : (c : ℕ) (txs : List Transaction) (f : Folded) → Follow f txs → map_weight (caps_of c) (fold fold_one f txs).map ≡ map_weight (caps_of c) f.map
all-keep c [] f follow = refl
all-keep c (t ∷ txs) f follow = all-keep c txs (fold_one f t) follow.1 ∙ one-keeps c f t follow.0

caps-stay : (c : ℕ) (m : Objects) (txs : List Transaction) → Follow (opened_with m) txs → objects_weight (caps_of c) (values (fold_all m txs).map) ≡ objects_weight (caps_of c) (values m)
unfolding fold_all
caps-stay c m txs follow = all-keep c txs (opened_with m) follow

pub gas_goes : (m : Objects) (txs : List Transaction) → Follow (opened_with m) txs → cap_count (values m) 0 ≡ 0 → held_in (fold_all m txs).map 0 + gas_of 0 (fold_all m txs).effects ≡ held_in m 0
gas_goes m txs follow none =
    let moved = moves m txs follow 0 in
    let count = sum-weight (caps_of 0) (values m) in
    let same = caps-stay 0 m txs follow in
    let before = no-supply 0 (values m) (omega (arith, none, count)) in
    let after = no-supply 0 (values (fold_all m txs).map) (omega (arith, none, count, same)) in
    let a = sum-weight (supply_of 0) (values m) in
    let b = sum-weight (supply_of 0) (values (fold_all m txs).map) in
    omega (arith, moved, before, after, a, b)

pub caps_stay : (m : Objects) (txs : List Transaction) → Follow (opened_with m) txs → (c : ℕ) → cap_count (values (fold_all m txs).map) c ≡ cap_count (values m) c
caps_stay m txs follow c =
    let same = caps-stay c m txs follow in
    let a = sum-weight (caps_of c) (values (fold_all m txs).map) in
    let b = sum-weight (caps_of c) (values m) in
    omega (arith, same, a, b)
