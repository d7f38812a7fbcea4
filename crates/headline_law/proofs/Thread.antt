-- One thread's map holds amounts, after any transactions.
use Rattle.std.proofs.Common.{refl, ap, sym, subst, ◌∙◌, arith}
use Rattle.std.proofs.lemmas.Bool.{ltb-true, ltb-false}
use Rattle.std.specs.Prelude.{◌≡◌, ◌<◌, ℕ, Bool, true, false, cond, ◌&&◌, ◌==◌, nat_lt, nat_le, List, [], ◌∷◌, ◌++◌, map, fold, Option, Some, None}
use Rattle.std.specs.FinMap.{empty, entries, values, get, len-empty, len-entries}
use Rattle.chain_types.specs.declared.objects.ObjectId.{ObjectId}
use Rattle.chain_types.specs.declared.objects.Object.{Object}
use Rattle.chain_types.specs.declared.objects.Content.{Content}
use Rattle.chain_types.specs.declared.objects.Content.TheVariants as content
use Rattle.chain_types.specs.declared.transactions.Input.{Input}
use Rattle.chain_types.specs.declared.transactions.Input.TheVariants as inputs
use Rattle.chain_types.specs.declared.transactions.Transaction.{Transaction}
use Rattle.effects_core.specs.declared.effects.Effects.{Effects}
use Rattle.protocol_spec.specs.Chain.Words.{Each, all_some}
use Rattle.protocol_spec.specs.Chain.Keys.{objects_of, version_of, version_limit, is_gas_coin, balance_of, fit_inputs, pays_gas, fits}
use Rattle.protocol_spec.proofs.ListLemmas.{and-first, and-second, nil_of}
use Rattle.protocol_spec.specs.Block.Natives.{amount_limit, amount_of}
use Rattle.protocol_spec.specs.Block.Execution.{execution}
use Rattle.protocol_spec.specs.Member.Versions.{id_cmp}
use Rattle.protocol_spec.specs.Member.Sequential.{Objects, with_object, without_id, map_of, at_version, named_in, read_by, Folded, without_effects, with_execution, executed_on, fold_one, fold_all}
use Rattle.block_law.specs.Keeping.{GasIsAmount}
use Rattle.block_law.proofs.Sums.{objects_weight, option_weight}
use Rattle.block_law.proofs.Following.{onto-parts}
use Rattle.block_law.specs.Kept.{opened_with}
use Rattle.block_law.proofs.Moving.{map_weight, change-weight}
use Rattle.safety_law.specs.Opened.{HasEffects, GasHolds}
use Rattle.headline_law.specs.Amounts.{money_held, HoldsAmount}
use Rattle.headline_law.proofs.Written.{money-stays}

-- ---- objects that hold too much weigh 1: if none does, all together weigh nothing

abbrev excess : Content → ℕ
excess k = cond (nat_lt (money_held k) amount_limit) 0 1

no-excess : (k : Content) → money_held k < amount_limit → excess k ≡ 0
no-excess k less = go (nat_lt (money_held k) amount_limit) refl
  where
    go : (b : Bool) → nat_lt (money_held k) amount_limit ≡ b → cond {A = ℕ} b 0 1 ≡ 0
    go true e = refl
    go false e = let more = ltb-false (money_held k) amount_limit e in absurd (omega (arith, less, more))

is-amount : (k : Content) → excess k ≡ 0 → money_held k < amount_limit
is-amount k none = go (nat_lt (money_held k) amount_limit) refl none
  where
    go : (b : Bool) → nat_lt (money_held k) amount_limit ≡ b → cond {A = ℕ} b 0 1 ≡ 0 → money_held k < amount_limit
    go true e none = ltb-true (money_held k) amount_limit e
    go false e none = absurd (cc)

each-amount : (os : List Object) → objects_weight excess os ≡ 0 → Each HoldsAmount os
each-amount [] none = tt
each-amount (o ∷ os) none = (is-amount o.content (omega (arith, none)), each-amount os (omega (arith, none)))

-- ---- maps

abbrev Clean : Objects → Type 0
Clean m = map_weight excess m ≡ 0

clean-with : (m : Objects) (o : Object) → HoldsAmount o → Clean m → Clean (with_object m o)
clean-with m o holds clean =
    let changed = change-weight excess m (o ∷ []) [] refl in
    let one = no-excess o.content holds in
    omega (arith, changed, one, clean)

clean-without : (m : Objects) (id : ObjectId) → Clean m → Clean (without_id m id)
clean-without m id clean = let changed = change-weight excess m [] (id ∷ []) refl in omega (arith, changed, clean)

clean-all : (os : List Object) (m : Objects) → Each HoldsAmount os → Clean m → Clean (fold with_object m os)
clean-all [] m each clean = clean
clean-all (o ∷ os) m each clean = clean-all os (with_object m o) each.1 (clean-with m o each.0 clean)

clean-gone : (ids : List ObjectId) (m : Objects) → Clean m → Clean (fold without_id m ids)
clean-gone [] m clean = clean
clean-gone (id ∷ ids) m clean = clean-gone ids (without_id m id) (clean-without m id clean)

-- what lies in such a map
found-amount : (m : Objects) (id : ObjectId) (o : Object) → Clean m → get m id ≡ Some o → HoldsAmount o
found-amount m id o clean e =
    let changed = change-weight excess m [] (id ∷ []) refl in
    let here = ap (option_weight excess) e in
    is-amount o.content (omega (arith, changed, clean, here))

clean-empty : Clean empty
clean-empty = ap (λ (es : List (ObjectId × Object)). objects_weight excess (map (λ (e : ObjectId × Object). e.1) es))
    (nil_of (entries (empty {X = Object} {R = id_cmp})) (sym (len-entries (empty {X = Object} {R = id_cmp})) ∙ len-empty id_cmp Object))

clean-map : (os : List Object) → Each HoldsAmount os → Clean (map_of os)
unfolding map_of
clean-map os each = clean-all os empty each clean-empty

-- ---- what a transaction reads

named-amount : (m : Objects) (i : Input) (o : Object) → Clean m → named_in m i ≡ Some o → HoldsAmount o
named-amount m i o clean e = go i e
  where
    at : (version : ℕ) (id : ObjectId) → at_version version (get m id) ≡ Some o → HoldsAmount o
    at version id e = found (get m id) refl e
      where
        some-same : (p : Object) → Some p ≡ Some o → p ≡ o
        some-same p e = cc

        found : (g : Option Object) → get m id ≡ g → at_version version g ≡ Some o → HoldsAmount o
        found None h e = absurd (cc)
        found (Some p) h e = choose (p.version == version) e
          where
            choose : (b : Bool) → cond b (Some p) None ≡ Some o → HoldsAmount o
            choose true e = subst HoldsAmount (some-same p e) (found-amount m id p clean h)
            choose false e = absurd (cc)

    go : (i : Input) → named_in m i ≡ Some o → HoldsAmount o
    go (inputs.Pure bytes) e = absurd (cc)
    go (inputs.Owned r) e = at r.version r.id e
    go (inputs.Immutable r) e = at r.version r.id e
    go (inputs.Shared id initial mutable) e = found-amount m id o clean e

all-amounts : (m : Objects) (is : List Input) (os : List Object) → Clean m → all_some (map (named_in m) is) ≡ Some os → Each HoldsAmount os
all-amounts m is [] clean e = tt
all-amounts m [] (o ∷ os) clean e = absurd (cc)
all-amounts m (i ∷ is) (o ∷ os) clean e = go (named_in m i) refl e (all-amounts m is os clean)
  where
    go : (g : Option Object) → named_in m i ≡ g → all_some (g ∷ map (named_in m) is) ≡ Some (o ∷ os) → (all_some (map (named_in m) is) ≡ Some os → Each HoldsAmount os) → Each HoldsAmount (o ∷ os)
    go None h e rest = absurd (cc)
    go (Some x) h e rest =
        let parts = onto-parts x (all_some (map (named_in m) is)) o os e in
        (subst HoldsAmount parts.0 (named-amount m i x clean h), rest parts.1)

-- ---- one thread

one-clean : (f : Folded) (t : Transaction) → Clean f.map → Clean (fold_one f t).map
unfolding fold_one
one-clean f t clean = go (read_by f.map t) refl
  where
    fitting : (b : Bool) (objects : List Object) → read_by f.map t ≡ Some objects → Clean (cond b (with_execution f (execution t objects)) (without_effects f)).map
    fitting true objects e =
        clean-gone (execution t objects).effects.deleted (fold with_object f.map (execution t objects).objects)
        (clean-all (execution t objects).objects f.map (money-stays t objects (all-amounts f.map (objects_of t) objects clean e)) clean)
    fitting false objects e = clean

    go : (read : Option (List Object)) → read_by f.map t ≡ read → Clean (executed_on f t read).map
    go None e = clean
    go (Some objects) e = fitting (fits t objects) objects e

thread-clean : (txs : List Transaction) (f : Folded) → Clean f.map → Clean (fold fold_one f txs).map
thread-clean [] f clean = clean
thread-clean (t ∷ txs) f clean = thread-clean txs (fold_one f t) (one-clean f t clean)

pub thread-amounts : (opening : List Object) (txs : List Transaction) → Each HoldsAmount opening → Each HoldsAmount (values (fold_all (map_of opening) txs).map)
unfolding fold_all
thread-amounts opening txs each = each-amount (values (fold fold_one (opened_with (map_of opening)) txs).map) (thread-clean txs (opened_with (map_of opening)) (clean-map opening each))

-- ---- the gas coins of transactions that all are executed

front-effects : (xs ys : List (Option Effects)) → Each HasEffects (xs ++ ys) → Each HasEffects xs
front-effects [] ys each = tt
front-effects (x ∷ xs) ys each = (each.0, front-effects xs ys each.1)

last-effects : (xs : List (Option Effects)) (y : Option Effects) → Each HasEffects (xs ++ y ∷ []) → HasEffects y
last-effects [] y each = each.0
last-effects (x ∷ xs) y each = last-effects xs y each.1

-- effects are added after those before
one-front : (f : Folded) (t : Transaction) → Each HasEffects (fold_one f t).effects → Each HasEffects f.effects
unfolding fold_one
one-front f t each = go (read_by f.map t) each
  where
    fitting : (b : Bool) (objects : List Object) → Each HasEffects (cond b (with_execution f (execution t objects)) (without_effects f)).effects → Each HasEffects f.effects
    fitting true objects each = front-effects f.effects (Some (execution t objects).effects ∷ []) each
    fitting false objects each = front-effects f.effects (None ∷ []) each

    go : (read : Option (List Object)) → Each HasEffects (executed_on f t read).effects → Each HasEffects f.effects
    go None each = front-effects f.effects (None ∷ []) each
    go (Some objects) each = fitting (fits t objects) objects each

thread-front : (txs : List Transaction) (f : Folded) → Each HasEffects (fold fold_one f txs).effects → Each HasEffects f.effects
thread-front [] f each = each
thread-front (t ∷ txs) f each = one-front f t (thread-front txs (fold_one f t) each)

-- what is executed fits
executed-fits : (f : Folded) (t : Transaction) (objects : List Object) → read_by f.map t ≡ Some objects → Each HasEffects (fold_one f t).effects → fits t objects ≡ true
unfolding fold_one
executed-fits f t objects e each = go (fits t objects) refl (subst (λ (r : Option (List Object)). Each HasEffects (executed_on f t r).effects) e each)
  where
    go : (b : Bool) → fits t objects ≡ b → Each HasEffects (cond b (with_execution f (execution t objects)) (without_effects f)).effects → b ≡ true
    go true h each = refl
    go false h each = absurd (let none = last-effects f.effects None each in cc)

-- the coin that pays is a coin, so its amount is money
coin-money : (t : Transaction) (objects : List Object) → Each HoldsAmount objects → pays_gas t objects ≡ true → GasIsAmount objects
coin-money t [] each pays = tt
coin-money t (coin ∷ os) each pays = go coin.content each.0 (and-first (is_gas_coin coin.content) (nat_le t.budget (balance_of coin.content)) pays)
  where
    go : (k : Content) → money_held k < amount_limit → is_gas_coin k ≡ true → amount_of k < amount_limit
    go (content.Coin currency balance) holds is = holds
    go (content.Cap currency supply) holds is = holds
    go (content.Counter value) holds is = absurd (cc)
    go (content.Vault currency balance) holds is = holds
    go (content.VaultKey vault) holds is = holds
    go (content.Limit value) holds is = absurd (cc)

fitting-pays : (t : Transaction) (objects : List Object) → fits t objects ≡ true → pays_gas t objects ≡ true
unfolding fits
fitting-pays t objects fit = and-second (fit_inputs t (objects_of t) objects) (pays_gas t objects) (and-first (fit_inputs t (objects_of t) objects && pays_gas t objects) (nat_lt (version_of objects) version_limit) fit)

thread-gas : (txs : List Transaction) (f : Folded) → Clean f.map → Each HasEffects (fold fold_one f txs).effects → GasHolds f txs
thread-gas [] f clean each = tt
thread-gas (t ∷ txs) f clean each = (
  λ objects e. coin-money t objects (all-amounts f.map (objects_of t) objects clean e) (fitting-pays t objects (executed-fits f t objects e (thread-front txs (fold_one f t) each))),
  thread-gas txs (fold_one f t) (one-clean f t clean) each,
)

pub gas-holds : (opening : List Object) (txs : List Transaction) → Each HoldsAmount opening → Each HasEffects (fold_all (map_of opening) txs).effects → GasHolds (opened_with (map_of opening)) txs
unfolding fold_all
gas-holds opening txs holds each = thread-gas txs (opened_with (map_of opening)) (clean-map opening holds) each
