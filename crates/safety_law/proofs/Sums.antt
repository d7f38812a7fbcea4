-- Sums of each currency along the epochs.
use Rattle.std.proofs.Common.{refl, sym, subst, ap, ◌∙◌, arith, append-nil}
use Rattle.std.proofs.lemmas.Bool.{ne_eqb}
use Rattle.std.specs.Prelude.{◌≡◌, ◌≢◌, ◌<◌, ◌+◌, ℕ, zero, suc, Bool, true, false, cond, ◌==◌, List, [], ◌∷◌, ◌++◌, map, fold, slice_get, Some}
use Rattle.std.specs.List.{list_any}
use Rattle.std.specs.FinMap.{empty, values, get-empty}
use Rattle.chain_types.specs.declared.objects.ObjectId.{ObjectId}
use Rattle.chain_types.specs.declared.objects.Object.{Object}
use Rattle.chain_types.specs.declared.objects.Content.{Content}
use Rattle.chain_types.specs.Equal.{id_eq}
use Rattle.chain_messages.specs.declared.messages.Entry.{Entry}
use Rattle.schedule_text.specs.declared.words.Setup.{Setup}
use Rattle.schedule_text.specs.declared.words.Setup.TheVariants as line
use Rattle.schedule_text.specs.declared.words.Event.{Event}
use Rattle.protocol_spec.specs.Chain.Words.{Each, repeats}
use Rattle.protocol_spec.specs.Chain.Keys.{money_of, currency_sum}
use Rattle.protocol_spec.specs.Member.Versions.{id_cmp}
use Rattle.protocol_spec.specs.Member.Sequence.{Sequence}
use Rattle.protocol_spec.specs.Member.Sequential.{map_of, fold_all}
use Rattle.world_spec.specs.Setting.{Trust, Setting, objects_from, with_new, setting_of}
use Rattle.world_spec.specs.World.{Seat, member_in}
use Rattle.world_spec.specs.Openings.{checkpointed, sequence_of, opening_at}
use Rattle.world_spec.specs.Run.{world_after}
use Rattle.world_spec.specs.Assumptions.{IsHonestRun}
use Rattle.block_law.specs.Money.{supply_of, caps_of, supply_sum, cap_count}
use Rattle.block_law.proofs.Sums.{objects_weight, option_weight, objects-append}
use Rattle.block_law.proofs.Keeping.{sum-weight}
use Rattle.block_law.specs.Kept.{held_in, supplied_in, gas_of}
use Rattle.block_law.proofs.Moving.{map_weight, ids_at, change-weight}
use Rattle.block_law.proofs.Following.{stay_backed, gas_goes, caps_stay}
use Rattle.block_law.proofs.LiveMap.{entries-empty}
use Rattle.block_law.specs.Orderly.{id_of, AreApart}
use Rattle.safety_law.specs.Opened.{GasHoldsIn, IsOver, IsPast}
use Rattle.safety_law.specs.Sums.{GasHeldBefore, NamesOther, epoch_gas}
use Rattle.safety_law.proofs.Opened.{every-opening}

-- ---- the map of objects with different ids holds what they hold

none-at : (f : Content → ℕ) (ids : List ObjectId) → ids_at f empty ids ≡ 0
none-at f [] = refl
none-at f (id ∷ ids) = let here = ap (option_weight f) (get-empty id_cmp id) in let rest = none-at f ids in omega (arith, here, rest)

empty-weight : (f : Content → ℕ) → map_weight f (empty {X = Object} {R = id_cmp}) ≡ 0
empty-weight f = ap (λ (es : List (ObjectId × Object)). objects_weight f (map (λ (e : ObjectId × Object). e.1) es)) entries-empty

map-weight : (f : Content → ℕ) (os : List Object) → AreApart os → objects_weight f (values (map_of os)) ≡ objects_weight f os
unfolding map_of
map-weight f os apart =
    let changed = change-weight f empty os [] (subst (λ (ids : List ObjectId). repeats id_eq ids ≡ false) (sym (append-nil (map id_of os))) apart) in
    let none = none-at f (map id_of os ++ []) in
    let before = empty-weight f in
    omega (arith, changed, none, before)

map-sum : (c : ℕ) (os : List Object) → AreApart os → held_in (map_of os) c ≡ currency_sum os c
unfolding currency_sum
map-sum c os apart =
    let a = sum-weight (money_of c) (values (map_of os)) in
    let b = sum-weight (money_of c) os in
    let same = map-weight (money_of c) os apart in
    omega (arith, a, b, same)

map-supply : (c : ℕ) (os : List Object) → AreApart os → supplied_in (map_of os) c ≡ supply_sum os c
map-supply c os apart =
    let a = sum-weight (supply_of c) (values (map_of os)) in
    let b = sum-weight (supply_of c) os in
    let same = map-weight (supply_of c) os apart in
    omega (arith, a, b, same)

map-caps : (c : ℕ) (os : List Object) → AreApart os → cap_count (values (map_of os)) c ≡ cap_count os c
map-caps c os apart =
    let a = sum-weight (caps_of c) (values (map_of os)) in
    let b = sum-weight (caps_of c) os in
    let same = map-weight (caps_of c) os apart in
    omega (arith, a, b, same)

-- ---- one epoch

module _ (opening : List Object) (q : Sequence) (over : IsOver opening q) (amounts : GasHoldsIn opening q) where
  abbrev next : List Object
  next = values (fold_all (map_of opening) (checkpointed q)).map

  caps-next : (c : ℕ) → cap_count next c ≡ cap_count opening c
  caps-next c = caps_stay (map_of opening) (checkpointed q) (over.follow amounts) c ∙ map-caps c opening over.apart

  gas-next : cap_count opening 0 ≡ 0 → currency_sum next 0 + gas_of 0 (fold_all (map_of opening) (checkpointed q)).effects ≡ currency_sum opening 0
  gas-next none = gas_goes (map_of opening) (checkpointed q) (over.follow amounts) (map-caps 0 opening over.apart ∙ none) ∙ map-sum 0 opening over.apart

  backed-next : (c : ℕ) → c ≢ 0 → currency_sum opening c ≡ supply_sum opening c → currency_sum next c ≡ supply_sum next c
  backed-next c other backed = stay_backed (map_of opening) (checkpointed q) (over.follow amounts) c other (map-sum c opening over.apart ∙ backed ∙ sym (map-supply c opening over.apart))

-- ---- all epochs

module _ (s : Setting) (qs : List (List Entry)) where
  caps-at : (n : ℕ) → ((e : ℕ) → e < n → IsPast s qs e) → GasHeldBefore s qs n → cap_count (opening_at s qs n) 0 ≡ cap_count s.opening 0
  unfolding opening_at
  caps-at zero past amounts = refl
  caps-at (suc n) past amounts =
      caps-next (opening_at s qs n) (sequence_of s qs n (opening_at s qs n)) (past n (omega arith)) (amounts n (omega arith)) 0
      ∙ caps-at n (λ e less. past e (omega (arith, less))) (λ e less. amounts e (omega (arith, less)))

  gas-at : (n : ℕ) → IsPast s qs n → GasHoldsIn (opening_at s qs n) (sequence_of s qs n (opening_at s qs n)) → cap_count (opening_at s qs n) 0 ≡ 0 → currency_sum (opening_at s qs (suc n)) 0 + epoch_gas s qs n ≡ currency_sum (opening_at s qs n) 0
  unfolding opening_at
  gas-at n past amounts none = gas-next (opening_at s qs n) (sequence_of s qs n (opening_at s qs n)) past amounts none

  backed-at : (c : ℕ) → c ≢ 0 → currency_sum s.opening c ≡ supply_sum s.opening c → (n : ℕ) → ((e : ℕ) → e < n → IsPast s qs e) → GasHeldBefore s qs n → currency_sum (opening_at s qs n) c ≡ supply_sum (opening_at s qs n) c
  unfolding opening_at
  backed-at c other backed zero past amounts = backed
  backed-at c other backed (suc n) past amounts =
      backed-next (opening_at s qs n) (sequence_of s qs n (opening_at s qs n)) (past n (omega arith)) (amounts n (omega arith)) c other
      (backed-at c other backed n (λ e less. past e (omega (arith, less))) (λ e less. amounts e (omega (arith, less))))

module _ (s : Setting) (events : List Event) (honest : IsHonestRun s events) (distinct : AreApart s.opening) where
  pub only-gas : cap_count s.opening 0 ≡ 0 → (m : ℕ) (seat : Seat) → slice_get (world_after s events).seats m ≡ Some seat → GasHeldBefore s (world_after s events).sequences (member_in s seat).epoch → (epoch : ℕ) → epoch < (member_in s seat).epoch
      → currency_sum (opening_at s (world_after s events).sequences (suc epoch)) 0 + epoch_gas s (world_after s events).sequences epoch ≡ currency_sum (opening_at s (world_after s events).sequences epoch) 0
  only-gas none m seat at amounts epoch less =
      let left = every-opening s events honest distinct m seat at in
      gas-at s (world_after s events).sequences epoch (left.past epoch less) (amounts epoch less)
      (caps-at s (world_after s events).sequences epoch (λ e below. left.past e (omega (arith, below, less))) (λ e below. amounts e (omega (arith, below, less))) ∙ none)

  pub are-backed : (c : ℕ) → c ≢ 0 → currency_sum s.opening c ≡ supply_sum s.opening c → (m : ℕ) (seat : Seat) → slice_get (world_after s events).seats m ≡ Some seat → GasHeldBefore s (world_after s events).sequences (member_in s seat).epoch
      → currency_sum (member_in s seat).opening c ≡ supply_sum (member_in s seat).opening c
  are-backed c other backed m seat at amounts =
      let left = every-opening s events honest distinct m seat at in
      subst (λ (os : List Object). currency_sum os c ≡ supply_sum os c) (sym left.opening) (backed-at s (world_after s events).sequences c other backed (member_in s seat).epoch left.past amounts)

-- ---- set-ups

module _ (f : Content → ℕ) where
  with-none : (objects : List Object) (o : Object) → f o.content ≡ 0 → objects_weight f objects ≡ 0 → objects_weight f (with_new objects o) ≡ 0
  with-none objects o none all = go (list_any (λ (p : Object). id_eq p.id o.id) objects)
    where
      go : (b : Bool) → objects_weight f (cond b objects (objects ++ o ∷ [])) ≡ 0
      go true = all
      go false = let both = objects-append f objects (o ∷ []) in omega (arith, both, none, all)

  all-none : (os objects : List Object) → Each (λ (o : Object). f o.content ≡ 0) os → objects_weight f objects ≡ 0 → objects_weight f (fold with_new objects os) ≡ 0
  all-none [] objects none all = all
  all-none (o ∷ os) objects none all = all-none os (with_new objects o) none.1 (with-none objects o none.0 all)

no-other : (c : ℕ) → c ≢ 0 → (n : ℕ) → cond {A = ℕ} (0 == c) n 0 ≡ 0
no-other c other n = ap (λ (b : Bool). cond {A = ℕ} b n 0) (ne_eqb 0 c (λ e. other (sym e)))

either-none : (b : Bool) → cond {A = ℕ} b 0 0 ≡ 0
either-none true = refl
either-none false = refl

no-money : (c : ℕ) → c ≢ 0 → (n : ℕ) (lines : List Setup) → Each (λ (o : Object). money_of c o.content ≡ 0) (objects_from n lines)
no-money c other n [] = tt
no-money c other n (line.Member stake honest ∷ lines) = no-money c other n lines
no-money c other n (line.Coin name who balance ∷ lines) = (no-other c other balance, no-money c other (n + 1) lines)
no-money c other n (line.Counter name value ∷ lines) = (refl, no-money c other (n + 1) lines)
no-money c other n (line.Cap name who currency ∷ lines) = (refl, no-money c other (n + 1) lines)
no-money c other n (line.Writers w ∷ lines) = no-money c other n lines

no-supplies : (c : ℕ) (n : ℕ) (lines : List Setup) → Each (λ (o : Object). supply_of c o.content ≡ 0) (objects_from n lines)
no-supplies c n [] = tt
no-supplies c n (line.Member stake honest ∷ lines) = no-supplies c n lines
no-supplies c n (line.Coin name who balance ∷ lines) = (refl, no-supplies c (n + 1) lines)
no-supplies c n (line.Counter name value ∷ lines) = (refl, no-supplies c (n + 1) lines)
no-supplies c n (line.Cap name who currency ∷ lines) = (either-none (currency == c), no-supplies c (n + 1) lines)
no-supplies c n (line.Writers w ∷ lines) = no-supplies c n lines

no-caps : (n : ℕ) (lines : List Setup) → Each NamesOther lines → Each (λ (o : Object). caps_of 0 o.content ≡ 0) (objects_from n lines)
no-caps n [] names = tt
no-caps n (line.Member stake honest ∷ lines) names = no-caps n lines names.1
no-caps n (line.Coin name who balance ∷ lines) names = (refl, no-caps (n + 1) lines names.1)
no-caps n (line.Counter name value ∷ lines) names = (refl, no-caps (n + 1) lines names.1)
no-caps n (line.Cap name who currency ∷ lines) names = (ap (λ (b : Bool). cond {A = ℕ} b 1 0) (ne_eqb currency 0 names.0), no-caps (n + 1) lines names.1)
no-caps n (line.Writers w ∷ lines) names = no-caps n lines names.1

pub set-up-backed : (trust : Trust) (lines : List Setup) (c : ℕ) → c ≢ 0 → currency_sum (setting_of trust lines).opening c ≡ supply_sum (setting_of trust lines).opening c
unfolding setting_of currency_sum
set-up-backed trust lines c other =
    let a = sum-weight (money_of c) (fold with_new [] (objects_from 0 lines)) in
    let b = sum-weight (supply_of c) (fold with_new [] (objects_from 0 lines)) in
    let d = all-none (money_of c) (objects_from 0 lines) [] (no-money c other 0 lines) refl in
    let e = all-none (supply_of c) (objects_from 0 lines) [] (no-supplies c 0 lines) refl in
    omega (arith, a, b, d, e)

pub set-up-capless : (trust : Trust) (lines : List Setup) → Each NamesOther lines → cap_count (setting_of trust lines).opening 0 ≡ 0
unfolding setting_of
set-up-capless trust lines names =
    let a = sum-weight (caps_of 0) (fold with_new [] (objects_from 0 lines)) in
    let b = all-none (caps_of 0) (objects_from 0 lines) [] (no-caps 0 lines names) refl in
    omega (arith, a, b)
