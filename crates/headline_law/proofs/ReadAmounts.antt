-- The sums in the run of a schedule that a text says.
use Rattle.std.proofs.Common.{arith}
use Rattle.std.specs.Prelude.{◌≡◌, ◌≢◌, ◌<◌, ◌+◌, ℕ, suc, Bool, true, false, cond, List, [], ◌∷◌, ◌++◌, map, fold, slice_get, Some, Ok}
use Rattle.std.specs.List.{list_any, AllByRecursion}
use Rattle.chain_types.specs.declared.objects.Object.{Object}
use Rattle.chain_types.specs.declared.objects.Content.{Content}
use Rattle.chain_types.specs.declared.objects.Content.TheVariants as content
use Rattle.chain_types.specs.Equal.{id_eq}
use Rattle.schedule_text.specs.declared.words.Schedule.{Schedule}
use Rattle.schedule_text.specs.declared.words.Setup.{Setup}
use Rattle.schedule_text.specs.declared.words.Setup.TheVariants as line
use Rattle.schedule_text.specs.declared.statement.Statement.{Statement}
use Rattle.schedule_text.specs.declared.statement.Statement.TheVariants as statement
use Rattle.schedule_text.specs.Schedule.{schedule_of}
use Rattle.run_law.specs.Sayable.{IsSetup, IsStatement}
use Rattle.run_law.proofs.SaidWhole.{text_said}
use Rattle.protocol_spec.proofs.ListLemmas.{each_join}
use Rattle.protocol_spec.specs.Chain.Words.{Each}
use Rattle.protocol_spec.specs.Chain.Keys.{currency_sum}
use Rattle.protocol_spec.specs.Block.Natives.{amount_limit, amount_of}
use Rattle.world_spec.specs.Setting.{Trust, objects_from, with_new, setting_of}
use Rattle.world_spec.specs.World.{Seat, member_in}
use Rattle.world_spec.specs.Openings.{opening_at}
use Rattle.world_spec.specs.Run.{world_after}
use Rattle.world_spec.specs.Assumptions.{IsHonestRun}
use Rattle.block_law.specs.Money.{cap_count, supply_sum}
use Rattle.safety_law.proofs.SetUp.{set-up-apart}
use Rattle.safety_law.specs.Sums.{NamesOther, epoch_gas}
use Rattle.safety_law.proofs.Sums.{only-gas, are-backed, set-up-backed, set-up-capless}
use Rattle.headline_law.specs.Amounts.{money_held, HoldsAmount, IsAmount}
use Rattle.headline_law.proofs.Openings.{gas-was-held}

-- ---- the lines of the set-up

set-up-lines : (lines : List Setup) (rest : List Statement) → AllByRecursion IsStatement (map (λ x. statement.Setup x) lines ++ rest) → Each IsSetup lines
set-up-lines [] rest all = tt
set-up-lines (x ∷ lines) rest all = (all.0, set-up-lines lines rest all.1)

read-lines : (text : List ℕ) (t : Schedule) → schedule_of text ≡ Ok t → Each IsSetup t.setup
read-lines text t read = set-up-lines t.setup (map (λ e. statement.Event e) t.events) (text_said text t read).words

line-amounts : (n : ℕ) (lines : List Setup) → Each IsSetup lines → Each IsAmount (objects_from n lines)
line-amounts n [] said = tt
line-amounts n (line.Member stake honest ∷ lines) said = line-amounts n lines said.1
line-amounts n (line.Coin name who balance ∷ lines) said = let less = said.0.2 in (omega (arith, less), line-amounts (n + 1) lines said.1)
line-amounts n (line.Counter name value ∷ lines) said = let less = said.0.1 in (omega (arith, less), line-amounts (n + 1) lines said.1)
line-amounts n (line.Cap name who currency ∷ lines) said = (omega arith, line-amounts (n + 1) lines said.1)
line-amounts n (line.Writers w ∷ lines) said = line-amounts n lines said.1

line-names : (lines : List Setup) → Each IsSetup lines → Each NamesOther lines
line-names [] said = tt
line-names (line.Member stake honest ∷ lines) said = (tt, line-names lines said.1)
line-names (line.Coin name who balance ∷ lines) said = (tt, line-names lines said.1)
line-names (line.Counter name value ∷ lines) said = (tt, line-names lines said.1)
line-names (line.Cap name who currency ∷ lines) said = let least = said.0.2.0 in (λ e. omega (arith, least, e), line-names lines said.1)
line-names (line.Writers w ∷ lines) said = (tt, line-names lines said.1)

-- ---- the objects

new-amounts : (os objects : List Object) → Each IsAmount os → Each IsAmount objects → Each IsAmount (fold with_new objects os)
new-amounts [] objects more each = each
new-amounts (o ∷ os) objects more each = new-amounts os (with_new objects o) more.1 (go (list_any (λ (p : Object). id_eq p.id o.id) objects))
  where
    go : (b : Bool) → Each IsAmount (cond b objects (objects ++ o ∷ []))
    go true = each
    go false = each_join IsAmount objects (o ∷ []) each (more.0, tt)

money-amount : (k : Content) → amount_of k < amount_limit → money_held k < amount_limit
money-amount (content.Coin currency balance) less = less
money-amount (content.Cap currency supply) less = less
money-amount (content.Counter value) less = omega arith
money-amount (content.Vault currency balance) less = less
money-amount (content.VaultKey vault) less = less
money-amount (content.Limit value) less = omega arith

pub money-amounts : (os : List Object) → Each IsAmount os → Each HoldsAmount os
money-amounts [] each = tt
money-amounts (o ∷ os) each = (money-amount o.content each.0, money-amounts os each.1)

module _ (text : List ℕ) (t : Schedule) (read : schedule_of text ≡ Ok t) (trust : Trust) where
  pub set-up-amounts : Each IsAmount (setting_of trust t.setup).opening
  unfolding setting_of
  set-up-amounts = new-amounts (objects_from 0 t.setup) [] (line-amounts 0 t.setup (read-lines text t read)) tt

  pub no-gas-cap : cap_count (setting_of trust t.setup).opening 0 ≡ 0
  no-gas-cap = set-up-capless trust t.setup (line-names t.setup (read-lines text t read))

  -- ---- the sums

  module _ (honest : IsHonestRun (setting_of trust t.setup) t.events) where
    pub read-gas : (m : ℕ) (seat : Seat) → slice_get (world_after (setting_of trust t.setup) t.events).seats m ≡ Some seat → (epoch : ℕ) → epoch < (member_in (setting_of trust t.setup) seat).epoch
        → currency_sum (opening_at (setting_of trust t.setup) (world_after (setting_of trust t.setup) t.events).sequences (suc epoch)) 0
        + epoch_gas (setting_of trust t.setup) (world_after (setting_of trust t.setup) t.events).sequences epoch
        ≡ currency_sum (opening_at (setting_of trust t.setup) (world_after (setting_of trust t.setup) t.events).sequences epoch) 0
    read-gas m seat at = only-gas (setting_of trust t.setup) t.events honest (set-up-apart trust t.setup) no-gas-cap m seat at
        (gas-was-held (setting_of trust t.setup) t.events honest (set-up-apart trust t.setup) (money-amounts (setting_of trust t.setup).opening set-up-amounts) m seat at)

    pub read-backed : (currency : ℕ) → currency ≢ 0 → (m : ℕ) (seat : Seat) → slice_get (world_after (setting_of trust t.setup) t.events).seats m ≡ Some seat
        → currency_sum (member_in (setting_of trust t.setup) seat).opening currency ≡ supply_sum (member_in (setting_of trust t.setup) seat).opening currency
    read-backed currency other m seat at = are-backed (setting_of trust t.setup) t.events honest (set-up-apart trust t.setup) currency other (set-up-backed trust t.setup currency other) m seat at
        (gas-was-held (setting_of trust t.setup) t.events honest (set-up-apart trust t.setup) (money-amounts (setting_of trust t.setup).opening set-up-amounts) m seat at)
