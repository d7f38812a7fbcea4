-- The executions that the maps stand for.
use Rattle.std.proofs.Common.{◌≡◌, ℕ, ◌+◌, ◌-◌, ◌≤◌, Bool, true, false, cond, List, [], ◌∷◌, ◌++◌, Option, Some, None, is_some, length, take, drop, refl, ap, sym, ◌∙◌, option_map, arith}
use Rattle.std.specs.Map.{lookup}
use Rattle.std.proofs.lemmas.List.{take-append-le, drop-append-le, length-drop}
use Rattle.std.proofs.Math.Seq.{take-length}
use Rattle.digest_core.specs.declared.Digest.{Digest}
use Rattle.chain_types.specs.declared.objects.Object.{Object}
use Rattle.chain_types.specs.Equal.{digest_eq}
use Rattle.effects_core.specs.declared.effects.Effects.{Effects}
use Rattle.effects_core.specs.Effects.{digest_of_effects}
use Rattle.protocol_spec.proofs.Equality.{digest_same, test_turned, digest_self}
use Rattle.protocol_spec.proofs.Truth.{some_mapped}
use Rattle.protocol_spec.specs.Member.Versions.{Execution, execution_of}
use Rattle.version_store.specs.declared.maps.Ran.{Ran}
use Rattle.version_store.specs.Stores.{Stored, with_execution}
use Rattle.version_store.specs.Kept.{executions, ran_as, stored_as, written_in}

none_left : (objects : List Object) → 0 ≡ length objects → objects ≡ []
none_left [] h = refl
none_left (o ∷ os) h = absurd (cc)

-- one more execution takes the objects at the end
pub executions_more : (ran : List (Digest × Ran)) (objects new : List Object) (tx : Digest) (r : Ran) → written_in ran ≡ length objects → r.written ≡ length new
    → executions (ran ++ (tx, r) ∷ []) (objects ++ new) ≡ executions ran objects ++ ran_as tx r new ∷ []
executions_more [] objects new tx r h i =
    ap (λ xs. executions ((tx, r) ∷ []) (xs ++ new)) (none_left objects h)
    ∙ ap (λ xs. ran_as tx r xs ∷ []) (ap (λ n. take n new) i ∙ take-length new)
executions_more (e ∷ es) objects new tx r h i =
    let total : e.1.written + written_in es ≡ length objects = h in
    let within : e.1.written ≤ length objects = grind arith in
    let cut : length (drop e.1.written objects) ≡ length objects - e.1.written = length-drop e.1.written objects in
    let rest : written_in es ≡ length (drop e.1.written objects) = grind arith in
    ap (λ xs. ran_as e.0 e.1 xs ∷ executions (es ++ (tx, r) ∷ []) (drop e.1.written (objects ++ new))) (take-append-le e.1.written objects new within)
    ∙ ap (λ xs. ran_as e.0 e.1 (take e.1.written objects) ∷ executions (es ++ (tx, r) ∷ []) xs) (drop-append-le e.1.written objects new within)
    ∙ ap (λ xs. ran_as e.0 e.1 (take e.1.written objects) ∷ xs) (executions_more es (drop e.1.written objects) new tx r rest i)

-- what the maps stand for after one more execution
pub stored_more : (opened : ℕ) (objects new : List Object) (ran : List (Digest × Ran)) (tx : Digest) (r : Ran) → opened + written_in ran ≡ length objects → r.written ≡ length new
    → stored_as opened (objects ++ new) (ran ++ (tx, r) ∷ []) ≡ with_execution (stored_as opened objects ran) (ran_as tx r new)
stored_more opened objects new ran tx r h i =
    let within : opened ≤ length objects = grind arith in
    let cut : length (drop opened objects) ≡ length objects - opened = length-drop opened objects in
    let rest : written_in ran ≡ length (drop opened objects) = grind arith in
    ap (λ xs. let s : Stored = record { opening = xs; executed = executions (ran ++ (tx, r) ∷ []) (drop opened (objects ++ new)) } in s) (take-append-le opened objects new within)
    ∙ ap (λ xs. let s : Stored = record { opening = take opened objects; executed = executions (ran ++ (tx, r) ∷ []) xs } in s) (drop-append-le opened objects new within)
    ∙ ap (λ xs. let s : Stored = record { opening = take opened objects; executed = xs } in s) (executions_more ran (drop opened objects) new tx r rest i)

-- a look-up among what is kept of executions is a search among them
abbrev pub known_as : Option Execution → Option Effects
known_as o = option_map (λ (x : Execution). x.gave.effects) o

pub lookup_ran : (ran : List (Digest × Ran)) (objects : List Object) (tx : Digest)
    → option_map (λ (r : Ran). r.effects) (lookup (digest_eq tx) ran) ≡ known_as (execution_of (executions ran objects) tx)
lookup_ran [] objects tx = refl
lookup_ran (e ∷ es) objects tx =
    ap (λ b. option_map (λ (r : Ran). r.effects) (cond b (Some e.1) (lookup (digest_eq tx) es))) (test_turned digest_eq digest_same digest_self tx e.0)
    ∙ by (digest_eq e.0 tx) (lookup_ran es (drop e.1.written objects) tx)
  where
    by : (b : Bool) → option_map (λ (r : Ran). r.effects) (lookup (digest_eq tx) es) ≡ known_as (execution_of (executions es (drop e.1.written objects)) tx)
        → option_map (λ (r : Ran). r.effects) (cond b (Some e.1) (lookup (digest_eq tx) es)) ≡ known_as (cond b (Some (ran_as e.0 e.1 (take e.1.written objects))) (execution_of (executions es (drop e.1.written objects)) tx))
    by true more = refl
    by false more = more

-- the digest that stands beside what is kept is that of the execution
pub digest_found : (o : Option Ran) (x : Option Execution) → option_map (λ (r : Ran). r.effects) o ≡ known_as x
    → option_map (λ (r : Ran). digest_of_effects r.effects) o ≡ option_map (λ (y : Execution). digest_of_effects y.gave.effects) x
digest_found None None h = refl
digest_found (Some r) (Some x) h = cc
digest_found None (Some x) h = absurd (cc)
digest_found (Some r) None h = absurd (cc)

-- a transaction is kept if it was executed
pub has_ran : (ran : List (Digest × Ran)) (objects : List Object) (tx : Digest) → is_some (lookup (digest_eq tx) ran) ≡ is_some (execution_of (executions ran objects) tx)
has_ran ran objects tx =
    sym (some_mapped (λ (r : Ran). r.effects) (lookup (digest_eq tx) ran))
    ∙ ap is_some (lookup_ran ran objects tx)
    ∙ some_mapped (λ (x : Execution). x.gave.effects) (execution_of (executions ran objects) tx)

-- the count after one more execution
pub written_more : (ran : List (Digest × Ran)) (tx : Digest) (r : Ran) → written_in (ran ++ (tx, r) ∷ []) ≡ written_in ran + r.written
written_more [] tx r = grind arith
written_more (e ∷ es) tx r =
    let more : written_in (es ++ (tx, r) ∷ []) ≡ written_in es + r.written = written_more es tx r in
    grind arith
