-- What is gathered of a task's wants is what comes of the task.
use Rattle.std.proofs.Common.{◌≡◌, false, cond, List, [], ◌∷◌, ◌++◌, Option, Some, None, refl, ap, sym, ◌∙◌, append_assoc, append-nil}
use Rattle.std.specs.Prelude.{filter_map, zip}
use Rattle.std.specs.List.{list_any}
use Rattle.std.specs.Option.{option_to_list}
use Rattle.chain_types.specs.declared.objects.Object.{Object}
use Rattle.chain_types.specs.declared.transactions.Transaction.{Transaction}
use Rattle.protocol_spec.specs.Chain.Words.{first_of, first_some}
use Rattle.exec_plan.specs.declared.task.Carry.{Carry}
use Rattle.exec_plan.specs.declared.task.Carry.TheVariants as carries
use Rattle.exec_plan.specs.declared.task.Gathered.{Gathered}
use Rattle.exec_plan.specs.declared.task.Gathered.TheVariants as gathered
use Rattle.exec_plan.specs.declared.task.Outcome.{Outcome}
use Rattle.exec_plan.specs.declared.task.Outcome.TheVariants as outcomes
use Rattle.exec_plan.specs.declared.task.Want.{Want}
use Rattle.exec_plan.specs.Gathering.{gathered_after, is_lacking}
use Rattle.exec_plan.specs.Tasks.{Planned, carried, first_carry, is_not_run, lacking, object_of, other_carries, outcome_of, outcome_on, outcome_with}

-- what comes of a transaction of which this was gathered
abbrev pub outcome_by : Transaction → Gathered → Outcome
outcome_by t (gathered.All objects) = outcome_with t objects
outcome_by t (gathered.Lacking w) = outcomes.Absent w.key w.origin

abbrev lacks : List Want → List Carry → Option Want
lacks ws inputs = first_of lacking (zip ws (carried ws inputs))

-- what comes of it after these objects
abbrev outcome_behind : Transaction → List Object → List Carry → Option Want → Outcome
outcome_behind t objects there None = outcome_with t (objects ++ filter_map object_of there)
outcome_behind t objects there (Some w) = outcomes.Absent w.key w.origin

gathers : (t : Transaction) (ws : List Want) (objects : List Object) (inputs : List Carry)
    → outcome_by t (gathered_after objects ws inputs) ≡ outcome_behind t objects (carried ws inputs) (lacks ws inputs)
gathers t [] objects inputs = ap (outcome_with t) (sym (append-nil objects))
gathers t (w ∷ ws) objects inputs = go (first_carry w.slot inputs) (λ os. gathers t ws os rest)
  where
    rest : List Carry
    rest = other_carries w.slot inputs

    More : Type 0
    More = (os : List Object) → outcome_by t (gathered_after os ws rest) ≡ outcome_behind t os (carried ws rest) (lacks ws rest)

    here : (o : Object) (l : Option Want) → outcome_behind t (objects ++ o ∷ []) (carried ws rest) l ≡ outcome_behind t objects (carries.Object o ∷ carried ws rest) (first_some (l ∷ []))
    here o None = ap (outcome_with t) (append_assoc objects (o ∷ []) (filter_map object_of (carried ws rest)))
    here o (Some w) = refl

    nowhere : (l : Option Want) → outcome_behind t (objects ++ []) (carried ws rest) l ≡ outcome_behind t objects (carries.NotRun ∷ carried ws rest) (first_some (l ∷ []))
    nowhere None = ap (λ os. outcome_with t (os ++ filter_map object_of (carried ws rest))) (append-nil objects)
    nowhere (Some w) = refl

    go : (c : Carry) → More
        → outcome_by t (cond (is_lacking c) (gathered.Lacking w) (gathered_after (objects ++ option_to_list (object_of c)) ws rest))
        ≡ outcome_behind t objects (c ∷ carried ws rest) (first_some (lacking (w, c) ∷ lacks ws rest ∷ []))
    go (carries.Object o) more = more (objects ++ o ∷ []) ∙ here o (lacks ws rest)
    go carries.Lacks more = refl
    go carries.NotRun more = more (objects ++ []) ∙ nowhere (lacks ws rest)

pub gathered_is : (t : Planned) (inputs : List Carry) → list_any is_not_run inputs ≡ false → outcome_of t inputs ≡ outcome_by t.tx (gathered_after [] t.wants inputs)
gathered_is t inputs run =
    ap (λ c. cond c outcomes.Waits (outcome_on t.tx (carried t.wants inputs) (lacks t.wants inputs))) run
    ∙ same (lacks t.wants inputs)
    ∙ sym (gathers t.tx t.wants [] inputs)
  where
    same : (l : Option Want) → outcome_on t.tx (carried t.wants inputs) l ≡ outcome_behind t.tx [] (carried t.wants inputs) l
    same None = refl
    same (Some w) = refl
