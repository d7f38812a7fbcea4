use Rattle.std.proofs.Common.{◌≡◌, List, ◌∙◌, ap, sym, subst}
use Rattle.std.specs.Prelude.{Result, Err}
use Rattle.std.proofs.lemmas.Result.{err_from_is_err_and}
use Rattle.effects_core.specs.declared.effects.Effects.{Effects}
use Rattle.journal_core.specs.declared.records.RanItem.{RanItem}
use Rattle.protocol_spec.specs.declared.answers.Ran.{Ran}
use Rattle.protocol_spec.specs.declared.refusals.RunRefusal.{RunRefusal}
use Rattle.protocol_spec.specs.Member.Member.{Member}
use Rattle.protocol_spec.specs.Member.Calls.{due, ran_items, ran_record, runs}
use Rattle.validator_core.specs.Answers.{bare}
use Rattle.validator_core.specs.Steps.{counted_where, items_of}
use Rattle.validator_core.specs.Calls.{run_ended, unkept_run}
use Rattle.validator_core.specs.Seats.{Journaled}
use Rattle.validator_core.specs.declared.keeping.JournalFault.{JournalFault}
use Rattle.validator_core.specs.declared.keeping.JournalFault.TheVariants as unkept
use Rattle.validator_core.proofs.Running.{is_kept, run_called, run_due, run_fault_kept, run_goes, run_maybe_kept, run_owed, run_unkept}
use Rattle.validator_core.proofs.epoch_calls.run.Goals as goal

pub returns-in-Err-clause-kept : goal.returns-in-Err-clause-kept
returns-in-Err-clause-kept g c = run_unkept c.args.state.now.member c.in-Err.refusal (g.D.Keeper.lists c.args.keeper.now) c.args.member c.in-Err.ensures.value

pub returns-in_err-keep_run-clause-kept : goal.returns-in_err-keep_run-clause-kept
returns-in_err-keep_run-clause-kept g c =
    let m = c.args.state.now.member in
    let before = g.D.Keeper.lists c.args.keeper.now in
    let now = g.D.Keeper.lists c.keep_run.new.keeper in
    let items : List RanItem = items_of c.as_slice.result.now in
    let these : items ≡ ran_items m = ap (λ (es : List Effects). items_of es) c.as_slice.ensures.value ∙ c.in-Ok-run.ensures.items in
    let is : due bare m runs ≡ ran_record items = run_due m c.in-Ok-run.ran items (run_goes m c.in-Ok-run.ran c.in-Ok.ensures.value c.in-Ok-run.ensures.ran) these in
    let p = err_from_is_err_and c.from_residual.result c.from_residual.ensures.1 in
    let why : p.0 ≡ unkept_run c.in_err-keep_run.field-0.0 = p.2 in
    subst (λ (x : Result Ran RunRefusal). Journaled before now c.args.member (due bare m runs) (run_ended x)) (sym (p.1 ∙ ap (λ (e : RunRefusal). Err e) why))
    (run_maybe_kept before now c.args.member (due bare m runs) (ran_record items) c.in_err-keep_run.field-0.0 is c.in_err-keep_run.ensures.kept)

pub returns-in_err-keep_run-clause-owed : goal.returns-in_err-keep_run-clause-owed
returns-in_err-keep_run-clause-owed g c = λ fault.
    let m = c.args.state.now.member in
    let items : List RanItem = items_of c.as_slice.result.now in
    let these : items ≡ ran_items m = ap (λ (es : List Effects). items_of es) c.as_slice.ensures.value ∙ c.in-Ok-run.ensures.items in
    let p = err_from_is_err_and c.from_residual.result c.from_residual.ensures.1 in
    let same : c.in_err-keep_run.field-0.0 ≡ unkept.KeepFault = run_fault_kept c.in_err-keep_run.field-0.0 p.0 c.from_residual.result p.2 p.1 fault in
    run_owed m c.in-Ok-run.ran items (run_goes m c.in-Ok-run.ran c.in-Ok.ensures.value c.in-Ok-run.ensures.ran) these (c.in_err-keep_run.ensures.owed (ap (λ (w : JournalFault). Err w) same))

pub returns-clause-state : goal.returns-clause-state
returns-clause-state g c =
    let m = c.args.state.now.member in
    let items : List RanItem = items_of c.as_slice.result.now in
    let these : items ≡ ran_items m = ap (λ (es : List Effects). items_of es) c.as_slice.ensures.value ∙ c.in-Ok-run.ensures.items in
    run_called m c.keep_run.new.state.member c.in-Ok-run.ran items (run_goes m c.in-Ok-run.ran c.in-Ok.ensures.value c.in-Ok-run.ensures.ran) these
    (c.in_ok-keep_run.ensures.state ∙ ap (λ (next : Member). counted_where (ran_record items) next) c.in-Ok-run.ensures.state)

pub returns-clause-kept : goal.returns-clause-kept
returns-clause-kept g c =
    let m = c.args.state.now.member in
    let items : List RanItem = items_of c.as_slice.result.now in
    let these : items ≡ ran_items m = ap (λ (es : List Effects). items_of es) c.as_slice.ensures.value ∙ c.in-Ok-run.ensures.items in
    is_kept (g.D.Keeper.lists c.args.keeper.now) (g.D.Keeper.lists c.keep_run.new.keeper) c.args.member (due bare m runs) (ran_record items)
    (run_due m c.in-Ok-run.ran items (run_goes m c.in-Ok-run.ran c.in-Ok.ensures.value c.in-Ok-run.ensures.ran) these) c.in_ok-keep_run.ensures.kept
