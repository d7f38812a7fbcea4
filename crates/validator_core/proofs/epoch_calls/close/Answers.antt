use Rattle.std.proofs.Common.{◌≡◌, Bool, true, false, Some, ◌∙◌, ap, sym, subst}
use Rattle.std.specs.Prelude.{Result, Err}
use Rattle.std.proofs.lemmas.Result.{err_from_is_err_and}
use Rattle.journal_core.specs.declared.records.Record.TheVariants as record_as
use Rattle.protocol_spec.specs.declared.refusals.CloseRefusal.{CloseRefusal}
use Rattle.protocol_spec.specs.Member.Calls.{closes, due}
use Rattle.validator_core.specs.Answers.{bare}
use Rattle.validator_core.specs.Calls.{close_ended, unkept_close}
use Rattle.validator_core.specs.Seats.{Journaled, answered}
use Rattle.validator_core.proofs.Running.{close_due, close_goes, close_maybe_kept, close_unkept, is_kept, journals_same}
use Rattle.validator_core.proofs.epoch_calls.close.Goals as goal

pub returns-in-Err-clause-kept : goal.returns-in-Err-clause-kept
returns-in-Err-clause-kept g c = close_unkept c.args.state.now.member c.in-Err.refusal (g.D.Keeper.lists c.args.keeper.now) c.args.member c.in-Err.ensures.value

pub returns-then-is_closed-clause-kept : goal.returns-then-is_closed-clause-kept
returns-then-is_closed-clause-kept g c =
    let m = c.args.state.now.member in
    journals_same (g.D.Keeper.lists c.args.keeper.now) c.args.member (due bare m closes) answered
    (close_due m false (close_goes m true c.in-Ok.ensures.value (cc (c.is_closed.ensures, c.if-is_closed.true))))

pub returns-in_err-keep_close-clause-kept : goal.returns-in_err-keep_close-clause-kept
returns-in_err-keep_close-clause-kept g c =
    let m = c.args.state.now.member in
    let before = g.D.Keeper.lists c.args.keeper.now in
    let now = g.D.Keeper.lists c.keep_close.new.keeper in
    let is : due bare m closes ≡ Some record_as.Close = close_due m true (close_goes m false c.in-Ok.ensures.value (cc (c.is_closed.ensures, c.if-is_closed.false))) in
    let p = err_from_is_err_and c.from_residual.result c.from_residual.ensures.1 in
    let why : p.0 ≡ unkept_close c.in_err-keep_close.field-0.0 = p.2 in
    subst (λ (x : Result Bool CloseRefusal). Journaled before now c.args.member (due bare m closes) (close_ended x)) (sym (p.1 ∙ ap (λ (e : CloseRefusal). Err e) why))
    (close_maybe_kept before now c.args.member (due bare m closes) (Some record_as.Close) c.in_err-keep_close.field-0.0 is c.in_err-keep_close.ensures.kept)

pub returns-clause-kept : goal.returns-clause-kept
returns-clause-kept g c =
    let m = c.args.state.now.member in
    let is : due bare m closes ≡ Some record_as.Close = close_due m true (close_goes m false c.in-Ok.ensures.value (cc (c.is_closed.ensures, c.if-is_closed.false))) in
    is_kept (g.D.Keeper.lists c.args.keeper.now) (g.D.Keeper.lists c.keep_close.new.keeper) c.args.member (due bare m closes) (Some record_as.Close) is c.in_ok-keep_close.ensures.kept
