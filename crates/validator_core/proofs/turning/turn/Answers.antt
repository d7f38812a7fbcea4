use Rattle.std.proofs.Common.{◌≡◌, Some, ◌∙◌, ap, sym, subst}
use Rattle.std.specs.Prelude.{List, Result, Err}
use Rattle.std.proofs.lemmas.Result.{err_from_is_err_and}
use Rattle.digest_core.specs.declared.Digest.{Digest}
use Rattle.journal_core.specs.declared.records.Record.TheVariants as record_as
use Rattle.protocol_spec.specs.declared.refusals.TurnRefusal.{TurnRefusal}
use Rattle.protocol_spec.specs.Member.Calls.{due, turns}
use Rattle.validator_core.specs.Answers.{bare}
use Rattle.validator_core.specs.Calls.{turn_ended, unkept_turn}
use Rattle.validator_core.specs.Seats.{Journaled}
use Rattle.validator_core.proofs.Running.{is_kept}
use Rattle.validator_core.proofs.Seeing.{see_kept}
use Rattle.validator_core.proofs.Turned.{turn_due, turn_maybe_kept, turn_unkept}
use Rattle.validator_core.proofs.turning.turn.Goals as goal

pub returns-in-Err-clause-kept : goal.returns-in-Err-clause-kept
returns-in-Err-clause-kept g c = turn_unkept c.args.state.now.member c.in-Err.refusal (g.D.Keeper.lists c.args.keeper.now) c.args.member c.in-Err.ensures.value

pub returns-in_err-keep_turn-clause-kept : goal.returns-in_err-keep_turn-clause-kept
returns-in_err-keep_turn-clause-kept g c =
    let m = c.args.state.now.member in
    let before = g.D.Keeper.lists c.args.keeper.now in
    let now = g.D.Keeper.lists c.keep_turn.new.keeper in
    let is : due bare m turns ≡ Some record_as.Turn = turn_due m c.in-Ok.ensures.value in
    let p = err_from_is_err_and c.from_residual.result c.from_residual.ensures.1 in
    let why : p.0 ≡ unkept_turn c.in_err-keep_turn.field-0.0 = p.2 in
    subst (λ (x : Result (List Digest) TurnRefusal). Journaled before now c.args.member (due bare m turns) (turn_ended x)) (sym (p.1 ∙ ap (λ (e : TurnRefusal). Err e) why))
    (turn_maybe_kept before now c.args.member (due bare m turns) (Some record_as.Turn) c.in_err-keep_turn.field-0.0 is c.in_err-keep_turn.ensures.kept)

pub returns-in_default-clause-kept : goal.returns-in_default-clause-kept
returns-in_default-clause-kept g c =
    let m = c.args.state.now.member in
    see_kept (g.D.Keeper.lists c.args.keeper.now) (g.D.Keeper.lists c.keep_turn.new.keeper) c.args.member (due bare m turns) (Some record_as.Turn) (turn_due m c.in-Ok.ensures.value) c.in_ok-keep_turn.ensures.kept

pub returns-clause-kept : goal.returns-clause-kept
returns-clause-kept g c =
    let m = c.args.state.now.member in
    is_kept (g.D.Keeper.lists c.args.keeper.now) (g.D.Keeper.lists c.keep_turn.new.keeper) c.args.member (due bare m turns) (Some record_as.Turn) (turn_due m c.in-Ok.ensures.value) c.in_ok-keep_turn.ensures.kept
