use Rattle.std.proofs.Common.{◌≡◌, refl}
use Rattle.schedule_text.specs.declared.words.Event.TheVariants as events
use Rattle.world_core.specs.Steps.{lines_after, scene_after}
use Rattle.world_core.specs.Trusts.{trust_by}
use Rattle.world_core.specs.Cuts.{still_in}
use Rattle.world_core.proofs.Cuts.{on_err}
use Rattle.world_core.proofs.Dispatching.{call_step, keeper_call, keeper_quiet, on_ok, quiet_step, see_after, start_step}
use Rattle.std.specs.Prelude.{slice_get}
use Rattle.world_spec.specs.SceneSteps.{standing_at}
use Rattle.world_core.specs.Texts.{show_by}
use Rattle.world_core.proofs.Serving.{same_lines}
use Rattle.world_core.proofs.Texts.{show_is}
use Rattle.world_core.proofs.Stated.{unsaid_on, unsaid_then}
use Rattle.world_core.proofs.world.World.step.Goals as goal

pub returns-in-Vote-clause-step : goal.returns-in-Vote-clause-step
returns-in-Vote-clause-step g c =
    call_step (trust_by (g.S.MakesSeals.made c.args.sealer.now) (g.S.Checker.accepts c.args.sealer.now)) c.args.self.now c.vote.new.self (events.Vote c.in-Vote.member c.in-Vote.tx) (g.D.Keeper.lists c.args.keeper.now) (g.D.Keeper.lists c.vote.new.keeper) refl c.args.event.now c.vote.result c.call_outcome.result c.in-Vote.is c.call_outcome.ensures c.vote.ensures.line

pub returns-in-Vote-clause-keeper : goal.returns-in-Vote-clause-keeper
returns-in-Vote-clause-keeper g c =
    keeper_call c.vote.result c.call_outcome.result c.call_outcome.ensures c.vote.ensures.keeper

pub returns-in-Send-clause-step : goal.returns-in-Send-clause-step
returns-in-Send-clause-step g c =
    call_step (trust_by (g.S.MakesSeals.made c.args.sealer.now) (g.S.Checker.accepts c.args.sealer.now)) c.args.self.now c.send.new.self (events.Send c.in-Send.member c.in-Send.tx) (g.D.Keeper.lists c.args.keeper.now) (g.D.Keeper.lists c.send.new.keeper) refl c.args.event.now c.send.result c.call_outcome-in-Send.result c.in-Send.is c.call_outcome-in-Send.ensures c.send.ensures.line

pub returns-in-Send-clause-keeper : goal.returns-in-Send-clause-keeper
returns-in-Send-clause-keeper g c =
    keeper_call c.send.result c.call_outcome-in-Send.result c.call_outcome-in-Send.ensures c.send.ensures.keeper

pub returns-in-Run-clause-step : goal.returns-in-Run-clause-step
returns-in-Run-clause-step g c =
    call_step (trust_by (g.S.MakesSeals.made c.args.sealer.now) (g.S.Checker.accepts c.args.sealer.now)) c.args.self.now c.run.new.self (events.Run c.in-Run.member c.in-Run.workers) (g.D.Keeper.lists c.args.keeper.now) (g.D.Keeper.lists c.run.new.keeper) refl c.args.event.now c.run.result c.call_outcome-in-Run.result c.in-Run.is c.call_outcome-in-Run.ensures c.run.ensures.line

pub returns-in-Run-clause-keeper : goal.returns-in-Run-clause-keeper
returns-in-Run-clause-keeper g c =
    keeper_call c.run.result c.call_outcome-in-Run.result c.call_outcome-in-Run.ensures c.run.ensures.keeper

pub returns-in-Close-clause-step : goal.returns-in-Close-clause-step
returns-in-Close-clause-step g c =
    call_step (trust_by (g.S.MakesSeals.made c.args.sealer.now) (g.S.Checker.accepts c.args.sealer.now)) c.args.self.now c.close.new.self (events.Close c.in-Close.member) (g.D.Keeper.lists c.args.keeper.now) (g.D.Keeper.lists c.close.new.keeper) refl c.args.event.now c.close.result c.call_outcome-in-Close.result c.in-Close.is c.call_outcome-in-Close.ensures c.close.ensures.line

pub returns-in-Close-clause-keeper : goal.returns-in-Close-clause-keeper
returns-in-Close-clause-keeper g c =
    keeper_call c.close.result c.call_outcome-in-Close.result c.call_outcome-in-Close.ensures c.close.ensures.keeper

pub returns-in-Turn-clause-step : goal.returns-in-Turn-clause-step
returns-in-Turn-clause-step g c =
    call_step (trust_by (g.S.MakesSeals.made c.args.sealer.now) (g.S.Checker.accepts c.args.sealer.now)) c.args.self.now c.turn.new.self (events.Turn c.in-Turn.member) (g.D.Keeper.lists c.args.keeper.now) (g.D.Keeper.lists c.turn.new.keeper) refl c.args.event.now c.turn.result c.call_outcome-in-Turn.result c.in-Turn.is c.call_outcome-in-Turn.ensures c.turn.ensures.line

pub returns-in-Turn-clause-keeper : goal.returns-in-Turn-clause-keeper
returns-in-Turn-clause-keeper g c =
    keeper_call c.turn.result c.call_outcome-in-Turn.result c.call_outcome-in-Turn.ensures c.turn.ensures.keeper

pub returns-in-RawVote-clause-step : goal.returns-in-RawVote-clause-step
returns-in-RawVote-clause-step g c =
    call_step (trust_by (g.S.MakesSeals.made c.args.sealer.now) (g.S.Checker.accepts c.args.sealer.now)) c.args.self.now c.raw_vote.new.self (events.RawVote c.in-RawVote.member c.in-RawVote.bytes) (g.D.Keeper.lists c.args.keeper.now) (g.D.Keeper.lists c.raw_vote.new.keeper) refl c.args.event.now c.raw_vote.result c.call_outcome-in-RawVote.result c.in-RawVote.is c.call_outcome-in-RawVote.ensures c.raw_vote.ensures.line

pub returns-in-RawVote-clause-keeper : goal.returns-in-RawVote-clause-keeper
returns-in-RawVote-clause-keeper g c =
    keeper_call c.raw_vote.result c.call_outcome-in-RawVote.result c.call_outcome-in-RawVote.ensures c.raw_vote.ensures.keeper

pub returns-in-RawHold-clause-step : goal.returns-in-RawHold-clause-step
returns-in-RawHold-clause-step g c =
    call_step (trust_by (g.S.MakesSeals.made c.args.sealer.now) (g.S.Checker.accepts c.args.sealer.now)) c.args.self.now c.raw_hold.new.self (events.RawHold c.in-RawHold.member c.in-RawHold.bytes) (g.D.Keeper.lists c.args.keeper.now) (g.D.Keeper.lists c.raw_hold.new.keeper) refl c.args.event.now c.raw_hold.result c.call_outcome-in-RawHold.result c.in-RawHold.is c.call_outcome-in-RawHold.ensures c.raw_hold.ensures.line

pub returns-in-RawHold-clause-keeper : goal.returns-in-RawHold-clause-keeper
returns-in-RawHold-clause-keeper g c =
    keeper_call c.raw_hold.result c.call_outcome-in-RawHold.result c.call_outcome-in-RawHold.ensures c.raw_hold.ensures.keeper

pub returns-in-See-clause-step : goal.returns-in-See-clause-step
returns-in-See-clause-step g c =
    call_step (trust_by (g.S.MakesSeals.made c.args.sealer.now) (g.S.Checker.accepts c.args.sealer.now)) c.args.self.now c.see.new.self (events.See c.in-See.member c.in-See.entries) (g.D.Keeper.lists c.args.keeper.now) (g.D.Keeper.lists c.see.new.keeper) refl c.args.event.now c.see.result c.call_outcome-in-See.result c.in-See.is c.call_outcome-in-See.ensures (see_after (trust_by (g.S.MakesSeals.made c.args.sealer.now) (g.S.Checker.accepts c.args.sealer.now)) c.args.self.now c.see.new.self (events.See c.in-See.member c.in-See.entries) (g.D.Keeper.lists c.args.keeper.now) (g.D.Keeper.lists c.see.new.keeper) c.see.result refl c.see.ensures.world c.see.ensures.lines c.see.ensures.kept c.see.ensures.cut c.see.ensures.books c.see.ensures.said)

pub returns-in-See-clause-keeper : goal.returns-in-See-clause-keeper
returns-in-See-clause-keeper g c =
    keeper_call c.see.result c.call_outcome-in-See.result c.call_outcome-in-See.ensures (record { width = c.see.ensures.width; later = c.see.ensures.later; fault = c.see.ensures.fault })

pub returns-in-Restart-clause-step : goal.returns-in-Restart-clause-step
returns-in-Restart-clause-step g c =
    start_step (trust_by (g.S.MakesSeals.made c.args.sealer.now) (g.S.Checker.accepts c.args.sealer.now)) c.args.self.now c.restart.new.self c.in-Restart.member c.args.event.now (g.D.Keeper.lists c.args.keeper.now) (g.D.Keeper.lists c.restart.new.keeper) c.restart.result c.in-Restart.is c.restart.ensures.restart c.restart.ensures.kept c.restart.ensures.stay c.restart.ensures.books

pub returns-in-Restart-clause-keeper : goal.returns-in-Restart-clause-keeper
returns-in-Restart-clause-keeper g c =
    record { width = c.restart.ensures.width; later = c.restart.ensures.later; fault = c.restart.ensures.fault }

pub returns-in-Tx-clause-step : goal.returns-in-Tx-clause-step
unfolding scene_after lines_after
returns-in-Tx-clause-step g c =
    quiet_step (trust_by (g.S.MakesSeals.made c.args.sealer.now) (g.S.Checker.accepts c.args.sealer.now)) c.args.self.now c.make_tx.new.self (events.Tx c.as_slice.result.now c.as_slice-in-Tx.result.now c.in-Tx.spoiled c.in-Tx.epoch c.in-Tx.gas c.in-Tx.budget c.as_slice-in-Tx-2.result.now c.as_slice-in-Tx-3.result.now) (g.D.Keeper.lists c.args.keeper.now) refl refl c.args.event.now c.make_tx.result c.quiet_outcome.result (let same : c.args.event.now ≡ (events.Tx c.as_slice.result.now c.as_slice-in-Tx.result.now c.in-Tx.spoiled c.in-Tx.epoch c.in-Tx.gas c.in-Tx.budget c.as_slice-in-Tx-2.result.now c.as_slice-in-Tx-3.result.now) = cc (c.in-Tx.is, c.as_slice.ensures.value, c.as_slice-in-Tx.ensures.value, c.as_slice-in-Tx-2.ensures.value, c.as_slice-in-Tx-3.ensures.value) in same) c.quiet_outcome.ensures c.make_tx.ensures.world c.make_tx.ensures.lines c.make_tx.ensures.still (unsaid_on (trust_by (g.S.MakesSeals.made c.args.sealer.now) (g.S.Checker.accepts c.args.sealer.now)) c.args.self.now (events.Tx c.as_slice.result.now c.as_slice-in-Tx.result.now c.in-Tx.spoiled c.in-Tx.epoch c.in-Tx.gas c.in-Tx.budget c.as_slice-in-Tx-2.result.now c.as_slice-in-Tx-3.result.now) c.make_tx.new.self.said c.make_tx.result c.make_tx.ensures.unsaid)

pub returns-in-Tx-clause-keeper : goal.returns-in-Tx-clause-keeper
returns-in-Tx-clause-keeper g c =
    keeper_quiet (g.D.Keeper.width c.args.keeper.now) (g.D.Keeper.failed c.args.keeper.now) c.make_tx.result c.quiet_outcome.result c.quiet_outcome.ensures

pub returns-in-Fvote-clause-step : goal.returns-in-Fvote-clause-step
unfolding scene_after lines_after
returns-in-Fvote-clause-step g c =
    quiet_step (trust_by (g.S.MakesSeals.made c.args.sealer.now) (g.S.Checker.accepts c.args.sealer.now)) c.args.self.now c.false_vote.new.self (events.Fvote c.in-Fvote.member c.as_slice-in-Fvote.result.now c.as_slice-in-Fvote-2.result.now) (g.D.Keeper.lists c.args.keeper.now) refl refl c.args.event.now c.false_vote.result c.quiet_outcome-in-Fvote.result (let same : c.args.event.now ≡ (events.Fvote c.in-Fvote.member c.as_slice-in-Fvote.result.now c.as_slice-in-Fvote-2.result.now) = cc (c.in-Fvote.is, c.as_slice-in-Fvote.ensures.value, c.as_slice-in-Fvote-2.ensures.value) in same) c.quiet_outcome-in-Fvote.ensures c.false_vote.ensures.world c.false_vote.ensures.lines (on_err (still_in c.false_vote.new.self ≡ still_in c.args.self.now) c.false_vote.result c.false_vote.ensures.still) (unsaid_then (trust_by (g.S.MakesSeals.made c.args.sealer.now) (g.S.Checker.accepts c.args.sealer.now)) c.args.self.now (events.Fvote c.in-Fvote.member c.as_slice-in-Fvote.result.now c.as_slice-in-Fvote-2.result.now) c.false_vote.new.self.said c.false_vote.result c.false_vote.ensures.unsaid)

pub returns-in-Fvote-clause-keeper : goal.returns-in-Fvote-clause-keeper
returns-in-Fvote-clause-keeper g c =
    keeper_quiet (g.D.Keeper.width c.args.keeper.now) (g.D.Keeper.failed c.args.keeper.now) c.false_vote.result c.quiet_outcome-in-Fvote.result c.quiet_outcome-in-Fvote.ensures

pub returns-in-Cert-clause-step : goal.returns-in-Cert-clause-step
unfolding scene_after lines_after
returns-in-Cert-clause-step g c =
    quiet_step (trust_by (g.S.MakesSeals.made c.args.sealer.now) (g.S.Checker.accepts c.args.sealer.now)) c.args.self.now c.form_cert.new.self (events.Cert c.as_slice-in-Cert.result.now c.as_slice-in-Cert-2.result.now) (g.D.Keeper.lists c.args.keeper.now) refl refl c.args.event.now c.form_cert.result c.quiet_outcome-in-Cert.result (let same : c.args.event.now ≡ (events.Cert c.as_slice-in-Cert.result.now c.as_slice-in-Cert-2.result.now) = cc (c.in-Cert.is, c.as_slice-in-Cert.ensures.value, c.as_slice-in-Cert-2.ensures.value) in same) c.quiet_outcome-in-Cert.ensures c.form_cert.ensures.world c.form_cert.ensures.lines c.form_cert.ensures.still (unsaid_on (trust_by (g.S.MakesSeals.made c.args.sealer.now) (g.S.Checker.accepts c.args.sealer.now)) c.args.self.now (events.Cert c.as_slice-in-Cert.result.now c.as_slice-in-Cert-2.result.now) c.form_cert.new.self.said c.form_cert.result c.form_cert.ensures.unsaid)

pub returns-in-Cert-clause-keeper : goal.returns-in-Cert-clause-keeper
returns-in-Cert-clause-keeper g c =
    keeper_quiet (g.D.Keeper.width c.args.keeper.now) (g.D.Keeper.failed c.args.keeper.now) c.form_cert.result c.quiet_outcome-in-Cert.result c.quiet_outcome-in-Cert.ensures

pub returns-in-Order-clause-step : goal.returns-in-Order-clause-step
unfolding scene_after lines_after
returns-in-Order-clause-step g c =
    quiet_step (trust_by (g.S.MakesSeals.made c.args.sealer.now) (g.S.Checker.accepts c.args.sealer.now)) c.args.self.now c.order_cert.new.self (events.Order c.as_slice-in-Order.result.now) (g.D.Keeper.lists c.args.keeper.now) refl refl c.args.event.now c.order_cert.result c.quiet_outcome-in-Order.result (let same : c.args.event.now ≡ (events.Order c.as_slice-in-Order.result.now) = cc (c.in-Order.is, c.as_slice-in-Order.ensures.value) in same) c.quiet_outcome-in-Order.ensures c.order_cert.ensures.world c.order_cert.ensures.lines c.order_cert.ensures.still (unsaid_on (trust_by (g.S.MakesSeals.made c.args.sealer.now) (g.S.Checker.accepts c.args.sealer.now)) c.args.self.now (events.Order c.as_slice-in-Order.result.now) c.order_cert.new.self.said c.order_cert.result c.order_cert.ensures.unsaid)

pub returns-in-Order-clause-keeper : goal.returns-in-Order-clause-keeper
returns-in-Order-clause-keeper g c =
    keeper_quiet (g.D.Keeper.width c.args.keeper.now) (g.D.Keeper.failed c.args.keeper.now) c.order_cert.result c.quiet_outcome-in-Order.result c.quiet_outcome-in-Order.ensures

pub returns-in-OrderEnd-clause-step : goal.returns-in-OrderEnd-clause-step
unfolding scene_after lines_after
returns-in-OrderEnd-clause-step g c =
    quiet_step (trust_by (g.S.MakesSeals.made c.args.sealer.now) (g.S.Checker.accepts c.args.sealer.now)) c.args.self.now c.order_end.new.self (events.OrderEnd c.in-OrderEnd.member) (g.D.Keeper.lists c.args.keeper.now) refl refl c.args.event.now c.order_end.result c.quiet_outcome-in-OrderEnd.result (let same : c.args.event.now ≡ (events.OrderEnd c.in-OrderEnd.member) = cc (c.in-OrderEnd.is) in same) c.quiet_outcome-in-OrderEnd.ensures c.order_end.ensures.world c.order_end.ensures.lines c.order_end.ensures.still c.order_end.ensures.said

pub returns-in-OrderEnd-clause-keeper : goal.returns-in-OrderEnd-clause-keeper
returns-in-OrderEnd-clause-keeper g c =
    keeper_quiet (g.D.Keeper.width c.args.keeper.now) (g.D.Keeper.failed c.args.keeper.now) c.order_end.result c.quiet_outcome-in-OrderEnd.result c.quiet_outcome-in-OrderEnd.ensures

pub returns-in-OrderCommit-clause-step : goal.returns-in-OrderCommit-clause-step
unfolding scene_after lines_after
returns-in-OrderCommit-clause-step g c =
    quiet_step (trust_by (g.S.MakesSeals.made c.args.sealer.now) (g.S.Checker.accepts c.args.sealer.now)) c.args.self.now c.order_commit.new.self events.OrderCommit (g.D.Keeper.lists c.args.keeper.now) refl refl c.args.event.now c.order_commit.result c.quiet_outcome-in-OrderCommit.result (let same : c.args.event.now ≡ events.OrderCommit = cc (c.in-OrderCommit.is) in same) c.quiet_outcome-in-OrderCommit.ensures c.order_commit.ensures.world c.order_commit.ensures.lines c.order_commit.ensures.still (unsaid_on (trust_by (g.S.MakesSeals.made c.args.sealer.now) (g.S.Checker.accepts c.args.sealer.now)) c.args.self.now events.OrderCommit c.order_commit.new.self.said c.order_commit.result c.order_commit.ensures.unsaid)

pub returns-in-OrderCommit-clause-keeper : goal.returns-in-OrderCommit-clause-keeper
returns-in-OrderCommit-clause-keeper g c =
    keeper_quiet (g.D.Keeper.width c.args.keeper.now) (g.D.Keeper.failed c.args.keeper.now) c.order_commit.result c.quiet_outcome-in-OrderCommit.result c.quiet_outcome-in-OrderCommit.ensures

pub returns-in-End-clause-step : goal.returns-in-End-clause-step
unfolding scene_after lines_after
returns-in-End-clause-step g c =
    quiet_step (trust_by (g.S.MakesSeals.made c.args.sealer.now) (g.S.Checker.accepts c.args.sealer.now)) c.args.self.now c.say_end.new.self (events.End c.in-End.member) (g.D.Keeper.lists c.args.keeper.now) refl refl c.args.event.now c.say_end.result c.quiet_outcome-in-End.result (let same : c.args.event.now ≡ (events.End c.in-End.member) = cc (c.in-End.is) in same) c.quiet_outcome-in-End.ensures c.say_end.ensures.world c.say_end.ensures.lines (on_err (still_in c.say_end.new.self ≡ still_in c.args.self.now) c.say_end.result c.say_end.ensures.still) c.say_end.ensures.said

pub returns-in-End-clause-keeper : goal.returns-in-End-clause-keeper
returns-in-End-clause-keeper g c =
    keeper_quiet (g.D.Keeper.width c.args.keeper.now) (g.D.Keeper.failed c.args.keeper.now) c.say_end.result c.quiet_outcome-in-End.result c.quiet_outcome-in-End.ensures

pub returns-in-Ack-clause-step : goal.returns-in-Ack-clause-step
unfolding scene_after lines_after
returns-in-Ack-clause-step g c =
    quiet_step (trust_by (g.S.MakesSeals.made c.args.sealer.now) (g.S.Checker.accepts c.args.sealer.now)) c.args.self.now c.say_ack.new.self (events.Ack c.in-Ack.member c.as_slice-in-Ack.result.now c.in-Ack.spoiled) (g.D.Keeper.lists c.args.keeper.now) refl refl c.args.event.now c.say_ack.result c.quiet_outcome-in-Ack.result (let same : c.args.event.now ≡ (events.Ack c.in-Ack.member c.as_slice-in-Ack.result.now c.in-Ack.spoiled) = cc (c.in-Ack.is, c.as_slice-in-Ack.ensures.value) in same) c.quiet_outcome-in-Ack.ensures c.say_ack.ensures.world c.say_ack.ensures.lines (on_err (still_in c.say_ack.new.self ≡ still_in c.args.self.now) c.say_ack.result c.say_ack.ensures.still) c.say_ack.ensures.said

pub returns-in-Ack-clause-keeper : goal.returns-in-Ack-clause-keeper
returns-in-Ack-clause-keeper g c =
    keeper_quiet (g.D.Keeper.width c.args.keeper.now) (g.D.Keeper.failed c.args.keeper.now) c.say_ack.result c.quiet_outcome-in-Ack.result c.quiet_outcome-in-Ack.ensures

pub returns-in-Final-clause-step : goal.returns-in-Final-clause-step
unfolding scene_after lines_after
returns-in-Final-clause-step g c =
    quiet_step (trust_by (g.S.MakesSeals.made c.args.sealer.now) (g.S.Checker.accepts c.args.sealer.now)) c.args.self.now c.args.self.now (events.Final c.as_slice-in-Final.result.now c.as_slice-in-Final-2.result.now) (g.D.Keeper.lists c.args.keeper.now) refl refl c.args.event.now c.collect_final.result c.quiet_outcome-in-Final.result (let same : c.args.event.now ≡ (events.Final c.as_slice-in-Final.result.now c.as_slice-in-Final-2.result.now) = cc (c.in-Final.is, c.as_slice-in-Final.ensures.value, c.as_slice-in-Final-2.ensures.value) in same) c.quiet_outcome-in-Final.ensures (on_ok (c.args.self.now ≡ scene_after (trust_by (g.S.MakesSeals.made c.args.sealer.now) (g.S.Checker.accepts c.args.sealer.now)) c.args.self.now (events.Final c.as_slice-in-Final.result.now c.as_slice-in-Final-2.result.now)) c.collect_final.result refl) c.collect_final.ensures (on_err (still_in c.args.self.now ≡ still_in c.args.self.now) c.collect_final.result refl) (unsaid_on (trust_by (g.S.MakesSeals.made c.args.sealer.now) (g.S.Checker.accepts c.args.sealer.now)) c.args.self.now (events.Final c.as_slice-in-Final.result.now c.as_slice-in-Final-2.result.now) c.args.self.now.said c.collect_final.result refl)

pub returns-in-Final-clause-keeper : goal.returns-in-Final-clause-keeper
returns-in-Final-clause-keeper g c =
    keeper_quiet (g.D.Keeper.width c.args.keeper.now) (g.D.Keeper.failed c.args.keeper.now) c.collect_final.result c.quiet_outcome-in-Final.result c.quiet_outcome-in-Final.ensures

pub returns-in-Show-clause-step : goal.returns-in-Show-clause-step
unfolding scene_after lines_after
returns-in-Show-clause-step g c =
    quiet_step (trust_by (g.S.MakesSeals.made c.args.sealer.now) (g.S.Checker.accepts c.args.sealer.now)) c.args.self.now c.args.self.now (events.Show c.in-Show.member) (g.D.Keeper.lists c.args.keeper.now) refl refl c.args.event.now c.show.result c.quiet_outcome-in-Show.result (let same : c.args.event.now ≡ (events.Show c.in-Show.member) = cc (c.in-Show.is) in same) c.quiet_outcome-in-Show.ensures (on_ok (c.args.self.now ≡ scene_after (trust_by (g.S.MakesSeals.made c.args.sealer.now) (g.S.Checker.accepts c.args.sealer.now)) c.args.self.now (events.Show c.in-Show.member)) c.show.result refl) (same_lines (show_by c.args.self.now.known c.in-Show.member (standing_at (slice_get c.args.self.now.posts c.in-Show.member))) (lines_after (trust_by (g.S.MakesSeals.made c.args.sealer.now) (g.S.Checker.accepts c.args.sealer.now)) c.args.self.now (events.Show c.in-Show.member)) c.show.result (show_is (trust_by (g.S.MakesSeals.made c.args.sealer.now) (g.S.Checker.accepts c.args.sealer.now)) c.args.self.now c.in-Show.member (standing_at (slice_get c.args.self.now.posts c.in-Show.member))) c.show.ensures) (on_err (still_in c.args.self.now ≡ still_in c.args.self.now) c.show.result refl) (unsaid_on (trust_by (g.S.MakesSeals.made c.args.sealer.now) (g.S.Checker.accepts c.args.sealer.now)) c.args.self.now (events.Show c.in-Show.member) c.args.self.now.said c.show.result refl)

pub returns-in-Show-clause-keeper : goal.returns-in-Show-clause-keeper
returns-in-Show-clause-keeper g c =
    keeper_quiet (g.D.Keeper.width c.args.keeper.now) (g.D.Keeper.failed c.args.keeper.now) c.show.result c.quiet_outcome-in-Show.result c.quiet_outcome-in-Show.ensures

pub returns-in-Stop-clause-step : goal.returns-in-Stop-clause-step
unfolding scene_after lines_after
returns-in-Stop-clause-step g c =
    quiet_step (trust_by (g.S.MakesSeals.made c.args.sealer.now) (g.S.Checker.accepts c.args.sealer.now)) c.args.self.now c.stop.new.self (events.Stop c.in-Stop.member c.in-Stop.kept) (g.D.Keeper.lists c.args.keeper.now) refl refl c.args.event.now c.stop.result c.quiet_outcome-in-Stop.result (let same : c.args.event.now ≡ (events.Stop c.in-Stop.member c.in-Stop.kept) = cc (c.in-Stop.is) in same) c.quiet_outcome-in-Stop.ensures c.stop.ensures.world c.stop.ensures.lines c.stop.ensures.still (unsaid_on (trust_by (g.S.MakesSeals.made c.args.sealer.now) (g.S.Checker.accepts c.args.sealer.now)) c.args.self.now (events.Stop c.in-Stop.member c.in-Stop.kept) c.stop.new.self.said c.stop.result c.stop.ensures.unsaid)

pub returns-in-Stop-clause-keeper : goal.returns-in-Stop-clause-keeper
returns-in-Stop-clause-keeper g c =
    keeper_quiet (g.D.Keeper.width c.args.keeper.now) (g.D.Keeper.failed c.args.keeper.now) c.stop.result c.quiet_outcome-in-Stop.result c.quiet_outcome-in-Stop.ensures
