use Rattle.std.proofs.Common.{◌≡◌, ◌∙◌, Some, ap, sym, subst}
use Rattle.std.specs.Prelude.{Result, Err}
use Rattle.std.proofs.lemmas.Result.{err_from_is_err_and}
use Rattle.journal_core.specs.declared.records.Record.TheVariants as record_as
use Rattle.protocol_spec.specs.declared.answers.Seen.{Seen}
use Rattle.protocol_spec.specs.declared.refusals.SeeRefusal.{SeeRefusal}
use Rattle.protocol_spec.specs.Member.Calls.{due, sees}
use Rattle.world_spec.specs.Terms.{rules_for}
use Rattle.validator_core.specs.Calls.{see_ended, unkept_see}
use Rattle.validator_core.specs.Entries.{what_as}
use Rattle.validator_core.specs.Limits.{terms_at}
use Rattle.validator_core.specs.Seats.{Journaled}
use Rattle.validator_core.proofs.Running.{is_kept}
use Rattle.validator_core.proofs.Seeing.{no_fork, see_called, see_due, see_kept, see_maybe_kept, see_refused, see_stays, see_taken, see_unkept, some_fork}
use Rattle.validator_core.proofs.sees.see.Goals as goal

pub returns-in-Err-clause-answer : goal.returns-in-Err-clause-answer
returns-in-Err-clause-answer g c =
    see_refused (rules_for (terms_at c.args.state.now c.args.committee.now) (g.S.Checker.accepts c.args.sealer.now)) c.args.state.now.member c.args.number c.args.bytes.now c.in-Err.refusal c.in-Err.ensures.value

pub returns-in-Err-clause-state : goal.returns-in-Err-clause-state
returns-in-Err-clause-state g c =
    see_stays (rules_for (terms_at c.args.state.now c.args.committee.now) (g.S.Checker.accepts c.args.sealer.now)) c.args.state.now.member c.args.number c.args.bytes.now c.in-Err.refusal c.in-Err.ensures.value

pub returns-in-Err-clause-kept : goal.returns-in-Err-clause-kept
returns-in-Err-clause-kept g c =
    see_unkept (rules_for (terms_at c.args.state.now c.args.committee.now) (g.S.Checker.accepts c.args.sealer.now)) c.args.state.now.member c.args.number c.args.bytes.now c.in-Err.refusal c.in-Err.ensures.value
    (g.D.Keeper.lists c.args.keeper.now) c.args.member

pub returns-in_err-append_see-clause-kept : goal.returns-in_err-append_see-clause-kept
returns-in_err-append_see-clause-kept g c =
    let r = rules_for (terms_at c.args.state.now c.args.committee.now) (g.S.Checker.accepts c.args.sealer.now) in
    let before = g.D.Keeper.lists c.args.keeper.now in
    let now = g.D.Keeper.lists c.append_see.new.keeper in
    let d = due r c.args.state.now.member (sees c.args.number c.args.bytes.now) in
    let is : d ≡ Some (record_as.See c.args.bytes.now) = see_due r c.args.state.now.member c.args.number c.args.bytes.now c.in-Ok.ensures.value in
    let p = err_from_is_err_and c.from_residual.result c.from_residual.ensures.1 in
    let why : p.0 ≡ unkept_see c.in_err-append_see.field-0.0 = p.2 in
    subst (λ (x : Result Seen SeeRefusal). Journaled before now c.args.member d (see_ended x)) (sym (p.1 ∙ ap (λ (e : SeeRefusal). Err e) why))
    (see_maybe_kept before now c.args.member d (Some (record_as.See c.args.bytes.now)) c.in_err-append_see.field-0.0 is c.in_err-append_see.ensures.kept)

pub returns-in_default-take_entry-clause-kept : goal.returns-in_default-take_entry-clause-kept
returns-in_default-take_entry-clause-kept g c =
    let r = rules_for (terms_at c.args.state.now c.args.committee.now) (g.S.Checker.accepts c.args.sealer.now) in
    let d = due r c.args.state.now.member (sees c.args.number c.args.bytes.now) in
    see_kept (g.D.Keeper.lists c.args.keeper.now) (g.D.Keeper.lists c.append_see.new.keeper) c.args.member d (Some (record_as.See c.args.bytes.now))
    (see_due r c.args.state.now.member c.args.number c.args.bytes.now c.in-Ok.ensures.value) c.in_ok-append_see.ensures.kept

pub returns-in-Some-clause-answer : goal.returns-in-Some-clause-answer
returns-in-Some-clause-answer g c =
    let accepts = g.S.Checker.accepts c.args.sealer.now in
    let r = rules_for (terms_at c.args.state.now c.args.committee.now) accepts in
    some_fork r c.args.state.now.member c.args.number c.args.bytes.now c.in-Ok.ensures.value c.in-Ok.ensures.unended (what_as c.in-Ok-read_entry.arrival) c.in-Ok-read_entry.ensures.what c.take_entry.new.self.member (c.in-Ok-take_entry.ensures.state accepts)
    c.in-Some.field-0 c.in-Some.ensures

pub returns-in-Some-clause-state : goal.returns-in-Some-clause-state
returns-in-Some-clause-state g c =
    let accepts = g.S.Checker.accepts c.args.sealer.now in
    let r = rules_for (terms_at c.args.state.now c.args.committee.now) accepts in
    see_called r c.args.state.now.member c.args.number c.args.bytes.now c.in-Ok.ensures.value c.in-Ok.ensures.unended (what_as c.in-Ok-read_entry.arrival) c.in-Ok-read_entry.ensures.what c.take_entry.new.self.member (c.in-Ok-take_entry.ensures.state accepts)

pub returns-in-Some-clause-kept : goal.returns-in-Some-clause-kept
returns-in-Some-clause-kept g c =
    let r = rules_for (terms_at c.args.state.now c.args.committee.now) (g.S.Checker.accepts c.args.sealer.now) in
    is_kept (g.D.Keeper.lists c.args.keeper.now) (g.D.Keeper.lists c.append_see.new.keeper) c.args.member (due r c.args.state.now.member (sees c.args.number c.args.bytes.now)) (Some (record_as.See c.args.bytes.now))
    (see_due r c.args.state.now.member c.args.number c.args.bytes.now c.in-Ok.ensures.value) c.in_ok-append_see.ensures.kept

pub returns-in-None-clause-answer : goal.returns-in-None-clause-answer
returns-in-None-clause-answer g c =
    let accepts = g.S.Checker.accepts c.args.sealer.now in
    let r = rules_for (terms_at c.args.state.now c.args.committee.now) accepts in
    see_taken r c.args.state.now.member c.args.number c.args.bytes.now c.in-Ok.ensures.value c.in-Ok.ensures.unended (what_as c.in-Ok-read_entry.arrival) c.in-Ok-read_entry.ensures.what c.take_entry.new.self.member (c.in-Ok-take_entry.ensures.state accepts)
    c.in-Ok-take_entry.seen (no_fork c.take_entry.new.self.member c.in-None.ensures) (c.in-Ok-take_entry.ensures.what accepts) c.in-Ok-take_entry.ensures.built

pub returns-in-None-clause-state : goal.returns-in-None-clause-state
returns-in-None-clause-state g c =
    let accepts = g.S.Checker.accepts c.args.sealer.now in
    let r = rules_for (terms_at c.args.state.now c.args.committee.now) accepts in
    see_called r c.args.state.now.member c.args.number c.args.bytes.now c.in-Ok.ensures.value c.in-Ok.ensures.unended (what_as c.in-Ok-read_entry.arrival) c.in-Ok-read_entry.ensures.what c.take_entry.new.self.member (c.in-Ok-take_entry.ensures.state accepts)

pub returns-in-None-clause-kept : goal.returns-in-None-clause-kept
returns-in-None-clause-kept g c =
    let r = rules_for (terms_at c.args.state.now c.args.committee.now) (g.S.Checker.accepts c.args.sealer.now) in
    is_kept (g.D.Keeper.lists c.args.keeper.now) (g.D.Keeper.lists c.append_see.new.keeper) c.args.member (due r c.args.state.now.member (sees c.args.number c.args.bytes.now)) (Some (record_as.See c.args.bytes.now))
    (see_due r c.args.state.now.member c.args.number c.args.bytes.now c.in-Ok.ensures.value) c.in_ok-append_see.ensures.kept
