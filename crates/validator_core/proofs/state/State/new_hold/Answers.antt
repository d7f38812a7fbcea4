use Rattle.std.proofs.Common.{◌∙◌, sym}
use Rattle.world_spec.specs.Terms.{rules_for}
use Rattle.validator_core.specs.Limits.{terms_at}
use Rattle.validator_core.proofs.Cases.{hold_meets, hold_new}
use Rattle.validator_core.proofs.state.State.new_hold.Goals as goal
use Rattle.protocol_spec.proofs.Checked.{valid_shape}

pub returns-in-Some-clause-answer : goal.returns-in-Some-clause-answer
returns-in-Some-clause-answer g c =
    hold_meets (rules_for (terms_at c.args.self.now c.args.committee.now) (g.S.Checker.accepts c.args.sealer.now)) c.args.self.now.member c.args.cert.now c.as_slice.result.now c.args.digest
    (cc (c.is_closed.ensures, c.if-is_closed.false)) (c.in-Ok.ensures c.args.self.now.writers) (c.as_slice.ensures.value ∙ c.in-Ok-owned_keys.ensures) c.requires.digest c.in-Some.key c.in-Some.first (sym c.in-Some.ensures)

pub returns-in-Some-clause-held : goal.returns-in-Some-clause-held
returns-in-Some-clause-held g c = record {
  is = c.requires.digest;
  shape = valid_shape (rules_for (terms_at c.args.self.now c.args.committee.now) (g.S.Checker.accepts c.args.sealer.now)) c.args.cert.now (c.in-Ok.ensures c.args.self.now.writers);
  new = c.requires.new;
}

pub returns-clause-answer : goal.returns-clause-answer
returns-clause-answer g c =
    hold_new (rules_for (terms_at c.args.self.now c.args.committee.now) (g.S.Checker.accepts c.args.sealer.now)) c.args.self.now.member c.args.cert.now c.as_slice.result.now c.args.digest
    (cc (c.is_closed.ensures, c.if-is_closed.false)) (c.in-Ok.ensures c.args.self.now.writers) (c.as_slice.ensures.value ∙ c.in-Ok-owned_keys.ensures) c.requires.digest (sym c.in-None.ensures)

pub returns-clause-held : goal.returns-clause-held
returns-clause-held g c = record {
  is = c.requires.digest;
  shape = valid_shape (rules_for (terms_at c.args.self.now c.args.committee.now) (g.S.Checker.accepts c.args.sealer.now)) c.args.cert.now (c.in-Ok.ensures c.args.self.now.writers);
  new = c.requires.new;
}
