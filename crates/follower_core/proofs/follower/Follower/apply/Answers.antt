use Rattle.std.proofs.Common.{◌∙◌, ap, sym}
use Rattle.follower_core.specs.Courses.{first_bad}
use Rattle.follower_core.proofs.Calls.{done_counts, done_refuses, early_answers, early_stays, later_answers, next_epoch, next_follows, same_count}
use Rattle.follower_core.proofs.Walking.{each_short}
use Rattle.follower_core.proofs.follower.Follower.apply.Goals as goal

pub returns-in-Err-clause-answer : goal.returns-in-Err-clause-answer
returns-in-Err-clause-answer c = early_answers c.self.inside.ledger.kept c.self.inside.tip c.args.self.now c.args.checkpoint.now c.args.txs.now c.in-Err.refusal c.self.view_is c.in-Err.ensures

pub returns-in-Err-clause-state : goal.returns-in-Err-clause-state
returns-in-Err-clause-state c = early_stays c.self.inside.ledger.kept c.self.inside.tip c.args.self.now c.args.checkpoint.now c.args.txs.now c.in-Err.refusal c.self.view_is c.in-Err.ensures

pub follow-requires-clause-each : goal.follow-requires-clause-each
follow-requires-clause-each c = each_short c.args.txs.now c.requires.each

pub follow-requires-clause-same : goal.follow-requires-clause-same
follow-requires-clause-same c = same_count c.self.inside.ledger.kept c.self.inside.tip c.args.self.now c.args.checkpoint.now c.args.txs.now _ c.in-Ok.ensures

pub applied_in-applied-requires : goal.applied_in-applied-requires
applied_in-applied-requires c = next_follows c.self.inside.ledger.kept c.self.inside.tip c.args.self.now c.args.checkpoint.now c.args.txs.now _ c.in-Ok-follow.tip c.self.view_is c.in-Ok.ensures c.requires.room c.in-Ok-follow.ensures.tip

pub invariant_of-self : goal.invariant_of-self
invariant_of-self c = (
  c.in-Ok-follow.ensures.present ∙ sym c.in-Ok-follow.ensures.kept,
  (
    next_follows c.self.inside.ledger.kept c.self.inside.tip c.args.self.now c.args.checkpoint.now c.args.txs.now _ c.in-Ok-follow.tip c.self.view_is c.in-Ok.ensures c.requires.room c.in-Ok-follow.ensures.tip,
    next_epoch c.self.inside.ledger.kept c.self.inside.tip c.args.self.now c.args.checkpoint.now c.args.txs.now _ c.in-Ok-follow.tip c.in-Ok.ensures c.self.invariant.1.1 c.in-Ok-follow.ensures.tip,
  ),
)

pub returns-in-Ok-follow-clause-answer : goal.returns-in-Ok-follow-clause-answer
returns-in-Ok-follow-clause-answer c = (
  done_refuses c.self.inside.ledger.kept c.self.inside.tip c.args.self.now c.args.checkpoint.now c.args.txs.now _ c.self.view_is c.in-Ok.ensures
      (ap (λ m. first_bad m 0 c.args.checkpoint.now.items c.args.txs.now) (sym c.self.invariant.0) ∙ c.in-Ok-follow.ensures.stand),
  c.applied_in-applied.ensures ∙ done_counts c.self.inside.ledger.kept c.self.inside.tip c.args.self.now c.args.checkpoint.now c.args.txs.now _ c.in-Ok-follow.tip c.self.view_is c.in-Ok.ensures c.in-Ok-follow.ensures.tip,
)

pub returns-else-is_memory-clause-answer : goal.returns-else-is_memory-clause-answer
returns-else-is_memory-clause-answer c = later_answers c.self.inside.ledger.kept c.self.inside.tip c.args.self.now c.args.checkpoint.now c.args.txs.now _ c.in-Err-follow.refusal c.self.view_is c.in-Ok.ensures
    (λ no. ap (λ m. first_bad m 0 c.args.checkpoint.now.items c.args.txs.now) (sym c.self.invariant.0) ∙ c.in-Err-follow.ensures.refused no)
