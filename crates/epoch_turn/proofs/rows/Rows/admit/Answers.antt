use Rattle.std.proofs.Common.{sym, subst, List}
use Rattle.epoch_turn.specs.declared.due.Due.{Due}
use Rattle.epoch_turn.specs.Chains.{Chaining, IsBehind}
use Rattle.epoch_turn.specs.Kept.{shown}
use Rattle.epoch_turn.proofs.Behind.{behind_due}
use Rattle.epoch_turn.proofs.Growing.{kept_sized}
use Rattle.epoch_turn.proofs.Told.{keeps_cuts}
use Rattle.epoch_turn.proofs.rows.Rows.admit.Goals as goal

pub returns-clause-cuts : goal.returns-clause-cuts
returns-clause-cuts c = keeps_cuts (shown c.args.self.now) c.args.due (kept_sized c.args.self.now c.requires)

pub returns-clause-behind : goal.returns-clause-behind
returns-clause-behind c epoch executed behind =
    let old : Chaining = shown c.args.self.now in
    let seen : List Due → Chaining = λ due. record { past = old.past; built = old.built; due = due; marks = old.marks; done = old.done } in
    subst (λ (ds : List Due). IsBehind epoch executed (seen ds)) (sym c.in_ok-push.ensures.items) (behind_due epoch executed old c.args.due (kept_sized c.args.self.now c.requires) behind)
