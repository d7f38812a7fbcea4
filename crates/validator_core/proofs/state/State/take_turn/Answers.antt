use Rattle.std.proofs.Common.{◌∙◌, ◌+◌, List, ap, false}
use Rattle.protocol_spec.specs.Member.Votes.{Cast}
use Rattle.validator_core.specs.Courses.{coursed}
use Rattle.validator_core.specs.Limits.{Limited}
use Rattle.validator_core.specs.Sound.{member_with}
use Rattle.validator_core.specs.Steps.{turning}
use Rattle.validator_core.proofs.Turned.{turning_is}
use Rattle.validator_core.proofs.state.State.take_turn.Goals as goal

pub returns-in-Ok-clause-state : goal.returns-in-Ok-clause-state
returns-in-Ok-clause-state c =
    let s = c.self.inside in
    ap (λ (votes : List Cast). member_with (s.records + 1) false votes (coursed c.turn.new.self)) (c.replace.ensures.after ∙ c.new.ensures)
    ∙ turning_is s.records s.closed s.votes (coursed s.epoch_state) (coursed c.turn.new.self) c.in-Ok.ensures.value
    ∙ ap (λ (x : Limited). turning x.member) c.self.view_is
