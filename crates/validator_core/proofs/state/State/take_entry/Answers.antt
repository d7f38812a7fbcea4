use Rattle.std.proofs.Common.{◌∙◌, ◌+◌, ◌≤◌, List, ap, drop, length, subst, sym}
use Rattle.protocol_spec.specs.declared.answers.Held.{Held}
use Rattle.epoch_turn.specs.Dues.{front_length, is_ordered}
use Rattle.protocol_spec.specs.Member.Member.{built}
use Rattle.world_spec.specs.Terms.{rules_for}
use Rattle.validator_core.specs.Courses.{coursed}
use Rattle.validator_core.specs.Entries.{behind_entry, what_as}
use Rattle.validator_core.specs.Limits.{Accepting, Limited, terms_at}
use Rattle.validator_core.specs.Sound.{member_with}
use Rattle.validator_core.proofs.Bringing.{entry_is}
use Rattle.validator_core.proofs.Fronts.{ordered_behind}
use Rattle.validator_core.proofs.state.State.take_entry.Goals as goal

pub ordered_on-self-inside-requires : goal.ordered_on-self-inside-requires
ordered_on-self-inside-requires c =
    let s = c.self.inside in
    subst (λ (hs : List Held). s.ordered ≤ front_length (is_ordered c.see.new.self.admission.admission) hs) (sym c.as_slice.ensures.value)
    (ordered_behind c.args.committee.now s.ordered (coursed s.epoch_state) c.args.arrival (coursed c.see.new.self) c.self.invariant.front c.in-Ok.ensures.value)

pub returns-in-Ok-clause-state : goal.returns-in-Ok-clause-state
returns-in-Ok-clause-state c =
    λ (accepts : Accepting). let s = c.self.inside in
    entry_is c.args.committee.now (coursed s.epoch_state) (coursed c.see.new.self) c.args.arrival s.records s.closed s.votes accepts c.in-Ok.ensures.value
    ∙ ap (λ (x : Limited). behind_entry (rules_for (terms_at x c.args.committee.now) accepts) x.member (what_as c.args.arrival)) c.self.view_is

pub returns-in-Ok-clause-built : goal.returns-in-Ok-clause-built
unfolding built
returns-in-Ok-clause-built c =
    let s = c.self.inside in
    c.in-Ok.ensures.built ∙ ap (λ (x : Limited). drop (length (built x.member)) (built (member_with (s.records + 1) s.closed s.votes (coursed c.see.new.self)))) c.self.view_is
