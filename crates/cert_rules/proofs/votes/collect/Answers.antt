use Rattle.std.proofs.Common.{ℕ, ◌∙◌, ap, sym, List}
use Rattle.quorum_core.specs.Committee.{is_roll}
use Rattle.cert_rules.specs.Collect.{certificate_of, sealed_collected, voters}
use Rattle.cert_rules.proofs.Agreement.{agreed, lacks_none, valid}
use Rattle.cert_rules.proofs.votes.collect.Goals as goal

pub unreachable-requires : goal.unreachable-requires
unreachable-requires c =
    lacks_none c.args.committee.now c.args.votes.now c.in-Lacks.field-0 c.requires.roll
    (ap (sealed_collected c.args.committee.now) (sym c.as_slice-2.ensures.value) ∙ sym (c.in-Lacks.ensures))

pub returns-clause-agree : goal.returns-clause-agree
returns-clause-agree c =
    agreed c.args.committee.now c.args.tx.now c.args.votes.now c.in_ok-certificate_of-in-Whole.field-0 c.requires.votes c.requires.roll
    (ap (sealed_collected c.args.committee.now) (sym c.as_slice-2.ensures.value) ∙ sym (c.in-Whole.ensures))
    (c.in_ok-certificate_of-in-Whole.ensures ∙ ap (certificate_of c.args.tx.now) c.as_slice-in-Whole.ensures.value)

pub returns-clause-valid : goal.returns-clause-valid
returns-clause-valid c = λ rules same sound.
    valid rules c.args.tx.now c.args.votes.now c.in_ok-certificate_of-in-Whole.field-0 c.requires.votes
    (ap (λ (stakes : List ℕ). is_roll stakes (voters c.args.votes.now)) same ∙ c.requires.roll)
    (ap (λ (stakes : List ℕ). sealed_collected stakes c.args.votes.now) same ∙ ap (sealed_collected c.args.committee.now) (sym c.as_slice-2.ensures.value) ∙ sym (c.in-Whole.ensures))
    (c.in_ok-certificate_of-in-Whole.ensures ∙ ap (certificate_of c.args.tx.now) c.as_slice-in-Whole.ensures.value)
    sound
