use Rattle.std.proofs.Common.{◌≡◌, ◌∙◌, ap, sym}
use Rattle.protocol_spec.specs.Chain.Collecting.{whole}
use Rattle.cert_rules.specs.Collect.{voters}
use Rattle.cert_rules.specs.Finality.{acks_collected, first_acked}
use Rattle.cert_rules.proofs.Acking.{acks_agree, acks_lack_none}
use Rattle.cert_rules.proofs.acks.collect_acks.Goals as goal

pub unreachable-requires : goal.unreachable-requires
unreachable-requires c =
    acks_lack_none c.args.committee.now c.args.acks.now c.in-Lacks.field-0 c.requires.roll
    (ap (acks_collected c.args.committee.now) (sym c.as_slice-2.ensures.value) ∙ sym (c.in-Lacks.ensures))

pub returns-in-Some : goal.returns-in-Some
returns-in-Some c =
    let is : acks_collected c.args.committee.now c.args.acks.now ≡ whole = ap (acks_collected c.args.committee.now) (sym c.as_slice-2.ensures.value) ∙ sym (c.in-Whole.ensures) in (
      is,
      record {
        all = acks_agree c.args.committee.now c.args.acks.now c.requires.acks c.requires.roll is c.in-Some.epoch c.in-Some.tx c.in-Some.effects
            (c.in-Some.ensures ∙ ap first_acked c.as_slice-in-Whole.ensures.value);
        members = c.from_vec.ensures ∙ c.in_ok-members.ensures ∙ ap voters c.as_slice.ensures.value;
      },
    )
