use Rattle.std.proofs.Common.{◌∙◌, ap, is_some}
use Rattle.world_core.specs.Trusts.{trust_by}
use Rattle.committee_core.proofs.Replays.{honest_is, is_some_copied}
use Rattle.committee_core.proofs.replay.is_honest.Goals as goal

pub returns : goal.returns
returns g c =
    c.is_some.ensures ∙ is_some_copied c.member.result ∙ ap is_some c.member.ensures.value
    ∙ honest_is (trust_by (g.S.MakesSeals.made c.args.sealer.now) (g.S.Checker.accepts c.args.sealer.now)) c.args.schedule.now c.args.world.now c.args.member c.requires.opened
