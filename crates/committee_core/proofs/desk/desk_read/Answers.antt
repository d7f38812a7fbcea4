use Rattle.std.proofs.Common.{inl, subst}
use Rattle.world_spec.specs.Setting.{Trust}
use Rattle.schedule_text.specs.Schedule.{schedule_of}
use Rattle.committee_core.specs.Desk.{EndsAs}
use Rattle.committee_core.specs.Headline.{program_trust}
use Rattle.committee_core.proofs.Replays.{keeps_held, seven_not_said}
use Rattle.committee_core.proofs.Voting.{ends_known, said_cut, said_known, said_whole}
use Rattle.committee_core.proofs.desk.desk_read.Goals as goal

pub say-requires : goal.say-requires
say-requires g c = ends_known _ c.args.callers (schedule_of c.args.text.now) c.in-Ok.said.status c.in-Ok.said.text c.in-Ok.ensures

pub returns-in-Ok-clause-known : goal.returns-in-Ok-clause-known
returns-in-Ok-clause-known g c = said_known c.say.result c.in-Ok.said.status (ends_known _ c.args.callers (schedule_of c.args.text.now) c.in-Ok.said.status c.in-Ok.said.text c.in-Ok.ensures) c.say.ensures.known

pub returns-in-Ok-clause-whole : goal.returns-in-Ok-clause-whole
returns-in-Ok-clause-whole g c = λ is.
    let ends = subst (λ (t : Trust). EndsAs t c.args.callers (schedule_of c.args.text.now) c.in-Ok.said.status c.in-Ok.said.text) c.program_sealer-sealer.ensures c.in-Ok.ensures in
    said_whole program_trust c.args.callers (schedule_of c.args.text.now) _ _ c.say.result c.in-Ok.said.status c.in-Ok.said.text ends c.say.ensures.known c.say.ensures.written is

pub returns-in-Ok-clause-cut : goal.returns-in-Ok-clause-cut
returns-in-Ok-clause-cut g c = λ is.
    let ends = subst (λ (t : Trust). EndsAs t c.args.callers (schedule_of c.args.text.now) c.in-Ok.said.status c.in-Ok.said.text) c.program_sealer-sealer.ensures c.in-Ok.ensures in
    said_cut program_trust c.args.callers (schedule_of c.args.text.now) _ _ c.in-Ok.said.status c.in-Ok.said.text ends c.say.ensures.cut

pub returns-in-Err-clause-whole : goal.returns-in-Err-clause-whole
returns-in-Err-clause-whole g c = λ is. seven_not_said is

pub returns-in-Err-clause-cut : goal.returns-in-Err-clause-cut
returns-in-Err-clause-cut g c = λ is. inl (keeps_held (g.K.Sink.held c.args.sink.now))
