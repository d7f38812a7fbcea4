use Rattle.world_core.specs.Trusts.{trust_by}
use Rattle.schedule_text.specs.Schedule.{schedule_of}
use Rattle.committee_core.proofs.Members.{read_committee}
use Rattle.committee_core.proofs.Replays.{refused_with}
use Rattle.committee_core.proofs.Voting.{said_refusal, said_schedule}
use Rattle.committee_core.proofs.desk.said_of_text.Goals as goal

pub said_of-requires-clause-committee : goal.said_of-requires-clause-committee
said_of-requires-clause-committee g c κs within = read_committee c.args.text.now c.in-Ok.schedule c.in-Ok.ensures.ok

pub returns-in-Ok : goal.returns-in-Ok
returns-in-Ok g c = said_schedule c.said_of.result (trust_by (g.S.MakesSeals.made c.args.sealer) (g.S.Checker.accepts c.args.sealer)) c.args.callers c.in-Ok.schedule (schedule_of c.args.text.now) c.in-Ok.ensures.ok c.said_of.ensures

pub returns-in-Err-Refused : goal.returns-in-Err-Refused
returns-in-Err-Refused g c = said_refusal c.said_refused.result (trust_by (g.S.MakesSeals.made c.args.sealer) (g.S.Checker.accepts c.args.sealer)) c.args.callers (schedule_of c.args.text.now) (record { line = c.in-Err-Refused.line; cause = c.in-Err-Refused.cause })
    (refused_with c.args.text.now c.in-Err-Refused.field-0 c.in-Err-Refused.line c.in-Err-Refused.cause c.in-Err-Refused.ensures.err c.in-Err-Refused.field-0-is) c.said_refused.ensures
