use Rattle.std.proofs.Common.{refl, true}
use Rattle.protocol_spec.specs.Chain.Certificates.{Rules}
use Rattle.validator_core.specs.Courses.{sequence_in}
use Rattle.validator_core.proofs.Bringing.{end_sound, ended_what, weight_what}
use Rattle.validator_core.proofs.epoch_state.EpochState.count_end.Goals as goal

pub returns-in-Weight-clause-what : goal.returns-in-Weight-clause-what
returns-in-Weight-clause-what c =
    λ (r : Rules) same. weight_what r c.args.committee.now (sequence_in c.args.self.now) (sequence_in (record c.args.self.now { ends = c.count.new.self })) c.args.member c.in-Weight.weight same c.requires.ending.new c.count.ensures.counted c.requires.unended
    c.in-Weight.ensures.answer

pub returns-in_ok-end-in-Ended-clause-unbuilt : goal.returns-in_ok-end-in-Ended-clause-unbuilt
returns-in_ok-end-in-Ended-clause-unbuilt c = end_sound c.args.self.now c.requires.sound c.end.new.self c.count.new.self c.in_ok-end-in-Ended.ensures.ok c.end.ensures.behind

pub returns-in_ok-end-in-Ended-clause-what : goal.returns-in_ok-end-in-Ended-clause-what
returns-in_ok-end-in-Ended-clause-what c =
    λ (r : Rules) same. ended_what r c.args.committee.now (sequence_in c.args.self.now) (sequence_in (record c.args.self.now { chain = c.end.new.self; ends = c.count.new.self; ended = true })) c.args.member c.in-Ended.weight same c.requires.ending.new
    c.count.ensures.counted refl c.in-Ended.ensures.answer
