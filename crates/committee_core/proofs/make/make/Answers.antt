use Rattle.committee_core.proofs.Made.{made_unwritten, made_whole}
use Rattle.committee_core.proofs.make.make.Goals as goal

pub returns-in-Ok-write_summary-clause-whole : goal.returns-in-Ok-write_summary-clause-whole
returns-in-Ok-write_summary-clause-whole g c = λ is. made_whole c.args.number _ _ _ _ c.in-Ok.sums c.in-Ok.ensures.ok c.in-Ok-write_summary.ensures.ok

pub returns-in-Err-Failed-clause-cut : goal.returns-in-Err-Failed-clause-cut
returns-in-Err-Failed-clause-cut g c = λ is. made_unwritten c.args.number _ _ _ _ c.in-Ok.sums c.in-Ok.ensures.ok c.write_summary.ensures.some

pub returns-in-Err-OutOfMemory-write_summary-clause-cut : goal.returns-in-Err-OutOfMemory-write_summary-clause-cut
returns-in-Err-OutOfMemory-write_summary-clause-cut g c = λ is. made_unwritten c.args.number _ _ _ _ c.in-Ok.sums c.in-Ok.ensures.ok c.write_summary.ensures.some
