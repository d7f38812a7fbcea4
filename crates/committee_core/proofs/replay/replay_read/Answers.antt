use Rattle.std.proofs.Common.{sym}
use Rattle.committee_core.proofs.replay.replay_read.Goals as goal

pub returns-clause-whole : goal.returns-clause-whole
returns-clause-whole g c = rw (sym c.program_sealer-sealer.ensures) c.replay_text.ensures.whole

pub returns-clause-bad : goal.returns-clause-bad
returns-clause-bad g c = rw (sym c.program_sealer-sealer.ensures) c.replay_text.ensures.bad

pub returns-clause-cut : goal.returns-clause-cut
returns-clause-cut g c = rw (sym c.program_sealer-sealer.ensures) c.replay_text.ensures.cut
