use Rattle.headline_law.proofs.Heavy.{more-than-a-third}
use Rattle.headline_law.proofs.blame.they_have_more_than_a_third.Goals as goal

pub returns : goal.returns
returns c = more-than-a-third
