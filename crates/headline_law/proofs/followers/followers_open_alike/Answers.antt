use Rattle.headline_law.proofs.Handing.{opened-alike, stands-at-openings}
use Rattle.headline_law.proofs.followers.followers_open_alike.Goals as goal

pub returns-clause-stands : goal.returns-clause-stands
returns-clause-stands c = stands-at-openings

pub returns-clause-alike : goal.returns-clause-alike
returns-clause-alike c = opened-alike
