use Rattle.lives_law.proofs.Owned.{one-owner-over-lives}
use Rattle.lives_law.proofs.certified.one_owner_over_lives.Goals as goal

pub returns : goal.returns
returns c = one-owner-over-lives
