use Rattle.vote_rules.specs.Casts.{casts}
use Rattle.vote_rules.proofs.Voting.{decided}
use Rattle.vote_rules.proofs.vote_store.VoteStore.decide.Goals as goal

pub returns : goal.returns
returns c =
    decided c.args.store.now c.self.inside.locks (casts c.self.inside.given.entries) c.args.self.now c.args.tx.now c.args.digest.now _ c.self.invariant c.self.view_is c.decide.ensures
