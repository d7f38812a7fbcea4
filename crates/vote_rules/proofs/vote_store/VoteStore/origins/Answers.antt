use Rattle.vote_rules.proofs.Voting.{found}
use Rattle.vote_rules.proofs.vote_store.VoteStore.origins.Goals as goal

pub returns-in-Some : goal.returns-in-Some
returns-in-Some c = found c.self.inside.given.entries c.args.self.now c.args.tx.now _ c.in-Some.ensures.value c.self.view_is

pub returns-in-None : goal.returns-in-None
returns-in-None c = found c.self.inside.given.entries c.args.self.now c.args.tx.now _ c.in-None.ensures.value c.self.view_is
