use Rattle.chain_types.specs.Equal.{digest_eq}
use Rattle.protocol_spec.specs.Member.Votes.{Cast}
use Rattle.validator_core.proofs.Cases.{few_given}
use Rattle.validator_core.proofs.state.State.given.Goals as goal

pub returns-clause-few : goal.returns-clause-few
returns-clause-few c = few_given (λ o. o.now) c.self.inside.votes (λ (v : Cast). digest_eq v.digest c.args.tx.now) c.self.invariant.few c.origins.result c.origins.ensures
