use Rattle.std.proofs.Common.{◌≡◌, ◌++◌, ◌∷◌, drop, map}
use Rattle.std.specs.Prelude.{filter}
use Rattle.chain_types.specs.declared.transactions.Input.TheVariants as inputs
use Rattle.chain_types.specs.Digests.{is_object}
use Rattle.protocol_spec.specs.Member.Votes.{origin_of}
use Rattle.vote_rules.specs.Cases.{ballot_of}
use Rattle.vote_rules.proofs.origin.origins.Given as goal

-- what was found, and then the origins of what is left
abbrev pub invariant-loop-input : goal.invariant-loop-input
invariant-loop-input l =
    l.origins ++ map (origin_of (ballot_of l.store)) (filter is_object (drop l.input-index l.tx.inputs))
    ≡ map (origin_of (ballot_of l.store)) (inputs.Owned l.tx.gas ∷ filter is_object l.tx.inputs)
