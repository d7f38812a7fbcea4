use Rattle.inspect.proofs.blame.certified.Goals as goal

pub add_formed-requires : goal.add_formed-requires
add_formed-requires g c = c.new-found.ensures.found c.args.world.now.terms.stakes
