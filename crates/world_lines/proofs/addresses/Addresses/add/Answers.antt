use Rattle.world_lines.proofs.KnownAddresses.{one_known}
use Rattle.world_lines.proofs.addresses.Addresses.add.Goals as goal

pub invariant_of-self-2 : goal.invariant_of-self-2
invariant_of-self-2 c = one_known c.self.inside.known c.args.name.now c.args.address c.self.invariant c.requires c.in_ok-add.ensures.ok
