use Rattle.world_lines.proofs.KnownAddresses.{none_known}
use Rattle.world_lines.proofs.addresses.Addresses.new.Goals as goal

pub invariant_of-result : goal.invariant_of-result
invariant_of-result c = none_known c.new.result c.new.ensures
