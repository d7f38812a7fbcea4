use Rattle.world_spec.proofs.KnownWorlds as known
use Rattle.world_lines.proofs.names_law.names_of_a_world.Goals as goal

pub returns : goal.returns
returns c = record {
  made = known.made_as_known;
  digest = known.digest_as_known;
  tx = known.tx_as_known;
  address = known.address_as_known;
  object = known.object_as_known;
  key = known.key_as_known;
  order = known.order_as_known;
  line = known.line_as_known;
}
