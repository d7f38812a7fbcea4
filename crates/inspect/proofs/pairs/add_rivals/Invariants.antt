use Rattle.std.proofs.Common.{◌≡◌, ◌++◌, length}
use Rattle.std.specs.List.{flat_map}
use Rattle.protocol_spec.specs.Chain.Words.{Each}
use Rattle.world_spec.specs.Known.{world_with}
use Rattle.world_spec.specs.Names.{tx_name}
use Rattle.inspect.specs.Blame.{pair_text}
use Rattle.inspect.specs.Found.{IsSound}
use Rattle.inspect.proofs.pairs.add_rivals.Given as goal

abbrev pub invariant-loop-rest : goal.invariant-loop-rest
invariant-loop-rest l = record {
  text : l.text ++ flat_map (pair_text (tx_name (world_with l.names)) l.committee l.one) l.rest ≡ l.fn.text ++ flat_map (pair_text (tx_name (world_with l.names)) l.committee l.one) l.others;
  sound : Each (IsSound l.committee) l.rest;
}

abbrev pub decreases-loop-rest : goal.decreases-loop-rest
decreases-loop-rest l = length l.rest
