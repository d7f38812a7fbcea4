use Rattle.std.proofs.Common.{◌≡◌, ◌++◌, length, map}
use Rattle.protocol_spec.specs.Chain.Words.{IsFront}
use Rattle.world_spec.specs.World.{checkpoint_statement, said_by}
use Rattle.world_lines.proofs.said.StatementLog.say_built.Given as goal

-- what was stated goes on from what was there, and with what is left it makes up all
abbrev pub invariant-loop-rest : goal.invariant-loop-rest
invariant-loop-rest l = record {
  kept : IsFront l.fn.self l.self;
  same : l.self ++ map (said_by l.member) (map checkpoint_statement l.rest) ≡ l.fn.self ++ map (said_by l.member) (map checkpoint_statement l.built);
}

abbrev pub decreases-loop-rest : goal.decreases-loop-rest
decreases-loop-rest l = length l.rest
