use Rattle.std.proofs.Common.{ap}
use Rattle.world_spec.specs.Setting.{Trust}
use Rattle.inspect.proofs.Blaming.{says_blame}
use Rattle.inspect.proofs.blame.blame_among.Goals as goal

pub returns : goal.returns
returns c = says_blame c.args.world.now _ c.args.events.now c.in_ok-text.text (ap (λ (t : Trust). t.accepts) c.program_sealer-sealer.ensures) c.in_ok-text.ensures
