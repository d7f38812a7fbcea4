use Rattle.std.proofs.Common.{◌≡◌, drop}
use Rattle.std.specs.Prelude.{fold}
use Rattle.world_lines.specs.FalseVotes.{with_none}
use Rattle.world_lines.proofs.false_votes.add_nones.Given as goal

-- the inputs that are left add what is missing
abbrev pub invariant-loop-input : goal.invariant-loop-input
invariant-loop-input l = fold with_none l.origins (drop l.input-index l.inputs) ≡ fold with_none l.fn.origins l.inputs
