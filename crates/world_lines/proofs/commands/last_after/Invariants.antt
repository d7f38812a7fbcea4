use Rattle.std.proofs.Common.{◌≡◌, drop}
use Rattle.world_spec.specs.MadeLines.{last_after}
use Rattle.world_lines.proofs.commands.last_after.Given as goal

-- the words that are left end the same
abbrev pub invariant-loop-word : goal.invariant-loop-word
invariant-loop-word l = last_after l.last (drop l.word-index l.words) ≡ last_after l.fn.before l.words
