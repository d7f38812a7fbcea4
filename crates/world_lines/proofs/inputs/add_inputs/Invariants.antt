use Rattle.std.proofs.Common.{◌≡◌, drop}
use Rattle.world_lines.specs.Pushed.{each_pushed}
use Rattle.world_spec.specs.MadeLines.{input_by}
use Rattle.world_lines.proofs.inputs.add_inputs.Given as goal

-- the rest of the loop adds what is missing
abbrev pub invariant-loop-word : goal.invariant-loop-word
invariant-loop-word g l =
    each_pushed (input_by l.directory (g.H.HeldDigests.held l.held)) l.inputs (drop l.word-index l.words)
    ≡ each_pushed (input_by l.directory (g.H.HeldDigests.held l.held)) l.fn.inputs l.words
