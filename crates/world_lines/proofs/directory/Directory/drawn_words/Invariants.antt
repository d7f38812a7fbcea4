use Rattle.std.proofs.Common.{◌≡◌, [], drop, map}
use Rattle.world_spec.specs.Making.{drawn_input, drawn_word}
use Rattle.world_spec.specs.Known.{world_with}
use Rattle.world_lines.specs.Drawn.{word_drawn}
use Rattle.world_lines.specs.Gathered.{all_some, with_some}
use Rattle.world_lines.proofs.directory.Directory.drawn_words.Given as goal

-- the words that are left add what is missing
abbrev pub invariant-loop-word : goal.invariant-loop-word
invariant-loop-word l =
    all_some (drawn_input (world_with l.self)) (map word_drawn l.words.items) (drop l.word-index l.line.inputs.now)
    ≡ all_some (drawn_input (world_with l.self)) (with_some [] (drawn_word (world_with l.self) l.line.gas.now.object)) l.line.inputs.now
