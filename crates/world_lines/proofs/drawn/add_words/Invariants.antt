use Rattle.std.proofs.Common.{◌≡◌, drop}
use Rattle.world_lines.specs.Drawn.{word_row}
use Rattle.world_lines.specs.Pushed.{each_pushed}
use Rattle.world_lines.proofs.drawn.add_words.Given as goal

-- the words that are left add what is missing
abbrev pub invariant-loop-word : goal.invariant-loop-word
invariant-loop-word l = each_pushed word_row l.rows.items (drop l.word-index l.words) ≡ each_pushed word_row l.fn.rows.items l.words
