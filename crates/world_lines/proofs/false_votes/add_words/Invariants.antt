use Rattle.std.proofs.Common.{◌≡◌, drop}
use Rattle.world_spec.specs.Step.{origin_word}
use Rattle.world_spec.specs.Known.{world_with}
use Rattle.world_lines.specs.Pushed.{each_pushed}
use Rattle.world_lines.proofs.false_votes.add_words.Given as goal

-- the words that are left add what is missing
abbrev pub invariant-loop-word : goal.invariant-loop-word
invariant-loop-word l = each_pushed (origin_word (world_with l.directory)) l.origins (drop l.word-index l.words) ≡ each_pushed (origin_word (world_with l.directory)) l.fn.origins l.words
