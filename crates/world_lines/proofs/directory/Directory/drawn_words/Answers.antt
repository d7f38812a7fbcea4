use Rattle.std.proofs.Common.{◌∙◌, ap, sym, map}
use Rattle.std.proofs.lemmas.List.{drop_all}
use Rattle.world_spec.specs.Making.{drawn_input, drawn_word}
use Rattle.world_spec.specs.Known.{world_with}
use Rattle.world_lines.specs.Drawn.{word_drawn}
use Rattle.world_lines.specs.Gathered.{all_some}
use Rattle.world_lines.proofs.Gathered.{words_added}
use Rattle.world_lines.proofs.directory.Directory.drawn_words.Goals as goal

pub returns : goal.returns
returns c =
    sym (ap (all_some (drawn_input (world_with c.args.self.now)) (map word_drawn c.loop-word.words.items)) (drop_all c.loop-word.word-index c.args.line.now.inputs.now c.loop-word-test.false))
    ∙ c.loop-word.invariant
    ∙ words_added (drawn_input (world_with c.args.self.now)) (drawn_word (world_with c.args.self.now) c.args.line.now.gas.now.object) c.args.line.now.inputs.now
