use Rattle.std.proofs.Common.{◌∙◌, ap, ◌++◌, map}
use Rattle.chain_types.specs.declared.transactions.SignedTx.{SignedTx}
use Rattle.protocol_spec.specs.Chain.Words.{numbers_below}
use Rattle.world_spec.specs.Names.{drawn_as, draws}
use Rattle.world_spec.specs.Known.{drawn_words}
use Rattle.world_lines.proofs.DrawnRows.{line_drawn}
use Rattle.world_lines.proofs.directory.Directory.drawn_of.Goals as goal

pub returns : goal.returns
returns c =
    line_drawn (record { words = c.in_ok-words.words; tx = c.args.made.now.digest; count = c.in_ok-count.count })
    ∙ ap (λ ds. ds ++ map (drawn_as c.args.made.now.digest) (numbers_below c.in_ok-count.count)) c.in_ok-words.ensures
    ∙ ap (λ n. drawn_words c.args.self.now c.args.line.now.gas.now c.args.line.now.inputs.now ++ map (drawn_as c.args.made.now.digest) (numbers_below n))
    (c.in_ok-count.ensures ∙ ap draws (c.as_slice.ensures.value ∙ ap (λ (s : SignedTx). s.tx.commands) c.value.ensures))
