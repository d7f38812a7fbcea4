use Rattle.std.proofs.Common.{◌∙◌, ap, map, subst}
use Rattle.std.specs.String.{string_bytes}
use Rattle.clap.specs.Words.{App, FailsBy, fault_of, is_simple_and_free}
use Rattle.command_words.proofs.Taking.{program_is_simple}
use Rattle.command_words.proofs.parsing.parsed.Goals as goal

pub returns : goal.returns
returns c =
    let is = c.in_ok-program.ensures in
    subst (λ (a : App). FailsBy (fault_of a (map string_bytes c.args.words.now)) c.try_get_matches_from.result) is
    (c.try_get_matches_from.ensures.kinds (ap is_simple_and_free is ∙ program_is_simple))
