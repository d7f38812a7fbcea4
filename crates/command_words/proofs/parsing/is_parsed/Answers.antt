use Rattle.std.proofs.Common.{◌∙◌}
use Rattle.command_words.proofs.Taking.{command_taken, none_found, one_found}
use Rattle.command_words.specs.Parsing.{is_taken}
use Rattle.command_words.proofs.parsing.is_parsed.Goals as goal

pub returns-in-Ok-clause-exact : goal.returns-in-Ok-clause-exact
unfolding is_taken
returns-in-Ok-clause-exact c = none_found _ c.in-Ok.ensures

pub returns-clause-exact : goal.returns-clause-exact
unfolding is_taken
returns-clause-exact c = one_found _ c.in-Err.error c.in-Err.ensures (λ h. c.in_default.not-OutOfMemory (c.kind.ensures ∙ h))

pub returns-clause-command : goal.returns-clause-command
unfolding is_taken
returns-clause-command c = λ is. one_found _ c.in-Err.error c.in-Err.ensures (λ h. c.in_default.not-OutOfMemory (c.kind.ensures ∙ h)) ∙ command_taken _ is
