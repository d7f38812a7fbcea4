use Rattle.std.proofs.Common.{refl, sym, ◌∙◌}
use Rattle.vote_desk.proofs.Answered.{all_answered, legal_under}
use Rattle.vote_desk.proofs.callers.answers_to_callers.Goals as goal

pub returns-clause-legal : goal.returns-clause-legal
returns-clause-legal g c = legal_under g.S.Checker.accepts _ _ _ c.in_ok-validator.ensures.history

pub returns-clause-answered : goal.returns-clause-answered
returns-clause-answered g c = all_answered g.S.Checker.accepts _ _ _ c.in_ok-validator.ensures.history refl (sym c.any_lacks_memory.ensures ∙ c.if-any_lacks_memory.false)
