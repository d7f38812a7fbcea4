use Rattle.committee_core.proofs.call_log.CallLogKeeper.append.Goals as goal

pub invariant_of-self : goal.invariant_of-self
invariant_of-self g c = c.append_to.ensures.calling g.O.Opening.faults g.O.Opening.begun c.self.invariant
