use Rattle.std.proofs.Common.{refl, sym}
use Rattle.inspect.proofs.Ended.{no_words, obeyed, unused}
use Rattle.inspect.proofs.top.inspect.Goals as goal
use Rattle.committee_core.proofs.Usage.{replayed}

pub returns-in-Some-clause-usage : goal.returns-in-Some-clause-usage
returns-in-Some-clause-usage g c = (λ two. absurd (replayed _ c.ask.ensures.known two), λ none. no_words _ _ c.in-Some.ensures none)

pub returns-in-Some-clause-ends : goal.returns-in-Some-clause-ends
returns-in-Some-clause-ends g c = obeyed _ c.in-Some.question _ _ _ c.in-Some.ensures (record {
  known = c.ask.ensures.known;
  whole = c.ask.ensures.whole;
  refused = c.ask.ensures.refused;
  read_fault = c.ask.ensures.read_fault;
  unread = c.ask.ensures.unread;
  write_fault = c.ask.ensures.write_fault;
  keep_fault = c.ask.ensures.keep_fault;
  unsaid = c.ask.ensures.unsaid;
  cut = c.ask.ensures.cut;
})

pub returns-in-None-clause-usage : goal.returns-in-None-clause-usage
returns-in-None-clause-usage g c = (λ two. sym c.in-None.ensures, λ none. refl)

pub returns-in-None-clause-ends : goal.returns-in-None-clause-ends
returns-in-None-clause-ends g c = unused _ _ (sym c.in-None.ensures)
