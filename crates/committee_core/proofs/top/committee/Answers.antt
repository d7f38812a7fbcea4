use Rattle.std.proofs.Common.{Option, refl, subst, sym}
use Rattle.command_words.specs.declared.words.Command.{Command}
use Rattle.committee_core.specs.Endings.{BeginsEmpty}
use Rattle.committee_core.proofs.Obeying.{obeyed, starved}
use Rattle.committee_core.proofs.top.committee.Goals as goal

pub returns-then-is_err-clause-ends : goal.returns-then-is_err-clause-ends
returns-then-is_err-clause-ends g c =
    obeyed _ c.in-Some.command _ _ 7 (sym c.in-Some.ensures.is)
    (starved c.generated_text_is_a_schedule.ensures c.in-Some.command c.in-Some.ensures.range _
    (subst (λ (w : Option Command). BeginsEmpty w (g.D.Keeper.lists c.args.keeper.now)) (sym c.in-Some.ensures.is) c.requires.empty))

pub returns-in-Check-clause-ends : goal.returns-in-Check-clause-ends
returns-in-Check-clause-ends g c = obeyed _ c.in-Some.command _ _ _ (sym c.in-Some.ensures.is)
    (rw c.in-Check.is (record {
      known = c.check.ensures.known;
      said = c.check.ensures.said;
      certified = c.check.ensures.certified;
      refused = c.check.ensures.refused;
      read_fault = c.check.ensures.read_fault;
      unwritten = c.check.ensures.unwritten;
      write_fault = c.check.ensures.write_fault;
      cut = c.check.ensures.cut;
      kept = refl;
    }))

pub returns-in-Run-clause-ends : goal.returns-in-Run-clause-ends
returns-in-Run-clause-ends g c = obeyed _ c.in-Some.command _ _ _ (sym c.in-Some.ensures.is)
    (rw c.in-Run.is (record {
      known = c.run.ensures.known;
      whole = c.run.ensures.whole;
      steady = c.run.ensures.steady;
      refused = c.run.ensures.refused;
      read_fault = c.run.ensures.read_fault;
      unwritten = c.run.ensures.unwritten;
      write_fault = c.run.ensures.write_fault;
      keep_fault = c.run.ensures.keep_fault;
      cut = c.run.ensures.cut;
    }))

pub returns-in-Replay-clause-ends : goal.returns-in-Replay-clause-ends
returns-in-Replay-clause-ends g c = obeyed _ c.in-Some.command _ _ _ (sym c.in-Some.ensures.is)
    (rw c.in-Replay.is (record {
      known = c.replay.ensures.known;
      stays = c.replay.ensures.stays;
      whole = c.replay.ensures.whole;
      read_fault = c.replay.ensures.read_fault;
      unwritten = c.replay.ensures.unwritten;
      write_fault = c.replay.ensures.write_fault;
      bad = c.replay.ensures.bad;
      cut = c.replay.ensures.cut;
    }))

pub returns-in-Follow-clause-ends : goal.returns-in-Follow-clause-ends
returns-in-Follow-clause-ends g c = obeyed _ c.in-Some.command _ _ _ (sym c.in-Some.ensures.is)
    (rw c.in-Follow.is (record {
      known = c.follow.ensures.known;
      whole = c.follow.ensures.whole;
      steady = c.follow.ensures.steady;
      refused = c.follow.ensures.refused;
      read_fault = c.follow.ensures.read_fault;
      unwritten = c.follow.ensures.unwritten;
      write_fault = c.follow.ensures.write_fault;
      keep_fault = c.follow.ensures.keep_fault;
      cut = c.follow.ensures.cut;
    }))
