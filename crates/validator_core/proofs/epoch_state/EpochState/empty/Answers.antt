use Rattle.std.proofs.Common.{ap, false}
use Rattle.version_assign.specs.Calls.{Admitting}
use Rattle.version_store.specs.Stores.{Stored}
use Rattle.validator_core.proofs.Coursing.{empty_sound, opens_nothing}
use Rattle.validator_core.proofs.epoch_state.EpochState.empty.Goals as goal

pub returns-clause-sound : goal.returns-clause-sound
returns-clause-sound c =
    empty_sound
    (record {
      epoch = 0;
      store = c.empty.result;
      held = c.new.result;
      waiting = c.new-2.result;
      admission = c.empty-2.result;
      chain = c.new-3.result;
      seen = 0;
      ends = c.new-4.result;
      ended = false;
      alloc = c.args.alloc;
    })
    (opens_nothing c.empty-2.result.opening c.empty.result.opening (ap (λ (a : Admitting). a.opening) c.empty-2.ensures) (ap (λ (s : Stored). s.opening) c.empty.ensures))
    (ap (λ (a : Admitting). a.admission) c.empty-2.ensures) c.new.ensures c.new-2.ensures c.new-3.ensures.value c.new-3.ensures.behind
