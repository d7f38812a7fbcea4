use Rattle.std.proofs.Common.{ap, false}
use Rattle.version_assign.specs.Calls.{Admitting}
use Rattle.version_store.specs.Stores.{Stored}
use Rattle.validator_core.proofs.Coursing.{empty_sound, opens_apart}
use Rattle.validator_core.proofs.epoch_state.EpochState.fresh.Goals as goal

pub returns-clause-sound : goal.returns-clause-sound
returns-clause-sound c =
    empty_sound
    (record {
      epoch = 0;
      store = c.in_ok-store.store;
      held = c.new-2.result;
      waiting = c.new-3.result;
      admission = c.in-Ok.admission;
      chain = c.new-4.result;
      seen = 0;
      ends = c.new-5.result;
      ended = false;
      alloc = c.args.alloc;
    })
    (opens_apart c.args.opening.now c.in-Ok.admission.opening c.in_ok-store.store.opening (ap (λ (a : Admitting). a.opening) c.in-Ok.ensures) (ap (λ (s : Stored). s.opening) c.in_ok-store.ensures) c.requires)
    (ap (λ (a : Admitting). a.admission) c.in-Ok.ensures) c.new-2.ensures c.new-3.ensures c.new-4.ensures.value c.new-4.ensures.behind
