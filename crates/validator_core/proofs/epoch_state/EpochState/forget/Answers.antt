use Rattle.std.proofs.Common.{◌∙◌, [], ap, subst, sym, false}
use Rattle.protocol_spec.specs.Member.Admission.{Admission}
use Rattle.version_assign.specs.Calls.{Admitting}
use Rattle.version_store.specs.Stores.{Stored}
use Rattle.exec_plan.specs.Waits.{IsWaiting}
use Rattle.exec_plan.specs.declared.waiting.DependencyIndex.{DependencyIndex}
use Rattle.epoch_turn.specs.Chains.{StartsBehind}
use Rattle.epoch_turn.specs.Openings.{Opens}
use Rattle.validator_core.proofs.Coursing.{empty_sound}
use Rattle.validator_core.proofs.epoch_state.EpochState.forget.Goals as goal

pub returns-clause-sound : goal.returns-clause-sound
returns-clause-sound c =
    empty_sound
    (record {
      epoch = c.args.self.now.epoch;
      store = c.args.self.now.store;
      held = c.replace.new.dest;
      waiting = c.replace-2.new.dest;
      admission = c.clear.new.self;
      chain = c.replace-3.new.dest;
      seen = c.args.self.now.seen;
      ends = c.args.self.now.ends;
      ended = false;
      alloc = c.args.self.now.alloc;
    })
    (subst (λ (a : Admitting). Opens a.opening c.args.self.now.store.opening) (sym c.clear.ensures) c.requires) (ap (λ (a : Admitting). a.admission) c.clear.ensures) (c.replace.ensures.after ∙ c.new.ensures)
    (subst (λ (w : DependencyIndex). (s : Stored) (a : Admission) → IsWaiting s a [] w) (sym c.replace-2.ensures.after) c.new-2.ensures) (c.replace-3.ensures.after ∙ c.new-3.ensures.value) (subst StartsBehind (sym c.replace-3.ensures.after) c.new-3.ensures.behind)
