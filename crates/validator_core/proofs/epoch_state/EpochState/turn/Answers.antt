use Rattle.std.proofs.Common.{◌∙◌, [], subst, sym, false}
use Rattle.protocol_spec.specs.Member.Admission.{Admission}
use Rattle.exec_plan.specs.Waits.{IsWaiting}
use Rattle.exec_plan.specs.declared.waiting.DependencyIndex.{DependencyIndex}
use Rattle.epoch_turn.specs.Chains.{cut_of_chain}
use Rattle.version_store.specs.Stores.{Stored}
use Rattle.epoch_turn.specs.Openings.{Opens}
use Rattle.validator_core.proofs.Coursing.{fresh_sound}
use Rattle.validator_core.proofs.Renewing.{reverted_are, turned_is}
use Rattle.validator_core.proofs.epoch_state.EpochState.turn.Goals as goal

pub returns-clause-sound : goal.returns-clause-sound
returns-clause-sound c =
    fresh_sound
    (record {
      epoch = c.in-Some.next;
      store = c.turn.new.self;
      held = c.replace.new.dest;
      waiting = c.replace-2.new.dest;
      admission = c.renew.new.admission;
      chain = c.turn-2.new.self;
      seen = 0;
      ends = c.new-self.result;
      ended = false;
      alloc = c.args.self.now.alloc;
    })
    c.args.self.now.chain (subst (λ (s : Stored). Opens c.renew.new.admission.opening s.opening) (sym c.in_ok-turn.ensures.ok) c.in_ok-renew.ensures.opens) c.in_ok-renew.ensures.nothing (c.replace.ensures.after ∙ c.new.ensures) (subst (λ (w : DependencyIndex). (s : Stored) (a : Admission) → IsWaiting s a [] w) (sym c.replace-2.ensures.after) c.new-2.ensures)
    c.turn-2.ensures.value c.turn-2.ensures.behind

pub returns-clause-value : goal.returns-clause-value
returns-clause-value c =
    turned_is c.args.self.now c.requires (cut_of_chain c.args.self.now.chain) c.in_ok-reverted.ensures.cut c.revert_uncut.new.store c.turn.new.self c.in-Some.next c.renew.new.admission c.turn-2.new.self c.replace.new.dest c.new-self.result
    c.in_ok-reverted.ensures.store c.in_ok-turn.ensures.ok c.in-Some.ensures c.in_ok-renew.ensures.nothing c.renew.ensures.limit c.turn-2.ensures.value (c.replace.ensures.after ∙ c.new.ensures) c.new-self.ensures

pub returns-clause-reverted : goal.returns-clause-reverted
returns-clause-reverted c = reverted_are c.args.self.now c.requires (cut_of_chain c.args.self.now.chain) c.in_ok-reverted.ensures.cut c.in_ok-reverted.reverted c.in_ok-reverted.ensures.undone
