use Rattle.std.proofs.Common.{◌≡◌, subst, sym}
use Rattle.epoch_turn.specs.declared.growth.Growth.{Growth}
use Rattle.epoch_turn.specs.Chains.{BuildsAll, IsBehind, advanced}
use Rattle.epoch_turn.specs.Kept.{Takes, shown}
use Rattle.epoch_turn.proofs.Behind.{behind_advanced, behind_executed}
use Rattle.epoch_turn.proofs.Growing.{all_kept, all_shown}
use Rattle.epoch_turn.proofs.Told.{all_built}
use Rattle.epoch_turn.proofs.rows.Rows.advance.Goals as goal

pub returns-clause-kept : goal.returns-clause-kept
returns-clause-kept c = all_kept c.args.epoch c.args.store.now.executed c.args.self.now c.take.new.self c.find_done-done.result c.requires.kept c.requires.behind
    (subst (λ (g : Growth). Takes g c.find_done-done.result c.args.self.now c.take.new.self) c.in_ok-growth.ensures c.in_ok-take.ensures.ok) c.find_done-done.ensures

same : (c : goal.In_ok-take) → shown c.take.new.self ≡ advanced c.args.epoch c.args.store.now.executed (shown c.args.self.now)
same c = all_shown c.args.epoch c.args.store.now.executed c.args.self.now c.take.new.self c.find_done-done.result c.requires.kept c.requires.behind
    (subst (λ (g : Growth). Takes g c.find_done-done.result c.args.self.now c.take.new.self) c.in_ok-growth.ensures c.in_ok-take.ensures.ok) c.find_done-done.ensures

pub returns-clause-ok : goal.returns-clause-ok
returns-clause-ok c = same c

pub returns-clause-all : goal.returns-clause-all
returns-clause-all c = subst (BuildsAll c.args.epoch c.args.store.now.executed) (sym (same c)) (all_built c.args.epoch c.args.store.now.executed (shown c.args.self.now))

pub returns-clause-behind : goal.returns-clause-behind
returns-clause-behind c more = behind_executed c.args.epoch c.args.store.now.executed more (shown c.take.new.self)
    (subst (IsBehind c.args.epoch c.args.store.now.executed) (sym (same c)) (behind_advanced c.args.epoch c.args.store.now.executed (shown c.args.self.now)))
