use Rattle.std.proofs.Common.{◌∙◌, None, ap, cond, sym}
use Rattle.std.specs.List.{list_any}
use Rattle.std.specs.Map.{lookup}
use Rattle.chain_types.specs.Equal.{id_eq}
use Rattle.version_store.proofs.Turned.{takes_one}
use Rattle.version_store.proofs.base.take_out.Goals as goal

pub loop-id-preserved : goal.loop-id-preserved
loop-id-preserved c = λ id.
    takes_one id c.in-Some.id.now c.next.new.self (lookup (id_eq id) c.swap_remove.new.self.entries) (lookup (id_eq id) c.loop-id.base.entries) (c.swap_remove.ensures.updates.0 id)
    ∙ ap (λ ids. cond (list_any (id_eq id) ids) None (lookup (id_eq id) c.loop-id.base.entries)) (sym c.in-Some.ensures.steps)
    ∙ c.loop-id.invariant id
