use Rattle.std.proofs.Common.{ap, refl, ◌∙◌, arith, [], ◌∷◌}
use Rattle.dag_core.specs.Places.{times}
use Rattle.dag_core.proofs.Places.{times-append}
use Rattle.dag_pool.proofs.task.note.Goals as goal

pub returns-in-Ok : goal.returns-in-Ok
returns-in-Ok g c = record {
  seat = refl;
  outputs = refl;
  due = λ f. (f, λ t. ap (times t) c.in-Ok.ensures.items ∙ times-append t c.args.post.now.due.items (c.args.task ∷ []));
  most = λ t. let e = ap (times t) c.in-Ok.ensures.items ∙ times-append t c.args.post.now.due.items (c.args.task ∷ []) in omega (arith, e);
}
