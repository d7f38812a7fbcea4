use Rattle.std.proofs.Common.{arith, subst, sym, ap, ◌∙◌, ◌≡◌, ◌+◌, Some, None, set}
use Rattle.std.specs.Prelude.{slice_get}
use Rattle.std.proofs.lemmas.Option.{same_Some}
use Rattle.dag_pool.proofs.Sorting.{Empties, stood, empties_more}
use Rattle.dag_pool.proofs.order.unwrapped.Goals as goal

pub unreachable-requires : goal.unreachable-requires
unreachable-requires g c =
    let size = c.loop-place.invariant.size in
    let was = stood c.args.slots.items c.loop-place.slots.items c.loop-place.place c.loop-place.outputs.items c.index_mut.result.now c.loop-place.invariant (omega arith) c.index_mut.ensures.value in
    let filled = c.requires c.loop-place.place (omega arith) in
    let none = c.in_default.ensures.value in
    let same = same_Some _ _ (sym was ∙ filled.1) in
    cc

pub loop-place-preserved : goal.loop-place-preserved
loop-place-preserved g c =
    let size = c.loop-place.invariant.size in
    let was = stood c.args.slots.items c.loop-place.slots.items c.loop-place.place c.loop-place.outputs.items c.index_mut.result.now c.loop-place.invariant (omega arith) c.index_mut.ensures.value in
    let at = was ∙ ap Some (sym c.in-Some.ensures.value) in
    let next = empties_more c.args.slots.items c.loop-place.slots.items c.loop-place.place c.loop-place.outputs.items c.in-Some.output c.loop-place.invariant at in
    subst (λ x. Empties c.args.slots.items (set c.loop-place.slots.items c.loop-place.place x) (c.loop-place.place + 1) c.push.new.self.items) (sym c.take.ensures.after)
    (subst (λ l. Empties c.args.slots.items (set c.loop-place.slots.items c.loop-place.place None) (c.loop-place.place + 1) l) (sym c.in_ok-push.ensures.items) next)

pub returns-clause-same : goal.returns-clause-same
returns-clause-same g c = λ place output at. c.loop-place.invariant.same place output (subst (λ l. slice_get l place ≡ Some output) c.from_vec.ensures at)
