use Rattle.std.proofs.Common.{◌≡◌, ℕ, ◌<◌, length, sym, ap, ◌∙◌, None, List, arith}
use Rattle.dag_core.specs.declared.plan.Edge.{Edge}
use Rattle.dag_core.specs.Values.{source, target, first_bad}
use Rattle.dag_core.proofs.Listed.{forward_all, filed_row}
use Rattle.dag_core.proofs.plan.Plan.new.Goals as goal

-- no edge is bad, at the jobs and edges that were passed
none_bad : (n m : ℕ) (es fs : List Edge) → n ≡ m → es ≡ fs → None ≡ first_bad n es → (place : ℕ) → place < length fs → (source fs place < target fs place) × (target fs place < m)
none_bad n m es fs p q none = forward_all m fs (sym (none ∙ (ap (λ k. first_bad k es) p ∙ ap (λ xs. first_bad m xs) q)))

pub list_edges-requires-clause-inside : goal.list_edges-requires-clause-inside
list_edges-requires-clause-inside g c =
    let all = none_bad c.len.result c.len-in-None.result c.as_slice.result.now c.as_slice-in-None.result.now (c.len.ensures ∙ sym c.len-in-None.ensures) (c.as_slice.ensures.value ∙ sym c.as_slice-in-None.ensures.value) c.in-None.ensures in
    λ place lt. let a = all place lt in (omega (arith, a), a.1)

pub invariant_of-result-clause-forward : goal.invariant_of-result-clause-forward
invariant_of-result-clause-forward g c = none_bad c.len.result (length c.args.jobs) c.as_slice.result.now c.args.edges c.len.ensures c.as_slice.ensures.value c.in-None.ensures

pub invariant_of-result-clause-into_is : goal.invariant_of-result-clause-into_is
invariant_of-result-clause-into_is g c = filed_row (λ edge. edge.to) c.as_slice-in-None.result.now c.args.edges c.len-in-None.result (length c.args.jobs) c.in_ok-into-in-None.into.items c.as_slice-in-None.ensures.value c.len-in-None.ensures c.in_ok-into-in-None.ensures.into

pub invariant_of-result-clause-out_is : goal.invariant_of-result-clause-out_is
invariant_of-result-clause-out_is g c = filed_row (λ edge. edge.from) c.as_slice-in-None.result.now c.args.edges c.len-in-None.result (length c.args.jobs) c.in_ok-into-in-None.out.items c.as_slice-in-None.ensures.value c.len-in-None.ensures c.in_ok-into-in-None.ensures.out
