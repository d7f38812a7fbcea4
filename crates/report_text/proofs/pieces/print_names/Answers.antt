use Rattle.std.proofs.Common.{◌≡◌, ◌<◌, ℕ, true, List, ◌∷◌, length, get_or, subst, arith}
use Rattle.wire_bcs.specs.Wrote.{is_part}
use Rattle.report_text.specs.Text.{names_text}
use Rattle.report_text.proofs.Appends.{writes_some}
use Rattle.report_text.proofs.pieces.print_names.Goals as goal

pub returns-in_err-print_name : goal.returns-in_err-print_name
unfolding names_text
returns-in_err-print_name c =
    let within : c.loop-name.name-index < length c.args.names.now = omega (arith, c.loop-name-test.true, c.as_slice-name-items.ensures.len) in
    let is = subst (λ (xs : List (List ℕ)). c.name-item.result ≡ get_or xs c.loop-name.name-index c.name-item.result) c.as_slice-name-items.ensures.value c.name-item.is in
    let refused = subst (λ (name : List ℕ). is_part c.loop-name.out c.print_name.new.out (32 ∷ name) ≡ true) c.as_slice.ensures.value c.in_err-print_name.ensures in
    writes_some _ c.from_residual.result (λ name. 32 ∷ name) c.args.names.now c.loop-name.name-index c.name-item.result c.args.out.now c.loop-name.out c.print_name.new.out c.from_residual.ensures.1 within is c.loop-name.invariant refused
