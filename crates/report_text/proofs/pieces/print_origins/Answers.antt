use Rattle.std.proofs.Common.{◌≡◌, ◌<◌, ℕ, List, ◌∷◌, Option, length, get_or, subst, arith}
use Rattle.report_text.specs.Text.{origins_text, origin_word}
use Rattle.report_text.proofs.Appends.{writes_some}
use Rattle.report_text.proofs.pieces.print_origins.Goals as goal

pub returns-in_err-print_origin : goal.returns-in_err-print_origin
unfolding origins_text
returns-in_err-print_origin c =
    let within : c.loop-origin.origin-index < length c.args.origins.now = omega (arith, c.loop-origin-test.true, c.as_slice-origin-items.ensures.len) in
    let is = subst (λ (xs : List (Option (List ℕ))). c.origin-item.result ≡ get_or xs c.loop-origin.origin-index c.origin-item.result) c.as_slice-origin-items.ensures.value c.origin-item.is in
    writes_some _ c.from_residual.result (λ o. 32 ∷ origin_word o) c.args.origins.now c.loop-origin.origin-index c.origin-item.result c.args.out.now c.loop-origin.out c.print_origin.new.out c.from_residual.ensures.1 within is c.loop-origin.invariant c.in_err-print_origin.ensures
