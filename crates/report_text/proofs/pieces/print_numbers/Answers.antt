use Rattle.std.proofs.Common.{◌≡◌, ◌<◌, ℕ, true, List, ◌∷◌, length, get_or, decimal, subst, arith}
use Rattle.std.proofs.lemmas.List.{get_or_default}
use Rattle.wire_bcs.specs.Wrote.{is_part}
use Rattle.report_text.specs.Text.{numbers_text}
use Rattle.report_text.proofs.Appends.{writes_some}
use Rattle.report_text.proofs.pieces.print_numbers.Goals as goal

pub returns-in_err-print_spaced_number : goal.returns-in_err-print_spaced_number
unfolding numbers_text
returns-in_err-print_spaced_number c =
    let at = c.loop-number.number-index in
    let within : at < length c.args.numbers.now = omega (arith, c.loop-number-test.true, c.as_slice-number-items.ensures.len) in
    let number = get_or c.args.numbers.now at 0 in
    let refused = subst (λ (xs : List ℕ). is_part c.loop-number.out c.print_spaced_number.new.out (32 ∷ decimal (get_or xs at 0)) ≡ true) c.as_slice-number-items.ensures.value c.in_err-print_spaced_number.ensures in
    writes_some _ c.from_residual.result (λ n. 32 ∷ decimal n) c.args.numbers.now at number c.args.out.now c.loop-number.out c.print_spaced_number.new.out c.from_residual.ensures.1 within (get_or_default c.args.numbers.now at 0 number within) c.loop-number.invariant refused
