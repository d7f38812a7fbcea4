use Rattle.std.proofs.Common.{◌≡◌, ◌∷◌, ◌++◌, take}
use Rattle.std.specs.List.{flat_map}
use Rattle.report_text.specs.Text.{origin_word}
use Rattle.report_text.proofs.pieces.print_origins.Given as goal

abbrev pub invariant-loop-origin : goal.invariant-loop-origin
invariant-loop-origin l = l.out ≡ l.fn.out ++ flat_map (λ o. 32 ∷ origin_word o) (take l.origin-index l.origins)
