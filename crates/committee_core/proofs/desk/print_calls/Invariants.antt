use Rattle.std.proofs.Common.{◌≡◌, ◌++◌, take}
use Rattle.std.specs.List.{flat_map}
use Rattle.committee_core.specs.Desk.{call_line_by, call_text}
use Rattle.committee_core.proofs.desk.print_calls.Given as goal

abbrev pub invariant-loop-call : goal.invariant-loop-call
invariant-loop-call l = l.text ≡ l.fn.text ++ flat_map (λ e. call_text (call_line_by l.world.known e)) (take l.call-index l.calls)
