use Rattle.std.proofs.Common.{◌≡◌, ◌++◌, take}
use Rattle.std.specs.List.{flat_map}
use Rattle.inspect.specs.StateLines.{shown_line}
use Rattle.inspect.proofs.states.add_all_shown.Given as goal

abbrev pub invariant-loop-object : goal.invariant-loop-object
invariant-loop-object l = l.text ≡ l.fn.text ++ flat_map (shown_line l.names) (take l.object-index l.objects)
