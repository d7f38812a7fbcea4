use Rattle.std.proofs.Common.{◌≡◌, ◌++◌, map, take, drop}
use Rattle.version_assign.specs.Lines.{filled}
use Rattle.version_assign.proofs.lines.fill.Given as goal

-- the first ones are filled, the others stand as they stood
abbrev pub invariant-loop-i : goal.invariant-loop-i
invariant-loop-i l = l.assigned ≡ map (filled l.lines.entries) (take l.i l.initial.assigned) ++ drop l.i l.initial.assigned
