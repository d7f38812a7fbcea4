use Rattle.std.proofs.Common.{◌≡◌, ◌-◌, ◌≤◌}
use Rattle.ptb_run.specs.Remains.{created_below}
use Rattle.ptb_run.proofs.remains.create_each.Given as goal

-- those below the number were gathered
abbrev pub invariant-loop-number : goal.invariant-loop-number
invariant-loop-number l = record {
  same : l.objects ≡ created_below l.site.tx l.site.version l.left.entries l.number;
  within : l.number ≤ l.made;
}

abbrev pub decreases-loop-number : goal.decreases-loop-number
decreases-loop-number l = l.made - l.number
