use Rattle.std.proofs.Common.{◌≡◌, ◌++◌, drop, filter}
use Rattle.quorum_core.specs.Committee.{is_among}
use Rattle.light_check.proofs.rivals.among_both.Given as goal

-- those found so far, and those of the rest, are those of all
abbrev pub invariant-loop-other : goal.invariant-loop-other
invariant-loop-other l = l.both ++ filter (is_among l.members) (drop l.other-index l.others) ≡ filter (is_among l.members) l.others
