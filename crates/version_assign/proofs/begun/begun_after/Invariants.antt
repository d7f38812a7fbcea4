use Rattle.std.proofs.Common.{◌≡◌, length, map}
use Rattle.version_assign.specs.Books.{object_in}
use Rattle.version_assign.specs.Lines.{begun_after}
use Rattle.version_assign.proofs.begun.begun_after.Given as goal

-- what is left, after those that are collected, makes up all
abbrev pub invariant-loop-left : goal.invariant-loop-left
invariant-loop-left l = begun_after (map object_in l.opening.entries) l.all.items l.left l.rest ≡ begun_after (map object_in l.opening.entries) l.fn.all.items l.inputs l.origins

abbrev pub decreases-loop-left : goal.decreases-loop-left
decreases-loop-left l = length l.left
