use Rattle.std.proofs.Common.{◌≡◌, drop}
use Rattle.std.specs.List.{list_any}
use Rattle.version_assign.specs.Books.{lacks_one}
use Rattle.version_assign.proofs.book.lacks_any.Given as goal

-- none that was passed is lacking
abbrev pub invariant-loop-one : goal.invariant-loop-one
invariant-loop-one l = list_any (lacks_one l.opening.entries) (drop l.one-index l.assigned) ≡ list_any (lacks_one l.opening.entries) l.assigned
