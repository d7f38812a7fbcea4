use Rattle.std.proofs.Common.{◌≡◌, [], drop}
use Rattle.version_store.specs.Bases.{front_entries}
use Rattle.version_store.proofs.base.front_of.Given as goal

-- from here the loop gives what the whole loop gives
abbrev pub invariant-loop-object : goal.invariant-loop-object
invariant-loop-object l = front_entries l.front.entries (drop l.object-index l.objects) ≡ front_entries [] l.objects
