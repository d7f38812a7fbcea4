use Rattle.std.proofs.Common.{◌≡◌, drop}
use Rattle.follower_core.specs.Steps.{with_objects}
use Rattle.follower_core.proofs.place.put_all.Given as goal

-- from here the loop gives what the whole loop gives
abbrev pub invariant-loop-object : goal.invariant-loop-object
invariant-loop-object l = record {
  kept : l.ledger.kept ≡ l.fn.ledger.kept;
  present : with_objects l.ledger.present (drop l.object-index l.objects) ≡ with_objects l.fn.ledger.present l.objects;
}
