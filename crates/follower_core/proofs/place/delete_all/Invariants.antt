use Rattle.std.proofs.Common.{◌≡◌, drop}
use Rattle.follower_core.specs.Steps.{without_ids}
use Rattle.follower_core.proofs.place.delete_all.Given as goal

-- from here the loop gives what the whole loop gives
abbrev pub invariant-loop-id : goal.invariant-loop-id
invariant-loop-id l = record {
  kept : l.ledger.kept ≡ l.fn.ledger.kept;
  present : without_ids l.ledger.present (drop l.id-index l.ids) ≡ without_ids l.fn.ledger.present l.ids;
}
