use Rattle.std.proofs.Common.{◌≡◌, drop}
use Rattle.std.specs.List.{list_all}
use Rattle.committee_core.specs.Desk.{is_tx}
use Rattle.committee_core.proofs.desk.only_tx.Given as goal

abbrev pub invariant-loop-event : goal.invariant-loop-event
invariant-loop-event l = list_all is_tx (drop l.event-index l.events) ≡ list_all is_tx l.events
