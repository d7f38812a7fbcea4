use Rattle.std.proofs.Common.{◌≡◌, drop}
use Rattle.std.specs.List.{list_any}
use Rattle.vote_desk.specs.Callers.{is_starved_call}
use Rattle.vote_desk.proofs.callers.any_lacks_memory.Given as goal

abbrev pub invariant-loop-entry : goal.invariant-loop-entry
invariant-loop-entry l = list_any is_starved_call (drop l.entry-index l.history) ≡ list_any is_starved_call l.history
