use Rattle.std.proofs.Common.{◌≡◌}
use Rattle.indexmap.specs.IndexMap.{keys}
use Rattle.version_store.specs.Live.{all_live}
use Rattle.version_store.proofs.live.add_live_under.Given as goal

-- from here the loop gives what the whole loop gives
abbrev pub invariant-loop-id : goal.invariant-loop-id
invariant-loop-id l = all_live l.store l.live.entries l.id-iterator ≡ all_live l.store l.fn.live.entries (keys l.base)
