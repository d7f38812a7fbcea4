use Rattle.std.proofs.Common.{◌≡◌, map}
use Rattle.indexmap.specs.IndexMap.{values}
use Rattle.version_store.specs.Live.{all_live, kept_id}
use Rattle.version_store.proofs.live.add_live_among.Given as goal

-- from here the loop gives what the whole loop gives
abbrev pub invariant-loop-kept : goal.invariant-loop-kept
invariant-loop-kept l = all_live l.store l.live.entries (map kept_id l.kept-iterator) ≡ all_live l.store l.fn.live.entries (map kept_id (values l.versions))
