use Rattle.std.proofs.Common.{◌≡◌}
use Rattle.indexmap.specs.IndexMap.{values}
use Rattle.version_store.specs.Openings.{all_opened}
use Rattle.version_store.proofs.live.add_opened_among.Given as goal

-- from here the loop gives what the whole loop gives
abbrev pub invariant-loop-kept : goal.invariant-loop-kept
invariant-loop-kept l = all_opened l.opened.entries l.kept-iterator ≡ all_opened l.fn.opened.entries (values l.versions)
