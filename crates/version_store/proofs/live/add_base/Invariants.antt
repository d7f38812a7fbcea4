use Rattle.std.proofs.Common.{◌≡◌}
use Rattle.indexmap.specs.IndexMap.{values}
use Rattle.version_store.specs.Openings.{all_placed}
use Rattle.version_store.proofs.live.add_base.Given as goal

-- from here the loop gives what the whole loop gives
abbrev pub invariant-loop-object : goal.invariant-loop-object
invariant-loop-object l = all_placed l.opened.entries l.object-iterator ≡ all_placed l.fn.opened.entries (values l.base)
