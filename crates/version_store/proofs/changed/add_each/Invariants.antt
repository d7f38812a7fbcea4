use Rattle.std.proofs.Common.{◌≡◌, ◌++◌}
use Rattle.version_store.proofs.changed.add_each.Given as goal

-- with those that are left, all
abbrev pub invariant-loop-id : goal.invariant-loop-id
invariant-loop-id l = l.ids.items ++ l.id-iterator ≡ l.fn.ids.items ++ l.more.keys
