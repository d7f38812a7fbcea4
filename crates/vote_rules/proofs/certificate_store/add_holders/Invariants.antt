use Rattle.std.proofs.Common.{◌≡◌, ◌+◌, ◌≤◌, length, drop}
use Rattle.indexmap.specs.IndexMap.{spare}
use Rattle.vote_rules.specs.Holders.{with_holders}
use Rattle.vote_rules.proofs.certificate_store.add_holders.Given as goal

-- there is room for what is left, and adding it gives what adding all gives
abbrev pub invariant-loop-key : goal.invariant-loop-key
invariant-loop-key l = record {
  room : length l.keys ≤ spare l.holders + l.key-index;
  same : with_holders l.tx l.holders.entries (drop l.key-index l.keys) ≡ with_holders l.tx l.fn.holders.entries l.keys;
}
