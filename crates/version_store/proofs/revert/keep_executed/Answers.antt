use Rattle.std.proofs.Common.{rules}
use Rattle.indexmap.proofs.CallerLemmas.{filter-RetainsPairs}
use Rattle.version_store.specs.Reverts.{ran_stays}
use Rattle.version_store.proofs.revert.keep_executed.Goals as goal

pub returns : goal.returns
returns c = filter-RetainsPairs _ (ran_stays c.args.kept.now.keys) _ (λ k v b w g call. search rules) _ _ c.retain.ensures.filtered
