use Rattle.std.proofs.Common.{rules}
use Rattle.indexmap.proofs.CallerLemmas.{filter-RetainsPairs}
use Rattle.version_store.specs.Reverts.{version_stays}
use Rattle.version_store.proofs.revert.keep_versions.Goals as goal

pub returns : goal.returns
returns c = filter-RetainsPairs _ (version_stays c.args.kept.now.keys) _ (λ k v b w g call. search rules) _ _ c.retain.ensures.filtered
