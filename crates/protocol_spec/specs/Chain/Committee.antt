-- Weights, quorums and lists of members, as `quorum_core` defines them.
pub use Rattle.quorum_core.specs.Committee.{weight_from, weight, is_quorum, is_among, all_known, is_roll}
unfoldable pub use Rattle.quorum_core.specs.Committee.{weight_of, total_of}
