-- The version at which a transaction writes.
use Rattle.std.specs.Prelude.{◌≡◌, [], ◌∷◌}
use Rattle.chain_types.specs.Digests.{lamport_version}

pub record VersionsAreClocks : Type 0 where
  pub of_three : lamport_version (3 ∷ 5 ∷ 9 ∷ []) ≡ 10
  pub of_one : lamport_version (1 ∷ []) ≡ 2
  pub of_the_last : lamport_version (4611686018427387902 ∷ []) ≡ 4611686018427387903
