-- What no line of a run changes.
use Rattle.std.specs.Prelude.{◌≡◌, length}
use Rattle.world_spec.specs.Scene.{Scene}

-- the number of members, and the terms of their committee
pub record Stays (old new : Scene) : Type 0 where
  pub many : length new.posts ≡ length old.posts
  pub terms : new.terms ≡ old.terms
