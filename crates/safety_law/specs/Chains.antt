-- The versions of an object in an epoch, in the order of the checkpoints.
use Rattle.std.specs.Prelude.{◌≡◌, ◌<◌, ℕ, List, [], ◌∷◌, ◌++◌, map, slice_get, Some}
use Rattle.std.specs.FinMap.{get}
use Rattle.chain_types.specs.declared.objects.ObjectKey.{ObjectKey}
use Rattle.chain_types.specs.declared.objects.Object.{Object}
use Rattle.chain_types.specs.Digests.{consumed_keys}
use Rattle.schedule_text.specs.declared.words.Event.{Event}
use Rattle.protocol_spec.specs.Chain.Words.{Has, Along}
use Rattle.protocol_spec.specs.Member.Admission.{Admitted}
use Rattle.protocol_spec.specs.Member.Sequential.{Objects, map_of, fold_all}
use Rattle.world_spec.specs.Setting.{Setting}
use Rattle.world_spec.specs.World.{Seat, member_in}
use Rattle.world_spec.specs.Run.{world_after}
use Rattle.world_spec.specs.Assumptions.{IsHonestRun}
use Rattle.block_law.specs.Orderly.{Step, gave, tx_of, AreApart}
use Rattle.safety_law.specs.Steps.{step_of}
use Rattle.safety_law.specs.Orderly.{IsExecutedFront}

-- what stands under each id after these steps
abbrev pub standing : List Object → List Step → Objects
standing opening before = (fold_all (map_of opening) (map tx_of before)).map

-- A step goes on from what stands: each of its objects is the one that stands under its id, what it writes has a greater
-- version and stands there from then on, and no step before it consumed a version that it consumes.
pub record IsLink (opening : List Object) (before : List Step) (x : Step) : Type 0 where
  pub reads : (o : Object) → Has x.inputs o → get (standing opening before) o.id ≡ Some o
  pub rises : (o p : Object) → Has x.inputs o → Has (gave x).objects p → o.version < p.version
  pub stands : (p : Object) → Has (gave x).objects p → get (standing opening (before ++ x ∷ [])) p.id ≡ Some p
  pub once : (y : Step) → Has before y → (key : ObjectKey) → Has (consumed_keys y.tx) key → Has (consumed_keys x.tx) key → ⊥

-- under the run assumptions the versions of each object form one chain: what a member executed of the transactions
-- that it admitted first, in whatever order, goes on link by link in the order of admission, which is that of the
-- checkpoints
abbrev pub VersionsAreChains : Type 0
VersionsAreChains = (s : Setting) (events : List Event) → IsHonestRun s events → AreApart s.opening
    → (m : ℕ) (seat : Seat) → slice_get (world_after s events).seats m ≡ Some seat
    → (front : List Admitted) → IsExecutedFront (member_in s seat) front
    → Along (IsLink (member_in s seat).opening) [] (map (step_of (member_in s seat)) front)
