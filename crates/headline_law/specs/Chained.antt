-- The versions of each object in an epoch: one chain, whatever members executed and in whatever order, also before they
-- saw it in the sequence. Source: Sui Lutris (an owned version is consumed once, shared ones are written in the order
-- of admission).
use Rattle.std.specs.Prelude.{◌≡◌, ◌<◌, ◌≤◌, ℕ, true, List, ◌++◌, zip, slice_get, Some}
use Rattle.chain_types.specs.declared.objects.Object.{Object}
use Rattle.chain_types.specs.declared.transactions.Input.{Input}
use Rattle.protocol_spec.specs.declared.answers.Held.{Held}
use Rattle.schedule_text.specs.declared.words.Event.{Event}
use Rattle.protocol_spec.specs.Chain.Words.{Has}
use Rattle.protocol_spec.specs.Chain.Keys.{object_key, objects_of}
use Rattle.protocol_spec.specs.Block.Execution.{is_written}
use Rattle.protocol_spec.specs.Member.Versions.{Version, versions}
use Rattle.protocol_spec.specs.Member.Rounds.{present, executes_as}
use Rattle.protocol_spec.specs.Member.Member.{Member, books}
use Rattle.world_spec.specs.Setting.{Setting}
use Rattle.world_spec.specs.World.{Seat, member_in}
use Rattle.world_spec.specs.Run.{world_after}
use Rattle.world_spec.specs.Assumptions.{IsHonestRun}
use Rattle.block_law.specs.Orderly.{Step, gave, AreApart}

-- the object is one that the transaction may write: an owned one, which it consumes, or a mutable shared one
abbrev pub MayWrite : Step → Object → Type 0
MayWrite x o = (i : Input) × Has (zip (objects_of x.tx) x.inputs) (i, o) × (is_written i ≡ true)

-- the member executed the transaction of a certificate that it holds, on the objects that it wants
pub record IsExecutedAs (m : Member) (x : Step) : Type 0 where
  pub of : Held
  pub is_held : Has m.held of
  pub tx : of.cert.tx ≡ x.tx
  pub there : present (books m) m.executed of ≡ Some x.inputs
  pub executed : Has m.executed (executes_as of (gave x))

abbrev pub Holds : Member → Version → Type 0
Holds m v = Has (versions m.opening m.executed) v

-- The member holds the lower version too, and executed the transaction that took it and wrote the next one of the id,
-- which is not above the higher version.
pub record IsPassedOn (m : Member) (lower higher : Version) : Type 0 where
  pub held : Holds m lower
  pub by : Step
  pub executed : IsExecutedAs m by
  pub took : MayWrite by lower.object
  pub next : Object
  pub wrote : Has (gave by).objects next
  pub id_is : next.id ≡ lower.object.id
  pub above : lower.object.version < next.version
  pub low : next.version ≤ higher.object.version

-- Of what two members hold: one version has each key; of two versions of one id the lower one was passed on; and each
-- version was taken by one transaction at most.
pub record AreOneChain (p q : Member) : Type 0 where
  pub one : (u v : Version) → Holds p u → Holds q v → object_key u.object ≡ object_key v.object → u ≡ v
  pub lower : (u v : Version) → Holds p u → Holds q v → u.object.id ≡ v.object.id → u.object.version < v.object.version → IsPassedOn q u v
  pub higher : (u v : Version) → Holds p u → Holds q v → u.object.id ≡ v.object.id → v.object.version < u.object.version → IsPassedOn p v u
  pub taker : (x y : Step) → IsExecutedAs p x → IsExecutedAs q y → (o : Object) → MayWrite x o → MayWrite y o → x.tx ≡ y.tx

-- under the run assumptions, the versions that two members of one epoch hold, at any two moments of the run, are one
-- chain; the members, and the moments, may be the same
abbrev pub VersionsAreOneChain : Type 0
VersionsAreOneChain = (s : Setting) (front back : List Event) → IsHonestRun s (front ++ back) → AreApart s.opening
    → (m n : ℕ) (a b : Seat) → slice_get (world_after s front).seats m ≡ Some a → slice_get (world_after s (front ++ back)).seats n ≡ Some b
    → (member_in s a).epoch ≡ (member_in s b).epoch → AreOneChain (member_in s a) (member_in s b)
