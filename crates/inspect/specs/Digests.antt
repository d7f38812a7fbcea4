-- The digests that a run leaves, by the names of its schedule. Source: this profile.
use Rattle.std.specs.Prelude.{◌≡◌, ◌<◌, ℕ, List, [], ◌∷◌, ◌++◌, Some, None, codes, decimal}
use Rattle.std.specs.List.{flat_map}
use Rattle.hex.specs.Hex.{encode_lower}
use Rattle.digest_core.specs.declared.Digest.{Digest}
use Rattle.chain_types.specs.declared.objects.Object.{Object}
use Rattle.chain_types.specs.Digests.{digest_of_object}
use Rattle.checkpoint_core.specs.declared.checkpoints.Checkpoint.{Checkpoint}
use Rattle.checkpoint_core.specs.Checkpoints.{digest_of_checkpoint}
use Rattle.protocol_spec.specs.Member.Member.{Member, built, live_objects}
use Rattle.world_spec.specs.Names.{object_name, shown_order}
use Rattle.world_spec.specs.World.{Made}
use Rattle.world_spec.specs.Known.{Known, setting_with, world_with}
use Rattle.inspect.specs.Standing.{States}

-- ---- lines

-- the words, a digest in 64 hexadecimal digits in lower case, and the end of the line
abbrev pub with_digest : List ℕ → Digest → List ℕ
with_digest words d = words ++ codes " " ++ encode_lower d.0 ++ 10 ∷ []

-- `tx NAME HEX`
abbrev pub tx_line : Made → List ℕ
tx_line t = with_digest (codes "tx " ++ t.name) t.digest

-- `checkpoint N HEX`
abbrev pub checkpoint_line : Checkpoint → List ℕ
checkpoint_line c = with_digest (codes "checkpoint " ++ decimal c.number) (digest_of_checkpoint c)

-- `object NAME V HEX`
abbrev pub object_line : Known → Object → List ℕ
object_line k o = with_digest (codes "object " ++ object_name (setting_with k) (world_with k) o.id ++ codes " " ++ decimal o.version) (digest_of_object o)

-- ---- texts

-- the lines of the transactions, in the order of the `tx` lines that made them
abbrev pub txs_text : Known → List ℕ
txs_text k = flat_map tx_line k.txs

-- the lines of the checkpoints that a member has built, over all its epochs
abbrev pub checkpoints_text : Member → List ℕ
checkpoints_text m = flat_map checkpoint_line (built m)

-- the lines of a member's live objects, in the order in which a report shows them
abbrev pub objects_text : Known → Member → List ℕ
objects_text k m = flat_map (object_line k) (shown_order (setting_with k) (world_with k) (live_objects m))

abbrev pub member_text : Known → Member → List ℕ
member_text k m = checkpoints_text m ++ objects_text k m

-- ---- the answers of `digests`

-- the state of the lowest-numbered member that is honest and up
pub record IsLowest (states : States) (m : Member) : Type 0 where
  pub place : ℕ
  pub here : states place ≡ Some m
  pub first : (i : ℕ) → i < place → states i ≡ None

-- no member is honest and up
abbrev pub NoneStands : States → Type 0
NoneStands states = (i : ℕ) → states i ≡ None

-- the answer with a member: the lines of the transactions, then those of the lowest-numbered member that is honest and
-- up
pub record IsStanding (k : Known) (states : States) (status : ℕ) (text : List ℕ) : Type 0 where
  pub done : status ≡ 0
  pub member : Member
  pub lowest : IsLowest states member
  pub is : text ≡ txs_text k ++ member_text k member

-- the answer without a member: only the lines of the transactions, if no member is honest and up
pub record IsAlone (k : Known) (states : States) (status : ℕ) (text : List ℕ) : Type 0 where
  pub done : status ≡ 0
  pub none : NoneStands states
  pub is : text ≡ txs_text k

-- what `digests` says of what is known under names, and of the members as they stand
pub data SaysDigests (k : Known) (states : States) (status : ℕ) (text : List ℕ) : Type 0 where
  standing : IsStanding k states status text → SaysDigests k states status text
  alone : IsAlone k states status text → SaysDigests k states status text
