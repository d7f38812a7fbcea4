-- What a certified chain says of the checkpoints of honest members. Source: Sui Lutris (an honest member is in each
-- quorum, and honest members build one list of checkpoints).
use Rattle.std.specs.Prelude.{◌≡◌, ℕ, true, List, slice_get, Some}
use Rattle.chain_messages.specs.declared.messages.MemberSeal.{MemberSeal}
use Rattle.checkpoint_core.specs.declared.checkpoints.Checkpoint.{Checkpoint}
use Rattle.checkpoint_core.specs.Checkpoints.{digest_of_checkpoint}
use Rattle.schedule_text.specs.declared.words.Event.{Event}
use Rattle.schedule_text.specs.declared.words.Setup.{Setup}
use Rattle.protocol_spec.specs.Chain.Words.{Each, Has}
use Rattle.protocol_spec.specs.Member.Member.{built}
use Rattle.world_spec.specs.Setting.{Setting, Trust, setting_of}
use Rattle.world_spec.specs.World.{Seat, World, checkpoint_statement, member_in}
use Rattle.world_spec.specs.Run.{world_after}
use Rattle.world_spec.specs.Assumptions.{FewFaulty, IsHonestRun, IsStated}
use Rattle.block_law.specs.Orderly.{AreApart}
use Rattle.light_check.specs.declared.chain.Link.{Link}
use Rattle.light_check.specs.Certified.{IsCertified}

-- each accepted seal of an honest member is over a statement that it made
abbrev pub IsUnforgedLink : Setting → World → Link → Type 0
IsUnforgedLink s w l = Each (λ (x : MemberSeal). IsStated s w x.member (checkpoint_statement l.checkpoint) x.seal) l.seals

abbrev pub AreUnforged : Setting → World → List Link → Type 0
AreUnforged s w links = Each (IsUnforgedLink s w) links

-- an honest member has built the checkpoint
pub record IsBuiltIn (s : Setting) (w : World) (c : Checkpoint) : Type 0 where
  pub member : ℕ
  pub seat : Seat
  pub at : slice_get w.seats member ≡ Some seat
  pub honest : seat.honest ≡ true
  pub among : Has (built (member_in s seat)) c

-- a checkpoint of the chain and one that an honest member has built have different digests, if they are different
abbrev pub CheckpointsApart : Setting → World → List Link → Type 0
CheckpointsApart s w links = (l : Link) → Has links l → (c : Checkpoint) → IsBuiltIn s w c → digest_of_checkpoint c ≡ digest_of_checkpoint l.checkpoint → c ≡ l.checkpoint

-- what is assumed of a chain beside the run that it is held to
pub record IsHonestChain (s : Setting) (w : World) (links : List Link) : Type 0 where
  pub no_forgery : AreUnforged s w links
  pub checkpoints : CheckpointsApart s w links

-- each checkpoint of a certified chain is one that an honest member has built, if under a third of the stake is faulty
abbrev pub CertifiedIsBuilt : Type 0
CertifiedIsBuilt = (s : Setting) (events : List Event) → FewFaulty s
    → (links : List Link) → IsCertified s.rules.stakes s.rules.accepts links → IsHonestChain s (world_after s events) links
    → (l : Link) → Has links l → IsBuiltIn s (world_after s events) l.checkpoint

-- what a member has built at this place is the checkpoint of the link there
abbrev pub AgreesWith : Setting → World → List Link → Type 0
AgreesWith s w links = (place : ℕ) (l : Link) → slice_get links place ≡ Some l → (m : ℕ) (seat : Seat) → slice_get w.seats m ≡ Some seat
    → (c : Checkpoint) → slice_get (built (member_in s seat)) place ≡ Some c → c ≡ l.checkpoint

-- under the run assumptions a certified chain never differs from what a member has built
abbrev pub CertifiedAgrees : Type 0
CertifiedAgrees = (s : Setting) (events : List Event) → IsHonestRun s events → AreApart s.opening
    → (links : List Link) → IsCertified s.rules.stakes s.rules.accepts links → IsHonestChain s (world_after s events) links
    → AgreesWith s (world_after s events) links

-- `CertifiedAgrees` for every run of every schedule: its set-up always opens with objects of different ids
abbrev pub CertifiedAgreesInSchedules : Type 0
CertifiedAgreesInSchedules = (trust : Trust) (lines : List Setup) (events : List Event) → IsHonestRun (setting_of trust lines) events
    → (links : List Link) → IsCertified (setting_of trust lines).rules.stakes (setting_of trust lines).rules.accepts links → IsHonestChain (setting_of trust lines) (world_after (setting_of trust lines) events) links
    → AgreesWith (setting_of trust lines) (world_after (setting_of trust lines) events) links
