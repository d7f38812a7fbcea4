-- Whether a chain differs from what honest members have built. Source: this profile.
use Rattle.std.specs.Prelude.{◌≡◌, ◌<◌, ℕ, List, slice_get, Some}
use Rattle.checkpoint_core.specs.declared.checkpoints.Checkpoint.{Checkpoint}
use Rattle.light_check.specs.declared.chain.Link.{Link}
use Rattle.light_check.specs.declared.chain.ChainRefusal.TheVariants as refused
use Rattle.light_check.specs.Certified.{Accepting, IsCertified}
use Rattle.light_check.specs.Causes.{first_bad}
use Rattle.world_spec.specs.Posts.{Post}
use Rattle.world_core.specs.Looks.{checkpoint_at}
use Rattle.committee_core.specs.declared.agreement.Agreement.{Agreement}
use Rattle.committee_core.specs.declared.agreement.Agreement.TheVariants as agreement

-- an honest member that is up has built a checkpoint with the number of this place that differs from the link's
abbrev pub Differs : List Post → ℕ → Link → ℕ → Type 0
Differs posts place l m = (c : Checkpoint) × (checkpoint_at (slice_get posts m) place ≡ Some c) × (c ≡ l.checkpoint → ⊥)

-- no member has built a checkpoint that differs from the link's at this place, if there is a link there
abbrev pub NoneDiffers : List Post → List Link → ℕ → Type 0
NoneDiffers posts links place = (l : Link) → slice_get links place ≡ Some l → (m : ℕ) → Differs posts place l m → ⊥

-- this is the lowest member that has built a checkpoint that differs from the link's at this place
pub record IsLowest (posts : List Post) (links : List Link) (place member : ℕ) : Type 0 where
  pub link : Link
  pub there : slice_get links place ≡ Some link
  pub differs : Differs posts place link member
  pub lowest : (m : ℕ) → m < member → Differs posts place link m → ⊥

-- the first link at which a member differs, and the lowest such member
pub record IsFirstDifference (posts : List Post) (links : List Link) (place member : ℕ) : Type 0 where
  pub here : IsLowest posts links place member
  pub first : (p : ℕ) → p < place → NoneDiffers posts links p

abbrev pub AllAgree : List Post → List Link → Type 0
AllAgree posts links = (place : ℕ) → NoneDiffers posts links place

-- what each answer of `agrees` means: the chain is not certified (`Refused`), or it is, and no member differs from it
-- (`Agrees`), or this is the first link with a member that does (`Differs`)
abbrev pub IsAnswered : List ℕ → Accepting → List Post → List Link → Agreement → Type 0
IsAnswered stakes accepts posts links (agreement.Refused (refused.Bad place cause)) = first_bad stakes accepts links ≡ Some (place, cause)
IsAnswered stakes accepts posts links (agreement.Refused refused.OutOfMemory) = ⊥
IsAnswered stakes accepts posts links agreement.Agrees = IsCertified stakes accepts links × AllAgree posts links
IsAnswered stakes accepts posts links (agreement.Differs place member) = IsCertified stakes accepts links × IsFirstDifference posts links place member
