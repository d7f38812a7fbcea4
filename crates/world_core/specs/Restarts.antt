-- What a restart leaves, and the line that it gives. Source: this profile.
use Rattle.std.specs.Prelude.{◌≡◌, ℕ, Bool, List, [], ◌∷◌, Option, Some, None, Result, Ok, Err, length, slice_get}
use Rattle.digest_core.specs.declared.Digest.{Digest}
use Rattle.quorum_core.specs.declared.signer.Signer.{Signer}
use Rattle.outside.specs.Lists.{Journals}
use Rattle.schedule_text.specs.declared.words.Event.{Event}
use Rattle.report_text.specs.declared.lines.Line.{Line}
use Rattle.report_text.specs.declared.lines.Line.TheVariants as line
use Rattle.report_text.specs.declared.lines.RestartText.TheVariants as restart_text
use Rattle.protocol_spec.specs.Member.Member.{Member}
use Rattle.world_spec.specs.Moves.{Move, starts_again, move_of}
use Rattle.world_spec.specs.Starts.{started}
use Rattle.world_spec.specs.Posts.{Post, started_at}
use Rattle.world_spec.specs.Scene.{Scene, rules_in}
use Rattle.world_core.specs.SeatRestarts.{HasBadRecord, IsJournal}
use Rattle.world_core.specs.declared.world.WorldFault.{WorldFault}
use Rattle.world_core.specs.declared.world.WorldFault.TheVariants as fault

abbrev pub Accepting : Type 0
Accepting = Signer → List ℕ → Digest → Bool

-- a restart that succeeds: the member starts from its records in a new epoch 0, and the line says how many records
-- these are
pub record ComesBack (accepts : Accepting) (told : Option Journals) (m : ℕ) (old new : Scene) (lines : List Line) : Type 0 where
  pub kept : List (List ℕ)
  pub state : Member
  pub is : IsJournal told m kept
  pub starts : started (rules_in accepts old) old.opening kept ≡ Ok state
  pub scene : new ≡ record old { posts = started_at old.terms old.posts m state }
  pub says : lines ≡ line.Restart m (restart_text.Records (length kept)) ∷ []

-- a restart of a member that is not there: nothing changes, and the line says 0 records
pub record NoneComesBack (m : ℕ) (old new : Scene) (lines : List Line) : Type 0 where
  pub scene : new ≡ old
  pub says : lines ≡ line.Restart m (restart_text.Records 0) ∷ []

-- a restart that fails at a bad record: the fault names the member and the place of the first record from which it
-- does not start
pub record StaysDown (accepts : Accepting) (told : Option Journals) (m : ℕ) (old : Scene) (member place : ℕ) : Type 0 where
  pub who : member ≡ m
  pub bad : HasBadRecord (rules_in accepts old) old.opening told m place

abbrev pub RestartsAs : Accepting → Option Journals → ℕ → Scene → Scene → Option Post → Result (List Line) WorldFault → Type 0
RestartsAs accepts told m old new (Some p) (Ok lines) = ComesBack accepts told m old new lines
RestartsAs accepts told m old new None (Ok lines) = NoneComesBack m old new lines
RestartsAs accepts told m old new p (Err (fault.BadRecord member place)) = StaysDown accepts told m old member place
RestartsAs accepts told m old new p (Err fault.KeepFault) = Unit {0}
RestartsAs accepts told m old new p (Err fault.OutOfMemory) = Unit {0}

-- what a step promises of a start, and nothing of any other move
abbrev pub MayStart : Accepting → Option Journals → Scene → Scene → Move → Result (List Line) WorldFault → Type 0
MayStart accepts told old new (starts_again m) result = RestartsAs accepts told m old new (slice_get old.posts m) result
MayStart accepts told old new mv result = Unit {0}

-- what a step promises of a `restart` line, and nothing of any other line
abbrev pub MayRestart : Accepting → Option Journals → Scene → Scene → Event → Result (List Line) WorldFault → Type 0
MayRestart accepts told old new e result = MayStart accepts told old new (move_of e) result
