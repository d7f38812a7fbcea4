-- What the program promises of each command: a relation between what source, sink and keeper show and count before and
-- after it, and the status.
use Rattle.std.specs.Prelude.{◌≡◌, ◌⊎◌, ℕ, List, Option, Some, None}
use Rattle.std.specs.Io.KnownBytes.{Keeps}
use Rattle.digest_core.specs.declared.Digest.{Digest}
use Rattle.outside.specs.Causes.{Rose}
use Rattle.outside.specs.Lists.{Journals, KeepsJournals}
use Rattle.command_words.specs.declared.words.Command.{Command}
use Rattle.command_words.specs.declared.words.Command.TheVariants as command
use Rattle.light_check.specs.Said.{IsCheckCut, Says, SaysCertified, SaysRefused}
use Rattle.committee_core.specs.Desk.{DeskEnds}
use Rattle.committee_core.specs.Follow.{FollowEnds}
use Rattle.committee_core.specs.Headline.{IsBad, IsCut, IsRefused, IsWhole, program_trust}
use Rattle.committee_core.specs.Journals.{AreEmpty}
use Rattle.committee_core.specs.Make.{MakeEnds}
use Rattle.committee_core.specs.Outside.{Outside}
use Rattle.committee_core.specs.Replay.{ReplayEnds}

-- how `run` may end, by its status
pub record RunEnds (before now : Outside) (status : ℕ) : Type 0 where
  pub known : (status ≡ 0) ⊎ (status ≡ 3) ⊎ (status ≡ 4) ⊎ (status ≡ 5) ⊎ (status ≡ 6) ⊎ (status ≡ 7)
  pub whole : status ≡ 0 → IsWhole before.left now.left before.held now.held before.kept now.kept
  pub steady : status ≡ 0 → Rose before.keep_faults now.keep_faults → ⊥
  pub refused : status ≡ 3 → IsRefused before.left now.left before.held now.held before.kept now.kept
  pub read_fault : status ≡ 4 → Rose before.read_faults now.read_faults
  pub unwritten : status ≡ 4 → Keeps before.held now.held × KeepsJournals before.kept now.kept
  pub write_fault : status ≡ 5 → Rose before.write_faults now.write_faults
  pub keep_fault : status ≡ 6 → (Rose before.keep_faults now.keep_faults × IsCut before.left now.left before.held now.held before.kept now.kept) ⊎ IsBad before.left now.left before.held now.held before.kept
  pub cut : (status ≡ 5) ⊎ (status ≡ 7) → IsCut before.left now.left before.held now.held before.kept now.kept

-- how `check` may end for a committee of these stakes and this transaction, by its status; the keeper stays as it was
pub record CheckEnds (stakes : List ℕ) (tx : Digest) (before now : Outside) (status : ℕ) : Type 0 where
  pub known : (status ≡ 0) ⊎ (status ≡ 4) ⊎ (status ≡ 5) ⊎ (status ≡ 7) ⊎ (status ≡ 8)
  pub said : (status ≡ 0) ⊎ (status ≡ 8) → Says stakes program_trust.accepts tx before.left now.left before.held now.held status
  pub certified : status ≡ 0 → SaysCertified stakes program_trust.accepts tx before.left now.left before.held now.held
  pub refused : status ≡ 8 → SaysRefused stakes program_trust.accepts tx before.left now.left before.held now.held
  pub read_fault : status ≡ 4 → Rose before.read_faults now.read_faults
  pub unwritten : status ≡ 4 → Keeps before.held now.held
  pub write_fault : status ≡ 5 → Rose before.write_faults now.write_faults
  pub cut : (status ≡ 5) ⊎ (status ≡ 7) → IsCheckCut stakes program_trust.accepts tx before.left now.left before.held now.held
  pub kept : now.kept ≡ before.kept

-- words that are not a command: nothing is read, written, kept or counted
pub record IsUnused (before now : Outside) (status : ℕ) : Type 0 where
  pub two : status ≡ 2
  pub same : now ≡ before

-- how the program ends, by the command that its words are
abbrev pub Ends : Option Command → Outside → Outside → ℕ → Type 0
Ends None before now status = IsUnused before now status
Ends (Some command.Run) before now status = RunEnds before now status
Ends (Some (command.Make number)) before now status = MakeEnds number before now status
Ends (Some (command.Check stakes tx)) before now status = CheckEnds stakes tx before now status
Ends (Some (command.Follow member)) before now status = FollowEnds member before now status
Ends (Some (command.Desk callers)) before now status = DeskEnds callers before now status
Ends (Some (command.Replay member)) before now status = ReplayEnds member before now status

-- before a command that runs events, a keeper that shows its lists has no records
abbrev pub BeginsEmpty : Option Command → Option Journals → Type 0
BeginsEmpty None kept = Unit {0}
BeginsEmpty (Some command.Run) kept = AreEmpty kept
BeginsEmpty (Some (command.Make number)) kept = AreEmpty kept
BeginsEmpty (Some (command.Check stakes tx)) kept = Unit {0}
BeginsEmpty (Some (command.Follow member)) kept = AreEmpty kept
BeginsEmpty (Some (command.Desk callers)) kept = Unit {0}
BeginsEmpty (Some (command.Replay member)) kept = Unit {0}
