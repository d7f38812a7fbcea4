-- Lists that go into a caller's buffers. Source: this profile.
use Rattle.std.specs.Prelude.{◌≡◌, ℕ, ◌||◌, nat_lt, List, ◌++◌, drop, length, Result, Ok, Err, if◌then◌else◌}
use Rattle.chain_types.specs.declared.objects.ObjectKey.{ObjectKey}
use Rattle.light_check.specs.declared.rivals.DoubleVote.{DoubleVote}
use Rattle.light_client.specs.declared.accepted.SealRow.{SealRow}
use Rattle.light_client.specs.declared.listing.Listing.{Listing}
use Rattle.kothaysu.specs.declared.answer.Answer.{Answer}
use Rattle.kothaysu.specs.declared.blaming.Version.{Version}
use Rattle.kothaysu.specs.Answers.{said}

-- a buffer after these items were written to its start
abbrev pub filled : {A : Type 0} → List A → List A → List A
filled buffer items = items ++ drop (length items) buffer

-- ---- listings

-- the answer for a listing, by the lengths of the two buffers: code 0 if both have room, else 14; in both cases with
-- the lengths that it needs
abbrev pub list_told : ℕ → ℕ → Listing → Answer
list_told rows statements l =
    if nat_lt rows (length l.rows) || nat_lt statements (length l.statements) then said 14 0 (length l.rows) (length l.statements)
    else said 0 0 (length l.rows) (length l.statements)

pub record Listed (old_rows new_rows : List SealRow) (old_statements new_statements : List ℕ) (l : Listing) : Type 0 where
  pub rows : new_rows ≡ filled old_rows l.rows
  pub statements : new_statements ≡ filled old_statements l.statements

abbrev pub told_list : ℕ → ℕ → Result Listing Answer → Answer
told_list rows statements (Ok l) = list_told rows statements l
told_list rows statements (Err why) = why

abbrev pub PutsList : List SealRow → List SealRow → List ℕ → List ℕ → Result Listing Answer → Type 0
PutsList rows rows' statements statements' (Ok l) = Listed rows rows' statements statements' l
PutsList rows rows' statements statements' (Err why) = ⊥

-- ---- members to blame

abbrev pub as_version : ObjectKey → Version
as_version k = record { id = record { bytes = k.id.0.0 }; version = k.version }

abbrev pub blame_told : ℕ → DoubleVote → Answer
blame_told room both = if nat_lt room (length both.members) then said 14 0 (length both.members) 0 else said 0 0 (length both.members) 0

pub record BlameListed (old_members new_members : List ℕ) (at : Version) (both : DoubleVote) : Type 0 where
  pub members : new_members ≡ filled old_members both.members
  pub version : at ≡ as_version both.key

abbrev pub told_blame : ℕ → Result DoubleVote Answer → Answer
told_blame room (Ok both) = blame_told room both
told_blame room (Err why) = why

abbrev pub PutsBlame : List ℕ → List ℕ → Version → Result DoubleVote Answer → Type 0
PutsBlame members members' version (Ok both) = BlameListed members members' version both
PutsBlame members members' version (Err why) = ⊥
