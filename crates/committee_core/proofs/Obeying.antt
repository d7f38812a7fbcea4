-- How the program ends, by the command that its words are.
use Rattle.std.proofs.Common.{◌≡◌, ◌⊎◌, inl, inr, ℕ, List, Option, Some, None, refl, arith}
use Rattle.std.proofs.KnownBytes.{Keeps-refl}
use Rattle.outside.specs.Lists.{Journals}
use Rattle.run_law.specs.TextLaws.{GeneratedTextIsASchedule}
use Rattle.command_words.specs.declared.words.Command.{Command}
use Rattle.command_words.specs.declared.words.Command.TheVariants as command
use Rattle.digest_core.specs.declared.Digest.{Digest}
use Rattle.committee_core.specs.Endings.{BeginsEmpty, CheckEnds, Ends, RunEnds}
use Rattle.committee_core.specs.Desk.{DeskEnds}
use Rattle.committee_core.specs.Follow.{FollowEnds}
use Rattle.committee_core.specs.Journals.{AreEmpty}
use Rattle.committee_core.specs.Make.{MakeEnds}
use Rattle.committee_core.specs.Outside.{Outside}
use Rattle.committee_core.specs.Replay.{ReplayEnds}
use Rattle.command_words.specs.Words.{IsInRange}
use Rattle.committee_core.proofs.Made.{kept_none, made_cut}
use Rattle.validator_core.proofs.Settling.{keeps_same}

-- words that are not a command
pub unused : (c : Option Command) (o : Outside) → c ≡ None → Ends c o o 2
unused None o is = record { two = refl; same = refl }
unused (Some c) o is = absurd (cc)

pub obeyed : (words : Option Command) (c : Command) (before now : Outside) (status : ℕ) → words ≡ Some c → Ends (Some c) before now status → Ends words before now status
obeyed words c before now status is ends = rw is ends

check_other : (n : ℕ) → n ≡ 7 → (n ≡ 0) ⊎ (n ≡ 8) → ⊥
check_other n seven (inl is) = omega (arith, seven, is)
check_other n seven (inr is) = omega (arith, seven, is)

replay_other : (n : ℕ) → n ≡ 7 → (n ≡ 0) ⊎ (n ≡ 3) ⊎ (n ≡ 8) → ⊥
replay_other n seven (inl is) = omega (arith, seven, is)
replay_other n seven (inr (inl is)) = omega (arith, seven, is)
replay_other n seven (inr (inr is)) = omega (arith, seven, is)

-- running out of memory before anything was done
starved-run : (o : Outside) → RunEnds o o 7
starved-run o = record {
  known = inr (inr (inr (inr (inr refl))));
  whole = λ is. absurd (omega (arith, is));
  steady = λ is rose. omega (arith, is);
  refused = λ is. absurd (omega (arith, is));
  read_fault = λ is. absurd (omega (arith, is));
  unwritten = λ is. absurd (omega (arith, is));
  write_fault = λ is. absurd (omega (arith, is));
  keep_fault = λ is. absurd (omega (arith, is));
  cut = λ is. inl (Keeps-refl o.held, keeps_same o.kept);
}

starved-make : GeneratedTextIsASchedule → (number : ℕ) → IsInRange (command.Make number) → (o : Outside) → AreEmpty o.kept → MakeEnds number o o 7
starved-make law number range o empty = record {
  known = inr (inr (inr refl));
  unread = (refl, refl);
  whole = λ is. absurd (omega (arith, is));
  steady = λ is rose. omega (arith, is);
  write_fault = λ is. absurd (omega (arith, is));
  keep_fault = λ is. absurd (omega (arith, is));
  cut = λ is. made_cut number o.held o.kept o.kept (kept_none law number range.1 o.kept empty);
}

starved-check : (stakes : List ℕ) (tx : Digest) (o : Outside) → CheckEnds stakes tx o o 7
starved-check stakes tx o = record {
  known = inr (inr (inr (inl refl)));
  said = λ is. absurd (check_other 7 refl is);
  certified = λ is. absurd (omega (arith, is));
  refused = λ is. absurd (omega (arith, is));
  read_fault = λ is. absurd (omega (arith, is));
  unwritten = λ is. absurd (omega (arith, is));
  write_fault = λ is. absurd (omega (arith, is));
  cut = λ is. inl (Keeps-refl o.held);
  kept = refl;
}

starved-replay : (member : ℕ) (o : Outside) → ReplayEnds member o o 7
starved-replay member o = record {
  known = inr (inr (inr (inr (inr (inl refl)))));
  stays = keeps_same o.kept;
  whole = λ is. absurd (replay_other 7 refl is);
  read_fault = λ is. absurd (omega (arith, is));
  unwritten = λ is. absurd (omega (arith, is));
  write_fault = λ is. absurd (omega (arith, is));
  bad = λ is. absurd (omega (arith, is));
  cut = λ is. inl (Keeps-refl o.held);
}

follow_other : (n : ℕ) → n ≡ 7 → (n ≡ 0) ⊎ (n ≡ 8) → ⊥
follow_other n seven (inl is) = omega (arith, seven, is)
follow_other n seven (inr is) = omega (arith, seven, is)

unwritten_other : (n : ℕ) → n ≡ 7 → (n ≡ 4) ⊎ (n ≡ 6) → ⊥
unwritten_other n seven (inl is) = omega (arith, seven, is)
unwritten_other n seven (inr is) = omega (arith, seven, is)

starved-follow : (member : ℕ) (o : Outside) → FollowEnds member o o 7
starved-follow member o = record {
  known = inr (inr (inr (inr (inr (inl refl)))));
  whole = λ is. absurd (follow_other 7 refl is);
  steady = λ is rose. follow_other 7 refl is;
  refused = λ is. absurd (omega (arith, is));
  read_fault = λ is. absurd (omega (arith, is));
  unwritten = λ is. absurd (unwritten_other 7 refl is);
  write_fault = λ is. absurd (omega (arith, is));
  keep_fault = λ is. absurd (omega (arith, is));
  cut = λ is. inl (Keeps-refl o.held, keeps_same o.kept);
}

starved-desk : (callers : ℕ) (o : Outside) → DeskEnds callers o o 7
starved-desk callers o = record {
  known = inr (inr (inr (inr (inl refl))));
  whole = λ is. absurd (replay_other 7 refl is);
  read_fault = λ is. absurd (omega (arith, is));
  unwritten = λ is. absurd (omega (arith, is));
  write_fault = λ is. absurd (omega (arith, is));
  cut = λ is. inl (Keeps-refl o.held);
  kept = refl;
}

pub starved : GeneratedTextIsASchedule → (c : Command) → IsInRange c → (o : Outside) → BeginsEmpty (Some c) o.kept → Ends (Some c) o o 7
starved law command.Run range o empty = starved-run o
starved law (command.Make number) range o empty = starved-make law number range o empty
starved law (command.Check stakes tx) range o empty = starved-check stakes tx o
starved law (command.Follow member) range o empty = starved-follow member o
starved law (command.Desk callers) range o empty = starved-desk callers o
starved law (command.Replay member) range o empty = starved-replay member o

-- if observable lists have no record, a command may begin
pub begins_empty : (c : Option Command) (told : Option Journals) → AreEmpty told → BeginsEmpty c told
begins_empty None told empty = tt
begins_empty (Some command.Run) told empty = empty
begins_empty (Some (command.Make number)) told empty = empty
begins_empty (Some (command.Check stakes tx)) told empty = tt
begins_empty (Some (command.Follow member)) told empty = empty
begins_empty (Some (command.Desk callers)) told empty = tt
begins_empty (Some (command.Replay member)) told empty = tt
