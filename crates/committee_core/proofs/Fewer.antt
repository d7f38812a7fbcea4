-- The lists of a log without the record whose append met a fault of the disk: a command may have ended with them, as with all.
use Rattle.std.proofs.Common.{◌≡◌, ◌⊎◌, inl, inr, ℕ, ◌<◌, ◌≤◌, List, [], ◌∷◌, ◌++◌, length, replicate, refl, sym, ◌∙◌, ap, subst, arith, Option, Some, None, Result, Ok, Err}
use Rattle.digest_core.specs.declared.Digest.{Digest}
use Rattle.outside.specs.Causes.{Rose}
use Rattle.outside.specs.Lists.{Journals, KeepsJournals, journal_of, with_record}
use Rattle.schedule_text.specs.declared.words.Schedule.{Schedule}
use Rattle.schedule_text.specs.Schedule.{Refused, schedule_of}
use Rattle.protocol_spec.specs.Chain.Words.{IsFront}
use Rattle.protocol_spec.proofs.ListLemmas.{front_then}
use Rattle.world_spec.specs.Run.{journal}
use Rattle.world_spec.specs.Setting.{Trust}
use Rattle.command_words.specs.declared.words.Command.{Command}
use Rattle.command_words.specs.declared.words.Command.TheVariants as command
use Rattle.disk_log.specs.Disk.{AreSeen, History, IfTold, moments}
use Rattle.disk_log.specs.Keeping.{LogState, told_lists}
use Rattle.disk_log.specs.Records.{Record, counted, journals_of, records_to}
use Rattle.disk_log.proofs.Listing.{added_to-push, length-journals}
use Rattle.committee_core.specs.Calling.{CallState, IsCalling, call_lists, record_of}
use Rattle.committee_core.specs.Desk.{DeskEnds}
use Rattle.committee_core.specs.Endings.{BeginsEmpty, CheckEnds, Ends, IsUnused, RunEnds}
use Rattle.committee_core.specs.Follow.{FollowEnds, FollowsBad, FollowsFront, FrontOf, unrefused, unrun, unsaid}
use Rattle.committee_core.specs.Headline.{IsBad, IsCut, program_trust}
use Rattle.committee_core.specs.InFile.{EndsOver, LeavesEndings, kept_in, most_members}
use Rattle.committee_core.specs.Journals.{KeepsFronts}
use Rattle.committee_core.specs.Make.{MakeEnds, MakesFront}
use Rattle.committee_core.specs.Outside.{Outside, outside}
use Rattle.committee_core.specs.Replay.{ReplayEnds}
use Rattle.committee_core.specs.Report.{setting_in}
use Rattle.committee_core.specs.Ways.{RunsCut, TextCut}
use Rattle.committee_core.specs.declared.call_log.Unfinished.{Unfinished}
use Rattle.committee_core.proofs.Calling.{call_holds}
use Rattle.committee_core.proofs.CallLists.{front-more, one-longer}

abbrev or-none : Option Journals → Journals
or-none None = []
or-none (Some lists) = lists

-- the lists that a call began with, those of the acknowledged records, and the record of this member that may stand or not
module _ (first lists : Journals) (m : ℕ) (bytes : List ℕ) (lt : m < length lists) (grown : (k : ℕ) → length (journal_of first k) ≤ length (journal_of lists k)) where
  abbrev more : Journals
  more = with_record lists m bytes

  -- the lists differ from those before the call
  changed : more ≡ first → ⊥
  changed same =
      let size : length (journal_of more m) ≡ length (journal_of first m) = ap (λ (l : Journals). length (journal_of l m)) same in
      let a = one-longer lists m bytes lt in
      let b = grown m in
      omega (arith, size, a, b)

  unkept : {P : Type 0} → KeepsJournals (Some first) (Some more) → P
  unkept keeps = absurd (changed (ap or-none keeps))

  -- ---- prefixes

  fronts : (trust : Trust) (s : Schedule) → KeepsFronts trust s (Some first) (Some more) → KeepsFronts trust s (Some first) (Some lists)
  fronts trust s (all, is, front) = (
    lists,
    refl,
    λ k. front_then (journal_of lists k) (journal_of more k) (journal (setting_in trust s) s.events k) (front-more lists m bytes k)
        (subst (λ (l : Journals). IsFront (journal_of l k) (journal (setting_in trust s) s.events k)) (sym (ap or-none is)) (front k)),
  )

  run-cut : (trust : Trust) (s : Schedule) (held held' : Option (List ℕ)) → RunsCut trust s held held' (Some first) (Some more) → RunsCut trust s held held' (Some first) (Some lists)
  run-cut trust s held held' (inl front) = inl (record { written = front.written; journals = fronts trust s front.journals })
  run-cut trust s held held' (inr bad) = inr bad

  text-cut : (trust : Trust) (r : Result Schedule Refused) (held held' : Option (List ℕ)) → TextCut trust r held held' (Some first) (Some more) → TextCut trust r held held' (Some first) (Some lists)
  text-cut trust (Ok s) held held' cut = run-cut trust s held held' cut
  text-cut trust (Err r) held held' cut = unkept cut.1

  cut : (left left' held held' : Option (List ℕ)) → IsCut left left' held held' (Some first) (Some more) → IsCut left left' held held' (Some first) (Some lists)
  cut left left' held held' (inl nothing) = unkept nothing.1
  cut left left' held held' (inr w) = inr (record { text = w.text; read = w.read; cut = text-cut program_trust (schedule_of w.text) held held' w.cut; holds = w.holds })

  follow-front : {R : Type 0} (text : List ℕ) (who : ℕ) (held held' : Option (List ℕ)) → R → FrontOf text who held held' (Some first) (Some more) R → FrontOf text who held held' (Some first) (Some lists) R
  follow-front text who held held' rose (unrun s is front keeps) = unrun s is (fronts program_trust s front) keeps
  follow-front text who held held' rose (unsaid v finds steady said) = absurd (steady rose)
  follow-front text who held held' rose (unrefused r is keeps said) = unkept keeps

  follow-cut : {R : Type 0} (who : ℕ) (left left' held held' : Option (List ℕ)) → R → FollowsFront who left left' held held' (Some first) (Some more) R → FollowsFront who left left' held held' (Some first) (Some lists) R
  follow-cut who left left' held held' rose (inl nothing) = unkept nothing.1
  follow-cut who left left' held held' rose (inr (text, read, front)) = inr (text, read, follow-front text who held held' rose front)

  -- ---- how commands end

  module _ (before now : Outside) (status : ℕ) (rose : Rose before.keep_faults now.keep_faults) where
    abbrev Begun : Outside
    Begun = record before { kept = Some first }

    abbrev WithMore : Outside
    WithMore = record now { kept = Some more }

    abbrev Without : Outside
    Without = record now { kept = Some lists }

    fewer-unused : IsUnused Begun WithMore status → IsUnused Begun Without status
    fewer-unused ends = unkept (ap (λ (o : Outside). o.kept) ends.same)

    fewer-run : RunEnds Begun WithMore status → RunEnds Begun Without status
    fewer-run ends = record {
      known = ends.known;
      whole = λ is. absurd (ends.steady is rose);
      steady = ends.steady;
      refused = λ is. unkept (ends.refused is).stays;
      read_fault = ends.read_fault;
      unwritten = λ is. unkept (ends.unwritten is).1;
      write_fault = ends.write_fault;
      keep_fault = λ is. at (ends.keep_fault is);
      cut = λ is. cut before.left now.left before.held now.held (ends.cut is);
    }
      where
        at : (Rose before.keep_faults now.keep_faults × IsCut before.left now.left before.held now.held (Some first) (Some more)) ⊎ IsBad before.left now.left before.held now.held (Some first)
            → (Rose before.keep_faults now.keep_faults × IsCut before.left now.left before.held now.held (Some first) (Some lists)) ⊎ IsBad before.left now.left before.held now.held (Some first)
        at (inl (rises, broken)) = inl (rises, cut before.left now.left before.held now.held broken)
        at (inr bad) = inr bad

    fewer-make : (number : ℕ) → MakeEnds number Begun WithMore status → MakeEnds number Begun Without status
    fewer-make number ends = record {
      known = ends.known;
      unread = ends.unread;
      whole = λ is. absurd (ends.steady is rose);
      steady = ends.steady;
      write_fault = ends.write_fault;
      keep_fault = ends.keep_fault;
      cut = λ is. at (ends.cut is);
    }
      where
        at : MakesFront number before.held now.held (Some first) (Some more) → MakesFront number before.held now.held (Some first) (Some lists)
        at made = record { schedule = made.schedule; member = made.member; made = made.made; written = made.written; journals = fronts program_trust made.schedule made.journals }

    fewer-check : (stakes : List ℕ) (tx : Digest) → CheckEnds stakes tx Begun WithMore status → CheckEnds stakes tx Begun Without status
    fewer-check stakes tx ends = unkept ends.kept

    fewer-desk : (callers : ℕ) → DeskEnds callers Begun WithMore status → DeskEnds callers Begun Without status
    fewer-desk callers ends = unkept ends.kept

    fewer-replay : (who : ℕ) → ReplayEnds who Begun WithMore status → ReplayEnds who Begun Without status
    fewer-replay who ends = unkept ends.stays

    fewer-follow : (who : ℕ) → FollowEnds who Begun WithMore status → FollowEnds who Begun Without status
    fewer-follow who ends = record {
      known = ends.known;
      whole = λ is. absurd (ends.steady is rose);
      steady = ends.steady;
      refused = λ is. unkept (ends.refused is).stays;
      read_fault = λ is. unkept (ends.read_fault is).1;
      unwritten = ends.unwritten;
      write_fault = ends.write_fault;
      keep_fault = λ is. at (ends.keep_fault is);
      cut = λ is. follow-cut who before.left now.left before.held now.held rose (ends.cut is);
    }
      where
        at : (Rose before.keep_faults now.keep_faults × FollowsFront who before.left now.left before.held now.held (Some first) (Some more) (Rose before.keep_faults now.keep_faults)) ⊎ FollowsBad before.left now.left (Some first)
            → (Rose before.keep_faults now.keep_faults × FollowsFront who before.left now.left before.held now.held (Some first) (Some lists) (Rose before.keep_faults now.keep_faults)) ⊎ FollowsBad before.left now.left (Some first)
        at (inl (rises, front)) = inl (rises, follow-cut who before.left now.left before.held now.held rose front)
        at (inr bad) = inr bad

    fewer : (c : Option Command) → Ends c Begun WithMore status → Ends c Begun Without status
    fewer None ends = fewer-unused ends
    fewer (Some command.Run) ends = fewer-run ends
    fewer (Some (command.Make number)) ends = fewer-make number ends
    fewer (Some (command.Check stakes tx)) ends = fewer-check stakes tx ends
    fewer (Some (command.Follow who)) ends = fewer-follow who ends
    fewer (Some (command.Desk callers)) ends = fewer-desk callers ends
    fewer (Some (command.Replay who)) ends = fewer-replay who ends

-- ---- over the log of a call

module _ (c : Option Command) (before now : Outside) (status end : ℕ) (counts : List ℕ) where
  abbrev After : Option Journals → Outside
  After lists = record now { kept = lists }

  -- the lists in a file whose records are these
  as-counted : (first : Option Journals) (records : List Record) (n : ℕ) (file : List ℕ) → n ≡ most_members → counted file ≡ records → Ends c (record before { kept = first }) (After (Some (journals_of n records))) status
      → Ends c (record before { kept = first }) (After (Some (journals_of most_members (counted file)))) status
  as-counted first records n file size is ends =
      subst (λ (rs : List Record). Ends c (record before { kept = first }) (After (Some (journals_of most_members rs))) status) (sym is)
      (subst (λ (k : ℕ). Ends c (record before { kept = first }) (After (Some (journals_of k records))) status) size ends)

  -- none is unfinished
  all-finished : (first : Option Journals) (h : History) → IsCalling before.keep_faults first (Some h) now.keep_faults end counts None → Ends c (record before { kept = first }) (After (told_lists (Some h) end (length counts))) status
      → LeavesEndings c (Some h) (record before { kept = first }) now status
  all-finished first h it ends = λ image im. at image (it.left image im).counts
    where
      at : (image : List ℕ) → (counted image ≡ records_to h.now.reads end) ⊎ ((more : Unfinished) × (None ≡ Some more) × (counted image ≡ records_to h.now.reads end ++ record_of more ∷ []))
          → Ends c (record before { kept = first }) (After (Some (journals_of most_members (counted image)))) status
      at image (inl same) = as-counted first (records_to h.now.reads end) (length counts) image it.as_many same ends
      at image (inr (more, none, same)) = absurd (cc)

  module _ (first : Journals) (h : History) (u : Unfinished) (it : IsCalling before.keep_faults (Some first) (Some h) now.keep_faults end counts (Some u)) where
    abbrev lists : Journals
    lists = journals_of (length counts) (records_to h.now.reads end)

    low : u.member < length lists
    low = subst (λ (n : ℕ). u.member < n) (sym (length-journals (length counts) (records_to h.now.reads end))) it.next.0

    without : Ends c (record before { kept = Some first }) (After (Some (with_record lists u.member u.bytes))) status → Ends c (record before { kept = Some first }) (After (Some lists)) status
    without ends = fewer first lists u.member u.bytes low it.grown before now status it.met c ends

    one-unfinished : Ends c (record before { kept = Some first }) (After (Some (with_record lists u.member u.bytes))) status → LeavesEndings c (Some h) (record before { kept = Some first }) now status
    one-unfinished ends = λ image im. at image (it.left image im).counts
      where
        at : (image : List ℕ) → (counted image ≡ records_to h.now.reads end) ⊎ ((more : Unfinished) × (Some u ≡ Some more) × (counted image ≡ records_to h.now.reads end ++ record_of more ∷ []))
            → Ends c (record before { kept = Some first }) (After (Some (journals_of most_members (counted image)))) status
        at image (inl same) = as-counted (Some first) (records_to h.now.reads end) (length counts) image it.as_many same (without ends)
        at image (inr (more, is, same)) =
            let it-is : u ≡ more = cc in
            as-counted (Some first) (records_to h.now.reads end ++ record_of u ∷ []) (length counts) image it.as_many (same ∙ ap (λ (x : Unfinished). records_to h.now.reads end ++ record_of x ∷ []) (sym it-is))
            (subst (λ (l : Journals). Ends c (record before { kept = Some first }) (After (Some l)) status) (sym (added_to-push (replicate (length counts) []) (records_to h.now.reads end) (record_of u))) ends)

  pub ends_over : (first : Option Journals) (told : Option History) (u : Option Unfinished) → IsCalling before.keep_faults first told now.keep_faults end counts u → IfTold told (λ h. AreSeen (moments h))
      → Ends c (record before { kept = first }) (After (call_lists (told_lists told end (length counts)) u)) status → EndsOver c told (record before { kept = first }) now status
  ends_over first None u it seen ends = record {
    lists = None;
    ends = ends;
    holds = call_holds before.keep_faults first None now.keep_faults end counts u it seen;
    each = tt;
  }
  ends_over first (Some h) None it seen ends = record {
    lists = told_lists (Some h) end (length counts);
    ends = ends;
    holds = call_holds before.keep_faults first (Some h) now.keep_faults end counts None it seen;
    each = all-finished first h it ends;
  }
  ends_over None (Some h) (Some u) it seen ends = absurd (let e = it.grown in cc)
  ends_over (Some first) (Some h) (Some u) it seen ends = record {
    lists = told_lists (Some h) end (length counts);
    ends = without first h u it ends;
    holds = call_holds before.keep_faults (Some first) (Some h) now.keep_faults end counts (Some u) it seen;
    each = one-unfinished first h u it ends;
  }

-- a log that was opened has the lists that it tells
call_none : (told : Option Journals) → call_lists told None ≡ told
call_none None = refl
call_none (Some were) = refl

module _ {D : Type 0} (history : D → Option History) (failed : D → ℕ) (c : Option Command) where
  abbrev lists_of : CallState D → Option Journals
  lists_of s = call_lists (told_lists (history s.log.disk) s.log.end (length s.log.counts)) s.unfinished

  abbrev told_of : LogState D → Option Journals
  told_of l = told_lists (history l.disk) l.end (length l.counts)

  pub begins_as : (s : CallState D) (l : LogState D) → s ≡ record { log = l; unfinished = None } → BeginsEmpty c (told_of l) → BeginsEmpty c (lists_of s)
  begins_as s l is empty =
      subst (λ (x : CallState D). BeginsEmpty c (lists_of x)) (sym is) (subst (λ (t : Option Journals). BeginsEmpty c t) (sym (call_none (told_of l))) empty)

  module _ (left left' : Option (List ℕ)) (read_faults read_faults' : ℕ) (held held' : Option (List ℕ)) (wrote wrote' : ℕ) (status : ℕ) where
    abbrev From : Option Journals → ℕ → Outside
    From lists faults = outside left read_faults held wrote lists faults

    abbrev To : Option Journals → ℕ → Outside
    To lists faults = outside left' read_faults' held' wrote' lists faults

    pub ends_called : (opened : ℕ) (first : Option Journals) (start end : CallState D) (l : LogState D) → start ≡ record { log = l; unfinished = None } → failed l.disk ≡ opened → told_of l ≡ first
        → IsCalling opened first (history end.log.disk) (failed end.log.disk) end.log.end end.log.counts end.unfinished → IfTold (history end.log.disk) (λ h. AreSeen (moments h))
        → Ends c (From (lists_of start) (failed start.log.disk)) (To (lists_of end) (failed end.log.disk)) status
        → EndsOver c (history end.log.disk) (From (told_of l) (failed l.disk)) (To (kept_in (history end.log.disk)) (failed end.log.disk)) status
    ends_called opened first start end l is faults begun it seen ends =
        let at-log : Ends c (From (lists_of (record { log = l; unfinished = None })) (failed l.disk)) (To (lists_of end) (failed end.log.disk)) status =
        subst (λ (s : CallState D). Ends c (From (lists_of s) (failed s.log.disk)) (To (lists_of end) (failed end.log.disk)) status) is ends in
        let at-first : Ends c (From first (failed l.disk)) (To (lists_of end) (failed end.log.disk)) status =
        subst (λ (t : Option Journals). Ends c (From t (failed l.disk)) (To (lists_of end) (failed end.log.disk)) status) (call_none (told_of l) ∙ begun) at-log in
        let at-opened : Ends c (From first opened) (To (lists_of end) (failed end.log.disk)) status =
        subst (λ (n : ℕ). Ends c (From first n) (To (lists_of end) (failed end.log.disk)) status) faults at-first in
        let over : EndsOver c (history end.log.disk) (From first opened) (To (kept_in (history end.log.disk)) (failed end.log.disk)) status =
        ends_over c (From first opened) (To (kept_in (history end.log.disk)) (failed end.log.disk)) status end.log.end end.log.counts first (history end.log.disk) end.unfinished it seen at-opened in
        subst (λ (n : ℕ). EndsOver c (history end.log.disk) (From (told_of l) n) (To (kept_in (history end.log.disk)) (failed end.log.disk)) status) (sym faults)
        (subst (λ (t : Option Journals). EndsOver c (history end.log.disk) (From t opened) (To (kept_in (history end.log.disk)) (failed end.log.disk)) status) (sym begun) over)
