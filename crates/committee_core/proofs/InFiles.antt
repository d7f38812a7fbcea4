-- The program over a journal file.
use Rattle.std.proofs.Common.{◌≡◌, ◌⊎◌, inl, inr, ℕ, ◌≤◌, Bool, true, false, List, [], ◌∷◌, Option, Some, None, refl, sym, ◌∙◌, ap, subst}
use Rattle.std.specs.Prelude.{codes, option_map}
use Rattle.std.specs.Io.KnownBytes.{Appends, Keeps}
use Rattle.std.proofs.lemmas.Slice.Eq.{bytes_eq-Decides}
use Rattle.outside.specs.Causes.{Rose}
use Rattle.outside.specs.Lists.{Journals, journal_of}
use Rattle.schedule_text.specs.Bytes.{number_in}
use Rattle.protocol_spec.specs.Chain.Words.{first_some}
use Rattle.disk_log.specs.Disk.{History, IfTold}
use Rattle.disk_log.specs.Keeping.{Opened, told_lists}
use Rattle.disk_log.specs.Log.{WalkCause}
use Rattle.disk_log.specs.Records.{Record, counted, journals_of, records_to}
use Rattle.disk_log.specs.Running.{IsEmptyTo, Unchanged}
use Rattle.disk_log.specs.declared.refusals.OpenRefusal.{OpenRefusal}
use Rattle.disk_log.specs.declared.refusals.OpenRefusal.TheVariants as open_refusal
use Rattle.command_words.specs.declared.words.Command.{Command}
use Rattle.command_words.specs.declared.words.Command.TheVariants as command
use Rattle.committee_core.specs.Endings.{BeginsEmpty, Ends}
use Rattle.committee_core.specs.InFile.{AreOfMembers, EndsInFile, EndsOver, EndsOverLog, IsBadMember, IsFull, IsRefusedBy, LeavesEndings, MayRun, bad_member_at, bad_member_text, is_not_empty, kept_in, most_members, not_empty_text}
use Rattle.committee_core.specs.Journals.{AreEmpty}
use Rattle.committee_core.specs.Outside.{Outside, outside}
use Rattle.outside.specs.Streams.{AppendsFront}
use Rattle.command_words.specs.Words.{command_in, names_replay}
use Rattle.committee_core.proofs.Obeying.{begins_empty}
use Rattle.committee_core.proofs.Opening.{fresh-list}

-- ---- the lists that a command begins with

empty-lists : (told : Option History) (end members : ℕ) → IfTold told (λ h. records_to h.now.reads end ≡ []) → AreEmpty (told_lists told end members)
empty-lists None end members nothing = tt
empty-lists (Some h) end members nothing = λ m. ap (λ (records : List Record). journal_of (journals_of members records) m) nothing ∙ fresh-list members m

pub no_records : (told : Option History) (end : ℕ) (empty : Bool) → IfTold told (IsEmptyTo end empty) → empty ≡ true → IfTold told (λ h. records_to h.now.reads end ≡ [])
no_records None end empty to is = tt
no_records (Some h) end empty to is = to.0 is

pub some_records : (told : Option History) (end : ℕ) (empty : Bool) → IfTold told (IsEmptyTo end empty) → empty ≡ false → IfTold told (λ h. records_to h.now.reads end ≡ [] → ⊥)
some_records None end empty to is = tt
some_records (Some h) end empty to is = λ nothing. let e : true ≡ false = sym (to.1 nothing) ∙ is in absurd (cc)

pub begins_where_empty : (c : Option Command) (told : Option History) (end members : ℕ) (empty : Bool) → IfTold told (IsEmptyTo end empty) → empty ≡ true → BeginsEmpty c (told_lists told end members)
begins_where_empty c told end members empty to is = begins_empty c (told_lists told end members) (empty-lists told end members (no_records told end empty to is))

first-replay : (r : Option ℕ) (told : Option Journals) → BeginsEmpty (first_some (None ∷ None ∷ None ∷ None ∷ None ∷ option_map command.Replay r ∷ [])) told
first-replay None told = tt
first-replay (Some member) told = tt

is-replay : (word : List ℕ) (words : List (List ℕ)) → names_replay (word ∷ words) ≡ true → codes "replay" ≡ word
is-replay word words is = sym ((bytes_eq-Decides word (codes "replay")).0 is)

pub begins_replay : (words : List (List ℕ)) (told : Option Journals) → names_replay words ≡ true → BeginsEmpty (command_in words) told
unfolding command_in
begins_replay [] told is = absurd (cc)
begins_replay (word ∷ []) told is = subst (λ (w : List ℕ). BeginsEmpty (command_in (w ∷ [])) told) (is-replay word [] is) tt
begins_replay (word ∷ number ∷ []) told is = subst (λ (w : List ℕ). BeginsEmpty (command_in (w ∷ number ∷ [])) told) (is-replay word (number ∷ []) is) (first-replay (number_in 0 63 number) told)
begins_replay (word ∷ number ∷ other ∷ []) told is = subst (λ (w : List ℕ). BeginsEmpty (command_in (w ∷ number ∷ other ∷ [])) told) (is-replay word (number ∷ other ∷ []) is) tt
begins_replay (word ∷ number ∷ other ∷ more ∷ words) told is = tt

-- ---- the log was not opened

refusing : {W : List ℕ → Type 0} (words : List (List ℕ)) (before now : ℕ) (told : Option History) (refusal : OpenRefusal) → WalkCause before now told most_members refusal → IsBadMember refusal (λ at. W (bad_member_text at)) → (line : List ℕ) × IsRefusedBy words told line × W line
refusing words before now told (open_refusal.BadMember at) cause said = (bad_member_text at, bad_member_at at (cause.bad at refl), said)
refusing words before now told open_refusal.DiskFault cause said = absurd said
refusing words before now told open_refusal.OutOfMemory cause said = absurd said

module _ (words : List (List ℕ)) (told told' : Option History) (left : Option (List ℕ)) (read_faults : ℕ) (held held' : Option (List ℕ)) (wrote wrote' faults faults' : ℕ) (status : ℕ) where
  abbrev Before : Outside
  Before = outside left read_faults held wrote (kept_in told) faults

  abbrev Now : Outside
  Now = outside left read_faults held' wrote' (kept_in told') faults'

  pub uncalled_refused : (refusal : OpenRefusal) → Unchanged told told' → WalkCause faults faults' told most_members refusal
      → (status ≡ 5) ⊎ (status ≡ 6) ⊎ (status ≡ 7) ⊎ (status ≡ 8)
      → (status ≡ 8 → IsBadMember refusal (λ at. Appends held held' (bad_member_text at)))
      → (status ≡ 5 → Rose wrote wrote')
      → (status ≡ 6 → (refusal ≡ open_refusal.DiskFault) × Keeps held held')
      → ((status ≡ 5) ⊎ (status ≡ 7) → Keeps held held' ⊎ IsBadMember refusal (λ at. AppendsFront held held' (bad_member_text at)))
      → EndsInFile words told told' Before Now status
  uncalled_refused refusal stays cause known refused write_fault disk_fault cut = inl (record {
    known = known;
    unread = (refl, refl);
    stays = stays;
    refused = λ is. refusing {W = Appends held held'} words faults faults' told refusal cause (refused is);
    write_fault = write_fault;
    disk_fault = λ is. (cause.fault (disk_fault is).0, (disk_fault is).1);
    cut = λ is. cut-at (cut is);
  })
    where
      cut-at : Keeps held held' ⊎ IsBadMember refusal (λ at. AppendsFront held held' (bad_member_text at)) → Keeps held held' ⊎ ((line : List ℕ) × IsRefusedBy words told line × AppendsFront held held' line)
      cut-at (inl keeps) = inl keeps
      cut-at (inr said) = inr (refusing {W = AppendsFront held held'} words faults faults' told refusal cause said)

-- ---- it was opened

-- what was opened says what was there before
module _ (words : List (List ℕ)) (old told : Option History) (end : ℕ) (opened : Opened old told end most_members) where
  all-members : AreOfMembers old
  all-members = at old opened
    where
      at : (o : Option History) → Opened o told end most_members → AreOfMembers o
      at None none = tt
      at (Some h) (n, is, o) = o.known

  counted-none : IfTold told (λ h. records_to h.now.reads end ≡ []) → IfTold old (λ h. counted h.now.reads ≡ [])
  counted-none nothing = at old opened
    where
      at : (o : Option History) → Opened o told end most_members → IfTold o (λ h. counted h.now.reads ≡ [])
      at None none = tt
      at (Some h) (n, is, o) = sym o.records ∙ subst (λ (t : Option History). IfTold t (λ h. records_to h.now.reads end ≡ [])) is nothing

  counted-some : IfTold told (λ h. records_to h.now.reads end ≡ [] → ⊥) → IfTold old (λ h. counted h.now.reads ≡ [] → ⊥)
  counted-some some = at old opened
    where
      at : (o : Option History) → Opened o told end most_members → IfTold o (λ h. counted h.now.reads ≡ [] → ⊥)
      at None none = tt
      at (Some h) (n, is, o) = λ nothing. let isnt = subst (λ (t : Option History). IfTold t (λ h. records_to h.now.reads end ≡ [] → ⊥)) is some in isnt (o.records ∙ nothing)

module _ (words : List (List ℕ)) (old told told' : Option History) (end : ℕ) (left left' : Option (List ℕ)) (read_faults read_faults' : ℕ) (held held' : Option (List ℕ)) (wrote wrote' first faults faults' : ℕ) (lists : Option Journals) (status : ℕ) where
  abbrev First : Outside
  First = outside left read_faults held wrote (kept_in old) first

  abbrev AtLog : Outside
  AtLog = outside left read_faults held wrote lists faults

  abbrev Last : Outside
  Last = outside left' read_faults' held' wrote' (kept_in told') faults'

  pub uncalled_full : Opened old told end most_members → Unchanged old told → IsFull words told told' end AtLog Last status → EndsInFile words old told' First Last status
  uncalled_full opened stays full = inl (record {
    known = known-in full.known;
    unread = full.unread;
    stays = subst (Unchanged old) (sym full.disk) stays;
    refused = λ is. (not_empty_text, line, full.refused is);
    write_fault = full.write_fault;
    disk_fault = λ is. absurd (six full.known is);
    cut = λ is. inr (not_empty_text, line, full.cut is);
  })
    where
      line : IsRefusedBy words old not_empty_text
      line = is_not_empty full.other (all-members words old told end opened) (counted-some words old told end opened full.some)

      known-in : (status ≡ 5) ⊎ (status ≡ 7) ⊎ (status ≡ 8) → (status ≡ 5) ⊎ (status ≡ 6) ⊎ (status ≡ 7) ⊎ (status ≡ 8)
      known-in (inl five) = inl five
      known-in (inr (inl seven)) = inr (inr (inl seven))
      known-in (inr (inr eight)) = inr (inr (inr eight))

      six : (status ≡ 5) ⊎ (status ≡ 7) ⊎ (status ≡ 8) → status ≡ 6 → ⊥
      six (inl five) is = let e : 5 ≡ 6 = sym five ∙ is in cc
      six (inr (inl seven)) is = let e : 7 ≡ 6 = sym seven ∙ is in cc
      six (inr (inr eight)) is = let e : 8 ≡ 6 = sym eight ∙ is in cc

  pub called : Opened old told end most_members → lists ≡ kept_in old → first ≤ faults → MayRun words told end → EndsOver (command_in words) told' AtLog Last status → EndsInFile words old told' First Last status
  called opened same later may over = inr (record {
    opened = faults;
    lists = over.lists;
    later = later;
    members = all-members words old told end opened;
    fits = fits may;
    ends = subst (λ (l : Option Journals). Ends (command_in words) (outside left read_faults held wrote l faults) (record Last { kept = over.lists }) status) same over.ends;
    holds = over.holds;
    each = subst (λ (l : Option Journals). LeavesEndings (command_in words) told' (outside left read_faults held wrote l faults) Last status) same over.each;
  })
    where
      fits : MayRun words told end → (names_replay words ≡ true) ⊎ IfTold old (λ h. counted h.now.reads ≡ [])
      fits (inl replays) = inl replays
      fits (inr nothing) = inr (counted-none words old told end opened nothing)

  -- how the program ends over a log that was opened: its records are refused, or the command ran over it
  pub opened_ends : Opened old told end most_members → Unchanged old told → lists ≡ kept_in old → first ≤ faults → EndsOverLog words told told' end AtLog Last status → EndsInFile words old told' First Last status
  opened_ends opened stays same later (inl full) = uncalled_full opened stays full
  opened_ends opened stays same later (inr (may, over)) = called opened same later may over
