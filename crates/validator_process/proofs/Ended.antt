-- How a process ends.
use Rattle.std.proofs.Common.{◌≡◌, inl, inr, ℕ, ◌≤◌, Bool, List, length, Option, Some, None, subst, refl, sym, ◌∙◌, ap, arith}
use Rattle.std.specs.Prelude.{Result, Ok, Err}
use Rattle.std.specs.Io.KnownBytes.{Appends}
use Rattle.outside.specs.Causes.{Rose}
use Rattle.outside.specs.Lists.{Journals, KeepsJournals}
use Rattle.outside.specs.Streams.{AppendsFront, ReadsText}
use Rattle.schedule_text.specs.Schedule.{longest_text}
use Rattle.disk_log.specs.Disk.{AreSeen, History, IfTold, moments}
use Rattle.disk_log.specs.Keeping.{told_lists}
use Rattle.disk_log.specs.Log.{WalkCause}
use Rattle.disk_log.specs.Records.{Record}
use Rattle.disk_log.specs.Running.{Unchanged}
use Rattle.disk_log.specs.declared.refusals.OpenRefusal.TheVariants as refused
use Rattle.world_spec.specs.Setting.{Trust}
use Rattle.world_spec.specs.Scene.{Scene}
use Rattle.world_spec.specs.Seats.{Seated}
use Rattle.world_core.specs.Replies.{Accepting}
use Rattle.process_lines.specs.declared.starts.StartLine.{StartLine}
use Rattle.process_lines.specs.declared.starts.StartLine.TheVariants as start
use Rattle.validator_process.specs.declared.identity.Head.TheVariants as head
use Rattle.validator_process.specs.declared.journal.Unopened.{Unopened}
use Rattle.validator_process.specs.declared.journal.Unopened.TheVariants as unopened
use Rattle.validator_process.specs.declared.reading.Unstarted.{Unstarted}
use Rattle.validator_process.specs.declared.reading.Unstarted.TheVariants as unstarted
use Rattle.validator_process.specs.declared.stop.Stop.{Stop}
use Rattle.validator_process.specs.declared.stop.Stop.TheVariants as stop
use Rattle.validator_process.specs.Ending.{EndsJournal, EndsLife, EndsLog, EndsProcess, EndsTask, EndsText, HasHead, IsHeadRefused, HasCause, IsNoGenesis, IsOfWrite, IsSaid, IsUnopenedBy, SaysUnopened, SaysUnstarted, kept_in, program_trust}
use Rattle.validator_process.specs.declared.words.Task.{Task}
use Rattle.validator_process.specs.declared.words.Task.TheVariants as task
use Rattle.validator_process.specs.Genesis.{genesis_of, line_status}
use Rattle.validator_process.specs.Growing.{EachLeft, HasMore, IsWhole, StandsAs, counted_in, records_in}
use Rattle.validator_process.specs.Starting.{LivesCut, LivesWhole, OpensAs, StartsAs, start_bytes}
use Rattle.validator_process.specs.Stops.{status_of}
use Rattle.protocol_spec.specs.Chain.Words.{IsFront}
use Rattle.validator_core.proofs.Settling.{keeps_same}
use Rattle.validator_process.proofs.Growing.{leaves_first, lists_stand, records_stand, whole_stands, width_stands}
use Rattle.validator_process.proofs.Kept.{each_map, each_whole, each_wide, held as held_by, more_whole}

-- ---- a line that ends a process

of_write : (w w' : ℕ) (why : Stop) → (why ≡ stop.WriteFault → Rose w w') → (why ≡ stop.ReadFault → ⊥) → (why ≡ stop.KeepFault → ⊥) → IsOfWrite why w w'
of_write w w' stop.ReadFault rose unread unkept = unread refl
of_write w w' stop.WriteFault rose unread unkept = rose refl
of_write w w' stop.KeepFault rose unread unkept = unkept refl
of_write w w' stop.OutOfMemory rose unread unkept = tt

module _ (line : StartLine) (held held' : Option (List ℕ)) (w w' : ℕ) where
  pub said_whole : Appends held held' (start_bytes line) → IsSaid line held held' w w' (line_status line)
  said_whole writes = inl (record { ends = refl; writes = writes })

  pub said_cut : (why : Stop) (given : Result (Unit {0}) Stop) → given ≡ Err why → AppendsFront held held' (start_bytes line) → (given ≡ Err stop.WriteFault → Rose w w')
      → (given ≡ Err stop.ReadFault → ⊥) × (given ≡ Err stop.KeepFault → ⊥) → IsSaid line held held' w w' (status_of why)
  said_cut why given is writes rose only = inr (record {
    why = why;
    ends = refl;
    cause = of_write w w' why (λ e. rose (is ∙ ap (λ (s : Stop). Err s) e)) (λ e. only.0 (is ∙ ap (λ (s : Stop). Err s) e)) (λ e. only.1 (is ∙ ap (λ (s : Stop). Err s) e));
    writes = writes;
  })

-- ---- a life over a keeper

rose_later : (first mid last : ℕ) → first ≤ mid → Rose mid last → Rose first last
rose_later first mid last later rose = omega (arith, later, rose)

has_cause : (why : Stop) (r r' w w' first k k' : ℕ) → first ≤ k → (why ≡ stop.ReadFault → Rose r r') → (why ≡ stop.WriteFault → Rose w w') → (why ≡ stop.KeepFault → Rose k k') → HasCause why r r' w w' first k'
has_cause stop.ReadFault r r' w w' first k k' later read write keep = read refl
has_cause stop.WriteFault r r' w w' first k k' later read write keep = write refl
has_cause stop.KeepFault r r' w w' first k k' later read write keep = rose_later first k k' later (keep refl)
has_cause stop.OutOfMemory r r' w w' first k k' later read write keep = tt

module _ (accepts : Accepting) (scene : Scene) (m : ℕ) (left left' held held' : Option (List ℕ)) (kept mid kept' : Option Journals) (r r' w w' first k k' : ℕ) where
  pub lived_whole : (seat : Seated) → StartsAs accepts scene m kept (Ok seat) → KeepsJournals kept mid → LivesWhole accepts seat left left' held held' mid kept' → EndsLife accepts scene m left left' held held' kept kept' r r' w w' first k' 0
  lived_whole seat starts same lives = inl (record { seat = seat; mid = mid; starts = starts; same = same; lives = lives; ends = refl })

  pub lived_cut : (seat : Seated) (why : Stop) (given : Result (Unit {0}) Stop) → given ≡ Err why → StartsAs accepts scene m kept (Ok seat) → KeepsJournals kept mid → LivesCut accepts why seat left left' held held' mid kept' → first ≤ k
      → (given ≡ Err stop.ReadFault → Rose r r') → (given ≡ Err stop.WriteFault → Rose w w') → (given ≡ Err stop.KeepFault → Rose k k') → EndsLife accepts scene m left left' held held' kept kept' r r' w w' first k' (status_of why)
  lived_cut seat why given is starts same lives later read write keep = inr (inl (record {
    seat = seat;
    mid = mid;
    why = why;
    starts = starts;
    same = same;
    lives = lives;
    ends = refl;
    cause = has_cause why r r' w w' first k k' later (λ e. read (is ∙ ap (λ (s : Stop). Err s) e)) (λ e. write (is ∙ ap (λ (s : Stop). Err s) e)) (λ e. keep (is ∙ ap (λ (s : Stop). Err s) e));
  }))

module _ (accepts : Accepting) (scene : Scene) (m : ℕ) (left held held' : Option (List ℕ)) (kept kept' : Option Journals) (r w w' k k' status : ℕ) where
  pub unstarted_life : (why : Unstarted) (given : Result Seated Unstarted) → given ≡ Err why → StartsAs accepts scene m kept (Err why) → KeepsJournals kept kept' → (given ≡ Err (unstarted.Stopped stop.KeepFault) → Rose k k') → SaysUnstarted why held held' w w' status
      → EndsLife accepts scene m left left held held' kept kept' r r w w' k k' status
  unstarted_life (unstarted.Refused line) given is starts same cause said = inr (inr (inl (record { line = line; starts = starts; unread = refl; said = said; same = same })))
  unstarted_life (unstarted.Stopped why) given is inside same cause said = inr (inr (inr (record {
    why = why;
    inside = inside;
    ends = said.0;
    cause = λ e. cause (is ∙ ap (λ (s : Stop). Err (unstarted.Stopped s)) e);
    unread = refl;
    unsaid = said.1;
    same = same;
  })))

-- ---- a life over a disk

module _ (told : Option History) (k k' : ℕ) where
  pub unopened_fault : WalkCause k k' told 65 refused.DiskFault → IsUnopenedBy (unopened.Stopped stop.KeepFault) told k k'
  unopened_fault cause = (tt, λ e. cause.fault refl)

  pub unopened_memory : IsUnopenedBy (unopened.Stopped stop.OutOfMemory) told k k'
  unopened_memory = (tt, λ e. absurd (cc))

pub unopened_bad : (told : Option History) (k k' at : ℕ) → WalkCause k k' told 65 (refused.BadMember at) → IsUnopenedBy unopened.BadList told k k'
unopened_bad None k k' at cause = tt
unopened_bad (Some h) k k' at cause = (at, cause.bad at refl)

-- over a log, which was such when the start began
module _ (accepts : Accepting) (scene : Scene) (m : ℕ) (left left' held held' : Option (List ℕ)) (r r' w w' : ℕ) (told told' : Option History) (end end' : ℕ) (counts counts' : List ℕ) (shut shut' : Bool) (stands : StandsAs told' end' counts' shut' told end counts shut) (wide : length counts ≡ 65) where
  abbrev Were : Option Journals
  Were = told_lists told end (length counts)

  abbrev Mid : Option Journals
  Mid = told_lists told' end' (length counts')

  keeps-mid : KeepsJournals Were Mid
  keeps-mid = subst (λ (l : Option Journals). KeepsJournals Were l) (sym (lists_stand told' end' counts' shut' told end counts shut stands)) (keeps_same Were)

  wide-mid : length counts' ≡ 65
  wide-mid = width_stands told' end' counts' shut' told end counts shut stands ∙ wide

  -- the log after the life
  module _ (now : Option History) (end'' : ℕ) (counts'' : List ℕ) (many : length counts'' ≡ length counts') (k k' status : ℕ) (more : HasMore told' now end' end'' k') where
    abbrev Are : Option Journals
    Are = told_lists now end'' (length counts'')

    abbrev LifeTo : Option Journals → Type 0
    LifeTo lists = EndsLife accepts scene m left left' held held' Were lists r r' w w' k k' status

    log-ends : LifeTo Are → EachLeft LifeTo (length counts'') now → EndsLog (records_in told end) accepts scene m now left left' held held' Were r r' w w' k k' status
    log-ends ends each = record {
      width = length counts'';
      lists = Are;
      ends = ends;
      holds = held_by now end'' (length counts'') k' more.holds;
      grows = leaves_first (records_in told end) now k' end''
          (subst (λ (rs : List Record). IsFront rs (records_in now end'')) (records_stand told' end' counts' shut' told end counts shut stands) more.first) more.holds;
      each = each_wide LifeTo (length counts'') 65 now (many ∙ wide-mid) each;
    }

  module _ (now : Option History) (end'' : ℕ) (counts'' : List ℕ) (many : length counts'' ≡ length counts') (k mid k' : ℕ) (more : HasMore told' now end' end'' k') (seat : Seated) (starts : StartsAs accepts scene m Were (Ok seat)) where
    pub log_lived : (shut'' : Bool) → IsWhole now end'' shut'' → IfTold now (λ h. AreSeen (moments h)) → LivesWhole accepts seat left left' held held' Mid (told_lists now end'' (length counts''))
        → EndsLog (records_in told end) accepts scene m now left left' held held' Were r r' w w' k k' 0
    log_lived shut'' whole seen lives =
        let ends = lived_whole accepts scene m left left' held held' Were Mid (told_lists now end'' (length counts'')) r r' w w' k mid k' seat starts keeps-mid lives in
        log-ends now end'' counts'' many k k' 0 more ends (each_whole (LifeTo now end'' counts'' many k k' 0 more) now end'' (length counts'') shut'' whole seen ends)

    pub log_cut : (why : Stop) (given : Result (Unit {0}) Stop) → given ≡ Err why → LivesCut accepts why seat left left' held held' Mid (told_lists now end'' (length counts''))
        → EachLeft (λ lists. LivesCut accepts why seat left left' held held' Mid lists) (length counts'') now → k ≤ mid
        → (given ≡ Err stop.ReadFault → Rose r r') → (given ≡ Err stop.WriteFault → Rose w w') → (given ≡ Err stop.KeepFault → Rose mid k')
        → EndsLog (records_in told end) accepts scene m now left left' held held' Were r r' w w' k k' (status_of why)
    log_cut why given is cut each later read write keep =
        log-ends now end'' counts'' many k k' (status_of why) more (by-cut (told_lists now end'' (length counts'')) cut) (each_map (length counts'') now by-cut each)
      where
        by-cut : (lists : Option Journals) → LivesCut accepts why seat left left' held held' Mid lists → EndsLife accepts scene m left left' held held' Were lists r r' w w' k k' (status_of why)
        by-cut lists lives = lived_cut accepts scene m left left' held held' Were Mid lists r r' w w' k mid k' seat why given is starts keeps-mid lives later read write keep

-- no member started: the log is as it was
module _ (accepts : Accepting) (scene : Scene) (m : ℕ) (left held held' : Option (List ℕ)) (r w w' : ℕ) (told told' : Option History) (end end' : ℕ) (counts counts' : List ℕ) (shut shut' : Bool) (stands : StandsAs told' end' counts' shut' told end counts shut) (wide : length counts ≡ 65) where
  pub log_unstarted : (k k' status : ℕ) (why : Unstarted) (given : Result Seated Unstarted) → given ≡ Err why → IsWhole told end shut → IfTold told' (λ h. AreSeen (moments h)) → StartsAs accepts scene m (told_lists told end (length counts)) (Err why) → (given ≡ Err (unstarted.Stopped stop.KeepFault) → Rose k k')
      → SaysUnstarted why held held' w w' status → EndsLog (records_in told end) accepts scene m told' left left held held' (told_lists told end (length counts)) r r w w' k k' status
  log_unstarted k k' status why given is whole seen starts cause said =
      let mid-whole : IsWhole told' end' shut' = whole_stands told' end' counts' shut' told end counts shut stands whole in
      let more : HasMore told' told' end' end' k' = more_whole told' end' k' shut' mid-whole seen in
      let same = keeps-mid accepts scene m left left held held' r r w w' told told' end end' counts counts' shut shut' stands wide in
      let ends = unstarted_life accepts scene m left held held' (told_lists told end (length counts)) (told_lists told' end' (length counts')) r w w' k k' status why given is starts same cause said in
      log-ends accepts scene m left left held held' r r w w' told told' end end' counts counts' shut shut' stands wide told' end' counts' refl k k' status more ends
      (each_whole (λ lists. EndsLife accepts scene m left left held held' (told_lists told end (length counts)) lists r r w w' k k' status) told' end' (length counts') shut' mid-whole seen ends)

module _ (accepts : Accepting) (scene : Scene) (m : ℕ) (told told' : Option History) (left left' held held' : Option (List ℕ)) (r r' w w' k k' status : ℕ) where
  pub journal_life : (opened : ℕ) (first : List Record) (kept : Option Journals) → first ≡ counted_in told → kept ≡ kept_in told → k ≤ opened → EndsLog first accepts scene m told' left left' held held' kept r r' w w' opened k' status
      → EndsJournal accepts scene m told told' left left' held held' r r' w w' k k' status
  journal_life opened first kept same lists later over = inl (record {
    opened = opened;
    later = later;
    over = subst (λ (l : Option Journals). EndsLog (counted_in told) accepts scene m told' left left' held held' l r r' w w' opened k' status) lists
        (subst (λ (f : List Record). EndsLog f accepts scene m told' left left' held held' kept r r' w w' opened k' status) same over);
  })

pub unopened_ends : (accepts : Accepting) (scene : Scene) (m : ℕ) (told told' : Option History) (left held held' : Option (List ℕ)) (r w w' k k' status : ℕ) (why : Unopened) → IsUnopenedBy why told k k' → SaysUnopened why held held' w w' status → Unchanged told told'
    → EndsJournal accepts scene m told told' left left held held' r r w w' k k' status
unopened_ends accepts scene m told told' left held held' r w w' k k' status why cause said stays = inr (record { why = why; cause = cause; unread = refl; said = said; stays = stays })

-- ---- from the text of a set-up

module _ (trust : Trust) (m : ℕ) (text : List ℕ) (told : Option History) (left held held' : Option (List ℕ)) (w w' k status : ℕ) where
  pub setup_refused : (why : Unstarted) → OpensAs (genesis_of trust m text) (Err why) → SaysUnstarted why held held' w w' status → IsNoGenesis trust m text told told left left held held' w w' k k status
  setup_refused (unstarted.Refused line) opens said = record {
    why = unstarted.Refused line;
    is = λ l e. opens ∙ ap (λ (u : StartLine). Err u) (cc);
    memory = λ s e. absurd (cc);
    said = said;
    unread = refl;
    disk = refl;
    uncounted = refl;
  }
  setup_refused (unstarted.Stopped why) opens said = record {
    why = unstarted.Stopped why;
    is = λ l e. absurd (cc);
    memory = λ s e. let it : why ≡ s = cc in sym it ∙ opens;
    said = said;
    unread = refl;
    disk = refl;
    uncounted = refl;
  }

pub no_genesis : (trust : Trust) (accepts : Accepting) (m : ℕ) (text : List ℕ) (told : Option History) (left held held' : Option (List ℕ)) (r w w' k status : ℕ) (why : Unstarted) → OpensAs (genesis_of trust m text) (Err why) → SaysUnstarted why held held' w w' status
    → EndsText trust accepts m text told told left left held held' r r w w' k k status
no_genesis trust accepts m text told left held held' r w w' k status why opens said = inl (setup_refused trust m text told left held held' w w' k status why opens said)

module _ (trust : Trust) (accepts : Accepting) (m : ℕ) (text : List ℕ) (told told' : Option History) (left left' held held' : Option (List ℕ)) (r r' w w' k k' status : ℕ) (scene : Scene) where
  pub begun_ends : (mid : ℕ) (at : Option History) → genesis_of trust m text ≡ Ok scene → HasHead told m text head.Own → at ≡ told → k ≤ mid → EndsJournal accepts scene m at told' left left' held held' r r' w w' mid k' status
      → EndsText trust accepts m text told told' left left' held held' r r' w w' k k' status
  begun_ends mid at genesis own same later ends = inr (inr (record {
    scene = scene;
    genesis = genesis;
    own = own;
    mid = mid;
    later = later;
    ends = subst (λ (h : Option History). EndsJournal accepts scene m h told' left left' held held' r r' w w' mid k' status) same ends;
  }))

pub no_journal : (trust : Trust) (accepts : Accepting) (m : ℕ) (text : List ℕ) (told told' : Option History) (left held held' : Option (List ℕ)) (r w w' k k' status : ℕ) (scene : Scene) (why : Unstarted)
    → genesis_of trust m text ≡ Ok scene → IsHeadRefused why told m text k k' → told' ≡ told → SaysUnstarted why held held' w w' status → EndsText trust accepts m text told told' left left held held' r r w w' k k' status
no_journal trust accepts m text told told' left held held' r w w' k k' status scene why genesis is same said = inr (inl (record { scene = scene; genesis = genesis; why = why; is = is; said = said; unread = refl; disk = same }))

-- ---- the program

module _ (told told' : Option History) (left left' held held' : Option (List ℕ)) (r r' w w' k k' status : ℕ) where
  pub same_trust : (t : Trust) (m : ℕ) (text : List ℕ) → t ≡ program_trust → EndsText t t.accepts m text told told' left left' held held' r r' w w' k k' status → EndsTask (task.Serve m) text told told' left left' held held' r r' w w' k k' status
  same_trust t m text same ends = subst (λ (x : Trust). EndsText x x.accepts m text told told' left left' held held' r r' w w' k k' status) same ends

  pub task_done : (it : Task) (setup setup' : Option (List ℕ)) (g g' : ℕ) (text : List ℕ) → ReadsText longest_text setup setup' text → EndsTask it text told told' left left' held held' r r' w w' k k' status
      → EndsProcess it setup setup' g g' told told' left left' held held' r r' w w' k k' status
  task_done it setup setup' g g' text reads does = inr (record { text = text; reads = reads; does = does })

setup_cause : (g g' : ℕ) (why : Stop) → (why ≡ stop.ReadFault → Rose g g') → (why ≡ stop.WriteFault → ⊥) → (why ≡ stop.KeepFault → ⊥) → HasCause why g g' 0 0 0 0
setup_cause g g' stop.ReadFault rose unwritten unkept = rose refl
setup_cause g g' stop.WriteFault rose unwritten unkept = absurd (unwritten refl)
setup_cause g g' stop.KeepFault rose unwritten unkept = absurd (unkept refl)
setup_cause g g' stop.OutOfMemory rose unwritten unkept = tt

pub setup_unread : (it : Task) (setup setup' : Option (List ℕ)) (g g' : ℕ) (told : Option History) (left held : Option (List ℕ)) (r w k : ℕ) (why : Stop) (given : Result (List ℕ) Stop) → given ≡ Err why → (given ≡ Err stop.ReadFault → Rose g g')
    → (given ≡ Err stop.WriteFault → ⊥) × (given ≡ Err stop.KeepFault → ⊥) → EndsProcess it setup setup' g g' told told left left held held r r w w k k (status_of why)
setup_unread it setup setup' g g' told left held r w k why given is rose only = inl (record {
  why = why;
  cause = setup_cause g g' why (λ e. rose (is ∙ ap (λ (s : Stop). Err s) e)) (λ e. only.0 (is ∙ ap (λ (s : Stop). Err s) e)) (λ e. only.1 (is ∙ ap (λ (s : Stop). Err s) e));
  ends = refl;
  unread = refl;
  unsaid = refl;
  disk = refl;
  uncounted = refl;
})
