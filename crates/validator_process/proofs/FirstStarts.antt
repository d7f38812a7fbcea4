-- The first start of a member after its journal was made.
use Rattle.std.proofs.Common.{inl, inr, refl, sym, subst, ap, ◌∙◌, arith}
use Rattle.std.proofs.lemmas.List.{get_or-replicate, get_or-set_other}
use Rattle.std.specs.Prelude.{◌≡◌, ◌≢◌, ◌⊎◌, ◌<◌, ◌≤◌, ◌==◌, ℕ, Bool, true, false, cond, List, [], ◌∷◌, ◌++◌, length, get_or, replicate, slice_get, Option, Some, None, Result, Ok, Err, if◌then◌else◌}
use Rattle.outside.specs.Causes.{Rose}
use Rattle.outside.specs.Lists.{Journals, journal_of}
use Rattle.outside.specs.Streams.{ReadsText}
use Rattle.disk_log.specs.Disk.{History, IsImage}
use Rattle.disk_log.specs.Records.{Record, bad_member, counted, journals_of}
use Rattle.schedule_text.specs.declared.words.Schedule.{Schedule}
use Rattle.schedule_text.specs.Schedule.{Refused, longest_text, schedule_of}
use Rattle.protocol_spec.specs.Member.Member.{fresh}
use Rattle.world_spec.specs.Posts.{seat_at}
use Rattle.world_spec.specs.Scene.{Scene, rules_in}
use Rattle.world_spec.specs.Seats.{Seated}
use Rattle.world_spec.specs.Starts.{started}
use Rattle.world_spec.specs.Setting.{Trust}
use Rattle.world_core.specs.Crews.{honest_post}
use Rattle.world_core.specs.Replies.{Accepting}
use Rattle.run_law.proofs.Members.{tagged-digest}
use Rattle.process_lines.specs.declared.starts.StartLine.{StartLine}
use Rattle.process_lines.specs.declared.starts.StartLine.TheVariants as start
use Rattle.lives_law.specs.Files.{Follows, IsLeft, kept_of}
use Rattle.validator_process.specs.declared.identity.Head.{Head}
use Rattle.validator_process.specs.declared.identity.Head.TheVariants as head
use Rattle.validator_process.specs.declared.journal.Unopened.{Unopened}
use Rattle.validator_process.specs.declared.journal.Unopened.TheVariants as unopened
use Rattle.validator_process.specs.declared.reading.Unstarted.{Unstarted}
use Rattle.validator_process.specs.declared.reading.Unstarted.TheVariants as unstarted
use Rattle.validator_process.specs.declared.stop.Stop.{Stop}
use Rattle.validator_process.specs.declared.stop.Stop.TheVariants as stop
use Rattle.validator_process.specs.declared.words.Task.TheVariants as task
use Rattle.validator_process.specs.Ending.{EndsJournal, EndsLife, EndsMade, EndsMaking, EndsProcess, EndsText, HasCause, HasIdentity, HoldsOnly, IsHeadRefused, IsNoGenesis, IsNoJournal, IsSaid, IsUnopened, IsUnopenedBy, SaysUnopened, SaysUnstarted, kept_in, program_trust}
use Rattle.validator_process.specs.FirstStart.{HasMade, IsStarted, IsStopped, IsUp}
use Rattle.validator_process.specs.Genesis.{genesis_of, line_status, member_checked, scene_in, scene_of, started_in}
use Rattle.validator_process.specs.Identity.{genesis_digest, head_of_file, identity_record}
use Rattle.validator_process.specs.Living.{IsProcess, Process}
use Rattle.validator_process.specs.Starting.{IsInside, StartsAs}
use Rattle.validator_process.specs.Stops.{status_of}
use Rattle.validator_process.proofs.Headed.{own_head}
use Rattle.validator_process.proofs.Lives.{whole-text}
use Rattle.validator_process.proofs.Made.{never_zero, said_zero}

-- ---- what a making with 0 left

-- the answer to a text that makes no committee is not 0
checked-line : (m : ℕ) (scene : Scene) (b : Bool) (line : StartLine) → (if b then Ok scene else Err (start.NoMember m)) ≡ Err line → line_status line ≡ 0 → ⊥
checked-line m scene true line is nought = cc
checked-line m scene false line is nought = let it : start.NoMember m ≡ line = cc in let e : 8 ≡ 0 = ap line_status it ∙ nought in cc

empty-line : (trust : Trust) (m : ℕ) (s : Schedule) (b : Bool) (line : StartLine) → (if b then member_checked m (scene_in trust s) else Err start.HasEvents) ≡ Err line → line_status line ≡ 0 → ⊥
empty-line trust m s true line is nought = checked-line m (scene_in trust s) (honest_post (slice_get (scene_in trust s).posts m)) line is nought
empty-line trust m s false line is nought = let it : start.HasEvents ≡ line = cc in let e : 8 ≡ 0 = ap line_status it ∙ nought in cc

scene-line : (trust : Trust) (m : ℕ) (said : Result Schedule Refused) (line : StartLine) → scene_of trust m said ≡ Err line → line_status line ≡ 0 → ⊥
scene-line trust m (Err r) line is nought = let it : start.NoSchedule r.line r.cause ≡ line = cc in let e : 3 ≡ 0 = ap line_status it ∙ nought in cc
scene-line trust m (Ok s) line is nought = empty-line trust m s (length s.events == 0) line is nought

refused-line : (trust : Trust) (m : ℕ) (text : List ℕ) (line : StartLine) → genesis_of trust m text ≡ Err line → line_status line ≡ 0 → ⊥
unfolding genesis_of
refused-line trust m text line is nought = scene-line trust m (schedule_of text) line is nought

record Made (m : ℕ) (text : List ℕ) (h : History) : Type 0 where
  scene : Scene
  genesis : genesis_of program_trust m text ≡ Ok scene
  alone : HoldsOnly (identity_record m (genesis_digest text) ∷ []) h

module _ (m : ℕ) (text : List ℕ) (h h' : History) (held held' : Option (List ℕ)) (w w' k k' status : ℕ) (nought : status ≡ 0) where
  unstarted-zero : (why : Unstarted) → ((line : StartLine) → why ≡ unstarted.Refused line → genesis_of program_trust m text ≡ Err line) → SaysUnstarted why held held' w w' status → ⊥
  unstarted-zero (unstarted.Refused line) is said = refused-line program_trust m text line (is line refl) (said_zero line held held' w w' status said nought)
  unstarted-zero (unstarted.Stopped why) is said = never_zero why status said.0 nought

  unopened-zero : (why : Unopened) → SaysUnopened why held held' w w' status → ⊥
  unopened-zero unopened.BadList said = absurd (let e : 8 ≡ 0 = said_zero start.NotMade held held' w w' status said nought in cc)
  unopened-zero (unopened.Stopped why) said = never_zero why status said.0 nought

  making-alone : EndsMaking m text (Some h) (Some h') held held' w w' k k' status → HoldsOnly (identity_record m (genesis_digest text) ∷ []) h'
  making-alone (inl made) = made.alone nought
  making-alone (inr none) = absurd (unopened-zero none.why none.said)

  made-for : EndsMade program_trust m text (Some h) (Some h') held held' w w' k k' status → Made m text h'
  made-for (inl none) = absurd (unstarted-zero none.why none.is none.said)
  made-for (inr (inl long)) = absurd (let e : 8 ≡ 0 = said_zero start.NotEmpty held held' w w' status long.said nought in cc)
  made-for (inr (inr made)) = record { scene = made.scene; genesis = made.genesis; alone = making-alone made.ends }

made-by : (m : ℕ) (text : List ℕ) → length text ≤ longest_text → (p : Process) → HasMade m text p → Made m text p.last
made-by m text short p has = go has.ends
  where
    go : EndsProcess (task.Make m) (Some text) p.setup p.setup_before p.setup_faults (Some p.first) (Some p.last) p.asked p.unread p.held p.holds p.read_before p.read_faults p.write_before p.write_faults p.disk_before p.disk_faults p.status → Made m text p.last
    go (inl unread) = absurd (never_zero unread.why p.status unread.ends has.done)
    go (inr done) =
        subst (λ (t : List ℕ). Made m t p.last) (whole-text text done.text p.setup short done.reads)
        (made-for m done.text p.first p.last p.held p.holds p.write_before p.write_faults p.disk_before p.disk_faults p.status has.done done.does.2)

pub made-alone : (m : ℕ) (text : List ℕ) → length text ≤ longest_text → (p : Process) → HasMade m text p → HoldsOnly (identity_record m (genesis_digest text) ∷ []) p.last
made-alone m text short p has = (made-by m text short p has).alone

-- ---- what the next process finds

-- what it reads has only this record
next-counts : (records : List Record) (h next : History) → HoldsOnly records h → Follows h next → counted next.now.reads ≡ records
next-counts records h next alone (inl same) = ap (λ (x : History). counted x.now.reads) same ∙ alone.reads
next-counts records h next alone (inr (inl left, quiet)) = ap (λ (f : List ℕ). counted f) left ∙ alone.reads
next-counts records h next alone (inr (inr image, quiet)) = alone.crash next.now.reads image

rose-later : (a b c : ℕ) → a ≤ b → Rose b c → Rose a c
rose-later a b c later rose = omega (arith, later, rose)

none-rose : Rose 0 0 → ⊥
none-rose rose = omega (arith, rose)

abbrev scene_ok : Scene → Result Scene StartLine
scene_ok scene = Ok scene

abbrev seat_ok : Seated → Result Seated StartLine
seat_ok seat = Ok seat

-- the member has no record
no-record : (m : ℕ) (bytes : List ℕ) → m ≤ 63 → journal_of (journals_of 65 (record { member = 64; bytes = bytes } ∷ [])) m ≡ []
no-record m bytes few =
    get_or-set_other (replicate 65 []) 64 m (journal_of (replicate 65 []) 64 ++ bytes ∷ []) [] (λ same. absurd (omega (arith, few, same)))
    ∙ get_or-replicate 65 m [] [] (omega (arith, few))

module _ (scene : Scene) (m : ℕ) (few : m ≤ 63) (text : List ℕ) (genesis : genesis_of program_trust m text ≡ Ok scene) (p : Process) (finds : counted p.first.now.reads ≡ identity_record m (genesis_digest text) ∷ []) where
  abbrev accepts : Accepting
  accepts = program_trust.accepts

  empty : kept_of 65 m p.first.now.reads ≡ []
  empty = ap (λ (records : List Record). journal_of (journals_of 65 records) m) finds ∙ no-record m (identity_record m (genesis_digest text)).bytes few

  own : head_of_file m (genesis_digest text) p.first.now.reads ≡ head.Own
  own = own_head m (genesis_digest text) p.first.now.reads [] (tagged-digest 74 text) finds

  -- ---- a fault

  stopped : (why : Stop) → HasCause why p.setup_before p.setup_faults 0 0 p.disk_before p.disk_faults → p.status ≡ status_of why → p.unread ≡ p.asked → p.holds ≡ p.held → IsUp scene m p ⊎ IsStopped p
  stopped why cause ends unread unsaid = inr (record { why = why; cause = cause; ends = ends; unread = unread; unsaid = unsaid })

  setup-cause : (why : Stop) → HasCause why p.setup_before p.setup_faults 0 0 0 0 → HasCause why p.setup_before p.setup_faults 0 0 p.disk_before p.disk_faults
  setup-cause stop.ReadFault cause = cause
  setup-cause stop.WriteFault cause = cause
  setup-cause stop.KeepFault cause = absurd (none-rose cause)
  setup-cause stop.OutOfMemory cause = tt

  inside-cause : (k : ℕ) → p.disk_before ≤ k → (why : Stop) → IsInside why → (why ≡ stop.KeepFault → Rose k p.disk_faults) → HasCause why p.setup_before p.setup_faults 0 0 p.disk_before p.disk_faults
  inside-cause k later stop.ReadFault inside rose = absurd inside
  inside-cause k later stop.WriteFault inside rose = absurd inside
  inside-cause k later stop.KeepFault inside rose = rose-later p.disk_before k p.disk_faults later (rose refl)
  inside-cause k later stop.OutOfMemory inside rose = tt

  -- ---- no line refuses the start

  head-refused : (line : StartLine) → IsHeadRefused (unstarted.Refused line) (Some p.first) m text p.disk_before p.disk_faults → ⊥
  head-refused (start.Ready member epoch seen checkpoints records) is = is
  head-refused (start.Made member digest) is = is
  head-refused (start.NoSchedule at cause) is = is
  head-refused start.HasEvents is = is
  head-refused (start.NoMember member) is = is
  head-refused start.NotMade is = let e : head.Unmade ≡ head.Own = is ∙ own in cc
  head-refused start.OtherMember is = let e : head.OtherMember ≡ head.Own = is ∙ own in cc
  head-refused start.OtherGenesis is = let e : head.OtherGenesis ≡ head.Own = is ∙ own in cc
  head-refused start.NotEmpty is = is
  head-refused (start.BadRecord place) is = is

  from-none : started_in accepts scene m [] ≡ Ok (seat_at scene.terms m (fresh scene.opening))
  unfolding started
  from-none = refl

  start-refused : (line : StartLine) → StartsAs accepts scene m (kept_in (Some p.first)) (Err (unstarted.Refused line)) → ⊥
  start-refused line (records, are, starts) =
      let e : started_in accepts scene m [] ≡ Err line = subst (λ (kept : List (List ℕ)). started_in accepts scene m kept ≡ Err line) (are ∙ empty) starts in
      let never : seat_ok (seat_at scene.terms m (fresh scene.opening)) ≡ Err line = sym from-none ∙ e in
      cc

  list-known : (at : ℕ) → bad_member 65 0 (counted p.first.now.reads) ≡ Some at → ⊥
  list-known at is =
      let none : bad_member 65 0 (counted p.first.now.reads) ≡ None = ap (λ (records : List Record). bad_member 65 0 records) finds in
      cc

  -- ---- the ways in which it ends

  life-starts : (k : ℕ) (lists : Option Journals) → p.disk_before ≤ k → EndsLife accepts scene m p.asked p.unread p.held p.holds (kept_in (Some p.first)) lists p.read_before p.read_faults p.write_before p.write_faults k p.disk_faults p.status → IsUp scene m p ⊎ IsStopped p
  life-starts k lists later (inl whole) = inl (record { empty = empty; opened = k; lists = lists; lived = inl whole })
  life-starts k lists later (inr (inl cut)) = inl (record { empty = empty; opened = k; lists = lists; lived = inr cut })
  life-starts k lists later (inr (inr (inl refused))) = absurd (start-refused refused.line refused.starts)
  life-starts k lists later (inr (inr (inr broken))) = stopped broken.why (inside-cause k later broken.why broken.inside broken.cause) broken.ends broken.unread broken.unsaid

  unopened-starts : (k : ℕ) → p.disk_before ≤ k → (why : Unopened) → IsUnopenedBy why (Some p.first) k p.disk_faults → p.unread ≡ p.asked → SaysUnopened why p.held p.holds p.write_before p.write_faults p.status → IsUp scene m p ⊎ IsStopped p
  unopened-starts k later unopened.BadList cause unread said = absurd (list-known cause.0 cause.1)
  unopened-starts k later (unopened.Stopped why) cause unread said = stopped why (inside-cause k later why cause.0 cause.1) said.0 unread said.1

  journal-starts : (k : ℕ) → p.disk_before ≤ k → EndsJournal accepts scene m (Some p.first) (Some p.last) p.asked p.unread p.held p.holds p.read_before p.read_faults p.write_before p.write_faults k p.disk_faults p.status → IsUp scene m p ⊎ IsStopped p
  journal-starts k later (inl life) = life-starts life.opened life.over.lists (omega (arith, later, life.later)) life.over.ends
  journal-starts k later (inr none) = unopened-starts k later none.why none.cause none.unread none.said

  no-genesis : (why : Unstarted) → ((line : StartLine) → why ≡ unstarted.Refused line → genesis_of program_trust m text ≡ Err line) → ((it : Stop) → why ≡ unstarted.Stopped it → it ≡ stop.OutOfMemory)
      → p.unread ≡ p.asked → SaysUnstarted why p.held p.holds p.write_before p.write_faults p.status → IsUp scene m p ⊎ IsStopped p
  no-genesis (unstarted.Refused line) is memory unread said = absurd (let e : genesis_of program_trust m text ≡ Err line = is line refl in cc)
  no-genesis (unstarted.Stopped why) is memory unread said =
      stopped why (subst (λ (s : Stop). HasCause s p.setup_before p.setup_faults 0 0 p.disk_before p.disk_faults) (sym (memory why refl)) tt) said.0 unread said.1

  no-journal : (why : Unstarted) → IsHeadRefused why (Some p.first) m text p.disk_before p.disk_faults → p.unread ≡ p.asked → SaysUnstarted why p.held p.holds p.write_before p.write_faults p.status → IsUp scene m p ⊎ IsStopped p
  no-journal (unstarted.Refused line) is unread said = absurd (head-refused line is)
  no-journal (unstarted.Stopped why) is unread said =
      stopped why (subst (λ (s : Stop). HasCause s p.setup_before p.setup_faults 0 0 p.disk_before p.disk_faults) (sym is.0) is.1) said.0 unread said.1

  same-scene : (other : Scene) → genesis_of program_trust m text ≡ Ok other → other ≡ scene
  same-scene other is = let e : scene_ok other ≡ scene_ok scene = sym is ∙ genesis in cc

  text-starts : EndsText program_trust accepts m text (Some p.first) (Some p.last) p.asked p.unread p.held p.holds p.read_before p.read_faults p.write_before p.write_faults p.disk_before p.disk_faults p.status → IsUp scene m p ⊎ IsStopped p
  text-starts (inl none) = no-genesis none.why none.is none.memory none.unread none.said
  text-starts (inr (inl none)) = no-journal none.why none.is none.unread none.said
  text-starts (inr (inr begun)) =
      journal-starts begun.mid begun.later
      (subst (λ (s : Scene). EndsJournal accepts s m (Some p.first) (Some p.last) p.asked p.unread p.held p.holds p.read_before p.read_faults p.write_before p.write_faults begun.mid p.disk_faults p.status) (same-scene begun.scene begun.genesis) begun.ends)

  process-starts : length text ≤ longest_text → IsProcess m text p → IsUp scene m p ⊎ IsStopped p
  process-starts short (inl unread) = stopped unread.why (setup-cause unread.why unread.cause) unread.ends unread.unread unread.unsaid
  process-starts short (inr done) =
      text-starts (subst (λ (t : List ℕ). EndsText program_trust accepts m t (Some p.first) (Some p.last) p.asked p.unread p.held p.holds p.read_before p.read_faults p.write_before p.write_faults p.disk_before p.disk_faults p.status) (whole-text text done.text p.setup short done.reads) done.does)

pub made-starts : (m : ℕ) (text : List ℕ) → m ≤ 63 → length text ≤ longest_text → (made next : Process) → HasMade m text made → Follows made.last next.first → IsProcess m text next → IsStarted m text next
made-starts m text few short made next has follows is =
    let left = made-by m text short made has in
    let finds = next-counts (identity_record m (genesis_digest text) ∷ []) made.last next.first left.alone follows in
    record { scene = left.scene; genesis = left.genesis; starts = process-starts left.scene m few text left.genesis next finds short is }
