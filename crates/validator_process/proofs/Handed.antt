-- What stands on the disk when a line is handed to the sink.
use Rattle.std.proofs.Common.{inl, inr, refl, sym, subst, ◌∙◌, arith, append-nil}
use Rattle.std.specs.Prelude.{◌≡◌, ◌⊎◌, ◌≤◌, ℕ, List, [], length, Option, Some, Ok}
use Rattle.outside.specs.Causes.{Rose}
use Rattle.outside.specs.Lists.{Journals}
use Rattle.disk_log.specs.Running.{HoldsLists}
use Rattle.schedule_text.specs.Schedule.{longest_text}
use Rattle.world_spec.specs.Scene.{Scene}
use Rattle.process_lines.specs.declared.starts.StartLine.{StartLine}
use Rattle.process_lines.specs.declared.starts.StartLine.TheVariants as start
use Rattle.validator_process.specs.declared.journal.Unopened.{Unopened}
use Rattle.validator_process.specs.declared.journal.Unopened.TheVariants as unopened
use Rattle.validator_process.specs.declared.reading.Unstarted.{Unstarted}
use Rattle.validator_process.specs.declared.reading.Unstarted.TheVariants as unstarted
use Rattle.validator_process.specs.declared.stop.Stop.{Stop}
use Rattle.validator_process.specs.declared.stop.Stop.TheVariants as stop
use Rattle.validator_process.specs.Ending.{EndsJournal, EndsLife, EndsText, HasCause, IsHeadRefused, IsSaid, IsUnopenedBy, SaysUnopened, SaysUnstarted, kept_in, program_trust}
use Rattle.validator_process.specs.Genesis.{genesis_of}
use Rattle.validator_process.specs.Handing.{IsAnswerHanded, IsFirstHanded}
use Rattle.validator_process.specs.Living.{IsProcess, Process}
use Rattle.validator_process.specs.Starting.{IsInside, LivesCut, start_bytes}
use Rattle.validator_process.specs.Stops.{status_of}
use Rattle.validator_process.proofs.Lives.{line-handed, same-scene, whole-text}

-- ---- the stop of status 5

of-sink : (why : Stop) (status : ℕ) → status ≡ status_of why → status ≡ 5 → why ≡ stop.WriteFault
of-sink stop.ReadFault status is five = absurd (omega (arith, is, five))
of-sink stop.WriteFault status is five = refl
of-sink stop.KeepFault status is five = absurd (omega (arith, is, five))
of-sink stop.OutOfMemory status is five = absurd (omega (arith, is, five))

not-inside : (why : Stop) (status : ℕ) → IsInside why → status ≡ status_of why → status ≡ 5 → ⊥
not-inside why status inside is five = subst (λ (s : Stop). IsInside s) (of-sink why status is five) inside

not-read : (why : Stop) (g g' status : ℕ) → HasCause why g g' 0 0 0 0 → status ≡ status_of why → status ≡ 5 → ⊥
not-read why g g' status cause is five =
    let rose : Rose 0 0 = subst (λ (s : Stop). HasCause s g g' 0 0 0 0) (of-sink why status is five) cause in
    omega (arith, rose)

not-memory : (why : Stop) (status : ℕ) → why ≡ stop.OutOfMemory → status ≡ status_of why → status ≡ 5 → ⊥
not-memory why status memory is five = let e : stop.OutOfMemory ≡ stop.WriteFault = sym memory ∙ of-sink why status is five in cc

not-keep : (why : Stop) (status : ℕ) → why ≡ stop.KeepFault → status ≡ status_of why → status ≡ 5 → ⊥
not-keep why status keep is five = let e : stop.KeepFault ≡ stop.WriteFault = sym keep ∙ of-sink why status is five in cc

-- ---- the ways in which it ends

module _ (scene : Scene) (m : ℕ) (few : m ≤ 63) (text : List ℕ) (p : Process) (five : p.status ≡ 5) where
  abbrev Handed : Type 0
  Handed = IsFirstHanded p ⊎ IsAnswerHanded scene m p

  first-handed : (line : StartLine) → p.unread ≡ p.asked → IsSaid line p.held p.holds p.write_before p.write_faults p.status → Handed
  first-handed line unread (inl whole) = inl (record { line = line; writes = (start_bytes line, [], sym (append-nil (start_bytes line)), whole.writes); unread = unread })
  first-handed line unread (inr cut) = inl (record { line = line; writes = cut.writes; unread = unread })

  no-genesis : (why : Unstarted) → ((it : Stop) → why ≡ unstarted.Stopped it → it ≡ stop.OutOfMemory) → p.unread ≡ p.asked → SaysUnstarted why p.held p.holds p.write_before p.write_faults p.status → Handed
  no-genesis (unstarted.Refused line) memory unread said = first-handed line unread said
  no-genesis (unstarted.Stopped why) memory unread said = absurd (not-memory why p.status (memory why refl) said.0 five)

  no-journal : (why : Unstarted) → IsHeadRefused why (Some p.first) m text p.disk_before p.disk_faults → p.unread ≡ p.asked → SaysUnstarted why p.held p.holds p.write_before p.write_faults p.status → Handed
  no-journal (unstarted.Refused line) is unread said = first-handed line unread said
  no-journal (unstarted.Stopped why) is unread said = absurd (not-keep why p.status is.0 said.0 five)

  unopened-handed : (k : ℕ) (why : Unopened) → IsUnopenedBy why (Some p.first) k p.disk_faults → p.unread ≡ p.asked → SaysUnopened why p.held p.holds p.write_before p.write_faults p.status → Handed
  unopened-handed k unopened.BadList cause unread said = first-handed start.NotMade unread said
  unopened-handed k (unopened.Stopped why) cause unread said = absurd (not-inside why p.status cause.0 said.0 five)

  life-handed : (k files : ℕ) (now : Option Journals) → HoldsLists files p.disk_faults (Some p.last) now
      → EndsLife program_trust.accepts scene m p.asked p.unread p.held p.holds (kept_in (Some p.first)) now p.read_before p.read_faults p.write_before p.write_faults k p.disk_faults p.status → Handed
  life-handed k files now holds (inl whole) = absurd (let e : 0 ≡ 5 = sym whole.ends ∙ five in cc)
  life-handed k files now holds (inr (inl cut)) = line-handed scene m few p files p.disk_faults now holds cut.seat cut.mid cut.starts cut.same (subst (λ (why : Stop). LivesCut program_trust.accepts why cut.seat p.asked p.unread p.held p.holds cut.mid now) (of-sink cut.why p.status cut.ends five) cut.lives)
  life-handed k files now holds (inr (inr (inl refused))) = first-handed refused.line refused.unread refused.said
  life-handed k files now holds (inr (inr (inr stopped))) = absurd (not-inside stopped.why p.status stopped.inside stopped.ends five)

  journal-handed : (k : ℕ) → EndsJournal program_trust.accepts scene m (Some p.first) (Some p.last) p.asked p.unread p.held p.holds p.read_before p.read_faults p.write_before p.write_faults k p.disk_faults p.status → Handed
  journal-handed k (inl life) = life-handed life.opened life.over.width life.over.lists life.over.holds life.over.ends
  journal-handed k (inr none) = unopened-handed k none.why none.cause none.unread none.said

  text-handed : genesis_of program_trust m text ≡ Ok scene → EndsText program_trust program_trust.accepts m text (Some p.first) (Some p.last) p.asked p.unread p.held p.holds p.read_before p.read_faults p.write_before p.write_faults p.disk_before p.disk_faults p.status → Handed
  text-handed genesis (inl none) = no-genesis none.why none.memory none.unread none.said
  text-handed genesis (inr (inl none)) = no-journal none.why none.is none.unread none.said
  text-handed genesis (inr (inr begun)) =
      journal-handed begun.mid
      (subst (λ (s : Scene). EndsJournal program_trust.accepts s m (Some p.first) (Some p.last) p.asked p.unread p.held p.holds p.read_before p.read_faults p.write_before p.write_faults begun.mid p.disk_faults p.status) (same-scene scene m few p begun.scene scene (sym begun.genesis ∙ genesis)) begun.ends)

  process-handed : length text ≤ longest_text → genesis_of program_trust m text ≡ Ok scene → IsProcess m text p → Handed
  process-handed short genesis (inl unread) = absurd (not-read unread.why p.setup_before p.setup_faults p.status unread.cause unread.ends five)
  process-handed short genesis (inr done) =
      text-handed genesis
      (subst (λ (t : List ℕ). EndsText program_trust program_trust.accepts m t (Some p.first) (Some p.last) p.asked p.unread p.held p.holds p.read_before p.read_faults p.write_before p.write_faults p.disk_before p.disk_faults p.status) (whole-text text done.text p.setup short done.reads) done.does)

pub kept-first : (m : ℕ) (text : List ℕ) (scene : Scene) → m ≤ 63 → length text ≤ longest_text → genesis_of program_trust m text ≡ Ok scene → (p : Process) → IsProcess m text p → p.status ≡ 5 → IsFirstHanded p ⊎ IsAnswerHanded scene m p
kept-first m text scene few short genesis p is five = process-handed scene m few text p five short genesis is
