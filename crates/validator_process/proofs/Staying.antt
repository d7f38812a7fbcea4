-- The head of a journal at later starts.
use Rattle.std.proofs.Common.{inl, inr, refl, sym, subst, ap, ◌∙◌}
use Rattle.std.specs.Prelude.{◌≡◌, ◌⊎◌, ◌≤◌, ℕ, List, [], ◌∷◌, ◌++◌, length, Some}
use Rattle.disk_log.specs.Disk.{History, IsImage}
use Rattle.disk_log.specs.Records.{Record, counted}
use Rattle.disk_log.specs.Running.{IsUnchanged, Unchanged}
use Rattle.disk_log.proofs.Moments.{settled-image}
use Rattle.schedule_text.specs.Schedule.{longest_text}
use Rattle.protocol_spec.specs.Chain.Words.{Each, IsFront}
use Rattle.world_spec.specs.Scene.{Scene}
use Rattle.run_law.proofs.Members.{tagged-digest}
use Rattle.lives_law.specs.Files.{Follows, IsLeft}
use Rattle.validator_process.specs.Ending.{EndsJournal, EndsText, program_trust}
use Rattle.validator_process.specs.FirstStart.{HasMade}
use Rattle.validator_process.specs.Growing.{LeavesFirst}
use Rattle.validator_process.specs.Identity.{genesis_digest, identity_record}
use Rattle.validator_process.specs.Living.{AreProcesses, IsProcess, Process}
use Rattle.validator_process.specs.Staying.{HeadStays, IsOwn, LeavesOwn, MadeLeavesHead}
use Rattle.validator_process.proofs.FirstStarts.{made-alone}
use Rattle.validator_process.proofs.Headed.{own_head, own_record}

module _ (m : ℕ) (text : List ℕ) where
  abbrev own : Record
  own = identity_record m (genesis_digest text)

  first-own : (file : List ℕ) (more : List Record) → counted file ≡ own ∷ more → IsOwn m text file
  first-own file more is = own_head m (genesis_digest text) file more (tagged-digest 74 text) is

  same-own : (old file : List ℕ) → counted file ≡ counted old → IsOwn m text old → IsOwn m text file
  same-own old file same is = let there = own_record m (genesis_digest text) old is in first-own file there.0 (same ∙ there.1)

  more-own : (old file : List ℕ) → IsFront (counted old) (counted file) → IsOwn m text old → IsOwn m text file
  more-own old file (more, e) is =
      let there = own_record m (genesis_digest text) old is in
      first-own file (there.0 ++ more) (e ∙ ap (λ (l : List Record). l ++ more) there.1)

  -- ---- the disk of the next process

  follows-own : (h next : History) → LeavesOwn m text h → Follows h next → LeavesOwn m text next
  follows-own h next leaves (inl same) = subst (λ (x : History). LeavesOwn m text x) (sym same) leaves
  follows-own h next leaves (inr (left, quiet)) = go
    where
      go : (file : List ℕ) → IsLeft next file → IsOwn m text file
      go file (inl same) = subst (λ (f : List ℕ). IsOwn m text f) (sym same) (leaves next.now.reads left)
      go file (inr image) = subst (λ (f : List ℕ). IsOwn m text f) (sym (settled-image next.now next.now.reads quiet file image)) (leaves next.now.reads left)

  -- ---- one process

  module _ (p : Process) (leaves : LeavesOwn m text p.first) where
    found : IsOwn m text p.first.now.reads
    found = leaves p.first.now.reads (inl refl)

    some-history : (a b : History) → Some a ≡ Some b → a ≡ b
    some-history a b e = cc

    same-disk : p.last ≡ p.first → LeavesOwn m text p.last
    same-disk same = subst (λ (x : History). LeavesOwn m text x) (sym same) leaves

    unchanged : IsUnchanged p.first p.last → LeavesOwn m text p.last
    unchanged stays = go
      where
        by-crash : (file : List ℕ) → IsImage p.last.now file → (p.last ≡ p.first) ⊎ ((f : List ℕ) → IsImage p.last.now f → counted f ≡ counted p.first.now.reads) → IsOwn m text file
        by-crash file image (inl same) = same-disk same file (inr image)
        by-crash file image (inr crash) = same-own p.first.now.reads file (crash file image) found

        go : (file : List ℕ) → IsLeft p.last file → IsOwn m text file
        go file (inl same) = same-own p.first.now.reads file (ap (λ (f : List ℕ). counted f) same ∙ stays.reads) found
        go file (inr image) = by-crash file image stays.crash

    not-opened : Unchanged (Some p.first) (Some p.last) → LeavesOwn m text p.last
    not-opened (h, same, stays) = unchanged (subst (λ (x : History). IsUnchanged p.first x) (sym (some-history p.last h same)) stays)

    grown : LeavesFirst (counted p.first.now.reads) p.last → LeavesOwn m text p.last
    grown first file left = more-own p.first.now.reads file (first file left) found

    journal-own : (scene : Scene) (k : ℕ) → EndsJournal program_trust.accepts scene m (Some p.first) (Some p.last) p.asked p.unread p.held p.holds p.read_before p.read_faults p.write_before p.write_faults k p.disk_faults p.status → LeavesOwn m text p.last
    journal-own scene k (inl life) = grown life.over.grows
    journal-own scene k (inr none) = not-opened none.stays

    text-own : (read : List ℕ) → EndsText program_trust program_trust.accepts m read (Some p.first) (Some p.last) p.asked p.unread p.held p.holds p.read_before p.read_faults p.write_before p.write_faults p.disk_before p.disk_faults p.status → LeavesOwn m text p.last
    text-own read (inl none) = same-disk (some-history p.last p.first none.disk)
    text-own read (inr (inl none)) = same-disk (some-history p.last p.first none.disk)
    text-own read (inr (inr begun)) = journal-own begun.scene begun.mid begun.ends

    process-own : IsProcess m text p → LeavesOwn m text p.last
    process-own (inl unread) = same-disk (some-history p.last p.first unread.disk)
    process-own (inr done) = text-own done.text done.does

  -- ---- one after the other

  all-find : (ps : List Process) (h : History) (file : List ℕ) → LeavesOwn m text h → AreProcesses m text h ps file → Each (λ (p : Process). IsOwn m text p.first.now.reads) ps × IsOwn m text file
  all-find [] h file leaves left = (tt, leaves file left)
  all-find (p ∷ ps) h file leaves are =
      let here : LeavesOwn m text p.first = follows-own h p.first leaves are.0 in
      let rest = all-find ps p.last file (process-own p here are.1) are.2 in
      ((found p here, rest.0), rest.1)

  made-own : length text ≤ longest_text → (made : Process) → HasMade m text made → LeavesOwn m text made.last
  made-own short made has = go
    where
      go : (file : List ℕ) → IsLeft made.last file → IsOwn m text file
      go file (inl same) = first-own file [] (ap (λ (f : List ℕ). counted f) same ∙ (made-alone m text short made has).reads)
      go file (inr image) = first-own file [] ((made-alone m text short made has).crash file image)

pub head-stays : HeadStays
head-stays m text h ps file leaves are = all-find m text ps h file leaves are

pub made-leaves : MadeLeavesHead
made-leaves m text short made has = made-own m text short made has
