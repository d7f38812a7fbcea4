-- The head of a journal at later starts. Source: this profile.
use Rattle.std.specs.Prelude.{◌≡◌, ◌≤◌, ℕ, List, length}
use Rattle.disk_log.specs.Disk.{History}
use Rattle.schedule_text.specs.Schedule.{longest_text}
use Rattle.protocol_spec.specs.Chain.Words.{Each}
use Rattle.lives_law.specs.Files.{IsLeft}
use Rattle.validator_process.specs.FirstStart.{HasMade}
use Rattle.validator_process.specs.Identity.{genesis_digest, head_of_file}
use Rattle.validator_process.specs.Living.{AreProcesses, Process}
use Rattle.validator_process.specs.declared.identity.Head.TheVariants as head

-- the first bytes of a file are those of the journal of this member and this set-up
abbrev pub IsOwn : ℕ → List ℕ → List ℕ → Type 0
IsOwn m text file = head_of_file m (genesis_digest text) file ≡ head.Own

-- each file that a crash may leave now begins with the head of this member's journal of this set-up
abbrev pub LeavesOwn : ℕ → List ℕ → History → Type 0
LeavesOwn m text h = (file : List ℕ) → IsLeft h file → IsOwn m text file

-- the theorem of `init`: a making with status 0 leaves the head in each file that a crash may leave
abbrev pub MadeLeavesHead : Type 0
MadeLeavesHead = (m : ℕ) (text : List ℕ) → length text ≤ longest_text → (made : Process) → HasMade m text made → LeavesOwn m text made.last

-- the theorem of later starts: processes that run one after the other on a disk with that head all find it and leave it
abbrev pub HeadStays : Type 0
HeadStays = (m : ℕ) (text : List ℕ) (h : History) (ps : List Process) (file : List ℕ) → LeavesOwn m text h → AreProcesses m text h ps file
    → Each (λ (p : Process). IsOwn m text p.first.now.reads) ps × IsOwn m text file
