-- The moments of a file in memory, after one change more.
use Rattle.std.proofs.Common.{◌≡◌, ◌⊎◌, inl, inr, ℕ, zero, suc, ◌+◌, ◌-◌, ◌^◌, ◌<◌, ◌≤◌, max, Bool, true, false, List, [], ◌∷◌, ◌++◌, length, take, drop, get_or, set, refl, sym, ◌∙◌, ap, subst, arith, length-append, length-take, length-drop, Some, Option}
use Rattle.std.specs.Prelude.{All, if◌then◌else◌}
use Rattle.disk_log.specs.declared.moment.Moment.{Moment}
use Rattle.disk_log.specs.declared.mem_disk.Change.{Change}
use Rattle.disk_log.specs.Disk.{History, later, with_bytes, moments, IsTouched, IsTorn, IsSettled, Wrote, Tried, Settles}
use Rattle.disk_log.specs.Memory.{settled_at, touched_by, behind_change, grown, history_of, moment_behind, moment_by, last_synced}

-- a change that was made last is the last
pub grown-push : (h : History) (changes : List Change) (change : Change) → grown h (changes ++ change ∷ []) ≡ behind_change (grown h changes) change
grown-push h [] change = refl
grown-push h (c ∷ changes) change = grown-push (behind_change h c) changes change

pub grown-now : (h : History) (changes : List Change) → (grown h changes).now ≡ moment_by h.now changes
grown-now h [] = refl
grown-now h (c ∷ changes) = grown-now (behind_change h c) changes ∙ ap (λ (m : Moment). moment_by m changes) (step c.synced refl)
  where
    step : (b : Bool) → c.synced ≡ b → (behind_change h c).now ≡ moment_behind h.now c
    step true is = rw is refl
    step false is = rw is refl

settled_is : (bytes : List ℕ) → IsSettled (settled_at bytes) bytes
settled_is bytes = record { reads = refl; stable = refl; most = refl; ranges = refl }

-- a sync after the last change makes what reads give stable, or it was so already
settles : (h : History) (change : Change) (changes : List Change) → Settles (grown h (change ∷ changes)) (Some (grown h (last_synced (change ∷ changes))))
settles h change [] = last change.synced refl
  where
    last : (b : Bool) → change.synced ≡ b → Settles (grown h (change ∷ [])) (Some (grown h (record change { synced = true } ∷ [])))
    last true is = rw is (inr (refl, settled_is _))
    last false is = rw is (inl (settled_at (touched_by h.now change).reads, refl, settled_is _))
settles h change (next ∷ changes) = settles (behind_change h change) next changes

pub sync-settles : (first : List ℕ) (changes : List Change) → Settles (history_of first changes) (Some (history_of first (last_synced changes)))
sync-settles first [] = inr (refl, settled_is first)
sync-settles first (change ∷ changes) = settles (record { past = []; now = settled_at first }) change changes

-- reads give the same if the last change is taken as synced
reads-last : (h : History) (changes : List Change) → (grown h (last_synced changes)).now.reads ≡ (grown h changes).now.reads
reads-last h [] = refl
reads-last h (change ∷ []) = last change.synced refl
  where
    last : (b : Bool) → change.synced ≡ b → (grown h (record change { synced = true } ∷ [])).now.reads ≡ (grown h (change ∷ [])).now.reads
    last true is = rw is refl
    last false is = rw is refl
reads-last h (change ∷ next ∷ changes) = reads-last (behind_change h change) (next ∷ changes)

pub reads-synced : (first : List ℕ) (changes : List Change) → (history_of first (last_synced changes)).now.reads ≡ (history_of first changes).now.reads
reads-synced first changes = reads-last (record { past = []; now = settled_at first }) changes

-- ---- a write

pub length-with_bytes : (old : List ℕ) (at : ℕ) (bytes : List ℕ) → at ≤ length old → length (with_bytes old at bytes) ≡ max (length old) (at + length bytes)
length-with_bytes old at bytes le =
    omega (arith, length-append (take at old ++ bytes) (drop (at + length bytes) old), length-append (take at old) bytes, length-take at old, length-drop (at + length bytes) old)

module _ (first : List ℕ) (old new : List Change) (at : ℕ) (bytes : List ℕ) (failed : Bool) (is : new ≡ old ++ record { at = at; bytes = bytes; failed = failed; synced = false } ∷ []) where
  behind : history_of first new ≡ later (history_of first old) (touched_by (history_of first old).now (record { at = at; bytes = bytes; failed = failed; synced = false }))
  behind = ap (λ (l : List Change). history_of first l) is ∙ grown-push (record { past = []; now = settled_at first }) old (record { at = at; bytes = bytes; failed = failed; synced = false })

  pub reads-tried : failed ≡ true → (history_of first new).now.reads ≡ (history_of first old).now.reads
  reads-tried fails = ap (λ (h : History). h.now.reads) behind ∙ choice failed fails
    where
      choice : (b : Bool) → b ≡ true → (if b then (history_of first old).now.reads else with_bytes (history_of first old).now.reads at bytes) ≡ (history_of first old).now.reads
      choice b e = rw e refl

  pub reads-wrote : failed ≡ false → (history_of first new).now.reads ≡ with_bytes (history_of first old).now.reads at bytes
  reads-wrote fails = ap (λ (h : History). h.now.reads) behind ∙ choice failed fails
    where
      choice : (b : Bool) → b ≡ false → (if b then (history_of first old).now.reads else with_bytes (history_of first old).now.reads at bytes) ≡ with_bytes (history_of first old).now.reads at bytes
      choice b e = rw e refl

  pub tried : failed ≡ true → Tried (history_of first old) (Some (history_of first new)) at (length bytes)
  tried fails =
      let m : Moment = touched_by (history_of first old).now (record { at = at; bytes = bytes; failed = failed; synced = false }) in
      let reads : m.reads ≡ (history_of first old).now.reads = choice failed fails in (
        m,
        ap (λ (h : History). Some h) behind,
        record { stable = refl; most = refl; ranges = refl },
        subst (λ (l : List ℕ). IsTorn at (length bytes) (history_of first old).now.reads l) (sym reads) (record { no_shorter = omega arith; no_longer = omega arith; kept = λ k lt out. refl }),
      )
    where
      choice : (b : Bool) → b ≡ true → (if b then (history_of first old).now.reads else with_bytes (history_of first old).now.reads at bytes) ≡ (history_of first old).now.reads
      choice b e = rw e refl

  pub wrote : failed ≡ false → Wrote (history_of first old) (Some (history_of first new)) at bytes
  wrote fails = (
    touched_by (history_of first old).now (record { at = at; bytes = bytes; failed = failed; synced = false }),
    ap (λ (h : History). Some h) behind,
    record { stable = refl; most = refl; ranges = refl },
    choice failed fails,
  )
    where
      choice : (b : Bool) → b ≡ false → (if b then (history_of first old).now.reads else with_bytes (history_of first old).now.reads at bytes) ≡ with_bytes (history_of first old).now.reads at bytes
      choice b e = rw e refl

-- ---- every change ends below a limit

abbrev pub Fits : Change → Type 0
Fits c = c.at + length c.bytes < 2 ^ 63

length-last : (changes : List Change) → length (last_synced changes) ≡ length changes
length-last [] = refl
length-last (c ∷ []) = refl
length-last (c ∷ d ∷ changes) = ap suc (length-last (d ∷ changes))

last-fits : (changes : List Change) (k : ℕ) (d : Change) → Fits (get_or changes k d) → Fits (get_or (last_synced changes) k d)
last-fits [] k d fits = fits
last-fits (c ∷ []) zero d fits = fits
last-fits (c ∷ []) (suc k) d fits = fits
last-fits (c ∷ e ∷ changes) zero d fits = fits
last-fits (c ∷ e ∷ changes) (suc k) d fits = last-fits (e ∷ changes) k d fits

pub all-fit : (changes : List Change) → All Fits changes → All Fits (last_synced changes)
all-fit changes all k d lt = last-fits changes k d (all k d (omega (arith, length-last changes)))

-- what becomes of the last change, by its place
pub set-last : (changes : List Change) (n : ℕ) (last : Change) → length changes ≡ suc n → last ≡ get_or changes n last → set changes n (record last { synced = true }) ≡ last_synced changes
set-last [] n last size is = absurd (omega arith)
set-last (c ∷ []) zero last size is = ap (λ (l : Change). record l { synced = true } ∷ []) is
set-last (c ∷ []) (suc n) last size is = absurd (omega arith)
set-last (c ∷ d ∷ changes) zero last size is = absurd (omega arith)
set-last (c ∷ d ∷ changes) (suc n) last size is = ap (λ (l : List Change). c ∷ l) (set-last (d ∷ changes) n last (omega arith) is)
