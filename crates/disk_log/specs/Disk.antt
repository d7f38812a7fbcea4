-- A disk, moment by moment, and what a crash may leave. Source: this profile.
use Rattle.std.specs.Prelude.{◌≡◌, ℕ, ◌+◌, ◌<◌, ◌≤◌, max, List, [], ◌∷◌, ◌++◌, ◌⊎◌, length, take, drop, slice_index, Option, Some, None, Result, MatchResult}
use Rattle.disk_log.specs.declared.moment.Span.{Span}
use Rattle.disk_log.specs.declared.moment.Moment.{Moment}
use Rattle.outside.specs.declared.faults.OutFault.{OutFault}
use Rattle.outside.specs.declared.faults.OutFault.TheVariants as fault
use Rattle.outside.specs.declared.faults.Failed.{Failed as Fault}

-- ---- one moment

-- the place lies in none of the ranges
abbrev pub IsOutside : List Span → ℕ → Type 0
IsOutside [] k = Unit {0}
IsOutside (span ∷ spans) k = ((k < span.at) ⊎ (span.at + span.count ≤ k)) × IsOutside spans k

-- a file that a crash at this moment may leave: its length is from the stable size to the greatest size since then;
-- inside the touched ranges any bytes, outside them the stable ones
pub record IsImage (m : Moment) (image : List ℕ) : Type 0 where
  pub no_shorter : length m.stable ≤ length image
  pub no_longer : length image ≤ m.most
  pub kept : (k : ℕ) → k < length m.stable → IsOutside m.ranges k → slice_index image k ≡ slice_index m.stable k

-- these bytes, all of them stable
pub record IsSettled (m : Moment) (bytes : List ℕ) : Type 0 where
  pub reads : m.reads ≡ bytes
  pub stable : m.stable ≡ bytes
  pub most : m.most ≡ length bytes
  pub ranges : m.ranges ≡ []

-- new differs from old only in `count` bytes from `at` on, which may reach past the old end
pub record IsTorn (at count : ℕ) (old new : List ℕ) : Type 0 where
  pub no_shorter : length old ≤ length new
  pub no_longer : length new ≤ max (length old) (at + count)
  pub kept : (k : ℕ) → k < length old → (k < at) ⊎ (at + count ≤ k) → slice_index new k ≡ slice_index old k

-- the old bytes with these at an offset, over what stood there and past the end
abbrev pub with_bytes : List ℕ → ℕ → List ℕ → List ℕ
with_bytes old at bytes = take at old ++ bytes ++ drop (at + length bytes) old

-- after a write, or a failed one, of so many bytes at an offset: its range is no longer stable
pub record IsTouched (old new : Moment) (at count : ℕ) : Type 0 where
  pub stable : new.stable ≡ old.stable
  pub most : new.most ≡ max old.most (at + count)
  pub ranges : new.ranges ≡ old.ranges ++ record { at = at; count = count } ∷ []

-- ---- all moments

-- the moments so far: the past ones, the first of them first, and the one that is now
pub record History : Type 0 where
  pub past : List Moment
  pub now : Moment

abbrev pub moments : History → List Moment
moments h = h.past ++ h.now ∷ []

-- one moment more
abbrev pub later : History → Moment → History
later h m = record { past = h.past ++ h.now ∷ []; now = m }

-- at each of these moments a crash leaves only files that have P
abbrev pub EachImage : (List ℕ → Type 0) → List Moment → Type 0
EachImage P [] = Unit {0}
EachImage P (m ∷ ms) = ((image : List ℕ) → IsImage m image → P image) × EachImage P ms

-- at each of these moments what reads give is one of the files that a crash may leave
abbrev pub AreSeen : List Moment → Type 0
AreSeen [] = Unit {0}
AreSeen (m ∷ ms) = IsImage m m.reads × AreSeen ms

-- at each moment from the old one on, including it, a crash leaves only files that have P; the moments
-- before it are as they were
pub record LeavesOnly (P : List ℕ → Type 0) (old new : History) : Type 0 where
  pub more : List Moment
  pub is : moments new ≡ moments old ++ more
  pub each : EachImage P (old.now ∷ more)

-- what holds of the moments, if they are observable
abbrev pub IfTold : Option History → (History → Type 0) → Type 0
IfTold None P = Unit {0}
IfTold (Some h) P = P h

-- all that reads give is stable: a crash leaves exactly that
abbrev pub IsQuiet : History → Type 0
IsQuiet h = IsSettled h.now h.now.reads

-- ---- what the calls of a disk do to observable moments

-- one moment more, in which what reads give has these bytes at their place
abbrev pub Wrote : History → Option History → ℕ → List ℕ → Type 0
Wrote old new at bytes =
    (m : Moment) × (new ≡ Some (later old m)) × IsTouched old.now m at (length bytes) × (m.reads ≡ with_bytes old.now.reads at bytes)

-- one moment more, in which what reads give may have changed in the range
abbrev pub Tried : History → Option History → ℕ → ℕ → Type 0
Tried old new at count =
    (m : Moment) × (new ≡ Some (later old m)) × IsTouched old.now m at count × IsTorn at count old.now.reads m.reads

-- what a write does: at Ok the bytes are written, after a fault they were tried, and if memory was refused nothing
-- changed. A disk that shows no moments shows none after it
abbrev pub Written : Option History → Option History → ℕ → List ℕ → Result (Unit {0}) OutFault → Type 0
Written None new at bytes result = new ≡ None
Written (Some old) new at bytes result = MatchResult result (λ _. Wrote old new at bytes) (after_fault old new at bytes)
  where
    after_fault : History → Option History → ℕ → List ℕ → OutFault → Type 0
    after_fault old new at bytes fault.Failed = Tried old new at (length bytes)
    after_fault old new at bytes fault.OutOfMemory = new ≡ Some old

-- what reads give is stable, in one moment more, or it was already
abbrev pub Settles : History → Option History → Type 0
Settles old new =
    ((m : Moment) × (new ≡ Some (later old m)) × IsSettled m old.now.reads) ⊎ ((new ≡ Some old) × IsSettled old.now old.now.reads)

-- a sync at Ok makes all that reads give stable; after a fault nothing changed. A disk that shows no moments shows none
-- after it
abbrev pub Synced : Option History → Option History → Result (Unit {0}) Fault → Type 0
Synced None new result = new ≡ None
Synced (Some old) new result = MatchResult result (λ _. Settles old new) (λ _. new ≡ Some old)

-- the bytes that a read gave are the observable ones from `at` on
abbrev pub IsGiven : Option History → ℕ → List ℕ → Type 0
IsGiven None at bytes = Unit {0}
IsGiven (Some h) at bytes = bytes ≡ take (length bytes) (drop at h.now.reads)

-- the size is that of the observable bytes
abbrev pub HasExtent : Option History → ℕ → Type 0
HasExtent None extent = Unit {0}
HasExtent (Some h) extent = length h.now.reads ≡ extent

-- a write that ends at `end` makes a shorter file that long; a failed one may make it longer, but never past `end`; if
-- memory was refused the size stays
abbrev pub GrowsTo : ℕ → ℕ → ℕ → Result (Unit {0}) OutFault → Type 0
GrowsTo old new end result = MatchResult result (λ _. new ≡ max old end) (after_fault old new end)
  where
    after_fault : ℕ → ℕ → ℕ → OutFault → Type 0
    after_fault old new end fault.Failed = (old ≤ new) × (new ≤ max old end)
    after_fault old new end fault.OutOfMemory = new ≡ old

-- ---- a write and a sync after it, on a disk whose bytes are stable

-- what a put that failed leaves
abbrev pub after_put : History → History → ℕ → ℕ → OutFault → Type 0
after_put old new at count fault.Failed = IsTorn at count old.now.reads new.now.reads
after_put old new at count fault.OutOfMemory = new ≡ old

-- at each moment of the call a crash leaves the old file with any bytes in the range; at Ok the bytes are stable, and
-- if memory was refused nothing changed
pub record IsPut (old new : History) (at : ℕ) (bytes : List ℕ) (result : Result (Unit {0}) OutFault) : Type 0 where
  pub torn : LeavesOnly (IsTorn at (length bytes) old.now.reads) old new
  pub ended : MatchResult result (λ _. IsSettled new.now (with_bytes old.now.reads at bytes)) (after_put old new at (length bytes))

-- `IsPut` on a disk that shows its moments; one that does not stays so
abbrev pub Put : Option History → Option History → ℕ → List ℕ → Result (Unit {0}) OutFault → Type 0
Put None new at bytes result = new ≡ None
Put (Some old) new at bytes result = (h : History) × (new ≡ Some h) × IsPut old h at bytes result
