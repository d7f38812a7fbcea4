-- Opening a log: a sync, the walk over the records, and the gate after them.
use Rattle.std.proofs.Common.{◌≡◌, ◌⊎◌, inl, inr, ℕ, ◌+◌, ◌<◌, ◌≤◌, Bool, true, false, List, [], ◌∷◌, ◌++◌, length, take, drop, get_or, refl, sym, ◌∙◌, ap, subst, arith, Option, Some, None, Result, Ok, Err}
use Rattle.std.proofs.lemmas.List.{append-nil}
use Rattle.outside.specs.declared.faults.OutFault.{OutFault}
use Rattle.disk_log.specs.Disk.{History, IsImage, IsSettled, IsQuiet, IfTold, LeavesOnly, Settles, Synced}
use Rattle.outside.specs.Causes.{Rose}
use Rattle.disk_log.specs.declared.refusals.OpenRefusal.{OpenRefusal}
use Rattle.disk_log.specs.Log.{WalkCause, Rows, IsListed, IsReady, IsWalked, IsWalkedThrough, IsReadTo, IsMended, Mended}
use Rattle.disk_log.specs.Records.{Record, Whole, counted, records_to, bad_member}
use Rattle.disk_log.specs.Keeping.{IsKept, IsOpened, Opened, NotOpened, OpensOnly, LeavesRecords}
use Rattle.disk_log.proofs.Gates.{split, counts-front}
use Rattle.disk_log.proofs.Moments.{weaker, stays, settled-image}

-- after whole records and a gate that is ready, they count and no others
pub ready-leaves : (h : History) (end : ℕ) → Whole (take end h.now.reads) (records_to h.now.reads end) → end < length h.now.reads → IsReady h end → LeavesRecords h (records_to h.now.reads end)
ready-leaves h end whole lt ready image is =
    ap counted (settled-image h.now h.now.reads ready.quiet image is ∙ split h.now.reads end lt)
    ∙ counts-front (take end h.now.reads) (records_to h.now.reads end) whole (get_or h.now.reads end 0) (drop (end + 1) h.now.reads) ready.closed

-- after the first sync all is stable, and reads give the same
abbrev pub IsSynced : History → History → Type 0
IsSynced old mid = Settles old (Some mid) × IsQuiet mid × (mid.now.reads ≡ old.now.reads)

abbrev pub SyncedTold : Option History → Option History → Type 0
SyncedTold None mid = mid ≡ None
SyncedTold (Some old) mid = (m : History) × (mid ≡ Some m) × IsSynced old m

pub synced-told : (old mid : Option History) → Synced old mid (Ok tt) → SyncedTold old mid
synced-told None mid s = s
synced-told (Some h) mid (inl (n, is, settled)) = (record { past = h.past ++ h.now ∷ []; now = n }, is, (inl (n, refl, settled), subst (IsSettled n) (sym settled.reads) settled, settled.reads))
synced-told (Some h) mid (inr (is, settled)) = (h, is, (inr (refl, settled), settled, refl))

-- the walk over what reads give
pub read-to : (old mid told : Option History) (end : ℕ) (rows : Rows) → SyncedTold old mid → told ≡ mid → IfTold mid (λ h. IsWalkedThrough end rows h.now.reads) → IfTold told (IsReadTo end)
read-to None mid told end rows s same walked = subst (λ (o : Option History). IfTold o (IsReadTo end)) (sym (same ∙ s)) tt
read-to (Some h) mid told end rows (m, is, s) same walked =
    let w : IsWalkedThrough end rows m.now.reads = subst (λ (o : Option History). IfTold o (λ k. IsWalkedThrough end rows k.now.reads)) is walked in
    subst (λ (o : Option History). IfTold o (IsReadTo end)) (sym (same ∙ is)) (record {
      quiet = s.1;
      whole = w.walked.whole;
      counts = w.walked.counts ∙ ap (λ (l : List Record). records_to m.now.reads end ++ l) w.through ∙ append-nil (records_to m.now.reads end);
      gate = w.walked.gate;
      through = w.through;
    })

-- ---- it is refused

here : (old m : History) → IsSynced old m → (c : List ℕ) → IsImage m.now c → counted c ≡ counted old.now.reads
here old m s c image = ap counted (settled-image m.now m.now.reads s.1 c image ∙ s.2)

-- after it
pub refused-later : (old mid new : Option History) → SyncedTold old mid → new ≡ mid → NotOpened old new
refused-later None mid new s same = same ∙ s
refused-later (Some h) mid new (m, is, s) same = inr (m, same ∙ is, (m, s.0, stays (λ c. counted c ≡ counted h.now.reads) m (here h m s)))

moments : (old m n : History) → IsSynced old m → LeavesOnly (λ c. counted c ≡ counted m.now.reads) m n → LeavesOnly (λ c. counted c ≡ counted old.now.reads) m n
moments old m n s leaves = weaker (λ c. counted c ≡ counted m.now.reads) (λ c. counted c ≡ counted old.now.reads) m n (λ c is. is ∙ ap counted s.2) leaves

pub refused-at-gate : (old mid told new : Option History) (end : ℕ) (e : OutFault) → SyncedTold old mid → told ≡ mid → Mended told new end (Err e) → NotOpened old new
refused-at-gate None mid told new end e s same mended = subst (λ (o : Option History). Mended o new end (Err e)) (same ∙ s) mended
refused-at-gate (Some h) mid told new end e (m, is, s) same mended =
    let at : Mended (Some m) new end (Err e) = subst (λ (o : Option History). Mended o new end (Err e)) (same ∙ is) mended in
    inr (at.0, at.1, (m, s.0, moments h m at.0 s at.2.any_moment))

-- the first bad member of what was read is that of what was given
pub bad-told : (old mid : Option History) (members at : ℕ) → SyncedTold old mid → IfTold mid (λ h. bad_member members 0 (counted h.now.reads) ≡ Some at) → IfTold old (λ h. bad_member members 0 (counted h.now.reads) ≡ Some at)
bad-told None mid members at s bad = tt
bad-told (Some h) mid members at (m, is, s) bad =
    let there : bad_member members 0 (counted m.now.reads) ≡ Some at = subst (λ (o : Option History). IfTold o (λ k. bad_member members 0 (counted k.now.reads) ≡ Some at)) is bad in
    ap (λ (l : List ℕ). bad_member members 0 (counted l)) (sym s.2) ∙ there

-- ---- it is opened

module _ (h m n : History) (end : ℕ) (rows : Rows) (s : IsSynced h m) (w : IsWalkedThrough end rows m.now.reads) (mended : IsMended m n end (Ok tt)) where
  records-same : records_to n.now.reads end ≡ records_to m.now.reads end
  records-same = ap (λ (l : List ℕ). counted (l ++ 0 ∷ [])) mended.front

  all-of-them : records_to m.now.reads end ≡ counted m.now.reads
  all-of-them = sym (w.walked.counts ∙ ap (λ (l : List Record). records_to m.now.reads end ++ l) w.through ∙ append-nil (records_to m.now.reads end))

  pub kept : IsKept end rows n
  kept = record {
    whole = subst (λ (l : List ℕ). Whole l (records_to n.now.reads end)) (sym mended.front) (subst (Whole (take end m.now.reads)) (sym records-same) w.walked.whole);
    inside = mended.ready.0;
    lists = subst (λ (l : List ℕ). IsListed l rows (records_to n.now.reads end)) (sym mended.front) (subst (IsListed (take end m.now.reads) rows) (sym records-same) w.walked.lists);
  }

  pub opens : IsOpened h n end (length rows)
  opens = record {
    any_moment = (m, s.0, moments h m n s mended.any_moment);
    records = records-same ∙ all-of-them ∙ ap counted s.2;
    known = ap (λ (l : List ℕ). bad_member (length rows) 0 (counted l)) (sym s.2) ∙ w.walked.known ∙ ap (bad_member (length rows) end) w.through;
    between = λ image is. ready-leaves n end kept.whole mended.ready.0 mended.ready.1 image is ∙ records-same ∙ all-of-them ∙ ap counted s.2;
  }

pub told-opens : (old mid told new : Option History) (end members : ℕ) (rows : Rows) → SyncedTold old mid → told ≡ mid → length rows ≡ members → IfTold mid (λ k. IsWalkedThrough end rows k.now.reads) → Mended told new end (Ok tt) → Opened old new end members × IfTold new (IsKept end rows) × IfTold new (λ k. IsReady k end)
told-opens None mid told new end members rows s same width walked mended =
    let none-left : new ≡ None = subst (λ (o : Option History). Mended o new end (Ok tt)) (same ∙ s) mended in
    (none-left, subst (λ (o : Option History). IfTold o (IsKept end rows)) (sym none-left) tt, subst (λ (o : Option History). IfTold o (λ k. IsReady k end)) (sym none-left) tt)
told-opens (Some h) mid told new end members rows (m, is, s) same width walked mended =
    let w : IsWalkedThrough end rows m.now.reads = subst (λ (o : Option History). IfTold o (λ k. IsWalkedThrough end rows k.now.reads)) is walked in
    let at : Mended (Some m) new end (Ok tt) = subst (λ (o : Option History). Mended o new end (Ok tt)) (same ∙ is) mended in (
      (at.0, at.1, subst (IsOpened h at.0 end) width (opens h m at.0 end rows s w at.2)),
      subst (λ (o : Option History). IfTold o (IsKept end rows)) (sym at.1) (kept h m at.0 end rows s w at.2),
      subst (λ (o : Option History). IfTold o (λ k. IsReady k end)) (sym at.1) at.2.ready.1,
    )

-- why the walk was refused is why the log was
pub cause-told : (before mid now : ℕ) (old read : Option History) (width members : ℕ) (e : OpenRefusal) → before ≤ mid → width ≡ members → SyncedTold old read → WalkCause mid now read width e → WalkCause before now old members e
cause-told before mid now old read width members e le same s cause = record {
  later = omega (arith, le, cause.later);
  fault = λ is. let rose : Rose mid now = cause.fault is in omega (arith, le, rose);
  bad = λ at is. subst (λ (n : ℕ). IfTold old (λ h. bad_member n 0 (counted h.now.reads) ≡ Some at)) same (bad-told old read width at s (cause.bad at is));
}
