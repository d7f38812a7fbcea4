-- A record more after the gate of a log.
use Rattle.std.proofs.Common.{◌≡◌, ◌≢◌, ◌⊎◌, inl, inr, ℕ, ◌+◌, ◌^◌, ◌<◌, ◌≤◌, Bool, true, false, List, [], ◌∷◌, ◌++◌, length, map, set, take, drop, get_or, refl, sym, ◌∙◌, ap, subst, arith, length-append, length-set, Option, Some, None, Result, Ok, Err}
use Rattle.std.proofs.lemmas.List.{map-set, length-take-le, length_push}
use Rattle.outside.specs.declared.faults.OutFault.{OutFault}
use Rattle.outside.specs.declared.faults.OutFault.TheVariants as fault
use Rattle.wire_bcs.specs.Little.{value_of}
use Rattle.disk_log.specs.declared.moment.Span.{Span}
use Rattle.disk_log.specs.declared.refusals.LogRefusal.{LogRefusal}
use Rattle.disk_log.specs.declared.refusals.LogRefusal.TheVariants as log
use Rattle.disk_log.specs.Disk.{History, IsImage, IfTold, LeavesOnly}
use Rattle.disk_log.specs.Log.{Rows, row_of, with_span, bytes_at, IsInside, IsListed, IsReady, IsAdded, IsRecorded, Recorded, HasOldOrNew}
use Rattle.disk_log.specs.Records.{Record, Whole, counted, records_to, head_of}
use Rattle.disk_log.specs.Keeping.{IsKept, IsGood, IsAppended, Appends, counts_behind}
use Rattle.disk_log.proofs.Counting.{Whole-push}
use Rattle.disk_log.proofs.Gates.{length-head, head-count, head-member, split-size}
use Rattle.disk_log.proofs.Listing.{listed-more, inside-with, get_or-map}
use Rattle.disk_log.proofs.Moments.{stays}
use Rattle.disk_log.proofs.Opening.{ready-leaves}
use Rattle.disk_log.proofs.Walking.{records-of, bytes-behind}

-- nothing was written: a crash leaves what it left
module _ (h : History) (end : ℕ) (rows : Rows) (kept : IsKept end rows h) (ready : IsReady h end) where
  leaves : (r : Record) → LeavesOnly (HasOldOrNew (records_to h.now.reads end) r) h h
  leaves r = stays (HasOldOrNew (records_to h.now.reads end) r) h (λ c image. inl (ready-leaves h end kept.whole kept.inside ready c image))

pub untouched : (old new : Option History) (end : ℕ) (rows : Rows) (member : ℕ) (bytes : List ℕ) → new ≡ old → IfTold old (IsKept end rows) → IfTold old (λ h. IsReady h end) → Recorded old new end member bytes (Err fault.OutOfMemory)
untouched None new end rows member bytes same kept ready = same
untouched (Some h) new end rows member bytes same kept ready = (
  h,
  same,
  record {
    any_moment = leaves h end rows kept ready (record { member = member; bytes = bytes });
    front = refl;
    inside = kept.inside;
    ended = ready;
  },
)

pub full : (old : Option History) (end : ℕ) (rows : Rows) (member : ℕ) (bytes : List ℕ) → IfTold old (IsKept end rows) → IfTold old (λ h. IsReady h end) → Appends old old end member bytes (Err log.Full)
full None end rows member bytes kept ready = refl
full (Some h) end rows member bytes kept ready = (
  h,
  refl,
  record {
    any_moment = leaves h end rows kept ready (record { member = member; bytes = bytes });
    records = refl;
    between = λ _ c image. ready-leaves h end kept.whole kept.inside ready c image;
  },
)

-- the record stands: the log has it
module _ (old new : History) (end member : ℕ) (bytes : List ℕ) (rows : Rows) (kept : IsKept end rows old) (inside : IsInside end rows) (lt : member < length rows) (short : length bytes < 256 ^ 4) (fits : member < 256 ^ 4) (added : IsAdded old new end member bytes) where
  abbrev front : List ℕ
  front = take end old.now.reads

  abbrev block : List ℕ
  block = 1 ∷ (head_of member bytes ++ bytes)

  abbrev records : List Record
  records = records_to old.now.reads end

  abbrev r : Record
  r = record { member = member; bytes = bytes }

  size : length front ≡ end
  size = split-size old.now.reads end kept.inside

  whole-front : Whole (front ++ block) (records ++ r ∷ [])
  whole-front =
      subst (λ (m : ℕ). Whole (front ++ block) (records ++ record { member = m; bytes = bytes } ∷ [])) (head-member member bytes fits)
      (Whole-push front records (head_of member bytes) bytes kept.whole (length-head member bytes) (head-count member bytes short))

  pub records-are : records_to new.now.reads (end + 9 + length bytes) ≡ records ++ r ∷ []
  records-are = ap (λ (l : List ℕ). counted (l ++ 0 ∷ [])) added.front ∙ records-of (front ++ block) (records ++ r ∷ []) whole-front

  whole-is : Whole (take (end + 9 + length bytes) new.now.reads) (records_to new.now.reads (end + 9 + length bytes))
  whole-is = subst (λ (l : List ℕ). Whole l (records_to new.now.reads (end + 9 + length bytes))) (sym added.front) (subst (Whole (front ++ block)) (sym records-are) whole-front)

  pub kept-more : IsKept (end + 9 + length bytes) (with_span rows member (record { at = end + 9; count = length bytes })) new
  kept-more = record {
    whole = whole-is;
    inside = added.inside;
    lists = subst (λ (l : List ℕ). IsListed l (with_span rows member (record { at = end + 9; count = length bytes })) (records_to new.now.reads (end + 9 + length bytes))) (sym added.front)
        (subst (IsListed (front ++ block) (with_span rows member (record { at = end + 9; count = length bytes }))) (sym records-are)
        (listed-more front block rows records member bytes (record { at = end + 9; count = length bytes }) lt (subst (λ (n : ℕ). IsInside n rows) (sym size) inside) (bytes-behind front (head_of member bytes) bytes end size (length-head member bytes)) kept.lists));
  }

  pub appended : LeavesOnly (HasOldOrNew records r) old new → IsAppended old new end r (Ok tt)
  appended any = record {
    any_moment = any;
    records = records-are;
    between = λ _ c image. ready-leaves new (end + 9 + length bytes) whole-is added.inside added.ready c image ∙ records-are;
  }

-- it does not: the log is as it was
kept-front : (old new : History) (end : ℕ) (rows : Rows) → IsKept end rows old → take end new.now.reads ≡ take end old.now.reads → end < length new.now.reads → IsKept end rows new
kept-front old new end rows kept same lt =
    let records-same : records_to new.now.reads end ≡ records_to old.now.reads end = ap (λ (l : List ℕ). counted (l ++ 0 ∷ [])) same in
    record {
      whole = subst (λ (l : List ℕ). Whole l (records_to new.now.reads end)) (sym same) (subst (Whole (take end old.now.reads)) (sym records-same) kept.whole);
      inside = lt;
      lists = subst (λ (l : List ℕ). IsListed l rows (records_to new.now.reads end)) (sym same) (subst (IsListed (take end old.now.reads) rows) (sym records-same) kept.lists);
    }

-- ---- the same, if the moments may be observable, with what becomes of the log

pub lands : (old new : Option History) (end member : ℕ) (bytes : List ℕ) (rows : Rows) → IsInside end rows → member < length rows → length bytes < 256 ^ 4 → member < 256 ^ 4 → IfTold old (IsKept end rows) → Recorded old new end member bytes (Ok tt)
    → Appends old new end member bytes (Ok tt) × IfTold new (IsKept (end + 9 + length bytes) (with_span rows member (record { at = end + 9; count = length bytes }))) × IfTold new (λ h. IsReady h (end + 9 + length bytes))
lands None new end member bytes rows inside lt short fits kept recorded =
    (recorded, subst (λ (o : Option History). IfTold o (IsKept (end + 9 + length bytes) (with_span rows member (record { at = end + 9; count = length bytes })))) (sym recorded) tt, subst (λ (o : Option History). IfTold o (λ h. IsReady h (end + 9 + length bytes))) (sym recorded) tt)
lands (Some h) new end member bytes rows inside lt short fits kept (n, is, recorded) = (
  (n, is, appended h n end member bytes rows kept inside lt short fits recorded.ended recorded.any_moment),
  subst (λ (o : Option History). IfTold o (IsKept (end + 9 + length bytes) (with_span rows member (record { at = end + 9; count = length bytes })))) (sym is) (kept-more h n end member bytes rows kept inside lt short fits recorded.ended),
  subst (λ (o : Option History). IfTold o (λ k. IsReady k (end + 9 + length bytes))) (sym is) recorded.ended.ready,
)

pub fails : (old new : Option History) (end member : ℕ) (bytes : List ℕ) (rows : Rows) → IfTold old (IsKept end rows) → Recorded old new end member bytes (Err fault.Failed) → Appends old new end member bytes (Err log.DiskFault) × IfTold new (IsKept end rows)
fails None new end member bytes rows kept recorded = (recorded, subst (λ (o : Option History). IfTold o (IsKept end rows)) (sym recorded) tt)
fails (Some h) new end member bytes rows kept (n, is, recorded) = (
  (
    n,
    is,
    record {
      any_moment = recorded.any_moment;
      records = ap (λ (l : List ℕ). counted (l ++ 0 ∷ [])) recorded.front;
      between = λ is-not. absurd (is-not refl);
    },
  ),
  subst (λ (o : Option History). IfTold o (IsKept end rows)) (sym is) (kept-front h n end rows kept recorded.front recorded.inside),
)

pub goes-on-without : (old new : Option History) (end member : ℕ) (bytes : List ℕ) (rows : Rows) → IfTold old (IsKept end rows) → Recorded old new end member bytes (Err fault.OutOfMemory) → Appends old new end member bytes (Err log.OutOfMemory) × IfTold new (IsKept end rows) × IfTold new (λ h. IsReady h end)
goes-on-without None new end member bytes rows kept recorded = (recorded, subst (λ (o : Option History). IfTold o (IsKept end rows)) (sym recorded) tt, subst (λ (o : Option History). IfTold o (λ h. IsReady h end)) (sym recorded) tt)
goes-on-without (Some h) new end member bytes rows kept (n, is, recorded) =
    let kept' : IsKept end rows n = kept-front h n end rows kept recorded.front recorded.inside in
    let same : records_to n.now.reads end ≡ records_to h.now.reads end = ap (λ (l : List ℕ). counted (l ++ 0 ∷ [])) recorded.front in (
      (
        n,
        is,
        record {
          any_moment = recorded.any_moment;
          records = same;
          between = λ _ c image. ready-leaves n end kept'.whole kept'.inside recorded.ended c image ∙ same;
        },
      ),
      subst (λ (o : Option History). IfTold o (IsKept end rows)) (sym is) kept',
      subst (λ (o : Option History). IfTold o (λ k. IsReady k end)) (sym is) recorded.ended,
    )

-- how many records each member has
pub counts-more : (rows : Rows) (m : ℕ) (span : Span) → map length (with_span rows m span) ≡ set (map length rows) m (get_or (map length rows) m 0 + 1)
counts-more rows m span =
    map-set length rows m (row_of rows m ++ span ∷ [])
    ∙ ap (λ (n : ℕ). set (map length rows) m n) (length_push (row_of rows m) span ∙ ap (λ (n : ℕ). n + 1) (sym (get_or-map length rows m [])))
