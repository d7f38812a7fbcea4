-- At each moment of a disk in memory what reads give is one of the files that a crash may leave.
use Rattle.std.proofs.Common.{◌≡◌, ◌⊎◌, inl, inr, ℕ, ◌+◌, ◌-◌, ◌<◌, ◌≤◌, min, Bool, true, false, List, [], ◌∷◌, ◌++◌, length, take, drop, get_or, refl, ◌∙◌, ap, arith, length-append, length-take, length-drop}
use Rattle.std.specs.Prelude.{if◌then◌else◌}
use Rattle.std.proofs.lemmas.List.{get_or-take, get_or-drop, get_or_append_left, get_or-append_right}
use Rattle.disk_log.specs.declared.moment.Span.{Span}
use Rattle.disk_log.specs.declared.moment.Moment.{Moment}
use Rattle.disk_log.specs.declared.mem_disk.Change.{Change}
use Rattle.disk_log.specs.Disk.{History, moments, later, AreSeen, IsImage, IsOutside, with_bytes}
use Rattle.disk_log.specs.Memory.{settled_at, touched_by, behind_change, grown, history_of}

-- ---- one moment

settled-seen : (bytes : List ℕ) → IsImage (settled_at bytes) bytes
settled-seen bytes = record { no_shorter = omega arith; no_longer = omega arith; kept = λ k lt out. refl }

outside-more : (spans : List Span) (span : Span) (k : ℕ) → IsOutside (spans ++ span ∷ []) k → IsOutside spans k × ((k < span.at) ⊎ (span.at + span.count ≤ k))
outside-more [] span k out = (tt, out.0)
outside-more (s ∷ spans) span k out =
    let rest = outside-more spans span k out.1 in
    ((out.0, rest.0), rest.1)

-- writing bytes at an offset changes no byte outside their range
module _ (old bytes : List ℕ) (at : ℕ) where
  size : length (with_bytes old at bytes) ≡ min at (length old) + length bytes + (length old - (at + length bytes))
  size = omega (arith, length-append (take at old ++ bytes) (drop (at + length bytes) old), length-append (take at old) bytes, length-take at old, length-drop (at + length bytes) old)

  elsewhere : (k : ℕ) → k < length old → (k < at) ⊎ (at + length bytes ≤ k) → get_or (with_bytes old at bytes) k 0 ≡ get_or old k 0
  elsewhere k lt (inl before) =
      get_or_append_left (take at old ++ bytes) (drop (at + length bytes) old) 0 k (omega (arith, length-append (take at old) bytes, length-take at old))
      ∙ get_or_append_left (take at old) bytes 0 k (omega (arith, length-take at old))
      ∙ get_or-take at old k 0 before
  elsewhere k lt (inr behind) =
      let end : length (take at old ++ bytes) ≡ at + length bytes = omega (arith, length-append (take at old) bytes, length-take at old) in
      let there : at + length bytes + (k - (at + length bytes)) ≡ k = omega arith in
      get_or-append_right (take at old ++ bytes) (drop (at + length bytes) old) (at + length bytes) k 0 end behind
      ∙ get_or-drop (at + length bytes) old (k - (at + length bytes)) 0
      ∙ ap (λ (i : ℕ). get_or old i 0) there

touched-seen : (m : Moment) (change : Change) → IsImage m m.reads → IsImage (touched_by m change) (touched_by m change).reads
touched-seen m change seen = choice change.failed refl
  where
    span : Span
    span = record { at = change.at; count = length change.bytes }

    choice : (b : Bool) → change.failed ≡ b → IsImage (touched_by m change) (if change.failed then m.reads else with_bytes m.reads change.at change.bytes)
    choice true is = rw is (record {
      no_shorter = seen.no_shorter;
      no_longer = omega (arith, seen.no_longer);
      kept = λ k lt out. seen.kept k lt (outside-more m.ranges span k out).0;
    })
    choice false is = rw is (record {
      no_shorter = omega (arith, seen.no_shorter, size m.reads change.bytes change.at);
      no_longer = omega (arith, seen.no_longer, size m.reads change.bytes change.at);
      kept = λ k lt out.
          let apart = outside-more m.ranges span k out in
          elsewhere m.reads change.bytes change.at k (omega (arith, seen.no_shorter)) apart.1 ∙ seen.kept k lt apart.0;
    })

-- ---- all of them

seen-append : (a b : List Moment) → AreSeen a → AreSeen b → AreSeen (a ++ b)
seen-append [] b x y = y
seen-append (m ∷ a) b x y = (x.0, seen-append a b x.1 y)

seen-later : (h : History) (m : Moment) → AreSeen (moments h) → IsImage m m.reads → AreSeen (moments (later h m))
seen-later h m seen here = seen-append (moments h) (m ∷ []) seen (here, tt)

last-of : (past : List Moment) (now : Moment) → AreSeen (past ++ now ∷ []) → IsImage now now.reads
last-of [] now seen = seen.0
last-of (m ∷ past) now seen = last-of past now seen.1

pub now-seen : (h : History) → AreSeen (moments h) → IsImage h.now h.now.reads
now-seen h seen = last-of h.past h.now seen

change-seen : (h : History) (change : Change) → AreSeen (moments h) → AreSeen (moments (behind_change h change))
change-seen h change seen = choice change.synced refl
  where
    touched : AreSeen (moments (later h (touched_by h.now change)))
    touched = seen-later h (touched_by h.now change) seen (touched-seen h.now change (now-seen h seen))

    choice : (b : Bool) → change.synced ≡ b → AreSeen (moments (behind_change h change))
    choice true is = rw is (seen-later (later h (touched_by h.now change)) (settled_at (touched_by h.now change).reads) touched (settled-seen (touched_by h.now change).reads))
    choice false is = rw is touched

grown-seen : (h : History) (changes : List Change) → AreSeen (moments h) → AreSeen (moments (grown h changes))
grown-seen h [] seen = seen
grown-seen h (change ∷ changes) seen = grown-seen (behind_change h change) changes (change-seen h change seen)

pub history_seen : (first : List ℕ) (changes : List Change) → AreSeen (moments (history_of first changes))
history_seen first changes = grown-seen (record { past = []; now = settled_at first }) changes (settled-seen first, tt)
