-- What the index reads is what the members' lists hold.
use Rattle.std.proofs.Common.{◌≡◌, ℕ, zero, suc, ◌+◌, ◌<◌, ◌≤◌, List, [], ◌∷◌, ◌++◌, length, map, take, drop, get_or, refl, sym, ◌∙◌, ap, subst, arith, take-append-drop, length-take, Option, Some, None}
use Rattle.std.specs.Prelude.{slice_get, replicate, Bool, true, false, Result, Ok, Err}
use Rattle.std.proofs.lemmas.List.{length-take-le}
use Rattle.std.proofs.lemmas.List.Elements.{All-get_or}
use Rattle.outside.specs.Lists.{Journals, journal_of, AddsRecord, KeepsJournals, IsRecordAt, HasMembers}
use Rattle.disk_log.specs.declared.moment.Span.{Span}
use Rattle.disk_log.specs.Disk.{History, IfTold, IsGiven}
use Rattle.disk_log.specs.Log.{Rows, row_of, bytes_at, IsInside, IsListed}
use Rattle.disk_log.specs.Records.{Record, records_to, journals_of}
use Rattle.disk_log.specs.declared.refusals.LogRefusal.{LogRefusal}
use Rattle.disk_log.specs.Keeping.{IsKept, Appends, told_lists}
use Rattle.disk_log.proofs.Listing.{get_or-map, same-bytes, length-journals, added_to-push}

read-map : {X Y : Type 0} (f : X → Y) (xs : List X) (i : ℕ) (x : X) (d : Y) → slice_get xs i ≡ Some x → get_or (map f xs) i d ≡ f x
read-map f [] i x d is = absurd (cc)
read-map f (y ∷ xs) zero x d is = ap f (cc)
read-map f (y ∷ xs) (suc i) x d is = read-map f xs i x d is

-- a range that is read is one of the member's
lies-in : (end : ℕ) (row : List Span) (i : ℕ) (span : Span) → slice_get row i ≡ Some span → ((k : ℕ) (d : Span) → k < length row → (get_or row k d).at + (get_or row k d).count ≤ end) → span.at + span.count ≤ end
lies-in end [] i span is all = absurd (cc)
lies-in end (s ∷ row) zero span is all = let e : s ≡ span = cc in subst (λ (x : Span). x.at + x.count ≤ end) e (all 0 s (omega arith))
lies-in end (s ∷ row) (suc i) span is all = lies-in end row i span is (λ k d lt. all (suc k) d (omega arith))

pub span-inside : (end : ℕ) (rows : Rows) (m place : ℕ) (span : Span) → m < length rows → slice_get (row_of rows m) place ≡ Some span → IsInside end rows → span.at + span.count ≤ end
span-inside end rows m place span lt is inside = lies-in end (row_of rows m) place span is (inside m [] lt)

pub read-is : (told : Option History) (end members : ℕ) (rows : Rows) (m place : ℕ) (span : Span) (bytes : List ℕ) → length rows ≡ members → m < length rows → slice_get (row_of rows m) place ≡ Some span → IsInside end rows → IfTold told (IsKept end rows) → length bytes ≡ span.count → IsGiven told span.at bytes → IsRecordAt (told_lists told end members) m place bytes
read-is None end members rows m place span bytes width lt is inside kept size given = tt
read-is (Some h) end members rows m place span bytes width lt is inside kept size given =
    let front : List ℕ = take end h.now.reads in
    let whole : front ++ drop end h.now.reads ≡ h.now.reads = take-append-drop end h.now.reads in
    let lies : span.at + span.count ≤ length front = omega (arith, span-inside end rows m place span lt is inside, length-take end h.now.reads, kept.inside) in
    given
    ∙ ap (λ (n : ℕ). take n (drop span.at h.now.reads)) size
    ∙ ap (λ (l : List ℕ). bytes_at l span) (sym whole)
    ∙ same-bytes front (drop end h.now.reads) span lies
    ∙ sym (read-map (bytes_at front) (row_of rows m) place span [] is)
    ∙ ap (λ (l : List (List ℕ)). get_or l place []) (sym (get_or-map (map (bytes_at front)) rows m []))
    ∙ ap (λ (l : Journals). get_or (get_or l m []) place []) (kept.lists ∙ ap (λ (n : ℕ). journals_of n (records_to h.now.reads end)) width)

pub members-are : (told : Option History) (end members : ℕ) → HasMembers (told_lists told end members) members
members-are None end members = tt
members-are (Some h) end members = length-journals members (records_to h.now.reads end)

-- ---- what an append does to the lists

pub adds : (old new : Option History) (end end' member : ℕ) (bytes : List ℕ) (members members' : ℕ) → Appends old new end member bytes (Ok tt) → end' ≡ end + 9 + length bytes → members' ≡ members → AddsRecord (told_lists old end members) (told_lists new end' members') member bytes
adds None new end end' member bytes members members' appends there same = tt
adds (Some h) new end end' member bytes members members' (n, is, appended) there same =
    ap (λ (o : Option History). told_lists o end' members') is
    ∙ ap (λ (k : ℕ). told_lists (Some n) k members') there
    ∙ ap (λ (k : ℕ). told_lists (Some n) (end + 9 + length bytes) k) same
    ∙ ap (λ (l : List Record). Some (journals_of members l)) appended.records
    ∙ ap (λ (l : Journals). Some l) (added_to-push (replicate members []) (records_to h.now.reads end) (record { member = member; bytes = bytes }))

pub keeps : (old new : Option History) (end end' member : ℕ) (bytes : List ℕ) (members members' : ℕ) (e : LogRefusal) → Appends old new end member bytes (Err e) → end' ≡ end → members' ≡ members → KeepsJournals (told_lists old end members) (told_lists new end' members')
keeps None new end end' member bytes members members' e appends there same = tt
keeps (Some h) new end end' member bytes members members' e (n, is, appended) there same =
    ap (λ (o : Option History). told_lists o end' members') is
    ∙ ap (λ (k : ℕ). told_lists (Some n) k members') there
    ∙ ap (λ (k : ℕ). told_lists (Some n) end k) same
    ∙ ap (λ (l : List Record). Some (journals_of members l)) appended.records

pub kept-as-was : (old new : Option History) (end end' members members' : ℕ) → new ≡ old → end' ≡ end → members' ≡ members → KeepsJournals (told_lists old end members) (told_lists new end' members')
kept-as-was None new end end' members members' same there as-many = tt
kept-as-was (Some h) new end end' members members' same there as-many =
    ap (λ (o : Option History). told_lists o end' members') same
    ∙ ap (λ (k : ℕ). told_lists (Some h) k members') there
    ∙ ap (λ (k : ℕ). told_lists (Some h) end k) as-many

pub not-shut : (b : Bool) → (b ≡ true → ⊥) → b ≡ false
not-shut true isnt = absurd (isnt refl)
not-shut false isnt = refl
