-- The ranges of the records, as the lists of the members.
use Rattle.std.proofs.Common.{◌≡◌, ℕ, zero, suc, ◌+◌, ◌<◌, ◌≤◌, List, [], ◌∷◌, ◌++◌, length, take, drop, map, set, get_or, refl, sym, ◌∙◌, ap, subst, arith, length-append, length-set, append_assoc, replicate}
use Rattle.std.specs.Prelude.{All}
use Rattle.std.proofs.lemmas.List.{map-append, map-set, take-take, take_at, drop_at, drop-drop, take-append-le, drop-append-le, length-drop, length-replicate}
use Rattle.std.proofs.lemmas.List.Elements.{All-head, All-tail, All-push, All-set, All-weaker, All-get_or, All-replicate}
use Rattle.outside.specs.Lists.{Journals, journal_of, with_record}
use Rattle.disk_log.specs.declared.moment.Span.{Span}
use Rattle.disk_log.specs.Log.{Rows, row_of, with_span, bytes_at, IsInside, IsListed}
use Rattle.disk_log.specs.Records.{Record, added_to, journals_of}

pub get_or-map : {X Y : Type 0} (f : X → Y) (xs : List X) (i : ℕ) (d : X) → get_or (map f xs) i (f d) ≡ f (get_or xs i d)
get_or-map f [] i d = refl
get_or-map f (x ∷ xs) zero d = refl
get_or-map f (x ∷ xs) (suc i) d = get_or-map f xs i d

-- ---- lists

pub added_to-push : (lists : Journals) (records : List Record) (r : Record) → added_to lists (records ++ r ∷ []) ≡ with_record (added_to lists records) r.member r.bytes
added_to-push lists [] r = refl
added_to-push lists (x ∷ records) r = added_to-push (with_record lists x.member x.bytes) records r

length-added_to : (lists : Journals) (records : List Record) → length (added_to lists records) ≡ length lists
length-added_to lists [] = refl
length-added_to lists (x ∷ records) =
    length-added_to (with_record lists x.member x.bytes) records ∙ length-set lists x.member (journal_of lists x.member ++ x.bytes ∷ [])

pub length-journals : (n : ℕ) (records : List Record) → length (journals_of n records) ≡ n
length-journals n records = length-added_to (replicate n []) records ∙ length-replicate n []

-- ---- ranges that lie in a prefix

abbrev Lies : ℕ → Span → Type 0
Lies end span = span.at + span.count ≤ end

pub same-bytes : (front more : List ℕ) (span : Span) → Lies (length front) span → bytes_at (front ++ more) span ≡ bytes_at front span
same-bytes front more span lies =
    ap (λ (l : List ℕ). take span.count l) (drop-append-le span.at front more (omega arith))
    ∙ take-append-le span.count (drop span.at front) more (omega (arith, length-drop span.at front))

same-row : (front more : List ℕ) (row : List Span) → All (Lies (length front)) row → map (bytes_at (front ++ more)) row ≡ map (bytes_at front) row
same-row front more [] all = refl
same-row front more (span ∷ row) all =
    ap (λ (b : List ℕ). b ∷ map (bytes_at (front ++ more)) row) (same-bytes front more span (All-head (Lies (length front)) span row all))
    ∙ ap (λ (l : List (List ℕ)). bytes_at front span ∷ l) (same-row front more row (All-tail (Lies (length front)) span row all))

same-rows : (front more : List ℕ) (rows : Rows) → IsInside (length front) rows → map (map (bytes_at (front ++ more))) rows ≡ map (map (bytes_at front)) rows
same-rows front more [] all = refl
same-rows front more (row ∷ rows) all =
    ap (λ (r : List (List ℕ)). r ∷ map (map (bytes_at (front ++ more))) rows) (same-row front more row (All-head (All (Lies (length front))) row rows all))
    ∙ ap (λ (l : Journals). map (bytes_at front) row ∷ l) (same-rows front more rows (All-tail (All (Lies (length front))) row rows all))

pub inside-more : (end new : ℕ) (rows : Rows) → end ≤ new → IsInside end rows → IsInside new rows
inside-more end new rows le all =
    All-weaker (All (Lies end)) (All (Lies new)) (λ row lies. All-weaker (Lies end) (Lies new) (λ span lie. omega (arith, lie)) row lies) rows all

pub inside-with : (end new : ℕ) (rows : Rows) (m : ℕ) (span : Span) → end ≤ new → span.at + span.count ≤ new → m < length rows → IsInside end rows → IsInside new (with_span rows m span)
inside-with end new rows m span le lies lt all =
    let more = inside-more end new rows le all in
    All-set (All (Lies new)) rows m (row_of rows m ++ span ∷ []) (All-push (Lies new) (row_of rows m) span (All-get_or (All (Lies new)) rows m [] lt more) lies) more

pub inside-none : (n : ℕ) → IsInside 0 (replicate n [])
inside-none n = All-replicate (All (Lies 0)) n [] (λ k d lt. absurd (omega arith))

-- one record more after the prefix: its range gives its bytes
pub listed-more : (front block : List ℕ) (rows : Rows) (records : List Record) (m : ℕ) (bytes : List ℕ) (span : Span) → m < length rows → IsInside (length front) rows → bytes_at (front ++ block) span ≡ bytes → IsListed front rows records → IsListed (front ++ block) (with_span rows m span) (records ++ record { member = m; bytes = bytes } ∷ [])
listed-more front block rows records m bytes span lt inside gives listed =
    let f : Span → List ℕ = bytes_at (front ++ block) in
    let all : map (map f) rows ≡ journals_of (length rows) records = same-rows front block rows inside ∙ listed in
    let row : map f (row_of rows m) ≡ journal_of (journals_of (length rows) records) m = sym (get_or-map (map f) rows m []) ∙ ap (λ (l : Journals). get_or l m []) all in
    map-set (map f) rows m (row_of rows m ++ span ∷ [])
    ∙ ap (λ (r : List (List ℕ)). set (map (map f) rows) m r) (map-append f (row_of rows m) (span ∷ []) ∙ ap (λ (r : List (List ℕ)). r ++ f span ∷ []) row ∙ ap (λ (b : List ℕ). journal_of (journals_of (length rows) records) m ++ b ∷ []) gives)
    ∙ ap (λ (l : Journals). set l m (journal_of (journals_of (length rows) records) m ++ bytes ∷ [])) all
    ∙ sym (added_to-push (replicate (length rows) []) records (record { member = m; bytes = bytes }))
    ∙ ap (λ (n : ℕ). journals_of n (records ++ record { member = m; bytes = bytes } ∷ [])) (sym (length-set rows m (row_of rows m ++ span ∷ [])))
