-- From one record that counts to the next.
use Rattle.std.proofs.Common.{◌≡◌, ◌≢◌, ◌⊎◌, inl, inr, ℕ, zero, suc, ◌+◌, ◌-◌, ◌==◌, ◌<◌, ◌≤◌, Bool, true, false, List, [], ◌∷◌, ◌++◌, length, take, drop, map, get_or, refl, sym, ◌∙◌, ap, subst, arith, length-append, length-take, length-drop, append_assoc, take-append-drop, Option, Some, None, replicate}
use Rattle.std.specs.Prelude.{All, nat_lt, if◌then◌else◌}
use Rattle.std.proofs.lemmas.List.{take_at, drop_at, drop-drop, drop_more, append-nil, take_all, length-take-le, length-replicate, length-set, take-take, drop-take}
use Rattle.std.proofs.lemmas.Bool.Decides.{nat_tests}
use Rattle.wire_bcs.specs.Little.{value_of}
use Rattle.disk_log.specs.declared.moment.Span.{Span}
use Rattle.disk_log.specs.Disk.{History, HasExtent, IfTold}
use Rattle.disk_log.specs.Log.{Rows, with_span, bytes_at, IsInside, IsListed, IsNext, IsWalked}
use Rattle.disk_log.specs.Records.{Record, Whole, none, counted, count_in, record_in, behind_record, records_to, journals_of, bad_member}
use Rattle.disk_log.proofs.Counting.{counted-open, counted-whole, counted-closed, Whole-push}
use Rattle.disk_log.proofs.Listing.{listed-more}

-- a file that is a prefix and whole records, from the prefix only
pub records-of : (front : List ℕ) (records : List Record) → Whole front records → counted (front ++ 0 ∷ []) ≡ records
records-of front records whole = counted-whole front records whole 0 [] ∙ ap (λ (l : List Record). records ++ l) (counted-closed 0 [] (omega arith)) ∙ append-nil records

-- the bytes of a range after a prefix and nine bytes
pub bytes-behind : (front head bytes : List ℕ) (end : ℕ) → length front ≡ end → length head ≡ 8 → bytes_at (front ++ 1 ∷ (head ++ bytes)) (record { at = end + 9; count = length bytes }) ≡ bytes
bytes-behind front head bytes end size eight =
    let group : front ++ 1 ∷ (head ++ bytes) ≡ (front ++ 1 ∷ head) ++ bytes = sym (append_assoc front (1 ∷ head) bytes) in
    let long : length (front ++ 1 ∷ head) ≡ end + 9 = omega (arith, length-append front (1 ∷ head)) in
    ap (λ (l : List ℕ). take (length bytes) (drop (end + 9) l)) group
    ∙ ap (take (length bytes)) (drop_at (front ++ 1 ∷ head) bytes (end + 9) long)
    ∙ take_all (length bytes) bytes (omega arith)

-- a file whose next record counts, in its parts
module _ (file : List ℕ) (member count : ℕ) (next : IsNext file member count) where
  abbrev rest : List ℕ
  rest = drop 1 file

  abbrev head : List ℕ
  head = take 8 rest

  abbrev bytes : List ℕ
  bytes = take count (drop 8 rest)

  pub opens : file ≡ 1 ∷ rest
  opens = drop_more file 0 0 (omega (arith, next.long)) ∙ ap (λ (g : ℕ). g ∷ rest) next.is_open

  long : length rest ≡ length file - 1
  long = length-drop 1 file

  pub eight : length head ≡ 8
  eight = length-take-le 8 rest (omega (arith, next.long, long))

  pub size : length bytes ≡ count
  size = length-take-le count (drop 8 rest) (omega (arith, next.long, long, length-drop 8 rest))

  pub counts-next : counted file ≡ record { member = member; bytes = bytes } ∷ counted (drop (9 + count) file)
  counts-next =
      ap counted opens
      ∙ counted-open rest (omega (arith, next.long, next.counts, long))
      ∙ ap (λ (m : ℕ). made m (take (count_in rest) (drop 8 rest)) ∷ counted (behind_record rest)) next.names
      ∙ ap (λ (n : ℕ). made member (take n (drop 8 rest)) ∷ counted (drop (8 + n) rest)) next.counts
      ∙ ap (λ (l : List ℕ). made member bytes ∷ counted l) (drop-drop (8 + count) 1 file ∙ ap (λ (n : ℕ). drop n file) (omega arith))
    where
      made : ℕ → List ℕ → Record
      made m b = record { member = m; bytes = b }

  pub parts : file ≡ (1 ∷ (head ++ bytes)) ++ drop (9 + count) file
  parts =
      opens
      ∙ ap (λ (l : List ℕ). 1 ∷ l) (sym (take-append-drop 8 rest) ∙ ap (λ (l : List ℕ). head ++ l) (sym (take-append-drop count (drop 8 rest))))
      ∙ ap (λ (l : List ℕ). 1 ∷ (head ++ (bytes ++ l))) (drop-drop count 8 rest ∙ drop-drop (8 + count) 1 file ∙ ap (λ (n : ℕ). drop n file) (omega arith))
      ∙ ap (λ (l : List ℕ). 1 ∷ l) (sym (append_assoc head bytes (drop (9 + count) file)))

  pub head-counts : value_of (take 4 head) ≡ length bytes
  head-counts = ap value_of (take-take 4 8 rest (omega arith)) ∙ next.counts ∙ sym size

  pub head-names : value_of (drop 4 head) ≡ member
  head-names = ap value_of (drop-take 4 4 rest) ∙ next.names

module _ (reads : List ℕ) (at : ℕ) (rows : Rows) (member count : ℕ) (w : IsWalked at rows reads) (next : IsNext (drop at reads) member count) (lt : member < length rows) (inside : IsInside at rows) where
  abbrev file : List ℕ
  file = drop at reads

  abbrev front : List ℕ
  front = take at reads

  abbrev block : List ℕ
  block = 1 ∷ (head file member count next ++ bytes file member count next)

  abbrev records : List Record
  records = records_to reads at

  abbrev added : Record
  added = record { member = member; bytes = bytes file member count next }

  abbrev span : Span
  span = record { at = at + 9; count = count }

  within : at + 9 + count < length reads
  within = omega (arith, next.long, length-drop at reads)

  front-size : length front ≡ at
  front-size = length-take-le at reads (omega (arith, within))

  block-size : length (front ++ block) ≡ at + 9 + count
  block-size = omega (arith, front-size, length-append front block, length-append (head file member count next) (bytes file member count next), eight file member count next, size file member count next)

  front-is : take (at + 9 + count) reads ≡ front ++ block
  front-is =
      ap (take (at + 9 + count)) (sym (take-append-drop at reads) ∙ ap (λ (l : List ℕ). front ++ l) (parts file member count next) ∙ sym (append_assoc front block (drop (9 + count) file)))
      ∙ take_at (front ++ block) (drop (9 + count) file) (at + 9 + count) block-size

  whole-is : Whole (front ++ block) (records ++ added ∷ [])
  whole-is =
      subst (λ (m : ℕ). Whole (front ++ block) (records ++ record { member = m; bytes = bytes file member count next } ∷ [])) (head-names file member count next)
      (Whole-push front records (head file member count next) (bytes file member count next) w.whole (eight file member count next) (head-counts file member count next))

  records-are : records_to reads (at + 9 + count) ≡ records ++ added ∷ []
  records-are = ap (λ (l : List ℕ). counted (l ++ 0 ∷ [])) front-is ∙ records-of (front ++ block) (records ++ added ∷ []) whole-is

  behind-is : drop (9 + count) file ≡ drop (at + 9 + count) reads
  behind-is = drop-drop (9 + count) at reads ∙ ap (λ (n : ℕ). drop n reads) (omega arith)

  gives : bytes_at (front ++ block) span ≡ bytes file member count next
  gives =
      ap (λ (n : ℕ). bytes_at (front ++ block) (record { at = at + 9; count = n })) (sym (size file member count next))
      ∙ bytes-behind front (head file member count next) (bytes file member count next) at front-size (eight file member count next)

  width : length (with_span rows member span) ≡ length rows
  width = length-set rows member (get_or rows member [] ++ span ∷ [])

  known-is : (n : ℕ) (tail : List Record) (b : Bool) → nat_lt member n ≡ b → b ≡ true → bad_member n at (added ∷ tail) ≡ bad_member n (at + 9 + count) tail
  known-is n tail b is low = rw (is, low, size file member count next) refl

  pub walks-on : IsWalked (at + 9 + count) (with_span rows member span) reads
  walks-on = record {
    whole = subst (λ (l : List ℕ). Whole l (records_to reads (at + 9 + count))) (sym front-is) (subst (Whole (front ++ block)) (sym records-are) whole-is);
    counts = w.counts ∙ ap (λ (l : List Record). records ++ l) (counts-next file member count next)
        ∙ sym (append_assoc records (added ∷ []) (counted (drop (9 + count) file)))
        ∙ ap (λ (l : List Record). l ++ counted (drop (9 + count) file)) (sym records-are)
        ∙ ap (λ (l : List ℕ). records_to reads (at + 9 + count) ++ counted l) behind-is;
    gate = inr within;
    lists = subst (λ (l : List ℕ). IsListed l (with_span rows member span) (records_to reads (at + 9 + count))) (sym front-is)
        (subst (IsListed (front ++ block) (with_span rows member span)) (sym records-are)
        (listed-more front block rows records member (bytes file member count next) span lt (subst (λ (n : ℕ). IsInside n rows) (sym front-size) inside) gives w.lists));
    known = ap (λ (n : ℕ). bad_member n 0 (counted reads)) width ∙ w.known
        ∙ ap (bad_member (length rows) at) (counts-next file member count next)
        ∙ known-is (length rows) (counted (drop (9 + count) file)) (nat_lt member (length rows)) refl (grind (arith, nat_tests))
        ∙ ap (λ (l : List ℕ). bad_member (length rows) (at + 9 + count) (counted l)) behind-is
        ∙ ap (λ (n : ℕ). bad_member n (at + 9 + count) (counted (drop (at + 9 + count) reads))) (sym width);
  }

-- ---- the same, if the bytes may be observable

pub told-on : (told : Option History) (at : ℕ) (rows : Rows) (member count : ℕ) → member < length rows → IsInside at rows → IfTold told (λ h. IsWalked at rows h.now.reads) → IfTold told (λ h. IsNext (drop at h.now.reads) member count) → IfTold told (λ h. IsWalked (at + 9 + count) (with_span rows member (record { at = at + 9; count = count })) h.now.reads)
told-on None at rows member count lt inside walked next = tt
told-on (Some h) at rows member count lt inside walked next = walks-on h.now.reads at rows member count walked next lt inside

-- the first gate
begins : (reads : List ℕ) (n : ℕ) → IsWalked 0 (replicate n []) reads
begins reads n = record {
  whole = subst (Whole []) (sym (counted-closed 0 [] (omega arith))) none;
  counts = ap (λ (l : List Record). l ++ counted reads) (sym (counted-closed 0 [] (omega arith)));
  gate = inl refl;
  lists = none-listed n ∙ ap (λ (l : List Record). journals_of (length (empty n)) l) (sym (counted-closed 0 [] (omega arith)));
  known = refl;
}
  where
    empty : ℕ → Rows
    empty k = replicate k []

    none-mapped : (k : ℕ) → map (map (bytes_at [])) (empty k) ≡ replicate k []
    none-mapped zero = refl
    none-mapped (suc k) = ap (λ (l : List (List (List ℕ))). [] ∷ l) (none-mapped k)

    none-listed : (k : ℕ) → map (map (bytes_at [])) (empty k) ≡ journals_of (length (empty k)) []
    none-listed k = none-mapped k ∙ ap (λ (m : ℕ). replicate m []) (sym (length-replicate {A = List Span} k []))

pub told-begins : (told : Option History) (rows : Rows) → rows ≡ replicate (length rows) [] → IfTold told (λ h. IsWalked 0 rows h.now.reads)
told-begins None rows is = tt
told-begins (Some h) rows is = subst (λ (r : Rows). IsWalked 0 r h.now.reads) (sym is) (begins h.now.reads (length rows))
