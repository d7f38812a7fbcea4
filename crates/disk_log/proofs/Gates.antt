-- What stands in a file at a gate, when something is written after it, and when it is opened.
use Rattle.std.proofs.Common.{◌≡◌, ◌≢◌, ◌⊎◌, inl, inr, ⊎_elim, ℕ, suc, ◌+◌, ◌-◌, ◌*◌, ◌^◌, ◌<◌, ◌≤◌, max, List, [], ◌∷◌, ◌++◌, length, take, drop, get_or, refl, sym, ◌∙◌, ap, subst, arith, append_assoc, length-append, length-take, length-drop, take-append-drop}
use Rattle.std.proofs.lemmas.List.{append-nil, take_at, drop_at, drop_more, take_all, drop_all, take-append-le, drop-drop, get_or_at, take-take}
use Rattle.std.proofs.lemmas.Bool.{cases_eq}
use Rattle.wire_bcs.specs.Little.{low_first, value_of, length-low_first, value_of-low_first}
use Rattle.disk_log.specs.Disk.{IsTorn, with_bytes}
use Rattle.disk_log.specs.Log.{HasOldOrNew}
use Rattle.disk_log.specs.Records.{Record, Whole, counted, records_to, head_of, body_of}
use Rattle.disk_log.proofs.Counting.{counted-whole, counted-closed, counted-record, Whole-push}
use Rattle.disk_log.proofs.Moments.{torn-front, torn-back}

-- a file in three parts: before a gate, the gate, and what is after it
pub split : (file : List ℕ) (end : ℕ) → end < length file → file ≡ take end file ++ get_or file end 0 ∷ drop (end + 1) file
split file end lt = sym (take-append-drop end file) ∙ ap (λ (l : List ℕ). take end file ++ l) (drop_more file end 0 lt)

pub split-size : (file : List ℕ) (end : ℕ) → end < length file → length (take end file) ≡ end
split-size file end lt = omega (arith, length-take end file)

-- ---- the record's own bytes

pub length-head : (member : ℕ) (bytes : List ℕ) → length (head_of member bytes) ≡ 8
length-head member bytes = omega (arith, length-append (low_first 4 (length bytes)) (low_first 4 member), length-low_first 4 (length bytes), length-low_first 4 member)

pub head-count : (member : ℕ) (bytes : List ℕ) → length bytes < 256 ^ 4 → value_of (take 4 (head_of member bytes)) ≡ length bytes
head-count member bytes short =
    ap value_of (take_at (low_first 4 (length bytes)) (low_first 4 member) 4 (length-low_first 4 (length bytes))) ∙ value_of-low_first 4 (length bytes) short

pub head-member : (member : ℕ) (bytes : List ℕ) → member < 256 ^ 4 → value_of (drop 4 (head_of member bytes)) ≡ member
head-member member bytes fits =
    ap value_of (drop_at (low_first 4 (length bytes)) (low_first 4 member) 4 (length-low_first 4 (length bytes))) ∙ value_of-low_first 4 member fits

-- ---- a file of a prefix, a gate, and what stands after it

module _ (front : List ℕ) (records : List Record) (whole : Whole front records) where
  -- nothing counts after a gate that is not open, whatever stands there
  pub counts-front : (gate : ℕ) (rest : List ℕ) → gate ≢ 1 → counted (front ++ gate ∷ rest) ≡ records
  counts-front gate rest shut =
      counted-whole front records whole gate rest ∙ ap (λ (l : List Record). records ++ l) (counted-closed gate rest shut) ∙ append-nil records

  -- a whole record after a gate counts or it does not
  pub counts-gate : (gate : ℕ) (head bytes rest : List ℕ) → length head ≡ 8 → value_of (take 4 head) ≡ length bytes → HasOldOrNew records (record { member = value_of (drop 4 head); bytes = bytes }) (front ++ gate ∷ (head ++ (bytes ++ 0 ∷ rest)))
  counts-gate gate head bytes rest eight size = choice (cases_eq gate 1)
    where
      choice : (gate ≡ 1) ⊎ (gate ≢ 1) → HasOldOrNew records (record { member = value_of (drop 4 head); bytes = bytes }) (front ++ gate ∷ (head ++ (bytes ++ 0 ∷ rest)))
      choice (inr shut) = inl (counts-front gate (head ++ (bytes ++ 0 ∷ rest)) shut)
      choice (inl is) = inr (
          ap (λ (g : ℕ). counted (front ++ g ∷ (head ++ (bytes ++ 0 ∷ rest)))) is
          ∙ counted-whole front records whole 1 (head ++ (bytes ++ 0 ∷ rest))
          ∙ ap (λ (l : List Record). records ++ l) (counted-record head bytes (0 ∷ rest) eight size (omega arith))
          ∙ ap (λ (l : List Record). records ++ record { member = value_of (drop 4 head); bytes = bytes } ∷ l) (counted-closed 0 rest (omega arith)))

-- what is torn after the gate leaves the gate
pub torn-behind : (front : List ℕ) (gate : ℕ) (rest : List ℕ) (end count : ℕ) (c : List ℕ) → length front ≡ end → IsTorn (end + 1) count (front ++ gate ∷ rest) c → (x : List ℕ) × (c ≡ front ++ gate ∷ x)
torn-behind front gate rest end count c size torn =
    let long : length (front ++ gate ∷ rest) ≡ end + 1 + length rest = omega (arith, length-append front (gate ∷ rest), size) in
    let group : front ++ gate ∷ rest ≡ (front ++ gate ∷ []) ++ rest = sym (append_assoc front (gate ∷ []) rest) in
    let one : length (front ++ gate ∷ []) ≡ end + 1 = omega (arith, length-append front (gate ∷ []), size) in
    let same : take (end + 1) c ≡ front ++ gate ∷ [] =
    torn-front (end + 1) count (front ++ gate ∷ rest) c torn (end + 1) (omega arith) (omega (arith, long))
    ∙ ap (λ (l : List ℕ). take (end + 1) l) group ∙ take_at (front ++ gate ∷ []) rest (end + 1) one in
    (drop (end + 1) c, sym (take-append-drop (end + 1) c) ∙ ap (λ (l : List ℕ). l ++ drop (end + 1) c) same ∙ append_assoc front (gate ∷ []) (drop (end + 1) c))

-- a torn gate leaves all bytes before and after it
pub torn-gate : (front : List ℕ) (gate : ℕ) (rest : List ℕ) (end : ℕ) (c : List ℕ) → length front ≡ end → IsTorn end 1 (front ++ gate ∷ rest) c → (g : ℕ) × (c ≡ front ++ g ∷ rest)
torn-gate front gate rest end c size torn =
    let long : length (front ++ gate ∷ rest) ≡ end + 1 + length rest = omega (arith, length-append front (gate ∷ rest), size) in
    let group : front ++ gate ∷ rest ≡ (front ++ gate ∷ []) ++ rest = sym (append_assoc front (gate ∷ []) rest) in
    let one : length (front ++ gate ∷ []) ≡ end + 1 = omega (arith, length-append front (gate ∷ []), size) in
    let before : take end c ≡ front =
    torn-front end 1 (front ++ gate ∷ rest) c torn end (omega arith) (omega (arith, long)) ∙ take_at front (gate ∷ rest) end size in
    let behind : drop (end + 1) c ≡ rest =
    torn-back end 1 (front ++ gate ∷ rest) c torn (omega (arith, long)) ∙ ap (λ (l : List ℕ). drop (end + 1) l) group ∙ drop_at (front ++ gate ∷ []) rest (end + 1) one in (
      get_or c end 0,
      split c end (omega (arith, torn.no_shorter, long)) ∙ ap (λ (l : List ℕ). l ++ get_or c end 0 ∷ drop (end + 1) c) before ∙ ap (λ (l : List ℕ). front ++ get_or c end 0 ∷ l) behind,
    )

pub written-behind : (front : List ℕ) (gate : ℕ) (rest : List ℕ) (end : ℕ) (body : List ℕ) → length front ≡ end → with_bytes (front ++ gate ∷ rest) (end + 1) body ≡ front ++ gate ∷ (body ++ drop (length body) rest)
written-behind front gate rest end body size =
    let group : front ++ gate ∷ rest ≡ (front ++ gate ∷ []) ++ rest = sym (append_assoc front (gate ∷ []) rest) in
    let one : length (front ++ gate ∷ []) ≡ end + 1 = omega (arith, length-append front (gate ∷ []), size) in
    let before : take (end + 1) (front ++ gate ∷ rest) ≡ front ++ gate ∷ [] = ap (λ (l : List ℕ). take (end + 1) l) group ∙ take_at (front ++ gate ∷ []) rest (end + 1) one in
    let behind : drop (end + 1 + length body) (front ++ gate ∷ rest) ≡ drop (length body) rest =
    sym (drop-drop (length body) (end + 1) (front ++ gate ∷ rest)) ∙ ap (λ (l : List ℕ). drop (length body) (drop (end + 1) l)) group ∙ ap (λ (l : List ℕ). drop (length body) l) (drop_at (front ++ gate ∷ []) rest (end + 1) one) in
    ap (λ (l : List ℕ). l ++ body ++ drop (end + 1 + length body) (front ++ gate ∷ rest)) before
    ∙ ap (λ (l : List ℕ). front ++ gate ∷ [] ++ body ++ l) behind
    ∙ append_assoc (front ++ gate ∷ []) body (drop (length body) rest)
    ∙ append_assoc front (gate ∷ []) (body ++ drop (length body) rest)

pub written-gate : (front : List ℕ) (gate : ℕ) (rest : List ℕ) (end new : ℕ) → length front ≡ end → with_bytes (front ++ gate ∷ rest) end (new ∷ []) ≡ front ++ new ∷ rest
written-gate front gate rest end new size =
    let group : front ++ gate ∷ rest ≡ (front ++ gate ∷ []) ++ rest = sym (append_assoc front (gate ∷ []) rest) in
    let one : length (front ++ gate ∷ []) ≡ end + 1 = omega (arith, length-append front (gate ∷ []), size) in
    ap (λ (l : List ℕ). l ++ (new ∷ []) ++ drop (end + 1) (front ++ gate ∷ rest)) (take_at front (gate ∷ rest) end size)
    ∙ ap (λ (l : List ℕ). front ++ (new ∷ []) ++ l) (ap (λ (l : List ℕ). drop (end + 1) l) group ∙ drop_at (front ++ gate ∷ []) rest (end + 1) one)
    ∙ append_assoc front (new ∷ []) rest
