-- The first bytes of a file whose first record is that of a member and a set-up.
use Rattle.std.proofs.Common.{refl, sym, subst, ap, ◌∙◌, arith, append_assoc, length-append, length-drop, length-take}
use Rattle.std.proofs.lemmas.Bool.Decides.{nat_tests}
use Rattle.std.proofs.lemmas.List.{take-append-drop}
use Rattle.std.proofs.lemmas.Slice.Eq.{bytes_eq-Decides}
use Rattle.std.specs.Prelude.{◌≡◌, ◌+◌, ◌-◌, ◌*◌, ◌<◌, ◌≤◌, ◌==◌, ◌&&◌, ℕ, Bool, true, false, nat_le, nat_lt, List, [], ◌∷◌, ◌++◌, length, take, drop, bytes_eq, if◌then◌else◌}
use Rattle.std.specs.Int.{w32, to_le_bytes}
use Rattle.wire_bcs.specs.Little.{value_of}
use Rattle.digest_core.specs.declared.Digest.{Digest}
use Rattle.disk_log.specs.Records.{Record, behind_record, count_in, counted, is_counted, record_in}
use Rattle.disk_log.proofs.Counting.{counted-open, counted-step}
use Rattle.protocol_spec.proofs.ListLemmas.{and-first, and-second}
use Rattle.protocol_spec.proofs.Truth.{both_true}
use Rattle.validator_process.specs.declared.identity.Head.{Head}
use Rattle.validator_process.specs.declared.identity.Head.TheVariants as head
use Rattle.validator_process.specs.Identity.{front, head_of_bytes, head_of_file, head_of_parts, identity_bytes, identity_record, mark}

-- ---- the parts of the head

same-bytes : (xs : List ℕ) → bytes_eq xs xs ≡ true
same-bytes xs = (bytes_eq-Decides xs xs).1 refl

all-true : (a b c : Bool) → a ≡ true → b ≡ true → c ≡ true → (if a then (if b then (if c then head.Own else head.OtherGenesis) else head.OtherMember) else head.Unmade) ≡ head.Own
all-true a b c x y z = rw (x, y, z) refl

module _ (m : ℕ) (g : Digest) where
  own-parts : head_of_parts m g front mark (to_le_bytes w32 m) g.0 ≡ head.Own
  own-parts =
      all-true (bytes_eq front front && bytes_eq mark mark) (bytes_eq (to_le_bytes w32 m) (to_le_bytes w32 m)) (bytes_eq g.0 g.0)
      (both_true (bytes_eq front front) (bytes_eq mark mark) (same-bytes front) (same-bytes mark)) (same-bytes (to_le_bytes w32 m)) (same-bytes g.0)

  identity-parts : (bytes : List ℕ) → bytes ≡ identity_bytes m g → head_of_parts m g front (take 20 bytes) (take 4 (drop 20 bytes)) (drop 4 (drop 20 bytes)) ≡ head.Own
  identity-parts bytes is = subst (λ (b : List ℕ). head_of_parts m g front (take 20 b) (take 4 (drop 20 b)) (drop 4 (drop 20 b)) ≡ head.Own) (sym is) own-parts

  head-bytes : (tail : List ℕ) → take 56 tail ≡ identity_bytes m g → head_of_bytes m g (take 65 (1 ∷ 56 ∷ 0 ∷ 0 ∷ 0 ∷ 64 ∷ 0 ∷ 0 ∷ 0 ∷ tail)) ≡ head.Own
  unfolding head_of_bytes
  head-bytes tail is = identity-parts (take 56 tail) is

  if-long : (b : Bool) (h : Head) → b ≡ false → (if b then head.Unmade else h) ≡ h
  if-long true h short = absurd (cc)
  if-long false h short = refl

  head-file : (tail : List ℕ) → 56 < length tail → take 56 tail ≡ identity_bytes m g → head_of_file m g (1 ∷ 56 ∷ 0 ∷ 0 ∷ 0 ∷ 64 ∷ 0 ∷ 0 ∷ 0 ∷ tail) ≡ head.Own
  head-file tail long is =
      if-long (nat_le (length (1 ∷ 56 ∷ 0 ∷ 0 ∷ 0 ∷ 64 ∷ 0 ∷ 0 ∷ 0 ∷ tail)) 65) (head_of_bytes m g (take 65 (1 ∷ 56 ∷ 0 ∷ 0 ∷ 0 ∷ 64 ∷ 0 ∷ 0 ∷ 0 ∷ tail))) (grind (arith, nat_tests)) ∙ head-bytes tail is

  -- ---- the bytes after the gate

  head-rest : (rest : List ℕ) → 64 < length rest → value_of (take 4 rest) ≡ 56 → value_of (take 4 (drop 4 rest)) ≡ 64 → take 56 (drop 8 rest) ≡ identity_bytes m g → head_of_file m g (1 ∷ rest) ≡ head.Own
  head-rest [] long count list bytes = absurd (omega (arith, long))
  head-rest (a ∷ []) long count list bytes = absurd (omega (arith, long))
  head-rest (a ∷ b ∷ []) long count list bytes = absurd (omega (arith, long))
  head-rest (a ∷ b ∷ c ∷ []) long count list bytes = absurd (omega (arith, long))
  head-rest (a ∷ b ∷ c ∷ d ∷ []) long count list bytes = absurd (omega (arith, long))
  head-rest (a ∷ b ∷ c ∷ d ∷ e ∷ []) long count list bytes = absurd (omega (arith, long))
  head-rest (a ∷ b ∷ c ∷ d ∷ e ∷ f ∷ []) long count list bytes = absurd (omega (arith, long))
  head-rest (a ∷ b ∷ c ∷ d ∷ e ∷ f ∷ i ∷ []) long count list bytes = absurd (omega (arith, long))
  head-rest (a ∷ b ∷ c ∷ d ∷ e ∷ f ∷ i ∷ j ∷ tail) long count list bytes =
      let size : a + 256 * (b + 256 * (c + 256 * (d + 256 * 0))) ≡ 56 = count in
      let whose : e + 256 * (f + 256 * (i + 256 * (j + 256 * 0))) ≡ 64 = list in
      let a-is : a ≡ 56 = omega (arith, size) in
      let b-is : b ≡ 0 = omega (arith, size) in
      let c-is : c ≡ 0 = omega (arith, size) in
      let d-is : d ≡ 0 = omega (arith, size) in
      let e-is : e ≡ 64 = omega (arith, whose) in
      let f-is : f ≡ 0 = omega (arith, whose) in
      let i-is : i ≡ 0 = omega (arith, whose) in
      let j-is : j ≡ 0 = omega (arith, whose) in
      let same : a ∷ b ∷ c ∷ d ∷ e ∷ f ∷ i ∷ j ∷ tail ≡ 56 ∷ 0 ∷ 0 ∷ 0 ∷ 64 ∷ 0 ∷ 0 ∷ 0 ∷ tail = cc in
      subst (λ (l : List ℕ). head_of_file m g (1 ∷ l) ≡ head.Own) (sym same) (head-file tail (omega (arith, long)) bytes)

  -- ---- the first record

  length-identity : length g.0 ≡ 32 → length (identity_bytes m g) ≡ 56
  length-identity size =
      let parts : length (identity_bytes m g) ≡ length (mark ++ to_le_bytes w32 m) + length g.0 = length-append (mark ++ to_le_bytes w32 m) g.0 in
      let fixed : length (mark ++ to_le_bytes w32 m) ≡ 24 = refl in
      omega (arith, parts, fixed, size)

  -- a record of as many bytes as its length says, in list 64
  of-record : (rest : List ℕ) → length g.0 ≡ 32 → 8 + count_in rest < length rest → record_in rest ≡ identity_record m g → head_of_file m g (1 ∷ rest) ≡ head.Own
  of-record rest size long is =
      let bytes : take (count_in rest) (drop 8 rest) ≡ identity_bytes m g = ap (λ (r : Record). r.bytes) is in
      let whose : value_of (take 4 (drop 4 rest)) ≡ 64 = ap (λ (r : Record). r.member) is in
      let many : length (take (count_in rest) (drop 8 rest)) ≡ 56 = ap (λ (l : List ℕ). length l) bytes ∙ length-identity size in
      let count : count_in rest ≡ 56 = omega (arith, many, long, length-take (count_in rest) (drop 8 rest), length-drop 8 rest) in
      head-rest rest (omega (arith, long, count)) count whose (subst (λ (n : ℕ). take n (drop 8 rest) ≡ identity_bytes m g) count bytes)

  open-gate : (gate : ℕ) (rest : List ℕ) → length g.0 ≡ 32 → is_counted gate rest ≡ true → record_in rest ≡ identity_record m g → head_of_file m g (gate ∷ rest) ≡ head.Own
  open-gate gate rest size counts is =
      let at : (gate == 1) ≡ true = and-first (gate == 1) (nat_lt (8 + count_in rest) (length rest)) counts in
      let in_file : nat_lt (8 + count_in rest) (length rest) ≡ true = and-second (gate == 1) (nat_lt (8 + count_in rest) (length rest)) counts in
      let one : gate ≡ 1 = grind (arith, nat_tests) in
      let long : 8 + count_in rest < length rest = grind (arith, nat_tests) in
      subst (λ (k : ℕ). head_of_file m g (k ∷ rest) ≡ head.Own) (sym one) (of-record rest size long is)

  by-gate : (gate : ℕ) (rest : List ℕ) (more : List Record) → length g.0 ≡ 32 → (b : Bool) → is_counted gate rest ≡ b
      → (if b then record_in rest ∷ counted (behind_record rest) else []) ≡ identity_record m g ∷ more → head_of_file m g (gate ∷ rest) ≡ head.Own
  by-gate gate rest more size true counts is = let first : record_in rest ≡ identity_record m g = cc in open-gate gate rest size counts first
  by-gate gate rest more size false counts is = absurd (cc)

  pub own_head : (file : List ℕ) (more : List Record) → length g.0 ≡ 32 → counted file ≡ identity_record m g ∷ more → head_of_file m g file ≡ head.Own
  own_head [] more size is = absurd (let e : counted [] ≡ [] = refl in cc)
  own_head (gate ∷ rest) more size is = by-gate gate rest more size (is_counted gate rest) refl (sym (counted-step gate rest) ∙ is)

  -- ---- a file of which this is the head

  tests-own : (a b c d : Bool) → (if a && b then (if c then (if d then head.Own else head.OtherGenesis) else head.OtherMember) else head.Unmade) ≡ head.Own → (a ≡ true) × (b ≡ true) × (c ≡ true) × (d ≡ true)
  tests-own true true true true is = (refl, refl, refl, refl)
  tests-own true true true false is = absurd (cc)
  tests-own true true false d is = absurd (cc)
  tests-own true false c d is = absurd (cc)
  tests-own false b c d is = absurd (cc)

  parts-own : (gate text number digest : List ℕ) → head_of_parts m g gate text number digest ≡ head.Own → (gate ≡ front) × (text ≡ mark) × (number ≡ to_le_bytes w32 m) × (digest ≡ g.0)
  parts-own gate text number digest is =
      let are = tests-own (bytes_eq gate front) (bytes_eq text mark) (bytes_eq number (to_le_bytes w32 m)) (bytes_eq digest g.0) is in
      ((bytes_eq-Decides gate front).0 are.0, (bytes_eq-Decides text mark).0 are.1, (bytes_eq-Decides number (to_le_bytes w32 m)).0 are.2, (bytes_eq-Decides digest g.0).0 are.3)

  joined : (bytes : List ℕ) → take 20 bytes ≡ mark → take 4 (drop 20 bytes) ≡ to_le_bytes w32 m → drop 4 (drop 20 bytes) ≡ g.0 → bytes ≡ identity_bytes m g
  joined bytes text number digest =
      let rest : List ℕ = drop 20 bytes in
      sym (take-append-drop 20 bytes)
      ∙ ap (λ (l : List ℕ). take 20 bytes ++ l) (sym (take-append-drop 4 rest))
      ∙ sym (append_assoc (take 20 bytes) (take 4 rest) (drop 4 rest))
      ∙ ap (λ (l : List ℕ). l ++ take 4 rest ++ drop 4 rest) text
      ∙ ap (λ (l : List ℕ). mark ++ l ++ drop 4 rest) number
      ∙ ap (λ (l : List ℕ). mark ++ to_le_bytes w32 m ++ l) digest

  abbrev StandsFirst : List ℕ → Type 0
  StandsFirst file = (more : List Record) × (counted file ≡ identity_record m g ∷ more)

  first-record : (tail : List ℕ) → 56 < length tail → take 56 tail ≡ identity_bytes m g → StandsFirst (1 ∷ 56 ∷ 0 ∷ 0 ∷ 0 ∷ 64 ∷ 0 ∷ 0 ∷ 0 ∷ tail)
  first-record tail long is =
      let rest : List ℕ = 56 ∷ 0 ∷ 0 ∷ 0 ∷ 64 ∷ 0 ∷ 0 ∷ 0 ∷ tail in
      (counted (behind_record rest), counted-open rest (omega (arith, long)) ∙ ap (λ (bytes : List ℕ). record { member = 64; bytes = bytes } ∷ counted (behind_record rest)) is)

  of-head : (file : List ℕ) → 65 < length file → head_of_bytes m g (take 65 file) ≡ head.Own → StandsFirst file
  unfolding head_of_bytes
  of-head [] long is = absurd (omega (arith, long))
  of-head (a ∷ []) long is = absurd (omega (arith, long))
  of-head (a ∷ b ∷ []) long is = absurd (omega (arith, long))
  of-head (a ∷ b ∷ c ∷ []) long is = absurd (omega (arith, long))
  of-head (a ∷ b ∷ c ∷ d ∷ []) long is = absurd (omega (arith, long))
  of-head (a ∷ b ∷ c ∷ d ∷ e ∷ []) long is = absurd (omega (arith, long))
  of-head (a ∷ b ∷ c ∷ d ∷ e ∷ f ∷ []) long is = absurd (omega (arith, long))
  of-head (a ∷ b ∷ c ∷ d ∷ e ∷ f ∷ i ∷ []) long is = absurd (omega (arith, long))
  of-head (a ∷ b ∷ c ∷ d ∷ e ∷ f ∷ i ∷ j ∷ []) long is = absurd (omega (arith, long))
  of-head (a ∷ b ∷ c ∷ d ∷ e ∷ f ∷ i ∷ j ∷ k ∷ tail) long is =
      let body : List ℕ = take 56 tail in
      let own = parts-own (a ∷ b ∷ c ∷ d ∷ e ∷ f ∷ i ∷ j ∷ k ∷ []) (take 20 body) (take 4 (drop 20 body)) (drop 4 (drop 20 body)) is in
      subst StandsFirst (sym (ap (λ (l : List ℕ). l ++ tail) own.0)) (first-record tail (omega (arith, long)) (joined body own.1 own.2 own.3))

  by-length : (file : List ℕ) (b : Bool) → nat_le (length file) 65 ≡ b → (if b then head.Unmade else head_of_bytes m g (take 65 file)) ≡ head.Own → StandsFirst file
  by-length file true short is = absurd (cc)
  by-length file false short is = of-head file (grind (arith, nat_tests)) is

  pub own_record : (file : List ℕ) → head_of_file m g file ≡ head.Own → StandsFirst file
  own_record file is = by-length file (nat_le (length file) 65) refl is
