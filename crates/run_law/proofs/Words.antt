-- The words of a line: of which bytes they are, that each has its form, and what it is read as.
use Rattle.std.proofs.Common.{◌≡◌, ◌==◌, ℕ, zero, suc, ◌/◌, ◌%◌, ◌<◌, ◌≤◌, nat_le, Bool, true, false, ◌&&◌, ◌||◌, List, [], ◌∷◌, ◌++◌, length, slice_index, Some, decimal, option_map, refl, ap, sym, ◌∙◌, subst, arith, append-nil, inl, inr}
use Rattle.std.proofs.lemmas.Bool.{and_parts, and_from, or_left, or_right, leb-true, le-leb, eqb-true, eq-eqb, cases_eq}
use Rattle.std.specs.List.{list_all, AllByRecursion}
use Rattle.std.specs.Result.{result_ok}
use Rattle.hex.specs.Hex.{IsBytes, encode_lower, encode_with, lower_digits}
use Rattle.hex.proofs.HexLemmas.{decode_of-encode_lower, length-encode_with}
use Rattle.schedule_text.specs.declared.words.ObjWord.{ObjWord}
use Rattle.schedule_text.specs.declared.words.ObjWord.TheVariants as object
use Rattle.schedule_text.specs.declared.words.RefWord.{RefWord}
use Rattle.schedule_text.specs.declared.words.InputWord.{InputWord}
use Rattle.schedule_text.specs.declared.words.InputWord.TheVariants as input
use Rattle.schedule_text.specs.Bytes.{is_digit, is_lower, is_name, is_name_byte, is_printable, is_digits, cut_at, without_mark}
use Rattle.schedule_text.specs.Refs.{is_object, object_of, object_form, object_value, is_ref, ref_of, ref_form, ref_value, is_shared, shared_form}
use Rattle.schedule_text.specs.Inputs.{is_hex_byte, is_hex, hex_of, of_kind, input_kind, input_parts, is_input, input_of, form_of_parts, value_of_parts, shared_input}
use Rattle.run_law.specs.Canonical.{sign, object_word, version_word, ref_word, input_word}
use Rattle.run_law.specs.Sayable.{IsName, IsNumber, IsObject, IsRef, IsInput, IsByte}
use Rattle.run_law.proofs.Pieces.{Passes, wider, passes-append, cut_yes, cut_no, mark_read, mark_taken}
use Rattle.run_law.proofs.Numbers.{decimal_digits, decimal_form, number_read}

-- ---- the bytes of each kind of word

abbrev pub is_object_byte : ℕ → Bool
is_object_byte b = is_name_byte b || b == 46

abbrev pub is_ref_byte : ℕ → Bool
is_ref_byte b = is_object_byte b || (b == 64 || b == 33)

abbrev pub is_input_byte : ℕ → Bool
is_input_byte b = is_ref_byte b || b == 58

abbrev pub is_call_byte : ℕ → Bool
is_call_byte b = is_object_byte b || (b == 40 || (b == 41 || b == 44))

abbrev pub is_word_byte : ℕ → Bool
is_word_byte b = is_input_byte b || (is_call_byte b || (b == 63 || b == 45))

pub name_in_object : (b : ℕ) → is_name_byte b ≡ true → is_object_byte b ≡ true
name_in_object b h = or_left (is_name_byte b) (b == 46) h

pub object_in_ref : (b : ℕ) → is_object_byte b ≡ true → is_ref_byte b ≡ true
object_in_ref b h = or_left (is_object_byte b) (b == 64 || b == 33) h

pub ref_in_input : (b : ℕ) → is_ref_byte b ≡ true → is_input_byte b ≡ true
ref_in_input b h = or_left (is_ref_byte b) (b == 58) h

pub name_in_input : (b : ℕ) → is_name_byte b ≡ true → is_input_byte b ≡ true
name_in_input b h = ref_in_input b (object_in_ref b (name_in_object b h))

pub object_in_call : (b : ℕ) → is_object_byte b ≡ true → is_call_byte b ≡ true
object_in_call b h = or_left (is_object_byte b) (b == 40 || (b == 41 || b == 44)) h

pub input_in_word : (b : ℕ) → is_input_byte b ≡ true → is_word_byte b ≡ true
input_in_word b h = or_left (is_input_byte b) (is_call_byte b || (b == 63 || b == 45)) h

pub call_in_word : (b : ℕ) → is_call_byte b ≡ true → is_word_byte b ≡ true
call_in_word b h = or_right (is_input_byte b) (is_call_byte b || (b == 63 || b == 45)) (or_left (is_call_byte b) (b == 63 || b == 45) h)

pub name_in_word : (b : ℕ) → is_name_byte b ≡ true → is_word_byte b ≡ true
name_in_word b h = input_in_word b (name_in_input b h)

digit_in_name : (b : ℕ) → is_digit b ≡ true → is_name_byte b ≡ true
digit_in_name b h = or_left (is_lower b || is_digit b) (b == 95) (or_right (is_lower b) (is_digit b) h)

lower_in_name : (b : ℕ) → is_lower b ≡ true → is_name_byte b ≡ true
lower_in_name b h = or_left (is_lower b || is_digit b) (b == 95) (or_left (is_lower b) (is_digit b) h)

-- ---- they are printable

either : (P : Type 0) (x y : Bool) → (x || y) ≡ true → (x ≡ true → P) → (y ≡ true → P) → P
either P true y h f g = f refl
either P false y h f g = g h

one_printable : (c b : ℕ) → is_printable c ≡ true → (b == c) ≡ true → is_printable b ≡ true
one_printable c b h e = subst (λ (x : ℕ). is_printable x ≡ true) (sym (eqb-true b c e)) h

range_printable : (low high b : ℕ) → 32 ≤ low → high ≤ 126 → (nat_le low b && nat_le b high) ≡ true → is_printable b ≡ true
range_printable low high b above below h =
    let hs = and_parts (nat_le low b) (nat_le b high) h in
    let over = leb-true low b hs.0 in
    let under = leb-true b high hs.1 in
    and_from (nat_le 32 b) (nat_le b 126) (le-leb 32 b (omega (arith, over, above))) (le-leb b 126 (omega (arith, under, below)))

name_printable : (b : ℕ) → is_name_byte b ≡ true → is_printable b ≡ true
name_printable b h =
    either (is_printable b ≡ true) (is_lower b || is_digit b) (b == 95) h
    (λ k. either (is_printable b ≡ true) (is_lower b) (is_digit b) k (range_printable 97 122 b (omega arith) (omega arith)) (range_printable 48 57 b (omega arith) (omega arith)))
    (one_printable 95 b refl)

object_printable : (b : ℕ) → is_object_byte b ≡ true → is_printable b ≡ true
object_printable b h = either (is_printable b ≡ true) (is_name_byte b) (b == 46) h (name_printable b) (one_printable 46 b refl)

ref_printable : (b : ℕ) → is_ref_byte b ≡ true → is_printable b ≡ true
ref_printable b h =
    either (is_printable b ≡ true) (is_object_byte b) (b == 64 || b == 33) h (object_printable b)
    (λ k. either (is_printable b ≡ true) (b == 64) (b == 33) k (one_printable 64 b refl) (one_printable 33 b refl))

input_printable : (b : ℕ) → is_input_byte b ≡ true → is_printable b ≡ true
input_printable b h = either (is_printable b ≡ true) (is_ref_byte b) (b == 58) h (ref_printable b) (one_printable 58 b refl)

call_printable : (b : ℕ) → is_call_byte b ≡ true → is_printable b ≡ true
call_printable b h =
    either (is_printable b ≡ true) (is_object_byte b) (b == 40 || (b == 41 || b == 44)) h (object_printable b)
    (λ k. either (is_printable b ≡ true) (b == 40) (b == 41 || b == 44) k (one_printable 40 b refl)
    (λ m. either (is_printable b ≡ true) (b == 41) (b == 44) m (one_printable 41 b refl) (one_printable 44 b refl)))

pub word_printable : (b : ℕ) → is_word_byte b ≡ true → is_printable b ≡ true
word_printable b h =
    either (is_printable b ≡ true) (is_input_byte b) (is_call_byte b || (b == 63 || b == 45)) h (input_printable b)
    (λ k. either (is_printable b ≡ true) (is_call_byte b) (b == 63 || b == 45) k (call_printable b)
    (λ m. either (is_printable b ≡ true) (b == 63) (b == 45) m (one_printable 63 b refl) (one_printable 45 b refl)))

-- ---- names and numbers

pub name_passes : (w : List ℕ) → IsName w → Passes is_name_byte w
unfolding is_name
name_passes [] h = refl
name_passes (b ∷ bs) h =
    let hs = and_parts (is_lower b && nat_le (length bs) 15) (list_all is_name_byte bs) h in
    let front = and_parts (is_lower b) (nat_le (length bs) 15) hs.0 in
    and_from (is_name_byte b) (list_all is_name_byte bs) (lower_in_name b front.0) hs.1

pub number_passes : (n : ℕ) → IsNumber n → Passes is_name_byte (decimal n)
number_passes n fits = wider is_digit is_name_byte digit_in_name (decimal n) (decimal_digits n fits)

-- ---- objects and references

pub object_passes : (o : ObjWord) → IsObject o → Passes is_object_byte (object_word o)
object_passes (object.Setup name) h = wider is_name_byte is_object_byte name_in_object name (name_passes name h)
object_passes (object.Created tx number) h =
    passes-append is_object_byte tx (46 ∷ decimal number) (wider is_name_byte is_object_byte name_in_object tx (name_passes tx h.0))
    (wider is_name_byte is_object_byte name_in_object (decimal number) (number_passes number h.1))

pub object_is : (o : ObjWord) → IsObject o → is_object (object_word o) ≡ true
unfolding is_object
object_is (object.Setup name) h = ap (object_form name) (cut_no is_name_byte 46 refl name (name_passes name h)) ∙ h
object_is (object.Created tx number) h =
    ap (object_form (tx ++ 46 ∷ decimal number)) (cut_yes is_name_byte 46 refl tx (decimal number) (name_passes tx h.0))
    ∙ and_from (is_name tx) (is_digits (decimal number)) h.0 (decimal_form number h.1)

pub object_read : (o : ObjWord) → IsObject o → object_of (object_word o) ≡ Some o
unfolding object_of
object_read (object.Setup name) h = ap (object_value name) (cut_no is_name_byte 46 refl name (name_passes name h))
object_read (object.Created tx number) h =
    ap (object_value (tx ++ 46 ∷ decimal number)) (cut_yes is_name_byte 46 refl tx (decimal number) (name_passes tx h.0))
    ∙ ap (option_map (λ n. object.Created tx n)) (number_read number h.1)

sign_passes : (b : Bool) → Passes is_ref_byte (sign b (33 ∷ []))
sign_passes true = refl
sign_passes false = refl

name_in_ref : (b : ℕ) → is_name_byte b ≡ true → is_ref_byte b ≡ true
name_in_ref b h = object_in_ref b (name_in_object b h)

version_passes : (o : ObjWord) (v : ℕ) (spoiled : Bool) → IsObject o → IsNumber v → Passes is_ref_byte (object_word o ++ 64 ∷ (decimal v ++ sign spoiled (33 ∷ [])))
version_passes o v spoiled ho hv =
    passes-append is_ref_byte (object_word o) (64 ∷ (decimal v ++ sign spoiled (33 ∷ []))) (wider is_object_byte is_ref_byte object_in_ref (object_word o) (object_passes o ho))
    (passes-append is_ref_byte (decimal v) (sign spoiled (33 ∷ [])) (wider is_name_byte is_ref_byte name_in_ref (decimal v) (number_passes v hv)) (sign_passes spoiled))

pub ref_passes : (r : RefWord) → IsRef r → Passes is_ref_byte (ref_word r)
ref_passes r h = version_passes r.object r.version r.spoiled h.0 h.1

-- the parts round the `@`
at_parts : (o : ObjWord) (rest : List ℕ) → IsObject o → cut_at 64 (object_word o ++ 64 ∷ rest) ≡ Some (object_word o, rest)
at_parts o rest h = cut_yes is_object_byte 64 refl (object_word o) rest (object_passes o h)

bare : (v : ℕ) (spoiled : Bool) → IsNumber v → without_mark 33 (decimal v ++ sign spoiled (33 ∷ [])) ≡ decimal v
bare v spoiled h = mark_taken is_name_byte 33 refl (decimal v) spoiled (number_passes v h)

ref_has_form : (o : ObjWord) (v : ℕ) (spoiled : Bool) → IsObject o → IsNumber v → is_ref (object_word o ++ 64 ∷ (decimal v ++ sign spoiled (33 ∷ []))) ≡ true
unfolding is_ref
ref_has_form o v spoiled ho hv =
    ap ref_form (at_parts o (decimal v ++ sign spoiled (33 ∷ [])) ho)
    ∙ and_from (is_object (object_word o)) (is_digits (without_mark 33 (decimal v ++ sign spoiled (33 ∷ [])))) (object_is o ho)
    (ap is_digits (bare v spoiled hv) ∙ decimal_form v hv)

ref_has_value : (o : ObjWord) (v : ℕ) (spoiled : Bool) → IsObject o → IsNumber v → ref_of (object_word o ++ 64 ∷ (decimal v ++ sign spoiled (33 ∷ []))) ≡ Some (record { object = o; version = v; spoiled = spoiled })
unfolding ref_of
ref_has_value o v spoiled ho hv =
    ap ref_value (at_parts o (decimal v ++ sign spoiled (33 ∷ [])) ho)
    ∙ rw (object_read o ho, bare v spoiled hv, number_read v hv, mark_read is_name_byte 33 refl (decimal v) spoiled (number_passes v hv)) refl

pub ref_is : (r : RefWord) → IsRef r → is_ref (ref_word r) ≡ true
ref_is r h = ref_has_form r.object r.version r.spoiled h.0 h.1

pub ref_read : (r : RefWord) → IsRef r → ref_of (ref_word r) ≡ Some r
ref_read r h = ref_has_value r.object r.version r.spoiled h.0 h.1

-- the bytes of a reference without a sign
unsigned : (o : ObjWord) (v : ℕ) → version_word o v ≡ object_word o ++ 64 ∷ (decimal v ++ [])
unsigned o v = ap (λ (t : List ℕ). object_word o ++ 64 ∷ t) (sym (append-nil (decimal v)))

shared_passes : (o : ObjWord) (v : ℕ) → IsObject o → IsNumber v → Passes is_ref_byte (version_word o v)
shared_passes o v ho hv = rw (unsigned o v) (version_passes o v false ho hv)

shared_is : (o : ObjWord) (v : ℕ) → IsObject o → IsNumber v → is_shared (version_word o v) ≡ true
unfolding is_shared
shared_is o v ho hv =
    ap shared_form (at_parts o (decimal v) ho) ∙ and_from (is_object (object_word o)) (is_digits (decimal v)) (object_is o ho) (decimal_form v hv)

shared_read : (o : ObjWord) (v : ℕ) → IsObject o → IsNumber v → ref_of (version_word o v) ≡ Some (record { object = o; version = v; spoiled = false })
shared_read o v ho hv = ap ref_of (unsigned o v) ∙ ref_has_value o v false ho hv

-- ---- hexadecimal digits

-- the digits of the first numbers
abbrev hex_below : ℕ → Bool
hex_below zero = true
hex_below (suc n) = is_hex_byte (slice_index lower_digits n) && hex_below n

hex_at : (n k : ℕ) → hex_below n ≡ true → k < n → is_hex_byte (slice_index lower_digits k) ≡ true
hex_at zero k h low = absurd (omega arith)
hex_at (suc n) k h low =
    let hs = and_parts (is_hex_byte (slice_index lower_digits n)) (hex_below n) h in
    elim (cases_eq k n) [
      | inl e ↦ rw e hs.0
      | inr other ↦ hex_at n k hs.1 (omega arith)
    ]

hex_digit : (k : ℕ) → k < 16 → is_hex_byte (slice_index lower_digits k) ≡ true
hex_digit k low = hex_at 16 k refl low

pub hex_passes : (bytes : List ℕ) → AllByRecursion IsByte bytes → Passes is_hex_byte (encode_lower bytes)
unfolding encode_with
hex_passes [] h = refl
hex_passes (b ∷ bytes) h =
    let fits : b < 256 = h.0 in
    and_from (is_hex_byte (slice_index lower_digits (b / 16))) (list_all is_hex_byte (slice_index lower_digits (b % 16) ∷ encode_with lower_digits bytes)) (hex_digit (b / 16) (omega arith))
    (and_from (is_hex_byte (slice_index lower_digits (b % 16))) (list_all is_hex_byte (encode_with lower_digits bytes)) (hex_digit (b % 16) (omega arith)) (hex_passes bytes h.1))

hex_in_name : (b : ℕ) → is_hex_byte b ≡ true → is_name_byte b ≡ true
hex_in_name b h =
    either (is_name_byte b ≡ true) (is_digit b) (nat_le 97 b && nat_le b 102) h (digit_in_name b)
    (λ k. let hs = and_parts (nat_le 97 b) (nat_le b 102) k in
    let under = leb-true b 102 hs.1 in
    lower_in_name b (and_from (nat_le 97 b) (nat_le b 122) hs.0 (le-leb b 122 (omega (arith, under)))))

pub hex_names : (bytes : List ℕ) → AllByRecursion IsByte bytes → Passes is_name_byte (encode_lower bytes)
hex_names bytes h = wider is_hex_byte is_name_byte hex_in_name (encode_lower bytes) (hex_passes bytes h)

pub hex_is : (bytes : List ℕ) → AllByRecursion IsByte bytes → is_hex (encode_lower bytes) ≡ true
unfolding is_hex
hex_is bytes h =
    let long = length-encode_with lower_digits bytes in
    let even : length (encode_lower bytes) % 2 ≡ 0 = omega (arith, long) in
    and_from (length (encode_lower bytes) % 2 == 0) (list_all is_hex_byte (encode_lower bytes)) (eq-eqb _ _ even) (hex_passes bytes h)

pub bytes_by_index : (bytes : List ℕ) → AllByRecursion IsByte bytes → IsBytes bytes
bytes_by_index [] h i = omega arith
bytes_by_index (b ∷ bytes) h zero = h.0
bytes_by_index (b ∷ bytes) h (suc i) = bytes_by_index bytes h.1 i

pub hex_read : (bytes : List ℕ) → AllByRecursion IsByte bytes → hex_of (encode_lower bytes) ≡ Some bytes
unfolding hex_of
hex_read bytes h = ap result_ok (decode_of-encode_lower bytes (bytes_by_index bytes h))

-- ---- inputs

-- after a letter and `:`
pub letter_passes : (letter : ℕ) (rest : List ℕ) → is_input_byte letter ≡ true → Passes is_ref_byte rest → Passes is_input_byte (letter ∷ 58 ∷ rest)
letter_passes letter rest fine h = and_from (is_input_byte letter) (list_all is_input_byte (58 ∷ rest)) fine (wider is_ref_byte is_input_byte ref_in_input rest h)

named : (w : List ℕ) → Passes is_name_byte w → Passes is_ref_byte w
named w h = wider is_name_byte is_ref_byte name_in_ref w h

pub input_passes : (x : InputWord) → IsInput x → Passes is_input_byte (input_word x)
input_passes (input.Number n) h = letter_passes 110 (decimal n) refl (named (decimal n) (number_passes n h))
input_passes (input.Address name) h = letter_passes 97 name refl (named name (name_passes name h))
input_passes (input.Bytes bytes) h = letter_passes 120 (encode_lower bytes) refl (named (encode_lower bytes) (hex_names bytes h))
input_passes (input.Owned r) h = letter_passes 111 (ref_word r) refl (ref_passes r h)
input_passes (input.Immutable r) h = letter_passes 105 (ref_word r) refl (ref_passes r h)
input_passes (input.Shared o initial true) h = letter_passes 115 (version_word o initial) refl (shared_passes o initial h.0 h.1)
input_passes (input.Shared o initial false) h = letter_passes 114 (version_word o initial) refl (shared_passes o initial h.0 h.1)

-- the kind, by the letter
parts : (letter : ℕ) (rest : List ℕ) → is_name_byte letter ≡ true → input_parts (letter ∷ 58 ∷ rest) ≡ of_kind (Some (letter ∷ [], rest))
unfolding input_parts
parts letter rest fine = ap of_kind (cut_yes is_name_byte 58 refl (letter ∷ []) rest (and_from (is_name_byte letter) true fine refl))

pub input_is : (x : InputWord) → IsInput x → is_input (input_word x) ≡ true
unfolding is_input input_kind
input_is (input.Number n) h = ap form_of_parts (parts 110 (decimal n) refl) ∙ decimal_form n h
input_is (input.Address name) h = ap form_of_parts (parts 97 name refl) ∙ h
input_is (input.Bytes bytes) h = ap form_of_parts (parts 120 (encode_lower bytes) refl) ∙ hex_is bytes h
input_is (input.Owned r) h = ap form_of_parts (parts 111 (ref_word r) refl) ∙ ref_is r h
input_is (input.Immutable r) h = ap form_of_parts (parts 105 (ref_word r) refl) ∙ ref_is r h
input_is (input.Shared o initial true) h = ap form_of_parts (parts 115 (version_word o initial) refl) ∙ shared_is o initial h.0 h.1
input_is (input.Shared o initial false) h = ap form_of_parts (parts 114 (version_word o initial) refl) ∙ shared_is o initial h.0 h.1

pub input_read : (x : InputWord) → IsInput x → input_of (input_word x) ≡ Some x
unfolding input_of input_kind
input_read (input.Number n) h = ap value_of_parts (parts 110 (decimal n) refl) ∙ ap (option_map (λ n. input.Number n)) (number_read n h)
input_read (input.Address name) h = ap value_of_parts (parts 97 name refl)
input_read (input.Bytes bytes) h = ap value_of_parts (parts 120 (encode_lower bytes) refl) ∙ ap (option_map (λ b. input.Bytes b)) (hex_read bytes h)
input_read (input.Owned r) h = ap value_of_parts (parts 111 (ref_word r) refl) ∙ ap (option_map (λ r. input.Owned r)) (ref_read r h)
input_read (input.Immutable r) h = ap value_of_parts (parts 105 (ref_word r) refl) ∙ ap (option_map (λ r. input.Immutable r)) (ref_read r h)
input_read (input.Shared o initial true) h = ap value_of_parts (parts 115 (version_word o initial) refl) ∙ ap (option_map (shared_input true)) (shared_read o initial h.0 h.1)
input_read (input.Shared o initial false) h = ap value_of_parts (parts 114 (version_word o initial) refl) ∙ ap (option_map (shared_input false)) (shared_read o initial h.0 h.1)
