-- Numbers of a fixed width (BCS: unsigned integers are little-endian).
use Rattle.std.specs.Prelude.{◌≡◌, ℕ, zero, suc, ◌+◌, ◌-◌, ◌*◌, ◌/◌, ◌%◌, ◌^◌, ◌<◌, List, [], ◌∷◌, length, get_or, take, refl}
use Rattle.std.specs.Int.{Width, byte_len, byte_worth, bytes_low_first, sum_through, to_le_bytes, from_le_bytes}
use Rattle.std.proofs.lemmas.List.{take_all}
use Rattle.std.proofs.Common.{sym, ◌∙◌, ap, arith}
use Rattle.std.proofs.Math.Nat.{pow-suc, div-div-eq-div-mul}
use Rattle.wire_bcs.specs.Place.{IsBytes}

-- the lowest bytes of a number, the lowest first
abbrev pub low_first : ℕ → ℕ → List ℕ
low_first zero n = []
low_first (suc k) n = n % 256 ∷ low_first k (n / 256)

-- the number that such bytes stand for
abbrev pub value_of : List ℕ → ℕ
value_of [] = 0
value_of (b ∷ bytes) = b + 256 * value_of bytes

pub length-low_first : (k n : ℕ) → length (low_first k n) ≡ k
length-low_first zero n = refl
length-low_first (suc k) n = ap suc (length-low_first k (n / 256))

pub value_of-low_first : (k n : ℕ) → n < 256 ^ k → value_of (low_first k n) ≡ n
value_of-low_first zero n h = omega arith
value_of-low_first (suc k) n h =
    let e = pow-suc 256 k in
    let below : n / 256 < 256 ^ k = omega arith in
    let rest = value_of-low_first k (n / 256) below in
    omega arith

pub IsBytes-rest : (b : ℕ) (bytes : List ℕ) → IsBytes (b ∷ bytes) → IsBytes bytes
IsBytes-rest b bytes h i = h (suc i)

pub value_of-below : (bytes : List ℕ) → IsBytes bytes → value_of bytes < 256 ^ length bytes
value_of-below [] h = omega arith
value_of-below (b ∷ bytes) h =
    let e = pow-suc 256 (length bytes) in
    let first : b < 256 = h 0 in
    let rest = value_of-below bytes (IsBytes-rest b bytes h) in
    omega arith

pub low_first-value_of : (bytes : List ℕ) → IsBytes bytes → low_first (length bytes) (value_of bytes) ≡ bytes
low_first-value_of [] h = refl
low_first-value_of (b ∷ bytes) h =
    let first : b < 256 = h 0 in
    let low : (b + 256 * value_of bytes) % 256 ≡ b = omega arith in
    let high : (b + 256 * value_of bytes) / 256 ≡ value_of bytes = omega arith in
    rw (low, high, low_first-value_of bytes (IsBytes-rest b bytes h)) refl

-- ---- the same, in std's words

bytes_low_first-is : (i k n : ℕ) → bytes_low_first i k n ≡ low_first k (n / 256 ^ i)
bytes_low_first-is i zero n = refl
bytes_low_first-is zero (suc k) n =
    let one : n / 256 ^ 0 ≡ n = omega arith in
    let rest = bytes_low_first-is 1 k n in
    rw (one, rest) refl
bytes_low_first-is (suc i) (suc k) n =
    let rest = bytes_low_first-is (suc (suc i)) k n in
    let again : n / 256 ^ suc i / 256 ≡ n / 256 ^ suc (suc i) = div-div-eq-div-mul n (256 ^ suc i) 256 ∙ ap (λ (d : ℕ). n / d) (sym (pow-suc 256 (suc i))) in
    rw (rest, again) refl

pub to_le_bytes-is : (w : Width) (n : ℕ) → to_le_bytes w n ≡ low_first (byte_len w) n
to_le_bytes-is w n =
    let one : n / 256 ^ 0 ≡ n = omega arith in
    bytes_low_first-is 0 (byte_len w) n ∙ ap (λ (m : ℕ). low_first (byte_len w) m) one

value_of-more : (k : ℕ) (bytes : List ℕ) → value_of (take (suc k) bytes) ≡ value_of (take k bytes) + byte_worth k (get_or bytes k 0)
value_of-more zero [] = omega arith
value_of-more zero (b ∷ bytes) = omega arith
value_of-more (suc k) [] = omega arith
value_of-more (suc zero) (b ∷ bytes) = let rest = value_of-more 0 bytes in omega arith
value_of-more (suc (suc k)) (b ∷ bytes) =
    let rest = value_of-more (suc k) bytes in
    let e = pow-suc 256 (suc k) in
    rw e (omega arith)

value_of-through : (k : ℕ) (bytes : List ℕ) → sum_through (λ i. byte_worth i (get_or bytes i 0)) k ≡ value_of (take (suc k) bytes)
value_of-through zero bytes = let one = value_of-more 0 bytes in omega arith
value_of-through (suc k) bytes =
    let rest = value_of-through k bytes in
    let one = value_of-more (suc k) bytes in
    omega arith

pub from_le_bytes-is : (w : Width) (bytes : List ℕ) → 0 < byte_len w → length bytes ≡ byte_len w → from_le_bytes w bytes ≡ value_of bytes
from_le_bytes-is w bytes some len =
    let k : suc (byte_len w - 1) ≡ length bytes = omega arith in
    value_of-through (byte_len w - 1) bytes ∙ ap value_of (ap (λ (n : ℕ). take n bytes) k ∙ take_all (length bytes) bytes (omega arith))
