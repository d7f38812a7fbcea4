-- The items of BCS that are neither lists nor choices. A fault is at the first byte of its item, and its number is that of
-- its kind at `FaultKind` (src/fault.rt): 1, 2, 5 and 8 come here, 3 and 4 in Uleb, 6 in Tags, 7 in Whole.
use Rattle.std.specs.Prelude.{◌≡◌, ℕ, ◌^◌, ◌<◌, ◌≤◌, Bool, true, false, cond, nat_lt, ◌==◌, if◌then◌else◌, List, [], ◌∷◌, ◌++◌, length, take, drop, Ok, Err, refl}
use Rattle.std.specs.Str.{is_utf8}
use Rattle.std.proofs.Common.{sym, ◌∙◌, ap, subst, inl, inr, arith, append_assoc, add-zero}
use Rattle.std.proofs.lemmas.Bool.{cases_lt, eqb-true, ltb-false, le-ltb}
use Rattle.std.proofs.lemmas.List.{take_at, take-append-drop, length-append, length-take, length-take-le, drop-drop, get_or-take, get_or_past}
use Rattle.wire_bcs.specs.Place.{Place, Read, Takes, Takes-then, Takes-bytes, Takes-none, IsBytes, left, forward, left-forward, forward-then, stop, ◌>>=◌, bind_ok, ok_is}
use Rattle.wire_bcs.specs.Codec.{Codec}
use Rattle.wire_bcs.specs.Little.{low_first, value_of, length-low_first, value_of-low_first, value_of-below, low_first-value_of}
use Rattle.wire_bcs.specs.Uleb.{uleb, uleb_below}
use Rattle.wire_bcs.specs.UlebLaws.{chosen, uleb-takes, uleb-again, IsBytes-left}

-- ---- so many bytes

abbrev pub front_at : ℕ → Place → Read (List ℕ)
front_at count p = if nat_lt (length (left p)) count then stop p 1 else Ok (take count (left p), forward count p)

unfoldable pub front_read : ℕ → Place → Read (List ℕ)
front_read count p = front_at count p

pub IsBytes-take : (n : ℕ) (bytes : List ℕ) → IsBytes bytes → IsBytes (take n bytes)
IsBytes-take n bytes h i =
    elim (cases_lt i n) [
      | inl lt ↦ rw (get_or-take n bytes i 0 lt) (h i)
      | inr le ↦ rw (get_or_past (take n bytes) i 0 (omega (arith, length-take n bytes))) (omega arith)
    ]

pub front-takes : (count : ℕ) (p : Place) (x : List ℕ) (q : Place) → IsBytes p.input → front_read count p ≡ Ok (x, q) → Takes p x q × (length x ≡ count) × IsBytes x
unfolding front_read
front-takes count p x q fits e =
    elim (chosen (nat_lt (length (left p)) count) (stop p 1) (Ok (take count (left p), forward count p)) (Ok (x, q)) e) [
      | inl g ↦ absurd (let h = g.1 in cc)
      | inr g ↦
          let long : count ≤ length (left p) = ltb-false (length (left p)) count g.0 in
          let len : length (take count (left p)) ≡ count = length-take-le count (left p) long in
          let rest : left (forward count p) ≡ drop count (left p) = sym (drop-drop count p.at p.input) in
          let takes : Takes p (take count (left p)) (forward count p) = record {
            parts = sym (take-append-drop count (left p)) ∙ ap (λ (bytes : List ℕ). take count (left p) ++ bytes) (sym rest);
            moved = ap (λ (n : ℕ). forward n p) (sym len);
          } in
          let P : List ℕ × Place → Type 0 = λ y. Takes p y.0 y.1 × (length y.0 ≡ count) × IsBytes y.0 in
          subst P (ok_is (take count (left p), forward count p) (x, q) g.1) (takes, len, IsBytes-take count (left p) (IsBytes-left p fits))
    ]

pub front-again : (count : ℕ) (p : Place) (x rest : List ℕ) → length x ≡ count → left p ≡ x ++ rest → front_read count p ≡ Ok (x, forward (length x) p)
unfolding front_read
front-again count p x rest len e =
    let long : nat_lt (length (left p)) count ≡ false = le-ltb (length (left p)) count (omega (arith, ap length e, length-append x rest)) in
    let front : take count (left p) ≡ x = ap (λ (bytes : List ℕ). take count bytes) e ∙ take_at x rest count len in
    rw (long, front, len) refl

-- a byte array of fixed size has no length
abbrev pub fixed : ℕ → Codec (List ℕ)
fixed count = record {
  short = λ _. Unit {0};
  fits = λ bytes. length bytes ≡ count;
  spell = λ bytes. bytes;
  read = front_read count;
  lists = λ _ _. tt;
  takes = λ p x q fits e. let t = front-takes count p x q fits e in (t.0, t.1);
  again = λ p x rest fits e. front-again count p x rest fits e;
}

-- ---- numbers

unfoldable pub number_spell : ℕ → ℕ → List ℕ
number_spell width n = low_first width n

unfoldable pub number_read : ℕ → Place → Read ℕ
number_read width p = front_read width p >>= λ x. Ok (value_of x.0, x.1)

pub number-takes : (width : ℕ) (p : Place) (n : ℕ) (q : Place) → IsBytes p.input → number_read width p ≡ Ok (n, q) → Takes p (number_spell width n) q × (n < 256 ^ width)
unfolding number_read number_spell
number-takes width p n q fits e =
    let b = bind_ok (front_read width p) (λ x. Ok (value_of x.0, x.1)) (n, q) e in
    let t = front-takes width p b.0.0 b.0.1 fits b.1 in
    let spelled : low_first width (value_of b.0.0) ≡ b.0.0 = subst (λ (k : ℕ). low_first k (value_of b.0.0) ≡ b.0.0) t.1 (low_first-value_of b.0.0 t.2) in
    let below : value_of b.0.0 < 256 ^ width = subst (λ (k : ℕ). value_of b.0.0 < 256 ^ k) t.1 (value_of-below b.0.0 t.2) in
    let P : ℕ × Place → Type 0 = λ y. Takes p (low_first width y.0) y.1 × (y.0 < 256 ^ width) in
    subst P (ok_is (value_of b.0.0, b.0.1) (n, q) b.2) (subst (λ (text : List ℕ). Takes p text b.0.1) (sym spelled) t.0, below)

pub number-again : (width : ℕ) (p : Place) (n : ℕ) (rest : List ℕ) → n < 256 ^ width → left p ≡ number_spell width n ++ rest → number_read width p ≡ Ok (n, forward (length (number_spell width n)) p)
unfolding number_read number_spell
number-again width p n rest below e =
    rw (front-again width p (low_first width n) rest (length-low_first width n) e) (rw (value_of-low_first width n below) refl)

-- an unsigned integer of so many bytes
abbrev pub number : ℕ → Codec ℕ
number width = record {
  short = λ _. Unit {0};
  fits = λ n. n < 256 ^ width;
  spell = number_spell width;
  read = number_read width;
  lists = λ _ _. tt;
  takes = number-takes width;
  again = number-again width;
}

-- ---- bool

unfoldable pub bool_spell : Bool → List ℕ
bool_spell false = 0 ∷ []
bool_spell true = 1 ∷ []

abbrev pub bool_of : Place → ℕ × Place → Read Bool
bool_of p x = if x.0 == 0 then Ok (false, x.1) else (if x.0 == 1 then Ok (true, x.1) else stop p 2)

unfoldable pub bool_read : Place → Read Bool
bool_read p = number_read 1 p >>= λ x. bool_of p x

pub bool-takes : (p : Place) (x : Bool) (q : Place) → IsBytes p.input → bool_read p ≡ Ok (x, q) → Takes p (bool_spell x) q × Unit {0}
unfolding bool_read bool_spell number_spell
bool-takes p x q fits e =
    let b = bind_ok (number_read 1 p) (bool_of p) (x, q) e in
    let t = number-takes 1 p b.0.0 b.0.1 fits b.1 in
    let P : Bool × Place → Type 0 = λ y. Takes p (bool_spell y.0) y.1 × Unit {0} in
    elim (chosen (b.0.0 == 0) (Ok (false, b.0.1)) (cond (b.0.0 == 1) (Ok (true, b.0.1)) (stop p 2)) (Ok (x, q)) b.2) [
      | inl g ↦
          let text : low_first 1 b.0.0 ≡ 0 ∷ [] = ap (λ (n : ℕ). low_first 1 n) (eqb-true b.0.0 0 g.0) in
          subst P (ok_is (false, b.0.1) (x, q) g.1) (subst (λ (s : List ℕ). Takes p s b.0.1) text t.0, tt)
      | inr g ↦ elim (chosen (b.0.0 == 1) (Ok (true, b.0.1)) (stop p 2) (Ok (x, q)) g.1) [
        | inl h ↦
            let text : low_first 1 b.0.0 ≡ 1 ∷ [] = ap (λ (n : ℕ). low_first 1 n) (eqb-true b.0.0 1 h.0) in
            subst P (ok_is (true, b.0.1) (x, q) h.1) (subst (λ (s : List ℕ). Takes p s b.0.1) text t.0, tt)
        | inr h ↦ absurd (let r = h.1 in cc)
      ]
    ]

pub bool-again : (p : Place) (x : Bool) (rest : List ℕ) → Unit {0} → left p ≡ bool_spell x ++ rest → bool_read p ≡ Ok (x, forward (length (bool_spell x)) p)
unfolding bool_read bool_spell number_spell
bool-again p false rest fits e = rw (number-again 1 p 0 rest (omega arith) e) refl
bool-again p true rest fits e = rw (number-again 1 p 1 rest (omega arith) e) refl

-- a bool is one byte, 0 or 1
abbrev pub bool_codec : Codec Bool
bool_codec = record {
  short = λ _. Unit {0};
  fits = λ _. Unit {0};
  spell = bool_spell;
  read = bool_read;
  lists = λ _ _. tt;
  takes = bool-takes;
  again = bool-again;
}

-- ---- bytes and text

-- a length is below 2 ^ 31
abbrev pub length_limit : ℕ
length_limit = 2147483648

-- a length, and that many bytes
abbrev pub counted_read : Place → Read (List ℕ)
counted_read p = uleb_below length_limit 5 p >>= λ n. front_read n.0 n.1

-- the number of a fault at another place
abbrev pub at_front : {A : Type 0} → Place → Read A → Read A
at_front p (Ok x) = Ok x
at_front p (Err s) = stop p s.why

unfoldable pub bytes_spell : List ℕ → List ℕ
bytes_spell bytes = uleb (length bytes) ++ bytes

-- a length and that many bytes are one item, whose faults are all at its first byte
unfoldable pub bytes_read : Place → Read (List ℕ)
bytes_read p = at_front p (counted_read p)

at_front_ok : {A : Type 0} (p : Place) (r : Read A) (y : A × Place) → at_front p r ≡ Ok y → r ≡ Ok y
at_front_ok p (Ok x) y e = e
at_front_ok p (Err s) y e = absurd cc

pub bytes-takes : (p : Place) (x : List ℕ) (q : Place) → IsBytes p.input → bytes_read p ≡ Ok (x, q) → Takes p (bytes_spell x) q × (length x < length_limit)
unfolding bytes_read bytes_spell
bytes-takes p x q fits e =
    let r = at_front_ok p (uleb_below length_limit 5 p >>= λ n. front_read n.0 n.1) (x, q) e in
    let b = bind_ok (uleb_below length_limit 5 p) (λ n. front_read n.0 n.1) (x, q) r in
    let t = uleb-takes length_limit 5 p b.0.0 b.0.1 fits b.1 in
    let u = front-takes b.0.0 b.0.1 x q (Takes-bytes p (uleb b.0.0) b.0.1 t.0 fits) b.2 in
    let both : Takes p (uleb b.0.0 ++ x) q = Takes-then p b.0.1 q (uleb b.0.0) x t.0 u.0 in
    (subst (λ (n : ℕ). Takes p (uleb n ++ x) q) (sym u.1) both, omega (arith, t.1, u.1))

pub bytes-again : (p : Place) (x rest : List ℕ) → length x < length_limit → left p ≡ bytes_spell x ++ rest → bytes_read p ≡ Ok (x, forward (length (bytes_spell x)) p)
unfolding bytes_read bytes_spell
bytes-again p x rest below e =
    let whole : left p ≡ uleb (length x) ++ (x ++ rest) = e ∙ append_assoc (uleb (length x)) x rest in
    let one = uleb-again length_limit 5 p (length x) (x ++ rest) (omega arith) below whole in
    let two = front-again (length x) (forward (length (uleb (length x))) p) x rest refl (left-forward p (uleb (length x)) (x ++ rest) whole) in
    let found : Place → Read (List ℕ) = λ q. Ok (x, q) in
    rw (one, two) (ap found (forward-then p (uleb (length x)) x))

-- a sequence of bytes: its length, and the bytes
abbrev pub bytes_codec : Codec (List ℕ)
bytes_codec = record {
  short = λ bytes. length bytes < length_limit;
  fits = λ bytes. length bytes < length_limit;
  spell = bytes_spell;
  read = bytes_read;
  lists = λ _ fits. fits;
  takes = bytes-takes;
  again = bytes-again;
}

unfoldable pub text_read : Place → Read (List ℕ)
text_read p = bytes_read p >>= λ x. if is_utf8 x.0 then Ok x else stop p 8

-- ---- no bytes at all, for a case without fields

pub nothing-takes : (p : Place) (x : Unit {0}) (q : Place) → IsBytes p.input → (let r : Read (Unit {0}) = Ok (tt, p) in r) ≡ Ok (x, q) → Takes p [] q × Unit {0}
nothing-takes p x q fits e =
    let P : Unit {0} × Place → Type 0 = λ y. Takes p [] y.1 × Unit {0} in
    subst P (ok_is (tt, p) (x, q) e) (Takes-none p, tt)

pub nothing-again : (p : Place) (x : Unit {0}) (rest : List ℕ) → Unit {0} → left p ≡ rest → (let r : Read (Unit {0}) = Ok (tt, p) in r) ≡ Ok (x, forward 0 p)
nothing-again p x rest fits e =
    let at_place : ℕ → Read (Unit {0}) = λ n. Ok (tt, record { input = p.input; at = n }) in
    ap at_place (sym (add-zero p.at))

abbrev pub nothing : Codec (Unit {0})
nothing = record {
  short = λ _. Unit {0};
  fits = λ _. Unit {0};
  spell = λ _. [];
  read = λ p. Ok (tt, p);
  lists = λ _ _. tt;
  takes = nothing-takes;
  again = nothing-again;
}
