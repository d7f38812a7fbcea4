-- Codecs made of codecs: fields in order, another view of a value, sequences, options (BCS).
use Rattle.std.specs.Prelude.{◌≡◌, ℕ, zero, suc, ◌<◌, Bool, true, false, List, [], ◌∷◌, ◌++◌, length, flat_map, All, Option, Some, None, Ok, IfSome, is_some, get_or, refl}
use Rattle.std.proofs.Common.{sym, ◌∙◌, ap, subst, arith, append_assoc, add-zero}
use Rattle.std.proofs.lemmas.List.Elements.{All-nil, All-cons}
use Rattle.wire_bcs.specs.Place.{Place, Read, Takes, Takes-then, Takes-bytes, Takes-none, IsBytes, left, forward, left-forward, forward-then, ◌>>=◌, bind_ok, ok_is}
use Rattle.wire_bcs.specs.Codec.{Codec}
use Rattle.wire_bcs.specs.Uleb.{uleb, uleb_below}
use Rattle.wire_bcs.specs.UlebLaws.{uleb-takes, uleb-again}
use Rattle.wire_bcs.specs.Items.{length_limit, bool_spell, bool_read, bool-takes, bool-again}

-- ---- two fields in order

abbrev pub pair_read : {A B : Type 0} → (Place → Read A) → (Place → Read B) → Place → Read (A × B)
pair_read one two p = one p >>= λ x. two x.1 >>= λ y. Ok ((x.0, y.0), y.1)

pub pair-takes : {A B : Type 0} (c : Codec A) (d : Codec B) (p : Place) (x : A × B) (q : Place) → IsBytes p.input → pair_read c.read d.read p ≡ Ok (x, q)
    → Takes p (c.spell x.0 ++ d.spell x.1) q × (c.fits x.0 × d.fits x.1)
pair-takes {A} {B} c d p x q fits e =
    let b = bind_ok (c.read p) (λ y. d.read y.1 >>= λ z. Ok ((y.0, z.0), z.1)) (x, q) e in
    let r = bind_ok (d.read b.0.1) (λ z. Ok ((b.0.0, z.0), z.1)) (x, q) b.2 in
    let t = c.takes p b.0.0 b.0.1 fits b.1 in
    let u = d.takes b.0.1 r.0.0 r.0.1 (Takes-bytes p (c.spell b.0.0) b.0.1 t.0 fits) r.1 in
    let P : (A × B) × Place → Type 0 = λ y. Takes p (c.spell y.0.0 ++ d.spell y.0.1) y.1 × (c.fits y.0.0 × d.fits y.0.1) in
    subst P (ok_is ((b.0.0, r.0.0), r.0.1) (x, q) r.2) (Takes-then p b.0.1 r.0.1 (c.spell b.0.0) (d.spell r.0.0) t.0 u.0, (t.1, u.1))

pub pair-again : {A B : Type 0} (c : Codec A) (d : Codec B) (p : Place) (x : A × B) (rest : List ℕ) → c.fits x.0 × d.fits x.1 → left p ≡ (c.spell x.0 ++ d.spell x.1) ++ rest
    → pair_read c.read d.read p ≡ Ok (x, forward (length (c.spell x.0 ++ d.spell x.1)) p)
pair-again {A} {B} c d p x rest fits e =
    let whole : left p ≡ c.spell x.0 ++ (d.spell x.1 ++ rest) = e ∙ append_assoc (c.spell x.0) (d.spell x.1) rest in
    let one = c.again p x.0 (d.spell x.1 ++ rest) fits.0 whole in
    let two = d.again (forward (length (c.spell x.0)) p) x.1 rest fits.1 (left-forward p (c.spell x.0) (d.spell x.1 ++ rest) whole) in
    let found : Place → Read (A × B) = λ q. Ok (x, q) in
    rw (one, two) (ap found (forward-then p (c.spell x.0) (d.spell x.1)))

abbrev pub pair : {A B : Type 0} → Codec A → Codec B → Codec (A × B)
pair c d = record {
  short = λ x. c.short x.0 × d.short x.1;
  fits = λ x. c.fits x.0 × d.fits x.1;
  spell = λ x. c.spell x.0 ++ d.spell x.1;
  read = pair_read c.read d.read;
  lists = λ x fits. (c.lists x.0 fits.0, d.lists x.1 fits.1);
  takes = pair-takes c d;
  again = pair-again c d;
}

-- ---- a type that is another one seen differently, as a struct is its fields

abbrev pub by_read : {A B : Type 0} → (B → A) → (Place → Read B) → Place → Read A
by_read from one p = one p >>= λ y. Ok (from y.0, y.1)

pub by-takes : {A B : Type 0} (to : A → B) (from : B → A) (forth : (y : B) → to (from y) ≡ y) (c : Codec B) (p : Place) (x : A) (q : Place) → IsBytes p.input → by_read from c.read p ≡ Ok (x, q)
    → Takes p (c.spell (to x)) q × c.fits (to x)
by-takes {A} {B} to from forth c p x q fits e =
    let b = bind_ok (c.read p) (λ y. Ok (from y.0, y.1)) (x, q) e in
    let t = c.takes p b.0.0 b.0.1 fits b.1 in
    let P : B → Type 0 = λ y. Takes p (c.spell y) b.0.1 × c.fits y in
    let Q : A × Place → Type 0 = λ y. Takes p (c.spell (to y.0)) y.1 × c.fits (to y.0) in
    subst Q (ok_is (from b.0.0, b.0.1) (x, q) b.2) (subst P (sym (forth b.0.0)) t)

pub by-again : {A B : Type 0} (to : A → B) (from : B → A) (back : (x : A) → from (to x) ≡ x) (c : Codec B) (p : Place) (x : A) (rest : List ℕ) → c.fits (to x) → left p ≡ c.spell (to x) ++ rest
    → by_read from c.read p ≡ Ok (x, forward (length (c.spell (to x))) p)
by-again {A} {B} to from back c p x rest fits e =
    let found : A → Read A = λ y. Ok (y, forward (length (c.spell (to x))) p) in
    rw (c.again p (to x) rest fits e) (ap found (back x))

abbrev pub by : {A B : Type 0} → (to : A → B) → (from : B → A) → ((x : A) → from (to x) ≡ x) → ((y : B) → to (from y) ≡ y) → Codec B → Codec A
by to from back forth c = record {
  short = λ x. c.short (to x);
  fits = λ x. c.fits (to x);
  spell = λ x. c.spell (to x);
  read = by_read from c.read;
  lists = λ x fits. c.lists (to x) fits;
  takes = by-takes to from forth c;
  again = by-again to from back c;
}

-- ---- sequences: the length, at most 2 ^ 31 - 1, and the items

abbrev pub items_read : {A : Type 0} → (Place → Read A) → ℕ → Place → Read (List A)
items_read one zero p = Ok ([], p)
items_read one (suc count) p = one p >>= λ x. items_read one count x.1 >>= λ y. Ok (x.0 ∷ y.0, y.1)

unfoldable pub seq_read : {A : Type 0} → (Place → Read A) → Place → Read (List A)
seq_read one p = uleb_below length_limit 5 p >>= λ n. items_read one n.0 n.1

unfoldable pub seq_spell : {A : Type 0} → (A → List ℕ) → List A → List ℕ
seq_spell one xs = uleb (length xs) ++ flat_map one xs

items-takes : {A : Type 0} (c : Codec A) (count : ℕ) (p : Place) (xs : List A) (q : Place) → IsBytes p.input → items_read c.read count p ≡ Ok (xs, q)
    → Takes p (flat_map c.spell xs) q × (length xs ≡ count) × All c.fits xs
items-takes {A} c zero p xs q fits e =
    let P : List A × Place → Type 0 = λ y. Takes p (flat_map c.spell y.0) y.1 × (length y.0 ≡ 0) × All c.fits y.0 in
    subst P (ok_is ([], p) (xs, q) e) (Takes-none p, refl, All-nil c.fits)
items-takes {A} c (suc count) p xs q fits e =
    let b = bind_ok (c.read p) (λ y. items_read c.read count y.1 >>= λ z. Ok (y.0 ∷ z.0, z.1)) (xs, q) e in
    let r = bind_ok (items_read c.read count b.0.1) (λ z. Ok (b.0.0 ∷ z.0, z.1)) (xs, q) b.2 in
    let t = c.takes p b.0.0 b.0.1 fits b.1 in
    let u = items-takes c count b.0.1 r.0.0 r.0.1 (Takes-bytes p (c.spell b.0.0) b.0.1 t.0 fits) r.1 in
    let P : List A × Place → Type 0 = λ y. Takes p (flat_map c.spell y.0) y.1 × (length y.0 ≡ suc count) × All c.fits y.0 in
    subst P (ok_is (b.0.0 ∷ r.0.0, r.0.1) (xs, q) r.2)
    (Takes-then p b.0.1 r.0.1 (c.spell b.0.0) (flat_map c.spell r.0.0) t.0 u.0, ap suc u.1, All-cons c.fits b.0.0 r.0.0 t.1 u.2)

items-again : {A : Type 0} (c : Codec A) (xs : List A) (p : Place) (rest : List ℕ) → All c.fits xs → left p ≡ flat_map c.spell xs ++ rest
    → items_read c.read (length xs) p ≡ Ok (xs, forward (length (flat_map c.spell xs)) p)
items-again {A} c [] p rest fits e =
    let at_place : ℕ → Read (List A) = λ n. Ok ([], record { input = p.input; at = n }) in
    ap at_place (sym (add-zero p.at))
items-again {A} c (x ∷ xs) p rest fits e =
    let first : c.fits x = fits 0 x (omega arith) in
    let others : All c.fits xs = λ k d lt. fits (suc k) d (omega arith) in
    let whole : left p ≡ c.spell x ++ (flat_map c.spell xs ++ rest) = e ∙ append_assoc (c.spell x) (flat_map c.spell xs) rest in
    let one = c.again p x (flat_map c.spell xs ++ rest) first whole in
    let two = items-again c xs (forward (length (c.spell x)) p) rest others (left-forward p (c.spell x) (flat_map c.spell xs ++ rest) whole) in
    let found : Place → Read (List A) = λ q. Ok (x ∷ xs, q) in
    rw (one, two) (ap found (forward-then p (c.spell x) (flat_map c.spell xs)))

pub seq-takes : {A : Type 0} (c : Codec A) (p : Place) (xs : List A) (q : Place) → IsBytes p.input → seq_read c.read p ≡ Ok (xs, q)
    → Takes p (seq_spell c.spell xs) q × ((length xs < length_limit) × All c.fits xs)
unfolding seq_read seq_spell
seq-takes c p xs q fits e =
    let b = bind_ok (uleb_below length_limit 5 p) (λ n. items_read c.read n.0 n.1) (xs, q) e in
    let t = uleb-takes length_limit 5 p b.0.0 b.0.1 fits b.1 in
    let u = items-takes c b.0.0 b.0.1 xs q (Takes-bytes p (uleb b.0.0) b.0.1 t.0 fits) b.2 in
    let both : Takes p (uleb b.0.0 ++ flat_map c.spell xs) q = Takes-then p b.0.1 q (uleb b.0.0) (flat_map c.spell xs) t.0 u.0 in
    (subst (λ (n : ℕ). Takes p (uleb n ++ flat_map c.spell xs) q) (sym u.1) both, (omega (arith, t.1, u.1), u.2))

pub seq-again : {A : Type 0} (c : Codec A) (p : Place) (xs : List A) (rest : List ℕ) → (length xs < length_limit) × All c.fits xs → left p ≡ seq_spell c.spell xs ++ rest
    → seq_read c.read p ≡ Ok (xs, forward (length (seq_spell c.spell xs)) p)
unfolding seq_read seq_spell
seq-again {A} c p xs rest fits e =
    let whole : left p ≡ uleb (length xs) ++ (flat_map c.spell xs ++ rest) = e ∙ append_assoc (uleb (length xs)) (flat_map c.spell xs) rest in
    let one = uleb-again length_limit 5 p (length xs) (flat_map c.spell xs ++ rest) (omega arith) fits.0 whole in
    let two = items-again c xs (forward (length (uleb (length xs))) p) rest fits.1 (left-forward p (uleb (length xs)) (flat_map c.spell xs ++ rest) whole) in
    let found : Place → Read (List A) = λ q. Ok (xs, q) in
    rw (one, two) (ap found (forward-then p (uleb (length xs)) (flat_map c.spell xs)))

abbrev pub seq : {A : Type 0} → Codec A → Codec (List A)
seq c = record {
  short = λ xs. (length xs < length_limit) × All c.short xs;
  fits = λ xs. (length xs < length_limit) × All c.fits xs;
  spell = seq_spell c.spell;
  read = seq_read c.read;
  lists = λ xs fits. (fits.0, λ k d lt. c.lists (get_or xs k d) (fits.1 k d lt));
  takes = seq-takes c;
  again = seq-again c;
}

-- ---- options: a bool, and the value after true

abbrev pub option_of : {A : Type 0} → (Place → Read A) → Bool → Place → Read (Option A)
option_of one false p = Ok (None, p)
option_of one true p = one p >>= λ x. Ok (Some x.0, x.1)

unfoldable pub option_read : {A : Type 0} → (Place → Read A) → Place → Read (Option A)
option_read one p = bool_read p >>= λ b. option_of one b.0 b.1

abbrev pub option_body : {A : Type 0} → (A → List ℕ) → Option A → List ℕ
option_body one None = []
option_body one (Some x) = one x

unfoldable pub option_spell : {A : Type 0} → (A → List ℕ) → Option A → List ℕ
option_spell one o = bool_spell (is_some o) ++ option_body one o

option_of-takes : {A : Type 0} (c : Codec A) (b : Bool) (p : Place) (o : Option A) (q : Place) → IsBytes p.input → option_of c.read b p ≡ Ok (o, q)
    → Takes p (option_body c.spell o) q × IfSome o c.fits × (is_some o ≡ b)
option_of-takes {A} c false p o q fits e =
    let P : Option A × Place → Type 0 = λ y. Takes p (option_body c.spell y.0) y.1 × IfSome y.0 c.fits × (is_some y.0 ≡ false) in
    subst P (ok_is (None, p) (o, q) e) (Takes-none p, tt, refl)
option_of-takes {A} c true p o q fits e =
    let b = bind_ok (c.read p) (λ x. Ok (Some x.0, x.1)) (o, q) e in
    let t = c.takes p b.0.0 b.0.1 fits b.1 in
    let P : Option A × Place → Type 0 = λ y. Takes p (option_body c.spell y.0) y.1 × IfSome y.0 c.fits × (is_some y.0 ≡ true) in
    subst P (ok_is (Some b.0.0, b.0.1) (o, q) b.2) (t.0, t.1, refl)

option_of-again : {A : Type 0} (c : Codec A) (o : Option A) (p : Place) (rest : List ℕ) → IfSome o c.fits → left p ≡ option_body c.spell o ++ rest
    → option_of c.read (is_some o) p ≡ Ok (o, forward (length (option_body c.spell o)) p)
option_of-again {A} c None p rest fits e =
    let at_place : ℕ → Read (Option A) = λ n. Ok (None, record { input = p.input; at = n }) in
    ap at_place (sym (add-zero p.at))
option_of-again c (Some x) p rest fits e = rw (c.again p x rest fits e) refl

pub option-takes : {A : Type 0} (c : Codec A) (p : Place) (o : Option A) (q : Place) → IsBytes p.input → option_read c.read p ≡ Ok (o, q) → Takes p (option_spell c.spell o) q × IfSome o c.fits
unfolding option_read option_spell
option-takes c p o q fits e =
    let b = bind_ok (bool_read p) (λ y. option_of c.read y.0 y.1) (o, q) e in
    let t = bool-takes p b.0.0 b.0.1 fits b.1 in
    let u = option_of-takes c b.0.0 b.0.1 o q (Takes-bytes p (bool_spell b.0.0) b.0.1 t.0 fits) b.2 in
    let both : Takes p (bool_spell b.0.0 ++ option_body c.spell o) q = Takes-then p b.0.1 q (bool_spell b.0.0) (option_body c.spell o) t.0 u.0 in
    (subst (λ (flag : Bool). Takes p (bool_spell flag ++ option_body c.spell o) q) (sym u.2) both, u.1)

pub option-again : {A : Type 0} (c : Codec A) (p : Place) (o : Option A) (rest : List ℕ) → IfSome o c.fits → left p ≡ option_spell c.spell o ++ rest
    → option_read c.read p ≡ Ok (o, forward (length (option_spell c.spell o)) p)
unfolding option_read option_spell
option-again {A} c p o rest fits e =
    let whole : left p ≡ bool_spell (is_some o) ++ (option_body c.spell o ++ rest) = e ∙ append_assoc (bool_spell (is_some o)) (option_body c.spell o) rest in
    let one = bool-again p (is_some o) (option_body c.spell o ++ rest) tt whole in
    let two = option_of-again c o (forward (length (bool_spell (is_some o))) p) rest fits (left-forward p (bool_spell (is_some o)) (option_body c.spell o ++ rest) whole) in
    let found : Place → Read (Option A) = λ q. Ok (o, q) in
    rw (one, two) (ap found (forward-then p (bool_spell (is_some o)) (option_body c.spell o)))

pub option-lists : {A : Type 0} (c : Codec A) (o : Option A) → IfSome o c.fits → IfSome o c.short
option-lists c None fits = tt
option-lists c (Some x) fits = c.lists x fits

abbrev pub option : {A : Type 0} → Codec A → Codec (Option A)
option c = record {
  short = λ o. IfSome o c.short;
  fits = λ o. IfSome o c.fits;
  spell = option_spell c.spell;
  read = option_read c.read;
  lists = option-lists c;
  takes = option-takes c;
  again = option-again c;
}
