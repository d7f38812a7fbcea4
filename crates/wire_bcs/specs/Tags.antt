-- Choices (BCS: an enum is its variant number and its fields). Fault 6: no variant has the number; the fault is at the
-- number.
use Rattle.std.specs.Prelude.{◌≡◌, ℕ, suc, ◌^◌, ◌<◌, ◌≤◌, true, false, ltb, ◌==◌, ◌⊎◌, if◌then◌else◌, List, ◌++◌, length, Ok, refl}
use Rattle.std.proofs.Common.{sym, ◌∙◌, ap, subst, inl, inr, arith, append_assoc}
use Rattle.std.proofs.lemmas.Bool.{eqb-true, eq-eqb, ne_eqb, ltb-true}
use Rattle.wire_bcs.specs.Place.{Place, Read, Takes, Takes-then, Takes-bytes, IsBytes, left, forward, left-forward, forward-then, stop, ◌>>=◌, bind_ok, ok_is}
use Rattle.wire_bcs.specs.Codec.{Codec}
use Rattle.wire_bcs.specs.Uleb.{uleb, uleb_below}
use Rattle.wire_bcs.specs.UlebLaws.{chosen, uleb-takes, uleb-again}

-- what stands after each variant number; the numbers ascend, and some between may be of no case
pub record Cases (A : Type 0) : Type 1 where
  pub least : ℕ
  pub greatest : ℕ
  pub tag : A → ℕ
  pub short : A → Type 0
  pub fits : A → Type 0
  pub body : A → List ℕ
  -- the number, its place, and the place after it
  pub read : ℕ → Place → Place → Read A
  pub ordered : least ≤ greatest
  pub from_least : (x : A) → least ≤ tag x
  pub to_greatest : (x : A) → tag x ≤ greatest
  pub lists : (x : A) → fits x → short x
  pub takes : (t : ℕ) (o p : Place) (x : A) (q : Place) → IsBytes p.input → read t o p ≡ Ok (x, q) → Takes p (body x) q × fits x × (tag x ≡ t)
  pub again : (o p : Place) (x : A) (rest : List ℕ) → fits x → left p ≡ body x ++ rest → read (tag x) o p ≡ Ok (x, forward (length (body x)) p)

-- ---- the last case

abbrev pub last_read : {A : Type 0} → ℕ → (Place → Read A) → ℕ → Place → Place → Read A
last_read n one t o p = if t == n then one p else stop o 6

pub same_le : (n : ℕ) → n ≤ n
same_le n = omega arith

pub last-takes : {A : Type 0} (n : ℕ) (c : Codec A) (t : ℕ) (o p : Place) (x : A) (q : Place) → IsBytes p.input → last_read n c.read t o p ≡ Ok (x, q) → Takes p (c.spell x) q × c.fits x × (n ≡ t)
last-takes n c t o p x q fits e =
    elim (chosen (t == n) (c.read p) (stop o 6) (Ok (x, q)) e) [
      | inl g ↦ let r = c.takes p x q fits g.1 in (r.0, r.1, sym (eqb-true t n g.0))
      | inr g ↦ absurd (let r = g.1 in cc)
    ]

pub last-again : {A : Type 0} (n : ℕ) (c : Codec A) (o p : Place) (x : A) (rest : List ℕ) → c.fits x → left p ≡ c.spell x ++ rest → last_read n c.read n o p ≡ Ok (x, forward (length (c.spell x)) p)
last-again n c o p x rest fits e = rw (eq-eqb n n refl) (c.again p x rest fits e)

abbrev pub last : {A : Type 0} → ℕ → Codec A → Cases A
last n c = record {
  least = n;
  greatest = n;
  tag = λ _. n;
  short = c.short;
  fits = c.fits;
  body = c.spell;
  read = last_read n c.read;
  ordered = same_le n;
  from_least = λ _. same_le n;
  to_greatest = λ _. same_le n;
  lists = c.lists;
  takes = last-takes n c;
  again = last-again n c;
}

-- ---- a case before others

abbrev pub either : {A B : Type 0} → (A → Type 0) → (B → Type 0) → A ⊎ B → Type 0
either P Q (inl x) = P x
either P Q (inr y) = Q y

abbrev pub tag_of : {A B : Type 0} → ℕ → (B → ℕ) → A ⊎ B → ℕ
tag_of n tag (inl x) = n
tag_of n tag (inr y) = tag y

abbrev pub body_of : {A B : Type 0} → (A → List ℕ) → (B → List ℕ) → A ⊎ B → List ℕ
body_of one others (inl x) = one x
body_of one others (inr y) = others y

abbrev pub case_read : {A B : Type 0} → ℕ → (Place → Read A) → (ℕ → Place → Place → Read B) → ℕ → Place → Place → Read (A ⊎ B)
case_read n one others t o p = if t == n then (one p >>= λ x. Ok (inl x.0, x.1)) else (others t o p >>= λ y. Ok (inr y.0, y.1))

pub case-from_least : {A B : Type 0} (n : ℕ) (d : Cases B) → ltb n d.least ≡ true → (x : A ⊎ B) → n ≤ tag_of n d.tag x
case-from_least n d lt (inl x) = same_le n
case-from_least n d lt (inr y) = let a = ltb-true n d.least lt in let b = d.from_least y in omega arith

pub case-ordered : {B : Type 0} (n : ℕ) (d : Cases B) → ltb n d.least ≡ true → n ≤ d.greatest
case-ordered n d lt = let a = ltb-true n d.least lt in let b = d.ordered in omega arith

pub case-to_greatest : {A B : Type 0} (n : ℕ) (d : Cases B) → ltb n d.least ≡ true → (x : A ⊎ B) → tag_of n d.tag x ≤ d.greatest
case-to_greatest n d lt (inl x) = case-ordered n d lt
case-to_greatest n d lt (inr y) = d.to_greatest y

pub case-lists : {A B : Type 0} (c : Codec A) (d : Cases B) → (x : A ⊎ B) → either c.fits d.fits x → either c.short d.short x
case-lists c d (inl x) fits = c.lists x fits
case-lists c d (inr y) fits = d.lists y fits

pub case-takes : {A B : Type 0} (n : ℕ) (c : Codec A) (d : Cases B) (t : ℕ) (o p : Place) (x : A ⊎ B) (q : Place) → IsBytes p.input → case_read n c.read d.read t o p ≡ Ok (x, q)
    → Takes p (body_of c.spell d.body x) q × either c.fits d.fits x × (tag_of n d.tag x ≡ t)
case-takes {A} {B} n c d t o p x q fits e =
    let P : (A ⊎ B) × Place → Type 0 = λ y. Takes p (body_of c.spell d.body y.0) y.1 × either c.fits d.fits y.0 × (tag_of n d.tag y.0 ≡ t) in
    elim (chosen (t == n) (c.read p >>= λ y. Ok (inl y.0, y.1)) (d.read t o p >>= λ y. Ok (inr y.0, y.1)) (Ok (x, q)) e) [
      | inl g ↦
          let b = bind_ok (c.read p) (λ y. Ok (inl y.0, y.1)) (x, q) g.1 in
          let r = c.takes p b.0.0 b.0.1 fits b.1 in
          subst P (ok_is (inl b.0.0, b.0.1) (x, q) b.2) (r.0, r.1, sym (eqb-true t n g.0))
      | inr g ↦
          let b = bind_ok (d.read t o p) (λ y. Ok (inr y.0, y.1)) (x, q) g.1 in
          let r = d.takes t o p b.0.0 b.0.1 fits b.1 in
          subst P (ok_is (inr b.0.0, b.0.1) (x, q) b.2) (r.0, r.1, r.2)
    ]

pub case-again : {A B : Type 0} (n : ℕ) (c : Codec A) (d : Cases B) → ltb n d.least ≡ true → (o p : Place) (x : A ⊎ B) (rest : List ℕ) → either c.fits d.fits x → left p ≡ body_of c.spell d.body x ++ rest
    → case_read n c.read d.read (tag_of n d.tag x) o p ≡ Ok (x, forward (length (body_of c.spell d.body x)) p)
case-again n c d lt o p (inl x) rest fits e = rw (eq-eqb n n refl, c.again p x rest fits e) refl
case-again n c d lt o p (inr y) rest fits e =
    let below = ltb-true n d.least lt in
    let above = d.from_least y in
    let other : (d.tag y == n) ≡ false = ne_eqb (d.tag y) n (λ same. omega (arith, same)) in
    rw (other, d.again o p y rest fits e) refl

abbrev pub case : {A B : Type 0} → (n : ℕ) (c : Codec A) (d : Cases B) → ltb n d.least ≡ true → Cases (A ⊎ B)
case n c d lt = record {
  least = n;
  greatest = d.greatest;
  tag = tag_of n d.tag;
  short = either c.short d.short;
  fits = either c.fits d.fits;
  body = body_of c.spell d.body;
  read = case_read n c.read d.read;
  ordered = case-ordered n d lt;
  from_least = case-from_least n d lt;
  to_greatest = case-to_greatest n d lt;
  lists = case-lists c d;
  takes = case-takes n c d;
  again = case-again n c d lt;
}

-- ---- the choice

abbrev pub choice_read : {A : Type 0} → ℕ → (ℕ → Place → Place → Read A) → Place → Read A
choice_read limit cases p = uleb_below limit 6 p >>= λ t. cases t.0 p t.1

pub choice-takes : {A : Type 0} (d : Cases A) (p : Place) (x : A) (q : Place) → IsBytes p.input → choice_read (suc d.greatest) d.read p ≡ Ok (x, q)
    → Takes p (uleb (d.tag x) ++ d.body x) q × d.fits x
choice-takes d p x q fits e =
    let b = bind_ok (uleb_below (suc d.greatest) 6 p) (λ t. d.read t.0 p t.1) (x, q) e in
    let t = uleb-takes (suc d.greatest) 6 p b.0.0 b.0.1 fits b.1 in
    let u = d.takes b.0.0 p b.0.1 x q (Takes-bytes p (uleb b.0.0) b.0.1 t.0 fits) b.2 in
    let both : Takes p (uleb b.0.0 ++ d.body x) q = Takes-then p b.0.1 q (uleb b.0.0) (d.body x) t.0 u.0 in
    (subst (λ (n : ℕ). Takes p (uleb n ++ d.body x) q) (sym u.2) both, u.1)

pub choice-again : {A : Type 0} (d : Cases A) → ltb d.greatest (2 ^ 32) ≡ true → (p : Place) (x : A) (rest : List ℕ) → d.fits x → left p ≡ (uleb (d.tag x) ++ d.body x) ++ rest
    → choice_read (suc d.greatest) d.read p ≡ Ok (x, forward (length (uleb (d.tag x) ++ d.body x)) p)
choice-again {A} d wide p x rest fits e =
    let whole : left p ≡ uleb (d.tag x) ++ (d.body x ++ rest) = e ∙ append_assoc (uleb (d.tag x)) (d.body x) rest in
    let below : d.tag x < suc d.greatest = (let h = d.to_greatest x in omega arith) in
    let limit : suc d.greatest ≤ 2 ^ 32 = (let h = ltb-true d.greatest (2 ^ 32) wide in omega arith) in
    let one = uleb-again (suc d.greatest) 6 p (d.tag x) (d.body x ++ rest) limit below whole in
    let two = d.again p (forward (length (uleb (d.tag x))) p) x rest fits (left-forward p (uleb (d.tag x)) (d.body x ++ rest) whole) in
    let found : Place → Read A = λ q. Ok (x, q) in
    rw (one, two) (ap found (forward-then p (uleb (d.tag x)) (d.body x)))

abbrev pub choice : {A : Type 0} → (d : Cases A) → ltb d.greatest (2 ^ 32) ≡ true → Codec A
choice d wide = record {
  short = d.short;
  fits = d.fits;
  spell = λ x. uleb (d.tag x) ++ d.body x;
  read = choice_read (suc d.greatest) d.read;
  lists = d.lists;
  takes = choice-takes d;
  again = choice-again d wide;
}
