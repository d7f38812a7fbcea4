-- A place in an input, and how reading goes on from place to place until the first fault.
use Rattle.std.specs.Prelude.{◌≡◌, ℕ, ◌+◌, ◌<◌, List, [], ◌++◌, length, get_or, drop, Result, Ok, Err, refl}
use Rattle.std.proofs.Common.{sym, ◌∙◌, ap, subst, arith, append_assoc, add-zero}
use Rattle.std.proofs.lemmas.List.{drop-drop, drop_at, length-append}
use Rattle.wire_bcs.specs.declared.fault.FaultKind.{FaultKind}
use Rattle.wire_bcs.specs.declared.fault.FaultKind.TheVariants as kind

-- an input, and how many of its bytes were read
pub record Place : Type 0 where
  pub input : List ℕ
  pub at : ℕ

-- the bytes that are not read yet
abbrev pub left : Place → List ℕ
left p = drop p.at p.input

-- the beginning of an input
abbrev pub start : List ℕ → Place
start bytes = record { input = bytes; at = 0 }

-- the place that many bytes on
abbrev pub forward : ℕ → Place → Place
forward n p = record { input = p.input; at = p.at + n }

-- the number that a kind of fault has
abbrev pub number_of_kind : FaultKind → ℕ
number_of_kind kind.Short = 1
number_of_kind kind.BadBool = 2
number_of_kind kind.LongUleb = 3
number_of_kind kind.LargeUleb = 4
number_of_kind kind.LargeLength = 5
number_of_kind kind.NoVariant = 6
number_of_kind kind.LeftOver = 7
number_of_kind kind.NotUtf8 = 8

-- the place of the first fault, and the number of its kind
pub record Stop : Type 0 where
  pub place : Place
  pub why : ℕ

-- a value and the place after it, or the first fault
abbrev pub Read : Type 0 → Type 0
Read A = Result (A × Place) Stop

abbrev pub stop : {A : Type 0} → Place → ℕ → Result A Stop
stop p why = Err (record { place = p; why = why })

-- one step of reading after another
infixl 10 ◌>>=◌
abbrev pub ◌>>=◌ : {A B : Type 0} → Result A Stop → (A → Result B Stop) → Result B Stop
(Ok x) >>= f = f x
(Err e) >>= f = Err e

abbrev pub IsBytes : List ℕ → Type 0
IsBytes bytes = (i : ℕ) → get_or bytes i 0 < 256

-- ---- laws of places

pub bind_ok : {A B : Type 0} (r : Result A Stop) (f : A → Result B Stop) (y : B) → (r >>= f) ≡ Ok y → (x : A) × (r ≡ Ok x) × (f x ≡ Ok y)
bind_ok (Ok x) f y e = (x, refl, e)
bind_ok (Err d) f y e = absurd cc

abbrev pub done : {A : Type 0} → A → Result A Stop
done x = Ok x

pub ok_is : {A : Type 0} (x y : A) → done x ≡ done y → x ≡ y
ok_is x y e = cc

pub left-forward : (p : Place) (text rest : List ℕ) → left p ≡ text ++ rest → left (forward (length text) p) ≡ rest
left-forward p text rest e = sym (drop-drop (length text) p.at p.input) ∙ (ap (λ (bytes : List ℕ). drop (length text) bytes) e ∙ drop_at text rest (length text) refl)

pub forward-then : (p : Place) (a b : List ℕ) → forward (length b) (forward (length a) p) ≡ forward (length (a ++ b)) p
forward-then p a b =
    let e : p.at + length a + length b ≡ p.at + length (a ++ b) = omega (arith, length-append a b) in
    let at_place : ℕ → Place = λ n. record { input = p.input; at = n } in
    ap at_place e

-- the text stands between two places of one input
pub record Takes (p : Place) (text : List ℕ) (q : Place) : Type 0 where
  pub parts : left p ≡ text ++ left q
  pub moved : q ≡ forward (length text) p

pub Takes-bytes : (p : Place) (text : List ℕ) (q : Place) → Takes p text q → IsBytes p.input → IsBytes q.input
Takes-bytes p text q t h = subst (λ (r : Place). IsBytes r.input) (sym t.moved) h

pub Takes-none : (p : Place) → Takes p [] p
Takes-none p =
    let at_place : ℕ → Place = λ n. record { input = p.input; at = n } in
    record { parts = refl; moved = sym (ap at_place (add-zero p.at)) }

pub Takes-then : (p q r : Place) (a b : List ℕ) → Takes p a q → Takes q b r → Takes p (a ++ b) r
Takes-then p q r a b t u = record {
  parts = t.parts ∙ (ap (λ (bytes : List ℕ). a ++ bytes) u.parts ∙ sym (append_assoc a b (left r)));
  moved = u.moved ∙ (ap (λ (s : Place). forward (length b) s) t.moved ∙ forward-then p a b);
}
