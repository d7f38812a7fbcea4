-- What is read has its form and its ranges: each word of a line that can be read.
use Rattle.std.proofs.Common.{◌≡◌, ℕ, ◌<◌, ◌^◌, nat_le, nat_lt, min, not, Bool, true, false, cond, ◌&&◌, List, Option, Some, None, Result, Ok, Err, option_map, option_and_then, if◌then◌else◌, refl, ap, subst, arith}
use Rattle.std.proofs.lemmas.Bool.{and_parts, leb-true, ltb-true}
use Rattle.schedule_text.specs.declared.cause.Cause.{Cause}
use Rattle.schedule_text.specs.declared.words.ObjWord.{ObjWord}
use Rattle.schedule_text.specs.declared.words.ObjWord.TheVariants as object
use Rattle.schedule_text.specs.declared.words.RefWord.{RefWord}
use Rattle.schedule_text.specs.Bytes.{is_digits, is_name, has_leading_zero, value_from, number_of, number_in, cut_at, has_mark, without_mark, with_both}
use Rattle.schedule_text.specs.Refs.{is_object, object_of, object_form, object_value, is_ref, ref_of, ref_form, ref_value, is_shared, shared_form}
use Rattle.schedule_text.specs.Lines.{if_form, then_make, member_number}
use Rattle.run_law.specs.Sayable.{IsNumber, IsMember, IsBetween, IsObject, IsRef}
use Rattle.protocol_spec.proofs.Truth.{some_same}

-- ---- what stood after an answer

pub cond_said : {A : Type 0} → (b : Bool) (v n : A) → cond b (Some v) None ≡ Some n → (b ≡ true) × (v ≡ n)
cond_said true v n h = (refl, some_same v n h)
cond_said false v n h = absurd (cc)

pub map_said : {A B : Type 0} → (f : A → B) (o : Option A) (y : B) → option_map f o ≡ Some y → (x : A) × (o ≡ Some x) × (f x ≡ y)
map_said f (Some x) y h = (x, refl, some_same (f x) y h)
map_said f None y h = absurd (cc)

pub then_said : {A B : Type 0} → (f : A → Option B) (o : Option A) (y : B) → option_and_then f o ≡ Some y → (x : A) × (o ≡ Some x) × (f x ≡ Some y)
then_said f (Some x) y h = (x, refl, h)
then_said f None y h = absurd (cc)

pub both_said : {A B C : Type 0} → (f : A → B → C) (o : Option A) (p : Option B) (z : C) → with_both o p f ≡ Some z → (x : A) × (y : B) × (o ≡ Some x) × (p ≡ Some y) × (f x y ≡ z)
both_said f (Some x) (Some y) z h = (x, y, refl, refl, some_same (f x y) z h)
both_said f (Some x) None z h = absurd (cc)
both_said f None p z h = absurd (cc)

ok_same : {A E : Type 0} → (x y : A) (l r : Result A E) → l ≡ Ok x → r ≡ Ok y → l ≡ r → x ≡ y
ok_same x y l r p q h = cc

pub form_said : {A : Type 0} → (b : Bool) (o : Option A) (a : A) → if_form b o ≡ Ok a → (b ≡ true) × (o ≡ Some a)
form_said true (Some x) a h = (refl, ap (λ z. Some z) (ok_same x a (if_form true (Some x)) (Ok a) refl refl h))
form_said true None a h = absurd (cc)
form_said false o a h = absurd (cc)

pub make_said : {A B : Type 0} → (f : A → B) (r : Result A Cause) (y : B) → then_make f r ≡ Ok y → (x : A) × (r ≡ Ok x) × (f x ≡ y)
make_said f (Ok x) y h = (x, refl, ok_same (f x) y (then_make f (Ok x)) (Ok y) refl refl h)
make_said f (Err c) y h = absurd (cc)

-- ---- numbers

pub number_said : (w : List ℕ) (n : ℕ) → number_of w ≡ Some n → IsNumber n
unfolding number_of
number_said w n h =
    let said = cond_said (is_digits w && not (has_leading_zero w) && nat_lt (value_from 0 w) (2 ^ 64)) (value_from 0 w) n h in
    let small = (and_parts (is_digits w && not (has_leading_zero w)) (nat_lt (value_from 0 w) (2 ^ 64)) said.0).1 in
    subst (λ (m : ℕ). m < 2 ^ 64) said.1 (ltb-true (value_from 0 w) (2 ^ 64) small)

pub range_said : (low high : ℕ) (w : List ℕ) (n : ℕ) → number_in low high w ≡ Some n → IsBetween low high n
unfolding number_in
range_said low high w n h =
    let read = then_said (λ m. if nat_le low m && nat_le m high then Some m else None) (number_of w) n h in
    let said = cond_said (nat_le low read.0 && nat_le read.0 high) read.0 n read.2 in
    let bounds = and_parts (nat_le low read.0) (nat_le read.0 high) said.0 in
    subst (λ (m : ℕ). IsBetween low high m) said.1 (leb-true low read.0 bounds.0, leb-true read.0 high bounds.1)

pub member_said : (w : List ℕ) (m : ℕ) → member_number w ≡ Some m → IsMember m
unfolding member_number
member_said w m h =
    let read = map_said (λ n. min n 4294967295) (number_of w) m h in
    subst (λ (k : ℕ). k < 2 ^ 32) read.2 (omega arith)

-- ---- objects and references

object_parts_said : (w : List ℕ) (c : Option (List ℕ × List ℕ)) (o : ObjWord) → object_form w c ≡ true → object_value w c ≡ Some o → IsObject o
object_parts_said w None o form h = subst IsObject (some_same (object.Setup w) o h) form
object_parts_said w (Some p) o form h =
    let read = map_said (λ n. object.Created p.0 n) (number_of p.1) o h in
    let forms = and_parts (is_name p.0) (is_digits p.1) form in
    subst IsObject read.2 (forms.0, number_said p.1 read.0 read.1)

pub object_said : (w : List ℕ) (o : ObjWord) → is_object w ≡ true → object_of w ≡ Some o → IsObject o
unfolding is_object object_of
object_said w o form h = object_parts_said w (cut_at 46 w) o form h

-- a reference of parts that are an object and a version
parts_said : (p : List ℕ × List ℕ) (r : RefWord) → is_object p.0 ≡ true → ref_value (Some p) ≡ Some r → IsRef r
parts_said p r form h =
    let read = both_said (λ o v. record { object = o; version = v; spoiled = has_mark 33 p.1 }) (object_of p.0) (number_of (without_mark 33 p.1)) r h in
    subst IsRef read.4 (object_said p.0 read.0 form read.2, number_said (without_mark 33 p.1) read.1 read.3)

ref_parts_said : (c : Option (List ℕ × List ℕ)) (r : RefWord) → ref_form c ≡ true → ref_value c ≡ Some r → IsRef r
ref_parts_said None r form h = absurd (cc)
ref_parts_said (Some p) r form h = parts_said p r (and_parts (is_object p.0) (is_digits (without_mark 33 p.1)) form).0 h

shared_parts_said : (c : Option (List ℕ × List ℕ)) (r : RefWord) → shared_form c ≡ true → ref_value c ≡ Some r → IsRef r
shared_parts_said None r form h = absurd (cc)
shared_parts_said (Some p) r form h = parts_said p r (and_parts (is_object p.0) (is_digits p.1) form).0 h

pub ref_said : (w : List ℕ) (r : RefWord) → is_ref w ≡ true → ref_of w ≡ Some r → IsRef r
unfolding is_ref ref_of
ref_said w r form h = ref_parts_said (cut_at 64 w) r form h

pub shared_said : (w : List ℕ) (r : RefWord) → is_shared w ≡ true → ref_of w ≡ Some r → IsRef r
unfolding is_shared ref_of
shared_said w r form h = shared_parts_said (cut_at 64 w) r form h
