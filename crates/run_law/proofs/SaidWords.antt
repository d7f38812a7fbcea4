-- What is read has its form and its ranges: inputs and commands.
use Rattle.std.proofs.Common.{◌≡◌, ◌==◌, ℕ, zero, suc, ◌*◌, ◌<◌, ◌≤◌, Bool, true, false, cond, List, [], ◌∷◌, length, Option, Some, None, Result, Ok, Err, codes, option_map, position, refl, ap, subst, arith, ◌⊎◌, inl, inr}
use Rattle.std.proofs.lemmas.Bool.{cases_Bool}
use Rattle.std.proofs.lemmas.List.Quantifiers.{position-Some}
use Rattle.std.proofs.lemmas.List.Splits.{length-slice_split}
use Rattle.std.specs.List.{AllByRecursion}
use Rattle.std.specs.Result.{result_ok}
use Rattle.std.specs.Str.{bytes_eq}
use Rattle.hex.specs.Hex.{IsBytes, decode_of}
use Rattle.hex.specs.declared.error.FromHexError.{FromHexError}
use Rattle.hex.proofs.HexLemmas.{decode_of-ok}
use Rattle.schedule_text.specs.declared.words.RefWord.{RefWord}
use Rattle.schedule_text.specs.declared.words.InputWord.{InputWord}
use Rattle.schedule_text.specs.declared.words.InputWord.TheVariants as input
use Rattle.schedule_text.specs.declared.words.ArgWord.{ArgWord}
use Rattle.schedule_text.specs.declared.words.ArgWord.TheVariants as arg
use Rattle.schedule_text.specs.declared.words.CommandWord.{CommandWord}
use Rattle.schedule_text.specs.declared.words.CommandWord.TheVariants as command
use Rattle.schedule_text.specs.Bytes.{number_of, cut_at, has_mark, without_mark, each_of}
use Rattle.schedule_text.specs.Refs.{ref_of}
use Rattle.schedule_text.specs.Inputs.{hex_of, of_kind, input_kind, input_parts, is_input, input_of, form_of_parts, value_of_parts, shared_input}
use Rattle.schedule_text.specs.Commands.{place_of, result_value, place_value, arg_of, comma_parts, call_words, native_names, native_of, kind_names, kind_of, command_kind, of_command_kind, command_parts, vector_value, command_parts_value, command_of}
use Rattle.run_law.specs.Sayable.{IsByte, IsInput, IsArg, AreArgs, IsCommand}
use Rattle.run_law.proofs.Said.{map_said, both_said, number_said, range_said, ref_said, shared_said}
use Rattle.protocol_spec.proofs.Truth.{some_same}

-- ---- bytes

bytes_all : (bytes : List ℕ) → IsBytes bytes → AllByRecursion IsByte bytes
bytes_all [] h = tt
bytes_all (b ∷ bytes) h = (h zero, bytes_all bytes (λ i. h (suc i)))

decoded : (r : Result (List ℕ) FromHexError) (bytes : List ℕ) → result_ok r ≡ Some bytes → r ≡ Ok bytes
decoded (Ok x) bytes h = ap (λ y. Ok y) (some_same x bytes h)
decoded (Err e) bytes h = absurd (cc)

pub hex_said : (w bytes : List ℕ) → hex_of w ≡ Some bytes → AllByRecursion IsByte bytes × (length w ≡ 2 * length bytes)
unfolding hex_of
hex_said w bytes h =
    let ok = decode_of-ok w bytes (decoded (decode_of w) bytes h) in
    (bytes_all bytes ok.3, ok.2)

-- ---- inputs

ref_input_said : (f : RefWord → InputWord) (o : Option RefWord) (x : InputWord) → ((r : RefWord) → o ≡ Some r → IsInput (f r)) → option_map f o ≡ Some x → IsInput x
ref_input_said f o x fits h = let read = map_said f o x h in subst IsInput read.2 (fits read.0 read.1)

letter_said : (b : ℕ) (rest : List ℕ) (x : InputWord) → form_of_parts (option_map (λ k. (k, rest)) (input_kind (b ∷ []))) ≡ true
    → value_of_parts (option_map (λ k. (k, rest)) (input_kind (b ∷ []))) ≡ Some x → IsInput x
unfolding input_kind
letter_said b rest x form h =
    elim (cases_Bool (b == 110)) [
      | inl e ↦
          let k = rw e at h in
          let read = map_said (λ n. input.Number n) (number_of rest) x k in
          subst IsInput read.2 (number_said rest read.0 read.1)
      | inr no1 ↦ elim (cases_Bool (b == 97)) [
        | inl e ↦
            let g = rw (no1, e) at form in
            let k = rw (no1, e) at h in
            subst IsInput (some_same (input.Address rest) x k) g
        | inr no2 ↦ elim (cases_Bool (b == 120)) [
          | inl e ↦
              let k = rw (no1, no2, e) at h in
              let read = map_said (λ bytes. input.Bytes bytes) (hex_of rest) x k in
              subst IsInput read.2 (hex_said rest read.0 read.1).0
          | inr no3 ↦ elim (cases_Bool (b == 111)) [
            | inl e ↦
                let g = rw (no1, no2, no3, e) at form in
                let k = rw (no1, no2, no3, e) at h in
                ref_input_said (λ r. input.Owned r) (ref_of rest) x (λ r q. ref_said rest r g q) k
            | inr no4 ↦ elim (cases_Bool (b == 105)) [
              | inl e ↦
                  let g = rw (no1, no2, no3, no4, e) at form in
                  let k = rw (no1, no2, no3, no4, e) at h in
                  ref_input_said (λ r. input.Immutable r) (ref_of rest) x (λ r q. ref_said rest r g q) k
              | inr no5 ↦ elim (cases_Bool (b == 115)) [
                | inl e ↦
                    let g = rw (no1, no2, no3, no4, no5, e) at form in
                    let k = rw (no1, no2, no3, no4, no5, e) at h in
                    ref_input_said (shared_input true) (ref_of rest) x (λ r q. shared_said rest r g q) k
                | inr no6 ↦ elim (cases_Bool (b == 114)) [
                  | inl e ↦
                      let g = rw (no1, no2, no3, no4, no5, no6, e) at form in
                      let k = rw (no1, no2, no3, no4, no5, no6, e) at h in
                      ref_input_said (shared_input false) (ref_of rest) x (λ r q. shared_said rest r g q) k
                  | inr no7 ↦
                      let g = rw (no1, no2, no3, no4, no5, no6, no7) at form in
                      absurd (cc)
                ]
              ]
            ]
          ]
        ]
      ]
    ]

input_parts_said : (c : Option (List ℕ × List ℕ)) (x : InputWord) → form_of_parts (of_kind c) ≡ true → value_of_parts (of_kind c) ≡ Some x → IsInput x
unfolding input_kind
input_parts_said None x form h = absurd (cc)
input_parts_said (Some ([], rest)) x form h = absurd (cc)
input_parts_said (Some (b ∷ [], rest)) x form h = letter_said b rest x form h
input_parts_said (Some (b ∷ c ∷ bs, rest)) x form h = absurd (cc)

pub input_said : (w : List ℕ) (x : InputWord) → is_input w ≡ true → input_of w ≡ Some x → IsInput x
unfolding is_input input_of input_parts
input_said w x form h = input_parts_said (cut_at 58 w) x form h

-- ---- arguments

pub choose : {A : Type 0} → (P : Type 0) (b : Bool) (x y r : A) → cond b x y ≡ r → (x ≡ r → P) → (y ≡ r → P) → P
choose P true x y r h f g = f h
choose P false x y r h f g = g h

place_said : (w : List ℕ) (n : ℕ) → place_of w ≡ Some n → n ≤ 65535
place_said w n h = (range_said 0 65535 w n h).1

result_said : (w : List ℕ) (c : Option (List ℕ × List ℕ)) (x : ArgWord) → result_value w c ≡ Some x → IsArg x
result_said w None x h = let read = map_said (λ n. arg.Result n) (place_of w) x h in subst IsArg read.2 (place_said w read.0 read.1)
result_said w (Some p) x h =
    let read = both_said (λ n k. arg.Nested n k) (place_of p.0) (place_of p.1) x h in
    subst IsArg read.4 (place_said p.0 read.0 read.2, place_said p.1 read.1 read.3)

place_value_said : (w : List ℕ) (x : ArgWord) → place_value w ≡ Some x → IsArg x
unfolding place_value
place_value_said [] x h = absurd (cc)
place_value_said (b ∷ bs) x h =
    choose (IsArg x) (b == 105) _ _ (Some x) h
    (λ k. let read = map_said (λ n. arg.Input n) (place_of bs) x k in subst IsArg read.2 (place_said bs read.0 read.1))
    (λ k. choose (IsArg x) (b == 114) _ _ (Some x) k (λ m. result_said bs (cut_at 46 bs) x m) (λ m. absurd (cc)))

arg_said : (w : List ℕ) (x : ArgWord) → arg_of w ≡ Some x → IsArg x
unfolding arg_of
arg_said w x h = choose (IsArg x) (bytes_eq w (codes "gas")) _ _ (Some x) h (λ k. subst IsArg (some_same arg.Gas x k) tt) (λ k. place_value_said w x k)

pub each_said : {X A : Type 0} → (P : A → Type 0) (f : X → Option A) → ((w : X) (x : A) → f w ≡ Some x → P x) → (ws : List X) (xs : List A) → each_of f ws ≡ Some xs → AllByRecursion P xs × (length xs ≡ length ws)
unfolding each_of
each_said P f fits [] xs h = subst (λ ys. AllByRecursion P ys × (length ys ≡ 0)) (some_same [] xs h) (tt, refl)
each_said P f fits (w ∷ ws) xs h =
    let read = both_said (λ y ys. y ∷ ys) (f w) (each_of f ws) xs h in
    let more = each_said P f fits ws read.1 read.3 in
    let same = more.1 in
    subst (λ ys. AllByRecursion P ys × (length ys ≡ suc (length ws))) read.4 ((fits w read.0 read.2, more.0), omega (arith, same))

args_said : (inside : List ℕ) (xs : List ArgWord) → each_of arg_of (comma_parts inside) ≡ Some xs → AreArgs xs
args_said inside xs h =
    let read = each_said IsArg arg_of arg_said (comma_parts inside) xs h in
    let same = read.1 in
    let some = length-slice_split (λ b. b == 44) inside in
    (omega (arith, same, some), read.0)

-- ---- commands

names_said : (names : List (List ℕ)) (w : List ℕ) (n : ℕ) → position (λ m. bytes_eq m w) names ≡ Some n → n < length names
names_said names w n h = (position-Some (λ m. bytes_eq m w) names n [] h).0

kind_small : (w : List ℕ) (n : ℕ) → kind_of w ≡ Some n → n < 6
unfolding kind_of
kind_small w n h = names_said kind_names w n h

native_small : (w : List ℕ) (n : ℕ) → native_of w ≡ Some n → n < length native_names
unfolding native_of
native_small w n h = names_said native_names w n h

vector_said : (ws : List (List ℕ)) (x : CommandWord) → vector_value ws ≡ Some x → IsCommand x
vector_said [] x h = absurd (cc)
vector_said (w ∷ ws) x h =
    let read = both_said (λ k vs. command.MakeVec k vs) (kind_of w) (each_of arg_of ws) x h in
    subst IsCommand read.4 (kind_small w read.0 read.2, (each_said IsArg arg_of arg_said ws read.1 read.3).0)

call_said : (n : ℕ) (inside : List ℕ) (x : CommandWord) → n < length native_names → option_map (λ xs. command.Call n xs) (each_of arg_of (call_words inside)) ≡ Some x → IsCommand x
call_said n inside x small h =
    let read = map_said (λ xs. command.Call n xs) (each_of arg_of (call_words inside)) x h in
    subst IsCommand read.2 (small, (each_said IsArg arg_of arg_said (call_words inside) read.0 read.1).0)

some_args_said : (f : List ArgWord → CommandWord) (inside : List ℕ) (x : CommandWord) → ((xs : List ArgWord) → AreArgs xs → IsCommand (f xs)) → option_map f (each_of arg_of (comma_parts inside)) ≡ Some x → IsCommand x
some_args_said f inside x fits h =
    let read = map_said f (each_of arg_of (comma_parts inside)) x h in
    subst IsCommand read.2 (fits read.0 (args_said inside read.0 read.1))

option_cases : {A : Type 0} → (o : Option A) → (o ≡ None) ⊎ ((x : A) × (o ≡ Some x))
option_cases None = inl refl
option_cases (Some x) = inr (x, refl)

kind_said : (name inside : List ℕ) (x : CommandWord) → command_parts_value (option_map (λ k. (k, inside)) (command_kind name)) ≡ Some x → IsCommand x
unfolding command_kind
kind_said name inside x h =
    elim (cases_Bool (bytes_eq name (codes "split"))) [
      | inl e ↦ let k = rw e at h in some_args_said (λ xs. command.Split xs) inside x (λ xs q. q) k
      | inr no1 ↦ elim (cases_Bool (bytes_eq name (codes "merge"))) [
        | inl e ↦ let k = rw (no1, e) at h in some_args_said (λ xs. command.Merge xs) inside x (λ xs q. q) k
        | inr no2 ↦ elim (cases_Bool (bytes_eq name (codes "transfer"))) [
          | inl e ↦ let k = rw (no1, no2, e) at h in some_args_said (λ xs. command.Transfer xs) inside x (λ xs q. q) k
          | inr no3 ↦ elim (cases_Bool (bytes_eq name (codes "vec"))) [
            | inl e ↦ let k = rw (no1, no2, no3, e) at h in vector_said (comma_parts inside) x k
            | inr no4 ↦ elim (option_cases (native_of name)) [
              | inl none ↦ let k = rw (no1, no2, no3, no4, none) at h in absurd (cc)
              | inr there ↦
                  let e = there.1 in
                  let k = rw (no1, no2, no3, no4, e) at h in
                  call_said there.0 inside x (native_small name there.0 e) k
            ]
          ]
        ]
      ]
    ]

pub command_said : (w : List ℕ) (x : CommandWord) → command_of w ≡ Some x → IsCommand x
unfolding command_of command_parts
command_said w x h = parts_said (cut_at 40 w) h
  where
    parts_said : (c : Option (List ℕ × List ℕ)) → command_parts_value (of_command_kind c) ≡ Some x → IsCommand x
    parts_said None k = absurd (cc)
    parts_said (Some p) k = marked (has_mark 41 p.1) k
      where
        marked : (b : Bool) → command_parts_value (cond b (option_map (λ k. (k, without_mark 41 p.1)) (command_kind p.0)) None) ≡ Some x → IsCommand x
        marked true m = kind_said p.0 (without_mark 41 p.1) x m
        marked false m = absurd (cc)
