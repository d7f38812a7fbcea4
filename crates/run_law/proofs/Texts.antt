-- What is read has no list that is longer than the text, and no more events than the text has lines.
use Rattle.std.proofs.Common.{◌≡◌, ◌==◌, ℕ, suc, ◌+◌, ◌-◌, ◌≤◌, Bool, true, false, cond, List, [], ◌∷◌, length, take, drop, Option, Some, None, codes, option_map, position, refl, sym, subst, arith, ◌⊎◌, inl, inr}
use Rattle.std.proofs.lemmas.Bool.{cases_Bool}
use Rattle.std.proofs.lemmas.List.{length-take, length-drop}
use Rattle.std.specs.List.{AllByRecursion, slice_split, onto_first}
use Rattle.std.specs.Str.{bytes_eq}
use Rattle.schedule_text.specs.declared.words.InputWord.{InputWord}
use Rattle.schedule_text.specs.declared.words.InputWord.TheVariants as input
use Rattle.schedule_text.specs.declared.words.ArgWord.{ArgWord}
use Rattle.schedule_text.specs.declared.words.CommandWord.{CommandWord}
use Rattle.schedule_text.specs.declared.words.CommandWord.TheVariants as command
use Rattle.schedule_text.specs.declared.words.Event.{Event}
use Rattle.schedule_text.specs.declared.words.Event.TheVariants as event
use Rattle.schedule_text.specs.Bytes.{number_of, cut_at, has_mark, without_mark, each_of}
use Rattle.schedule_text.specs.Refs.{ref_of}
use Rattle.schedule_text.specs.Inputs.{hex_of, of_kind, input_kind, input_parts, is_input, input_of, value_of_parts, shared_input}
use Rattle.schedule_text.specs.Commands.{arg_of, comma_parts, call_words, kind_of, native_of, command_kind, of_command_kind, command_parts, vector_value, command_parts_value, command_of}
use Rattle.schedule_text.specs.Lines.{after_inputs, front_inputs}
use Rattle.schedule_text.specs.Schedule.{longest_text}
use Rattle.run_law.proofs.Said.{map_said, both_said}
use Rattle.run_law.proofs.SaidWords.{hex_said}
use Rattle.protocol_spec.proofs.Truth.{some_same}

-- the words of a line of the longest text, at most
abbrev pub most_words : ℕ
most_words = suc longest_text

-- ---- events whose lists have at most this many elements

abbrev pub IsShortInput : ℕ → InputWord → Type 0
IsShortInput n (input.Number k) = Unit {0}
IsShortInput n (input.Address name) = Unit {0}
IsShortInput n (input.Bytes bytes) = length bytes ≤ n
IsShortInput n (input.Owned r) = Unit {0}
IsShortInput n (input.Immutable r) = Unit {0}
IsShortInput n (input.Shared o initial mutable) = Unit {0}

abbrev pub args_in : CommandWord → List ArgWord
args_in (command.Split args) = args
args_in (command.Merge args) = args
args_in (command.Transfer args) = args
args_in (command.MakeVec kind values) = values
args_in (command.Call native args) = args

abbrev pub IsShortCommand : ℕ → CommandWord → Type 0
IsShortCommand n c = length (args_in c) ≤ n

abbrev pub IsShortEvent : ℕ → Event → Type 0
IsShortEvent n (event.Tx name sender spoiled epoch gas budget inputs commands) =
    (length inputs ≤ n) × AllByRecursion (IsShortInput n) inputs × (length commands ≤ n) × AllByRecursion (IsShortCommand n) commands
IsShortEvent n (event.Fvote member tx origins) = length origins ≤ n
IsShortEvent n (event.Cert tx members) = length members ≤ n
IsShortEvent n e = Unit {0}

-- ---- parts

-- words, each of at most this many bytes
abbrev pub AreWords : ℕ → List (List ℕ) → Type 0
AreWords n ws = AllByRecursion (λ (w : List ℕ). length w ≤ n) ws

pub more-words : (n m : ℕ) (ws : List (List ℕ)) → n ≤ m → AreWords n ws → AreWords m ws
more-words n m [] le h = tt
more-words n m (w ∷ ws) le h = let short = h.0 in (omega (arith, le, short), more-words n m ws le h.1)

pub parts-short : (test : ℕ → Bool) (xs : List ℕ) → (length (slice_split test xs) ≤ suc (length xs)) × AreWords (length xs) (slice_split test xs)
parts-short test [] = (omega arith, (omega arith, tt))
parts-short test (x ∷ xs) = go (test x) (slice_split test xs) (parts-short test xs)
  where
    front : (parts : List (List ℕ)) → (length parts ≤ suc (length xs)) × AreWords (length xs) parts → (length (onto_first x parts) ≤ suc (suc (length xs))) × AreWords (suc (length xs)) (onto_first x parts)
    front [] h = (omega arith, (omega arith, tt))
    front (part ∷ parts) h =
        let few = h.0 in
        let short = h.1.0 in
        let le : length xs ≤ suc (length xs) = omega arith in
        (omega (arith, few), (omega (arith, short), more-words (length xs) (suc (length xs)) parts le h.1.1))

    go : (b : Bool) (parts : List (List ℕ)) → (length parts ≤ suc (length xs)) × AreWords (length xs) parts → (length (cond b ([] ∷ parts) (onto_first x parts)) ≤ suc (suc (length xs))) × AreWords (suc (length xs)) (cond b ([] ∷ parts) (onto_first x parts))
    go true parts h =
        let few = h.0 in
        let le : length xs ≤ suc (length xs) = omega arith in
        (omega (arith, few), (omega arith, more-words (length xs) (suc (length xs)) parts le h.1))
    go false parts h = front parts h

cut-short : (byte : ℕ) (w : List ℕ) (p : List ℕ × List ℕ) → cut_at byte w ≡ Some p → length p.1 ≤ length w
unfolding cut_at
cut-short byte w p h =
    let f : ℕ → List ℕ × List ℕ = λ at. (take at w, drop (at + 1) w) in
    let read = map_said f (position (λ b. b == byte) w) p h in
    let less = length-drop (read.0 + 1) w in
    let short : length (drop (read.0 + 1) w) ≤ length w = omega (arith, less) in
    subst (λ (q : List ℕ × List ℕ). length q.1 ≤ length w) read.2 short

mark-short : (byte : ℕ) (w : List ℕ) → length (without_mark byte w) ≤ length w
unfolding without_mark
mark-short byte w = go (has_mark byte w)
  where
    go : (b : Bool) → length (cond b (take (length w - 1) w) w) ≤ length w
    go true = let less = length-take (length w - 1) w in omega (arith, less)
    go false = omega arith

-- ---- inputs

letter-short : (n b : ℕ) (rest : List ℕ) (x : InputWord) → length rest ≤ n → value_of_parts (option_map (λ k. (k, rest)) (input_kind (b ∷ []))) ≡ Some x → IsShortInput n x
unfolding input_kind
letter-short n b rest x short h =
    elim (cases_Bool (b == 110)) [
      | inl e ↦ let k = rw e at h in let read = map_said (λ n. input.Number n) (number_of rest) x k in subst (IsShortInput n) read.2 tt
      | inr no1 ↦ elim (cases_Bool (b == 97)) [
        | inl e ↦ let k = rw (no1, e) at h in subst (IsShortInput n) (some_same (input.Address rest) x k) tt
        | inr no2 ↦ elim (cases_Bool (b == 120)) [
          | inl e ↦
              let k = rw (no1, no2, e) at h in
              let read = map_said (λ bytes. input.Bytes bytes) (hex_of rest) x k in
              let twice = (hex_said rest read.0 read.1).1 in
              let half : length read.0 ≤ n = omega (arith, twice, short) in
              subst (IsShortInput n) read.2 half
          | inr no3 ↦ elim (cases_Bool (b == 111)) [
            | inl e ↦ let k = rw (no1, no2, no3, e) at h in let read = map_said (λ r. input.Owned r) (ref_of rest) x k in subst (IsShortInput n) read.2 tt
            | inr no4 ↦ elim (cases_Bool (b == 105)) [
              | inl e ↦ let k = rw (no1, no2, no3, no4, e) at h in let read = map_said (λ r. input.Immutable r) (ref_of rest) x k in subst (IsShortInput n) read.2 tt
              | inr no5 ↦ elim (cases_Bool (b == 115)) [
                | inl e ↦ let k = rw (no1, no2, no3, no4, no5, e) at h in let read = map_said (shared_input true) (ref_of rest) x k in subst (IsShortInput n) read.2 tt
                | inr no6 ↦ elim (cases_Bool (b == 114)) [
                  | inl e ↦ let k = rw (no1, no2, no3, no4, no5, no6, e) at h in let read = map_said (shared_input false) (ref_of rest) x k in subst (IsShortInput n) read.2 tt
                  | inr no7 ↦ let k = rw (no1, no2, no3, no4, no5, no6, no7) at h in absurd (cc)
                ]
              ]
            ]
          ]
        ]
      ]
    ]

pieces-short : (n : ℕ) (c : Option (List ℕ × List ℕ)) (x : InputWord) → ((p : List ℕ × List ℕ) → c ≡ Some p → length p.1 ≤ n) → value_of_parts (of_kind c) ≡ Some x → IsShortInput n x
unfolding input_kind
pieces-short n None x short h = absurd (cc)
pieces-short n (Some ([], rest)) x short h = absurd (cc)
pieces-short n (Some (b ∷ [], rest)) x short h = letter-short n b rest x (short (b ∷ [], rest) refl) h
pieces-short n (Some (b ∷ c ∷ bs, rest)) x short h = absurd (cc)

input-short : (n : ℕ) (w : List ℕ) (x : InputWord) → length w ≤ n → input_of w ≡ Some x → IsShortInput n x
unfolding input_of input_parts
input-short n w x le h = pieces-short n (cut_at 58 w) x (λ p e. let less = cut-short 58 w p e in omega (arith, less, le)) h

pub inputs-short : (n : ℕ) (ws : List (List ℕ)) (xs : List InputWord) → AreWords n ws → front_inputs ws ≡ Some xs → (length xs ≤ length ws) × AllByRecursion (IsShortInput n) xs
unfolding front_inputs
inputs-short n [] xs short h = subst (λ ys. (length ys ≤ 0) × AllByRecursion (IsShortInput n) ys) (some_same [] xs h) (omega arith, tt)
inputs-short n (w ∷ ws) xs short h =
    elim (cases_Bool (is_input w)) [
      | inl e ↦
          let k = rw e at h in
          let read = both_said (λ y ys. y ∷ ys) (input_of w) (front_inputs ws) xs k in
          let more = inputs-short n ws read.1 short.1 read.3 in
          let few = more.0 in
          subst (λ ys. (length ys ≤ suc (length ws)) × AllByRecursion (IsShortInput n) ys) read.4 (omega (arith, few), (input-short n w read.0 short.0 read.2, more.1))
      | inr e ↦ let k = rw e at h in subst (λ ys. (length ys ≤ suc (length ws)) × AllByRecursion (IsShortInput n) ys) (some_same [] xs k) (omega arith, tt)
    ]

pub after-short : (n : ℕ) (ws : List (List ℕ)) → AreWords n ws → (length (after_inputs ws) ≤ length ws) × AreWords n (after_inputs ws)
unfolding after_inputs
after-short n [] short = (omega arith, tt)
after-short n (w ∷ ws) short = go (is_input w) (after-short n ws short.1)
  where
    go : (b : Bool) → (length (after_inputs ws) ≤ length ws) × AreWords n (after_inputs ws) → (length (cond b (after_inputs ws) (w ∷ ws)) ≤ suc (length ws)) × AreWords n (cond b (after_inputs ws) (w ∷ ws))
    go true rest = let few = rest.0 in (omega (arith, few), rest.1)
    go false rest = (omega arith, short)

-- ---- commands

-- as many values as words, each of which is as said of its word
pub each-short : {A : Type 0} → (n : ℕ) (P : A → Type 0) (f : List ℕ → Option A) → ((w : List ℕ) (x : A) → length w ≤ n → f w ≡ Some x → P x) → (ws : List (List ℕ)) (xs : List A) → AreWords n ws → each_of f ws ≡ Some xs → (length xs ≡ length ws) × AllByRecursion P xs
unfolding each_of
each-short n P f fits [] xs short h = subst (λ ys. (length ys ≡ 0) × AllByRecursion P ys) (some_same [] xs h) (refl, tt)
each-short n P f fits (w ∷ ws) xs short h =
    let read = both_said (λ y ys. y ∷ ys) (f w) (each_of f ws) xs h in
    let more = each-short n P f fits ws read.1 short.1 read.3 in
    let same = more.0 in
    subst (λ ys. (length ys ≡ suc (length ws)) × AllByRecursion P ys) read.4 (omega (arith, same), (fits w read.0 short.0 read.2, more.1))

pub each-many : {A : Type 0} → (f : List ℕ → Option A) (ws : List (List ℕ)) (xs : List A) → each_of f ws ≡ Some xs → length xs ≡ length ws
unfolding each_of
each-many f [] xs h = subst (λ ys. length ys ≡ 0) (some_same [] xs h) refl
each-many f (w ∷ ws) xs h =
    let read = both_said (λ y ys. y ∷ ys) (f w) (each_of f ws) xs h in
    let same = each-many f ws read.1 read.3 in
    subst (λ ys. length ys ≡ suc (length ws)) read.4 (omega (arith, same))

args-short : (n : ℕ) (inside : List ℕ) (f : List ArgWord → CommandWord) (x : CommandWord) → ((xs : List ArgWord) → args_in (f xs) ≡ xs) → length inside ≤ n → option_map f (each_of arg_of (comma_parts inside)) ≡ Some x → IsShortCommand (suc n) x
args-short n inside f x args le h =
    let read = map_said f (each_of arg_of (comma_parts inside)) x h in
    let same = each-many arg_of (comma_parts inside) read.0 read.1 in
    let few = (parts-short (λ b. b == 44) inside).0 in
    let short : length read.0 ≤ suc n = omega (arith, same, few, le) in
    subst (IsShortCommand (suc n)) read.2 (subst (λ (ys : List ArgWord). length ys ≤ suc n) (sym (args read.0)) short)

call-parts : (inside : List ℕ) → length (call_words inside) ≤ suc (length inside)
call-parts [] = omega arith
call-parts (b ∷ bs) = (parts-short (λ c. c == 44) (b ∷ bs)).0

call-short : (n number : ℕ) (inside : List ℕ) (x : CommandWord) → length inside ≤ n → option_map (λ xs. command.Call number xs) (each_of arg_of (call_words inside)) ≡ Some x → IsShortCommand (suc n) x
call-short n number inside x le h =
    let read = map_said (λ xs. command.Call number xs) (each_of arg_of (call_words inside)) x h in
    let same = each-many arg_of (call_words inside) read.0 read.1 in
    let few = call-parts inside in
    let short : length read.0 ≤ suc n = omega (arith, same, few, le) in
    subst (IsShortCommand (suc n)) read.2 short

vector-short : (n : ℕ) (ws : List (List ℕ)) (x : CommandWord) → length ws ≤ suc n → vector_value ws ≡ Some x → IsShortCommand (suc n) x
vector-short n [] x le h = absurd (cc)
vector-short n (w ∷ ws) x le h =
    let read = both_said (λ k vs. command.MakeVec k vs) (kind_of w) (each_of arg_of ws) x h in
    let same = each-many arg_of ws read.1 read.3 in
    let short : length read.1 ≤ suc n = omega (arith, same, le) in
    subst (IsShortCommand (suc n)) read.4 short

option-cases : {A : Type 0} → (o : Option A) → (o ≡ None) ⊎ ((x : A) × (o ≡ Some x))
option-cases None = inl refl
option-cases (Some x) = inr (x, refl)

kind-short : (n : ℕ) (name inside : List ℕ) (x : CommandWord) → length inside ≤ n → command_parts_value (option_map (λ k. (k, inside)) (command_kind name)) ≡ Some x → IsShortCommand (suc n) x
unfolding command_kind
kind-short n name inside x le h =
    elim (cases_Bool (bytes_eq name (codes "split"))) [
      | inl e ↦ let k = rw e at h in args-short n inside (λ xs. command.Split xs) x (λ xs. refl) le k
      | inr no1 ↦ elim (cases_Bool (bytes_eq name (codes "merge"))) [
        | inl e ↦ let k = rw (no1, e) at h in args-short n inside (λ xs. command.Merge xs) x (λ xs. refl) le k
        | inr no2 ↦ elim (cases_Bool (bytes_eq name (codes "transfer"))) [
          | inl e ↦ let k = rw (no1, no2, e) at h in args-short n inside (λ xs. command.Transfer xs) x (λ xs. refl) le k
          | inr no3 ↦ elim (cases_Bool (bytes_eq name (codes "vec"))) [
            | inl e ↦
                let k = rw (no1, no2, no3, e) at h in
                let few = (parts-short (λ b. b == 44) inside).0 in
                vector-short n (comma_parts inside) x (omega (arith, few, le)) k
            | inr no4 ↦ elim (option-cases (native_of name)) [
              | inl none ↦ let k = rw (no1, no2, no3, no4, none) at h in absurd (cc)
              | inr there ↦
                  let e = there.1 in
                  let k = rw (no1, no2, no3, no4, e) at h in
                  call-short n there.0 inside x le k
            ]
          ]
        ]
      ]
    ]

pub command-short : (n : ℕ) (w : List ℕ) (x : CommandWord) → length w ≤ n → command_of w ≡ Some x → IsShortCommand (suc n) x
unfolding command_of command_parts
command-short n w x le h = parts (cut_at 40 w) (λ p e. let less = cut-short 40 w p e in omega (arith, less, le)) h
  where
    parts : (c : Option (List ℕ × List ℕ)) → ((p : List ℕ × List ℕ) → c ≡ Some p → length p.1 ≤ n) → command_parts_value (of_command_kind c) ≡ Some x → IsShortCommand (suc n) x
    parts None short k = absurd (cc)
    parts (Some p) short k = marked (has_mark 41 p.1) k
      where
        marked : (b : Bool) → command_parts_value (cond b (option_map (λ k. (k, without_mark 41 p.1)) (command_kind p.0)) None) ≡ Some x → IsShortCommand (suc n) x
        marked true m = let less = mark-short 41 p.1 in let some = short p refl in kind-short n p.0 (without_mark 41 p.1) x (omega (arith, less, some)) m
        marked false m = absurd (cc)
