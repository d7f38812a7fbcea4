-- The command words: their bytes, their form, and what each is read as.
use Rattle.std.proofs.Common.{◌≡◌, ◌==◌, ℕ, zero, suc, ◌+◌, ◌<◌, ◌≤◌, ◌^◌, Bool, true, false, not, ◌&&◌, ◌||◌, List, [], ◌∷◌, ◌++◌, map, length, Option, Some, None, codes, decimal, option_map, is_some, refl, ap, sym, ◌∙◌, add-zero, zero-add, arith}
use Rattle.std.proofs.lemmas.Bool.{and_from, and_parts, or_left, eqb-true}
use Rattle.std.specs.List.{list_all, AllByRecursion, join_with_byte}
use Rattle.std.specs.Str.{bytes_eq}
use Rattle.schedule_text.specs.declared.words.ArgWord.{ArgWord}
use Rattle.schedule_text.specs.declared.words.ArgWord.TheVariants as arg
use Rattle.schedule_text.specs.declared.words.CommandWord.{CommandWord}
use Rattle.schedule_text.specs.declared.words.CommandWord.TheVariants as command
use Rattle.schedule_text.specs.Bytes.{is_name_byte, is_digits, each_of}
use Rattle.schedule_text.specs.Commands.{place_of, result_form, result_value, is_place, place_value, is_arg, arg_of, comma_parts, call_words, native_names, native_of, kind_names, kind_of, command_kind, of_command_kind, command_parts, vector_form, vector_value, command_parts_form, command_parts_value, is_command, command_of}
use Rattle.schedule_text.specs.Inputs.{is_input, input_parts, of_kind, form_of_parts}
use Rattle.run_law.specs.Canonical.{name_at, arg_word, call_word, command_word}
use Rattle.run_law.specs.Sayable.{IsArg, AreArgs, IsCommand}
use Rattle.run_law.proofs.Pieces.{Passes, EachPasses, wider, passes-append, passes-join, cut_yes, cut_no, split_join, mark_read, mark_taken}
use Rattle.run_law.proofs.Numbers.{decimal_form, range_read}
use Rattle.run_law.proofs.Words.{is_object_byte, is_call_byte, name_in_object, object_in_call, number_passes}

-- ---- arguments

narrow : (n : ℕ) → n ≤ 65535 → n < 2 ^ 64
narrow n h = omega arith

place_passes : (n : ℕ) → n ≤ 65535 → Passes is_name_byte (decimal n)
place_passes n h = number_passes n (narrow n h)

place_in_object : (n : ℕ) → n ≤ 65535 → Passes is_object_byte (decimal n)
place_in_object n h = wider is_name_byte is_object_byte name_in_object (decimal n) (place_passes n h)

arg_passes : (x : ArgWord) → IsArg x → Passes is_object_byte (arg_word x)
arg_passes arg.Gas h = refl
arg_passes (arg.Input n) h = place_in_object n h
arg_passes (arg.Result n) h = place_in_object n h
arg_passes (arg.Nested n k) h = passes-append is_object_byte (decimal n) (46 ∷ decimal k) (place_in_object n h.0) (place_in_object k h.1)

place_is : (n : ℕ) → n ≤ 65535 → is_digits (decimal n) ≡ true
place_is n h = decimal_form n (narrow n h)

place_read : (n : ℕ) → n ≤ 65535 → place_of (decimal n) ≡ Some n
place_read n h = range_read 0 65535 n (narrow n h) (omega arith) h

arg_is : (x : ArgWord) → IsArg x → is_arg (arg_word x) ≡ true
unfolding is_arg is_place
arg_is arg.Gas h = refl
arg_is (arg.Input n) h = place_is n h
arg_is (arg.Result n) h = ap (result_form (decimal n)) (cut_no is_name_byte 46 refl (decimal n) (place_passes n h)) ∙ place_is n h
arg_is (arg.Nested n k) h =
    ap (result_form (decimal n ++ 46 ∷ decimal k)) (cut_yes is_name_byte 46 refl (decimal n) (decimal k) (place_passes n h.0))
    ∙ and_from (is_digits (decimal n)) (is_digits (decimal k)) (place_is n h.0) (place_is k h.1)

arg_read : (x : ArgWord) → IsArg x → arg_of (arg_word x) ≡ Some x
unfolding arg_of place_value
arg_read arg.Gas h = refl
arg_read (arg.Input n) h = ap (option_map (λ n. arg.Input n)) (place_read n h)
arg_read (arg.Result n) h =
    ap (result_value (decimal n)) (cut_no is_name_byte 46 refl (decimal n) (place_passes n h)) ∙ ap (option_map (λ n. arg.Result n)) (place_read n h)
arg_read (arg.Nested n k) h =
    ap (result_value (decimal n ++ 46 ∷ decimal k)) (cut_yes is_name_byte 46 refl (decimal n) (decimal k) (place_passes n h.0))
    ∙ rw (place_read n h.0, place_read k h.1) refl

args_pass : (xs : List ArgWord) → AllByRecursion IsArg xs → EachPasses is_object_byte (map arg_word xs)
args_pass [] h = refl
args_pass (x ∷ xs) h = and_from (list_all is_object_byte (arg_word x)) (list_all (λ w. list_all is_object_byte w) (map arg_word xs)) (arg_passes x h.0) (args_pass xs h.1)

args_are : (xs : List ArgWord) → AllByRecursion IsArg xs → list_all is_arg (map arg_word xs) ≡ true
args_are [] h = refl
args_are (x ∷ xs) h = and_from (is_arg (arg_word x)) (list_all is_arg (map arg_word xs)) (arg_is x h.0) (args_are xs h.1)

args_read : (xs : List ArgWord) → AllByRecursion IsArg xs → each_of arg_of (map arg_word xs) ≡ Some xs
unfolding each_of
args_read [] h = refl
args_read (x ∷ xs) h = rw (arg_read x h.0, args_read xs h.1) refl

-- ---- between the parentheses

split_commas : (w : List ℕ) (ws : List (List ℕ)) → EachPasses is_object_byte (w ∷ ws) → comma_parts (join_with_byte 44 (w ∷ ws)) ≡ w ∷ ws
split_commas w ws h = split_join is_object_byte 44 refl w ws h

split_args : (xs : List ArgWord) → AreArgs xs → comma_parts (join_with_byte 44 (map arg_word xs)) ≡ map arg_word xs
split_args [] h = absurd (omega (arith, h.0))
split_args (x ∷ xs) h = split_commas (arg_word x) (map arg_word xs) (args_pass (x ∷ xs) h.1)

-- a word that is there is not missing
not_none : (w : List ℕ) (ws : List (List ℕ)) → 0 < length w → call_words (join_with_byte 44 (w ∷ ws)) ≡ comma_parts (join_with_byte 44 (w ∷ ws))
not_none [] ws some = absurd (omega (arith, some))
not_none (b ∷ w) [] some = refl
not_none (b ∷ w) (v ∷ ws) some = refl

arg_there : (x : ArgWord) → 0 < length (arg_word x)
arg_there arg.Gas = omega arith
arg_there (arg.Input n) = omega arith
arg_there (arg.Result n) = omega arith
arg_there (arg.Nested n k) = omega arith

split_call : (xs : List ArgWord) → AllByRecursion IsArg xs → call_words (join_with_byte 44 (map arg_word xs)) ≡ map arg_word xs
split_call [] h = refl
split_call (x ∷ xs) h = not_none (arg_word x) (map arg_word xs) (arg_there x) ∙ split_commas (arg_word x) (map arg_word xs) (args_pass (x ∷ xs) h)

-- bytes between the parentheses
abbrev is_args_byte : ℕ → Bool
is_args_byte b = is_object_byte b || b == 44

object_in_args : (b : ℕ) → is_object_byte b ≡ true → is_args_byte b ≡ true
object_in_args b h = or_left (is_object_byte b) (b == 44) h

inside_passes : (ws : List (List ℕ)) → EachPasses is_object_byte ws → Passes is_args_byte (join_with_byte 44 ws)
inside_passes ws h = passes-join is_object_byte is_args_byte object_in_args 44 refl ws h

-- the name's kind, and what stands between the parentheses
call_parts : (name : List ℕ) (ws : List (List ℕ)) → Passes is_name_byte name → EachPasses is_object_byte ws
    → command_parts (call_word name ws) ≡ option_map (λ k. (k, join_with_byte 44 ws)) (command_kind name)
unfolding command_parts
call_parts name ws named h =
    let inside = join_with_byte 44 ws in
    let passes = inside_passes ws h in
    ap of_command_kind (cut_yes is_name_byte 40 refl name (inside ++ 41 ∷ []) named)
    ∙ rw (mark_read is_args_byte 41 refl inside true passes, mark_taken is_args_byte 41 refl inside true passes) refl

-- ---- the names of kinds and natives

kind_named : (k : ℕ) → k < 6 → Passes is_name_byte (name_at kind_names k)
kind_named zero low = refl
kind_named (suc zero) low = refl
kind_named (suc (suc zero)) low = refl
kind_named (suc (suc (suc zero))) low = refl
kind_named (suc (suc (suc (suc zero)))) low = refl
kind_named (suc (suc (suc (suc (suc zero))))) low = refl
kind_named (suc (suc (suc (suc (suc (suc k)))))) low = absurd (omega (arith, low))

kind_back : (k : ℕ) → k < 6 → kind_of (name_at kind_names k) ≡ Some k
unfolding kind_of
kind_back zero low = refl
kind_back (suc zero) low = refl
kind_back (suc (suc zero)) low = refl
kind_back (suc (suc (suc zero))) low = refl
kind_back (suc (suc (suc (suc zero)))) low = refl
kind_back (suc (suc (suc (suc (suc zero))))) low = refl
kind_back (suc (suc (suc (suc (suc (suc k)))))) low = absurd (omega (arith, low))

-- a test of each name holds of the one at a place
named_at : (names : List (List ℕ)) → EachPasses is_name_byte names → (k : ℕ) → Passes is_name_byte (name_at names k)
named_at [] h k = refl
named_at (w ∷ ws) h zero = (and_parts (list_all is_name_byte w) (list_all (λ v. list_all is_name_byte v) ws) h).0
named_at (w ∷ ws) h (suc k) = named_at ws (and_parts (list_all is_name_byte w) (list_all (λ v. list_all is_name_byte v) ws) h).1 k

native_named : (k : ℕ) → Passes is_name_byte (name_at native_names k)
native_named k = named_at native_names refl k

-- a name that no other command has
abbrev is_free : List ℕ → Bool
is_free w = not (bytes_eq w (codes "split")) && (not (bytes_eq w (codes "merge")) && (not (bytes_eq w (codes "transfer")) && not (bytes_eq w (codes "vec"))))

abbrev is_number : ℕ → Option ℕ → Bool
is_number n None = false
is_number n (Some k) = k == n

-- each name is read as the native of its number, from this number on
abbrev are_natives : ℕ → List (List ℕ) → Bool
are_natives n [] = true
are_natives n (w ∷ ws) = (is_free w && is_number n (native_of w)) && are_natives (suc n) ws

all_natives : are_natives 0 native_names ≡ true
unfolding native_of
all_natives = refl

abbrev IsNative : List ℕ → ℕ → Type 0
IsNative w n = (is_free w ≡ true) × (native_of w ≡ Some n)

number_is : (n : ℕ) (o : Option ℕ) → is_number n o ≡ true → o ≡ Some n
number_is n None h = absurd (cc)
number_is n (Some k) h = ap (λ m. Some m) (eqb-true k n h)

one_on : (n k : ℕ) → suc n + k ≡ n + suc k
one_on n k = omega arith

natives_at : (n : ℕ) (ws : List (List ℕ)) → are_natives n ws ≡ true → (k : ℕ) → k < length ws → IsNative (name_at ws k) (n + k)
natives_at n [] h k low = absurd (omega (arith, low))
natives_at n (w ∷ ws) h zero low =
    let here = (and_parts (is_free w && is_number n (native_of w)) (are_natives (suc n) ws) h).0 in
    let both = and_parts (is_free w) (is_number n (native_of w)) here in
    (both.0, number_is n (native_of w) both.1 ∙ ap (λ m. Some m) (sym (add-zero n)))
natives_at n (w ∷ ws) h (suc k) low =
    let rest = natives_at (suc n) ws (and_parts (is_free w && is_number n (native_of w)) (are_natives (suc n) ws) h).1 k (omega (arith, low)) in
    (rest.0, rest.1 ∙ ap (λ m. Some m) (one_on n k))

native_at : (k : ℕ) → k < length native_names → IsNative (name_at native_names k) k
native_at k low = let r = natives_at 0 native_names all_natives k low in (r.0, r.1 ∙ ap (λ m. Some m) (zero-add k))

-- none of the four other commands
free_parts : (a b c d : Bool) → (not a && (not b && (not c && not d))) ≡ true → (a ≡ false) × (b ≡ false) × (c ≡ false) × (d ≡ false)
free_parts true b c d h = absurd (cc)
free_parts false true c d h = absurd (cc)
free_parts false false true d h = absurd (cc)
free_parts false false false true h = absurd (cc)
free_parts false false false false h = (refl, refl, refl, refl)

native_is : (w : List ℕ) (k : ℕ) → IsNative w k → (inside : List ℕ) → command_parts_form (option_map (λ k. (k, inside)) (command_kind w)) ≡ list_all is_arg (call_words inside)
unfolding command_kind
native_is w k (free, is) inside =
    let no = free_parts (bytes_eq w (codes "split")) (bytes_eq w (codes "merge")) (bytes_eq w (codes "transfer")) (bytes_eq w (codes "vec")) free in
    rw (no.0, no.1, no.2, no.3, is) refl

native_read : (w : List ℕ) (k : ℕ) → IsNative w k → (inside : List ℕ) → command_parts_value (option_map (λ k. (k, inside)) (command_kind w)) ≡ option_map (λ xs. command.Call k xs) (each_of arg_of (call_words inside))
unfolding command_kind
native_read w k (free, is) inside =
    let no = free_parts (bytes_eq w (codes "split")) (bytes_eq w (codes "merge")) (bytes_eq w (codes "transfer")) (bytes_eq w (codes "vec")) free in
    rw (no.0, no.1, no.2, no.3, is) refl

-- ---- commands

kind_passes : (k : ℕ) (vs : List ArgWord) → k < 6 → AllByRecursion IsArg vs → EachPasses is_object_byte (name_at kind_names k ∷ map arg_word vs)
kind_passes k vs low h =
    and_from (list_all is_object_byte (name_at kind_names k)) (list_all (λ w. list_all is_object_byte w) (map arg_word vs))
    (wider is_name_byte is_object_byte name_in_object (name_at kind_names k) (kind_named k low)) (args_pass vs h)

pub command_is : (x : CommandWord) → IsCommand x → is_command (command_word x) ≡ true
unfolding is_command command_kind
command_is (command.Split xs) h =
    ap command_parts_form (call_parts (codes "split") (map arg_word xs) refl (args_pass xs h.1)) ∙ ap (list_all is_arg) (split_args xs h) ∙ args_are xs h.1
command_is (command.Merge xs) h =
    ap command_parts_form (call_parts (codes "merge") (map arg_word xs) refl (args_pass xs h.1)) ∙ ap (list_all is_arg) (split_args xs h) ∙ args_are xs h.1
command_is (command.Transfer xs) h =
    ap command_parts_form (call_parts (codes "transfer") (map arg_word xs) refl (args_pass xs h.1)) ∙ ap (list_all is_arg) (split_args xs h) ∙ args_are xs h.1
command_is (command.MakeVec k vs) h =
    let word = name_at kind_names k in
    ap command_parts_form (call_parts (codes "vec") (word ∷ map arg_word vs) refl (kind_passes k vs h.0 h.1))
    ∙ ap vector_form (split_commas word (map arg_word vs) (kind_passes k vs h.0 h.1))
    ∙ and_from (is_some (kind_of word)) (list_all is_arg (map arg_word vs)) (ap is_some (kind_back k h.0)) (args_are vs h.1)
command_is (command.Call k xs) h =
    ap command_parts_form (call_parts (name_at native_names k) (map arg_word xs) (native_named k) (args_pass xs h.1))
    ∙ native_is (name_at native_names k) k (native_at k h.0) (join_with_byte 44 (map arg_word xs)) ∙ ap (list_all is_arg) (split_call xs h.1) ∙ args_are xs h.1

pub command_read : (x : CommandWord) → IsCommand x → command_of (command_word x) ≡ Some x
unfolding command_of command_kind
command_read (command.Split xs) h =
    ap command_parts_value (call_parts (codes "split") (map arg_word xs) refl (args_pass xs h.1))
    ∙ ap (λ ws. option_map (λ ys. command.Split ys) (each_of arg_of ws)) (split_args xs h) ∙ ap (option_map (λ ys. command.Split ys)) (args_read xs h.1)
command_read (command.Merge xs) h =
    ap command_parts_value (call_parts (codes "merge") (map arg_word xs) refl (args_pass xs h.1))
    ∙ ap (λ ws. option_map (λ ys. command.Merge ys) (each_of arg_of ws)) (split_args xs h) ∙ ap (option_map (λ ys. command.Merge ys)) (args_read xs h.1)
command_read (command.Transfer xs) h =
    ap command_parts_value (call_parts (codes "transfer") (map arg_word xs) refl (args_pass xs h.1))
    ∙ ap (λ ws. option_map (λ ys. command.Transfer ys) (each_of arg_of ws)) (split_args xs h) ∙ ap (option_map (λ ys. command.Transfer ys)) (args_read xs h.1)
command_read (command.MakeVec k vs) h =
    let word = name_at kind_names k in
    ap command_parts_value (call_parts (codes "vec") (word ∷ map arg_word vs) refl (kind_passes k vs h.0 h.1))
    ∙ ap vector_value (split_commas word (map arg_word vs) (kind_passes k vs h.0 h.1))
    ∙ rw (kind_back k h.0, args_read vs h.1) refl
command_read (command.Call k xs) h =
    ap command_parts_value (call_parts (name_at native_names k) (map arg_word xs) (native_named k) (args_pass xs h.1))
    ∙ native_read (name_at native_names k) k (native_at k h.0) (join_with_byte 44 (map arg_word xs)) ∙ ap (λ ws. option_map (λ ys. command.Call k ys) (each_of arg_of ws)) (split_call xs h.1)
    ∙ ap (option_map (λ ys. command.Call k ys)) (args_read xs h.1)

call_passes : (name : List ℕ) (ws : List (List ℕ)) → Passes is_name_byte name → EachPasses is_object_byte ws → Passes is_call_byte (call_word name ws)
call_passes name ws named h =
    passes-append is_call_byte name (40 ∷ (join_with_byte 44 ws ++ 41 ∷ [])) (wider is_name_byte is_call_byte (λ b k. object_in_call b (name_in_object b k)) name named)
    (passes-append is_call_byte (join_with_byte 44 ws) (41 ∷ []) (passes-join is_object_byte is_call_byte object_in_call 44 refl ws h) refl)

pub command_passes : (x : CommandWord) → IsCommand x → Passes is_call_byte (command_word x)
command_passes (command.Split xs) h = call_passes (codes "split") (map arg_word xs) refl (args_pass xs h.1)
command_passes (command.Merge xs) h = call_passes (codes "merge") (map arg_word xs) refl (args_pass xs h.1)
command_passes (command.Transfer xs) h = call_passes (codes "transfer") (map arg_word xs) refl (args_pass xs h.1)
command_passes (command.MakeVec k vs) h = call_passes (codes "vec") (name_at kind_names k ∷ map arg_word vs) refl (kind_passes k vs h.0 h.1)
command_passes (command.Call k xs) h = call_passes (name_at native_names k) (map arg_word xs) (native_named k) (args_pass xs h.1)

-- a command has no `:`
pub not_input : (x : CommandWord) → IsCommand x → is_input (command_word x) ≡ false
unfolding is_input input_parts
not_input x h = ap (λ o. form_of_parts (of_kind o)) (cut_no is_call_byte 58 refl (command_word x) (command_passes x h))
