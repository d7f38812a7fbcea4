-- `clap` takes the words of each command, since none of them begins with a dash.
use Rattle.std.proofs.Common.{◌≡◌, inl, inr, ◌==◌, ◌&&◌, ℕ, Bool, true, false, List, [], ◌∷◌, length, Option, Some, None, if◌then◌else◌, refl, sym, subst, arith, codes}
use Rattle.std.specs.Prelude.{bytes_eq, cond, is_some, option_and_then, option_map}
use Rattle.std.specs.List.{list_all, onto_first, slice_split}
use Rattle.std.proofs.lemmas.Bool.{and_parts, ne_eqb}
use Rattle.std.proofs.lemmas.Slice.Eq.{bytes_eq-Decides}
use Rattle.clap.specs.Walk.{is_empty}
use Rattle.clap.specs.Words.{App, HasKind, Kinds, is_simple_and_free, kind_of, with_subcommand}
use Rattle.clap.specs.declared.error.Error.{Error}
use Rattle.clap.specs.declared.error.kind.ErrorKind.TheVariants as kind
use Rattle.clap.proofs.OnLiterals.{clap_on_literals}
use Rattle.digest_core.specs.declared.Digest.{Digest}
use Rattle.protocol_spec.specs.Chain.Words.{first_some}
use Rattle.schedule_text.specs.Bytes.{each_of, is_digit, is_digits, number_in, number_of, with_both}
use Rattle.schedule_text.specs.Inputs.{is_hex_byte}
use Rattle.command_words.specs.declared.words.Command.{Command}
use Rattle.command_words.specs.declared.words.Command.TheVariants as command
use Rattle.command_words.specs.CheckWords.{check_in, check_of, check_words, digest_in, stakes_in}
use Rattle.command_words.specs.ListWords.{numbers_in, up_to_64}
use Rattle.command_words.specs.Parsing.{bare, is_taken, of_check, of_one, program, program_top}
use Rattle.command_words.specs.Words.{command_in, desk_in, follow_in, make_in, replay_in, run_in}

-- `clap` says exactly of what kind its errors over this program are
pub program_is_simple : is_simple_and_free program ≡ true
unfolding clap_on_literals program
program_is_simple = refl

pub none_found : (kinds : Kinds) → kinds ≡ [] → true ≡ is_empty kinds
none_found kinds e = rw e refl

pub one_found : (kinds : Kinds) (e : Error) → HasKind kinds e → (kind_of e ≡ kind.OutOfMemory → ⊥) → false ≡ is_empty kinds
one_found [] e (inl memory) other = absurd (other memory)
one_found [] e (inr among) other = absurd among
one_found (k ∷ kinds) e has other = sym (ne_eqb (length (k ∷ kinds)) 0 (λ (s : length (k ∷ kinds) ≡ 0). omega (arith, s)))

-- the program grows by a command at a time
pub grown : (p0 p1 p2 p3 p4 p5 p6 : App) → p0 ≡ program_top → p1 ≡ with_subcommand p0 (bare (codes "run")).top → p2 ≡ with_subcommand p1 (of_one (codes "make") (codes "N")).top → p3 ≡ with_subcommand p2 of_check.top
    → p4 ≡ with_subcommand p3 (of_one (codes "follow") (codes "M")).top → p5 ≡ with_subcommand p4 (of_one (codes "desk") (codes "N")).top → p6 ≡ with_subcommand p5 (of_one (codes "replay") (codes "M")).top → p6 ≡ program
unfolding program
grown p0 p1 p2 p3 p4 p5 p6 e0 e1 e2 e3 e4 e5 e6 = rw (e6, e5, e4, e3, e2, e1, e0) refl

-- ---- words that begin with no dash

abbrev IsPlain : List ℕ → Type 0
IsPlain [] = ⊥
IsPlain (x ∷ xs) = (x == 45) ≡ false

run_taken : is_taken (codes "run" ∷ []) ≡ true
unfolding clap_on_literals program is_taken
run_taken = refl

make_taken : (word : List ℕ) → IsPlain word → is_taken (codes "make" ∷ word ∷ []) ≡ true
unfolding clap_on_literals program is_taken
make_taken [] plain = absurd plain
make_taken (x ∷ xs) plain = simp plain

check_taken : (stakes tx : List ℕ) → IsPlain stakes → IsPlain tx → is_taken (codes "check" ∷ stakes ∷ tx ∷ []) ≡ true
unfolding clap_on_literals program is_taken
check_taken [] tx plain bare = absurd plain
check_taken (x ∷ xs) [] plain bare = absurd bare
check_taken (x ∷ xs) (y ∷ ys) plain bare = simp (plain, bare)

follow_taken : (word : List ℕ) → IsPlain word → is_taken (codes "follow" ∷ word ∷ []) ≡ true
unfolding clap_on_literals program is_taken
follow_taken [] plain = absurd plain
follow_taken (x ∷ xs) plain = simp plain

desk_taken : (word : List ℕ) → IsPlain word → is_taken (codes "desk" ∷ word ∷ []) ≡ true
unfolding clap_on_literals program is_taken
desk_taken [] plain = absurd plain
desk_taken (x ∷ xs) plain = simp plain

replay_taken : (word : List ℕ) → IsPlain word → is_taken (codes "replay" ∷ word ∷ []) ≡ true
unfolding clap_on_literals program is_taken
replay_taken [] plain = absurd plain
replay_taken (x ∷ xs) plain = simp plain

-- ---- numbers, stakes and digests begin with none

chosen : {A : Type 0} (b : Bool) (o : Option A) → is_some (if b then o else None) ≡ true → (b ≡ true) × (is_some o ≡ true)
chosen true o e = (refl, e)
chosen false o e = absurd (cc)

mapped : {A B : Type 0} (f : A → B) (o : Option A) → is_some (option_map f o) ≡ true → is_some o ≡ true
mapped f None e = e
mapped f (Some x) e = refl

digit : (x : ℕ) → is_digit x ≡ true → (x == 45) ≡ false
digit x e = ne_eqb x 45 (λ (s : x ≡ 45). let low : is_digit 45 ≡ true = subst (λ (n : ℕ). is_digit n ≡ true) s e in absurd (cc))

number_plain : (word : List ℕ) → is_some (number_of word) ≡ true → IsPlain word
unfolding number_of is_digits
number_plain [] e = absurd (cc)
number_plain (x ∷ xs) e =
    let bytes : (is_digit x && list_all is_digit xs) ≡ true = (and_parts _ _ (and_parts _ _ (chosen _ _ e).0).0).0 in
    digit x (and_parts _ _ bytes).0

read : {A B : Type 0} (f : A → Option B) (o : Option A) → is_some (option_and_then f o) ≡ true → is_some o ≡ true
read f None e = e
read f (Some x) e = refl

ranged_plain : (low high : ℕ) (word : List ℕ) → is_some (number_in low high word) ≡ true → IsPlain word
unfolding number_in
ranged_plain low high word e = number_plain word (read _ (number_of word) e)

first_read : {A B C : Type 0} (f : A → B → C) (a : Option A) (b : Option B) → is_some (with_both a b f) ≡ true → is_some a ≡ true
first_read f None b e = e
first_read f (Some x) b e = refl

each_plain : (x : ℕ) (ps : List (List ℕ)) → is_some (each_of (number_in 1 4294967295) (onto_first x ps)) ≡ true → (x == 45) ≡ false
unfolding each_of
each_plain x [] e = ranged_plain 1 4294967295 (x ∷ []) (first_read _ _ _ e)
each_plain x (p ∷ ps) e = ranged_plain 1 4294967295 (x ∷ p) (first_read _ _ _ e)

split_plain : (x : ℕ) (xs : List ℕ) (comma : Bool)
    → is_some (option_and_then up_to_64 (each_of (number_in 1 4294967295) (cond comma ([] ∷ slice_split (λ b. b == 44) xs) (onto_first x (slice_split (λ b. b == 44) xs))))) ≡ true → (x == 45) ≡ false
unfolding each_of number_in number_of is_digits
split_plain x xs true e = absurd (cc)
split_plain x xs false e = each_plain x (slice_split (λ b. b == 44) xs) (read up_to_64 _ e)

stakes_plain : (word : List ℕ) → is_some (stakes_in word) ≡ true → IsPlain word
unfolding numbers_in each_of number_in number_of is_digits
stakes_plain [] e = absurd (cc)
stakes_plain (x ∷ xs) e = split_plain x xs (x == 44) e

hex_digit : (x : ℕ) → is_hex_byte x ≡ true → (x == 45) ≡ false
hex_digit x e = ne_eqb x 45 (λ (s : x ≡ 45). let low : is_hex_byte 45 ≡ true = subst (λ (n : ℕ). is_hex_byte n ≡ true) s e in absurd (cc))

digest_plain : (word : List ℕ) → is_some (digest_in word) ≡ true → IsPlain word
unfolding digest_in
digest_plain [] e = absurd (cc)
digest_plain (x ∷ xs) e =
    let bytes : (is_hex_byte x && list_all is_hex_byte xs) ≡ true = (and_parts _ _ (chosen _ _ e).0).1 in
    hex_digit x (and_parts _ _ bytes).0

both_read : (stakes : Option (List ℕ)) (tx : Option Digest) → is_some (check_of stakes tx) ≡ true → (is_some stakes ≡ true) × (is_some tx ≡ true)
both_read None tx e = absurd (cc)
both_read (Some stakes) None e = absurd (cc)
both_read (Some stakes) (Some tx) e = (refl, refl)

-- ---- each command

named : (name : List ℕ) (want : List ℕ) (words : List (List ℕ)) → bytes_eq name want ≡ true → is_taken (want ∷ words) ≡ true → is_taken (name ∷ words) ≡ true
named name want words e taken = subst (λ (n : List ℕ). is_taken (n ∷ words) ≡ true) (sym ((bytes_eq-Decides name want).0 e)) taken

run_is_taken : (words : List (List ℕ)) → is_some (run_in words) ≡ true → is_taken words ≡ true
run_is_taken [] e = absurd (cc)
run_is_taken (name ∷ []) e = named name (codes "run") [] (chosen _ _ e).0 run_taken
run_is_taken (name ∷ word ∷ words) e = absurd (cc)

-- a command of a name and a number
numbered : (name want number : List ℕ) (low high : ℕ) (make : ℕ → Command) → ((word : List ℕ) → IsPlain word → is_taken (want ∷ word ∷ []) ≡ true)
    → is_some (if bytes_eq name want then option_map make (number_in low high number) else None) ≡ true → is_taken (name ∷ number ∷ []) ≡ true
numbered name want number low high make taken e =
    let parts = chosen (bytes_eq name want) (option_map make (number_in low high number)) e in
    named name want (number ∷ []) parts.0 (taken number (ranged_plain low high number (mapped make (number_in low high number) parts.1)))

make_is_taken : (words : List (List ℕ)) → is_some (make_in words) ≡ true → is_taken words ≡ true
make_is_taken [] e = absurd (cc)
make_is_taken (name ∷ []) e = absurd (cc)
make_is_taken (name ∷ number ∷ []) e = numbered name (codes "make") number 1 10000 command.Make make_taken e
make_is_taken (name ∷ number ∷ word ∷ words) e = absurd (cc)

follow_is_taken : (words : List (List ℕ)) → is_some (follow_in words) ≡ true → is_taken words ≡ true
follow_is_taken [] e = absurd (cc)
follow_is_taken (name ∷ []) e = absurd (cc)
follow_is_taken (name ∷ number ∷ []) e = numbered name (codes "follow") number 0 63 command.Follow follow_taken e
follow_is_taken (name ∷ number ∷ word ∷ words) e = absurd (cc)

desk_is_taken : (words : List (List ℕ)) → is_some (desk_in words) ≡ true → is_taken words ≡ true
desk_is_taken [] e = absurd (cc)
desk_is_taken (name ∷ []) e = absurd (cc)
desk_is_taken (name ∷ number ∷ []) e = numbered name (codes "desk") number 1 16 command.Desk desk_taken e
desk_is_taken (name ∷ number ∷ word ∷ words) e = absurd (cc)

replay_is_taken : (words : List (List ℕ)) → is_some (replay_in words) ≡ true → is_taken words ≡ true
replay_is_taken [] e = absurd (cc)
replay_is_taken (name ∷ []) e = absurd (cc)
replay_is_taken (name ∷ number ∷ []) e = numbered name (codes "replay") number 0 63 command.Replay replay_taken e
replay_is_taken (name ∷ number ∷ word ∷ words) e = absurd (cc)

check_is_taken : (words : List (List ℕ)) → is_some (check_in words) ≡ true → is_taken words ≡ true
unfolding check_words
check_is_taken [] e = absurd (cc)
check_is_taken (name ∷ []) e = absurd (cc)
check_is_taken (name ∷ stakes ∷ []) e = absurd (cc)
check_is_taken (name ∷ stakes ∷ tx ∷ []) e =
    let parts = chosen (bytes_eq name (codes "check")) (check_words stakes tx) e in
    let both = both_read (stakes_in stakes) (digest_in tx) parts.1 in
    named name (codes "check") (stakes ∷ tx ∷ []) parts.0 (check_taken stakes tx (stakes_plain stakes both.0) (digest_plain tx both.1))
check_is_taken (name ∷ stakes ∷ tx ∷ word ∷ words) e = absurd (cc)

-- ---- words that are a command

one_of : {A : Type 0} (P : Type 0) (o : Option A) (os : List (Option A)) → (is_some o ≡ true → P) → (is_some (first_some os) ≡ true → P) → is_some (first_some (o ∷ os)) ≡ true → P
one_of P None os first rest e = rest e
one_of P (Some x) os first rest e = first refl

pub command_taken : (words : List (List ℕ)) → is_some (command_in words) ≡ true → is_taken words ≡ true
unfolding command_in
command_taken words =
    one_of _ (run_in words) _ (run_is_taken words)
    (one_of _ (make_in words) _ (make_is_taken words)
    (one_of _ (check_in words) _ (check_is_taken words)
    (one_of _ (follow_in words) _ (follow_is_taken words)
    (one_of _ (desk_in words) _ (desk_is_taken words)
    (one_of _ (replay_in words) [] (replay_is_taken words) (λ e. absurd (cc)))))))
