-- What a line hands to a member are bytes, and an entry is not too long to be kept.
use Rattle.std.proofs.Common.{refl, sym, subst, ap, ◌∙◌, arith}
use Rattle.std.proofs.lemmas.Bool.Decides.{nat_tests}
use Rattle.std.specs.Prelude.{◌≡◌, ◌==◌, ◌<◌, ◌≤◌, ◌*◌, ℕ, zero, suc, Bool, true, false, cond, nat_le, get_or, List, [], ◌∷◌, length, Option, Some, None, option_map, bytes_eq, codes}
use Rattle.std.specs.List.{AllByRecursion, onto_first, slice_split}
use Rattle.wire_bcs.specs.Place.{IsBytes}
use Rattle.digest_core.specs.declared.Digest.{Digest}
use Rattle.schedule_text.specs.Bytes.{number_in}
use Rattle.schedule_text.specs.Inputs.{hex_of, is_hex}
use Rattle.run_law.specs.Sayable.{IsByte}
use Rattle.run_law.proofs.SaidWords.{hex_said}
use Rattle.protocol_spec.proofs.ListLemmas.{each_as}
use Rattle.protocol_spec.specs.Chain.Words.{Each}
use Rattle.process_lines.specs.declared.request.Request.{Request}
use Rattle.process_lines.specs.declared.request.Request.TheVariants as request
use Rattle.process_lines.specs.Lines.{longest_line}
use Rattle.process_lines.specs.Requests.{bytes_in, digest_in, number_of_word, request_of, request_of_one, request_of_three, request_of_two, request_of_words, see_with, version_with}
use Rattle.lives_law.specs.Files.{IsReadable}
use Rattle.validator_process.specs.Living.{asked_in}
use Rattle.validator_process.specs.Serving.{request_in}
use Rattle.run_law.proofs.Words.{bytes_by_index}

-- bytes that a word encodes, and no more than half as many
record AreIn (word bytes : List ℕ) : Type 0 where
  are : IsBytes bytes
  few : length bytes ≤ length word

hex-in : (word bytes : List ℕ) → hex_of word ≡ Some bytes → AreIn word bytes
hex-in word bytes e =
    let said = hex_said word bytes e in
    let same = said.1 in
    record { are = bytes_by_index bytes said.0; few = omega (arith, same) }

bytes-if : (word bytes : List ℕ) (b : Bool) → cond b (hex_of word) None ≡ Some bytes → AreIn word bytes
bytes-if word bytes true e = hex-in word bytes e
bytes-if word bytes false e = absurd (cc)

bytes-in : (word bytes : List ℕ) → bytes_in word ≡ Some bytes → AreIn word bytes
unfolding bytes_in
bytes-in word bytes e = bytes-if word bytes (is_hex word) e

-- ---- requests

abbrev Fine : Option Request → Type 0
Fine q = Each IsReadable (asked_in q)

fine-if : (b : Bool) (x y : Option Request) → Fine x → Fine y → Fine (cond b x y)
fine-if true x y p q = p
fine-if false x y p q = q

vote-fine : (o : Option (List ℕ)) → ((bytes : List ℕ) → o ≡ Some bytes → IsBytes bytes) → Fine (option_map request.Vote o)
vote-fine None are = tt
vote-fine (Some bytes) are = (are bytes refl, tt)

hold-fine : (o : Option (List ℕ)) → ((bytes : List ℕ) → o ≡ Some bytes → IsBytes bytes) → Fine (option_map request.Hold o)
hold-fine None are = tt
hold-fine (Some bytes) are = (are bytes refl, tt)

run-fine : (o : Option ℕ) → Fine (option_map request.Run o)
run-fine None = tt
run-fine (Some n) = (tt, tt)

checkpoint-fine : (o : Option ℕ) → Fine (option_map request.Checkpoint o)
checkpoint-fine None = tt
checkpoint-fine (Some n) = tt

ack-fine : (o : Option Digest) → Fine (option_map request.Ack o)
ack-fine None = tt
ack-fine (Some d) = (tt, tt)

object-fine : (o : Option Digest) → Fine (option_map request.Object o)
object-fine None = tt
object-fine (Some d) = tt

effects-fine : (o : Option Digest) → Fine (option_map request.Effects o)
effects-fine None = tt
effects-fine (Some d) = tt

version-fine : (id : Option Digest) (version : Option ℕ) → Fine (version_with id version)
version-fine None version = tt
version-fine (Some id) None = tt
version-fine (Some id) (Some version) = tt

see-fine : (n : Option ℕ) (word : List ℕ) (o : Option (List ℕ)) → length word ≤ longest_line → ((bytes : List ℕ) → o ≡ Some bytes → AreIn word bytes) → Fine (see_with n o)
see-fine None word o short are = tt
see-fine (Some n) word None short are = tt
see-fine (Some n) word (Some bytes) short are = let few = (are bytes refl).few in (omega (arith, few, short), tt)

one-fine : (word : List ℕ) → Fine (request_of_one word)
unfolding request_of_one
one-fine word =
    fine-if (bytes_eq word (codes "close")) (Some request.Close) _ (tt, tt)
    (fine-if (bytes_eq word (codes "end")) (Some request.End) _ (tt, tt)
    (fine-if (bytes_eq word (codes "turn")) (Some request.Turn) _ (tt, tt)
    (fine-if (bytes_eq word (codes "state")) (Some request.State) None tt tt)))

two-fine : (word text : List ℕ) → Fine (request_of_two word text)
unfolding request_of_two
two-fine word text =
    fine-if (bytes_eq word (codes "vote")) (option_map request.Vote (bytes_in text)) _ (vote-fine (bytes_in text) (λ bytes e. (bytes-in text bytes e).are))
    (fine-if (bytes_eq word (codes "hold")) (option_map request.Hold (bytes_in text)) _ (hold-fine (bytes_in text) (λ bytes e. (bytes-in text bytes e).are))
    (fine-if (bytes_eq word (codes "run")) (option_map request.Run (number_in 1 16 text)) _ (run-fine (number_in 1 16 text))
    (fine-if (bytes_eq word (codes "checkpoint")) (option_map request.Checkpoint (number_of_word text)) _ (checkpoint-fine (number_of_word text))
    (fine-if (bytes_eq word (codes "ack")) (option_map request.Ack (digest_in text)) _ (ack-fine (digest_in text))
    (fine-if (bytes_eq word (codes "object")) (option_map request.Object (digest_in text)) _ (object-fine (digest_in text))
    (fine-if (bytes_eq word (codes "effects")) (option_map request.Effects (digest_in text)) None (effects-fine (digest_in text)) tt))))))

three-fine : (word text more : List ℕ) → length more ≤ longest_line → Fine (request_of_three word text more)
unfolding request_of_three
three-fine word text more short =
    fine-if (bytes_eq word (codes "see")) (see_with (number_of_word text) (bytes_in more)) _ (see-fine (number_of_word text) more (bytes_in more) short (λ bytes e. bytes-in more bytes e))
    (fine-if (bytes_eq word (codes "version")) (version_with (digest_in text) (number_of_word more)) None (version-fine (digest_in text) (number_of_word more)) tt)

-- ---- lines

abbrev AreShort : ℕ → List (List ℕ) → Type 0
AreShort n words = Each (λ (word : List ℕ). length word ≤ n) words

words-fine : (words : List (List ℕ)) → AreShort longest_line words → Fine (request_of_words words)
words-fine [] short = tt
words-fine (word ∷ []) short = one-fine word
words-fine (word ∷ text ∷ []) short = two-fine word text
words-fine (word ∷ text ∷ more ∷ []) short = three-fine word text more short.1.1.0
words-fine (word ∷ text ∷ more ∷ last ∷ words) short = tt

longer : (n k : ℕ) (words : List (List ℕ)) → n ≤ k → AreShort n words → AreShort k words
longer n k words le short = each_as (λ (word : List ℕ). length word ≤ n) (λ (word : List ℕ). length word ≤ k) words (λ word few. omega (arith, le, few)) short

onto-short : (x n : ℕ) (words : List (List ℕ)) → AreShort n words → AreShort (suc n) (onto_first x words)
onto-short x n [] short = (omega arith, tt)
onto-short x n (word ∷ words) short = let few = short.0 in (omega (arith, few), longer n (suc n) words (omega arith) short.1)

split-short : (test : ℕ → Bool) (line : List ℕ) → AreShort (length line) (slice_split test line)
split-short test [] = (omega arith, tt)
split-short test (x ∷ line) = go (test x) (split-short test line)
  where
    go : (b : Bool) → AreShort (length line) (slice_split test line) → AreShort (suc (length line)) (cond b ([] ∷ slice_split test line) (onto_first x (slice_split test line)))
    go true short = (omega arith, longer (length line) (suc (length line)) (slice_split test line) (omega arith) short)
    go false short = onto-short x (length line) (slice_split test line) short

request-fine : (line : List ℕ) → length line ≤ longest_line → Fine (request_of line)
unfolding request_of
request-fine line le = words-fine (slice_split (λ b. b == 32) line) (longer (length line) longest_line (slice_split (λ b. b == 32) line) le (split-short (λ b. b == 32) line))

short-if : (line : List ℕ) (b : Bool) → nat_le (length line) longest_line ≡ b → Fine (cond b (request_of line) None)
short-if line true e = request-fine line (grind (arith, nat_tests))
short-if line false e = tt

pub line-readable : (line : List ℕ) → Each IsReadable (asked_in (request_in line))
line-readable line = short-if line (nat_le (length line) longest_line) refl
