-- The first and the last of words and bytes.
use Rattle.std.proofs.Common.{◌≡◌, ◌∙◌, ap, sym, refl, ℕ, suc, ◌-◌, ◌<◌, List, [], ◌∷◌, Option, Some, None, option_map, length, map, take, slice_index_or, slice_set, arith}
use Rattle.chain_types.specs.declared.transactions.Argument.TheVariants as argument
use Rattle.chain_types.specs.declared.objects.ObjectId.{ObjectId}
use Rattle.schedule_text.specs.declared.words.ArgWord.{ArgWord}
use Rattle.world_spec.specs.Setting.{Thing}
use Rattle.world_spec.specs.Making.{argument_of, last_word, spoiled_bytes, thing_at, words_before}
use Rattle.world_spec.specs.MadeLines.{last_after, turned}

last_behind : (a : ArgWord) (words : List ArgWord) → last_after (argument_of a) words ≡ last_word (a ∷ words)
last_behind a [] = refl
last_behind a (b ∷ words) = last_behind b words

pub last_is : (words : List ArgWord) → last_after argument.Gas words ≡ last_word words
last_is [] = refl
last_is (a ∷ words) = last_behind a words

one_less : (n : ℕ) → suc n - 1 ≡ n
one_less n = omega arith

pub before_is : (words : List ArgWord) → map argument_of (take (length words - 1) words) ≡ words_before words
before_is [] = refl
before_is (a ∷ []) = refl
before_is (a ∷ b ∷ words) =
    ap (λ n. map argument_of (take n (a ∷ b ∷ words))) (one_less (suc (length words)))
    ∙ ap (λ n. argument_of a ∷ map argument_of (take n (b ∷ words))) (sym (one_less (length words)))
    ∙ ap (λ xs. argument_of a ∷ xs) (before_is (b ∷ words))

pub first_turned : (bytes : List ℕ) (d : ℕ) → 0 < length bytes → slice_set bytes 0 (turned (slice_index_or bytes 0 d)) ≡ spoiled_bytes bytes
first_turned [] d h = absurd (omega arith)
first_turned (b ∷ bytes) d h = refl

-- the id of a thing that was found, and zeros if none was
pub at_thing : (o : Option Thing) (id : ObjectId) → Some id ≡ option_map (λ (t : Thing). t.id) o → id ≡ thing_at o
at_thing None id h = absurd (cc)
at_thing (Some t) id h = cc

pub at_nothing : (o : Option Thing) → None ≡ option_map (λ (t : Thing). t.id) o → thing_at None ≡ thing_at o
at_nothing None h = refl
at_nothing (Some t) h = absurd (cc)
