-- The words for objects and references: `NAME` or `T.N`, `OBJ@V` and `OBJ@V!`.
-- `is_..` says whether a word has the form, with any digits taken as a number; `.._of` is its value,
-- or none if a number is bad. Source: this profile.
use Rattle.std.specs.Prelude.{ℕ, Bool, false, ◌&&◌, List, Option, Some, None, option_map}
use Rattle.schedule_text.specs.declared.words.ObjWord.{ObjWord}
use Rattle.schedule_text.specs.declared.words.ObjWord.TheVariants as object
use Rattle.schedule_text.specs.declared.words.RefWord.{RefWord}
use Rattle.schedule_text.specs.Bytes.{is_name, is_digits, number_of, cut_at, has_mark, without_mark, with_both}

-- whether a word has the form `NAME` or `T.N`; the second argument is the word cut at its `.`, if it has one
abbrev pub object_form : List ℕ → Option (List ℕ × List ℕ) → Bool
object_form word None = is_name word
object_form word (Some p) = is_name p.0 && is_digits p.1

abbrev pub object_value : List ℕ → Option (List ℕ × List ℕ) → Option ObjWord
object_value word None = Some (object.Setup word)
object_value word (Some p) = option_map (λ n. object.Created p.0 n) (number_of p.1)

unfoldable pub is_object : List ℕ → Bool
is_object word = object_form word (cut_at 46 word)

unfoldable pub object_of : List ℕ → Option ObjWord
object_of word = object_value word (cut_at 46 word)

-- whether a word, cut at its `@`, has the form `OBJ@V` or `OBJ@V!`
abbrev pub ref_form : Option (List ℕ × List ℕ) → Bool
ref_form None = false
ref_form (Some p) = is_object p.0 && is_digits (without_mark 33 p.1)

abbrev pub ref_value : Option (List ℕ × List ℕ) → Option RefWord
ref_value None = None
ref_value (Some p) =
    with_both (object_of p.0) (number_of (without_mark 33 p.1))
    (λ o v. record { object = o; version = v; spoiled = has_mark 33 p.1 })

unfoldable pub is_ref : List ℕ → Bool
is_ref word = ref_form (cut_at 64 word)

unfoldable pub ref_of : List ℕ → Option RefWord
ref_of word = ref_value (cut_at 64 word)

-- whether a word, cut at its `@`, has the form `OBJ@V` with no `!` at the end
abbrev pub shared_form : Option (List ℕ × List ℕ) → Bool
shared_form None = false
shared_form (Some p) = is_object p.0 && is_digits p.1

unfoldable pub is_shared : List ℕ → Bool
is_shared word = shared_form (cut_at 64 word)
