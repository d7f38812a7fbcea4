-- Lists that are collected one after the other.
use Rattle.std.proofs.Common.{◌≡◌, ◌∙◌, sym, List, [], ◌∷◌, ◌++◌, Option, Some, None, map, append_assoc, append-nil}
use Rattle.std.specs.Prelude.{filter_map}
use Rattle.std.specs.List.{cons_option}
use Rattle.std.proofs.lemmas.List.{map-append}
use Rattle.world_spec.specs.World.{Drawn}
use Rattle.world_spec.specs.Making.{drawn_list}
use Rattle.world_lines.specs.Gathered.{all_some, with_some}

pub map_push : {A B : Type 0} → (f : A → B) (xs : List A) (x : A) → map f (xs ++ x ∷ []) ≡ map f xs ++ f x ∷ []
map_push f xs x = map-append f xs (x ∷ [])

-- what the words say, after what is there
pub all_added : {A W : Type 0} → (says : W → Option A) (xs : List A) (words : List W) → all_some says xs words ≡ xs ++ filter_map says words
all_added says xs [] = sym (append-nil xs)
all_added {A} says xs (w ∷ ws) = by (says w) (λ ys. all_added says ys ws)
  where
    by : (o : Option A) → ((ys : List A) → all_some says ys ws ≡ ys ++ filter_map says ws) → all_some says (with_some xs o) ws ≡ xs ++ cons_option o (filter_map says ws)
    by None more = more xs
    by (Some x) more = more (xs ++ x ∷ []) ∙ append_assoc xs (x ∷ []) (filter_map says ws)

-- what words draw, after one drawn id that may be there
pub words_added : {W : Type 0} → (says : W → Option Drawn) (o : Option Drawn) (words : List W) → all_some says (with_some [] o) words ≡ drawn_list o ++ filter_map says words
words_added says None words = all_added says [] words
words_added says (Some d) words = all_added says (d ∷ []) words
