-- Lists that are collected one item after the other.
use Rattle.std.specs.Prelude.{List, [], ◌∷◌, ◌++◌, fold}
use Rattle.protocol_spec.specs.Chain.Words.{IsFront}

-- this list, followed by what `f` gives for each item
abbrev pub each_pushed : {A B : Type 0} → (A → B) → List B → List A → List B
each_pushed f done xs = fold (λ ys x. ys ++ f x ∷ []) done xs

-- a list that was to grow from `old` to `whole` and may have stopped on the way: `old` is a prefix of it, and it is a
-- prefix of `whole`
pub record GrowsToward {A : Type 0} (old new whole : List A) : Type 0 where
  pub kept : IsFront old new
  pub ahead : IsFront new whole
