-- Lists that are collected one item after the other are those of what each item gives.
use Rattle.std.proofs.Common.{◌≡◌, ◌∙◌, ap, sym, refl, List, [], ◌∷◌, ◌++◌, map, append_assoc, append-nil}
use Rattle.world_lines.specs.Pushed.{each_pushed}

pub all_pushed : {A B : Type 0} → (f : A → B) (ys : List B) (xs : List A) → each_pushed f ys xs ≡ ys ++ map f xs
all_pushed f ys [] = sym (append-nil ys)
all_pushed f ys (x ∷ xs) = all_pushed f (ys ++ f x ∷ []) xs ∙ append_assoc ys (f x ∷ []) (map f xs)

-- from nothing
pub from_none : {A B : Type 0} → (f : A → B) (xs : List A) → each_pushed f [] xs ≡ map f xs
from_none f xs = all_pushed f [] xs

-- three lists after a first item
pub three_behind : {A B C D : Type 0} → (f : A → D) (g : B → D) (h : C → D) (d : D) (xs : List A) (ys : List B) (zs : List C)
    → each_pushed h (each_pushed g (each_pushed f (d ∷ []) xs) ys) zs ≡ d ∷ (map f xs ++ (map g ys ++ map h zs))
three_behind f g h d xs ys zs =
    all_pushed h (each_pushed g (each_pushed f (d ∷ []) xs) ys) zs
    ∙ ap (λ ls. ls ++ map h zs) (all_pushed g (each_pushed f (d ∷ []) xs) ys ∙ ap (λ ls. ls ++ map g ys) (all_pushed f (d ∷ []) xs))
    ∙ append_assoc (d ∷ map f xs) (map g ys) (map h zs)

pub one_behind : {A D : Type 0} → (f : A → D) (d : D) (xs : List A) → each_pushed f (d ∷ []) xs ≡ d ∷ map f xs
one_behind f d xs = all_pushed f (d ∷ []) xs

pub same_items : {A : Type 0} → (xs : List A) → map (λ (x : A). x) xs ≡ xs
same_items [] = refl
same_items (x ∷ xs) = ap (λ ys. x ∷ ys) (same_items xs)
