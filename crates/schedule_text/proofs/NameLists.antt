-- Names that are kept as values of another type, read by f.
use Rattle.std.proofs.Common.{◌≡◌, ℕ, Bool, false, ◌||◌, List, [], ◌∷◌, ◌++◌, map, if◌then◌else◌, refl, ap, sym, ◌∙◌}
use Rattle.std.proofs.lemmas.List.{map_push}
use Rattle.std.specs.List.{list_any}
use Rattle.std.specs.Str.{bytes_eq}
use Rattle.schedule_text.specs.Known.{is_among}

pub list_any-map : {K X : Type 0} (f : K → X) (test : X → Bool) (ks : List K) → list_any test (map f ks) ≡ list_any (λ k. test (f k)) ks
list_any-map f test [] = refl
list_any-map f test (k ∷ ks) = ap (λ b. test (f k) || b) (list_any-map f test ks)

-- a name that is not among them goes last
pub map-added : {K : Type 0} (f : K → List ℕ) (ks new : List K) (k : K) (name : List ℕ) → f k ≡ name → is_among (map f ks) name ≡ false → new ≡ (if list_any (λ x. bytes_eq (f k) (f x)) ks then ks else ks ++ k ∷ []) → map f new ≡ map f ks ++ name ∷ []
map-added f ks new k name is absent added =
    let none : list_any (λ x. bytes_eq (f k) (f x)) ks ≡ false = sym (list_any-map f (bytes_eq (f k)) ks) ∙ ap (λ n. is_among (map f ks) n) is ∙ absent in
    ap (map f) (added ∙ ap (λ b. if b then ks else ks ++ k ∷ []) none) ∙ map_push f ks k ∙ ap (λ n. map f ks ++ n ∷ []) is
