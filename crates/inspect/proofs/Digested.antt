-- The lines of digests, one after the other, and whose they are.
use Rattle.std.proofs.Common.{◌≡◌, inl, inr, ◌∙◌, ◌+◌, ◌<◌, ◌≤◌, ℕ, zero, suc, List, [], ◌∷◌, ◌++◌, length, take, Option, Some, None, refl, sym, ap, arith, append_assoc, append-nil}
use Rattle.std.specs.Prelude.{codes, option_map, slice_get}
use Rattle.std.specs.List.{flat_map}
use Rattle.std.proofs.lemmas.Bool.{cases_lt}
use Rattle.digest_core.specs.declared.Digest.{Digest}
use Rattle.world_spec.specs.Seats.{Seated}
use Rattle.world_spec.specs.Posts.{Post}
use Rattle.world_core.specs.Crews.{honest_at}
use Rattle.inspect.specs.Digests.{NoneStands, with_digest}
use Rattle.inspect.specs.Standing.{states_in}
use Rattle.protocol_spec.proofs.Truth.{some_same}
use Rattle.committee_core.proofs.Agreeing.{clash}

-- ---- a line

-- words after a text and then the digest, or the text and then the line
pub line_behind : (text words : List ℕ) (d : Digest) → with_digest (text ++ words) d ≡ text ++ with_digest words d
line_behind text words d = simp (append_assoc) refl

-- ---- lines

more_lines : {A : Type 0} (f : A → List ℕ) (xs : List A) (n : ℕ) (x : A) → slice_get xs n ≡ Some x → flat_map f (take n xs) ++ f x ≡ flat_map f (take (suc n) xs)
more_lines f [] n x e = absurd (clash e)
more_lines f (y ∷ xs) zero x e = ap f (sym (some_same y x e)) ∙ sym (append-nil (f y))
more_lines f (y ∷ xs) (suc n) x e = append_assoc (f y) (flat_map f (take n xs)) (f x) ∙ ap (λ l. f y ++ l) (more_lines f xs n x e)

pub tx_words : (old now text name : List ℕ) (d : Digest) → text ≡ old ++ codes "tx " ++ name → now ≡ with_digest text d → now ≡ old ++ with_digest (codes "tx " ++ name) d
tx_words old now text name d is put = put ∙ (ap (λ t. with_digest t d) (is ∙ append_assoc old (codes "tx ") name) ∙ line_behind old (codes "tx " ++ name) d)

pub checkpoint_words : (old now text name : List ℕ) (d : Digest) → text ≡ old ++ codes "checkpoint " ++ name → now ≡ with_digest text d → now ≡ old ++ with_digest (codes "checkpoint " ++ name) d
checkpoint_words old now text name d is put = put ∙ (ap (λ t. with_digest t d) (is ∙ append_assoc old (codes "checkpoint ") name) ∙ line_behind old (codes "checkpoint " ++ name) d)

pub object_words : (old now text name version : List ℕ) (d : Digest) → text ≡ old ++ codes "object " ++ name ++ codes " " ++ version → now ≡ with_digest text d → now ≡ old ++ with_digest (codes "object " ++ name ++ codes " " ++ version) d
object_words old now text name version d is put = put ∙ (ap (λ t. with_digest t d) (is ∙ simp (append_assoc) refl) ∙ line_behind old (codes "object " ++ name ++ codes " " ++ version) d)

-- one more line after those so far
pub one_more : {A : Type 0} (f : A → List ℕ) (xs : List A) (n : ℕ) (x : A) (old text now : List ℕ) → slice_get xs n ≡ Some x → text ≡ old ++ flat_map f (take n xs) → now ≡ text ++ f x
    → now ≡ old ++ flat_map f (take (n + 1) xs)
one_more f xs n x old text now at so_far is =
    is ∙ ap (λ (t : List ℕ). t ++ f x) so_far ∙ append_assoc old (flat_map f (take n xs)) (f x)
    ∙ ap (λ (l : List ℕ). old ++ l) (more_lines f xs n x at ∙ ap (λ (k : ℕ). flat_map f (take k xs)) (let k : suc n ≡ n + 1 = omega arith in k))

-- ---- members

past : (posts : List Post) (m : ℕ) → length posts ≤ m → slice_get posts m ≡ None
past [] m most = refl
past (p ∷ posts) zero most = absurd (omega (arith, most))
past (p ∷ posts) (suc m) most = past posts m (omega (arith, most))

-- no member stands below the end, and there is none from there on
pub none_stands : (posts : List Post) (end : ℕ) → ((i : ℕ) → i < end → states_in posts i ≡ None) → length posts ≤ end → NoneStands (states_in posts)
none_stands posts end before most i = elim (cases_lt i end) [
  | inl low ↦ before i low
  | inr high ↦ ap (λ (p : Option Post). option_map (λ (s : Seated). s.state) (honest_at p)) (past posts i (omega (arith, most, high)))
]
