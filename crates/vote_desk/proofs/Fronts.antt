-- Prefixes of one list, and histories that go on.
use Rattle.std.proofs.Common.{◌≡◌, ◌≤◌, Bool, true, false, cond, List, [], ◌∷◌, ◌++◌, length, refl, ap, sym, ◌∙◌, subst, arith, append_assoc, length-append}
use Rattle.std.specs.Prelude.{nat_lt}
use Rattle.std.proofs.lemmas.List.{append-nil}
use Rattle.std.proofs.lemmas.Bool.Decides.{nat_tests}
use Rattle.vote_desk.specs.Histories.{IsFront, IsHistory}
use Rattle.vote_desk.specs.Views.{longer, shorter}

module _ {A : Type 0} where
  pub front_self : (xs : List A) → IsFront xs xs
  front_self xs = ([], sym (append-nil xs))

  pub front_more : (xs ys zs : List A) → IsFront xs ys → IsFront xs (ys ++ zs)
  front_more xs ys zs p = (p.0 ++ zs, ap (λ w. w ++ zs) p.1 ∙ append_assoc xs p.0 zs)

  pub front_trans : (xs ys zs : List A) → IsFront xs ys → IsFront ys zs → IsFront xs zs
  front_trans xs ys zs p q = subst (IsFront xs) (sym q.1) (front_more xs ys q.0 p)

  pub front_length : (xs ys : List A) → IsFront xs ys → length xs ≤ length ys
  front_length xs ys p = omega (arith, ap length p.1, length-append xs p.0)

  -- of two prefixes of one list the shorter is a prefix of the longer
  pub front_shorter : (xs ys zs : List A) → IsFront xs zs → IsFront ys zs → length xs ≤ length ys → IsFront xs ys
  front_shorter [] ys zs p q le = (ys, refl)
  front_shorter (x ∷ xs) [] zs p q le = absurd (omega arith)
  front_shorter (x ∷ xs) (y ∷ ys) [] p q le = absurd (cc (p.1))
  front_shorter (x ∷ xs) (y ∷ ys) (z ∷ zs) p q le =
      let heads : x ≡ y = cc (p.1, q.1) in
      let rest = front_shorter xs ys zs (p.0, cc (p.1)) (q.0, cc (q.1)) (omega arith) in
      (rest.0, cc (heads, rest.1))

  -- the shorter of two prefixes is a prefix of the longer, which is a prefix too
  pub shorter_longer : (xs ys zs : List A) → IsFront xs zs → IsFront ys zs → IsFront (shorter xs ys) (longer xs ys) × IsFront (longer xs ys) zs
  shorter_longer xs ys zs p q = go (nat_lt (length xs) (length ys)) refl
    where
      go : (b : Bool) → nat_lt (length xs) (length ys) ≡ b → IsFront (cond b xs ys) (cond b ys xs) × IsFront (cond b ys xs) zs
      go true is = (front_shorter xs ys zs p q (grind (arith, nat_tests)), q)
      go false is = (front_shorter ys xs zs q p (grind (arith, nat_tests)), p)

  -- what is a prefix of the other, or is the longer one, is a prefix of the longer
  pub both_fronts : (xs ys : List A) → IsFront (shorter xs ys) (longer xs ys) → IsFront xs (longer xs ys) × IsFront ys (longer xs ys)
  both_fronts xs ys p = go (nat_lt (length xs) (length ys)) p
    where
      go : (b : Bool) → IsFront (cond b xs ys) (cond b ys xs) → IsFront xs (cond b ys xs) × IsFront ys (cond b ys xs)
      go true h = (h, front_self ys)
      go false h = (front_self xs, h)

  -- the longer of two lists is one of them
  pub longer_is : (P : List A → Type 0) (xs ys : List A) → P xs → P ys → P (longer xs ys)
  longer_is P xs ys p q = go (nat_lt (length xs) (length ys))
    where
      go : (b : Bool) → P (cond b ys xs)
      go true = q
      go false = p

  pub longer_length : (xs ys : List A) → (length xs ≤ length (longer xs ys)) × (length ys ≤ length (longer xs ys))
  longer_length xs ys = go (nat_lt (length xs) (length ys)) refl
    where
      go : (b : Bool) → nat_lt (length xs) (length ys) ≡ b → (length xs ≤ length (cond b ys xs)) × (length ys ≤ length (cond b ys xs))
      go true is = (grind (arith, nat_tests), omega arith)
      go false is = (omega arith, grind (arith, nat_tests))

  -- the last of two equal lists
  pub last_same : (xs : List A) (x y : A) → xs ++ x ∷ [] ≡ xs ++ y ∷ [] → x ≡ y
  last_same [] x y e = cc (e)
  last_same (z ∷ xs) x y e = last_same xs x y (cc (e))

-- one more call
pub history_push : {S E : Type 0} (step : S → E → S → Type 0) (from left after : S) (entries : List E) (entry : E) → IsHistory step from entries left → step left entry after → IsHistory step from (entries ++ entry ∷ []) after
history_push step from left after [] entry h made = (after, subst (λ s. step s entry after) h made, refl)
history_push step from left after (e ∷ es) entry h made = (h.0, h.1, history_push step h.0 left after es entry h.2 made)
