-- The newest of some objects is the one that no other exceeds.
use Rattle.std.proofs.Common.{inl, inr, refl, ap, subst, sym, ◌∙◌, arith}
use Rattle.std.proofs.lemmas.Bool.{lt-ltb, le-ltb}
use Rattle.std.specs.Prelude.{◌≡◌, ◌⊎◌, ◌<◌, Bool, true, false, cond, nat_lt, List, [], ◌∷◌, fold, Option, Some, None}
use Rattle.chain_types.specs.declared.objects.Object.{Object}
use Rattle.protocol_spec.specs.Chain.Words.{Has}
use Rattle.protocol_spec.specs.Member.Versions.{newer}

-- lower, or the same
abbrev pub IsUpTo : Object → Object → Type 0
IsUpTo o p = (p.version < o.version) ⊎ (p ≡ o)

module _ (o : Object) where
  not-newer : (p : Object) → IsUpTo o p → newer (Some o) p ≡ Some o
  not-newer p (inl less) = subst (λ (b : Bool). cond b (Some p) (Some o) ≡ Some o) (sym (le-ltb o.version p.version (omega (arith, less)))) refl
  not-newer p (inr e) = subst (λ (q : Object). cond (nat_lt o.version q.version) (Some q) (Some o) ≡ Some o) (sym e) (go (nat_lt o.version o.version))
    where
      go : (b : Bool) → cond b (Some o) (Some o) ≡ Some o
      go true = refl
      go false = refl

  keeps : (ps : List Object) → ((p : Object) → Has ps p → IsUpTo o p) → fold newer (Some o) ps ≡ Some o
  keeps [] all = refl
  keeps (p ∷ ps) all = ap (λ (g : Option Object). fold newer g ps) (not-newer p (all p (inl refl))) ∙ keeps ps (λ q h. all q (inr h))

  -- a lower one gives way
  gives-way : (b : Object) → b.version < o.version → newer (Some b) o ≡ Some o
  gives-way b less = subst (λ (x : Bool). cond x (Some o) (Some b) ≡ Some o) (sym (lt-ltb b.version o.version less)) refl

  reaches : (ps : List Object) (b : Object) → b.version < o.version → Has ps o → ((p : Object) → Has ps p → IsUpTo o p) → fold newer (Some b) ps ≡ Some o
  reaches [] b less h all = absurd h
  reaches (p ∷ ps) b less (inl e) all = ap (λ (g : Option Object). fold newer g ps) (subst (λ (q : Object). newer (Some b) q ≡ Some o) (sym e) (gives-way b less)) ∙ keeps ps (λ q h. all q (inr h))
  reaches (p ∷ ps) b less (inr h) all = go (nat_lt b.version p.version) (all p (inl refl)) (λ c lower. reaches ps c lower h (λ q k. all q (inr k)))
    where
      go : (x : Bool) → IsUpTo o p → ((c : Object) → c.version < o.version → fold newer (Some c) ps ≡ Some o) → fold newer (cond x (Some p) (Some b)) ps ≡ Some o
      go false up rest = rest b less
      go true (inl lower) rest = rest p lower
      go true (inr e) rest = ap (λ (q : Object). fold newer (Some q) ps) e ∙ keeps ps (λ q k. all q (inr k))

  pub newest-is : (ps : List Object) → Has ps o → ((p : Object) → Has ps p → IsUpTo o p) → fold newer None ps ≡ Some o
  newest-is [] h all = absurd h
  newest-is (p ∷ ps) (inl e) all = ap (λ (q : Object). fold newer (Some q) ps) e ∙ keeps ps (λ q k. all q (inr k))
  newest-is (p ∷ ps) (inr h) all = go (all p (inl refl))
    where
      go : IsUpTo o p → fold newer (Some p) ps ≡ Some o
      go (inl lower) = reaches ps p lower h (λ q k. all q (inr k))
      go (inr e) = ap (λ (q : Object). fold newer (Some q) ps) e ∙ keeps ps (λ q k. all q (inr k))
