-- The set-up of a schedule opens with objects of different ids.
use Rattle.std.proofs.Common.{inl, inr, refl, sym, subst, ◌∙◌}
use Rattle.std.specs.Prelude.{◌≡◌, Bool, true, false, cond, List, [], ◌∷◌, ◌++◌, map, fold}
use Rattle.std.specs.List.{list_any}
use Rattle.chain_types.specs.declared.objects.ObjectId.{ObjectId}
use Rattle.chain_types.specs.declared.objects.Object.{Object}
use Rattle.chain_types.specs.Equal.{id_eq}
use Rattle.schedule_text.specs.declared.words.Setup.{Setup}
use Rattle.protocol_spec.proofs.Equality.{id_self}
use Rattle.protocol_spec.proofs.ListLemmas.{has_mapped}
use Rattle.protocol_spec.specs.Chain.Words.{Has, repeats}
use Rattle.world_spec.specs.Setting.{Trust, objects_from, with_new, setting_of}
use Rattle.block_law.proofs.Steps.{map-append}
use Rattle.block_law.proofs.Live.{has-any}
use Rattle.block_law.specs.Orderly.{id_of, AreApart}
use Rattle.safety_law.proofs.Ordered.{repeats-append}

one-more : (objects : List Object) (o : Object) → AreApart objects → list_any (λ (p : Object). id_eq p.id o.id) objects ≡ false → AreApart (objects ++ o ∷ [])
one-more objects o apart new = subst (λ (ids : List ObjectId). repeats id_eq ids ≡ false) (sym (map-append id_of objects (o ∷ []))) (repeats-append (map id_of objects) (o.id ∷ []) apart refl other)
  where
    other : (x y : ObjectId) → Has (map id_of objects) x → Has (o.id ∷ []) y → x ≡ y → ⊥
    other x y h (inr k) e = k
    other x y h (inl q) e =
        let p = has_mapped id_of objects x h in
        let there = has-any (λ (z : Object). id_eq z.id o.id) objects p.0 p.1 (subst (λ (i : ObjectId). id_eq p.0.id i ≡ true) (p.2 ∙ e ∙ sym q) (id_self p.0.id)) in
        cc

with-apart : (objects : List Object) (o : Object) → AreApart objects → AreApart (with_new objects o)
with-apart objects o apart = go (list_any (λ (p : Object). id_eq p.id o.id) objects) refl
  where
    go : (b : Bool) → list_any (λ (p : Object). id_eq p.id o.id) objects ≡ b → AreApart (cond b objects (objects ++ o ∷ []))
    go true e = apart
    go false e = one-more objects o apart e

all-apart : (os objects : List Object) → AreApart objects → AreApart (fold with_new objects os)
all-apart [] objects apart = apart
all-apart (o ∷ os) objects apart = all-apart os (with_new objects o) (with-apart objects o apart)

pub set-up-apart : (trust : Trust) (lines : List Setup) → AreApart (setting_of trust lines).opening
unfolding setting_of
set-up-apart trust lines = all-apart (objects_from 0 lines) [] refl
