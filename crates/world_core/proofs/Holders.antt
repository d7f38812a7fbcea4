-- The digest that the first holder of a version has.
use Rattle.std.proofs.Common.{◌≡◌, List, [], ◌∷◌, Option, Some, None, refl, ap, ◌∙◌}
use Rattle.std.specs.Prelude.{if◌then◌else◌}
use Rattle.digest_core.specs.declared.Digest.{Digest}
use Rattle.chain_types.specs.declared.objects.ObjectKey.{ObjectKey}
use Rattle.protocol_spec.specs.Chain.Words.{first_some}
use Rattle.world_spec.specs.Posts.{Post}
use Rattle.world_core.specs.Steps.{held_by, held_in}

none_first : (o : Option Digest) → first_some (None ∷ o ∷ []) ≡ o
none_first None = refl
none_first (Some d) = refl

pub held_next : (p : Post) (posts : List Post) (key : ObjectKey) → (if p.honest then held_by key p.standing else None) ≡ None → held_in (p ∷ posts) key ≡ held_in posts key
held_next p posts key e = ap (λ (o : Option Digest). first_some (o ∷ held_in posts key ∷ [])) e ∙ none_first (held_in posts key)

pub held_here : (p : Post) (posts : List Post) (key : ObjectKey) (d : Digest) → (if p.honest then held_by key p.standing else None) ≡ Some d → held_in (p ∷ posts) key ≡ Some d
held_here p posts key d e = ap (λ (o : Option Digest). first_some (o ∷ held_in posts key ∷ [])) e
