-- Objects that contracts see as themselves.
use Rattle.std.proofs.Common.{◌≡◌, List, [], ◌∷◌, map, refl, ap}
use Rattle.chain_types.specs.declared.objects.Object.{Object}

pub seen_all : (objects : List Object) → map (λ (o : Object). o) objects ≡ objects
seen_all [] = refl
seen_all (o ∷ os) = ap (λ more. o ∷ more) (seen_all os)
