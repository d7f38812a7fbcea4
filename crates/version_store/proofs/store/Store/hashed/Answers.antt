use Rattle.std.proofs.Common.{None, Some, refl}
use Rattle.protocol_spec.specs.Member.Versions.{object_in}
use Rattle.version_store.specs.declared.maps.Kept.{Kept}
use Rattle.version_store.proofs.Based.{known_before, known_behind}
use Rattle.version_store.proofs.store.Store.hashed.Goals as goal

pub returns-in-Some : goal.returns-in-Some
returns-in-Some c = known_before c.self.invariant c.self.view_is object_in c.args.key.now c.in-Some.object.now c.in-Some.ensures

pub returns-in-Some-get : goal.returns-in-Some-get
returns-in-Some-get c =
    known_behind c.self.invariant c.self.view_is (λ (k : Kept). k.object) object_in (λ v. refl) c.args.key.now (Some c.in-Some-get.kept.now) c.in-None.ensures c.in-Some-get.ensures.value

pub returns-in-None-get : goal.returns-in-None-get
returns-in-None-get c = known_behind c.self.invariant c.self.view_is (λ (k : Kept). k.object) object_in (λ v. refl) c.args.key.now None c.in-None.ensures c.in-None-get.ensures.value
