-- One more than the greatest version is below the limit if the greatest version is below one less.
use Rattle.std.proofs.Common.{◌≡◌, ℕ, suc, Bool, true, false, List, refl, sym, subst, ◌∙◌, arith}
use Rattle.std.specs.Prelude.{nat_lt}
use Rattle.std.proofs.lemmas.Bool.{ltb-true, ltb-false, lt-ltb, le-ltb}
use Rattle.chain_types.specs.declared.objects.Object.{Object}
use Rattle.chain_types.specs.Digests.{lamport_version}
use Rattle.protocol_spec.specs.Chain.Keys.{version_limit, version_of}
use Rattle.ptb_run.specs.Versions.{greatest_version}
use Rattle.ptb_run.proofs.fitting.is_low.Goals as goal

below : (g : ℕ) → nat_lt g 4611686018427387903 ≡ nat_lt (suc g) version_limit
below g = go (nat_lt g 4611686018427387903) refl
  where
    go : (b : Bool) → nat_lt g 4611686018427387903 ≡ b → nat_lt g 4611686018427387903 ≡ nat_lt (suc g) version_limit
    go true e = let low = ltb-true g 4611686018427387903 e in e ∙ sym (lt-ltb (suc g) version_limit (omega arith))
    go false e = let high = ltb-false g 4611686018427387903 e in e ∙ sym (le-ltb (suc g) version_limit (omega arith))

of_objects : (g : ℕ) (objects : List Object) → g ≡ greatest_version objects → nat_lt g 4611686018427387903 ≡ nat_lt (version_of objects) version_limit
unfolding lamport_version
of_objects g objects e = subst (λ (n : ℕ). nat_lt n 4611686018427387903 ≡ nat_lt (version_of objects) version_limit) (sym e) (below (greatest_version objects))

pub returns : goal.returns
returns c = of_objects c.greatest_version.result c.args.objects.now c.greatest_version.ensures
