use Rattle.std.proofs.Common.{refl, inl, subst, sym, arith, length}
use Rattle.disk_log.specs.Log.{IsInside, Rows}
use Rattle.disk_log.proofs.Listing.{inside-none}
use Rattle.disk_log.proofs.Walking.{told-begins}
use Rattle.disk_log.proofs.walk.walk.Goals as goal

pub loop-next-init : goal.loop-next-init
loop-next-init g c = record {
  gate = inl refl;
  within = omega arith;
  inside = subst (λ (r : Rows). IsInside 0 r) (sym c.requires) (inside-none (length c.args.index.now));
  walked = told-begins _ c.args.index.now c.requires;
  width = refl;
  history = refl;
  extent = refl;
  later = omega arith;
}
