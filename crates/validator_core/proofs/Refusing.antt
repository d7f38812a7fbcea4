-- What a check of the refusals says of the first that comes.
use Rattle.std.proofs.Common.{◌≡◌, ap, refl}
use Rattle.std.specs.Prelude.{Option, Some, None, Result, Ok, Err}
use Rattle.protocol_spec.specs.Chain.Words.{unless_refused}

abbrev pub stop : {E : Type 0} → E → Result (Unit {0}) E
stop refusal = Err refusal

abbrev pub free : {E : Type 0} → Result (Unit {0}) E
free = Ok tt

pub stopped_by : {E : Type 0} (o : Option E) (refusal : E) → stop refusal ≡ unless_refused o tt → o ≡ Some refusal
stopped_by None refusal e = absurd (cc)
stopped_by {E} (Some other) refusal e = ap (λ (x : E). Some x) (same other e)
  where
    same : (x : E) → stop refusal ≡ Err x → x ≡ refusal
    same x e = cc

pub none_stops : {E : Type 0} (o : Option E) → free ≡ unless_refused o tt → o ≡ None
none_stops None e = refl
none_stops (Some refusal) e = absurd (cc)
