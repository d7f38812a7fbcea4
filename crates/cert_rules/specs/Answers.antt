-- How the result of a check in code relates to the definition's refusal.
use Rattle.std.specs.Prelude.{◌≡◌, Option, Some, None, Result, Ok, Err}
use Rattle.chain_types.specs.declared.refusals.CertRefusal.{CertRefusal}
use Rattle.chain_types.specs.declared.refusals.CertRefusal.TheVariants as refused

-- Ok exactly if the definition refuses nothing, else its refusal; if memory was refused nothing is said
abbrev pub Checks : {X : Type 0} → Result X CertRefusal → Option CertRefusal → Type 0
Checks (Ok x) refusal = refusal ≡ None
Checks (Err (refused.Shape fault)) refusal = refusal ≡ Some (refused.Shape fault)
Checks (Err refused.Order) refusal = refusal ≡ Some refused.Order
Checks (Err (refused.ShortStake weight total)) refusal = refusal ≡ Some (refused.ShortStake weight total)
Checks (Err (refused.BadSeal member)) refusal = refusal ≡ Some (refused.BadSeal member)
Checks (Err refused.OutOfMemory) refusal = Unit {0}
