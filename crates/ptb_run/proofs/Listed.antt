-- What an execution writes is what its effects list.
use Rattle.std.proofs.Common.{◌≡◌, Result, Ok, Err, List, map, refl, ap, sym, ◌∙◌}
use Rattle.chain_types.specs.declared.objects.Object.{Object}
use Rattle.chain_types.specs.declared.transactions.Transaction.{Transaction}
use Rattle.chain_types.specs.Digests.{transaction_digest}
use Rattle.protocol_spec.specs.declared.pieces.Executed.{Executed}
use Rattle.protocol_spec.specs.Block.Block.{Block}
use Rattle.protocol_spec.specs.Block.Execution.{Failure, executed_by, execution, outcome, written_of}

pub lists_written : (t : Transaction) (objects : List Object) (x : Executed) → x ≡ execution t objects → x.effects.written ≡ map written_of x.objects
unfolding execution
lists_written t objects x is =
    ap (λ (y : Executed). y.effects.written) is ∙ by (outcome t (transaction_digest t) objects) ∙ sym (ap (λ (y : Executed). map written_of y.objects) is)
  where
    by : (r : Result Block Failure) → (executed_by t (transaction_digest t) objects r).effects.written ≡ map written_of (executed_by t (transaction_digest t) objects r).objects
    by (Ok b) = refl
    by (Err failure) = refl
