use Rattle.std.proofs.Common.{◌≡◌, [], subst, sym, arith}
use Rattle.std.proofs.lemmas.List.Elements.{All-nil}
use Rattle.wire_bcs.specs.Digests.{digest}
use Rattle.wire_bcs.specs.Shapes.{seq}
use Rattle.chain_types.specs.declared.transactions.Transaction.{Transaction}
use Rattle.chain_types.specs.Objects.{object_id, address, object_ref}
use Rattle.chain_types.specs.Transactions.{transaction, input, command}
use Rattle.rules_tests.proofs.clients.certified.Goals as goal

bare : (t : Transaction) → t.inputs ≡ [] → t.commands ≡ [] → transaction.short t
unfolding transaction object_ref object_id address digest
bare t none nothing = (tt, (tt, ((tt, (tt, tt)), (tt, (subst (seq input).short (sym none) (omega arith, All-nil input.short), subst (seq command).short (sym nothing) (omega arith, All-nil command.short))))))

pub returns : goal.returns
returns c = bare _ c.new.ensures c.new-2.ensures
