use Rattle.std.proofs.Common.{◌≡◌, ◌∙◌, ℕ, Option, Some, None, sym, ap}
use Rattle.std.specs.Prelude.{option_map}
use Rattle.tx_check.specs.Answers.{number_of_fault}
use Rattle.tx_check.specs.declared.fault.ShapeFault.{ShapeFault}
use Rattle.tx_check.proofs.Least.{in_lists, in_commands, valid_short}
use Rattle.tx_check.proofs.shape.check_shape.Goals as goal
use Rattle.protocol_spec.proofs.Checked.{few_inputs}

none_said : {said : Option ShapeFault} {fault : Option ℕ} → said ≡ None → option_map number_of_fault said ≡ fault → fault ≡ None
none_said is e = sym e ∙ ap (option_map number_of_fault) is

some_said : {said : Option ShapeFault} {f : ShapeFault} {number : ℕ} {fault : Option ℕ} → said ≡ Some f → option_map number_of_fault said ≡ fault → number ≡ number_of_fault f → fault ≡ Some number
some_said is e n = sym e ∙ ap (option_map number_of_fault) is ∙ ap (λ (k : ℕ). Some k) (sym n)

pub returns-in-Some-clause-fault : goal.returns-in-Some-clause-fault
returns-in-Some-clause-fault c = in_lists c.args.tx.now c.number.result (some_said c.in-Some.is c.in_ok-fault.ensures c.number.ensures)

pub returns-in-Some-command_fault-clause-fault : goal.returns-in-Some-command_fault-clause-fault
returns-in-Some-command_fault-clause-fault c =
    in_commands c.args.tx.now (Some c.number-in-Some-command_fault.result) (none_said c.in_default.is c.in_ok-fault.ensures) (some_said c.in-Some-command_fault.is c.command_fault.ensures c.number-in-Some-command_fault.ensures)

pub returns-in-None-clause-fault : goal.returns-in-None-clause-fault
returns-in-None-clause-fault c = in_commands c.args.tx.now None (none_said c.in_default.is c.in_ok-fault.ensures) (none_said c.in-None.is c.command_fault.ensures)

pub returns-in-None-clause-short : goal.returns-in-None-clause-short
returns-in-None-clause-short c =
    valid_short c.args.tx.now (in_commands c.args.tx.now None (none_said c.in_default.is c.in_ok-fault.ensures) (none_said c.in-None.is c.command_fault.ensures))

pub returns-in-None-clause-few : goal.returns-in-None-clause-few
returns-in-None-clause-few c =
    few_inputs c.args.tx.now (in_commands c.args.tx.now None (none_said c.in_default.is c.in_ok-fault.ensures) (none_said c.in-None.is c.command_fault.ensures))
