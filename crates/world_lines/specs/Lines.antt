-- The words of a `tx` line, read through the borrows of the source's `TxLine`.
use Rattle.world_spec.specs.Making.{TxLine}
use Rattle.world_lines.specs.declared.line.TxLine.{TxLine as Lent}

abbrev pub line_of : Lent → TxLine
line_of l = record {
  name = l.name.now;
  sender = l.sender.now;
  spoiled = l.spoiled;
  epoch = l.epoch;
  gas = l.gas.now;
  budget = l.budget;
  inputs = l.inputs.now;
  commands = l.commands.now;
}
