use Rattle.std.proofs.Common.{arith, sym}
use Rattle.chain_types.proofs.Spelled.{short_lists}
use Rattle.tx_check.proofs.Long.{long_lists}
use Rattle.tx_check.proofs.length.is_encoded_long.Goals as goal

pub returns-then-has_long_list : goal.returns-then-has_long_list
returns-then-has_long_list c = sym (long_lists c.args.tx.now (sym c.if-has_long_list.ensures))

pub encode_tx-requires : goal.encode_tx-requires
encode_tx-requires c = short_lists 131072 (omega arith) c.args.tx.now (sym c.if-has_long_list.ensures)
