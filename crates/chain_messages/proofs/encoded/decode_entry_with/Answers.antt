use Rattle.std.proofs.Common.{arith}
use Rattle.wire_bcs.proofs.Decoding.{is_found_as, is_short_as}
use Rattle.chain_messages.specs.Messages.{entry}
use Rattle.chain_messages.proofs.encoded.decode_entry_with.Goals as goal

pub returns-clause-found : goal.returns-clause-found
returns-clause-found c = is_found_as (λ x. x.0) entry c.args.bytes.now c.whole_entry.result (λ i. omega (arith, c.type_inv.bytes i)) c.whole_entry.ensures.exact

pub returns-clause-short : goal.returns-clause-short
returns-clause-short c = is_short_as (λ x. x.0) entry c.args.bytes.now c.whole_entry.result (λ i. omega (arith, c.type_inv.bytes i)) c.whole_entry.ensures.exact
