use Rattle.std.proofs.Common.{◌∙◌, ap, sym}
use Rattle.chain_messages.specs.declared.messages.Entry.{Entry}
use Rattle.chain_messages.specs.Messages as messages
use Rattle.world_lines.specs.Ends.{end_read}
use Rattle.world_lines.proofs.EndTexts.{no_end_in_cert}
use Rattle.world_lines.proofs.Ordering.{orders_keepable}
use Rattle.world_lines.proofs.order.ConsensusLog.push_cert.Goals as goal

pub push_row-requires-clause-end : goal.push_row-requires-clause-end
push_row-requires-clause-end c =
    sym (ap (end_read c.args.self.now.epoch) (c.in_ok-row.ensures.spelled.spelled ∙ ap (λ (e : Entry). messages.entry.spell e) c.in_ok-row.ensures.entry) ∙ no_end_in_cert c.args.self.now.epoch c.args.cert.now)

pub returns-in_err-row-clause-keepable : goal.returns-in_err-row-clause-keepable
returns-in_err-row-clause-keepable c = orders_keepable c.self.inside.past c.self.inside.«open» c.args.self.now c.self.view_is c.self.invariant.0 c.self.invariant.1
