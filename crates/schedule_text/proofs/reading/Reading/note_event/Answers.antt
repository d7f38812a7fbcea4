use Rattle.std.proofs.Common.{sym, ◌∙◌}
use Rattle.schedule_text.proofs.Agree.{tx_is_new}
use Rattle.schedule_text.proofs.reading.Reading.note_event.Goals as goal

pub add_tx_name-requires : goal.add_tx_name-requires
add_tx_name-requires c =
    rw c.requires.txs
    (tx_is_new c.args.self.now.schedule c.args.event.now c.in_ok-event_check.field-0 (sym c.event_check.ensures ∙ c.in_ok-event_check.was))
