use Rattle.std.proofs.Common.{refl}
use Rattle.schedule_text.proofs.Agree.{txs_after}
use Rattle.schedule_text.proofs.reading.Reading.add_event.Goals as goal

pub returns-clause-agrees : goal.returns-clause-agrees
returns-clause-agrees c =
    let is = c.in_default.ensures.after in
    let pushed = rw is at c.in_ok-push.ensures.ok in
    rw is
    (record {
      roles = c.requires.roles;
      objects = c.requires.objects;
      txs = txs_after _ _ _ _ _ c.requires.txs refl pushed;
      currencies = c.requires.currencies;
      limited = c.requires.limited;
    })
