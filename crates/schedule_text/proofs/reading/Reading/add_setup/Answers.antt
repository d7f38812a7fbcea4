use Rattle.std.proofs.Common.{◌||◌, ap, sym, ◌∙◌}
use Rattle.schedule_text.proofs.Agree.{object_is_new, currency_is_new, roles_after, objects_after, currencies_after, limit_after}
use Rattle.schedule_text.proofs.reading.Reading.add_setup.Goals as goal

pub add_object_name-requires : goal.add_object_name-requires
add_object_name-requires c =
    rw c.requires.objects
    (object_is_new c.args.self.now.schedule c.args.setup c.in_ok-setup_check.field-0 (sym c.setup_check.ensures ∙ c.in_ok-setup_check.was))

pub add_currency-requires : goal.add_currency-requires
add_currency-requires c =
    rw c.requires.currencies
    (currency_is_new c.args.self.now.schedule c.args.setup c.in_ok-setup_check.field-0 (sym c.setup_check.ensures ∙ c.in_ok-setup_check.was))

pub returns-clause-agrees : goal.returns-clause-agrees
returns-clause-agrees c = record {
  roles = roles_after _ _ _ _ _ c.requires.roles c.in_ok-add_role.ensures c.in_ok-push.ensures.ok;
  objects = objects_after _ _ _ _ _ c.requires.objects c.in_ok-add_object_name.ensures c.in_ok-push.ensures.ok;
  txs = c.requires.txs;
  currencies = currencies_after _ _ _ _ _ c.requires.currencies c.in_ok-add_currency.ensures c.in_ok-push.ensures.ok;
  limited = limit_after _ _ _ _ _ c.requires.limited (ap (λ b. c.args.self.now.limited || b) c.is_limit.ensures) c.in_ok-push.ensures.ok;
}
