use Rattle.std.proofs.Common.{◌∙◌, [], ap}
use Rattle.version_assign.specs.Changes.{Renews}
use Rattle.epoch_turn.specs.Openings.{changes_after}
use Rattle.epoch_turn.proofs.Renewing.{renewed}
use Rattle.epoch_turn.proofs.opening.renew.Goals as goal
use Rattle.protocol_spec.proofs.Truth.{on_ok_then}

pub returns-clause-opens : goal.returns-clause-opens
returns-clause-opens c =
    let s = c.args.store.now in
    let changes = c.as_slice-2.result.now in
    on_ok_then c.renew.result (Renews c.args.admission.now c.renew.new.self changes) _
    (λ by. renewed s c.args.admission.now c.renew.new.self c.in_ok-ids.ids changes c.requires c.in_ok-ids.ensures
    (c.as_slice-2.ensures.value ∙ c.in_ok-changes.ensures ∙ ap (changes_after s []) c.as_slice.ensures.value) by)
    c.renew.ensures.ok
