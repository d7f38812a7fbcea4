use Rattle.std.proofs.Common.{◌∙◌, List, ap}
use Rattle.std.specs.Prelude.{option_map, slice_get}
use Rattle.protocol_spec.specs.declared.answers.Held.{Held}
use Rattle.epoch_turn.specs.Dues.{front_length, is_ordered}
use Rattle.epoch_turn.proofs.Fronts.{found_first}
use Rattle.epoch_turn.proofs.ordered.first_unordered.Goals as goal

pub returns : goal.returns
returns c =
    c.digest_at.ensures
    ∙ ap (λ (hs : List Held). option_map (λ (h : Held). h.digest) (slice_get hs c.front_ordered.result)) c.held_from-rest.ensures
    ∙ found_first c.args.ordered c.front_ordered.result c.args.admission.now.admission c.args.held.now c.requires (c.front_ordered.ensures.value ∙ ap (front_length (is_ordered c.args.admission.now.admission)) c.held_from-rest.ensures)
