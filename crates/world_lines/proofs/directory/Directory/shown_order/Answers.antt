use Rattle.std.proofs.Common.{◌∙◌, ap, map}
use Rattle.chain_types.specs.declared.objects.Object.{Object}
use Rattle.world_lines.specs.declared.shown.Place.{Place}
use Rattle.world_lines.specs.Shown.{all_shown}
use Rattle.world_lines.proofs.ShownOrder.{in_order}
use Rattle.world_lines.proofs.directory.Directory.shown_order.Goals as goal

pub returns : goal.returns
returns c =
    c.from_vec.ensures ∙ c.in_ok-order.ensures ∙ ap (map (λ (e : Place × Object). e.1)) (c.in_ok-show_all.ensures ∙ ap (λ es. all_shown c.args.self.now es c.args.objects.now) c.new-shown.ensures.empty)
    ∙ in_order c.args.self.now c.args.objects.now
