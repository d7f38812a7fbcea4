use Rattle.schedule_text.proofs.NameLists.{map-added}
use Rattle.schedule_text.proofs.names.Names.add.Goals as goal

pub returns : goal.returns
returns c =
    rw (← c.self.view_is)
    (map-added (λ k. k.items) c.self.inside.set.keys c.insert.new.self.keys c.in_ok-from_slice.field-0 c.args.name.now c.in_ok-from_slice.ensures.items
    (rw (← c.self.view_is) at c.requires)
    c.in_ok-insert.ensures.keys)
