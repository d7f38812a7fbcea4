use Rattle.std.proofs.Common.{◌∙◌, ◌++◌, map, List, ap}
use Rattle.protocol_spec.specs.Member.Rounds.{wants_of}
use Rattle.version_store.specs.Stores.{held_in}
use Rattle.exec_plan.specs.declared.link.Link.{Link}
use Rattle.exec_plan.specs.Drafts.{all_given}
use Rattle.exec_plan.specs.Tasks.{edge_of}
use Rattle.exec_plan.proofs.LaidOut.{drafted_of}
use Rattle.exec_plan.proofs.drafting.Draft.add.Goals as goal

pub returns : goal.returns
returns c =
    drafted_of (held_in c.args.store.now) (wants_of c.args.admission.now.admission c.args.held.now) c.args.self.now c.args.held.now
    c.self.inside.numbers.keys c.insert.new.self.keys c.self.inside.tasks.items c.give_all.new.tasks.items c.push.new.self.items c.bare.result
    c.self.inside.edges c.add_edges.new.edges c.in_ok-wants.field-0.wants c.in_ok-wants.field-0.links
    c.self.view_is c.in_ok-wants.ensures.wants c.in_ok-wants.ensures.links
    (c.in_ok-give_all.ensures ∙ ap (all_given c.self.inside.tasks.items) c.as_slice.ensures.value)
    (c.in_ok-add_edges.ensures ∙ ap (λ (ls : List Link). c.self.inside.edges ++ map edge_of ls) c.as_slice-2.ensures.value)
    c.bare.ensures c.in_ok-push.ensures.items c.in_ok-insert.ensures.keys
