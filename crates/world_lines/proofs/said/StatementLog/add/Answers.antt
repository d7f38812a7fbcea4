use Rattle.std.proofs.Common.{◌∙◌, ◌++◌, ◌∷◌, [], ap, length}
use Rattle.world_lines.proofs.Books.{said_more}
use Rattle.world_lines.proofs.said.StatementLog.add.Goals as goal

pub invariant_of-self-2 : goal.invariant_of-self-2
invariant_of-self-2 c =
    said_more c.self.inside.rows.items c.self.inside.places c.args.member c.args.statement c.args.seal
    c.self.invariant c.in_ok-note.ensures.ok (ap length (c.as_slice-place.ensures.value ∙ c.in_ok-reserve.ensures.items))
    (c.push_in_room.ensures ∙ ap (λ xs. xs ++ record { member = c.args.member; statement = c.args.statement; seal = c.args.seal } ∷ []) c.in_ok-reserve.ensures.items)
