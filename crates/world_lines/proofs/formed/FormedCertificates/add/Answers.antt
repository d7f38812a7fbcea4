use Rattle.std.proofs.Common.{◌∙◌, ◌++◌, ◌∷◌, [], ap, sym, ℕ, length, Vec, Global}
use Rattle.world_lines.proofs.Books.{formed_more}
use Rattle.world_lines.proofs.formed.FormedCertificates.add.Goals as goal

pub invariant_of-self-2 : goal.invariant_of-self-2
invariant_of-self-2 c =
    formed_more c.self.inside.rows.items c.self.inside.places.entries (record { name = c.of-kept.result; cert = c.args.cert }) c.in_ok-key.key
    c.self.invariant c.in_ok-note_name.ensures.ok (ap (λ (v : Vec ℕ Global). v.items) (sym c.of-kept.ensures)) (ap length (c.as_slice-place.ensures.value ∙ c.in_ok-reserve.ensures.items))
    (c.push_in_room.ensures ∙ ap (λ xs. xs ++ record { name = c.of-kept.result; cert = c.args.cert } ∷ []) c.in_ok-reserve.ensures.items)
