use Rattle.std.proofs.Common.{ℕ, List, ◌∷◌, ◌++◌, ap, ◌∙◌, subst, append_assoc}
use Rattle.std.specs.Int.{w32}
use Rattle.digest_core.specs.Tagged.{Hashes}
use Rattle.wire_bcs.specs.Little.{to_le_bytes-is}
use Rattle.wire_bcs.specs.Items.{number_spell}
use Rattle.wire_bcs.specs.Uleb.{uleb}
use Rattle.quorum_core.specs.Signers.{signer}
use Rattle.quorum_core.proofs.sealer.add_member.Goals as goal

pub returns : goal.returns
unfolding signer number_spell uleb
returns c = λ fed h.
    let text : List ℕ → Type 0 = λ bytes. Hashes c.add-2.new.self bytes in
    let tag = ap (λ (bytes : List ℕ). bytes ++ c.as_slice-2.result.now) c.as_slice.ensures in
    let rest = ap (λ (bytes : List ℕ). 0 ∷ bytes) (c.as_slice-2.ensures ∙ (c.to_le_bytes.ensures ∙ to_le_bytes-is w32 c.args.member)) in
    subst text (append_assoc fed c.as_slice.result.now c.as_slice-2.result.now ∙ ap (λ (bytes : List ℕ). fed ++ bytes) (tag ∙ rest))
    (c.add-2.ensures (fed ++ c.as_slice.result.now) (c.add.ensures fed h))
