use Rattle.std.proofs.Common.{ℕ, List, ◌++◌, ap, ◌∙◌, subst, append_assoc}
use Rattle.digest_core.specs.Tagged.{Hashes}
use Rattle.wire_bcs.specs.Digests.{digest}
use Rattle.wire_bcs.specs.Uleb.{uleb}
use Rattle.quorum_core.specs.Signers.{signer}
use Rattle.quorum_core.proofs.sealer.add_user.Goals as goal

pub returns : goal.returns
unfolding signer digest uleb
returns c = λ fed h.
    let text : List ℕ → Type 0 = λ bytes. Hashes c.add-2.new.self bytes in
    let tag = ap (λ (bytes : List ℕ). bytes ++ c.args.address.now.0) c.as_slice.ensures in
    subst text (append_assoc fed c.as_slice.result.now c.args.address.now.0 ∙ ap (λ (bytes : List ℕ). fed ++ bytes) tag)
    (c.add-2.ensures (fed ++ c.as_slice.result.now) (c.add.ensures fed h))
