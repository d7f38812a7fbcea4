use Rattle.std.proofs.Common.{ℕ, List, subst}
use Rattle.std.specs.Prelude.{bytes_eq}
use Rattle.quorum_core.specs.Seals.{keyed_seal}
use Rattle.quorum_core.specs.declared.signer.Signer.{Signer}
use Rattle.digest_core.specs.declared.Digest.{Digest}
use Rattle.light_client.specs.Finality.{final_answer}
use Rattle.kothaysu.specs.Answers.{Answered, for_committee}
use Rattle.kothaysu.proofs.finality.acknowledged_keyed.Goals as goal

pub returns : goal.returns
returns c = subst (λ (secret : List ℕ). Answered c.acknowledged.result (for_committee c.args.stakes.now (λ s. final_answer s (λ (who : Signer) (bytes : List ℕ) (seal : Digest). bytes_eq seal.0 (keyed_seal secret who bytes).0) c.args.acknowledgements.now))) c.new-sealer.ensures c.acknowledged.ensures
