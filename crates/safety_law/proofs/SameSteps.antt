-- Executions of one transaction agree, under the run assumptions.
use Rattle.std.proofs.Common.{inr, sym, ◌∙◌}
use Rattle.std.specs.Prelude.{◌≡◌, ℕ, List, slice_get, Some}
use Rattle.chain_types.specs.Digests.{transaction_digest}
use Rattle.chain_messages.specs.declared.messages.Certificate.{Certificate}
use Rattle.digest_core.specs.declared.Digest.{Digest}
use Rattle.schedule_text.specs.declared.words.Event.{Event}
use Rattle.protocol_spec.proofs.ListLemmas.{each_has}
use Rattle.protocol_spec.specs.Chain.Words.{Has}
use Rattle.protocol_spec.specs.Member.Versions.{Execution}
use Rattle.world_spec.specs.Setting.{Setting}
use Rattle.world_spec.specs.World.{Seat, member_in}
use Rattle.world_spec.specs.Run.{world_after}
use Rattle.world_spec.specs.Assumptions.{IsHonestRun, all_delivered}
use Rattle.safety_law.specs.Agreed.{IsGiven, IsHeldAsGiven}
use Rattle.safety_law.proofs.Supply.{every-held}
use Rattle.safety_law.proofs.Same.{of-run}
use Rattle.safety_law.proofs.Agreeing.{executions-agree}
use Rattle.safety_law.specs.Owners.{IsFormedOrValid}
use Rattle.safety_law.proofs.Owner.{origins}

module _ (s : Setting) (events : List Event) (honest : IsHonestRun s events) where
  abbrev pub IsGivenHere : ℕ → Digest → Certificate → Type 0
  IsGivenHere = IsGiven s.rules (all_delivered s events)

  pub was-formed : (epoch : ℕ) (d : Digest) (c : Certificate) → IsGivenHere epoch d c → IsFormedOrValid s events c
  was-formed epoch d c given = inr (given.comes, given.valid)

  -- certificates that were given under one digest have one transaction and the same origins
  pub given-alike : (epoch other : ℕ) (d e : Digest) (c k : Certificate) → IsGivenHere epoch d c → IsGivenHere other e k → d ≡ e → (c.tx ≡ k.tx) × (c.origins ≡ k.origins)
  given-alike epoch other d e c k one two same =
      let digests : transaction_digest c.tx ≡ transaction_digest k.tx = sym one.digest_is ∙ same ∙ two.digest_is in (
        honest.transactions c.tx k.tx (of-run s events c one.comes) (of-run s events k two.comes) digests,
        origins s events honest c k (was-formed epoch d c one) (was-formed other e k two) digests,
      )

  pub executions-same : (m n : ℕ) (a b : Seat) → slice_get (world_after s events).seats m ≡ Some a → slice_get (world_after s events).seats n ≡ Some b
      → (member_in s a).epoch ≡ (member_in s b).epoch → (member_in s a).opening ≡ (member_in s b).opening
      → (x y : Execution) → Has (member_in s a).executed x → Has (member_in s b).executed y → x.digest ≡ y.digest → x.gave ≡ y.gave
  executions-same m n a b at by epoch opening = executions-agree s events m n a b at by epoch opening (λ h k there also e.
      given-alike (member_in s a).epoch (member_in s b).epoch h.digest k.digest h.cert k.cert
      (each_has (IsHeldAsGiven s.rules (all_delivered s events) (member_in s a).epoch) (member_in s a).held h (every-held s events m a at) there)
      (each_has (IsHeldAsGiven s.rules (all_delivered s events) (member_in s b).epoch) (member_in s b).held k (every-held s events n b by) also) e)
