-- What is known of a member at a moment of a run, in terms of the whole run; and of two members of one epoch.
use Rattle.std.proofs.Common.{inl, inr, subst, append-nil}
use Rattle.std.specs.Prelude.{◌≡◌, ◌⊎◌, ℕ, List, [], ◌++◌, slice_get, Some}
use Rattle.protocol_spec.specs.declared.answers.Held.{Held}
use Rattle.schedule_text.specs.declared.words.Event.{Event}
use Rattle.protocol_spec.proofs.ListLemmas.{each_has}
use Rattle.protocol_spec.specs.Chain.Words.{Has, Along, IsFront}
use Rattle.protocol_spec.specs.Member.Versions.{Execution}
use Rattle.protocol_spec.specs.Member.Admission.{Admitted}
use Rattle.protocol_spec.specs.Member.Member.{Member, books}
use Rattle.world_spec.specs.Setting.{Setting}
use Rattle.world_spec.specs.World.{Seat, new_world, member_in}
use Rattle.world_spec.specs.Run.{world_after}
use Rattle.world_spec.specs.Assumptions.{IsHonestRun, delivered, all_delivered}
use Rattle.safety_law.proofs.Forks.{all-front}
use Rattle.block_law.specs.Admitted.{IsInOrder}
use Rattle.safety_law.specs.Agreed.{IsGiven, IsHeldAsGiven, IsAdmittedAsGiven, IsEarlier}
use Rattle.safety_law.specs.Explained.{IsExplained}
use Rattle.safety_law.proofs.Supply.{every-held, every-admission}
use Rattle.safety_law.proofs.Executing.{executions-explained}
use Rattle.block_law.specs.Orderly.{AreApart}
use Rattle.safety_law.proofs.AgreedEpochs.{members-agree}

-- what it holds and admitted was given in the run, its admitted transactions are in order, its executions explained
pub record IsSettled (s : Setting) (events : List Event) (m : Member) : Type 0 where
  pub held : (h : Held) → Has m.held h → IsGiven s.rules (all_delivered s events) m.epoch h.digest h.cert
  pub admitted : (a : Admitted) → Has m.sequence.admission.admitted a → IsGiven s.rules (all_delivered s events) m.epoch a.digest a.cert
  pub order : Along (IsInOrder m.opening) [] m.sequence.admission.admitted
  pub explained : Along (IsExplained (books m)) [] m.executed

pub settled : (s : Setting) (front back : List Event) (n : ℕ) (seat : Seat) → slice_get (world_after s front).seats n ≡ Some seat → IsSettled s (front ++ back) (member_in s seat)
unfolding all_delivered
settled s front back n seat at = record {
  held = λ h k.
      let g = each_has (IsHeldAsGiven s.rules (all_delivered s front) (member_in s seat).epoch) (member_in s seat).held h (every-held s front n seat at) k in
      record { digest_is = g.digest_is; valid = g.valid; epoch_is = g.epoch_is; comes = all-front delivered s front back (new_world s) h.cert g.comes };
  admitted = λ a k.
      let g = each_has (IsAdmittedAsGiven s.rules (all_delivered s front) (member_in s seat).epoch) (member_in s seat).sequence.admission.admitted a (every-admission s front n seat at).given k in
      record { digest_is = g.digest_is; valid = g.valid; epoch_is = g.epoch_is; comes = all-front delivered s front back (new_world s) a.cert g.comes };
  order = (every-admission s front n seat at).order;
  explained = executions-explained s front n seat at;
}

-- two members of one epoch, at any moments of the run
pub record ArePeers (s : Setting) (events : List Event) (p q : Member) : Type 0 where
  pub first : IsSettled s events p
  pub second : IsSettled s events q
  pub epochs : p.epoch ≡ q.epoch
  pub openings : p.opening ≡ q.opening
  pub admitted : IsFront p.sequence.admission.admitted q.sequence.admission.admitted ⊎ IsFront q.sequence.admission.admitted p.sequence.admission.admitted
  pub executions : (x y : Execution) → Has p.executed x → Has q.executed y → x.digest ≡ y.digest → x.gave ≡ y.gave

module _ (s : Setting) (front back : List Event) (honest : IsHonestRun s (front ++ back)) (distinct : AreApart s.opening)
    (m n : ℕ) (a b : Seat) (at : slice_get (world_after s front).seats m ≡ Some a) (by : slice_get (world_after s (front ++ back)).seats n ≡ Some b) (epoch : (member_in s a).epoch ≡ (member_in s b).epoch) where
  fronts : IsEarlier (member_in s a).sequence (member_in s b).sequence ⊎ IsEarlier (member_in s b).sequence (member_in s a).sequence → IsFront (member_in s a).sequence.admission.admitted (member_in s b).sequence.admission.admitted ⊎ IsFront (member_in s b).sequence.admission.admitted (member_in s a).sequence.admission.admitted
  fronts (inl f) = inl f.admitted
  fronts (inr f) = inr f.admitted

  later : IsSettled s (front ++ back) (member_in s b)
  later = subst (λ (es : List Event). IsSettled s es (member_in s b)) (append-nil (front ++ back)) (settled s (front ++ back) [] n b by)

  pub peers : ArePeers s (front ++ back) (member_in s a) (member_in s b)
  peers =
      let agree = members-agree s front back honest distinct m n a b at by epoch in
      record { first = settled s front back m a at; second = later; epochs = epoch; openings = agree.openings; admitted = fronts agree.sequences; executions = agree.executions }
