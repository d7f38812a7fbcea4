-- Two members of one epoch, at two moments of a run, hold one chain.
use Rattle.std.proofs.Common.{inl, inr, refl, sym, subst, ◌∙◌, append-nil}
use Rattle.std.specs.Prelude.{◌≡◌, ◌⊎◌, ℕ, List, [], ◌++◌, slice_get, Some}
use Rattle.chain_types.specs.declared.objects.Object.{Object}
use Rattle.schedule_text.specs.declared.words.Event.{Event}
use Rattle.protocol_spec.specs.Chain.Words.{Has}
use Rattle.protocol_spec.specs.Member.Member.{Member}
use Rattle.world_spec.specs.Setting.{Setting}
use Rattle.world_spec.specs.World.{Seat, member_in}
use Rattle.world_spec.specs.Run.{world_after}
use Rattle.world_spec.specs.Assumptions.{IsHonestRun}
use Rattle.safety_law.proofs.Fronts.{honest-front}
use Rattle.block_law.specs.Orderly.{AreApart}
use Rattle.safety_law.specs.Orderly.{OpensApart}
use Rattle.safety_law.proofs.Known.{opens-apart}
use Rattle.safety_law.proofs.SameSteps.{executions-same}
use Rattle.headline_law.specs.Chained.{AreOneChain}
use Rattle.headline_law.proofs.Settled.{ArePeers, settled, peers}
use Rattle.headline_law.proofs.Chains.{one-chain}

-- a member at one moment, in terms of the whole run
pub own-peers : (s : Setting) (front back : List Event) → IsHonestRun s (front ++ back) → (m : ℕ) (a : Seat) → slice_get (world_after s front).seats m ≡ Some a → ArePeers s (front ++ back) (member_in s a) (member_in s a)
own-peers s front back honest m a at = record {
  first = settled s front back m a at;
  second = settled s front back m a at;
  epochs = refl;
  openings = refl;
  admitted = inl ([], sym (append-nil (member_in s a).sequence.admission.admitted));
  executions = executions-same s front (honest-front s front back honest) m m a a at at refl refl;
}

swapped : (s : Setting) (events : List Event) (p q : Member) → ArePeers s events p q → ArePeers s events q p
swapped s events p q it = record {
  first = it.second;
  second = it.first;
  epochs = sym it.epochs;
  openings = sym it.openings;
  admitted = other it.admitted;
  executions = λ x y h k e. sym (it.executions y x k h (sym e));
}
  where
    other : {A B : Type 0} → A ⊎ B → B ⊎ A
    other (inl a) = inr a
    other (inr b) = inl b

module _ (s : Setting) (front back : List Event) (honest : IsHonestRun s (front ++ back)) (distinct : AreApart s.opening)
    (m n : ℕ) (a b : Seat) (at : slice_get (world_after s front).seats m ≡ Some a) (by : slice_get (world_after s (front ++ back)).seats n ≡ Some b) (epoch : (member_in s a).epoch ≡ (member_in s b).epoch) where
  abbrev events : List Event
  events = front ++ back

  abbrev p : Member
  p = member_in s a

  abbrev q : Member
  q = member_in s b

  abbrev IsEither : Member → Type 0
  IsEither r = (r ≡ p) ⊎ (r ≡ q)

  both : ArePeers s events p q
  both = peers s front back honest distinct m n a b at by epoch

  second : ArePeers s events q q
  second = subst (λ (es : List Event). ArePeers s es q q) (append-nil events) (own-peers s events [] (subst (IsHonestRun s) (sym (append-nil events)) honest) n b by)

  opens : OpensApart s events q
  opens = opens-apart s events honest distinct n b by

  first-opens : OpensApart s events p
  first-opens = record {
    distinct = subst AreApart (sym both.openings) opens.distinct;
    new = λ t h e k low o there. opens.new t h (e ∙ epoch) k low o (subst (λ (os : List Object). Has os o) both.openings there);
  }

  either : (P : Member → Type 0) → P p → P q → (r : Member) → IsEither r → P r
  either P one two r (inl e) = subst P (sym e) one
  either P one two r (inr e) = subst P (sym e) two

  all-peers : (r t : Member) → IsEither r → IsEither t → ArePeers s events r t
  all-peers r t is also = either (λ (z : Member). ArePeers s events z t)
      (either (ArePeers s events p) (own-peers s front back honest m a at) both t also)
      (either (ArePeers s events q) (swapped s events p q both) second t also) r is

  pub versions-are-one-chain : AreOneChain p q
  versions-are-one-chain = one-chain s events honest q.opening opens.distinct IsEither (either (λ (r : Member). r.opening ≡ q.opening) both.openings refl) (either (OpensApart s events) first-opens opens) all-peers p q (inl refl) (inr refl)
