-- Each certificate that a line formed has the seals of a quorum.
use Rattle.std.proofs.Common.{inl, inr, refl, sym, subst, ap}
use Rattle.std.specs.Prelude.{◌≡◌, ◌⊎◌, ℕ, true, List, [], ◌∷◌, map, slice_get, Option, Some, None}
use Rattle.chain_messages.specs.declared.messages.MemberSeal.{MemberSeal}
use Rattle.schedule_text.specs.declared.words.Event.{Event}
use Rattle.protocol_spec.specs.Chain.Collecting.{whole}
use Rattle.protocol_spec.specs.Chain.Words.{Has}
use Rattle.protocol_spec.specs.Chain.Committee.{weight, is_quorum}
use Rattle.protocol_spec.specs.Chain.Certificates.{members_of}
use Rattle.protocol_spec.specs.Member.Calls.{Call}
use Rattle.world_spec.specs.Setting.{Setting}
use Rattle.world_spec.specs.World.{Seat, Made, Formed, World, Reached, finds_down, stops, answers, new_world, reached_seat, behind, called_seat, called_in, called_over, Said}
use Rattle.world_spec.specs.Step.{first_origins, certificate_of, collected_seal, votes_collected}
use Rattle.world_spec.specs.Run.{world_after}
use Rattle.safety_law.proofs.InWorld.{any-given}
use Rattle.safety_law.proofs.Once.{has-push}
use Rattle.safety_law.proofs.Steps.{Keeps, with_formed, step-run}
use Rattle.safety_law.proofs.Sound.{collected-quorum}

module _ (s : Setting) where
  same-behind : (w : World) (m : ℕ) (call : Call) (seat : Seat) (r : Reached) → (behind s w m call seat r).certs ≡ w.certs
  same-behind w m call seat finds_down = refl
  same-behind w m call seat (stops kept x) = refl
  same-behind w m call seat (answers before x) = refl

  same-seat : (w : World) (m : ℕ) (call : Call) (seat : Option Seat) → (called_seat s w m call seat).certs ≡ w.certs
  same-seat w m call None = refl
  same-seat w m call (Some seat) = same-behind w m call seat (reached_seat s call seat)

  same-called : (w : World) (m : ℕ) (call : Call) → (called_in s w m call).certs ≡ w.certs
  unfolding called_over
  same-called w m call = same-seat w m call (slice_get w.seats m)

  -- the members of a formed certificate are those of the line
  same-members : (said : List Said) (t : Made) (ms : List ℕ) → map (λ (x : MemberSeal). x.member) (map (collected_seal said t) ms) ≡ ms
  same-members said t [] = refl
  same-members said t (m ∷ ms) = ap (λ (ns : List ℕ). m ∷ ns) (same-members said t ms)

  abbrev IsQuorate : Formed → Type 0
  IsQuorate f = is_quorum s.rules.stakes (weight s.rules.stakes (members_of f.cert)) ≡ true

  abbrev AreQuorate : World → Type 0
  AreQuorate w = (f : Formed) → Has w.certs f → IsQuorate f

  quorate-forms : (w : World) (t : Made) (ms : List ℕ) → votes_collected s w t ms ≡ whole → AreQuorate w → AreQuorate (with_formed w t ms)
  quorate-forms w t ms e all f h = go (has-push w.certs new f h)
    where
      new : Formed
      new = record { name = t.name; cert = certificate_of w.said t (first_origins w t ms) ms }

      one : IsQuorate new
      one = subst (λ (ns : List ℕ). is_quorum s.rules.stakes (weight s.rules.stakes ns) ≡ true) (sym (same-members w.said t ms)) (collected-quorum s w t ms e)

      go : Has w.certs f ⊎ (new ≡ f) → IsQuorate f
      go (inl h) = all f h
      go (inr q) = subst (λ (g : Formed). IsQuorate g) q one

  quorate-keeps : Keeps s (λ _ _. Unit {0}) AreQuorate
  quorate-keeps = record {
    calls = λ w m call _ all f h. all f (subst (λ (fs : List Formed). Has fs f) (same-called w m call) h);
    lies = λ w m st _ _ all. all;
    seats = λ w m seat new _ _ _ all. all;
    enters = λ w e _ all. all;
    rises = λ w all. all;
    makes = λ w l t _ all. all;
    forms = λ w t ms _ e all. quorate-forms w t ms e all;
  }

  quorate-new : AreQuorate (new_world s)
  unfolding new_world
  quorate-new f h = absurd h

  pub quorate-after : (events : List Event) → AreQuorate (world_after s events)
  unfolding world_after
  quorate-after events = step-run s (λ _ _. Unit {0}) AreQuorate quorate-keeps events (new_world s) (any-given s events (new_world s)) quorate-new
