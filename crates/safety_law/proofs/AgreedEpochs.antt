-- Members agree: what was proved of members with equal openings, without that premise.
use Rattle.std.proofs.Common.{inl, inr, refl, sym, subst, ap, ◌∙◌}
use Rattle.std.specs.Prelude.{◌≡◌, ◌⊎◌, ℕ, List, [], ◌++◌, map, flat_map, zip, slice_get, Option, Some}
use Rattle.chain_types.specs.declared.objects.Object.{Object}
use Rattle.chain_types.specs.declared.transactions.Transaction.{Transaction}
use Rattle.effects_core.specs.declared.effects.Effects.{Effects}
use Rattle.chain_messages.specs.declared.messages.Entry.{Entry}
use Rattle.protocol_spec.specs.declared.answers.Held.{Held}
use Rattle.schedule_text.specs.declared.words.Event.{Event}
use Rattle.protocol_spec.proofs.ListLemmas.{each_has, front_then}
use Rattle.protocol_spec.specs.Chain.Words.{Has, Each, IsFront}
use Rattle.protocol_spec.specs.Member.Sequence.{Cut, Sequence}
use Rattle.protocol_spec.specs.Member.Sequential.{map_of, fold_all}
use Rattle.protocol_spec.specs.Member.Member.{Member, books}
use Rattle.world_spec.specs.Setting.{Setting}
use Rattle.world_spec.specs.World.{Seat, new_world, member_in, entries_at}
use Rattle.world_spec.specs.Openings.{txs_in, sequence_of, opening_at}
use Rattle.world_spec.specs.Run.{world_after}
use Rattle.world_spec.specs.Assumptions.{IsHonestRun, delivered, all_delivered}
use Rattle.safety_law.proofs.Forks.{all-front}
use Rattle.safety_law.specs.Agreed.{IsTaken, IsHeldAsGiven, IsEarlier}
use Rattle.safety_law.proofs.Prefixes.{earlier-front, more-taken, follows, alike}
use Rattle.safety_law.proofs.Supply.{every-held}
use Rattle.safety_law.proofs.Executing.{executions-explained}
use Rattle.safety_law.proofs.Agreeing.{all-agree}
use Rattle.block_law.specs.Orderly.{AreApart}
use Rattle.safety_law.specs.Thread.{item_with, thread_effects}
use Rattle.safety_law.specs.Checkpointed.{admitted_in, IsBuilt}
use Rattle.safety_law.proofs.SameSteps.{given-alike}
use Rattle.safety_law.proofs.Checkpointed.{checkpoints-of-fold}
use Rattle.safety_law.specs.AgreedEpochs.{effects_of_thread, AreOfThread, Agree}
use Rattle.safety_law.proofs.Past.{txs-cut}
use Rattle.safety_law.proofs.Opened.{every-opening, grows-after, opened-alike, past-alike}

module _ (s : Setting) (events : List Event) (honest : IsHonestRun s events) (distinct : AreApart s.opening) where
  abbrev qs : List (List Entry)
  qs = (world_after s events).sequences

  module _ (n : ℕ) (seat : Seat) (at : slice_get (world_after s events).seats n ≡ Some seat) where
    abbrev m : Member
    m = member_in s seat

    opening : m.opening ≡ opening_at s qs m.epoch
    opening = (every-opening s events honest distinct n seat at).opening

    thread : (cuts : List Cut) → effects_of_thread s qs m.epoch cuts ≡ thread_effects m (flat_map admitted_in cuts)
    thread cuts = ap (λ (os : List Object). (fold_all (map_of os) (flat_map txs_in cuts)).effects) (sym opening)
        ∙ ap (λ (ts : List Transaction). (fold_all (map_of m.opening) ts).effects) (txs-cut cuts)

    earlier : IsEarlier m.sequence (sequence_of s qs m.epoch (opening_at s qs m.epoch))
    earlier =
        let taken = follows s events n seat at in
        subst (λ (os : List Object). IsEarlier m.sequence (sequence_of s qs m.epoch os)) opening
        (subst (λ (q : Sequence). IsEarlier q (sequence_of s qs m.epoch m.opening)) (sym taken.gives)
        (earlier-front s.rules m.opening m.epoch taken.front (entries_at qs m.epoch) taken.is_front))

    pub every-checkpoint : (cuts : List Cut) → IsFront cuts m.sequence.cuts → Each (IsBuilt m) cuts → AreOfThread s qs m cuts
    every-checkpoint cuts front built =
        let gives = checkpoints-of-fold s events n seat at honest distinct cuts front built in
        record {
          first = front_then cuts m.sequence.cuts (sequence_of s qs m.epoch (opening_at s qs m.epoch)).cuts front earlier.cuts;
          effects = thread cuts ∙ gives.effects;
          items = ap (λ (es : List (Option Effects)). map item_with (zip (flat_map admitted_in cuts) es)) (thread cuts) ∙ gives.items;
        }

-- ---- two members, at two moments

module _ (s : Setting) (front back : List Event) (honest : IsHonestRun s (front ++ back)) (distinct : AreApart s.opening) where
  abbrev all : List Event
  all = front ++ back

  given-later : (epoch : ℕ) (h : Held) → IsHeldAsGiven s.rules (all_delivered s front) epoch h → IsHeldAsGiven s.rules (all_delivered s all) epoch h
  unfolding all_delivered
  given-later epoch h g = record { digest_is = g.digest_is; valid = g.valid; epoch_is = g.epoch_is; comes = all-front delivered s front back (new_world s) h.cert g.comes }

  module _ (m n : ℕ) (a b : Seat) (at : slice_get (world_after s front).seats m ≡ Some a) (by : slice_get (world_after s all).seats n ≡ Some b) (epoch : (member_in s a).epoch ≡ (member_in s b).epoch) where
    abbrev p : Member
    p = member_in s a

    abbrev q : Member
    q = member_in s b

    openings : p.opening ≡ q.opening
    openings = opened-alike s front back honest distinct m n a b at by epoch

    earlier-or-later : IsEarlier p.sequence q.sequence ⊎ IsEarlier q.sequence p.sequence
    earlier-or-later = alike s.rules (entries_at (world_after s all).sequences p.epoch) p q
        (more-taken s.rules (world_after s front).sequences (world_after s all).sequences p (grows-after s front back) (follows s front m a at))
        (subst (λ (e : ℕ). IsTaken s.rules (entries_at (world_after s all).sequences e) q) (sym epoch) (follows s all n b by)) epoch openings

    held-alike : (h k : Held) → Has p.held h → Has q.held k → h.digest ≡ k.digest → (h.cert.tx ≡ k.cert.tx) × (h.cert.origins ≡ k.cert.origins)
    held-alike h k there also e = given-alike s all honest p.epoch q.epoch h.digest k.digest h.cert k.cert
        (given-later p.epoch h (each_has (IsHeldAsGiven s.rules (all_delivered s front) p.epoch) p.held h (every-held s front m a at) there))
        (each_has (IsHeldAsGiven s.rules (all_delivered s all) q.epoch) q.held k (every-held s all n b by) also) e

    fronts : IsEarlier p.sequence q.sequence ⊎ IsEarlier q.sequence p.sequence → IsFront p.sequence.admission.admitted q.sequence.admission.admitted ⊎ IsFront q.sequence.admission.admitted p.sequence.admission.admitted
    fronts (inl f) = inl f.admitted
    fronts (inr f) = inr f.admitted

    pub members-agree : Agree p q
    members-agree = record {
      openings = openings;
      sequences = earlier-or-later;
      executions = λ x y h k e. all-agree p.opening (books p) (books q) refl (sym openings) held-alike (fronts earlier-or-later) q.executed (executions-explained s all n b by) p.executed [] (λ z none. absurd none) (executions-explained s front m a at) x h y k e;
      past = past-alike s front back honest distinct m n a b at by epoch;
    }
