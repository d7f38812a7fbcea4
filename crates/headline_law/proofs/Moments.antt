-- Each moment of an honest run.
use Rattle.std.proofs.Common.{◌≡◌, List, [], ◌++◌, Some, Ok, sym, subst}
use Rattle.std.specs.Prelude.{ℕ, slice_get}
use Rattle.schedule_text.specs.declared.words.Schedule.{Schedule}
use Rattle.schedule_text.specs.declared.words.Event.{Event}
use Rattle.schedule_text.specs.Schedule.{schedule_of}
use Rattle.world_spec.specs.Setting.{Trust, setting_of}
use Rattle.world_spec.specs.World.{Seat, member_in}
use Rattle.world_spec.specs.Run.{world_after}
use Rattle.world_spec.specs.Assumptions.{IsHonestRun}
use Rattle.safety_law.proofs.Forks.{no-fork}
use Rattle.safety_law.proofs.Once.{voted-once}
use Rattle.safety_law.proofs.Owner.{owner, signed}
use Rattle.safety_law.proofs.Voted.{certified-is}
use Rattle.safety_law.proofs.SetUp.{set-up-apart}
use Rattle.safety_law.proofs.Opened.{every-opening, opened-alike}
use Rattle.safety_law.proofs.OneList.{built-is-of-thread, one-list}
use Rattle.safety_law.proofs.AgreedEpochs.{every-checkpoint}
use Rattle.safety_law.proofs.Sums.{are-backed, only-gas, set-up-backed}
use Rattle.headline_law.proofs.Finishing.{no-turn-waits, runs-execute-admitted}
use Rattle.headline_law.proofs.Keeping.{runs-execute-ready}
use Rattle.headline_law.proofs.Keys.{present-is-ready}
use Rattle.headline_law.proofs.Running.{no-run-leaves-anything}
use Rattle.headline_law.proofs.Openings.{gas-was-held}
use Rattle.headline_law.proofs.ReadAmounts.{money-amounts, no-gas-cap, set-up-amounts}
use Rattle.headline_law.proofs.Going.{ready-is-executed}
use Rattle.headline_law.proofs.Reciting.{report-calm}
use Rattle.headline_law.proofs.Reporting.{read-front}
use Rattle.headline_law.proofs.Standing.{final-stands}
use Rattle.headline_law.proofs.TwoMoments.{versions-are-one-chain}
use Rattle.headline_law.specs.Headline.{Agree, AreSafe, Holds, IsPromised, Stands}
use Rattle.protocol_spec.proofs.ListLemmas.{append_nil}

module _ (text : List ℕ) (t : Schedule) (read : schedule_of text ≡ Ok t) (trust : Trust) (front back : List Event) (cut : t.events ≡ front ++ back) (honest : IsHonestRun (setting_of trust t.setup) front) where
  -- a prefix, and nothing after it
  honest_here : IsHonestRun (setting_of trust t.setup) (front ++ [])
  honest_here = subst (IsHonestRun (setting_of trust t.setup)) (sym (append_nil front)) honest

  safe : AreSafe (setting_of trust t.setup) front
  safe = record {
    one_owner = λ c d one other. owner (setting_of trust t.setup) front honest c d (certified-is (setting_of trust t.setup) front c one) (certified-is (setting_of trust t.setup) front d other);
    signed = λ c is. signed (setting_of trust t.setup) front honest c (certified-is (setting_of trust t.setup) front c is);
  }

  stands : (m : ℕ) (seat : Seat) → slice_get (world_after (setting_of trust t.setup) front).seats m ≡ Some seat
      → Stands (setting_of trust t.setup) (world_after (setting_of trust t.setup) front) (member_in (setting_of trust t.setup) seat)
  stands m seat at =
      let s = setting_of trust t.setup in
      let apart = set-up-apart trust t.setup in
      let held = gas-was-held s front honest apart (money-amounts s.opening (set-up-amounts text t read trust)) m seat at in
      record {
        opens = every-opening s front honest apart m seat at;
        builds = built-is-of-thread s front honest apart m seat at;
        effects = every-checkpoint s front honest apart m seat at;
        runs_on = no-fork s front [] honest_here m seat at;
        is_ready = present-is-ready s front honest apart m seat at;
        takes = runs-execute-ready s front honest apart m seat at;
        executes = runs-execute-admitted s front honest apart m seat at;
        leaves = no-run-leaves-anything s front honest apart m seat at;
        moves_on = no-turn-waits s front honest apart m seat at;
        gas = only-gas s front honest apart (no-gas-cap text t read trust) m seat at held;
        backed = λ currency other. are-backed s front honest apart currency other (set-up-backed trust t.setup currency other) m seat at held;
      }

  agree : (m n : ℕ) (a b : Seat) → slice_get (world_after (setting_of trust t.setup) front).seats m ≡ Some a → slice_get (world_after (setting_of trust t.setup) front).seats n ≡ Some b
      → Agree (member_in (setting_of trust t.setup) a) (member_in (setting_of trust t.setup) b)
  agree m n a b one other =
      let s = setting_of trust t.setup in
      let later = subst (λ (es : List Event). slice_get (world_after s es).seats n ≡ Some b) (sym (append_nil front)) other in
      record {
        openings = opened-alike s front [] honest_here (set-up-apart trust t.setup) m n a b one later;
        versions = versions-are-one-chain s front [] honest_here (set-up-apart trust t.setup) m n a b one later;
        checkpoints = one-list s front [] honest_here (set-up-apart trust t.setup) m n a b one later;
      }

  moment_holds : Holds (setting_of trust t.setup) front
  moment_holds = record {
    certified = safe;
    member = stands;
    members = agree;
    final = final-stands (setting_of trust t.setup) front honest (set-up-apart trust t.setup);
    reported = read-front text t read trust front back cut honest;
    calm = report-calm (setting_of trust t.setup) front honest (set-up-apart trust t.setup);
  }

pub moment_is_promised : (text : List ℕ) (t : Schedule) → schedule_of text ≡ Ok t → (trust : Trust) → (front back : List Event) → t.events ≡ front ++ back → IsPromised (setting_of trust t.setup) front
moment_is_promised text t read trust front back cut = record {
  votes = voted-once (setting_of trust t.setup) front;
  completes = ready-is-executed (setting_of trust t.setup) front;
  holds = moment_holds text t read trust front back cut;
}
