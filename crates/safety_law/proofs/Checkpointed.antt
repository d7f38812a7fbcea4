-- The checkpoints of a member are those of one thread.
use Rattle.std.proofs.Common.{sym, subst, ap, ◌∙◌, append_assoc}
use Rattle.std.specs.Prelude.{◌≡◌, ℕ, true, List, ◌++◌, flat_map, map, slice_get, Some}
use Rattle.chain_messages.specs.Messages as messages
use Rattle.schedule_text.specs.declared.words.Event.{Event}
use Rattle.protocol_spec.specs.Chain.Words.{Each, IsFront}
use Rattle.protocol_spec.proofs.ListLemmas.{and-first, each_has, flat_append}
use Rattle.protocol_spec.specs.Member.Versions.{is_executed}
use Rattle.protocol_spec.specs.Member.Admission.{Admitted}
use Rattle.protocol_spec.specs.Member.Sequence.{Cut, Sequence}
use Rattle.protocol_spec.specs.Member.Checkpoints.{held_of, is_done, names_same_origins}
use Rattle.world_spec.specs.Setting.{Setting}
use Rattle.world_spec.specs.World.{Seat, member_in}
use Rattle.world_spec.specs.Run.{world_after}
use Rattle.world_spec.specs.Assumptions.{IsHonestRun}
use Rattle.safety_law.proofs.Prefixes.{follows}
use Rattle.block_law.proofs.Live.{has-flat}
use Rattle.block_law.specs.Orderly.{AreApart}
use Rattle.safety_law.specs.Orderly.{IsExecutedFront}
use Rattle.safety_law.specs.Thread.{GivesOneThread}
use Rattle.safety_law.specs.Checkpointed.{admitted_in, IsBuilt}
use Rattle.safety_law.proofs.Lists.{all-has}
use Rattle.safety_law.proofs.Cuts.{cut-seen}
use Rattle.safety_law.proofs.Known.{opens-apart}
use Rattle.safety_law.proofs.Thread.{effects-of-fold}
use Rattle.safety_law.proofs.Totals.{each-all}

module _ (s : Setting) (events : List Event) (n : ℕ) (seat : Seat) (at : slice_get (world_after s events).seats n ≡ Some seat) where
  pub all-cut : IsFront (flat_map admitted_in (member_in s seat).sequence.cuts) (member_in s seat).sequence.admission.admitted
  all-cut =
      let taken = follows s events n seat at in
      subst (λ (q : Sequence). IsFront (flat_map admitted_in q.cuts) q.admission.admitted) (sym taken.gives)
      (cut-seen s.rules (member_in s seat).opening (member_in s seat).epoch (map messages.entry.spell taken.front))

  pub built-front : (cuts : List Cut) → IsFront cuts (member_in s seat).sequence.cuts → Each (IsBuilt (member_in s seat)) cuts → IsExecutedFront (member_in s seat) (flat_map admitted_in cuts)
  built-front cuts (rest, e) built = record {
    is_front = (
      flat_map admitted_in rest ++ all-cut.0,
      all-cut.1 ∙ ap (λ (cs : List Cut). flat_map admitted_in cs ++ all-cut.0) e
          ∙ ap (λ (zs : List Admitted). zs ++ all-cut.0) (flat_append admitted_in cuts rest) ∙ append_assoc (flat_map admitted_in cuts) (flat_map admitted_in rest) all-cut.0,
    );
    executed = each-all (λ (a : Admitted). is_executed (member_in s seat).executed a.digest ≡ true) (flat_map admitted_in cuts) (λ a h.
        let c = has-flat admitted_in cuts a h in
        and-first (is_executed (member_in s seat).executed a.digest) (names_same_origins (held_of (member_in s seat).held a.digest) a)
        (all-has (is_done (member_in s seat).held (member_in s seat).executed) c.0.txs a (each_has (IsBuilt (member_in s seat)) cuts c.0 built c.1) c.2));
  }

  pub checkpoints-of-fold : IsHonestRun s events → AreApart s.opening → (cuts : List Cut) → IsFront cuts (member_in s seat).sequence.cuts → Each (IsBuilt (member_in s seat)) cuts → GivesOneThread (member_in s seat) (flat_map admitted_in cuts)
  checkpoints-of-fold honest distinct cuts front built =
      effects-of-fold s events honest n seat at (opens-apart s events honest distinct n seat at) (flat_map admitted_in cuts) (built-front cuts front built)
