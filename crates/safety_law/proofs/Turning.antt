-- What a member that turns opens the next epoch with is what one thread leaves.
use Rattle.std.proofs.Common.{inl, inr, refl, sym, subst, ap, ◌∙◌, append-nil}
use Rattle.std.specs.Prelude.{◌≡◌, ℕ, Bool, true, false, cond, List, [], ◌∷◌, ◌++◌, map, filter, flat_map, slice_get, Some}
use Rattle.std.specs.FinMap.{values}
use Rattle.digest_core.specs.declared.Digest.{Digest}
use Rattle.chain_types.specs.declared.transactions.Transaction.{Transaction}
use Rattle.chain_types.specs.Equal.{digest_eq}
use Rattle.schedule_text.specs.declared.words.Event.{Event}
use Rattle.protocol_spec.proofs.Equality.{digest_same, digest_self}
use Rattle.protocol_spec.proofs.ListLemmas.{has_mapped, has_map}
use Rattle.protocol_spec.specs.Chain.Words.{Has, Each}
use Rattle.protocol_spec.specs.Member.Versions.{Execution}
use Rattle.protocol_spec.specs.Member.Admission.{Admitted}
use Rattle.protocol_spec.specs.Member.Sequence.{Cut}
use Rattle.protocol_spec.specs.Member.Checkpoints.{cut_digests, is_cut}
use Rattle.protocol_spec.specs.Member.Sequential.{map_of, fold_all}
use Rattle.protocol_spec.specs.Member.Rounds.{executes_as}
use Rattle.protocol_spec.specs.Member.Member.{Member, kept, turned}
use Rattle.world_spec.specs.Setting.{Setting}
use Rattle.world_spec.specs.World.{Seat, member_in}
use Rattle.world_spec.specs.Run.{world_after}
use Rattle.world_spec.specs.Assumptions.{IsHonestRun}
use Rattle.block_law.proofs.Live.{any-has, has-any}
use Rattle.block_law.specs.Admitted.{held_again}
use Rattle.block_law.proofs.Steps.{map-append}
use Rattle.block_law.specs.Orderly.{Step, gave, tx_of, AreApart}
use Rattle.block_law.specs.Leaving.{IsOfSteps}
use Rattle.block_law.proofs.LiveMap.{live-list-is-map}
use Rattle.safety_law.specs.Steps.{step_of, IsStepOf}
use Rattle.safety_law.specs.Orderly.{IsExecutedFront, OpensApart}
use Rattle.safety_law.specs.Thread.{transaction_of}
use Rattle.safety_law.specs.Checkpointed.{admitted_in, IsBuilt}
use Rattle.safety_law.proofs.Executed.{one-gave}
use Rattle.safety_law.proofs.Ordered.{front-step, steps-orderly}
use Rattle.safety_law.proofs.Thread.{map-twice}
use Rattle.safety_law.proofs.Known.{opens-apart}
use Rattle.safety_law.proofs.Checkpointed.{built-front}

cut-digests : (cuts : List Cut) → cut_digests cuts ≡ map (λ (a : Admitted). a.digest) (flat_map admitted_in cuts)
cut-digests [] = refl
cut-digests (c ∷ cuts) = ap (λ (ds : List Digest). map (λ (a : Admitted). a.digest) c.txs ++ ds) (cut-digests cuts) ∙ sym (map-append (λ (a : Admitted). a.digest) c.txs (flat_map admitted_in cuts))

is-cut : (cuts : List Cut) (a : Admitted) → Has (flat_map admitted_in cuts) a → is_cut cuts a.digest ≡ true
is-cut cuts a h = has-any (digest_eq a.digest) (cut_digests cuts) a.digest (subst (λ (ds : List Digest). Has ds a.digest) (sym (cut-digests cuts)) (has_map (λ (x : Admitted). x.digest) (flat_map admitted_in cuts) a h)) (digest_self a.digest)

cut-is : (cuts : List Cut) (tx : Digest) → is_cut cuts tx ≡ true → (a : Admitted) × Has (flat_map admitted_in cuts) a × (a.digest ≡ tx)
cut-is cuts tx e =
    let d = any-has (digest_eq tx) (cut_digests cuts) e in
    let a = has_mapped (λ (x : Admitted). x.digest) (flat_map admitted_in cuts) d.0 (subst (λ (ds : List Digest). Has ds d.0) (cut-digests cuts) d.1) in
    (a.0, a.1, a.2 ∙ sym (digest_same tx d.0 d.2))

passed : (test : Execution → Bool) (xs : List Execution) (x : Execution) → Has (filter test xs) x → Has xs x × (test x ≡ true)
passed test [] x h = absurd h
passed test (y ∷ xs) x h = go (test y) refl h (passed test xs x)
  where
    go : (b : Bool) → test y ≡ b → Has (cond b (y ∷ filter test xs) (filter test xs)) x → (Has (filter test xs) x → Has xs x × (test x ≡ true)) → Has (y ∷ xs) x × (test x ≡ true)
    go true e (inl q) rest = (inl q, subst (λ (z : Execution). test z ≡ true) q e)
    go true e (inr h) rest = let r = rest h in (inr r.0, r.1)
    go false e h rest = let r = rest h in (inr r.0, r.1)

passes : (test : Execution → Bool) (xs : List Execution) (x : Execution) → Has xs x → test x ≡ true → Has (filter test xs) x
passes test [] x h e = absurd h
passes test (y ∷ xs) x (inl q) e = subst (λ (b : Bool). Has (cond b (y ∷ filter test xs) (filter test xs)) x) (sym (ap test q ∙ e)) (inl q)
passes test (y ∷ xs) x (inr h) e = go (test y) (passes test xs x h e)
  where
    go : (b : Bool) → Has (filter test xs) x → Has (cond b (y ∷ filter test xs) (filter test xs)) x
    go true h = inr h
    go false h = h

module _ (s : Setting) (events : List Event) (n : ℕ) (seat : Seat) (at : slice_get (world_after s events).seats n ≡ Some seat) (honest : IsHonestRun s events) (distinct : AreApart s.opening) where
  abbrev m : Member
  m = member_in s seat

  abbrev front : List Admitted
  front = flat_map admitted_in m.sequence.cuts

  of-steps : IsExecutedFront m front → IsOfSteps (map (step_of m) front) (kept m)
  of-steps it = record { whole = whole; only = only }
    where
      opens : OpensApart s events m
      opens = opens-apart s events honest distinct n seat at

      step : (a : Admitted) → Has front a → IsStepOf m a
      step = front-step s events honest n seat at opens front it

      whole : (x : Step) → Has (map (step_of m) front) x → (e : Execution) × Has (kept m) e × (e.gave ≡ gave x)
      whole x h =
          let a = has_mapped (step_of m) front x h in (
            executes_as (held_again a.0) (gave (step_of m a.0)),
            passes (λ (y : Execution). is_cut m.sequence.cuts y.digest) m.executed (executes_as (held_again a.0) (gave (step_of m a.0))) (step a.0 a.1).executed (is-cut m.sequence.cuts a.0 a.1),
            ap gave a.2,
          )

      only : (e : Execution) → Has (kept m) e → (x : Step) × Has (map (step_of m) front) x × (e.gave ≡ gave x)
      only e h =
          let p = passed (λ (y : Execution). is_cut m.sequence.cuts y.digest) m.executed e h in
          let a = cut-is m.sequence.cuts e.digest p.1 in
          (step_of m a.0, has_map (step_of m) front a.0 a.1, one-gave s events honest n seat at e (executes_as (held_again a.0) (gave (step_of m a.0))) p.0 (step a.0 a.1).executed (sym a.2))

  pub turns-to-fold : Each (IsBuilt m) m.sequence.cuts → (turned m).opening ≡ values (fold_all (map_of m.opening) (map transaction_of front)).map
  turns-to-fold built =
      let it = built-front s events n seat at m.sequence.cuts ([], sym (append-nil m.sequence.cuts)) built in
      let opens = opens-apart s events honest distinct n seat at in
      live-list-is-map m.opening (map (step_of m) front) (kept m) opens.distinct (steps-orderly s events honest n seat at opens front it) (of-steps it)
      ∙ ap (λ (txs : List Transaction). values (fold_all (map_of m.opening) txs).map) (map-twice (step_of m) tx_of front)
