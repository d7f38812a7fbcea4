-- What a member executed of cuts that are done, as steps of one thread: what a follower owes of them.
use Rattle.std.proofs.Common.{inl, inr, refl, sym, subst, ap, ◌∙◌}
use Rattle.std.specs.Prelude.{◌≡◌, ℕ, true, List, [], ◌∷◌, ◌++◌, flat_map, map, slice_get, Option, Some, None, is_some}
use Rattle.digest_core.specs.declared.Digest.{Digest}
use Rattle.chain_types.specs.declared.objects.Object.{Object}
use Rattle.chain_types.specs.declared.transactions.Transaction.{Transaction}
use Rattle.chain_types.specs.Equal.{digest_eq}
use Rattle.chain_types.specs.Digests.{transaction_digest}
use Rattle.chain_messages.specs.declared.messages.Certificate.{Certificate}
use Rattle.effects_core.specs.Effects.{digest_of_effects}
use Rattle.checkpoint_core.specs.declared.checkpoints.Item.{Item}
use Rattle.protocol_spec.specs.declared.pieces.Executed.{Executed}
use Rattle.schedule_text.specs.declared.words.Event.{Event}
use Rattle.protocol_spec.proofs.Checked.{valid_shape}
use Rattle.protocol_spec.proofs.Equality.{digest_same, digest_self}
use Rattle.protocol_spec.specs.Chain.Words.{Along, Each, Has, IsFront}
use Rattle.protocol_spec.specs.Chain.Shape.{shape_fault}
use Rattle.protocol_spec.proofs.ListLemmas.{find-test, find_has, each_has, has_left, has_mapped}
use Rattle.protocol_spec.specs.Member.Versions.{Execution, execution_of, is_executed}
use Rattle.protocol_spec.specs.Member.Admission.{Admitted}
use Rattle.protocol_spec.specs.Member.Sequence.{Cut}
use Rattle.protocol_spec.specs.Member.Checkpoints.{effects_digest_of, item_of}
use Rattle.protocol_spec.specs.Member.Rounds.{executes_as}
use Rattle.protocol_spec.specs.Member.Member.{Member}
use Rattle.world_spec.specs.Setting.{Setting}
use Rattle.world_spec.specs.World.{Seat, member_in}
use Rattle.world_spec.specs.Run.{world_after}
use Rattle.world_spec.specs.Assumptions.{IsHonestRun, all_delivered}
use Rattle.block_law.proofs.Steps.{map-append}
use Rattle.block_law.proofs.Live.{has-any}
use Rattle.block_law.specs.Admitted.{IsInOrder, held_again}
use Rattle.block_law.specs.Orderly.{AreApart, AreOrderly, IsOrderly, ReadsSame, Step, gave}
use Rattle.block_law.proofs.ReadingSteps.{IsGoneOver, chain-reads, goes-over}
use Rattle.safety_law.specs.Agreed.{IsGiven}
use Rattle.safety_law.specs.Checkpointed.{IsBuilt, admitted_in}
use Rattle.safety_law.specs.Orderly.{IsExecutedFront, OpensApart}
use Rattle.safety_law.specs.Steps.{step_of}
use Rattle.safety_law.proofs.Checkpointed.{built-front}
use Rattle.safety_law.proofs.Executed.{admitted-given, one-gave}
use Rattle.safety_law.proofs.Known.{opens-apart}
use Rattle.safety_law.proofs.Lists.{along-front}
use Rattle.safety_law.proofs.Ordered.{front-step, steps-orderly}
use Rattle.safety_law.proofs.Supply.{every-admission}
use Rattle.headline_law.proofs.Placing.{item_in}
use Rattle.headline_law.proofs.Stepping.{MayStand, digest_in}

-- no step before has the digest
abbrev IsNew : List Step → Step → Type 0
IsNew before x = (y : Step) → Has before y → digest_in y ≡ digest_in x → ⊥

along-four : (opening : List Object) (xs before : List Step) → Along (IsOrderly opening) before xs → Along (ReadsSame opening) before xs → ((x : Step) → Has xs x → shape_fault x.tx ≡ None)
    → Along IsNew before xs → Along (MayStand opening) before xs
along-four opening [] before orderly reads shapes new = tt
along-four opening (x ∷ xs) before orderly reads shapes new = (
  record { orderly = orderly.0; reads = reads.0; shape = shapes x (inl refl); new = new.0 },
  along-four opening xs (before ++ x ∷ []) orderly.1 reads.1 (λ y h. shapes y (inr h)) new.1,
)

-- admitted transactions are new, and so are their steps (block_law: AdmittedInOrder)
module _ (m : Member) (opening : List Object) where
  along-new : (xs before : List Admitted) → ((a : Admitted) → Has (before ++ xs) a → a.digest ≡ transaction_digest a.cert.tx) → Along (IsInOrder opening) before xs
      → Along IsNew (map (step_of m) before) (map (step_of m) xs)
  along-new [] before digests order = tt
  along-new (a ∷ xs) before digests order = (
    new,
    subst (λ (ys : List Step). Along IsNew ys (map (step_of m) xs)) (map-append (step_of m) before (a ∷ []))
        (along-new xs (before ++ a ∷ []) (λ b h. digests b (subst (λ (bs : List Admitted). Has bs b) (whole before a xs) h)) order.1),
  )
    where
      whole : (bs : List Admitted) (b : Admitted) (cs : List Admitted) → (bs ++ b ∷ []) ++ cs ≡ bs ++ (b ∷ cs)
      whole [] b cs = refl
      whole (d ∷ bs) b cs = ap (λ (es : List Admitted). d ∷ es) (whole bs b cs)

      middle : (bs : List Admitted) (b : Admitted) (cs : List Admitted) → Has (bs ++ (b ∷ cs)) b
      middle [] b cs = inl refl
      middle (d ∷ bs) b cs = inr (middle bs b cs)

      clash : (b : Admitted) → Has before b → b.digest ≡ a.digest → ⊥
      clash b h e =
          let there = has-any (λ (x : Admitted). digest_eq x.digest a.digest) before b h (subst (λ (d : Digest). digest_eq b.digest d ≡ true) e (digest_self b.digest)) in
          let new = order.0.new in
          cc

      new : IsNew (map (step_of m) before) (step_of m a)
      new y h e =
          let b = has_mapped (step_of m) before y h in
          clash b.0 b.1 (digests b.0 (has_left before (a ∷ xs) b.0 b.1) ∙ ap digest_in b.2 ∙ e ∙ sym (digests a (middle before a xs)))

-- ---- at a member

module _ (s : Setting) (events : List Event) (n : ℕ) (seat : Seat) (at : slice_get (world_after s events).seats n ≡ Some seat) (run_is : IsHonestRun s events) (distinct : AreApart s.opening) where
  abbrev m : Member
  m = member_in s seat

  pub opens : OpensApart s events (member_in s seat)
  opens = opens-apart s events run_is distinct n seat at

  module _ (cuts : List Cut) (first : IsFront cuts m.sequence.cuts) (done : Each (IsBuilt m) cuts) where
    abbrev front : List Admitted
    front = flat_map admitted_in cuts

    abbrev steps : List Step
    steps = map (step_of m) front

    it : IsExecutedFront m front
    it = built-front s events n seat at cuts first done

    there : (a : Admitted) → Has front a → Has m.sequence.admission.admitted a
    there a h = subst (λ (bs : List Admitted). Has bs a) (sym it.is_front.1) (has_left front it.is_front.0 a h)

    given : (a : Admitted) → Has front a → IsGiven s.rules (all_delivered s events) m.epoch a.digest a.cert
    given a h = admitted-given s events run_is n seat at a (there a h)

    -- it is admitted under its transaction's digest (the same)
    pub digest-is : (a : Admitted) → Has (flat_map admitted_in cuts) a → a.digest ≡ transaction_digest a.cert.tx
    digest-is a h = (given a h).digest_is

    -- each transaction is that of a certificate which was delivered (safety_law: EveryAdmission)
    pub in-run : (txs : List Transaction) → ((c : Certificate) → Has (all_delivered s events) c → Has txs c.tx) → (a : Admitted) → Has (flat_map admitted_in cuts) a → Has txs a.cert.tx
    in-run txs within a h = within a.cert (given a h).comes

    orderly : AreOrderly m.opening steps
    orderly = steps-orderly s events run_is n seat at opens front it

    pub gone-over : IsGoneOver (member_in s seat).opening (map (step_of (member_in s seat)) (flat_map admitted_in cuts))
    gone-over = goes-over m.opening opens.distinct steps [] (record { orderly = tt; finds = tt; known = tt }) orderly

    -- only valid certificates are admitted, so each shape is valid (safety_law: EveryAdmission)
    shapes : (x : Step) → Has steps x → shape_fault x.tx ≡ None
    shapes x h =
        let a = has_mapped (step_of m) front x h in
        subst (λ (y : Step). shape_fault y.tx ≡ None) a.2 (valid_shape s.rules a.0.cert (given a.0 a.1).valid)

    new : Along IsNew [] steps
    new = along-new m m.opening front [] digest-is
        (along-front (IsInOrder m.opening) [] front it.is_front.0 (subst (λ (bs : List Admitted). Along (IsInOrder m.opening) [] bs) it.is_front.1 (every-admission s events n seat at).order))

    -- the steps may stand one after the other (safety_law: StepsOrderly; block_law: ChainReads)
    pub may-stand : Along (MayStand (member_in s seat).opening) [] (map (step_of (member_in s seat)) (flat_map admitted_in cuts))
    may-stand = along-four m.opening steps [] orderly (chain-reads m.opening steps opens.distinct orderly).reads shapes new

    -- the member has the item of the step (safety_law: ExecutedIsStep, and one execution for each digest)
    pub has-item : (a : Admitted) → Has (flat_map admitted_in cuts) a → item_of (member_in s seat).executed a ≡ item_in (step_of (member_in s seat) a)
    has-item a h = go (execution_of m.executed a.digest) refl (each_has (λ (x : Admitted). is_executed m.executed x.digest ≡ true) front a it.executed h)
      where
        as_item : Digest → Digest → Item
        as_item tx effects = record { tx = tx; effects = effects }

        go : (x : Option Execution) → execution_of m.executed a.digest ≡ x → is_some x ≡ true → as_item a.digest (effects_digest_of x) ≡ item_in (step_of m a)
        go None e is = absurd (cc)
        go (Some x) e is =
            ap (λ (d : Digest). as_item d (digest_of_effects x.gave.effects)) (digest-is a h)
            ∙ ap (λ (g : Executed). as_item (transaction_digest a.cert.tx) (digest_of_effects g.effects))
            (sym (one-gave s events run_is n seat at (executes_as (held_again a) (gave (step_of m a))) x (front-step s events run_is n seat at opens front it a h).executed
            (find_has (λ (y : Execution). digest_eq y.digest a.digest) m.executed x e)
            (sym (digest_same x.digest a.digest (find-test (λ (y : Execution). digest_eq y.digest a.digest) m.executed x e)))))
