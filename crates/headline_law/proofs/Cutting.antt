-- The checkpoints of a member's cuts at a follower: each is applied.
use Rattle.std.proofs.Common.{refl, sym, subst, ap, ◌∙◌, append_assoc, append-nil}
use Rattle.std.proofs.lemmas.Bool.{cond-true}
use Rattle.std.specs.Prelude.{◌≡◌, Bool, true, false, List, [], ◌∷◌, ◌++◌, map, flat_map, None}
use Rattle.std.specs.List.{list_all}
use Rattle.chain_types.specs.declared.objects.Object.{Object}
use Rattle.chain_types.specs.declared.transactions.Transaction.{Transaction}
use Rattle.checkpoint_core.specs.declared.checkpoints.Checkpoint.{Checkpoint}
use Rattle.checkpoint_core.specs.declared.checkpoints.Item.{Item}
use Rattle.protocol_spec.proofs.ListLemmas.{has_left, has_right}
use Rattle.protocol_spec.specs.Chain.Words.{Along, Each, Has}
use Rattle.protocol_spec.specs.Member.Admission.{Admitted}
use Rattle.protocol_spec.specs.Member.Sequence.{Cut}
use Rattle.protocol_spec.specs.Member.Checkpoints.{chained, checkpoint_behind, is_done, item_of}
use Rattle.protocol_spec.specs.Member.Member.{Member}
use Rattle.block_law.proofs.Steps.{map-append}
use Rattle.block_law.specs.Orderly.{AreApart, Step, tx_of}
use Rattle.block_law.proofs.ReadingSteps.{along-back}
use Rattle.safety_law.specs.Checkpointed.{IsBuilt, admitted_in}
use Rattle.safety_law.specs.Steps.{step_of}
use Rattle.safety_law.specs.Thread.{transaction_of}
use Rattle.safety_law.proofs.Lists.{along-front}
use Rattle.safety_law.proofs.Thread.{map-twice, map-same}
use Rattle.follower_core.specs.Followed.{Handed}
use Rattle.follower_core.specs.Following.{AreApplied, State, behind_checkpoint, behind_handed, refusal_of}
use Rattle.headline_law.specs.Followed.{checkpoint_in}
use Rattle.headline_law.proofs.Flags.{HasLast, IsNotLast}
use Rattle.headline_law.proofs.Linking.{IsState, IsTurned, checkpoint_with, goes-on, not-refused, turns}
use Rattle.headline_law.proofs.Placing.{item_in}
use Rattle.headline_law.proofs.Stepping.{MayStand}

-- ---- lists of what is handed in

pub applied-append : (xs ys : List Handed) (s : State) → AreApplied s xs → AreApplied (behind_handed s xs) ys → AreApplied s (xs ++ ys)
applied-append [] ys s one two = two
applied-append (x ∷ xs) ys s one two = (one.0, applied-append xs ys (behind_checkpoint s x.checkpoint x.txs) one.1 two)

pub applied-front : (xs ys : List Handed) (s : State) → AreApplied s (xs ++ ys) → AreApplied s xs
applied-front [] ys s all = tt
applied-front (x ∷ xs) ys s all = (all.0, applied-front xs ys (behind_checkpoint s x.checkpoint x.txs) all.1)

pub applied-back : (xs ys : List Handed) (s : State) → AreApplied s (xs ++ ys) → AreApplied (behind_handed s xs) ys
applied-back [] ys s all = all
applied-back (x ∷ xs) ys s all = applied-back xs ys (behind_checkpoint s x.checkpoint x.txs) all.1

pub behind-append : (xs ys : List Handed) (s : State) → behind_handed s (xs ++ ys) ≡ behind_handed (behind_handed s xs) ys
behind-append [] ys s = refl
behind-append (x ∷ xs) ys s = behind-append xs ys (behind_checkpoint s x.checkpoint x.txs)

-- ---- the checkpoints of cuts, each with its transactions

module _ (m : Member) where
  abbrev pub next_behind : List Checkpoint → Cut → Checkpoint
  next_behind before c = checkpoint_behind m.epoch m.executed before c

  abbrev pub handed_of : List Checkpoint → List Cut → List Handed
  handed_of before [] = []
  handed_of before (c ∷ cs) = record { checkpoint = next_behind before c; txs = map transaction_of c.txs } ∷ handed_of (before ++ next_behind before c ∷ []) cs

  abbrev pub with_handed : List Checkpoint → List Cut → List Checkpoint
  with_handed before cs = before ++ map checkpoint_in (handed_of before cs)

  -- they are those that the member has built
  pub chained-handed : (cs : List Cut) (before : List Checkpoint) → Each (IsBuilt m) cs → chained m.epoch m.held m.executed before cs ≡ with_handed before cs
  chained-handed [] before done = sym (append-nil before)
  chained-handed (c ∷ cs) before done =
      cond-true (list_all (is_done m.held m.executed) c.txs) (chained m.epoch m.held m.executed (before ++ next_behind before c ∷ []) cs) before done.0
      ∙ chained-handed cs (before ++ next_behind before c ∷ []) done.1
      ∙ append_assoc before (next_behind before c ∷ []) (map checkpoint_in (handed_of (before ++ next_behind before c ∷ []) cs))

  handed-push : (cs : List Cut) (d : Cut) (before : List Checkpoint)
      → handed_of before (cs ++ d ∷ []) ≡ handed_of before cs ++ record { checkpoint = next_behind (with_handed before cs) d; txs = map transaction_of d.txs } ∷ []
  handed-push [] d before = ap (λ (cs : List Checkpoint). handed_of cs (d ∷ [])) (sym (append-nil before))
  handed-push (c ∷ cs) d before =
      ap (λ (hs : List Handed). record { checkpoint = next_behind before c; txs = map transaction_of c.txs } ∷ hs) (handed-push cs d (before ++ next_behind before c ∷ [])
      ∙ ap (λ (ds : List Checkpoint). handed_of (before ++ next_behind before c ∷ []) cs ++ record { checkpoint = next_behind ds d; txs = map transaction_of d.txs } ∷ [])
      (append_assoc before (next_behind before c ∷ []) (map checkpoint_in (handed_of (before ++ next_behind before c ∷ []) cs))))

  module _ (opening : List Object) (distinct : AreApart opening) where
    abbrev steps_of : List Admitted → List Step
    steps_of txs = map (step_of m) txs

    -- the member has the item that the step gives
    abbrev pub HasItem : Admitted → Type 0
    HasItem a = item_of m.executed a ≡ item_in (step_of m a)

    -- ---- one cut

    module _ (s : State) (steps : List Step) (before : List Checkpoint) (is : IsState opening distinct m.epoch s steps before) (c : Cut) (items : (a : Admitted) → Has c.txs a → HasItem a) (may : Along (MayStand opening) steps (steps_of c.txs)) where
      abbrev listed : Bool → Checkpoint
      listed last = checkpoint_with m.epoch before (map item_in (steps_of c.txs)) last

      cut-is : (last : Bool) → c.last ≡ last → next_behind before c ≡ listed last
      unfolding checkpoint_behind
      cut-is last e =
          ap (λ (is : List Item). checkpoint_with m.epoch before is c.last) (map-same (item_of m.executed) (λ (a : Admitted). item_in (step_of m a)) c.txs items ∙ sym (map-twice (step_of m) item_in c.txs))
          ∙ ap listed e

      txs-are : map transaction_of c.txs ≡ map tx_of (steps_of c.txs)
      txs-are = sym (map-twice (step_of m) tx_of c.txs)

      cut-applied : (last : Bool) → c.last ≡ last → refusal_of s (next_behind before c) (map transaction_of c.txs) ≡ None
      cut-applied last e =
          ap (λ (k : Checkpoint). refusal_of s k (map transaction_of c.txs)) (cut-is last e) ∙ ap (refusal_of s (listed last)) txs-are
          ∙ not-refused opening distinct m.epoch s steps before is (steps_of c.txs) may last

      cut-goes-on : c.last ≡ false → IsState opening distinct m.epoch (behind_checkpoint s (next_behind before c) (map transaction_of c.txs)) (steps ++ steps_of c.txs) (before ++ next_behind before c ∷ [])
      cut-goes-on e =
          subst (λ (k : Checkpoint). IsState opening distinct m.epoch (behind_checkpoint s k (map transaction_of c.txs)) (steps ++ steps_of c.txs) (before ++ k ∷ [])) (sym (cut-is false e))
          (subst (λ (ts : List Transaction). IsState opening distinct m.epoch (behind_checkpoint s (listed false) ts) (steps ++ steps_of c.txs) (before ++ listed false ∷ [])) (sym txs-are)
          (goes-on opening distinct m.epoch s steps before is (steps_of c.txs) may))

      cut-turns : c.last ≡ true → IsTurned opening distinct m.epoch (behind_checkpoint s (next_behind before c) (map transaction_of c.txs)) (steps ++ steps_of c.txs) (before ++ next_behind before c ∷ [])
      cut-turns e =
          subst (λ (k : Checkpoint). IsTurned opening distinct m.epoch (behind_checkpoint s k (map transaction_of c.txs)) (steps ++ steps_of c.txs) (before ++ k ∷ [])) (sym (cut-is true e))
          (subst (λ (ts : List Transaction). IsTurned opening distinct m.epoch (behind_checkpoint s (listed true) ts) (steps ++ steps_of c.txs) (before ++ listed true ∷ [])) (sym txs-are)
          (turns opening distinct m.epoch s steps before is (steps_of c.txs) may))

    -- ---- cuts of which none is the last of its epoch

    abbrev all_steps : List Cut → List Step
    all_steps cs = steps_of (flat_map admitted_in cs)

    pub record IsWalked (s : State) (steps : List Step) (before : List Checkpoint) (cs : List Cut) : Type 0 where
      pub applied : AreApplied s (handed_of before cs)
      pub state : IsState opening distinct m.epoch (behind_handed s (handed_of before cs)) (steps ++ all_steps cs) (with_handed before cs)

    steps-split : (c : Cut) (cs : List Cut) → all_steps (c ∷ cs) ≡ steps_of c.txs ++ all_steps cs
    steps-split c cs = map-append (step_of m) c.txs (flat_map admitted_in cs)

    pub walk : (cs : List Cut) (s : State) (steps : List Step) (before : List Checkpoint) → Each IsNotLast cs → ((a : Admitted) → Has (flat_map admitted_in cs) a → HasItem a)
        → IsState opening distinct m.epoch s steps before → Along (MayStand opening) steps (all_steps cs) → IsWalked s steps before cs
    walk [] s steps before others items is may = record {
      applied = tt;
      state = subst (λ (xs : List Step). IsState opening distinct m.epoch s xs (before ++ [])) (sym (append-nil steps))
          (subst (IsState opening distinct m.epoch s steps) (sym (append-nil before)) is);
    }
    walk (c ∷ cs) s steps before others items is may =
        let split = subst (Along (MayStand opening) steps) (steps-split c cs) may in
        let here = along-front (MayStand opening) steps (steps_of c.txs) (all_steps cs) split in
        let later = along-back opening (MayStand opening) steps (steps_of c.txs) (all_steps cs) split in
        let own = λ (a : Admitted) (h : Has c.txs a). items a (has_left c.txs (flat_map admitted_in cs) a h) in
        let next = before ++ next_behind before c ∷ [] in
        let rest = walk cs (behind_checkpoint s (next_behind before c) (map transaction_of c.txs)) (steps ++ steps_of c.txs) next others.1 (λ a h. items a (has_right c.txs (flat_map admitted_in cs) a h))
        (cut-goes-on s steps before is c own here others.0) later in
        record {
          applied = (cut-applied s steps before is c own here false others.0, rest.applied);
          state =
              subst (λ (ds : List Checkpoint). IsState opening distinct m.epoch (behind_handed s (handed_of before (c ∷ cs))) (steps ++ all_steps (c ∷ cs)) ds) (append_assoc before (next_behind before c ∷ []) (map checkpoint_in (handed_of next cs)))
              (subst (λ (xs : List Step). IsState opening distinct m.epoch (behind_handed s (handed_of before (c ∷ cs))) xs (with_handed next cs))
              (append_assoc steps (steps_of c.txs) (all_steps cs) ∙ ap (λ (xs : List Step). steps ++ xs) (sym (steps-split c cs))) rest.state);
        }

    -- ---- all cuts of an epoch that has ended

    pub record IsDone (s : State) (steps : List Step) (before : List Checkpoint) (cs : List Cut) : Type 0 where
      pub applied : AreApplied s (handed_of before cs)
      pub state : IsTurned opening distinct m.epoch (behind_handed s (handed_of before cs)) (steps ++ all_steps cs) (with_handed before cs)

    flat-push : (cs : List Cut) (c : Cut) → flat_map admitted_in (cs ++ c ∷ []) ≡ flat_map admitted_in cs ++ c.txs
    flat-push [] c = append-nil c.txs
    flat-push (d ∷ cs) c = ap (λ (bs : List Admitted). d.txs ++ bs) (flat-push cs c) ∙ sym (append_assoc d.txs (flat_map admitted_in cs) c.txs)

    steps-push : (cs : List Cut) (c : Cut) → all_steps (cs ++ c ∷ []) ≡ all_steps cs ++ steps_of c.txs
    steps-push cs c = ap steps_of (flat-push cs c) ∙ map-append (step_of m) (flat_map admitted_in cs) c.txs

    done-push : (cs : List Cut) (c : Cut) (s : State) (steps : List Step) (before : List Checkpoint) → Each IsNotLast cs → c.last ≡ true → ((a : Admitted) → Has (flat_map admitted_in (cs ++ c ∷ [])) a → HasItem a)
        → IsState opening distinct m.epoch s steps before → Along (MayStand opening) steps (all_steps (cs ++ c ∷ [])) → IsDone s steps before (cs ++ c ∷ [])
    done-push cs c s steps before others last items is may =
        let split = subst (Along (MayStand opening) steps) (steps-push cs c) may in
        let has = λ (a : Admitted) (h : Has (flat_map admitted_in cs ++ c.txs) a). items a (subst (λ (bs : List Admitted). Has bs a) (sym (flat-push cs c)) h) in
        let first = walk cs s steps before others (λ a h. has a (has_left (flat_map admitted_in cs) c.txs a h)) is (along-front (MayStand opening) steps (all_steps cs) (steps_of c.txs) split) in
        let own = λ (a : Admitted) (h : Has c.txs a). has a (has_right (flat_map admitted_in cs) c.txs a h) in
        let here = along-back opening (MayStand opening) steps (all_steps cs) (steps_of c.txs) split in
        let then : State = behind_handed s (handed_of before cs) in
        let whole : List Checkpoint = with_handed before cs in
        let one : List Handed = record { checkpoint = next_behind whole c; txs = map transaction_of c.txs } ∷ [] in
        let is_pushed : handed_of before (cs ++ c ∷ []) ≡ handed_of before cs ++ one = handed-push cs c before in
        record {
          applied = subst (AreApplied s) (sym is_pushed) (applied-append (handed_of before cs) one s first.applied (cut-applied then (steps ++ all_steps cs) whole first.state c own here true last, tt));
          state =
              subst (λ (hs : List Handed). IsTurned opening distinct m.epoch (behind_handed s hs) (steps ++ all_steps (cs ++ c ∷ [])) (before ++ map checkpoint_in hs)) (sym is_pushed)
              (subst (λ (t : State). IsTurned opening distinct m.epoch t (steps ++ all_steps (cs ++ c ∷ [])) (before ++ map checkpoint_in (handed_of before cs ++ one))) (sym (behind-append (handed_of before cs) one s))
              (subst (λ (ds : List Checkpoint). IsTurned opening distinct m.epoch (behind_handed then one) (steps ++ all_steps (cs ++ c ∷ [])) ds)
              (append_assoc before (map checkpoint_in (handed_of before cs)) (next_behind whole c ∷ []) ∙ ap (λ (ds : List Checkpoint). before ++ ds) (sym (map-append checkpoint_in (handed_of before cs) one)))
              (subst (λ (xs : List Step). IsTurned opening distinct m.epoch (behind_handed then one) xs (whole ++ next_behind whole c ∷ []))
              (append_assoc steps (all_steps cs) (steps_of c.txs) ∙ ap (λ (xs : List Step). steps ++ xs) (sym (steps-push cs c)))
              (cut-turns then (steps ++ all_steps cs) whole first.state c own here last))));
        }

    pub walk-all : (cs : List Cut) (s : State) (steps : List Step) (before : List Checkpoint) → HasLast cs → ((a : Admitted) → Has (flat_map admitted_in cs) a → HasItem a)
        → IsState opening distinct m.epoch s steps before → Along (MayStand opening) steps (all_steps cs) → IsDone s steps before cs
    walk-all cs s steps before it items is may =
        subst (IsDone s steps before) (sym it.are) (done-push it.before it.cut s steps before it.others it.last
        (λ a h. items a (subst (λ (ds : List Cut). Has (flat_map admitted_in ds) a) (sym it.are) h)) is
        (subst (λ (ds : List Cut). Along (MayStand opening) steps (all_steps ds)) it.are may))
