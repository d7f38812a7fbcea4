-- What a member has built, handed in with the transactions of its certificates, is applied, if what it has of the epochs
-- before is.
use Rattle.std.proofs.Common.{inl, inr, refl, sym, subst, ap, ◌∙◌, append-nil, arith}
use Rattle.std.specs.Prelude.{◌≡◌, ◌⊎◌, ℕ, ◌+◌, Bool, true, false, List, [], ◌∷◌, ◌++◌, flat_map, map, slice_get, Some}
use Rattle.chain_types.specs.declared.objects.Object.{Object}
use Rattle.chain_types.specs.declared.transactions.Transaction.{Transaction}
use Rattle.chain_types.specs.Digests.{transaction_digest}
use Rattle.chain_messages.specs.declared.messages.Certificate.{Certificate}
use Rattle.chain_messages.specs.Messages as messages
use Rattle.checkpoint_core.specs.declared.checkpoints.Checkpoint.{Checkpoint}
use Rattle.schedule_text.specs.declared.words.Event.{Event}
use Rattle.protocol_spec.proofs.ListLemmas.{each_front, each_join, each_has, has_left, has_right, has_parts, flat_has}
use Rattle.protocol_spec.specs.Chain.Words.{Each, Has, IsFront}
use Rattle.protocol_spec.specs.Member.Admission.{Admitted}
use Rattle.protocol_spec.specs.Member.Sequence.{Cut}
use Rattle.protocol_spec.specs.Member.Sequential.{map_of}
use Rattle.protocol_spec.specs.Member.Checkpoints.{checkpoint_behind, is_done, item_of}
use Rattle.protocol_spec.specs.Member.Member.{Member, built}
use Rattle.world_spec.specs.Setting.{Setting}
use Rattle.world_spec.specs.World.{Seat, member_in}
use Rattle.world_spec.specs.Run.{world_after}
use Rattle.world_spec.specs.Assumptions.{IsHonestRun, all_delivered}
use Rattle.block_law.proofs.Steps.{map-append}
use Rattle.block_law.specs.Orderly.{AreApart}
use Rattle.block_law.proofs.ReadingSteps.{after_steps}
use Rattle.safety_law.specs.Checkpointed.{IsBuilt, admitted_in}
use Rattle.safety_law.specs.Steps.{step_of}
use Rattle.safety_law.specs.Thread.{transaction_of}
use Rattle.safety_law.proofs.Checkpointed.{all-cut}
use Rattle.safety_law.proofs.OneList.{AreDone, are-done}
use Rattle.safety_law.proofs.Prefixes.{follows}
use Rattle.safety_law.proofs.Thread.{map-twice, map-same}
use Rattle.safety_law.proofs.Turned.{CanTurn, has-all}
use Rattle.headline_law.proofs.Along.{past-before}
use Rattle.follower_core.specs.Courses.{Course}
use Rattle.follower_core.specs.Followed.{Handed}
use Rattle.follower_core.specs.Following.{AreApplied, State, behind_handed, opened, turned}
use Rattle.headline_law.specs.Followed.{IsHandedFrom, checkpoint_in, tx_listed}
use Rattle.headline_law.proofs.Cutting.{IsDone, applied-append, behind-append, chained-handed, handed_of, walk, walk-all, with_handed}
use Rattle.headline_law.proofs.Flags.{HasLast, IsFlagged, IsNotLast, seen-flag}
use Rattle.headline_law.proofs.Linking.{IsState, IsTip}
use Rattle.headline_law.proofs.Members.{digest-is, has-item, in-run, may-stand, opens}
use Rattle.safety_law.proofs.Totals.{each-all}

-- the prefix of a list with one more is a prefix of the list, or all
front-or-all : {A : Type 0} (xs rest ys : List A) (y : A) → xs ++ rest ≡ ys ++ y ∷ [] → IsFront xs ys ⊎ (xs ≡ ys ++ y ∷ [])
front-or-all [] rest ys y e = inl (ys, refl)
front-or-all {A = A} (x ∷ xs) rest [] y e = inr (one xs e)
  where
    one : (us : List A) → x ∷ (us ++ rest) ≡ y ∷ [] → x ∷ us ≡ y ∷ []
    one [] q = ap (λ (z : A). z ∷ []) (head rest q)
      where
        head : (vs : List A) → x ∷ vs ≡ y ∷ [] → x ≡ y
        head vs q = cc
    one (u ∷ us) q = absurd (cc)
front-or-all {A = A} (x ∷ xs) rest (z ∷ ys) y e = go (front-or-all xs rest ys y (tails (xs ++ rest) (ys ++ y ∷ []) e))
  where
    tails : (us vs : List A) → x ∷ us ≡ z ∷ vs → us ≡ vs
    tails us vs q = cc

    heads : (us vs : List A) → x ∷ us ≡ z ∷ vs → x ≡ z
    heads us vs q = cc

    same : x ≡ z
    same = heads (xs ++ rest) (ys ++ y ∷ []) e

    go : IsFront xs ys ⊎ (xs ≡ ys ++ y ∷ []) → IsFront (x ∷ xs) (z ∷ ys) ⊎ (x ∷ xs ≡ z ∷ (ys ++ y ∷ []))
    go (inl f) = inl (f.0, ap (λ (w : A). w ∷ ys) (sym same) ∙ ap (λ (us : List A). x ∷ us) f.1)
    go (inr q) = inr (ap (λ (w : A). w ∷ xs) same ∙ ap (λ (us : List A). z ∷ us) q)

-- ---- what is handed in

module _ (txs : List Transaction) (m : Member) where
  one-handed : (before : List Checkpoint) (c : Cut) → ((a : Admitted) → Has c.txs a → a.digest ≡ transaction_digest a.cert.tx) → ((a : Admitted) → Has c.txs a → Has txs a.cert.tx)
      → IsHandedFrom txs (record { checkpoint = checkpoint_behind m.epoch m.executed before c; txs = map transaction_of c.txs })
  unfolding checkpoint_behind
  one-handed before c digests known = record {
    listed = map-twice transaction_of transaction_digest c.txs
        ∙ map-same (λ (a : Admitted). transaction_digest a.cert.tx) (λ (a : Admitted). a.digest) c.txs (λ a h. sym (digests a h))
        ∙ sym (map-twice (item_of m.executed) tx_listed c.txs);
    known = each-mapped c.txs known;
  }
    where
      each-mapped : (bs : List Admitted) → ((a : Admitted) → Has bs a → Has txs a.cert.tx) → Each (Has txs) (map transaction_of bs)
      each-mapped [] all = tt
      each-mapped (b ∷ bs) all = (all b (inl refl), each-mapped bs (λ a h. all a (inr h)))

  all-handed : (cs : List Cut) (before : List Checkpoint) → ((a : Admitted) → Has (flat_map admitted_in cs) a → a.digest ≡ transaction_digest a.cert.tx) → ((a : Admitted) → Has (flat_map admitted_in cs) a → Has txs a.cert.tx)
      → Each (IsHandedFrom txs) (handed_of m before cs)
  all-handed [] before digests known = tt
  all-handed (c ∷ cs) before digests known = (
    one-handed before c (λ a h. digests a (has_left c.txs (flat_map admitted_in cs) a h)) (λ a h. known a (has_left c.txs (flat_map admitted_in cs) a h)),
    all-handed cs (before ++ checkpoint_behind m.epoch m.executed before c ∷ []) (λ a h. digests a (has_right c.txs (flat_map admitted_in cs) a h)) (λ a h. known a (has_right c.txs (flat_map admitted_in cs) a h)),
  )

-- ---- a follower after the checkpoints of the epochs before

-- these checkpoints, with transactions among these, are applied
pub record AreFollowed (s : Setting) (txs : List Transaction) (checkpoints : List Checkpoint) : Type 0 where
  pub handed : List Handed
  pub are : map checkpoint_in handed ≡ checkpoints
  pub each : Each (IsHandedFrom txs) handed
  pub applied : AreApplied (opened s.opening) handed

abbrev pub left_by : (s : Setting) (txs : List Transaction) (checkpoints : List Checkpoint) → AreFollowed s txs checkpoints → State
left_by s txs checkpoints f = behind_handed (opened s.opening) f.handed

abbrev pub fresh_course : List Object → Course
fresh_course opening = record { map = map_of opening; ran = []; gone = [] }

-- after the checkpoints of the epochs before a member's, a follower is where the member opened its epoch
pub record IsAtOpening (s : Setting) (txs : List Transaction) (m : Member) : Type 0 where
  pub past : AreFollowed s txs m.past
  pub course : (left_by s txs m.past past).course ≡ fresh_course m.opening
  pub tip : IsTip (left_by s txs m.past past).tip m.epoch m.past

-- after all checkpoints of an epoch that has ended, a follower is where the member's steps of that epoch lead
pub record IsAtEnd (s : Setting) (txs : List Transaction) (m : Member) : Type 0 where
  pub all : AreFollowed s txs (built m)
  pub objects : (left_by s txs (built m) all).course.map ≡ after_steps m.opening (map (step_of m) (flat_map admitted_in m.sequence.cuts))
  pub course : (left_by s txs (built m) all).course ≡ turned (left_by s txs (built m) all).course
  pub tip : IsTip (left_by s txs (built m) all).tip (m.epoch + 1) (built m)

module _ (s : Setting) (events : List Event) (n : ℕ) (seat : Seat) (at : slice_get (world_after s events).seats n ≡ Some seat) (run_is : IsHonestRun s events) (distinct : AreApart s.opening)
    (txs : List Transaction) (within : (c : Certificate) → Has (all_delivered s events) c → Has txs c.tx) (opening_is : IsAtOpening s txs (member_in s seat)) where
  abbrev m : Member
  m = member_in s seat

  apart : AreApart m.opening
  apart = (opens s events n seat at run_is distinct).distinct

  abbrev begun : State
  begun = left_by s txs m.past opening_is.past

  start : IsState m.opening apart m.epoch begun [] m.past
  start = record {
    course = record { objects = ap (λ (c : Course). c.map) opening_is.course; ran = ap (λ (c : Course). c.ran) opening_is.course; gone = λ id h. absurd (subst (λ (c : Course). Has c.gone id) opening_is.course h) };
    over = record { orderly = tt; finds = tt; known = tt };
    tip = opening_is.tip;
  }

  flagged : IsFlagged m.sequence
  flagged = let taken = follows s events n seat at in subst IsFlagged (sym taken.gives) (seen-flag s.rules m.opening m.epoch (map messages.entry.spell taken.front))

  module _ (cuts : List Cut) (first : IsFront cuts m.sequence.cuts) (done : Each (IsBuilt m) cuts) where
    going : Each IsNotLast cuts → AreApplied begun (handed_of m m.past cuts)
    going others = (walk m m.opening apart cuts begun [] m.past others (has-item s events n seat at run_is distinct cuts first done) start (may-stand s events n seat at run_is distinct cuts first done)).applied

    ending : HasLast cuts → IsDone m m.opening apart begun [] m.past cuts
    ending it = walk-all m m.opening apart cuts begun [] m.past it (has-item s events n seat at run_is distinct cuts first done) start (may-stand s events n seat at run_is distinct cuts first done)

    cuts-applied : AreApplied begun (handed_of m m.past cuts)
    cuts-applied = go m.sequence.ended refl
      where
        ended : HasLast m.sequence.cuts → AreApplied begun (handed_of m m.past cuts)
        ended it = part (front-or-all cuts first.0 it.before it.cut (sym first.1 ∙ it.are))
          where
            part : IsFront cuts it.before ⊎ (cuts ≡ it.before ++ it.cut ∷ []) → AreApplied begun (handed_of m m.past cuts)
            part (inl f) = going (each_front IsNotLast cuts f.0 (subst (Each IsNotLast) f.1 it.others))
            part (inr e) = (ending (record { before = it.before; cut = it.cut; are = e; others = it.others; last = it.last })).applied

        go : (b : Bool) → m.sequence.ended ≡ b → AreApplied begun (handed_of m m.past cuts)
        go true e = ended (flagged.ended e)
        go false e = going (each_front IsNotLast cuts first.0 (subst (Each IsNotLast) first.1 (flagged.going e)))

    abbrev handed_now : List Handed
    handed_now = opening_is.past.handed ++ handed_of m m.past cuts

    handed-are : map checkpoint_in handed_now ≡ with_handed m m.past cuts
    handed-are = map-append checkpoint_in opening_is.past.handed (handed_of m m.past cuts) ∙ ap (λ (cs : List Checkpoint). cs ++ map checkpoint_in (handed_of m m.past cuts)) opening_is.past.are

    are-followed : (all : List Checkpoint) → with_handed m m.past cuts ≡ all → AreFollowed s txs all
    are-followed all e = record {
      handed = handed_now;
      are = handed-are ∙ e;
      each = each_join (IsHandedFrom txs) opening_is.past.handed (handed_of m m.past cuts) opening_is.past.each
          (all-handed txs m cuts m.past (digest-is s events n seat at run_is distinct cuts first done) (in-run s events n seat at run_is distinct cuts first done txs within));
      applied = applied-append opening_is.past.handed (handed_of m m.past cuts) (opened s.opening) opening_is.past.applied cuts-applied;
    }

  -- what the member has built is applied
  pub built-followed : AreFollowed s txs (built (member_in s seat))
  unfolding built
  built-followed =
      let to = are-done m.epoch m.held m.executed m.sequence.cuts m.past in
      are-followed to.cuts to.front to.done (built m) (sym (to.is ∙ chained-handed m to.cuts m.past to.done))

  -- after all of its epoch the follower turns, if the epoch has ended and the member has built them all
  pub at-end : (member_in s seat).sequence.ended ≡ true → Each (IsBuilt (member_in s seat)) (member_in s seat).sequence.cuts → IsAtEnd s txs (member_in s seat)
  unfolding built are-followed
  at-end ended done =
      let whole : IsFront m.sequence.cuts m.sequence.cuts = ([], sym (append-nil m.sequence.cuts)) in
      let are : with_handed m m.past m.sequence.cuts ≡ built m = sym (chained-handed m m.sequence.cuts m.past done) in
      let end = ending m.sequence.cuts whole done (flagged.ended ended) in
      let then = sym (behind-append opening_is.past.handed (handed_of m m.past m.sequence.cuts) (opened s.opening)) in
      record {
        all = are-followed m.sequence.cuts whole done (built m) are;
        objects = ap (λ (t : State). t.course.map) (sym then) ∙ end.state.objects;
        course = subst (λ (t : State). t.course ≡ turned t.course) then end.state.course;
        tip = subst (λ (t : State). IsTip t.tip (m.epoch + 1) (built m)) then (subst (IsTip (behind_handed begun (handed_of m m.past m.sequence.cuts)).tip (m.epoch + 1)) are end.state.tip);
      }

-- ---- a member that has built all checkpoints of its epoch

-- the cut of a checkpoint
cut-of : (m : Member) (cs : List Cut) (before : List Checkpoint) (c : Checkpoint) → Has (map checkpoint_in (handed_of m before cs)) c → (d : Cut) × Has cs d × (d.last ≡ c.last)
unfolding checkpoint_behind
cut-of m [] before c h = absurd h
cut-of m (d ∷ cs) before c (inl e) = (d, inl refl, ap (λ (k : Checkpoint). k.last) e)
cut-of m (d ∷ cs) before c (inr h) = let rest = cut-of m cs (before ++ checkpoint_behind m.epoch m.executed before d ∷ []) c h in (rest.0, inr rest.1, rest.2)

module _ (s : Setting) (events : List Event) (n : ℕ) (seat : Seat) (at : slice_get (world_after s events).seats n ≡ Some seat) where
  abbrev member : Member
  member = member_in s seat

  abbrev HasEnded : Type 0
  HasEnded = (member.sequence.ended ≡ true) × Each (IsBuilt member) member.sequence.cuts

  -- if it can turn, it has
  pub turn-built : CanTurn (member_in s seat) → Each (IsBuilt (member_in s seat)) (member_in s seat).sequence.cuts
  turn-built can =
      let front = all-cut s events n seat at in
      each-all (IsBuilt member) member.sequence.cuts (λ c h. has-all (is_done member.held member.executed) c.txs (λ a k.
      can.done a (subst (λ (bs : List Admitted). Has bs a) (sym front.1) (has_left (flat_map admitted_in member.sequence.cuts) front.0 a (flat_has admitted_in member.sequence.cuts c a h k)))))

  flags : IsFlagged member.sequence
  flags = let taken = follows s events n seat at in subst IsFlagged (sym taken.gives) (seen-flag s.rules member.opening member.epoch (map messages.entry.spell taken.front))

  none-last : (cs : List Cut) (d : Cut) → Each IsNotLast cs → Has cs d → d.last ≡ true → ⊥
  none-last cs d others h last = let no = each_has IsNotLast cs d others h in cc

  -- if it has built the last one, the epoch has ended, and it has
  pub last-built : (c : Checkpoint) → Has (built (member_in s seat)) c → c.last ≡ true → c.epoch ≡ (member_in s seat).epoch
      → ((member_in s seat).sequence.ended ≡ true) × Each (IsBuilt (member_in s seat)) (member_in s seat).sequence.cuts
  unfolding built
  last-built c h last epoch = where_from (has_parts member.past (map checkpoint_in (handed_of member member.past to.cuts)) c (subst (λ (cs : List Checkpoint). Has cs c) (to.is ∙ chained-handed member to.cuts member.past to.done) h))
    where
      to : AreDone member.epoch member.held member.executed member.past member.sequence.cuts
      to = are-done member.epoch member.held member.executed member.sequence.cuts member.past

      with_cut : (d : Cut) → Has to.cuts d → d.last ≡ true → HasEnded
      with_cut d there is = go member.sequence.ended refl
        where
          part : (it : HasLast member.sequence.cuts) → member.sequence.ended ≡ true → IsFront to.cuts it.before ⊎ (to.cuts ≡ it.before ++ it.cut ∷ []) → HasEnded
          part it e (inl f) = absurd (none-last to.cuts d (each_front IsNotLast to.cuts f.0 (subst (Each IsNotLast) f.1 it.others)) there is)
          part it e (inr q) = (e, subst (Each (IsBuilt member)) (q ∙ sym it.are) to.done)

          go : (b : Bool) → member.sequence.ended ≡ b → HasEnded
          go true e = let it = flags.ended e in part it e (front-or-all to.cuts to.front.0 it.before it.cut (sym to.front.1 ∙ it.are))
          go false e = absurd (none-last to.cuts d (each_front IsNotLast to.cuts to.front.0 (subst (Each IsNotLast) to.front.1 (flags.going e))) there is)

      where_from : Has member.past c ⊎ Has (map checkpoint_in (handed_of member member.past to.cuts)) c → HasEnded
      where_from (inl k) = absurd (let less = past-before s.rules s.opening seat.records c k in omega (arith, less, epoch))
      where_from (inr k) = let d = cut-of member to.cuts member.past c k in with_cut d.0 d.1 (d.2 ∙ last)
