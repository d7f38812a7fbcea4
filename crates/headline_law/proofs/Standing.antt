-- What a quorum acknowledged stands in a checkpoint of its epoch at each member that left it: an honest member is among
-- those who acknowledged it and among those whose End was counted.
use Rattle.std.proofs.Common.{inl, inr, refl, sym, subst, ap, ◌∙◌, arith, append_assoc}
use Rattle.std.proofs.lemmas.Bool.{cond-true, eqb-true}
use Rattle.std.specs.Prelude.{◌≡◌, ◌⊎◌, ◌<◌, ◌≤◌, ℕ, true, false, ◌==◌, List, [], ◌∷◌, ◌++◌, flat_map, length, map, slice_get, Option, Some, None, is_some}
use Rattle.std.specs.List.{list_all}
use Rattle.digest_core.specs.declared.Digest.{Digest}
use Rattle.chain_types.specs.Equal.{digest_eq}
use Rattle.chain_messages.specs.declared.messages.Statement.TheVariants as statement
use Rattle.chain_messages.specs.declared.messages.Entry.{Entry}
use Rattle.chain_messages.specs.Messages as messages
use Rattle.checkpoint_core.specs.declared.checkpoints.Item.{Item}
use Rattle.checkpoint_core.specs.declared.checkpoints.Checkpoint.{Checkpoint}
use Rattle.effects_core.specs.Effects.{digest_of_effects}
use Rattle.protocol_spec.specs.declared.pieces.Executed.{Executed}
use Rattle.protocol_spec.specs.declared.answers.Held.{Held}
use Rattle.journal_core.specs.declared.records.Record.{Record}
use Rattle.schedule_text.specs.declared.words.Event.{Event}
use Rattle.protocol_spec.proofs.Equality.{digest_same}
use Rattle.protocol_spec.specs.Chain.Words.{Has, IsFront}
use Rattle.protocol_spec.specs.Chain.Committee.{is_among, is_quorum, weight}
use Rattle.protocol_spec.specs.Chain.Certificates.{Rules}
use Rattle.protocol_spec.proofs.ListLemmas.{and-first, find-test, find_has, each_has, push_has, has_left, has_mapped, front_whole, has_map, flat_has}
use Rattle.protocol_spec.specs.Member.Versions.{Execution, execution_of, is_executed}
use Rattle.protocol_spec.specs.Member.Admission.{Admitted, is_admitted}
use Rattle.protocol_spec.specs.Member.Sequence.{Cut, Sequence, seen}
use Rattle.protocol_spec.specs.Member.Checkpoints.{chained, checkpoint_behind, effects_digest_of, held_of, is_done, item_of, names_same_origins}
use Rattle.protocol_spec.specs.Member.Member.{Member, built, state}
use Rattle.schedule_text.specs.declared.words.Setup.{Setup}
use Rattle.world_spec.specs.Setting.{Setting, Trust, setting_of}
use Rattle.world_spec.specs.World.{Seat, entries_at, member_in}
use Rattle.world_spec.specs.Run.{world_after}
use Rattle.world_spec.specs.Assumptions.{IsFinal, IsHonestRun, is_faulty_in, HasSaid}
use Rattle.safety_law.proofs.Fronts.{honest-front}
use Rattle.safety_law.proofs.Grown.{statement-grows}
use Rattle.safety_law.proofs.Journals.{every-record}
use Rattle.safety_law.proofs.Meeting.{two_meet}
use Rattle.safety_law.proofs.Owner.{honest-after}
use Rattle.safety_law.proofs.Voted.{seat-of}
use Rattle.block_law.proofs.Live.{any-has, has-flat}
use Rattle.block_law.specs.Orderly.{AreApart}
use Rattle.safety_law.specs.Agreed.{IsTaken}
use Rattle.safety_law.specs.Checkpointed.{admitted_in}
use Rattle.safety_law.proofs.AgreedEpochs.{members-agree}
use Rattle.safety_law.proofs.Ended.{seen-ended}
use Rattle.safety_law.proofs.Opened.{grows-after}
use Rattle.safety_law.proofs.Prefixes.{earlier-front, either-front, follows, more-taken}
use Rattle.safety_law.proofs.SetUp.{set-up-apart}
use Rattle.safety_law.proofs.Turned.{CanTurn, has-all}
use Rattle.headline_law.specs.Ended.{IsWhole}
use Rattle.headline_law.specs.Final.{StandsForGood, StandsIn}
use Rattle.headline_law.specs.Stated.{HasExecuted, IsSettled, WasOnce}
use Rattle.headline_law.proofs.Admitting.{executed-admitted}
use Rattle.headline_law.proofs.Counting.{counted-stated}
use Rattle.headline_law.proofs.Ending.{ends-whole}
use Rattle.headline_law.proofs.Saying.{every-ack, every-end}
use Rattle.headline_law.proofs.Settling.{still-executed, still-settled}
use Rattle.headline_law.proofs.Along.{IsOfCuts, PastIsBefore, built-from, chained-more, epoch-grows, past-before}
use Rattle.headline_law.proofs.Turning.{HasLeft, IsLast, last-moment, left-epoch}

-- ---- lists

pub among-has : (xs : List ℕ) (m : ℕ) → is_among xs m ≡ true → Has xs m
among-has xs m e = let x = any-has (λ (n : ℕ). n == m) xs e in subst (Has xs) (eqb-true x.0 m x.2) x.1

pub front-has : {A : Type 0} (xs ys : List A) (x : A) → IsFront xs ys → Has xs x → Has ys x
front-has {A = A} xs ys x (more, e) h = subst (λ (zs : List A). Has zs x) (sym e) (has_left xs more x h)

-- ---- which members are honest

-- ---- the checkpoints of cuts that are done

record IsOfCut (epoch : ℕ) (executed : List Execution) (c : Cut) (checkpoints : List Checkpoint) : Type 0 where
  checkpoint : Checkpoint
  among : Has checkpoints checkpoint
  epoch_is : checkpoint.epoch ≡ epoch
  items : checkpoint.items ≡ map (item_of executed) c.txs

module _ (epoch : ℕ) (held : List Held) (executed : List Execution) (c : Cut) where
  first-of : (before : List Checkpoint) (cs : List Cut) → IsOfCut epoch executed c (chained epoch held executed (before ++ checkpoint_behind epoch executed before c ∷ []) cs)
  unfolding checkpoint_behind
  first-of before cs = record {
    checkpoint = checkpoint_behind epoch executed before c;
    among = front-has (before ++ checkpoint_behind epoch executed before c ∷ []) (chained epoch held executed (before ++ checkpoint_behind epoch executed before c ∷ []) cs) (checkpoint_behind epoch executed before c)
        (chained-more epoch held executed cs (before ++ checkpoint_behind epoch executed before c ∷ [])) (push_has before (checkpoint_behind epoch executed before c));
    epoch_is = refl;
    items = refl;
  }

  chained-has : (cuts : List Cut) (before : List Checkpoint) → ((d : Cut) → Has cuts d → list_all (is_done held executed) d.txs ≡ true) → Has cuts c → IsOfCut epoch executed c (chained epoch held executed before cuts)
  chained-has [] before done h = absurd h
  chained-has (d ∷ cs) before done h =
      subst (IsOfCut epoch executed c) (sym (cond-true (list_all (is_done held executed) d.txs) (chained epoch held executed (before ++ checkpoint_behind epoch executed before d ∷ []) cs) before (done d (inl refl)))) (go h (λ k. chained-has cs (before ++ checkpoint_behind epoch executed before d ∷ []) (λ x y. done x (inr y)) k))
    where
      go : Has (d ∷ cs) c → (Has cs c → IsOfCut epoch executed c (chained epoch held executed (before ++ checkpoint_behind epoch executed before d ∷ []) cs)) → IsOfCut epoch executed c (chained epoch held executed (before ++ checkpoint_behind epoch executed before d ∷ []) cs)
      go (inl same) rest = subst (λ (x : Cut). IsOfCut epoch executed c (chained epoch held executed (before ++ checkpoint_behind epoch executed before x ∷ []) cs)) (sym same) (first-of before cs)
      go (inr k) rest = rest k

-- a member that can turn has built a checkpoint with each transaction that it admitted, with its effects
module _ (p : Member) (can : CanTurn p) (whole : flat_map admitted_in p.sequence.cuts ≡ p.sequence.admission.admitted) where
  cut-done : (d : Cut) → Has p.sequence.cuts d → list_all (is_done p.held p.executed) d.txs ≡ true
  cut-done d h = has-all (is_done p.held p.executed) d.txs (λ a k. can.done a (subst (λ (zs : List Admitted). Has zs a) whole (flat_has admitted_in p.sequence.cuts d a h k)))

  admitted-stands : (before : PastIsBefore p) (a : Admitted) (effects : Digest) → Has p.sequence.admission.admitted a → effects_digest_of (execution_of p.executed a.digest) ≡ effects → StandsIn (built p) p.epoch a.digest effects
  unfolding built
  admitted-stands before a effects h e =
      let c = has-flat admitted_in p.sequence.cuts a (subst (λ (zs : List Admitted). Has zs a) (sym whole) h) in
      let it = chained-has p.epoch p.held p.executed c.0 p.sequence.cuts p.past cut-done c.1 in
      record {
        checkpoint = it.checkpoint;
        among = it.among;
        epoch_is = it.epoch_is;
        item = subst (λ (d : Digest). Has it.checkpoint.items (record { tx = a.digest; effects = d })) e (subst (λ (is : List Item). Has is (item_of p.executed a)) (sym it.items) (has_map (item_of p.executed) c.0.txs a c.2));
        only = λ d k same i there named. each-same d (built-from p d k) same i there named ∙ e;
      }
    where
      -- an item of a checkpoint of the epoch has the effects that the member has of its transaction
      each-same : (d : Checkpoint) → Has p.past d ⊎ IsOfCuts p.epoch p.executed d → d.epoch ≡ p.epoch → (i : Item) → Has d.items i → i.tx ≡ a.digest → i.effects ≡ effects_digest_of (execution_of p.executed a.digest)
      each-same d (inl k) same i there named = absurd (let less = before d k in omega (arith, less, same))
      each-same d (inr of) same i there named =
          let b = has_mapped (item_of p.executed) of.of.txs i (subst (λ (is : List Item). Has is i) of.items there) in
          ap (λ (x : Item). x.effects) (sym b.2) ∙ ap (λ (tx : Digest). effects_digest_of (execution_of p.executed tx)) (ap (λ (x : Item). x.tx) b.2 ∙ named)

-- ---- of an ended epoch a member has admitted what any other has

pub ended-has-all : (r : Rules) (entries : List Entry) (p q : Member) → IsTaken r entries p → IsTaken r entries q → q.epoch ≡ p.epoch → q.opening ≡ p.opening → p.sequence.ended ≡ true → IsFront q.sequence.admission.admitted p.sequence.admission.admitted
ended-has-all r entries p q one two epoch opening ended = go (either-front one.front two.front one.is_front.0 two.is_front.0 (sym one.is_front.1 ∙ two.is_front.1))
  where
    gives : q.sequence ≡ seen r p.opening p.epoch (map messages.entry.spell two.front)
    gives = two.gives ∙ rw (epoch, opening) refl

    Front : Sequence → Sequence → Type 0
    Front a b = IsFront a.admission.admitted b.admission.admitted

    go : IsFront one.front two.front ⊎ IsFront two.front one.front → Front q.sequence p.sequence
    go (inl more) =
        let same = gives ∙ seen-ended r p.opening p.epoch one.front two.front more (subst (λ (z : Sequence). z.ended ≡ true) one.gives ended) ∙ sym one.gives in
        subst (λ (z : Sequence). Front z p.sequence) (sym same) (front_whole p.sequence.admission.admitted)
    go (inr less) = subst (λ (z : Sequence). Front z p.sequence) (sym gives) (subst (Front (seen r p.opening p.epoch (map messages.entry.spell two.front))) (sym one.gives)
        (earlier-front r p.opening p.epoch two.front one.front less).admitted)

-- ---- the member that is among both

-- an honest member, with its journal at the end of the run
record IsBetween (s : Setting) (events : List Event) (epoch : ℕ) (tx effects : Digest) : Type 0 where
  member : ℕ
  seat : Seat
  at : slice_get (world_after s events).seats member ≡ Some seat
  acked : WasOnce s seat.records (HasExecuted epoch tx effects)
  ended : WasOnce s seat.records (IsSettled epoch)

-- at some moment it had executed the transaction with these effects, and admitted it
record HasAdmitted (s : Setting) (events : List Event) (epoch : ℕ) (tx effects : Digest) : Type 0 where
  front : List Event
  back : List Event
  whole : front ++ back ≡ events
  member : ℕ
  seat : Seat
  at : slice_get (world_after s front).seats member ≡ Some seat
  had : HasExecuted epoch tx effects (member_in s seat)
  admitted : is_admitted (member_in s seat).sequence.admission.admitted had.of.digest ≡ true

module _ (s : Setting) (events : List Event) (run_is : IsHonestRun s events) (epoch : ℕ) (tx effects : Digest) where
  -- the last moment of that member in the epoch has all of it
  between-admitted : IsBetween s events epoch tx effects → HasAdmitted s events epoch tx effects
  between-admitted b = go (last-moment s events b.member b.seat b.at epoch low)
    where
      low : epoch ≤ (member_in s b.seat).epoch
      low =
          let early = b.acked.held.epoch_is in
          let grows = subst (λ (rs : List Record). (state s.rules s.opening b.acked.front).epoch ≤ (state s.rules s.opening rs).epoch) (sym b.acked.whole) (epoch-grows s.rules s.opening b.acked.back b.acked.front) in
          omega (arith, early, grows)

      go : IsLast s events b.seat.records epoch → HasAdmitted s events epoch tx effects
      go l = record { front = l.front; back = l.back; whole = l.whole; member = l.member; seat = l.seat; at = l.there; had = had; admitted = executed-admitted s l.front honest l.member l.seat l.there settled had.of had.there }
        where
          honest : IsHonestRun s l.front
          honest = honest-front s l.front l.back (subst (IsHonestRun s) (sym l.whole) run_is)

          had : HasExecuted epoch tx effects (member_in s l.seat)
          had = still-executed s.rules s.opening l.seat.records (every-record s l.front l.member l.seat l.there) b.acked.front
              (l.covers b.acked.front (b.acked.back, b.acked.whole) b.acked.held.epoch_is) epoch b.acked.held.epoch_is l.epoch_is tx effects b.acked.held

          in_epoch : IsSettled epoch (member_in s l.seat)
          in_epoch = still-settled s.rules s.opening l.seat.records (every-record s l.front l.member l.seat l.there) b.ended.front
              (l.covers b.ended.front (b.ended.back, b.ended.whole) b.ended.held.epoch_is) epoch b.ended.held.epoch_is l.epoch_is b.ended.held

          settled : IsSettled (member_in s l.seat).epoch (member_in s l.seat)
          settled = record { epoch_is = refl; closed = in_epoch.closed; known = in_epoch.known }

-- ---- two moments of a run

module _ (s : Setting) (events : List Event) (run_is : IsHonestRun s events) (distinct : AreApart s.opening)
    (f g back rest : List Event) (first : f ++ back ≡ events) (second : g ++ rest ≡ events)
    (m n : ℕ) (a b : Seat) (at : slice_get (world_after s f).seats m ≡ Some a) (by : slice_get (world_after s g).seats n ≡ Some b) (epoch : (member_in s a).epoch ≡ (member_in s b).epoch) where
  abbrev pub p : Member
  p = member_in s a

  abbrev pub q : Member
  q = member_in s b

  -- in whichever order they come
  pub record AreAlike : Type 0 where
    pub openings : p.opening ≡ q.opening
    pub executions : (x y : Execution) → Has p.executed x → Has q.executed y → x.digest ≡ y.digest → x.gave ≡ y.gave

  honest-to : (h more : List Event) → h ++ more ≡ events → IsHonestRun s h
  honest-to h more e = honest-front s h more (subst (IsHonestRun s) (sym e) run_is)

  pub are-alike : AreAlike
  are-alike = go (either-front f g back rest (first ∙ sym second))
    where
      go : IsFront f g ⊎ IsFront g f → AreAlike
      go (inl (more, e)) =
          let agree = members-agree s f more (subst (IsHonestRun s) e (honest-to g rest second)) distinct m n a b at (subst (λ (es : List Event). slice_get (world_after s es).seats n ≡ Some b) e by) epoch in
          record { openings = agree.openings; executions = agree.executions }
      go (inr (more, e)) =
          let agree = members-agree s g more (subst (IsHonestRun s) e (honest-to f back first)) distinct n m b a by (subst (λ (es : List Event). slice_get (world_after s es).seats m ≡ Some a) e at) (sym epoch) in
          record { openings = sym agree.openings; executions = λ x y h k d. sym (agree.executions y x k h (sym d)) }

  taken-by : (h more : List Event) → h ++ more ≡ events → (k : ℕ) (seat : Seat) → slice_get (world_after s h).seats k ≡ Some seat → IsTaken s.rules (entries_at (world_after s events).sequences (member_in s seat).epoch) (member_in s seat)
  taken-by h more e k seat there = subst (λ (es : List Event). IsTaken s.rules (entries_at (world_after s es).sequences (member_in s seat).epoch) (member_in s seat)) e
      (more-taken s.rules (world_after s h).sequences (world_after s (h ++ more)).sequences (member_in s seat) (grows-after s h more) (follows s h k seat there))

  -- the first saw the end of the epoch, so it admitted what the second did
  admitted-too : p.sequence.ended ≡ true → IsFront q.sequence.admission.admitted p.sequence.admission.admitted
  admitted-too ended = ended-has-all s.rules (entries_at (world_after s events).sequences p.epoch) p q (taken-by f back first m a at)
      (subst (λ (e : ℕ). IsTaken s.rules (entries_at (world_after s events).sequences e) q) (sym epoch) (taken-by g rest second n b by)) (sym epoch) (sym are-alike.openings) ended

-- ---- the transaction stands

module _ (s : Setting) (front back : List Event) (run_is : IsHonestRun s (front ++ back)) (distinct : AreApart s.opening) (epoch : ℕ) (tx effects : Digest) (members : List ℕ)
    (quorum : is_quorum s.rules.stakes (weight s.rules.stakes members) ≡ true)
    (said : (m : ℕ) → Has members m → HasSaid (world_after s (front ++ back)) m (statement.Ack epoch tx effects))
    (m : ℕ) (seat : Seat) (at : slice_get (world_after s front).seats m ≡ Some seat) (less : epoch < (member_in s seat).epoch) where
  abbrev all : List Event
  all = front ++ back

  left : HasLeft s front seat.records epoch
  left = left-epoch s front m seat at epoch less

  abbrev turn : IsLast s front seat.records epoch
  turn = left.last

  abbrev turner : Member
  turner = member_in s turn.seat

  -- the turn is a moment of the whole run
  abbrev rest : List Event
  rest = turn.back ++ back

  joined : turn.front ++ rest ≡ all
  joined = sym (append_assoc turn.front turn.back back) ∙ ap (λ (es : List Event). es ++ back) turn.whole

  whole : IsWhole s.rules turner.sequence
  whole =
      let taken = follows s turn.front turn.member turn.seat turn.there in
      subst (IsWhole s.rules) (sym taken.gives) (ends-whole s.rules turner.opening turner.epoch (map messages.entry.spell taken.front) (subst (λ (z : Sequence). z.ended ≡ true) taken.gives left.can.ended))

  -- an honest member whose End was counted stated it
  stated-end : (k : ℕ) → is_faulty_in s.honest k ≡ false → Has turner.sequence.counted k → HasSaid (world_after s all) k (statement.End epoch)
  stated-end k sound h =
      let honest = honest-front s turn.front rest (subst (IsHonestRun s) (sym joined) run_is) in
      let told = counted-stated s turn.front honest.no_forgery turn.member turn.seat turn.there k h (honest-after s turn.front k sound) in
      subst (λ (es : List Event). HasSaid (world_after s es) k (statement.End epoch)) joined
      (statement-grows s turn.front rest k (statement.End epoch) (subst (λ (e : ℕ). HasSaid (world_after s turn.front) k (statement.End e)) turn.epoch_is told))

  between : IsBetween s all epoch tx effects
  between = go (two_meet s.rules.stakes (is_among turner.sequence.counted) (is_among members) (is_faulty_in s.honest) whole.quorum quorum run_is.few_faulty)
    where
      go : (k : ℕ) × (k < length s.rules.stakes) × (is_among turner.sequence.counted k ≡ true) × (is_among members k ≡ true) × (is_faulty_in s.honest k ≡ false) → IsBetween s all epoch tx effects
      go (k, low, counted, among, sound) =
          let there = seat-of s all run_is k (honest-after s all k sound) in
          record {
            member = k;
            seat = there.0;
            at = there.1;
            acked = every-ack s all k there.0 there.1 there.2 epoch tx effects (said k (among-has members k among));
            ended = every-end s all k there.0 there.1 there.2 epoch (stated-end k sound (among-has turner.sequence.counted k counted));
          }

  has : HasAdmitted s all epoch tx effects
  has = between-admitted s all run_is epoch tx effects between

  abbrev acker : Member
  acker = member_in s has.seat

  same-epoch : turner.epoch ≡ acker.epoch
  same-epoch = turn.epoch_is ∙ sym has.had.epoch_is

  alike : AreAlike s all run_is distinct turn.front has.front rest has.back joined has.whole turn.member has.member turn.seat has.seat turn.there has.at same-epoch
  alike = are-alike s all run_is distinct turn.front has.front rest has.back joined has.whole turn.member has.member turn.seat has.seat turn.there has.at same-epoch

  -- the member that turned admitted it too, and executed it with the same effects
  stands-there : StandsIn (built turner) epoch tx effects
  stands-there =
      let front_is = admitted-too s all run_is distinct turn.front has.front rest has.back joined has.whole turn.member has.member turn.seat has.seat turn.there has.at same-epoch left.can.ended in
      let a = any-has (λ (x : Admitted). digest_eq x.digest has.had.of.digest) acker.sequence.admission.admitted has.admitted in
      let here = front-has acker.sequence.admission.admitted turner.sequence.admission.admitted a.0 front_is a.1 in
      let named : a.0.digest ≡ tx = digest_same a.0.digest has.had.of.digest a.2 ∙ has.had.named in
      let it = admitted-stands turner left.can whole.cuts (past-before s.rules s.opening turn.seat.records) a.0 effects here (gave-same a.0 here (digest_same a.0.digest has.had.of.digest a.2)) in
      subst (λ (d : Digest). StandsIn (built turner) epoch d effects) named (subst (λ (e : ℕ). StandsIn (built turner) e a.0.digest effects) turn.epoch_is it)
    where
      gave-same : (a : Admitted) → Has turner.sequence.admission.admitted a → a.digest ≡ has.had.of.digest → effects_digest_of (execution_of turner.executed a.digest) ≡ effects
      gave-same a h e = go (execution_of turner.executed a.digest) refl (and-first (is_executed turner.executed a.digest) (names_same_origins (held_of turner.held a.digest) a) (left.can.done a h))
        where
          go : (o : Option Execution) → execution_of turner.executed a.digest ≡ o → is_some o ≡ true → effects_digest_of o ≡ effects
          go None f some = absurd (cc)
          go (Some y) f some =
              let there = find_has (λ (z : Execution). digest_eq z.digest a.digest) turner.executed y f in
              let digest = digest_same y.digest a.digest (find-test (λ (z : Execution). digest_eq z.digest a.digest) turner.executed y f) ∙ e in
              ap (λ (g : Executed). digest_of_effects g.effects) (alike.executions y has.had.of there has.had.there digest) ∙ has.had.gave

  pub stands : StandsIn (built (member_in s seat)) epoch tx effects
  stands =
      let it = stands-there in
      record { checkpoint = it.checkpoint; among = front-has (built turner) (built (member_in s seat)) it.checkpoint left.keeps it.among; epoch_is = it.epoch_is; item = it.item; only = λ c h e i k named. it.only c (left.adds_none c h e) e i k named }

pub final-stands : (s : Setting) (events : List Event) → IsHonestRun s events → AreApart s.opening
    → (epoch : ℕ) (tx effects : Digest) (members : List ℕ) → IsFinal s (world_after s events) epoch tx effects members → StandsForGood s events epoch tx effects
final-stands s events run_is distinct epoch tx effects members final front back split m seat at less =
    stands s front back (subst (IsHonestRun s) split run_is) distinct epoch tx effects members final.quorum
    (λ k h. subst (λ (es : List Event). HasSaid (world_after s es) k (statement.Ack epoch tx effects)) split
    (each_has (λ (n : ℕ). HasSaid (world_after s events) n (statement.Ack epoch tx effects)) members k final.said h)) m seat at less

pub stands-in-schedules : (trust : Trust) (lines : List Setup) (events : List Event) → IsHonestRun (setting_of trust lines) events
    → (epoch : ℕ) (tx effects : Digest) (members : List ℕ) → IsFinal (setting_of trust lines) (world_after (setting_of trust lines) events) epoch tx effects members
    → StandsForGood (setting_of trust lines) events epoch tx effects
stands-in-schedules trust lines events run_is = final-stands (setting_of trust lines) events run_is (set-up-apart trust lines)
