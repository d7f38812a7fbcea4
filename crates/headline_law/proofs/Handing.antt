-- Whatever transactions of the run are handed in with the checkpoints of a member, they are those of its certificates: no
-- two of the run have one digest. So what holds of these holds of all that can be handed in.
use Rattle.std.proofs.Common.{inl, inr, refl, sym, subst, ap, ◌∙◌, append-nil, arith}
use Rattle.std.proofs.lemmas.Bool.Decides.{Decides-eqb}
use Rattle.std.specs.Prelude.{◌≡◌, ◌⊎◌, ◌≤◌, ℕ, ◌+◌, ◌==◌, Bool, true, false, cond, not, List, [], ◌∷◌, ◌++◌, length, map, Some, None}
use Rattle.std.specs.FinMap.{values}
use Rattle.chain_types.specs.declared.transactions.Transaction.{Transaction}
use Rattle.chain_types.specs.Digests.{transaction_digest}
use Rattle.chain_messages.specs.declared.messages.Certificate.{Certificate}
use Rattle.chain_messages.specs.declared.messages.Entry.{Entry}
use Rattle.checkpoint_core.specs.declared.checkpoints.Checkpoint.{Checkpoint}
use Rattle.checkpoint_core.specs.Links.{link_answer}
use Rattle.schedule_text.specs.declared.words.Event.{Event}
use Rattle.schedule_text.specs.declared.words.Setup.{Setup}
use Rattle.protocol_spec.proofs.ListLemmas.{has_map}
use Rattle.protocol_spec.proofs.Truth.{where_not_true}
use Rattle.protocol_spec.specs.Chain.Words.{Each, Has, IsFront, last_of, where_true}
use Rattle.protocol_spec.specs.Member.Member.{Member, built}
use Rattle.world_spec.specs.Setting.{Setting, Trust, setting_of}
use Rattle.world_spec.specs.World.{member_in, new_world}
use Rattle.world_spec.specs.Openings.{opening_at}
use Rattle.world_spec.specs.Run.{world_after}
use Rattle.world_spec.specs.Assumptions.{IsHonestRun, TransactionsApart, all_delivered, all_transactions, delivered}
use Rattle.safety_law.proofs.Apart.{none-each}
use Rattle.safety_law.proofs.Forks.{all-front}
use Rattle.safety_law.proofs.Fronts.{honest-front}
use Rattle.block_law.specs.Orderly.{AreApart}
use Rattle.safety_law.proofs.Lists.{has-middle}
use Rattle.safety_law.proofs.Ended.{more-left}
use Rattle.safety_law.proofs.Opened.{every-opening, grows-after}
use Rattle.safety_law.proofs.Prefixes.{either-front}
use Rattle.safety_law.proofs.Same.{of-run}
use Rattle.safety_law.proofs.SetUp.{set-up-apart}
use Rattle.block_law.proofs.Steps.{map-append}
use Rattle.follower_core.specs.declared.refusals.FollowRefusal.TheVariants as refused
use Rattle.follower_core.specs.Courses.{first_bad}
use Rattle.follower_core.specs.Followed.{Handed}
use Rattle.follower_core.specs.Following.{AreApplied, State, behind_checkpoint, behind_handed, is_memory, link_refusal, opened, refusal_before, refusal_of}
use Rattle.headline_law.specs.Followed.{AreHanded, CanBeFollowed, IsFollowed, IsHandedFrom, IsInRun, IsOpenedAlike, OnlyMemoryIsWanting, StandsAtOpenings, checkpoint_in, tx_listed}
use Rattle.headline_law.proofs.Built.{AreFollowed, built-followed}
use Rattle.headline_law.proofs.Cutting.{applied-back, applied-front}
use Rattle.headline_law.proofs.Past.{IsEnd, at-opening, end-of}
use Rattle.headline_law.proofs.Standing.{front-has}

-- ---- one transaction for each digest

head-same : {A : Type 0} (x y : A) (us vs : List A) → x ∷ us ≡ y ∷ vs → x ≡ y
head-same x y us vs e = cc

tail-same : {A : Type 0} (x y : A) (us vs : List A) → x ∷ us ≡ y ∷ vs → us ≡ vs
tail-same x y us vs e = cc

module _ (txs : List Transaction) (apart : TransactionsApart txs) where
  same-txs : (ts us : List Transaction) → map transaction_digest ts ≡ map transaction_digest us → Each (Has txs) ts → Each (Has txs) us → ts ≡ us
  same-txs [] [] e one two = refl
  same-txs [] (u ∷ us) e one two = absurd (cc)
  same-txs (t ∷ ts) [] e one two = absurd (cc)
  same-txs (t ∷ ts) (u ∷ us) e one two =
      ap (λ (v : Transaction). v ∷ ts) (apart t u one.0 two.0 (head-same (transaction_digest t) (transaction_digest u) (map transaction_digest ts) (map transaction_digest us) e))
      ∙ ap (λ (vs : List Transaction). u ∷ vs) (same-txs ts us (tail-same (transaction_digest t) (transaction_digest u) (map transaction_digest ts) (map transaction_digest us) e) one.1 two.1)

  as_handed : Checkpoint → List Transaction → Handed
  as_handed c ts = record { checkpoint = c; txs = ts }

  same-handed : (h k : Handed) → h.checkpoint ≡ k.checkpoint → IsHandedFrom txs h → IsHandedFrom txs k → h ≡ k
  unfolding as_handed
  same-handed h k e one two =
      let same = same-txs h.txs k.txs (one.listed ∙ ap (λ (c : Checkpoint). map tx_listed c.items) e ∙ sym two.listed) one.known two.known in
      ap (λ (c : Checkpoint). as_handed c h.txs) e ∙ ap (as_handed k.checkpoint) same

  -- of what is handed in with the first of some checkpoints, and with all of them, the one is a prefix of the other
  front-same : (hs ks : List Handed) → IsFront (map checkpoint_in hs) (map checkpoint_in ks) → Each (IsHandedFrom txs) hs → Each (IsHandedFrom txs) ks → IsFront hs ks
  front-same [] ks front one two = (ks, refl)
  front-same (h ∷ hs) [] (more, e) one two = absurd (cc)
  front-same (h ∷ hs) (k ∷ ks) (more, e) one two =
      let first = same-handed h k (sym (head-same k.checkpoint h.checkpoint (map checkpoint_in ks) (map checkpoint_in hs ++ more) e)) one.0 two.0 in
      let rest = front-same hs ks (more, tail-same k.checkpoint h.checkpoint (map checkpoint_in ks) (map checkpoint_in hs ++ more) e) one.1 two.1 in
      (rest.0, ap (λ (x : Handed). x ∷ ks) (sym first) ∙ ap (λ (xs : List Handed). h ∷ xs) rest.1)

-- ---- the epochs of applied checkpoints

epoch-is : (s : State) (c : Checkpoint) (ts : List Transaction) → refusal_of s c ts ≡ None → c.epoch ≡ s.tip.epoch
unfolding refusal_of refusal_before
epoch-is s c ts e =
    let early = (none-each (refusal_before s.tip c ts ∷ first_bad s.course 0 c.items ts ∷ []) e).0 in
    let other = (none-each (where_true (not s.tip.up) refused.Down ∷ link_refusal (link_answer s.tip.before c) ∷ where_true (not (c.epoch == s.tip.epoch)) (refused.Epoch c.epoch s.tip.epoch)
    ∷ where_true (not (length ts == length c.items)) (refused.Count (length ts) (length c.items)) ∷ []) early).1.1.0 in
    (Decides-eqb c.epoch s.tip.epoch).0 (where_not_true (c.epoch == s.tip.epoch) (refused.Epoch c.epoch s.tip.epoch) other)

epoch-grows : (s : State) (c : Checkpoint) (ts : List Transaction) → s.tip.epoch ≤ (behind_checkpoint s c ts).tip.epoch
epoch-grows s c ts = go c.last
  where
    go : (b : Bool) → s.tip.epoch ≤ cond b (s.tip.epoch + 1) s.tip.epoch
    go true = omega arith
    go false = omega arith

epochs-from : (xs : List Handed) (s : State) → AreApplied s xs → (h : Handed) → Has xs h → s.tip.epoch ≤ h.checkpoint.epoch
epochs-from [] s applied h there = absurd there
epochs-from (x ∷ xs) s applied h (inl e) = let same = epoch-is s x.checkpoint x.txs applied.0 in let is = ap (λ (k : Handed). k.checkpoint.epoch) e in omega (arith, same, is)
epochs-from (x ∷ xs) s applied h (inr there) =
    let rest = epochs-from xs (behind_checkpoint s x.checkpoint x.txs) applied.1 h there in
    let grows = epoch-grows s x.checkpoint x.txs in
    omega (arith, rest, grows)

-- after the last checkpoint of an epoch the next epoch begins
after-last : (hs : List Handed) (s : State) (c : Checkpoint) → AreApplied s hs → last_of (map checkpoint_in hs) ≡ Some c → c.last ≡ true → (behind_handed s hs).tip.epoch ≡ c.epoch + 1
after-last [] s c applied e last = absurd (cc)
after-last (h ∷ []) s c applied e last = go (same h.checkpoint e)
  where
    same : (d : Checkpoint) → Some d ≡ Some c → d ≡ c
    same d q = cc

    go : h.checkpoint ≡ c → cond h.checkpoint.last (s.tip.epoch + 1) s.tip.epoch ≡ c.epoch + 1
    go q = ap (λ (b : Bool). cond b (s.tip.epoch + 1) s.tip.epoch) (ap (λ (d : Checkpoint). d.last) q ∙ last) ∙ ap (λ (n : ℕ). n + 1) (sym (epoch-is s h.checkpoint h.txs applied.0) ∙ ap (λ (d : Checkpoint). d.epoch) q)
after-last (h ∷ k ∷ hs) s c applied e last = after-last (k ∷ hs) (behind_checkpoint s h.checkpoint h.txs) c applied.1 e last

-- the last of a list stands in its back, if there is one
last-has : {A : Type 0} (xs ys : List A) (y c : A) → last_of (xs ++ (y ∷ ys)) ≡ Some c → Has (y ∷ ys) c
last-has [] [] y c e = inl (cc)
last-has [] (z ∷ ys) y c e = inr (last-has [] ys z c e)
last-has (x ∷ []) ys y c e = last-has [] ys y c e
last-has (x ∷ z ∷ xs) ys y c e = last-has (z ∷ xs) ys y c e

last-in : {A : Type 0} (xs : List A) (c : A) → last_of xs ≡ Some c → Has xs c
last-in [] c e = absurd (cc)
last-in (x ∷ xs) c e = last-has [] xs x c e

-- After the last checkpoint of an epoch a follower has applied no more and no fewer than those of the epochs up to it:
-- the epoch that comes next shows it.
module _ (s : State) (epoch : ℕ) (whole : List Handed) (all_applied : AreApplied s whole) (tip : (behind_handed s whole).tip.epoch ≡ epoch + 1) (below : (h : Handed) → Has whole h → h.checkpoint.epoch ≤ epoch)
    (handed : List Handed) (applied : AreApplied s handed) (c : Checkpoint) (epoch_is : c.epoch ≡ epoch) (ends : last_of (map checkpoint_in handed) ≡ Some c) (last : c.last ≡ true) where
  shorter : (more : List Handed) → whole ≡ handed ++ more → handed ≡ whole
  shorter [] e = sym (e ∙ append-nil handed)
  shorter (h ∷ more) e = absurd (let n = low in let k = high in let l = here in omega (arith, n, k, l, epoch_is))
    where
      here : (behind_handed s handed).tip.epoch ≡ c.epoch + 1
      here = after-last handed s c applied ends last

      low : (behind_handed s handed).tip.epoch ≤ h.checkpoint.epoch
      low = epochs-from (h ∷ more) (behind_handed s handed) (applied-back handed (h ∷ more) s (subst (AreApplied s) e all_applied)) h (inl refl)

      high : h.checkpoint.epoch ≤ epoch
      high = below h (subst (λ (hs : List Handed). Has hs h) (sym e) (has-middle handed h more))

  longer : (more : List Handed) → handed ≡ whole ++ more → handed ≡ whole
  longer [] e = e ∙ append-nil whole
  longer (h ∷ more) e = absurd (let n = low in omega (arith, n, tip, epoch_is))
    where
      from : (ks : List Handed) → Has (map checkpoint_in ks) c → (k : Handed) × Has ks k × (k.checkpoint ≡ c)
      from [] h = absurd h
      from (k ∷ ks) (inl q) = (k, inl refl, q)
      from (k ∷ ks) (inr h) = let r = from ks h in (r.0, inr r.1, r.2)

      found : (k : Handed) × Has (h ∷ more) k × (k.checkpoint ≡ c)
      found = from (h ∷ more) (last-has (map checkpoint_in whole) (map checkpoint_in more) h.checkpoint c (sym (ap last_of (ap (map checkpoint_in) e ∙ map-append checkpoint_in whole (h ∷ more))) ∙ ends))

      low : (behind_handed s whole).tip.epoch ≤ c.epoch
      low = subst (λ (d : Checkpoint). (behind_handed s whole).tip.epoch ≤ d.epoch) found.2
          (epochs-from (h ∷ more) (behind_handed s whole) (applied-back whole (h ∷ more) s (subst (AreApplied s) e applied)) found.0 found.1)

  same-whole : IsFront handed whole ⊎ IsFront whole handed → handed ≡ whole
  same-whole (inl f) = shorter f.0 f.1
  same-whole (inr f) = longer f.0 f.1

-- ---- at the moments of a run

module _ (s : Setting) (events : List Event) (run_is : IsHonestRun s events) (distinct : AreApart s.opening) where
  abbrev txs : List Transaction
  txs = all_transactions s events

  abbrev qs : List (List Entry)
  qs = (world_after s events).sequences

  module _ (m : Member) (moment : IsInRun s events m) where
    honest-then : IsHonestRun s (moment.front ++ moment.back)
    honest-then = subst (IsHonestRun s) (sym moment.whole) run_is

    early : IsHonestRun s moment.front
    early = honest-front s moment.front moment.back honest-then

    all-within : (c : Certificate) → Has (all_delivered s (moment.front ++ moment.back)) c → Has txs c.tx
    all-within c h = of-run s events c (subst (λ (es : List Event). Has (all_delivered s es) c) moment.whole h)

    within : (c : Certificate) → Has (all_delivered s moment.front) c → Has txs c.tx
    unfolding all_delivered
    within c h = all-within c (all-front delivered s moment.front moment.back (new_world s) c h)

    all-followed : AreFollowed s txs (built m)
    all-followed = subst (λ (k : Member). AreFollowed s txs (built k)) moment.same
        (built-followed s moment.front moment.place moment.seat moment.there early distinct txs within (at-opening s distinct txs moment.front early within moment.place moment.seat moment.there))

    front-of-all : (handed : List Handed) → AreHanded s events (built m) handed → IsFront handed all-followed.handed
    front-of-all handed are = front-same txs run_is.transactions handed all-followed.handed (subst (IsFront (map checkpoint_in handed)) (sym all-followed.are) are.first) are.each all-followed.each

    pub followed : IsFollowed s events m
    followed handed are =
        let front = front-of-all handed are in
        applied-front handed front.0 (opened s.opening) (subst (AreApplied (opened s.opening)) front.1 all-followed.applied)

    pub only-memory : OnlyMemoryIsWanting s events m
    only-memory before next are refusal answers = go (is_memory refusal) refl
      where
        none : refusal_of (behind_handed (opened s.opening) before) next.checkpoint next.txs ≡ None
        none = (applied-back before (next ∷ []) (opened s.opening) (followed (before ++ next ∷ []) are)).0

        clash : None ≡ Some refusal → ⊥
        clash e = cc

        go : (b : Bool) → is_memory refusal ≡ b → b ≡ true
        go true e = refl
        go false e = absurd (clash (sym none ∙ answers.0 e))

    pub can-be-followed : CanBeFollowed s events m
    can-be-followed = (all-followed.handed, record { first = ([], sym all-followed.are ∙ sym (append-nil (map checkpoint_in all-followed.handed))); each = all-followed.each }, all-followed.are)

    -- ---- after the last checkpoint of an epoch

    end-then : (c : Checkpoint) → Has (built m) c → c.last ≡ true → IsEnd s distinct txs qs m c.epoch
    end-then c h last =
        subst (λ (k : Member). IsEnd s distinct txs qs k c.epoch) moment.same
        (subst (λ (es : List Event). IsEnd s distinct txs (world_after s es).sequences (member_in s moment.seat) c.epoch) moment.whole
        (end-of s distinct txs moment.front moment.back honest-then all-within moment.place moment.seat moment.there c (subst (λ (k : Member). Has (built k) c) (sym moment.same) h) last))

    module _ (handed : List Handed) (are : AreHanded s events (built m) handed) (c : Checkpoint) (ends : last_of (map checkpoint_in handed) ≡ Some c) (last : c.last ≡ true) where
      end : IsEnd s distinct txs qs m c.epoch
      end = end-then c (front-has (map checkpoint_in handed) (built m) c are.first (last-in (map checkpoint_in handed) c ends)) last

      meet : IsFront handed end.followed.handed ⊎ IsFront end.followed.handed handed
      meet = go (either-front (map checkpoint_in handed) end.checkpoints are.first.0 end.first.0 (sym are.first.1 ∙ end.first.1))
        where
          go : IsFront (map checkpoint_in handed) end.checkpoints ⊎ IsFront end.checkpoints (map checkpoint_in handed) → IsFront handed end.followed.handed ⊎ IsFront end.followed.handed handed
          go (inl f) = inl (front-same txs run_is.transactions handed end.followed.handed (subst (IsFront (map checkpoint_in handed)) (sym end.followed.are) f) are.each end.followed.each)
          go (inr f) = inr (front-same txs run_is.transactions end.followed.handed handed (subst (λ (cs : List Checkpoint). IsFront cs (map checkpoint_in handed)) (sym end.followed.are) f) end.followed.each are.each)

      below : (h : Handed) → Has end.followed.handed h → h.checkpoint.epoch ≤ c.epoch
      below h there = end.below h.checkpoint (subst (λ (cs : List Checkpoint). Has cs h.checkpoint) end.followed.are (has_map checkpoint_in end.followed.handed h there))

      same : handed ≡ end.followed.handed
      same = same-whole (opened s.opening) c.epoch end.followed.handed end.followed.applied end.tip below handed (followed handed are) c refl ends last meet

      stands : values (behind_handed (opened s.opening) handed).course.map ≡ opening_at s qs (c.epoch + 1)
      stands = ap (λ (hs : List Handed). values (behind_handed (opened s.opening) hs).course.map) same ∙ end.objects

    pub stands-at-openings : StandsAtOpenings s events m
    stands-at-openings handed are c ends last = stands handed are c ends last

    -- the opening of a member is that of the run's sequences (safety_law: EveryOpening)
    pub opening-then : m.opening ≡ opening_at s qs m.epoch
    opening-then =
        subst (λ (k : Member). k.opening ≡ opening_at s qs k.epoch) moment.same
        (subst (λ (es : List Event). (member_in s moment.seat).opening ≡ opening_at s (world_after s es).sequences (member_in s moment.seat).epoch) moment.whole
        (more-left s (world_after s moment.front).sequences (world_after s (moment.front ++ moment.back)).sequences (grows-after s moment.front moment.back) (member_in s moment.seat)
        (every-opening s moment.front early distinct moment.place moment.seat moment.there)).opening)

  pub opened-alike : (a b : Member) → IsInRun s events a → IsInRun s events b → IsOpenedAlike s events a b
  opened-alike a b one two handed are c ends last epoch = stands-at-openings a one handed are c ends last ∙ ap (opening_at s qs) (sym epoch) ∙ sym (opening-then b two)

-- ---- of every schedule

pub followed-in-schedules : (trust : Trust) (lines : List Setup) (events : List Event) → IsHonestRun (setting_of trust lines) events → (m : Member) → IsInRun (setting_of trust lines) events m → IsFollowed (setting_of trust lines) events m
followed-in-schedules trust lines events run_is = followed (setting_of trust lines) events run_is (set-up-apart trust lines)

pub only-memory-in-schedules : (trust : Trust) (lines : List Setup) (events : List Event) → IsHonestRun (setting_of trust lines) events → (m : Member) → IsInRun (setting_of trust lines) events m → OnlyMemoryIsWanting (setting_of trust lines) events m
only-memory-in-schedules trust lines events run_is = only-memory (setting_of trust lines) events run_is (set-up-apart trust lines)

pub can-be-followed-in-schedules : (trust : Trust) (lines : List Setup) (events : List Event) → IsHonestRun (setting_of trust lines) events → (m : Member) → IsInRun (setting_of trust lines) events m → CanBeFollowed (setting_of trust lines) events m
can-be-followed-in-schedules trust lines events run_is = can-be-followed (setting_of trust lines) events run_is (set-up-apart trust lines)

pub stands-in-schedules : (trust : Trust) (lines : List Setup) (events : List Event) → IsHonestRun (setting_of trust lines) events → (m : Member) → IsInRun (setting_of trust lines) events m → StandsAtOpenings (setting_of trust lines) events m
stands-in-schedules trust lines events run_is = stands-at-openings (setting_of trust lines) events run_is (set-up-apart trust lines)

pub opened-alike-in-schedules : (trust : Trust) (lines : List Setup) (events : List Event) → IsHonestRun (setting_of trust lines) events
    → (a b : Member) → IsInRun (setting_of trust lines) events a → IsInRun (setting_of trust lines) events b → IsOpenedAlike (setting_of trust lines) events a b
opened-alike-in-schedules trust lines events run_is = opened-alike (setting_of trust lines) events run_is (set-up-apart trust lines)
