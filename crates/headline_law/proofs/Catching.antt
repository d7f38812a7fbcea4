-- A follower that finds every transaction among those that lines made takes all checkpoints of the epochs before a member's own.
use Rattle.std.proofs.Common.{inl, inr, refl, sym, ap, ◌∙◌, append-nil, arith, cond}
use Rattle.std.proofs.lemmas.Bool.{ltb-true, lt-ltb}
use Rattle.std.specs.Prelude.{◌≡◌, ◌<◌, ◌+◌, ℕ, Bool, true, false, List, [], ◌∷◌, ◌++◌, map, nat_lt, slice_get, Option, Some, Result, Ok}
use Rattle.std.specs.List.{list_all}
use Rattle.digest_core.specs.declared.Digest.{Digest}
use Rattle.chain_types.specs.declared.transactions.Transaction.{Transaction}
use Rattle.chain_types.specs.Digests.{transaction_digest}
use Rattle.checkpoint_core.specs.declared.checkpoints.Checkpoint.{Checkpoint}
use Rattle.checkpoint_core.specs.declared.checkpoints.Item.{Item}
use Rattle.protocol_spec.specs.declared.answers.Held.{Held}
use Rattle.schedule_text.specs.declared.words.Event.{Event}
use Rattle.schedule_text.specs.declared.words.Setup.{Setup}
use Rattle.protocol_spec.specs.Chain.Words.{Each, Has}
use Rattle.protocol_spec.specs.Member.Checkpoints.{chained, checkpoint_behind, is_done}
use Rattle.protocol_spec.specs.Member.Sequence.{Cut}
use Rattle.protocol_spec.specs.Member.Versions.{Execution}
use Rattle.protocol_spec.specs.Member.Member.{Member, built}
use Rattle.world_spec.specs.Setting.{Setting, Trust, setting_of}
use Rattle.world_spec.specs.World.{Seat, member_in}
use Rattle.world_spec.specs.Run.{world_after}
use Rattle.world_spec.specs.Assumptions.{IsHonestRun, all_transactions}
use Rattle.block_law.specs.Orderly.{AreApart}
use Rattle.safety_law.proofs.Same.{of-run}
use Rattle.safety_law.proofs.SetUp.{set-up-apart}
use Rattle.headline_law.proofs.Along.{past-before}
use Rattle.follower_core.specs.Catching.{applied_unless, applied_with, before_epoch, caught_from, caught_up, found_from, with_found}
use Rattle.follower_core.specs.Followed.{Handed}
use Rattle.follower_core.specs.Following.{AreApplied, State, behind_checkpoint, behind_handed, opened}
use Rattle.follower_core.specs.declared.catching.CatchUpRefusal.{CatchUpRefusal}
use Rattle.follower_core.specs.declared.refusals.FollowRefusal.{FollowRefusal}
use Rattle.headline_law.specs.Followed.{AllMade, ComesThrough, IsHandedFrom, checkpoint_in, made_as, tx_listed}
use Rattle.headline_law.proofs.Built.{IsAtOpening}
use Rattle.headline_law.proofs.Past.{at-opening}

-- ---- the checkpoints of the epochs before

kept-all : (epoch : ℕ) (cs : List Checkpoint) → ((c : Checkpoint) → Has cs c → c.epoch < epoch) → before_epoch epoch cs ≡ cs
kept-all epoch [] low = refl
kept-all epoch (c ∷ cs) low =
    ap (λ (b : Bool). cond b (c ∷ before_epoch epoch cs) (before_epoch epoch cs)) (lt-ltb c.epoch epoch (low c (inl refl)))
    ∙ ap (λ (ds : List Checkpoint). c ∷ ds) (kept-all epoch cs (λ d h. low d (inr h)))

before-append : (epoch : ℕ) (cs ds : List Checkpoint) → before_epoch epoch (cs ++ ds) ≡ before_epoch epoch cs ++ before_epoch epoch ds
before-append epoch [] ds = refl
before-append epoch (c ∷ cs) ds = go (nat_lt c.epoch epoch) (before-append epoch cs ds)
  where
    go : (b : Bool) → before_epoch epoch (cs ++ ds) ≡ before_epoch epoch cs ++ before_epoch epoch ds
        → cond b (c ∷ before_epoch epoch (cs ++ ds)) (before_epoch epoch (cs ++ ds)) ≡ cond b (c ∷ before_epoch epoch cs) (before_epoch epoch cs) ++ before_epoch epoch ds
    go true e = ap (λ (rest : List Checkpoint). c ∷ rest) e
    go false e = e

own-dropped : (epoch : ℕ) → nat_lt epoch epoch ≡ false
own-dropped epoch = go (nat_lt epoch epoch) refl
  where
    go : (b : Bool) → nat_lt epoch epoch ≡ b → nat_lt epoch epoch ≡ false
    go true e = absurd (let less = ltb-true epoch epoch e in omega (arith, less))
    go false e = e

-- a member's own checkpoints are of its epoch, so they go
chained-before : (epoch : ℕ) (held : List Held) (executed : List Execution) (cuts : List Cut) (before : List Checkpoint)
    → before_epoch epoch (chained epoch held executed before cuts) ≡ before_epoch epoch before
unfolding checkpoint_behind
chained-before epoch held executed [] before = refl
chained-before epoch held executed (c ∷ cs) before =
    go (list_all (is_done held executed) c.txs) (chained-before epoch held executed cs (before ++ checkpoint_behind epoch executed before c ∷ []))
  where
    next : Checkpoint
    next = checkpoint_behind epoch executed before c

    one : before_epoch epoch (before ++ next ∷ []) ≡ before_epoch epoch before
    one =
        before-append epoch before (next ∷ [])
        ∙ ap (λ (b : Bool). before_epoch epoch before ++ cond b (next ∷ []) []) (own-dropped epoch)
        ∙ append-nil (before_epoch epoch before)

    go : (b : Bool) → before_epoch epoch (chained epoch held executed (before ++ next ∷ []) cs) ≡ before_epoch epoch (before ++ next ∷ [])
        → before_epoch epoch (cond b (chained epoch held executed (before ++ next ∷ []) cs) before) ≡ before_epoch epoch before
    go true rest = rest ∙ one
    go false rest = refl

built-before : (m : Member) → ((c : Checkpoint) → Has m.past c → c.epoch < m.epoch) → before_epoch m.epoch (built m) ≡ m.past
unfolding built
built-before m low = chained-before m.epoch m.held m.executed m.sequence.cuts m.past ∙ kept-all m.epoch m.past low

-- ---- one checkpoint after the other

module _ (s : Setting) (events : List Event) (made : AllMade s events) where
  abbrev known : Digest → Option Transaction
  known = made_as (world_after s events)

  abbrev txs : List Transaction
  txs = all_transactions s events

  found-all : (place : ℕ) (items : List Item) (ts : List Transaction) → map transaction_digest ts ≡ map tx_listed items → Each (Has txs) ts → found_from known place items ≡ Ok ts
  found-all place [] [] e each = refl
  found-all place [] (t ∷ ts) e each = absurd (cc)
  found-all place (i ∷ items) [] e each = absurd (cc)
  found-all place (i ∷ items) (t ∷ ts) e each =
      ap (λ (o : Option Transaction). with_found o place (found_from known (place + 1) items)) (ap known (sym (head (map transaction_digest ts) (map tx_listed items) e)) ∙ made t each.0)
      ∙ ap (λ (r : Result (List Transaction) ℕ). with_found (Some t) place r) (found-all (place + 1) items ts (tail (map transaction_digest ts) (map tx_listed items) e) each.1)
    where
      head : (us vs : List Digest) → transaction_digest t ∷ us ≡ i.tx ∷ vs → transaction_digest t ≡ i.tx
      head us vs q = cc

      tail : (us vs : List Digest) → transaction_digest t ∷ us ≡ i.tx ∷ vs → us ≡ vs
      tail us vs q = cc

  abbrev goes-on : List Handed → State → Result State CatchUpRefusal
  goes-on hs u = caught_up known u (map checkpoint_in hs)

  caught : (hs : List Handed) (u : State) → Each (IsHandedFrom txs) hs → AreApplied u hs → goes-on hs u ≡ Ok (behind_handed u hs)
  caught [] u each applied = refl
  caught (h ∷ hs) u each applied =
      ap (λ (r : Result (List Transaction) ℕ). caught_from (applied_with u h.checkpoint r) (goes-on hs)) (found-all 0 h.checkpoint.items h.txs each.0.listed each.0.known)
      ∙ ap (λ (o : Option FollowRefusal). caught_from (applied_unless u h.checkpoint h.txs o) (goes-on hs)) applied.0
      ∙ caught hs (behind_checkpoint u h.checkpoint h.txs) each.1 applied.1

-- ---- the law

pub followers-come-through : (s : Setting) (events : List Event) → IsHonestRun s events → AreApart s.opening → AllMade s events
    → (m : ℕ) (seat : Seat) → slice_get (world_after s events).seats m ≡ Some seat → ComesThrough s events (member_in s seat)
followers-come-through s events run_is distinct made m seat at =
    let here : IsAtOpening s (all_transactions s events) (member_in s seat) = at-opening s distinct (all_transactions s events) events run_is (λ c h. of-run s events c h) m seat at in
    record {
      state = behind_handed (opened s.opening) here.past.handed;
      is =
          ap (λ (cs : List Checkpoint). caught_up (made_as (world_after s events)) (opened s.opening) cs)
          (built-before (member_in s seat) (past-before s.rules s.opening seat.records) ∙ sym here.past.are)
          ∙ caught s events made here.past.handed (opened s.opening) here.past.each here.past.applied;
      objects = ap (λ c. c.map) here.course;
    }

pub come-through-in-schedules : (trust : Trust) (lines : List Setup) (events : List Event) → IsHonestRun (setting_of trust lines) events → AllMade (setting_of trust lines) events
    → (m : ℕ) (seat : Seat) → slice_get (world_after (setting_of trust lines) events).seats m ≡ Some seat → ComesThrough (setting_of trust lines) events (member_in (setting_of trust lines) seat)
come-through-in-schedules trust lines events run_is = followers-come-through (setting_of trust lines) events run_is (set-up-apart trust lines)
