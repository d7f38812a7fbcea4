-- Checkpoints that are taken in order.
use Rattle.std.proofs.Common.{◌≡◌, ◌≤◌, ◌<◌, ◌+◌, ◌-◌, ℕ, zero, suc, Bool, true, false, cond, List, [], ◌∷◌, ◌++◌, Option, Some, None, Result, Ok, Err, refl, sym, ap, ◌∙◌, subst, All, length, drop, take, get_or, append-nil, append_assoc, arith}
use Rattle.std.specs.Prelude.{IsErrOf, nat_lt, slice_get}
use Rattle.std.proofs.lemmas.List.{length-append}
use Rattle.std.proofs.lemmas.List.Elements.{All-append}
use Rattle.chain_types.specs.declared.transactions.Transaction.{Transaction}
use Rattle.chain_types.specs.Transactions.{transaction}
use Rattle.checkpoint_core.specs.declared.checkpoints.Checkpoint.{Checkpoint}
use Rattle.checkpoint_core.specs.declared.checkpoints.Item.{Item}
use Rattle.follower_core.specs.declared.catching.CatchUpRefusal.{CatchUpRefusal}
use Rattle.follower_core.specs.declared.catching.CatchUpRefusal.TheVariants as stopped
use Rattle.follower_core.specs.declared.catching.Unfound.TheVariants as unfound
use Rattle.follower_core.specs.declared.refusals.FollowRefusal.{FollowRefusal}
use Rattle.follower_core.specs.declared.refusals.FollowRefusal.TheVariants as refused
use Rattle.follower_core.specs.Catching.{Known, applied_by, applied_unless, applied_with, before_epoch, caught_from, caught_up, counted_at, found_from, is_wanting, passed_at, refusal_as, with_found}
use Rattle.follower_core.specs.Following.{Answers, State, applied_in, is_memory, state_behind}
use Rattle.follower_core.proofs.Answering.{none_refused, number_is}
use Rattle.protocol_spec.proofs.ListLemmas.{tail_is}

-- ---- the transactions of items

pub next_onto : Option Transaction → List Transaction → (List Transaction → Result (List Transaction) ℕ) → Result (List Transaction) ℕ
next_onto None done go = Err (length done)
next_onto (Some t) done go = go (done ++ t ∷ [])

-- those that were found, and those of the items that are left
abbrev pub found_onto : Known → List Transaction → List Item → Result (List Transaction) ℕ
found_onto known done [] = Ok done
found_onto known done (i ∷ is) = next_onto (known i.tx) done (λ (more : List Transaction). found_onto known more is)

front_on : List Transaction → Result (List Transaction) ℕ → Result (List Transaction) ℕ
front_on done (Ok ts) = Ok (done ++ ts)
front_on done (Err at) = Err at

one_more : (done : List Transaction) (t : Transaction) (place : ℕ) (r : Result (List Transaction) ℕ) → front_on (done ++ t ∷ []) r ≡ front_on done (with_found (Some t) place r)
unfolding front_on
one_more done t place (Ok ts) = ap Ok (append_assoc done (t ∷ []) ts)
one_more done t place (Err at) = refl

found_is : (known : Known) (is : List Item) (done : List Transaction) → found_onto known done is ≡ front_on done (found_from known (length done) is)
unfolding front_on next_onto
found_is known [] done = ap Ok (sym (append-nil done))
found_is known (i ∷ is) done = by (known i.tx) (found_is known is)
  where
    by : (o : Option Transaction) → ((more : List Transaction) → found_onto known more is ≡ front_on more (found_from known (length more) is)) → next_onto o done (λ (more : List Transaction). found_onto known more is) ≡ front_on done (with_found o (length done) (found_from known (length done + 1) is))
    by None others = refl
    by (Some t) others =
        others (done ++ t ∷ [])
        ∙ ap (λ (n : ℕ). front_on (done ++ t ∷ []) (found_from known n is)) (length-append done (t ∷ []))
        ∙ one_more done t (length done) (found_from known (length done + 1) is)

front_none : (r : Result (List Transaction) ℕ) → front_on [] r ≡ r
unfolding front_on
front_none (Ok ts) = refl
front_none (Err at) = refl

found_all : (known : Known) (is : List Item) → found_from known 0 is ≡ found_onto known [] is
found_all known is = sym (front_none (found_from known 0 is)) ∙ sym (found_is known is [])

one_short : (t : Transaction) → transaction.short t → All transaction.short (t ∷ [])
one_short t short zero d less = short
one_short t short (suc k) d less = absurd (omega (arith, less))

-- those that were found, with those of the items that are left, are those of all
pub record Gathers (known : Known) (items : List Item) (txs : List Transaction) (rest : List Item) : Type 0 where
  pub short : All transaction.short txs
  pub same : found_onto known txs rest ≡ found_onto known [] items

pub starts_gather : (known : Known) (items : List Item) → Gathers known items [] items
starts_gather known items = record { short = λ k d less. absurd (omega (arith, less)); same = refl }

pub gathers_more : (known : Known) (items : List Item) (txs more : List Transaction) (rest : List Item) (none : Item) (t : Transaction) → 1 ≤ length rest → Gathers known items txs rest
    → Some t ≡ known (get_or rest 0 none).tx → transaction.short t → more ≡ txs ++ t ∷ [] → Gathers known items more (take (length rest - 1) (drop 1 rest))
unfolding next_onto
gathers_more known items txs more [] none t some it found short is = absurd (omega (arith, some))
gathers_more known items txs more (j ∷ js) none t some it found short is =
    subst (Gathers known items more) (sym (tail_is j js)) (subst (λ (ts : List Transaction). Gathers known items ts js) (sym is) (record {
      short = All-append transaction.short txs (t ∷ []) it.short (one_short t short);
      same = ap (λ (o : Option Transaction). next_onto o txs (λ (done : List Transaction). found_onto known done js)) found ∙ it.same;
    }))

pub gathered : (known : Known) (items : List Item) (txs : List Transaction) (rest : List Item) → Gathers known items txs rest → length rest < 1 → found_from known 0 items ≡ Ok txs
gathered known items txs [] it less = found_all known items ∙ sym it.same
gathered known items txs (j ∷ js) it less = absurd (omega (arith, less))

pub missed : (known : Known) (items : List Item) (txs : List Transaction) (rest : List Item) (none : Item) → 1 ≤ length rest → Gathers known items txs rest
    → None ≡ known (get_or rest 0 none).tx → found_from known 0 items ≡ Err (length txs)
unfolding next_onto
missed known items txs [] none some it found = absurd (omega (arith, some))
missed known items txs (j ∷ js) none some it found =
    found_all known items ∙ sym it.same ∙ ap (λ (o : Option Transaction). next_onto o txs (λ (more : List Transaction). found_onto known more js)) (sym found)

pub place_is : {A : Type 0} (n place : ℕ) → IsErrOf {T = A} (Err (unfound.Missing n)) (unfound.Missing place) → n ≡ place
place_is n place e = cc

-- ---- one checkpoint

module _ (known : Known) (s new : State) (c : Checkpoint) (txs : List Transaction) where
  pub taken_is : (count : ℕ) → found_from known 0 c.items ≡ Ok txs → Answers s c txs (Ok count) → new ≡ state_behind s c txs (Ok count) → applied_by known s c ≡ Ok new
  taken_is count found answers is = ap (applied_with s c) found ∙ ap (applied_unless s c txs) answers.0 ∙ ap Ok (sym is)

  pub taken_counts : (count : ℕ) → Answers s c txs (Ok count) → new ≡ state_behind s c txs (Ok count) → applied_in new.tip ≡ applied_in s.tip + 1
  taken_counts count answers is = ap (λ (t : State). applied_in t.tip) is ∙ ap (λ (n : ℕ). n + 1) (number_is s.tip c txs (none_refused s c txs answers.0).0)

  memory_free : (n : ℕ) (r : FollowRefusal) → is_wanting (refusal_as n r) ≡ false → is_memory r ≡ false
  memory_free n refused.Down h = refl
  memory_free n (refused.Link refusal) h = refl
  memory_free n (refused.Epoch had want) h = refl
  memory_free n (refused.Count had want) h = refl
  memory_free n (refused.WrongTx place) h = refl
  memory_free n (refused.Stuck place) h = refl
  memory_free n (refused.Differs place had want) h = refl
  memory_free n refused.OutOfMemory h = absurd (cc)

  pub refused_is : (r : FollowRefusal) → found_from known 0 c.items ≡ Ok txs → Answers s c txs (Err r) → is_wanting (refusal_as c.number r) ≡ false → applied_by known s c ≡ Err (refusal_as c.number r)
  refused_is r found answers free = ap (applied_with s c) found ∙ ap (applied_unless s c txs) (answers.0 (memory_free c.number r free))

pub stuck_is : (known : Known) (s : State) (c : Checkpoint) (place : ℕ) → found_from known 0 c.items ≡ Err place → applied_by known s c ≡ Err (stopped.Stuck c.number place)
stuck_is known s c place found = ap (applied_with s c) found

-- ---- checkpoints in order

ok_same : (r : Result State CatchUpRefusal) (s t : State) → r ≡ Ok s → r ≡ Ok t → s ≡ t
ok_same r s t one other = cc

module _ (known : Known) (epoch : ℕ) where
  -- what a checkpoint leads to, before others
  stepped : (b : Bool) (s t : State) (c : Checkpoint) (cs : List Checkpoint) → cond b (applied_by known s c) (Ok s) ≡ Ok t → caught_up known s (cond b (c ∷ cs) cs) ≡ caught_up known t cs
  stepped true s t c cs h = ap (λ (r : Result State CatchUpRefusal). caught_from r (λ (u : State). caught_up known u cs)) h
  stepped false s t c cs h = ap (λ (u : State). caught_up known u cs) (ok_same (Ok s) s t refl h)

  ended : (b : Bool) (s : State) (r : CatchUpRefusal) (c : Checkpoint) (cs : List Checkpoint) → cond b (applied_by known s c) (Ok s) ≡ Err r → caught_up known s (cond b (c ∷ cs) cs) ≡ Err r
  ended true s r c cs h = ap (λ (x : Result State CatchUpRefusal). caught_from x (λ (u : State). caught_up known u cs)) h
  ended false s r c cs h = absurd (cc)

  pub goes_on : (cs : List Checkpoint) (place : ℕ) (s t : State) → passed_at known epoch s (slice_get cs place) ≡ Ok t → place < length cs
      → caught_up known t (before_epoch epoch (drop (place + 1) cs)) ≡ caught_up known s (before_epoch epoch (drop place cs))
  goes_on [] place s t h less = absurd (omega (arith, less))
  goes_on (c ∷ cs) zero s t h less = sym (stepped (nat_lt c.epoch epoch) s t c (before_epoch epoch cs) h)
  goes_on (c ∷ cs) (suc place) s t h less =
      let up : suc place + 1 ≡ suc (place + 1) = omega arith in
      rw up (goes_on cs place s t h (omega (arith, less)))

  pub stops_at : (cs : List Checkpoint) (place : ℕ) (s : State) (r : CatchUpRefusal) → passed_at known epoch s (slice_get cs place) ≡ Err r → place < length cs
      → caught_up known s (before_epoch epoch (drop place cs)) ≡ Err r
  stops_at [] place s r h less = absurd (omega (arith, less))
  stops_at (c ∷ cs) zero s r h less = ended (nat_lt c.epoch epoch) s r c (before_epoch epoch cs) h
  stops_at (c ∷ cs) (suc place) s r h less = stops_at cs place s r h (omega (arith, less))

one_counts : (b : Bool) (c : Checkpoint) (cs : List Checkpoint) → length (cond b (c ∷ cs) cs) ≡ cond b 1 0 + length cs
one_counts true c cs = omega arith
one_counts false c cs = omega arith

pub counts_at : (epoch : ℕ) (cs : List Checkpoint) (place : ℕ) → place < length cs → length (before_epoch epoch (drop place cs)) ≡ counted_at epoch (slice_get cs place) + length (before_epoch epoch (drop (place + 1) cs))
counts_at epoch [] place less = absurd (omega (arith, less))
counts_at epoch (c ∷ cs) zero less = one_counts (nat_lt c.epoch epoch) c (before_epoch epoch cs)
counts_at epoch (c ∷ cs) (suc place) less =
    let up : suc place + 1 ≡ suc (place + 1) = omega arith in
    rw up (counts_at epoch cs place (omega (arith, less)))

pub counts_few : (epoch : ℕ) (o : Option Checkpoint) → counted_at epoch o ≤ 1
counts_few epoch None = omega arith
counts_few epoch (Some c) = by (nat_lt c.epoch epoch)
  where
    by : (b : Bool) → cond b 1 0 ≤ 1
    by true = omega arith
    by false = omega arith

-- what stands before the checkpoint at a place
pub record Passes (known : Known) (epoch : ℕ) (start : State) (cs : List Checkpoint) (now : State) (place : ℕ) : Type 0 where
  pub leads : caught_up known now (before_epoch epoch (drop place cs)) ≡ caught_up known start (before_epoch epoch cs)
  pub counts : applied_in now.tip + length (before_epoch epoch (drop place cs)) ≡ length (before_epoch epoch cs)
  pub few : applied_in now.tip ≤ place

module _ (known : Known) (epoch : ℕ) (start : State) (cs : List Checkpoint) where
  pub begins : applied_in start.tip ≡ 0 → Passes known epoch start cs start 0
  begins none = record { leads = refl; counts = omega (arith, none); few = omega (arith, none) }

  pub passes : (now next : State) (place : ℕ) → Passes known epoch start cs now place → place < length cs → passed_at known epoch now (slice_get cs place) ≡ Ok next
      → applied_in next.tip ≡ applied_in now.tip + counted_at epoch (slice_get cs place) → Passes known epoch start cs next (place + 1)
  passes now next place it less passed counted = record {
    leads = goes_on known epoch cs place now next passed less ∙ it.leads;
    counts = let here = counts_at epoch cs place less in let all = it.counts in omega (arith, here, all, counted);
    few = let low = it.few in let one = counts_few epoch (slice_get cs place) in omega (arith, low, one, counted);
  }

  rest_none : (place : ℕ) → length cs ≤ place → before_epoch epoch (drop place cs) ≡ []
  rest_none place most = ap (before_epoch epoch) (past cs place most)
    where
      past : (ds : List Checkpoint) (n : ℕ) → length ds ≤ n → drop n ds ≡ []
      past [] zero most = refl
      past [] (suc n) most = refl
      past (d ∷ ds) zero most = absurd (omega (arith, most))
      past (d ∷ ds) (suc n) most = past ds n (omega (arith, most))

  pub caught_whole : (now : State) (place : ℕ) → Passes known epoch start cs now place → length cs ≤ place → caught_up known start (before_epoch epoch cs) ≡ Ok now
  caught_whole now place it most = sym it.leads ∙ ap (caught_up known now) (rest_none place most)

  pub caught_count : (now : State) (place : ℕ) → Passes known epoch start cs now place → length cs ≤ place → applied_in now.tip ≡ length (before_epoch epoch cs)
  caught_count now place it most = let none = ap length (rest_none place most) in let all = it.counts in omega (arith, none, all)

  pub caught_refused : (now : State) (place : ℕ) (r : CatchUpRefusal) → Passes known epoch start cs now place → place < length cs → passed_at known epoch now (slice_get cs place) ≡ Err r
      → caught_up known start (before_epoch epoch cs) ≡ Err r
  caught_refused now place r it less passed = sym it.leads ∙ stops_at known epoch cs place now r passed less
