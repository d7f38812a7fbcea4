-- A chain goes on from what was built of it.
use Rattle.std.proofs.Common.{◌≡◌, ◌∙◌, refl, sym, ap, subst, arith, ℕ, zero, suc, ◌+◌, ◌-◌, ◌≤◌, Bool, true, false, cond, List, [], ◌∷◌, ◌++◌, length, take, drop, length-append, length-take-le, length-drop, append_assoc, append-nil}
use Rattle.std.specs.Prelude.{Some, map}
use Rattle.std.specs.List.{list_all}
use Rattle.std.proofs.lemmas.Bool.{cond-true}
use Rattle.std.proofs.lemmas.List.{take-append-le}
use Rattle.std.proofs.lemmas.List.Sums.{sum_by-append}
use Rattle.digest_core.specs.declared.Digest.{Digest}
use Rattle.checkpoint_core.specs.declared.checkpoints.Checkpoint.{Checkpoint}
use Rattle.checkpoint_core.specs.Checkpoints.{digest_of_checkpoint}
use Rattle.protocol_spec.specs.Chain.Words.{IsFront, last_of}
use Rattle.protocol_spec.specs.Member.Versions.{Execution}
use Rattle.protocol_spec.specs.Member.Checkpoints.{digest_before}
use Rattle.epoch_turn.specs.declared.due.Due.{Due}
use Rattle.epoch_turn.specs.declared.due.CutMark.{CutMark}
use Rattle.epoch_turn.specs.declared.growth.Tip.{Tip}
use Rattle.epoch_turn.specs.declared.growth.Growth.{Growth}
use Rattle.epoch_turn.specs.declared.rows.Rows.{Rows}
use Rattle.epoch_turn.specs.Dues.{due_item, front_length, is_due_done, size_of}
use Rattle.epoch_turn.specs.Chains.{Chaining, IsBehind, advanced, due_chain, due_checkpoint}
use Rattle.epoch_turn.specs.Kept.{Ends, IsKept, Takes, growth_of, grown, grown_all, next_checkpoint, shown, tip_after}
use Rattle.epoch_turn.proofs.Building.{items_many}
use Rattle.epoch_turn.proofs.Fronts.{front_behind, front_most, front_reaches}

-- ---- lists

pub last_pushed : {A : Type 0} (xs : List A) (x : A) → last_of (xs ++ x ∷ []) ≡ Some x
last_pushed [] x = refl
last_pushed (y ∷ []) x = refl
last_pushed (y ∷ z ∷ xs) x = last_pushed (z ∷ xs) x

sizes_split : (k : ℕ) (marks : List CutMark) → size_of marks ≡ size_of (take k marks) + size_of (drop k marks)
sizes_split zero marks = omega arith
sizes_split (suc k) [] = refl
sizes_split (suc k) (m ∷ ms) = let rest = sizes_split k ms in omega (arith, rest)

pub sizes_more : (marks more : List CutMark) → size_of (marks ++ more) ≡ size_of marks + size_of more
sizes_more [] more = omega arith
sizes_more (m ∷ ms) more = let rest = sizes_more ms more in omega (arith, rest)

pub take_nothing : {A : Type 0} (n : ℕ) → take {A = A} n [] ≡ []
take_nothing zero = refl
take_nothing (suc n) = refl

sizes_take : (k n : ℕ) (marks : List CutMark) → size_of (take (k + n) marks) ≡ size_of (take k marks) + size_of (take n (drop k marks))
sizes_take zero n marks = ap (λ i. size_of (take i marks)) (none n) ∙ sym (sum (size_of (take n marks)))
  where
    none : (n : ℕ) → zero + n ≡ n
    none n = omega arith

    sum : (n : ℕ) → 0 + n ≡ n
    sum n = omega arith
sizes_take (suc k) n [] = nothing n ∙ sym (both n)
  where
    nothing : (n : ℕ) → size_of (take (suc k + n) []) ≡ 0
    nothing n = ap size_of (take_nothing (suc k + n))

    both : (n : ℕ) → 0 + size_of (take n (drop (suc k) [])) ≡ 0
    both n = let e = ap size_of (take_nothing n) in omega (arith, e)
sizes_take (suc k) n (m ∷ ms) = ap (λ i. size_of (take i (m ∷ ms))) (next k n) ∙ more (sizes_take k n ms)
  where
    next : (k n : ℕ) → suc k + n ≡ suc (k + n)
    next k n = omega arith

    more : size_of (take (k + n) ms) ≡ size_of (take k ms) + size_of (take n (drop k ms)) → m.size + size_of (take (k + n) ms) ≡ (m.size + size_of (take k ms)) + size_of (take n (drop k ms))
    more e = omega (arith, e)

drop_nothing : {A : Type 0} (n : ℕ) → drop {A = A} n [] ≡ []
drop_nothing zero = refl
drop_nothing (suc n) = refl

pub drop_more : {A : Type 0} (m n : ℕ) (xs : List A) → drop (m + n) xs ≡ drop n (drop m xs)
drop_more zero n xs = ap (λ k. drop k xs) (none n)
  where
    none : (n : ℕ) → zero + n ≡ n
    none n = omega arith
drop_more (suc m) n [] = drop_nothing (suc m + n) ∙ sym (drop_nothing n)
drop_more (suc m) n (x ∷ xs) = ap (λ k. drop k (x ∷ xs)) (next m n) ∙ drop_more m n xs
  where
    next : (m n : ℕ) → suc m + n ≡ suc (m + n)
    next m n = omega arith

-- prefixes of one list that are as long are the same
same_front : {A : Type 0} (xs ys us vs : List A) → xs ++ us ≡ ys ++ vs → length xs ≡ length ys → xs ≡ ys
same_front [] [] us vs e long = refl
same_front [] (y ∷ ys) us vs e long = absurd (omega (arith, long))
same_front (x ∷ xs) [] us vs e long = absurd (omega (arith, long))
same_front {A} (x ∷ xs) (y ∷ ys) us vs e long =
    let first : x ≡ y = cc in
    let others : xs ++ us ≡ ys ++ vs = cc in
    ap (λ (z : A). z ∷ xs) first ∙ ap (λ (zs : List A). y ∷ zs) (same_front xs ys us vs others (omega (arith, long)))

-- what is cut was admitted
pub kept_sized : (t : Rows) → IsKept t → size_of (shown t).marks ≤ length (shown t).due
kept_sized t kept = let sized = kept.sized in let room = kept.room in omega (arith, sized, room)

-- ---- one checkpoint more

pub ends_behind : (items : List Checkpoint) (tip : Tip) (c : Checkpoint) (size : ℕ) → size ≡ length c.items → Ends items tip → Ends (items ++ c ∷ []) (tip_after tip size (digest_of_checkpoint c))
ends_behind items tip c size is ends = record {
  number = let n = ends.number in let l = length-append items (c ∷ []) in omega (arith, n, l);
  digest = ap digest_before (sym (last_pushed items c));
  transactions =
      let t = ends.transactions in
      let l = sum_by-append (λ (x : Checkpoint). length x.items) items (c ∷ []) in
      omega (arith, t, l, is);
}

module _ (epoch : ℕ) (executed : List Execution) where
  abbrev test : Due → Bool
  test = is_due_done executed

  -- what was built stays
  pub chain_front : (before : List Checkpoint) (due : List Due) (marks : List CutMark) → IsFront before (due_chain epoch executed before due marks)
  chain_front before due [] = ([], sym (append-nil before))
  chain_front before due (m ∷ ms) = by (list_all test (take m.size due)) (chain_front (before ++ c ∷ []) (drop m.size due) ms)
    where
      c : Checkpoint
      c = due_checkpoint epoch executed before (take m.size due) m.last

      by : (b : Bool) → IsFront (before ++ c ∷ []) (due_chain epoch executed (before ++ c ∷ []) (drop m.size due) ms) → IsFront before (cond b (due_chain epoch executed (before ++ c ∷ []) (drop m.size due) ms) before)
      by true (rest, e) = (c ∷ rest, e ∙ append_assoc before (c ∷ []) rest)
      by false more = ([], sym (append-nil before))

  -- ---- what is added

  pub record Grows (base : List Checkpoint) (g : Growth) (due : List Due) (marks : List CutMark) (new : Growth) : Type 0 where
    pub built : base ++ new.fresh ≡ due_chain epoch executed (base ++ g.fresh) due marks
    pub ends : Ends (base ++ new.fresh) new.tip
    pub many : ℕ
    pub within : many ≤ length marks
    pub cuts : new.tip.cuts ≡ g.tip.cuts + many
    pub taken : new.tip.taken ≡ g.tip.taken + size_of (take many marks)
    pub long : length new.fresh ≡ length g.fresh + many

  nothing_more : (base : List Checkpoint) (g : Growth) (due : List Due) (marks : List CutMark) → base ++ g.fresh ≡ due_chain epoch executed (base ++ g.fresh) due marks → Ends (base ++ g.fresh) g.tip → Grows base g due marks g
  nothing_more base g due marks is ends = record { built = is; ends = ends; many = 0; within = omega arith; cuts = omega arith; taken = omega arith; long = omega arith }

  next_is : (before : List Checkpoint) (tip : Tip) (txs : List Due) (last : Bool) → Ends before tip → next_checkpoint epoch executed tip txs last ≡ due_checkpoint epoch executed before txs last
  next_is before tip txs last ends =
      let made : ℕ → Digest → Checkpoint = λ n d. record { epoch = epoch; number = n; parent = d; items = map (due_item executed) txs; last = last } in
      ap (λ n. made n tip.digest) ends.number ∙ ap (made (length before)) ends.digest

  one_more : (base : List Checkpoint) (g : Growth) (due : List Due) (m : CutMark) (ms : List CutMark) (new : Growth) → Ends (base ++ g.fresh) g.tip → m.size ≤ length due
      → list_all test (take m.size due) ≡ true → Grows base (grown epoch executed g (take m.size due) m.last) (drop m.size due) ms new → Grows base g due (m ∷ ms) new
  one_more base g due m ms new ends few done r = record {
    built =
        r.built
        ∙ ap (λ (xs : List Checkpoint). due_chain epoch executed xs (drop m.size due) ms) (sym (append_assoc base g.fresh (next ∷ [])))
        ∙ ap (λ (c : Checkpoint). due_chain epoch executed ((base ++ g.fresh) ++ c ∷ []) (drop m.size due) ms) (next_is (base ++ g.fresh) g.tip txs m.last ends)
        ∙ sym (cond-true (list_all test txs) (due_chain epoch executed ((base ++ g.fresh) ++ due_checkpoint epoch executed (base ++ g.fresh) txs m.last ∷ []) (drop m.size due) ms) (base ++ g.fresh) done);
    ends = r.ends;
    many = suc r.many;
    within = let w = r.within in omega (arith, w);
    cuts = let e = r.cuts in omega (arith, e);
    taken = let e = r.taken in let l = length-take-le m.size due few in omega (arith, e, l);
    long = let e = r.long in let l = length-append g.fresh (next ∷ []) in omega (arith, e, l);
  }
    where
      txs : List Due
      txs = take m.size due

      next : Checkpoint
      next = next_checkpoint epoch executed g.tip (take m.size due) m.last

  pub grows : (base : List Checkpoint) (g : Growth) (due : List Due) (marks : List CutMark) → Ends (base ++ g.fresh) g.tip → size_of marks ≤ length due → Grows base g due marks (grown_all epoch executed g due marks)
  grows base g due [] ends few = nothing_more base g due [] refl ends
  grows base g due (m ∷ ms) ends few = by (list_all test (take m.size due)) refl (grows base more (drop m.size due) ms)
    where
      more : Growth
      more = grown epoch executed g (take m.size due) m.last

      next : Checkpoint
      next = next_checkpoint epoch executed g.tip (take m.size due) m.last

      stands : Ends (base ++ more.fresh) more.tip
      stands = subst (λ (xs : List Checkpoint). Ends xs more.tip) (append_assoc base g.fresh (next ∷ []))
          (ends_behind (base ++ g.fresh) g.tip next (length (take m.size due)) (sym (items_many executed (take m.size due))) ends)

      left : size_of ms ≤ length (drop m.size due)
      left = let l = length-drop m.size due in omega (arith, l, few)

      by : (b : Bool) → list_all test (take m.size due) ≡ b → (Ends (base ++ more.fresh) more.tip → size_of ms ≤ length (drop m.size due) → Grows base more (drop m.size due) ms (grown_all epoch executed more (drop m.size due) ms))
          → Grows base g due (m ∷ ms) (cond b (grown_all epoch executed more (drop m.size due) ms) g)
      by true e rest = one_more base g due m ms (grown_all epoch executed more (drop m.size due) ms) ends (omega (arith, few)) e (rest stands left)
      by false e rest = nothing_more base g due (m ∷ ms)
          (sym (ap (λ (b : Bool). cond b (due_chain epoch executed ((base ++ g.fresh) ++ due_checkpoint epoch executed (base ++ g.fresh) (take m.size due) m.last ∷ []) (drop m.size due) ms) (base ++ g.fresh)) e)) ends

  -- ---- where it begins

  pub record Begins (before items : List Checkpoint) (due : List Due) (marks : List CutMark) (k : ℕ) : Type 0 where
    pub rest : due_chain epoch executed items (drop (size_of (take k marks)) due) (drop k marks) ≡ due_chain epoch executed before due marks
    pub reached : size_of (take k marks) ≤ front_length test due

  too_long : (before items rest : List Checkpoint) (k : ℕ) → before ≡ items ++ rest → length before + suc k ≡ length items → ⊥
  too_long before items rest k e many =
      let long = ap length e in
      let more = length-append items rest in
      absurd (omega (arith, long, more, many))

  pub begins : (before items : List Checkpoint) (due : List Due) (marks : List CutMark) (k : ℕ) → size_of marks ≤ length due → length before + k ≡ length items
      → IsFront items (due_chain epoch executed before due marks) → Begins before items due marks k
  begins before items due marks zero few many front =
      let first = chain_front before due marks in
      record {
        rest = ap (λ (xs : List Checkpoint). due_chain epoch executed xs due marks) (same_front items before front.0 first.0 (sym front.1 ∙ first.1) (omega (arith, many)));
        reached = omega arith;
      }
  begins before items due [] (suc k) few many front = absurd (too_long before items front.0 k front.1 many)
  begins before items due (m ∷ ms) (suc k) few many front = by (list_all test (take m.size due)) refl (begins next items (drop m.size due) ms k)
    where
      next : List Checkpoint
      next = before ++ due_checkpoint epoch executed before (take m.size due) m.last ∷ []

      whole : List Checkpoint
      whole = due_chain epoch executed next (drop m.size due) ms

      left : size_of ms ≤ length (drop m.size due)
      left = let l = length-drop m.size due in omega (arith, l, few)

      longer : length next + k ≡ length items
      longer = let l = length-append before (due_checkpoint epoch executed before (take m.size due) m.last ∷ []) in omega (arith, l, many)

      by : (b : Bool) → list_all test (take m.size due) ≡ b
          → (size_of ms ≤ length (drop m.size due) → length next + k ≡ length items → IsFront items whole → Begins next items (drop m.size due) ms k) → Begins before items due (m ∷ ms) (suc k)
      by false e rest = absurd (too_long before items front.0 k (sym (ap (λ (b : Bool). cond b whole before) e) ∙ front.1) many)
      by true e rest =
          let passed : cond (list_all test (take m.size due)) whole before ≡ whole = cond-true (list_all test (take m.size due)) whole before e in
          let r = rest left longer (front.0, sym passed ∙ front.1) in
          let reaches = front_reaches test m.size due (omega (arith, few)) e in
          let behind = front_behind test m.size due reaches in
          let far = r.reached in
          record {
            rest = ap (λ (ds : List Due). due_chain epoch executed items ds (drop k ms)) (drop_more m.size (size_of (take k ms)) due) ∙ r.rest ∙ sym passed;
            reached = omega (arith, behind, far);
          }

  pub record Starts (t : Rows) : Type 0 where
    pub within : t.tip.taken ≤ length t.due.items
    pub reached : t.tip.taken ≤ front_length test t.due.items
    pub ready : front_length test t.due.items - t.tip.taken ≡ front_length test (drop t.tip.taken t.due.items)
    pub sizes : size_of (drop t.tip.cuts t.marks.items) ≤ length (drop t.tip.taken t.due.items)
    pub rest : due_chain epoch executed t.items.items (drop t.tip.taken t.due.items) (drop t.tip.cuts t.marks.items) ≡ due_chain epoch executed (take t.opened t.items.items) t.due.items t.marks.items

  pub starts : (t : Rows) → IsKept t → IsBehind epoch executed (shown t) → Starts t
  starts t kept behind = record {
    within = omega (arith, split, begun, sized, room);
    reached = omega (arith, begun, reached);
    ready = omega (arith, ahead);
    sizes = omega (arith, split, begun, sized, room, left);
    rest = ap (λ n. due_chain epoch executed t.items.items (drop n t.due.items) (drop t.tip.cuts t.marks.items)) begun ∙ first.rest;
  }
    where
      split : size_of t.marks.items ≡ size_of (take t.tip.cuts t.marks.items) + size_of (drop t.tip.cuts t.marks.items)
      split = sizes_split t.tip.cuts t.marks.items

      begun : t.tip.taken ≡ size_of (take t.tip.cuts t.marks.items)
      begun = kept.begins

      sized : t.cut ≡ size_of t.marks.items
      sized = kept.sized

      room : t.cut ≤ length t.due.items
      room = kept.room

      opened : length (take t.opened t.items.items) ≡ t.opened
      opened = length-take-le t.opened t.items.items (let s = kept.split in omega (arith, s))

      first : Begins (take t.opened t.items.items) t.items.items t.due.items t.marks.items t.tip.cuts
      first = begins (take t.opened t.items.items) t.items.items t.due.items t.marks.items t.tip.cuts (omega (arith, sized, room)) (let s = kept.split in omega (arith, opened, s)) behind.front

      reached : size_of (take t.tip.cuts t.marks.items) ≤ front_length test t.due.items
      reached = first.reached

      ahead : t.tip.taken + front_length test (drop t.tip.taken t.due.items) ≡ front_length test t.due.items
      ahead = front_behind test t.tip.taken t.due.items (omega (arith, begun, reached))

      left : length (drop t.tip.taken t.due.items) ≡ length t.due.items - t.tip.taken
      left = length-drop t.tip.taken t.due.items

-- ---- all that can be built is built

module _ (epoch : ℕ) (executed : List Execution) (old new : Rows) (done : ℕ) (kept : IsKept old) (behind : IsBehind epoch executed (shown old)) (takes : Takes (growth_of epoch executed old) done old new) where
  all : Grows epoch executed old.items.items (record { fresh = []; tip = old.tip }) (drop old.tip.taken old.due.items) (drop old.tip.cuts old.marks.items) (growth_of epoch executed old)
  all = grows epoch executed old.items.items (record { fresh = []; tip = old.tip }) (drop old.tip.taken old.due.items) (drop old.tip.cuts old.marks.items)
      (subst (λ (xs : List Checkpoint). Ends xs old.tip) (sym (append-nil old.items.items)) kept.ends) (starts epoch executed old kept behind).sizes

  whole : new.items.items ≡ due_chain epoch executed (take old.opened old.items.items) old.due.items old.marks.items
  whole = takes.items ∙ all.built ∙ ap (λ (xs : List Checkpoint). due_chain epoch executed xs (drop old.tip.taken old.due.items) (drop old.tip.cuts old.marks.items)) (append-nil old.items.items)
      ∙ (starts epoch executed old kept behind).rest

  cut_more : new.tip.cuts ≡ old.tip.cuts + all.many
  cut_more = ap (λ (t : Tip). t.cuts) takes.tip ∙ all.cuts

  within : all.many ≤ length (drop old.tip.cuts old.marks.items)
  within = all.within

  left : length (drop old.tip.cuts old.marks.items) ≡ length old.marks.items - old.tip.cuts
  left = length-drop old.tip.cuts old.marks.items

  cuts_long : new.opened + new.tip.cuts ≡ length new.items.items
  cuts_long =
      let fresh : length (growth_of epoch executed old).fresh ≡ 0 + all.many = all.long in
      let items = ap length takes.items in
      let both = length-append old.items.items (growth_of epoch executed old).fresh in
      let opened = takes.opened in
      let split = kept.split in
      omega (arith, cut_more, fresh, items, both, opened, split)

  few : new.tip.cuts ≤ length new.marks.items
  few = let marks = ap length takes.marks in let k = kept.few in omega (arith, cut_more, within, left, marks, k)

  taken : new.tip.taken ≡ size_of (take new.tip.cuts new.marks.items)
  taken =
      let old_taken = kept.begins in
      let tip : new.tip.taken ≡ old.tip.taken + size_of (take all.many (drop old.tip.cuts old.marks.items)) = ap (λ (t : Tip). t.taken) takes.tip ∙ all.taken in
      let both = sizes_take old.tip.cuts all.many old.marks.items in
      let marks : size_of (take new.tip.cuts new.marks.items) ≡ size_of (take (old.tip.cuts + all.many) old.marks.items) =
      ap (λ n. size_of (take n new.marks.items)) cut_more ∙ ap (λ (ms : List CutMark). size_of (take (old.tip.cuts + all.many) ms)) takes.marks in
      omega (arith, old_taken, tip, both, marks)

  pub all_kept : done ≡ front_length (is_due_done executed) old.due.items → IsKept new
  all_kept found = record {
    ends = subst (λ (xs : List Checkpoint). Ends xs new.tip) (sym takes.items) (subst (λ (t : Tip). Ends (old.items.items ++ (growth_of epoch executed old).fresh) t) (sym takes.tip) all.ends);
    split = cuts_long;
    few = few;
    begins = taken;
    sized = takes.cut ∙ kept.sized ∙ ap size_of (sym takes.marks);
    room = let cut = takes.cut in let room = kept.room in let due = ap length takes.due in omega (arith, cut, room, due);
    ahead =
        let most = front_most (is_due_done executed) old.due.items in
        let found_now = takes.found in
        let due = ap length takes.due in
        omega (arith, most, found, found_now, due);
  }

  opened_same : take new.opened new.items.items ≡ take old.opened old.items.items
  opened_same =
      ap (λ n. take n new.items.items) takes.opened ∙ ap (take old.opened) takes.items
      ∙ take-append-le old.opened old.items.items (growth_of epoch executed old).fresh (let s = kept.split in omega (arith, s))

  pub all_shown : done ≡ front_length (is_due_done executed) old.due.items → shown new ≡ advanced epoch executed (shown old)
  all_shown found =
      let seen : List Checkpoint → List Checkpoint → List Due → List CutMark → ℕ → Chaining = λ past built due marks done. record { past = past; built = built; due = due; marks = marks; done = done } in
      ap (λ past. seen past new.items.items new.due.items new.marks.items new.done) opened_same
      ∙ ap (λ built. seen (take old.opened old.items.items) built new.due.items new.marks.items new.done) whole
      ∙ ap (λ due. seen (take old.opened old.items.items) built due new.marks.items new.done) takes.due
      ∙ ap (λ marks. seen (take old.opened old.items.items) built old.due.items marks new.done) takes.marks
      ∙ ap (seen (take old.opened old.items.items) built old.due.items old.marks.items) (takes.found ∙ found)
    where
      built : List Checkpoint
      built = due_chain epoch executed (take old.opened old.items.items) old.due.items old.marks.items
