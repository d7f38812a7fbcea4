-- A member's epoch, and the checkpoints that it has built, along its journal.
use Rattle.std.proofs.Common.{inl, inr, refl, sym, subst, ap, ◌∙◌, arith, append_assoc, append-nil}
use Rattle.std.specs.Prelude.{◌≡◌, ◌⊎◌, ◌<◌, ◌≤◌, ◌+◌, ℕ, zero, suc, Bool, true, false, cond, List, [], ◌∷◌, ◌++◌, fold, map}
use Rattle.std.specs.List.{list_all}
use Rattle.chain_types.specs.declared.objects.Object.{Object}
use Rattle.checkpoint_core.specs.declared.checkpoints.Checkpoint.{Checkpoint}
use Rattle.journal_core.specs.declared.records.Record.{Record}
use Rattle.journal_core.specs.declared.records.Record.TheVariants as record_as
use Rattle.protocol_spec.specs.declared.answers.Held.{Held}
use Rattle.protocol_spec.proofs.ListLemmas.{front_whole, front_then}
use Rattle.protocol_spec.specs.Chain.Words.{Has, IsFront}
use Rattle.protocol_spec.specs.Chain.Certificates.{Rules}
use Rattle.protocol_spec.specs.Member.Versions.{Execution}
use Rattle.protocol_spec.specs.Member.Sequence.{Cut}
use Rattle.protocol_spec.specs.Member.Checkpoints.{chained, checkpoint_behind, is_done, item_of}
use Rattle.protocol_spec.specs.Member.Member.{Member, after, built, fresh, state}
use Rattle.safety_law.proofs.Apart.{state-push}
use Rattle.safety_law.proofs.Once.{has-push}

-- ---- lists

-- if an element stands in a list with one more: it is that one, or it stood there before
pub push-split : {A : Type 0} (xs : List A) (x : A) (front : List A) (y : A) (rest : List A) → xs ++ x ∷ [] ≡ front ++ (y ∷ rest) → ((front ≡ xs) × (x ≡ y)) ⊎ ((more : List A) × (xs ≡ front ++ (y ∷ more)))
push-split {A = A} [] x [] y rest e = inl (refl, head e)
  where
    head : x ∷ [] ≡ y ∷ rest → x ≡ y
    head e = cc
push-split [] x (z ∷ []) y rest e = absurd (cc)
push-split [] x (z ∷ w ∷ front) y rest e = absurd (cc)
push-split {A = A} (a ∷ xs) x [] y rest e = inr (xs, ap (λ (b : A). b ∷ xs) (head (xs ++ x ∷ []) e))
  where
    head : (tail : List A) → a ∷ tail ≡ y ∷ rest → a ≡ y
    head tail e = cc
push-split {A = A} (a ∷ xs) x (z ∷ front) y rest e = go (push-split xs x front y rest (tails (xs ++ x ∷ []) (front ++ (y ∷ rest)) e))
  where
    heads : (us vs : List A) → a ∷ us ≡ z ∷ vs → a ≡ z
    heads us vs e = cc

    tails : (us vs : List A) → a ∷ us ≡ z ∷ vs → us ≡ vs
    tails us vs e = cc

    same : a ≡ z
    same = heads (xs ++ x ∷ []) (front ++ (y ∷ rest)) e

    go : ((front ≡ xs) × (x ≡ y)) ⊎ ((more : List A) × (xs ≡ front ++ (y ∷ more))) → ((z ∷ front ≡ a ∷ xs) × (x ≡ y)) ⊎ ((more : List A) × (a ∷ xs ≡ z ∷ (front ++ (y ∷ more))))
    go (inl p) = inl (ap (λ (b : A). b ∷ front) (sym same) ∙ ap (λ (bs : List A). a ∷ bs) p.0, p.1)
    go (inr q) = inr (q.0, ap (λ (b : A). b ∷ xs) same ∙ ap (λ (bs : List A). z ∷ bs) q.1)

pub cancel : {A : Type 0} (front us vs : List A) → front ++ us ≡ front ++ vs → us ≡ vs
cancel [] us vs e = e
cancel {A = A} (x ∷ front) us vs e = cancel front us vs (tails (front ++ us) (front ++ vs) e)
  where
    tails : (ps qs : List A) → x ∷ ps ≡ x ∷ qs → ps ≡ qs
    tails ps qs e = cc

pub same-or-less : (a b : ℕ) → a ≤ b → (a ≡ b) ⊎ (a < b)
same-or-less zero zero low = inl refl
same-or-less zero (suc b) low = inr (omega arith)
same-or-less (suc a) zero low = absurd (omega (arith, low))
same-or-less (suc a) (suc b) low = go (same-or-less a b (omega (arith, low)))
  where
    go : (a ≡ b) ⊎ (a < b) → (suc a ≡ suc b) ⊎ (suc a < suc b)
    go (inl e) = inl (ap suc e)
    go (inr less) = inr (omega (arith, less))

-- ---- the epoch, and the checkpoints of the epochs before, along a journal

pub chained-more : (epoch : ℕ) (held : List Held) (executed : List Execution) (cuts : List Cut) (before : List Checkpoint) → IsFront before (chained epoch held executed before cuts)
chained-more epoch held executed [] before = front_whole before
chained-more epoch held executed (c ∷ cs) before = go (list_all (is_done held executed) c.txs) (chained-more epoch held executed cs (before ++ checkpoint_behind epoch executed before c ∷ []))
  where
    next : List Checkpoint
    next = before ++ checkpoint_behind epoch executed before c ∷ []

    go : (b : Bool) → IsFront next (chained epoch held executed next cs) → IsFront before (cond b (chained epoch held executed next cs) before)
    go true front = front_then before next (chained epoch held executed next cs) (checkpoint_behind epoch executed before c ∷ [], refl) front
    go false front = front_whole before

-- where a checkpoint comes from: it stood before, or is of a cut of the epoch
pub record IsOfCuts (epoch : ℕ) (executed : List Execution) (c : Checkpoint) : Type 0 where
  pub epoch_is : c.epoch ≡ epoch
  pub of : Cut
  pub items : c.items ≡ map (item_of executed) of.txs

behind-of : (epoch : ℕ) (executed : List Execution) (before : List Checkpoint) (d : Cut) → IsOfCuts epoch executed (checkpoint_behind epoch executed before d)
unfolding checkpoint_behind
behind-of epoch executed before d = record { epoch_is = refl; of = d; items = refl }

chained-from : (epoch : ℕ) (held : List Held) (executed : List Execution) (cuts : List Cut) (before : List Checkpoint) (c : Checkpoint) → Has (chained epoch held executed before cuts) c → Has before c ⊎ IsOfCuts epoch executed c
chained-from epoch held executed [] before c h = inl h
chained-from epoch held executed (d ∷ cs) before c h = go (list_all (is_done held executed) d.txs) h (chained-from epoch held executed cs (before ++ checkpoint_behind epoch executed before d ∷ []) c)
  where
    pushed : Has before c ⊎ (checkpoint_behind epoch executed before d ≡ c) → Has before c ⊎ IsOfCuts epoch executed c
    pushed (inl k) = inl k
    pushed (inr e) = inr (subst (IsOfCuts epoch executed) e (behind-of epoch executed before d))

    either : Has (before ++ checkpoint_behind epoch executed before d ∷ []) c ⊎ IsOfCuts epoch executed c → Has before c ⊎ IsOfCuts epoch executed c
    either (inl k) = pushed (has-push before (checkpoint_behind epoch executed before d) c k)
    either (inr it) = inr it

    go : (b : Bool) → Has (cond b (chained epoch held executed (before ++ checkpoint_behind epoch executed before d ∷ []) cs) before) c
        → (Has (chained epoch held executed (before ++ checkpoint_behind epoch executed before d ∷ []) cs) c → Has (before ++ checkpoint_behind epoch executed before d ∷ []) c ⊎ IsOfCuts epoch executed c) → Has before c ⊎ IsOfCuts epoch executed c
    go true k rest = either (rest k)
    go false k rest = inl k

pub built-from : (m : Member) (c : Checkpoint) → Has (built m) c → Has m.past c ⊎ IsOfCuts m.epoch m.executed c
unfolding built
built-from m c h = chained-from m.epoch m.held m.executed m.sequence.cuts m.past c h

pub past-built : (m : Member) → IsFront m.past (built m)
unfolding built
past-built m = chained-more m.epoch m.held m.executed m.sequence.cuts m.past

-- a record is a turn, or the epoch stays
epoch-or-turn : (r : Rules) (m : Member) (x : Record) → ((after r m x).epoch ≡ m.epoch) ⊎ (x ≡ record_as.Turn)
unfolding after
epoch-or-turn r m (record_as.Vote tx origins) = inl refl
epoch-or-turn r m (record_as.Hold c) = inl refl
epoch-or-turn r m (record_as.See bytes) = inl refl
epoch-or-turn r m record_as.Close = inl refl
epoch-or-turn r m (record_as.Ran txs) = inl refl
epoch-or-turn r m record_as.Turn = inr refl
epoch-or-turn r m (record_as.Ran2 items) = inl refl

pub turn-epoch : (r : Rules) (m : Member) → (after r m record_as.Turn).epoch ≡ m.epoch + 1
unfolding after
turn-epoch r m = refl

pub turn-past : (r : Rules) (m : Member) → (after r m record_as.Turn).past ≡ built m
unfolding after
turn-past r m = refl

after-past : (r : Rules) (m : Member) (x : Record) → IsFront m.past (after r m x).past
unfolding after
after-past r m (record_as.Vote tx origins) = front_whole m.past
after-past r m (record_as.Hold c) = front_whole m.past
after-past r m (record_as.See bytes) = front_whole m.past
after-past r m record_as.Close = front_whole m.past
after-past r m (record_as.Ran txs) = front_whole m.past
after-past r m record_as.Turn = past-built m
after-past r m (record_as.Ran2 items) = front_whole m.past

-- the checkpoints of the epochs before are of epochs before
abbrev pub PastIsBefore : Member → Type 0
PastIsBefore m = (c : Checkpoint) → Has m.past c → c.epoch < m.epoch

-- after a turn, those of the epoch that the member left are what it had built there
abbrev pub IsBeyond : Member → Member → Type 0
IsBeyond p m = (p.epoch < m.epoch) × ((c : Checkpoint) → Has m.past c → c.epoch ≡ p.epoch → Has (built p) c)

module _ (r : Rules) where
  turn-before : (m : Member) → PastIsBefore m → PastIsBefore (after r m record_as.Turn)
  unfolding after
  turn-before m before c h = go (built-from m c h)
    where
      go : Has m.past c ⊎ IsOfCuts m.epoch m.executed c → c.epoch < m.epoch + 1
      go (inl k) = let less = before c k in omega (arith, less)
      go (inr it) = let same = it.epoch_is in omega (arith, same)

  after-before : (m : Member) (x : Record) → PastIsBefore m → PastIsBefore (after r m x)
  unfolding after
  after-before m (record_as.Vote tx origins) before = before
  after-before m (record_as.Hold c) before = before
  after-before m (record_as.See bytes) before = before
  after-before m record_as.Close before = before
  after-before m (record_as.Ran txs) before = before
  after-before m record_as.Turn before = turn-before m before
  after-before m (record_as.Ran2 items) before = before

  fold-before : (records : List Record) (m : Member) → PastIsBefore m → PastIsBefore (fold (after r) m records)
  fold-before [] m before = before
  fold-before (x ∷ records) m before = fold-before records (after r m x) (after-before m x before)

  pub past-before : (opening : List Object) (records : List Record) → PastIsBefore (state r opening records)
  unfolding state
  past-before opening records = fold-before records (fresh opening) (λ c h. absurd h)

  pub built-beyond : (p m : Member) → IsBeyond p m → (c : Checkpoint) → Has (built m) c → c.epoch ≡ p.epoch → Has (built p) c
  built-beyond p m beyond c h e = go (built-from m c h)
    where
      go : Has m.past c ⊎ IsOfCuts m.epoch m.executed c → Has (built p) c
      go (inl k) = beyond.1 c k e
      go (inr it) = absurd (let same = it.epoch_is in let less = beyond.0 in omega (arith, same, less, e))

  turn-beyond : (p m : Member) → IsBeyond p m → IsBeyond p (after r m record_as.Turn)
  unfolding after
  turn-beyond p m beyond = (let less = beyond.0 in omega (arith, less), built-beyond p m beyond)

  after-beyond : (p m : Member) (x : Record) → IsBeyond p m → IsBeyond p (after r m x)
  unfolding after
  after-beyond p m (record_as.Vote tx origins) beyond = beyond
  after-beyond p m (record_as.Hold c) beyond = beyond
  after-beyond p m (record_as.See bytes) beyond = beyond
  after-beyond p m record_as.Close beyond = beyond
  after-beyond p m (record_as.Ran txs) beyond = beyond
  after-beyond p m record_as.Turn beyond = turn-beyond p m beyond
  after-beyond p m (record_as.Ran2 items) beyond = beyond

  pub first-beyond : (p : Member) → IsBeyond p (after r p record_as.Turn)
  unfolding after
  first-beyond p = (omega arith, λ c h e. h)

  pub more-beyond : (opening : List Object) (p : Member) (more before : List Record) → IsBeyond p (state r opening before) → IsBeyond p (state r opening (before ++ more))
  more-beyond opening p [] before beyond = subst (λ (rs : List Record). IsBeyond p (state r opening rs)) (sym (append-nil before)) beyond
  more-beyond opening p (x ∷ more) before beyond = subst (λ (rs : List Record). IsBeyond p (state r opening rs)) (append_assoc before (x ∷ []) more)
      (more-beyond opening p more (before ++ x ∷ []) (subst (IsBeyond p) (sym (state-push r opening before x)) (after-beyond p (state r opening before) x beyond)))

module _ (r : Rules) (opening : List Object) where
  abbrev at : List Record → Member
  at records = state r opening records

  one-epoch : (before : List Record) (x : Record) → (at before).epoch ≤ (at (before ++ x ∷ [])).epoch
  one-epoch before x = subst (λ (m : Member). (at before).epoch ≤ m.epoch) (sym (state-push r opening before x)) (go (epoch-or-turn r (at before) x))
    where
      go : ((after r (at before) x).epoch ≡ (at before).epoch) ⊎ (x ≡ record_as.Turn) → (at before).epoch ≤ (after r (at before) x).epoch
      go (inl e) = omega (arith, e)
      go (inr e) = subst (λ (y : Record). (at before).epoch ≤ (after r (at before) y).epoch) (sym e) (let n = turn-epoch r (at before) in omega (arith, n))

  pub epoch-grows : (more before : List Record) → (at before).epoch ≤ (at (before ++ more)).epoch
  epoch-grows [] before = subst (λ (rs : List Record). (at before).epoch ≤ (at rs).epoch) (sym (append-nil before)) (omega arith)
  epoch-grows (x ∷ more) before =
      let one = one-epoch before x in
      let rest = subst (λ (rs : List Record). (at (before ++ x ∷ [])).epoch ≤ (at rs).epoch) (append_assoc before (x ∷ []) more) (epoch-grows more (before ++ x ∷ [])) in
      omega (arith, one, rest)

  pub past-grows : (more before : List Record) → IsFront (at before).past (at (before ++ more)).past
  past-grows [] before = subst (λ (rs : List Record). IsFront (at before).past (at rs).past) (sym (append-nil before)) (front_whole (at before).past)
  past-grows (x ∷ more) before =
      front_then (at before).past (at (before ++ x ∷ [])).past (at (before ++ (x ∷ more))).past
      (subst (λ (m : Member). IsFront (at before).past m.past) (sym (state-push r opening before x)) (after-past r (at before) x))
      (subst (λ (rs : List Record). IsFront (at (before ++ x ∷ [])).past (at rs).past) (append_assoc before (x ∷ []) more) (past-grows more (before ++ x ∷ [])))

  -- a member that is past an epoch turned out of it
  pub record IsTurn (records : List Record) (epoch : ℕ) : Type 0 where
    pub front : List Record
    pub back : List Record
    pub split : records ≡ front ++ (record_as.Turn ∷ back)
    pub epoch_is : (at front).epoch ≡ epoch

  pub turn-between : (rest before : List Record) (epoch : ℕ) → (at before).epoch ≤ epoch → epoch < (at (before ++ rest)).epoch → IsTurn (before ++ rest) epoch
  turn-between [] before epoch low high = absurd (let less = subst (λ (rs : List Record). epoch < (at rs).epoch) (append-nil before) high in omega (arith, low, less))
  turn-between (x ∷ rest) before epoch low high = go (epoch-or-turn r (at before) x) (turn-between rest (before ++ x ∷ []) epoch)
    where
      joined : (before ++ x ∷ []) ++ rest ≡ before ++ (x ∷ rest)
      joined = append_assoc before (x ∷ []) rest

      Rest : Type 0
      Rest = (at (before ++ x ∷ [])).epoch ≤ epoch → epoch < (at ((before ++ x ∷ []) ++ rest)).epoch → IsTurn ((before ++ x ∷ []) ++ rest) epoch

      later : Rest → (at (before ++ x ∷ [])).epoch ≤ epoch → IsTurn (before ++ (x ∷ rest)) epoch
      later back still = subst (λ (rs : List Record). IsTurn rs epoch) joined (back still (subst (λ (rs : List Record). epoch < (at rs).epoch) (sym joined) high))

      turned : x ≡ record_as.Turn → (at (before ++ x ∷ [])).epoch ≡ (at before).epoch + 1
      turned e = ap (λ (m : Member). m.epoch) (state-push r opening before x) ∙ ap (λ (y : Record). (after r (at before) y).epoch) e ∙ turn-epoch r (at before)

      here : x ≡ record_as.Turn → (at before).epoch ≡ epoch → IsTurn (before ++ (x ∷ rest)) epoch
      here e same = record { front = before; back = rest; split = ap (λ (y : Record). before ++ (y ∷ rest)) e; epoch_is = same }

      which : Rest → x ≡ record_as.Turn → ((at before).epoch ≡ epoch) ⊎ ((at before).epoch < epoch) → IsTurn (before ++ (x ∷ rest)) epoch
      which back e (inl same) = here e same
      which back e (inr less) = later back (let n = turned e in omega (arith, n, less))

      go : ((after r (at before) x).epoch ≡ (at before).epoch) ⊎ (x ≡ record_as.Turn) → Rest → IsTurn (before ++ (x ∷ rest)) epoch
      go (inl same) back = later back (let n = ap (λ (m : Member). m.epoch) (state-push r opening before x) ∙ same in omega (arith, n, low))
      go (inr e) back = which back e (same-or-less (at before).epoch epoch low)
