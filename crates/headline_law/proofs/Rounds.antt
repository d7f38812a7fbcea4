-- After the rounds of a run nothing is ready: each round that executes anything leaves fewer certificates open. And a
-- round takes all that is ready, if no two that are ready write one key.
use Rattle.std.proofs.Common.{inl, inr, refl, sym, subst, ap, ◌∙◌, arith, append_assoc, append-nil}
use Rattle.std.proofs.lemmas.Bool.{eqb-true}
use Rattle.std.specs.Prelude.{◌≡◌, ◌⊎◌, ◌<◌, ◌≤◌, ◌+◌, ◌==◌, ℕ, zero, suc, Bool, true, false, cond, not, ◌&&◌, List, [], ◌∷◌, ◌++◌, find, length, Option, Some, None, is_some}
use Rattle.std.specs.List.{list_any}
use Rattle.chain_types.specs.declared.objects.ObjectId.{ObjectId}
use Rattle.chain_types.specs.declared.objects.ObjectKey.{ObjectKey}
use Rattle.chain_types.specs.declared.objects.Object.{Object}
use Rattle.chain_types.specs.Equal.{id_eq, key_eq}
use Rattle.protocol_spec.specs.declared.answers.Held.{Held}
use Rattle.protocol_spec.proofs.Equality.{id_same}
use Rattle.protocol_spec.proofs.Executions.{stays_executed}
use Rattle.protocol_spec.specs.Chain.Words.{Has, where_true}
use Rattle.protocol_spec.specs.Chain.Tests.{has_key}
use Rattle.protocol_spec.specs.Chain.Keys.{fits}
use Rattle.protocol_spec.proofs.ListLemmas.{and-first, and-second, not-true, has_left, push_has, has_right}
use Rattle.protocol_spec.specs.Block.Execution.{execution, written_keys}
use Rattle.protocol_spec.specs.Member.Versions.{Execution, versions, is_executed}
use Rattle.protocol_spec.specs.Member.Rounds.{Books, present, may_run, writes_new, executes_as, ready_as, ready_on, ready, clashes, round_add, round_among, round_of, rounds_within, rounds}
use Rattle.safety_law.proofs.Once.{has-push}
use Rattle.headline_law.proofs.Keys.{was-executed}
use Rattle.block_law.proofs.Live.{any-has}

-- ---- what is ready

-- it may be executed on these objects, was not, and gives this
pub record IsReadyOn (b : Books) (executed : List Execution) (h : Held) (x : Execution) : Type 0 where
  pub objects : List Object
  pub idle : is_executed executed h.digest ≡ false
  pub may : may_run b h ≡ true
  pub there : present b executed h ≡ Some objects
  pub fit : fits h.cert.tx objects ≡ true
  pub is : x ≡ executes_as h (execution h.cert.tx objects)

module _ (b : Books) (executed : List Execution) (h : Held) (x : Execution) where
  pub ready-says : ready b executed h ≡ Some x → IsReadyOn b executed h x
  unfolding ready
  ready-says e = go (not (is_executed executed h.digest) && may_run b h) refl (present b executed h) refl e
    where
      same : (y : Execution) → Some y ≡ Some x → x ≡ y
      same y e = cc

      writing : (objects : List Object) → fits h.cert.tx objects ≡ true → (not (is_executed executed h.digest) && may_run b h) ≡ true → present b executed h ≡ Some objects
          → (t : Bool) → where_true t (executes_as h (execution h.cert.tx objects)) ≡ Some x → IsReadyOn b executed h x
      writing objects fit may there false e = absurd (cc)
      writing objects fit may there true e = record {
        objects = objects;
        idle = not-true (is_executed executed h.digest) (and-first (not (is_executed executed h.digest)) (may_run b h) may);
        may = and-second (not (is_executed executed h.digest)) (may_run b h) may;
        there = there;
        fit = fit;
        is = same (executes_as h (execution h.cert.tx objects)) e;
      }

      fitting : (objects : List Object) (f : Bool) → fits h.cert.tx objects ≡ f → (not (is_executed executed h.digest) && may_run b h) ≡ true → present b executed h ≡ Some objects
          → cond f (ready_as b executed h (execution h.cert.tx objects)) None ≡ Some x → IsReadyOn b executed h x
      fitting objects false f may there e = absurd (cc)
      fitting objects true f may there e = writing objects f may there (writes_new (versions b.opening executed) (written_keys (execution h.cert.tx objects))) e

      go : (y : Bool) → (not (is_executed executed h.digest) && may_run b h) ≡ y → (p : Option (List Object)) → present b executed h ≡ p → cond y (ready_on b executed h p) None ≡ Some x → IsReadyOn b executed h x
      go false may p there e = absurd (cc)
      go true may None there e = absurd (cc)
      go true may (Some objects) there e = fitting objects (fits h.cert.tx objects) refl may there e

-- ---- one round

module _ (b : Books) (executed : List Execution) where
  pub among-more : (hs : List Held) (round : List Execution) (x : Execution) → Has round x → Has (round_among b executed round hs) x
  among-more [] round x h = h
  among-more (k ∷ hs) round x h = among-more hs (round_add round (ready b executed k)) x (added (ready b executed k))
    where
      kept : (y : Execution) (c : Bool) → Has (cond c round (round ++ y ∷ [])) x
      kept y true = h
      kept y false = has_left round (y ∷ []) x h

      added : (o : Option Execution) → Has (round_add round o) x
      added None = h
      added (Some y) = kept y (clashes round y)

  abbrev pub IsReadyOne : List Held → Execution → Type 0
  IsReadyOne hs x = (h : Held) × Has hs h × (ready b executed h ≡ Some x)

  added-from : (hs : List Held) (round : List Execution) (k : Held) (o : Option Execution) → ready b executed k ≡ o → Has hs k → (x : Execution) → Has (round_add round o) x → Has round x ⊎ IsReadyOne hs x
  added-from hs round k None e there x h = inl h
  added-from hs round k (Some y) e there x h = go (clashes round y) h
    where
      which : Has round x ⊎ (y ≡ x) → Has round x ⊎ IsReadyOne hs x
      which (inl r) = inl r
      which (inr q) = inr (k, there, e ∙ ap Some q)

      go : (c : Bool) → Has (cond c round (round ++ y ∷ [])) x → Has round x ⊎ IsReadyOne hs x
      go true r = inl r
      go false r = which (has-push round y x r)

  pub among-from : (all hs : List Held) (round : List Execution) → ((k : Held) → Has hs k → Has all k) → (x : Execution) → Has (round_among b executed round hs) x → Has round x ⊎ IsReadyOne all x
  among-from all [] round there x h = inl h
  among-from all (k ∷ hs) round there x h = go (among-from all hs (round_add round (ready b executed k)) (λ z r. there z (inr r)) x h)
    where
      go : Has (round_add round (ready b executed k)) x ⊎ IsReadyOne all x → Has round x ⊎ IsReadyOne all x
      go (inl r) = added-from all round k (ready b executed k) refl (there k (inl refl)) x r
      go (inr r) = inr r

  never-any : {A : Type 0} (xs : List A) → list_any (λ (k : A). false) xs ≡ false
  never-any [] = refl
  never-any (x ∷ xs) = never-any xs

  among-none : (hs : List Held) → round_among b executed [] hs ≡ [] → (h : Held) → Has hs h → ready b executed h ≡ None
  among-none [] none h there = absurd there
  among-none (k ∷ hs) none h there = go (ready b executed k) refl none there (λ e. among-none hs e h)
    where
      taken : (x : Execution) → Has (round_add [] (Some x)) x
      taken x = subst (λ (c : Bool). Has (cond c [] (x ∷ [])) x) (sym (never-any (written_keys x.gave))) (inl refl)

      go : (o : Option Execution) → ready b executed k ≡ o → round_among b executed (round_add [] o) hs ≡ [] → Has (k ∷ hs) h → (round_among b executed [] hs ≡ [] → Has hs h → ready b executed h ≡ None) → ready b executed h ≡ None
      go None e none (inl q) rest = subst (λ (z : Held). ready b executed z ≡ None) q e
      go None e none (inr r) rest = rest none r
      go (Some x) e none there rest = absurd (subst (λ (xs : List Execution). Has xs x) none (among-more hs (round_add [] (Some x)) x (taken x)))

  -- if the round is empty nothing is ready
  none-ready : round_of b executed ≡ [] → (h : Held) → Has b.held h → ready b executed h ≡ None
  unfolding round_of
  none-ready none h there = among-none b.held none h there

  round-from : (x : Execution) → Has (round_of b executed) x → IsReadyOne b.held x
  unfolding round_of
  round-from x h = go (among-from b.held b.held [] (λ k r. r) x h)
    where
      go : Has [] x ⊎ IsReadyOne b.held x → IsReadyOne b.held x
      go (inl r) = absurd r
      go (inr r) = r

  -- ---- a round takes all that is ready

  key-same : (a c : ObjectKey) → key_eq a c ≡ true → a ≡ c
  key-same a c e =
      ap (λ (i : ObjectId). let k : ObjectKey = record { id = i; version = a.version } in k) (id_same a.id c.id (and-first (id_eq a.id c.id) (a.version == c.version) e))
      ∙ ap (λ (v : ℕ). let k : ObjectKey = record { id = c.id; version = v } in k) (eqb-true a.version c.version (and-second (id_eq a.id c.id) (a.version == c.version) e))

  pub key-there : (keys : List ObjectKey) (key : ObjectKey) → has_key keys key ≡ true → Has keys key
  key-there keys key e = let k = any-has (key_eq key) keys e in subst (Has keys) (sym (key-same key k.0 k.2)) k.1

  module _ (apart : (h k : Held) (x y : Execution) → Has b.held h → Has b.held k → ready b executed h ≡ Some x → ready b executed k ≡ Some y → (key : ObjectKey) → Has (written_keys x.gave) key → Has (written_keys y.gave) key → h.digest ≡ k.digest) where
    abbrev Takes : List Execution → Held → Type 0
    Takes round h = (y : Execution) × Has round y × (y.digest ≡ h.digest)

    taken : (round : List Execution) → ((y : Execution) → Has round y → IsReadyOne b.held y) → (h : Held) (x : Execution) → Has b.held h → ready b executed h ≡ Some x → (c : Bool) → clashes round x ≡ c → Takes (cond c round (round ++ x ∷ [])) h
    taken round from h x there e false c = (x, push_has round x, ap (λ (z : Execution). z.digest) (ready-says b executed h x e).is)
    taken round from h x there e true c =
        let key = any-has (λ (key : ObjectKey). list_any (λ (y : Execution). has_key (written_keys y.gave) key) round) (written_keys x.gave) c in
        let y = any-has (λ (y : Execution). has_key (written_keys y.gave) key.0) round key.2 in
        let k = from y.0 y.1 in
        (y.0, y.1, ap (λ (z : Execution). z.digest) (ready-says b executed k.0 y.0 k.2).is ∙ sym (apart h k.0 x y.0 there k.1 e k.2 key.0 key.1 (key-there (written_keys y.0.gave) key.0 y.2)))

    all-taken : (hs : List Held) (round : List Execution) → ((k : Held) → Has hs k → Has b.held k) → ((y : Execution) → Has round y → IsReadyOne b.held y) → (h : Held) (x : Execution) → Has hs h → ready b executed h ≡ Some x → Takes (round_among b executed round hs) h
    all-taken [] round there from h x k e = absurd k
    all-taken (k ∷ hs) round there from h x (inl q) e =
        let now = subst (λ (o : Option Execution). Takes (round_add round o) h) (sym (ap (ready b executed) q ∙ e)) (taken round from h x (there h (inl q)) e (clashes round x) refl) in
        (now.0, among-more hs (round_add round (ready b executed k)) now.0 now.1, now.2)
    all-taken (k ∷ hs) round there from h x (inr r) e = all-taken hs (round_add round (ready b executed k)) (λ z i. there z (inr i)) (λ y i. which y (added-from b.held round k (ready b executed k) refl (there k (inl refl)) y i)) h x r e
      where
        which : (y : Execution) → Has round y ⊎ IsReadyOne b.held y → IsReadyOne b.held y
        which y (inl i) = from y i
        which y (inr i) = i

    pub round-takes : (h : Held) (x : Execution) → Has b.held h → ready b executed h ≡ Some x → is_executed (executed ++ round_of b executed) h.digest ≡ true
    unfolding round_of
    round-takes h x there e =
        let t = all-taken b.held [] (λ k r. r) (λ y none. absurd none) h x there e in
        was-executed (executed ++ round_among b executed [] b.held) t.0 h.digest (has_right executed (round_among b executed [] b.held) t.0 t.1) t.2

-- ---- how many are open

abbrev unless : Bool → ℕ
unless true = 0
unless false = 1

abbrev idle_count : List Execution → List Held → ℕ
idle_count executed [] = 0
idle_count executed (h ∷ hs) = unless (is_executed executed h.digest) + idle_count executed hs

pub some-more : {A : Type 0} (test : A → Bool) (xs ys : List A) → is_some (find test xs) ≡ true → is_some (find test (xs ++ ys)) ≡ true
some-more test [] ys e = absurd (cc)
some-more test (x ∷ xs) ys e = go (test x) e (some-more test xs ys)
  where
    go : (c : Bool) → is_some (cond c (Some x) (find test xs)) ≡ true → (is_some (find test xs) ≡ true → is_some (find test (xs ++ ys)) ≡ true) → is_some (cond c (Some x) (find test (xs ++ ys))) ≡ true
    go true e rest = refl
    go false e rest = rest e

unless-less : (c d : Bool) → (c ≡ true → d ≡ true) → unless d ≤ unless c
unless-less true d more = subst (λ (z : Bool). unless z ≤ 0) (sym (more refl)) (omega arith)
unless-less false true more = omega arith
unless-less false false more = omega arith

count-less : (xs ys : List Execution) (hs : List Held) → idle_count (xs ++ ys) hs ≤ idle_count xs hs
count-less xs ys [] = omega arith
count-less xs ys (h ∷ hs) =
    let here = unless-less (is_executed xs h.digest) (is_executed (xs ++ ys) h.digest) (stays_executed xs ys h.digest) in
    let rest = count-less xs ys hs in
    omega (arith, here, rest)

count-lower : (xs ys : List Execution) (hs : List Held) (h : Held) → Has hs h → is_executed xs h.digest ≡ false → is_executed (xs ++ ys) h.digest ≡ true → idle_count (xs ++ ys) hs < idle_count xs hs
count-lower xs ys [] h there was is = absurd there
count-lower xs ys (k ∷ hs) h (inl q) was is =
    let one = ap unless (ap (λ (z : Held). is_executed xs z.digest) q ∙ was) in
    let none = ap unless (ap (λ (z : Held). is_executed (xs ++ ys) z.digest) q ∙ is) in
    let rest = count-less xs ys hs in
    omega (arith, one, none, rest)
count-lower xs ys (k ∷ hs) h (inr r) was is =
    let here = unless-less (is_executed xs k.digest) (is_executed (xs ++ ys) k.digest) (stays_executed xs ys k.digest) in
    let rest = count-lower xs ys hs h r was is in
    omega (arith, here, rest)

count-most : (xs : List Execution) (hs : List Held) → idle_count xs hs ≤ length hs
count-most xs [] = omega arith
count-most xs (h ∷ hs) = let here = at-most (is_executed xs h.digest) in let rest = count-most xs hs in omega (arith, here, rest)
  where
    at-most : (c : Bool) → unless c ≤ 1
    at-most true = omega arith
    at-most false = omega arith

-- ---- rounds end

module _ (b : Books) where
  -- a round that executes anything leaves fewer open
  lowers : (executed : List Execution) (x : Execution) → Has (round_of b executed) x → idle_count (executed ++ round_of b executed) b.held < idle_count executed b.held
  lowers executed x h =
      let from = round-from b executed x h in
      let says = ready-says b executed from.0 x from.2 in
      count-lower executed (round_of b executed) b.held from.0 from.1 says.idle
      (was-executed (executed ++ round_of b executed) x from.0.digest (has_right executed (round_of b executed) x h) (ap (λ (z : Execution). z.digest) says.is))

  -- after an empty round all are empty
  empty-ends : (n : ℕ) (executed : List Execution) → round_of b executed ≡ [] → rounds_within n b executed ≡ []
  empty-ends zero executed none = refl
  empty-ends (suc n) executed none =
      ap (λ (xs : List Execution). xs ++ rounds_within n b (executed ++ xs)) none
      ∙ ap (rounds_within n b) (append-nil executed)
      ∙ empty-ends n executed none

  ended : (n : ℕ) (executed : List Execution) → round_of b executed ≡ [] → round_of b (executed ++ rounds_within n b executed) ≡ []
  ended n executed none = ap (λ (xs : List Execution). round_of b (executed ++ xs)) (empty-ends n executed none) ∙ ap (round_of b) (append-nil executed) ∙ none

  lower-at : (executed : List Execution) (x : Execution) (more : List Execution) → round_of b executed ≡ x ∷ more → idle_count (executed ++ round_of b executed) b.held < idle_count executed b.held
  lower-at executed x more e = lowers executed x (subst (λ (xs : List Execution). Has xs x) (sym e) (inl refl))

  ends : (n : ℕ) (executed : List Execution) → idle_count executed b.held ≤ n → round_of b (executed ++ rounds_within n b executed) ≡ []
  ends zero executed low = go (round_of b executed) refl
    where
      go : (round : List Execution) → round_of b executed ≡ round → round_of b (executed ++ []) ≡ []
      go [] e = ended zero executed e
      go (x ∷ more) e = let less = lower-at executed x more e in absurd (omega (arith, less, low))
  ends (suc n) executed low = go (round_of b executed) refl (ends n (executed ++ round_of b executed))
    where
      go : (round : List Execution) → round_of b executed ≡ round → (idle_count (executed ++ round_of b executed) b.held ≤ n → round_of b ((executed ++ round_of b executed) ++ rounds_within n b (executed ++ round_of b executed)) ≡ []) → round_of b (executed ++ rounds_within (suc n) b executed) ≡ []
      go [] e rest = ended (suc n) executed e
      go (x ∷ more) e rest =
          let less = lower-at executed x more e in
          ap (round_of b) (sym (append_assoc executed (round_of b executed) (rounds_within n b (executed ++ round_of b executed)))) ∙ rest (omega (arith, less, low))

  pub nothing-ready : (executed : List Execution) (h : Held) → Has b.held h → ready b (executed ++ rounds b executed) h ≡ None
  unfolding rounds
  nothing-ready executed h there = none-ready b (executed ++ rounds_within (length b.held) b executed) (ends (length b.held) executed (count-most executed b.held)) h there
