-- Of two versions of one id the lower was passed on. By induction on the higher, with no order of the transactions.
use Rattle.std.proofs.Common.{inl, inr, refl, sym, subst, ap, ◌∙◌, arith}
use Rattle.std.specs.Prelude.{◌≡◌, ◌⊎◌, ◌<◌, ◌≤◌, ℕ, zero, suc, Bool, true, false, nat_lt, List, ◌++◌, map, zip}
use Rattle.std.proofs.lemmas.Bool.{ltb-true, ltb-false}
use Rattle.std.specs.FinMap.{get}
use Rattle.digest_core.specs.declared.Digest.{Digest}
use Rattle.chain_types.specs.declared.objects.ObjectId.{ObjectId}
use Rattle.chain_types.specs.declared.objects.Object.{Object}
use Rattle.chain_types.specs.declared.transactions.Input.{Input}
use Rattle.chain_types.specs.Equal.{id_eq}
use Rattle.chain_types.specs.Digests.{transaction_digest}
use Rattle.protocol_spec.specs.declared.pieces.Executed.{Executed}
use Rattle.protocol_spec.proofs.Executions.{effects_tx}
use Rattle.protocol_spec.specs.Chain.Words.{Has, numbers_below, repeats}
use Rattle.protocol_spec.specs.Chain.Keys.{objects_of, named_ids, version_of}
use Rattle.protocol_spec.proofs.ListLemmas.{has_mapped}
use Rattle.protocol_spec.proofs.Truth.{some_same}
use Rattle.protocol_spec.specs.Member.Sequential.{map_of, map_after}
use Rattle.block_law.specs.Names.{drawn_id, drawn_ids, touched_ids}
use Rattle.block_law.proofs.Effects.{objects-ids}
use Rattle.block_law.proofs.Written.{below, fits-first, second as has-second}
use Rattle.block_law.specs.Orderly.{Step, gave, id_of, Makes, AreApart}
use Rattle.block_law.proofs.Standing.{stands-after, stands-opening}
use Rattle.block_law.proofs.Touched.{IsReplaced, IsTouched, touched-object, written-version, above}
use Rattle.block_law.proofs.ReadingSteps.{given-once}
use Rattle.safety_law.proofs.Ordered.{repeats-append, input-of}
use Rattle.safety_law.proofs.Versions.{effects-version}
use Rattle.headline_law.specs.Chained.{MayWrite}
use Rattle.headline_law.proofs.Family.{IsSame, IsThere, IsFamily}

-- of objects with different ids two with one id are one
one-opening : (os : List Object) (a b : Object) → AreApart os → Has os a → Has os b → a.id ≡ b.id → a ≡ b
one-opening os a b apart h k e = some_same a b (sym (stands-opening os a apart h) ∙ ap (get (map_of os)) e ∙ stands-opening os b apart k)

nat-order : (a b : ℕ) → (a < b) ⊎ (b ≤ a)
nat-order a b = go (nat_lt a b) refl
  where
    go : (t : Bool) → nat_lt a b ≡ t → (a < b) ⊎ (b ≤ a)
    go true e = inl (ltb-true a b e)
    go false e = inr (ltb-false a b e)

-- ---- a written version is above what was taken for it

pub taken-below : (x : Step) (p o : Object) → Has (gave x).objects p → (i : Input) → Has (zip (objects_of x.tx) x.inputs) (i, o) → o.version < p.version
taken-below x p o h i named =
    let low = above x.inputs o (has-second (objects_of x.tx) x.inputs i o named) in
    let at = written-version x p h in
    omega (arith, low, at)

same-version : (x y : Step) → IsSame x y → version_of x.inputs ≡ version_of y.inputs
same-version x y same = sym (effects-version x.tx x.inputs) ∙ ap (λ (g : Executed). g.effects.version) same.given ∙ effects-version y.tx y.inputs

-- one of these took the lower version, and wrote the next one of its id, which is not above the higher
pub record IsPassed (Among : Step → Type 0) (a b : Object) : Type 0 where
  pub by : Step
  pub among : Among by
  pub took : MayWrite by a
  pub next : Object
  pub wrote : Has (gave by).objects next
  pub id_is : next.id ≡ a.id
  pub low : next.version ≤ b.version

module _ (opening : List Object) (Among : Step → Type 0) (f : IsFamily opening Among) where
  abbrev pub There : Object → Type 0
  There = IsThere opening Among

  -- ---- what a transaction made, or was there as the epoch opened, is the least version of its id

  made-least : (n : ℕ) (x : Step) → Among x → (id : ObjectId) → Makes x id → (o : Object) → There o → o.id ≡ id → o.version < n → version_of x.inputs ≤ o.version
  made-least zero x ax id makes o there e less = absurd (omega (arith, less))
  made-least (suc n) x ax id makes o (inl h) e less = absurd (f.fresh x ax id makes (o, h, e))
  made-least (suc n) x ax id makes o (inr (y, ay, h)) e less = go (touched-object y o h) (λ q k i. made-least n x ax id makes q k i)
    where
      go : IsTouched y o.id → ((q : Object) → There q → q.id ≡ id → q.version < n → version_of x.inputs ≤ q.version) → version_of x.inputs ≤ o.version
      go (inl r) before =
          let low = taken-below y o r.old h r.of r.named in
          let rest = before r.old (f.sources y ay r.of r.old r.named) (r.same ∙ e) (omega (arith, low, less)) in
          omega (arith, low, rest)
      go (inr also) before =
          let one = same-version x y (f.makers x y ax ay id makes (subst (Makes y) e also)) in
          let at = written-version y o h in
          omega (arith, one, at)

  opened-least : (n : ℕ) (p : Object) → Has opening p → (o : Object) → There o → o.id ≡ p.id → o.version < n → p.version ≤ o.version
  opened-least zero p k o there e less = absurd (omega (arith, less))
  opened-least (suc n) p k o (inl h) e less =
      let one = ap (λ (q : Object). q.version) (one-opening opening p o f.distinct k h (sym e)) in
      omega (arith, one)
  opened-least (suc n) p k o (inr (y, ay, h)) e less = go (touched-object y o h) (λ q t i. opened-least n p k q t i)
    where
      go : IsTouched y o.id → ((q : Object) → There q → q.id ≡ p.id → q.version < n → p.version ≤ q.version) → p.version ≤ o.version
      go (inl r) before =
          let low = taken-below y o r.old h r.of r.named in
          let rest = before r.old (f.sources y ay r.of r.old r.named) (r.same ∙ e) (omega (arith, low, less)) in
          omega (arith, low, rest)
      go (inr makes) before = absurd (f.fresh y ay o.id makes (p, k, sym e))

  least-made : (x : Step) → Among x → (p : Object) → Has (gave x).objects p → Makes x p.id → (o : Object) → There o → o.id ≡ p.id → p.version ≤ o.version
  least-made x ax p wrote makes o there e =
      let rest = made-least (suc o.version) x ax p.id makes o there e (omega arith) in
      let at = written-version x p wrote in
      omega (arith, rest, at)

  -- no transaction writes a key of an opening object
  pub above-opening : (x : Step) → Among x → (p : Object) → Has (gave x).objects p → (o : Object) → Has opening o → o.id ≡ p.id → o.version < p.version
  above-opening x ax p wrote o h e = go (touched-object x p wrote)
    where
      go : IsTouched x p.id → o.version < p.version
      go (inl r) =
          let low = taken-below x p r.old wrote r.of r.named in
          let rest = opened-least (suc r.old.version) o h r.old (f.sources x ax r.of r.old r.named) (r.same ∙ sym e) (omega arith) in
          omega (arith, low, rest)
      go (inr makes) = absurd (f.fresh x ax p.id makes (o, h, e))

  -- ---- no transaction writes an id twice

  named-not-drawn : (x : Step) → Among x → (id : ObjectId) → Has (named_ids x.tx) id → Makes x id → ⊥
  named-not-drawn x ax id named makes =
      let o = has_mapped id_of x.inputs id (subst (λ (ids : List ObjectId). Has ids id) (sym (objects-ids x.tx x.inputs (f.fit x ax))) named) in
      let i = input-of x.tx (objects_of x.tx) x.inputs o.0 (fits-first x.tx x.inputs (f.fit x ax)) o.1 in
      let low = above x.inputs o.0 o.1 in
      let high = made-least (suc o.0.version) x ax id makes o.0 (f.sources x ax i.0 o.0 i.1) o.2 (omega arith) in
      absurd (omega (arith, low, high))

  touched-once : (x : Step) → Among x → repeats id_eq (touched_ids x.tx (gave x).effects) ≡ false
  touched-once x ax = subst (λ (d : Digest). repeats id_eq (named_ids x.tx ++ drawn_ids d (gave x).effects.created) ≡ false) (sym (effects_tx x.tx x.inputs))
      (repeats-append (named_ids x.tx) (drawn_ids (transaction_digest x.tx) (gave x).effects.created) (f.names x ax) (f.draws x ax) apart)
    where
      apart : (a b : ObjectId) → Has (named_ids x.tx) a → Has (drawn_ids (transaction_digest x.tx) (gave x).effects.created) b → a ≡ b → ⊥
      apart a b named drawn e =
          let k = has_mapped (drawn_id (transaction_digest x.tx)) (numbers_below (gave x).effects.created) b drawn in
          named-not-drawn x ax a named (k.0, below (gave x).effects.created k.0 k.1, k.2 ∙ sym e)

  pub gave-once : (x : Step) → Among x → repeats id_eq (map id_of (gave x).objects ++ (gave x).effects.deleted) ≡ false
  gave-once x ax = given-once opening x (f.fit x ax) (touched-once x ax)

  -- what it writes under one id is one object
  pub wrote-once : (x : Step) → Among x → (p q : Object) → Has (gave x).objects p → Has (gave x).objects q → p.id ≡ q.id → p ≡ q
  wrote-once x ax p q h k e =
      let once = gave-once x ax in
      some_same p q (sym (stands-after (map_of opening) (gave x) p once h) ∙ ap (get (map_after (map_of opening) (gave x))) e ∙ stands-after (map_of opening) (gave x) q once k)

  -- ---- the chain

  abbrev pub IsLinked : Object → Object → Type 0
  IsLinked a b = (a ≡ b) ⊎ IsPassed Among a b

  abbrev Below : ℕ → Type 0
  Below n = (a b : Object) → There a → There b → a.id ≡ b.id → a.version ≤ b.version → b.version < n → IsLinked a b

  -- what a transaction took, if another took a lower version for the same version
  not-passed : (x : Step) → Among x → (p : Object) → Has (gave x).objects p → (a b : Object) → MayWrite x a → b.version < p.version → IsPassed Among a b → ⊥
  not-passed x ax p wrote a b took less e =
      let same = same-version e.by x (f.takers e.by x e.among ax a e.took took) in
      let at = written-version e.by e.next e.wrote in
      let high = written-version x p wrote in
      let low = e.low in
      absurd (omega (arith, same, at, high, low, less))

  module _ (n : ℕ) (before : Below n) where
    -- two transactions that write one key are one
    one-writer : (x y : Step) → Among x → Among y → (p q : Object) → Has (gave x).objects p → Has (gave y).objects q → p.id ≡ q.id → p.version ≡ q.version → p.version < suc n → IsSame x y
    one-writer x y ax ay p q h k e v less = go (touched-object x p h) (touched-object y q k)
      where
        both : (r : IsReplaced x p.id) (t : IsReplaced y q.id) → (r.old.version ≤ t.old.version) ⊎ (t.old.version < r.old.version) → IsSame x y
        both r t (inl le) =
            let low = taken-below y q t.old k t.of t.named in
            first (before r.old t.old (f.sources x ax r.of r.old r.named) (f.sources y ay t.of t.old t.named) (r.same ∙ e ∙ sym t.same) le (omega (arith, low, v, less)))
          where
            first : IsLinked r.old t.old → IsSame x y
            first (inl one) = f.takers x y ax ay r.old (r.of, r.named, r.may_write) (subst (MayWrite y) (sym one) (t.of, t.named, t.may_write))
            first (inr passed) =
                let low = taken-below y q t.old k t.of t.named in
                absurd (not-passed x ax p h r.old t.old (r.of, r.named, r.may_write) (omega (arith, low, v)) passed)
        both r t (inr lt) =
            let low = taken-below x p r.old h r.of r.named in
            second (before t.old r.old (f.sources y ay t.of t.old t.named) (f.sources x ax r.of r.old r.named) (t.same ∙ sym e ∙ sym r.same) (omega (arith, lt)) (omega (arith, low, less)))
          where
            second : IsLinked t.old r.old → IsSame x y
            second (inl one) = let same = ap (λ (o : Object). o.version) one in absurd (omega (arith, same, lt))
            second (inr passed) =
                let low = taken-below x p r.old h r.of r.named in
                absurd (not-passed y ay q k t.old r.old (t.of, t.named, t.may_write) (omega (arith, low, v)) passed)

        order : (r : IsReplaced x p.id) (t : IsReplaced y q.id) → (t.old.version < r.old.version) ⊎ (r.old.version ≤ t.old.version) → IsSame x y
        order r t (inl lt) = both r t (inr lt)
        order r t (inr le) = both r t (inl le)

        go : IsTouched x p.id → IsTouched y q.id → IsSame x y
        go (inr made) (inr also) = f.makers x y ax ay p.id made (subst (Makes y) (sym e) also)
        go (inr made) (inl t) =
            let low = taken-below y q t.old k t.of t.named in
            let high = least-made x ax p h made t.old (f.sources y ay t.of t.old t.named) (t.same ∙ sym e) in
            absurd (omega (arith, low, high, v))
        go (inl r) (inr made) =
            let low = taken-below x p r.old h r.of r.named in
            let high = least-made y ay q k made r.old (f.sources x ax r.of r.old r.named) (r.same ∙ e) in
            absurd (omega (arith, low, high, v))
        go (inl r) (inl t) = order r t (nat-order t.old.version r.old.version)

    -- versions of one key are one
    one-version : (a b : Object) → There a → There b → a.id ≡ b.id → a.version ≡ b.version → b.version < suc n → a ≡ b
    one-version a b (inl h) (inl k) e v less = one-opening opening a b f.distinct h k e
    one-version a b (inl h) (inr (y, ay, k)) e v less = let low = above-opening y ay b k a h e in absurd (omega (arith, low, v))
    one-version a b (inr (x, ax, h)) (inl k) e v less = let low = above-opening x ax a h b k (sym e) in absurd (omega (arith, low, v))
    one-version a b (inr (x, ax, h)) (inr (y, ay, k)) e v less =
        let same = one-writer x y ax ay a b h k e v (omega (arith, v, less)) in
        wrote-once x ax a b h (subst (λ (g : Executed). Has g.objects b) (sym same.given) k) e

    passed-on : (a b : Object) → There a → There b → a.id ≡ b.id → a.version < b.version → b.version < suc n → IsPassed Among a b
    passed-on a b there (inl k) e lt less = let low = opened-least (suc a.version) b k a there e (omega arith) in absurd (omega (arith, low, lt))
    passed-on a b there (inr (z, az, k)) e lt less = go (touched-object z b k)
      where
        higher : (r : IsReplaced z b.id) → IsLinked a r.old → IsPassed Among a b
        higher r (inl one) = record {
          by = z;
          among = az;
          took = subst (MayWrite z) (sym one) (r.of, r.named, r.may_write);
          next = b;
          wrote = k;
          id_is = sym e;
          low = omega arith;
        }
        higher r (inr p) =
            let low = taken-below z b r.old k r.of r.named in
            let rest = p.low in
            record { by = p.by; among = p.among; took = p.took; next = p.next; wrote = p.wrote; id_is = p.id_is; low = omega (arith, low, rest) }

        lower : (r : IsReplaced z b.id) → r.old.version < a.version → IsLinked r.old a → IsPassed Among a b
        lower r under (inl one) = let same = ap (λ (o : Object). o.version) one in absurd (omega (arith, same, under))
        lower r under (inr p) = absurd (not-passed z az b k r.old a (r.of, r.named, r.may_write) lt p)

        order : (r : IsReplaced z b.id) → (r.old.version < a.version) ⊎ (a.version ≤ r.old.version) → IsPassed Among a b
        order r (inl under) = lower r under (before r.old a (f.sources z az r.of r.old r.named) there (r.same ∙ sym e) (omega (arith, under)) (omega (arith, lt, less)))
        order r (inr le) =
            let low = taken-below z b r.old k r.of r.named in
            higher r (before a r.old there (f.sources z az r.of r.old r.named) (e ∙ sym r.same) le (omega (arith, low, less)))

        go : IsTouched z b.id → IsPassed Among a b
        go (inr made) = let high = least-made z az b k made a there e in absurd (omega (arith, high, lt))
        go (inl r) = order r (nat-order r.old.version a.version)

  linked-below : (n : ℕ) → Below n
  linked-below zero a b there also e le less = absurd (omega (arith, less))
  linked-below (suc n) a b there also e le less = go (nat-order a.version b.version) (linked-below n)
    where
      go : (a.version < b.version) ⊎ (b.version ≤ a.version) → Below n → IsLinked a b
      go (inl lt) before = inr (passed-on n before a b there also e lt less)
      go (inr ge) before = inl (one-version n before a b there also e (omega (arith, le, ge)) less)

  -- ---- the whole

  pub all-passed : (a b : Object) → There a → There b → a.id ≡ b.id → a.version < b.version → IsPassed Among a b
  all-passed a b there also e lt = passed-on b.version (linked-below b.version) a b there also e lt (omega arith)

  pub all-one : (a b : Object) → There a → There b → a.id ≡ b.id → a.version ≡ b.version → a ≡ b
  all-one a b there also e v = one-version b.version (linked-below b.version) a b there also e v (omega arith)

  pub all-writers : (x y : Step) → Among x → Among y → (p q : Object) → Has (gave x).objects p → Has (gave y).objects q → p.id ≡ q.id → p.version ≡ q.version → IsSame x y
  all-writers x y ax ay p q h k e v = one-writer p.version (linked-below p.version) x y ax ay p q h k e v (omega arith)

  -- ---- some of them that read what is there of them

  module _ (In : Step → Type 0) (inside : (x : Step) → In x → Among x) (sources : (x : Step) → In x → (i : Input) (o : Object) → Has (zip (objects_of x.tx) x.inputs) (i, o) → IsThere opening In o) where
    abbrev Within : Object → Type 0
    Within = IsThere opening In

    -- what is below one that is there is there as well, and they passed it on
    lower-within : (n : ℕ) (a b : Object) → There a → Within b → a.id ≡ b.id → a.version < b.version → b.version < n → Within a × IsPassed In a b
    lower-within zero a b there also e lt less = absurd (omega (arith, less))
    lower-within (suc n) a b there (inl k) e lt less = let low = opened-least (suc a.version) b k a there e (omega arith) in absurd (omega (arith, low, lt))
    lower-within (suc n) a b there (inr (z, iz, k)) e lt less = go (touched-object z b k) (λ r w. lower-within n a r there w)
      where
        higher : (r : IsReplaced z b.id) → a.version < r.old.version → Within a × IsPassed In a r.old → Within a × IsPassed In a b
        higher r under (w, p) =
            let low = taken-below z b r.old k r.of r.named in
            let rest = p.low in
            (w, record { by = p.by; among = p.among; took = p.took; next = p.next; wrote = p.wrote; id_is = p.id_is; low = omega (arith, low, rest) })

        equal : (r : IsReplaced z b.id) → a ≡ r.old → Within a × IsPassed In a b
        equal r one = (
          subst Within (sym one) (sources z iz r.of r.old r.named),
          record { by = z; among = iz; took = subst (MayWrite z) (sym one) (r.of, r.named, r.may_write); next = b; wrote = k; id_is = sym e; low = omega arith },
        )

        order : (r : IsReplaced z b.id) → ((q : Object) → Within q → a.id ≡ q.id → a.version < q.version → q.version < n → Within a × IsPassed In a q) → (r.old.version < a.version) ⊎ (a.version ≤ r.old.version) → (a.version < r.old.version) ⊎ (r.old.version ≤ a.version) → Within a × IsPassed In a b
        order r before (inl under) other = absurd (not-passed z (inside z iz) b k r.old a (r.of, r.named, r.may_write) lt (all-passed r.old a (f.sources z (inside z iz) r.of r.old r.named) there (r.same ∙ sym e) under))
        order r before (inr le) (inl under) =
            let low = taken-below z b r.old k r.of r.named in
            higher r under (before r.old (sources z iz r.of r.old r.named) (e ∙ sym r.same) under (omega (arith, low, less)))
        order r before (inr le) (inr ge) = equal r (all-one a r.old there (f.sources z (inside z iz) r.of r.old r.named) (e ∙ sym r.same) (omega (arith, le, ge)))

        go : IsTouched z b.id → ((q : Object) → Within q → a.id ≡ q.id → a.version < q.version → q.version < n → Within a × IsPassed In a q) → Within a × IsPassed In a b
        go (inr made) before = let high = least-made z (inside z iz) b k made a there e in absurd (omega (arith, high, lt))
        go (inl r) before = order r before (nat-order r.old.version a.version) (nat-order a.version r.old.version)

    pub all-within : (a b : Object) → There a → Within b → a.id ≡ b.id → a.version < b.version → Within a × IsPassed In a b
    all-within a b there also e lt = lower-within (suc b.version) a b there also e lt (omega arith)
