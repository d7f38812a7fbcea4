-- What two members of one epoch hold is one chain.
use Rattle.std.proofs.Common.{inl, inr, refl, sym, subst, ap, ◌∙◌, arith}
use Rattle.std.specs.Prelude.{◌≡◌, ◌⊎◌, ◌<◌, List, map, flat_map, zip}
use Rattle.digest_core.specs.declared.Digest.{Digest}
use Rattle.chain_types.specs.declared.objects.ObjectKey.{ObjectKey}
use Rattle.chain_types.specs.declared.objects.Object.{Object}
use Rattle.chain_types.specs.declared.transactions.Input.{Input}
use Rattle.chain_types.specs.Digests.{transaction_digest}
use Rattle.protocol_spec.specs.declared.pieces.Executed.{Executed}
use Rattle.schedule_text.specs.declared.words.Event.{Event}
use Rattle.protocol_spec.proofs.ListLemmas.{has_left, has_right, has_map, flat_has}
use Rattle.protocol_spec.specs.Chain.Words.{Has}
use Rattle.protocol_spec.specs.Chain.Keys.{object_key, objects_of}
use Rattle.protocol_spec.specs.Member.Versions.{Execution, Version, opened, written, written_by, versions, object_in}
use Rattle.protocol_spec.specs.Member.Rounds.{executes_as}
use Rattle.protocol_spec.specs.Member.Member.{Member}
use Rattle.world_spec.specs.Setting.{Setting}
use Rattle.world_spec.specs.Assumptions.{IsHonestRun}
use Rattle.block_law.specs.Orderly.{Step, gave, AreApart}
use Rattle.safety_law.specs.Orderly.{OpensApart}
use Rattle.headline_law.proofs.Present.{IsOpened, IsWrote, version-from}
use Rattle.headline_law.specs.Chained.{MayWrite, IsExecutedAs, Holds, IsPassedOn, AreOneChain}
use Rattle.headline_law.proofs.Family.{IsThere, IsFamily}
use Rattle.headline_law.proofs.Linked.{IsPassed, all-one, all-writers, all-within, above-opening, taken-below}
use Rattle.headline_law.proofs.Settled.{IsSettled, ArePeers}
use Rattle.headline_law.proofs.Reading.{IsRunnable, read-from}
use Rattle.headline_law.proofs.Executed.{step-of, executed-digest, runs-it, family}
use Rattle.headline_law.proofs.Takers.{in-run, one-taker}

opened-in : (opening : List Object) (executed : List Execution) (o : Object) → Has opening o → Has (versions opening executed) (opened o)
unfolding versions
opened-in opening executed o h = has_left (map opened opening) (flat_map written_by executed) (opened o) (has_map opened opening o h)

written-in : (opening : List Object) (executed : List Execution) (x : Execution) (o : Object) → Has executed x → Has x.gave.objects o → Has (versions opening executed) (written x.digest o)
unfolding versions
written-in opening executed x o h k = has_right (map opened opening) (flat_map written_by executed) (written x.digest o) (flat_has written_by executed x (written x.digest o) h (has_map (written x.digest) x.gave.objects o k))

-- ---- members of one epoch

module _ (s : Setting) (events : List Event) (honest : IsHonestRun s events) (opening : List Object) (distinct : AreApart opening) (Of : Member → Type 0) (same_opening : (m : Member) → Of m → m.opening ≡ opening)
    (new : (m : Member) → Of m → OpensApart s events m) (all : (m n : Member) → Of m → Of n → ArePeers s events m n) where
  abbrev WasExecuted : Step → Type 0
  WasExecuted x = (m : Member) × Of m × IsExecutedAs m x

  settled-of : (m : Member) → Of m → IsSettled s events m
  settled-of m is = (all m m is is).first

  runs-all : (x : Step) → WasExecuted x → (m : Member) × Of m × IsRunnable m x
  runs-all x (m, is, e) = (m, is, runs-it s events honest m (settled-of m is) x e)

  among-all : (m : Member) → Of m → (x : Step) → WasExecuted x → IsRunnable m x → (y : Execution) → Has m.executed y → (z : Step) × WasExecuted z × (gave z ≡ y.gave)
  among-all m is x ax it y h = let z = step-of s events honest m (settled-of m is) y h in (z.0, (m, is, z.1), z.3)

  same-all : (x y : Step) → WasExecuted x → WasExecuted y → transaction_digest x.tx ≡ transaction_digest y.tx → gave x ≡ gave y
  same-all x y (m, is, e) (n, also, f) d = (all m n is also).executions (executes_as e.of (gave x)) (executes_as f.of (gave y)) e.executed f.executed
      (executed-digest s events honest m (settled-of m is) x e ∙ d ∙ sym (executed-digest s events honest n (settled-of n also) y f))

  all-executed : IsFamily opening WasExecuted
  all-executed = family s events honest opening distinct Of same_opening new all WasExecuted runs-all among-all same-all

  -- ---- what one of them holds

  module _ (m : Member) (is : Of m) where
    abbrev AtIt : Object → Type 0
    AtIt = IsThere opening (IsExecutedAs m)

    inside : (x : Step) → IsExecutedAs m x → WasExecuted x
    inside x e = (m, is, e)

    wrote-it : (y : Execution) (o : Object) → Has m.executed y → Has y.gave.objects o → AtIt o
    wrote-it y o h wrote = let z = step-of s events honest m (settled-of m is) y h in inr (z.0, z.1, subst (λ (g : Executed). Has g.objects o) (sym z.3) wrote)

    reads-it : (x : Step) → IsExecutedAs m x → (i : Input) (o : Object) → Has (zip (objects_of x.tx) x.inputs) (i, o) → AtIt o
    reads-it x e i o h = go (read-from m x (runs-it s events honest m (settled-of m is) x e) i o h)
      where
        go : Has m.opening o ⊎ ((y : Execution) × Has m.executed y × Has y.gave.objects o) → AtIt o
        go (inl k) = inl (subst (λ (os : List Object). Has os o) (same_opening m is) k)
        go (inr (y, k, wrote)) = wrote-it y o k wrote

    held-at : (v : Version) → Holds m v → AtIt v.object
    held-at v h = go (version-from m.opening m.executed v h)
      where
        go : IsOpened m.opening v ⊎ IsWrote m.executed v → AtIt v.object
        go (inl (o, k, e)) = inl (subst (λ (os : List Object). Has os v.object) (same_opening m is) (subst (Has m.opening) (ap object_in e) k))
        go (inr (y, k, o, w, e)) = wrote-it y v.object k (subst (Has y.gave.objects) (ap object_in e) w)

    at-held : (o : Object) → AtIt o → (v : Version) × Holds m v × (v.object ≡ o)
    at-held o (inl h) = (opened o, opened-in m.opening m.executed o (subst (λ (os : List Object). Has os o) (sym (same_opening m is)) h), refl)
    at-held o (inr (x, e, w)) = (written e.of.digest o, written-in m.opening m.executed (executes_as e.of (gave x)) o e.executed w, refl)

    anywhere : (o : Object) → AtIt o → IsThere opening WasExecuted o
    anywhere o (inl h) = inl h
    anywhere o (inr (x, e, w)) = inr (x, inside x e, w)

  -- ---- what two of them hold

  module _ (m n : Member) (is : Of m) (also : Of n) where
    one-object : (u v : Version) → Holds m u → Holds n v → u.object.id ≡ v.object.id → u.object.version ≡ v.object.version → u.object ≡ v.object
    one-object u v h k e q = all-one opening WasExecuted all-executed u.object v.object (anywhere m is u.object (held-at m is u h)) (anywhere n also v.object (held-at n also v k)) e q

    -- opening objects are written by nobody
    not-opened : (r : Member) → Of r → (o p : Object) (y : Execution) → Has opening o → Has r.executed y → Has y.gave.objects p → o.id ≡ p.id → o.version ≡ p.version → ⊥
    not-opened r it o p y h k w e q =
        let z = step-of s events honest r (settled-of r it) y k in
        let low = above-opening opening WasExecuted all-executed z.0 (inside r it z.0 z.1) p (subst (λ (g : Executed). Has g.objects p) (sym z.3) w) o h e in
        omega (arith, low, q)

    one-digest : (x y : Execution) (o p : Object) → Has m.executed x → Has n.executed y → Has x.gave.objects o → Has y.gave.objects p → o.id ≡ p.id → o.version ≡ p.version → x.digest ≡ y.digest
    one-digest x y o p h k w z e q =
        let a = step-of s events honest m (settled-of m is) x h in
        let b = step-of s events honest n (settled-of n also) y k in
        let same = all-writers opening WasExecuted all-executed a.0 b.0 (inside m is a.0 a.1) (inside n also b.0 b.1) o p (subst (λ (g : Executed). Has g.objects o) (sym a.3) w) (subst (λ (g : Executed). Has g.objects p) (sym b.3) z) e q in
        sym a.4 ∙ same.digest ∙ b.4

    pub one-version : (u v : Version) → Holds m u → Holds n v → u.object.id ≡ v.object.id → u.object.version ≡ v.object.version → u ≡ v
    one-version u v h k e q = go (version-from m.opening m.executed u h) (version-from n.opening n.executed v k)
      where
        id-is : (w : Version) (o : Object) → w.object ≡ o → o.id ≡ w.object.id
        id-is w o f = ap (λ (z : Object). z.id) (sym f)

        version-is : (w : Version) (o : Object) → w.object ≡ o → o.version ≡ w.object.version
        version-is w o f = ap (λ (z : Object). z.version) (sym f)

        go : IsOpened m.opening u ⊎ IsWrote m.executed u → IsOpened n.opening v ⊎ IsWrote n.executed v → u ≡ v
        go (inl (o, there, f)) (inl (p, here, g)) = sym f ∙ ap opened (ap object_in f ∙ one-object u v h k e q ∙ sym (ap object_in g)) ∙ g
        go (inl (o, there, f)) (inr (y, here, p, w, g)) =
            absurd (not-opened n also o p y (subst (λ (os : List Object). Has os o) (same_opening m is) there) here w
            (id-is u o (sym (ap object_in f)) ∙ e ∙ sym (id-is v p (sym (ap object_in g)))) (version-is u o (sym (ap object_in f)) ∙ q ∙ sym (version-is v p (sym (ap object_in g)))))
        go (inr (x, there, o, w, f)) (inl (p, here, g)) =
            absurd (not-opened m is p o x (subst (λ (os : List Object). Has os p) (same_opening n also) here) there w
            (id-is v p (sym (ap object_in g)) ∙ sym e ∙ sym (id-is u o (sym (ap object_in f)))) (version-is v p (sym (ap object_in g)) ∙ sym q ∙ sym (version-is u o (sym (ap object_in f)))))
        go (inr (x, there, o, w, f)) (inr (y, here, p, z, g)) =
            sym f
            ∙ ap (λ (d : Digest). written d o) (one-digest x y o p there here w z (id-is u o (sym (ap object_in f)) ∙ e ∙ sym (id-is v p (sym (ap object_in g)))) (version-is u o (sym (ap object_in f)) ∙ q ∙ sym (version-is v p (sym (ap object_in g)))))
            ∙ ap (written y.digest) (ap object_in f ∙ one-object u v h k e q ∙ sym (ap object_in g))
            ∙ g

    one-key : (u v : Version) → Holds m u → Holds n v → object_key u.object ≡ object_key v.object → u ≡ v
    one-key u v h k e = one-version u v h k (ap (λ (z : ObjectKey). z.id) e) (ap (λ (z : ObjectKey). z.version) e)

    -- what the one holds below a version of the other, the other holds too, and it passed it on
    passed-on : (u v : Version) → Holds m u → Holds n v → u.object.id ≡ v.object.id → u.object.version < v.object.version → IsPassedOn n u v
    passed-on u v h k e lt = go (all-within opening WasExecuted all-executed (IsExecutedAs n) (inside n also) (reads-it n also) u.object v.object (anywhere m is u.object (held-at m is u h)) (held-at n also v k) e lt)
      where
        go : AtIt n also u.object × IsPassed (IsExecutedAs n) u.object v.object → IsPassedOn n u v
        go (there, p) =
            let w = at-held n also u.object there in
            record {
              held = subst (Holds n) (sym (one-version u w.0 h w.1 (ap (λ (z : Object). z.id) (sym w.2)) (ap (λ (z : Object). z.version) (sym w.2)))) w.1;
              by = p.by;
              executed = p.among;
              took = p.took;
              next = p.next;
              wrote = p.wrote;
              id_is = p.id_is;
              above = taken-below p.by p.next u.object p.wrote p.took.0 p.took.1;
              low = p.low;
            }

    one-taker-of : (x y : Step) → IsExecutedAs m x → IsExecutedAs n y → (o : Object) → MayWrite x o → MayWrite y o → x.tx ≡ y.tx
    one-taker-of x y e f o one two =
        let it = runs-it s events honest m (settled-of m is) x e in
        let to = runs-it s events honest n (settled-of n also) y f in
        honest.transactions x.tx y.tx (in-run s events honest m (settled-of m is) x it) (in-run s events honest n (settled-of n also) y to) (one-taker s events honest m n (all m n is also) x y it to o one two)

  pub one-chain : (m n : Member) → Of m → Of n → AreOneChain m n
  one-chain m n is also = record {
    one = one-key m n is also;
    lower = passed-on m n is also;
    higher = λ u v h k e. passed-on n m also is v u k h (sym e);
    taker = one-taker-of m n is also;
  }
