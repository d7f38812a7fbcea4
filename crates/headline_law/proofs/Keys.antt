-- What may be executed writes new keys, so it is ready.
use Rattle.std.proofs.Common.{inl, inr, refl, sym, subst, ap, ◌∙◌, arith, append-nil}
use Rattle.std.proofs.lemmas.Bool.{eqb-true, cond-true}
use Rattle.std.specs.Prelude.{◌≡◌, ◌⊎◌, ℕ, Bool, true, false, not, ◌&&◌, ◌||◌, ◌==◌, List, [], ◌∷◌, ◌++◌, map, slice_get, Some, None}
use Rattle.std.specs.List.{list_any}
use Rattle.digest_core.specs.declared.Digest.{Digest}
use Rattle.chain_types.specs.declared.objects.ObjectId.{ObjectId}
use Rattle.chain_types.specs.declared.objects.ObjectKey.{ObjectKey}
use Rattle.chain_types.specs.declared.objects.Object.{Object}
use Rattle.chain_types.specs.Equal.{id_eq, key_eq, digest_eq}
use Rattle.chain_types.specs.Digests.{transaction_digest}
use Rattle.protocol_spec.specs.declared.pieces.Executed.{Executed}
use Rattle.protocol_spec.specs.declared.answers.Held.{Held}
use Rattle.schedule_text.specs.declared.words.Event.{Event}
use Rattle.protocol_spec.proofs.Equality.{id_same, digest_self}
use Rattle.protocol_spec.specs.Chain.Words.{Has, repeats, where_true}
use Rattle.protocol_spec.specs.Chain.Keys.{object_key, fits}
use Rattle.protocol_spec.proofs.ListLemmas.{and-first, and-second, has_mapped}
use Rattle.protocol_spec.proofs.Truth.{or_false_left, or_false_right}
use Rattle.protocol_spec.specs.Block.Execution.{execution, written_keys}
use Rattle.protocol_spec.specs.Member.Versions.{Execution, Version, versions, object_in, is_executed}
use Rattle.protocol_spec.specs.Member.Rounds.{Books, present, may_run, holds_key, writes_new, executes_as, ready_as, ready_on, ready}
use Rattle.protocol_spec.specs.Member.Member.{Member, books}
use Rattle.world_spec.specs.Setting.{Setting}
use Rattle.world_spec.specs.World.{Seat, member_in}
use Rattle.world_spec.specs.Run.{world_after}
use Rattle.world_spec.specs.Assumptions.{IsHonestRun}
use Rattle.block_law.proofs.Live.{any-has}
use Rattle.block_law.specs.Orderly.{Step, gave, id_of, AreApart}
use Rattle.safety_law.specs.Orderly.{OpensApart}
use Rattle.safety_law.proofs.Known.{opens-apart}
use Rattle.headline_law.proofs.Present.{has-find, IsOpened, IsWrote, version-from}
use Rattle.headline_law.proofs.Family.{IsFamily}
use Rattle.headline_law.proofs.Linked.{all-writers, above-opening, gave-once}
use Rattle.headline_law.proofs.Settled.{ArePeers}
use Rattle.headline_law.proofs.Reading.{IsRunnable}
use Rattle.headline_law.proofs.Takers.{digest-of}
use Rattle.headline_law.proofs.Executed.{step-of, runnable-gave, family}
use Rattle.headline_law.proofs.TwoMoments.{own-peers}
use Rattle.headline_law.specs.Complete.{MayExecute}
use Rattle.headline_law.proofs.Ready.{none-unfit}

-- ---- lists

none-any : {A : Type 0} (test : A → Bool) (xs : List A) → ((x : A) → Has xs x → test x ≡ true → ⊥) → list_any test xs ≡ false
none-any test [] none = refl
none-any test (x ∷ xs) none = go (test x) refl (none-any test xs (λ y h. none y (inr h)))
  where
    go : (b : Bool) → test x ≡ b → list_any test xs ≡ false → (b || list_any test xs) ≡ false
    go true e rest = absurd (none x (inl refl) e)
    go false e rest = rest

pub was-executed : (executed : List Execution) (y : Execution) (d : Digest) → Has executed y → y.digest ≡ d → is_executed executed d ≡ true
was-executed executed y d h e = has-find (λ (x : Execution). digest_eq x.digest d) executed y h (subst (λ (z : Digest). digest_eq y.digest z ≡ true) e (digest_self y.digest))

-- objects with different ids have different keys
other-keys : (o : Object) (os : List Object) (more : List ObjectId) → list_any (id_eq o.id) (map id_of os ++ more) ≡ false → list_any (key_eq (object_key o)) (map object_key os) ≡ false
other-keys o [] more e = refl
other-keys o (p ∷ os) more e = go (id_eq o.id p.id) (or_false_left (id_eq o.id p.id) (list_any (id_eq o.id) (map id_of os ++ more)) e) (other-keys o os more (or_false_right (id_eq o.id p.id) (list_any (id_eq o.id) (map id_of os ++ more)) e))
  where
    go : (b : Bool) → b ≡ false → list_any (key_eq (object_key o)) (map object_key os) ≡ false → ((b && (o.version == p.version)) || list_any (key_eq (object_key o)) (map object_key os)) ≡ false
    go true e rest = absurd (cc)
    go false e rest = rest

keys-once : (os : List Object) (more : List ObjectId) → repeats id_eq (map id_of os ++ more) ≡ false → repeats key_eq (map object_key os) ≡ false
keys-once [] more e = refl
keys-once (o ∷ os) more e = go (list_any (key_eq (object_key o)) (map object_key os))
    (other-keys o os more (or_false_left (list_any (id_eq o.id) (map id_of os ++ more)) (repeats id_eq (map id_of os ++ more)) e))
    (keys-once os more (or_false_right (list_any (id_eq o.id) (map id_of os ++ more)) (repeats id_eq (map id_of os ++ more)) e))
  where
    go : (b : Bool) → b ≡ false → repeats key_eq (map object_key os) ≡ false → (b || repeats key_eq (map object_key os)) ≡ false
    go true e rest = absurd (cc)
    go false e rest = rest

-- ---- answers

both-false : (a b : Bool) → a ≡ false → b ≡ false → (not a && not b) ≡ true
both-false a b e f = rw (e, f) refl

and-both : (a b : Bool) → a ≡ false → b ≡ true → (not a && b) ≡ true
and-both a b e f = rw (e, f) refl

ready-is : (b : Books) (executed : List Execution) (h : Held) (objects : List Object) → is_executed executed h.digest ≡ false → may_run b h ≡ true → present b executed h ≡ Some objects → fits h.cert.tx objects ≡ true
    → writes_new (versions b.opening executed) (written_keys (execution h.cert.tx objects)) ≡ true → ready b executed h ≡ Some (executes_as h (execution h.cert.tx objects))
unfolding ready
ready-is b executed h objects idle may there fit new =
    cond-true (not (is_executed executed h.digest) && may_run b h) (ready_on b executed h (present b executed h)) None (and-both (is_executed executed h.digest) (may_run b h) idle may)
    ∙ ap (ready_on b executed h) there
    ∙ cond-true (fits h.cert.tx objects) (ready_as b executed h (execution h.cert.tx objects)) None fit
    ∙ ap (λ (t : Bool). where_true t (executes_as h (execution h.cert.tx objects))) new

-- ---- a member

module _ (s : Setting) (events : List Event) (honest : IsHonestRun s events) (distinct : AreApart s.opening) (n : ℕ) (seat : Seat) (at : slice_get (world_after s events).seats n ≡ Some seat) where
  abbrev m : Member
  m = member_in s seat

  abbrev IsIt : Member → Type 0
  IsIt r = r ≡ m

  own : ArePeers s events m m
  own = subst (λ (es : List Event). ArePeers s es m m) (append-nil events) (own-peers s events [] (subst (IsHonestRun s) (sym (append-nil events)) honest) n seat at)

  opens : OpensApart s events m
  opens = opens-apart s events honest distinct n seat at

  all-own : (r t : Member) → IsIt r → IsIt t → ArePeers s events r t
  all-own r t e f = subst (λ (z : Member). ArePeers s events z t) (sym e) (subst (ArePeers s events m) (sym f) own)

  among-it : (r : Member) → IsIt r → (x : Step) → IsRunnable m x → IsRunnable r x → (y : Execution) → Has r.executed y → (z : Step) × IsRunnable m z × (gave z ≡ y.gave)
  among-it r e x ax it y h = let z = step-of s events honest m own.first y (subst (λ (t : Member). Has t.executed y) e h) in (z.0, z.2, z.3)

  all-runnable : IsFamily m.opening (IsRunnable m)
  all-runnable = family s events honest m.opening opens.distinct IsIt (λ r e. ap (λ (t : Member). t.opening) e) (λ r e. subst (OpensApart s events) (sym e) opens) all-own
      (IsRunnable m) (λ x it. (m, refl, it)) among-it (runnable-gave s events honest m own.first)

  fit : (h : Held) (objects : List Object) → MayExecute m h objects → fits h.cert.tx objects ≡ true
  fit h objects it = none-unfit s events honest distinct n seat at h it.is_held it.may objects it.there

  abbrev as-step : Held → List Object → Step
  as-step h objects = record { tx = h.cert.tx; inputs = objects }

  runnable : (h : Held) (objects : List Object) → MayExecute m h objects → IsRunnable m (as-step h objects)
  runnable h objects it = record { of = h; is_held = it.is_held; may = it.may; tx = refl; there = it.there; fit = fit h objects it }

  digest-is : (h : Held) (objects : List Object) → MayExecute m h objects → h.digest ≡ transaction_digest h.cert.tx
  unfolding runnable
  digest-is h objects it = digest-of s events honest m own.first (as-step h objects) (runnable h objects it)

  -- ---- keys

  module _ (h : Held) (objects : List Object) (it : MayExecute m h objects) where
    abbrev x : Step
    x = as-step h objects

    runs : IsRunnable m x
    runs = runnable h objects it

    key-apart : is_executed m.executed h.digest ≡ false → (p : Object) → Has (gave x).objects p → (v : Version) → Has (versions m.opening m.executed) v → v.object.id ≡ p.id → v.object.version ≡ p.version → ⊥
    key-apart idle p wrote v held e q = go (version-from m.opening m.executed v held)
      where
        go : IsOpened m.opening v ⊎ IsWrote m.executed v → ⊥
        go (inl (o, there, f)) =
            let low = above-opening m.opening (IsRunnable m) all-runnable x runs p wrote v.object (subst (Has m.opening) (ap object_in f) there) e in
            omega (arith, low, q)
        go (inr (y, there, o, w, f)) =
            let z = step-of s events honest m own.first y there in
            let same = all-writers m.opening (IsRunnable m) all-runnable x z.0 runs z.2 p v.object wrote (subst (λ (g : Executed). Has g.objects v.object) (sym z.3) (subst (Has y.gave.objects) (ap object_in f) w)) (sym e) (sym q) in
            let done = was-executed m.executed y h.digest there (sym z.4 ∙ sym same.digest ∙ sym (digest-is h objects it)) in
            cc

    none-held : is_executed m.executed h.digest ≡ false → list_any (holds_key (versions m.opening m.executed)) (written_keys (execution h.cert.tx objects)) ≡ false
    none-held idle = none-any (holds_key (versions m.opening m.executed)) (written_keys (execution h.cert.tx objects)) no-key
      where
        no-key : (key : ObjectKey) → Has (written_keys (execution h.cert.tx objects)) key → holds_key (versions m.opening m.executed) key ≡ true → ⊥
        no-key key there holds =
            let p = has_mapped object_key (gave x).objects key there in
            let v = any-has (λ (v : Version). key_eq (object_key v.object) key) (versions m.opening m.executed) holds in
            key-apart idle p.0 p.1 v.0 v.1
            (id_same v.0.object.id key.id (and-first (id_eq v.0.object.id key.id) (v.0.object.version == key.version) v.2) ∙ sym (ap (λ (k : ObjectKey). k.id) p.2))
            (eqb-true v.0.object.version key.version (and-second (id_eq v.0.object.id key.id) (v.0.object.version == key.version) v.2) ∙ sym (ap (λ (k : ObjectKey). k.version) p.2))

    pub writes-new-keys : is_executed m.executed h.digest ≡ false → writes_new (versions m.opening m.executed) (written_keys (execution h.cert.tx objects)) ≡ true
    writes-new-keys idle = both-false (list_any (holds_key (versions m.opening m.executed)) (written_keys (execution h.cert.tx objects))) (repeats key_eq (written_keys (execution h.cert.tx objects)))
        (none-held idle) (keys-once (gave x).objects (gave x).effects.deleted (gave-once m.opening (IsRunnable m) all-runnable x runs))

    pub present-is-ready : is_executed m.executed h.digest ≡ false → ready (books m) m.executed h ≡ Some (executes_as h (execution h.cert.tx objects))
    present-is-ready idle = ready-is (books m) m.executed h objects idle it.may it.there (fit h objects it) (writes-new-keys idle)

  pub nothing-clashes : (h k : Held) (objects others : List Object) → MayExecute m h objects → MayExecute m k others → (key : ObjectKey) → Has (written_keys (execution h.cert.tx objects)) key → Has (written_keys (execution k.cert.tx others)) key → h.digest ≡ k.digest
  nothing-clashes h k objects others it to key one two =
      let p = has_mapped object_key (gave (as-step h objects)).objects key one in
      let q = has_mapped object_key (gave (as-step k others)).objects key two in
      let same = all-writers m.opening (IsRunnable m) all-runnable (as-step h objects) (as-step k others) (runnable h objects it) (runnable k others to) p.0 q.0 p.1 q.1 (ap (λ (z : ObjectKey). z.id) (p.2 ∙ sym q.2)) (ap (λ (z : ObjectKey). z.version) (p.2 ∙ sym q.2)) in
      digest-is h objects it ∙ same.digest ∙ sym (digest-is k others to)
