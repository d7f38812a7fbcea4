-- What members of one epoch execute, and what one of them may execute, are families.
use Rattle.std.proofs.Common.{inl, inr, sym, subst, ap, ◌∙◌}
use Rattle.std.specs.Prelude.{◌≡◌, ◌⊎◌, true, List, zip}
use Rattle.chain_types.specs.declared.objects.ObjectId.{ObjectId}
use Rattle.chain_types.specs.declared.objects.Object.{Object}
use Rattle.chain_types.specs.declared.transactions.Input.{Input}
use Rattle.chain_types.specs.declared.transactions.Transaction.{Transaction}
use Rattle.chain_types.specs.Digests.{transaction_digest}
use Rattle.protocol_spec.specs.declared.pieces.Executed.{Executed}
use Rattle.schedule_text.specs.declared.words.Event.{Event}
use Rattle.protocol_spec.proofs.Truth.{some_same}
use Rattle.protocol_spec.specs.Chain.Words.{Has}
use Rattle.protocol_spec.specs.Chain.Keys.{objects_of, fits}
use Rattle.protocol_spec.specs.Member.Versions.{Execution}
use Rattle.protocol_spec.specs.Member.Rounds.{executes_as}
use Rattle.protocol_spec.specs.Member.Member.{Member}
use Rattle.world_spec.specs.Setting.{Setting}
use Rattle.world_spec.specs.Assumptions.{IsHonestRun}
use Rattle.block_law.specs.Orderly.{Step, gave, Makes, IsOpening, AreApart}
use Rattle.safety_law.specs.Orderly.{OpensApart}
use Rattle.safety_law.proofs.SameSteps.{given-alike}
use Rattle.headline_law.specs.Chained.{MayWrite, IsExecutedAs}
use Rattle.headline_law.proofs.Family.{IsSame, IsThere, IsFamily}
use Rattle.headline_law.proofs.Settled.{IsSettled, ArePeers}
use Rattle.headline_law.proofs.Reading.{IsRunnable, IsExecutionOf, execution-of, read-from, same-present}
use Rattle.headline_law.proofs.Takers.{digest-of, names, draws-apart, draws-new, one-maker, one-taker}

module _ (s : Setting) (events : List Event) (honest : IsHonestRun s events) where
  -- ---- executed transactions

  module _ (m : Member) (settled : IsSettled s events m) where
    -- an execution is of a step
    pub step-of : (y : Execution) → Has m.executed y → (x : Step) × IsExecutedAs m x × IsRunnable m x × (gave x ≡ y.gave) × (transaction_digest x.tx ≡ y.digest)
    step-of y h =
        let r = execution-of m settled.explained y h in
        go r.0 r.1
      where
        go : (x : Step) → IsExecutionOf m y x → (x : Step) × IsExecutedAs m x × IsRunnable m x × (gave x ≡ y.gave) × (transaction_digest x.tx ≡ y.digest)
        go x it = (
          x,
          record { of = it.runs.of; is_held = it.runs.is_held; tx = it.runs.tx; there = it.runs.there; executed = subst (Has m.executed) it.is h },
          it.runs,
          sym (ap (λ (z : Execution). z.gave) it.is),
          sym (digest-of s events honest m settled x it.runs) ∙ sym (ap (λ (z : Execution). z.digest) it.is),
        )

    -- two runnable steps of one transaction are one
    pub one-step : (x y : Step) → IsRunnable m x → IsRunnable m y → transaction_digest x.tx ≡ transaction_digest y.tx → (x.tx ≡ y.tx) × (x.inputs ≡ y.inputs)
    one-step x y it also e =
        let d = digest-of s events honest m settled x it ∙ e ∙ sym (digest-of s events honest m settled y also) in
        let alike = given-alike s events honest m.epoch m.epoch it.of.digest also.of.digest it.of.cert also.of.cert (settled.held it.of it.is_held) (settled.held also.of also.is_held) d in (
          sym it.tx ∙ alike.0 ∙ also.tx,
          some_same x.inputs y.inputs (sym it.there ∙ same-present m it.of also.of d alike.0 alike.1 ∙ also.there),
        )

    pub runnable-gave : (x y : Step) → IsRunnable m x → IsRunnable m y → transaction_digest x.tx ≡ transaction_digest y.tx → gave x ≡ gave y
    runnable-gave x y it also e =
        let one = one-step x y it also e in
        ap (λ (t : Transaction). gave (record { tx = t; inputs = x.inputs })) one.0 ∙ ap (λ (os : List Object). gave (record { tx = y.tx; inputs = os })) one.1

    pub executed-digest : (x : Step) → (e : IsExecutedAs m x) → e.of.digest ≡ transaction_digest x.tx
    executed-digest x e = (settled.held e.of e.is_held).digest_is ∙ ap transaction_digest e.tx

    -- what was executed may run
    pub runs-it : (x : Step) → IsExecutedAs m x → IsRunnable m x
    runs-it x e = go (step-of (executes_as e.of (gave x)) e.executed)
      where
        go : (z : Step) × IsExecutedAs m z × IsRunnable m z × (gave z ≡ gave x) × (transaction_digest z.tx ≡ e.of.digest) → IsRunnable m x
        go (z, was, it, given, digest) =
            let d = digest-of s events honest m settled z it ∙ digest in
            let alike = given-alike s events honest m.epoch m.epoch it.of.digest e.of.digest it.of.cert e.of.cert (settled.held it.of it.is_held) (settled.held e.of e.is_held) d in
            let there = same-present m it.of e.of d alike.0 alike.1 ∙ e.there in
            record {
              of = it.of;
              is_held = it.is_held;
              may = it.may;
              tx = alike.0 ∙ e.tx;
              there = there;
              fit = subst (λ (t : Transaction). fits t x.inputs ≡ true) (sym it.tx ∙ alike.0 ∙ e.tx) (subst (λ (os : List Object). fits z.tx os ≡ true) (some_same z.inputs x.inputs (sym it.there ∙ there)) it.fit);
            }

  -- ---- families

  module _ (opening : List Object) (distinct : AreApart opening) (Of : Member → Type 0) (opened : (m : Member) → Of m → m.opening ≡ opening)
      (new : (m : Member) → Of m → OpensApart s events m) (peers : (m n : Member) → Of m → Of n → ArePeers s events m n) where
    module _ (Among : Step → Type 0) (runs : (x : Step) → Among x → (m : Member) × Of m × IsRunnable m x)
        (among : (m : Member) → Of m → (x : Step) → Among x → IsRunnable m x → (y : Execution) → Has m.executed y → (z : Step) × Among z × (gave z ≡ y.gave))
        (same : (x y : Step) → Among x → Among y → transaction_digest x.tx ≡ transaction_digest y.tx → gave x ≡ gave y) where
      alike : (x y : Step) → Among x → Among y → transaction_digest x.tx ≡ transaction_digest y.tx → IsSame x y
      alike x y ax ay e = record { digest = e; given = same x y ax ay e }

      from-there : (x : Step) → Among x → (i : Input) (o : Object) → Has (zip (objects_of x.tx) x.inputs) (i, o) → IsThere opening Among o
      from-there x ax i o h = go (runs x ax)
        where
          go : (m : Member) × Of m × IsRunnable m x → IsThere opening Among o
          go (m, is, it) = pick (read-from m x it i o h)
            where
              pick : Has m.opening o ⊎ ((y : Execution) × Has m.executed y × Has y.gave.objects o) → IsThere opening Among o
              pick (inl k) = inl (subst (λ (os : List Object). Has os o) (opened m is) k)
              pick (inr (y, k, wrote)) = let z = among m is x ax it y k in inr (z.0, z.1, subst (λ (g : Executed). Has g.objects o) (sym z.2) wrote)

      draws-fresh : (x : Step) → Among x → (id : ObjectId) → Makes x id → IsOpening opening id → ⊥
      draws-fresh x ax id makes is-opening = go (runs x ax)
        where
          go : (m : Member) × Of m × IsRunnable m x → ⊥
          go (m, is, it) = draws-new s events honest m (peers m m is is).first x it (new m is) id makes (subst (λ (os : List Object). IsOpening os id) (sym (opened m is)) is-opening)

      draw-one : (x y : Step) → Among x → Among y → (id : ObjectId) → Makes x id → Makes y id → IsSame x y
      draw-one x y ax ay id one two = go (runs x ax) (runs y ay)
        where
          go : (m : Member) × Of m × IsRunnable m x → (n : Member) × Of n × IsRunnable n y → IsSame x y
          go (m, is, it) (n, also, to) = alike x y ax ay (one-maker s events honest m n (peers m n is also) x y it to id one two)

      take-one : (x y : Step) → Among x → Among y → (o : Object) → MayWrite x o → MayWrite y o → IsSame x y
      take-one x y ax ay o one two = go (runs x ax) (runs y ay)
        where
          go : (m : Member) × Of m × IsRunnable m x → (n : Member) × Of n × IsRunnable n y → IsSame x y
          go (m, is, it) (n, also, to) = alike x y ax ay (one-taker s events honest m n (peers m n is also) x y it to o one two)

      pub family : IsFamily opening Among
      family = record {
        distinct = distinct;
        fit = λ x ax. (runs x ax).2.fit;
        sources = from-there;
        fresh = draws-fresh;
        makers = draw-one;
        takers = take-one;
        names = λ x ax. let r = runs x ax in names s events honest r.0 (peers r.0 r.0 r.1 r.1).first x r.2;
        draws = λ x ax. let r = runs x ax in draws-apart s events honest r.0 (peers r.0 r.0 r.1 r.1).first x r.2;
      }
