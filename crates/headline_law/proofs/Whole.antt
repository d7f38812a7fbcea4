-- What a certificate without shared inputs wants fits its transaction.
use Rattle.std.proofs.Common.{inl, inr, refl, sym, subst, ap, ◌∙◌, arith}
use Rattle.std.proofs.lemmas.Bool.{eqb-true, ltb-false, le-leb, lt-ltb}
use Rattle.std.specs.Prelude.{◌≡◌, ◌≤◌, ◌<◌, ◌-◌, ℕ, suc, max, Bool, true, false, not, ◌&&◌, ◌==◌, nat_lt, List, [], ◌∷◌, map, zip, fold, slice_get, Option, Some, None, is_some}
use Rattle.std.specs.List.{list_any}
use Rattle.digest_core.specs.declared.Digest.{Digest}
use Rattle.chain_types.specs.declared.objects.Object.{Object}
use Rattle.chain_types.specs.declared.transactions.Input.{Input}
use Rattle.chain_types.specs.declared.transactions.Input.TheVariants as inputs
use Rattle.chain_types.specs.declared.transactions.Transaction.{Transaction}
use Rattle.chain_types.specs.declared.refusals.DecideRefusal.TheVariants as refused
use Rattle.chain_types.specs.Equal.{id_eq}
use Rattle.chain_types.specs.Digests.{key_of, transaction_digest, is_object, lamport_version}
use Rattle.chain_messages.specs.declared.messages.Certificate.{Certificate}
use Rattle.protocol_spec.specs.declared.answers.Assigned.{Assigned}
use Rattle.protocol_spec.specs.declared.answers.Held.{Held}
use Rattle.schedule_text.specs.declared.words.Event.{Event}
use Rattle.protocol_spec.specs.Chain.Words.{Has, all_some, where_true}
use Rattle.protocol_spec.specs.Chain.Shape.{names_bad_version, shape_cases, shape_fault}
use Rattle.protocol_spec.specs.Chain.Certificates.{Rules, cert_cases, cert_refusal}
use Rattle.protocol_spec.specs.Chain.Keys.{objects_of, is_address, is_gas_coin, balance_of, is_shared_input, has_shared_input, version_of, version_limit, fits_input, fit_inputs, pays_gas, fits}
use Rattle.protocol_spec.proofs.ListLemmas.{and-first, and-second, each_has}
use Rattle.protocol_spec.proofs.Truth.{or_false_left, or_false_right, where_false, map_none, where_not_true, some_same}
use Rattle.protocol_spec.specs.Member.Versions.{Execution, Version, versions, version_at}
use Rattle.protocol_spec.specs.Member.Votes.{shared_key, Ballot, object_held, of_held, gas_balance, held_balance, absent, vote_cases, vote_refusal, origin_of, vote_origins}
use Rattle.protocol_spec.specs.Member.Admission.{assigned_of}
use Rattle.protocol_spec.specs.Member.Rounds.{wanted_by, wants_of, found, present}
use Rattle.protocol_spec.specs.Member.Member.{Member, books}
use Rattle.world_spec.specs.Setting.{Setting}
use Rattle.world_spec.specs.World.{Seat, member_in}
use Rattle.world_spec.specs.Run.{world_after}
use Rattle.world_spec.specs.Assumptions.{IsHonestRun, all_delivered}
use Rattle.safety_law.proofs.Apart.{none-each, none-of}
use Rattle.safety_law.specs.Agreed.{IsHeldAsGiven}
use Rattle.safety_law.proofs.Supply.{every-held}
use Rattle.safety_law.proofs.Executing.{some-parts}
use Rattle.block_law.proofs.ReadingSteps.{has-kept}
use Rattle.block_law.specs.Orderly.{AreApart}
use Rattle.safety_law.proofs.Wants.{nobody}
use Rattle.safety_law.proofs.Known.{opens-apart}
use Rattle.headline_law.specs.Present.{FitsAsNamed}
use Rattle.headline_law.proofs.Present.{IsVoted, seen-in, voted-by}
use Rattle.headline_law.proofs.Fitting.{WritesOnce, held-one, held-some, input-fits, writes-once}

-- ---- lists

pub any-none : {A : Type 0} (test : A → Bool) (xs : List A) (x : A) → list_any test xs ≡ false → Has xs x → test x ≡ false
any-none test [] x e h = absurd h
any-none test (y ∷ ys) x e (inl q) = subst (λ z. test z ≡ false) q (or_false_left (test y) (list_any test ys) e)
any-none test (y ∷ ys) x e (inr h) = any-none test ys x (or_false_right (test y) (list_any test ys) e) h

pub zip-there : {A B : Type 0} (f : A → B) (xs : List A) (x : A) → Has xs x → Has (zip xs (map f xs)) (x, f x)
zip-there f [] x h = absurd h
zip-there {A = A} {B = B} f (y ∷ ys) x (inl e) = inl (ap (λ (z : A). (z, f z)) e)
zip-there f (y ∷ ys) x (inr h) = inr (zip-there f ys x h)

not-shared : (t : Transaction) → has_shared_input t ≡ false → (i : Input) → Has (objects_of t) i → is_shared_input i ≡ false
not-shared t none i (inl e) = subst (λ (j : Input). is_shared_input j ≡ false) e refl
not-shared t none i (inr h) = any-none is_shared_input t.inputs i none (has-kept is_object t.inputs i h)

-- ---- each object

-- what is found for an input fits it, if it is not shared
found-fits : (m : Member) (t : Transaction) (a : Option (List Assigned)) (i : Input) (d : Option Digest) → is_shared_input i ≡ false → FitsAsNamed m t i d → (o : Object) → found (versions m.opening m.executed) (wanted_by a (i, d)) ≡ Some o → fits_input t i o ≡ true
found-fits m t a (inputs.Pure bytes) d none fit o e = absurd (nobody (versions m.opening m.executed) (shared_key (record { 0 = record { 0 = [] } }) 0) o e)
found-fits m t a (inputs.Owned r) d none fit o e = fit o e
found-fits m t a (inputs.Immutable r) d none fit o e = fit o e
found-fits m t a (inputs.Shared id initial mutable) d none fit o e = absurd (cc)

module _ (m : Member) (t : Transaction) (a : Option (List Assigned)) (f : Input → Option Digest) where
  abbrev there : List Version
  there = versions m.opening m.executed

  all-fit : (is : List Input) → ((i : Input) → Has is i → (o : Object) → found there (wanted_by a (i, f i)) ≡ Some o → fits_input t i o ≡ true) → (os : List Object) → all_some (map (found there) (map (wanted_by a) (zip is (map f is)))) ≡ Some os → fit_inputs t is os ≡ true
  all-fit [] each os e = subst (λ (zs : List Object). fit_inputs t [] zs ≡ true) (some_same [] os e) refl
  all-fit (i ∷ is) each os e =
      let p = some-parts (found there (wanted_by a (i, f i))) (map (found there) (map (wanted_by a) (zip is (map f is)))) os e in
      subst (λ (zs : List Object). fit_inputs t (i ∷ is) zs ≡ true) (some_same (p.0 ∷ p.1) os p.4)
      (rw (each i (inl refl) p.0 p.2) (all-fit is (λ j h. each j (inr h)) p.1 p.3))

-- ---- the version stays below the limit

low-version : (t : Transaction) (i : Input) (o : Object) → is_shared_input i ≡ false → names_bad_version i ≡ false → fits_input t i o ≡ true → o.version ≤ version_limit - 2
low-version t (inputs.Pure bytes) o none good fit = absurd (cc)
low-version t (inputs.Owned r) o none good fit =
    let same = eqb-true o.version r.version (and-second (id_eq o.id r.id) (o.version == r.version) (and-first (id_eq o.id r.id && (o.version == r.version)) _ (and-first _ _ fit))) in
    subst (λ (v : ℕ). v ≤ version_limit - 2) (sym same) (ltb-false (version_limit - 2) r.version (or_false_right (r.version == 0) (nat_lt (version_limit - 2) r.version) good))
low-version t (inputs.Immutable r) o none good fit =
    let same = eqb-true o.version r.version (and-second (id_eq o.id r.id) (o.version == r.version) (and-first (id_eq o.id r.id && (o.version == r.version)) _ (and-first _ _ fit))) in
    subst (λ (v : ℕ). v ≤ version_limit - 2) (sym same) (ltb-false (version_limit - 2) r.version (or_false_right (r.version == 0) (nat_lt (version_limit - 2) r.version) good))
low-version t (inputs.Shared id initial mutable) o none good fit = absurd (cc)

max-low : (b a : ℕ) (t : Transaction) (is : List Input) (os : List Object) → a ≤ b → ((i : Input) → Has is i → (o : Object) → fits_input t i o ≡ true → o.version ≤ b) → fit_inputs t is os ≡ true → fold max a (map (λ (o : Object). o.version) os) ≤ b
max-low b a t [] [] low each fit = low
max-low b a t [] (o ∷ os) low each fit = absurd (cc)
max-low b a t (i ∷ is) [] low each fit = absurd (cc)
max-low b a t (i ∷ is) (o ∷ os) low each fit =
    let here = each i (inl refl) o (and-first (fits_input t i o) (fit_inputs t is os) fit) in
    max-low b (max a o.version) t is os (omega (arith, low, here)) (λ j h. each j (inr h)) (and-second (fits_input t i o) (fit_inputs t is os) fit)

below-limit : (n : ℕ) → n ≤ version_limit - 2 → suc n < version_limit
below-limit n low = omega (arith, low)

version-low : (t : Transaction) (os : List Object) → has_shared_input t ≡ false → list_any names_bad_version (objects_of t) ≡ false → fit_inputs t (objects_of t) os ≡ true → nat_lt (version_of os) version_limit ≡ true
unfolding lamport_version
version-low t os none good fit = lt-ltb (version_of os) version_limit (below-limit (fold max 0 (map (λ (o : Object). o.version) os))
    (max-low (version_limit - 2) 0 t (objects_of t) os (omega arith) (λ i h o f. low-version t i o (not-shared t none i h) (any-none names_bad_version (objects_of t) i good h) f) fit))

versions-good : (r : Rules) (c : Certificate) → cert_refusal r c ≡ None → list_any names_bad_version (objects_of c.tx) ≡ false
unfolding cert_refusal shape_fault
versions-good r c e =
    let shape = none-each (shape_cases c.tx) (map_none _ (shape_fault c.tx) (none-each (cert_cases r c) e).0) in
    where_false (list_any names_bad_version (objects_of c.tx)) 11 shape.1.1.1.1.1.1.1.1.1.1.0

-- ---- gas

module _ (b : Ballot) (t : Transaction) (free : vote_refusal b t (transaction_digest t) ≡ None) (o : Object) (held : object_held b (key_of t.gas) ≡ Some o) where
  gas-coin : is_gas_coin o.content ≡ true
  unfolding vote_refusal
  gas-coin =
      let case = (none-each (vote_cases b t (transaction_digest t)) free).1.1.1.1.0 in
      and-second (is_address o.owner) (is_gas_coin o.content) (where_not_true (is_address o.owner && is_gas_coin o.content) (refused.WrongKind (key_of t.gas))
      (subst (λ (h : Option Object). where_true (of_held h (λ (p : Object). not (is_address p.owner && is_gas_coin p.content))) (refused.WrongKind (key_of t.gas)) ≡ None) held case))

  rich : t.budget ≤ balance_of o.content
  unfolding vote_refusal
  rich =
      let case = (none-each (vote_cases b t (transaction_digest t)) free).1.1.1.1.1.1.0 in
      subst (λ (h : Option Object). t.budget ≤ held_balance h) held (ltb-false (gas_balance b t) t.budget (not-poor (nat_lt (gas_balance b t) t.budget) case))
    where
      not-poor : (x : Bool) → where_true x (refused.PoorGas (gas_balance b t) t.budget) ≡ None → x ≡ false
      not-poor true e = absurd (cc)
      not-poor false e = refl

  pays : (os : List Object) → pays_gas t (o ∷ os) ≡ true
  pays os = rw (gas-coin) (le-leb t.budget (balance_of o.content) rich)

-- ---- a certificate

-- what is found for its shared inputs fits them, and its version stays below the limit
pub record FitsBeside (m : Member) (t : Transaction) (origin : Input → Option Digest) (a : Option (List Assigned)) (os : List Object) : Type 0 where
  pub shared : (i : Input) → Has (objects_of t) i → is_shared_input i ≡ true → (o : Object) → found (versions m.opening m.executed) (wanted_by a (i, origin i)) ≡ Some o → fits_input t i o ≡ true
  pub low : fit_inputs t (objects_of t) os ≡ true → nat_lt (version_of os) version_limit ≡ true

module _ (m : Member) (t : Transaction) (origins : List (Option Digest)) (v : IsVoted m t origins) (apart : AreApart m.opening) (once : (y : Execution) → Has m.executed y → WritesOnce y) (a : Option (List Assigned)) (os : List Object) (beside : FitsBeside m t (origin_of v.voter) a os) where
  abbrev Wants : Type 0
  Wants = all_some (map (found (versions m.opening m.executed)) (map (wanted_by a) (zip (objects_of t) origins))) ≡ Some os

  each-fits : (i : Input) → Has (objects_of t) i → (o : Object) → found (versions m.opening m.executed) (wanted_by a (i, origin_of v.voter i)) ≡ Some o → fits_input t i o ≡ true
  unfolding vote_origins
  each-fits i h o e = go (is_shared_input i) refl
    where
      go : (b : Bool) → is_shared_input i ≡ b → fits_input t i o ≡ true
      go true s = beside.shared i h s o e
      go false s = found-fits m t a i (origin_of v.voter i) s
          (input-fits m t apart once i (origin_of v.voter i) (seen-in m t origins v i (origin_of v.voter i)
          (subst (λ (ds : List (Option Digest)). Has (zip (objects_of t) ds) (i, origin_of v.voter i)) v.named (zip-there (origin_of v.voter) (objects_of t) i h)))) o e

  named-wants : Wants → all_some (map (found (versions m.opening m.executed)) (map (wanted_by a) (zip (objects_of t) (map (origin_of v.voter) (objects_of t))))) ≡ Some os
  unfolding vote_origins
  named-wants e = subst (λ (ds : List (Option Digest)). all_some (map (found (versions m.opening m.executed)) (map (wanted_by a) (zip (objects_of t) ds))) ≡ Some os) (sym v.named) e

  wants-fit : Wants → fit_inputs t (objects_of t) os ≡ true
  wants-fit e = all-fit m t a (origin_of v.voter) (objects_of t) each-fits os (named-wants e)

  gas-paid : Wants → pays_gas t os ≡ true
  unfolding vote_refusal
  gas-paid e =
      let p = some-parts (found (versions m.opening m.executed) (wanted_by a (inputs.Owned t.gas, origin_of v.voter (inputs.Owned t.gas)))) _ os (named-wants e) in
      let o = held-some v.voter (key_of t.gas) (where_not_true (is_some (object_held v.voter (key_of t.gas))) (refused.Absent (key_of t.gas)) (none-of (absent v.voter) (objects_of t) (inputs.Owned t.gas) (none-each (vote_cases v.voter t (transaction_digest t)) v.free).0 (inl refl))) in
      let one = held-one v.voter m v.openings v.same apart once (key_of t.gas) (version_at (versions v.voter.opening v.voter.executed) (key_of t.gas)) refl o.0 o.1 (origin_of v.voter (inputs.Owned t.gas)) refl p.0 p.2 in
      subst (λ (zs : List Object). pays_gas t zs ≡ true) (some_same (p.0 ∷ p.1) os p.4) (pays v.voter t v.free p.0 (o.1 ∙ ap Some one.0) p.1)

  pub whole-fits : Wants → fits t os ≡ true
  unfolding fits
  whole-fits e = rw (wants-fit e, gas-paid e) (beside.low (wants-fit e))

pub certificates-fit : (s : Setting) (events : List Event) → IsHonestRun s events → AreApart s.opening → (n : ℕ) (seat : Seat) → slice_get (world_after s events).seats n ≡ Some seat
    → (h : Held) → Has (member_in s seat).held h → has_shared_input h.cert.tx ≡ false → (os : List Object) → present (books (member_in s seat)) (member_in s seat).executed h ≡ Some os → fits h.cert.tx os ≡ true
unfolding present wants_of
certificates-fit s events honest distinct n seat at h held none os e =
    let given = each_has (IsHeldAsGiven s.rules (all_delivered s events) (member_in s seat).epoch) (member_in s seat).held h (every-held s events n seat at) held in
    whole-fits (member_in s seat) h.cert.tx h.cert.origins (voted-by s events honest distinct n seat at h held) (opens-apart s events honest distinct n seat at).distinct (writes-once s events n seat at)
    (assigned_of (member_in s seat).sequence.admission h.digest) os (record {
      shared = λ i there shared o f. absurd (let not = not-shared h.cert.tx none i there in cc);
      low = version-low h.cert.tx os none (versions-good s.rules h.cert given.valid);
    }) e
