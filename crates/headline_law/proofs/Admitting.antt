-- What a member has executed it has admitted, if it closed and all that it holds is in the sequence: along its
-- executions each one's origins are admitted, so it does not wait; and without shared inputs it is not dropped.
use Rattle.std.proofs.Common.{inl, inr, refl, sym, subst, ap, arith}
use Rattle.std.specs.Prelude.{◌≡◌, ◌⊎◌, ℕ, Bool, true, false, not, ◌||◌, List, [], ◌∷◌, ◌++◌, filter_map, find, length, map, slice_get, zip, Option, Some, None}
use Rattle.std.specs.List.{list_any}
use Rattle.digest_core.specs.declared.Digest.{Digest}
use Rattle.chain_types.specs.declared.objects.Object.{Object}
use Rattle.chain_types.specs.declared.transactions.Input.{Input}
use Rattle.chain_types.specs.declared.transactions.Input.TheVariants as inputs
use Rattle.chain_types.specs.declared.transactions.Transaction.{Transaction}
use Rattle.chain_types.specs.Equal.{digest_eq}
use Rattle.chain_types.specs.Digests.{key_of}
use Rattle.chain_messages.specs.Messages as messages
use Rattle.protocol_spec.specs.declared.answers.Held.{Held}
use Rattle.schedule_text.specs.declared.words.Event.{Event}
use Rattle.protocol_spec.proofs.Checked.{valid_length}
use Rattle.protocol_spec.proofs.Equality.{digest_self}
use Rattle.protocol_spec.proofs.ListLemmas.{each_has, has_map}
use Rattle.protocol_spec.specs.Chain.Words.{Has, Along, all_some}
use Rattle.protocol_spec.specs.Chain.Keys.{has_shared_input, is_shared_input, mutable_id, objects_of}
use Rattle.protocol_spec.specs.Member.Versions.{Execution, versions}
use Rattle.protocol_spec.specs.Member.Admission.{Admission, assigned_of, is_admitted, is_free, is_origin_admitted, joined_inputs}
use Rattle.protocol_spec.specs.Member.Sequence.{Sequence}
use Rattle.protocol_spec.specs.Member.Rounds.{found, present, wanted_by, wants_of}
use Rattle.protocol_spec.specs.Member.Member.{Member, books}
use Rattle.world_spec.specs.Setting.{Setting}
use Rattle.world_spec.specs.World.{Seat, member_in}
use Rattle.world_spec.specs.Run.{world_after}
use Rattle.world_spec.specs.Assumptions.{IsHonestRun, all_delivered}
use Rattle.safety_law.proofs.Apart.{none-found}
use Rattle.safety_law.proofs.Once.{has-push}
use Rattle.block_law.proofs.Live.{has-any}
use Rattle.block_law.proofs.ReadingSteps.{has-zip}
use Rattle.safety_law.specs.Agreed.{IsHeldAsGiven}
use Rattle.safety_law.specs.Explained.{IsExplained}
use Rattle.safety_law.proofs.Executing.{executions-explained, some-parts}
use Rattle.safety_law.proofs.Prefixes.{follows}
use Rattle.safety_law.proofs.SameSteps.{given-alike}
use Rattle.safety_law.proofs.Supply.{every-held, stocked}
use Rattle.safety_law.proofs.Turned.{has-all}
use Rattle.safety_law.proofs.Wants.{from-writer, nobody}
use Rattle.protocol_spec.specs.Member.Votes.{shared_key}
use Rattle.headline_law.specs.Stated.{IsSettled}
use Rattle.headline_law.proofs.Dropping.{never-dropped, unshared, was-dropped}
use Rattle.headline_law.proofs.Knowing.{IsIn, in-known}
use Rattle.headline_law.proofs.Waiting.{IsIdle, nothing-free}

-- ---- lists

-- if nothing is found no element passes
not-found : {A : Type 0} (test : A → Bool) (xs : List A) (x : A) → find test xs ≡ None → Has xs x → test x ≡ false
not-found test [] x e h = absurd h
not-found {A = A} test (y ∷ ys) x e (inl same) = subst (λ (z : A). test z ≡ false) same (none-found test y ys e).0
not-found test (y ∷ ys) x e (inr h) = not-found test ys x (none-found test y ys e).1 h

-- of lists of one length each element of the second stands beside one of the first
beside : {A B : Type 0} (xs : List A) (ys : List B) (y : B) → length ys ≡ length xs → Has ys y → (x : A) × Has (zip xs ys) (x, y)
beside xs [] y e h = absurd h
beside [] (z ∷ ys) y e h = absurd (omega (arith, e))
beside {A = A} {B = B} (w ∷ xs) (z ∷ ys) y e (inl same) = (w, inl (ap (λ (b : B). (w, b)) same))
beside (w ∷ xs) (z ∷ ys) y e (inr h) = let r = beside xs ys y (omega (arith, e)) h in (r.0, inr r.1)

-- what is there for each that is asked for
all-found : {A B : Type 0} (f : A → Option B) (xs : List A) (bs : List B) (x : A) → all_some (map f xs) ≡ Some bs → Has xs x → (b : B) × (f x ≡ Some b)
all-found f [] bs x e h = absurd h
all-found {A = A} {B = B} f (y ∷ ys) bs x e (inl same) = let p = some-parts (f y) (map f ys) bs e in (p.0, subst (λ (z : A). f z ≡ Some p.0) same p.2)
all-found f (y ∷ ys) bs x e (inr h) = let p = some-parts (f y) (map f ys) bs e in all-found f ys p.1 x p.3 h

-- ---- certificates without shared inputs

no-mutable : (is : List Input) → list_any is_shared_input is ≡ false → filter_map mutable_id is ≡ []
no-mutable [] e = refl
no-mutable (inputs.Pure bytes ∷ is) e = no-mutable is e
no-mutable (inputs.Owned r ∷ is) e = no-mutable is e
no-mutable (inputs.Immutable r ∷ is) e = no-mutable is e
no-mutable (inputs.Shared id initial mutable ∷ is) e = absurd (cc)

-- with its origins admitted it is free
free-without : (writers : Option ℕ) (a : Admission) (h : Held) → has_shared_input h.cert.tx ≡ false → ((d : Option Digest) → Has h.cert.origins d → is_origin_admitted a d ≡ true) → is_free writers a h ≡ true
free-without writers a h none each = rw (has-all (is_origin_admitted a) h.cert.origins each, no-mutable h.cert.tx.inputs none) refl

-- ---- an origin that a certificate names was executed, if its object was present

module _ (m : Member) (before : List Execution) (h : Held) (objects : List Object) (there : present (books m) before h ≡ Some objects) where
  was-found : (i : Input) (d : Option Digest) → Has (joined_inputs h.cert) (i, d) → (o : Object) × (found (versions m.opening before) (wanted_by (assigned_of m.sequence.admission h.digest) (i, d)) ≡ Some o)
  unfolding present wants_of
  was-found i d k = all-found (found (versions m.opening before)) (map (wanted_by (assigned_of m.sequence.admission h.digest)) (joined_inputs h.cert)) objects (wanted_by (assigned_of m.sequence.admission h.digest) (i, d)) there
      (has_map (wanted_by (assigned_of m.sequence.admission h.digest)) (joined_inputs h.cert) (i, d) k)

  origin-executed : (i : Input) (tx : Digest) → Has (joined_inputs h.cert) (i, Some tx) → is_shared_input i ≡ false → (y : Execution) × Has before y × (y.digest ≡ tx)
  origin-executed (inputs.Pure bytes) tx k own = let o = was-found (inputs.Pure bytes) (Some tx) k in absurd (nobody (versions m.opening before) (shared_key (record { 0 = record { 0 = [] } }) 0) o.0 o.1)
  origin-executed (inputs.Owned r) tx k own = let o = was-found (inputs.Owned r) (Some tx) k in let w = from-writer m.opening before (key_of r) tx o.0 o.1 in (w.by, w.there, w.named)
  origin-executed (inputs.Immutable r) tx k own = let o = was-found (inputs.Immutable r) (Some tx) k in let w = from-writer m.opening before (key_of r) tx o.0 o.1 in (w.by, w.there, w.named)
  origin-executed (inputs.Shared id initial mutable) tx k own = absurd (cc)

-- ---- along the executions

module _ (s : Setting) (events : List Event) (honest : IsHonestRun s events) (n : ℕ) (seat : Seat) (at : slice_get (world_after s events).seats n ≡ Some seat) (settled : IsSettled (member_in s seat).epoch (member_in s seat)) where
  abbrev m : Member
  m = member_in s seat

  abbrev admission : Admission
  admission = m.sequence.admission

  abbrev IsTaken : Digest → Type 0
  IsTaken tx = is_admitted admission.admitted tx ≡ true

  idle : IsIdle s.rules.writers admission
  idle =
      let taken = follows s events n seat at in
      subst (λ (q : Sequence). IsIdle s.rules.writers q.admission) (sym taken.gives) (nothing-free s.rules m.opening m.epoch (map messages.entry.spell taken.front))

  held-given : (h : Held) → Has m.held h → IsHeldAsGiven s.rules (all_delivered s events) m.epoch h
  held-given h there = each_has (IsHeldAsGiven s.rules (all_delivered s events) m.epoch) m.held h (every-held s events n seat at) there

  module _ (before : List Execution) (each : (y : Execution) → Has before y → IsTaken y.digest) (h : Held) (there : Has m.held h) (none : has_shared_input h.cert.tx ≡ false) (objects : List Object) (present_is : present (books m) before h ≡ Some objects) where
    -- each origin is admitted
    origin-taken : (d : Option Digest) → Has h.cert.origins d → is_origin_admitted admission d ≡ true
    origin-taken None k = refl
    origin-taken (Some tx) k =
        let i = beside (objects_of h.cert.tx) h.cert.origins (Some tx) (valid_length s.rules h.cert (held-given h there).valid) k in
        let y = origin-executed m before h objects present_is i.0 tx i.1 (unshared h.cert.tx none i.0 (has-zip (objects_of h.cert.tx) h.cert.origins i.0 (Some tx) i.1)) in
        subst IsTaken y.2 (each y.0 y.1)

    not-dropped : Has admission.dropped h.digest → ⊥
    not-dropped k =
        let was = was-dropped s events n seat at h.digest k in
        let same = (given-alike s events honest m.epoch m.epoch was.of.digest h.digest was.of.cert h.cert was.given (held-given h there) was.named).0 in
        let never = never-dropped s.rules m.opening was.earlier was.of.cert was.given.valid (subst (λ (t : Transaction). has_shared_input t ≡ false) (sym same) none) in
        let dropped = was.dropped in
        cc

    not-waiting : (k : Held) → Has admission.pending k → k.digest ≡ h.digest → ⊥
    not-waiting k waits same =
        let given = each_has (IsHeldAsGiven s.rules (all_delivered s events) m.epoch) admission.pending k (stocked s events n seat at).supplied.pending waits in
        let alike = given-alike s events honest m.epoch m.epoch k.digest h.digest k.cert h.cert given (held-given h there) same in
        let free = free-without s.rules.writers admission k (subst (λ (t : Transaction). has_shared_input t ≡ false) (sym alike.0) none)
        (λ d o. origin-taken d (subst (λ (ds : List (Option Digest)). Has ds d) alike.1 o)) in
        let idle_is = not-found (is_free s.rules.writers admission) admission.pending k idle waits in
        cc

    unshared-taken : IsTaken h.digest
    unshared-taken = go (in-known admission h.digest (settled.known h there))
      where
        go : IsIn admission h.digest → IsTaken h.digest
        go (inl x) = has-any (λ y. digest_eq y.digest h.digest) admission.admitted x.0 x.1 (subst (λ (d : Digest). digest_eq d h.digest ≡ true) (sym x.2) (digest_self h.digest))
        go (inr (inl k)) = absurd (not-dropped k)
        go (inr (inr k)) = absurd (not-waiting k.0 k.1 k.2)

  one-taken : (before : List Execution) (x : Execution) → ((y : Execution) → Has before y → IsTaken y.digest) → IsExplained (books m) before x → IsTaken x.digest
  one-taken before x each it = subst IsTaken (sym (ap (λ (y : Execution). y.digest) it.is)) (go (has_shared_input it.of.cert.tx) refl it.may)
    where
      go : (b : Bool) → has_shared_input it.of.cert.tx ≡ b → (not b || is_admitted admission.admitted it.of.digest) ≡ true → IsTaken it.of.digest
      go true e may = may
      go false e may = unshared-taken before each it.of it.is_held e it.inputs it.were_there

  all-taken : (xs before : List Execution) → ((y : Execution) → Has before y → IsTaken y.digest) → Along (IsExplained (books m)) before xs → (x : Execution) → Has xs x → IsTaken x.digest
  all-taken [] before each along x h = absurd h
  all-taken (y ∷ ys) before each along x (inl same) = subst (λ (z : Execution). IsTaken z.digest) same (one-taken before y each along.0)
  all-taken (y ∷ ys) before each along x (inr h) = all-taken ys (before ++ y ∷ []) (λ z k. which z (has-push before y z k)) along.1 x h
    where
      which : (z : Execution) → Has before z ⊎ (y ≡ z) → IsTaken z.digest
      which z (inl k) = each z k
      which z (inr same) = subst (λ (w : Execution). IsTaken w.digest) same (one-taken before y each along.0)

  pub executed-admitted : (x : Execution) → Has m.executed x → IsTaken x.digest
  executed-admitted x h = all-taken m.executed [] (λ y none. absurd none) (executions-explained s events n seat at) x h
