-- What is found for a shared input fits it; so no held certificate is unfit, and none is absent whose makers were executed.
use Rattle.std.proofs.Common.{inl, inr, refl, sym, subst, ap, ◌∙◌}
use Rattle.std.proofs.lemmas.Bool.{eqb-true, eq-eqb, leb-false, lt-ltb}
use Rattle.std.specs.Prelude.{◌≡◌, ◌⊎◌, ℕ, Bool, true, false, cond, not, ◌&&◌, ◌||◌, ◌==◌, nat_lt, nat_le, List, [], ◌∷◌, map, zip, filter, slice_get, Option, Some, None, is_some}
use Rattle.std.specs.List.{list_any, list_all}
use Rattle.digest_core.specs.declared.Digest.{Digest}
use Rattle.chain_types.specs.declared.objects.ObjectId.{ObjectId}
use Rattle.chain_types.specs.declared.objects.ObjectKey.{ObjectKey}
use Rattle.chain_types.specs.declared.objects.Object.{Object}
use Rattle.chain_types.specs.declared.objects.Owner.{Owner}
use Rattle.chain_types.specs.declared.objects.Owner.TheVariants as owner
use Rattle.chain_types.specs.declared.objects.Producer.{Producer}
use Rattle.chain_types.specs.declared.transactions.Input.{Input}
use Rattle.chain_types.specs.declared.transactions.Input.TheVariants as inputs
use Rattle.chain_types.specs.declared.transactions.Transaction.{Transaction}
use Rattle.chain_types.specs.declared.refusals.DecideRefusal.TheVariants as refused
use Rattle.chain_types.specs.Equal.{id_eq, key_eq}
use Rattle.chain_types.specs.Digests.{key_of, transaction_digest, is_object, lamport_version}
use Rattle.protocol_spec.specs.declared.answers.Assigned.{Assigned}
use Rattle.protocol_spec.specs.declared.answers.Held.{Held}
use Rattle.schedule_text.specs.declared.words.Event.{Event}
use Rattle.protocol_spec.proofs.Equality.{id_same, id_self}
use Rattle.protocol_spec.specs.Chain.Words.{Has, all_some}
use Rattle.protocol_spec.specs.Chain.Tests.{producer_eq}
use Rattle.protocol_spec.specs.Chain.Keys.{object_key, objects_of, is_shared_since, is_shared_input, has_shared_input, version_of, version_limit, fits_input, fit_inputs, fits}
use Rattle.protocol_spec.proofs.ListLemmas.{find-test, and-first, and-second, not-true, each_has, find_has, has_mapped}
use Rattle.protocol_spec.proofs.Truth.{or_false_left, where_not_true, some_same}
use Rattle.protocol_spec.specs.Member.Versions.{Execution, Version, versions, is_id, object_in, newest, is_deleted, live, is_executed}
use Rattle.protocol_spec.specs.Member.Votes.{shared_key, Ballot, of_held, wrong_kind, vote_cases, vote_refusal, origin_of, vote_origins}
use Rattle.protocol_spec.specs.Member.Admission.{joined_inputs, lacks_shared, is_admitted, taken_version, version_at_admission, assigned_of}
use Rattle.protocol_spec.specs.Member.Rounds.{Books, Wanted, wanted_by, wanted_as, wanted_version, assigned_id, wants_of, is_wanted, found, present, may_run, is_maker_done, is_origin_done, is_due}
use Rattle.protocol_spec.specs.Member.Member.{Member, ballot, books}
use Rattle.world_spec.specs.Setting.{Setting}
use Rattle.world_spec.specs.World.{Seat, member_in}
use Rattle.world_spec.specs.Run.{world_after}
use Rattle.world_spec.specs.Assumptions.{IsHonestRun, all_delivered}
use Rattle.safety_law.proofs.Apart.{none-each, none-of}
use Rattle.block_law.proofs.Written.{second}
use Rattle.block_law.specs.Shared.{shared_since}
use Rattle.safety_law.specs.Agreed.{IsGiven, IsHeldAsGiven}
use Rattle.safety_law.proofs.Supply.{every-held}
use Rattle.block_law.proofs.Live.{has-any}
use Rattle.block_law.specs.Orderly.{AreApart}
use Rattle.block_law.proofs.ReadingSteps.{has-zip, has-kept}
use Rattle.safety_law.proofs.Lists.{all-has}
use Rattle.safety_law.proofs.Known.{opens-apart}
use Rattle.safety_law.proofs.Lives.{newest-from}
use Rattle.safety_law.proofs.Versions.{each-version}
use Rattle.safety_law.proofs.Wants.{found-as, nobody, version-found, wanted-at}
use Rattle.headline_law.proofs.Present.{cast-given, voted-by, owned-present}
use Rattle.headline_law.proofs.Fitting.{writes-once}
use Rattle.headline_law.proofs.Whole.{zip-there, whole-fits, certificates-fit}
use Rattle.headline_law.specs.Shared.{ShareAlike}
use Rattle.headline_law.specs.Ready.{wanted_of}
use Rattle.headline_law.proofs.Alike.{share-alike}
use Rattle.headline_law.proofs.AssignedShared.{IsAdmittedAs, admitted-as, wanted-current, shared-present}

-- ---- a live object is a version of its id

filter-test : {A : Type 0} (test : A → Bool) (xs : List A) (x : A) → Has (filter test xs) x → test x ≡ true
filter-test test [] x h = absurd h
filter-test {A = A} test (y ∷ ys) x h = go (test y) refl h (filter-test test ys x)
  where
    go : (b : Bool) → test y ≡ b → Has (cond b (y ∷ filter test ys) (filter test ys)) x → (Has (filter test ys) x → test x ≡ true) → test x ≡ true
    go true e (inl q) rest = subst (λ (z : A). test z ≡ true) q e
    go true e (inr h) rest = rest h
    go false e h rest = rest h

abbrev IsVersionOf : List Version → ObjectId → Object → Type 0
IsVersionOf there id o = (v : Version) × Has there v × (v.object ≡ o) × (v.object.id ≡ id)

live-version : (opening : List Object) (executed : List Execution) (id : ObjectId) (o : Object) → live opening executed id ≡ Some o → IsVersionOf (versions opening executed) id o
unfolding live
live-version opening executed id o e = go (is_deleted executed id) e
  where
    some : (None ≡ Some o) ⊎ Has (map object_in (filter (is_id id) (versions opening executed))) o → IsVersionOf (versions opening executed) id o
    some (inl q) = absurd (cc)
    some (inr h) =
        let v = has_mapped object_in (filter (is_id id) (versions opening executed)) o h in
        (v.0, has-kept (is_id id) (versions opening executed) v.0 v.1, v.2, id_same v.0.object.id id (filter-test (is_id id) (versions opening executed) v.0 v.1))

    go : (b : Bool) → cond b None (newest id (versions opening executed)) ≡ Some o → IsVersionOf (versions opening executed) id o
    go true e = absurd (cc)
    go false e = some (newest-from (map object_in (filter (is_id id) (versions opening executed))) None o e)

-- ---- owners

is-since : (initial : ℕ) (who : Owner) → shared_since who ≡ Some initial → is_shared_since initial who ≡ true
is-since initial (owner.Address a) e = absurd (cc)
is-since initial (owner.Shared k) e = eq-eqb k initial (some_same k initial e)
is-since initial owner.Immutable e = absurd (cc)

since-is : (initial : ℕ) (who : Owner) → is_shared_since initial who ≡ true → shared_since who ≡ Some initial
since-is initial (owner.Address a) e = absurd (cc)
since-is initial (owner.Shared k) e = ap Some (eqb-true k initial e)
since-is initial owner.Immutable e = absurd (cc)

held-passes : (o : Option Object) (test : Object → Bool) → of_held o test ≡ true → (p : Object) × (o ≡ Some p) × (test p ≡ true)
held-passes None test e = absurd (cc)
held-passes (Some p) test e = (p, refl, e)

-- what a voter saw of a shared input
saw-shared : (b : Ballot) (t : Transaction) → vote_refusal b t (transaction_digest t) ≡ None → (id : ObjectId) (initial : ℕ) (mutable : Bool) → Has (objects_of t) (inputs.Shared id initial mutable)
    → (v : Version) × Has (versions b.opening b.executed) v × (v.object.id ≡ id) × (shared_since v.object.owner ≡ Some initial)
unfolding vote_refusal
saw-shared b t free id initial mutable h =
    let cases = none-each (vote_cases b t (transaction_digest t)) free in
    let kind = none-of (wrong_kind b) (objects_of t) (inputs.Shared id initial mutable) cases.1.1.1.1.1.0 h in
    let p = held-passes (live b.opening b.executed id) (λ (o : Object). is_shared_since initial o.owner) (where_not_true (of_held (live b.opening b.executed id) (λ (o : Object). is_shared_since initial o.owner)) (refused.WrongKind (shared_key id initial)) kind) in
    let v = live-version b.opening b.executed id p.0 p.1 in
    (v.0, v.1, v.3, ap (λ (o : Object). shared_since o.owner) v.2 ∙ since-is initial p.0.owner p.2)

-- ---- what is found

wanted-id : (asg : Option (List Assigned)) (id : ObjectId) (initial : ℕ) (mutable : Bool) (d : Option Digest) → (wanted_by asg (inputs.Shared id initial mutable, d)).key.id ≡ id
wanted-id asg id initial mutable d = go (assigned_id asg id)
  where
    go : (a : Option Assigned) → (wanted_as id initial a).key.id ≡ id
    go None = refl
    go (Some a) = refl

found-id : (key : ObjectKey) (maker : Option Producer) (v : Version) → is_wanted key maker v ≡ true → v.object.id ≡ key.id
found-id key None v e = absurd (cc)
found-id key (Some p) v e = id_same v.object.id key.id (and-first (id_eq v.object.id key.id) (v.object.version == key.version) (and-first (key_eq (object_key v.object) key) (producer_eq v.producer p) e))

-- ---- lists of what is wanted

all-there : (get : Wanted → Option Object) (ws : List Wanted) → ((w : Wanted) → Has ws w → is_some (get w) ≡ true) → (os : List Object) × (all_some (map get ws) ≡ Some os)
all-there get [] each = ([], refl)
all-there get (w ∷ ws) each = go (get w) (each w (inl refl)) (all-there get ws (λ v h. each v (inr h)))
  where
    go : (o : Option Object) → is_some o ≡ true → (os : List Object) × (all_some (map get ws) ≡ Some os) → (os : List Object) × (all_some (o ∷ map get ws) ≡ Some os)
    go None e rest = absurd (cc)
    go (Some o) e rest = (o ∷ rest.0, rw (rest.1) refl)

-- ---- what is due

module _ (b : Books) (executed : List Execution) (h : Held) where
  -- it was not executed, it is admitted if it has a shared input, and its origins and assigned writers were executed
  abbrev idle : Bool
  idle = not (is_executed executed h.digest)

  abbrev origins : Bool
  origins = list_all (is_origin_done executed) h.cert.origins

  abbrev makers : Bool
  makers = list_all (λ (w : Wanted). is_maker_done executed w.producer) (wants_of b.admission h)

  module _ (due : is_due b executed h ≡ true) where
    pub due-idle : is_executed executed h.digest ≡ false
    due-idle = not-true (is_executed executed h.digest) (and-first idle (may_run b h) (and-first (idle && may_run b h) origins (and-first (idle && may_run b h && origins) makers due)))

    pub due-may : may_run b h ≡ true
    due-may = and-second idle (may_run b h) (and-first (idle && may_run b h) origins (and-first (idle && may_run b h && origins) makers due))

    due-origins : origins ≡ true
    due-origins = and-second (idle && may_run b h) origins (and-first (idle && may_run b h && origins) makers due)

    due-makers : makers ≡ true
    due-makers = and-second (idle && may_run b h && origins) makers due

-- ---- in a run

module _ (s : Setting) (events : List Event) (honest : IsHonestRun s events) (distinct : AreApart s.opening) (n : ℕ) (seat : Seat) (at : slice_get (world_after s events).seats n ≡ Some seat) where
  abbrev m : Member
  m = member_in s seat

  given-of : (h : Held) → Has m.held h → IsGiven s.rules (all_delivered s events) m.epoch h.digest h.cert
  given-of h there = each_has (IsHeldAsGiven s.rules (all_delivered s events) m.epoch) m.held h (every-held s events n seat at) there

  -- the versions of the object are shared as the input says
  shared-since : (h : Held) → Has m.held h → (id : ObjectId) (initial : ℕ) (mutable : Bool) → Has (objects_of h.cert.tx) (inputs.Shared id initial mutable)
      → (u : Version) → Has (versions m.opening m.executed) u → u.object.id ≡ id → shared_since u.object.owner ≡ Some initial
  shared-since h held id initial mutable named u there same =
      let given = given-of h held in
      let cast = cast-given s events honest m.epoch h.digest h.cert given in
      let alike : ShareAlike (member_in s cast.seat) m = share-alike s cast.front cast.back (subst (IsHonestRun s) (sym cast.whole) honest) distinct cast.member n cast.seat seat cast.at
      (subst (λ (es : List Event). slice_get (world_after s es).seats n ≡ Some seat) (sym cast.whole) at) (sym cast.epoch ∙ given.epoch_is) in
      let v = saw-shared (ballot (member_in s cast.seat)) h.cert.tx cast.free id initial mutable named in
      sym (alike v.0 u v.1 there (v.2 ∙ sym same)) ∙ v.3

  pub shared-fit : (h : Held) → Has m.held h → (i : Input) (d : Option Digest) → Has (joined_inputs h.cert) (i, d) → is_shared_input i ≡ true → (o : Object) → found (versions m.opening m.executed) (wanted_of m h i d) ≡ Some o → fits_input h.cert.tx i o ≡ true
  shared-fit h held (inputs.Pure bytes) d joined shared o e = absurd (cc)
  shared-fit h held (inputs.Owned r) d joined shared o e = absurd (cc)
  shared-fit h held (inputs.Immutable r) d joined shared o e = absurd (cc)
  shared-fit h held (inputs.Shared id initial mutable) d joined shared o e =
      let w = wanted_of m h (inputs.Shared id initial mutable) d in
      let u = found-as (versions m.opening m.executed) w o e in
      let same : u.0.object.id ≡ id = found-id w.key w.producer u.0 (find-test (is_wanted w.key w.producer) (versions m.opening m.executed) u.0 u.1) ∙ wanted-id (assigned_of m.sequence.admission h.digest) id initial mutable d in
      let since = shared-since h held id initial mutable (has-zip (objects_of h.cert.tx) h.cert.origins (inputs.Shared id initial mutable) d joined) u.0 (find_has (is_wanted w.key w.producer) (versions m.opening m.executed) u.0 u.1) same in
      let ids : id_eq o.id id ≡ true = subst (λ (z : ObjectId). id_eq o.id z ≡ true) (sym (ap (λ (p : Object). p.id) u.2) ∙ same) (id_self o.id) in
      let owners : is_shared_since initial o.owner ≡ true = is-since initial o.owner (sym (ap (λ (p : Object). shared_since p.owner) u.2) ∙ since) in
      rw (ids, owners) refl

  -- ---- the version is the one of admission

  module _ (h : Held) (held : Has m.held h) (it : IsAdmittedAs s events honest distinct n seat at h) (os : List Object) (there : present (books m) m.executed h ≡ Some os) where
    version-at : (i : Input) (d : Option Digest) (o : Object) → Has (joined_inputs h.cert) (i, d) → found (versions m.opening m.executed) (wanted_of m h i d) ≡ Some o → o.version ≡ taken_version m.opening it.front it.of.cert i
    version-at (inputs.Pure bytes) d o joined e = absurd (nobody (versions m.opening m.executed) (shared_key (record { 0 = record { 0 = [] } }) 0) o e)
    version-at (inputs.Owned r) d o joined e = version-found (versions m.opening m.executed) (wanted_version (key_of r) d) o e
    version-at (inputs.Immutable r) d o joined e = version-found (versions m.opening m.executed) (wanted_version (key_of r) d) o e
    version-at (inputs.Shared id initial mutable) d o joined e =
        version-found (versions m.opening m.executed) (wanted_of m h (inputs.Shared id initial mutable) d) o e
        ∙ ap (λ (w : Wanted). w.key.version) (wanted-current s events honest distinct n seat at h it id initial mutable d joined)

    taken-at : (i : Input) (o : Object) → Has (zip (objects_of h.cert.tx) os) (i, o) → o.version ≡ taken_version m.opening it.front it.of.cert i
    unfolding present wants_of
    taken-at i o k =
        let w = wanted-at (found (versions m.opening m.executed)) (wanted_by (assigned_of m.sequence.admission h.digest)) (objects_of h.cert.tx) h.cert.origins os i o there k in
        version-at i w.0 o w.1 w.2

    version-is : fit_inputs h.cert.tx (objects_of h.cert.tx) os ≡ true → version_of os ≡ version_at_admission m.opening it.front it.of.cert
    version-is fit =
        ap lamport_version (each-version h.cert.tx (taken_version m.opening it.front it.of.cert) (objects_of h.cert.tx) os fit taken-at
        ∙ ap (λ (t : Transaction). map (taken_version m.opening it.front it.of.cert) (objects_of t)) (sym it.tx))

    low : fit_inputs h.cert.tx (objects_of h.cert.tx) os ≡ true → nat_lt (version_of os) version_limit ≡ true
    low fit =
        let below = leb-false version_limit (version_at_admission m.opening it.front it.of.cert) (or_false_left (nat_le version_limit (version_at_admission m.opening it.front it.of.cert)) (list_any (lacks_shared m.opening) (joined_inputs it.of.cert)) it.undropped) in
        subst (λ (v : ℕ). nat_lt v version_limit ≡ true) (sym (version-is fit)) (lt-ltb (version_at_admission m.opening it.front it.of.cert) version_limit below)

  -- ---- no held certificate is unfit

  admitted-fits : (h : Held) → Has m.held h → is_admitted m.sequence.admission.admitted h.digest ≡ true → (os : List Object) → present (books m) m.executed h ≡ Some os → fits h.cert.tx os ≡ true
  unfolding present wants_of vote_origins
  admitted-fits h held e os there =
      let it = admitted-as s events honest distinct n seat at h held e in
      let v = voted-by s events honest distinct n seat at h held in
      whole-fits m h.cert.tx h.cert.origins v (opens-apart s events honest distinct n seat at).distinct (writes-once s events n seat at) (assigned_of m.sequence.admission h.digest) os (record {
        shared = λ i named shared o f. shared-fit h held i (origin_of v.voter i)
            (subst (λ (ds : List (Option Digest)). Has (zip (objects_of h.cert.tx) ds) (i, origin_of v.voter i)) v.named (zip-there (origin_of v.voter) (objects_of h.cert.tx) i named)) shared o f;
        low = low h held it os there;
      }) there

  pub none-unfit : (h : Held) → Has m.held h → may_run (books m) h ≡ true → (os : List Object) → present (books m) m.executed h ≡ Some os → fits h.cert.tx os ≡ true
  none-unfit h held may os there = go (has_shared_input h.cert.tx) refl may
    where
      go : (b : Bool) → has_shared_input h.cert.tx ≡ b → (not b || is_admitted m.sequence.admission.admitted h.digest) ≡ true → fits h.cert.tx os ≡ true
      go true e admitted = admitted-fits h held admitted os there
      go false e may = certificates-fit s events honest distinct n seat at h held e os there

  -- ---- none is absent

  -- all makers of what a certificate wants were executed
  module _ (h : Held) (held : Has m.held h) (may : may_run (books m) h ≡ true) where
    admitted-if : (id : ObjectId) (initial : ℕ) (mutable : Bool) → Has (objects_of h.cert.tx) (inputs.Shared id initial mutable) → is_admitted m.sequence.admission.admitted h.digest ≡ true
    admitted-if id initial mutable (inl e) = absurd (cc)
    admitted-if id initial mutable (inr k) =
        let shares : has_shared_input h.cert.tx ≡ true = has-any is_shared_input h.cert.tx.inputs (inputs.Shared id initial mutable) (has-kept is_object h.cert.tx.inputs (inputs.Shared id initial mutable) k) refl in
        subst (λ (b : Bool). (not b || is_admitted m.sequence.admission.admitted h.digest) ≡ true) shares may

    never-pure : (bytes : List ℕ) → Has (objects_of h.cert.tx) (inputs.Pure bytes) → ⊥
    never-pure bytes (inl e) = cc
    never-pure bytes (inr k) = let yes = filter-test is_object h.cert.tx.inputs (inputs.Pure bytes) k in cc

    input-there : (i : Input) (d : Option Digest) → Has (joined_inputs h.cert) (i, d) → is_origin_done m.executed d ≡ true → is_maker_done m.executed (wanted_of m h i d).producer ≡ true → is_some (found (versions m.opening m.executed) (wanted_of m h i d)) ≡ true
    input-there (inputs.Pure bytes) d joined origin maker = absurd (never-pure bytes (has-zip (objects_of h.cert.tx) h.cert.origins (inputs.Pure bytes) d joined))
    input-there (inputs.Owned r) d joined origin maker = owned-present s events honest distinct n seat at h held (inputs.Owned r) d joined origin
    input-there (inputs.Immutable r) d joined origin maker = owned-present s events honest distinct n seat at h held (inputs.Immutable r) d joined origin
    input-there (inputs.Shared id initial mutable) d joined origin maker =
        shared-present s events honest distinct n seat at h held (admitted-if id initial mutable (has-zip (objects_of h.cert.tx) h.cert.origins (inputs.Shared id initial mutable) d joined)) (inputs.Shared id initial mutable) d joined refl maker

    wants-there : list_all (is_origin_done m.executed) h.cert.origins ≡ true → list_all (λ (w : Wanted). is_maker_done m.executed w.producer) (wants_of m.sequence.admission h) ≡ true
        → (w : Wanted) → Has (wants_of m.sequence.admission h) w → is_some (found (versions m.opening m.executed) w) ≡ true
    unfolding wants_of
    wants-there origins makers w k =
        let x = has_mapped (wanted_by (assigned_of m.sequence.admission h.digest)) (joined_inputs h.cert) w k in
        subst (λ (z : Wanted). is_some (found (versions m.opening m.executed) z) ≡ true) x.2
        (input-there x.0.0 x.0.1 x.1 (all-has (is_origin_done m.executed) h.cert.origins x.0.1 origins (second (objects_of h.cert.tx) h.cert.origins x.0.0 x.0.1 x.1))
        (subst (λ (z : Wanted). is_maker_done m.executed z.producer ≡ true) (sym x.2)
        (all-has (λ (z : Wanted). is_maker_done m.executed z.producer) (map (wanted_by (assigned_of m.sequence.admission h.digest)) (joined_inputs h.cert)) w makers k)))

  -- what is due has its objects
  pub due-have : (h : Held) → Has m.held h → is_due (books m) m.executed h ≡ true → (objects : List Object) × (present (books m) m.executed h ≡ Some objects)
  unfolding present
  due-have h held e = all-there (found (versions m.opening m.executed)) (wants_of m.sequence.admission h)
      (wants-there h held (due-may (books m) m.executed h e) (due-origins (books m) m.executed h e) (due-makers (books m) m.executed h e))
