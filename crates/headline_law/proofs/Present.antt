-- What a voter saw is there for every member of the epoch that executed what made it.
use Rattle.std.proofs.Common.{inl, inr, refl, sym, subst, ap, ◌∙◌}
use Rattle.std.specs.Prelude.{◌≡◌, ◌⊎◌, ℕ, Bool, true, false, cond, ◌&&◌, List, [], ◌∷◌, map, zip, find, flat_map, slice_get, Option, Some, None, option_map, is_some}
use Rattle.digest_core.specs.declared.Digest.{Digest}
use Rattle.chain_types.specs.declared.objects.ObjectKey.{ObjectKey}
use Rattle.chain_types.specs.declared.objects.Object.{Object}
use Rattle.chain_types.specs.declared.objects.Producer.TheVariants as producers
use Rattle.chain_types.specs.declared.transactions.Input.{Input}
use Rattle.chain_types.specs.declared.transactions.Input.TheVariants as inputs
use Rattle.chain_types.specs.declared.transactions.Transaction.{Transaction}
use Rattle.chain_types.specs.declared.refusals.DecideRefusal.TheVariants as refused
use Rattle.chain_types.specs.Equal.{digest_eq, key_eq}
use Rattle.chain_types.specs.Digests.{key_of, transaction_digest}
use Rattle.protocol_spec.specs.declared.pieces.Executed.{Executed}
use Rattle.chain_messages.specs.declared.messages.Certificate.{Certificate}
use Rattle.protocol_spec.specs.declared.answers.Held.{Held}
use Rattle.schedule_text.specs.declared.words.Event.{Event}
use Rattle.protocol_spec.proofs.Equality.{digest_self}
use Rattle.protocol_spec.specs.Chain.Words.{Has}
use Rattle.protocol_spec.specs.Chain.Keys.{object_key, objects_of}
use Rattle.protocol_spec.proofs.ListLemmas.{find-test, has_parts, each_has, has_left, find_has, has_mapped, has_right, has_map, flat_has}
use Rattle.protocol_spec.proofs.Truth.{where_not_true}
use Rattle.protocol_spec.specs.Member.Versions.{Execution, Version, opened, written, written_by, versions, is_key, version_at, object_in, is_executed}
use Rattle.protocol_spec.specs.Member.Votes.{Ballot, object_held, absent, vote_cases, vote_refusal, maker, made_by, origin_of, vote_origins}
use Rattle.protocol_spec.specs.Member.Admission.{joined_inputs}
use Rattle.protocol_spec.specs.Member.Rounds.{wanted_version, is_wanted, found, is_origin_done}
use Rattle.protocol_spec.specs.Member.Member.{Member, ballot}
use Rattle.world_spec.specs.Setting.{Setting}
use Rattle.world_spec.specs.World.{Seat, member_in}
use Rattle.world_spec.specs.Run.{world_after}
use Rattle.world_spec.specs.Assumptions.{IsHonestRun, all_delivered}
use Rattle.safety_law.proofs.Apart.{none-each, none-of}
use Rattle.safety_law.proofs.Owner.{voter}
use Rattle.safety_law.specs.Agreed.{IsGiven, IsHeldAsGiven}
use Rattle.safety_law.proofs.Supply.{every-held}
use Rattle.block_law.proofs.Live.{has-flat}
use Rattle.block_law.specs.Orderly.{AreApart}
use Rattle.safety_law.proofs.SameSteps.{was-formed}
use Rattle.safety_law.proofs.AgreedEpochs.{members-agree}
use Rattle.safety_law.proofs.Executed.{execution-there}
use Rattle.headline_law.specs.Cast.{WasCast}
use Rattle.headline_law.specs.Present.{IsPresent}
use Rattle.headline_law.proofs.Cast.{every-vote-was-cast}

-- ---- lists

pub has-find : {A : Type 0} (test : A → Bool) (xs : List A) (x : A) → Has xs x → test x ≡ true → is_some (find test xs) ≡ true
has-find test [] x h e = absurd h
has-find test (y ∷ ys) x h e = go (test y) refl h (λ k. has-find test ys x k e)
  where
    go : (b : Bool) → test y ≡ b → Has (y ∷ ys) x → (Has ys x → is_some (find test ys) ≡ true) → is_some (cond b (Some y) (find test ys)) ≡ true
    go true q h rest = refl
    go false q (inl p) rest = absurd (let same = ap test p in cc)
    go false q (inr h) rest = rest h

pub some-mapped : {A B : Type 0} (f : A → B) (o : Option A) → is_some o ≡ true → is_some (option_map f o) ≡ true
some-mapped f None e = absurd (cc)
some-mapped f (Some x) e = refl

zip-map : {A B : Type 0} (f : A → B) (xs : List A) (x : A) (y : B) → Has (zip xs (map f xs)) (x, y) → Has xs x × (f x ≡ y)
zip-map f [] x y h = absurd h
zip-map {A = A} {B = B} f (z ∷ zs) x y (inl e) = let first = ap (λ (p : A × B). p.0) e in (inl first, ap f (sym first) ∙ ap (λ (p : A × B). p.1) e)
zip-map f (z ∷ zs) x y (inr h) = let r = zip-map f zs x y h in (inr r.0, r.1)

-- ---- where a version comes from

abbrev pub IsOpened : List Object → Version → Type 0
IsOpened opening u = (o : Object) × Has opening o × (opened o ≡ u)

abbrev pub IsWrote : List Execution → Version → Type 0
IsWrote executed u = (x : Execution) × Has executed x × (o : Object) × Has x.gave.objects o × (written x.digest o ≡ u)

pub version-from : (opening : List Object) (executed : List Execution) (u : Version) → Has (versions opening executed) u → IsOpened opening u ⊎ IsWrote executed u
unfolding versions
version-from opening executed u h = go (has_parts (map opened opening) (flat_map written_by executed) u h)
  where
    go : Has (map opened opening) u ⊎ Has (flat_map written_by executed) u → IsOpened opening u ⊎ IsWrote executed u
    go (inl k) = let o = has_mapped opened opening u k in inl (o.0, o.1, o.2)
    go (inr k) =
        let x = has-flat written_by executed u k in
        let o = has_mapped (written x.0.digest) x.0.gave.objects u x.2 in
        inr (x.0, x.1, o.0, o.1, o.2)

pub opened-in : (opening : List Object) (executed : List Execution) (o : Object) → Has opening o → Has (versions opening executed) (opened o)
unfolding versions
opened-in opening executed o h = has_left (map opened opening) (flat_map written_by executed) (opened o) (has_map opened opening o h)

pub written-in : (opening : List Object) (executed : List Execution) (x : Execution) (o : Object) → Has executed x → Has x.gave.objects o → Has (versions opening executed) (written x.digest o)
unfolding versions
written-in opening executed x o h k = has_right (map opened opening) (flat_map written_by executed) (written x.digest o) (flat_has written_by executed x (written x.digest o) h (has_map (written x.digest) x.gave.objects o k))

-- ---- a member that agrees with the voter

module _ (b : Ballot) (m : Member) (openings : b.opening ≡ m.opening) (same : (x y : Execution) → Has b.executed x → Has m.executed y → x.digest ≡ y.digest → x.gave ≡ y.gave) (key : ObjectKey) where
  abbrev pub there : List Version
  there = versions m.opening m.executed

  abbrev pub Found : Option Digest → Type 0
  Found d = is_some (found there (wanted_version key d)) ≡ true

  opened-found : (o : Object) → Has b.opening o → key_eq (object_key o) key ≡ true → Found None
  opened-found o h k = some-mapped object_in (find (is_wanted key (Some producers.Opening)) there)
      (has-find (is_wanted key (Some producers.Opening)) there (opened o) (opened-in m.opening m.executed o (subst (λ (os : List Object). Has os o) openings h)) (rw k refl))

  written-found : (x : Execution) (o : Object) → Has b.executed x → Has x.gave.objects o → key_eq (object_key o) key ≡ true → is_executed m.executed x.digest ≡ true → Found (Some x.digest)
  written-found x o h w k done =
      let y = execution-there m.executed x.digest done in
      let gave = same x y.0 h y.1 (sym y.2) in
      some-mapped object_in (find (is_wanted key (Some (producers.Tx x.digest))) there)
      (has-find (is_wanted key (Some (producers.Tx x.digest))) there (written y.0.digest o)
      (written-in m.opening m.executed y.0 o y.1 (subst (λ (g : Executed). Has g.objects o) gave w))
      (subst (λ (d : Digest). (key_eq (object_key o) key && digest_eq d x.digest) ≡ true) (sym y.2) (rw k (digest_self x.digest))))

  version-found : (u : Version) → Has (versions b.opening b.executed) u → key_eq (object_key u.object) key ≡ true → is_origin_done m.executed (maker u.producer) ≡ true → Found (maker u.producer)
  version-found u h k done = go (version-from b.opening b.executed u h)
    where
      go : IsOpened b.opening u ⊎ IsWrote b.executed u → Found (maker u.producer)
      go (inl (o, h, e)) = subst (λ (v : Version). Found (maker v.producer)) e (opened-found o h (subst (λ (v : Version). key_eq (object_key v.object) key ≡ true) (sym e) k))
      go (inr (x, h, o, w, e)) = subst (λ (v : Version). Found (maker v.producer)) e
          (written-found x o h w (subst (λ (v : Version). key_eq (object_key v.object) key ≡ true) (sym e) k) (subst (λ (v : Version). is_origin_done m.executed (maker v.producer) ≡ true) (sym e) done))

  named-found : (v : Option Version) → version_at (versions b.opening b.executed) key ≡ v → is_some (option_map object_in v) ≡ true → (d : Option Digest) → made_by v ≡ d → is_origin_done m.executed d ≡ true → Found d
  named-found None e some d o done = absurd (cc)
  named-found (Some u) e some d o done = subst Found o
      (version-found u (find_has (is_key key) (versions b.opening b.executed) u e) (find-test (is_key key) (versions b.opening b.executed) u e) (subst (λ (c : Option Digest). is_origin_done m.executed c ≡ true) (sym o) done))

  pub held-found : is_some (object_held b key) ≡ true → (d : Option Digest) → made_by (version_at (versions b.opening b.executed) key) ≡ d → is_origin_done m.executed d ≡ true → Found d
  held-found held d o done = named-found (version_at (versions b.opening b.executed) key) refl held d o done

input-found : (b : Ballot) (m : Member) → b.opening ≡ m.opening → ((x y : Execution) → Has b.executed x → Has m.executed y → x.digest ≡ y.digest → x.gave ≡ y.gave)
    → (i : Input) (d : Option Digest) → absent b i ≡ None → origin_of b i ≡ d → is_origin_done m.executed d ≡ true → IsPresent m i d
input-found b m openings same (inputs.Pure bytes) d free o done = tt
input-found b m openings same (inputs.Owned r) d free o done = held-found b m openings same (key_of r) (where_not_true (is_some (object_held b (key_of r))) (refused.Absent (key_of r)) free) d o done
input-found b m openings same (inputs.Immutable r) d free o done = held-found b m openings same (key_of r) (where_not_true (is_some (object_held b (key_of r))) (refused.Absent (key_of r)) free) d o done
input-found b m openings same (inputs.Shared id initial mutable) d free o done = tt

-- ---- in a run

not-absent : (b : Ballot) (t : Transaction) → vote_refusal b t (transaction_digest t) ≡ None → (i : Input) → Has (objects_of t) i → absent b i ≡ None
unfolding vote_refusal
not-absent b t free i h = none-of (absent b) (objects_of t) i (none-each (vote_cases b t (transaction_digest t)) free).0 h

origin-named : (b : Ballot) (t : Transaction) (origins : List (Option Digest)) → vote_origins b t ≡ origins → (i : Input) (d : Option Digest) → Has (zip (objects_of t) origins) (i, d) → Has (objects_of t) i × (origin_of b i ≡ d)
unfolding vote_origins
origin-named b t origins e i d h = zip-map (origin_of b) (objects_of t) i d (subst (λ (ds : List (Option Digest)). Has (zip (objects_of t) ds) (i, d)) (sym e) h)

-- a voter of the certificate, in a state in which no case refused its vote, agrees with the member
pub record IsSeen (m : Member) (t : Transaction) (i : Input) (d : Option Digest) : Type 0 where
  pub voter : Ballot
  pub openings : voter.opening ≡ m.opening
  pub same : (x y : Execution) → Has voter.executed x → Has m.executed y → x.digest ≡ y.digest → x.gave ≡ y.gave
  pub free : vote_refusal voter t (transaction_digest t) ≡ None
  pub there : Has (objects_of t) i
  pub origin : origin_of voter i ≡ d

-- so of all inputs
pub record IsVoted (m : Member) (t : Transaction) (origins : List (Option Digest)) : Type 0 where
  pub voter : Ballot
  pub openings : voter.opening ≡ m.opening
  pub same : (x y : Execution) → Has voter.executed x → Has m.executed y → x.digest ≡ y.digest → x.gave ≡ y.gave
  pub free : vote_refusal voter t (transaction_digest t) ≡ None
  pub named : vote_origins voter t ≡ origins

pub seen-in : (m : Member) (t : Transaction) (origins : List (Option Digest)) → IsVoted m t origins → (i : Input) (d : Option Digest) → Has (zip (objects_of t) origins) (i, d) → IsSeen m t i d
seen-in m t origins v i d joined =
    let named = origin-named v.voter t origins v.named i d joined in
    record { voter = v.voter; openings = v.openings; same = v.same; free = v.free; there = named.0; origin = named.1 }

-- some honest member cast the vote of a given certificate
pub cast-given : (s : Setting) (events : List Event) → IsHonestRun s events → (epoch : ℕ) (d : Digest) (c : Certificate) → IsGiven s.rules (all_delivered s events) epoch d c → WasCast s events c.tx c.origins
cast-given s events honest epoch d c given =
    let formed = was-formed s events honest epoch d c given in
    let v = voter s events honest c c formed formed in
    every-vote-was-cast s events v.member v.seat v.at c.tx c.origins v.first

pub voted-given : (s : Setting) (events : List Event) → IsHonestRun s events → AreApart s.opening → (n : ℕ) (seat : Seat) → slice_get (world_after s events).seats n ≡ Some seat
    → (d : Digest) (c : Certificate) → IsGiven s.rules (all_delivered s events) (member_in s seat).epoch d c → IsVoted (member_in s seat) c.tx c.origins
voted-given s events honest distinct n seat at d c given =
    let cast = cast-given s events honest (member_in s seat).epoch d c given in
    let agree = members-agree s cast.front cast.back (subst (IsHonestRun s) (sym cast.whole) honest) distinct cast.member n cast.seat seat cast.at
    (subst (λ (es : List Event). slice_get (world_after s es).seats n ≡ Some seat) (sym cast.whole) at) (sym cast.epoch ∙ given.epoch_is) in
    record { voter = ballot (member_in s cast.seat); openings = agree.openings; same = agree.executions; free = cast.free; named = cast.named }

pub voted-by : (s : Setting) (events : List Event) → IsHonestRun s events → AreApart s.opening → (n : ℕ) (seat : Seat) → slice_get (world_after s events).seats n ≡ Some seat
    → (h : Held) → Has (member_in s seat).held h → IsVoted (member_in s seat) h.cert.tx h.cert.origins
voted-by s events honest distinct n seat at h held = voted-given s events honest distinct n seat at h.digest h.cert
    (each_has (IsHeldAsGiven s.rules (all_delivered s events) (member_in s seat).epoch) (member_in s seat).held h (every-held s events n seat at) held)

pub seen-by : (s : Setting) (events : List Event) → IsHonestRun s events → AreApart s.opening → (n : ℕ) (seat : Seat) → slice_get (world_after s events).seats n ≡ Some seat
    → (h : Held) → Has (member_in s seat).held h → (i : Input) (d : Option Digest) → Has (joined_inputs h.cert) (i, d) → IsSeen (member_in s seat) h.cert.tx i d
seen-by s events honest distinct n seat at h held = seen-in (member_in s seat) h.cert.tx h.cert.origins (voted-by s events honest distinct n seat at h held)

pub owned-present : (s : Setting) (events : List Event) → IsHonestRun s events → AreApart s.opening → (n : ℕ) (seat : Seat) → slice_get (world_after s events).seats n ≡ Some seat
    → (h : Held) → Has (member_in s seat).held h → (i : Input) (d : Option Digest) → Has (joined_inputs h.cert) (i, d) → is_origin_done (member_in s seat).executed d ≡ true → IsPresent (member_in s seat) i d
owned-present s events honest distinct n seat at h held i d joined done =
    let seen = seen-by s events honest distinct n seat at h held i d joined in
    input-found seen.voter (member_in s seat) seen.openings seen.same i d (not-absent seen.voter h.cert.tx seen.free i seen.there) seen.origin done
