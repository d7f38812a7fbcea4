-- What is found for an owned or immutable input of a held certificate is the object that a voter saw, so it fits.
use Rattle.std.proofs.Common.{inl, inr, refl, sym, subst, ap, ◌∙◌}
use Rattle.std.specs.Prelude.{◌≡◌, ◌⊎◌, ℕ, Bool, true, false, not, ◌&&◌, ◌==◌, List, [], map, slice_get, Option, Some, None, option_map, is_some}
use Rattle.digest_core.specs.declared.Digest.{Digest}
use Rattle.chain_types.specs.declared.objects.ObjectKey.{ObjectKey}
use Rattle.chain_types.specs.declared.objects.Object.{Object}
use Rattle.chain_types.specs.declared.objects.ObjectRef.{ObjectRef}
use Rattle.chain_types.specs.declared.transactions.Input.{Input}
use Rattle.chain_types.specs.declared.transactions.Input.TheVariants as inputs
use Rattle.chain_types.specs.declared.transactions.Transaction.{Transaction}
use Rattle.chain_types.specs.declared.refusals.DecideRefusal.TheVariants as refused
use Rattle.chain_types.specs.Equal.{digest_eq, id_eq, key_eq}
use Rattle.chain_types.specs.Digests.{digest_of_object, key_of, transaction_digest}
use Rattle.protocol_spec.specs.declared.pieces.Executed.{Executed}
use Rattle.protocol_spec.specs.declared.answers.Held.{Held}
use Rattle.schedule_text.specs.declared.words.Event.{Event}
use Rattle.protocol_spec.specs.Chain.Words.{Has, repeats, where_true}
use Rattle.protocol_spec.specs.Chain.Keys.{object_key, objects_of, is_address, is_owned_by, is_immutable, fits_input}
use Rattle.protocol_spec.proofs.ListLemmas.{and-first, find-test, find_has}
use Rattle.protocol_spec.proofs.Truth.{where_not_true}
use Rattle.protocol_spec.specs.Member.Versions.{Execution, Version, versions, is_key, version_at, object_in}
use Rattle.protocol_spec.specs.Member.Votes.{Ballot, object_held, of_held, absent, wrong_digest, wrong_owner, wrong_kind, vote_cases, vote_refusal, maker, made_by}
use Rattle.protocol_spec.specs.Member.Admission.{joined_inputs}
use Rattle.protocol_spec.specs.Member.Rounds.{wanted_version, is_wanted, found}
use Rattle.protocol_spec.specs.Member.Member.{Member, books}
use Rattle.world_spec.specs.Setting.{Setting}
use Rattle.world_spec.specs.World.{Seat, member_in}
use Rattle.world_spec.specs.Run.{world_after}
use Rattle.world_spec.specs.Assumptions.{IsHonestRun}
use Rattle.safety_law.proofs.Apart.{none-each, none-of}
use Rattle.safety_law.specs.Explained.{IsExplained}
use Rattle.safety_law.proofs.Executing.{executions-explained}
use Rattle.safety_law.proofs.Agreeing.{one-key, both-key}
use Rattle.block_law.specs.Orderly.{AreApart}
use Rattle.block_law.proofs.Standing.{stands-opening}
use Rattle.safety_law.proofs.Lists.{along-split}
use Rattle.safety_law.proofs.Wants.{found-as, from-opening, from-writer}
use Rattle.safety_law.proofs.Known.{opens-apart}
use Rattle.protocol_spec.specs.Member.Sequential.{map_of}
use Rattle.std.specs.FinMap.{get}
use Rattle.headline_law.specs.Present.{FitsAsNamed}
use Rattle.headline_law.proofs.Present.{IsOpened, IsWrote, version-from, IsSeen, seen-by}

-- of objects with different ids two with one id are one
pub one-id : (os : List Object) (a b : Object) → AreApart os → Has os a → Has os b → a.id ≡ b.id → a ≡ b
one-id os a b apart h k e = same (sym (stands-opening os a apart h) ∙ ap (get (map_of os)) e ∙ stands-opening os b apart k)
  where
    same : Some a ≡ Some b → a ≡ b
    same e = cc

-- no key is written twice by one execution
abbrev pub WritesOnce : Execution → Type 0
WritesOnce x = repeats key_eq (map object_key x.gave.objects) ≡ false

module _ (b : Ballot) (m : Member) (openings : b.opening ≡ m.opening) (same : (x y : Execution) → Has b.executed x → Has m.executed y → x.digest ≡ y.digest → x.gave ≡ y.gave)
    (apart : AreApart m.opening) (once : (y : Execution) → Has m.executed y → WritesOnce y) (key : ObjectKey) where
  abbrev there : List Version
  there = versions m.opening m.executed

  found-key : (d : Option Digest) (p : Object) → found there (wanted_version key d) ≡ Some p → key_eq (object_key p) key ≡ true
  found-key d p e =
      let w = wanted_version key d in
      let v = found-as there w p e in
      subst (λ (q : Object). key_eq (object_key q) key ≡ true) v.2
      (and-first (key_eq (object_key v.0.object) key) _ (find-test (is_wanted w.key w.producer) there v.0 v.1))

  opened-one : (o p : Object) → Has b.opening o → key_eq (object_key o) key ≡ true → found there (wanted_version key None) ≡ Some p → o ≡ p
  opened-one o p h k e = one-id m.opening o p apart (subst (λ (os : List Object). Has os o) openings h) (from-opening m.opening m.executed key p e)
      (ap (λ (q : ObjectKey). q.id) (both-key o p key k (found-key None p e)))

  written-one : (x : Execution) (o p : Object) → Has b.executed x → Has x.gave.objects o → key_eq (object_key o) key ≡ true → found there (wanted_version key (Some x.digest)) ≡ Some p → o ≡ p
  written-one x o p h w k e =
      let from = from-writer m.opening m.executed key x.digest p e in
      let gave = same x from.by h from.there (sym from.named) in
      one-key from.by.gave.objects o p (once from.by from.there) (subst (λ (g : Executed). Has g.objects o) gave w) from.written (both-key o p key k (found-key (Some x.digest) p e))

  version-one : (u : Version) (p : Object) → Has (versions b.opening b.executed) u → key_eq (object_key u.object) key ≡ true → found there (wanted_version key (maker u.producer)) ≡ Some p → u.object ≡ p
  version-one u p h k e = go (version-from b.opening b.executed u h)
    where
      go : IsOpened b.opening u ⊎ IsWrote b.executed u → u.object ≡ p
      go (inl (o, h, q)) = sym (ap object_in q) ∙ opened-one o p h (subst (λ (v : Version). key_eq (object_key v.object) key ≡ true) (sym q) k) (subst (λ (v : Version). found there (wanted_version key (maker v.producer)) ≡ Some p) (sym q) e)
      go (inr (x, h, o, w, q)) = sym (ap object_in q) ∙ written-one x o p h w (subst (λ (v : Version). key_eq (object_key v.object) key ≡ true) (sym q) k) (subst (λ (v : Version). found there (wanted_version key (maker v.producer)) ≡ Some p) (sym q) e)

  -- what is found is what the voter held
  pub held-one : (v : Option Version) → version_at (versions b.opening b.executed) key ≡ v → (o : Object) → option_map object_in v ≡ Some o → (d : Option Digest) → made_by v ≡ d → (p : Object) → found there (wanted_version key d) ≡ Some p → (o ≡ p) × (key_eq (object_key p) key ≡ true)
  held-one None e o q d from p f = absurd (cc)
  held-one (Some u) e o q d from p f =
      let k = find-test (is_key key) (versions b.opening b.executed) u e in
      let one = version-one u p (find_has (is_key key) (versions b.opening b.executed) u e) k (subst (λ (c : Option Digest). found there (wanted_version key c) ≡ Some p) (sym from) f) in
      (sym (of-some u.object o q) ∙ one, subst (λ (r : Object). key_eq (object_key r) key ≡ true) one k)
    where
      of-some : (x y : Object) → Some x ≡ Some y → x ≡ y
      of-some x y e = cc

-- ---- what no case refused fits

both : (a b c d : Bool) → (a && b) ≡ true → c ≡ true → d ≡ true → (a && b && c && d) ≡ true
both a b c d e f g = rw (e, f, g) refl

not-both : {E : Type 0} (a b : Bool) (refusal : E) → where_true (a && not b) refusal ≡ None → a ≡ true → b ≡ true
not-both a true refusal e f = refl
not-both true false refusal e f = absurd (cc)
not-both false false refusal e f = absurd (cc)

module _ (b : Ballot) (t : Transaction) (o : Object) where
  owned-fits : (r : ObjectRef) → object_held b (key_of r) ≡ Some o → wrong_digest b (inputs.Owned r) ≡ None → wrong_owner b t (inputs.Owned r) ≡ None → wrong_kind b (inputs.Owned r) ≡ None → key_eq (object_key o) (key_of r) ≡ true → fits_input t (inputs.Owned r) o ≡ true
  owned-fits r held digest who kind key =
      let address = where_not_true (is_address o.owner) (refused.WrongKind (key_of r)) (subst (λ (h : Option Object). where_true (of_held h (λ (p : Object). not (is_address p.owner))) (refused.WrongKind (key_of r)) ≡ None) held kind) in
      both (id_eq o.id r.id) (o.version == r.version) (digest_eq (digest_of_object o) r.digest) (is_owned_by t.sender o.owner) key
      (where_not_true (digest_eq (digest_of_object o) r.digest) (refused.WrongDigest (key_of r)) (subst (λ (h : Option Object). where_true (of_held h (λ (p : Object). not (digest_eq (digest_of_object p) r.digest))) (refused.WrongDigest (key_of r)) ≡ None) held digest))
      (not-both (is_address o.owner) (is_owned_by t.sender o.owner) (refused.WrongOwner (key_of r)) (subst (λ (h : Option Object). where_true (of_held h (λ (p : Object). is_address p.owner && not (is_owned_by t.sender p.owner))) (refused.WrongOwner (key_of r)) ≡ None) held who) address)

  frozen-fits : (r : ObjectRef) → object_held b (key_of r) ≡ Some o → wrong_digest b (inputs.Immutable r) ≡ None → wrong_kind b (inputs.Immutable r) ≡ None → key_eq (object_key o) (key_of r) ≡ true → fits_input t (inputs.Immutable r) o ≡ true
  frozen-fits r held digest kind key =
      both (id_eq o.id r.id) (o.version == r.version) (digest_eq (digest_of_object o) r.digest) (is_immutable o.owner) key
      (where_not_true (digest_eq (digest_of_object o) r.digest) (refused.WrongDigest (key_of r)) (subst (λ (h : Option Object). where_true (of_held h (λ (p : Object). not (digest_eq (digest_of_object p) r.digest))) (refused.WrongDigest (key_of r)) ≡ None) held digest))
      (where_not_true (is_immutable o.owner) (refused.WrongKind (key_of r)) (subst (λ (h : Option Object). where_true (of_held h (λ (p : Object). not (is_immutable p.owner))) (refused.WrongKind (key_of r)) ≡ None) held kind))

-- ---- at a member

-- no case refused this input
record IsAccepted (b : Ballot) (t : Transaction) (i : Input) : Type 0 where
  held : absent b i ≡ None
  digest : wrong_digest b i ≡ None
  who : wrong_owner b t i ≡ None
  kind : wrong_kind b i ≡ None

is-accepted : (b : Ballot) (t : Transaction) → vote_refusal b t (transaction_digest t) ≡ None → (i : Input) → Has (objects_of t) i → IsAccepted b t i
unfolding vote_refusal
is-accepted b t free i h =
    let cases = none-each (vote_cases b t (transaction_digest t)) free in
    record {
      held = none-of (absent b) (objects_of t) i cases.0 h;
      digest = none-of (wrong_digest b) (objects_of t) i cases.1.1.0 h;
      who = none-of (wrong_owner b t) (objects_of t) i cases.1.1.1.0 h;
      kind = none-of (wrong_kind b) (objects_of t) i cases.1.1.1.1.1.0 h;
    }

pub held-some : (b : Ballot) (key : ObjectKey) → is_some (object_held b key) ≡ true → (o : Object) × (object_held b key ≡ Some o)
held-some b key e = go (object_held b key) refl e
  where
    go : (h : Option Object) → object_held b key ≡ h → is_some h ≡ true → (o : Object) × (object_held b key ≡ Some o)
    go None q e = absurd (cc)
    go (Some o) q e = (o, q)

module _ (m : Member) (t : Transaction) (apart : AreApart m.opening) (once : (y : Execution) → Has m.executed y → WritesOnce y) where
  pub input-fits : (i : Input) (d : Option Digest) → IsSeen m t i d → FitsAsNamed m t i d
  input-fits (inputs.Pure bytes) d seen = tt
  input-fits (inputs.Owned r) d seen = λ p f.
      let ok = is-accepted seen.voter t seen.free (inputs.Owned r) seen.there in
      let o = held-some seen.voter (key_of r) (where_not_true (is_some (object_held seen.voter (key_of r))) (refused.Absent (key_of r)) ok.held) in
      let one = held-one seen.voter m seen.openings seen.same apart once (key_of r) (version_at (versions seen.voter.opening seen.voter.executed) (key_of r)) refl o.0 o.1 d seen.origin p f in
      owned-fits seen.voter t p r (o.1 ∙ ap Some one.0) ok.digest ok.who ok.kind one.1
  input-fits (inputs.Immutable r) d seen = λ p f.
      let ok = is-accepted seen.voter t seen.free (inputs.Immutable r) seen.there in
      let o = held-some seen.voter (key_of r) (where_not_true (is_some (object_held seen.voter (key_of r))) (refused.Absent (key_of r)) ok.held) in
      let one = held-one seen.voter m seen.openings seen.same apart once (key_of r) (version_at (versions seen.voter.opening seen.voter.executed) (key_of r)) refl o.0 o.1 d seen.origin p f in
      frozen-fits seen.voter t p r (o.1 ∙ ap Some one.0) ok.digest ok.kind one.1
  input-fits (inputs.Shared id initial mutable) d seen = tt

pub writes-once : (s : Setting) (events : List Event) (n : ℕ) (seat : Seat) → slice_get (world_after s events).seats n ≡ Some seat → (y : Execution) → Has (member_in s seat).executed y → WritesOnce y
writes-once s events n seat at y h =
    let it = (along-split (IsExplained (books (member_in s seat))) [] (member_in s seat).executed y (executions-explained s events n seat at) h).3 in
    subst (λ (g : Executed). repeats key_eq (map object_key g.objects) ≡ false) (sym (ap (λ (z : Execution). z.gave) it.is)) it.once

pub owned-fit : (s : Setting) (events : List Event) → IsHonestRun s events → AreApart s.opening → (n : ℕ) (seat : Seat) → slice_get (world_after s events).seats n ≡ Some seat
    → (h : Held) → Has (member_in s seat).held h → (i : Input) (d : Option Digest) → Has (joined_inputs h.cert) (i, d) → FitsAsNamed (member_in s seat) h.cert.tx i d
owned-fit s events honest distinct n seat at h held i d joined =
    input-fits (member_in s seat) h.cert.tx (opens-apart s events honest distinct n seat at).distinct (writes-once s events n seat at) i d
    (seen-by s events honest distinct n seat at h held i d joined)
