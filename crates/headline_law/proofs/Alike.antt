-- Two members of one epoch have all versions of one id shared alike.
use Rattle.std.proofs.Common.{inl, inr, sym, subst, ap, ◌∙◌, arith}
use Rattle.std.specs.Prelude.{◌≡◌, ◌<◌, ℕ, List, ◌++◌, slice_get, Some}
use Rattle.digest_core.specs.declared.Digest.{Digest}
use Rattle.chain_types.specs.declared.objects.ObjectId.{ObjectId}
use Rattle.chain_types.specs.declared.objects.ObjectKey.{ObjectKey}
use Rattle.chain_types.specs.declared.objects.Object.{Object}
use Rattle.protocol_spec.specs.declared.pieces.Executed.{Executed}
use Rattle.schedule_text.specs.declared.words.Event.{Event}
use Rattle.protocol_spec.specs.Chain.Words.{Has}
use Rattle.protocol_spec.specs.Chain.Keys.{object_key}
use Rattle.protocol_spec.specs.Member.Versions.{Execution}
use Rattle.protocol_spec.specs.Member.Member.{Member}
use Rattle.world_spec.specs.Setting.{Setting}
use Rattle.world_spec.specs.World.{Seat, new_world, member_in}
use Rattle.world_spec.specs.Run.{world_after}
use Rattle.world_spec.specs.Assumptions.{IsHonestRun, delivered, all_delivered}
use Rattle.block_law.specs.Names.{drawn_id}
use Rattle.block_law.specs.Shared.{shared_since}
use Rattle.safety_law.proofs.Forks.{all-front}
use Rattle.safety_law.proofs.Fronts.{honest-front}
use Rattle.safety_law.proofs.Same.{of-run}
use Rattle.safety_law.proofs.Agreeing.{one-key}
use Rattle.block_law.specs.Orderly.{AreApart}
use Rattle.safety_law.specs.Orderly.{OpensApart}
use Rattle.safety_law.proofs.Known.{opens-apart}
use Rattle.safety_law.specs.AgreedEpochs.{Agree}
use Rattle.safety_law.proofs.AgreedEpochs.{members-agree}
use Rattle.headline_law.proofs.Fitting.{one-id, writes-once}
use Rattle.headline_law.specs.Shared.{ShareAlike}
use Rattle.headline_law.proofs.Roots.{HasFirst, IsMadeFirst, IsOfRun, of-this-run, version-first}

module _ (s : Setting) (front back : List Event) (honest : IsHonestRun s (front ++ back)) (distinct : AreApart s.opening)
    (m n : ℕ) (a b : Seat) (at : slice_get (world_after s front).seats m ≡ Some a) (by : slice_get (world_after s (front ++ back)).seats n ≡ Some b) (epoch : (member_in s a).epoch ≡ (member_in s b).epoch) where
  abbrev all : List Event
  all = front ++ back

  abbrev p : Member
  p = member_in s a

  abbrev q : Member
  q = member_in s b

  agree : Agree p q
  agree = members-agree s front back honest distinct m n a b at by epoch

  early : IsHonestRun s front
  early = honest-front s front back honest

  opens : OpensApart s all q
  opens = opens-apart s all honest distinct n b by

  opened : OpensApart s front p
  opened = opens-apart s front early distinct m a at

  -- an execution of the one at the first moment, or of the other at the second
  later : (x : Execution) → IsOfRun s front p x → IsOfRun s all q x
  unfolding all_delivered
  later x it = record { cert = it.cert; comes = all-front delivered s front back (new_world s) it.cert it.comes; digest = it.digest; epoch = it.epoch ∙ epoch; most = it.most; one_version = it.one_version }

  -- no opening object has an id that is drawn
  not-opened : (x : Execution) → IsOfRun s all q x → (o : Object) → Has q.opening o → (k : ℕ) → k < x.gave.effects.created → drawn_id x.digest k ≡ o.id → ⊥
  not-opened x it o h k less e =
      let most = it.most in
      opens.new it.cert.tx (of-run s all it.cert it.comes) it.epoch k (omega (arith, less, most)) o h (sym e ∙ ap (λ (d : Digest). drawn_id d k) it.digest)

  same-key : (o p : Object) → o.id ≡ p.id → o.version ≡ p.version → object_key o ≡ object_key p
  same-key o p id version = ap (λ (i : ObjectId). let key : ObjectKey = record { id = i; version = o.version } in key) id ∙ ap (λ (v : ℕ). let key : ObjectKey = record { id = p.id; version = v } in key) version

  made-alike : (u v : Object) → u.id ≡ v.id → IsMadeFirst p.executed u → IsMadeFirst q.executed v → shared_since u.owner ≡ shared_since v.owner
  made-alike u v id r t =
      let x = later r.by (of-this-run s front early m a at opened r.by r.there) in
      let y = of-this-run s all honest n b by opens t.by t.there in
      let drew = r.drew in
      let most = x.most in
      let drew_too = t.drew in
      let most_too = y.most in
      let same = (honest.ids.drawn x.cert.tx y.cert.tx (of-run s all x.cert x.comes) (of-run s all y.cert y.comes) r.number t.number (omega (arith, drew, most)) (omega (arith, drew_too, most_too))
      (ap (λ (d : Digest). drawn_id d r.number) (sym x.digest) ∙ r.drawn ∙ id ∙ sym t.drawn ∙ ap (λ (d : Digest). drawn_id d t.number) y.digest)).0 in
      let gave = agree.executions r.by t.by r.there t.there (x.digest ∙ same ∙ sym y.digest) in
      let written = subst (λ (g : Executed). Has g.objects r.first) gave r.written in
      let ids : r.first.id ≡ t.first.id = r.id ∙ id ∙ sym t.id in
      let one = one-key t.by.gave.objects r.first t.first (writes-once s all n b by t.by t.there) written t.written (same-key r.first t.first ids (y.one_version r.first t.first written t.written)) in
      sym r.share ∙ ap (λ (o : Object). shared_since o.owner) one ∙ t.share

  firsts-alike : (u v : Object) → u.id ≡ v.id → HasFirst p.opening p.executed u → HasFirst q.opening q.executed v → shared_since u.owner ≡ shared_since v.owner
  firsts-alike u v id (inl r) (inl t) =
      let one = one-id q.opening r.first t.first opens.distinct (subst (λ (os : List Object). Has os r.first) agree.openings r.there) t.there (r.id ∙ id ∙ sym t.id) in
      sym r.share ∙ ap (λ (o : Object). shared_since o.owner) one ∙ t.share
  firsts-alike u v id (inl r) (inr t) = absurd (not-opened t.by (of-this-run s all honest n b by opens t.by t.there) r.first (subst (λ (os : List Object). Has os r.first) agree.openings r.there) t.number t.drew (t.drawn ∙ sym id ∙ sym r.id))
  firsts-alike u v id (inr r) (inl t) = absurd (not-opened r.by (later r.by (of-this-run s front early m a at opened r.by r.there)) t.first t.there r.number r.drew (r.drawn ∙ id ∙ sym t.id))
  firsts-alike u v id (inr r) (inr t) = made-alike u v id r t

  pub share-alike : ShareAlike p q
  share-alike = λ u v h k id. firsts-alike u.object v.object id (version-first s front early m a at opened u h) (version-first s all honest n b by opens v k)
