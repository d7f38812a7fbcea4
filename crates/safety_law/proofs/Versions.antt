-- An admitted transaction is executed at the version with which it was admitted.
use Rattle.std.proofs.Common.{inl, inr, refl, sym, ap, ◌∙◌}
use Rattle.std.specs.Prelude.{◌≡◌, ℕ, true, List, [], ◌∷◌, ◌++◌, map, zip, slice_get, Option, Some, Result, Ok, Err}
use Rattle.digest_core.specs.declared.Digest.{Digest}
use Rattle.chain_types.specs.declared.objects.Object.{Object}
use Rattle.chain_types.specs.declared.transactions.Input.{Input}
use Rattle.chain_types.specs.declared.transactions.Input.TheVariants as inputs
use Rattle.chain_types.specs.declared.transactions.Transaction.{Transaction}
use Rattle.chain_types.specs.Digests.{transaction_digest, lamport_version, key_of}
use Rattle.protocol_spec.specs.declared.pieces.Executed.{Executed}
use Rattle.schedule_text.specs.declared.words.Event.{Event}
use Rattle.protocol_spec.specs.Chain.Words.{Has}
use Rattle.protocol_spec.specs.Chain.Keys.{objects_of, version_of, fits_input, fit_inputs}
use Rattle.protocol_spec.proofs.ListLemmas.{and-second}
use Rattle.protocol_spec.specs.Block.Block.{Block}
use Rattle.protocol_spec.specs.Block.Execution.{Failure, outcome, execution, executed_by}
use Rattle.protocol_spec.specs.Member.Versions.{Execution, versions}
use Rattle.protocol_spec.specs.Member.Admission.{Admitted, assignments, taken_version, admit}
use Rattle.protocol_spec.specs.Member.Rounds.{Wanted, wanted_by, wanted_version, found, executes_as}
use Rattle.protocol_spec.specs.Member.Votes.{shared_key}
use Rattle.protocol_spec.specs.Member.Member.{Member}
use Rattle.world_spec.specs.Setting.{Setting}
use Rattle.world_spec.specs.World.{Seat, member_in}
use Rattle.world_spec.specs.Run.{world_after}
use Rattle.world_spec.specs.Assumptions.{IsHonestRun}
use Rattle.block_law.specs.Admitted.{held_again, IsInOrder}
use Rattle.safety_law.proofs.Supply.{every-admission}
use Rattle.block_law.specs.Orderly.{gave}
use Rattle.block_law.proofs.ReadingSteps.{has-zip}
use Rattle.safety_law.specs.Steps.{step_of, IsStepOf}
use Rattle.safety_law.proofs.Lists.{along-split}
use Rattle.safety_law.proofs.Executed.{one-gave, executed-step}
use Rattle.safety_law.proofs.Wants.{nobody, version-found, shared-wanted}
use Rattle.safety_law.proofs.Sources.{wanted-of}
use Rattle.block_law.proofs.Written.{fits-first}

pub effects-version : (t : Transaction) (objects : List Object) → (execution t objects).effects.version ≡ version_of objects
unfolding execution
effects-version t objects = go (outcome t (transaction_digest t) objects)
  where
    go : (r : Result Block Failure) → (executed_by t (transaction_digest t) objects r).effects.version ≡ version_of objects
    go (Ok b) = refl
    go (Err failure) = refl

-- objects that have the versions of their inputs, one by one
pub each-version : (t : Transaction) (taken : Input → ℕ) (is : List Input) (os : List Object) → fit_inputs t is os ≡ true → ((i : Input) (o : Object) → Has (zip is os) (i, o) → o.version ≡ taken i) → map (λ (o : Object). o.version) os ≡ map taken is
each-version t taken [] [] fit same = refl
each-version t taken [] (o ∷ os) fit same = absurd (cc)
each-version t taken (i ∷ is) [] fit same = absurd (cc)
each-version t taken (i ∷ is) (o ∷ os) fit same =
    ap (λ (v : ℕ). v ∷ map (λ (p : Object). p.version) os) (same i o (inl refl))
    ∙ ap (λ (vs : List ℕ). taken i ∷ vs) (each-version t taken is os (and-second (fits_input t i o) (fit_inputs t is os) fit) (λ j p h. same j p (inr h)))

module _ (m : Member) (before back : List Admitted) (a : Admitted) (split : m.sequence.admission.admitted ≡ before ++ (a ∷ back))
    (next : IsInOrder m.opening before a) (step : IsStepOf m a) where
  version-at : (i : Input) (d : Option Digest) (o : Object) → Has (objects_of a.cert.tx) i → found (versions m.opening m.executed) (wanted_by (Some (assignments m.opening before a.cert)) (i, d)) ≡ Some o → o.version ≡ taken_version m.opening before a.cert i
  version-at (inputs.Pure bytes) d o h e = absurd (nobody (versions m.opening m.executed) (shared_key (record { 0 = record { 0 = [] } }) 0) o e)
  version-at (inputs.Owned r) d o h e = version-found (versions m.opening m.executed) (wanted_version (key_of r) d) o e
  version-at (inputs.Immutable r) d o h e = version-found (versions m.opening m.executed) (wanted_version (key_of r) d) o e
  version-at (inputs.Shared id initial mutable) d o h e =
      version-found (versions m.opening m.executed) (wanted_by (Some (assignments m.opening before a.cert)) (inputs.Shared id initial mutable, d)) o e
      ∙ ap (λ (w : Wanted). w.key.version) (shared-wanted m.opening before back m.sequence.admission a split next id initial mutable d h)

  taken-at : (i : Input) (o : Object) → Has (zip (objects_of a.cert.tx) (step_of m a).inputs) (i, o) → o.version ≡ taken_version m.opening before a.cert i
  taken-at i o h =
      let w = wanted-of m before back a split next step i o h in
      version-at i w.0 o (has-zip (objects_of a.cert.tx) (step_of m a).inputs i o h) w.2

  admitted-version : version_of (step_of m a).inputs ≡ a.version
  unfolding admit
  admitted-version =
      ap lamport_version (each-version a.cert.tx (taken_version m.opening before a.cert) (objects_of a.cert.tx) (step_of m a).inputs (fits-first a.cert.tx (step_of m a).inputs step.fit) taken-at)
      ∙ sym (ap (λ (x : Admitted). x.version) next.versions)

module _ (s : Setting) (events : List Event) (honest : IsHonestRun s events) (n : ℕ) (seat : Seat) (at : slice_get (world_after s events).seats n ≡ Some seat) where
  pub versions-same : (a : Admitted) → Has (member_in s seat).sequence.admission.admitted a → (x : Execution) → Has (member_in s seat).executed x → x.digest ≡ a.digest → x.gave.effects.version ≡ a.version
  versions-same a h x there same =
      let step = executed-step s events honest n seat at a h x there same in
      let r = along-split (IsInOrder (member_in s seat).opening) [] (member_in s seat).sequence.admission.admitted a (every-admission s events n seat at).order h in
      ap (λ (g : Executed). g.effects.version) (one-gave s events honest n seat at x (executes_as (held_again a) (gave (step_of (member_in s seat) a))) there step.executed same)
      ∙ effects-version a.cert.tx (step_of (member_in s seat) a).inputs
      ∙ admitted-version (member_in s seat) r.0 r.1 a r.2 r.3 step
