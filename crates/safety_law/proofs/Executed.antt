-- An admitted transaction that a member executed was executed on the objects that it wants.
use Rattle.std.proofs.Common.{refl, sym, subst, ap, ◌∙◌}
use Rattle.std.specs.Prelude.{◌≡◌, ℕ, true, List, [], ◌∷◌, zip, map, slice_get, Option, Some, None, is_some}
use Rattle.digest_core.specs.declared.Digest.{Digest}
use Rattle.chain_types.specs.declared.objects.Object.{Object}
use Rattle.chain_types.specs.declared.transactions.Transaction.{Transaction}
use Rattle.chain_types.specs.Equal.{digest_eq}
use Rattle.chain_types.specs.Digests.{consumed_keys}
use Rattle.protocol_spec.specs.declared.pieces.Executed.{Executed}
use Rattle.protocol_spec.specs.declared.answers.Held.{Held}
use Rattle.schedule_text.specs.declared.words.Event.{Event}
use Rattle.protocol_spec.proofs.Equality.{digest_same}
use Rattle.protocol_spec.specs.Chain.Words.{Has, all_some}
use Rattle.protocol_spec.specs.Chain.Keys.{objects_of, fits}
use Rattle.protocol_spec.proofs.ListLemmas.{find-test, each_has, find_has}
use Rattle.protocol_spec.specs.Block.Execution.{execution}
use Rattle.protocol_spec.specs.Member.Versions.{Execution, execution_of, is_executed, versions}
use Rattle.protocol_spec.specs.Member.Admission.{Admitted, Admission, assigned_of}
use Rattle.protocol_spec.specs.Member.Rounds.{Books, found, wanted_by, wants_of, present, executes_as}
use Rattle.protocol_spec.specs.Member.Member.{Member, books}
use Rattle.world_spec.specs.Setting.{Setting}
use Rattle.world_spec.specs.World.{Seat, list_or_none, member_in}
use Rattle.world_spec.specs.Run.{world_after}
use Rattle.world_spec.specs.Assumptions.{IsHonestRun, all_delivered}
use Rattle.block_law.specs.Admitted.{held_again}
use Rattle.safety_law.specs.Agreed.{IsGiven, IsHeldAsGiven, IsAdmittedAsGiven}
use Rattle.safety_law.specs.Explained.{IsExplained}
use Rattle.safety_law.proofs.Supply.{every-held, every-admission}
use Rattle.safety_law.proofs.Executing.{executions-explained, explained-more}
use Rattle.safety_law.specs.Steps.{step_of, IsStepOf}
use Rattle.safety_law.proofs.Lists.{along-split}
use Rattle.safety_law.proofs.SameSteps.{given-alike, executions-same}

pub same-wants : (a : Admission) (h k : Held) → h.digest ≡ k.digest → h.cert.tx ≡ k.cert.tx → h.cert.origins ≡ k.cert.origins → wants_of a h ≡ wants_of a k
unfolding wants_of
same-wants a h k d t o =
    ap (λ (tx : Digest). map (wanted_by (assigned_of a tx)) (zip (objects_of h.cert.tx) h.cert.origins)) d
    ∙ ap (λ (x : Transaction). map (wanted_by (assigned_of a k.digest)) (zip (objects_of x) h.cert.origins)) t
    ∙ ap (λ (os : List (Option Digest)). map (wanted_by (assigned_of a k.digest)) (zip (objects_of k.cert.tx) os)) o

same-present : (b : Books) (executed : List Execution) (h k : Held) (objects : List Object) → h.digest ≡ k.digest → h.cert.tx ≡ k.cert.tx → h.cert.origins ≡ k.cert.origins → present b executed h ≡ Some objects → present b executed k ≡ Some objects
unfolding present
same-present b executed h k objects d t o e = ap (λ ws. all_some (map (found (versions b.opening executed)) ws)) (sym (same-wants b.admission h k d t o)) ∙ e

same-execution : (h k : Held) (g : Executed) → h.digest ≡ k.digest → h.cert.tx ≡ k.cert.tx → executes_as h g ≡ executes_as k g
same-execution h k g d t =
    ap (λ (x : Digest). let y : Execution = record { digest = x; consumed = consumed_keys h.cert.tx; gave = g } in y) d
    ∙ ap (λ (x : Transaction). let y : Execution = record { digest = k.digest; consumed = consumed_keys x; gave = g } in y) t

-- the execution of a transaction, if it was executed
pub execution-there : (executed : List Execution) (tx : Digest) → is_executed executed tx ≡ true → (x : Execution) × Has executed x × (x.digest ≡ tx)
execution-there executed tx e = go (execution_of executed tx) refl e
  where
    go : (f : Option Execution) → execution_of executed tx ≡ f → is_some f ≡ true → (x : Execution) × Has executed x × (x.digest ≡ tx)
    go None h e = absurd (cc)
    go (Some x) h e = (x, find_has (λ (y : Execution). digest_eq y.digest tx) executed x h, digest_same x.digest tx (find-test (λ (y : Execution). digest_eq y.digest tx) executed x h))

module _ (s : Setting) (events : List Event) (honest : IsHonestRun s events) (n : ℕ) (seat : Seat) (at : slice_get (world_after s events).seats n ≡ Some seat) where
  abbrev pub here : Member
  here = member_in s seat

  pub admitted-given : (a : Admitted) → Has here.sequence.admission.admitted a → IsGiven s.rules (all_delivered s events) here.epoch a.digest a.cert
  admitted-given a h = each_has (IsAdmittedAsGiven s.rules (all_delivered s events) here.epoch) here.sequence.admission.admitted a (every-admission s events n seat at).given h

  -- executions of one transaction give the same
  pub one-gave : (x y : Execution) → Has here.executed x → Has here.executed y → x.digest ≡ y.digest → x.gave ≡ y.gave
  one-gave = executions-same s events honest n n seat seat at at refl refl

  from-explained : (a : Admitted) → Has here.sequence.admission.admitted a → (x : Execution) → Has here.executed x → x.digest ≡ a.digest → IsExplained (books here) here.executed x → IsStepOf here a
  from-explained a h x there same it =
      let digest : it.of.digest ≡ a.digest = sym (ap (λ (z : Execution). z.digest) it.is) ∙ same in
      let alike = given-alike s events honest here.epoch here.epoch it.of.digest a.digest it.of.cert a.cert
      (each_has (IsHeldAsGiven s.rules (all_delivered s events) here.epoch) here.held it.of (every-held s events n seat at) it.is_held) (admitted-given a h) digest in
      let objects = same-present (books here) here.executed it.of (held_again a) it.inputs digest alike.0 alike.1 it.were_there in
      let inputs : (step_of here a).inputs ≡ it.inputs = ap list_or_none objects in
      record {
        there = objects ∙ ap Some (sym inputs);
        fit = subst (λ (os : List Object). fits a.cert.tx os ≡ true) (sym inputs) (subst (λ (t : Transaction). fits t it.inputs ≡ true) alike.0 it.fit);
        executed = subst (Has here.executed)
            (it.is ∙ same-execution it.of (held_again a) (execution it.of.cert.tx it.inputs) digest alike.0
            ∙ ap (λ (t : Transaction). executes_as (held_again a) (execution t it.inputs)) alike.0
            ∙ ap (λ (os : List Object). executes_as (held_again a) (execution a.cert.tx os)) (sym inputs)) there;
      }

  pub executed-step : (a : Admitted) → Has here.sequence.admission.admitted a → (x : Execution) → Has here.executed x → x.digest ≡ a.digest → IsStepOf here a
  executed-step a h x there same =
      let r = along-split (IsExplained (books here)) [] here.executed x (executions-explained s events n seat at) there in
      from-explained a h x there same (subst (λ (xs : List Execution). IsExplained (books here) xs x) (sym r.2) (explained-more (books here) r.0 (x ∷ r.1) x r.3))

  pub executed-is-step : (a : Admitted) → Has here.sequence.admission.admitted a → is_executed here.executed a.digest ≡ true → IsStepOf here a
  executed-is-step a h e = let x = execution-there here.executed a.digest e in executed-step a h x.0 x.1 x.2
