-- Orderly steps are links of chains.
use Rattle.std.proofs.Common.{sym, subst, ap, ◌∙◌}
use Rattle.std.specs.Prelude.{◌≡◌, ◌<◌, ℕ, List, [], ◌∷◌, ◌++◌, map, slice_get, Some}
use Rattle.std.specs.FinMap.{get}
use Rattle.chain_types.specs.declared.objects.Object.{Object}
use Rattle.schedule_text.specs.declared.words.Event.{Event}
use Rattle.protocol_spec.specs.Chain.Words.{Has, Along}
use Rattle.protocol_spec.specs.Chain.Keys.{objects_of}
use Rattle.protocol_spec.specs.Member.Admission.{Admitted}
use Rattle.protocol_spec.specs.Member.Sequential.{Objects, map_of, Folded}
use Rattle.world_spec.specs.Setting.{Setting}
use Rattle.world_spec.specs.World.{Seat, member_in}
use Rattle.world_spec.specs.Run.{world_after}
use Rattle.world_spec.specs.Assumptions.{IsHonestRun}
use Rattle.block_law.specs.Orderly.{Step, gave, IsOrderly, AreOrderly, AreApart}
use Rattle.block_law.proofs.Standing.{stands-after}
use Rattle.block_law.proofs.Touched.{written-version, above}
use Rattle.block_law.proofs.ReadingSteps.{after_steps, after-push, IsGoneOver, given-once, finds-next, over-next, thread-is}
use Rattle.safety_law.specs.Steps.{step_of}
use Rattle.safety_law.specs.Orderly.{IsExecutedFront}
use Rattle.safety_law.proofs.Ordered.{steps-orderly, input-of}
use Rattle.safety_law.proofs.Known.{opens-apart}
use Rattle.safety_law.specs.Chains.{standing, IsLink}
use Rattle.block_law.proofs.Written.{fits-first}

module _ (opening : List Object) (distinct : AreApart opening) where
  standing-is : (before : List Step) → IsGoneOver opening before → standing opening before ≡ after_steps opening before
  standing-is before over = ap (λ (f : Folded). f.map) (thread-is opening before over.orderly over.finds)

  module _ (before : List Step) (over : IsGoneOver opening before) (x : Step) (next : IsOrderly opening before x) where
    reads : (o : Object) → Has x.inputs o → get (standing opening before) o.id ≡ Some o
    reads o h =
        let i = input-of x.tx (objects_of x.tx) x.inputs o (fits-first x.tx x.inputs next.fit) h in
        subst (λ (m : Objects). get m o.id ≡ Some o) (sym (standing-is before over)) (finds-next opening distinct before over x next i.0 o i.1)

    rises : (o p : Object) → Has x.inputs o → Has (gave x).objects p → o.version < p.version
    rises o p h k = subst (λ (v : ℕ). o.version < v) (sym (written-version x p k)) (above x.inputs o h)

    stands : (p : Object) → Has (gave x).objects p → get (standing opening (before ++ x ∷ [])) p.id ≡ Some p
    stands p h = subst (λ (m : Objects). get m p.id ≡ Some p)
        (sym (standing-is (before ++ x ∷ []) (over-next opening distinct before over x next) ∙ after-push opening (map_of opening) before x))
        (stands-after (after_steps opening before) (gave x) p (given-once opening x next.fit next.once) h)

    link : IsLink opening before x
    link = record { reads = reads; rises = rises; stands = stands; once = next.apart }

  links : (xs before : List Step) → IsGoneOver opening before → Along (IsOrderly opening) before xs → Along (IsLink opening) before xs
  links [] before over next = tt
  links (x ∷ xs) before over next = (link before over x next.0, links xs (before ++ x ∷ []) (over-next opening distinct before over x next.0) next.1)

  pub all-links : (steps : List Step) → AreOrderly opening steps → Along (IsLink opening) [] steps
  all-links steps orderly = links steps [] (record { orderly = tt; finds = tt; known = tt }) orderly

pub versions-are-chains : (s : Setting) (events : List Event) → IsHonestRun s events → AreApart s.opening → (n : ℕ) (seat : Seat) → slice_get (world_after s events).seats n ≡ Some seat
    → (front : List Admitted) → IsExecutedFront (member_in s seat) front → Along (IsLink (member_in s seat).opening) [] (map (step_of (member_in s seat)) front)
versions-are-chains s events honest distinct n seat at front it =
    let opens = opens-apart s events honest distinct n seat at in
    all-links (member_in s seat).opening opens.distinct (map (step_of (member_in s seat)) front) (steps-orderly s events honest n seat at opens front it)
