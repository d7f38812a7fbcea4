-- Under the run assumptions a follower takes all that a member has built, and then has the objects with which it opened its epoch.
use Rattle.std.proofs.Common.{◌≡◌, ◌∙◌, ℕ, Bool, true, false, cond, T, List, [], ◌∷◌, map, Option, Some, None, Result, Ok, Err, refl, sym, ap, subst}
use Rattle.std.specs.Prelude.{fold, slice_get}
use Rattle.std.specs.Cmp.{IsTotalOrder}
use Rattle.std.specs.Cmp.Lexicographic.{on_texts}
use Rattle.std.specs.FinMap.{empty, entries, entries_sorted, get, get-empty, get-entries, get-insert, values}
use Rattle.std.specs.FinMap.Entries.{find, find-put, is_sorted, is_sorted-put, put, same_entries}
use Rattle.std.specs.Ordering.{eq_by_cmp}
use Rattle.chain_types.specs.declared.objects.Object.{Object}
use Rattle.chain_types.specs.declared.objects.ObjectId.{ObjectId}
use Rattle.schedule_text.specs.declared.words.Schedule.{Schedule}
use Rattle.protocol_spec.proofs.Equality.{ids_unique}
use Rattle.protocol_spec.specs.Member.Member.{Member}
use Rattle.protocol_spec.specs.Member.Sequential.{Objects, map_of, with_object}
use Rattle.protocol_spec.specs.Member.Versions.{id_cmp, with_live}
use Rattle.world_spec.specs.Setting.{Setting}
use Rattle.world_spec.specs.World as worlds
use Rattle.world_spec.specs.World.{World, member_in}
use Rattle.world_spec.specs.Run.{world_after}
use Rattle.world_spec.specs.Assumptions.{IsHonestRun}
use Rattle.validator_core.specs.Opened.{opening_objects}
use Rattle.follower_core.specs.declared.catching.CatchUpRefusal.{CatchUpRefusal}
use Rattle.follower_core.specs.declared.catching.CatchUpRefusal.TheVariants as stopped
use Rattle.follower_core.specs.Following.{State}
use Rattle.headline_law.specs.Followed.{AllMade, made_as}
use Rattle.headline_law.specs.Followed as law
use Rattle.headline_law.proofs.Catching.{come-through-in-schedules}
use Rattle.committee_core.specs.declared.verdict.Verdict.{Verdict}
use Rattle.committee_core.specs.declared.verdict.Verdict.TheVariants as verdict
use Rattle.committee_core.specs.Follow.{ComesTo, IsThrough, IsVerdictBehind, LeavesObjects, asked_in, state_in}
use Rattle.committee_core.specs.Headline.{program_trust}
use Rattle.committee_core.specs.Report.{setting_in}

-- ---- the objects of a member's opening by ascending id are those of their map

ids-total : IsTotalOrder id_cmp
ids-total = on_texts (λ (i : ObjectId). i.0.0)

abbrev Entries : Type 0
Entries = List (ObjectId × Object)

abbrev live : List Object → List (Option Object)
live os = map (λ (o : Object). Some o) os

-- the list of entries and the map have the same object under each id, after these objects as well
same-found : (os : List Object) (es : Entries) (m : Objects) → ((id : ObjectId) → find id_cmp id es ≡ get m id) → (id : ObjectId) → find id_cmp id (fold with_live es (live os)) ≡ get (fold with_object m os) id
same-found [] es m same id = same id
same-found (o ∷ os) es m same id =
    same-found os (put id_cmp o.id o es) (with_object m o)
    (λ k. find-put id_cmp ids-total k o.id o es ∙ ap (cond (eq_by_cmp id_cmp k o.id) (Some o)) (same k) ∙ sym (get-insert ids-total m o.id o k)) id

still-sorted : (os : List Object) (es : Entries) → T (is_sorted id_cmp es) → T (is_sorted id_cmp (fold with_live es (live os)))
still-sorted [] es sorted = sorted
still-sorted (o ∷ os) es sorted = still-sorted os (put id_cmp o.id o es) (is_sorted-put id_cmp ids-total o.id o es sorted)

opening-is : (m : Member) → values (map_of m.opening) ≡ opening_objects m
unfolding map_of
opening-is m =
    let map' : Objects = fold with_object empty m.opening in
    ap (map (λ (e : ObjectId × Object). e.1))
    (same_entries id_cmp ids-total ids_unique (entries map') (fold with_live [] (live m.opening)) (entries_sorted map') (still-sorted m.opening [] tt)
    (λ id. sym (same-found m.opening [] empty (λ k. sym (get-empty id_cmp k)) id ∙ get-entries map' id)))

-- ---- a member that is up, and its seat

same-some : (a b : Member) → Some a ≡ Some b → a ≡ b
same-some a b e = cc

record IsSeated (s : Setting) (o : Option worlds.Seat) (member : Member) : Type 0 where
  seat : worlds.Seat
  at : o ≡ Some seat
  same : member_in s seat ≡ member

seat-of : (s : Setting) (o : Option worlds.Seat) (member : Member) → state_in s o ≡ Some member → IsSeated s o member
seat-of s None member e = absurd (cc)
seat-of s (Some seat) member e = record { seat = seat; at = refl; same = go seat.honest seat.up e }
  where
    go : (honest up : Bool) → cond honest (cond up (Some (member_in s seat)) None) None ≡ Some member → member_in s seat ≡ member
    go true true q = same-some (member_in s seat) member q
    go true false q = absurd (cc)
    go false up q = absurd (cc)

-- ---- what it says of each verdict

abbrev Far : Type 0
Far = Result State CatchUpRefusal

no-both : (s : State) (why : CatchUpRefusal) → ◌≡◌ {A = Far} (Ok s) (Err why) → ⊥
no-both s why e = cc

same-ok : (s t : State) → ◌≡◌ {A = Far} (Ok s) (Ok t) → s ≡ t
same-ok s t e = cc

module _ (s : Schedule) (run_is : IsHonestRun (setting_in program_trust s) s.events) (made : AllMade (setting_in program_trust s) s.events) (m : ℕ) where
  abbrev at : Setting
  at = setting_in program_trust s

  abbrev w : World
  w = world_after at s.events

  come : (member : Member) → state_in at (slice_get w.seats m) ≡ Some member → law.ComesThrough at s.events member
  come member stands =
      let it = seat-of at (slice_get w.seats m) member stands in
      subst (law.ComesThrough at s.events) it.same (come-through-in-schedules program_trust s.setup s.events run_is made m it.seat it.at)

  never : (why : CatchUpRefusal) → ComesTo (made_as w) at.opening (asked_in at w m) (λ member r. r ≡ Err why) → ⊥
  never why to = let it = come to.member to.stands in no-both it.state why (sym it.is ∙ to.far)

  equal : ComesTo (made_as w) at.opening (asked_in at w m) (λ member r. LeavesObjects r (λ live. live ≡ opening_objects member → ⊥)) → ⊥
  equal to =
      let it = come to.member to.stands in
      to.far.live (ap (λ (t : State). values t.course.map) (same-ok to.far.state it.state (sym to.far.is ∙ it.is)) ∙ ap values it.objects ∙ opening-is to.member)

  pub through : (v : Verdict) → IsVerdictBehind s m v → IsThrough v
  through verdict.NoHonest is = tt
  through verdict.Down is = tt
  through (verdict.Stuck number place) is = never (stopped.Stuck number place) is
  through (verdict.Differs number place) is = never (stopped.Differs number place) is
  through verdict.Unequal is = equal is
  through (verdict.Equal checkpoints epoch objects) is = tt
