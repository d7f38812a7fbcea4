-- What was stated after a line that broke off: each line only adds to it, and then some of that was added, in order.
use Rattle.std.proofs.Common.{◌≡◌, ◌<◌, ◌∙◌, ap, sym, refl, subst, arith, ℕ, zero, suc, Bool, true, false, cond, List, [], ◌∷◌, ◌++◌, map, Option, Some, None, Result, Ok, Err, OnErr}
use Rattle.std.specs.Prelude.{◌==◌}
use Rattle.digest_core.specs.declared.Digest.{Digest}
use Rattle.quorum_core.specs.declared.signer.Signer.{Signer}
use Rattle.chain_messages.specs.declared.messages.Certificate.{Certificate}
use Rattle.chain_messages.specs.declared.messages.Entry.TheVariants as entry
use Rattle.chain_messages.specs.declared.messages.Statement.TheVariants as statement
use Rattle.outside.specs.Lists.{Journals}
use Rattle.protocol_spec.proofs.ListLemmas.{front_then, front_whole}
use Rattle.protocol_spec.specs.Chain.Certificates.{Rules}
use Rattle.protocol_spec.specs.Chain.Words.{IsFront}
use Rattle.protocol_spec.specs.Member.Calls.{Call, acks, sees, votes}
use Rattle.report_text.specs.declared.lines.Line.{Line}
use Rattle.schedule_text.specs.declared.words.Event.{Event}
use Rattle.schedule_text.specs.declared.words.Event.TheVariants as event
use Rattle.world_spec.specs.Setting.{Name, Setting, Trust}
use Rattle.world_spec.specs.World.{Made, Said, WorldOf, honest_in, said_by, sealed_by}
use Rattle.world_spec.specs.Names.{cert_named, made_named}
use Rattle.world_spec.specs.Moves.{Move, requests, delivers, claims, submits, submits_end, claims_vote, claims_ack, cert_submitted, move_of}
use Rattle.world_spec.specs.Step.{appended_entry, end_by, end_in, fvoted_by, has_ended, honest_end, last_said, ordered, ordered_end, origins_by, risen_if, says, sealed_end}
use Rattle.world_spec.specs.Terms.{Terms, rules_for}
use Rattle.world_spec.specs.Posts.{Post, post_honest, reached_in, stated_in}
use Rattle.world_spec.specs.Scene.{Scene, bare_setting, post_world, rules_in}
use Rattle.world_spec.specs.SceneSteps.{Work, asks, called_if, called_scene, hands, idle, next_on, sees_to, work_by}
use Rattle.world_core.specs.Steps.{acked_in, false_ack_in, steps_by, scene_after, voted_scene, with_order, worked}
use Rattle.world_lines.specs.Pushed.{GrowsToward}
use Rattle.world_lines.proofs.Growing.{all_added}
use Rattle.world_core.specs.Sees.{HasSeen}
use Rattle.world_core.proofs.Cuts.{on_err}

-- ---- lists

same_front : {A : Type 0} (xs ys : List A) → ys ≡ xs → IsFront xs ys
same_front xs ys e = subst (λ (l : List _). IsFront xs l) (sym e) (front_whole xs)

-- nothing was added
pub none_grew : {A : Type 0} (old new whole : List A) → IsFront old whole → new ≡ old → GrowsToward old new whole
none_grew old new whole front e = subst (λ (l : List _). GrowsToward old l whole) (sym e) (record { kept = front_whole old; ahead = front })

-- all was added
pub all_grew : {A : Type 0} (old new whole : List A) → IsFront old whole → new ≡ whole → GrowsToward old new whole
all_grew old new whole front e = subst (λ (l : List _). GrowsToward old l whole) (sym e) (record { kept = front; ahead = front_whole whole })

-- ---- what calls add

call_front : (r : Rules) (sc : Scene) (m : ℕ) (call : Call) → IsFront sc.said (called_scene r sc m call).said
call_front r sc m call = (map (said_by m) (stated_in r call (reached_in r sc.posts m call)), refl)

vote_front : (seal : Signer → List ℕ → Digest) (r : Rules) (sc : Scene) (m : ℕ) (bytes : List ℕ) → IsFront sc.said (voted_scene seal r sc m bytes).said
vote_front seal r sc m bytes = (map (sealed_by seal m) (stated_in r (votes bytes) (reached_in r sc.posts m (votes bytes))), refl)

next_front : (r : Rules) (sc : Scene) (m : ℕ) (call : Option Call) → IsFront sc.said (called_if r sc m call).said
next_front r sc m None = front_whole sc.said
next_front r sc m (Some call) = call_front r sc m call

pub sees_front : (r : Rules) (n : ℕ) (sc : Scene) (m : ℕ) → IsFront sc.said (sees_to r n sc m).said
sees_front r zero sc m = front_whole sc.said
sees_front r (suc n) sc m =
    front_then sc.said (called_if r sc m (next_on sc m)).said (sees_to r n (called_if r sc m (next_on sc m)) m).said (next_front r sc m (next_on sc m)) (sees_front r n (called_if r sc m (next_on sc m)) m)

work_front : (seal : Signer → List ℕ → Digest) (r : Rules) (sc : Scene) (work : Work) → IsFront sc.said (worked seal r sc work).said
work_front seal r sc idle = front_whole sc.said
work_front seal r sc (asks m (votes bytes)) = vote_front seal r sc m bytes
work_front seal r sc (asks m call) = call_front r sc m call
work_front seal r sc (hands m n) = sees_front r n sc m

-- ---- what lines add that make no call

false_vote_front : (s : Setting) (w : WorldOf Post) (m : ℕ) (words : List (Option Name)) (t : Option Made) → IsFront w.said (fvoted_by post_honest s w m words t).said
false_vote_front s w m words None = front_whole w.said
false_vote_front s w m words (Some t) = go (honest_in post_honest w m)
  where
    go : (b : Bool) → IsFront w.said (cond b w (says s.seal w m (statement.Vote t.signed.tx.epoch t.digest (origins_by post_honest w t words)))).said
    go true = front_whole w.said
    go false = (sealed_by s.seal m (statement.Vote t.signed.tx.epoch t.digest (origins_by post_honest w t words)) ∷ [], refl)

order_front : (w : WorldOf Post) (c : Option Certificate) → IsFront w.said (ordered w c).said
order_front w None = front_whole w.said
order_front w (Some c) = go (c.tx.epoch == w.epoch)
  where
    go : (b : Bool) → IsFront w.said (cond b (appended_entry w (entry.Cert c)) w).said
    go true = front_whole w.said
    go false = front_whole w.said

rise_said : (b : Bool) (w : WorldOf Post) → (risen_if b w).said ≡ w.said
rise_said true w = refl
rise_said false w = refl

pub end_said : (s : Setting) (w : WorldOf Post) (m epoch : ℕ) → (ordered_end s w m epoch).said ≡ w.said
end_said s w m epoch = rise_said (has_ended s (appended_entry w (sealed_end s m epoch))) (appended_entry w (sealed_end s m epoch))

end_front : (s : Setting) (w : WorldOf Post) (m : ℕ) → IsFront w.said (end_by post_honest s w m).said
end_front s w m = go (honest_in post_honest w m)
  where
    own : (epoch : ℕ) (b : Bool) → IsFront w.said (cond b (ordered_end s w m epoch) w).said
    own epoch true = same_front w.said (ordered_end s w m epoch).said (end_said s w m epoch)
    own epoch false = front_whole w.said

    of_last : (last : Option ℕ) → IsFront w.said (honest_end s w m last).said
    of_last None = front_whole w.said
    of_last (Some epoch) = own epoch (epoch == w.epoch)

    go : (b : Bool) → IsFront w.said (cond b (honest_end s w m (last_said end_in m w.said)) (ordered_end s (says s.seal w m (statement.End w.epoch)) m w.epoch)).said
    go true = of_last (last_said end_in m w.said)
    go false = (said_by m (statement.End w.epoch) ∷ [], end_said s (says s.seal w m (statement.End w.epoch)) m w.epoch)

ack_front : (r : Rules) (sc : Scene) (m : ℕ) (spoiled : Bool) (t : Option Made) → IsFront sc.said (acked_in r sc m spoiled t).said
ack_front r sc m spoiled None = front_whole sc.said
ack_front r sc m spoiled (Some t) = go (honest_in post_honest (post_world sc) m)
  where
    go : (b : Bool) → IsFront sc.said (cond b (called_scene r sc m (acks t.digest)) (record sc { said = sc.said ++ said_by m (false_ack_in sc t spoiled) ∷ [] })).said
    go true = call_front r sc m (acks t.digest)
    go false = (said_by m (false_ack_in sc t spoiled) ∷ [], refl)

-- ---- a line

move_front : (trust : Trust) (sc : Scene) (mv : Move) → IsFront sc.said (steps_by trust sc mv).said
move_front trust sc (requests m ask) = work_front trust.seal (rules_in trust.accepts sc) sc (work_by sc (requests m ask))
move_front trust sc (delivers m entries) = work_front trust.seal (rules_in trust.accepts sc) sc (work_by sc (delivers m entries))
move_front trust sc (claims m tx (claims_vote origins)) = false_vote_front (bare_setting trust sc) (post_world sc) m origins (made_named (post_world sc) tx)
move_front trust sc (claims m tx (claims_ack spoiled)) = ack_front (rules_in trust.accepts sc) sc m spoiled (made_named (post_world sc) tx)
move_front trust sc (submits (cert_submitted tx)) = order_front (post_world sc) (cert_named (post_world sc) tx)
move_front trust sc (submits_end m) = end_front (bare_setting trust sc) (post_world sc) m
move_front trust sc mv = front_whole sc.said

pub step_front : (trust : Trust) (sc : Scene) (e : Event) → IsFront sc.said (scene_after trust sc e).said
unfolding scene_after
step_front trust sc e = move_front trust sc (move_of e)

module _ (trust : Trust) (sc : Scene) (e : Event) (said : List Said) where
  -- it added nothing
  pub unsaid : said ≡ sc.said → GrowsToward sc.said said (scene_after trust sc e).said
  unsaid same = none_grew sc.said said (scene_after trust sc e).said (step_front trust sc e) same

  pub unsaid_on : {A E : Type 0} (result : Result A E) → said ≡ sc.said → OnErr result (GrowsToward sc.said said (scene_after trust sc e).said)
  unsaid_on result same = on_err (GrowsToward sc.said said (scene_after trust sc e).said) result (unsaid same)

  -- if something broke off, it added nothing
  pub unsaid_then : {A E : Type 0} (result : Result A E) → OnErr result (said ≡ sc.said) → OnErr result (GrowsToward sc.said said (scene_after trust sc e).said)
  unsaid_then (Ok a) same = tt
  unsaid_then (Err x) same = unsaid same

  -- it added all
  pub all_said_on : {A E : Type 0} (result : Result A E) → said ≡ (scene_after trust sc e).said → OnErr result (GrowsToward sc.said said (scene_after trust sc e).said)
  all_said_on result is =
      on_err (GrowsToward sc.said said (scene_after trust sc e).said) result (all_grew sc.said said (scene_after trust sc e).said (step_front trust sc e) is)

-- a restart that failed
pub unsaid_start : {A E : Type 0} (trust : Trust) (sc new : Scene) (e : Event) (result : Result A E) → OnErr result (new ≡ sc) → OnErr result (GrowsToward sc.said new.said (scene_after trust sc e).said)
unsaid_start trust sc new e (Ok a) same = tt
unsaid_start trust sc new e (Err x) same = unsaid trust sc e new.said (ap (λ (y : Scene). y.said) same)

-- ---- of the world as it was

module _ {A E : Type 0} (v sc : Scene) (said : List Said) (result : Result A E) (view : v ≡ sc) where
  -- the next entry
  pub next_grown : (trust : Trust) (m number : ℕ) (bytes : List ℕ) → next_on sc m ≡ Some (sees number bytes) → OnErr result (GrowsToward v.said said (called_scene (rules_in trust.accepts v) v m (sees number bytes)).said)
      → OnErr result (GrowsToward sc.said said (called_if (rules_in trust.accepts sc) sc m (next_on sc m)).said)
  next_grown trust m number bytes next grew =
      subst (λ (c : Option Call). OnErr result (GrowsToward sc.said said (called_if (rules_in trust.accepts sc) sc m c).said)) (sym next)
      (subst (λ (x : Scene). OnErr result (GrowsToward x.said said (called_scene (rules_in trust.accepts x) x m (sees number bytes)).said)) view grew)

  -- all of it
  pub all_said_seen : (trust : Trust) (e : Event) → said ≡ (scene_after trust v e).said → OnErr result (GrowsToward sc.said said (scene_after trust sc e).said)
  all_said_seen trust e is = subst (λ (x : Scene). OnErr result (GrowsToward x.said said (scene_after trust x e).said)) view (all_said_on trust v e said result is)

-- what else a list was to get, by another name
pub some_said : {A : Type 0} (old new more other : List A) → other ≡ more → GrowsToward old new (old ++ more) → GrowsToward old new (old ++ other)
some_said old new more other e grew = subst (λ (l : List _). GrowsToward old new (old ++ l)) (sym e) grew

-- all of it, after which something may break off
pub all_added_on : {A B E : Type 0} (old new more : List B) (result : Result A E) → new ≡ old ++ more → OnErr result (GrowsToward old new (old ++ more))
all_added_on old new more result is = on_err (GrowsToward old new (old ++ more)) result (all_added old new more is)

-- by another name of the whole
pub grew_as : {A : Type 0} (old new whole other : List A) → whole ≡ other → GrowsToward old new whole → GrowsToward old new other
grew_as old new whole other e grew = subst (λ (l : List _). GrowsToward old new l) e grew

-- ---- entries

-- those before the next one added theirs
pub seen_grown : (trust : Trust) (m n : ℕ) (old now : Scene) (before told : Option Journals) (lines so_far : List Line) (left : ℕ) (said : List Said) → 0 < left → HasSeen trust m n old now before told lines so_far left
    → GrowsToward now.said said (called_if (rules_in trust.accepts now) now m (next_on now m)).said → GrowsToward old.said said (sees_to (rules_in trust.accepts old) n old m).said
seen_grown trust m n old now before told lines so_far zero said some has grew = absurd (omega (arith, some))
seen_grown trust m n old now before told lines so_far (suc still) said some has grew =
    record {
      kept = front_then old.said now.said said (subst (λ (x : Scene). IsFront old.said x.said) (sym has.reached) (sees_front (rules_in trust.accepts old) has.taken old m)) grew.kept;
      ahead =
          subst (λ (x : Scene). IsFront said x.said) has.scene
          (front_then said (called_if (rules_in trust.accepts old) now m (next_on now m)).said (sees_to (rules_in trust.accepts old) still (called_if (rules_in trust.accepts old) now m (next_on now m)) m).said
          (subst (λ (t : Terms). IsFront said (called_if (rules_for t trust.accepts) now m (next_on now m)).said) has.rules grew.ahead)
          (sees_front (rules_in trust.accepts old) still (called_if (rules_in trust.accepts old) now m (next_on now m)) m));
    }

-- ---- a line that orders the End of a faulty member

pub false_end_grown : {A E : Type 0} (trust : Trust) (sc : Scene) (m : ℕ) (said : List Said) (result : Result A E)
    → with_order sc (ordered_end (bare_setting trust sc) (says trust.seal (post_world sc) m (statement.End sc.epoch)) m sc.epoch) ≡ with_order sc (end_by post_honest (bare_setting trust sc) (post_world sc) m)
    → OnErr result (GrowsToward sc.said said (sc.said ++ said_by m (statement.End sc.epoch) ∷ [])) → OnErr result (GrowsToward sc.said said (scene_after trust sc (event.OrderEnd m)).said)
unfolding scene_after
false_end_grown trust sc m said (Ok a) same grew = tt
false_end_grown trust sc m said (Err x) same grew =
    grew_as sc.said said (sc.said ++ said_by m (statement.End sc.epoch) ∷ []) (with_order sc (end_by post_honest (bare_setting trust sc) (post_world sc) m)).said
    (sym (end_said (bare_setting trust sc) (says trust.seal (post_world sc) m (statement.End sc.epoch)) m sc.epoch) ∙ ap (λ (y : Scene). y.said) same) grew
