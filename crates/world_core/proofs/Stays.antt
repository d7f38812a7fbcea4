-- A step leaves the number of members and the terms as they are.
use Rattle.std.proofs.Common.{◌≡◌, ◌∙◌, ap, sym, refl, subst, ℕ, zero, suc, Bool, true, false, cond, List, [], ◌∷◌, ◌++◌, length, Option, Some, None, Result, Ok, Err}
use Rattle.std.specs.Prelude.{OnOk, slice_get}
use Rattle.digest_core.specs.declared.Digest.{Digest}
use Rattle.quorum_core.specs.declared.signer.Signer.{Signer}
use Rattle.outside.specs.Lists.{Journals}
use Rattle.protocol_spec.proofs.ListLemmas.{set_length}
use Rattle.protocol_spec.specs.Chain.Certificates.{Rules}
use Rattle.protocol_spec.specs.Member.Calls.{Call, acks, votes}
use Rattle.schedule_text.specs.declared.words.Event.{Event}
use Rattle.report_text.specs.declared.lines.Line.{Line}
use Rattle.world_spec.specs.Setting.{Trust}
use Rattle.world_spec.specs.World.{Made, honest_in, said_by}
use Rattle.world_spec.specs.Names.{made_named}
use Rattle.world_spec.specs.Moves.{Move, requests, delivers, claims, arms_stop, claims_ack, move_of}
use Rattle.world_spec.specs.Posts.{Post, arming, changed_at, post_honest, posts_with, starting}
use Rattle.world_spec.specs.Scene.{Scene, post_world, rules_in}
use Rattle.world_spec.specs.SceneSteps.{Work, asks, called_if, called_scene, hands, idle, next_on, sees_to, work_by}
use Rattle.world_core.specs.Steps.{acked_in, false_ack_in, steps_by, scene_after, voted_scene, worked}
use Rattle.world_core.specs.Restarts.{Accepting, RestartsAs}
use Rattle.world_core.specs.Stays.{Stays}
use Rattle.world_core.specs.declared.world.WorldFault.{WorldFault}

changed_many : (posts : List Post) (m : ℕ) (change : Post → Post) (p : Option Post) → length (changed_at posts m change p) ≡ length posts
changed_many posts m change None = refl
changed_many posts m change (Some p) = set_length posts m (change p)

called_many : (r : Rules) (call : Call) (posts : List Post) (m : ℕ) (p : Option Post) → length (posts_with r call posts m p) ≡ length posts
called_many r call posts m None = refl
called_many r call posts m (Some p) = set_length posts m _

one_call : (r : Rules) (sc : Scene) (m : ℕ) (call : Call) → Stays sc (called_scene r sc m call)
one_call r sc m call = record { many = called_many r call sc.posts m (slice_get sc.posts m); terms = refl }

one_vote : (seal : Signer → List ℕ → Digest) (r : Rules) (sc : Scene) (m : ℕ) (bytes : List ℕ) → Stays sc (voted_scene seal r sc m bytes)
one_vote seal r sc m bytes = record { many = called_many r (votes bytes) sc.posts m (slice_get sc.posts m); terms = refl }

stays_then : (old mid new : Scene) → Stays old mid → Stays mid new → Stays old new
stays_then old mid new one two = record { many = two.many ∙ one.many; terms = two.terms ∙ one.terms }

pub next_stays : (r : Rules) (sc : Scene) (m : ℕ) (call : Option Call) → Stays sc (called_if r sc m call)
next_stays r sc m None = record { many = refl; terms = refl }
next_stays r sc m (Some call) = one_call r sc m call

sees_stays : (r : Rules) (n : ℕ) (sc : Scene) (m : ℕ) → Stays sc (sees_to r n sc m)
sees_stays r zero sc m = record { many = refl; terms = refl }
sees_stays r (suc n) sc m = stays_then sc (called_if r sc m (next_on sc m)) (sees_to r n (called_if r sc m (next_on sc m)) m) (next_stays r sc m (next_on sc m)) (sees_stays r n (called_if r sc m (next_on sc m)) m)

any_work : (seal : Signer → List ℕ → Digest) (r : Rules) (sc : Scene) (work : Work) → Stays sc (worked seal r sc work)
any_work seal r sc idle = record { many = refl; terms = refl }
any_work seal r sc (asks m (votes bytes)) = one_vote seal r sc m bytes
any_work seal r sc (asks m call) = one_call r sc m call
any_work seal r sc (hands m n) = sees_stays r n sc m

ack_stays : (r : Rules) (sc : Scene) (m : ℕ) (spoiled : Bool) (t : Option Made) → Stays sc (acked_in r sc m spoiled t)
ack_stays r sc m spoiled None = record { many = refl; terms = refl }
ack_stays r sc m spoiled (Some t) = go (honest_in post_honest (post_world sc) m)
  where
    go : (b : Bool) → Stays sc (cond b (called_scene r sc m (acks t.digest)) (record sc { said = sc.said ++ said_by m (false_ack_in sc t spoiled) ∷ [] }))
    go true = one_call r sc m (acks t.digest)
    go false = record { many = refl; terms = refl }

stays_by : (trust : Trust) (sc : Scene) (mv : Move) → Stays sc (steps_by trust sc mv)
stays_by trust sc (requests m ask) = any_work trust.seal (rules_in trust.accepts sc) sc (work_by sc (requests m ask))
stays_by trust sc (delivers m entries) = any_work trust.seal (rules_in trust.accepts sc) sc (work_by sc (delivers m entries))
stays_by trust sc (claims m tx (claims_ack spoiled)) = ack_stays (rules_in trust.accepts sc) sc m spoiled (made_named (post_world sc) tx)
stays_by trust sc (arms_stop m kept) = record { many = changed_many sc.posts m (arming kept) (slice_get sc.posts m); terms = refl }
stays_by trust sc mv = record { many = refl; terms = refl }

stays : (trust : Trust) (sc : Scene) (e : Event) → Stays sc (scene_after trust sc e)
unfolding scene_after
stays trust sc e = stays_by trust sc (move_of e)

pub restart_stays : (accepts : Accepting) (told : Option Journals) (m : ℕ) (old new : Scene) (p : Option Post) (result : Result (List Line) WorldFault) → RestartsAs accepts told m old new p result → OnOk result (Stays old new)
restart_stays accepts told m old new (Some p) (Ok lines) is =
    record {
      many = ap (λ (x : Scene). length x.posts) is.scene ∙ changed_many old.posts m (starting old.terms m is.state) (slice_get old.posts m);
      terms = ap (λ (x : Scene). x.terms) is.scene;
    }
restart_stays accepts told m old new None (Ok lines) is = record { many = ap (λ (x : Scene). length x.posts) is.scene; terms = ap (λ (x : Scene). x.terms) is.scene }
restart_stays accepts told m old new p (Err e) is = tt

pub step_stays : (trust : Trust) (old new : Scene) (e : Event) → new ≡ scene_after trust old e → Stays old new
step_stays trust old new e is = subst (Stays old) (sym is) (stays trust old e)
