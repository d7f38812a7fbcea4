-- A line that touches no record leaves observable lists as they are.
use Rattle.std.proofs.Common.{◌≡◌, ℕ, Bool, true, false, cond, Option, Some, None, Result, Ok, Err}
use Rattle.outside.specs.Lists.{Journals}
use Rattle.protocol_spec.specs.Chain.Certificates.{Rules}
use Rattle.protocol_spec.specs.Member.Calls.{ends, acks}
use Rattle.schedule_text.specs.declared.words.Event.{Event}
use Rattle.world_spec.specs.Setting.{Trust}
use Rattle.world_spec.specs.World.{Made, honest_in}
use Rattle.world_spec.specs.Names.{made_named}
use Rattle.world_spec.specs.Moves.{Move, requests, delivers, claims, vote_named, hold_named, direct, claims_ack, move_of}
use Rattle.world_spec.specs.Posts.{post_honest}
use Rattle.world_spec.specs.Scene.{Scene, post_world, rules_in}
use Rattle.world_spec.specs.SceneSteps.{ack_work, asks, idle, work_by, work_of}
use Rattle.world_core.specs.Kept.{LeavesAs, is_quiet, is_quiet_move}
use Rattle.world_core.proofs.Silent.{ack_leaves, end_leaves}
use Rattle.validator_core.proofs.Settling.{keeps_same}

idle_leaves : {A E : Type 0} (r : Rules) (sc : Scene) (told : Option Journals) (result : Result A E) → LeavesAs r sc idle told told result
idle_leaves r sc told (Ok a) = keeps_same told
idle_leaves r sc told (Err e) = keeps_same told

ack_leaves_where : {A E : Type 0} (trust : Trust) (sc : Scene) (m : ℕ) (t : Option Made) (told : Option Journals) (result : Result A E) → LeavesAs (rules_in trust.accepts sc) sc (ack_work sc m t) told told result
ack_leaves_where trust sc m None told result = idle_leaves (rules_in trust.accepts sc) sc told result
ack_leaves_where {A} {E} trust sc m (Some t) told result = go (honest_in post_honest (post_world sc) m)
  where
    go : (b : Bool) → LeavesAs (rules_in trust.accepts sc) sc (cond b (asks m (acks t.digest)) idle) told told result
    go true = ack_leaves trust sc m t.digest told result
    go false = idle_leaves (rules_in trust.accepts sc) sc told result

quiet_move : {A E : Type 0} (trust : Trust) (sc : Scene) (mv : Move) (told : Option Journals) (result : Result A E) → is_quiet_move mv ≡ true → LeavesAs (rules_in trust.accepts sc) sc (work_by sc mv) told told result
quiet_move trust sc (requests m (vote_named tx)) told result quiet = absurd (cc)
quiet_move trust sc (requests m (hold_named tx)) told result quiet = absurd (cc)
quiet_move trust sc (requests m (direct ends)) told result quiet = end_leaves trust sc m told result
quiet_move trust sc (requests m (direct (acks tx))) told result quiet = ack_leaves trust sc m tx told result
quiet_move trust sc (requests m (direct call)) told result quiet = absurd (cc)
quiet_move trust sc (delivers m entries) told result quiet = absurd (cc)
quiet_move trust sc (claims m tx (claims_ack spoiled)) told result quiet = ack_leaves_where trust sc m (made_named (post_world sc) tx) told result
quiet_move trust sc mv told result quiet = idle_leaves (rules_in trust.accepts sc) sc told result

pub quiet_leaves : {A E : Type 0} (trust : Trust) (sc : Scene) (e : Event) (told : Option Journals) (result : Result A E) → is_quiet e ≡ true → LeavesAs (rules_in trust.accepts sc) sc (work_of sc e) told told result
unfolding work_of
quiet_leaves trust sc e told result quiet = quiet_move trust sc (move_of e) told result quiet
