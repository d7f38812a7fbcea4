use Rattle.std.proofs.Common.{◌∙◌, List, Some, ap, sym, refl, map, ◌++◌, inl, Bool, ℕ, Result, Ok, Err}
use Rattle.protocol_spec.specs.Member.Calls.{sees}
use Rattle.world_spec.specs.Posts.{reached_in, stated_in}
use Rattle.world_spec.specs.Scene.{Scene, rules_in}
use Rattle.world_spec.specs.Terms.{Terms}
use Rattle.world_spec.specs.World.{Said, said_by}
use Rattle.world_core.specs.Trusts.{trust_by}
use Rattle.world_core.specs.Sees.{see_stated}
use Rattle.world_core.specs.declared.reply.SeatFault.{SeatFault}
use Rattle.world_core.specs.declared.reply.SeatFault.TheVariants as seat_fault
use Rattle.world_core.proofs.Cuts.{books_seen, call_ended, call_fell, next_cut}
use Rattle.world_core.proofs.Nexts.{next_goes, next_kept, next_lines, next_in, next_stays, next_world}
use Rattle.world_core.proofs.SeeTexts.{see_states}
use Rattle.world_core.proofs.Serving.{keeper_err, memory_none, ok_none}
use Rattle.world_core.proofs.Stated.{next_grown, some_said}
use Rattle.world_lines.proofs.Growing.{none_added}
use Rattle.world_core.proofs.world.World.see_next.Goals as goal

pub returns-in-Ok-tell_entry-clause-world : goal.returns-in-Ok-tell_entry-clause-world
returns-in-Ok-tell_entry-clause-world g c =
    next_world (trust_by (g.S.MakesSeals.made c.args.sealer.now) (g.S.Checker.accepts c.args.sealer.now)) (let v : Scene = record { terms = c.self.inside.seats.terms; opening = c.self.inside.opening; known = c.self.inside.directory; sequences = c.self.inside.order.sequences; epoch = c.self.inside.order.epoch; said = c.self.inside.said; certs = c.self.inside.certs; posts = c.self.inside.seats.posts } in v) c.args.self.now c.args.member c.in-Some.number c.as_slice-bytes.result.now c.self.view_is (ap (λ (b : List ℕ). Some (sees c.in-Some.number b)) c.as_slice-bytes.ensures.value ∙ c.in-Some.ensures) c.call.new.self.terms c.call.new.self.posts c.tell_entry.new.said c.in-Ok.ensures.served.terms c.in-Ok.ensures.served.posts (c.in-Ok-tell_entry.ensures.said ∙ ap (λ (xs : List Said). c.self.inside.said ++ xs) (see_states (rules_in (g.S.Checker.accepts c.args.sealer.now) (let v : Scene = record { terms = c.self.inside.seats.terms; opening = c.self.inside.opening; known = c.self.inside.directory; sequences = c.self.inside.order.sequences; epoch = c.self.inside.order.epoch; said = c.self.inside.said; certs = c.self.inside.certs; posts = c.self.inside.seats.posts } in v)) c.args.member c.in-Some.number c.as_slice-bytes.result.now (reached_in (rules_in (g.S.Checker.accepts c.args.sealer.now) (let v : Scene = record { terms = c.self.inside.seats.terms; opening = c.self.inside.opening; known = c.self.inside.directory; sequences = c.self.inside.order.sequences; epoch = c.self.inside.order.epoch; said = c.self.inside.said; certs = c.self.inside.certs; posts = c.self.inside.seats.posts } in v)) c.self.inside.seats.posts c.args.member (sees c.in-Some.number c.as_slice-bytes.result.now)) c.in-Ok.reply c.in-Ok.ensures.served.answer))

pub returns-in-Ok-tell_entry-clause-lines : goal.returns-in-Ok-tell_entry-clause-lines
returns-in-Ok-tell_entry-clause-lines g c =
    next_lines (trust_by (g.S.MakesSeals.made c.args.sealer.now) (g.S.Checker.accepts c.args.sealer.now)) (let v : Scene = record { terms = c.self.inside.seats.terms; opening = c.self.inside.opening; known = c.self.inside.directory; sequences = c.self.inside.order.sequences; epoch = c.self.inside.order.epoch; said = c.self.inside.said; certs = c.self.inside.certs; posts = c.self.inside.seats.posts } in v) c.args.self.now c.args.member c.in-Some.number c.as_slice-bytes.result.now c.self.view_is (ap (λ (b : List ℕ). Some (sees c.in-Some.number b)) c.as_slice-bytes.ensures.value ∙ c.in-Some.ensures) c.committee-committee.result.now c.in-Ok.reply (let y : Result Bool SeatFault = Ok c.in-Ok-tell_entry.goes in y) c.args.lines.now c.tell_entry.new.lines (c.committee-committee.ensures ∙ ap (λ (t : Terms). t.stakes) c.in-Ok.ensures.served.terms) c.in-Ok.ensures.served.answer c.in-Ok-tell_entry.ensures.lines

pub returns-in-Ok-tell_entry-clause-goes : goal.returns-in-Ok-tell_entry-clause-goes
returns-in-Ok-tell_entry-clause-goes g c =
    next_goes (trust_by (g.S.MakesSeals.made c.args.sealer.now) (g.S.Checker.accepts c.args.sealer.now)) (let v : Scene = record { terms = c.self.inside.seats.terms; opening = c.self.inside.opening; known = c.self.inside.directory; sequences = c.self.inside.order.sequences; epoch = c.self.inside.order.epoch; said = c.self.inside.said; certs = c.self.inside.certs; posts = c.self.inside.seats.posts } in v) c.args.self.now c.args.member c.in-Some.number c.as_slice-bytes.result.now c.self.view_is (ap (λ (b : List ℕ). Some (sees c.in-Some.number b)) c.as_slice-bytes.ensures.value ∙ c.in-Some.ensures) c.committee-committee.result.now c.in-Ok.reply c.in-Ok-tell_entry.goes (c.committee-committee.ensures ∙ ap (λ (t : Terms). t.stakes) c.in-Ok.ensures.served.terms) c.in-Ok.ensures.served.answer c.in-Ok-tell_entry.ensures.goes

pub returns-in-Ok-tell_entry-clause-kept : goal.returns-in-Ok-tell_entry-clause-kept
returns-in-Ok-tell_entry-clause-kept g c =
    next_kept (trust_by (g.S.MakesSeals.made c.args.sealer.now) (g.S.Checker.accepts c.args.sealer.now)) (let v : Scene = record { terms = c.self.inside.seats.terms; opening = c.self.inside.opening; known = c.self.inside.directory; sequences = c.self.inside.order.sequences; epoch = c.self.inside.order.epoch; said = c.self.inside.said; certs = c.self.inside.certs; posts = c.self.inside.seats.posts } in v) c.args.self.now c.args.member c.in-Some.number c.as_slice-bytes.result.now c.self.view_is (ap (λ (b : List ℕ). Some (sees c.in-Some.number b)) c.as_slice-bytes.ensures.value ∙ c.in-Some.ensures) (let y : Result Bool SeatFault = Ok c.in-Ok-tell_entry.goes in y) (g.D.Keeper.lists c.args.keeper.now) (g.D.Keeper.lists c.call.new.keeper) c.in-Ok.ensures.served.kept

pub returns-in-Ok-tell_entry-clause-stay : goal.returns-in-Ok-tell_entry-clause-stay
returns-in-Ok-tell_entry-clause-stay g c =
    next_stays (trust_by (g.S.MakesSeals.made c.args.sealer.now) (g.S.Checker.accepts c.args.sealer.now)) (let v : Scene = record { terms = c.self.inside.seats.terms; opening = c.self.inside.opening; known = c.self.inside.directory; sequences = c.self.inside.order.sequences; epoch = c.self.inside.order.epoch; said = c.self.inside.said; certs = c.self.inside.certs; posts = c.self.inside.seats.posts } in v) c.args.self.now c.args.member c.in-Some.number c.as_slice-bytes.result.now c.self.view_is (ap (λ (b : List ℕ). Some (sees c.in-Some.number b)) c.as_slice-bytes.ensures.value ∙ c.in-Some.ensures) c.call.new.self.terms c.call.new.self.posts c.tell_entry.new.said c.in-Ok.ensures.served.terms c.in-Ok.ensures.served.many

pub returns-in-Ok-tell_entry-clause-books : goal.returns-in-Ok-tell_entry-clause-books
returns-in-Ok-tell_entry-clause-books g c =
    books_seen (let v : Scene = record { terms = c.self.inside.seats.terms; opening = c.self.inside.opening; known = c.self.inside.directory; sequences = c.self.inside.order.sequences; epoch = c.self.inside.order.epoch; said = c.self.inside.said; certs = c.self.inside.certs; posts = c.self.inside.seats.posts } in v) c.args.self.now c.call.new.self.terms c.call.new.self.posts c.tell_entry.new.said c.self.view_is c.in-Ok.ensures.served.terms c.in-Ok.ensures.served.many

pub returns-clause-books : goal.returns-clause-books
returns-clause-books g c =
    books_seen (let v : Scene = record { terms = c.self.inside.seats.terms; opening = c.self.inside.opening; known = c.self.inside.directory; sequences = c.self.inside.order.sequences; epoch = c.self.inside.order.epoch; said = c.self.inside.said; certs = c.self.inside.certs; posts = c.self.inside.seats.posts } in v) c.args.self.now c.call.new.self.terms c.call.new.self.posts c.tell_entry.new.said c.self.view_is c.in-Ok.ensures.served.terms c.in-Ok.ensures.served.many

pub returns-in-Err-clause-books : goal.returns-in-Err-clause-books
returns-in-Err-clause-books g c =
    books_seen (let v : Scene = record { terms = c.self.inside.seats.terms; opening = c.self.inside.opening; known = c.self.inside.directory; sequences = c.self.inside.order.sequences; epoch = c.self.inside.order.epoch; said = c.self.inside.said; certs = c.self.inside.certs; posts = c.self.inside.seats.posts } in v) c.args.self.now c.call.new.self.terms c.call.new.self.posts c.self.inside.said c.self.view_is c.in-Err.ensures.served.terms c.in-Err.ensures.served.many

pub returns-clause-kept : goal.returns-clause-kept
returns-clause-kept g c =
    next_kept (trust_by (g.S.MakesSeals.made c.args.sealer.now) (g.S.Checker.accepts c.args.sealer.now)) (let v : Scene = record { terms = c.self.inside.seats.terms; opening = c.self.inside.opening; known = c.self.inside.directory; sequences = c.self.inside.order.sequences; epoch = c.self.inside.order.epoch; said = c.self.inside.said; certs = c.self.inside.certs; posts = c.self.inside.seats.posts } in v) c.args.self.now c.args.member c.in-Some.number c.as_slice-bytes.result.now c.self.view_is (ap (λ (b : List ℕ). Some (sees c.in-Some.number b)) c.as_slice-bytes.ensures.value ∙ c.in-Some.ensures) (let y : Result Bool SeatFault = Err seat_fault.OutOfMemory in y) (g.D.Keeper.lists c.args.keeper.now) (g.D.Keeper.lists c.call.new.keeper) (inl c.in-Ok.ensures.served.kept)

pub returns-in-Err-clause-kept : goal.returns-in-Err-clause-kept
returns-in-Err-clause-kept g c =
    next_kept (trust_by (g.S.MakesSeals.made c.args.sealer.now) (g.S.Checker.accepts c.args.sealer.now)) (let v : Scene = record { terms = c.self.inside.seats.terms; opening = c.self.inside.opening; known = c.self.inside.directory; sequences = c.self.inside.order.sequences; epoch = c.self.inside.order.epoch; said = c.self.inside.said; certs = c.self.inside.certs; posts = c.self.inside.seats.posts } in v) c.args.self.now c.args.member c.in-Some.number c.as_slice-bytes.result.now c.self.view_is (ap (λ (b : List ℕ). Some (sees c.in-Some.number b)) c.as_slice-bytes.ensures.value ∙ c.in-Some.ensures) (let y : Result Bool SeatFault = Err c.in-Err.fault in y) (g.D.Keeper.lists c.args.keeper.now) (g.D.Keeper.lists c.call.new.keeper) c.in-Err.ensures.served.kept

pub returns-clause-cut : goal.returns-clause-cut
returns-clause-cut g c =
    next_cut (trust_by (g.S.MakesSeals.made c.args.sealer.now) (g.S.Checker.accepts c.args.sealer.now)) (let v : Scene = record { terms = c.self.inside.seats.terms; opening = c.self.inside.opening; known = c.self.inside.directory; sequences = c.self.inside.order.sequences; epoch = c.self.inside.order.epoch; said = c.self.inside.said; certs = c.self.inside.certs; posts = c.self.inside.seats.posts } in v) c.args.self.now c.args.member c.in-Some.number c.as_slice-bytes.result.now c.self.view_is (ap (λ (b : List ℕ). Some (sees c.in-Some.number b)) c.as_slice-bytes.ensures.value ∙ c.in-Some.ensures) (let y : Result Bool SeatFault = Err seat_fault.OutOfMemory in y) c.call.new.self.posts (g.D.Keeper.lists c.args.keeper.now) (g.D.Keeper.lists c.call.new.keeper) (call_ended (rules_in (g.S.Checker.accepts c.args.sealer.now) (let v : Scene = record { terms = c.self.inside.seats.terms; opening = c.self.inside.opening; known = c.self.inside.directory; sequences = c.self.inside.order.sequences; epoch = c.self.inside.order.epoch; said = c.self.inside.said; certs = c.self.inside.certs; posts = c.self.inside.seats.posts } in v)) c.args.member (sees c.in-Some.number c.as_slice-bytes.result.now) c.self.inside.seats.posts c.call.new.self.posts (g.D.Keeper.lists c.args.keeper.now) (g.D.Keeper.lists c.call.new.keeper) c.in-Ok.ensures.served.posts c.in-Ok.ensures.served.kept)

pub returns-in-Err-clause-cut : goal.returns-in-Err-clause-cut
returns-in-Err-clause-cut g c =
    next_cut (trust_by (g.S.MakesSeals.made c.args.sealer.now) (g.S.Checker.accepts c.args.sealer.now)) (let v : Scene = record { terms = c.self.inside.seats.terms; opening = c.self.inside.opening; known = c.self.inside.directory; sequences = c.self.inside.order.sequences; epoch = c.self.inside.order.epoch; said = c.self.inside.said; certs = c.self.inside.certs; posts = c.self.inside.seats.posts } in v) c.args.self.now c.args.member c.in-Some.number c.as_slice-bytes.result.now c.self.view_is (ap (λ (b : List ℕ). Some (sees c.in-Some.number b)) c.as_slice-bytes.ensures.value ∙ c.in-Some.ensures) (let y : Result Bool SeatFault = Err c.in-Err.fault in y) c.call.new.self.posts (g.D.Keeper.lists c.args.keeper.now) (g.D.Keeper.lists c.call.new.keeper) (call_fell (rules_in (g.S.Checker.accepts c.args.sealer.now) (let v : Scene = record { terms = c.self.inside.seats.terms; opening = c.self.inside.opening; known = c.self.inside.directory; sequences = c.self.inside.order.sequences; epoch = c.self.inside.order.epoch; said = c.self.inside.said; certs = c.self.inside.certs; posts = c.self.inside.seats.posts } in v)) c.args.member (sees c.in-Some.number c.as_slice-bytes.result.now) c.self.inside.seats.posts c.call.new.self.posts (g.D.Keeper.lists c.args.keeper.now) (g.D.Keeper.lists c.call.new.keeper) c.in-Err.ensures.served.posts c.in-Err.ensures.served.kept)

pub returns-clause-said : goal.returns-clause-said
returns-clause-said g c =
    next_grown (let v : Scene = record { terms = c.self.inside.seats.terms; opening = c.self.inside.opening; known = c.self.inside.directory; sequences = c.self.inside.order.sequences; epoch = c.self.inside.order.epoch; said = c.self.inside.said; certs = c.self.inside.certs; posts = c.self.inside.seats.posts } in v) c.args.self.now c.tell_entry.new.said (let y : Result Bool SeatFault = Err seat_fault.OutOfMemory in y) c.self.view_is (trust_by (g.S.MakesSeals.made c.args.sealer.now) (g.S.Checker.accepts c.args.sealer.now)) c.args.member c.in-Some.number c.as_slice-bytes.result.now (next_in (trust_by (g.S.MakesSeals.made c.args.sealer.now) (g.S.Checker.accepts c.args.sealer.now)) (let v : Scene = record { terms = c.self.inside.seats.terms; opening = c.self.inside.opening; known = c.self.inside.directory; sequences = c.self.inside.order.sequences; epoch = c.self.inside.order.epoch; said = c.self.inside.said; certs = c.self.inside.certs; posts = c.self.inside.seats.posts } in v) c.args.self.now c.args.member c.in-Some.number c.as_slice-bytes.result.now c.self.view_is (ap (λ (b : List ℕ). Some (sees c.in-Some.number b)) c.as_slice-bytes.ensures.value ∙ c.in-Some.ensures)) (some_said c.self.inside.said c.tell_entry.new.said (map (said_by c.args.member) (see_stated c.in-Ok.reply)) (map (said_by c.args.member) (stated_in (rules_in (g.S.Checker.accepts c.args.sealer.now) (let v : Scene = record { terms = c.self.inside.seats.terms; opening = c.self.inside.opening; known = c.self.inside.directory; sequences = c.self.inside.order.sequences; epoch = c.self.inside.order.epoch; said = c.self.inside.said; certs = c.self.inside.certs; posts = c.self.inside.seats.posts } in v)) (sees c.in-Some.number c.as_slice-bytes.result.now) (reached_in (rules_in (g.S.Checker.accepts c.args.sealer.now) (let v : Scene = record { terms = c.self.inside.seats.terms; opening = c.self.inside.opening; known = c.self.inside.directory; sequences = c.self.inside.order.sequences; epoch = c.self.inside.order.epoch; said = c.self.inside.said; certs = c.self.inside.certs; posts = c.self.inside.seats.posts } in v)) c.self.inside.seats.posts c.args.member (sees c.in-Some.number c.as_slice-bytes.result.now)))) (sym (see_states (rules_in (g.S.Checker.accepts c.args.sealer.now) (let v : Scene = record { terms = c.self.inside.seats.terms; opening = c.self.inside.opening; known = c.self.inside.directory; sequences = c.self.inside.order.sequences; epoch = c.self.inside.order.epoch; said = c.self.inside.said; certs = c.self.inside.certs; posts = c.self.inside.seats.posts } in v)) c.args.member c.in-Some.number c.as_slice-bytes.result.now (reached_in (rules_in (g.S.Checker.accepts c.args.sealer.now) (let v : Scene = record { terms = c.self.inside.seats.terms; opening = c.self.inside.opening; known = c.self.inside.directory; sequences = c.self.inside.order.sequences; epoch = c.self.inside.order.epoch; said = c.self.inside.said; certs = c.self.inside.certs; posts = c.self.inside.seats.posts } in v)) c.self.inside.seats.posts c.args.member (sees c.in-Some.number c.as_slice-bytes.result.now)) c.in-Ok.reply c.in-Ok.ensures.served.answer)) c.in-Err-tell_entry.ensures.grew)

pub returns-in-Err-clause-said : goal.returns-in-Err-clause-said
returns-in-Err-clause-said g c =
    next_grown (let v : Scene = record { terms = c.self.inside.seats.terms; opening = c.self.inside.opening; known = c.self.inside.directory; sequences = c.self.inside.order.sequences; epoch = c.self.inside.order.epoch; said = c.self.inside.said; certs = c.self.inside.certs; posts = c.self.inside.seats.posts } in v) c.args.self.now c.self.inside.said (let y : Result Bool SeatFault = Err c.in-Err.fault in y) c.self.view_is (trust_by (g.S.MakesSeals.made c.args.sealer.now) (g.S.Checker.accepts c.args.sealer.now)) c.args.member c.in-Some.number c.as_slice-bytes.result.now (next_in (trust_by (g.S.MakesSeals.made c.args.sealer.now) (g.S.Checker.accepts c.args.sealer.now)) (let v : Scene = record { terms = c.self.inside.seats.terms; opening = c.self.inside.opening; known = c.self.inside.directory; sequences = c.self.inside.order.sequences; epoch = c.self.inside.order.epoch; said = c.self.inside.said; certs = c.self.inside.certs; posts = c.self.inside.seats.posts } in v) c.args.self.now c.args.member c.in-Some.number c.as_slice-bytes.result.now c.self.view_is (ap (λ (b : List ℕ). Some (sees c.in-Some.number b)) c.as_slice-bytes.ensures.value ∙ c.in-Some.ensures)) (none_added c.self.inside.said c.self.inside.said (map (said_by c.args.member) (stated_in (rules_in (g.S.Checker.accepts c.args.sealer.now) (let v : Scene = record { terms = c.self.inside.seats.terms; opening = c.self.inside.opening; known = c.self.inside.directory; sequences = c.self.inside.order.sequences; epoch = c.self.inside.order.epoch; said = c.self.inside.said; certs = c.self.inside.certs; posts = c.self.inside.seats.posts } in v)) (sees c.in-Some.number c.as_slice-bytes.result.now) (reached_in (rules_in (g.S.Checker.accepts c.args.sealer.now) (let v : Scene = record { terms = c.self.inside.seats.terms; opening = c.self.inside.opening; known = c.self.inside.directory; sequences = c.self.inside.order.sequences; epoch = c.self.inside.order.epoch; said = c.self.inside.said; certs = c.self.inside.certs; posts = c.self.inside.seats.posts } in v)) c.self.inside.seats.posts c.args.member (sees c.in-Some.number c.as_slice-bytes.result.now)))) refl)

pub returns-in-Ok-tell_entry-clause-width : goal.returns-in-Ok-tell_entry-clause-width
returns-in-Ok-tell_entry-clause-width g c =
    c.in-Ok.ensures.keeper.width

pub returns-clause-width : goal.returns-clause-width
returns-clause-width g c =
    c.in-Ok.ensures.keeper.width

pub returns-in-Err-clause-width : goal.returns-in-Err-clause-width
returns-in-Err-clause-width g c =
    c.in-Err.ensures.keeper.width

pub returns-in-Ok-tell_entry-clause-later : goal.returns-in-Ok-tell_entry-clause-later
returns-in-Ok-tell_entry-clause-later g c =
    c.in-Ok.ensures.keeper.later

pub returns-clause-later : goal.returns-clause-later
returns-clause-later g c =
    c.in-Ok.ensures.keeper.later

pub returns-in-Err-clause-later : goal.returns-in-Err-clause-later
returns-in-Err-clause-later g c =
    c.in-Err.ensures.keeper.later

pub returns-in-Ok-tell_entry-clause-fault : goal.returns-in-Ok-tell_entry-clause-fault
returns-in-Ok-tell_entry-clause-fault g c =
    λ f. absurd (ok_none c.in-Ok-tell_entry.goes f)

pub returns-clause-fault : goal.returns-clause-fault
returns-clause-fault g c =
    λ f. absurd (memory_none f)

pub returns-in-Err-clause-fault : goal.returns-in-Err-clause-fault
returns-in-Err-clause-fault g c =
    (keeper_err {B = Bool} c.in-Err.fault c.in-Err.ensures.keeper).fault
