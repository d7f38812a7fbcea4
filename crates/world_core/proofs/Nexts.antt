-- The next entry of a member, by what is seen of it.
use Rattle.std.proofs.Common.{◌≡◌, ◌∙◌, ap, sym, refl, subst, ℕ, Bool, true, false, cond, List, ◌++◌, length, map, Option, Some, None, option_map, Result, Ok, Err}
use Rattle.std.specs.Prelude.{OnOk, option_and_then, slice_get}
use Rattle.chain_messages.specs.declared.messages.Entry.{Entry}
use Rattle.journal_core.specs.declared.records.Record.{Record}
use Rattle.outside.specs.Lists.{Journals}
use Rattle.report_text.specs.declared.lines.Line.{Line}
use Rattle.protocol_spec.specs.Member.Member.{Member}
use Rattle.protocol_spec.specs.Member.Calls.{Call, sees}
use Rattle.protocol_spec.specs.declared.answers.Seen.{Seen}
use Rattle.protocol_spec.specs.declared.refusals.SeeRefusal.{SeeRefusal}
use Rattle.world_core.specs.declared.reply.Reply.{Reply}
use Rattle.world_lines.specs.Orders.{spelled_entry}
use Rattle.world_spec.specs.Setting.{Trust}
use Rattle.world_spec.specs.World.{Said, entries_at, next_call_of, numbered_call, said_by}
use Rattle.world_spec.specs.Report.{Lines}
use Rattle.world_spec.specs.Posts.{AddsAll, AddsFront, Post, list_of, posts_behind, reached_in, record_left, stated_in}
use Rattle.world_spec.specs.Terms.{Terms}
use Rattle.world_spec.specs.Scene.{Scene, post_world, rules_in}
use Rattle.world_spec.specs.Seats.{Seated}
use Rattle.world_spec.specs.SceneSteps.{called_if, called_scene, left_if, next_on, seat_state, standing_at}
use Rattle.world_core.specs.Steps.{call_lines_in}
use Rattle.world_core.specs.Stays.{Stays}
use Rattle.world_core.specs.Replies.{Leaves, Replies, SaysSee}
use Rattle.world_core.specs.Sees.{LeavesAll, next_by, next_for, see_replied}
use Rattle.world_core.proofs.Lines.{adds_all, adds_front}
use Rattle.world_core.proofs.SeeTexts.{see_reply}

module _ (posts : List Post) (sequences : List (List Entry)) (m : ℕ) where
  by_standing : (standing : Option Seated) → standing ≡ standing_at (slice_get posts m) → next_by posts sequences m ≡ option_and_then (next_for sequences) (option_map seat_state standing)
  by_standing standing is = ap (λ (s : Option Seated). option_and_then (next_for sequences) (option_map seat_state s)) (sym is)

  pub by_none : None ≡ standing_at (slice_get posts m) → None ≡ next_by posts sequences m
  by_none is = sym (by_standing None is)

  module _ (seat : Seated) (is : Some seat ≡ standing_at (slice_get posts m)) where
    pub by_ended : seat.state.sequence.ended ≡ true → None ≡ next_by posts sequences m
    by_ended ended =
        sym (by_standing (Some seat) is
        ∙ ap (λ (b : Bool). option_map (numbered_call seat.state.sequence.number) (cond b None (slice_get (entries_at sequences seat.state.epoch) seat.state.sequence.number))) ended)

    unended : seat.state.sequence.ended ≡ false → next_by posts sequences m ≡ option_map (numbered_call seat.state.sequence.number) (slice_get (entries_at sequences seat.state.epoch) seat.state.sequence.number)
    unended ended =
        by_standing (Some seat) is
        ∙ ap (λ (b : Bool). option_map (numbered_call seat.state.sequence.number) (cond b None (slice_get (entries_at sequences seat.state.epoch) seat.state.sequence.number))) ended

    called_as : (n : ℕ) (e : Option Entry) (bytes : Option (List ℕ)) → bytes ≡ option_map spelled_entry e → option_map (sees n) bytes ≡ option_map (numbered_call n) e
    called_as n None bytes e = ap (λ (b : Option (List ℕ)). option_map (sees n) b) e
    called_as n (Some entry) bytes e = ap (λ (b : Option (List ℕ)). option_map (sees n) b) e

    by_bytes : (n epoch : ℕ) (bytes : Option (List ℕ)) → seat.state.sequence.ended ≡ false → n ≡ seat.state.sequence.number → epoch ≡ seat.state.epoch → bytes ≡ option_map spelled_entry (slice_get (entries_at sequences epoch) n)
        → option_map (sees n) bytes ≡ next_by posts sequences m
    by_bytes n epoch bytes ended number at found =
        called_as n (slice_get (entries_at sequences epoch) n) bytes found
        ∙ ap (λ (k : ℕ). option_map (numbered_call k) (slice_get (entries_at sequences epoch) k)) number
        ∙ ap (λ (k : ℕ). option_map (numbered_call seat.state.sequence.number) (slice_get (entries_at sequences k) seat.state.sequence.number)) at
        ∙ sym (unended ended)

    pub by_left : (n epoch : ℕ) → seat.state.sequence.ended ≡ false → n ≡ seat.state.sequence.number → epoch ≡ seat.state.epoch → None ≡ option_map spelled_entry (slice_get (entries_at sequences epoch) n)
        → None ≡ next_by posts sequences m
    by_left n epoch ended number at found = by_bytes n epoch None ended number at found

    pub by_some : (n epoch : ℕ) (bytes : List ℕ) → seat.state.sequence.ended ≡ false → n ≡ seat.state.sequence.number → epoch ≡ seat.state.epoch → Some bytes ≡ option_map spelled_entry (slice_get (entries_at sequences epoch) n)
        → Some (sees n bytes) ≡ next_by posts sequences m
    by_some n epoch bytes ended number at found = by_bytes n epoch (Some bytes) ended number at found

-- in a scene it is the definition's
same_next : (sc : Scene) (o : Option Member) → option_and_then (next_for sc.sequences) o ≡ option_and_then (next_call_of (post_world sc)) o
same_next sc None = refl
same_next sc (Some m) = refl

pub next_is : (sc : Scene) (m : ℕ) → next_by sc.posts sc.sequences m ≡ next_on sc m
next_is sc m = same_next sc (option_map seat_state (standing_at (slice_get sc.posts m)))

-- ---- what handing in the next entry leaves, in the scene

module _ (trust : Trust) (v sc : Scene) (m number : ℕ) (bytes : List ℕ) (view : v ≡ sc) (next : Some (sees number bytes) ≡ next_by v.posts v.sequences m) where
  pub next_in : next_on sc m ≡ Some (sees number bytes)
  next_in = ap (λ (x : Scene). next_on x m) (sym view) ∙ sym (next_is v m) ∙ sym next

  pub next_lines : {E : Type 0} (stakes : List ℕ) (given : Reply (Result Seen SeeRefusal)) (result : Result Bool E) (old new : List Line) → stakes ≡ v.terms.stakes → Replies (SaysSee (rules_in trust.accepts v) number bytes) (reached_in (rules_in trust.accepts v) v.posts m (sees number bytes)) given
      → OnOk result (new ≡ old ++ (see_replied v.known stakes m number given).0) → OnOk result (new ≡ old ++ (call_lines_in trust sc m (next_on sc m)).0)
  next_lines stakes given (Err e) old new by says is = tt
  next_lines stakes given (Ok goes) old new by says is =
      is
      ∙ ap (λ (ls : Lines). old ++ ls.0) (see_reply trust v stakes m number bytes (reached_in (rules_in trust.accepts v) v.posts m (sees number bytes)) given by says)
      ∙ ap (λ (x : Scene). old ++ (call_lines_in trust x m (Some (sees number bytes))).0) view
      ∙ ap (λ (c : Option Call). old ++ (call_lines_in trust sc m c).0) (sym next_in)

  pub next_goes : (stakes : List ℕ) (given : Reply (Result Seen SeeRefusal)) (goes : Bool) → stakes ≡ v.terms.stakes → Replies (SaysSee (rules_in trust.accepts v) number bytes) (reached_in (rules_in trust.accepts v) v.posts m (sees number bytes)) given
      → goes ≡ (see_replied v.known stakes m number given).1 → goes ≡ (call_lines_in trust sc m (next_on sc m)).1
  next_goes stakes given goes by says is =
      is
      ∙ ap (λ (ls : Lines). ls.1) (see_reply trust v stakes m number bytes (reached_in (rules_in trust.accepts v) v.posts m (sees number bytes)) given by says)
      ∙ ap (λ (x : Scene). (call_lines_in trust x m (Some (sees number bytes))).1) view
      ∙ ap (λ (c : Option Call). (call_lines_in trust sc m c).1) (sym next_in)

  left_is : list_of (record_left (reached_in (rules_in trust.accepts v) v.posts m (sees number bytes))) ≡ left_if (rules_in trust.accepts sc) sc m (next_on sc m)
  left_is = ap (λ (x : Scene). left_if (rules_in trust.accepts x) x m (Some (sees number bytes))) view ∙ ap (λ (c : Option Call). left_if (rules_in trust.accepts sc) sc m c) (sym next_in)

  pub next_kept : {E : Type 0} (result : Result Bool E) (before now : Option Journals)
      → Leaves before now m (record_left (reached_in (rules_in trust.accepts v) v.posts m (sees number bytes))) result → LeavesAll before now m (left_if (rules_in trust.accepts sc) sc m (next_on sc m)) result
  next_kept (Ok goes) before now is = subst (λ (xs : List Record). AddsAll before now m xs) left_is (adds_all before now m (record_left (reached_in (rules_in trust.accepts v) v.posts m (sees number bytes))) is)
  next_kept (Err e) before now is = subst (λ (xs : List Record). AddsFront before now m xs) left_is (adds_front before now m (record_left (reached_in (rules_in trust.accepts v) v.posts m (sees number bytes))) is)

  -- after it, by its members and what it states
  pub next_world : (terms : Terms) (posts : List Post) (said : List Said) → terms ≡ v.terms → posts ≡ posts_behind (rules_in trust.accepts v) v.posts m (sees number bytes)
      → said ≡ v.said ++ map (said_by m) (stated_in (rules_in trust.accepts v) (sees number bytes) (reached_in (rules_in trust.accepts v) v.posts m (sees number bytes)))
      → record v { terms = terms; said = said; posts = posts } ≡ called_if (rules_in trust.accepts sc) sc m (next_on sc m)
  next_world terms posts said t p s =
      ap (λ (x : Terms). record v { terms = x; said = said; posts = posts }) t
      ∙ ap (λ (x : List Post). record v { said = said; posts = x }) p
      ∙ ap (λ (x : List Said). record v { said = x; posts = posts_behind (rules_in trust.accepts v) v.posts m (sees number bytes) }) s
      ∙ ap (λ (x : Scene). called_scene (rules_in trust.accepts x) x m (sees number bytes)) view
      ∙ ap (λ (c : Option Call). called_if (rules_in trust.accepts sc) sc m c) (sym next_in)

  pub next_stays : (terms : Terms) (posts : List Post) (said : List Said) → terms ≡ v.terms → length posts ≡ length v.posts → Stays sc (record v { terms = terms; said = said; posts = posts })
  next_stays terms posts said t many = subst (λ (x : Scene). Stays x (record v { terms = terms; said = said; posts = posts })) view (record { many = many; terms = t })
