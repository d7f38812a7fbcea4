-- A member that is handed entries, one after the other: after the first that it does not take, nothing changes.
use Rattle.std.proofs.Common.{◌≡◌, ◌∙◌, ap, sym, refl, subst, ℕ, zero, suc, Bool, true, false, List, [], ◌∷◌, ◌++◌, map, length, Option, Some, None, option_map, append_assoc, append-nil, arith}
use Rattle.std.specs.Prelude.{◌<◌, ◌-◌, slice_get, slice_set, option_and_then, fold}
use Rattle.chain_messages.specs.declared.messages.Entry.{Entry}
use Rattle.chain_messages.specs.Messages as messages
use Rattle.journal_core.specs.declared.records.Record.{Record}
use Rattle.journal_core.specs.declared.records.Record.TheVariants as record_as
use Rattle.protocol_spec.specs.declared.refusals.SeeRefusal.{SeeRefusal}
use Rattle.protocol_spec.specs.declared.refusals.SeeRefusal.TheVariants as no_see
use Rattle.journal_core.specs.Records as journals
use Rattle.outside.specs.Lists.{Journals, with_record}
use Rattle.report_text.specs.declared.lines.Line.{Line}
use Rattle.protocol_spec.proofs.ListLemmas.{set_get, set_same}
use Rattle.protocol_spec.specs.Chain.Words.{first_some, refused_or, unless_refused}
use Rattle.protocol_spec.specs.Chain.Certificates.{Rules}
use Rattle.protocol_spec.specs.Member.Member.{Fork, Member, after, fork_of}
use Rattle.protocol_spec.specs.Member.Calls.{Call, called, due, see_after, see_answer, see_cases, see_record, seen_as, sees}
use Rattle.world_spec.specs.Setting.{Trust}
use Rattle.world_spec.specs.World.{Said, Reached, answers, built_statements, next_call_of, next_entry, numbered_call, reached_up, said_by, stated, stops}
use Rattle.world_spec.specs.Report.{Lines, and_lines, entry_lines, entry_reached}
use Rattle.world_spec.specs.Seats.{Seated}
use Rattle.world_spec.specs.Terms.{Terms, rules_for}
use Rattle.world_spec.specs.Posts.{AddsAll, AddsFront, Post, list_of, post_behind, posts_behind, posts_with, reached_in, reached_post, reached_standing, record_left, seat_behind, stated_in, with_all}
use Rattle.world_spec.specs.Scene.{Scene, bare_setting, post_world, rules_in}
use Rattle.world_spec.specs.SceneSteps.{called_if, called_scene, left_if, next_on, seat_state, sees_left, sees_to, standing_at}
use Rattle.world_core.specs.Steps.{call_lines_in, entries_lines_in}
use Rattle.world_core.specs.Cuts.{EntriesCut, NextCut, books_in}
use Rattle.world_core.specs.Sees.{HasSeen}

module _ (r : Rules) (m : ℕ) where
  -- nothing changes, however many entries are handed in
  pub record Rests (sc : Scene) (n : ℕ) : Type 0 where
    pub scene : sees_to r n sc m ≡ sc
    pub records : sees_left r n sc m ≡ []

  -- there is no next entry
  rests_none : (sc : Scene) → next_on sc m ≡ None → (n : ℕ) → Rests sc n
  rests_none sc none zero = record { scene = refl; records = refl }
  rests_none sc none (suc n) =
      let rest = rests_none sc none n in
      record {
        scene = ap (λ (c : Option Call). sees_to r n (called_if r sc m c) m) none ∙ rest.scene;
        records = ap (λ (c : Option Call). left_if r sc m c ++ sees_left r n (called_if r sc m c) m) none ∙ rest.records;
      }

  -- the next entry changes nothing
  rests_same : (sc : Scene) (call : Call) → next_on sc m ≡ Some call → called_scene r sc m call ≡ sc → record_left (reached_in r sc.posts m call) ≡ None → (n : ℕ) → Rests sc n
  rests_same sc call next same none zero = record { scene = refl; records = refl }
  rests_same sc call next same none (suc n) =
      let rest = rests_same sc call next same none n in
      record {
        scene = ap (λ (c : Option Call). sees_to r n (called_if r sc m c) m) next ∙ ap (λ (x : Scene). sees_to r n x m) same ∙ rest.scene;
        records =
            ap (λ (c : Option Call). left_if r sc m c ++ sees_left r n (called_if r sc m c) m) next
            ∙ ap (λ (x : Option Record). list_of x ++ sees_left r n (called_scene r sc m call) m) none
            ∙ ap (λ (x : Scene). sees_left r n x m) same
            ∙ rest.records;
      }

  -- ---- a member that refuses

  module _ (sc : Scene) (p : Post) (seat : Seated) (at : slice_get sc.posts m ≡ Some p) (up : p.standing ≡ Some seat) where
    -- what becomes of a call
    reached_is : (call : Call) → reached_in r sc.posts m call ≡ reached_up seat.state p.armed (due r seat.state call)
    reached_is call =
        ap (λ (o : Option Post). reached_post r call o) at
        ∙ ap (λ (s : Option Seated). reached_standing r call p.armed s) up

    next_is : next_on sc m ≡ next_call_of (post_world sc) seat.state
    next_is =
        ap (λ (o : Option Post). option_and_then (next_call_of (post_world sc)) (option_map seat_state (standing_at o))) at
        ∙ ap (λ (s : Option Seated). option_and_then (next_call_of (post_world sc)) (option_map seat_state s)) up

    armed_none : (armed : Option Bool) → reached_up seat.state armed None ≡ answers seat.state None
    armed_none None = refl
    armed_none (Some kept) = refl

    module _ (call : Call) (none : due r seat.state call ≡ None) (mute : stated r seat.state call ≡ []) where
      answers_only : reached_in r sc.posts m call ≡ answers seat.state None
      answers_only = reached_is call ∙ ap (λ (x : Option Record). reached_up seat.state p.armed x) none ∙ armed_none p.armed

      stays_put : (standing : Option Seated) → standing ≡ Some seat → option_map (seat_behind r call) standing ≡ standing
      stays_put None e = refl
      stays_put (Some s) e =
          let same : s ≡ seat = cc in
          let held : due r s.state call ≡ None = ap (λ (x : Seated). due r x.state call) same ∙ none in
          rw (held) refl

      same_post : (old : Post) → old.standing ≡ Some seat → post_behind r call old (answers seat.state None) ≡ old
      same_post old e = ap (λ (s : Option Seated). record { honest = old.honest; standing = s; armed = old.armed }) (stays_put old.standing e)

      same_posts : posts_behind r sc.posts m call ≡ sc.posts
      same_posts =
          ap (λ (o : Option Post). posts_with r call sc.posts m o) at
          ∙ ap (λ (x : Reached). slice_set sc.posts m (post_behind r call p x)) (ap (λ (o : Option Post). reached_post r call o) (sym at) ∙ answers_only)
          ∙ ap (λ (q : Post). slice_set sc.posts m q) (same_post p up)
          ∙ set_same sc.posts m p at

      same_said : sc.said ++ map (said_by m) (stated_in r call (reached_in r sc.posts m call)) ≡ sc.said
      same_said =
          ap (λ (x : Reached). sc.said ++ map (said_by m) (stated_in r call x)) answers_only
          ∙ ap (λ xs. sc.said ++ map (said_by m) xs) mute
          ∙ append-nil sc.said

      same_scene : called_scene r sc m call ≡ sc
      same_scene =
          ap (λ (posts : List Post). record sc { posts = posts; said = sc.said ++ map (said_by m) (stated_in r call (reached_in r sc.posts m call)) }) same_posts
          ∙ ap (λ (said : List Said). record sc { said = said }) same_said

      none_left : record_left (reached_in r sc.posts m call) ≡ None
      none_left = ap (λ (x : Reached). record_left x) answers_only

    -- a case refuses the entry
    see_none : (number : ℕ) (bytes : List ℕ) (x : SeeRefusal) → first_some (see_cases seat.state number) ≡ Some x → due r seat.state (sees number bytes) ≡ None
    unfolding due
    see_none number bytes x e = ap (λ (o : Option SeeRefusal). see_record seat.state number bytes o) e

    see_mute : (number : ℕ) (bytes : List ℕ) (x : SeeRefusal) → first_some (see_cases seat.state number) ≡ Some x → stated r seat.state (sees number bytes) ≡ []
    unfolding stated see_answer
    see_mute number bytes x e =
        ap (λ (o : Option SeeRefusal). built_statements (refused_or o (see_after r seat.state (after r seat.state (record_as.See bytes)) bytes))) e

    refused_rests : (x : SeeRefusal) → first_some (see_cases seat.state seat.state.sequence.number) ≡ Some x → (n : ℕ) → Rests sc n
    refused_rests x e n = go (next_entry (post_world sc) seat.state) refl
      where
        go : (o : Option Entry) → next_entry (post_world sc) seat.state ≡ o → Rests sc n
        go None is = rests_none sc (next_is ∙ ap (λ (o : Option Entry). option_map (numbered_call seat.state.sequence.number) o) is) n
        go (Some en) is =
            let number = seat.state.sequence.number in
            let bytes = messages.entry.spell en in
            rests_same sc (sees number bytes) (next_is ∙ ap (λ (o : Option Entry). option_map (numbered_call number) o) is)
            (same_scene (sees number bytes) (see_none number bytes x e) (see_mute number bytes x e))
            (none_left (sees number bytes) (see_none number bytes x e) (see_mute number bytes x e)) n

    -- a member that met a fork
    pub halted_rests : (f : Fork) → fork_of seat.state ≡ Some f → (n : ℕ) → Rests sc n
    halted_rests f e n = refused_rests (no_see.Halted f.first f.second) (rw (e) refl) n

-- ---- after the first entry that is not taken nothing changes

module _ (trust : Trust) (sc : Scene) (m : ℕ) where
  abbrev r : Rules
  r = rules_in trust.accepts sc

  abbrev GoesNot : Option Call → Type 0
  GoesNot call = (call_lines_in trust sc m call).1 ≡ false

  abbrev RestsBehind : Option Call → ℕ → Type 0
  RestsBehind call n = Rests r m (called_if r sc m call) n

  none_next : next_on sc m ≡ None → (n : ℕ) → RestsBehind (next_on sc m) n
  none_next is n = subst (λ (c : Option Call). RestsBehind c n) (sym is) (rests_none r m sc is n)

  module _ (p : Post) (seat : Seated) (at : slice_get sc.posts m ≡ Some p) (up : p.standing ≡ Some seat) (en : Entry) where
    abbrev number : ℕ
    number = seat.state.sequence.number

    abbrev bytes : List ℕ
    bytes = messages.entry.spell en

    abbrev call : Call
    call = sees number bytes

    abbrev after_call : Scene
    after_call = called_scene r sc m call

    posts_now : (x : Reached) → reached_in r sc.posts m call ≡ x → after_call.posts ≡ slice_set sc.posts m (post_behind r call p x)
    posts_now x is =
        ap (λ (o : Option Post). posts_with r call sc.posts m o) at
        ∙ ap (λ (y : Reached). slice_set sc.posts m (post_behind r call p y)) (ap (λ (o : Option Post). reached_post r call o) (sym at) ∙ is)

    post_now : (x : Reached) → reached_in r sc.posts m call ≡ x → slice_get after_call.posts m ≡ Some (post_behind r call p x)
    post_now x is = ap (λ (posts : List Post). slice_get posts m) (posts_now x is) ∙ set_get sc.posts m p (post_behind r call p x) at

    -- it stopped
    stopped : (kept : Bool) (y : Record) → reached_in r sc.posts m call ≡ stops kept y → (n : ℕ) → Rests r m after_call n
    stopped kept y is n =
        rests_none r m after_call (ap (λ (o : Option Post). option_and_then (next_call_of (post_world after_call)) (option_map seat_state (standing_at o))) (post_now (stops kept y) is)) n

    -- it refused the entry
    refused : (z : SeeRefusal) → first_some (see_cases seat.state number) ≡ Some z → (n : ℕ) → Rests r m after_call n
    refused z e n =
        subst (λ (x : Scene). Rests r m x n) (sym (same_scene r m sc p seat at up call (see_none r m sc p seat at up number bytes z e) (see_mute r m sc p seat at up number bytes z e)))
        (refused_rests r m sc p seat at up z e n)

    -- it met a fork
    forked : (f : Fork) → first_some (see_cases seat.state number) ≡ None → fork_of (after r seat.state (record_as.See bytes)) ≡ Some f → (x : Option Record) → reached_in r sc.posts m call ≡ answers seat.state x → (n : ℕ) → Rests r m after_call n
    unfolding due
    forked f free e x is n =
        let next : Seated = record seat { state = called r seat.state call } in
        let state_is : called r seat.state call ≡ after r seat.state (record_as.See bytes) = rw (free) refl in
        let fork_is : fork_of next.state ≡ Some f = ap (λ (s : Member). fork_of s) state_is ∙ e in
        let now : Post = post_behind r call p (answers seat.state x) in
        let stands : now.standing ≡ Some next = ap (λ (s : Option Seated). option_map (seat_behind r call) s) up in
        halted_rests r m after_call now next (post_now (answers seat.state x) is) stands f fork_is n

    -- it answered, and nothing goes on
    answered_not : (x : Option Record) → reached_in r sc.posts m call ≡ answers seat.state x → (entry_lines (bare_setting trust sc) (post_world sc) m number (see_answer r seat.state number bytes)).1 ≡ false → (n : ℕ) → Rests r m after_call n
    unfolding see_answer
    answered_not x is not n = by_case (first_some (see_cases seat.state number)) refl not
      where
        by_fork : (f : Option Fork) → fork_of (after r seat.state (record_as.See bytes)) ≡ f → first_some (see_cases seat.state number) ≡ None
            → (entry_lines (bare_setting trust sc) (post_world sc) m number (unless_refused (option_map (λ (g : Fork). no_see.Fork g.key g.first g.second) f) (seen_as r seat.state (after r seat.state (record_as.See bytes)) bytes))).1 ≡ false → Rests r m after_call n
        by_fork None e free ends = absurd (cc)
        by_fork (Some f) e free ends = forked f free e x is n

        by_case : (z : Option SeeRefusal) → first_some (see_cases seat.state number) ≡ z → (entry_lines (bare_setting trust sc) (post_world sc) m number (refused_or z (see_after r seat.state (after r seat.state (record_as.See bytes)) bytes))).1 ≡ false → Rests r m after_call n
        by_case (Some z) e ends = refused z e n
        by_case None e ends = by_fork (fork_of (after r seat.state (record_as.See bytes))) refl e ends

    by_reached : GoesNot (Some call) → (n : ℕ) → Rests r m after_call n
    by_reached not n = go p.armed (due r seat.state call) (reached_is r m sc p seat at up call)
      where
        lines_are : (x : Reached) → reached_in r sc.posts m call ≡ x → (entry_reached (bare_setting trust sc) (post_world sc) m number bytes x).1 ≡ false
        lines_are x is = ap (λ (y : Reached). (entry_reached (bare_setting trust sc) (post_world sc) m number bytes y).1) (sym is) ∙ not

        go : (armed : Option Bool) (x : Option Record) → reached_in r sc.posts m call ≡ reached_up seat.state armed x → Rests r m after_call n
        go None x is = answered_not x is (lines_are (answers seat.state x) is) n
        go (Some kept) None is = answered_not None is (lines_are (answers seat.state None) is) n
        go (Some kept) (Some y) is = stopped kept y is n

  pub ends_there : GoesNot (next_on sc m) → (n : ℕ) → RestsBehind (next_on sc m) n
  ends_there not n = by_post (slice_get sc.posts m) refl
    where
      by_entry : (p : Post) (seat : Seated) (at : slice_get sc.posts m ≡ Some p) (up : p.standing ≡ Some seat) (en : Option Entry) → next_entry (post_world sc) seat.state ≡ en → RestsBehind (next_on sc m) n
      by_entry p seat at up None is =
          none_next (next_is r m sc p seat at up ∙ ap (λ (o : Option Entry). option_map (numbered_call seat.state.sequence.number) o) is) n
      by_entry p seat at up (Some en) is =
          let next : next_on sc m ≡ Some (sees seat.state.sequence.number (messages.entry.spell en)) = next_is r m sc p seat at up ∙ ap (λ (o : Option Entry). option_map (numbered_call seat.state.sequence.number) o) is in
          subst (λ (c : Option Call). RestsBehind c n) (sym next) (by_reached p seat at up en (subst GoesNot next not) n)

      by_standing : (p : Post) (at : slice_get sc.posts m ≡ Some p) (standing : Option Seated) → p.standing ≡ standing → RestsBehind (next_on sc m) n
      by_standing p at None up =
          none_next (ap (λ (o : Option Post). option_and_then (next_call_of (post_world sc)) (option_map seat_state (standing_at o))) at ∙ ap (λ (s : Option Seated). option_and_then (next_call_of (post_world sc)) (option_map seat_state s)) up) n
      by_standing p at (Some seat) up = by_entry p seat at up (next_entry (post_world sc) seat.state) refl

      by_post : (post : Option Post) → slice_get sc.posts m ≡ post → RestsBehind (next_on sc m) n
      by_post None at = none_next (ap (λ (o : Option Post). option_and_then (next_call_of (post_world sc)) (option_map seat_state (standing_at o))) at) n
      by_post (Some p) at = by_standing p at p.standing refl

-- ---- observable lists grow in steps

fold_join : {A B : Type 0} (f : B → A → B) (b : B) (xs ys : List A) → fold f b (xs ++ ys) ≡ fold f (fold f b xs) ys
fold_join f b [] ys = refl
fold_join f b (x ∷ xs) ys = fold_join f (f b x) xs ys

pub adds_none : (told : Option Journals) (m : ℕ) → AddsAll told told m []
adds_none None m = tt
adds_none (Some lists) m = refl

adds_then : (a b c : Option Journals) (m : ℕ) (xs ys : List Record) → AddsAll a b m xs → AddsAll b c m ys → AddsAll a c m (xs ++ ys)
adds_then None b c m xs ys one two = tt
adds_then (Some lists) b c m xs ys one two =
    let more : c ≡ Some (with_all (with_all lists m xs) m ys) = subst (λ (told : Option Journals). AddsAll told c m ys) one two in
    more ∙ ap (λ (l : Journals). Some l) (sym (fold_join (λ (told : Journals) (x : Record). with_record told m (journals.journal_record.spell x)) lists xs ys))

-- ---- one entry more at the end

sees_more : (r : Rules) (k : ℕ) (sc : Scene) (m : ℕ) → sees_to r (suc k) sc m ≡ called_if r (sees_to r k sc m) m (next_on (sees_to r k sc m) m)
sees_more r zero sc m = refl
sees_more r (suc k) sc m = sees_more r k (called_if r sc m (next_on sc m)) m

left_more : (r : Rules) (k : ℕ) (sc : Scene) (m : ℕ) → sees_left r (suc k) sc m ≡ sees_left r k sc m ++ left_if r (sees_to r k sc m) m (next_on (sees_to r k sc m) m)
left_more r zero sc m = append-nil (left_if r sc m (next_on sc m))
left_more r (suc k) sc m =
    ap (λ (xs : List Record). left_if r sc m (next_on sc m) ++ xs) (left_more r k (called_if r sc m (next_on sc m)) m)
    ∙ sym (append_assoc (left_if r sc m (next_on sc m)) (sees_left r k (called_if r sc m (next_on sc m)) m) (left_if r (sees_to r (suc k) sc m) m (next_on (sees_to r (suc k) sc m) m)))

-- ---- entry after entry

module _ (trust : Trust) (m n : ℕ) (old : Scene) (before : Option Journals) (lines : List Line) where
  -- before the first entry all `n` are left, and nothing was added
  pub seen_none : HasSeen trust m n old old before before lines lines n
  seen_none = record { scene = refl; says = refl; done = []; records = refl; adds = adds_none before m; taken = 0; sum = omega arith; reached = refl; gave = refl; books = refl; rules = refl; many = refl }

  module _ (now next : Scene) (told later : Option Journals) (so_far more : List Line) (left : ℕ) (some : 0 < left) (has_ : HasSeen trust m n old now before told lines so_far left) where
    abbrev still : ℕ
    still = left - 1

    has : HasSeen trust m n old now before told lines so_far (suc still)
    has = subst (λ (k : ℕ). HasSeen trust m n old now before told lines so_far k) (omega (arith, some)) has_

    abbrev rules_now : Rules
    rules_now = rules_in trust.accepts now

    abbrev rules_old : Rules
    rules_old = rules_in trust.accepts old

    same_rules : rules_now ≡ rules_old
    same_rules = ap (λ (t : Terms). rules_for t trust.accepts) has.rules

    called_now : next ≡ called_if rules_now now m (next_on now m) → next ≡ called_if rules_old now m (next_on now m)
    called_now is = is ∙ ap (λ (r : Rules). called_if r now m (next_on now m)) same_rules

    left_now : AddsAll told later m (left_if rules_now now m (next_on now m)) → AddsAll told later m (left_if rules_old now m (next_on now m))
    left_now adds = subst (λ (r : Rules). AddsAll told later m (left_if r now m (next_on now m))) same_rules adds

    scene_now : next ≡ called_if rules_now now m (next_on now m) → sees_to rules_old still next m ≡ sees_to rules_old n old m
    scene_now is = ap (λ (x : Scene). sees_to rules_old still x m) (called_now is) ∙ has.scene

    -- one entry more
    pub seen_one : next ≡ called_if rules_now now m (next_on now m) → books_in next ≡ books_in now → next.terms ≡ now.terms → length next.posts ≡ length now.posts → more ≡ so_far ++ (call_lines_in trust now m (next_on now m)).0
        → true ≡ (call_lines_in trust now m (next_on now m)).1 → AddsAll told later m (left_if rules_now now m (next_on now m)) → HasSeen trust m n old next before later lines more (left - 1)
    seen_one is books terms many said goes adds =
        record {
          scene = scene_now is;
          says =
              ap (λ (ls : List Line). ls ++ entries_lines_in trust still next m) said
              ∙ append_assoc so_far (call_lines_in trust now m (next_on now m)).0 (entries_lines_in trust still next m)
              ∙ ap (λ (ls : List Line). so_far ++ ls) (joined (call_lines_in trust now m (next_on now m)) goes)
              ∙ has.says;
          done = has.done ++ left_if rules_old now m (next_on now m);
          records =
              has.records
              ∙ sym (append_assoc has.done (left_if rules_old now m (next_on now m)) (sees_left rules_old still (called_if rules_old now m (next_on now m)) m))
              ∙ ap (λ (x : Scene). (has.done ++ left_if rules_old now m (next_on now m)) ++ sees_left rules_old still x m) (sym (called_now is));
          adds = adds_then before told later m has.done (left_if rules_old now m (next_on now m)) has.adds (left_now adds);
          taken = suc has.taken;
          sum = let all = has.sum in omega (arith, all);
          reached = called_now is ∙ ap (λ (x : Scene). called_if rules_old x m (next_on x m)) has.reached ∙ sym (sees_more rules_old has.taken old m);
          gave =
              ap (λ (xs : List Record). xs ++ left_if rules_old now m (next_on now m)) has.gave
              ∙ ap (λ (x : Scene). sees_left rules_old has.taken old m ++ left_if rules_old x m (next_on x m)) has.reached
              ∙ sym (left_more rules_old has.taken old m);
          books = books ∙ has.books;
          rules = terms ∙ has.rules;
          many = many ∙ has.many;
        }
      where
        joined : (ls : Lines) → true ≡ ls.1 → ls.0 ++ entries_lines_in trust still next m ≡ and_lines ls (entries_lines_in trust still (called_if rules_now now m (next_on now m)) m)
        joined (ls, true) e = ap (λ (x : Scene). ls ++ entries_lines_in trust still x m) is
        joined (ls, false) e = absurd (cc)

    module _ (is : next ≡ called_if rules_now now m (next_on now m)) (goes : false ≡ (call_lines_in trust now m (next_on now m)).1) where
      rests : Rests rules_old m next still
      rests =
          subst (λ (r : Rules). Rests r m next still) same_rules
          (subst (λ (x : Scene). Rests rules_now m x still) (sym is) (ends_there trust now m (sym goes) still))

      -- the last one, after which nothing goes on
      pub last_scene : next ≡ sees_to rules_old n old m
      last_scene = sym rests.scene ∙ scene_now is

      pub last_lines : more ≡ so_far ++ (call_lines_in trust now m (next_on now m)).0 → more ≡ lines ++ entries_lines_in trust n old m
      last_lines said = said ∙ ap (λ (ls : List Line). so_far ++ ls) (cut_off (call_lines_in trust now m (next_on now m)) goes) ∙ has.says
        where
          cut_off : (ls : Lines) → false ≡ ls.1 → ls.0 ≡ and_lines ls (entries_lines_in trust still (called_if rules_now now m (next_on now m)) m)
          cut_off (ls, false) e = refl
          cut_off (ls, true) e = absurd (cc)

      pub last_kept : AddsAll told later m (left_if rules_now now m (next_on now m)) → AddsAll before later m (sees_left rules_old n old m)
      last_kept adds =
          subst (λ (xs : List Record). AddsAll before later m xs)
          (sym (append-nil (has.done ++ left_if rules_old now m (next_on now m)))
          ∙ ap (λ (xs : List Record). (has.done ++ left_if rules_old now m (next_on now m)) ++ xs) (sym rests.records ∙ ap (λ (x : Scene). sees_left rules_old still x m) (called_now is))
          ∙ append_assoc has.done (left_if rules_old now m (next_on now m)) (sees_left rules_old still (called_if rules_old now m (next_on now m)) m)
          ∙ sym has.records)
          (adds_then before told later m has.done (left_if rules_old now m (next_on now m)) has.adds (left_now adds))

    -- if it did not end
    pub seen_cut : AddsFront told later m (left_if rules_now now m (next_on now m)) → AddsFront before later m (sees_left rules_old n old m)
    seen_cut adds =
        record {
          front = has.done ++ adds.front;
          rest = adds.rest ++ sees_left rules_old still (called_if rules_old now m (next_on now m)) m;
          is =
              has.records
              ∙ ap (λ (xs : List Record). has.done ++ (xs ++ sees_left rules_old still (called_if rules_old now m (next_on now m)) m)) (sym (ap (λ (r : Rules). left_if r now m (next_on now m)) same_rules) ∙ adds.is)
              ∙ ap (λ (xs : List Record). has.done ++ xs) (append_assoc adds.front adds.rest (sees_left rules_old still (called_if rules_old now m (next_on now m)) m))
              ∙ sym (append_assoc has.done adds.front (adds.rest ++ sees_left rules_old still (called_if rules_old now m (next_on now m)) m));
          adds = adds_then before told later m has.done adds.front has.adds adds.adds;
        }

    pub seen_broken : NextCut rules_now now m (next_on now m) next.posts told later → EntriesCut rules_old m n old next.posts before later
    seen_broken cut =
        record {
          taken = has.taken;
          few = let all = has.sum in omega (arith, all);
          told = told;
          adds = subst (λ (xs : List Record). AddsAll before told m xs) has.gave has.adds;
          next =
              subst (λ (x : Scene). NextCut rules_old x m (next_on x m) next.posts told later) has.reached
              (subst (λ (r : Rules). NextCut r now m (next_on now m) next.posts told later) same_rules cut);
        }

  -- all were handed in
  module _ (now : Scene) (told : Option Journals) (so_far : List Line) (has : HasSeen trust m n old now before told lines so_far 0) where
    pub all_scene : now ≡ sees_to (rules_in trust.accepts old) n old m
    all_scene = has.scene

    pub all_lines : so_far ≡ lines ++ entries_lines_in trust n old m
    all_lines = sym (append-nil so_far) ∙ has.says

    pub all_kept : AddsAll before told m (sees_left (rules_in trust.accepts old) n old m)
    all_kept = subst (λ (xs : List Record). AddsAll before told m xs) (sym (append-nil has.done) ∙ sym has.records) has.adds
