-- The line that hands a member entries, in each of its ways.
use Rattle.std.proofs.Common.{◌≡◌, ◌∙◌, ap, sym, refl, subst, ℕ, suc, true, false, List, [], ◌∷◌, length, Option, Some, None, option_map, Result, Ok, Err, OnErr, append-nil, arith}
use Rattle.std.proofs.lemmas.Bool.{eqb-true}
use Rattle.std.specs.Prelude.{◌==◌, min, slice_get}
use Rattle.digest_core.specs.declared.Digest.{Digest}
use Rattle.outside.specs.Lists.{Journals}
use Rattle.journal_core.specs.declared.records.Record.{Record}
use Rattle.report_text.specs.declared.lines.Line.{Line}
use Rattle.report_text.specs.declared.lines.Line.TheVariants as line
use Rattle.report_text.specs.declared.lines.SeeText.TheVariants as see_text
use Rattle.protocol_spec.specs.Chain.Certificates.{Rules}
use Rattle.protocol_spec.specs.Member.Member.{Fork, Member, fork_of}
use Rattle.world_spec.specs.Setting.{Trust}
use Rattle.world_spec.specs.Names.{tx_name}
use Rattle.world_spec.specs.Step.{entries_left}
use Rattle.world_spec.specs.Report.{none_taken}
use Rattle.world_spec.specs.Known.{world_with}
use Rattle.world_spec.specs.Seats.{Seated}
use Rattle.world_spec.specs.Posts.{AddsAll, AddsFront, Post}
use Rattle.world_spec.specs.Scene.{Scene, post_world, rules_in}
use Rattle.world_spec.specs.SceneSteps.{Work, hands, seat_state, sees_left, sees_to, standing_at, state_at}
use Rattle.world_core.specs.Steps.{entries_lines_in, see_halted_in, see_lines_in, worked}
use Rattle.world_core.specs.Cuts.{EntriesCut, LineCut}
use Rattle.world_core.specs.Kept.{LeavesAs}
use Rattle.world_core.proofs.Cuts.{entries_ended}
use Rattle.world_core.proofs.Seeing.{Rests, adds_none, halted_rests}

min_none : (n : ℕ) → min n 0 ≡ 0
min_none n = omega arith

abbrev pair : Digest → Digest → Digest × Digest
pair first second = (first, second)

-- the transactions of a fork
abbrev both : Fork → Digest × Digest
both f = (f.first, f.second)

same_pair : (x y : Digest × Digest) → Some x ≡ Some y → x ≡ y
same_pair x y e = cc

-- the work of the line
abbrev pub see_work : Scene → ℕ → ℕ → Option Member → Work
see_work sc m e state = hands m (min e (entries_left (post_world sc) state))

module _ (trust : Trust) (sc : Scene) (m e : ℕ) where
  abbrev r : Rules
  r = rules_in trust.accepts sc

  state_is : (standing : Option Seated) → standing ≡ standing_at (slice_get sc.posts m) → option_map seat_state standing ≡ state_at sc m
  state_is standing is = ap (λ (s : Option Seated). option_map seat_state s) is

  leaves_none : {A E : Type 0} (n : ℕ) (told : Option Journals) (result : Result A E) → sees_left r n sc m ≡ [] → LeavesAs r sc (hands m n) told told result
  leaves_none n told (Ok a) is = subst (λ (xs : List Record). AddsAll told told m xs) (sym is) (adds_none told m)
  leaves_none n told (Err x) is = record { front = []; rest = sees_left r n sc m; is = refl; adds = adds_none told m }

  -- ---- a member that is down

  module _ (down : None ≡ standing_at (slice_get sc.posts m)) where
    none_left : min e (entries_left (post_world sc) (state_at sc m)) ≡ 0
    none_left = ap (λ (s : Option Member). min e (entries_left (post_world sc) s)) (sym (state_is None down)) ∙ min_none e

    pub down_world : sc ≡ worked trust.seal r sc (see_work sc m e (state_at sc m))
    down_world = ap (λ (n : ℕ). sees_to r n sc m) (sym none_left)

    pub down_lines : (lines : List Line) → lines ≡ line.See m see_text.Down ∷ [] → lines ≡ see_lines_in trust sc m e (state_at sc m)
    down_lines lines is = is ∙ ap (λ (s : Option Member). see_lines_in trust sc m e s) (state_is None down)

    pub down_kept : {A E : Type 0} (told : Option Journals) (result : Result A E) → LeavesAs r sc (see_work sc m e (state_at sc m)) told told result
    down_kept told result = leaves_none (min e (entries_left (post_world sc) (state_at sc m))) told result (ap (λ (n : ℕ). sees_left r n sc m) none_left)

  -- ---- a member that is up

  module _ (seat : Seated) (at : Some seat ≡ standing_at (slice_get sc.posts m)) where
    post_of : (p : Option Post) → slice_get sc.posts m ≡ p → Some seat ≡ standing_at p → (q : Post) × (slice_get sc.posts m ≡ Some q) × (q.standing ≡ Some seat)
    post_of None is up = absurd (cc)
    post_of (Some q) is up = (q, is, sym up)

    post_here : (q : Post) × (slice_get sc.posts m ≡ Some q) × (q.standing ≡ Some seat)
    post_here = post_of (slice_get sc.posts m) refl at

    -- one that met a fork
    module _ (first second : Digest) (fork : Some (pair first second) ≡ option_map both (fork_of seat.state)) where
      fork_is : (found : Option Fork) → fork_of seat.state ≡ found → (f : Fork) × (fork_of seat.state ≡ Some f) × (f.first ≡ first) × (f.second ≡ second)
      fork_is None is =
          absurd (let no : Some (pair first second) ≡ option_map both None = fork ∙ ap (λ (o : Option Fork). option_map both o) is in cc)
      fork_is (Some f) is =
          let yes : Some (pair first second) ≡ Some (both f) = fork ∙ ap (λ (o : Option Fork). option_map both o) is in
          let same : pair first second ≡ both f = same_pair (pair first second) (both f) yes in
          (f, is, sym (ap (λ (x : Digest × Digest). x.0) same), sym (ap (λ (x : Digest × Digest). x.1) same))

      fork_here : (f : Fork) × (fork_of seat.state ≡ Some f) × (f.first ≡ first) × (f.second ≡ second)
      fork_here = fork_is (fork_of seat.state) refl

      rests : (n : ℕ) → Rests r m sc n
      rests n = halted_rests r m sc post_here.0 seat post_here.1 post_here.2 fork_here.0 fork_here.1 n

      pub halted_world : sc ≡ worked trust.seal r sc (see_work sc m e (state_at sc m))
      halted_world = sym (rests (min e (entries_left (post_world sc) (state_at sc m)))).scene

      pub halted_kept : {A E : Type 0} (told : Option Journals) (result : Result A E) → LeavesAs r sc (see_work sc m e (state_at sc m)) told told result
      halted_kept told result = leaves_none (min e (entries_left (post_world sc) (state_at sc m))) told result (rests (min e (entries_left (post_world sc) (state_at sc m)))).records

      pub halted_lines : (lines : List Line) → lines ≡ line.See m (see_text.Halted (tx_name (world_with sc.known) first) (tx_name (world_with sc.known) second)) ∷ [] → lines ≡ see_lines_in trust sc m e (state_at sc m)
      halted_lines lines is =
          is
          ∙ ap (λ (d : Digest). line.See m (see_text.Halted (tx_name (world_with sc.known) d) (tx_name (world_with sc.known) second)) ∷ []) (sym fork_here.2)
          ∙ ap (λ (d : Digest). line.See m (see_text.Halted (tx_name (world_with sc.known) fork_here.0.first) (tx_name (world_with sc.known) d)) ∷ []) (sym fork_here.3)
          ∙ sym (ap (λ (o : Option Fork). see_halted_in trust sc m (min e (entries_left (post_world sc) (Some seat.state))) o) fork_here.1)
          ∙ ap (λ (s : Option Member). see_lines_in trust sc m e s) (state_is (Some seat) at)

    -- one that takes them
    module _ (n : ℕ) (many : n ≡ min e (entries_left (post_world sc) (Some seat.state))) where
      many_is : n ≡ min e (entries_left (post_world sc) (state_at sc m))
      many_is = many ∙ ap (λ (s : Option Member). min e (entries_left (post_world sc) s)) (state_is (Some seat) at)

      pub taken_world : (new : Scene) → new ≡ sees_to r n sc m → new ≡ worked trust.seal r sc (see_work sc m e (state_at sc m))
      taken_world new is = is ∙ ap (λ (k : ℕ). sees_to r k sc m) many_is

      pub taken_kept : {B F : Type 0} (before now : Option Journals) (result : Result B F) → AddsAll before now m (sees_left r n sc m) → LeavesAs r sc (see_work sc m e (state_at sc m)) before now result
      taken_kept before now (Ok b) is = subst (λ (k : ℕ). AddsAll before now m (sees_left r k sc m)) many_is is
      taken_kept before now (Err b) is =
          subst (λ (k : ℕ). AddsFront before now m (sees_left r k sc m)) many_is (record { front = sees_left r n sc m; rest = []; is = sym (append-nil (sees_left r n sc m)); adds = is })

      pub taken_cut : (B F : Type 0) (before now : Option Journals) (f : F) → AddsFront before now m (sees_left r n sc m) → LeavesAs r sc (see_work sc m e (state_at sc m)) before now (let x : Result B F = Err f in x)
      taken_cut B F before now f is = subst (λ (k : ℕ). AddsFront before now m (sees_left r k sc m)) many_is is

      pub taken_broken : (new : List Post) (before now : Option Journals) → EntriesCut r m n sc new before now → LineCut r sc (see_work sc m e (state_at sc m)) new before now
      taken_broken new before now is = subst (λ (k : ℕ). EntriesCut r m k sc new before now) many_is is

      pub taken_untold : {B F : Type 0} (new : Scene) (before now : Option Journals) (result : Result B F) → new ≡ sees_to r n sc m → AddsAll before now m (sees_left r n sc m) → OnErr result (LineCut r sc (see_work sc m e (state_at sc m)) new.posts before now)
      taken_untold new before now (Ok b) is adds = tt
      taken_untold new before now (Err f) is adds = taken_broken new.posts before now (entries_ended r sc new m n before now is adds)

      lines_where : (fork : Option Fork) → fork_of seat.state ≡ fork → None ≡ option_map both fork → none_taken m (entries_lines_in trust n sc m) ≡ see_lines_in trust sc m e (state_at sc m)
      lines_where None is none =
          ap (λ (k : ℕ). none_taken m (entries_lines_in trust k sc m)) many
          ∙ sym (ap (λ (o : Option Fork). see_halted_in trust sc m (min e (entries_left (post_world sc) (Some seat.state))) o) is)
          ∙ ap (λ (s : Option Member). see_lines_in trust sc m e s) (state_is (Some seat) at)
      lines_where (Some f) is none = absurd (cc)

      module _ (free : None ≡ option_map both (fork_of seat.state)) (given : List Line) (said : given ≡ entries_lines_in trust n sc m) where
        taken_is : none_taken m given ≡ see_lines_in trust sc m e (state_at sc m)
        taken_is = ap (λ (ls : List Line). none_taken m ls) said ∙ lines_where (fork_of seat.state) refl free

        pub nothing_lines : (lines : List Line) → (length given == 0) ≡ true → lines ≡ line.See m see_text.Nothing ∷ [] → lines ≡ see_lines_in trust sc m e (state_at sc m)
        nothing_lines lines none is = is ∙ go given none ∙ taken_is
          where
            go : (ls : List Line) → (length ls == 0) ≡ true → line.See m see_text.Nothing ∷ [] ≡ none_taken m ls
            go [] e = refl
            go (l ∷ ls) e = absurd (let none : suc (length ls) ≡ 0 = eqb-true (suc (length ls)) 0 e in omega (arith, none))

        pub taken_lines : (length given == 0) ≡ false → given ≡ see_lines_in trust sc m e (state_at sc m)
        taken_lines some = go given some ∙ taken_is
          where
            go : (ls : List Line) → (length ls == 0) ≡ false → ls ≡ none_taken m ls
            go [] e = absurd (cc)
            go (l ∷ ls) e = refl
