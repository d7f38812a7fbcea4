-- What a call on a member leaves, as what its line leaves.
use Rattle.std.proofs.Common.{◌≡◌, ◌∙◌, ap, sym, refl, subst, arith, ℕ, true, false, List, [], ◌++◌, map, length, Option, Some, None, Result, Ok, Err, inl}
use Rattle.std.specs.Prelude.{IfOk, IsErrOf, OnErr, OnOk, option_map}
use Rattle.digest_core.specs.declared.Digest.{Digest}
use Rattle.quorum_core.specs.declared.signer.Signer.{Signer}
use Rattle.chain_messages.specs.declared.messages.Certificate.{Certificate}
use Rattle.journal_core.specs.declared.records.Record.{Record}
use Rattle.outside.specs.Lists.{Journals}
use Rattle.protocol_spec.specs.Chain.Certificates.{Rules}
use Rattle.protocol_spec.specs.Member.Calls.{Call, holds, votes}
use Rattle.protocol_spec.specs.Member.Member.{Member}
use Rattle.report_text.specs.declared.lines.Line.{Line}
use Rattle.schedule_text.specs.declared.words.Event.{Event}
use Rattle.world_lines.specs.Pushed.{GrowsToward}
use Rattle.world_lines.proofs.Growing.{all_added, none_added}
use Rattle.world_spec.specs.Setting.{Trust}
use Rattle.world_spec.specs.World.{Made, Reached, Said, said_by, sealed_by}
use Rattle.world_spec.specs.Moves.{held_call, signed_call}
use Rattle.world_spec.specs.Posts.{Post, list_of, posts_behind, reached_in, record_left, stated_in}
use Rattle.world_spec.specs.Terms.{Terms}
use Rattle.world_spec.specs.Scene.{Scene, rules_in}
use Rattle.world_spec.specs.SceneSteps.{MayAddLine, Work, asked, asks, hands, idle, records_left, sees_left, work_of}
use Rattle.world_core.specs.Steps.{asked_scene, lines_after, scene_after, worked}
use Rattle.world_core.specs.declared.reply.Reply.{Reply}
use Rattle.world_core.specs.declared.reply.SeatFault.{SeatFault}
use Rattle.world_core.specs.declared.reply.SeatFault.TheVariants as seat_fault
use Rattle.world_core.specs.Crews.{Crew}
use Rattle.world_core.specs.Cuts.{LineCut, SeenCut, books_in, orders_end}
use Rattle.world_core.specs.Kept.{LeavesAs, is_quiet}
use Rattle.world_core.specs.Served.{KeeperAfter, LineAfter, Served}
use Rattle.world_core.specs.Texts.{spelled_cert, spelled_tx}
use Rattle.world_core.proofs.Cuts.{books_seen, call_ended, call_fell, loud_posts, same_books, unmade_line}
use Rattle.world_core.proofs.Lines.{adds_all, adds_front}
use Rattle.world_core.proofs.Seeing.{adds_none}
use Rattle.world_core.proofs.Stated.{grew_as, unsaid}
use Rattle.validator_core.proofs.Settling.{keeps_same}

-- ---- the keeper

-- what broke off, if anything, is no fault of it
pub keeper_none : {wide widened failed risen : ℕ} {F G : Type 0} → (G → ⊥) → KeeperAfter wide widened failed risen F → KeeperAfter wide widened failed risen G
keeper_none none is = record { width = is.width; later = is.later; fault = λ g. absurd (none g) }

pub ok_none : {A : Type 0} (a : A) → IsErrOf (let y : Result A SeatFault = Ok a in y) seat_fault.KeepFault → ⊥
ok_none a f = absurd (cc)

pub memory_none : {A : Type 0} → IsErrOf (let y : Result A SeatFault = Err seat_fault.OutOfMemory in y) seat_fault.KeepFault → ⊥
memory_none {A} f = absurd (let e : (let y : Result A SeatFault = Err seat_fault.OutOfMemory in y) ≡ Err seat_fault.KeepFault = f in cc)

same_err : {A B : Type 0} (x : SeatFault) → IsErrOf (let y : Result B SeatFault = Err x in y) seat_fault.KeepFault → IsErrOf (let y : Result A SeatFault = Err x in y) seat_fault.KeepFault
same_err seat_fault.KeepFault f = refl
same_err {A} {B} seat_fault.OutOfMemory f = absurd (memory_none {A = B} f)

-- the same fault of another call
pub keeper_err : {A B : Type 0} {wide widened failed risen : ℕ} (x : SeatFault) → KeeperAfter wide widened failed risen (IsErrOf (let y : Result A SeatFault = Err x in y) seat_fault.KeepFault)
    → KeeperAfter wide widened failed risen (IsErrOf (let y : Result B SeatFault = Err x in y) seat_fault.KeepFault)
keeper_err {A} {B} x is = record { width = is.width; later = is.later; fault = λ f. is.fault (same_err {A = A} {B = B} x f) }

pub keeper_same : (wide failed : ℕ) {F : Type 0} → (F → ⊥) → KeeperAfter wide wide failed failed F
keeper_same wide failed none = record { width = refl; later = omega arith; fault = λ f. absurd (none f) }

-- ---- what a call states

-- under its seal if it is a vote
abbrev pub stated_as : (Signer → List ℕ → Digest) → Rules → ℕ → Call → Reached → List Said
stated_as seal r m (votes bytes) what = map (sealed_by seal m) (stated_in r (votes bytes) what)
stated_as seal r m call what = map (said_by m) (stated_in r call what)

asked_is : (seal : Signer → List ℕ → Digest) (r : Rules) (sc : Scene) (m : ℕ) (call : Call) → asked_scene seal r sc m call ≡ record sc { posts = posts_behind r sc.posts m call; said = sc.said ++ stated_as seal r m call (reached_in r sc.posts m call) }
asked_is seal r sc m (votes bytes) = refl
asked_is seal r sc m call = refl

-- ---- the work of a line that names a transaction or a certificate

pub signed_work : (m : ℕ) (t : Option Made) (bytes : List ℕ) → Some bytes ≡ option_map spelled_tx t → asked m (option_map signed_call t) ≡ asks m (votes bytes)
signed_work m None bytes e = absurd (cc)
signed_work m (Some t) bytes e = let same : bytes ≡ spelled_tx t = cc in ap (λ (b : List ℕ). asks m (votes b)) (sym same)

pub held_work : (m : ℕ) (c : Option Certificate) (bytes : List ℕ) → Some bytes ≡ option_map spelled_cert c → asked m (option_map held_call c) ≡ asks m (holds bytes)
held_work m None bytes e = absurd (cc)
held_work m (Some c) bytes e = let same : bytes ≡ spelled_cert c = cc in ap (λ (b : List ℕ). asks m (holds b)) (sym same)

pub signed_idle : (m : ℕ) (t : Option Made) → None ≡ option_map spelled_tx t → asked m (option_map signed_call t) ≡ idle
signed_idle m None e = refl
signed_idle m (Some t) e = absurd (cc)

pub held_idle : (m : ℕ) (c : Option Certificate) → None ≡ option_map spelled_cert c → asked m (option_map held_call c) ≡ idle
held_idle m None e = refl
held_idle m (Some c) e = absurd (cc)

-- ---- a line that makes no call

pub same_lines : {E : Type 0} (these those : List Line) (result : Result (List Line) E) → these ≡ those → IfOk result (λ lines. lines ≡ these) → IfOk result (λ lines. lines ≡ those)
same_lines these those (Ok lines) e is = is ∙ e
same_lines these those (Err x) e is = tt

none_left : (r : Rules) (sc : Scene) (work : Work) (told : Option Journals) → MayAddLine (records_left r sc work) told told
none_left r sc idle told = keeps_same told
none_left r sc (asks m call) told = record { front = []; rest = list_of (record_left (reached_in r sc.posts m call)); is = refl; adds = adds_none told m }
none_left r sc (hands m n) told = record { front = []; rest = sees_left r n sc m; is = refl; adds = adds_none told m }

-- it broke off before
pub line_unmade : {E : Type 0} (trust : Trust) (sc : Scene) (e : Event) (told : Option Journals) (x : E) → LineAfter trust sc e sc told told (let y : Result (List Line) E = Err x in y)
line_unmade trust sc e told x = record {
  world = tt;
  lines = tt;
  kept = none_left (rules_in trust.accepts sc) sc (work_of sc e) told;
  cut = unmade_line (rules_in trust.accepts sc) sc (work_of sc e) told;
  books = same_books trust sc sc (orders_end e) refl;
  quiet = λ (q : is_quiet e ≡ true). refl;
  said = unsaid trust sc e sc.said refl;
}

-- it has none to make
pub line_idle : {E : Type 0} (trust : Trust) (sc : Scene) (e : Event) (told : Option Journals) (these : List Line) (result : Result (List Line) E) → work_of sc e ≡ idle → scene_after trust sc e ≡ worked trust.seal (rules_in trust.accepts sc) sc (work_of sc e)
    → these ≡ lines_after trust sc e → IfOk result (λ lines. lines ≡ these) → LineAfter trust sc e sc told told result
line_idle {E} trust sc e told these (Ok lines) work steps are is = record {
  world = sym (steps ∙ ap (worked trust.seal (rules_in trust.accepts sc) sc) work);
  lines = is ∙ are;
  kept = subst (λ (w : Work). LeavesAs (rules_in trust.accepts sc) sc w told told (let y : Result (List Line) E = Ok lines in y)) (sym work) (keeps_same told);
  cut = tt;
  books = tt;
  quiet = tt;
  said = tt;
}
line_idle trust sc e told these (Err x) work steps are is = line_unmade trust sc e told x

-- ---- a line that makes a call

module _ (trust : Trust) (v sc : Scene) (view : v ≡ sc) (e : Event) (m : ℕ) (call : Call) (work : work_of sc e ≡ asks m call) (steps : scene_after trust v e ≡ worked trust.seal (rules_in trust.accepts v) v (work_of v e)) (loud : is_quiet e ≡ false) (before now : Option Journals) where
  abbrev rules_v : Rules
  rules_v = rules_in trust.accepts v

  abbrev crew : Crew
  crew = record { terms = v.terms; posts = v.posts }

  abbrev left : Option Record
  left = record_left (reached_in rules_v v.posts m call)

  abbrev more : List Said
  more = stated_as trust.seal rules_v m call (reached_in rules_v v.posts m call)

  abbrev after : Crew → List Said → Scene
  after seats said = record v { terms = seats.terms; said = said; posts = seats.posts }

  work_v : work_of v e ≡ asks m call
  work_v = subst (λ (x : Scene). work_of x e ≡ asks m call) (sym view) work

  step_is : scene_after trust v e ≡ record v { posts = posts_behind rules_v v.posts m call; said = v.said ++ more }
  step_is = steps ∙ ap (worked trust.seal rules_v v) work_v ∙ asked_is trust.seal rules_v v m call

  books_are : (seats : Crew) (said : List Said) → seats.terms ≡ v.terms → length seats.posts ≡ length v.posts → SeenCut books_in trust v (orders_end e) (after seats said)
  books_are seats said terms many = same_books trust v (after seats said) (orders_end e) (books_seen v v seats.terms seats.posts said refl terms many)

  -- its member fell
  pub line_failed : {A E : Type 0} {Says : Member → A → Type 0} (seats : Crew) (x : SeatFault) (f : E) → Served Says rules_v call m crew seats before now (let y : Result (Reply A) SeatFault = Err x in y)
      → LineAfter trust sc e (after seats v.said) before now (let y : Result (List Line) E = Err f in y)
  line_failed {A} {E} seats x f is =
      subst (λ (s : Scene). LineAfter trust s e (after seats v.said) before now (let y : Result (List Line) E = Err f in y)) view
      (record {
        world = tt;
        lines = tt;
        kept = subst (λ (w : Work). LeavesAs rules_v v w before now (let y : Result (List Line) E = Err f in y)) (sym work_v) (adds_front before now m left is.kept);
        cut = subst (λ (w : Work). LineCut rules_v v w seats.posts before now) (sym work_v) (call_fell rules_v m call v.posts seats.posts before now is.posts is.kept);
        books = books_are seats v.said is.terms is.many;
        quiet = loud_posts v (after seats v.said) e loud;
        said = unsaid trust v e v.said refl;
      })

  -- the call was completed, and then the line was, or its end is missing
  pub line_done : {A E : Type 0} {Says : Member → A → Type 0} (seats : Crew) (reply : Reply A) (said : List Said) (these : List Line) (result : Result (List Line) E)
      → Served Says rules_v call m crew seats before now (let y : Result (Reply A) SeatFault = Ok reply in y)
      → OnOk result (said ≡ v.said ++ more) → OnErr result (GrowsToward v.said said (v.said ++ more)) → these ≡ lines_after trust v e → IfOk result (λ lines. lines ≡ these) → LineAfter trust sc e (after seats said) before now result
  line_done {A} {E} seats reply said these (Ok lines) is all grew are ls =
      subst (λ (s : Scene). LineAfter trust s e (after seats said) before now (let y : Result (List Line) E = Ok lines in y)) view
      (record {
        world = after_is ∙ sym step_is;
        lines = ls ∙ are;
        kept = subst (λ (w : Work). LeavesAs rules_v v w before now (let y : Result (List Line) E = Ok lines in y)) (sym work_v) (adds_all before now m left is.kept);
        cut = tt;
        books = tt;
        quiet = tt;
        said = tt;
      })
    where
      after_is : after seats said ≡ record v { posts = posts_behind rules_v v.posts m call; said = v.said ++ more }
      after_is =
          ap (λ (t : Terms). record v { terms = t; said = said; posts = seats.posts }) is.terms
          ∙ ap (λ (posts : List Post). record v { said = said; posts = posts }) is.posts
          ∙ ap (λ (xs : List Said). record v { said = xs; posts = posts_behind rules_v v.posts m call }) all
  line_done {A} {E} seats reply said these (Err x) is all grew are ls =
      subst (λ (s : Scene). LineAfter trust s e (after seats said) before now (let y : Result (List Line) E = Err x in y)) view
      (record {
        world = tt;
        lines = tt;
        kept = subst (λ (w : Work). LeavesAs rules_v v w before now (let y : Result (List Line) E = Err x in y)) (sym work_v) (adds_front before now m left (inl is.kept));
        cut = subst (λ (w : Work). LineCut rules_v v w seats.posts before now) (sym work_v) (call_ended rules_v m call v.posts seats.posts before now is.posts is.kept);
        books = books_are seats said is.terms is.many;
        quiet = loud_posts v (after seats said) e loud;
        said = grew_as v.said said (v.said ++ more) (scene_after trust v e).said (sym (ap (λ (s : Scene). s.said) step_is)) grew;
      })

  pub line_told : {A E : Type 0} {Says : Member → A → Type 0} (seats : Crew) (reply : Reply A) (said : List Said) (these : List Line) (result : Result (List Line) E)
      → Served Says rules_v call m crew seats before now (let y : Result (Reply A) SeatFault = Ok reply in y) → said ≡ v.said ++ more → these ≡ lines_after trust v e → IfOk result (λ lines. lines ≡ these) → LineAfter trust sc e (after seats said) before now result
  line_told seats reply said these (Ok lines) is all are ls = line_done seats reply said these (Ok lines) is all tt are ls
  line_told seats reply said these (Err x) is all are ls = line_done seats reply said these (Err x) is tt (all_added v.said said more all) are ls

  pub line_untold : {A E : Type 0} {Says : Member → A → Type 0} (seats : Crew) (reply : Reply A) (said : List Said) (x : E)
      → Served Says rules_v call m crew seats before now (let y : Result (Reply A) SeatFault = Ok reply in y) → said ≡ v.said → LineAfter trust sc e (after seats said) before now (let y : Result (List Line) E = Err x in y)
  line_untold {A} {E} seats reply said x is same = line_done seats reply said (lines_after trust v e) (let y : Result (List Line) E = Err x in y) is tt (none_added v.said said more same) refl tt
