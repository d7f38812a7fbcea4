-- Observable records follow the world.
use Rattle.std.proofs.Common.{refl, sym, subst, ap, ◌∙◌, arith, inl, inr}
use Rattle.std.specs.Prelude.{◌≡◌, ◌⊎◌, ◌≤◌, ℕ, zero, suc, Bool, true, false, cond, length, List, [], ◌∷◌, ◌++◌, map, slice_get, slice_set, Option, Some, None, option_map}
use Rattle.chain_messages.specs.declared.messages.Statement.{Statement}
use Rattle.journal_core.specs.declared.records.Record.{Record}
use Rattle.journal_core.specs.Records as journals
use Rattle.outside.specs.Lists.{Journals, journal_of, with_record}
use Rattle.schedule_text.specs.declared.words.Event.{Event}
use Rattle.protocol_spec.proofs.ListLemmas.{front_then, front_whole, set_length}
use Rattle.protocol_spec.specs.Chain.Certificates.{Rules}
use Rattle.protocol_spec.specs.Chain.Words.{Each}
use Rattle.protocol_spec.specs.Member.Calls.{Call, acks}
use Rattle.world_spec.specs.Setting.{Trust, Setting}
use Rattle.world_spec.specs.World as worlds
use Rattle.world_spec.specs.World.{Made, World, Reached, finds_down, stops, answers, appended, behind, by_records, called_if, called_in, called_seat, is_honest, new_seat, new_world, next_call, reached, reached_at, reached_seat, sees_on, stopped_seat, called_over, reached_over}
use Rattle.world_spec.specs.Names.{cert_named, made_named}
use Rattle.world_spec.specs.Moves.{Move, requests, delivers, claims, vote_named, hold_named, direct, claims_ack, held_call, move_of, signed_call}
use Rattle.world_spec.specs.Step.{acked, false_ack, happens, happens_over, moved, says}
use Rattle.world_spec.specs.Run.{records_of}
use Rattle.world_spec.specs.Assumptions.{calls_by}
use Rattle.world_spec.specs.Posts.{list_of, reached_in, record_left, with_all}
use Rattle.world_spec.specs.Scene.{Scene, rules_in}
use Rattle.world_spec.specs.SceneSteps as scenes
use Rattle.world_spec.specs.SceneSteps.{AddsLine, MayAddLine, Work, idle, asks, hands, ack_work, asked, left_if, next_on, records_left, sees_left, work_by, work_of}
use Rattle.world_spec.specs.SceneWorlds.{HasRoom, IsFront, Shows, Tells, TellsFront, journal_in, posts_from, scene_of, spelled}
use Rattle.safety_law.proofs.Steps.{Keeps, step-move}
use Rattle.run_law.proofs.ScenePosts.{post-honest, reached-same}
use Rattle.run_law.proofs.SceneSees.{IsUp, IsDown, count-same, down-next, down-step, next-same, stands, up-next, up-next-on}

-- ---- lists

pub spelled-push : (records : List Record) (x : Record) → spelled (records ++ x ∷ []) ≡ spelled records ++ journals.journal_record.spell x ∷ []
spelled-push [] x = refl
spelled-push (y ∷ records) x = ap (λ (rest : List (List ℕ)). journals.journal_record.spell y ∷ rest) (spelled-push records x)

-- each member has the same records in the two worlds
abbrev KeepsRecords : World → World → Type 0
KeepsRecords w next = (k : ℕ) → records_of (slice_get next.seats k) ≡ records_of (slice_get w.seats k)

-- a seat with the same records
same-records : (seats : List worlds.Seat) (m : ℕ) (seat other : worlds.Seat) → slice_get seats m ≡ Some seat → other.records ≡ seat.records
    → (k : ℕ) → records_of (slice_get (slice_set seats m other) k) ≡ records_of (slice_get seats k)
same-records [] m seat other at same k = refl
same-records (x ∷ xs) zero seat other at same zero = same ∙ ap (λ (o : Option worlds.Seat). records_of o) (sym at)
same-records (x ∷ xs) zero seat other at same (suc k) = refl
same-records (x ∷ xs) (suc m) seat other at same zero = refl
same-records (x ∷ xs) (suc m) seat other at same (suc k) = same-records xs m seat other at same k

-- a seat with other records, and their list beside it
tells-set : (seats : List worlds.Seat) (lists : Journals) (m : ℕ) (seat other : worlds.Seat) (kept : List (List ℕ)) → length seats ≤ length lists → slice_get seats m ≡ Some seat
    → ((k : ℕ) → journal_of lists k ≡ spelled (records_of (slice_get seats k))) → kept ≡ spelled other.records
    → (k : ℕ) → journal_of (slice_set lists m kept) k ≡ spelled (records_of (slice_get (slice_set seats m other) k))
tells-set [] lists m seat other kept room at tells is k = absurd (cc)
tells-set (x ∷ xs) [] m seat other kept room at tells is k = absurd (omega (arith, room))
tells-set (x ∷ xs) (l ∷ ls) zero seat other kept room at tells is zero = is
tells-set (x ∷ xs) (l ∷ ls) zero seat other kept room at tells is (suc k) = tells (suc k)
tells-set (x ∷ xs) (l ∷ ls) (suc m) seat other kept room at tells is zero = tells zero
tells-set (x ∷ xs) (l ∷ ls) (suc m) seat other kept room at tells is (suc k) = tells-set xs ls m seat other kept (omega (arith, room)) at (λ j. tells (suc j)) is k

-- observable lists with more records stay as many
all-many : (lists : Journals) (m : ℕ) (records : List Record) → length (with_all lists m records) ≡ length lists
all-many lists m [] = refl
all-many lists m (x ∷ records) = all-many (with_record lists m (journals.journal_record.spell x)) m records ∙ set_length lists m (journal_of lists m ++ journals.journal_record.spell x ∷ [])

all-then : (lists : Journals) (m : ℕ) (xs ys : List Record) → with_all lists m (xs ++ ys) ≡ with_all (with_all lists m xs) m ys
all-then lists m [] ys = refl
all-then lists m (x ∷ xs) ys = all-then (with_record lists m (journals.journal_record.spell x)) m xs ys

-- ---- one call

module _ (s : Setting) (w : World) (m : ℕ) (call : Call) (lists : Journals) (room : length w.seats ≤ length lists) (tells : Tells (Some lists) w) where
  tells-same : (next : World) → KeepsRecords w next → Tells (Some lists) next
  tells-same next same k = tells k ∙ ap (λ (records : List Record). spelled records) (sym (same k))

  tells-more : (seat other : worlds.Seat) (x : Record) (next : World) → slice_get w.seats m ≡ Some seat → next.seats ≡ slice_set w.seats m other → other.records ≡ seat.records ++ x ∷ []
      → Tells (Some (with_record lists m (journals.journal_record.spell x))) next
  tells-more seat other x next at seats more =
      let old : journal_of lists m ≡ spelled seat.records = tells m ∙ ap (λ (o : Option worlds.Seat). spelled (records_of o)) at in
      let new : journal_of lists m ++ journals.journal_record.spell x ∷ [] ≡ spelled other.records =
      ap (λ (kept : List (List ℕ)). kept ++ journals.journal_record.spell x ∷ []) old
      ∙ sym (spelled-push seat.records x)
      ∙ ap (λ (records : List Record). spelled records) (sym more) in
      λ k. tells-set w.seats lists m seat other (journal_of lists m ++ journals.journal_record.spell x ∷ []) room at tells new k ∙ ap (λ (all : List worlds.Seat). spelled (records_of (slice_get all k))) (sym seats)

  -- the lists with what a call left
  abbrev LeftBy : Reached → World → Type 0
  LeftBy r next = Tells (Some (with_all lists m (list_of (record_left r)))) next

  tells-behind : (seat : worlds.Seat) (r : Reached) → slice_get w.seats m ≡ Some seat → LeftBy r (behind s w m call seat r)
  tells-behind seat finds_down at = tells
  tells-behind seat (stops true x) at = tells-more seat (stopped_seat seat true x) x (behind s w m call seat (stops true x)) at refl refl
  tells-behind seat (stops false x) at = tells-same (behind s w m call seat (stops false x)) (same-records w.seats m seat (stopped_seat seat false x) at refl)
  tells-behind seat (answers before None) at = tells-same (behind s w m call seat (answers before None)) (same-records w.seats m seat (record seat { records = seat.records }) at refl)
  tells-behind seat (answers before (Some x)) at = tells-more seat (record seat { records = seat.records ++ x ∷ [] }) x (behind s w m call seat (answers before (Some x))) at refl refl

  tells-seat : (seat : Option worlds.Seat) → slice_get w.seats m ≡ seat → LeftBy (reached_at s call seat) (called_seat s w m call seat)
  tells-seat None at = tells
  tells-seat (Some seat) at = tells-behind seat (reached_seat s call seat) at

  tells-reached : LeftBy (reached s w m call) (called_in s w m call)
  unfolding called_over reached_over
  tells-reached = tells-seat (slice_get w.seats m) refl

  -- what a call leaves in the scene is what it leaves in the world
  tells-called : LeftBy (reached_in s.rules (posts_from s 0 w.seats) m call) (called_in s w m call)
  tells-called = subst (λ (r : Reached). LeftBy r (called_in s w m call)) (sym (reached-same s w m call)) tells-reached

-- ---- the entries that a member takes

module _ (s : Setting) where
  left-many : (w : World) (m : ℕ) (call : Call) (seat : worlds.Seat) (r : Reached) → length (behind s w m call seat r).seats ≡ length w.seats
  left-many w m call seat finds_down = refl
  left-many w m call seat (stops kept x) = set_length w.seats m (stopped_seat seat kept x)
  left-many w m call seat (answers before x) = set_length w.seats m (record seat { records = appended seat.records x })

  seat-many : (w : World) (m : ℕ) (call : Call) (seat : Option worlds.Seat) → length (called_seat s w m call seat).seats ≡ length w.seats
  seat-many w m call None = refl
  seat-many w m call (Some seat) = left-many w m call seat (reached_seat s call seat)

  if-many : (w : World) (m : ℕ) (call : Option Call) → length (called_if s w m call).seats ≡ length w.seats
  unfolding called_over
  if-many w m None = refl
  if-many w m (Some call) = seat-many w m call (slice_get w.seats m)

  module _ (lists : Journals) (w : World) (m : ℕ) (room : length w.seats ≤ length lists) (tells : Tells (Some lists) w) where
    tells-if : (call : Option Call) → Tells (Some (with_all lists m (left_if s.rules (scene_of s w) m call))) (called_if s w m call)
    tells-if None = tells
    tells-if (Some call) = tells-called s w m call lists room tells

    tells-by : IsUp w m ⊎ IsDown s w m → Tells (Some (with_all lists m (left_if s.rules (scene_of s w) m (next_on (scene_of s w) m)))) (called_if s w m (next_call s w m))
    tells-by (inl up) =
        subst (λ (call : Option Call). Tells (Some (with_all lists m (left_if s.rules (scene_of s w) m call))) (called_if s w m (next_call s w m))) (up-next s w m up ∙ sym (up-next-on s w m up)) (tells-if (next_call s w m))
    tells-by (inr down) =
        subst (λ (call : Option Call). Tells (Some (with_all lists m (left_if s.rules (scene_of s w) m call))) (called_if s w m (next_call s w m))) (sym (down-next s w m down))
        (subst (λ (v : World). Tells (Some lists) v) (sym (down-step s w m (next_call s w m) down)) tells)

    -- the lists with what the next entry left
    tells-next : Tells (Some (with_all lists m (left_if s.rules (scene_of s w) m (next_on (scene_of s w) m)))) (called_if s w m (next_call s w m))
    tells-next = tells-by (stands s w m)

  tells-sees : (n : ℕ) (lists : Journals) (w : World) (m : ℕ) → length w.seats ≤ length lists → Tells (Some lists) w → Tells (Some (with_all lists m (sees_left s.rules n (scene_of s w) m))) (sees_on s n w m)
  tells-sees zero lists w m room tells = tells
  tells-sees (suc n) lists w m room tells =
      let v = called_if s w m (next_call s w m) in
      let left = left_if s.rules (scene_of s w) m (next_on (scene_of s w) m) in
      let seats = if-many w m (next_call s w m) in
      let many = all-many lists m left in
      let rest = tells-sees n (with_all lists m left) v m (omega (arith, room, seats, many)) (tells-next lists w m room tells) in
      subst (λ (told : Journals). Tells (Some told) (sees_on s n v m))
      (ap (λ (x : Scene). with_all (with_all lists m left) m (sees_left s.rules n x m)) (next-same s w m)
      ∙ sym (all-then lists m left (sees_left s.rules n (scenes.called_if s.rules (scene_of s w) m (next_on (scene_of s w) m)) m)))
      rest

  -- ---- what a line does to the records

  abbrev Does : World → Work → World → Type 0
  Does w idle next = KeepsRecords w next
  Does w (asks m call) next = next ≡ called_in s w m call
  Does w (hands m n) next = next ≡ sees_on s n w m

  -- without a call no record is appended
  records-keep : (w : World) → Keeps s (λ _ _. ⊥) (KeepsRecords w)
  records-keep w = record {
    calls = λ v m call none _. absurd none;
    lies = λ v m st _ _ keeps. keeps;
    seats = λ v m seat new at _ same keeps k. same-records v.seats m seat new at same k ∙ keeps k;
    enters = λ v e _ keeps. keeps;
    rises = λ v keeps. keeps;
    makes = λ v l t _ keeps. keeps;
    forms = λ v t ms _ _ keeps. keeps;
  }

  none-keeps : (w : World) (mv : Move) → Each (λ (call : Call). ⊥) (calls_by s w mv) → KeepsRecords w (moved (by_records s) s w mv)
  none-keeps w mv none = step-move s (λ _ _. ⊥) (KeepsRecords w) (records-keep w) w mv none (λ k. refl)

  asked-does : (w : World) (m : ℕ) (call : Option Call) → Does w (asked m call) (called_if s w m call)
  asked-does w m None = λ k. refl
  asked-does w m (Some call) = refl

  ack-if : (w : World) (m : ℕ) (call : Call) (st : Statement) (b : Bool) → Does w (cond b (asks m call) idle) (cond b (called_in s w m call) (says s.seal w m st))
  ack-if w m call st true = refl
  ack-if w m call st false = λ k. refl

  ack-does : (w : World) (m : ℕ) (spoiled : Bool) (t : Option Made) → Does w (ack_work (scene_of s w) m t) (acked s w m spoiled t)
  ack-does w m spoiled None = λ k. refl
  ack-does w m spoiled (Some t) =
      subst (λ (b : Bool). Does w (cond b (asks m (acks t.digest)) idle) (acked s w m spoiled (Some t))) (post-honest s 0 w.seats m)
      (ack-if w m (acks t.digest) (false_ack s w t spoiled) (is_honest w m))

  move-does : (w : World) (mv : Move) → Does w (work_by (scene_of s w) mv) (moved (by_records s) s w mv)
  move-does w (requests m (vote_named tx)) = asked-does w m (option_map signed_call (made_named w tx))
  move-does w (requests m (hold_named tx)) = asked-does w m (option_map held_call (cert_named w tx))
  move-does w (requests m (direct call)) = refl
  move-does w (delivers m entries) = count-same s w m entries
  move-does w (claims m tx (claims_ack spoiled)) = ack-does w m spoiled (made_named w tx)
  move-does w mv = none-keeps w mv tt

  line-does : (w : World) (e : Event) → Does w (work_of (scene_of s w) e) (happens s w e)
  unfolding work_of happens_over
  line-does w e = move-does w (move_of e)

-- ---- observable lists after a line

-- the lists with what a line leaves
abbrev with_left : Journals → Option (ℕ × List Record) → Journals
with_left lists None = lists
with_left lists (Some (m, records)) = with_all lists m records

does-tells : (s : Setting) (w : World) (lists : Journals) (work : Work) (next : World) → length w.seats ≤ length lists → Tells (Some lists) w → Does s w work next
    → Tells (Some (with_left lists (records_left s.rules (scene_of s w) work))) next
does-tells s w lists idle next room tells does = λ k. tells k ∙ ap (λ (records : List Record). spelled records) (sym (does k))
does-tells s w lists (asks m call) next room tells does =
    subst (λ (v : World). Tells (Some (with_all lists m (list_of (record_left (reached_in s.rules (posts_from s 0 w.seats) m call))))) v) (sym does) (tells-called s w m call lists room tells)
does-tells s w lists (hands m n) next room tells does =
    subst (λ (v : World). Tells (Some (with_all lists m (sees_left s.rules n (scene_of s w) m))) v) (sym does) (tells-sees s n lists w m room tells)

module _ (trust : Trust) (s : Setting) (w : World) (sc : Scene) (e : Event) (shows : Shows trust s w sc) where
  abbrev left : Option (ℕ × List Record)
  left = records_left (rules_in trust.accepts sc) sc (work_of sc e)

  left-same : records_left s.rules (scene_of s w) (work_of (scene_of s w) e) ≡ left
  left-same =
      ap (λ (r : Rules). records_left r (scene_of s w) (work_of (scene_of s w) e)) shows.rules
      ∙ ap (λ (x : Scene). records_left (rules_in trust.accepts x) x (work_of x e)) (sym shows.scene)

  -- the lists with what the line leaves in the scene are the journals after it
  line-tells : (lists : Journals) → length w.seats ≤ length lists → Tells (Some lists) w → Tells (Some (with_left lists left)) (happens s w e)
  line-tells lists room tells =
      subst (λ (x : Option (ℕ × List Record)). Tells (Some (with_left lists x)) (happens s w e)) left-same
      (does-tells s w lists (work_of (scene_of s w) e) (happens s w e) room tells (line-does s w e))

  added : (lists : Journals) (now : Option Journals) (x : Option (ℕ × List Record)) → AddsLine x (Some lists) now → now ≡ Some (with_left lists x)
  added lists now None adds = adds
  added lists now (Some (m, records)) adds = adds

  told-behind : (before now : Option Journals) → HasRoom before w → Tells before w → AddsLine left before now → Tells now (happens s w e)
  told-behind None now room tells adds = absurd tells
  told-behind (Some lists) now room tells adds = subst (λ (told : Option Journals). Tells told (happens s w e)) (sym (added lists now left adds)) (line-tells lists room tells)

pub line-told : (trust : Trust) (s : Setting) (w : World) (sc : Scene) (e : Event) (before now : Option Journals) → Shows trust s w sc → HasRoom before w → Tells before w
    → AddsLine (records_left (rules_in trust.accepts sc) sc (work_of sc e)) before now → Tells now (happens s w e)
line-told trust s w sc e before now shows room tells adds = told-behind trust s w sc e shows before now room tells adds

-- ---- prefixes

front-is : {A : Type 0} (xs ys : List A) → xs ≡ ys → IsFront xs ys
front-is {A} xs ys e = subst (λ (l : List A). IsFront xs l) e (front_whole xs)

front-spelled : (records : List Record) (x : Record) → IsFront (spelled records) (spelled (records ++ x ∷ []))
front-spelled records x = (journals.journal_record.spell x ∷ [], spelled-push records x)

pub told-front : (told : Option Journals) (w : World) → Tells told w → TellsFront told w
told-front None w tells = tells
told-front (Some lists) w tells = λ m. front-is (journal_of lists m) (journal_in w m) (tells m)

-- each journal of a world is a prefix of that in another
abbrev Grows : World → World → Type 0
Grows w next = (k : ℕ) → IsFront (journal_in w k) (journal_in next k)

grows-same : (w next : World) → KeepsRecords w next → Grows w next
grows-same w next same k = front-is (journal_in w k) (journal_in next k) (ap (λ (records : List Record). spelled records) (sym (same k)))

grows-refl : (w : World) → Grows w w
grows-refl w k = front_whole (journal_in w k)

grows-then : (w v u : World) → Grows w v → Grows v u → Grows w u
grows-then w v u a b k = front_then (journal_in w k) (journal_in v k) (journal_in u k) (a k) (b k)

more-records : (seats : List worlds.Seat) (m : ℕ) (seat other : worlds.Seat) → slice_get seats m ≡ Some seat → IsFront (spelled seat.records) (spelled other.records)
    → (k : ℕ) → IsFront (spelled (records_of (slice_get seats k))) (spelled (records_of (slice_get (slice_set seats m other) k)))
more-records [] m seat other at more k = front_whole []
more-records (x ∷ xs) zero seat other at more zero = subst (λ (o : Option worlds.Seat). IsFront (spelled (records_of o)) (spelled other.records)) (sym at) more
more-records (x ∷ xs) zero seat other at more (suc k) = front_whole (spelled (records_of (slice_get xs k)))
more-records (x ∷ xs) (suc m) seat other at more zero = front_whole (spelled x.records)
more-records (x ∷ xs) (suc m) seat other at more (suc k) = more-records xs m seat other at more k

module _ (s : Setting) where
  behind-grows : (w : World) (m : ℕ) (call : Call) (seat : worlds.Seat) (r : Reached) → slice_get w.seats m ≡ Some seat → Grows w (behind s w m call seat r)
  behind-grows w m call seat finds_down at = grows-refl w
  behind-grows w m call seat (stops true x) at = more-records w.seats m seat (stopped_seat seat true x) at (front-spelled seat.records x)
  behind-grows w m call seat (stops false x) at = more-records w.seats m seat (stopped_seat seat false x) at (front_whole (spelled seat.records))
  behind-grows w m call seat (answers before None) at = more-records w.seats m seat (record seat { records = seat.records }) at (front_whole (spelled seat.records))
  behind-grows w m call seat (answers before (Some x)) at = more-records w.seats m seat (record seat { records = seat.records ++ x ∷ [] }) at (front-spelled seat.records x)

  seat-grows : (w : World) (m : ℕ) (call : Call) (seat : Option worlds.Seat) → slice_get w.seats m ≡ seat → Grows w (called_seat s w m call seat)
  seat-grows w m call None at = grows-refl w
  seat-grows w m call (Some seat) at = behind-grows w m call seat (reached_seat s call seat) at

  call-grows : (w : World) (m : ℕ) (call : Call) → Grows w (called_in s w m call)
  unfolding called_over
  call-grows w m call = seat-grows w m call (slice_get w.seats m) refl

  call-if-grows : (w : World) (m : ℕ) (call : Option Call) → Grows w (called_if s w m call)
  call-if-grows w m None = grows-refl w
  call-if-grows w m (Some call) = call-grows w m call

  sees-grow : (n : ℕ) (w : World) (m : ℕ) → Grows w (sees_on s n w m)
  sees-grow zero w m = grows-refl w
  sees-grow (suc n) w m = grows-then w (called_if s w m (next_call s w m)) (sees_on s n (called_if s w m (next_call s w m)) m) (call-if-grows w m (next_call s w m)) (sees-grow n (called_if s w m (next_call s w m)) m)

  does-grows : (w : World) (work : Work) (next : World) → Does s w work next → Grows w next
  does-grows w idle next does = grows-same w next does
  does-grows w (asks m call) next does = subst (λ (v : World). Grows w v) (sym does) (call-grows w m call)
  does-grows w (hands m n) next does = subst (λ (v : World). Grows w v) (sym does) (sees-grow n w m)

  line-grows : (w : World) (e : Event) → Grows w (happens s w e)
  line-grows w e = does-grows w (work_of (scene_of s w) e) (happens s w e) (line-does s w e)

pub front-ahead : (s : Setting) (w : World) (e : Event) (told : Option Journals) → TellsFront told w → TellsFront told (happens s w e)
front-ahead s w e None front = front
front-ahead s w e (Some lists) front = λ m. front_then (journal_of lists m) (journal_in w m) (journal_in (happens s w e) m) (front m) (line-grows s w e m)

-- ---- a line that was cut

-- one list has grown
pub front-set : (lists : Journals) (m : ℕ) (kept : List (List ℕ)) → IsFront (journal_of lists m) kept → (k : ℕ) → IsFront (journal_of lists k) (journal_of (slice_set lists m kept) k)
front-set [] m kept front k = front_whole []
front-set (l ∷ ls) zero kept front zero = front
front-set (l ∷ ls) zero kept front (suc k) = front_whole (journal_of ls k)
front-set (l ∷ ls) (suc m) kept front zero = front_whole l
front-set (l ∷ ls) (suc m) kept front (suc k) = front-set ls m kept front k

front-all : (lists : Journals) (m : ℕ) (records : List Record) (k : ℕ) → IsFront (journal_of lists k) (journal_of (with_all lists m records) k)
front-all lists m [] k = front_whole (journal_of lists k)
front-all lists m (x ∷ records) k =
    let more = with_record lists m (journals.journal_record.spell x) in
    front_then (journal_of lists k) (journal_of more k) (journal_of (with_all more m records) k)
    (front-set lists m (journal_of lists m ++ journals.journal_record.spell x ∷ []) (journals.journal_record.spell x ∷ [], refl) k)
    (front-all more m records k)

module _ (lists : Journals) (now : Option Journals) (w : World) where
  -- observable lists with a prefix of the records
  front-told : (m : ℕ) (front rest : List Record) → now ≡ Some (with_all lists m front) → Tells (Some (with_all lists m (front ++ rest))) w → TellsFront now w
  front-told m front rest is tells =
      subst (λ (told : Option Journals). TellsFront told w) (sym is) (λ k.
      front_then (journal_of (with_all lists m front) k) (journal_of (with_all lists m (front ++ rest)) k) (journal_in w k)
      (subst (λ (more : Journals). IsFront (journal_of (with_all lists m front) k) (journal_of more k)) (sym (all-then lists m front rest)) (front-all (with_all lists m front) m rest k))
      (front-is (journal_of (with_all lists m (front ++ rest)) k) (journal_in w k) (tells k)))

  front-added : (left : Option (ℕ × List Record)) → MayAddLine left (Some lists) now → Tells (Some (with_left lists left)) w → TellsFront now w
  front-added None adds tells = told-front now w (subst (λ (told : Option Journals). Tells told w) (sym adds) tells)
  front-added (Some (m, records)) adds tells =
      front-told m adds.front adds.rest adds.adds (subst (λ (all : List Record). Tells (Some (with_all lists m all)) w) adds.is tells)

pub line-cut : (trust : Trust) (s : Setting) (w : World) (sc : Scene) (e : Event) (before now : Option Journals) → Shows trust s w sc → HasRoom before w → Tells before w
    → MayAddLine (records_left (rules_in trust.accepts sc) sc (work_of sc e)) before now → TellsFront now (happens s w e)
line-cut trust s w sc e None now shows room tells adds = absurd tells
line-cut trust s w sc e (Some lists) now shows room tells adds =
    front-added lists now (happens s w e) (records_left (rules_in trust.accepts sc) sc (work_of sc e)) adds (line-tells trust s w sc e shows lists room tells)

-- ---- the first world

pub no-records : (honest : List Bool) (m : ℕ) → records_of (slice_get (map new_seat honest) m) ≡ []
no-records [] m = refl
no-records (h ∷ honest) zero = refl
no-records (h ∷ honest) (suc m) = no-records honest m

pub opens-told : (s : Setting) (lists : Journals) → ((m : ℕ) → journal_of lists m ≡ []) → Tells (Some lists) (new_world s)
unfolding new_world
opens-told s lists none m = none m ∙ ap (λ (records : List Record). spelled records) (sym (no-records s.honest m))
