-- What is said of a member that is followed.
use Rattle.std.proofs.Common.{◌≡◌, ◌∙◌, ℕ, zero, suc, Bool, true, false, cond, List, [], ◌∷◌, length, Option, Some, None, Result, Ok, Err, inl, inr, ◌⊎◌, refl, sym, ap, subst, append_assoc, ◌++◌}
use Rattle.std.specs.Prelude.{OnOk, IfOk, codes, decimal, option_map, slice_get}
use Rattle.std.specs.Io.KnownBytes.{Appends}
use Rattle.std.proofs.KnownBytes.{Appends-nil, Keeps-refl}
use Rattle.wire_bcs.specs.declared.seq.OutOfMemory.{OutOfMemory}
use Rattle.outside.specs.Lists.{Journals}
use Rattle.outside.specs.Streams.{ReadsText}
use Rattle.chain_types.specs.declared.objects.Object.{Object}
use Rattle.schedule_text.specs.declared.words.Schedule.{Schedule}
use Rattle.schedule_text.specs.Schedule.{Refused, longest_text, schedule_of}
use Rattle.protocol_spec.specs.Member.Member.{Member, built}
use Rattle.world_spec.specs.Setting.{Setting, Trust}
use Rattle.world_spec.specs.World as worlds
use Rattle.world_spec.specs.World.{World, honest_seat, member_in}
use Rattle.world_spec.specs.Run.{world_after}
use Rattle.world_spec.specs.Posts.{seat_at}
use Rattle.world_spec.specs.Scene.{Scene}
use Rattle.world_spec.specs.Seats.{Seated}
use Rattle.world_spec.specs.Terms.{terms_of}
use Rattle.world_spec.specs.SceneWorlds.{Shows, posts_from}
use Rattle.validator_core.specs.Opened.{opening_objects}
use Rattle.world_core.specs.Looks.{transaction_of}
use Rattle.follower_core.specs.declared.catching.CatchUpRefusal.{CatchUpRefusal}
use Rattle.follower_core.specs.Catching.{Known, before_epoch, caught_up}
use Rattle.follower_core.specs.Following.{State, applied_in, opened}
use Rattle.headline_law.specs.Followed.{made_as}
use Rattle.committee_core.specs.declared.verdict.Verdict.{Verdict}
use Rattle.committee_core.specs.declared.verdict.Verdict.TheVariants as verdict
use Rattle.committee_core.specs.Follow.{Asked, ComesTo, Finds, FrontOf, IsEqual, IsVerdict, IsVerdictBehind, IsVerdictFrom, LeavesObjects, FollowsBad, FollowsFront, asked_at, asked_in, asked_up, follower_of, state_in, unrefused, unrun, verdict_words}
use Rattle.committee_core.specs.Headline.{program_trust}
use Rattle.committee_core.specs.Journals.{KeepsFronts, ReadsBack}
use Rattle.committee_core.specs.Report.{refusal_text, setting_in}
use Rattle.committee_core.specs.Ways.{MeetsBadRecord, RunsCut, RunsSilently, TextCut}
use Rattle.committee_core.proofs.Ended.{holds_along}
use Rattle.committee_core.proofs.Whole.{whole_fronts}
use Rattle.committee_core.proofs.Through.{through}

-- ---- a member that is honest and up

module _ (known : Known) (opening : List Object) (m : Member) where
  comes : (Far : Member → Result State CatchUpRefusal → Type 0) → Far m (follower_of known opening m) → ComesTo known opening (asked_up m) Far
  comes Far far = record { honest = refl; member = m; stands = refl; far = far }

  pub taken_all : (s : State) (v : Verdict) → follower_of known opening m ≡ Ok s → applied_in s.tip ≡ length (before_epoch m.epoch (built m)) → IsVerdictFrom m s v → IsVerdict known opening (asked_up m) v
  taken_all s verdict.NoHonest is count from = absurd from
  taken_all s verdict.Down is count from = absurd from
  taken_all s (verdict.Stuck number place) is count from = absurd from
  taken_all s (verdict.Differs number place) is count from = absurd from
  taken_all s verdict.Unequal is count from = comes (λ n r. LeavesObjects r (λ live. live ≡ opening_objects n → ⊥)) (record { state = s; is = is; live = from })
  taken_all s (verdict.Equal checkpoints epoch objects) is count from =
      comes (λ n r. LeavesObjects r (IsEqual n checkpoints epoch objects))
      (record { state = s; is = is; live = record { same = from.0; checkpoints_are = from.1 ∙ count; epoch_is = from.2; objects_are = from.3 } })

-- by the objects and the epoch that the code was handed
module _ (known : Known) (opening handed : List Object) (m : Member) (epoch : ℕ) (same : handed ≡ opening) (now : epoch ≡ m.epoch) where
  follower_is : (r : Result State CatchUpRefusal) → caught_up known (opened handed) (before_epoch epoch (built m)) ≡ r → follower_of known opening m ≡ r
  follower_is r is = sym (ap (λ (os : List Object). caught_up known (opened os) (before_epoch epoch (built m))) same ∙ ap (λ (e : ℕ). caught_up known (opened opening) (before_epoch e (built m))) now) ∙ is

  pub all_taken : (s : State) (r : Result Verdict OutOfMemory) → caught_up known (opened handed) (before_epoch epoch (built m)) ≡ Ok s → applied_in s.tip ≡ length (before_epoch epoch (built m)) → IfOk r (IsVerdictFrom m s) → IfOk r (IsVerdict known opening (asked_up m))
  all_taken s (Ok v) is count from = taken_all known opening m s v (follower_is (Ok s) is) (count ∙ ap (λ (e : ℕ). length (before_epoch e (built m))) now) from
  all_taken s (Err e) is count from = tt

-- ---- after a run

chosen : (h u : Bool) (x : Seated) → option_map (λ (q : Seated). q.state) (cond h (cond u (Some x) None) None) ≡ cond h (cond u (Some x.state) None) None
chosen true true x = refl
chosen true false x = refl
chosen false u x = refl

asked_post : (s : Setting) (n : ℕ) (seats : List worlds.Seat) (m : ℕ) → asked_at (slice_get (posts_from s n seats) m) ≡ record { honest = honest_seat (slice_get seats m); state = state_in s (slice_get seats m) }
asked_post s n [] m = refl
asked_post s n (seat ∷ seats) zero =
    let state : Option Member → Asked = λ o. record { honest = seat.honest; state = o } in
    ap state (chosen seat.honest seat.up (seat_at (terms_of s.rules) n (member_in s seat)))
asked_post s n (seat ∷ seats) (suc m) = asked_post s (suc n) seats m

module _ (s : Setting) (w : World) (m : ℕ) (v : Verdict) where
  Sees : Scene → Type 0
  Sees sc = IsVerdict (transaction_of sc.known) sc.opening (asked_at (slice_get sc.posts m)) v

  shown : (trust : Trust) (sc : Scene) → Shows trust s w sc → Sees sc → IsVerdict (made_as w) s.opening (asked_in s w m) v
  unfolding Sees
  shown trust sc shows sees = subst (λ (a : Asked). IsVerdict (made_as w) s.opening a v) (asked_post s 0 w.seats m) (subst Sees shows.scene sees)

-- what is seen of the member after a run is true of it
pub found : (text : List ℕ) (m : ℕ) (kept kept' : Option Journals) (sc : Scene) (v : Verdict) → RunsSilently program_trust text kept kept' sc
    → IsVerdict (transaction_of sc.known) sc.opening (asked_at (slice_get sc.posts m)) v → Finds text m kept kept' v
unfolding Sees
found text m kept kept' sc v runs sees = record {
  schedule = runs.schedule;
  is = runs.is;
  true_of = true-of;
  through = λ back run_is made. through runs.schedule run_is made m v (true-of back);
  journals = runs.journals;
  holds = holds_along text runs.schedule runs.is;
}
  where
    true-of : ReadsBack kept runs.schedule.events → IsVerdictBehind runs.schedule m v
    true-of back = shown (setting_in program_trust runs.schedule) (world_after (setting_in program_trust runs.schedule) runs.schedule.events) m v program_trust sc (runs.shows back) sees

-- ---- what was cut

pub untold : (trust : Trust) (s : Schedule) (kept kept' : Option Journals) → kept ≡ None → KeepsFronts trust s kept kept'
untold trust s None kept' none = tt
untold trust s (Some lists) kept' none = absurd (cc)

front_by : {R : Type 0} (text : List ℕ) (m : ℕ) (held : Option (List ℕ)) (kept kept' : Option Journals) (r : Result Schedule Refused) → schedule_of text ≡ r → TextCut program_trust r None None kept kept' → FrontOf text m held held kept kept' R
front_by text m held kept kept' (Ok s) is (inl front) = unrun s is front.journals (Keeps-refl held)
front_by text m held kept kept' (Ok s) is (inr bad) = unrun s is (untold program_trust s kept kept' bad.untold) (Keeps-refl held)
front_by text m held kept kept' (Err r) is cut = unrefused r is cut.1 ([], refusal_text r, refl, Appends-nil held)

pub front_of : {R : Type 0} (text : List ℕ) (m : ℕ) (held : Option (List ℕ)) (kept kept' : Option Journals) → TextCut program_trust (schedule_of text) None None kept kept' → FrontOf text m held held kept kept' R
front_of text m held kept kept' cut = front_by text m held kept kept' (schedule_of text) refl cut

-- a run that ended, of which nothing is said
pub ran_cut : (text : List ℕ) (kept kept' : Option Journals) (sc : Scene) → RunsSilently program_trust text kept kept' sc → TextCut program_trust (schedule_of text) None None kept kept'
ran_cut text kept kept' sc runs =
    let front : RunsCut program_trust runs.schedule None None kept kept' = inl (record { written = λ back. ([], _, refl, Appends-nil None); journals = whole_fronts program_trust runs.schedule kept kept' runs.journals }) in
    subst (λ (r : Result Schedule Refused). TextCut program_trust r None None kept kept') (sym runs.is) front

-- ---- a text that was read

pub fault_of : {R : Type 0} (text : List ℕ) (m : ℕ) (left left' held held' : Option (List ℕ)) (kept kept' : Option Journals) → ReadsText longest_text left left' text
    → (R × FrontOf text m held held' kept kept' R) ⊎ ((s : Schedule) × (schedule_of text ≡ Ok s) × MeetsBadRecord program_trust s Appends None None kept)
    → (R × FollowsFront m left left' held held' kept kept' R) ⊎ FollowsBad left left' kept
fault_of text m left left' held held' kept kept' read (inl (rose, front)) = inl (rose, inr (text, read, front))
fault_of text m left left' held held' kept kept' read (inr (s, is, meets)) = inr (record { text = text; schedule = s; read = read; is = is; meets = meets })

-- ---- the line of a verdict

grow : (text xs ys whole : List ℕ) → whole ≡ text ++ xs → whole ++ ys ≡ text ++ (xs ++ ys)
grow text xs ys whole is = ap (λ (o : List ℕ). o ++ ys) is ∙ append_assoc text xs ys

regrouped : (text a b c d e f : List ℕ) → text ++ a ++ b ++ c ++ d ++ e ++ f ≡ text ++ (a ++ b ++ c ++ d ++ e ++ f)
regrouped text a b c d e f =
    grow text (a ++ b ++ c ++ d ++ e) f (text ++ a ++ b ++ c ++ d ++ e)
    (grow text (a ++ b ++ c ++ d) e (text ++ a ++ b ++ c ++ d)
    (grow text (a ++ b ++ c) d (text ++ a ++ b ++ c)
    (grow text (a ++ b) c (text ++ a ++ b) (append_assoc text a b))))

pub equal_printed : {E : Type 0} (r : Result (Unit {0}) E) (text one new a b d : List ℕ) (v : Verdict) (checkpoints epoch objects : ℕ) → v ≡ verdict.Equal checkpoints epoch objects
    → a ≡ codes "equal checkpoints " → b ≡ codes " epoch " → d ≡ codes " objects " → one ≡ text ++ a ++ decimal checkpoints
    → OnOk r (new ≡ one ++ b ++ decimal epoch ++ d ++ decimal objects) → OnOk r (new ≡ text ++ verdict_words v)
equal_printed (Ok u) text one new a b d v checkpoints epoch objects is at bt dt first whole =
    let words : List ℕ → List ℕ → List ℕ → List ℕ = λ x y z. text ++ (x ++ decimal checkpoints ++ y ++ decimal epoch ++ z ++ decimal objects) in
    let printed : new ≡ words a b d =
    whole ∙ ap (λ (o : List ℕ). o ++ b ++ decimal epoch ++ d ++ decimal objects) first ∙ regrouped text a (decimal checkpoints) b (decimal epoch) d (decimal objects) in
    let spelled : new ≡ words (codes "equal checkpoints ") (codes " epoch ") (codes " objects ") =
    printed ∙ ap (λ (o : List ℕ). words o b d) at ∙ ap (λ (o : List ℕ). words (codes "equal checkpoints ") o d) bt ∙ ap (λ (o : List ℕ). words (codes "equal checkpoints ") (codes " epoch ") o) dt in
    subst (λ (x : Verdict). new ≡ text ++ verdict_words x) (sym is) spelled
equal_printed (Err e) text one new a b d v checkpoints epoch objects is at bt dt first whole = tt
