-- The members of a world that was opened.
use Rattle.std.proofs.Common.{◌≡◌, ◌==◌, ◌≤◌, ℕ, zero, suc, Bool, true, false, List, [], ◌∷◌, length, replicate, subst, Option, Some, None, Result, Ok, Err, IfOk, nat_lt, if◌then◌else◌, refl, sym, ap, ◌∙◌, arith}
use Rattle.std.proofs.lemmas.Bool.Decides.{nat_tests}
use Rattle.outside.specs.declared.turns.Turns.{Turns}
use Rattle.outside.specs.Fakes.{KeeperState}
use Rattle.outside.specs.Lists.{Journals, HasMembers, journal_of}
use Rattle.chain_types.specs.declared.objects.Object.{Object}
use Rattle.quorum_core.specs.declared.committee.CommitteeRefusal.{CommitteeRefusal}
use Rattle.quorum_core.specs.declared.committee.CommitteeRefusal.TheVariants as refusal
use Rattle.quorum_core.specs.Committee.{committee_of}
use Rattle.schedule_text.specs.declared.words.Setup.{Setup}
use Rattle.world_spec.specs.Setting.{Trust, honest_of, setting_of, stakes_of}
use Rattle.world_spec.specs.Terms.{Terms}
use Rattle.world_spec.specs.Posts.{new_posts}
use Rattle.world_spec.specs.Scene.{Scene, new_scene}
use Rattle.committee_core.specs.Journals.{AreAtLeast, AreEmpty}
use Rattle.world_core.proofs.Sound.{as_many}

few-where : (n : ℕ) (empty many : Bool) (last : Result (List ℕ) CommitteeRefusal) (stakes : List ℕ) → many ≡ nat_lt 64 n
    → (if empty then Err refusal.NoMembers else (if many then Err refusal.TooManyMembers else last)) ≡ Ok stakes → n ≤ 64
few-where n true many last stakes is h = absurd (cc)
few-where n false true last stakes is h = absurd (cc)
few-where n false false last stakes is h = grind (arith, nat_tests)

few-members : (stakes : List ℕ) → committee_of stakes ≡ Ok stakes → length stakes ≤ 64
unfolding committee_of
few-members stakes h = few-where (length stakes) (length stakes == 0) (nat_lt 64 (length stakes)) _ stakes refl h

posts-of : (terms : Terms) (opening : List Object) (m : ℕ) (flags : List Bool) → length (new_posts terms opening m flags) ≡ length flags
posts-of terms opening m [] = refl
posts-of terms opening m (honest ∷ flags) = ap suc (posts-of terms opening (suc m) flags)

-- the world has a member for each stake, and at most 64
pub few_posts : (trust : Trust) (lines : List Setup) (sc : Scene) → sc ≡ new_scene (setting_of trust lines) lines → committee_of (stakes_of lines) ≡ Ok (stakes_of lines) → length sc.posts ≤ 64
unfolding setting_of
few_posts trust lines sc is h =
    let few : length (stakes_of lines) ≤ 64 = few-members (stakes_of lines) h in
    let size : length sc.posts ≡ length (stakes_of lines) = ap (λ (x : Scene). length x.posts) is ∙ posts-of _ _ 0 (honest_of lines) ∙ as_many lines in
    omega (arith, few, size)

-- observable lists are as many as the keeper has
pub wide_enough : (lists : Option Journals) (n k : ℕ) → HasMembers lists k → n ≤ k → AreAtLeast lists n
wide_enough None n k members fits = tt
wide_enough (Some lists) n k members fits = let size : length lists ≡ k = members in omega (arith, size, fits)

-- ---- a keeper in memory

pub fresh-list : (n m : ℕ) → journal_of (replicate n []) m ≡ []
fresh-list zero m = refl
fresh-list (suc n) zero = refl
fresh-list (suc n) (suc m) = fresh-list n m

pub fresh_lists : (n : ℕ) (lists : Journals) → lists ≡ replicate n [] → AreEmpty (Some lists)
fresh_lists n lists is = subst (λ (l : Journals). (m : ℕ) → journal_of l m ≡ []) (sym is) (fresh-list n)

pub fresh_kept : {E : Type 0} (n : ℕ) (turns : Turns) (r : Result KeeperState E) → IfOk r (λ k. k ≡ record { lists = replicate n []; turns = turns; faults = 0 }) → IfOk r (λ k. AreEmpty (Some k.lists))
fresh_kept n turns (Ok k) is = fresh_lists n k.lists (ap (λ (x : KeeperState). x.lists) is)
fresh_kept n turns (Err refused) is = tt

fresh-count : {A : Type 0} (n : ℕ) (x : A) → length (replicate n x) ≡ n
fresh-count zero x = refl
fresh-count (suc n) x = ap suc (fresh-count n x)

pub fresh_width : (n : ℕ) (lists : Journals) → lists ≡ replicate n [] → n ≤ length lists
fresh_width n lists is = let size : length lists ≡ n = ap length is ∙ fresh-count n [] in omega (arith, size)
