-- Each member at its place.
use Rattle.std.proofs.Common.{◌≡◌, true, false, cond, ℕ, zero, suc, ◌+◌, ◌<◌, ◌≤◌, List, [], ◌∷◌, ◌++◌, append_assoc, add-one, length, get_or, set, Option, Some, None, refl, sym, ap, ◌∙◌, subst, arith, length-set}
use Rattle.std.specs.Prelude.{Bool, slice_get, option_map}
use Rattle.std.proofs.lemmas.Option.{slice_get_read}
use Rattle.chain_types.specs.declared.objects.Object.{Object}
use Rattle.protocol_spec.specs.Chain.Certificates.{Rules}
use Rattle.protocol_spec.specs.Member.Calls.{Call, called}
use Rattle.protocol_spec.specs.Member.Member.{fresh}
use Rattle.world_spec.specs.World.{Reached, finds_down, stops, answers}
use Rattle.world_spec.specs.Seats.{Seated}
use Rattle.world_spec.specs.Terms.{Terms}
use Rattle.world_spec.specs.Posts.{Post, changed_at, new_posts, post_behind, seat_at, seat_behind, standing_with}
use Rattle.world_core.specs.Crews.{ArePlaced, IsPlaced, IsPlacedPost, honest_at, honest_flags}

-- ---- one member changes

set_all : (P : ℕ → Option Post → Type 0) (posts : List Post) (m : ℕ) (p : Post) → ((k : ℕ) → P k (slice_get posts k)) → P m (Some p) → (k : ℕ) → P k (slice_get (set posts m p) k)
set_all P [] m p all here k = all k
set_all P (x ∷ posts) zero p all here zero = here
set_all P (x ∷ posts) zero p all here (suc k) = all (suc k)
set_all P (x ∷ posts) (suc m) p all here zero = all zero
set_all P (x ∷ posts) (suc m) p all here (suc k) = set_all (λ j o. P (suc j) o) posts m p (λ j. all (suc j)) here k

set_flags : (posts : List Post) (m : ℕ) (old p : Post) → slice_get posts m ≡ Some old → p.honest ≡ old.honest → honest_flags posts ≡ honest_flags (set posts m p)
set_flags [] m old p e same = refl
set_flags (x ∷ posts) zero old p e same = let is : x ≡ old = cc in ap (λ (h : Bool). h ∷ honest_flags posts) (ap (λ (o : Post). o.honest) is ∙ sym same)
set_flags (x ∷ posts) (suc m) old p e same = ap (λ (hs : List Bool). x.honest ∷ hs) (set_flags posts m old p e same)

-- what holds of the members together
abbrev pub AreWhole : Terms → List Bool → List Post → Type 0
AreWhole terms flags posts = ArePlaced terms posts × (flags ≡ honest_flags posts) × (length posts ≤ 64)

pub placed_in : (terms : Terms) (posts : List Post) (n m : ℕ) (old : Post) → n ≡ length posts → m < n → old ≡ get_or posts m old → ArePlaced terms posts → IsPlaced terms m old.standing
placed_in terms posts n m old count low is placed = subst (IsPlacedPost terms m) (slice_get_read posts n m old count low is) (placed m)

-- a member that stands at a number is placed there
pub placed_at : (terms : Terms) (posts : List Post) (m : ℕ) (p : Post) (o : Option Seated) → ArePlaced terms posts → Some p ≡ slice_get posts m → o ≡ p.standing → IsPlaced terms m o
placed_at terms posts m p o all at is = subst (IsPlaced terms m) (sym is) (subst (IsPlacedPost terms m) (sym at) (all m))

-- an honest member that stands at a number is placed there
pub honest_placed : (terms : Terms) (posts : List Post) (m : ℕ) (p : Post) (o : Option Seated) → ArePlaced terms posts → Some p ≡ slice_get posts m → o ≡ honest_at (Some p) → IsPlaced terms m o
honest_placed terms posts m p o all at is = subst (IsPlaced terms m) (sym is) (by p.honest (subst (IsPlacedPost terms m) (sym at) (all m)))
  where
    by : (honest : Bool) → IsPlaced terms m p.standing → IsPlaced terms m (cond honest p.standing None)
    by true placed = placed
    by false placed = tt

pub whole_with : (terms : Terms) (flags : List Bool) (posts : List Post) (n m : ℕ) (old p : Post) → n ≡ length posts → m < n → old ≡ get_or posts m old → AreWhole terms flags posts → IsPlaced terms m p.standing → p.honest ≡ old.honest
    → AreWhole terms flags (set posts m p)
whole_with terms flags posts n m old p count low is whole placed same =
    (set_all (IsPlacedPost terms) posts m p whole.0 placed, whole.1 ∙ set_flags posts m old p (slice_get_read posts n m old count low is) same, subst (λ (k : ℕ). k ≤ 64) (sym (length-set posts m p)) whole.2)

pub changed_is : (change : Post → Post) (posts : List Post) (n m : ℕ) (old p : Post) → n ≡ length posts → m < n → old ≡ get_or posts m old → p ≡ change old → set posts m p ≡ changed_at posts m change (slice_get posts m)
changed_is change posts n m old p count low is e = ap (set posts m) e ∙ ap (changed_at posts m change) (sym (slice_get_read posts n m old count low is))

-- ---- after a call

pub placed_behind : (terms : Terms) (m : ℕ) (r : Rules) (call : Call) (old : Seated) → old ≡ seat_at terms m old.state → seat_behind r call old ≡ seat_at terms m (called r old.state call)
placed_behind terms m r call old e = ap (λ (s : Seated). record s { state = called r old.state call }) e

standing_behind : (terms : Terms) (m : ℕ) (r : Rules) (call : Call) (o : Option Seated) → IsPlaced terms m o → IsPlaced terms m (option_map (seat_behind r call) o)
standing_behind terms m r call None placed = tt
standing_behind terms m r call (Some seat) placed = placed_behind terms m r call seat placed

pub post_placed : (terms : Terms) (m : ℕ) (r : Rules) (call : Call) (p : Post) (what : Reached) → IsPlaced terms m p.standing → IsPlaced terms m (post_behind r call p what).standing
post_placed terms m r call p finds_down placed = placed
post_placed terms m r call p (stops kept x) placed = tt
post_placed terms m r call p (answers before x) placed = standing_behind terms m r call p.standing placed

pub post_honest : (r : Rules) (call : Call) (p : Post) (what : Reached) → (post_behind r call p what).honest ≡ p.honest
post_honest r call p finds_down = refl
post_honest r call p (stops kept x) = refl
post_honest r call p (answers before x) = refl

-- ---- new members

pub new_placed : (terms : Terms) (opening : List Object) (flags : List Bool) (first k : ℕ) → IsPlacedPost terms (first + k) (slice_get (new_posts terms opening first flags) k)
new_placed terms opening [] first k = tt
new_placed terms opening (honest ∷ flags) first zero = let e : first ≡ first + 0 = omega arith in ap (λ (m : ℕ). seat_at terms m (fresh opening)) e
new_placed terms opening (honest ∷ flags) first (suc k) = let e : suc first + k ≡ first + suc k = omega arith in subst (λ (m : ℕ). IsPlacedPost terms m (slice_get (new_posts terms opening (suc first) flags) k)) e (new_placed terms opening flags (suc first) k)

pub new_flags : (terms : Terms) (opening : List Object) (flags : List Bool) (first : ℕ) → flags ≡ honest_flags (new_posts terms opening first flags)
new_flags terms opening [] first = refl
new_flags terms opening (honest ∷ flags) first = ap (λ (hs : List Bool). honest ∷ hs) (new_flags terms opening flags (suc first))

pub new_length : (terms : Terms) (opening : List Object) (flags : List Bool) (first : ℕ) → length (new_posts terms opening first flags) ≡ length flags
new_length terms opening [] first = refl
new_length terms opening (honest ∷ flags) first = ap suc (new_length terms opening flags (suc first))

pub new_whole : (terms : Terms) (opening : List Object) (flags : List Bool) → length flags ≤ 64 → AreWhole terms flags (new_posts terms opening 0 flags)
new_whole terms opening flags few =
    (λ k. (let e : 0 + k ≡ k = omega arith in subst (λ (m : ℕ). IsPlacedPost terms m (slice_get (new_posts terms opening 0 flags) k)) e (new_placed terms opening flags 0 k)), new_flags terms opening flags 0, subst (λ (n : ℕ). n ≤ 64) (sym (new_length terms opening flags 0)) few)

pub new_more : (terms : Terms) (opening : List Object) (acc : List Post) (m : ℕ) (honest : Bool) (flags : List Bool) (p : Post) → p ≡ standing_with terms m honest (fresh opening)
    → (acc ++ p ∷ []) ++ new_posts terms opening (m + 1) flags ≡ acc ++ new_posts terms opening m (honest ∷ flags)
new_more terms opening acc m honest flags p e =
    append_assoc acc (p ∷ []) (new_posts terms opening (m + 1) flags)
    ∙ ap (λ (q : Post). acc ++ q ∷ new_posts terms opening (m + 1) flags) e
    ∙ ap (λ (n : ℕ). acc ++ standing_with terms m honest (fresh opening) ∷ new_posts terms opening n flags) (add-one m)

pub new_is : (terms : Terms) (opening : List Object) (flags : List Bool) (given : Terms) (kept : List Bool) (posts : List Post) → given ≡ terms → kept ≡ flags → posts ≡ new_posts terms opening 0 flags → length flags ≤ 64 → AreWhole given kept posts
new_is terms opening flags given kept posts same_terms same_flags is few =
    subst (λ (s : Terms). AreWhole s kept posts) (sym same_terms) (subst (λ (f : List Bool). AreWhole terms f posts) (sym same_flags) (subst (λ (p : List Post). AreWhole terms flags p) (sym is) (new_whole terms opening flags few)))
