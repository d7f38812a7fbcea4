-- The lines of members, one after the other.
use Rattle.std.proofs.Common.{◌≡◌, ◌∙◌, ◌<◌, ◌≤◌, ◌+◌, ℕ, zero, suc, Bool, List, [], ◌∷◌, ◌++◌, drop, length, map, Option, Some, None, sym, ap, arith, append_assoc, append-nil, refl}
use Rattle.std.specs.Prelude.{slice_get}
use Rattle.protocol_spec.specs.Member.Member.{Member}
use Rattle.world_spec.specs.Known.{Known}
use Rattle.world_spec.specs.Posts.{Post}
use Rattle.world_core.specs.Crews.{honest_flags, honest_post}
use Rattle.inspect.specs.Standing.{states_in}
use Rattle.inspect.specs.StateLines.{absent_text, standing_text, state_text, states_text}

-- ---- one member

pub stands : (k : Known) (n : ℕ) (honest : Bool) (o : Option Member) (m : Member) (text : List ℕ) → o ≡ Some m → text ≡ standing_text k n m → text ≡ state_text k n honest o
stands k n honest o m text is said = said ∙ ap (state_text k n honest) (sym is)

pub stands_not : (k : Known) (n : ℕ) (honest flag : Bool) (o : Option Member) (text : List ℕ) → o ≡ None → flag ≡ honest → text ≡ absent_text n flag → text ≡ state_text k n honest o
stands_not k n honest flag o text is same said = said ∙ ap (absent_text n) same ∙ ap (state_text k n honest) (sym is)

-- ---- all members

flag_at : (posts : List Post) (n : ℕ) → n < length posts → drop n (honest_flags posts) ≡ honest_post (slice_get posts n) ∷ drop (suc n) (honest_flags posts)
flag_at [] n low = absurd (omega (arith, low))
flag_at (p ∷ posts) zero low = refl
flag_at (p ∷ posts) (suc n) low = flag_at posts n (omega (arith, low))

-- one more member after those so far
pub one_told : (k : Known) (posts : List Post) (n : ℕ) (text now whole : List ℕ) → n < length posts
    → text ++ states_text k (states_in posts) n (drop n (honest_flags posts)) ≡ whole
    → now ≡ text ++ state_text k n (honest_post (slice_get posts n)) (states_in posts n)
    → now ++ states_text k (states_in posts) (n + 1) (drop (n + 1) (honest_flags posts)) ≡ whole
one_told k posts n text now whole low so_far is =
    let next : n + 1 ≡ suc n = omega arith in
    let rest : List ℕ = states_text k (states_in posts) (suc n) (drop (suc n) (honest_flags posts)) in
    ap (λ (m : ℕ). now ++ states_text k (states_in posts) m (drop m (honest_flags posts))) next
    ∙ (ap (λ (t : List ℕ). t ++ rest) is
    ∙ (append_assoc text (state_text k n (honest_post (slice_get posts n)) (states_in posts n)) rest
    ∙ (ap (λ (flags : List Bool). text ++ states_text k (states_in posts) n flags) (sym (flag_at posts n low)) ∙ so_far)))

pub all_told : (k : Known) (posts : List Post) (n : ℕ) (text whole : List ℕ) → length posts ≤ n
    → text ++ states_text k (states_in posts) n (drop n (honest_flags posts)) ≡ whole → text ≡ whole
all_told k posts n text whole most so_far =
    sym (ap (λ (flags : List Bool). text ++ states_text k (states_in posts) n flags) (none_left posts n most) ∙ append-nil text) ∙ so_far
  where
    none_left : (posts : List Post) (n : ℕ) → length posts ≤ n → drop n (honest_flags posts) ≡ []
    none_left [] zero most = refl
    none_left [] (suc n) most = refl
    none_left (p ∷ posts) zero most = absurd (omega (arith, most))
    none_left (p ∷ posts) (suc n) most = none_left posts n (omega (arith, most))
