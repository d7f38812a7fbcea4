-- A chain and what honest members have built.
use Rattle.std.proofs.Common.{◌≡◌, ◌∙◌, ◌↔◌, ◌<◌, ◌≤◌, ℕ, zero, suc, Bool, true, false, cond, List, [], ◌∷◌, length, Option, Some, None, IsTrue, inl, inr, refl, sym, ap, subst, arith}
use Rattle.std.specs.Prelude.{IfSome, slice_get, option_and_then}
use Rattle.std.proofs.lemmas.Bool.{cases_lt}
use Rattle.checkpoint_core.specs.declared.checkpoints.Checkpoint.{Checkpoint}
use Rattle.schedule_text.specs.declared.words.Event.{Event}
use Rattle.schedule_text.specs.declared.words.Setup.{Setup}
use Rattle.protocol_spec.specs.Chain.Certificates.{Rules}
use Rattle.protocol_spec.specs.Member.Member.{Member, built}
use Rattle.world_spec.specs.Setting.{Setting, Trust, setting_of}
use Rattle.world_spec.specs.World as worlds
use Rattle.world_spec.specs.World.{World, member_in}
use Rattle.world_spec.specs.Run.{world_after}
use Rattle.world_spec.specs.Assumptions.{IsHonestRun}
use Rattle.world_spec.specs.Terms.{terms_of}
use Rattle.world_spec.specs.Seats.{Seated}
use Rattle.world_spec.specs.Posts.{Post}
use Rattle.world_spec.specs.Scene.{Scene}
use Rattle.world_spec.specs.SceneWorlds.{Shows, posts_from}
use Rattle.world_core.specs.Crews.{honest_at}
use Rattle.world_core.specs.Looks.{checkpoint_at}
use Rattle.light_check.specs.declared.chain.Link.{Link}
use Rattle.light_check.specs.Certified.{Accepting, IsCertified}
use Rattle.headline_law.specs.Checked.{CertifiedAgreesInSchedules, IsHonestChain}
use Rattle.committee_core.specs.Agreement.{AllAgree, Differs, IsFirstDifference, IsLowest, NoneDiffers}

-- ---- lists

pub clash : {A : Type 0} {x : A} → None ≡ Some x → ⊥
clash e = absurd (cc)

pub no_post : {A : Type 0} (xs : List A) (m : ℕ) → length xs ≤ m → slice_get xs m ≡ None
no_post [] m most = refl
no_post (x ∷ xs) zero most = absurd (omega (arith, most))
no_post (x ∷ xs) (suc m) most = no_post xs m (omega (arith, most))

in_range : {A : Type 0} (xs : List A) (i : ℕ) (x : A) → slice_get xs i ≡ Some x → i < length xs
in_range [] i x e = absurd (clash e)
in_range (y ∷ xs) zero x e = omega arith
in_range (y ∷ xs) (suc i) x e = let rest = in_range xs i x e in omega (arith, rest)

pub same_link : (links : List Link) (place : ℕ) (k l : Link) → Some k ≡ slice_get links place → slice_get links place ≡ Some l → l ≡ k
same_link links place k l one two = sym (same (one ∙ two))
  where
    same : Some k ≡ Some l → k ≡ l
    same e = cc

pub no_link : {A : Type 0} (links : List Link) (place : ℕ) (l : Link) → None ≡ slice_get links place → slice_get links place ≡ Some l → A
no_link links place l none there = absurd (clash (none ∙ there))

-- ---- which members differ

pub not_so : {A : Type 0} → IsTrue false ↔ A → A → ⊥
not_so is a = never (is.1 a)
  where
    never : IsTrue false → ⊥
    never h = cc

-- one that is not a member does not differ
past_all : (posts : List Post) (place : ℕ) (l : Link) (m : ℕ) → length posts ≤ m → Differs posts place l m → ⊥
past_all posts place l m most (c, e, other) = clash (sym (ap (λ (p : Option Post). checkpoint_at p place) (no_post posts m most)) ∙ e)

-- if none of the members does, none does
pub none_at_all : (posts : List Post) (place : ℕ) (l : Link) (end : ℕ) → ((m : ℕ) → m < end → Differs posts place l m → ⊥) → length posts ≤ end → (m : ℕ) → Differs posts place l m → ⊥
none_at_all posts place l end below most m d = elim (cases_lt m end) [
  | inl low ↦ below m low d
  | inr high ↦ past_all posts place l m (omega (arith, most, high)) d
]

-- if no member differs at any place of a link, all agree
pub all_agree : (posts : List Post) (links : List Link) (end : ℕ) → ((p : ℕ) → p < end → NoneDiffers posts links p) → length links ≤ end → AllAgree posts links
all_agree posts links end before most place l there = before place (let low = in_range links place l there in omega (arith, low, most)) l there

pub lowest_is : (posts : List Post) (links : List Link) (place : ℕ) (k : Link) (result : Option ℕ) → Some k ≡ slice_get links place → IfSome result (λ m. Differs posts place k m)
    → IfSome result (λ m. (j : ℕ) → j < m → Differs posts place k j → ⊥) → IfSome result (IsLowest posts links place)
lowest_is posts links place k None there differs lowest = tt
lowest_is posts links place k (Some m) there differs lowest = record { link = k; there = sym there; differs = differs; lowest = lowest }

-- ---- in a run

-- the member of a post is that of a seat
record IsSeated (s : Setting) (seats : List worlds.Seat) (m : ℕ) (state : Member) : Type 0 where
  seat : worlds.Seat
  there : slice_get seats m ≡ Some seat
  is : state ≡ member_in s seat

seated : (s : Setting) (n : ℕ) (seats : List worlds.Seat) (m : ℕ) (q : Seated) → honest_at (slice_get (posts_from s n seats) m) ≡ Some q → IsSeated s seats m q.state
seated s n [] m q e = absurd (cc)
seated s n (seat ∷ seats) zero q e = go seat.honest seat.up e
  where
    state_is : (x : Seated) → Some x ≡ Some q → x.state ≡ q.state
    state_is x h = let same : x ≡ q = cc in ap (λ (y : Seated). y.state) same

    go : (honest up : Bool) → cond honest (cond up (Some (let x : Seated = record { member = n; terms = terms_of s.rules; up = true; state = member_in s seat } in x)) None) None ≡ Some q → IsSeated s (seat ∷ seats) zero q.state
    go false up h = absurd (cc)
    go true false h = absurd (cc)
    go true true h = record { seat = seat; there = refl; is = sym (state_is _ h) }
seated s n (seat ∷ seats) (suc m) q e = go (seated s (suc n) seats m q e)
  where
    go : IsSeated s seats m q.state → IsSeated s (seat ∷ seats) (suc m) q.state
    go it = record { seat = it.seat; there = it.there; is = it.is }

-- what it has built
record HasBuilt (s : Setting) (seats : List worlds.Seat) (m place : ℕ) (c : Checkpoint) : Type 0 where
  seat : worlds.Seat
  there : slice_get seats m ≡ Some seat
  built_it : slice_get (built (member_in s seat)) place ≡ Some c

built_at : (s : Setting) (seats : List worlds.Seat) (m place : ℕ) (c : Checkpoint) → checkpoint_at (slice_get (posts_from s 0 seats) m) place ≡ Some c → HasBuilt s seats m place c
built_at s seats m place c e = go (honest_at (slice_get (posts_from s 0 seats) m)) refl e
  where
    of : (q : Seated) → IsSeated s seats m q.state → slice_get (built q.state) place ≡ Some c → HasBuilt s seats m place c
    of q it h = record { seat = it.seat; there = it.there; built_it = ap (λ (state : Member). slice_get (built state) place) (sym it.is) ∙ h }

    go : (o : Option Seated) → honest_at (slice_get (posts_from s 0 seats) m) ≡ o → option_and_then (λ (seat : Seated). slice_get (built seat.state) place) o ≡ Some c → HasBuilt s seats m place c
    go None at h = absurd (cc)
    go (Some q) at h = of q (seated s 0 seats m q at) h

-- under the run assumptions no member differs
pub never_differs : CertifiedAgreesInSchedules → (trust : Trust) (lines : List Setup) (events : List Event) (sc : Scene) → Shows trust (setting_of trust lines) (world_after (setting_of trust lines) events) sc
    → (accepts : Accepting) → trust.accepts ≡ accepts → (links : List Link) → IsCertified sc.terms.stakes accepts links
    → IsHonestRun (setting_of trust lines) events → IsHonestChain (setting_of trust lines) (world_after (setting_of trust lines) events) links
    → (place member : ℕ) → IsFirstDifference sc.posts links place member → ⊥
never_differs law trust lines events sc shows accepts same links certified run_is chain place member first = go first.here.differs
  where
    s : Setting
    s = setting_of trust lines

    w : World
    w = world_after s events

    accepts_are : s.rules.accepts ≡ accepts
    accepts_are = ap (λ (r : Rules). r.accepts) shows.rules ∙ same

    is : IsCertified s.rules.stakes s.rules.accepts links
    is = subst (λ (a : Accepting). IsCertified s.rules.stakes a links) (sym accepts_are)
        (subst (λ (stakes : List ℕ). IsCertified stakes accepts links) (ap (λ (x : Scene). x.terms.stakes) shows.scene) certified)

    of : (c : Checkpoint) → (c ≡ first.here.link.checkpoint → ⊥) → HasBuilt s w.seats member place c → ⊥
    of c other it = other (law trust lines events run_is links is chain place first.here.link first.here.there member it.seat it.there c it.built_it)

    go : Differs sc.posts place first.here.link member → ⊥
    go (c, e, other) = of c other (built_at s w.seats member place c (subst (λ (x : Scene). checkpoint_at (slice_get x.posts member) place ≡ Some c) shows.scene e))
