-- One step of the walk over the links of a chain.
use Rattle.std.proofs.Common.{arith, subst, take, drop, get_or, ◌≡◌, ◌∙◌, ◌≤◌, ◌+◌, ◌-◌, ℕ, List, [], ◌∷◌, Option, Some, None, refl, sym, ap, length}
use Rattle.std.specs.Prelude.{option_map}
use Rattle.checkpoint_core.specs.Links.{wanted_number}
use Rattle.protocol_spec.proofs.ListLemmas.{tail_is}
use Rattle.protocol_spec.specs.Chain.Words.{first_some}
use Rattle.light_check.specs.declared.chain.Link.{Link}
use Rattle.light_check.specs.declared.link.Tip.{Tip}
use Rattle.light_check.specs.Certified.{Accepting}
use Rattle.checkpoint_core.specs.Checkpoints.{checkpoint}
use Rattle.light_check.specs.Chains.{AllShort}
use Rattle.light_check.specs.Causes.{cause_of, first_bad_from, place_of_tip, tip_of}
use Rattle.light_check.proofs.Shorts.{link_short}
use Rattle.light_check.proofs.Certifying.{number_goes_on}

-- the tip is that of the checkpoint whose number is one less than the place
abbrev pub IsBehind : ℕ → Option Tip → Type 0
IsBehind place None = place ≡ 0
IsBehind place (Some tip) = tip.number + 1 ≡ place

wants_place : (place : ℕ) (before : Option Tip) → IsBehind place before → wanted_number (option_map place_of_tip before) ≡ place
wants_place place None is = sym is
wants_place place (Some tip) is = is

-- a link without a cause has the number of its place
behind_link : (stakes : List ℕ) (accepts : Accepting) (place : ℕ) (before : Option Tip) (l : Link) → cause_of stakes accepts before l ≡ None → IsBehind place before → IsBehind (place + 1) (Some (tip_of l.checkpoint))
behind_link stakes accepts place before l none is = ap (λ (n : ℕ). n + 1) (number_goes_on stakes accepts before l none ∙ wants_place place before is)

-- the walk goes on after a link without a cause
walks_on : (stakes : List ℕ) (accepts : Accepting) (place : ℕ) (before : Option Tip) (l : Link) (ls : List Link) → cause_of stakes accepts before l ≡ None
    → first_bad_from stakes accepts place before (l ∷ ls) ≡ first_bad_from stakes accepts (place + 1) (Some (tip_of l.checkpoint)) ls
walks_on stakes accepts place before l ls none = rw none (only (first_bad_from stakes accepts (place + 1) (Some (tip_of l.checkpoint)) ls))
  where
    only : {A : Type 0} (x : Option A) → first_some (None ∷ x ∷ []) ≡ x
    only None = refl
    only (Some x) = refl

-- the links that are left, of which the first stands at this place after this tip, give what all give
pub record Walks (stakes : List ℕ) (accepts : Accepting) (links : List Link) (place : ℕ) (before : Option Tip) (rest : List Link) : Type 0 where
  pub same : first_bad_from stakes accepts place before rest ≡ first_bad_from stakes accepts 0 None links
  pub count : place + length rest ≡ length links
  pub short : AllShort rest
  pub behind : IsBehind place before

pub goes_further : (stakes : List ℕ) (accepts : Accepting) (links rest : List Link) (place : ℕ) (before : Option Tip) (l : Link) (tip : Tip) → l ≡ get_or rest 0 l → 1 ≤ length rest
    → Walks stakes accepts links place before rest → cause_of stakes accepts before l ≡ None → tip ≡ tip_of l.checkpoint → Walks stakes accepts links (place + 1) (Some tip) (take (length rest - 1) (drop 1 rest))
goes_further stakes accepts links [] place before l tip first some walks none is = absurd (omega (arith, some))
goes_further stakes accepts links (y ∷ ys) place before l tip first some walks none is =
    subst (λ (xs : List Link). Walks stakes accepts links (place + 1) (Some tip) xs) (sym (tail_is y ys))
    (subst (λ (t : Tip). Walks stakes accepts links (place + 1) (Some t) ys) (sym is) (record {
      same = sym (walks_on stakes accepts place before l ys none) ∙ (ap (λ (x : Link). first_bad_from stakes accepts place before (x ∷ ys)) first ∙ walks.same);
      count = let count = walks.count in omega (arith, count);
      short = walks.short.1;
      behind = behind_link stakes accepts place before l none walks.behind;
    }))

-- what the next link asks for
pub next_short : (stakes : List ℕ) (accepts : Accepting) (links rest : List Link) (place : ℕ) (before : Option Tip) (l : Link) → l ≡ get_or rest 0 l → 1 ≤ length rest
    → Walks stakes accepts links place before rest → checkpoint.short l.checkpoint
next_short stakes accepts links [] place before l first some walks = absurd (omega (arith, some))
next_short stakes accepts links (y ∷ ys) place before l first some walks = subst (λ (x : Link). checkpoint.short x.checkpoint) (sym first) (link_short y walks.short.0)
