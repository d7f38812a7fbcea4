-- The code's `Collected` as the definition's, and the steps of the search for the first cause. Source: this profile.
use Rattle.std.specs.Prelude.{ℕ, Bool, false, not, Option, Some, None}
use Rattle.protocol_spec.specs.Chain.Collecting.{Collected, lacks, short, differ, whole, differ_from, lacks_where}
use Rattle.cert_rules.specs.declared.collecting.Collected.{Collected as Given}
use Rattle.cert_rules.specs.declared.collecting.Collected.TheVariants as given

-- the code's answer as the definition's
abbrev pub collected_as : Given → Collected
collected_as (given.Lacks m) = lacks m
collected_as (given.Short weight total) = short weight total
collected_as (given.Differ a b) = differ a b
collected_as given.Whole = whole

-- the refusal that names the member, if it has no word
abbrev pub lacks_word : {A : Type 0} → (ℕ → Option A) → ℕ → Option Collected
lacks_word reads m = lacks_where m (reads m)

-- whether two words, if there are both, differ
abbrev pub differs : {A : Type 0} → (A → A → Bool) → Option A → Option A → Bool
differs same None b = false
differs same (Some x) None = false
differs same (Some x) (Some y) = not (same x y)

-- the refusal that names the two members, if both have a word and the words differ
abbrev pub differs_in : {A : Type 0} → (A → A → Bool) → (ℕ → Option A) → ℕ → ℕ → Option Collected
differs_in same reads a b = differ_from same a (reads a) b (reads b)
