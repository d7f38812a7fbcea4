-- The restart of a member from its records. Source: this profile.
use Rattle.std.specs.Prelude.{◌≡◌, ℕ, List, Option, Some, None, Ok, Err, length}
use Rattle.chain_types.specs.declared.objects.Object.{Object}
use Rattle.outside.specs.Lists.{Journals, journal_of}
use Rattle.protocol_spec.specs.Chain.Certificates.{Rules}
use Rattle.protocol_spec.specs.declared.refusals.StartRefusal.TheVariants as no_start
use Rattle.protocol_spec.specs.Member.Member.{Member}
use Rattle.world_spec.specs.Starts.{started}
use Rattle.world_spec.specs.Terms.{Terms}
use Rattle.world_spec.specs.Posts.{Post, started_at}

-- these are the member's records in the observable lists; if no lists are observable, nothing is known of them
abbrev pub IsJournal : Option Journals → ℕ → List (List ℕ) → Type 0
IsJournal None m kept = Unit {0}
IsJournal (Some lists) m kept = kept ≡ journal_of lists m

-- a restart of a member that is there: it started from its records, and `count` is their number
pub record HasRestarted (r : Rules) (opening : List Object) (told : Option Journals) (terms : Terms) (m : ℕ) (old new : List Post) (count : ℕ) : Type 0 where
  pub kept : List (List ℕ)
  pub state : Member
  pub is : IsJournal told m kept
  pub many : count ≡ length kept
  pub starts : started r opening kept ≡ Ok state
  pub posts : new ≡ started_at terms old m state

-- a restart of a member that is not there: no member changes, and the count is 0
pub record NoneRestarted (old new : List Post) (count : ℕ) : Type 0 where
  pub many : count ≡ 0
  pub posts : new ≡ old

abbrev pub Restarted : Rules → List Object → Option Journals → Terms → ℕ → List Post → List Post → Option Post → ℕ → Type 0
Restarted r opening told terms m old new None count = NoneRestarted old new count
Restarted r opening told terms m old new (Some p) count = HasRestarted r opening told terms m old new count

-- the record at this place is the first from which the member does not start
pub record HasBadRecord (r : Rules) (opening : List Object) (told : Option Journals) (m : ℕ) (place : ℕ) : Type 0 where
  pub kept : List (List ℕ)
  pub why : ℕ
  pub is : IsJournal told m kept
  pub starts : started r opening kept ≡ Err (no_start.BadRecord place why)
