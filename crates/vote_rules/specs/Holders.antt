-- What the maps of a book stand for, and how they are kept. Source: Sui Lutris; that a member halts on a fork is
-- this profile's own.
use Rattle.std.specs.Prelude.{◌≡◌, ℕ, false, List, [], Option, None, Some, map, fold, find, is_some, option_map, slice_get, if◌then◌else◌}
use Rattle.std.specs.Map.{lookup}
use Rattle.indexmap.specs.IndexMap.{insert_entry}
use Rattle.digest_core.specs.declared.Digest.{Digest}
use Rattle.chain_types.specs.declared.objects.ObjectKey.{ObjectKey}
use Rattle.chain_types.specs.Equal.{digest_eq, key_eq}
use Rattle.protocol_spec.specs.Chain.Words.{repeats}
use Rattle.chain_messages.specs.declared.messages.Certificate.{Certificate}
use Rattle.protocol_spec.specs.declared.answers.Held.{Held}
use Rattle.protocol_spec.specs.Member.Member.{Fork, consumes, fork_in}
use Rattle.vote_rules.specs.declared.certificate_store.Fork.{Fork as Sides}

-- ---- what is held, and its parts

abbrev pub HeldList : Type 0
HeldList = List Held

abbrev pub digest_of : Held → Digest
digest_of h = h.digest

abbrev pub cert_of : Held → Certificate
cert_of h = h.cert

-- the held certificate at a place, counted from 0; none if there is no place or nothing stands there
abbrev pub at_place : List Held → Option ℕ → Option Held
at_place held None = None
at_place held (Some place) = slice_get held place

-- ---- which transaction consumes a version

-- notes that the transaction consumes the version, unless an earlier one is noted
abbrev pub with_holder : Digest → List (ObjectKey × Digest) → ObjectKey → List (ObjectKey × Digest)
with_holder tx holders key = if is_some (lookup (key_eq key) holders) then holders else insert_entry key_eq holders key tx

abbrev pub with_holders : Digest → List (ObjectKey × Digest) → List ObjectKey → List (ObjectKey × Digest)
with_holders tx holders keys = fold (with_holder tx) holders keys

-- the version with the first held transaction that consumes it, none if none does
abbrev pub meets : List Held → ObjectKey → Option (ObjectKey × Digest)
meets held key = option_map (λ (e : Held). (key, e.digest)) (find (consumes key) held)

-- ---- forks

-- a fork as the code has it
abbrev pub sides : Fork → Sides
sides f = record { key = f.key; first = f.first; second = f.second }

-- the fork of this transaction, the second, with the one that it meets, the first
abbrev pub fork_by : Digest → Option (ObjectKey × Digest) → Option Sides
fork_by tx met = option_map (λ (m : ObjectKey × Digest). record { key = m.0; first = m.1; second = tx }) met

-- ---- how the maps are kept

-- the digests are those of what is held, none twice; of each version the first held transaction that consumes it is
-- known, and so is the first fork
pub record IsKept (held : List Held) (digests : List Digest) (holders : List (ObjectKey × Digest)) (fork : Option Sides) : Type 0 where
  pub digests_of : digests ≡ map digest_of held
  pub apart : repeats digest_eq (map digest_of held) ≡ false
  pub first_holder : (key : ObjectKey) → lookup (key_eq key) holders ≡ option_map digest_of (find (consumes key) held)
  pub first_fork : fork ≡ option_map sides (fork_in [] held)
