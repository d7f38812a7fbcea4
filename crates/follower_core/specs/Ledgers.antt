-- What the tables of a ledger stand for: what is kept, and what is written on it since.
use Rattle.std.specs.Prelude.{ℕ, List, [], ◌∷◌, take, Option, Some, None}
use Rattle.std.specs.FinMap.{from_entries, insert}
use Rattle.std.specs.FinMap.Entries.{put}
use Rattle.digest_core.specs.declared.Digest.{Digest}
use Rattle.chain_types.specs.declared.objects.Object.{Object}
use Rattle.chain_types.specs.declared.objects.ObjectId.{ObjectId}
use Rattle.protocol_spec.specs.Member.Sequential.{Objects, without_id}
use Rattle.protocol_spec.specs.Member.Versions.{id_cmp}
use Rattle.follower_core.specs.Courses.{Course}

-- a ledger: the course that `take_back` goes back to (`kept`), and the one that stands now (`present`)
pub record Ledger : Type 0 where
  pub kept : Course
  pub present : Course

abbrev pub Entries : Type 0
Entries = List (ObjectId × Object)

-- changes that are not kept yet: under each id the object that replaces what was there, or none if it is taken out
abbrev pub Changes : Type 0
Changes = List (ObjectId × Option Object)

-- the map that the entries of the kept table stand for
abbrev pub objects_under : Entries → Objects
objects_under entries = from_entries {R = id_cmp} entries

abbrev pub changed : Objects → ObjectId → Option Object → Objects
changed m id None = without_id m id
changed m id (Some o) = insert m id o

-- the map of the entries with the changes put over it
abbrev pub changed_by : Entries → Changes → Objects
changed_by entries [] = objects_under entries
changed_by entries (e ∷ es) = changed (changed_by entries es) e.0 e.1

-- what stands under an id, in terms of its change (if there is one) and of the kept object
abbrev pub overlaid : Option (Option Object) → Option Object → Option Object
overlaid None was = was
overlaid (Some change) was = change

abbrev pub kept_as : Entries → ℕ → List Digest → ℕ → List ObjectId → Course
kept_as entries ran_kept ran gone_kept gone = record { map = objects_under entries; ran = take ran_kept ran; gone = take gone_kept gone }

abbrev pub now_as : Entries → Changes → List Digest → List ObjectId → Course
now_as entries changes ran gone = record { map = changed_by entries changes; ran = ran; gone = gone }

abbrev pub ledger_as : Entries → Changes → ℕ → List Digest → ℕ → List ObjectId → Ledger
ledger_as entries changes ran_kept ran gone_kept gone = record { kept = kept_as entries ran_kept ran gone_kept gone; present = now_as entries changes ran gone }

-- the entries, put into their places by ascending id
abbrev pub placed : Entries → Entries → Entries
placed done [] = done
placed done (e ∷ es) = placed (put id_cmp e.0 e.1 done) es
