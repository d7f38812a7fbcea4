-- The ids that a transaction draws.
use Rattle.std.specs.Prelude.{◌≡◌, ℕ, ◌+◌, List, [], ◌∷◌, map, nat_le, if◌then◌else◌}
use Rattle.digest_core.specs.declared.Digest.{Digest}
use Rattle.digest_core.specs.Tagged.{created_id_of}
use Rattle.chain_types.specs.declared.objects.ObjectId.{ObjectId}
use Rattle.protocol_spec.specs.declared.pieces.Item.{Item}

abbrev pub drawn_id : Digest → ℕ → ObjectId
drawn_id tx n = record { 0 = created_id_of tx n }

-- these are the ids that the transaction draws, from this number on
abbrev pub AreDrawn : Digest → ℕ → List ObjectId → Type 0
AreDrawn tx n [] = Unit {0}
AreDrawn tx n (id ∷ rest) = (id ≡ drawn_id tx n) × AreDrawn tx (n + 1) rest

-- the ids of the results of a native, none if it drew no number
abbrev pub new_ids : ℕ → ℕ → List Item → List ObjectId
new_ids before made results = if nat_le made before then [] else map (λ (i : Item). i.id) results
