-- The first record of a journal, which says of which member and of which set-up it is. Source: this profile.
use Rattle.std.specs.Prelude.{ℕ, ◌&&◌, nat_le, List, [], ◌∷◌, ◌++◌, length, take, drop, bytes_eq, codes, if◌then◌else◌}
use Rattle.std.specs.Int.{w32, to_le_bytes}
use Rattle.digest_core.specs.declared.Digest.{Digest}
use Rattle.digest_core.specs.Tagged.{tagged_digest}
use Rattle.disk_log.specs.Records.{Record}
use Rattle.validator_process.specs.declared.identity.Head.{Head}
use Rattle.validator_process.specs.declared.identity.Head.TheVariants as head

-- the digest of the text of a set-up, under the tag `J`
abbrev pub genesis_digest : List ℕ → Digest
genesis_digest text = tagged_digest 74 text

abbrev pub mark : List ℕ
mark = codes "kothaysu validator 1"

-- the bytes of the identity record: the mark, the member's number in 4 bytes, and the digest of the set-up
abbrev pub identity_bytes : ℕ → Digest → List ℕ
identity_bytes m genesis = mark ++ to_le_bytes w32 m ++ genesis.0

-- the record as it stands in the file: it is of the list after those of the members
abbrev pub identity_record : ℕ → Digest → Record
identity_record m genesis = record { member = 64; bytes = identity_bytes m genesis }

-- an open gate, 56 bytes, of list 64
abbrev pub front : List ℕ
front = 1 ∷ 56 ∷ 0 ∷ 0 ∷ 0 ∷ 64 ∷ 0 ∷ 0 ∷ 0 ∷ []

-- what a journal's head is, from its parts: own, another set-up's, another member's, or not made
abbrev pub head_of_parts : ℕ → Digest → List ℕ → List ℕ → List ℕ → List ℕ → Head
head_of_parts m genesis gate text number digest =
    if bytes_eq gate front && bytes_eq text mark
    then (if bytes_eq number (to_le_bytes w32 m) then (if bytes_eq digest genesis.0 then head.Own else head.OtherGenesis) else head.OtherMember)
    else head.Unmade

-- what a journal's head is, from the first 65 bytes of the file
unfoldable pub head_of_bytes : ℕ → Digest → List ℕ → Head
head_of_bytes m genesis bytes = head_of_parts m genesis (take 9 bytes) (take 20 (drop 9 bytes)) (take 4 (drop 20 (drop 9 bytes))) (drop 4 (drop 20 (drop 9 bytes)))

-- what a journal's head is, from the whole file; one of 65 bytes or fewer counts as not made
abbrev pub head_of_file : ℕ → Digest → List ℕ → Head
head_of_file m genesis file = if nat_le (length file) 65 then head.Unmade else head_of_bytes m genesis (take 65 file)
