-- The format of a journal file, and which of its records count. Source: this profile.
use Rattle.std.specs.Prelude.{◌≡◌, ℕ, zero, suc, ◌+◌, ◌==◌, ◌&&◌, nat_lt, Bool, List, [], ◌∷◌, ◌++◌, length, take, drop, replicate, if◌then◌else◌, Option, Some, None}
use Rattle.wire_bcs.specs.Little.{low_first, value_of}
use Rattle.outside.specs.Lists.{Journals, with_record}

-- a record: whose it is, and its bytes
pub record Record : Type 0 where
  pub member : ℕ
  pub bytes : List ℕ

-- ---- what stands after a gate: the length of the bytes, the member, the bytes, and the next gate

abbrev pub count_in : List ℕ → ℕ
count_in rest = value_of (take 4 rest)

abbrev pub record_in : List ℕ → Record
record_in rest = record { member = value_of (take 4 (drop 4 rest)); bytes = take (count_in rest) (drop 8 rest) }

-- what stands after a record, from the next gate on
abbrev pub behind_record : List ℕ → List ℕ
behind_record rest = drop (8 + count_in rest) rest

-- the gate is open, and the record lies in the file with the next gate
abbrev pub is_counted : ℕ → List ℕ → Bool
is_counted gate rest = (gate == 1) && nat_lt (8 + count_in rest) (length rest)

-- the records that count in a file from a gate on, as many as the fuel lasts for
abbrev pub counted_by : ℕ → List ℕ → List Record
counted_by zero file = []
counted_by (suc fuel) [] = []
counted_by (suc fuel) (gate ∷ rest) =
    if is_counted gate rest then record_in rest ∷ counted_by fuel (behind_record rest) else []

-- the records that count in a file: each takes some of its bytes, so its length is fuel enough
abbrev pub counted : List ℕ → List Record
counted file = counted_by (length file) file

-- the records that would count if the file ended in a closed gate at `end`
abbrev pub records_to : List ℕ → ℕ → List Record
records_to file end = counted (take end file ++ 0 ∷ [])

-- bytes that are whole records, one after the other, each after an open gate; and the records that they are
pub data Whole : List ℕ → List Record → Type 0 where
  none : Whole [] []
  more : (head bytes rest : List ℕ) (records : List Record) → length head ≡ 8 → value_of (take 4 head) ≡ length bytes → Whole rest records → Whole (1 ∷ (head ++ (bytes ++ rest))) (record { member = value_of (drop 4 head); bytes = bytes } ∷ records)

-- ---- records and members

-- what stands before the bytes of a record, after its gate
abbrev pub head_of : ℕ → List ℕ → List ℕ
head_of member bytes = low_first 4 (length bytes) ++ low_first 4 member

-- what stands after the gate of a record, with the next gate closed
abbrev pub body_of : ℕ → List ℕ → List ℕ
body_of member bytes = head_of member bytes ++ bytes ++ 0 ∷ []

-- the lists of the members after these records
abbrev pub added_to : Journals → List Record → Journals
added_to lists [] = lists
added_to lists (r ∷ records) = added_to (with_record lists r.member r.bytes) records

-- the lists of so many members
abbrev pub journals_of : ℕ → List Record → Journals
journals_of members records = added_to (replicate members []) records

-- the place of the gate of the first record whose member is not one of so many; the first gate stands at a place
abbrev pub bad_member : ℕ → ℕ → List Record → Option ℕ
bad_member members at [] = None
bad_member members at (r ∷ records) =
    if nat_lt r.member members then bad_member members (at + 9 + length r.bytes) records else Some at
