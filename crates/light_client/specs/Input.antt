-- Bytes that are handed in: the value that they encode, or why they are refused. Source: this profile.
use Rattle.std.specs.Prelude.{◌≡◌, ℕ, Bool, true, false, nat_lt, List, length, Result, Ok, Err, if◌then◌else◌}
use Rattle.wire_bcs.specs.Codec.{Codec}
use Rattle.wire_bcs.specs.Place.{Stop}
use Rattle.wire_bcs.specs.Whole.{whole}
use Rattle.light_client.specs.declared.refusal.Refusal.{Refusal}
use Rattle.light_client.specs.declared.refusal.Refusal.TheVariants as refusal

-- the most bytes of one input
abbrev pub most_bytes : ℕ
most_bytes = 16777216

abbrev pub read_of : {A : Type 0} → Result A Stop → Result A Refusal
read_of (Ok x) = Ok x
read_of (Err s) = Err (refusal.Malformed s.place.at s.why)

-- the value that all the bytes encode, or the refusal: too many bytes, or the first fault in them
unfoldable pub input : {A : Type 0} → Codec A → List ℕ → Result A Refusal
input codec bytes = if nat_lt most_bytes (length bytes) then Err refusal.TooLarge else read_of (whole codec bytes)

abbrev pub is_memory : Refusal → Bool
is_memory refusal.OutOfMemory = true
is_memory refusal.TooLarge = false
is_memory (refusal.Malformed at why) = false
is_memory (refusal.BadLink place cause) = false
is_memory refusal.NotIncluded = false
is_memory (refusal.Shape fault) = false
is_memory refusal.Order = false
is_memory (refusal.ShortStake weight total) = false
is_memory (refusal.BadSeal member) = false
is_memory (refusal.NoAcknowledgement place) = false
is_memory (refusal.Differ a b) = false
is_memory refusal.NoRivals = false

-- the code's answer is the definition's; that memory was refused says nothing
abbrev pub Answers : {A : Type 0} → Result A Refusal → Result A Refusal → Type 0
Answers (Ok x) said = said ≡ Ok x
Answers (Err e) said = is_memory e ≡ false → said ≡ Err e
