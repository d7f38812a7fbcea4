-- Which request a line is. Source: this profile.
use Rattle.std.specs.Prelude.{ℕ, ◌-◌, ◌^◌, ◌<◌, ◌≤◌, ◌==◌, List, [], ◌∷◌, length, Option, Some, None, option_map, bytes_eq, codes, if◌then◌else◌}
use Rattle.std.specs.List.{slice_split}
use Rattle.digest_core.specs.declared.Digest.{Digest}
use Rattle.schedule_text.specs.Bytes.{number_in}
use Rattle.schedule_text.specs.Inputs.{is_hex, hex_of}
use Rattle.process_lines.specs.declared.request.Request.{Request}
use Rattle.process_lines.specs.declared.request.Request.TheVariants as request

-- ---- words

-- the bytes of an even number of hexadecimal digits in lower case; the empty word stands for no bytes
unfoldable pub bytes_in : List ℕ → Option (List ℕ)
bytes_in word = if is_hex word then hex_of word else None

abbrev pub digest_of_bytes : Option (List ℕ) → Option Digest
digest_of_bytes None = None
digest_of_bytes (Some bytes) = if length bytes == 32 then Some (record { 0 = bytes }) else None

-- a digest, or an id: 64 hexadecimal digits in lower case
unfoldable pub digest_in : List ℕ → Option Digest
digest_in word = if length word == 64 then digest_of_bytes (bytes_in word) else None

-- a number of 64 bits: decimal digits with no leading zero
abbrev pub number_of_word : List ℕ → Option ℕ
number_of_word word = number_in 0 (2 ^ 64 - 1) word

-- ---- requests, by the number of their words

unfoldable pub request_of_one : List ℕ → Option Request
request_of_one word =
    if bytes_eq word (codes "close") then Some request.Close
    else (if bytes_eq word (codes "end") then Some request.End
    else (if bytes_eq word (codes "turn") then Some request.Turn
    else (if bytes_eq word (codes "state") then Some request.State
    else None)))

-- the request of two words: what is asked, and bytes, a number, or a digest
unfoldable pub request_of_two : List ℕ → List ℕ → Option Request
request_of_two word text =
    if bytes_eq word (codes "vote") then option_map request.Vote (bytes_in text)
    else (if bytes_eq word (codes "hold") then option_map request.Hold (bytes_in text)
    else (if bytes_eq word (codes "run") then option_map request.Run (number_in 1 16 text)
    else (if bytes_eq word (codes "checkpoint") then option_map request.Checkpoint (number_of_word text)
    else (if bytes_eq word (codes "ack") then option_map request.Ack (digest_in text)
    else (if bytes_eq word (codes "object") then option_map request.Object (digest_in text)
    else (if bytes_eq word (codes "effects") then option_map request.Effects (digest_in text)
    else None))))))

abbrev pub see_with : Option ℕ → Option (List ℕ) → Option Request
see_with None bytes = None
see_with (Some number) None = None
see_with (Some number) (Some bytes) = Some (request.See number bytes)

abbrev pub version_with : Option Digest → Option ℕ → Option Request
version_with None version = None
version_with (Some id) None = None
version_with (Some id) (Some version) = Some (request.Version id version)

unfoldable pub request_of_three : List ℕ → List ℕ → List ℕ → Option Request
request_of_three word text more =
    if bytes_eq word (codes "see") then see_with (number_of_word text) (bytes_in more)
    else (if bytes_eq word (codes "version") then version_with (digest_in text) (number_of_word more)
    else None)

-- a run has 1 to 16 workers
abbrev pub HasWorkers : Request → Type 0
HasWorkers (request.Vote bytes) = Unit {0}
HasWorkers (request.Hold bytes) = Unit {0}
HasWorkers (request.See number entry) = Unit {0}
HasWorkers (request.Run workers) = (0 < workers) × (workers ≤ 16)
HasWorkers request.Close = Unit {0}
HasWorkers request.End = Unit {0}
HasWorkers request.Turn = Unit {0}
HasWorkers (request.Ack tx) = Unit {0}
HasWorkers (request.Checkpoint number) = Unit {0}
HasWorkers (request.Object id) = Unit {0}
HasWorkers (request.Version id version) = Unit {0}
HasWorkers (request.Effects tx) = Unit {0}
HasWorkers request.State = Unit {0}

abbrev pub request_of_words : List (List ℕ) → Option Request
request_of_words (word ∷ []) = request_of_one word
request_of_words (word ∷ text ∷ []) = request_of_two word text
request_of_words (word ∷ text ∷ more ∷ []) = request_of_three word text more
request_of_words words = None

-- the request that a line is, without its end: its words are parted by one space
unfoldable pub request_of : List ℕ → Option Request
request_of line = request_of_words (slice_split (λ b. b == 32) line)
