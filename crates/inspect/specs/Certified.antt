-- The certificates of a run that are compared with each other. Source: Sui Lutris (which certificates are valid); which
-- of them and in which order is this profile's own.
use Rattle.std.specs.Prelude.{ℕ, Bool, not, bytes_eq, List, [], ◌∷◌, ◌++◌, fold, is_some, Option, Some, None, if◌then◌else◌}
use Rattle.std.specs.List.{flat_map, list_any}
use Rattle.chain_messages.specs.Messages as messages
use Rattle.chain_messages.specs.declared.messages.Certificate.{Certificate}
use Rattle.schedule_text.specs.declared.words.Event.{Event}
use Rattle.protocol_spec.specs.Chain.Certificates.{Rules, cert_refusal, read_certificate}
use Rattle.protocol_spec.specs.Member.Calls.{holds}
use Rattle.world_spec.specs.Moves.{Move, requests, direct, move_of}
use Rattle.world_spec.specs.Assumptions.{read_list}

-- the bytes of its own that a move hands to a member as a certificate
abbrev pub raw_held : Move → Option (List ℕ)
raw_held (requests m (direct (holds bytes))) = Some bytes
raw_held mv = None

-- the bytes that a line hands to a member as a certificate
abbrev pub held_bytes : Event → Option (List ℕ)
held_bytes e = raw_held (move_of e)

-- the certificate that these bytes encode, as a list of one or none
abbrev pub spelled_by : Option (List ℕ) → List Certificate
spelled_by None = []
spelled_by (Some bytes) = read_list (read_certificate bytes)

abbrev pub handed_over : Event → List Certificate
handed_over e = spelled_by (held_bytes e)

abbrev pub is_valid : Rules → Certificate → Bool
is_valid r c = not (is_some (cert_refusal r c))

-- certificates are equal if they are encoded alike
abbrev pub is_there : List Certificate → Certificate → Bool
is_there found c = list_any (λ d. bytes_eq (messages.certificate.spell c) (messages.certificate.spell d)) found

-- the certificates with this one at the end, unless an equal one is there
abbrev pub with_new : List Certificate → Certificate → List Certificate
with_new found c = if is_there found c then found else found ++ c ∷ []

-- the certificates with this one at the end, if it is valid and no equal one is there
abbrev pub with_valid : Rules → List Certificate → Certificate → List Certificate
with_valid r found c = if is_valid r c then with_new found c else found

-- the valid certificates of a run, each once: those that `cert` lines formed, and then those that `raw .. hold` lines
-- hand over as bytes
abbrev pub certified : Rules → List Certificate → List Event → List Certificate
certified r formed events = fold (with_valid r) [] (formed ++ flat_map handed_over events)

-- the bytes that `says` gives for each two of these, in order
abbrev pub of_pairs : (Certificate → Certificate → List ℕ) → List Certificate → List ℕ
of_pairs says [] = []
of_pairs says (c ∷ cs) = flat_map (says c) cs ++ of_pairs says cs
