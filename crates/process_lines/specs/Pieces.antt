-- The bytes of the pieces of an answer: digests, versions and numbers. Source: this profile.
use Rattle.std.specs.Prelude.{ℕ, List, ◌∷◌, ◌++◌, decimal}
use Rattle.hex.specs.Hex.{encode_lower}
use Rattle.digest_core.specs.declared.Digest.{Digest}
use Rattle.chain_types.specs.declared.objects.ObjectKey.{ObjectKey}
use Rattle.process_lines.specs.declared.pieces.Piece.{Piece}
use Rattle.process_lines.specs.declared.pieces.Piece.TheVariants as piece

-- bytes, two hexadecimal digits each, in lower case
unfoldable pub hex_text : List ℕ → List ℕ
hex_text bytes = encode_lower bytes

abbrev pub digest_text : Digest → List ℕ
digest_text d = hex_text d.0

-- `ID@V`
abbrev pub key_text : ObjectKey → List ℕ
key_text key = digest_text key.id.0 ++ 64 ∷ decimal key.version

abbrev pub piece_text : Piece → List ℕ
piece_text (piece.Text text) = text.now
piece_text (piece.Bytes bytes) = hex_text bytes.now
piece_text (piece.Number n) = decimal n
piece_text (piece.Id d) = digest_text d
piece_text (piece.Key key) = key_text key
