-- What `check` says of the bytes that a source holds, and how it ends. Source: this profile.
use Rattle.std.specs.Prelude.{◌≡◌, ◌⊎◌, ◌<◌, ℕ, nat_lt, List, [], ◌∷◌, ◌++◌, length, Option, Some, None, codes, decimal, if◌then◌else◌}
use Rattle.std.specs.List.{concat}
use Rattle.std.specs.Io.KnownBytes.{Appends, Consumes, IsAtEnd, Keeps}
use Rattle.digest_core.specs.declared.Digest.{Digest}
use Rattle.light_check.specs.declared.chain.Chain.{Chain}
use Rattle.light_check.specs.declared.verdict.Verdict.{Verdict}
use Rattle.light_check.specs.declared.verdict.Verdict.TheVariants as verdict
use Rattle.light_check.specs.Chains as codecs
use Rattle.light_check.specs.Certified.{Accepting, IsCertified}
use Rattle.light_check.specs.Verdicts.{SpellsCertified, verdict_on}
use Rattle.light_check.specs.declared.said.Finding.{Finding}
use Rattle.light_check.specs.declared.said.Finding.TheVariants as finding
use Rattle.light_check.specs.declared.said.Piece.{Piece}
use Rattle.light_check.specs.declared.said.Piece.TheVariants as piece
use Rattle.outside.specs.Streams.{AppendsFront, ReadsText}

-- the most bytes of a chain
abbrev pub longest_chain : ℕ
longest_chain = 16777216

-- what `check` finds in bytes: too many of them, or the verdict of a client that trusts the stakes
unfoldable pub finding_on : List ℕ → Accepting → Digest → List ℕ → Finding
finding_on stakes accepts tx bytes =
    if nat_lt longest_chain (length bytes) then finding.TooLarge
    else finding.Judged (verdict_on stakes accepts tx bytes)

-- ---- the one line

abbrev pub piece_text : Piece → List ℕ
piece_text (piece.Text text) = text.now
piece_text (piece.Number n) = decimal n

abbrev pub certified_body : ℕ → Option ℕ → List ℕ
certified_body links None = concat (codes "certified " ∷ decimal links ∷ codes " not included" ∷ [])
certified_body links (Some number) = concat (codes "certified " ∷ decimal links ∷ codes " included in " ∷ decimal number ∷ [])

unfoldable pub verdict_body : Verdict → List ℕ
verdict_body (verdict.Certified links included) = certified_body links included
verdict_body (verdict.Malformed at why) = concat (codes "refused malformed at " ∷ decimal at ∷ codes " why " ∷ decimal why ∷ [])
verdict_body (verdict.Bad place cause) = concat (codes "refused link " ∷ decimal place ∷ codes " cause " ∷ decimal cause ∷ [])

abbrev pub finding_body : Finding → List ℕ
finding_body finding.TooLarge = codes "refused too large"
finding_body (finding.Judged v) = verdict_body v

-- the line of a finding, ended by LF
unfoldable pub finding_text : Finding → List ℕ
finding_text f = finding_body f ++ 10 ∷ []

-- ---- the status

-- 0 if the chain is certified, and else 8
abbrev pub verdict_status : Verdict → ℕ
verdict_status (verdict.Certified links included) = 0
verdict_status (verdict.Malformed at why) = 8
verdict_status (verdict.Bad place cause) = 8

abbrev pub finding_status : Finding → ℕ
finding_status finding.TooLarge = 8
finding_status (finding.Judged v) = verdict_status v

-- the text was read, to the end or past the limit, and what is to be said of it was written, under its status
pub record Says (stakes : List ℕ) (accepts : Accepting) (tx : Digest) (left left' held held' : Option (List ℕ)) (status : ℕ) : Type 0 where
  pub text : List ℕ
  pub read : ReadsText longest_chain left left' text
  pub is : status ≡ finding_status (finding_on stakes accepts tx text)
  pub written : Appends held held' (finding_text (finding_on stakes accepts tx text))

-- the bytes encode a certified chain, and the line that says so was written
pub record WritesCertified (stakes : List ℕ) (accepts : Accepting) (tx : Digest) (text : List ℕ) (held held' : Option (List ℕ)) : Type 0 where
  pub links : ℕ
  pub included : Option ℕ
  pub spelled : SpellsCertified stakes accepts tx text links included
  pub written : Appends held held' (certified_body links included ++ 10 ∷ [])

-- status 0: the source was read to its end, its bytes encode a certified chain, and the line that says so was written
pub record SaysCertified (stakes : List ℕ) (accepts : Accepting) (tx : Digest) (left left' held held' : Option (List ℕ)) : Type 0 where
  pub text : List ℕ
  pub read : Consumes left left' text
  pub ended : IsAtEnd left'
  pub says : WritesCertified stakes accepts tx text held held'

-- status 8: what was read, to the end or past the limit, is longer than a chain may be or encodes no certified one,
-- and the line that says why was written
pub record SaysRefused (stakes : List ℕ) (accepts : Accepting) (tx : Digest) (left left' held held' : Option (List ℕ)) : Type 0 where
  pub text : List ℕ
  pub read : ReadsText longest_chain left left' text
  pub none : (c : Chain) → codecs.chain.fits c → text ≡ codecs.chain.spell c → IsCertified stakes accepts c.links → longest_chain < length text
  pub written : Appends held held' (finding_text (finding_on stakes accepts tx text))

-- the text was read, and a prefix of what is to be said of it was written
pub record SaysFront (stakes : List ℕ) (accepts : Accepting) (tx : Digest) (left left' held held' : Option (List ℕ)) : Type 0 where
  pub text : List ℕ
  pub read : ReadsText longest_chain left left' text
  pub cut : AppendsFront held held' (finding_text (finding_on stakes accepts tx text))

-- `check` broke off: nothing was written, or a prefix of the line
abbrev pub IsCheckCut : List ℕ → Accepting → Digest → Option (List ℕ) → Option (List ℕ) → Option (List ℕ) → Option (List ℕ) → Type 0
IsCheckCut stakes accepts tx left left' held held' = Keeps held held' ⊎ SaysFront stakes accepts tx left left' held held'
