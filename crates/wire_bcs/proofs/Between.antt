-- The bytes between two places of one input.
use Rattle.std.specs.Prelude.{◌≡◌, ℕ, ◌+◌, List, length, take, Ok}
use Rattle.std.proofs.Common.{◌∙◌, ap, arith}
use Rattle.std.proofs.lemmas.List.{take_at}
use Rattle.wire_bcs.specs.Codec.{Codec}
use Rattle.wire_bcs.specs.Place.{Place, Takes, IsBytes, left}

-- the bytes of a text that was read are those from where it began to where it ended
pub marked : (p : Place) (text : List ℕ) (q : Place) (count : ℕ) → Takes p text q → p.at + count ≡ q.at → take count (left p) ≡ text
marked p text q count t e =
    let moved : q.at ≡ p.at + length text = ap (λ (r : Place). r.at) t.moved in
    let long : length text ≡ count = omega (arith, e, moved) in
    ap (λ (bytes : List ℕ). take count bytes) t.parts ∙ take_at text (left q) count long

-- what a reader took since a mark is the encoding of what it read from there
pub encoded : {A : Type 0} (c : Codec A) (p : Place) (x : A) (q : Place) (bytes : List ℕ) → IsBytes p.input → c.read p ≡ Ok (x, q) → ((text : List ℕ) → Takes p text q → bytes ≡ text) → bytes ≡ c.spell x
encoded c p x q bytes fits e since = since (c.spell x) (c.takes p x q fits e).0
