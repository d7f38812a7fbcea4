-- What a codec is: the one encoding of each value of a type, and how it is read back.
use Rattle.std.specs.Prelude.{◌≡◌, ℕ, List, ◌++◌, length, Ok}
use Rattle.wire_bcs.specs.Place.{Place, Read, Takes, IsBytes, left, forward}

pub record Codec (A : Type 0) : Type 1 where
  -- no list in the value is too long to be encoded
  pub short : A → Type 0
  -- a value of its Rust type, and short
  pub fits : A → Type 0
  pub spell : A → List ℕ
  pub read : Place → Read A
  pub lists : (x : A) → fits x → short x
  -- what is read is the value that is encoded there
  pub takes : (p : Place) (x : A) (q : Place) → IsBytes p.input → read p ≡ Ok (x, q) → Takes p (spell x) q × fits x
  -- what is encoded is read, whatever follows
  pub again : (p : Place) (x : A) (rest : List ℕ) → fits x → left p ≡ spell x ++ rest → read p ≡ Ok (x, forward (length (spell x)) p)
