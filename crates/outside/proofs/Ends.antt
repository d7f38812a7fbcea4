-- What is owed of a whole, while it is written part by part.
use Rattle.std.proofs.Common.{ℕ, List, [], ◌++◌, Option, refl, sym, ◌∙◌, append_assoc, append-nil, subst, take, drop, take-append-drop}
use Rattle.std.specs.Io.KnownBytes.{Appends}
use Rattle.std.proofs.KnownBytes.{Appends-nil, Appends-trans}
use Rattle.outside.specs.Streams.{AppendsFront, Owes}

-- nothing is written yet
pub owes_all : (a : Option (List ℕ)) (whole : List ℕ) → Owes a a whole whole
owes_all a whole = ([], refl, Appends-nil a)

-- the first part of what is owed was written
pub owes_less : (a b c : Option (List ℕ)) (part rest whole : List ℕ) → Owes a b (part ++ rest) whole → Appends b c part → Owes a c rest whole
owes_less a b c part rest whole (front, cut, done) more =
    (front ++ part, cut ∙ sym (append_assoc front part rest), Appends-trans a b c front part done more)

-- what is written is a prefix
pub owes_some : (a b : Option (List ℕ)) (rest whole : List ℕ) → Owes a b rest whole → AppendsFront a b whole
owes_some a b rest whole (front, cut, done) = (front, rest, cut, done)

-- nothing is owed any more
pub owes_none : (a b : Option (List ℕ)) (whole : List ℕ) → Owes a b [] whole → Appends a b whole
owes_none a b whole (front, cut, done) = subst (Appends a b) (sym (cut ∙ append-nil front)) done

-- a slice was written up to a place
pub owes_after : (a b c : Option (List ℕ)) (n : ℕ) (rest whole : List ℕ) → Owes a b rest whole → Appends b c (take n rest) → Owes a c (drop n rest) whole
owes_after a b c n rest whole o more =
    owes_less a b c (take n rest) (drop n rest) whole (subst (λ t. Owes a b t whole) (sym (take-append-drop n rest)) o) more
