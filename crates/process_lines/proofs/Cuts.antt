-- Where a line ends, and a line as it is read piece by piece.
use Rattle.std.proofs.Common.{◌≡◌, ◌==◌, ℕ, ◌+◌, ◌<◌, ◌≤◌, ltb, Bool, true, false, cond, List, [], ◌∷◌, ◌++◌, length, take, drop, get_or, Option, Some, None, position, refl, sym, ap, ◌∙◌, subst, arith, append_assoc, append-nil, eqb-true, length-take, length-append}
use Rattle.std.specs.Io.KnownBytes.{Consumes, IsAtEnd}
use Rattle.std.proofs.KnownBytes.{Consumes-trans, Consumes-nil}
use Rattle.std.specs.List.{position_from}
use Rattle.std.proofs.lemmas.List.{drop_more, take-append-drop, get_or-take, get_or_default}
use Rattle.std.proofs.lemmas.List.Quantifiers.{position-Some}
use Rattle.std.proofs.lemmas.List.Folds.{list_any_none, list_any-append}
use Rattle.std.proofs.lemmas.Bool.Decides.{nat_tests}
use Rattle.std.proofs.lemmas.Iterator.Adapters.{position_from-zero}
use Rattle.process_lines.specs.declared.line_reader.Part.{Part}
use Rattle.process_lines.specs.Lines.{HasNoEnd, IsAlong, IsCutAt, IsPart, Reads, ReadsEnd, ReadsLine, Takes, added, got_in, longest_line}

-- ---- where the first line ends

before : (bytes : List ℕ) (place k d : ℕ) → ((i : ℕ) → i < place → (get_or bytes i 0 == 10) ≡ false) → k < length (take place bytes) → (get_or (take place bytes) k d == 10) ≡ false
before bytes place k d none low =
    let size : length (take place bytes) ≤ place = omega (arith, length-take place bytes) in
    let under : k < length bytes = omega (arith, low, length-take place bytes) in
    let at : k < place = omega (arith, low, size) in
    ap (λ (b : ℕ). b == 10) (get_or-take place bytes k d at ∙ get_or_default bytes k d 0 under) ∙ none k at

pub ends_at : (bytes : List ℕ) (place : ℕ) → Some place ≡ position (λ b. b == 10) bytes → IsCutAt bytes (take place bytes) (place + 1)
ends_at bytes place is =
    let p = position-Some (λ (b : ℕ). b == 10) bytes place 0 (sym is) in
    record {
      parts = sym (take-append-drop place bytes) ∙ ap (λ t. take place bytes ++ t) (drop_more bytes place 0 p.0 ∙ ap (λ b. b ∷ drop (place + 1) bytes) (eqb-true (get_or bytes place 0) 10 p.1));
      whole = list_any_none (λ (b : ℕ). b == 10) (take place bytes) (λ k d low. before bytes place k d p.2 low);
      within = omega (arith, p.0);
    }

-- ---- no line ends

nowhere : (i : ℕ) (bytes : List ℕ) → position_from (λ b. b == 10) i bytes ≡ None → HasNoEnd bytes
nowhere i [] none = refl
nowhere i (b ∷ bytes) none = go (b == 10) refl none (nowhere (i + 1) bytes)
  where
    go : (x : Bool) → (b == 10) ≡ x → cond x (Some i) (position_from (λ c. c == 10) (i + 1) bytes) ≡ None → (position_from (λ c. c == 10) (i + 1) bytes ≡ None → HasNoEnd bytes) → HasNoEnd (b ∷ bytes)
    go true e none rest = absurd (cc)
    go false e none rest = rw e (rest none)

pub ends_nowhere : (bytes : List ℕ) → None ≡ position (λ b. b == 10) bytes → HasNoEnd bytes
ends_nowhere bytes none = nowhere 0 bytes (sym (position_from-zero (λ (b : ℕ). b == 10) bytes) ∙ sym none)

-- ---- a line piece by piece

none_in : (xs ys : List ℕ) → HasNoEnd xs → HasNoEnd ys → HasNoEnd (xs ++ ys)
none_in xs ys a b = list_any-append (λ (c : ℕ). c == 10) xs ys ∙ rw (a, b) refl

over : (a b : ℕ) → ltb longest_line (a + b) ≡ true → longest_line < a + b
over a b e = grind (arith, nat_tests)

within : (a b : ℕ) → ltb longest_line (a + b) ≡ false → a + b ≤ longest_line
within a b e = grind (arith, nat_tests)

part_more : (line bytes : List ℕ) (p : Part) → IsPart line p → IsPart (line ++ bytes) (added p bytes)
part_more line bytes p kept = go p.too_long kept
  where
    size : length (line ++ bytes) ≡ length line + length bytes
    size = length-append line bytes

    short : (b : Bool) → ltb longest_line (length p.text + length bytes) ≡ b → p.text ≡ line
        → IsPart (line ++ bytes) (cond b (record { text = p.text; too_long = true }) (record { text = p.text ++ bytes; too_long = false }))
    short true e same = let long = over (length p.text) (length bytes) e in let len = ap length same in omega (arith, long, len, size)
    short false e same = (ap (λ (t : List ℕ). t ++ bytes) same, let few = within (length p.text) (length bytes) e in let len = ap length same in omega (arith, few, len, size))

    go : (long : Bool) → IsPart line (record { text = p.text; too_long = long }) → IsPart (line ++ bytes) (added (record { text = p.text; too_long = long }) bytes)
    go true k = omega (arith, k, size)
    go false k = short (ltb longest_line (length p.text + length bytes)) refl k.0

-- ---- reading on

module _ (pending now : List ℕ) (left left' : Option (List ℕ)) where
  -- the line ends in what was read
  pub line_ends : (then : List ℕ) (p p' : Part) → IsAlong pending now left left' p → Takes now then p p' true → Reads pending then left left' (got_in p')
  line_ends then p p' along (piece, cut, none, is) = subst (λ (q : Part). Reads pending then left left' (got_in q)) (sym is) (go (added p piece) (part_more along.line piece p along.kept))
    where
      line : List ℕ
      line = along.line ++ piece

      read : ReadsLine pending then left left' line
      read = record {
        bytes = along.bytes;
        read = along.read;
        parts = along.parts ∙ ap (λ t. along.line ++ t) cut ∙ sym (append_assoc along.line piece (10 ∷ then));
        whole = none_in along.line piece along.whole none;
      }

      by : (text : List ℕ) (long : Bool) → IsPart line (record { text = text; too_long = long }) → Reads pending then left left' (got_in (record { text = text; too_long = long }))
      by text true k = (line, read, k)
      by text false (same, few) = subst (λ (t : List ℕ). ReadsLine pending then left left' t × (length t ≤ longest_line)) (sym same) (read, few)

      go : (q : Part) → IsPart line q → Reads pending then left left' (got_in q)
      go q k = by q.text q.too_long k

  -- all that was read is part of the line
  pub line_goes : (then : List ℕ) (p p' : Part) → IsAlong pending now left left' p → Takes now then p p' false → IsAlong pending [] left left' p'
  line_goes then p p' along (none, rest, is) = subst (IsAlong pending [] left left') (sym is) (record {
    line = along.line ++ now;
    bytes = along.bytes;
    read = along.read;
    parts = along.parts ∙ sym (append-nil (along.line ++ now));
    whole = none_in along.line now along.whole none;
    kept = part_more along.line now p along.kept;
  })

-- the source gave more
pub line_more : (pending more : List ℕ) (left left' left'' : Option (List ℕ)) (p : Part) → IsAlong pending [] left left' p → Consumes left' left'' more → IsAlong pending more left left'' p
line_more pending more left left' left'' p along read = record {
  line = along.line;
  bytes = along.bytes ++ more;
  read = Consumes-trans left left' left'' along.bytes more along.read read;
  parts = sym (append_assoc pending along.bytes more) ∙ ap (λ t. t ++ more) (along.parts ∙ append-nil along.line);
  whole = along.whole;
  kept = along.kept;
}

-- the source is at its end
pub line_never : (pending : List ℕ) (left left' left'' : Option (List ℕ)) (p : Part) → IsAlong pending [] left left' p → IsAtEnd left'' → Consumes left' left'' [] → ReadsEnd pending left left''
line_never pending left left' left'' p along ended read = record {
  bytes = along.bytes ++ [];
  read = Consumes-trans left left' left'' along.bytes [] along.read read;
  whole = subst HasNoEnd (sym (ap (λ t. pending ++ t) (append-nil along.bytes) ∙ along.parts ∙ append-nil along.line)) along.whole;
  ended = ended;
}

-- nothing was read yet
pub line_starts : (pending : List ℕ) (left : Option (List ℕ)) → IsAlong pending pending left left (record { text = []; too_long = false })
line_starts pending left = record {
  line = [];
  bytes = [];
  read = Consumes-nil left;
  parts = append-nil pending;
  whole = refl;
  kept = (refl, omega arith);
}
