-- Texts that are written one after the other, and what stands there after a refusal.
use Rattle.std.specs.Prelude.{◌≡◌, ℕ, ◌+◌, ◌<◌, true, List, ◌++◌, Result, Ok, Err, OnOk, OnErr, IsErrAnd, length, get_or, take, drop, flat_map}
use Rattle.std.proofs.Common.{◌∙◌, ap, subst, sym, append_assoc}
use Rattle.wire_bcs.specs.declared.seq.OutOfMemory.{OutOfMemory}
use Rattle.wire_bcs.specs.Wrote.{Writes, is_part, part_none, part_first, part_then, parts}
use Rattle.wire_bcs.proofs.Loops.{parts_of}

-- one part after another
pub joined : (old mid new first rest : List ℕ) → mid ≡ old ++ first → new ≡ mid ++ rest → new ≡ old ++ (first ++ rest)
joined old mid new first rest e written = written ∙ (ap (λ (t : List ℕ). t ++ rest) e ∙ append_assoc old first rest)

-- a prefix of a second part, after the first
pub part_behind : (old mid new first rest : List ℕ) → mid ≡ old ++ first → is_part mid new rest ≡ true → is_part old new (first ++ rest) ≡ true
part_behind old mid new first rest e refused = part_then old new first rest (subst (λ (before : List ℕ). is_part before new rest ≡ true) e refused)

-- nothing yet of a second part
pub part_so_far : (old new first rest : List ℕ) → new ≡ old ++ first → is_part old new (first ++ rest) ≡ true
part_so_far old new first rest e = part_behind old new new first rest e (part_none new rest)

-- a call that writes all of a text, or nothing
pub writes_whole : {X : Type 0} (r : Result X OutOfMemory) (old new text : List ℕ) → OnOk r (new ≡ old ++ text) → OnErr r (new ≡ old) → Writes old new text r
writes_whole (Ok x) old new text all none = all
writes_whole (Err f) old new text all none = subst (λ (now : List ℕ). is_part old now text ≡ true) (sym none) (part_none old text)

-- what a call writes after a first part
pub writes_then : {X : Type 0} (r : Result X OutOfMemory) (old mid new first rest : List ℕ) → mid ≡ old ++ first → Writes mid new rest r → Writes old new (first ++ rest) r
writes_then (Ok x) old mid new first rest e written = joined old mid new first rest e written
writes_then (Err f) old mid new first rest e refused = part_behind old mid new first rest e refused

-- a refusal within a first part
pub writes_part : {X : Type 0} (Q : OutOfMemory → Type 0) (r : Result X OutOfMemory) (old new first rest : List ℕ) → IsErrAnd r Q → is_part old new first ≡ true → Writes old new (first ++ rest) r
writes_part Q (Ok x) old new first rest error refused = absurd error
writes_part Q (Err f) old new first rest error refused = part_first old new first rest refused

-- a refusal at one of several texts, each after the other
pub writes_some : {X A : Type 0} (Q : OutOfMemory → Type 0) (r : Result X OutOfMemory) (text : A → List ℕ) (xs : List A) (i : ℕ) (x : A) (old mid new : List ℕ) → IsErrAnd r Q → i < length xs → x ≡ get_or xs i x
    → mid ≡ old ++ flat_map text (take i xs) → is_part mid new (text x) ≡ true → Writes old new (flat_map text xs) r
writes_some Q (Ok y) text xs i x old mid new error lt e before refused = absurd error
writes_some Q (Err f) text xs i x old mid new error lt e before refused =
    let front = flat_map text (take i xs) in
    let rest = flat_map text (drop (i + 1) xs) in
    let more : is_part mid new (text x ++ rest) ≡ true = part_first mid new (text x) rest refused in
    subst (λ (t : List ℕ). is_part old new t ≡ true) (sym (parts_of text xs i x lt e)) (part_behind old mid new front (text x ++ rest) before more)

pub ruleset fronts = (parts, writes_whole, writes_then)
