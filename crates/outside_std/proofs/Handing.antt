-- What a buffer has handed on stands in the writer below it.
use Rattle.std.proofs.Common.{◌≡◌, ◌∙◌, ℕ, List, [], ◌++◌, Option, Some, None, sym, ap, append-nil}
use Rattle.std.specs.Io.KnownBytes.{Keeps, append_known}

pub handed_on : (old inner : Option (List ℕ)) (buffer : List ℕ) → Keeps old (append_known inner buffer) → buffer ≡ [] → Keeps old inner
handed_on None inner buffer kept none = tt
handed_on (Some xs) None buffer kept none = absurd kept
handed_on (Some xs) (Some ys) buffer kept none = sym (append-nil ys) ∙ (ap (λ (bytes : List ℕ). ys ++ bytes) (sym none) ∙ kept)
