-- A hasher that is fed a text in pieces.
use Rattle.std.specs.Prelude.{ℕ, List, ◌++◌}
use Rattle.std.proofs.Common.{subst, append_assoc}
use Rattle.digest_core.specs.declared.Hasher.{Hasher}
use Rattle.digest_core.specs.Tagged.{Hashes}

-- whatever the hasher was fed before, it was fed the text after it
pub record Feeds (old new : Hasher) (text : List ℕ) : Type 0 where
  pub feeds : (fed : List ℕ) → Hashes old fed → Hashes new (fed ++ text)

pub feeds_then : {a b c : Hasher} {x y : List ℕ} → Feeds a b x → Feeds b c y → Feeds a c (x ++ y)
feeds_then {a} {b} {c} {x} {y} one two = record { feeds = λ fed h. subst (λ (text : List ℕ). Hashes c text) (append_assoc fed x y) (two.feeds (fed ++ x) (one.feeds fed h)) }
