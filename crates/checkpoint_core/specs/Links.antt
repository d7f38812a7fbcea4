-- How checkpoints go on from one another. Source: Sui Lutris; where the chain begins is this profile's own.
use Rattle.std.specs.Prelude.{ℕ, ◌+◌, ◌<◌, ◌^◌, ◌-◌, ◌==◌, not, bytes_eq, replicate, Option, Some, None, Result, Ok, Err, if◌then◌else◌}
use Rattle.digest_core.specs.declared.Digest.{Digest}
use Rattle.checkpoint_core.specs.declared.checkpoints.Checkpoint.{Checkpoint}
use Rattle.checkpoint_core.specs.declared.links.LinkRefusal.{LinkRefusal}
use Rattle.checkpoint_core.specs.declared.links.LinkRefusal.TheVariants as refused

-- the number and the digest of a checkpoint after which another can come
abbrev pub HasNext : Option (ℕ × Digest) → Type 0
HasNext None = Unit {0}
HasNext (Some before) = before.0 < 2 ^ 64 - 1

-- the number and the parent of the checkpoint after this number and digest; the first has number 0 and 32 zero bytes
abbrev pub wanted_number : Option (ℕ × Digest) → ℕ
wanted_number None = 0
wanted_number (Some before) = before.0 + 1

abbrev pub wanted_parent : Option (ℕ × Digest) → Digest
wanted_parent None = record { 0 = replicate 32 0 }
wanted_parent (Some before) = before.1

-- that a checkpoint comes after what was before, or the first reason why it does not
unfoldable pub link_answer : Option (ℕ × Digest) → Checkpoint → Result (Unit {0}) LinkRefusal
link_answer before c =
    if not (c.number == wanted_number before) then Err (refused.WrongNumber c.number (wanted_number before)) else
    (if not (bytes_eq c.parent.0 (wanted_parent before).0) then Err (refused.WrongParent c.parent (wanted_parent before)) else Ok tt)
