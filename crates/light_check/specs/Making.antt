-- Chains as members seal them. Source: Sui Lutris.
use Rattle.std.specs.Prelude.{◌≡◌, ℕ, List, [], ◌∷◌}
use Rattle.checkpoint_core.specs.declared.checkpoints.Checkpoint.{Checkpoint}
use Rattle.checkpoint_core.specs.Checkpoints.{checkpoint}
use Rattle.protocol_spec.specs.Chain.Words.{Each}
use Rattle.light_check.specs.declared.chain.Link.{Link}
use Rattle.light_check.specs.Certified.{Accepting, IsAccepted, members_in, stated}

-- each checkpoint can be encoded
abbrev pub AllShort : List Checkpoint → Type 0
AllShort checkpoints = Each checkpoint.short checkpoints

-- the checkpoint, under an accepted seal of each of these members on its statement of it
pub record IsSealedBy (accepts : Accepting) (members : List ℕ) (c : Checkpoint) (l : Link) : Type 0 where
  pub of : l.checkpoint ≡ c
  pub by : members_in l ≡ members
  pub sealed : Each (IsAccepted accepts (stated c)) l.seals

-- the links are those of the checkpoints, in order, each under an accepted seal of each of these members
abbrev pub AreSealedBy : Accepting → List ℕ → List Checkpoint → List Link → Type 0
AreSealedBy accepts members [] [] = Unit {0}
AreSealedBy accepts members [] (l ∷ ls) = ⊥
AreSealedBy accepts members (c ∷ cs) [] = ⊥
AreSealedBy accepts members (c ∷ cs) (l ∷ ls) = IsSealedBy accepts members c l × AreSealedBy accepts members cs ls
