use Rattle.std.proofs.Common.{◌≡◌, [], ◌∷◌, drop, map}
use Rattle.world_spec.specs.Setting.{user_of}
use Rattle.world_spec.specs.Making.{user_word}
use Rattle.world_lines.specs.KnownRows.{user_as}
use Rattle.world_lines.specs.Gathered.{all_some}
use Rattle.world_lines.proofs.adding.users_of.Given as goal

-- the words that are left add what is missing
abbrev pub invariant-loop-word : goal.invariant-loop-word
invariant-loop-word l = all_some user_word (map user_as l.users.items) (drop l.word-index l.words) ≡ all_some user_word (user_of l.sender ∷ []) l.words
