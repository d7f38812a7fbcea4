-- Whether a member is honest, by its flag of the set-up: only a faulty one may vote falsely, and one that is not there
-- counts as faulty. And what is kept of a vote.
use Rattle.std.specs.Prelude.{ℕ, Bool, false, List, [], ◌∷◌, Option, Some, None, Result, Ok, Err}
use Rattle.protocol_spec.specs.declared.answers.Voted.{Voted as Sent}
use Rattle.protocol_spec.specs.declared.refusals.VoteRefusal.{VoteRefusal}
use Rattle.world_spec.specs.World.{Said, said_under}
use Rattle.world_core.specs.declared.reply.Reply.{Reply}
use Rattle.world_core.specs.declared.reply.Reply.TheVariants as reply

abbrev pub flag_at : Option Bool → Bool
flag_at None = false
flag_at (Some honest) = honest

-- a vote that was given is stated under the seal that came with it
abbrev pub vote_under : ℕ → Result Sent VoteRefusal → List Said
vote_under m (Ok v) = said_under v.sealed.seal m v.sealed.statement ∷ []
vote_under m (Err refusal) = []

abbrev pub vote_stated : ℕ → Reply (Result Sent VoteRefusal) → List Said
vote_stated m reply.Down = []
vote_stated m reply.Stopped = []
vote_stated m (reply.Answered given) = vote_under m given
