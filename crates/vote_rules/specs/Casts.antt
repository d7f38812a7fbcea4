-- The votes that a book stands for, and what a decision on them depends on. Source: Sui Lutris; that votes name
-- origins is this profile's own.
use Rattle.std.specs.Prelude.{List, Option, map}
use Rattle.digest_core.specs.declared.Digest.{Digest}
use Rattle.chain_types.specs.declared.objects.ObjectKey.{ObjectKey}
use Rattle.protocol_spec.specs.Member.Votes.{Ballot, Cast}
use Rattle.version_store.specs.Stores.{Stored}
use Rattle.vote_rules.specs.declared.vote_store.Given.{Given}

-- a vote, by its parts
abbrev pub voted_as : Digest → List ObjectKey → List (Option Digest) → Cast
voted_as digest consumed origins = record { digest = digest; consumed = consumed; origins = origins }

-- an entry of the book's map as a vote
abbrev pub cast_as : Digest × Given → Cast
cast_as e = voted_as e.0 e.1.consumed e.1.origins

abbrev pub casts : List (Digest × Given) → List Cast
casts given = map cast_as given

-- what a store holds, with these votes
abbrev pub ballot_with : Stored → List Cast → Ballot
ballot_with s votes = record { opening = s.opening; executed = s.executed; votes = votes }
