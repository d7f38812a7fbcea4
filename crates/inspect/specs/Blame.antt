-- Who sealed two votes of which an honest member casts at most one, in the certificates of a run. Source: Sui Lutris (in an
-- epoch an honest member votes for one transaction of each owned version); the lines and their order are this profile's own.
-- Each line is of two certificates of the run that are formed, or valid and delivered by a line, and of what `blamed` says of them.
-- So the laws of headline_law apply to it: if no statement is forged and no digests of transactions collide, none of its members is
-- honest (`none_is_honest`), and its stake is more than a third (`they_have_more_than_a_third`). A certificate is of the epoch of its
-- transaction, and two of different epochs are not rivals: a version that is voted for again in a later epoch blames nobody. Whether
-- that epoch is the open one plays no part.
use Rattle.std.specs.Prelude.{◌≡◌, ℕ, List, [], ◌∷◌, ◌++◌, codes, decimal, Option, Some, None}
use Rattle.std.specs.List.{flat_map}
use Rattle.digest_core.specs.declared.Digest.{Digest}
use Rattle.chain_types.specs.Digests.{transaction_digest}
use Rattle.chain_messages.specs.declared.messages.Certificate.{Certificate}
use Rattle.quorum_core.specs.Committee.{total_of, weight}
use Rattle.schedule_text.specs.declared.words.Event.{Event}
use Rattle.protocol_spec.specs.Chain.Certificates.{Rules}
use Rattle.world_spec.specs.Setting.{Name}
use Rattle.light_check.specs.declared.rivals.DoubleVote.{DoubleVote}
use Rattle.light_check.specs.Blamed.{blamed}
use Rattle.inspect.specs.Certified.{certified, of_pairs}

abbrev pub members_text : List ℕ → List ℕ
members_text members = flat_map (λ m. 32 ∷ decimal m) members

-- `blame T1 T2: members M .. stake S of T`
abbrev pub blame_line : Name → Name → List ℕ → ℕ → ℕ → List ℕ
blame_line one other members stake total =
    codes "blame " ++ one ++ codes " " ++ other ++ codes ": members" ++ members_text members ++ codes " stake " ++ decimal stake ++ codes " of " ++ decimal total ++ 10 ∷ []

-- the name of each transaction, by its digest
abbrev pub Names : Type 0
Names = Digest → Name

-- the line of two certificates with members to blame; nothing if there are none
abbrev pub double_text : Names → List ℕ → Certificate → Certificate → Option DoubleVote → List ℕ
double_text names stakes c d None = []
double_text names stakes c d (Some b) = blame_line (names (transaction_digest c.tx)) (names (transaction_digest d.tx)) b.members (weight stakes b.members) (total_of stakes)

abbrev pub pair_text : Names → List ℕ → Certificate → Certificate → List ℕ
pair_text names stakes c d = double_text names stakes c d (blamed c d)

abbrev pub pairs_text : Names → List ℕ → List Certificate → List ℕ
pairs_text names stakes cs = of_pairs (pair_text names stakes) cs

-- the answer of `blame` for a run: `names` are the transactions' names, `formed` the certificates that `cert` lines
-- formed, and `events` the lines that ran
pub record SaysBlame (r : Rules) (names : Names) (formed : List Certificate) (events : List Event) (status : ℕ) (text : List ℕ) : Type 0 where
  pub done : status ≡ 0
  pub is : text ≡ pairs_text names r.stakes (certified r formed events)
