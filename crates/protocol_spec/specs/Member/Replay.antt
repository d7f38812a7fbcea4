-- Which records a journal may have, and the start of a member from them. Source: this profile.
use Rattle.std.specs.Prelude.{ℕ, suc, Bool, true, false, ◌&&◌, List, [], ◌∷◌, map, Option, None, Result, Ok, Err, is_none, is_ok, if◌then◌else◌}
use Rattle.digest_core.specs.declared.Digest.{Digest}
use Rattle.chain_types.specs.declared.objects.Object.{Object}
use Rattle.chain_messages.specs.declared.messages.Statement.{Statement}
use Rattle.chain_messages.specs.declared.messages.Statement.TheVariants as statement
use Rattle.journal_core.specs.declared.records.RanItem.{RanItem}
use Rattle.journal_core.specs.declared.records.Record.{Record}
use Rattle.journal_core.specs.declared.records.Record.TheVariants as record_as
use Rattle.protocol_spec.specs.declared.refusals.VoteRefusal.{VoteRefusal}
use Rattle.chain_types.specs.Equal.{digest_eq}
use Rattle.protocol_spec.specs.Chain.Words.{first_some, refused_or}
use Rattle.protocol_spec.specs.Chain.Tests.{list_eq, origins_eq}
use Rattle.protocol_spec.specs.Chain.Certificates.{Rules}
use Rattle.protocol_spec.specs.Member.Member.{Member, fresh, after}
use Rattle.protocol_spec.specs.Member.Calls.{Voted, vote_on, vote_stopped, hold_certificate, hold_stopped, is_hold_kept, see_cases, ran_items, run_answer, close_answer, turn_answer}

-- the answer is a new vote that names these origins
abbrev pub states_origins : List (Option Digest) → Statement → Bool
states_origins origins (statement.Vote epoch tx named) = origins_eq named origins
states_origins origins (statement.End epoch) = false
states_origins origins (statement.Checkpoint epoch number digest) = false
states_origins origins (statement.Ack epoch tx effects) = false

abbrev pub is_vote_for : List (Option Digest) → Result Voted VoteRefusal → Bool
is_vote_for origins (Err refusal) = false
is_vote_for origins (Ok v) = v.fresh && states_origins origins v.statement

abbrev pub ran_item_eq : RanItem → RanItem → Bool
ran_item_eq a b = digest_eq a.tx b.tx && digest_eq a.effects b.effects

abbrev pub is_some_list : {A : Type 0} → List A → Bool
is_some_list [] = false
is_some_list (x ∷ xs) = true

abbrev pub is_true_answer : {E : Type 0} → Result Bool E → Bool
is_true_answer (Ok b) = b
is_true_answer (Err refusal) = false

-- A record that a call appends in this state. A vote's record has no seal, so none is asked for; a Ran lists
-- the transactions of the Ran2 that would be appended.
unfoldable pub is_allowed : Rules → Member → Record → Bool
is_allowed r m (record_as.Vote tx origins) = is_vote_for origins (refused_or (vote_stopped m) (vote_on m tx None))
is_allowed r m (record_as.Hold c) = is_hold_kept (refused_or (hold_stopped m) (hold_certificate r m c))
is_allowed r m (record_as.See bytes) = is_none (first_some (see_cases m m.sequence.number))
is_allowed r m record_as.Close = is_true_answer (close_answer r m)
is_allowed r m (record_as.Ran txs) = is_ok (run_answer r m) && is_some_list txs && list_eq digest_eq txs (map (λ (i : RanItem). i.tx) (ran_items m))
is_allowed r m record_as.Turn = is_ok (turn_answer r m)
is_allowed r m (record_as.Ran2 items) = is_ok (run_answer r m) && is_some_list items && list_eq ran_item_eq items (ran_items m)

-- the records one after the other, or the place of the first that is not allowed
abbrev pub replayed_from : Rules → Member → ℕ → List Record → Result Member ℕ
replayed_from r m place [] = Ok m
replayed_from r m place (x ∷ xs) = if is_allowed r m x then replayed_from r (after r m x) (suc place) xs else Err place

unfoldable pub replayed : Rules → List Object → List Record → Result Member ℕ
replayed r opening records = replayed_from r (fresh opening) 0 records
