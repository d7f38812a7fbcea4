-- One line of a schedule, as a step of the world. Source: this profile.
use Rattle.std.specs.Prelude.{ℕ, ◌+◌, ◌-◌, min, Bool, true, false, ◌&&◌, ◌==◌, List, [], ◌∷◌, ◌++◌, map, length, slice_get, slice_set, Option, Some, None, option_map, option_and_then, if◌then◌else◌}
use Rattle.std.specs.List.{enumerate_from}
use Rattle.digest_core.specs.declared.Digest.{Digest}
use Rattle.quorum_core.specs.declared.signer.Signer.{Signer}
use Rattle.chain_types.specs.declared.transactions.Transaction.{Transaction}
use Rattle.chain_messages.specs.declared.messages.Statement.{Statement}
use Rattle.chain_messages.specs.declared.messages.Statement.TheVariants as statement
use Rattle.chain_messages.specs.declared.messages.MemberSeal.{MemberSeal}
use Rattle.chain_messages.specs.declared.messages.Certificate.{Certificate}
use Rattle.chain_messages.specs.declared.messages.Entry.{Entry}
use Rattle.chain_messages.specs.declared.messages.Entry.TheVariants as entry
use Rattle.schedule_text.specs.declared.words.Event.{Event}
use Rattle.chain_types.specs.Equal.{digest_eq}
use Rattle.effects_core.specs.Effects.{digest_of_effects}
use Rattle.chain_messages.specs.Messages as messages
use Rattle.protocol_spec.specs.Chain.Words.{first_some, first_of, where_true}
use Rattle.protocol_spec.specs.Chain.Tests.{origins_eq}
use Rattle.protocol_spec.specs.Chain.Keys.{objects_of}
use Rattle.protocol_spec.specs.Chain.Certificates.{Rules}
use Rattle.protocol_spec.specs.Chain.Collecting.{Collected, lacks, short, differ, whole, collected}
use Rattle.protocol_spec.specs.Member.Versions.{Execution, execution_of}
use Rattle.protocol_spec.specs.Member.Sequence.{seen}
use Rattle.protocol_spec.specs.Member.Member.{Member}
use Rattle.protocol_spec.specs.Member.Calls.{acks}
use Rattle.world_spec.specs.Setting.{Name, Setting, member_seal}
use Rattle.world_spec.specs.World.{Seat, Said, Made, World, WorldOf, Seating, arms, starts, sealed_by, with_seat, called_over, honest_in, seat_honest, member_over, says_over, by_records, entries_at, if_called, sees_over, list_or_none}
use Rattle.world_spec.specs.Names.{made_named, cert_named}
use Rattle.world_spec.specs.Making.{made_over, digest_named, spoiled_if, digest_or_zero}
use Rattle.world_spec.specs.Moves.{Move, looks_on, makes_tx, requests, delivers, claims, certifies, submits, submits_end, arms_stop, starts_again, Claim, claims_vote, claims_ack, Submission, cert_submitted, mark_submitted, requested, move_of}

-- ---- statements

-- a vote for a transaction of an epoch, an End, an acknowledgement of a transaction in an epoch
abbrev pub vote_in : ℕ → Digest → Statement → Option (List (Option Digest))
vote_in epoch tx (statement.Vote e t origins) = where_true ((e == epoch) && digest_eq t tx) origins
vote_in epoch tx (statement.End e) = None
vote_in epoch tx (statement.Checkpoint e number digest) = None
vote_in epoch tx (statement.Ack e t effects) = None

abbrev pub end_in : Statement → Option ℕ
end_in (statement.Vote epoch t origins) = None
end_in (statement.End epoch) = Some epoch
end_in (statement.Checkpoint epoch number digest) = None
end_in (statement.Ack epoch t effects) = None

abbrev pub ack_in : ℕ → Digest → Statement → Option Digest
ack_in epoch tx (statement.Vote e t origins) = None
ack_in epoch tx (statement.End e) = None
ack_in epoch tx (statement.Checkpoint e number digest) = None
ack_in epoch tx (statement.Ack e t effects) = where_true ((e == epoch) && digest_eq t tx) effects

-- the seal of a vote for a transaction of an epoch, if it was kept
abbrev pub seal_in : ℕ → Digest → Said → Option (Option Digest)
seal_in epoch tx x = option_map (λ _. x.seal) (vote_in epoch tx x.statement)

abbrev pub says_of : {A : Type 0} → (Said → Option A) → ℕ → Said → Option A
says_of reads m x = if x.member == m then reads x else None

-- what is read last of a member's statements
abbrev pub last_read : {A : Type 0} → (Said → Option A) → ℕ → List Said → Option A
last_read reads m [] = None
last_read reads m (x ∷ xs) = first_some (last_read reads m xs ∷ says_of reads m x ∷ [])

abbrev pub of_statement : {A : Type 0} → (Statement → Option A) → Said → Option A
of_statement reads x = reads x.statement

-- what a member stated last of something
abbrev pub last_said : {A : Type 0} → (Statement → Option A) → ℕ → List Said → Option A
last_said reads m said = last_read (of_statement reads) m said

abbrev pub the_seal : Option Digest → Option Digest
the_seal seal = seal

-- the seal that a member put on its last vote for a transaction of an epoch
abbrev pub last_seal : ℕ → Digest → ℕ → List Said → Option Digest
last_seal epoch tx m said = option_and_then the_seal (last_read (seal_in epoch tx) m said)

abbrev pub says : {S : Type 0} → (Signer → List ℕ → Digest) → WorldOf S → ℕ → Statement → WorldOf S
says seal w m st = record w { said = w.said ++ sealed_by seal m st ∷ [] }

-- ---- fvote

abbrev pub origin_word : {S : Type 0} → WorldOf S → Option Name → Option Digest
origin_word w None = None
origin_word w (Some name) = Some (digest_named w name)

abbrev pub no_origins : Transaction → List (Option Digest)
no_origins t = map (λ _. None) (objects_of t)

abbrev pub origins_or : List (Option Digest) → Option (List (Option Digest)) → List (Option Digest)
origins_or none None = none
origins_or none (Some origins) = origins

-- the last vote of the lowest-numbered honest member that has one
abbrev pub vote_by : {S : Type 0} → (S → Bool) → WorldOf S → Made → (ℕ × S) → Option (List (Option Digest))
vote_by honest w t seat = if honest seat.1 then last_said (vote_in t.signed.tx.epoch t.digest) seat.0 w.said else None

abbrev pub honest_vote : World → Made → (ℕ × Seat) → Option (List (Option Digest))
honest_vote w t seat = vote_by seat_honest w t seat

-- the named origins, and if none are named those of an honest member's vote, else none for each object
abbrev pub origins_by : {S : Type 0} → (S → Bool) → WorldOf S → Made → List (Option Name) → List (Option Digest)
origins_by honest w t [] = origins_or (no_origins t.signed.tx) (first_of (vote_by honest w t) (enumerate_from 0 w.seats))
origins_by honest w t (word ∷ words) = map (origin_word w) (word ∷ words)

abbrev pub fvote_origins : World → Made → List (Option Name) → List (Option Digest)
fvote_origins w t words = origins_by seat_honest w t words

-- a faulty member votes, under its seal
abbrev pub fvoted_by : {S : Type 0} → (S → Bool) → Setting → WorldOf S → ℕ → List (Option Name) → Option Made → WorldOf S
fvoted_by honest s w m words None = w
fvoted_by honest s w m words (Some t) = if honest_in honest w m then w else says s.seal w m (statement.Vote t.signed.tx.epoch t.digest (origins_by honest w t words))

abbrev pub fvoted : Setting → World → ℕ → List (Option Name) → Option Made → World
fvoted s w m words t = fvoted_by seat_honest s w m words t

-- ---- cert

-- what collecting the votes for a transaction gives
unfoldable pub votes_collected : {S : Type 0} → Setting → WorldOf S → Made → List ℕ → Collected
votes_collected s w t ms = collected origins_eq s.rules.stakes (λ m. last_said (vote_in t.signed.tx.epoch t.digest) m w.said) ms

abbrev pub first_origins : {S : Type 0} → WorldOf S → Made → List ℕ → List (Option Digest)
first_origins w t [] = []
first_origins w t (m ∷ ms) = list_or_none (last_said (vote_in t.signed.tx.epoch t.digest) m w.said)

abbrev pub vote_statement : Transaction → Digest → List (Option Digest) → Statement
vote_statement t tx origins = statement.Vote t.epoch tx origins

-- the seal that a member put on its last vote for a transaction; zeros without such a vote
abbrev pub collected_seal : List Said → Made → ℕ → MemberSeal
collected_seal said t m = record { member = m; seal = digest_or_zero (last_seal t.signed.tx.epoch t.digest m said) }

-- the certificate of these members' votes, which are all one statement, with the seal that each of them put on it
abbrev pub certificate_of : List Said → Made → List (Option Digest) → List ℕ → Certificate
certificate_of said t origins ms = record { tx = t.signed.tx; origins = origins; seals = map (collected_seal said t) ms }

abbrev pub formed_as : {S : Type 0} → WorldOf S → Made → List ℕ → Collected → WorldOf S
formed_as w t ms (lacks m) = w
formed_as w t ms (short weight total) = w
formed_as w t ms (differ a b) = w
formed_as w t ms whole = record w { certs = w.certs ++ record { name = t.name; cert = certificate_of w.said t (first_origins w t ms) ms } ∷ [] }

abbrev pub formed : {S : Type 0} → Setting → WorldOf S → List ℕ → Option Made → WorldOf S
formed s w ms None = w
formed s w ms (Some t) = formed_as w t ms (votes_collected s w t ms)

-- ---- order

abbrev pub open_entries : {S : Type 0} → WorldOf S → List Entry
open_entries w = entries_at w.sequences w.epoch

abbrev pub with_entries : {S : Type 0} → WorldOf S → List Entry → WorldOf S
with_entries w entries = record w { sequences = slice_set w.sequences w.epoch entries }

abbrev pub appended_entry : {S : Type 0} → WorldOf S → Entry → WorldOf S
appended_entry w e = with_entries w (open_entries w ++ e ∷ [])

-- the open epoch ends if a member that sees these entries sees its end
abbrev pub has_ended : {S : Type 0} → Setting → WorldOf S → Bool
has_ended s w = (seen s.rules [] w.epoch (map messages.entry.spell (open_entries w))).ended

abbrev pub risen_if : {S : Type 0} → Bool → WorldOf S → WorldOf S
risen_if true w = record w { epoch = w.epoch + 1; sequences = w.sequences ++ [] ∷ [] }
risen_if false w = w

abbrev pub risen : {S : Type 0} → Setting → WorldOf S → WorldOf S
risen s w = risen_if (has_ended s w) w

abbrev pub ordered : {S : Type 0} → WorldOf S → Option Certificate → WorldOf S
ordered w None = w
ordered w (Some c) = if c.tx.epoch == w.epoch then appended_entry w (entry.Cert c) else w

abbrev pub sealed_end : Setting → ℕ → ℕ → Entry
sealed_end s m epoch = entry.End (record { member = m; statement = statement.End epoch; seal = member_seal s m (statement.End epoch) })

abbrev pub ordered_end : {S : Type 0} → Setting → WorldOf S → ℕ → ℕ → WorldOf S
ordered_end s w m epoch = risen s (appended_entry w (sealed_end s m epoch))

abbrev pub honest_end : {S : Type 0} → Setting → WorldOf S → ℕ → Option ℕ → WorldOf S
honest_end s w m None = w
honest_end s w m (Some epoch) = if epoch == w.epoch then ordered_end s w m epoch else w

-- the last End of an honest member; a faulty one states one of the open epoch
abbrev pub end_by : {S : Type 0} → (S → Bool) → Setting → WorldOf S → ℕ → WorldOf S
end_by honest s w m =
    if honest_in honest w m then honest_end s w m (last_said end_in m w.said)
    else ordered_end s (says s.seal w m (statement.End w.epoch)) m w.epoch

abbrev pub end_ordered : Setting → World → ℕ → World
end_ordered s w m = end_by seat_honest s w m

-- ---- see

-- how many entries of its epoch's sequence a member has not taken yet
abbrev pub entries_left : {S : Type 0} → WorldOf S → Option Member → ℕ
entries_left w None = 0
entries_left w (Some m) = length (entries_at w.sequences m.epoch) - m.sequence.number

-- ---- stop and restart

abbrev pub on_seat : {S : Type 0} → WorldOf S → ℕ → (S → S) → Option S → WorldOf S
on_seat w m change None = w
on_seat w m change (Some seat) = with_seat w m (change seat)

-- ---- ack

abbrev pub effects_digest_at : Execution → Digest
effects_digest_at x = digest_of_effects x.gave.effects

-- the effects digest of a transaction that a member executed in its present epoch
abbrev pub executed_digest : Digest → Member → Option Digest
executed_digest tx m = option_map effects_digest_at (execution_of m.executed tx)

-- what a faulty member acknowledges: the effects digest of the lowest-numbered honest member that is up and executed it, else zeros
abbrev pub false_ack_over : {S : Type 0} → Seating S → WorldOf S → Made → Bool → Statement
false_ack_over k w t spoiled = statement.Ack t.signed.tx.epoch t.digest (spoiled_if spoiled (digest_or_zero (says_over k (executed_digest t.digest) w.seats)))

abbrev pub false_ack : Setting → World → Made → Bool → Statement
false_ack s w t spoiled = false_ack_over (by_records s) w t spoiled

abbrev pub acked_over : {S : Type 0} → Seating S → Rules → WorldOf S → ℕ → Bool → Option Made → WorldOf S
acked_over k r w m spoiled None = w
acked_over k r w m spoiled (Some t) = if honest_in k.honest w m then called_over k r w m (acks t.digest) else says k.seal w m (false_ack_over k w t spoiled)

abbrev pub acked : Setting → World → ℕ → Bool → Option Made → World
acked s w m spoiled t = acked_over (by_records s) s.rules w m spoiled t

-- ---- the step

-- a faulty member claims it; an honest one acknowledges, if it is asked to
abbrev pub claimed_over : {S : Type 0} → Seating S → Setting → WorldOf S → ℕ → Claim → Option Made → WorldOf S
claimed_over k s w m (claims_vote origins) t = fvoted_by k.honest s w m origins t
claimed_over k s w m (claims_ack spoiled) t = acked_over k s.rules w m spoiled t

abbrev pub submitted : {S : Type 0} → WorldOf S → Submission → WorldOf S
submitted w (cert_submitted tx) = ordered w (cert_named w tx)
submitted w mark_submitted = appended_entry w entry.Commit

-- the world after a move
abbrev pub moved : {S : Type 0} → Seating S → Setting → WorldOf S → Move → WorldOf S
moved k s w looks_on = w
moved k s w (makes_tx l) = made_over k s w l
moved k s w (requests m ask) = if_called k s.rules w m (requested w ask)
moved k s w (delivers m entries) = sees_over k s.rules (min entries (entries_left w (member_over k w m))) w m
moved k s w (claims m tx claim) = claimed_over k s w m claim (made_named w tx)
moved k s w (certifies tx members) = formed s w members (made_named w tx)
moved k s w (submits x) = submitted w x
moved k s w (submits_end m) = end_by k.honest s w m
moved k s w (arms_stop m kept) = on_seat w m (λ seat. k.acts seat (arms kept)) (slice_get w.seats m)
moved k s w (starts_again m) = on_seat w m (λ seat. k.acts seat starts) (slice_get w.seats m)

-- the world after a line
unfoldable pub happens_over : {S : Type 0} → Seating S → Setting → WorldOf S → Event → WorldOf S
happens_over k s w e = moved k s w (move_of e)

abbrev pub happens : Setting → World → Event → World
happens s w e = happens_over (by_records s) s w e
