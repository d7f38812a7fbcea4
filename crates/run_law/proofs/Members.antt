-- What a member's state names are digests of 32 bytes, and the origins of its votes can be encoded; so can those of
-- each vote that it states.
use Rattle.std.proofs.Common.{refl, sym, subst, arith}
use Rattle.std.specs.Prelude.{◌≡◌, ℕ, ◌≤◌, ◌<◌, zero, suc, Bool, true, false, cond, not, ◌&&◌, ◌==◌, List, [], ◌∷◌, ◌++◌, map, flat_map, filter, length, Option, Some, None, is_some, Result, Ok, Err}
use Rattle.sha2.proofs.Facts256.{length-sha256}
use Rattle.wire_bcs.specs.declared.fault.WireFault.{WireFault}
use Rattle.wire_bcs.specs.Items.{length_limit}
use Rattle.digest_core.specs.declared.Digest.{Digest}
use Rattle.digest_core.specs.Tagged.{tagged_digest, transaction_tag}
use Rattle.chain_types.specs.Equal.{digest_eq}
use Rattle.chain_types.specs.Transactions as transactions
use Rattle.chain_types.specs.Digests.{transaction_digest, key_of, is_object}
use Rattle.chain_types.specs.declared.objects.Object.{Object}
use Rattle.chain_types.specs.declared.objects.ObjectKey.{ObjectKey}
use Rattle.chain_types.specs.declared.transactions.Input.{Input}
use Rattle.chain_types.specs.declared.transactions.Input.TheVariants as input
use Rattle.chain_types.specs.declared.transactions.Transaction.{Transaction}
use Rattle.chain_types.specs.declared.transactions.SignedTx.{SignedTx}
use Rattle.chain_messages.specs.declared.messages.Statement.{Statement}
use Rattle.chain_messages.specs.declared.messages.Statement.TheVariants as statement
use Rattle.chain_messages.specs.declared.messages.Sealed.{Sealed}
use Rattle.chain_messages.specs.declared.messages.Certificate.{Certificate}
use Rattle.chain_messages.specs.declared.messages.Entry.{Entry}
use Rattle.chain_messages.specs.declared.messages.Entry.TheVariants as entry
use Rattle.checkpoint_core.specs.declared.checkpoints.Checkpoint.{Checkpoint}
use Rattle.journal_core.specs.declared.records.RanItem.{RanItem}
use Rattle.journal_core.specs.declared.records.Record.{Record}
use Rattle.journal_core.specs.declared.records.Record.TheVariants as record_as
use Rattle.protocol_spec.specs.declared.pieces.Executed.{Executed}
use Rattle.protocol_spec.specs.declared.answers.Held.{Held}
use Rattle.protocol_spec.specs.declared.answers.Seen.{Seen}
use Rattle.protocol_spec.specs.declared.answers.Ran.{Ran}
use Rattle.protocol_spec.specs.declared.answers.Ignore.{Ignore}
use Rattle.protocol_spec.specs.declared.refusals.VoteRefusal.{VoteRefusal}
use Rattle.protocol_spec.specs.declared.refusals.VoteRefusal.TheVariants as no_vote
use Rattle.protocol_spec.specs.declared.refusals.HoldRefusal.{HoldRefusal}
use Rattle.protocol_spec.specs.declared.refusals.SeeRefusal.{SeeRefusal}
use Rattle.protocol_spec.specs.declared.refusals.RunRefusal.{RunRefusal}
use Rattle.protocol_spec.specs.declared.refusals.CloseRefusal.{CloseRefusal}
use Rattle.protocol_spec.specs.declared.refusals.EndRefusal.{EndRefusal}
use Rattle.protocol_spec.specs.declared.refusals.TurnRefusal.{TurnRefusal}
use Rattle.protocol_spec.specs.declared.refusals.AckRefusal.{AckRefusal}
use Rattle.protocol_spec.specs.declared.refusals.AckRefusal.TheVariants as no_ack
use Rattle.protocol_spec.proofs.Checked.{few_inputs}
use Rattle.protocol_spec.proofs.ListLemmas.{each_has, find_has, each_join}
use Rattle.protocol_spec.proofs.Truth.{map_none}
use Rattle.protocol_spec.specs.Chain.Words.{Each, first_some, where_true, refused_or, unless_refused}
use Rattle.protocol_spec.specs.Chain.Shape.{shape_fault}
use Rattle.protocol_spec.specs.Chain.Keys.{objects_of, fits}
use Rattle.protocol_spec.specs.Chain.Certificates.{Rules, read_signed, read_certificate, read_entry}
use Rattle.protocol_spec.specs.Block.Execution.{execution, written_keys}
use Rattle.protocol_spec.specs.Member.Versions.{Execution, Version, versions, opened, written, written_by, is_key, version_at, execution_of, is_executed}
use Rattle.protocol_spec.specs.Member.Votes.{Cast, Ballot, maker, made_by, origin_of, shared_key, vote_origins}
use Rattle.protocol_spec.specs.Member.Sequence.{Sequence, What, takes, commits, counts, ignores, ignored_or, certificate_cases, end_cases, held_as, what_stated, what_read, what_of}
use Rattle.protocol_spec.specs.Member.Rounds.{Books, may_run, writes_new, executes_as, ready_as, ready_on, present, ready, clashes, round_add, round_among, round_of, rounds_within, rounds}
use Rattle.protocol_spec.specs.Member.Checkpoints.{held_of}
use Rattle.protocol_spec.specs.Member.Member.{Member, ballot, books, vote_for, cast_of, held_with, after, state}
use Rattle.protocol_spec.specs.Member.Calls.{Call, votes, holds, sees, runs, closes, ends, turns, acks, Voted, new_vote_cases, voted_as, new_vote, vote_again, unsealed_of, vote_read, vote_stopped, vote_answer, hold_answer, is_hold_kept, see_cases, see_answer, run_answer, close_answer, turn_answer, end_answer, ack_answer, acknowledged, halted, kept_vote, vote_record, hold_record, see_record, ran_items, ran_record, run_record, close_record, turn_record, due}
use Rattle.protocol_spec.specs.Member.Calls as calls
use Rattle.world_spec.specs.World.{stated, voted_statement, built_statements, ran_statements, answered_statement, checkpoint_statement}
use Rattle.safety_law.proofs.Apart.{none-each, state-push}

abbrev pub IsDigest : Digest → Type 0
IsDigest d = length d.0 ≡ 32

abbrev pub IsOrigin : Option Digest → Type 0
IsOrigin None = Unit {0}
IsOrigin (Some d) = IsDigest d

-- origins that a certificate can encode
abbrev pub AreOrigins : List (Option Digest) → Type 0
AreOrigins origins = (length origins < length_limit) × Each IsOrigin origins

abbrev pub IsFitStatement : Statement → Type 0
IsFitStatement (statement.Vote epoch tx origins) = AreOrigins origins
IsFitStatement (statement.End epoch) = Unit {0}
IsFitStatement (statement.Checkpoint epoch number digest) = Unit {0}
IsFitStatement (statement.Ack epoch tx effects) = Unit {0}

pub record IsFitMember (m : Member) : Type 0 where
  pub executed : Each (λ (x : Execution). IsDigest x.digest) m.executed
  pub held : Each (λ (h : Held). IsDigest h.digest) m.held
  pub votes : Each (λ (v : Cast). AreOrigins v.origins) m.votes

-- ---- digests

pub tagged-digest : (tag : ℕ) (bytes : List ℕ) → IsDigest (tagged_digest tag bytes)
unfolding tagged_digest
tagged-digest tag bytes = length-sha256 (tag ∷ bytes)

pub digest-of : (t : Transaction) → IsDigest (transaction_digest t)
unfolding transaction_digest
digest-of t = tagged-digest transaction_tag (transactions.transaction.spell t)

-- ---- origins

-- the producer of a version is none or a digest
abbrev IsMade : Version → Type 0
IsMade v = IsOrigin (maker v.producer)

opened-made : (objects : List Object) → Each IsMade (map opened objects)
opened-made [] = tt
opened-made (o ∷ objects) = (tt, opened-made objects)

written-made : (d : Digest) (objects : List Object) → IsDigest d → Each IsMade (map (written d) objects)
written-made d [] is = tt
written-made d (o ∷ objects) is = (is, written-made d objects is)

all-written : (executed : List Execution) → Each (λ (x : Execution). IsDigest x.digest) executed → Each IsMade (flat_map written_by executed)
all-written [] each = tt
all-written (x ∷ executed) each = each_join IsMade (written_by x) (flat_map written_by executed) (written-made x.digest x.gave.objects each.0) (all-written executed each.1)

all-made : (opening : List Object) (executed : List Execution) → Each (λ (x : Execution). IsDigest x.digest) executed → Each IsMade (versions opening executed)
unfolding versions
all-made opening executed each = each_join IsMade (map opened opening) (flat_map written_by executed) (opened-made opening) (all-written executed each)

at-made : (held : List Version) (key : ObjectKey) → Each IsMade held → IsOrigin (made_by (version_at held key))
at-made held key each = go (version_at held key) refl
  where
    go : (o : Option Version) → version_at held key ≡ o → IsOrigin (made_by o)
    go None e = tt
    go (Some v) e = each_has IsMade held v each (find_has (is_key key) held v e)

one-origin : (b : Ballot) (i : Input) → Each IsMade (versions b.opening b.executed) → IsOrigin (origin_of b i)
one-origin b (input.Pure bytes) each = tt
one-origin b (input.Owned r) each = at-made (versions b.opening b.executed) (key_of r) each
one-origin b (input.Immutable r) each = at-made (versions b.opening b.executed) (key_of r) each
one-origin b (input.Shared id initial mutable) each = at-made (versions b.opening b.executed) (shared_key id initial) each

all-origins : (b : Ballot) (is : List Input) → Each IsMade (versions b.opening b.executed) → Each IsOrigin (map (origin_of b) is) × (length (map (origin_of b) is) ≡ length is)
all-origins b [] each = (tt, refl)
all-origins b (i ∷ is) each = let rest = all-origins b is each in let same = rest.1 in ((one-origin b i each, rest.0), omega (arith, same))

pub filter-short : {A : Type 0} (test : A → Bool) (xs : List A) → length (filter test xs) ≤ length xs
filter-short test [] = omega arith
filter-short test (x ∷ xs) = go (test x) (filter-short test xs)
  where
    go : (b : Bool) → length (filter test xs) ≤ length xs → length (cond b (x ∷ filter test xs) (filter test xs)) ≤ suc (length xs)
    go true le = omega (arith, le)
    go false le = omega (arith, le)

pub named-origins : (b : Ballot) (t : Transaction) → Each (λ (x : Execution). IsDigest x.digest) b.executed → shape_fault t ≡ None → AreOrigins (vote_origins b t)
unfolding vote_origins
named-origins b t each shape =
    let all = all-origins b (objects_of t) (all-made b.opening b.executed each) in
    let same = all.1 in
    let short = filter-short is_object t.inputs in
    let few = few_inputs t shape in
    (omega (arith, same, short, few), all.0)

-- ---- votes

abbrev IsFitVote : Result Voted VoteRefusal → Type 0
IsFitVote (Ok v) = IsFitStatement v.statement
IsFitVote (Err refusal) = Unit {0}

module _ (r : Rules) (m : Member) (fit : IsFitMember m) where
  new-vote : (t : Transaction) (unsealed : Option VoteRefusal) → IsFitVote (new_vote m t unsealed)
  new-vote t unsealed = go (first_some (new_vote_cases m t unsealed)) refl
    where
      go : (refusal : Option VoteRefusal) → first_some (new_vote_cases m t unsealed) ≡ refusal → IsFitVote (unless_refused refusal (voted_as m t (vote_origins (ballot m) t) true))
      go (Some refusal) e = tt
      go None e = named-origins (ballot m) t fit.executed (map_none no_vote.Invalid (shape_fault t) (none-each (new_vote_cases m t unsealed) e).1.0)

  again-vote : (t : Transaction) (unsealed : Option VoteRefusal) (v : Option Cast) → vote_for m (transaction_digest t) ≡ v → IsFitVote (vote_again m t unsealed v)
  again-vote t unsealed None e = new-vote t unsealed
  again-vote t unsealed (Some v) e = each_has (λ (w : Cast). AreOrigins w.origins) m.votes v fit.votes (find_has (λ (w : Cast). digest_eq w.digest (transaction_digest t)) m.votes v e)

  on-vote : (t : Transaction) (unsealed : Option VoteRefusal) (same : Bool)
      → IsFitVote (refused_or (where_true (not same) (no_vote.WrongEpoch t.epoch m.epoch)) (vote_again m t unsealed (vote_for m (transaction_digest t))))
  on-vote t unsealed true = again-vote t unsealed (vote_for m (transaction_digest t)) refl
  on-vote t unsealed false = tt

  read-vote : (read : Result SignedTx WireFault) (stopped : Option VoteRefusal) → IsFitVote (refused_or stopped (vote_read r m read))
  read-vote (Err fault) None = tt
  read-vote (Err fault) (Some refusal) = tt
  read-vote (Ok s) (Some refusal) = tt
  read-vote (Ok s) None = on-vote s.tx (unsealed_of r s) (s.tx.epoch == m.epoch)

  fit-answer : (bytes : List ℕ) → IsFitVote (vote_answer r m bytes)
  unfolding vote_answer
  fit-answer bytes = read-vote (read_signed bytes) (vote_stopped m)

-- ---- what a call states

checkpoints-fit : (cs : List Checkpoint) → Each IsFitStatement (map checkpoint_statement cs)
checkpoints-fit [] = tt
checkpoints-fit (c ∷ cs) = (tt, checkpoints-fit cs)

voted-fit : (answer : Result Voted VoteRefusal) → IsFitVote answer → Each IsFitStatement (voted_statement answer)
voted-fit (Ok v) fit = (fit, tt)
voted-fit (Err refusal) fit = tt

seen-fit : (answer : Result Seen SeeRefusal) → Each IsFitStatement (built_statements answer)
seen-fit (Ok seen) = checkpoints-fit seen.built
seen-fit (Err refusal) = tt

ran-fit : (answer : Result Ran RunRefusal) → Each IsFitStatement (ran_statements answer)
ran-fit (Ok ran) = checkpoints-fit ran.built
ran-fit (Err refusal) = tt

ended-fit : (m : Member) (refusal : Option EndRefusal) → Each IsFitStatement (answered_statement (unless_refused refusal (statement.End m.epoch)))
ended-fit m None = (tt, tt)
ended-fit m (Some refusal) = tt

acked-fit : (m : Member) (tx : Digest) (stopped : Option AckRefusal) (x : Option Execution) → Each IsFitStatement (answered_statement (refused_or stopped (acknowledged m tx x)))
acked-fit m tx (Some refusal) x = tt
acked-fit m tx None None = tt
acked-fit m tx None (Some x) = (tt, tt)

pub stated-fit : (r : Rules) (m : Member) (call : Call) → IsFitMember m → Each IsFitStatement (stated r m call)
unfolding stated end_answer ack_answer
stated-fit r m (votes bytes) fit = voted-fit (vote_answer r m bytes) (fit-answer r m fit bytes)
stated-fit r m (holds bytes) fit = tt
stated-fit r m (sees number bytes) fit = seen-fit (see_answer r m number bytes)
stated-fit r m runs fit = ran-fit (run_answer r m)
stated-fit r m closes fit = tt
stated-fit r m ends fit = ended-fit m (first_some (calls.end_cases m))
stated-fit r m turns fit = tt
stated-fit r m (acks tx) fit = acked-fit m tx (halted no_ack.Halted m) (execution_of m.executed tx)

-- ---- what a call appends

abbrev pub IsFitRecord : Record → Type 0
IsFitRecord (record_as.Vote tx origins) = AreOrigins origins
IsFitRecord (record_as.Hold c) = Unit {0}
IsFitRecord (record_as.See bytes) = Unit {0}
IsFitRecord record_as.Close = Unit {0}
IsFitRecord (record_as.Ran txs) = Unit {0}
IsFitRecord record_as.Turn = Unit {0}
IsFitRecord (record_as.Ran2 items) = Unit {0}

abbrev IsFitDue : Option Record → Type 0
IsFitDue None = Unit {0}
IsFitDue (Some x) = IsFitRecord x

kept-due : (t : Transaction) (st : Statement) → IsFitStatement st → IsFitDue (kept_vote t st)
kept-due t (statement.Vote epoch tx origins) fit = fit
kept-due t (statement.End epoch) fit = tt
kept-due t (statement.Checkpoint epoch number digest) fit = tt
kept-due t (statement.Ack epoch tx effects) fit = tt

vote-due : (read : Result SignedTx WireFault) (answer : Result Voted VoteRefusal) → IsFitVote answer → IsFitDue (vote_record read answer)
vote-due (Err fault) answer fit = tt
vote-due (Ok s) (Err refusal) fit = tt
vote-due (Ok s) (Ok v) fit = go v.fresh
  where
    go : (b : Bool) → IsFitDue (cond b (kept_vote s.tx v.statement) None)
    go true = kept-due s.tx v.statement fit
    go false = tt

hold-due : (read : Result Certificate WireFault) (answer : Result Bool HoldRefusal) → IsFitDue (hold_record read answer)
hold-due (Err fault) answer = tt
hold-due (Ok c) answer = go (is_hold_kept answer)
  where
    go : (b : Bool) → IsFitDue (where_true b (record_as.Hold c))
    go true = tt
    go false = tt

see-due : (m : Member) (number : ℕ) (bytes : List ℕ) (refusal : Option SeeRefusal) → IsFitDue (see_record m number bytes refusal)
see-due m number bytes None = tt
see-due m number bytes (Some refusal) = tt

ran-due : (items : List RanItem) → IsFitDue (ran_record items)
ran-due [] = tt
ran-due (item ∷ items) = tt

run-due : (m : Member) (answer : Result Ran RunRefusal) → IsFitDue (run_record m answer)
run-due m (Err refusal) = tt
run-due m (Ok ran) = ran-due (ran_items m)

close-due : (answer : Result Bool CloseRefusal) → IsFitDue (close_record answer)
close-due (Err refusal) = tt
close-due (Ok true) = tt
close-due (Ok false) = tt

turn-due : (answer : Result (List Digest) TurnRefusal) → IsFitDue (turn_record answer)
turn-due (Err refusal) = tt
turn-due (Ok txs) = tt

fit-due : (r : Rules) (m : Member) (call : Call) → IsFitMember m → IsFitDue (due r m call)
unfolding due
fit-due r m (votes bytes) fit = vote-due (read_signed bytes) (vote_answer r m bytes) (fit-answer r m fit bytes)
fit-due r m (holds bytes) fit = hold-due (read_certificate bytes) (hold_answer r m bytes)
fit-due r m (sees number bytes) fit = see-due m number bytes (first_some (see_cases m number))
fit-due r m runs fit = run-due m (run_answer r m)
fit-due r m closes fit = close-due (close_answer r m)
fit-due r m ends fit = tt
fit-due r m turns fit = turn-due (turn_answer r m)
fit-due r m (acks tx) fit = tt

-- ---- what is held and executed

abbrev IsFitWhat : What → Type 0
IsFitWhat (takes h) = IsDigest h.digest
IsFitWhat commits = Unit {0}
IsFitWhat (counts member) = Unit {0}
IsFitWhat (ignores cause) = Unit {0}

taken-or : (cause : Option Ignore) (w : What) → IsFitWhat w → IsFitWhat (ignored_or cause w)
taken-or None w fit = fit
taken-or (Some cause) w fit = tt

stated-what : (r : Rules) (epoch : ℕ) (q : Sequence) (x : Sealed) (st : Statement) → IsFitWhat (what_stated r epoch q x st)
stated-what r epoch q x (statement.Vote e tx origins) = tt
stated-what r epoch q x (statement.End e) = taken-or (first_some (end_cases r epoch q x e)) (counts x.member) tt
stated-what r epoch q x (statement.Checkpoint e number digest) = tt
stated-what r epoch q x (statement.Ack e tx effects) = tt

read-what : (r : Rules) (epoch : ℕ) (q : Sequence) (read : Result Entry WireFault) → IsFitWhat (what_read r epoch q read)
read-what r epoch q (Err fault) = tt
read-what r epoch q (Ok (entry.Cert c)) = taken-or (first_some (certificate_cases r epoch q c (transaction_digest c.tx))) (takes (held_as c)) (digest-of c.tx)
read-what r epoch q (Ok (entry.End x)) = stated-what r epoch q x x.statement
read-what r epoch q (Ok entry.Commit) = tt

fit-what : (r : Rules) (epoch : ℕ) (q : Sequence) (bytes : List ℕ) → IsFitWhat (what_of r epoch q bytes)
unfolding what_of
fit-what r epoch q bytes = read-what r epoch q (read_entry bytes)

held-more : (held : List Held) (w : What) → IsFitWhat w → Each (λ (h : Held). IsDigest h.digest) held → Each (λ (h : Held). IsDigest h.digest) (held_with held w)
held-more held (takes h) fit each = go (is_some (held_of held h.digest))
  where
    go : (b : Bool) → Each (λ (h : Held). IsDigest h.digest) (cond b held (held ++ h ∷ []))
    go true = each
    go false = each_join (λ (h : Held). IsDigest h.digest) held (h ∷ []) each (fit, tt)
held-more held commits fit each = each
held-more held (counts member) fit each = each
held-more held (ignores cause) fit each = each

abbrev AreDigests : List Execution → Type 0
AreDigests xs = Each (λ (x : Execution). IsDigest x.digest) xs

abbrev IsReady : Option Execution → Type 0
IsReady None = Unit {0}
IsReady (Some x) = IsDigest x.digest

ready-where : (h : Held) (gave : Executed) (b : Bool) → IsDigest h.digest → IsReady (where_true b (executes_as h gave))
ready-where h gave true is = is
ready-where h gave false is = tt

ready-fits : (b : Books) (executed : List Execution) (h : Held) (objects : List Object) (fits_them : Bool) → IsDigest h.digest
    → IsReady (cond fits_them (ready_as b executed h (execution h.cert.tx objects)) None)
ready-fits b executed h objects true is = ready-where h (execution h.cert.tx objects) (writes_new (versions b.opening executed) (written_keys (execution h.cert.tx objects))) is
ready-fits b executed h objects false is = tt

ready-there : (b : Books) (executed : List Execution) (h : Held) (there : Option (List Object)) → IsDigest h.digest → IsReady (ready_on b executed h there)
ready-there b executed h None is = tt
ready-there b executed h (Some objects) is = ready-fits b executed h objects (fits h.cert.tx objects) is

ready-if : (b : Books) (executed : List Execution) (h : Held) (may : Bool) → IsDigest h.digest → IsReady (cond may (ready_on b executed h (present b executed h)) None)
ready-if b executed h true is = ready-there b executed h (present b executed h) is
ready-if b executed h false is = tt

is-ready : (b : Books) (executed : List Execution) (h : Held) → IsDigest h.digest → IsReady (ready b executed h)
unfolding ready
is-ready b executed h is = ready-if b executed h (not (is_executed executed h.digest) && may_run b h) is

round-more : (round : List Execution) (x : Option Execution) → IsReady x → AreDigests round → AreDigests (round_add round x)
round-more round None is each = each
round-more round (Some x) is each = go (clashes round x)
  where
    go : (b : Bool) → AreDigests (cond b round (round ++ x ∷ []))
    go true = each
    go false = each_join (λ (y : Execution). IsDigest y.digest) round (x ∷ []) each (is, tt)

round-held : (b : Books) (executed round : List Execution) (hs : List Held) → Each (λ (h : Held). IsDigest h.digest) hs → AreDigests round → AreDigests (round_among b executed round hs)
round-held b executed round [] held each = each
round-held b executed round (h ∷ hs) held each = round-held b executed (round_add round (ready b executed h)) hs held.1 (round-more round (ready b executed h) (is-ready b executed h held.0) each)

one-round : (b : Books) (executed : List Execution) → Each (λ (h : Held). IsDigest h.digest) b.held → AreDigests (round_of b executed)
unfolding round_of
one-round b executed held = round-held b executed [] b.held held tt

some-rounds : (n : ℕ) (b : Books) (executed : List Execution) → Each (λ (h : Held). IsDigest h.digest) b.held → AreDigests (rounds_within n b executed)
some-rounds zero b executed held = tt
some-rounds (suc n) b executed held =
    each_join (λ (x : Execution). IsDigest x.digest) (round_of b executed) (rounds_within n b (executed ++ round_of b executed)) (one-round b executed held)
    (some-rounds n b (executed ++ round_of b executed) held)

all-rounds : (b : Books) (executed : List Execution) → Each (λ (h : Held). IsDigest h.digest) b.held → AreDigests (rounds b executed)
unfolding rounds
all-rounds b executed held = some-rounds (length b.held) b executed held

-- ---- each record

ran-after : (m : Member) → IsFitMember m → AreDigests (m.executed ++ rounds (books m) m.executed)
ran-after m fit = each_join (λ (x : Execution). IsDigest x.digest) m.executed (rounds (books m) m.executed) fit.executed (all-rounds (books m) m.executed fit.held)

fit-after : (r : Rules) (m : Member) (x : Record) → IsFitRecord x → IsFitMember m → IsFitMember (after r m x)
unfolding after
fit-after r m (record_as.Vote tx origins) is fit = record { executed = fit.executed; held = fit.held; votes = each_join (λ (v : Cast). AreOrigins v.origins) m.votes (cast_of tx origins ∷ []) fit.votes (is, tt) }
fit-after r m (record_as.Hold c) is fit = record { executed = fit.executed; held = each_join (λ (h : Held). IsDigest h.digest) m.held (held_as c ∷ []) fit.held (digest-of c.tx, tt); votes = fit.votes }
fit-after r m (record_as.See bytes) is fit = record { executed = fit.executed; held = held-more m.held (what_of r m.epoch m.sequence bytes) (fit-what r m.epoch m.sequence bytes) fit.held; votes = fit.votes }
fit-after r m record_as.Close is fit = record { executed = fit.executed; held = fit.held; votes = fit.votes }
fit-after r m (record_as.Ran txs) is fit = record { executed = ran-after m fit; held = fit.held; votes = fit.votes }
fit-after r m record_as.Turn is fit = record { executed = tt; held = tt; votes = tt }
fit-after r m (record_as.Ran2 items) is fit = record { executed = ran-after m fit; held = fit.held; votes = fit.votes }

pub fit-step : (r : Rules) (opening : List Object) (records : List Record) (call : Call) (x : Record) → Unit {0} → due r (state r opening records) call ≡ Some x → IsFitMember (state r opening records) → IsFitMember (state r opening (records ++ x ∷ []))
fit-step r opening records call x _ d fit =
    let is : IsFitRecord x = subst IsFitDue d (fit-due r (state r opening records) call fit) in
    subst IsFitMember (sym (state-push r opening records x)) (fit-after r (state r opening records) x is fit)

pub fit-none : (r : Rules) (opening : List Object) → IsFitMember (state r opening [])
unfolding state
fit-none r opening = record { executed = tt; held = tt; votes = tt }
