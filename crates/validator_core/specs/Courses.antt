-- The course of a member's epoch: all that it has but its votes and whether it closed; and what keeps its tables
-- consistent. Source: Sui Lutris.
use Rattle.std.specs.Prelude.{◌≡◌, ◌≤◌, ◌+◌, ℕ, true, false, not, List, [], ◌∷◌, ◌++◌, map, filter, take, drop, length, Option, is_some}
use Rattle.digest_core.specs.declared.Digest.{Digest}
use Rattle.chain_types.specs.declared.objects.Object.{Object}
use Rattle.checkpoint_core.specs.declared.checkpoints.Checkpoint.{Checkpoint}
use Rattle.protocol_spec.specs.declared.answers.Held.{Held}
use Rattle.protocol_spec.specs.Chain.Words.{Each}
use Rattle.protocol_spec.specs.Chain.Committee.{is_quorum, weight}
use Rattle.protocol_spec.specs.Member.Admission.{Admitted, Admission, digest_of_admitted, entered, passed_mark, since_mark}
use Rattle.protocol_spec.specs.Member.Checkpoints.{chained, held_of, is_cut}
use Rattle.protocol_spec.specs.Member.Sequence.{Sequence, counted_as, cut_of, nothing_seen, numbered, takes}
use Rattle.protocol_spec.specs.Member.Member.{held_with}
use Rattle.protocol_spec.specs.Member.Rounds.{rounds}
use Rattle.protocol_spec.specs.Member.Versions.{Execution, live_list}
use Rattle.epoch_turn.specs.Chains.{BuildsAll, IsAhead, IsBehind, IsTold}
use Rattle.epoch_turn.specs.Dues.{cuts_of, size_of}
use Rattle.epoch_turn.specs.Openings.{Opens}
use Rattle.exec_plan.specs.Books.{IsSound as IsSoundHeld}
use Rattle.exec_plan.specs.Waits.{IsWaiting, StoodBefore}
use Rattle.version_assign.specs.Sharing.{HasShared}
use Rattle.validator_core.specs.declared.epoch_state.EpochState.{EpochState}
use Rattle.validator_core.specs.declared.entries.EntryOutcome.{EntryOutcome}
use Rattle.validator_core.specs.declared.entries.EntryOutcome.TheVariants as arrival

-- the sequence as the member has seen it
abbrev pub sequence_in : EpochState → Sequence
sequence_in c = record {
  number = c.seen;
  admission = c.admission.admission;
  cuts = cuts_of c.admission.admission.admitted c.chain.marks;
  counted = c.ends;
  ended = c.ended;
}

-- what contracts see of a course: the parts of the definition's member, and the limit of writers
pub record Coursed : Type 0 where
  pub writers : Option ℕ
  pub epoch : ℕ
  pub opening : List Object
  pub executed : List Execution
  pub held : List Held
  pub sequence : Sequence
  pub past : List Checkpoint

abbrev pub coursed : EpochState → Coursed
coursed c = record {
  writers = c.admission.writers;
  epoch = c.epoch;
  opening = c.store.opening;
  executed = c.store.executed;
  held = c.held;
  sequence = sequence_in c;
  past = c.chain.past;
}

-- all checkpoints that are built
abbrev pub built_in : Coursed → List Checkpoint
built_in c = chained c.epoch c.held c.executed c.past c.sequence.cuts

-- the checkpoints that the second has built and the first has not
abbrev pub newly_built : Coursed → Coursed → List Checkpoint
newly_built old new = drop (length (built_in old)) (built_in new)

-- epoch 0, which opens with these objects
abbrev pub begun : List Object → Option ℕ → Coursed
begun opening writers = record { writers = writers; epoch = 0; opening = opening; executed = []; held = []; sequence = nothing_seen; past = [] }

-- ---- what the tables rely on

abbrev pub IsHeldIn : List Held → Admitted → Type 0
IsHeldIn held a = is_some (held_of held a.digest) ≡ true

abbrev pub WaitsIn : List Held → Held → Type 0
WaitsIn held h = is_some (held_of held h.digest) ≡ true

-- the certificate of every transaction in the sequence, admitted or pending, is held
pub record AreHeld (held : List Held) (a : Admission) : Type 0 where
  pub admitted : Each (IsHeldIn held) a.admitted
  pub pending : Each (WaitsIn held) a.pending

abbrev pub HasOpening : EpochState → Type 0
HasOpening c = Opens c.admission.opening c.store.opening

-- the tables are consistent, but the chain may have checkpoints to build
pub record IsUnbuilt (c : EpochState) : Type 0 where
  pub held : Each IsSoundHeld c.held
  pub waits : IsWaiting c.store c.admission.admission c.held c.waiting
  pub opening : HasOpening c
  pub shared : HasShared c.store.opening c.admission.admission
  pub known : AreHeld c.held c.admission.admission
  pub marked : c.ended ≡ false → c.admission.admission.marked ≡ size_of c.chain.marks
  pub few : size_of c.chain.marks ≤ length c.chain.due
  pub told : IsTold c.held c.admission.admission.admitted c.chain
  pub behind : IsBehind c.epoch c.store.executed c.chain

-- the tables are consistent, and the chain has built all that it can
pub record IsSound (c : EpochState) : Type 0 where
  pub unbuilt : IsUnbuilt c
  pub ahead : IsAhead c.epoch c.store.executed c.chain
  pub all : BuildsAll c.epoch c.store.executed c.chain

-- the tables are consistent, but the chain and the wait lists know of only the first `from` admitted transactions
pub record IsAdmitting (from : ℕ) (c : EpochState) : Type 0 where
  pub held : Each IsSoundHeld c.held
  pub waits : StoodBefore c.store c.admission.admission (map digest_of_admitted (drop from c.admission.admission.admitted)) c.held c.waiting
  pub opening : HasOpening c
  pub shared : HasShared c.store.opening c.admission.admission
  pub known : AreHeld c.held c.admission.admission
  pub marked : c.ended ≡ false → c.admission.admission.marked ≡ size_of c.chain.marks
  pub few : size_of c.chain.marks ≤ length c.chain.due
  pub within : from ≤ length c.admission.admission.admitted
  pub told : IsTold c.held (take from c.admission.admission.admitted) c.chain
  pub behind : IsBehind c.epoch c.store.executed c.chain

-- what no step of an epoch changes, even if memory is refused half way
pub record Stays (old new : EpochState) : Type 0 where
  pub writers : new.admission.writers ≡ old.admission.writers
  pub opening : HasOpening old → HasOpening new

-- ---- what a call makes of it

abbrev pub with_held : Coursed → Held → Coursed
with_held c h = record c { held = c.held ++ h ∷ [] }

-- after the entry of a certificate: it is held, and admission has taken its entry
abbrev pub brings : Coursed → Held → Coursed
brings c h = record c { held = held_with c.held (takes h); sequence = record c.sequence { admission = entered c.writers c.opening c.sequence.admission h } }

-- after a Commit mark: a cut, and what admission lets in then
abbrev pub marks : Coursed → Coursed
marks c = record c { sequence = record c.sequence { admission = passed_mark c.writers c.opening c.sequence.admission; cuts = c.sequence.cuts ++ cut_of (since_mark c.sequence.admission) } }

-- after an End of this member, which was not counted before
abbrev pub ends : List ℕ → Coursed → ℕ → Coursed
ends stakes c member = record c { sequence = counted_as (is_quorum stakes (weight stakes (c.sequence.counted ++ member ∷ []))) c.sequence member }

abbrev pub ran : Coursed → Coursed
ran c = record c { executed = c.executed ++ rounds (record { opening = c.opening; held = c.held; admission = c.sequence.admission }) c.executed }

-- the executed transactions that are in a cut: the next epoch opens with what they left
abbrev pub kept_in : Coursed → List Execution
kept_in c = filter (λ (x : Execution). is_cut c.sequence.cuts x.digest) c.executed

abbrev pub turned_in : Coursed → Coursed
turned_in c = record { writers = c.writers; epoch = c.epoch + 1; opening = live_list c.opening (kept_in c); executed = []; held = []; sequence = nothing_seen; past = built_in c }

-- the executed transactions that are in no cut, oldest first
abbrev pub reverted_in : Coursed → List Digest
reverted_in c = map (λ (x : Execution). x.digest) (filter (λ (x : Execution). not (is_cut c.sequence.cuts x.digest)) c.executed)

-- what an entry does to a course, but for the count of entries seen
abbrev pub arrives : List ℕ → Coursed → EntryOutcome → Coursed
arrives stakes c (arrival.Takes h) = brings c h
arrives stakes c arrival.Commits = marks c
arrives stakes c (arrival.Counts member) = ends stakes c member
arrives stakes c (arrival.Ignores cause) = c

abbrev pub numbered_in : Coursed → Coursed
numbered_in c = record c { sequence = numbered c.sequence }
