-- The answers of a member's process, without the ends of their lines. Source: this profile; the words are those of a
-- report.
use Rattle.std.specs.Prelude.{ℕ, Bool, true, false, List, [], ◌∷◌, ◌++◌, Option, Some, None, codes, decimal, if◌then◌else◌}
use Rattle.std.specs.List.{concat, flat_map}
use Rattle.digest_core.specs.declared.Digest.{Digest}
use Rattle.wire_bcs.specs.declared.fault.WireFault.{WireFault}
use Rattle.chain_types.specs.declared.objects.Object.{Object}
use Rattle.chain_types.specs.declared.objects.ObjectKey.{ObjectKey}
use Rattle.chain_types.specs.Objects as objects
use Rattle.chain_types.specs.declared.refusals.CertRefusal.{CertRefusal}
use Rattle.chain_types.specs.declared.refusals.CertRefusal.TheVariants as no_cert
use Rattle.chain_messages.specs.declared.messages.Sealed.{Sealed}
use Rattle.chain_messages.specs.Messages as messages
use Rattle.checkpoint_core.specs.declared.checkpoints.Checkpoint.{Checkpoint}
use Rattle.checkpoint_core.specs.Checkpoints as checkpoints
use Rattle.effects_core.specs.declared.effects.Effects.{Effects}
use Rattle.effects_core.specs.Effects as effects_as
use Rattle.protocol_spec.specs.declared.answers.Ignore.{Ignore}
use Rattle.protocol_spec.specs.declared.answers.Ignore.TheVariants as ignore
use Rattle.protocol_spec.specs.declared.answers.Left.{Left}
use Rattle.protocol_spec.specs.declared.answers.Ran.{Ran}
use Rattle.protocol_spec.specs.declared.answers.Seen.{Seen}
use Rattle.protocol_spec.specs.declared.answers.SeenWhat.{SeenWhat}
use Rattle.protocol_spec.specs.declared.answers.SeenWhat.TheVariants as seen
use Rattle.protocol_spec.specs.declared.answers.Voted.{Voted}
use Rattle.protocol_spec.specs.declared.refusals.VoteRefusal.{VoteRefusal}
use Rattle.protocol_spec.specs.declared.refusals.VoteRefusal.TheVariants as no_vote
use Rattle.protocol_spec.specs.declared.refusals.HoldRefusal.{HoldRefusal}
use Rattle.protocol_spec.specs.declared.refusals.HoldRefusal.TheVariants as no_hold
use Rattle.protocol_spec.specs.declared.refusals.SeeRefusal.{SeeRefusal}
use Rattle.protocol_spec.specs.declared.refusals.SeeRefusal.TheVariants as no_see
use Rattle.protocol_spec.specs.declared.refusals.RunRefusal.{RunRefusal}
use Rattle.protocol_spec.specs.declared.refusals.RunRefusal.TheVariants as no_run
use Rattle.protocol_spec.specs.declared.refusals.CloseRefusal.{CloseRefusal}
use Rattle.protocol_spec.specs.declared.refusals.CloseRefusal.TheVariants as no_close
use Rattle.protocol_spec.specs.declared.refusals.EndRefusal.{EndRefusal}
use Rattle.protocol_spec.specs.declared.refusals.EndRefusal.TheVariants as no_end
use Rattle.protocol_spec.specs.declared.refusals.TurnRefusal.{TurnRefusal}
use Rattle.protocol_spec.specs.declared.refusals.TurnRefusal.TheVariants as no_turn
use Rattle.protocol_spec.specs.declared.refusals.AckRefusal.{AckRefusal}
use Rattle.protocol_spec.specs.declared.refusals.AckRefusal.TheVariants as no_ack
use Rattle.process_lines.specs.declared.looks.Counts.{Counts}
use Rattle.process_lines.specs.declared.starts.StartLine.{StartLine}
use Rattle.process_lines.specs.declared.starts.StartLine.TheVariants as start
use Rattle.process_lines.specs.Pieces.{digest_text, hex_text, key_text}

-- ---- parts

abbrev pub halted_text : Digest → Digest → List ℕ
halted_text first second = concat (codes "refused halted " ∷ digest_text first ∷ codes " " ∷ digest_text second ∷ [])

abbrev pub malformed_text : WireFault → List ℕ
malformed_text fault = concat (codes "refused malformed at " ∷ decimal fault.at ∷ codes " why " ∷ decimal fault.why ∷ [])

abbrev pub wrong_epoch_text : ℕ → ℕ → List ℕ
wrong_epoch_text had want = concat (codes "refused wrong epoch had " ∷ decimal had ∷ codes " want " ∷ decimal want ∷ [])

abbrev pub fork_text : ObjectKey → Digest → Digest → List ℕ
fork_text key first second = concat (codes "fork " ∷ key_text key ∷ codes " " ∷ digest_text first ∷ codes " " ∷ digest_text second ∷ [])

-- the text for a fault: none is ever written, since a fault ends the process
abbrev pub fault_text : List ℕ
fault_text = []

abbrev pub digest_word : Digest → List ℕ
digest_word d = concat (codes " " ∷ digest_text d ∷ [])

-- the digests in hexadecimal digits, each after a space
unfoldable pub digests_text : List Digest → List ℕ
digests_text digests = flat_map digest_word digests

-- a word and the digests after it, or nothing if there are none
abbrev pub part_text : List ℕ → List Digest → List ℕ
part_text word [] = []
part_text word (d ∷ ds) = word ++ digests_text (d ∷ ds)

unfoldable pub built_one : Checkpoint → List ℕ
built_one c = concat (codes " checkpoint " ∷ decimal c.number ∷ [])

-- ` checkpoint N` for each checkpoint that was built
unfoldable pub built_text : List Checkpoint → List ℕ
built_text built = flat_map built_one built

-- ---- votes

unfoldable pub voted_text : Voted → List ℕ
voted_text v = (if v.fresh then codes "voted " else codes "again ") ++ hex_text (messages.sealed.spell v.sealed)

unfoldable pub vote_refusal_text : VoteRefusal → List ℕ
vote_refusal_text no_vote.Down = fault_text
vote_refusal_text (no_vote.Halted first second) = halted_text first second
vote_refusal_text no_vote.Full = codes "refused full"
vote_refusal_text (no_vote.Malformed fault) = malformed_text fault
vote_refusal_text (no_vote.WrongEpoch had want) = wrong_epoch_text had want
vote_refusal_text no_vote.Closed = codes "refused closed"
vote_refusal_text (no_vote.Invalid number) = concat (codes "refused invalid " ∷ decimal number ∷ [])
vote_refusal_text no_vote.Unsealed = codes "refused unsealed"
vote_refusal_text (no_vote.Absent key) = concat (codes "refused absent " ∷ key_text key ∷ [])
vote_refusal_text (no_vote.Consumed key by) = concat (codes "refused consumed " ∷ key_text key ∷ codes " by " ∷ digest_text by ∷ [])
vote_refusal_text (no_vote.WrongDigest key) = concat (codes "refused wrong digest " ∷ key_text key ∷ [])
vote_refusal_text (no_vote.WrongOwner key) = concat (codes "refused wrong owner " ∷ key_text key ∷ [])
vote_refusal_text (no_vote.WrongKind key) = concat (codes "refused wrong kind " ∷ key_text key ∷ [])
vote_refusal_text (no_vote.PoorGas had want) = concat (codes "refused poor gas had " ∷ decimal had ∷ codes " want " ∷ decimal want ∷ [])
vote_refusal_text (no_vote.Locked key by) = concat (codes "refused locked " ∷ key_text key ∷ codes " by " ∷ digest_text by ∷ [])
vote_refusal_text no_vote.KeepFault = fault_text
vote_refusal_text no_vote.OutOfMemory = fault_text

-- ---- certificates

-- `held` or, if it was held before, `again`; with the transaction if there is one
unfoldable pub held_text : Bool → Option Digest → List ℕ
held_text true None = codes "held"
held_text true (Some tx) = concat (codes "held " ∷ digest_text tx ∷ [])
held_text false None = codes "again"
held_text false (Some tx) = concat (codes "again " ∷ digest_text tx ∷ [])

unfoldable pub cert_refusal_text : CertRefusal → List ℕ
cert_refusal_text (no_cert.Shape number) = concat (codes "refused shape " ∷ decimal number ∷ [])
cert_refusal_text no_cert.Order = codes "refused order"
cert_refusal_text (no_cert.ShortStake weight total) = concat (codes "refused short stake " ∷ decimal weight ∷ codes " of " ∷ decimal total ∷ [])
cert_refusal_text (no_cert.BadSeal member) = concat (codes "refused bad seal " ∷ decimal member ∷ [])
cert_refusal_text no_cert.OutOfMemory = fault_text

unfoldable pub hold_refusal_text : HoldRefusal → List ℕ
hold_refusal_text no_hold.Down = fault_text
hold_refusal_text (no_hold.Halted first second) = halted_text first second
hold_refusal_text no_hold.Full = codes "refused full"
hold_refusal_text (no_hold.Malformed fault) = malformed_text fault
hold_refusal_text (no_hold.WrongEpoch had want) = wrong_epoch_text had want
hold_refusal_text no_hold.Closed = codes "refused closed"
hold_refusal_text (no_hold.Cert refusal) = cert_refusal_text refusal
hold_refusal_text no_hold.KeepFault = fault_text
hold_refusal_text (no_hold.Fork key first second) = fork_text key first second
hold_refusal_text no_hold.OutOfMemory = fault_text

-- ---- entries

unfoldable pub ignored_text : Ignore → List ℕ
ignored_text ignore.Malformed = codes "malformed"
ignored_text ignore.Statement = codes "statement"
ignored_text ignore.Epoch = codes "epoch"
ignored_text ignore.Cert = codes "certificate"
ignored_text ignore.Seal = codes "seal"
ignored_text ignore.Repeat = codes "repeat"

unfoldable pub seen_what_text : SeenWhat → List ℕ
seen_what_text (seen.Taken admitted dropped) = codes "seen" ++ part_text (codes " admitted") admitted ++ part_text (codes " dropped") dropped
seen_what_text (seen.Pending tx origin) = concat (codes "seen pending " ∷ digest_text tx ∷ [])
seen_what_text (seen.Deferred tx id) = concat (codes "seen deferred " ∷ digest_text tx ∷ [])
seen_what_text (seen.Commit admitted dropped) = codes "seen commit" ++ part_text (codes " admitted") admitted ++ part_text (codes " dropped") dropped
seen_what_text (seen.Counted member weight) = concat (codes "seen end " ∷ decimal member ∷ [])
seen_what_text (seen.Ended member weight) = codes "seen ended"
seen_what_text (seen.Ignored why) = codes "seen ignored " ++ ignored_text why

unfoldable pub seen_text : Seen → List ℕ
seen_text s = seen_what_text s.what ++ built_text s.built

unfoldable pub see_refusal_text : SeeRefusal → List ℕ
see_refusal_text no_see.Down = fault_text
see_refusal_text (no_see.Halted first second) = halted_text first second
see_refusal_text no_see.Full = codes "refused full"
see_refusal_text no_see.Over = codes "refused over"
see_refusal_text (no_see.Gap had want) = concat (codes "refused gap " ∷ decimal want ∷ [])
see_refusal_text no_see.KeepFault = fault_text
see_refusal_text (no_see.Fork key first second) = fork_text key first second
see_refusal_text no_see.OutOfMemory = fault_text

-- ---- runs

-- a transaction that was executed, and the digest of its effects
abbrev pub executed_text : Effects → List ℕ
executed_text e = concat (codes " " ∷ digest_text e.tx ∷ codes " " ∷ digest_text (effects_as.digest_of_effects e) ∷ [])

-- a transaction that was left: unfit, or with a version that is absent
abbrev pub left_as : Digest → Option ObjectKey → List ℕ
left_as tx None = concat (codes " left " ∷ digest_text tx ∷ codes " unfit" ∷ [])
left_as tx (Some key) = concat (codes " left " ∷ digest_text tx ∷ codes " absent " ∷ key_text key ∷ [])

abbrev pub left_text : Left → List ℕ
left_text l = left_as l.tx l.key

unfoldable pub ran_text : Ran → List ℕ
ran_text r = codes "ran" ++ flat_map executed_text r.executed ++ flat_map left_text r.left ++ built_text r.built

unfoldable pub run_refusal_text : RunRefusal → List ℕ
run_refusal_text no_run.Down = fault_text
run_refusal_text (no_run.Halted first second) = halted_text first second
run_refusal_text no_run.Full = codes "refused full"
run_refusal_text no_run.KeepFault = fault_text
run_refusal_text no_run.OutOfMemory = fault_text

-- ---- the end of an epoch

unfoldable pub closed_text : Bool → List ℕ
closed_text true = codes "closed"
closed_text false = codes "again"

unfoldable pub close_refusal_text : CloseRefusal → List ℕ
close_refusal_text no_close.Down = fault_text
close_refusal_text (no_close.Halted first second) = halted_text first second
close_refusal_text no_close.Full = codes "refused full"
close_refusal_text no_close.KeepFault = fault_text
close_refusal_text no_close.OutOfMemory = fault_text

unfoldable pub end_text : Sealed → List ℕ
end_text s = codes "end " ++ hex_text (messages.sealed.spell s)

unfoldable pub end_refusal_text : EndRefusal → List ℕ
end_refusal_text no_end.Down = fault_text
end_refusal_text (no_end.Halted first second) = halted_text first second
end_refusal_text no_end.NotClosed = codes "refused not closed"
end_refusal_text (no_end.Waits tx) = concat (codes "refused waits " ∷ digest_text tx ∷ [])
end_refusal_text no_end.OutOfMemory = fault_text

-- `turned`, the epoch that begins, and the transactions that were undone
unfoldable pub turned_text : ℕ → List Digest → List ℕ
turned_text epoch undone = concat (codes "turned " ∷ decimal epoch ∷ codes " undone" ∷ []) ++ digests_text undone

unfoldable pub turn_refusal_text : TurnRefusal → List ℕ
turn_refusal_text no_turn.Down = fault_text
turn_refusal_text (no_turn.Halted first second) = halted_text first second
turn_refusal_text no_turn.Full = codes "refused full"
turn_refusal_text no_turn.NotEnded = codes "refused not ended"
turn_refusal_text (no_turn.Waits tx) = concat (codes "refused waits " ∷ digest_text tx ∷ [])
turn_refusal_text no_turn.KeepFault = fault_text
turn_refusal_text no_turn.OutOfMemory = fault_text

-- ---- what a member states, and what it holds

unfoldable pub ack_text : Sealed → List ℕ
ack_text s = codes "ack " ++ hex_text (messages.sealed.spell s)

unfoldable pub ack_refusal_text : AckRefusal → List ℕ
ack_refusal_text no_ack.Down = fault_text
ack_refusal_text (no_ack.Halted first second) = halted_text first second
ack_refusal_text no_ack.NotExecuted = codes "refused not executed"
ack_refusal_text no_ack.OutOfMemory = fault_text

-- a checkpoint, and the member's statement of it
unfoldable pub checkpoint_text : Checkpoint → Sealed → List ℕ
checkpoint_text c s = concat (codes "checkpoint " ∷ hex_text (checkpoints.checkpoint.spell c) ∷ codes " " ∷ hex_text (messages.sealed.spell s) ∷ [])

unfoldable pub object_text : Object → List ℕ
object_text o = codes "object " ++ hex_text (objects.object.spell o)

unfoldable pub effects_text : Effects → List ℕ
effects_text e = codes "effects " ++ hex_text (effects_as.effects.spell e)

abbrev pub none_text : List ℕ
none_text = codes "none"

-- ---- the state in numbers

abbrev pub halted_word : Bool → List ℕ
halted_word true = codes " halted"
halted_word false = codes " ok"

unfoldable pub state_text : Counts → List ℕ
state_text s = concat (codes "state epoch " ∷ decimal s.epoch ∷ codes " seen " ∷ decimal s.seen ∷ codes " held " ∷ decimal s.held ∷ []) ++ concat (codes " executed " ∷ decimal s.executed ∷ codes " checkpoints " ∷ decimal s.checkpoints ∷ codes " objects " ∷ decimal s.objects ∷ []) ++ halted_word s.halted

-- ---- the first line of a process

abbrev pub ready_text : ℕ → ℕ → ℕ → ℕ → ℕ → List ℕ
ready_text member epoch seen checkpoints records = concat (codes "ready " ∷ decimal member ∷ codes " epoch " ∷ decimal epoch ∷ codes " seen " ∷ decimal seen ∷ []) ++ concat (codes " checkpoints " ∷ decimal checkpoints ∷ codes " records " ∷ decimal records ∷ [])

unfoldable pub start_text : StartLine → List ℕ
start_text (start.Ready member epoch seen checkpoints records) = ready_text member epoch seen checkpoints records
start_text (start.Made member genesis) = concat (codes "made " ∷ decimal member ∷ codes " genesis " ∷ digest_text genesis ∷ [])
start_text (start.NoSchedule line cause) = concat (codes "refused line " ∷ decimal line ∷ codes " cause " ∷ decimal cause ∷ [])
start_text start.HasEvents = codes "genesis: has events"
start_text (start.NoMember member) = concat (codes "genesis: no honest member " ∷ decimal member ∷ [])
start_text start.NotMade = codes "journal: not made"
start_text start.OtherMember = codes "journal: of another member"
start_text start.OtherGenesis = codes "journal: of another genesis"
start_text start.NotEmpty = codes "journal: not empty"
start_text (start.BadRecord place) = concat (codes "journal: bad record " ∷ decimal place ∷ [])

-- ---- what is not a request

abbrev pub bad_request_text : List ℕ
bad_request_text = codes "bad request"
