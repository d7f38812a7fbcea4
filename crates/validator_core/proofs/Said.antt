-- What a member states beside its votes.
use Rattle.std.proofs.Common.{◌≡◌, ℕ, Bool, true, false, cond, not, List, [], ◌∷◌, Option, Some, None, refl, ap, sym, ◌∙◌, subst}
use Rattle.std.specs.Prelude.{Result, Ok, Err, is_ok, option_map}
use Rattle.wire_bcs.specs.Digests.{digest}
use Rattle.digest_core.specs.declared.Digest.{Digest}
use Rattle.chain_messages.specs.declared.messages.Sealed.{Sealed}
use Rattle.chain_messages.specs.declared.messages.Statement.{Statement}
use Rattle.chain_messages.specs.declared.messages.Statement.TheVariants as statement
use Rattle.chain_messages.specs.Messages.{statement as statement_codec}
use Rattle.protocol_spec.specs.declared.refusals.AckRefusal.{AckRefusal}
use Rattle.protocol_spec.specs.declared.refusals.AckRefusal.TheVariants as no_ack
use Rattle.protocol_spec.specs.declared.refusals.EndRefusal.{EndRefusal}
use Rattle.protocol_spec.specs.declared.refusals.EndRefusal.TheVariants as no_end
use Rattle.protocol_spec.specs.declared.answers.Held.{Held}
use Rattle.protocol_spec.specs.Chain.Words.{first_of, first_some, unless_refused, where_true}
use Rattle.protocol_spec.specs.Member.Versions.{Execution, execution_of}
use Rattle.protocol_spec.specs.Member.Member.{Member}
use Rattle.protocol_spec.specs.Member.Calls.{ack_answer, acknowledged, end_answer, end_cases, unseen}
use Rattle.world_spec.proofs.RulesAside.{ack_answer_alike, end_answer_alike}
use Rattle.world_spec.specs.Seats.{Seated, rules_of_seat}
use Rattle.validator_core.specs.Answers.{bare}
use Rattle.validator_core.specs.Calls.{Acks, Ends, ack_said, end_said}
use Rattle.epoch_turn.specs.Dues.{is_ordered, unordered}
use Rattle.validator_core.proofs.Refusing.{free, none_stops, stop, stopped_by}
use Rattle.validator_core.proofs.Settling.{Signing}
use Rattle.world_spec.specs.Step.{effects_digest_at, executed_digest}

-- ---- an acknowledgement

pub acknowledges : (m : Member) (tx d : Digest) → Some d ≡ executed_digest tx m → acknowledged m tx (execution_of m.executed tx) ≡ Ok (statement.Ack m.epoch tx d)
acknowledges m tx d is = by (execution_of m.executed tx) is
  where
    by : (o : Option Execution) → Some d ≡ option_map effects_digest_at o → acknowledged m tx o ≡ Ok (statement.Ack m.epoch tx d)
    by None h = absurd (cc)
    by (Some x) h = let same : d ≡ effects_digest_at x = cc in ap (λ (e : Digest). Ok (statement.Ack m.epoch tx e)) (sym same)

pub lacks : (m : Member) (tx : Digest) → None ≡ executed_digest tx m → acknowledged m tx (execution_of m.executed tx) ≡ Err no_ack.NotExecuted
lacks m tx is = by (execution_of m.executed tx) is
  where
    by : (o : Option Execution) → None ≡ option_map effects_digest_at o → acknowledged m tx o ≡ Err no_ack.NotExecuted
    by None h = refl
    by (Some x) h = absurd (cc)

pub ack_short : (epoch : ℕ) (tx effects : Digest) → statement_codec.short (statement.Ack epoch tx effects)
unfolding statement_codec digest
ack_short epoch tx effects = (tt, (tt, tt))

pub ack_goes : (said : Result Statement AckRefusal) (statement : Statement) → Ok statement ≡ said → is_ok said ≡ true
ack_goes said statement is = ap (λ (a : Result Statement AckRefusal). is_ok a) (sym is)

ack_as : (accepts : Signing) (member : ℕ) (said : Result Statement AckRefusal) (refusal : AckRefusal) → (refusal ≡ no_ack.OutOfMemory → ⊥) → said ≡ Err refusal → Acks accepts member said (Err refusal)
ack_as accepts member said no_ack.Down able h = h
ack_as accepts member said (no_ack.Halted first second) able h = h
ack_as accepts member said no_ack.NotExecuted able h = h
ack_as accepts member said no_ack.OutOfMemory able h = absurd (able refl)

pub ack_refused : (accepts : Signing) (member : ℕ) (said : Result Statement AckRefusal) (refusal : AckRefusal) → (refusal ≡ no_ack.OutOfMemory → ⊥) → Err refusal ≡ said → Acks accepts member said (Err refusal)
ack_refused accepts member said refusal able is = ack_as accepts member said refusal able (sym is)

-- ---- an End

pub end_short : (epoch : ℕ) → statement_codec.short (statement.End epoch)
unfolding statement_codec
end_short epoch = tt

unseen_is : (m : Member) (hs : List Held) → option_map (λ (tx : Digest). no_end.Waits tx) (first_of (unordered m.sequence.admission) hs) ≡ first_of (unseen m) hs
unseen_is m [] = refl
unseen_is m (h ∷ hs) = by (is_ordered m.sequence.admission h) (unseen_is m hs)
  where
    one : (o : Option Digest) (p : Option EndRefusal) → option_map (λ (tx : Digest). no_end.Waits tx) o ≡ p → option_map (λ (tx : Digest). no_end.Waits tx) (first_some (o ∷ [])) ≡ first_some (p ∷ [])
    one None None e = refl
    one None (Some p) e = absurd (cc)
    one (Some tx) None e = absurd (cc)
    one (Some tx) (Some p) e = e

    by : (b : Bool) → option_map (λ (tx : Digest). no_end.Waits tx) (first_of (unordered m.sequence.admission) hs) ≡ first_of (unseen m) hs
        → option_map (λ (tx : Digest). no_end.Waits tx) (first_some (where_true (not b) h.digest ∷ first_of (unordered m.sequence.admission) hs ∷ []))
        ≡ first_some (where_true (not b) (no_end.Waits h.digest) ∷ first_of (unseen m) hs ∷ [])
    by true rest = one (first_of (unordered m.sequence.admission) hs) (first_of (unseen m) hs) rest
    by false rest = refl

pub one_waits : (m : Member) (tx : Digest) → Some tx ≡ first_of (unordered m.sequence.admission) m.held → first_of (unseen m) m.held ≡ Some (no_end.Waits tx)
one_waits m tx is = sym (unseen_is m m.held) ∙ ap (λ (o : Option Digest). option_map (λ (x : Digest). no_end.Waits x) o) (sym is)

pub none_waits : (m : Member) → None ≡ first_of (unordered m.sequence.admission) m.held → first_of (unseen m) m.held ≡ None
none_waits m is = sym (unseen_is m m.held) ∙ ap (λ (o : Option Digest). option_map (λ (x : Digest). no_end.Waits x) o) (sym is)

pub end_goes : (m : Member) → free ≡ unless_refused (first_some (end_cases m)) tt → end_answer bare m ≡ Ok (statement.End m.epoch)
unfolding end_answer
end_goes m goes = ap (λ (o : Option EndRefusal). unless_refused o (statement.End m.epoch)) (none_stops (first_some (end_cases m)) goes)

pub end_wants : (m : Member) → free ≡ unless_refused (first_some (end_cases m)) tt → is_ok (end_answer bare m) ≡ true
end_wants m goes = ap (λ (a : Result Statement EndRefusal). is_ok a) (end_goes m goes)

end_stops : (m : Member) (refusal : EndRefusal) → stop refusal ≡ unless_refused (first_some (end_cases m)) tt → end_answer bare m ≡ Err refusal
unfolding end_answer
end_stops m refusal stopped = ap (λ (o : Option EndRefusal). unless_refused o (statement.End m.epoch)) (stopped_by (first_some (end_cases m)) refusal stopped)

end_as : (accepts : Signing) (member : ℕ) (said : Result Statement EndRefusal) (refusal : EndRefusal) → (stop refusal ≡ stop no_end.OutOfMemory → ⊥) → said ≡ Err refusal → Ends accepts member said (Err refusal)
end_as accepts member said no_end.Down able h = h
end_as accepts member said (no_end.Halted first second) able h = h
end_as accepts member said no_end.NotClosed able h = h
end_as accepts member said (no_end.Waits tx) able h = h
end_as accepts member said no_end.OutOfMemory able h = absurd (able refl)

pub end_refused : (accepts : Signing) (member : ℕ) (m : Member) (refusal : EndRefusal) → (stop refusal ≡ stop no_end.OutOfMemory → ⊥) → stop refusal ≡ unless_refused (first_some (end_cases m)) tt → Ends accepts member (end_answer bare m) (Err refusal)
end_refused accepts member m refusal able stopped = end_as accepts member (end_answer bare m) refusal able (end_stops m refusal stopped)

-- ---- at the seat

pub ack_at : (accepts : Signing) (seat : Seated) (tx : Digest) (answer : Result Sealed AckRefusal) → seat.up ≡ true → Acks accepts seat.member (ack_answer bare seat.state tx) answer
    → Acks accepts seat.member (ack_said (rules_of_seat seat accepts) seat tx) answer
ack_at accepts seat tx answer up h =
    subst (λ said. Acks accepts seat.member said answer)
    (ack_answer_alike bare (rules_of_seat seat accepts) seat.state tx ∙ ap (λ (b : Bool). cond b (ack_answer (rules_of_seat seat accepts) seat.state tx) (Err no_ack.Down)) (sym up)) h

pub end_at : (accepts : Signing) (seat : Seated) (answer : Result Sealed EndRefusal) → seat.up ≡ true → Ends accepts seat.member (end_answer bare seat.state) answer
    → Ends accepts seat.member (end_said (rules_of_seat seat accepts) seat) answer
end_at accepts seat answer up h =
    subst (λ said. Ends accepts seat.member said answer)
    (end_answer_alike bare (rules_of_seat seat accepts) seat.state ∙ ap (λ (b : Bool). cond b (end_answer (rules_of_seat seat accepts) seat.state) (Err no_end.Down)) (sym up)) h
