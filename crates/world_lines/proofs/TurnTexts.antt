-- The lines of a turn look only at the epoch of the member that turned, and at nothing of one that did not turn.
use Rattle.std.proofs.Common.{◌≡◌, ◌∙◌, refl, ℕ, List, [], ◌∷◌, Result, Ok, Err}
use Rattle.digest_core.specs.declared.Digest.{Digest}
use Rattle.protocol_spec.specs.declared.refusals.TurnRefusal.{TurnRefusal}
use Rattle.protocol_spec.specs.declared.refusals.TurnRefusal.TheVariants as no_turn
use Rattle.report_text.specs.declared.lines.Line.{Line}
use Rattle.protocol_spec.specs.Member.Member.{Member}
use Rattle.world_spec.specs.Setting.{Setting}
use Rattle.world_spec.specs.World.{World}
use Rattle.world_spec.specs.Report.{turn_answered}
use Rattle.world_spec.specs.Known.{names_of, world_with}
use Rattle.world_spec.proofs.LineWorlds.{turn_same}
use Rattle.world_lines.specs.Answers.{member_in}

refused_alike : (w : World) (m : ℕ) (a b : Member) (refusal : TurnRefusal) → turn_answered w m a (Err refusal) ≡ turn_answered w m b (Err refusal)
refused_alike w m a b no_turn.Down = refl
refused_alike w m a b (no_turn.Halted first second) = refl
refused_alike w m a b no_turn.Full = refl
refused_alike w m a b no_turn.NotEnded = refl
refused_alike w m a b (no_turn.Waits tx) = refl
refused_alike w m a b no_turn.KeepFault = refl
refused_alike w m a b no_turn.OutOfMemory = refl

turned_alike : (w : World) (m : ℕ) (before : Member) (answer : Result (List Digest) TurnRefusal) → turn_answered w m before answer ≡ turn_answered w m (member_in before.epoch) answer
turned_alike w m before (Ok txs) = refl
turned_alike w m before (Err refusal) = refused_alike w m before (member_in before.epoch) refusal

pub refused_in : (w : World) (m epoch : ℕ) (refusal : TurnRefusal) (l : Line) {ls : List Line} → (l ∷ []) ≡ turn_answered w m (member_in 0) (Err refusal) → ls ≡ l ∷ []
    → ls ≡ turn_answered w m (member_in epoch) (Err refusal)
refused_in w m epoch refusal l is lists = lists ∙ is ∙ refused_alike w m (member_in 0) (member_in epoch) refusal

-- what is said of a turn in a world is what is said by what is known in it
pub turn_in : (s : Setting) (w : World) (m : ℕ) (before : Member) (answer : Result (List Digest) TurnRefusal)
    → turn_answered w m before answer ≡ turn_answered (world_with (names_of s w)) m (member_in before.epoch) answer
turn_in s w m before answer = turn_same s w m before answer ∙ turned_alike (world_with (names_of s w)) m before answer
