-- Runs, closes, turns, Ends and acknowledgements look at no seal and no stake; the last two leave the member as it was.
use Rattle.std.proofs.Common.{◌≡◌, Bool, true, false, cond, List, [], ◌∷◌, None, refl}
use Rattle.std.specs.Prelude.{Result, Ok, Err}
use Rattle.digest_core.specs.declared.Digest.{Digest}
use Rattle.journal_core.specs.declared.records.RanItem.{RanItem}
use Rattle.journal_core.specs.declared.records.Record.TheVariants as record_as
use Rattle.protocol_spec.specs.declared.answers.Ran.{Ran}
use Rattle.protocol_spec.specs.declared.refusals.CloseRefusal.{CloseRefusal}
use Rattle.protocol_spec.specs.declared.refusals.RunRefusal.{RunRefusal}
use Rattle.protocol_spec.specs.declared.refusals.TurnRefusal.{TurnRefusal}
use Rattle.protocol_spec.specs.Chain.Certificates.{Rules}
use Rattle.protocol_spec.specs.Chain.Words.{where_true}
use Rattle.protocol_spec.specs.Member.Member.{Member, after}
use Rattle.protocol_spec.specs.Member.Calls.{ack_answer, acks, after_due, called, close_answer, close_record, closes, due, end_answer, ends, ran_items, ran_record, run_answer, run_record, runs, turn_answer, turn_record, turns}
use Rattle.world_spec.specs.Seats.{Seated, behind, due_at}

either_way : {A : Type 0} (b : Bool) (x : A) → cond b x x ≡ x
either_way true x = refl
either_way false x = refl

pub run_answer_alike : (r r' : Rules) (m : Member) → run_answer r m ≡ run_answer r' m
unfolding run_answer
run_answer_alike r r' m = refl

pub run_due_alike : (r r' : Rules) (m : Member) → due r m runs ≡ due r' m runs
unfolding due run_answer
run_due_alike r r' m = refl

after_ran : (r r' : Rules) (m : Member) (items : List RanItem) → after_due r m (ran_record items) ≡ after_due r' m (ran_record items)
unfolding after
after_ran r r' m [] = refl
after_ran r r' m (i ∷ is) = refl

after_run : (r r' : Rules) (m : Member) (answer : Result Ran RunRefusal) → after_due r m (run_record m answer) ≡ after_due r' m (run_record m answer)
after_run r r' m (Ok ran) = after_ran r r' m (ran_items m)
after_run r r' m (Err refusal) = refl

pub run_called_alike : (r r' : Rules) (m : Member) → called r m runs ≡ called r' m runs
unfolding due run_answer
run_called_alike r r' m = after_run r r' m (run_answer r m)

pub close_answer_alike : (r r' : Rules) (m : Member) → close_answer r m ≡ close_answer r' m
unfolding close_answer
close_answer_alike r r' m = refl

pub close_due_alike : (r r' : Rules) (m : Member) → due r m closes ≡ due r' m closes
unfolding due close_answer
close_due_alike r r' m = refl

after_closing : (r r' : Rules) (m : Member) (new : Bool) → after_due r m (where_true new record_as.Close) ≡ after_due r' m (where_true new record_as.Close)
unfolding after
after_closing r r' m true = refl
after_closing r r' m false = refl

after_close : (r r' : Rules) (m : Member) (answer : Result Bool CloseRefusal) → after_due r m (close_record answer) ≡ after_due r' m (close_record answer)
after_close r r' m (Ok new) = after_closing r r' m new
after_close r r' m (Err refusal) = refl

pub close_called_alike : (r r' : Rules) (m : Member) → called r m closes ≡ called r' m closes
unfolding due close_answer
close_called_alike r r' m = after_close r r' m (close_answer r m)

pub turn_answer_alike : (r r' : Rules) (m : Member) → turn_answer r m ≡ turn_answer r' m
unfolding turn_answer
turn_answer_alike r r' m = refl

pub turn_due_alike : (r r' : Rules) (m : Member) → due r m turns ≡ due r' m turns
unfolding due turn_answer
turn_due_alike r r' m = refl

after_turn : (r r' : Rules) (m : Member) (answer : Result (List Digest) TurnRefusal) → after_due r m (turn_record answer) ≡ after_due r' m (turn_record answer)
unfolding after
after_turn r r' m (Ok txs) = refl
after_turn r r' m (Err refusal) = refl

pub turn_called_alike : (r r' : Rules) (m : Member) → called r m turns ≡ called r' m turns
unfolding due turn_answer
turn_called_alike r r' m = after_turn r r' m (turn_answer r m)

pub end_answer_alike : (r r' : Rules) (m : Member) → end_answer r m ≡ end_answer r' m
unfolding end_answer
end_answer_alike r r' m = refl

pub no_end_due : (r : Rules) (seat : Seated) → due_at r seat ends ≡ None
unfolding due
no_end_due r seat = either_way seat.up None

pub end_stays : (r : Rules) (seat : Seated) → behind r seat ends ≡ seat
unfolding due
end_stays r seat = either_way seat.up seat

pub ack_answer_alike : (r r' : Rules) (m : Member) (tx : Digest) → ack_answer r m tx ≡ ack_answer r' m tx
unfolding ack_answer
ack_answer_alike r r' m tx = refl

pub no_ack_due : (r : Rules) (seat : Seated) (tx : Digest) → due_at r seat (acks tx) ≡ None
unfolding due
no_ack_due r seat tx = either_way seat.up None

pub ack_stays : (r : Rules) (seat : Seated) (tx : Digest) → behind r seat (acks tx) ≡ seat
unfolding due
ack_stays r seat tx = either_way seat.up seat
