-- What was built stays a prefix of what can be, as more is admitted, cut and executed.
use Rattle.std.proofs.Common.{◌≡◌, ◌∙◌, refl, sym, ap, subst, arith, ℕ, suc, ◌≤◌, Bool, true, false, cond, List, [], ◌∷◌, ◌++◌, length, take, drop, length-drop, append-nil}
use Rattle.std.specs.Prelude.{Option, is_some, map}
use Rattle.std.specs.List.{list_all}
use Rattle.std.proofs.lemmas.Bool.{and_from, and_parts, cond-true}
use Rattle.std.proofs.lemmas.List.{drop-append-le, take-append-le}
use Rattle.digest_core.specs.declared.Digest.{Digest}
use Rattle.checkpoint_core.specs.declared.checkpoints.Item.{Item}
use Rattle.checkpoint_core.specs.declared.checkpoints.Checkpoint.{Checkpoint}
use Rattle.protocol_spec.proofs.ListLemmas.{front_then}
use Rattle.protocol_spec.specs.Chain.Words.{IsFront, last_of}
use Rattle.protocol_spec.specs.Member.Versions.{Execution, execution_of, is_executed}
use Rattle.protocol_spec.specs.Member.Checkpoints.{digest_before, effects_digest_of}
use Rattle.chain_types.specs.Equal.{digest_eq}
use Rattle.epoch_turn.specs.declared.due.Due.{Due}
use Rattle.epoch_turn.specs.declared.due.CutMark.{CutMark}
use Rattle.epoch_turn.specs.Dues.{due_item, front_length, is_due_done, size_of}
use Rattle.epoch_turn.specs.Chains.{Chaining, IsBehind, advanced, due_chain, due_checkpoint, with_cut, with_due}
use Rattle.epoch_turn.proofs.Fronts.{found_stays}
use Rattle.epoch_turn.proofs.Growing.{chain_front}

-- ---- more is executed

execution_stays : (executed more : List Execution) (tx : Digest) → is_executed executed tx ≡ true → execution_of (executed ++ more) tx ≡ execution_of executed tx
execution_stays executed more tx done = found_stays (λ (x : Execution). digest_eq x.digest tx) executed more done

done_stays : (executed more : List Execution) (d : Due) → is_due_done executed d ≡ true → is_due_done (executed ++ more) d ≡ true
done_stays executed more d done =
    let parts = and_parts (is_executed executed d.tx) d.same done in
    and_from (is_executed (executed ++ more) d.tx) d.same (ap is_some (execution_stays executed more d.tx parts.0) ∙ parts.0) parts.1

item_stays : (executed more : List Execution) (d : Due) → is_due_done executed d ≡ true → due_item (executed ++ more) d ≡ due_item executed d
item_stays executed more d done =
    let made : Option Execution → Item = λ x. record { tx = d.tx; effects = effects_digest_of x } in
    ap made (execution_stays executed more d.tx (and_parts (is_executed executed d.tx) d.same done).0)

all_stay : (executed more : List Execution) (ds : List Due) → list_all (is_due_done executed) ds ≡ true → list_all (is_due_done (executed ++ more)) ds ≡ true
all_stay executed more [] done = refl
all_stay executed more (d ∷ ds) done =
    let parts = and_parts (is_due_done executed d) (list_all (is_due_done executed) ds) done in
    and_from (is_due_done (executed ++ more) d) (list_all (is_due_done (executed ++ more)) ds) (done_stays executed more d parts.0) (all_stay executed more ds parts.1)

items_stay : (executed more : List Execution) (ds : List Due) → list_all (is_due_done executed) ds ≡ true → map (due_item (executed ++ more)) ds ≡ map (due_item executed) ds
items_stay executed more [] done = refl
items_stay executed more (d ∷ ds) done =
    let parts = and_parts (is_due_done executed d) (list_all (is_due_done executed) ds) done in
    ap (λ (i : Item). i ∷ map (due_item (executed ++ more)) ds) (item_stays executed more d parts.0) ∙ ap (λ (is : List Item). due_item executed d ∷ is) (items_stay executed more ds parts.1)

pub chain_executed : (epoch : ℕ) (executed more : List Execution) (before : List Checkpoint) (due : List Due) (marks : List CutMark) → IsFront (due_chain epoch executed before due marks) (due_chain epoch (executed ++ more) before due marks)
chain_executed epoch executed more before due [] = ([], sym (append-nil before))
chain_executed epoch executed more before due (m ∷ ms) = by (list_all (is_due_done executed) txs) refl (chain_executed epoch executed more (before ++ due_checkpoint epoch executed before txs m.last ∷ []) (drop m.size due) ms)
  where
    txs : List Due
    txs = take m.size due

    next : List Checkpoint
    next = before ++ due_checkpoint epoch executed before (take m.size due) m.last ∷ []

    whole : List Checkpoint
    whole = due_chain epoch (executed ++ more) before due (m ∷ ms)

    by : (b : Bool) → list_all (is_due_done executed) (take m.size due) ≡ b → IsFront (due_chain epoch executed next (drop m.size due) ms) (due_chain epoch (executed ++ more) next (drop m.size due) ms)
        → IsFront (cond b (due_chain epoch executed next (drop m.size due) ms) before) whole
    by false e rest = chain_front epoch (executed ++ more) before due (m ∷ ms)
    by true e (rest, is) =
        let made : List Item → List Checkpoint = λ items. before ++ record { epoch = epoch; number = length before; parent = digest_before (last_of before); items = items; last = m.last } ∷ [] in (
          rest,
          cond-true (list_all (is_due_done (executed ++ more)) txs) (due_chain epoch (executed ++ more) (made (map (due_item (executed ++ more)) txs)) (drop m.size due) ms) before (all_stay executed more txs e)
              ∙ ap (λ (items : List Item). due_chain epoch (executed ++ more) (made items) (drop m.size due) ms) (items_stay executed more txs e)
              ∙ is,
        )

pub front_executed : (executed more : List Execution) (due : List Due) → front_length (is_due_done executed) due ≤ front_length (is_due_done (executed ++ more)) due
front_executed executed more [] = omega arith
front_executed executed more (d ∷ ds) = by (is_due_done executed d) refl (front_executed executed more ds)
  where
    by : (b : Bool) → is_due_done executed d ≡ b → front_length (is_due_done executed) ds ≤ front_length (is_due_done (executed ++ more)) ds
        → cond b (suc (front_length (is_due_done executed) ds)) 0 ≤ front_length (is_due_done (executed ++ more)) (d ∷ ds)
    by false e rest = omega arith
    by true e rest =
        let now = cond-true (is_due_done (executed ++ more) d) (suc (front_length (is_due_done (executed ++ more)) ds)) 0 (done_stays executed more d e) in
        omega (arith, now, rest)

pub behind_executed : (epoch : ℕ) (executed more : List Execution) (c : Chaining) → IsBehind epoch executed c → IsBehind epoch (executed ++ more) c
behind_executed epoch executed more c behind = record {
  front = front_then c.built (due_chain epoch executed c.past c.due c.marks) (due_chain epoch (executed ++ more) c.past c.due c.marks) behind.front (chain_executed epoch executed more c.past c.due c.marks);
  found = let f = behind.found in let m = front_executed executed more c.due in omega (arith, f, m);
}

-- ---- more is admitted

pub chain_due : (epoch : ℕ) (executed : List Execution) (before : List Checkpoint) (due more : List Due) (marks : List CutMark) → size_of marks ≤ length due → due_chain epoch executed before (due ++ more) marks ≡ due_chain epoch executed before due marks
chain_due epoch executed before due more [] few = refl
chain_due epoch executed before due more (m ∷ ms) few =
    let within : m.size ≤ length due = omega (arith, few) in
    let left : size_of ms ≤ length (drop m.size due) = let l = length-drop m.size due in omega (arith, l, few) in
    let step : List Due → List Due → List Checkpoint = λ txs rest. cond (list_all (is_due_done executed) txs) (due_chain epoch executed (before ++ due_checkpoint epoch executed before txs m.last ∷ []) rest ms) before in
    let next : List Checkpoint = before ++ due_checkpoint epoch executed before (take m.size due) m.last ∷ [] in
    ap (λ txs. step txs (drop m.size (due ++ more))) (take-append-le m.size due more within)
    ∙ ap (step (take m.size due)) (drop-append-le m.size due more within)
    ∙ ap (λ (xs : List Checkpoint). cond (list_all (is_due_done executed) (take m.size due)) xs before) (chain_due epoch executed next (drop m.size due) more ms left)

front_due : (test : Due → Bool) (due more : List Due) → front_length test due ≤ front_length test (due ++ more)
front_due test [] more = omega arith
front_due test (d ∷ ds) more = by (test d) (front_due test ds more)
  where
    by : (b : Bool) → front_length test ds ≤ front_length test (ds ++ more) → cond b (suc (front_length test ds)) 0 ≤ cond b (suc (front_length test (ds ++ more))) 0
    by true rest = omega (arith, rest)
    by false rest = omega arith

pub behind_due : (epoch : ℕ) (executed : List Execution) (c : Chaining) (d : Due) → size_of c.marks ≤ length c.due → IsBehind epoch executed c → IsBehind epoch executed (with_due c d)
behind_due epoch executed c d few behind = record {
  front = subst (IsFront c.built) (sym (chain_due epoch executed c.past c.due (d ∷ []) c.marks few)) behind.front;
  found = let f = behind.found in let m = front_due (is_due_done executed) c.due (d ∷ []) in omega (arith, f, m);
}

-- ---- more is cut

pub chain_marks : (epoch : ℕ) (executed : List Execution) (before : List Checkpoint) (due : List Due) (marks more : List CutMark) → IsFront (due_chain epoch executed before due marks) (due_chain epoch executed before due (marks ++ more))
chain_marks epoch executed before due [] more = chain_front epoch executed before due more
chain_marks epoch executed before due (m ∷ ms) more = by (list_all (is_due_done executed) (take m.size due)) (chain_marks epoch executed next (drop m.size due) ms more)
  where
    next : List Checkpoint
    next = before ++ due_checkpoint epoch executed before (take m.size due) m.last ∷ []

    by : (b : Bool) → IsFront (due_chain epoch executed next (drop m.size due) ms) (due_chain epoch executed next (drop m.size due) (ms ++ more))
        → IsFront (cond b (due_chain epoch executed next (drop m.size due) ms) before) (cond b (due_chain epoch executed next (drop m.size due) (ms ++ more)) before)
    by true rest = rest
    by false rest = ([], sym (append-nil before))

pub behind_cut : (epoch : ℕ) (executed : List Execution) (c : Chaining) (last : Bool) → IsBehind epoch executed c → IsBehind epoch executed (with_cut last c)
behind_cut epoch executed c last behind = record {
  front = front_then c.built (due_chain epoch executed c.past c.due c.marks) (due_chain epoch executed c.past c.due (with_cut last c).marks) behind.front (chain_marks epoch executed c.past c.due c.marks _);
  found = behind.found;
}

-- ---- all is built

pub behind_advanced : (epoch : ℕ) (executed : List Execution) (c : Chaining) → IsBehind epoch executed (advanced epoch executed c)
behind_advanced epoch executed c = record { front = ([], sym (append-nil (due_chain epoch executed c.past c.due c.marks))); found = omega arith }
