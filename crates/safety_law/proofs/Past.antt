-- A member that turns has built the checkpoints of one thread.
use Rattle.std.proofs.Common.{refl, sym, ap, ◌∙◌}
use Rattle.std.proofs.lemmas.Bool.{cond-true}
use Rattle.std.specs.Prelude.{◌≡◌, ℕ, suc, true, List, [], ◌∷◌, ◌++◌, map, flat_map, zip, take, drop, length}
use Rattle.std.specs.List.{list_all}
use Rattle.chain_types.specs.declared.objects.Object.{Object}
use Rattle.chain_types.specs.declared.transactions.Transaction.{Transaction}
use Rattle.checkpoint_core.specs.declared.checkpoints.Item.{Item}
use Rattle.checkpoint_core.specs.declared.checkpoints.Checkpoint.{Checkpoint}
use Rattle.chain_messages.specs.declared.messages.Entry.{Entry}
use Rattle.protocol_spec.specs.declared.answers.Held.{Held}
use Rattle.protocol_spec.specs.Chain.Words.{Each, last_of}
use Rattle.protocol_spec.specs.Member.Versions.{Execution}
use Rattle.protocol_spec.specs.Member.Admission.{Admitted}
use Rattle.protocol_spec.specs.Member.Sequence.{Cut, Sequence}
use Rattle.protocol_spec.specs.Member.Sequential.{map_of, fold_all}
use Rattle.protocol_spec.specs.Member.Checkpoints.{is_done, item_of, digest_before, checkpoint_behind, chained}
use Rattle.protocol_spec.specs.Member.Member.{Member, built}
use Rattle.world_spec.specs.Setting.{Setting}
use Rattle.world_spec.specs.Openings.{txs_in, sequence_of, opening_at}
use Rattle.block_law.proofs.Steps.{map-append}
use Rattle.safety_law.specs.Thread.{item_with, transaction_of, GivesOneThread}
use Rattle.safety_law.specs.Checkpointed.{admitted_in, IsBuilt}
use Rattle.safety_law.specs.Past.{checkpoints_with, checkpoints_of_thread, past_at}

pub txs-cut : (cuts : List Cut) → flat_map txs_in cuts ≡ map transaction_of (flat_map admitted_in cuts)
txs-cut [] = refl
txs-cut (c ∷ cuts) = ap (λ (ts : List Transaction). txs_in c ++ ts) (txs-cut cuts) ∙ sym (map-append transaction_of c.txs (flat_map admitted_in cuts))

take-mapped : {A B : Type 0} (f : A → B) (xs : List A) (ys : List B) → take (length xs) (map f xs ++ ys) ≡ map f xs
take-mapped f [] ys = refl
take-mapped {B = B} f (x ∷ xs) ys = ap (λ (zs : List B). f x ∷ zs) (take-mapped f xs ys)

drop-mapped : {A B : Type 0} (f : A → B) (xs : List A) (ys : List B) → drop (length xs) (map f xs ++ ys) ≡ ys
drop-mapped f [] ys = refl
drop-mapped f (x ∷ xs) ys = drop-mapped f xs ys

module _ (epoch : ℕ) (held : List Held) (executed : List Execution) where
  abbrev item : Admitted → Item
  item = item_of executed

  abbrev behind_with : List Checkpoint → Cut → List Item → List Checkpoint
  behind_with before c items = before ++ record { epoch = epoch; number = length before; parent = digest_before (last_of before); items = items; last = c.last } ∷ []

  -- checkpoints of cuts that are done have the member's items
  chained-is : (cuts : List Cut) (before : List Checkpoint) → Each (λ (c : Cut). list_all (is_done held executed) c.txs ≡ true) cuts
      → chained epoch held executed before cuts ≡ checkpoints_with epoch (map item (flat_map admitted_in cuts)) before cuts
  unfolding checkpoint_behind
  chained-is [] before done = refl
  chained-is (c ∷ cs) before done =
      cond-true (list_all (is_done held executed) c.txs) (chained epoch held executed (before ++ checkpoint_behind epoch executed before c ∷ []) cs) before done.0
      ∙ chained-is cs (behind_with before c (map item c.txs)) done.1
      ∙ ap (λ (items : List Item). checkpoints_with epoch items (behind_with before c (map item c.txs)) cs) (sym rest)
      ∙ ap (λ (items : List Item). checkpoints_with epoch (drop (length c.txs) whole) (behind_with before c items) cs) (sym first)
    where
      whole : List Item
      whole = map item (c.txs ++ flat_map admitted_in cs)

      first : take (length c.txs) whole ≡ map item c.txs
      first = ap (take (length c.txs)) (map-append item c.txs (flat_map admitted_in cs)) ∙ take-mapped item c.txs (map item (flat_map admitted_in cs))

      rest : drop (length c.txs) whole ≡ map item (flat_map admitted_in cs)
      rest = ap (drop (length c.txs)) (map-append item c.txs (flat_map admitted_in cs)) ∙ drop-mapped item c.txs (map item (flat_map admitted_in cs))

-- the checkpoints of cuts that are done are those of one thread, if their items are
pub built-of-thread : (m : Member) (cuts : List Cut) → Each (IsBuilt m) cuts → GivesOneThread m (flat_map admitted_in cuts) → chained m.epoch m.held m.executed m.past cuts ≡ checkpoints_of_thread m.epoch m.opening cuts m.past
built-of-thread m cuts done gives =
    chained-is m.epoch m.held m.executed cuts m.past done
    ∙ ap (λ (items : List Item). checkpoints_with m.epoch items m.past cuts) (sym gives.items ∙ ap (λ (ts : List Transaction). map item_with (zip (flat_map admitted_in cuts) (fold_all (map_of m.opening) ts).effects)) (sym (txs-cut cuts)))

-- what it has built when all its cuts are done, in an epoch that it has whole
pub built-past : (s : Setting) (sequences : List (List Entry)) (m : Member) → m.opening ≡ opening_at s sequences m.epoch → sequence_of s sequences m.epoch m.opening ≡ m.sequence → m.past ≡ past_at s sequences m.epoch
    → Each (IsBuilt m) m.sequence.cuts → GivesOneThread m (flat_map admitted_in m.sequence.cuts) → built m ≡ past_at s sequences (suc m.epoch)
unfolding built past_at
built-past s sequences m opening whole past done gives =
    built-of-thread m m.sequence.cuts done gives
    ∙ ap (λ (q : Sequence). checkpoints_of_thread m.epoch m.opening q.cuts m.past) (sym whole)
    ∙ ap (λ (os : List Object). checkpoints_of_thread m.epoch os (sequence_of s sequences m.epoch os).cuts m.past) opening
    ∙ ap (checkpoints_of_thread m.epoch (opening_at s sequences m.epoch) (sequence_of s sequences m.epoch (opening_at s sequences m.epoch)).cuts) past
