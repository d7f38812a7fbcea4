-- A chain's checkpoints are those of the definitions.
use Rattle.std.proofs.Common.{◌≡◌, ◌∙◌, refl, sym, ap, arith, ℕ, zero, suc, ◌+◌, ◌<◌, ◌≤◌, Bool, true, false, not, cond, ◌&&◌, List, [], ◌∷◌, ◌++◌, length, take, drop, length-drop, option_map, take_all, add-one}
use Rattle.std.specs.Prelude.{Option, Some, None, OnOk, Result, Ok, Err, map, slice_get}
use Rattle.std.specs.List.{list_all}
use Rattle.std.proofs.lemmas.List.{drop-append-le, drop-map, length-map, map-append, take-append-le, take-map}
use Rattle.digest_core.specs.declared.Digest.{Digest}
use Rattle.checkpoint_core.specs.declared.checkpoints.Item.{Item}
use Rattle.checkpoint_core.specs.declared.checkpoints.Checkpoint.{Checkpoint}
use Rattle.protocol_spec.specs.declared.answers.Held.{Held}
use Rattle.protocol_spec.specs.Chain.Words.{first_of, first_some, last_of, where_true}
use Rattle.protocol_spec.specs.Member.Versions.{Execution}
use Rattle.protocol_spec.specs.Member.Admission.{Admitted}
use Rattle.protocol_spec.specs.Member.Sequence.{Cut, cut_of}
use Rattle.protocol_spec.specs.Member.Checkpoints.{chained, checkpoint_behind, cut_digests, digest_before, is_done, item_of, names_same_origins}
use Rattle.chain_types.specs.Equal.{digest_eq}
use Rattle.epoch_turn.specs.declared.due.Due.{Due}
use Rattle.epoch_turn.specs.declared.due.CutMark.{CutMark}
use Rattle.epoch_turn.specs.Dues.{cuts_of, due_item, due_of, front_length, is_due_done, size_of}
use Rattle.epoch_turn.specs.Chains.{AddsCuts, AreCut, AreHeld, BuildsAll, Chaining, FindsFirst, IsTold, KeepsCuts, StaysBehind, advanced, cut_of_chain, cuts_with, due_chain, due_checkpoint, tx_of, uncut, waiting_one, with_cut, with_due}
use Rattle.epoch_turn.proofs.Fronts.{found_stays}
use Rattle.epoch_turn.proofs.Growing.{drop_more, take_nothing}

module _ (held : List Held) (executed : List Execution) where
  all_done : (xs : List Admitted) → list_all (is_due_done executed) (map (due_of held) xs) ≡ list_all (is_done held executed) xs
  all_done [] = refl
  all_done (x ∷ xs) = ap (λ b. is_done held executed x && b) (all_done xs)

  all_items : (xs : List Admitted) → map (due_item executed) (map (due_of held) xs) ≡ map (item_of executed) xs
  all_items [] = refl
  all_items (x ∷ xs) = ap (λ (is : List Item). item_of executed x ∷ is) (all_items xs)

  pub all_found : (xs : List Admitted) → front_length (is_due_done executed) (map (due_of held) xs) ≡ front_length (is_done held executed) xs
  all_found [] = refl
  all_found (x ∷ xs) = ap (λ n. cond (is_done held executed x) (suc n) 0) (all_found xs)

  pub chained_is : (epoch : ℕ) (before : List Checkpoint) (admitted : List Admitted) (marks : List CutMark)
      → due_chain epoch executed before (map (due_of held) admitted) marks ≡ chained epoch held executed before (cuts_of admitted marks)
  unfolding checkpoint_behind
  chained_is epoch before admitted [] = refl
  chained_is epoch before admitted (m ∷ ms) =
      let step : List Due → List Due → List Checkpoint = λ txs rest. cond (list_all (is_due_done executed) txs) (due_chain epoch executed (before ++ due_checkpoint epoch executed before txs m.last ∷ []) rest ms) before in
      let made : List Item → List Checkpoint = λ items. before ++ record { epoch = epoch; number = length before; parent = digest_before (last_of before); items = items; last = m.last } ∷ [] in
      let txs : List Admitted = take m.size admitted in
      let rest : List Admitted = drop m.size admitted in
      ap (λ ds. step ds (drop m.size (map (due_of held) admitted))) (take-map (due_of held) m.size admitted)
      ∙ ap (step (map (due_of held) txs)) (drop-map (due_of held) m.size admitted)
      ∙ ap (λ (b : Bool). cond b (due_chain epoch executed (made (map (due_item executed) (map (due_of held) txs))) (map (due_of held) rest) ms) before) (all_done txs)
      ∙ ap (λ (items : List Item). cond (list_all (is_done held executed) txs) (due_chain epoch executed (made items) (map (due_of held) rest) ms) before) (all_items txs)
      ∙ ap (λ (xs : List Checkpoint). cond (list_all (is_done held executed) txs) xs before) (chained_is epoch (made (map (item_of executed) txs)) rest ms)

  first_is : (xs : List Admitted) → option_map tx_of (slice_get (map (due_of held) xs) (front_length (is_done held executed) xs)) ≡ first_of (waiting_one held executed) xs
  first_is [] = refl
  first_is (x ∷ xs) = by (is_done held executed x) (first_is xs)
    where
      same : (o : Option Digest) → o ≡ first_some (o ∷ [])
      same None = refl
      same (Some d) = refl

      by : (b : Bool) → option_map tx_of (slice_get (map (due_of held) xs) (front_length (is_done held executed) xs)) ≡ first_of (waiting_one held executed) xs
          → option_map tx_of (slice_get (map (due_of held) (x ∷ xs)) (cond b (suc (front_length (is_done held executed) xs)) 0)) ≡ first_some (where_true (not b) x.digest ∷ first_of (waiting_one held executed) xs ∷ [])
      by true rest = rest ∙ same (first_of (waiting_one held executed) xs)
      by false rest = refl

pub all_built : (epoch : ℕ) (executed : List Execution) (c : Chaining) → BuildsAll epoch executed (advanced epoch executed c)
all_built epoch executed c held admitted told = record {
  told = told;
  built = ap (λ (ds : List Due). due_chain epoch executed c.past ds c.marks) told ∙ chained_is held executed epoch c.past admitted c.marks;
  found = ap (front_length (is_due_done executed)) told ∙ all_found held executed admitted;
}

pub finds_first : (c : Chaining) → FindsFirst (option_map tx_of (slice_get c.due c.done)) c
finds_first c epoch held executed admitted is =
    ap (λ (ds : List Due). option_map tx_of (slice_get ds c.done)) is.told
    ∙ ap (λ n. option_map tx_of (slice_get (map (due_of held) admitted) n)) is.found
    ∙ first_is held executed admitted

-- ---- more certificates are held

-- the dues of admitted transactions stay what they were if more certificates are held
pub told_held : (held more : List Held) (admitted : List Admitted) → AreHeld held admitted → map (due_of (held ++ more)) admitted ≡ map (due_of held) admitted
told_held held more [] each = refl
told_held held more (a ∷ rest) each =
    let seen : Option Held → Due = λ h. record { tx = a.digest; same = names_same_origins h a } in
    ap (λ (h : Option Held). seen h ∷ map (due_of (held ++ more)) rest) (found_stays (λ (h : Held). digest_eq h.digest a.digest) held more each.0)
    ∙ ap (λ (ds : List Due). due_of held a ∷ ds) (told_held held more rest each.1)

-- ---- cuts

cuts_kept : (admitted more : List Admitted) (marks : List CutMark) → size_of marks ≤ length admitted → cuts_of (admitted ++ more) marks ≡ cuts_of admitted marks
cuts_kept admitted more [] few = refl
cuts_kept admitted more (m ∷ ms) few =
    let within : m.size ≤ length admitted = omega (arith, few) in
    let left : size_of ms ≤ length (drop m.size admitted) = let l = length-drop m.size admitted in omega (arith, l, few) in
    let cut : List Admitted → Cut = λ txs. record { txs = txs; last = m.last } in
    ap (λ txs. cut txs ∷ cuts_of (drop m.size (admitted ++ more)) ms) (take-append-le m.size admitted more within)
    ∙ ap (λ rest. cut (take m.size admitted) ∷ cuts_of rest ms) (drop-append-le m.size admitted more within)
    ∙ ap (λ (cs : List Cut). cut (take m.size admitted) ∷ cs) (cuts_kept (drop m.size admitted) more ms left)

cuts_more : (admitted : List Admitted) (marks : List CutMark) (m : CutMark) → cuts_of admitted (marks ++ m ∷ []) ≡ cuts_of admitted marks ++ record { txs = take m.size (drop (size_of marks) admitted); last = m.last } ∷ []
cuts_more admitted [] m = refl
cuts_more admitted (n ∷ ns) m =
    let cut : List Admitted → Cut = λ txs. record { txs = txs; last = m.last } in
    ap (λ (cs : List Cut). record { txs = take n.size admitted; last = n.last } ∷ cs)
    (cuts_more (drop n.size admitted) ns m ∙ ap (λ rest. cuts_of (drop n.size admitted) ns ++ cut (take m.size rest) ∷ []) (sym (drop_more n.size (size_of ns) admitted)))

pub keeps_cuts : (c : Chaining) (d : Due) → size_of c.marks ≤ length c.due → KeepsCuts c (with_due c d)
keeps_cuts c d few held admitted more told = cuts_kept admitted more c.marks (let l = ap length told in let m = length-map admitted (due_of held) in omega (arith, l, m, few))

pub adds_cuts : (last : Bool) (c : Chaining) → AddsCuts (cuts_with last) c (with_cut last c)
adds_cuts last c held admitted told =
    let rest : List Admitted = drop (size_of c.marks) admitted in
    let cut : List Admitted → List Cut = λ txs. cuts_of admitted c.marks ++ record { txs = txs; last = last } ∷ [] in
    let l = ap length told in
    let m = length-map admitted (due_of held) in
    let left = length-drop (size_of c.marks) admitted in
    cuts_more admitted c.marks (record { size = uncut c; last = last }) ∙ ap cut (take_all (uncut c) rest (omega (arith, l, m, left)))

one_cut : (txs : List Admitted) → 0 < length txs → cut_of txs ≡ cuts_with false txs
one_cut [] some = absurd (omega (arith, some))
one_cut (a ∷ more) some = refl

pub adds_one : (c new : Chaining) → 0 < uncut c → AddsCuts (cuts_with false) c new → AddsCuts cut_of c new
adds_one c new some adds held admitted told =
    let l = ap length told in
    let m = length-map admitted (due_of held) in
    let left = length-drop (size_of c.marks) admitted in
    adds held admitted told ∙ ap (λ (cs : List Cut). cuts_of admitted c.marks ++ cs) (sym (one_cut (drop (size_of c.marks) admitted) (omega (arith, l, m, left, some))))

take_more : {A : Type 0} (m n : ℕ) (xs : List A) → take (m + n) xs ≡ take m xs ++ take n (drop m xs)
take_more zero n xs = ap (λ k. take k xs) (none n)
  where
    none : (n : ℕ) → zero + n ≡ n
    none n = omega arith
take_more (suc m) n [] = take_nothing (suc m + n) ∙ sym (take_nothing n)
take_more {A} (suc m) n (x ∷ xs) = ap (λ k. take k (x ∷ xs)) (next m n) ∙ ap (λ (ys : List A). x ∷ ys) (take_more m n xs)
  where
    next : (m n : ℕ) → suc m + n ≡ suc (m + n)
    next m n = omega arith

digests_cut : (held : List Held) (admitted : List Admitted) (marks : List CutMark) → map tx_of (take (size_of marks) (map (due_of held) admitted)) ≡ cut_digests (cuts_of admitted marks)
digests_cut held admitted [] = refl
digests_cut held admitted (m ∷ ms) =
    let due : List Due = map (due_of held) admitted in
    let digest : Admitted → Digest = λ a. a.digest in
    ap (map tx_of) (take_more m.size (size_of ms) due)
    ∙ map-append tx_of (take m.size due) (take (size_of ms) (drop m.size due))
    ∙ ap (λ (ds : List Due). map tx_of ds ++ map tx_of (take (size_of ms) (drop m.size due))) (take-map (due_of held) m.size admitted)
    ∙ ap (λ (ds : List Due). map tx_of (map (due_of held) (take m.size admitted)) ++ map tx_of (take (size_of ms) ds)) (drop-map (due_of held) m.size admitted)
    ∙ ap (λ (xs : List Digest). xs ++ map tx_of (take (size_of ms) (map (due_of held) (drop m.size admitted)))) (digests (take m.size admitted))
    ∙ ap (λ (xs : List Digest). map digest (take m.size admitted) ++ xs) (digests_cut held (drop m.size admitted) ms)
  where
    digests : (xs : List Admitted) → map tx_of (map (due_of held) xs) ≡ map (λ (a : Admitted). a.digest) xs
    digests [] = refl
    digests (x ∷ xs) = ap (λ (ds : List Digest). x.digest ∷ ds) (digests xs)

pub are_cut : (c : Chaining) → AreCut c (cut_of_chain c)
are_cut c held admitted told = ap (λ (ds : List Due). map tx_of (take (size_of c.marks) ds)) told ∙ digests_cut held admitted c.marks

-- ---- what is said to a chain, one admitted transaction after the other

told_push : (held : List Held) (admitted : List Admitted) (place : ℕ) (d : Due) → Some d ≡ option_map (due_of held) (slice_get admitted place) → map (due_of held) (take place admitted) ++ d ∷ [] ≡ map (due_of held) (take (suc place) admitted)
told_push held [] place d is = absurd (cc)
told_push held (a ∷ rest) zero d is = let same : d ≡ due_of held a = cc in ap (λ (x : Due). x ∷ []) same
told_push held (a ∷ rest) (suc place) d is = ap (λ (ds : List Due). due_of held a ∷ ds) (told_push held rest place d is)

pub told_next : {E : Type 0} (result : Result (Unit {0}) E) (held : List Held) (admitted : List Admitted) (place : ℕ) (old new : Chaining) (d : Due) → IsTold held (take place admitted) old → Some d ≡ option_map (due_of held) (slice_get admitted place)
    → OnOk result (new ≡ with_due old d) → OnOk result (IsTold held (take (place + 1) admitted) new)
told_next (Ok done) held admitted place old new d told is step =
    ap (λ (c : Chaining). c.due) step
    ∙ ap (λ (ds : List Due). ds ++ d ∷ []) told
    ∙ told_push held admitted place d is
    ∙ ap (λ (n : ℕ). map (due_of held) (take n admitted)) (sym (add-one place))
told_next (Err e) held admitted place old new d told is step = tt

pub behind_then : (a b c : Chaining) → StaysBehind a b → StaysBehind b c → StaysBehind a c
behind_then a b c first then epoch executed is = then epoch executed (first epoch executed is)
