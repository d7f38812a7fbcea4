-- One call at a desk, from the slot that was taken to the slot that is given back, over plain values.
use Rattle.std.proofs.Common.{◌≡◌, ℕ, ◌<◌, List, [], ◌∷◌, ◌++◌, length, get_or, sym, ap, ◌∙◌, subst, arith, length-append}
use mathlib.Core.Option.{none}
use mathlib.Core.Logic.{dite}
use native.Mathlib.Decide.{ℕ_discrete}
use Rattle.atomic_table.specs.Table.{Me, step, Step, Allows, rest}
use Rattle.vote_desk.specs.declared.serial.SerialDesk.{SerialDesk}
use Rattle.vote_desk.specs.declared.serial.Pass.{Pass}
use Rattle.vote_desk.specs.declared.kept.Kept.{Kept}
use Rattle.vote_desk.specs.declared.view.View.{View}
use Rattle.vote_desk.specs.Counts.{times, IsAscending}
use Rattle.vote_desk.specs.Histories.{IsHistory, IsLegal}
use Rattle.vote_desk.specs.Views.{holding, returning, adding, called, waited}
use Rattle.vote_desk.specs.Rule.{Held}
use Rattle.vote_desk.specs.Steps.{Adds, Returns}
use Rattle.vote_desk.specs.Kept.{Stands, MakesCall}
use Rattle.vote_desk.specs.Passes.{opening, view, IsOf, Holds, Calls, Waits}
use Rattle.vote_desk.proofs.Counts.{times-append, times_else, ascending_push}
use Rattle.vote_desk.proofs.Fronts.{front_length, history_push, last_same}
use Rattle.vote_desk.proofs.Moves.{adds_slot, returns_slot}

-- the slot that a pass holds, named by what it holds
same_first : {X : Type 0} (l m : List (ℕ × X)) (x y : X) → (0, x) ∷ l ≡ (0, y) ∷ m → x ≡ y
same_first {X} l m x y is = ap (λ (out : List (ℕ × X)). (get_or out 0 (0, x)).1) is

pub same_slot : {X : Type 0} (out : List (ℕ × X)) (x y : X) → out ≡ (0, x) ∷ [] → out ≡ (0, y) ∷ rest out → (x ≡ y) × (rest out ≡ [])
same_slot out x y is is' = (same_first [] (rest out) x y (sym is ∙ is'), ap rest is)

pub front_slot : {X : Type 0} (out : List (ℕ × X)) (x : X) → out ≡ (0, x) ∷ [] → out ≡ (0, x) ∷ rest out
front_slot out x is = is ∙ sym (ap (λ l. (0, x) ∷ rest l) is)

module _ {C Q A E S : Type 0} (goes : S → E → S → Type 0) (state : C → S) (tells : E → Q → A → Type 0) (desk : SerialDesk C Q A E S) (old mid : Pass C Q A E S) (of : IsOf goes state desk old) (holds : Holds goes state desk old mid) (kept new : Kept C Q A E S)
    (value : mid.seat.me.1 ≡ (0, kept) ∷ rest mid.seat.me.1) where
  held_is : holds.held ≡ kept
  held_is = (same_slot mid.seat.me.1 holds.held kept holds.slot value).0

  stands : Stands goes state (opening state desk) holds.log kept
  stands = subst (Stands goes state (opening state desk) holds.log) held_is holds.stands

  answered : (q : Q) (a : A) (m : MakesCall goes state tells kept new q a) → Stands goes state (opening state desk) (holds.log ++ m.entry ∷ []) new
  answered q a m = record {
    entries = m.entries ∙ ap (λ l. l ++ m.entry ∷ []) stands.entries;
    history = history_push goes (opening state desk) (state kept.clerk) (state new.clerk) holds.log m.entry stands.history m.made;
  }

  -- the swap that gives the slot back one entry longer
  pub adds_over : (slots i : ℕ) (out : List (ℕ × Kept C Q A E S)) (q : Q) (a : A) → MakesCall goes state tells kept new q a
      → Allows (Held (Stands goes state) (opening state desk)) slots i (mid.seat.me.0, (0, new) ∷ out) 0 (λ _. 0) (Adds (Stands goes state) (step slots 0 0 0 none) (mid.seat.me.0, (0, new) ∷ out))
  adds_over slots i out q a m =
      subst (λ (v : View S E). Allows (Held (Stands goes state) (opening state desk)) slots i (v, (0, new) ∷ out) 0 (λ _. 0) (Adds (Stands goes state) (step slots 0 0 0 none) (v, (0, new) ∷ out))) (sym holds.view)
      (adds_slot (Stands goes state) (opening state desk) slots i (holding (view old) holds.log) out new m.entry of.part of.same (omega arith) (answered q a m))

  -- the swap that gives it back as it was
  pub returns_over : (slots i : ℕ) (out : List (ℕ × Kept C Q A E S)) → new.clerk ≡ kept.clerk → new.entries.items ≡ kept.entries.items
      → Allows (Held (Stands goes state) (opening state desk)) slots i (mid.seat.me.0, (0, new) ∷ out) 0 (λ _. 0) (Returns (step slots 0 0 0 none) (mid.seat.me.0, (0, new) ∷ out))
  returns_over slots i out clerk entries =
      subst (λ (v : View S E). Allows (Held (Stands goes state) (opening state desk)) slots i (v, (0, new) ∷ out) 0 (λ _. 0) (Returns (step slots 0 0 0 none) (v, (0, new) ∷ out))) (sym holds.view)
      (returns_slot (Stands goes state) (opening state desk) slots i (holding (view old) holds.log) out new of.part (omega arith)
      record { entries = entries ∙ stands.entries; history = subst (λ (c : C). IsHistory goes (opening state desk) holds.log (state c)) (sym clerk) stands.history })

  -- the entry that the swap names is that of the call
  entry_is : (s : Step (Kept C Q A E S)) (found : ℕ) (me' : Me (Kept C Q A E S) (View S E)) (out : List (ℕ × Kept C Q A E S)) (q : Q) (a : A) (m : MakesCall goes state tells kept new q a)
      → (t : Adds (Stands goes state) s (mid.seat.me.0, (0, new) ∷ out) found me') → t.entry ≡ m.entry
  entry_is s found me' out q a m t =
      let slot = same_first out out new t.held t.slot in
      let seen : (view mid).seen ≡ holds.log = ap (λ (v : View S E). v.seen) holds.view in
      last_same holds.log t.entry m.entry (ap (λ l. l ++ t.entry ∷ []) (sym seen) ∙ (sym t.stands.entries ∙ (ap (λ (k : Kept C Q A E S). k.entries.items) (sym slot) ∙ (answered q a m).entries)))

  view_is : (s : Step (Kept C Q A E S)) (found : ℕ) (me' : Me (Kept C Q A E S) (View S E)) (out : List (ℕ × Kept C Q A E S)) (q : Q) (a : A) (m : MakesCall goes state tells kept new q a)
      → (t : Adds (Stands goes state) s (mid.seat.me.0, (0, new) ∷ out) found me') → me'.0 ≡ called (view old) holds.log m.entry
  view_is s found me' out q a m t = t.view ∙ (λ k. adding (holds.view k) (entry_is s found me' out q a m t k))

  -- the call was made
  pub calls_of : (s : Step (Kept C Q A E S)) (found : ℕ) (me' : Me (Kept C Q A E S) (View S E)) (out : List (ℕ × Kept C Q A E S)) (q : Q) (a : A) → MakesCall goes state tells kept new q a
      → Adds (Stands goes state) s (mid.seat.me.0, (0, new) ∷ out) found me' → Calls goes state tells desk (view old) me'.0 q a
  calls_of s found me' out q a m t = record {
    before = holds.log;
    front = holds.front;
    entry = m.entry;
    told = m.told;
    left = state kept.clerk;
    history = stands.history;
    after = state new.clerk;
    made = m.made;
    view = view_is s found me' out q a m t;
  }

  -- the pass afterwards, one entry longer
  pub is_of_called : (last : Pass C Q A E S) (s : Step (Kept C Q A E S)) (found : ℕ) (out : List (ℕ × Kept C Q A E S)) (q : Q) (a : A) → MakesCall goes state tells kept new q a
      → last.seat.table_id ≡ mid.seat.table_id → out ≡ [] → Adds (Stands goes state) s (mid.seat.me.0, (0, new) ∷ out) found last.seat.me → IsOf goes state desk last
  is_of_called last s found out q a m same_table none_left t =
      let is = view_is s found last.seat.me out q a m t in
      let longer = front_length (view old).seen holds.log holds.front in
      let n = length-append holds.log (m.entry ∷ []) in record {
        wide = of.wide;
        deep = of.deep;
        table = same_table ∙ holds.table;
        clear = t.left ∙ none_left;
        calm = ap (λ (v : View S E). v.out) is;
        part = subst (λ (v : View S E). 0 < v.share) (sym is) of.part;
        same = ap (λ (v : View S E). v.opening) is ∙ of.same;
        legal = subst (λ (v : View S E). IsLegal goes (opening state desk) v.seen) (sym is) (state new.clerk, (answered q a m).history);
        rises = subst (λ (v : View S E). IsAscending v.mine) (sym is) (ascending_push (view old).mine (length holds.log) of.rises (λ p h. let b = of.below p h in omega (arith, b, longer)));
        below = subst (λ (v : View S E). (p : ℕ) → 0 < times p v.mine → p < length v.seen) (sym is) (λ p h.
            let a' = times-append p (view old).mine (length holds.log ∷ []) in
            dite (ℕ_discrete (times p (view old).mine) 0)
            (λ z. dite (ℕ_discrete (length holds.log) p) (λ e. omega (arith, n, e)) (λ ne. absurd (let o = times_else p (length holds.log) [] ne in omega (arith, a', z, o, h))))
            (λ nz. let b = of.below p (omega arith) in omega (arith, b, longer, n)));
      }

  waits_view : (v : View S E) → v ≡ returning mid.seat.me.0 → v ≡ waited (view old) holds.log
  waits_view v is = is ∙ ap (λ (v : View S E). record v { out = 0 }) holds.view

  -- no call was made
  pub waits_of : (v : View S E) → v ≡ returning mid.seat.me.0 → Waits (view old) v
  waits_of v is = record { log = holds.log; front = holds.front; view = waits_view v is }

  -- the pass afterwards, with the slot as it was
  pub is_of_waited : (last : Pass C Q A E S) → last.seat.table_id ≡ mid.seat.table_id → last.seat.me.1 ≡ [] → view last ≡ returning mid.seat.me.0 → IsOf goes state desk last
  is_of_waited last same_table clear left =
      let is = waits_view (view last) left in
      let longer = front_length (view old).seen holds.log holds.front in record {
        wide = of.wide;
        deep = of.deep;
        table = same_table ∙ holds.table;
        clear = clear;
        calm = ap (λ (v : View S E). v.out) is;
        part = subst (λ (v : View S E). 0 < v.share) (sym is) of.part;
        same = ap (λ (v : View S E). v.opening) is ∙ of.same;
        legal = subst (λ (v : View S E). IsLegal goes (opening state desk) v.seen) (sym is) (state kept.clerk, stands.history);
        rises = subst (λ (v : View S E). IsAscending v.mine) (sym is) of.rises;
        below = subst (λ (v : View S E). (p : ℕ) → 0 < times p v.mine → p < length v.seen) (sym is) (λ p h. let b = of.below p h in omega (arith, b, longer));
      }
