-- The steps as the desk's calls make them, over plain values.
use Rattle.std.proofs.Common.{◌≡◌, ℕ, ◌+◌, ◌<◌, ◌≤◌, eqb, eqb-true, List, [], ◌∷◌, ◌++◌, length, Some, sym, refl, ap, ◌∙◌, subst, arith}
use mathlib.Core.Option.{some, some-injective}
use lib.ListN.{get_elem?}
use Rattle.std.specs.Bool.{OnTrue}
use Rattle.std.proofs.lemmas.Bool.{OnTrue_from}
use Rattle.atomic_table.specs.Table.{Me, Final, Seen}
use Rattle.atomic_table.specs.Table as Tables
use Rattle.vote_desk.specs.declared.serial.SerialDesk.{SerialDesk}
use Rattle.vote_desk.specs.declared.serial.Pass.{Pass}
use Rattle.vote_desk.specs.declared.kept.Kept.{Kept}
use Rattle.vote_desk.specs.declared.kept.Opened.{Opened}
use Rattle.vote_desk.specs.declared.view.View.{View}
use Rattle.vote_desk.specs.Counts.{times, IsAscending, merged}
use Rattle.vote_desk.specs.Histories.{IsFront, IsHistory, IsLegal}
use Rattle.vote_desk.specs.Views.{whole, first_view, joined}
use Rattle.vote_desk.specs.Rule.{Held}
use Rattle.vote_desk.specs.Steps.{Takes, Looks}
use Rattle.vote_desk.specs.Kept.{Stands}
use Rattle.vote_desk.specs.Passes.{opening, view, IsOf, Holds}
use Rattle.vote_desk.proofs.Counts.{ascending_once, times-merged}
use Rattle.vote_desk.proofs.Fronts.{longer_is, both_fronts}
use Rattle.vote_desk.proofs.Moves.{opens, closes}

-- a list of one item
pub one_item : {X : Type 0} (before xs : List X) (x : X) → before ≡ [] → xs ≡ before ++ x ∷ [] → xs ≡ x ∷ []
one_item before xs x none_before is = is ∙ ap (λ l. l ++ x ∷ []) none_before

module _ {C Q A E S : Type 0} where
  -- what both had seen are prefixes of what the one has seen
  pub joins_fronts : (one other new : Pass C Q A E S) (mid : Me (Kept C Q A E S) (View S E)) (s : Tables.Step (Kept C Q A E S)) (found : ℕ)
      → mid ≡ (joined (view one) (view other), one.seat.me.1) → Looks s mid found new.seat.me → IsFront (view one).seen (view new).seen × IsFront (view other).seen (view new).seen
  joins_fronts one other new mid s found is look =
      let V : Type 0 = View S E in
      let now : mid.0 ≡ joined (view one) (view other) = ap (λ (m : Me (Kept C Q A E S) V). m.0) is in
      subst (λ (v : V). IsFront (view one).seen v.seen × IsFront (view other).seen v.seen) (sym (look.view ∙ now))
      (both_fronts (view one).seen (view other).seen (subst (λ (v : V). IsFront v.heard v.seen) now look.heard))

  -- no place stands in both passes that are joined
  pub joins_apart : (one other new : Pass C Q A E S) (mid : Me (Kept C Q A E S) (View S E)) (s : Tables.Step (Kept C Q A E S)) (found : ℕ)
      → mid ≡ (joined (view one) (view other), one.seat.me.1) → Looks s mid found new.seat.me → (place : ℕ) → times place (view one).mine + times place (view other).mine ≤ 1
  joins_apart one other new mid s found is look place =
      let V : Type 0 = View S E in
      let now : mid.0 ≡ joined (view one) (view other) = ap (λ (m : Me (Kept C Q A E S) V). m.0) is in
      let once = ascending_once place (merged (view one).mine (view other).mine) (subst (λ (v : V). IsAscending v.mine) now look.rises) in
      let both = times-merged place (view one).mine (view other).mine in omega (arith, once, both)

  -- the desk is opened with a clerk of which nothing was asked
  pub opens_with : (goes : S → E → S → Type 0) (state : C → S) (first : C) (kept : Kept C Q A E S) (before xs : List (Kept C Q A E S)) → before ≡ [] → xs ≡ before ++ kept ∷ [] → kept.entries.items ≡ [] → first ≡ kept.clerk
      → Held (Stands goes state) (state first) (Tables.opening (0 ∷ []) xs (first_view (state first)))
  opens_with goes state first kept before xs none_before is bare same =
      subst (λ (l : List (Kept C Q A E S)). Held (Stands goes state) (state first) (Tables.opening (0 ∷ []) l (first_view (state first)))) (sym (one_item before xs kept none_before is))
      (opens (Stands goes state) (state first) kept record { entries = bare; history = ap state (sym same) })

module _ {C Q A E S : Type 0} (goes : S → E → S → Type 0) (state : C → S) where
  pub is_opened : (desk : SerialDesk C Q A E S) (pass : Pass C Q A E S) (first : Opened C Q A E S) → desk.table.shared.table_id.words ≡ 1 → desk.table.shared.table_id.slots ≡ 1 → pass.seat.table_id ≡ desk.table.shared.table_id → pass.seat.me ≡ (first_view (state first.clerk.value), []) → desk.table.shared.key ≡ first → IsOf goes state desk pass
  is_opened desk pass first wide deep same_table me key =
      let M : Type 0 = Me (Kept C Q A E S) (View S E) in record {
        wide = wide;
        deep = deep;
        table = same_table;
        clear = ap (λ (m : M). m.1) me;
        calm = ap (λ (m : M). m.0.out) me;
        part = subst (λ (m : M). 0 < m.0.share) (sym me) (omega arith);
        same = ap (λ (m : M). m.0.opening) me ∙ ap (λ (k : Opened C Q A E S). Some (state k.clerk.value)) (sym key);
        legal = subst (λ (m : M). IsLegal goes (opening state desk) m.0.seen) (sym me) (opening state desk, refl);
        rises = subst (λ (m : M). IsAscending m.0.mine) (sym me) tt;
        below = subst (λ (m : M). (place : ℕ) → 0 < times place m.0.mine → place < length m.0.seen) (sym me) (λ place h. absurd (omega (arith, h)));
      }

  -- the pass has the slot, if the step took it
  pub holds_taken : (desk : SerialDesk C Q A E S) (old new : Pass C Q A E S) (found : ℕ) (s : Tables.Step (Kept C Q A E S)) → IsOf goes state desk old → new.seat.table_id ≡ old.seat.table_id → Takes (Stands goes state) s old.seat.me found new.seat.me
      → OnTrue (eqb found 0) (Holds goes state desk old new)
  holds_taken desk old new found s of same_table takes = OnTrue_from (eqb found 0) (Holds goes state desk old new)
      (λ is. let t = takes.won (eqb-true found 0 is) in
      let q : t.opening ≡ opening state desk = cc (t.same, of.same) in record {
        table = same_table ∙ of.table;
        log = t.log;
        front = t.front;
        held = t.held;
        stands = subst (λ (o : S). Stands goes state o t.log t.held) q t.stands;
        view = t.view;
        slot = t.slot ∙ ap (λ l. (0, t.held) ∷ l) of.clear;
      })

  -- what a pass has seen does not change while it waits
  pub holds_later : (desk : SerialDesk C Q A E S) (old mid new : Pass C Q A E S) → view mid ≡ view old → Holds goes state desk mid new → Holds goes state desk old new
  holds_later desk old mid new same h = record {
    table = h.table;
    log = h.log;
    front = subst (λ (v : View S E). IsFront v.seen h.log) same h.front;
    held = h.held;
    stands = h.stands;
    view = subst (λ (v : View S E). view new ≡ Rattle.vote_desk.specs.Views.holding v h.log) same h.view;
    slot = h.slot;
  }

  -- two passes are one
  pub is_joined : (desk : SerialDesk C Q A E S) (one other new : Pass C Q A E S) (mid : Me (Kept C Q A E S) (View S E)) (s : Tables.Step (Kept C Q A E S)) (found : ℕ) → IsOf goes state desk one → IsOf goes state desk other
      → new.seat.table_id ≡ one.seat.table_id → mid ≡ (joined (view one) (view other), one.seat.me.1) → Looks s mid found new.seat.me → IsOf goes state desk new
  is_joined desk one other new mid s found of of' same_table is look =
      let V : Type 0 = View S E in
      let now : mid.0 ≡ joined (view one) (view other) = ap (λ (m : Me (Kept C Q A E S) V). m.0) is in
      let then_is : view new ≡ joined (view one) (view other) = look.view ∙ now in record {
        wide = of.wide;
        deep = of.deep;
        table = same_table ∙ of.table;
        clear = look.slot ∙ (ap (λ (m : Me (Kept C Q A E S) V). m.1) is ∙ of.clear);
        calm = (let a = of.calm in let b = of'.calm in let e : (view new).out ≡ (view one).out + (view other).out = ap (λ (v : V). v.out) then_is in omega (arith, a, b, e));
        part = (let a = of.part in let e : (view new).share ≡ (view one).share + (view other).share = ap (λ (v : V). v.share) then_is in omega (arith, a, e));
        same = ap (λ (v : V). v.opening) then_is ∙ of.same;
        legal = subst (λ (v : V). IsLegal goes (opening state desk) v.seen) (sym then_is) (longer_is (IsLegal goes (opening state desk)) (view one).seen (view other).seen of.legal of'.legal);
        rises = subst (λ (v : V). IsAscending v.mine) (sym look.view) look.rises;
        below = subst (λ (v : V). (place : ℕ) → 0 < times place v.mine → place < length v.seen) (sym look.view) look.below;
      }

  -- what the desk is closed with, of the pass with the whole share
  pub closes_with : (desk : SerialDesk C Q A E S) (pass : Pass C Q A E S) (ws : List ℕ) (xs : List (Kept C Q A E S)) (kept : Kept C Q A E S) (entries : List E) → IsOf goes state desk pass → (view pass).share ≡ whole
      → Final (Seen (Held (Stands goes state) (opening state desk)) pass.seat.id pass.seat.me.0) ws xs → get_elem? xs 0 ≡ some kept → entries ≡ kept.entries.items
      → IsHistory goes (opening state desk) entries (state kept.clerk) × IsFront (view pass).seen entries × ((place : ℕ) → place < length entries → times place (view pass).mine ≡ 1)
  closes_with desk pass ws xs kept entries of all last at is =
      let found = closes (Stands goes state) (opening state desk) ws xs pass.seat.id pass.seat.me.0 all of.calm last in
      let same : found.1 ≡ kept = some-injective found.1 kept (sym found.2 ∙ at) in
      let log : found.0 ≡ entries = sym found.3.entries ∙ (ap (λ (k : Kept C Q A E S). k.entries.items) same ∙ sym is) in
      let P : List E × Kept C Q A E S → Type 0 = λ (l, k). IsHistory goes (opening state desk) l (state k.clerk) × IsFront (view pass).seen l × ((place : ℕ) → place < length l → times place (view pass).mine ≡ 1) in
      subst P (λ i. (log i, same i)) (found.3.history, found.4, found.5)
