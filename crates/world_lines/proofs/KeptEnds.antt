-- The Ends that are kept beside the rows of the open epoch.
use Rattle.std.proofs.Common.{◌≡◌, ◌∙◌, ap, sym, refl, subst, ℕ, Bool, true, false, cond, ◌||◌, List, [], ◌∷◌, ◌++◌, length, map, Option, Some, None}
use Rattle.std.specs.Prelude.{◌==◌, slice_set}
use Rattle.std.specs.List.{cons_option, list_any}
use Rattle.std.proofs.lemmas.Bool.{and_parts, eqb-true}
use Rattle.std.proofs.lemmas.List.{length-append, map-append}
use Rattle.std.proofs.lemmas.List.Elements.{filter_map-append}
use Rattle.std.proofs.lemmas.List.Folds.{list_any-append}
use Rattle.std.proofs.lemmas.Slice.Eq.{bytes_eq-Decides}
use Rattle.digest_core.specs.declared.Digest.{Digest}
use Rattle.quorum_core.specs.declared.signer.Signer.{Signer}
use Rattle.chain_messages.specs.declared.messages.Entry.{Entry}
use Rattle.chain_messages.specs.declared.messages.MemberSeal.{MemberSeal}
use Rattle.protocol_spec.specs.Chain.Certificates.{rules_of}
use Rattle.protocol_spec.specs.Chain.Words.{Each}
use Rattle.protocol_spec.specs.Member.Sequence.{seen}
use Rattle.world_lines.specs.Ends.{are_an_end, end_read, ends_read, is_same, with_end}
use Rattle.world_lines.specs.Orders.{AreEnds, AreSpelled, Orders, entries_of, has_ended_by, orders_of, risen_orders, row_bytes, row_entry, spelled_entry}
use Rattle.world_lines.specs.declared.order.OrderedRow.{OrderedRow}
use Rattle.world_lines.proofs.Ending.{ended_is, same_end}
use Rattle.world_lines.proofs.Ordering.{last_set, open_is}

-- ---- one entry more

pub no_ends : (epoch : ℕ) → AreEnds epoch [] []
no_ends epoch = record { same = λ test. refl }

same_seal : (x y : MemberSeal) → is_same x y ≡ true → x ≡ y
same_seal x y e =
    let parts = and_parts (x.member == y.member) _ e in
    let member = eqb-true x.member y.member parts.0 in
    let seal = (bytes_eq-Decides x.seal.0 y.seal.0).0 parts.1 in
    ap (λ (m : ℕ). let s : MemberSeal = record { member = m; seal = x.seal } in s) member
    ∙ ap (λ (d : List ℕ). let s : MemberSeal = record { member = y.member; seal = record { 0 = d } } in s) seal

all_or : (a b c : Bool) → (b || c) ≡ b → ((a || b) || c) ≡ (a || b)
all_or true b c e = refl
all_or false b c e = e

first_or : (a b : Bool) → ((a || b) || a) ≡ (a || b)
first_or true b = refl
first_or false true = refl
first_or false false = refl

passes_one : (test : MemberSeal → Bool) (x y : MemberSeal) (ends : List MemberSeal) (same : Bool) → is_same x y ≡ same → list_any (is_same x) (y ∷ ends) ≡ true
    → (list_any (is_same x) ends ≡ true → (list_any test ends || test x) ≡ list_any test ends) → (list_any test (y ∷ ends) || test x) ≡ list_any test (y ∷ ends)
passes_one test x y ends true same e rest = ap (λ (z : MemberSeal). list_any test (y ∷ ends) || test z) (same_seal x y same) ∙ first_or (test y) (list_any test ends)
passes_one test x y ends false same e rest = all_or (test y) (list_any test ends) (test x) (rest (ap (λ (b : Bool). b || list_any (is_same x) ends) (sym same) ∙ e))

-- a test that a kept End passes is passed without it
passes : (test : MemberSeal → Bool) (x : MemberSeal) (ends : List MemberSeal) → list_any (is_same x) ends ≡ true → (list_any test ends || test x) ≡ list_any test ends
passes test x [] e = absurd (cc)
passes test x (y ∷ ends) e = passes_one test x y ends (is_same x y) refl e (passes test x ends)

kept : (test : MemberSeal → Bool) (ends : List MemberSeal) (x : Option MemberSeal) → list_any test (with_end ends x) ≡ (list_any test ends || list_any test (cons_option x []))
kept test ends None = or_none (list_any test ends)
  where
    or_none : (b : Bool) → b ≡ (b || false)
    or_none true = refl
    or_none false = refl
kept test ends (Some x) = go (list_any (is_same x) ends) refl
  where
    or_one : (b c : Bool) → (b || c) ≡ (b || (c || false))
    or_one true c = refl
    or_one false true = refl
    or_one false false = refl

    go : (there : Bool) → list_any (is_same x) ends ≡ there → list_any test (cond there ends (ends ++ x ∷ [])) ≡ (list_any test ends || (test x || false))
    go true there = sym (passes test x ends there) ∙ or_one (list_any test ends) (test x)
    go false there = list_any-append test ends (x ∷ [])

pub ends_push : (epoch : ℕ) (rows : List OrderedRow) (r : OrderedRow) (ends : List MemberSeal) (x : Option MemberSeal) → AreEnds epoch rows ends → x ≡ end_read epoch r.bytes → AreEnds epoch (rows ++ r ∷ []) (with_end ends x)
ends_push epoch rows r ends x are is = record {
  same = λ test.
      kept test ends x
      ∙ ap (λ (b : Bool). b || list_any test (cons_option x [])) (are.same test)
      ∙ ap (λ (y : Option MemberSeal). list_any test (ends_read epoch (map row_bytes rows)) || list_any test (cons_option y [])) is
      ∙ sym (list_any-append test (ends_read epoch (map row_bytes rows)) (cons_option (end_read epoch r.bytes) []))
      ∙ ap (λ (xs : List MemberSeal). list_any test xs) (sym (filter_map-append (end_read epoch) (map row_bytes rows) (r.bytes ∷ [])))
      ∙ ap (λ (texts : List (List ℕ)). list_any test (ends_read epoch texts)) (sym (map-append row_bytes rows (r ∷ [])));
}

pub ends_after : (epoch n : ℕ) (rows new : List OrderedRow) (r : OrderedRow) (ends room left : List MemberSeal) (x : Option MemberSeal) → AreEnds epoch rows ends → n ≡ epoch → x ≡ end_read n r.bytes → new ≡ rows ++ r ∷ [] → room ≡ ends → left ≡ with_end room x
    → AreEnds epoch new left
ends_after epoch n rows new r ends room left x are same is push roomy keep =
    let one : AreEnds epoch (rows ++ r ∷ []) (with_end ends x) = ends_push epoch rows r ends x are (is ∙ ap (λ (k : ℕ). end_read k r.bytes) same) in
    let two : AreEnds epoch (rows ++ r ∷ []) left = subst (λ (es : List MemberSeal). AreEnds epoch (rows ++ r ∷ []) es) (ap (λ (es : List MemberSeal). with_end es x) (sym roomy) ∙ sym keep) one in
    subst (λ (rs : List OrderedRow). AreEnds epoch rs left) (sym push) two

-- ---- the end of the open epoch

bytes_spelled : (rows : List OrderedRow) → AreSpelled rows → map row_bytes rows ≡ map spelled_entry (entries_of rows)
bytes_spelled [] are = refl
bytes_spelled (r ∷ rows) are =
    ap (λ (bytes : List ℕ). bytes ∷ map row_bytes rows) are.0.spelled
    ∙ ap (λ (texts : List (List ℕ)). spelled_entry (row_entry r) ∷ texts) (bytes_spelled rows are.1)

pub ended_rows : (past : List (List OrderedRow)) (rows : List OrderedRow) (ends : List MemberSeal) (o : Orders) (stakes : List ℕ) (accepts : Signer → List ℕ → Digest → Bool) (writers : Option ℕ) → orders_of past rows ≡ o → AreSpelled rows → AreEnds (length past) rows ends
    → are_an_end stakes accepts (length past) ends ≡ has_ended_by (rules_of stakes writers accepts) o
ended_rows past rows ends o stakes accepts writers view spelled are =
    let r = rules_of stakes writers accepts in
    same_end r [] (length past) ends (ends_read (length past) (map row_bytes rows)) are.same
    ∙ sym (ended_is r [] (length past) (map row_bytes rows))
    ∙ ap (λ (texts : List (List ℕ)). (seen r [] (length past) texts).ended) (bytes_spelled rows spelled ∙ ap (λ (es : List Entry). map spelled_entry es) (sym (open_is past rows)))
    ∙ ap (λ (x : Orders). has_ended_by r x) view

-- ---- the next epoch

each_push : (past : List (List OrderedRow)) (rows : List OrderedRow) → Each AreSpelled past → AreSpelled rows → Each AreSpelled (past ++ rows ∷ [])
each_push [] rows before are = (are, tt)
each_push (p ∷ past) rows before are = (before.0, each_push past rows before.1 are)

rises : (past : List (List OrderedRow)) (rows : List OrderedRow) (o : Orders) → orders_of past rows ≡ o → orders_of (past ++ rows ∷ []) [] ≡ risen_orders o
rises past rows o view =
    ap (λ (qs : List (List Entry)). let x : Orders = record { sequences = qs ++ [] ∷ []; epoch = length (past ++ rows ∷ []) } in x) (map-append entries_of past (rows ∷ []))
    ∙ ap (λ (n : ℕ). let x : Orders = record { sequences = (map entries_of past ++ entries_of rows ∷ []) ++ [] ∷ []; epoch = n } in x) (length-append past (rows ∷ []))
    ∙ ap risen_orders view

-- the rows of the open epoch take the place that was made for them after the others, and none are open
pub record Raised (past : List (List OrderedRow)) (rows : List OrderedRow) (new : List (List OrderedRow)) (left : List OrderedRow) : Type 0 where
  pub before : new ≡ past ++ rows ∷ []
  pub none : left ≡ []

pub raised : (past made new : List (List OrderedRow)) (rows none taken left : List OrderedRow) (place : ℕ) → place ≡ length past → none ≡ [] → made ≡ past ++ none ∷ [] → taken ≡ rows → new ≡ slice_set made place taken → left ≡ []
    → Raised past rows new left
raised past made new rows none taken left place many is push took set empty = record {
  before =
      set ∙ ap (λ (ls : List (List OrderedRow)). slice_set ls place taken) push
      ∙ last_set past place none taken (sym many)
      ∙ ap (λ (r : List OrderedRow). past ++ r ∷ []) took;
  none = empty;
}

pub raised_orders : (past new : List (List OrderedRow)) (rows left : List OrderedRow) (o : Orders) → Raised past rows new left → orders_of past rows ≡ o → orders_of new left ≡ risen_orders o
raised_orders past new rows left o up view = ap (λ (ls : List (List OrderedRow)). orders_of ls left) up.before ∙ ap (λ (rs : List OrderedRow). orders_of (past ++ rows ∷ []) rs) up.none ∙ rises past rows o view

pub raised_past : (past new : List (List OrderedRow)) (rows left : List OrderedRow) → Raised past rows new left → Each AreSpelled past → AreSpelled rows → Each AreSpelled new
raised_past past new rows left up before are = subst (λ (ls : List (List OrderedRow)). Each AreSpelled ls) (sym up.before) (each_push past rows before are)

pub raised_rows : (past new : List (List OrderedRow)) (rows left : List OrderedRow) → Raised past rows new left → AreSpelled left
raised_rows past new rows left up = subst (λ (rs : List OrderedRow). AreSpelled rs) (sym up.none) tt
