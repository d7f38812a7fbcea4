-- Rows of entries, by what they are.
use Rattle.std.proofs.Common.{◌≡◌, ◌∙◌, ap, sym, refl, subst, ℕ, zero, suc, List, [], ◌∷◌, ◌++◌, length, map, Option, Some, option_map}
use Rattle.std.proofs.lemmas.List.{length-map}
use Rattle.std.specs.Prelude.{◌<◌, slice_get, slice_set}
use Rattle.chain_messages.specs.declared.messages.Entry.{Entry}
use Rattle.wire_bcs.specs.Items.{length_limit}
use Rattle.protocol_spec.specs.Chain.Words.{Each}
use Rattle.world_spec.specs.World.{entries_at, list_or_none}
use Rattle.world_spec.specs.SceneWorlds.{AreKeepable, IsKeepable}
use Rattle.world_lines.specs.Orders.{AreSpelled, IsSpelled, Orders, entries_of, open_in, orders_of, row_entry, spelled_entry, with_entry}
use Rattle.world_lines.specs.declared.order.OrderedRow.{OrderedRow}

last_get : {A : Type 0} (xs : List A) (n : ℕ) (x : A) → length xs ≡ n → slice_get (xs ++ x ∷ []) n ≡ Some x
last_get [] zero x e = refl
last_get [] (suc n) x e = absurd (cc)
last_get (y ∷ xs) zero x e = absurd (cc)
last_get (y ∷ xs) (suc n) x e = last_get xs n x (cc)

pub last_set : {A : Type 0} (xs : List A) (n : ℕ) (x y : A) → length xs ≡ n → slice_set (xs ++ x ∷ []) n y ≡ xs ++ y ∷ []
last_set [] zero x y e = refl
last_set [] (suc n) x y e = absurd (cc)
last_set (z ∷ xs) zero x y e = absurd (cc)
last_set {A} (z ∷ xs) (suc n) x y e = ap (λ (zs : List A). z ∷ zs) (last_set xs n x y (cc))

map_push : (rows : List OrderedRow) (r : OrderedRow) → entries_of (rows ++ r ∷ []) ≡ entries_of rows ++ row_entry r ∷ []
map_push [] r = refl
map_push (x ∷ rows) r = ap (λ (es : List Entry). row_entry x ∷ es) (map_push rows r)

pub open_is : (past : List (List OrderedRow)) (rows : List OrderedRow) → open_in (orders_of past rows) ≡ entries_of rows
open_is past rows = ap (λ (o : Option (List Entry)). list_or_none o) (last_get (map entries_of past) (length past) (entries_of rows) (length-map past entries_of))

pub open_many : (past : List (List OrderedRow)) (rows : List OrderedRow) → length rows ≡ length (open_in (orders_of past rows))
open_many past rows = sym (length-map rows row_entry) ∙ ap (λ (es : List Entry). length es) (sym (open_is past rows))

pub pushed : (past : List (List OrderedRow)) (rows : List OrderedRow) (r : OrderedRow) (e : Entry) → row_entry r ≡ e → orders_of past (rows ++ r ∷ []) ≡ with_entry (orders_of past rows) e
pushed past rows r e is =
    let o = orders_of past rows in
    let open_now : entries_of (rows ++ r ∷ []) ≡ open_in o ++ e ∷ [] = map_push rows r ∙ ap (λ (x : Entry). entries_of rows ++ x ∷ []) is ∙ ap (λ (es : List Entry). es ++ e ∷ []) (sym (open_is past rows)) in
    ap (λ (ls : List (List Entry)). record o { sequences = ls })
    (ap (λ (es : List Entry). map entries_of past ++ es ∷ []) open_now
    ∙ sym (last_set (map entries_of past) (length past) (entries_of rows) (open_in o ++ e ∷ []) (length-map past entries_of)))

pub spelled_push : (rows : List OrderedRow) (r : OrderedRow) → AreSpelled rows → IsSpelled r → AreSpelled (rows ++ r ∷ [])
spelled_push [] r are is = (is, tt)
spelled_push (x ∷ rows) r are is = (are.0, spelled_push rows r are.1 is)

keepable_rows : (rows : List OrderedRow) → AreSpelled rows → Each IsKeepable (entries_of rows)
keepable_rows [] are = tt
keepable_rows (r ∷ rows) are = (subst (λ (bytes : List ℕ). length bytes < length_limit) are.0.spelled are.0.short, keepable_rows rows are.1)

pub keepable_all : (past : List (List OrderedRow)) (rows : List OrderedRow) → Each AreSpelled past → AreSpelled rows → AreKeepable (orders_of past rows).sequences
keepable_all [] rows before are = (keepable_rows rows are, tt)
keepable_all (p ∷ past) rows before are = (keepable_rows p before.0, keepable_all past rows before.1 are)

pub orders_keepable : (past : List (List OrderedRow)) (rows : List OrderedRow) (o : Orders) → orders_of past rows ≡ o → Each AreSpelled past → AreSpelled rows → AreKeepable o.sequences
orders_keepable past rows o view before are = subst (λ (x : Orders). AreKeepable x.sequences) view (keepable_all past rows before are)

pub pushed_is : (past : List (List OrderedRow)) (rows new : List OrderedRow) (r : OrderedRow) (e : Entry) (o : Orders) → orders_of past rows ≡ o → row_entry r ≡ e → new ≡ rows ++ r ∷ [] → orders_of past new ≡ with_entry o e
pushed_is past rows new r e o view is push = ap (λ (xs : List OrderedRow). orders_of past xs) push ∙ pushed past rows r e is ∙ ap (λ (x : Orders). with_entry x e) view

-- ---- the entries of an epoch

past_get : (past : List (List OrderedRow)) (rows : List OrderedRow) (epoch : ℕ) → (epoch ≡ length past → ⊥)
    → slice_get (map entries_of past ++ entries_of rows ∷ []) epoch ≡ option_map entries_of (slice_get past epoch)
past_get [] rows zero other = absurd (other refl)
past_get [] rows (suc n) other = refl
past_get (p ∷ past) rows zero other = refl
past_get (p ∷ past) rows (suc n) other = past_get past rows n (λ e. other (ap suc e))

-- the entries of the open epoch
pub rows_open : (past : List (List OrderedRow)) (rows found : List OrderedRow) (o : Orders) (epoch n : ℕ) → orders_of past rows ≡ o → n ≡ length past → epoch ≡ n → found ≡ rows
    → entries_of found ≡ entries_at o.sequences epoch
rows_open past rows found o epoch n view many same is =
    ap entries_of is ∙ sym (open_is past rows)
    ∙ ap (λ (k : ℕ). entries_at (orders_of past rows).sequences k) (sym (same ∙ many))
    ∙ ap (λ (x : Orders). entries_at x.sequences epoch) view

-- the entries of an epoch other than the open one
pub rows_past : (past : List (List OrderedRow)) (rows : List OrderedRow) (o : Orders) (epoch n : ℕ) (found : Option (List OrderedRow)) → orders_of past rows ≡ o → n ≡ length past → (epoch ≡ n → ⊥) → found ≡ slice_get past epoch
    → list_or_none (option_map entries_of found) ≡ entries_at o.sequences epoch
rows_past past rows o epoch n found view many other is =
    ap (λ (x : Option (List OrderedRow)). list_or_none (option_map entries_of x)) is
    ∙ sym (ap (λ (x : Option (List Entry)). list_or_none x) (past_get past rows epoch (λ e. other (e ∙ sym many))))
    ∙ ap (λ (x : Orders). entries_at x.sequences epoch) view

pub spelled_get : (past : List (List OrderedRow)) (found : List OrderedRow) (epoch : ℕ) → Each AreSpelled past → slice_get past epoch ≡ Some found → AreSpelled found
spelled_get [] found epoch are is = absurd (cc)
spelled_get (p ∷ past) found zero are is = subst AreSpelled (let e : Some p ≡ Some found = is in cc) are.0
spelled_get (p ∷ past) found (suc n) are is = spelled_get past found n are.1 is

pub bytes_as : (rows : List OrderedRow) (number : ℕ) → AreSpelled rows → option_map (λ (r : OrderedRow). r.bytes) (slice_get rows number) ≡ option_map spelled_entry (slice_get (entries_of rows) number)
bytes_as [] number are = refl
bytes_as (r ∷ rows) zero are = ap (λ (bytes : List ℕ). Some bytes) are.0.spelled
bytes_as (r ∷ rows) (suc n) are = bytes_as rows n are.1

pub bytes_in : (rows : List OrderedRow) (entries : List Entry) (number : ℕ) → AreSpelled rows → entries_of rows ≡ entries
    → option_map (λ (r : OrderedRow). r.bytes) (slice_get rows number) ≡ option_map spelled_entry (slice_get entries number)
bytes_in rows entries number are is = bytes_as rows number are ∙ ap (λ (es : List Entry). option_map spelled_entry (slice_get es number)) is

pub many_in : (rows : List OrderedRow) (entries : List Entry) → entries_of rows ≡ entries → length rows ≡ length entries
many_in rows entries is = sym (length-map rows row_entry) ∙ ap (λ (es : List Entry). length es) is
