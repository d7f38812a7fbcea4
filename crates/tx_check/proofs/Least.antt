-- The least fault, from the first five cases and the others.
use Rattle.std.proofs.Common.{◌≡◌, ℕ, zero, Bool, true, false, length, List, [], ◌∷◌, Option, Some, None, refl, ap, sym, ◌∙◌, arith}
use Rattle.chain_types.specs.declared.transactions.Transaction.{Transaction}
use Rattle.protocol_spec.proofs.ListLemmas.{none_at}
use Rattle.protocol_spec.proofs.Truth.{where_false_number}
use Rattle.protocol_spec.specs.Chain.Shape.{shape_cases, shape_fault}
use Rattle.chain_types.specs.Transactions.{transaction}
use Rattle.std.specs.Prelude.{nat_lt}
use Rattle.chain_types.specs.Long.{has_long_list}
use Rattle.chain_types.proofs.Spelled.{short_lists}
use Rattle.tx_check.proofs.Long.{long_lists}
use Rattle.protocol_spec.specs.Chain.Words.{first_some}
use Rattle.tx_check.specs.Parts.{behind_five, command_fault, first_five, list_fault}

abbrev or_else : Option ℕ → Option ℕ → Option ℕ
or_else None y = y
or_else (Some x) y = Some x

split : (a b c d e : Option ℕ) (rest : List (Option ℕ)) → first_some (a ∷ b ∷ c ∷ d ∷ e ∷ rest) ≡ or_else (first_some (a ∷ b ∷ c ∷ d ∷ e ∷ [])) (first_some rest)
split (Some n) b c d e rest = refl
split None (Some n) c d e rest = refl
split None None (Some n) d e rest = refl
split None None None (Some n) e rest = refl
split None None None None (Some n) rest = refl
split None None None None None rest = refl

alone : (x : Option ℕ) → x ≡ or_else x None
alone None = refl
alone (Some n) = refl

split_list : (cases : List (Option ℕ)) → first_some cases ≡ or_else (first_some (first_five cases)) (first_some (behind_five cases))
split_list [] = refl
split_list (a ∷ []) = alone (first_some (a ∷ []))
split_list (a ∷ b ∷ []) = alone (first_some (a ∷ b ∷ []))
split_list (a ∷ b ∷ c ∷ []) = alone (first_some (a ∷ b ∷ c ∷ []))
split_list (a ∷ b ∷ c ∷ d ∷ []) = alone (first_some (a ∷ b ∷ c ∷ d ∷ []))
split_list (a ∷ b ∷ c ∷ d ∷ e ∷ rest) = split a b c d e rest

whole : (t : Transaction) → shape_fault t ≡ or_else (list_fault t) (command_fault t)
unfolding shape_fault list_fault command_fault
whole t = split_list (shape_cases t)

pub in_lists : (t : Transaction) (n : ℕ) → list_fault t ≡ Some n → shape_fault t ≡ Some n
in_lists t n e = whole t ∙ ap (λ x. or_else x (command_fault t)) e

pub in_commands : (t : Transaction) (x : Option ℕ) → list_fault t ≡ None → command_fault t ≡ x → shape_fault t ≡ x
in_commands t x e f = whole t ∙ ap (λ y. or_else y (command_fault t)) e ∙ f

none_long : (t : Transaction) → nat_lt 131072 (length (transaction.spell t)) ≡ false → has_long_list 131072 t ≡ false
none_long t e = go (has_long_list 131072 t) refl
  where
    go : (b : Bool) → has_long_list 131072 t ≡ b → has_long_list 131072 t ≡ false
    go false is = is
    go true is = absurd (let clash = sym (long_lists t is) ∙ e in cc)

-- a transaction of valid shape can be encoded
pub valid_short : (t : Transaction) → shape_fault t ≡ None → transaction.short t
unfolding shape_fault
valid_short t e = short_lists 131072 (omega arith) t (none_long t (where_false_number (nat_lt 131072 (length (transaction.spell t))) 1 (none_at (shape_cases t) zero e)))
