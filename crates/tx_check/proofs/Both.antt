-- The arguments of a command, as one beside a list.
use Rattle.std.proofs.Common.{◌≡◌, ◌+◌, Bool, false, true, ◌||◌, List, [], ◌∷◌, ◌++◌, length, refl, ap, ◌∙◌, is_some, cond, arith}
use Rattle.std.specs.List.{list_any}
use Rattle.std.proofs.lemmas.Grind.{common_steps}
use Rattle.chain_types.specs.declared.transactions.Argument.{Argument}
use Rattle.chain_types.specs.declared.transactions.Command.{Command}
use Rattle.chain_types.specs.declared.transactions.Command.TheVariants as command
use Rattle.protocol_spec.specs.Chain.Shape.{arguments_of}
use Rattle.tx_check.specs.Parts.{any_lone, listed_of, lone_of}

last_first : (test : Argument → Bool) (x : Argument) (xs : List Argument) → list_any test (xs ++ x ∷ []) ≡ (test x || list_any test xs)
last_first test x [] = refl
last_first test x (y ∷ ys) = ap (λ b. test y || b) (last_first test x ys) ∙ swapped (test y) (test x) (list_any test ys)
  where
    swapped : (a b c : Bool) → (a || (b || c)) ≡ (b || (a || c))
    swapped true true c = refl
    swapped true false c = refl
    swapped false true c = refl
    swapped false false c = refl

pub any_of_both : (test : Argument → Bool) (c : Command) → list_any test (arguments_of c) ≡ (any_lone test (lone_of c) || list_any test (listed_of c))
any_of_both test (command.Call native args) = refl
any_of_both test (command.Transfer values to) = last_first test to values
any_of_both test (command.Split coin amounts) = refl
any_of_both test (command.Merge target sources) = refl
any_of_both test (command.MakeVec kind values) = refl

pub count_of_both : (c : Command) → length (arguments_of c) ≡ length (listed_of c) + cond (is_some (lone_of c)) 1 0
count_of_both (command.Call native args) = omega arith
count_of_both (command.Transfer values to) = grind (arith, common_steps)
count_of_both (command.Split coin amounts) = omega arith
count_of_both (command.Merge target sources) = omega arith
count_of_both (command.MakeVec kind values) = omega arith
