-- A list that by itself is longer than an encoded transaction may be makes a long encoding.
use Rattle.std.proofs.Common.{◌≡◌, ℕ, ◌+◌, ◌<◌, ◌≤◌, Bool, true, false, ◌||◌, List, [], ◌∷◌, ◌++◌, length, refl, arith, length-append}
use Rattle.std.specs.Prelude.{nat_lt, flat_map}
use Rattle.std.specs.List.{list_any}
use Rattle.std.proofs.lemmas.Bool.{ltb-true, lt-ltb}
use Rattle.wire_bcs.specs.Uleb.{uleb}
use Rattle.wire_bcs.specs.Items.{bytes_spell, number_spell}
use Rattle.chain_types.specs.Objects.{address, kind, object_ref}
use Rattle.wire_bcs.specs.Shapes.{seq_spell}
use Rattle.chain_types.specs.declared.transactions.Argument.{Argument}
use Rattle.chain_types.specs.declared.transactions.Argument.TheVariants as argument
use Rattle.chain_types.specs.declared.transactions.Command.{Command}
use Rattle.chain_types.specs.declared.transactions.Command.TheVariants as command
use Rattle.chain_types.specs.declared.transactions.Input.{Input}
use Rattle.chain_types.specs.declared.transactions.Input.TheVariants as input
use Rattle.chain_types.specs.declared.transactions.Transaction.{Transaction}
use Rattle.chain_types.specs.Transactions as codecs
use Rattle.chain_types.specs.Long.{has_long_list, is_long_command, is_long_input, is_long_list}

behind : (xs ys : List ℕ) → length ys ≤ length (xs ++ ys)
behind xs ys = let e = length-append xs ys in omega arith

before : (xs ys : List ℕ) → length xs ≤ length (xs ++ ys)
before xs ys = let e = length-append xs ys in omega arith

-- the encoding of each element has at least one byte
many : {A : Type 0} (one : A → List ℕ) → ((x : A) → 1 ≤ length (one x)) → (xs : List A) → length xs ≤ length (flat_map one xs)
many one some [] = omega arith
many one some (x ∷ xs) = let e = length-append (one x) (flat_map one xs) in let a = some x in let b = many one some xs in omega arith

within : {A : Type 0} (one : A → List ℕ) (test : A → Bool) (n : ℕ) → ((x : A) → test x ≡ true → n < length (one x)) → (xs : List A) → list_any test xs ≡ true → n < length (flat_map one xs)
within one test n long [] e = absurd (cc)
within one test n long (x ∷ xs) e = go (test x) refl e (within one test n long xs)
  where
    go : (b : Bool) → test x ≡ b → (b || list_any test xs) ≡ true → (list_any test xs ≡ true → n < length (flat_map one xs)) → n < length (one x ++ flat_map one xs)
    go true is h more = let a = long x is in let b = before (one x) (flat_map one xs) in omega arith
    go false is h more = let a = more h in let b = behind (one x) (flat_map one xs) in omega arith

argument_some : (a : Argument) → 1 ≤ length (codecs.argument.spell a)
unfolding codecs.argument uleb
argument_some argument.Gas = omega arith
argument_some (argument.Input n) = omega arith
argument_some (argument.Result c) = omega arith
argument_some (argument.Nested c k) = omega arith

input_some : (i : Input) → 1 ≤ length (codecs.input.spell i)
unfolding codecs.input uleb
input_some (input.Pure bytes) = omega arith
input_some (input.Owned r) = omega arith
input_some (input.Immutable r) = omega arith
input_some (input.Shared id initial mutable) = omega arith

command_some : (c : Command) → 1 ≤ length (codecs.command.spell c)
unfolding codecs.command uleb
command_some (command.Call native args) = omega arith
command_some (command.Transfer values to) = omega arith
command_some (command.Split coin amounts) = omega arith
command_some (command.Merge target sources) = omega arith
command_some (command.MakeVec kind values) = omega arith

seq_long : {A : Type 0} (one : A → List ℕ) → ((x : A) → 1 ≤ length (one x)) → (xs : List A) → length xs ≤ length (seq_spell one xs)
unfolding seq_spell
seq_long one some xs = let a = many one some xs in let b = behind (uleb (length xs)) (flat_map one xs) in omega arith

input_long : (i : Input) → is_long_input 131072 i ≡ true → 131072 < length (codecs.input.spell i)
unfolding codecs.input uleb bytes_spell
input_long (input.Pure bytes) e =
    let a = ltb-true 131072 (length bytes) e in let b = behind (uleb (length bytes)) bytes in let d = behind (0 ∷ []) (uleb (length bytes) ++ bytes) in omega arith
input_long (input.Owned r) e = absurd (cc)
input_long (input.Immutable r) e = absurd (cc)
input_long (input.Shared id initial mutable) e = absurd (cc)

command_long : (c : Command) → is_long_command 131072 c ≡ true → 131072 < length (codecs.command.spell c)
unfolding codecs.command uleb
command_long (command.Call native args) e =
    let a = ltb-true 131072 (length args) e in let b = seq_long codecs.argument.spell argument_some args in let d = behind (number_spell 1 native) (seq_spell codecs.argument.spell args) in omega arith
command_long (command.Transfer values to) e =
    let a = ltb-true 131072 (length values) e in let b = seq_long codecs.argument.spell argument_some values in let d = before (seq_spell codecs.argument.spell values) (codecs.argument.spell to) in omega arith
command_long (command.Split coin amounts) e =
    let a = ltb-true 131072 (length amounts) e in let b = seq_long codecs.argument.spell argument_some amounts in let d = behind (codecs.argument.spell coin) (seq_spell codecs.argument.spell amounts) in omega arith
command_long (command.Merge target sources) e =
    let a = ltb-true 131072 (length sources) e in let b = seq_long codecs.argument.spell argument_some sources in let d = behind (codecs.argument.spell target) (seq_spell codecs.argument.spell sources) in omega arith
command_long (command.MakeVec of_kind values) e =
    let a = ltb-true 131072 (length values) e in let b = seq_long codecs.argument.spell argument_some values in let d = behind (kind.spell of_kind) (seq_spell codecs.argument.spell values) in omega arith

seq_within : {A : Type 0} (one : A → List ℕ) (test : A → Bool) → ((x : A) → test x ≡ true → 131072 < length (one x)) → (xs : List A) → list_any test xs ≡ true → 131072 < length (seq_spell one xs)
unfolding seq_spell
seq_within one test long xs e = let a = within one test 131072 long xs e in let b = behind (uleb (length xs)) (flat_map one xs) in omega arith

inside : (a b c d i j : List ℕ) → length i + length j ≤ length (a ++ (b ++ (c ++ (d ++ (i ++ j)))))
inside a b c d i j =
    let e = length-append i j in
    let f = behind d (i ++ j) in
    let g = behind c (d ++ (i ++ j)) in
    let h = behind b (c ++ (d ++ (i ++ j))) in
    let k = behind a (b ++ (c ++ (d ++ (i ++ j)))) in
    omega arith

parts : (t : Transaction) → length (seq_spell codecs.input.spell t.inputs) + length (seq_spell codecs.command.spell t.commands) ≤ length (codecs.transaction.spell t)
unfolding codecs.transaction
parts t = inside (number_spell 8 t.epoch) (address.spell t.sender) (object_ref.spell t.gas) (number_spell 8 t.budget) (seq_spell codecs.input.spell t.inputs) (seq_spell codecs.command.spell t.commands)

-- a transaction with a long list has a long encoding
pub long_lists : (t : Transaction) → has_long_list 131072 t ≡ true → nat_lt 131072 (length (codecs.transaction.spell t)) ≡ true
long_lists t e =
    go (is_long_list 131072 t.inputs) refl (list_any (is_long_input 131072) t.inputs) refl (is_long_list 131072 t.commands) refl (list_any (is_long_command 131072) t.commands) refl e
  where
    done : 131072 < length (seq_spell codecs.input.spell t.inputs) + length (seq_spell codecs.command.spell t.commands) → nat_lt 131072 (length (codecs.transaction.spell t)) ≡ true
    done l = let p = parts t in lt-ltb 131072 (length (codecs.transaction.spell t)) (omega arith)

    go : (a : Bool) → is_long_list 131072 t.inputs ≡ a → (b : Bool) → list_any (is_long_input 131072) t.inputs ≡ b → (c : Bool) → is_long_list 131072 t.commands ≡ c
        → (d : Bool) → list_any (is_long_command 131072) t.commands ≡ d → (a || (b || (c || d))) ≡ true → nat_lt 131072 (length (codecs.transaction.spell t)) ≡ true
    go true p b q c r d s e = done (let x = ltb-true 131072 (length t.inputs) p in let y = seq_long codecs.input.spell input_some t.inputs in omega arith)
    go false p true q c r d s e = done (let x = seq_within codecs.input.spell (is_long_input 131072) input_long t.inputs q in omega arith)
    go false p false q true r d s e = done (let x = ltb-true 131072 (length t.commands) r in let y = seq_long codecs.command.spell command_some t.commands in omega arith)
    go false p false q false r true s e = done (let x = seq_within codecs.command.spell (is_long_command 131072) command_long t.commands s in omega arith)
    go false p false q false r false s e = absurd (cc)
