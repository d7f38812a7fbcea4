-- A transaction without bulk has a short encoding.
use Rattle.std.proofs.Common.{◌≡◌, ℕ, zero, suc, ◌+◌, ◌*◌, ◌/◌, ◌%◌, ◌<◌, ◌≤◌, Bool, true, false, cond, ◌||◌, List, [], ◌∷◌, ◌++◌, length, refl, arith, length-append}
use Rattle.std.specs.Prelude.{nat_lt, flat_map}
use Rattle.std.specs.List.{list_any}
use Rattle.std.proofs.lemmas.Bool.{ltb-false, ltb-true}
use Rattle.wire_bcs.specs.Uleb.{uleb, uleb_in}
use Rattle.wire_bcs.specs.Items.{bool_spell, bytes_spell, number_spell}
use Rattle.wire_bcs.specs.Little.{length-low_first}
use Rattle.wire_bcs.specs.Shapes.{seq_spell}
use Rattle.wire_bcs.specs.Digests.{digest}
use Rattle.chain_types.specs.Objects.{address, kind, object_id, object_ref}
use Rattle.chain_types.specs.declared.objects.Kind.{Kind}
use Rattle.chain_types.specs.declared.objects.Kind.TheVariants as kinds
use Rattle.chain_types.specs.declared.objects.ObjectRef.{ObjectRef}
use Rattle.chain_types.specs.declared.transactions.Argument.{Argument}
use Rattle.chain_types.specs.declared.transactions.Argument.TheVariants as argument
use Rattle.chain_types.specs.declared.transactions.Command.{Command}
use Rattle.chain_types.specs.declared.transactions.Command.TheVariants as command
use Rattle.chain_types.specs.declared.transactions.Input.{Input}
use Rattle.chain_types.specs.declared.transactions.Input.TheVariants as input
use Rattle.chain_types.specs.declared.transactions.Transaction.{Transaction}
use Rattle.chain_types.specs.Transactions as codecs
use Rattle.protocol_spec.proofs.Truth.{or_false}
use Rattle.tx_check.specs.Bulk.{has_bulk, is_bulky_command, is_bulky_input, is_bulky_ref}
use Rattle.tx_check.specs.Parts.{listed_of}

-- ---- parts

both : (xs ys : List ℕ) (a b : ℕ) → length xs ≤ a → length ys ≤ b → length (xs ++ ys) ≤ a + b
both xs ys a b x y = let e = length-append xs ys in omega arith

number_room : (k n : ℕ) → length (number_spell k n) ≤ k
unfolding number_spell
number_room k n = let e = length-low_first k n in omega arith

uleb_in_room : (k n : ℕ) → length (uleb_in k n) ≤ k + 1
uleb_in_room zero n = omega arith
uleb_in_room (suc k) n = by (nat_lt n 128) (uleb_in_room k (n / 128))
  where
    by : (b : Bool) → length (uleb_in k (n / 128)) ≤ k + 1 → length (cond b (n ∷ []) ((128 + n % 128) ∷ uleb_in k (n / 128))) ≤ suc k + 1
    by true more = omega arith
    by false more = omega arith

uleb_room : (n : ℕ) → length (uleb n) ≤ 5
unfolding uleb
uleb_room n = uleb_in_room 4 n

bytes_room : (bytes : List ℕ) (most : ℕ) → length bytes ≤ most → length (bytes_spell bytes) ≤ 5 + most
unfolding bytes_spell
bytes_room bytes most few = both (uleb (length bytes)) bytes 5 most (uleb_room (length bytes)) few

-- ---- references and inputs

ref_room : (r : ObjectRef) → is_bulky_ref r ≡ false → length (object_ref.spell r) ≤ 72
unfolding object_ref object_id digest
ref_room r e =
    let parts = or_false (nat_lt 32 (length r.id.0.0)) (nat_lt 32 (length r.digest.0)) e in
    both r.id.0.0 (number_spell 8 r.version ++ r.digest.0) 32 40 (ltb-false 32 (length r.id.0.0) parts.0)
    (both (number_spell 8 r.version) r.digest.0 8 32 (number_room 8 r.version) (ltb-false 32 (length r.digest.0) parts.1))

flag_room : (b : Bool) → length (bool_spell b) ≤ 1
unfolding bool_spell
flag_room true = omega arith
flag_room false = omega arith

input_room : (i : Input) → is_bulky_input i ≡ false → length (codecs.input.spell i) ≤ 134
unfolding codecs.input object_id digest uleb
input_room (input.Pure bytes) e = let a = bytes_room bytes 128 (ltb-false 128 (length bytes) e) in omega arith
input_room (input.Owned r) e = let a = ref_room r e in omega arith
input_room (input.Immutable r) e = let a = ref_room r e in omega arith
input_room (input.Shared id initial mutable) e =
    let a =
    both id.0.0 (number_spell 8 initial ++ bool_spell mutable) 32 9 (ltb-false 32 (length id.0.0) e)
    (both (number_spell 8 initial) (bool_spell mutable) 8 1 (number_room 8 initial) (flag_room mutable)) in
    omega arith

-- ---- arguments and commands

argument_room : (a : Argument) → length (codecs.argument.spell a) ≤ 5
unfolding codecs.argument uleb
argument_room argument.Gas = omega arith
argument_room (argument.Input n) = let a = number_room 2 n in omega arith
argument_room (argument.Result c) = let a = number_room 2 c in omega arith
argument_room (argument.Nested c k) = let a = both (number_spell 2 c) (number_spell 2 k) 2 2 (number_room 2 c) (number_room 2 k) in omega arith

arguments_room : (xs : List Argument) → length (flat_map codecs.argument.spell xs) ≤ 5 * length xs
arguments_room [] = omega arith
arguments_room (x ∷ xs) =
    let e = length-append (codecs.argument.spell x) (flat_map codecs.argument.spell xs) in let a = argument_room x in let b = arguments_room xs in omega arith

list_room : (xs : List Argument) → nat_lt 64 (length xs) ≡ false → length (seq_spell codecs.argument.spell xs) ≤ 325
unfolding seq_spell
list_room xs e =
    let few = ltb-false 64 (length xs) e in
    let a = arguments_room xs in
    let b : length (flat_map codecs.argument.spell xs) ≤ 320 = omega arith in
    both (uleb (length xs)) (flat_map codecs.argument.spell xs) 5 320 (uleb_room (length xs)) b

kind_room : (k : Kind) → length (kind.spell k) ≤ 1
unfolding kind uleb
kind_room kinds.Coin = omega arith
kind_room kinds.Cap = omega arith
kind_room kinds.Counter = omega arith
kind_room kinds.Vault = omega arith
kind_room kinds.VaultKey = omega arith
kind_room kinds.Limit = omega arith

command_room : (c : Command) → is_bulky_command c ≡ false → length (codecs.command.spell c) ≤ 331
unfolding codecs.command uleb
command_room (command.Call native args) e =
    let a = both (number_spell 1 native) (seq_spell codecs.argument.spell args) 1 325 (number_room 1 native) (list_room args e) in omega arith
command_room (command.Transfer values to) e =
    let a = both (seq_spell codecs.argument.spell values) (codecs.argument.spell to) 325 5 (list_room values e) (argument_room to) in omega arith
command_room (command.Split coin amounts) e =
    let a = both (codecs.argument.spell coin) (seq_spell codecs.argument.spell amounts) 5 325 (argument_room coin) (list_room amounts e) in omega arith
command_room (command.Merge target sources) e =
    let a = both (codecs.argument.spell target) (seq_spell codecs.argument.spell sources) 5 325 (argument_room target) (list_room sources e) in omega arith
command_room (command.MakeVec of_kind values) e =
    let a = both (kind.spell of_kind) (seq_spell codecs.argument.spell values) 1 325 (kind_room of_kind) (list_room values e) in omega arith

-- ---- lists of them

inputs_room : (xs : List Input) → list_any is_bulky_input xs ≡ false → length (flat_map codecs.input.spell xs) ≤ 134 * length xs
inputs_room [] e = omega arith
inputs_room (x ∷ xs) e =
    let parts = or_false (is_bulky_input x) (list_any is_bulky_input xs) e in
    let l = length-append (codecs.input.spell x) (flat_map codecs.input.spell xs) in
    let a = input_room x parts.0 in
    let b = inputs_room xs parts.1 in
    omega arith

commands_room : (xs : List Command) → list_any is_bulky_command xs ≡ false → length (flat_map codecs.command.spell xs) ≤ 331 * length xs
commands_room [] e = omega arith
commands_room (x ∷ xs) e =
    let parts = or_false (is_bulky_command x) (list_any is_bulky_command xs) e in
    let l = length-append (codecs.command.spell x) (flat_map codecs.command.spell xs) in
    let a = command_room x parts.0 in
    let b = commands_room xs parts.1 in
    omega arith

few_inputs : (xs : List Input) → nat_lt 128 (length xs) ≡ false → list_any is_bulky_input xs ≡ false → length (seq_spell codecs.input.spell xs) ≤ 17157
unfolding seq_spell
few_inputs xs few e =
    let n = ltb-false 128 (length xs) few in
    let a = inputs_room xs e in
    let b : length (flat_map codecs.input.spell xs) ≤ 17152 = omega arith in
    both (uleb (length xs)) (flat_map codecs.input.spell xs) 5 17152 (uleb_room (length xs)) b

few_commands : (xs : List Command) → nat_lt 300 (length xs) ≡ false → list_any is_bulky_command xs ≡ false → length (seq_spell codecs.command.spell xs) ≤ 99305
unfolding seq_spell
few_commands xs few e =
    let n = ltb-false 300 (length xs) few in
    let a = commands_room xs e in
    let b : length (flat_map codecs.command.spell xs) ≤ 99300 = omega arith in
    both (uleb (length xs)) (flat_map codecs.command.spell xs) 5 99300 (uleb_room (length xs)) b

-- ---- the whole

whole_room : (t : Transaction) → length t.sender.0.0 ≤ 32 → length (object_ref.spell t.gas) ≤ 72
    → length (seq_spell codecs.input.spell t.inputs) ≤ 17157 → length (seq_spell codecs.command.spell t.commands) ≤ 99305 → length (codecs.transaction.spell t) ≤ 116582
unfolding codecs.transaction address digest
whole_room t sender gas inputs commands =
    both (number_spell 8 t.epoch) _ 8 116574 (number_room 8 t.epoch)
    (both t.sender.0.0 _ 32 116542 sender
    (both (object_ref.spell t.gas) _ 72 116470 gas
    (both (number_spell 8 t.budget) _ 8 116462 (number_room 8 t.budget)
    (both (seq_spell codecs.input.spell t.inputs) (seq_spell codecs.command.spell t.commands) 17157 99305 inputs commands))))

pub brief_short : (t : Transaction) → has_bulk t ≡ false → nat_lt 131072 (length (codecs.transaction.spell t)) ≡ false
brief_short t e =
    let a = or_false (nat_lt 32 (length t.sender.0.0)) (is_bulky_ref t.gas || (nat_lt 128 (length t.inputs) || (list_any is_bulky_input t.inputs || (nat_lt 300 (length t.commands) || list_any is_bulky_command t.commands)))) e in
    let b = or_false (is_bulky_ref t.gas) (nat_lt 128 (length t.inputs) || (list_any is_bulky_input t.inputs || (nat_lt 300 (length t.commands) || list_any is_bulky_command t.commands))) a.1 in
    let c = or_false (nat_lt 128 (length t.inputs)) (list_any is_bulky_input t.inputs || (nat_lt 300 (length t.commands) || list_any is_bulky_command t.commands)) b.1 in
    let d = or_false (list_any is_bulky_input t.inputs) (nat_lt 300 (length t.commands) || list_any is_bulky_command t.commands) c.1 in
    let f = or_false (nat_lt 300 (length t.commands)) (list_any is_bulky_command t.commands) d.1 in
    let few = whole_room t (ltb-false 32 (length t.sender.0.0) a.0) (ref_room t.gas b.0) (few_inputs t.inputs c.0 d.0) (few_commands t.commands f.0 f.1) in
    not_long (length (codecs.transaction.spell t)) few
  where
    not_long : (n : ℕ) → n ≤ 116582 → nat_lt 131072 n ≡ false
    not_long n few = go (nat_lt 131072 n) refl
      where
        go : (b : Bool) → nat_lt 131072 n ≡ b → nat_lt 131072 n ≡ false
        go false is = is
        go true is = absurd (let l = ltb-true 131072 n is in omega arith)
