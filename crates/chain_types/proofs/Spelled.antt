-- A transaction whose lists are short enough can be encoded.
use Rattle.std.proofs.Common.{◌≡◌, ℕ, zero, suc, ◌<◌, Bool, true, false, ◌||◌, List, [], ◌∷◌, length, refl, arith}
use Rattle.std.specs.Prelude.{All, slice_index_or}
use Rattle.std.specs.List.{list_any}
use Rattle.std.proofs.lemmas.Bool.{ltb-false}
use Rattle.wire_bcs.specs.Items.{length_limit}
use Rattle.wire_bcs.specs.Digests.{digest}
use Rattle.chain_types.specs.Objects.{address, kind, object_id, object_ref}
use Rattle.chain_types.specs.declared.objects.Kind.{Kind}
use Rattle.chain_types.specs.declared.objects.Kind.TheVariants as kinds
use Rattle.chain_types.specs.declared.transactions.Argument.{Argument}
use Rattle.chain_types.specs.declared.transactions.Argument.TheVariants as argument
use Rattle.chain_types.specs.declared.transactions.Command.{Command}
use Rattle.chain_types.specs.declared.transactions.Command.TheVariants as command
use Rattle.chain_types.specs.declared.transactions.Input.{Input}
use Rattle.chain_types.specs.declared.transactions.Input.TheVariants as input
use Rattle.chain_types.specs.declared.transactions.Transaction.{Transaction}
use Rattle.chain_types.specs.Transactions as codecs
use Rattle.chain_types.specs.Long.{has_long_list, is_long_command, is_long_input, is_long_list}

none_of : {A : Type 0} (test : A → Bool) (P : A → Type 0) → ((x : A) → test x ≡ false → P x) → (xs : List A) → list_any test xs ≡ false → All P xs
none_of test P holds [] e = λ k d l. absurd (omega arith)
none_of {A = A} test P holds (x ∷ xs) e = go (test x) refl e (none_of test P holds xs)
  where
    go : (b : Bool) → test x ≡ b → (b || list_any test xs) ≡ false → (list_any test xs ≡ false → All P xs) → All P (x ∷ xs)
    go true is h more = absurd (cc)
    go false is h more = λ k d l. at k d l
      where
        at : (k : ℕ) → (d : A) → k < length (x ∷ xs) → P (slice_index_or (x ∷ xs) k d)
        at zero d l = holds x is
        at (suc k) d l = more h k d (omega arith)

kind_short : (k : Kind) → kind.short k
unfolding kind
kind_short kinds.Coin = tt
kind_short kinds.Cap = tt
kind_short kinds.Counter = tt
kind_short kinds.Vault = tt
kind_short kinds.VaultKey = tt
kind_short kinds.Limit = tt

argument_short : (a : Argument) → codecs.argument.short a
unfolding codecs.argument
argument_short argument.Gas = tt
argument_short (argument.Input n) = tt
argument_short (argument.Result c) = tt
argument_short (argument.Nested c k) = (tt, tt)

args_short : (most : ℕ) → most < length_limit → (xs : List Argument) → is_long_list most xs ≡ false → (length xs < length_limit) × All codecs.argument.short xs
args_short most m xs e = let a = ltb-false most (length xs) e in (omega arith, λ k d l. argument_short (slice_index_or xs k d))

input_short : (most : ℕ) → most < length_limit → (i : Input) → is_long_input most i ≡ false → codecs.input.short i
unfolding codecs.input object_ref object_id digest
input_short most m (input.Pure bytes) e = let a = ltb-false most (length bytes) e in omega arith
input_short most m (input.Owned r) e = (tt, (tt, tt))
input_short most m (input.Immutable r) e = (tt, (tt, tt))
input_short most m (input.Shared id initial mutable) e = (tt, (tt, tt))

command_short : (most : ℕ) → most < length_limit → (c : Command) → is_long_command most c ≡ false → codecs.command.short c
unfolding codecs.command
command_short most m (command.Call native args) e = (tt, args_short most m args e)
command_short most m (command.Transfer values to) e = (args_short most m values e, argument_short to)
command_short most m (command.Split coin amounts) e = (argument_short coin, args_short most m amounts e)
command_short most m (command.Merge target sources) e = (argument_short target, args_short most m sources e)
command_short most m (command.MakeVec of_kind values) e = (kind_short of_kind, args_short most m values e)

-- lists that are short enough for a limit below that of BCS
pub short_lists : (most : ℕ) → most < length_limit → (t : Transaction) → has_long_list most t ≡ false → codecs.transaction.short t
unfolding codecs.transaction address object_ref object_id digest
short_lists most m t e =
    go (is_long_list most t.inputs) refl (list_any (is_long_input most) t.inputs) refl (is_long_list most t.commands) refl (list_any (is_long_command most) t.commands) refl e
  where
    go : (a : Bool) → is_long_list most t.inputs ≡ a → (b : Bool) → list_any (is_long_input most) t.inputs ≡ b → (c : Bool) → is_long_list most t.commands ≡ c
        → (d : Bool) → list_any (is_long_command most) t.commands ≡ d → (a || (b || (c || d))) ≡ false → codecs.transaction.short t
    go true p b q c r d s e = absurd (cc)
    go false p true q c r d s e = absurd (cc)
    go false p false q true r d s e = absurd (cc)
    go false p false q false r true s e = absurd (cc)
    go false p false q false r false s e =
        let x = ltb-false most (length t.inputs) p in
        let y = ltb-false most (length t.commands) r in (
          tt,
          (
            tt,
            (
              (tt, (tt, tt)),
              (
                tt,
                (
                  (omega arith, none_of (is_long_input most) codecs.input.short (input_short most m) t.inputs q),
                  (omega arith, none_of (is_long_command most) codecs.command.short (command_short most m) t.commands s),
                ),
              ),
            ),
          ),
        )
