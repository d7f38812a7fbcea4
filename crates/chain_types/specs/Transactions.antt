-- Transactions on the wire (BCS; the variant numbers are this profile's).
use Rattle.std.specs.Prelude.{ℕ, Bool, List, ◌⊎◌, refl}
use Rattle.std.proofs.Common.{inl, inr}
use Rattle.wire_bcs.specs.Codec.{Codec}
use Rattle.wire_bcs.specs.Items.{number, nothing, bool_codec, bytes_codec}
use Rattle.wire_bcs.specs.Shapes.{pair, by, seq}
use Rattle.wire_bcs.specs.Tags.{case, last, choice}
use Rattle.wire_bcs.specs.Digests.{digest}
use Rattle.chain_types.specs.declared.objects.ObjectId.{ObjectId}
use Rattle.chain_types.specs.declared.objects.ObjectRef.{ObjectRef}
use Rattle.chain_types.specs.declared.objects.Kind.{Kind}
use Rattle.chain_types.specs.declared.transactions.Input.{Input}
use Rattle.chain_types.specs.declared.transactions.Input.TheVariants as inputs
use Rattle.chain_types.specs.declared.transactions.Argument.{Argument}
use Rattle.chain_types.specs.declared.transactions.Argument.TheVariants as arguments
use Rattle.chain_types.specs.declared.transactions.Command.{Command}
use Rattle.chain_types.specs.declared.transactions.Command.TheVariants as commands
use Rattle.chain_types.specs.declared.transactions.Transaction.{Transaction}
use Rattle.chain_types.specs.declared.transactions.SignedTx.{SignedTx}
use Rattle.chain_types.specs.Objects.{object_id, address, object_ref, kind}

-- ---- Pure 0 (bytes with length); Owned 1 (ref); Immutable 2 (ref); Shared 3 (id, initial version, mutable)

abbrev pub InputParts : Type 0
InputParts = List ℕ ⊎ (ObjectRef ⊎ (ObjectRef ⊎ (ObjectId × (ℕ × Bool))))

abbrev pub input_to : Input → InputParts
input_to (inputs.Pure bytes) = inl bytes
input_to (inputs.Owned ref) = inr (inl ref)
input_to (inputs.Immutable ref) = inr (inr (inl ref))
input_to (inputs.Shared id initial mutable) = inr (inr (inr (id, (initial, mutable))))

abbrev pub input_from : InputParts → Input
input_from (inl bytes) = inputs.Pure bytes
input_from (inr (inl ref)) = inputs.Owned ref
input_from (inr (inr (inl ref))) = inputs.Immutable ref
input_from (inr (inr (inr p))) = inputs.Shared p.0 p.1.0 p.1.1

unfoldable pub input : Codec Input
input = by input_to input_from
    (elim [ inputs.Pure b ↦ refl | inputs.Owned r ↦ refl | inputs.Immutable r ↦ refl | inputs.Shared i v m ↦ refl ])
    (elim [ inl b ↦ refl | inr (inl r) ↦ refl | inr (inr (inl r)) ↦ refl | inr (inr (inr p)) ↦ refl ])
    (choice
    (case 0 bytes_codec  -- Pure
    (case 1 object_ref  -- Owned
    (case 2 object_ref  -- Immutable
    (last 3 (pair object_id (pair (number 8) bool_codec)))  -- Shared
    refl) refl) refl) refl)

-- ---- Gas 0; Input 1 (u16); Result 2 (u16); Nested 3 (u16, u16)

abbrev pub ArgumentParts : Type 0
ArgumentParts = Unit {0} ⊎ (ℕ ⊎ (ℕ ⊎ (ℕ × ℕ)))

abbrev pub argument_to : Argument → ArgumentParts
argument_to arguments.Gas = inl tt
argument_to (arguments.Input i) = inr (inl i)
argument_to (arguments.Result c) = inr (inr (inl c))
argument_to (arguments.Nested c k) = inr (inr (inr (c, k)))

abbrev pub argument_from : ArgumentParts → Argument
argument_from (inl u) = arguments.Gas
argument_from (inr (inl i)) = arguments.Input i
argument_from (inr (inr (inl c))) = arguments.Result c
argument_from (inr (inr (inr p))) = arguments.Nested p.0 p.1

unfoldable pub argument : Codec Argument
argument = by argument_to argument_from
    (elim [ arguments.Gas ↦ refl | arguments.Input i ↦ refl | arguments.Result c ↦ refl | arguments.Nested c k ↦ refl ])
    (elim [ inl u ↦ refl | inr (inl i) ↦ refl | inr (inr (inl c)) ↦ refl | inr (inr (inr p)) ↦ refl ])
    (choice
    (case 0 nothing  -- Gas
    (case 1 (number 2)  -- Input
    (case 2 (number 2)  -- Result
    (last 3 (pair (number 2) (number 2)))  -- Nested
    refl) refl) refl) refl)

-- ---- Call 0 (native u8, args); Transfer 1 (values, to); Split 2 (coin, amounts); Merge 3 (target, sources); MakeVec 5 (kind, values)

abbrev pub CommandParts : Type 0
CommandParts = (ℕ × List Argument) ⊎ ((List Argument × Argument) ⊎ ((Argument × List Argument) ⊎ ((Argument × List Argument) ⊎ (Kind × List Argument))))

abbrev pub command_to : Command → CommandParts
command_to (commands.Call native args) = inl (native, args)
command_to (commands.Transfer values to) = inr (inl (values, to))
command_to (commands.Split coin amounts) = inr (inr (inl (coin, amounts)))
command_to (commands.Merge target sources) = inr (inr (inr (inl (target, sources))))
command_to (commands.MakeVec of_kind values) = inr (inr (inr (inr (of_kind, values))))

abbrev pub command_from : CommandParts → Command
command_from (inl p) = commands.Call p.0 p.1
command_from (inr (inl p)) = commands.Transfer p.0 p.1
command_from (inr (inr (inl p))) = commands.Split p.0 p.1
command_from (inr (inr (inr (inl p)))) = commands.Merge p.0 p.1
command_from (inr (inr (inr (inr p)))) = commands.MakeVec p.0 p.1

unfoldable pub command : Codec Command
command = by command_to command_from
    (elim [ commands.Call a b ↦ refl | commands.Transfer a b ↦ refl | commands.Split a b ↦ refl | commands.Merge a b ↦ refl | commands.MakeVec a b ↦ refl ])
    (elim [ inl p ↦ refl | inr (inl p) ↦ refl | inr (inr (inl p)) ↦ refl | inr (inr (inr (inl p))) ↦ refl | inr (inr (inr (inr p))) ↦ refl ])
    (choice
    (case 0 (pair (number 1) (seq argument))  -- Call
    (case 1 (pair (seq argument) argument)  -- Transfer
    (case 2 (pair argument (seq argument))  -- Split
    (case 3 (pair argument (seq argument))  -- Merge
    (last 5 (pair kind (seq argument)))  -- MakeVec
    refl) refl) refl) refl) refl)

-- epoch, sender, gas ref, budget, inputs, commands
unfoldable pub transaction : Codec Transaction
transaction = by (λ t. (t.epoch, (t.sender, (t.gas, (t.budget, (t.inputs, t.commands))))))
    (λ p. record { epoch = p.0; sender = p.1.0; gas = p.1.1.0; budget = p.1.1.1.0; inputs = p.1.1.1.1.0; commands = p.1.1.1.1.1 }) (λ _. refl) (λ _. refl)
    (pair (number 8) (pair address (pair object_ref (pair (number 8) (pair (seq input) (seq command))))))

-- transaction, seal
unfoldable pub signed : Codec SignedTx
signed = by (λ s. (s.tx, s.seal)) (λ p. record { tx = p.0; seal = p.1 }) (λ _. refl) (λ _. refl) (pair transaction digest)
