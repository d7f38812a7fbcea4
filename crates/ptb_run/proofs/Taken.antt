-- The bytes of numbers and addresses that may be taken.
use Rattle.std.proofs.Common.{◌≡◌, Bool, true, false, not, ◌&&◌, length, Option, Some, None, refl}
use Rattle.std.specs.Prelude.{◌==◌}
use Rattle.std.proofs.lemmas.Bool.{eqb-true}
use Rattle.chain_types.specs.declared.transactions.Argument.{Argument}
use Rattle.protocol_spec.specs.Block.Block as block
use Rattle.protocol_spec.specs.Block.Commands as commands
use Rattle.ptb_run.specs.Takes.{is_taken, may_take}

not_not : (b c : Bool) → (not (not b) && c) ≡ true → b ≡ true
not_not true c e = refl
not_not false c e = absurd (cc)

eight : (v : Option block.Value) → may_take commands.number v ≡ true → length (commands.bytes_of v) ≡ 8
eight None e = absurd (cc)
eight (Some (block.pure bytes)) e = eqb-true (length bytes) 8 (not_not (length bytes == 8) true e)
eight (Some (block.object i)) e = absurd (cc)
eight (Some (block.vector k is)) e = absurd (cc)

thirty_two : (v : Option block.Value) → may_take commands.address v ≡ true → length (commands.bytes_of v) ≡ 32
thirty_two None e = absurd (cc)
thirty_two (Some (block.pure bytes)) e = eqb-true (length bytes) 32 (not_not (length bytes == 32) true e)
thirty_two (Some (block.object i)) e = absurd (cc)
thirty_two (Some (block.vector k is)) e = absurd (cc)

pub eight_bytes : (b : block.Block) (a : Argument) → is_taken b (a, commands.number) ≡ true → length (commands.bytes_of (block.value_in (commands.place_of a) b.slots)) ≡ 8
unfolding is_taken
eight_bytes b a e = eight (block.value_in (commands.place_of a) b.slots) e

pub thirty_two_bytes : (b : block.Block) (a : Argument) → is_taken b (a, commands.address) ≡ true → length (commands.bytes_of (block.value_in (commands.place_of a) b.slots)) ≡ 32
unfolding is_taken
thirty_two_bytes b a e = thirty_two (block.value_in (commands.place_of a) b.slots) e
