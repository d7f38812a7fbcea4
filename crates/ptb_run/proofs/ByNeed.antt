-- Kinds of what is needed, by cases.
use Rattle.std.proofs.Common.{◌≡◌, ℕ, false, List, Option, Some, None, refl}
use Rattle.chain_types.specs.declared.objects.Kind.{Kind}
use Rattle.protocol_spec.specs.declared.pieces.Item.{Item}
use Rattle.protocol_spec.specs.Block.Natives.{kind_of}
use Rattle.protocol_spec.specs.Block.Block as block
use Rattle.protocol_spec.specs.Block.Commands as commands
use Rattle.ptb_run.specs.Needs.{is_item_right}

pub no_pure_object : (n : commands.Need) (i : Item) → commands.is_bad_pure n (block.object i) ≡ false
no_pure_object commands.number i = refl
no_pure_object commands.address i = refl
no_pure_object (commands.by_value k) i = refl
no_pure_object (commands.by_mut k) i = refl
no_pure_object (commands.by_ref k) i = refl
no_pure_object commands.coins i = refl

pub no_pure_vector : (n : commands.Need) (k : Kind) (is : List Item) → commands.is_bad_pure n (block.vector k is) ≡ false
no_pure_vector commands.number k is = refl
no_pure_vector commands.address k is = refl
no_pure_vector (commands.by_value v) k is = refl
no_pure_vector (commands.by_mut v) k is = refl
no_pure_vector (commands.by_ref v) k is = refl
no_pure_vector commands.coins k is = refl

pub right_item : (n : commands.Need) (i : Item) → is_item_right n (kind_of i.content) ≡ commands.is_right_kind n (block.object i)
right_item commands.number i = refl
right_item commands.address i = refl
right_item (commands.by_value None) i = refl
right_item (commands.by_value (Some k)) i = refl
right_item (commands.by_mut k) i = refl
right_item (commands.by_ref k) i = refl
right_item commands.coins i = refl

pub right_vector : (v : Option Kind) (k : Kind) (is : List Item) → commands.is_right_kind (commands.by_value v) (block.vector k is) ≡ false
right_vector None k is = refl
right_vector (Some v) k is = refl

pub right_pure : (v : Option Kind) (bytes : List ℕ) → commands.is_right_kind (commands.by_value v) (block.pure bytes) ≡ false
right_pure None bytes = refl
right_pure (Some v) bytes = refl
