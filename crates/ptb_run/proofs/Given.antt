-- What natives are given, and that it has the forms of their modes.
use Rattle.std.proofs.Common.{◌≡◌, ℕ, true, false, List, [], ◌∷◌, ◌++◌, length, map, Option, Some, None, refl, ap, sym, ◌∙◌, append-nil, append_assoc, arith}
use Rattle.std.specs.List.{list_all}
use Rattle.std.proofs.lemmas.Bool.{and_parts, and_from}
use Rattle.chain_types.specs.declared.transactions.Command.{Command}
use Rattle.chain_types.specs.declared.transactions.Command.TheVariants as command
use Rattle.chain_types.specs.declared.objects.Kind.{Kind}
use Rattle.chain_types.specs.declared.transactions.Argument.{Argument}
use Rattle.protocol_spec.specs.declared.pieces.Given.{Given}
use Rattle.chain_types.specs.declared.natives.Mode.{Mode}
use Rattle.chain_types.specs.declared.natives.Mode.TheVariants as modes
use Rattle.protocol_spec.proofs.Truth.{equal_numbers}
use Rattle.protocol_spec.specs.Block.Natives.{parameters_of}
use Rattle.protocol_spec.specs.Block.Block as block
use Rattle.protocol_spec.specs.Block.Commands as commands
use Rattle.native_calls.specs.Forms.{has_form, have_forms}
use Rattle.ptb_run.specs.declared.needs.Wanted.{Wanted}
use Rattle.ptb_run.specs.Needs.{need_meant, wanted_of}
use Rattle.ptb_run.specs.Takes.{givens_after, is_taken, may_take, value_given}

pub given_by_value : (k : Option Kind) (v : Option block.Value) → value_given v ≡ commands.given_as (commands.by_value k) v
given_by_value k None = refl
given_by_value k (Some (block.pure bytes)) = refl
given_by_value k (Some (block.object i)) = refl
given_by_value k (Some (block.vector d is)) = refl

pub given_by_mut : (k : Kind) (v : Option block.Value) → value_given v ≡ commands.given_as (commands.by_mut k) v
given_by_mut k None = refl
given_by_mut k (Some (block.pure bytes)) = refl
given_by_mut k (Some (block.object i)) = refl
given_by_mut k (Some (block.vector d is)) = refl

pub given_by_ref : (k : Kind) (v : Option block.Value) → value_given v ≡ commands.given_as (commands.by_ref k) v
given_by_ref k None = refl
given_by_ref k (Some (block.pure bytes)) = refl
given_by_ref k (Some (block.object i)) = refl
given_by_ref k (Some (block.vector d is)) = refl

pub given_coins : (v : Option block.Value) → value_given v ≡ commands.given_as commands.coins v
given_coins None = refl
given_coins (Some (block.pure bytes)) = refl
given_coins (Some (block.object i)) = refl
given_coins (Some (block.vector d is)) = refl

givens_from : (b : block.Block) (givens : List Given) (wanted : List Wanted) → givens_after b givens wanted ≡ givens ++ commands.given_all b (map wanted_of wanted)
givens_from b givens [] = sym (append-nil givens)
givens_from b givens (w ∷ rest) =
    givens_from b (givens ++ commands.given_as (need_meant w.need) (block.value_in (commands.place_of w.argument) b.slots) ∷ []) rest
    ∙ append_assoc givens (commands.given_as (need_meant w.need) (block.value_in (commands.place_of w.argument) b.slots) ∷ []) (commands.given_all b (map wanted_of rest))

pub givens_are : (b : block.Block) (wanted : List Wanted) → givens_after b [] wanted ≡ commands.given_all b (map wanted_of wanted)
givens_are b wanted = givens_from b [] wanted

formed : (m : Mode) (v : Option block.Value) → may_take (commands.need_of m) v ≡ true → has_form m (commands.given_as (commands.need_of m) v) ≡ true
formed modes.Number v e = refl
formed (modes.ByValue k) None e = absurd (cc)
formed (modes.ByValue None) (Some (block.pure bytes)) e = absurd (cc)
formed (modes.ByValue (Some k)) (Some (block.pure bytes)) e = absurd (cc)
formed (modes.ByValue k) (Some (block.object i)) e = refl
formed (modes.ByValue None) (Some (block.vector d is)) e = absurd (cc)
formed (modes.ByValue (Some k)) (Some (block.vector d is)) e = absurd (cc)
formed (modes.ByMut k) None e = absurd (cc)
formed (modes.ByMut k) (Some (block.pure bytes)) e = absurd (cc)
formed (modes.ByMut k) (Some (block.object i)) e = refl
formed (modes.ByMut k) (Some (block.vector d is)) e = absurd (cc)
formed (modes.ByRef k) None e = absurd (cc)
formed (modes.ByRef k) (Some (block.pure bytes)) e = absurd (cc)
formed (modes.ByRef k) (Some (block.object i)) e = refl
formed (modes.ByRef k) (Some (block.vector d is)) e = absurd (cc)
formed modes.Coins None e = absurd (cc)
formed modes.Coins (Some (block.pure bytes)) e = absurd (cc)
formed modes.Coins (Some (block.object i)) e = absurd (cc)
formed modes.Coins (Some (block.vector d is)) e = refl

all_formed : (b : block.Block) (args : List Argument) (ms : List Mode) → length args ≡ length ms → list_all (is_taken b) (commands.paired args ms) ≡ true → have_forms ms (commands.given_all b (commands.paired args ms)) ≡ true
unfolding is_taken
all_formed b [] [] same taken = refl
all_formed b [] (m ∷ ms) same taken = absurd (omega arith)
all_formed b (a ∷ args) [] same taken = absurd (omega arith)
all_formed b (a ∷ args) (m ∷ ms) same taken =
    let parts = and_parts (may_take (commands.need_of m) (block.value_in (commands.place_of a) b.slots)) (list_all (is_taken b) (commands.paired args ms)) taken in
    and_from (has_form m (commands.given_as (commands.need_of m) (block.value_in (commands.place_of a) b.slots))) (have_forms ms (commands.given_all b (commands.paired args ms)))
    (formed m (block.value_in (commands.place_of a) b.slots) parts.0)
    (all_formed b args ms (omega arith) parts.1)

pub forms_are : (b : block.Block) (native : ℕ) (args : List Argument) (needs : List (Argument × commands.Need)) → needs ≡ commands.paired args (parameters_of native)
    → length args ≡ length (parameters_of native) → list_all (is_taken b) needs ≡ true → have_forms (parameters_of native) (commands.given_all b needs) ≡ true
forms_are b native args needs is same taken =
    ap (λ (l : List (Argument × commands.Need)). have_forms (parameters_of native) (commands.given_all b l)) is
    ∙ all_formed b args (parameters_of native) same (sym (ap (λ (l : List (Argument × commands.Need)). list_all (is_taken b) l) is) ∙ taken)

-- a call of which no cause speaks has arguments of the forms of its native
pub forms_of : (b : block.Block) (x : Command) (native : ℕ) (args : List Argument) (needs : List (Argument × commands.Need))
    → x ≡ command.Call native args → commands.wrong_count x ≡ false → needs ≡ commands.needs_of x → list_all (is_taken b) (commands.needs_of x) ≡ true
    → have_forms (parameters_of native) (commands.given_all b needs) ≡ true
forms_of b x native args needs at same is taken =
    forms_are b native args needs (is ∙ ap commands.needs_of at)
    (equal_numbers (length args) (length (parameters_of native)) (sym (ap commands.wrong_count at) ∙ same))
    (ap (λ (l : List (Argument × commands.Need)). list_all (is_taken b) l) is ∙ taken)
