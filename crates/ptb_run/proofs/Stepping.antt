-- A step, by its first cause.
use Rattle.std.proofs.Common.{◌≡◌, ℕ, Bool, true, false, not, ◌&&◌, List, [], ◌∷◌, ◌++◌, Option, Some, None, refl, ap, ◌∙◌}
use Rattle.std.specs.Prelude.{Err, option_map}
use Rattle.std.specs.List.{list_all}
use Rattle.std.proofs.lemmas.Bool.{and_from}
use Rattle.digest_core.specs.declared.Digest.{Digest}
use Rattle.chain_types.specs.declared.transactions.Argument.{Argument}
use Rattle.chain_types.specs.declared.transactions.Command.{Command}
use Rattle.chain_types.specs.declared.transactions.Transaction.{Transaction}
use Rattle.protocol_spec.specs.Chain.Words.{first_some, refused_or, where_true}
use Rattle.protocol_spec.specs.Block.Block as block
use Rattle.protocol_spec.specs.Block.Commands as commands
use Rattle.ptb_run.specs.declared.halt.Cause.{Cause}
use Rattle.ptb_run.specs.Causes.{number_of_cause}
use Rattle.ptb_run.specs.Takes.{is_taken, may_take}

-- a value of which no cause speaks may be taken
free_value : (t : Transaction) (c : Command) (earlier : List Argument) (a : Argument) (need : commands.Need) (v : Option block.Value)
    → commands.value_cause t c earlier a need v ≡ None → may_take need v ≡ true
free_value t c earlier a need None e = absurd (cc)
free_value t c earlier a need (Some value) e = go (commands.is_bad_pure need value) (commands.is_right_kind need value) e
  where
    go : (bad right : Bool)
        → first_some {A = ℕ} (where_true bad 3 ∷ where_true (not right) 4 ∷ where_true (commands.takes_value need && commands.stays_in_place t c (commands.place_of a)) 5 ∷ where_true (commands.changes_value need && commands.is_frozen_place t (commands.place_of a)) 6 ∷ where_true (commands.is_aliased earlier a value) 7 ∷ []) ≡ None
        → (not bad && right) ≡ true
    go true right e = absurd (cc)
    go false true e = refl
    go false false e = absurd (cc)

first_none : (x y : Option ℕ) → first_some (x ∷ y ∷ []) ≡ None → (x ≡ None) × (y ≡ None)
first_none None None e = (refl, refl)
first_none None (Some n) e = absurd (cc)
first_none (Some n) y e = absurd (cc)

all_free : (t : Transaction) (b : block.Block) (c : Command) (earlier : List Argument) (needs : List (Argument × commands.Need))
    → commands.arguments_cause t b c earlier needs ≡ None → list_all (is_taken b) needs ≡ true
unfolding is_taken
all_free t b c earlier [] e = refl
all_free t b c earlier (x ∷ rest) e =
    let parts = first_none (commands.argument_cause t b c earlier x.0 x.1) (commands.arguments_cause t b c (earlier ++ x.0 ∷ []) rest) e in
    let own = first_none (where_true (commands.has_no_result b x.0) 2) (commands.value_cause t c earlier x.0 x.1 (block.value_in (commands.place_of x.0) b.slots)) parts.0 in
    and_from (may_take x.1 (block.value_in (commands.place_of x.0) b.slots)) (list_all (is_taken b) rest)
    (free_value t c earlier x.0 x.1 (block.value_in (commands.place_of x.0) b.slots) own.1)
    (all_free t b c (earlier ++ x.0 ∷ []) rest parts.1)

pub all_taken : (t : Transaction) (b : block.Block) (c : Command) → commands.arguments_cause t b c [] (commands.needs_of c) ≡ None → list_all (is_taken b) (commands.needs_of c) ≡ true
all_taken t b c e = all_free t b c [] (commands.needs_of c) e

-- what the code says of the arguments, as a number

pub said_some : (said : Option Cause) (k : Cause) → said ≡ Some k → option_map number_of_cause said ≡ Some (number_of_cause k)
said_some said k is = ap (option_map number_of_cause) is

pub said_none : (said : Option Cause) → said ≡ None → option_map number_of_cause said ≡ None
said_none said is = ap (option_map number_of_cause) is

pub miscounted : (t : Transaction) (tx : Digest) (version n : ℕ) (b : block.Block) (c : Command) → commands.wrong_count c ≡ true
    → commands.command_step t tx version n b c ≡ Err (commands.cause 11)
unfolding commands.command_step
miscounted t tx version n b c e =
    ap (λ (w : Bool). refused_or (option_map commands.cause (first_some (where_true w 11 ∷ commands.arguments_cause t b c [] (commands.needs_of c) ∷ []))) (commands.performed t tx version n b c)) e

pub caused : (t : Transaction) (tx : Digest) (version n : ℕ) (b : block.Block) (c : Command) (k : ℕ) → commands.wrong_count c ≡ false → commands.arguments_cause t b c [] (commands.needs_of c) ≡ Some k
    → commands.command_step t tx version n b c ≡ Err (commands.cause k)
unfolding commands.command_step
caused t tx version n b c k counted e =
    ap (λ (w : Bool). refused_or (option_map commands.cause (first_some (where_true w 11 ∷ commands.arguments_cause t b c [] (commands.needs_of c) ∷ []))) (commands.performed t tx version n b c)) counted
    ∙ ap (λ (x : Option ℕ). refused_or (option_map commands.cause (first_some (x ∷ []))) (commands.performed t tx version n b c)) e

pub free_step : (t : Transaction) (tx : Digest) (version n : ℕ) (b : block.Block) (c : Command) → commands.wrong_count c ≡ false → commands.arguments_cause t b c [] (commands.needs_of c) ≡ None
    → commands.command_step t tx version n b c ≡ commands.performed t tx version n b c
unfolding commands.command_step
free_step t tx version n b c counted e =
    ap (λ (w : Bool). refused_or (option_map commands.cause (first_some (where_true w 11 ∷ commands.arguments_cause t b c [] (commands.needs_of c) ∷ []))) (commands.performed t tx version n b c)) counted
    ∙ ap (λ (x : Option ℕ). refused_or (option_map commands.cause (first_some (x ∷ []))) (commands.performed t tx version n b c)) e
