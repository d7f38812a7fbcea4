-- An execution creates no more than its commands can draw.
use Rattle.std.proofs.Common.{refl, subst, arith}
use Rattle.std.specs.Prelude.{◌≡◌, ◌≤◌, ◌+◌, ℕ, suc, sum, Bool, true, false, cond, nat_lt, List, [], ◌∷◌, map, length, Option, Some, None, option_map, Result, Ok, Err}
use Rattle.std.specs.List.{list_any}
use Rattle.digest_core.specs.declared.Digest.{Digest}
use Rattle.chain_types.specs.declared.objects.Object.{Object}
use Rattle.chain_types.specs.declared.transactions.Argument.{Argument}
use Rattle.chain_types.specs.declared.transactions.Command.{Command}
use Rattle.chain_types.specs.declared.transactions.Command.TheVariants as command
use Rattle.chain_types.specs.declared.transactions.Transaction.{Transaction}
use Rattle.protocol_spec.specs.declared.pieces.Item.{Item}
use Rattle.protocol_spec.specs.declared.pieces.Given.{Given}
use Rattle.protocol_spec.specs.declared.pieces.Gave.{Gave}
use Rattle.protocol_spec.specs.declared.pieces.Gave.TheVariants as gave
use Rattle.chain_types.specs.Digests.{transaction_digest}
use Rattle.protocol_spec.proofs.ListLemmas.{map_length}
use Rattle.protocol_spec.specs.Chain.Words.{first_some, refused_or}
use Rattle.protocol_spec.specs.Chain.Keys.{version_of}
use Rattle.protocol_spec.specs.Block.Natives.{amount_of, parameters_of, Site, native_gives}
use Rattle.protocol_spec.proofs.Gifts.{Gift, Any, AnyNumber, any-gift}
use Rattle.protocol_spec.specs.Block.Block.{Block}
use Rattle.protocol_spec.specs.Block.Commands.{Fault, cause, Need, paired, number_in, item_in, items_in, split_block, split, merge_cases, merge_block, merge, address_in, transfer_block, vector_block, given_all, called_block, called, site, performed, taken_cause, command_step}
use Rattle.protocol_spec.specs.Block.Execution.{Failure, commands_next, commands_from, is_unused, checked_end, first_block, outcome, execution, executed_by}
use Rattle.world_spec.specs.Names.{draws_of, draws}
use Rattle.block_law.proofs.Slots.{spend-made}
use Rattle.block_law.proofs.Steps.{done, ok-same, unless-ok}

-- what a native says of the number of the next creation
abbrev MakesMost : ℕ → Gave → Type 0
MakesMost most (gave.Abort code) = Unit {0}
MakesMost most (gave.Done results changed left made) = made ≤ most

native-most : (native : ℕ) (s : Site) (args : List Given) → MakesMost (s.made + 2) (native_gives native s args)
native-most native s args = go (native_gives native s args) (any-gift s args native)
  where
    go : (g : Gave) → Gift Any AnyNumber s args native g → MakesMost (s.made + 2) g
    go (gave.Abort code) h = tt
    go (gave.Done results changed left made) h = h.few

-- ---- a command

module _ (t : Transaction) (tx : Digest) (version c : ℕ) (b after : Block) where
  abbrev Most : ℕ → Type 0
  Most k = after.made ≤ b.made + k

  same-made : (x : Block) (k : ℕ) → done Block Fault x ≡ Ok after → x.made ≤ b.made + k → Most k
  same-made x k e low = subst (λ (y : Block). y.made ≤ b.made + k) (ok-same Fault x after e) low

  split-most : (coin : Argument) (item : Option Item) (amounts : List ℕ) → split (site tx version b) c b coin item amounts ≡ Ok after → Most (length amounts)
  split-most coin None amounts e = absurd (cc)
  split-most coin (Some item) amounts e = go (nat_lt (amount_of item.content) (sum amounts)) e
    where
      go : (x : Bool) → cond x (Err (cause 8)) (done Block Fault (split_block (site tx version b) c b coin item amounts)) ≡ Ok after → Most (length amounts)
      go true e = absurd (cc)
      go false e = same-made (split_block (site tx version b) c b coin item amounts) (length amounts) e (omega arith)

  merge-most : (target : Argument) (item : Option Item) (sources : List Argument) → merge t b target item sources ≡ Ok after → Most 0
  merge-most target None sources e = absurd (cc)
  merge-most target (Some item) sources e =
      let same = (unless-ok (first_some (merge_cases t target item (items_in b sources))) (merge_block b target item sources) after e).1 in
      let made = spend-made sources b in
      subst (λ (y : Block). y.made ≤ b.made + 0) same (omega (arith, made))

  called-most : (needs : List (Argument × Need)) (g : Gave) → MakesMost (b.made + 2) g → called c b needs g ≡ Ok after → Most 2
  called-most needs (gave.Abort code) low e = absurd (cc)
  called-most needs (gave.Done results changed left made) low e = same-made (called_block c b needs results changed left made) 2 e low

  performed-most : (x : Command) → performed t tx version c b x ≡ Ok after → Most (draws_of x)
  performed-most (command.Split coin amounts) e = subst Most (map_length (number_in b) amounts) (split-most coin (item_in b coin) (map (number_in b) amounts) e)
  performed-most (command.Merge target sources) e = merge-most target (item_in b target) sources e
  performed-most (command.Transfer values to) e = let made = spend-made values b in same-made (transfer_block b values (address_in b to)) 0 e (omega (arith, made))
  performed-most (command.MakeVec k values) e = let made = spend-made values b in same-made (vector_block c b k values) 0 e (omega (arith, made))
  performed-most (command.Call native args) e =
      called-most (paired args (parameters_of native)) (native_gives native (site tx version b) (given_all b (paired args (parameters_of native)))) (native-most native (site tx version b) (given_all b (paired args (parameters_of native)))) e

  step-most : (x : Command) → command_step t tx version c b x ≡ Ok after → Most (draws_of x)
  unfolding command_step
  step-most x e = go (taken_cause t b x) e
    where
      go : (o : Option ℕ) → refused_or (option_map cause o) (performed t tx version c b x) ≡ Ok after → Most (draws_of x)
      go None e = performed-most x e
      go (Some k) e = absurd (cc)

-- ---- all commands

commands-most : (t : Transaction) (tx : Digest) (version c : ℕ) (xs : List Command) (b after : Block) → commands_from t tx version c xs b ≡ Ok after → after.made ≤ b.made + draws xs
commands-most t tx version c [] b after e = subst (λ (y : Block). y.made ≤ b.made + 0) (ok-same Failure b after e) (omega arith)
commands-most t tx version c (x ∷ xs) b after e = go (command_step t tx version c b x) refl e (λ next f. commands-most t tx version (suc c) xs next after f)
  where
    go : (r : Result Block Fault) → command_step t tx version c b x ≡ r → commands_next t tx version c (commands_from t tx version (suc c) xs) r ≡ Ok after → ((next : Block) → commands_from t tx version (suc c) xs next ≡ Ok after → after.made ≤ next.made + draws xs) → after.made ≤ b.made + draws (x ∷ xs)
    go (Ok next) h e rest = let one = step-most t tx version c b next x h in let two = rest next e in omega (arith, one, two)
    go (Err fault) h e rest = absurd (cc)

outcome-most : (t : Transaction) (tx : Digest) (objects : List Object) (b : Block) → outcome t tx objects ≡ Ok b → b.made ≤ draws t.commands
unfolding outcome
outcome-most t tx objects b e = go (commands_from t tx (version_of objects) 0 t.commands (first_block t objects)) refl e
  where
    ended : (y : Block) (x : Bool) → cond x (Err (length t.commands, cause 12)) (done Block Failure y) ≡ Ok b → y ≡ b
    ended y true e = absurd (cc)
    ended y false e = ok-same Failure y b e

    go : (r : Result Block Failure) → commands_from t tx (version_of objects) 0 t.commands (first_block t objects) ≡ r → checked_end t r ≡ Ok b → b.made ≤ draws t.commands
    go (Err failure) h e = absurd (cc)
    go (Ok y) h e = subst (λ (z : Block). z.made ≤ draws t.commands) (ended y (list_any is_unused y.slots) e) (let low = commands-most t tx (version_of objects) 0 t.commands (first_block t objects) y h in omega (arith, low))

pub created-most : (t : Transaction) (objects : List Object) → (execution t objects).effects.created ≤ draws t.commands
unfolding execution
created-most t objects = go (outcome t (transaction_digest t) objects) refl
  where
    go : (r : Result Block Failure) → outcome t (transaction_digest t) objects ≡ r → (executed_by t (transaction_digest t) objects r).effects.created ≤ draws t.commands
    go (Ok b) h = outcome-most t (transaction_digest t) objects b h
    go (Err failure) h = omega arith
