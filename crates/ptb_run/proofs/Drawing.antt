-- How many numbers of creations a command draws: 512 at most; and the results of a native that draws are what it drew.
use Rattle.std.proofs.Common.{◌≡◌, ◌⊎◌, ℕ, ◌+◌, ◌≤◌, Bool, true, false, List, [], ◌∷◌, length, map, Option, Some, None, refl, ap, sym, subst, inl, inr, arith}
use Rattle.std.proofs.lemmas.Bool.{le-leb, ltb-false}
use Rattle.std.proofs.lemmas.List.{length-map}
use Rattle.ptb_run.specs.Drawn.{AreDrawn, new_ids}
use Rattle.ptb_run.specs.Outcomes.{is_wide}
use Rattle.std.specs.Prelude.{nat_le, nat_lt, sum, Result, Ok, Err, option_map, if◌then◌else◌}
use Rattle.digest_core.specs.declared.Digest.{Digest}
use Rattle.chain_types.specs.declared.objects.ObjectId.{ObjectId}
use Rattle.chain_types.specs.declared.transactions.Argument.{Argument}
use Rattle.chain_types.specs.declared.transactions.Command.{Command}
use Rattle.chain_types.specs.declared.transactions.Command.TheVariants as command
use Rattle.chain_types.specs.declared.transactions.Transaction.{Transaction}
use Rattle.protocol_spec.specs.Chain.Words.{first_some, refused_or, unless_refused}
use Rattle.protocol_spec.specs.Chain.Shape.{arguments_of}
use Rattle.protocol_spec.specs.declared.pieces.Gave.{Gave}
use Rattle.protocol_spec.specs.declared.pieces.Gave.TheVariants as gave
use Rattle.protocol_spec.specs.declared.pieces.Given.{Given}
use Rattle.protocol_spec.specs.declared.pieces.Item.{Item}
use Rattle.protocol_spec.specs.declared.pieces.Placed.{Placed}
use Rattle.protocol_spec.specs.Block.Natives.{Site, amount_of, native_gives, parameters_of}
use Rattle.protocol_spec.proofs.Gifts.{InOrder, Gift, Any, AnyNumber, any-gift}
use Rattle.protocol_spec.specs.Block.Block as block
use Rattle.protocol_spec.specs.Block.Commands as commands

abbrev Draws : Site → Gave → Type 0
Draws s (gave.Abort code) = Unit {0}
Draws s (gave.Done results changed placed next) = (next ≤ s.made + 2) × AreDrawn s.tx s.made (new_ids s.made next results)

-- none of the ids, or all of them
unless : (tx : Digest) (n : ℕ) (ids : List ObjectId) (b : Bool) → AreDrawn tx n ids → AreDrawn tx n (if b then [] else ids)
unless tx n ids true h = tt
unless tx n ids false h = h

-- what draws no number
stays : (tx : Digest) (n : ℕ) (ids : List ObjectId) (b : Bool) → b ≡ true → AreDrawn tx n (if b then [] else ids)
stays tx n ids true e = tt
stays tx n ids false e = absurd (cc)

in_order : (tx : Digest) (n : ℕ) (is : List Item) → InOrder tx n is → AreDrawn tx n (map (λ (i : Item). i.id) is)
in_order tx n [] h = tt
in_order tx n (i ∷ is) h = (h.0, in_order tx (n + 1) is h.1)

native_draws : (native : ℕ) (s : Site) (args : List Given) → Draws s (native_gives native s args)
native_draws native s args = go (native_gives native s args) (any-gift s args native)
  where
    drew : (results : List Item) (next : ℕ) → (next ≡ s.made) ⊎ InOrder s.tx s.made results → AreDrawn s.tx s.made (new_ids s.made next results)
    drew results next (inl e) = stays s.tx s.made (map (λ (i : Item). i.id) results) (nat_le next s.made) (le-leb next s.made (omega (arith, e)))
    drew results next (inr h) = unless s.tx s.made (map (λ (i : Item). i.id) results) (nat_le next s.made) (in_order s.tx s.made results h)

    go : (g : Gave) → Gift Any AnyNumber s args native g → Draws s g
    go (gave.Abort code) h = tt
    go (gave.Done results changed placed next) h = (h.few, drew results next h.drawn)

pub results_drawn : (native : ℕ) (tx : Digest) (version made : ℕ) (args : List Given) (results lent : List Item) (changed : Option Item) (placed : Option Placed) (next : ℕ)
    → gave.Done results changed placed next ≡ native_gives native (record { tx = tx; version = version; made = made }) args → lent ≡ results → AreDrawn tx made (new_ids made next lent)
results_drawn native tx version made args results lent changed placed next is same =
    let s : Site = record { tx = tx; version = version; made = made } in
    let all : Draws s (gave.Done results changed placed next) = subst (Draws s) (sym is) (native_draws native s args) in
    subst (λ (l : List Item). AreDrawn tx made (new_ids made next l)) (sym same) all.1

spent_made : (args : List Argument) (b : block.Block) → (commands.spend_all args b).made ≡ b.made
spent_made [] b = refl
spent_made (a ∷ rest) b = spent_made rest (commands.spend a b)

is_done : (x y : block.Block) → ◌≡◌ {A = Result block.Block commands.Fault} (Ok x) (Ok y) → x ≡ y
is_done x y e = cc

split_draws : (s : Site) (c : ℕ) (b d : block.Block) (coin : Argument) (found : Option Item) (amounts : List ℕ) → commands.split s c b coin found amounts ≡ Ok d → d.made ≤ b.made + length amounts
split_draws s c b d coin None amounts e = absurd (cc)
split_draws s c b d coin (Some item) amounts e = go (nat_lt (amount_of item.content) (sum amounts)) e
  where
    go : (t : Bool) → (if t then Err (commands.cause 8) else Ok (commands.split_block s c b coin item amounts)) ≡ Ok d → d.made ≤ b.made + length amounts
    go true h = absurd (cc)
    go false h = let same = ap (λ (x : block.Block). x.made) (is_done (commands.split_block s c b coin item amounts) d h) in omega arith

merge_draws : (t : Transaction) (b d : block.Block) (target : Argument) (found : Option Item) (sources : List Argument) → commands.merge t b target found sources ≡ Ok d → d.made ≤ b.made + 512
merge_draws t b d target None sources e = absurd (cc)
merge_draws t b d target (Some item) sources e = go (first_some (commands.merge_cases t target item (commands.items_in b sources))) e
  where
    go : (f : Option commands.Fault) → unless_refused f (commands.merge_block b target item sources) ≡ Ok d → d.made ≤ b.made + 512
    go (Some f) h = absurd (cc)
    go None h =
        let same = ap (λ (x : block.Block). x.made) (is_done (commands.merge_block b target item sources) d h) in
        let spent = spent_made sources b in
        omega arith

call_draws : (s : Site) (c : ℕ) (b d : block.Block) (needs : List (Argument × commands.Need)) (g : Gave) → s.made ≡ b.made → Draws s g → commands.called c b needs g ≡ Ok d → d.made ≤ b.made + 512
call_draws s c b d needs (gave.Abort code) at few e = absurd (cc)
call_draws s c b d needs (gave.Done results changed left made) at few e =
    let low : made ≤ s.made + 2 = few.0 in
    let same = ap (λ (x : block.Block). x.made) (is_done (commands.called_block c b needs results changed left made) d e) in omega arith

does_draw : (t : Transaction) (tx : Digest) (version n : ℕ) (b d : block.Block) (x : Command) → length (arguments_of x) ≤ 512 → commands.performed t tx version n b x ≡ Ok d → d.made ≤ b.made + 512
does_draw t tx version n b d (command.Split coin amounts) few e =
    let drawn = split_draws (commands.site tx version b) n b d coin (commands.item_in b coin) (map (commands.number_in b) amounts) e in
    let same = length-map amounts (commands.number_in b) in
    omega arith
does_draw t tx version n b d (command.Merge target sources) few e = merge_draws t b d target (commands.item_in b target) sources e
does_draw t tx version n b d (command.Transfer values to) few e =
    let same = ap (λ (x : block.Block). x.made) (is_done (commands.transfer_block b values (commands.address_in b to)) d e) in
    let spent = spent_made values b in
    omega arith
does_draw t tx version n b d (command.MakeVec k values) few e =
    let same = ap (λ (x : block.Block). x.made) (is_done (commands.vector_block n b k values) d e) in
    let spent = spent_made values b in
    omega arith
does_draw t tx version n b d (command.Call native args) few e =
    call_draws (commands.site tx version b) n b d (commands.paired args (parameters_of native)) (native_gives native (commands.site tx version b) (commands.given_all b (commands.paired args (parameters_of native))))
    refl (native_draws native (commands.site tx version b) (commands.given_all b (commands.paired args (parameters_of native)))) e

pub few_arguments : (x : Command) → is_wide x ≡ false → length (arguments_of x) ≤ 512
few_arguments x e = ltb-false 512 (length (arguments_of x)) e

pub step_draws : (t : Transaction) (tx : Digest) (version n : ℕ) (b d : block.Block) (x : Command) → is_wide x ≡ false → commands.command_step t tx version n b x ≡ Ok d → d.made ≤ b.made + 512
unfolding commands.command_step
step_draws t tx version n b d x few e = go (option_map commands.cause (commands.taken_cause t b x)) e
  where
    go : (f : Option commands.Fault) → refused_or f (commands.performed t tx version n b x) ≡ Ok d → d.made ≤ b.made + 512
    go (Some f) h = absurd (cc)
    go None h = does_draw t tx version n b d x (few_arguments x few) h
