-- A Merge, by its cases.
use Rattle.std.proofs.Common.{◌≡◌, ℕ, ◌+◌, Bool, true, false, not, List, [], ◌∷◌, Option, Some, None, refl, ap, sym, ◌∙◌}
use Rattle.std.specs.Prelude.{◌==◌, nat_le, Result, Ok, Err, if◌then◌else◌}
use Rattle.std.specs.List.{list_any}
use Rattle.chain_types.specs.declared.transactions.Argument.{Argument}
use Rattle.chain_types.specs.declared.transactions.Transaction.{Transaction}
use Rattle.protocol_spec.specs.Chain.Words.{first_some, unless_refused, where_true}
use Rattle.protocol_spec.specs.declared.pieces.Item.{Item}
use Rattle.protocol_spec.specs.Block.Natives.{amount_limit, amount_of, currency_of}
use Rattle.protocol_spec.specs.Block.Block as block
use Rattle.protocol_spec.specs.Block.Commands as commands

-- the two cases and the block, by what each test says
merged_by : (a b : Bool) (done : block.Block) → Result block.Block commands.Fault
merged_by a b done = unless_refused (first_some (where_true a (commands.cause 10) ∷ where_true b (commands.cause 9) ∷ [])) done

pub merge_other : (t : Transaction) (b : block.Block) (target : Argument) (found : Option Item) (item : Item) (items : List Item) (sources : List Argument)
    → Some item ≡ found → items ≡ commands.items_in b sources
    → true ≡ list_any (λ (i : Item). not (currency_of i.content == currency_of item.content)) items
    → commands.merge t b target found sources ≡ Err (commands.cause 10)
unfolding merged_by
merge_other t b target found item items sources is are other =
    ap (λ (f : Option Item). commands.merge t b target f sources) (sym is)
    ∙ ap (λ (x : Bool). merged_by x (nat_le amount_limit (amount_of item.content + commands.withheld t target + commands.sum_of (commands.items_in b sources))) (commands.merge_block b target item sources))
    (ap (λ (l : List Item). list_any (λ (i : Item). not (currency_of i.content == currency_of item.content)) l) (sym are) ∙ sym other)

not_over : (over : Bool) (total y : ℕ) → Some y ≡ (if over then None else Some total) → over ≡ false
not_over true total y e = absurd (cc)
not_over false total y e = refl

is_over : (over : Bool) (total : ℕ) → None ≡ (if over then None else Some total) → over ≡ true
is_over true total e = refl
is_over false total e = absurd (cc)

by_tests : (t : Transaction) (b : block.Block) (target : Argument) (found : Option Item) (item : Item) (items : List Item) (sources : List Argument) (over : Bool)
    → Some item ≡ found → items ≡ commands.items_in b sources
    → false ≡ list_any (λ (i : Item). not (currency_of i.content == currency_of item.content)) items
    → nat_le amount_limit (amount_of item.content + commands.withheld t target + commands.sum_of items) ≡ over
    → commands.merge t b target found sources ≡ merged_by false over (commands.merge_block b target item sources)
unfolding merged_by
by_tests t b target found item items sources over is are same is_over =
    ap (λ (f : Option Item). commands.merge t b target f sources) (sym is)
    ∙ ap (λ (x : Bool). merged_by x (nat_le amount_limit (amount_of item.content + commands.withheld t target + commands.sum_of (commands.items_in b sources))) (commands.merge_block b target item sources))
    (ap (λ (l : List Item). list_any (λ (i : Item). not (currency_of i.content == currency_of item.content)) l) (sym are) ∙ sym same)
    ∙ ap (λ (x : Bool). merged_by false x (commands.merge_block b target item sources))
    (ap (λ (l : List Item). nat_le amount_limit (amount_of item.content + commands.withheld t target + commands.sum_of l)) (sym are) ∙ is_over)

pub merge_over : (t : Transaction) (b : block.Block) (target : Argument) (found : Option Item) (item : Item) (items : List Item) (sources : List Argument) (total : ℕ)
    → Some item ≡ found → items ≡ commands.items_in b sources
    → false ≡ list_any (λ (i : Item). not (currency_of i.content == currency_of item.content)) items
    → None ≡ (if nat_le amount_limit (amount_of item.content + commands.withheld t target + commands.sum_of items) then None else Some total)
    → commands.merge t b target found sources ≡ Err (commands.cause 9)
unfolding merged_by
merge_over t b target found item items sources total is are same none =
    by_tests t b target found item items sources true is are same (is_over (nat_le amount_limit (amount_of item.content + commands.withheld t target + commands.sum_of items)) total none)

pub merge_done : (t : Transaction) (b : block.Block) (target : Argument) (found : Option Item) (item : Item) (items : List Item) (sources : List Argument) (total y : ℕ) (new : block.Block)
    → Some item ≡ found → items ≡ commands.items_in b sources
    → false ≡ list_any (λ (i : Item). not (currency_of i.content == currency_of item.content)) items
    → Some y ≡ (if nat_le amount_limit (amount_of item.content + commands.withheld t target + commands.sum_of items) then None else Some total)
    → new ≡ commands.merge_block b target item sources
    → commands.merge t b target found sources ≡ Ok new
unfolding merged_by
merge_done t b target found item items sources total y new is are same some done =
    by_tests t b target found item items sources false is are same (not_over (nat_le amount_limit (amount_of item.content + commands.withheld t target + commands.sum_of items)) total y some)
    ∙ ap (λ (x : block.Block). Ok x) (sym done)
