-- What leaves a block, and the rows of results that it gains.
use Rattle.std.proofs.Common.{◌≡◌, ℕ, Bool, true, false, ◌+◌, ◌-◌, List, [], ◌∷◌, ◌++◌, length, map, Option, Some, None, refl, ap, sym, ◌∙◌, append-nil, append_assoc}
use Rattle.std.specs.Prelude.{sum, if◌then◌else◌}
use Rattle.std.specs.List.{cons_option, enumerate_from}
use Rattle.digest_core.specs.declared.Digest.{Digest}
use Rattle.chain_types.specs.declared.objects.Kind.{Kind}
use Rattle.chain_types.specs.declared.objects.Owner.{Owner}
use Rattle.chain_types.specs.declared.transactions.Argument.{Argument}
use Rattle.protocol_spec.specs.declared.pieces.Item.{Item}
use Rattle.protocol_spec.specs.declared.pieces.Placed.{Placed}
use Rattle.protocol_spec.specs.Block.Natives.{amount_of, currency_of, holding}
use Rattle.protocol_spec.specs.Block.Block as block
use Rattle.protocol_spec.specs.Block.Commands as commands
use Rattle.ptb_run.specs.declared.value.Value.{Value}
use Rattle.ptb_run.specs.declared.value.Value.TheVariants as values
use Rattle.ptb_run.specs.Blocks.{with_row}
use Rattle.ptb_run.specs.Slots.{result_row}
use Rattle.ptb_run.specs.Rows.{coins_after, items_row_after, new_coin, placed_after, with_placed}

placed_from : (b : block.Block) (placed : List Placed) (who : Owner) (args : List Argument) → placed_after b.slots placed who args ≡ placed ++ map (commands.placed_at who) (commands.items_in b args)
placed_from b placed who [] = sym (append-nil placed)
placed_from b placed who (a ∷ rest) = placed_from b (with_placed placed who (commands.item_in b a)) who rest ∙ go (commands.item_in b a)
  where
    go : (found : Option Item) → with_placed placed who found ++ map (commands.placed_at who) (commands.items_in b rest) ≡ placed ++ map (commands.placed_at who) (cons_option found (commands.items_in b rest))
    go None = refl
    go (Some item) = append_assoc placed (commands.placed_at who item ∷ []) (map (commands.placed_at who) (commands.items_in b rest))

pub placed_are : (b : block.Block) (who : Owner) (args : List Argument) → placed_after b.slots b.placed who args ≡ b.placed ++ map (commands.placed_at who) (commands.items_in b args)
placed_are b who args = placed_from b b.placed who args

pub no_row : (c : ℕ) (b : block.Block) → with_row c [] b ≡ b
no_row c b = ap (λ (l : List block.Slot). record b { slots = l }) (append-nil b.slots)

-- the row of new coins is the list of numbered coins
coins_row : Digest → ℕ → ℕ → ℕ → List ℕ → List (Option Value)
coins_row tx made currency k [] = []
coins_row tx made currency k (amount ∷ rest) = Some (values.Object (new_coin tx made currency k amount)) ∷ coins_row tx made currency (k + 1) rest

coins_from : (tx : Digest) (made currency : ℕ) (row : List (Option Value)) (k : ℕ) (amounts : List ℕ) → coins_after tx made currency row k amounts ≡ row ++ coins_row tx made currency k amounts
unfolding coins_row
coins_from tx made currency row k [] = sym (append-nil row)
coins_from tx made currency row k (amount ∷ rest) =
    coins_from tx made currency (row ++ Some (values.Object (new_coin tx made currency k amount)) ∷ []) (k + 1) rest
    ∙ append_assoc row (Some (values.Object (new_coin tx made currency k amount)) ∷ []) (coins_row tx made currency (k + 1) rest)

numbered_row : (tx : Digest) (version : ℕ) (b : block.Block) (c currency j k : ℕ) (amounts : List ℕ)
    → result_row c j (coins_row tx b.made currency k amounts) ≡ map (λ (v : ℕ × block.Value). record { place = block.result c v.0; value = Some v.1 }) (enumerate_from j (map (commands.numbered_coin (commands.site tx version b) currency) (enumerate_from k amounts)))
unfolding coins_row
numbered_row tx version b c currency j k [] = refl
numbered_row tx version b c currency j k (amount ∷ rest) =
    ap (λ (l : List block.Slot). record { place = block.result c j; value = Some (block.object (new_coin tx b.made currency k amount)) } ∷ l) (numbered_row tx version b c currency (j + 1) (k + 1) rest)

pub split_is : (tx : Digest) (version c : ℕ) (b b1 b2 b3 : block.Block) (coin : Argument) (item : Item) (left : ℕ) (numbers : List ℕ) (row : List (Option Value))
    → left ≡ amount_of item.content - sum numbers
    → row ≡ coins_after tx b.made (currency_of item.content) [] 0 numbers
    → b1 ≡ commands.put_back coin (holding left item) b
    → b2 ≡ record b1 { made = b.made + length numbers }
    → b3 ≡ with_row c row b2
    → b3 ≡ commands.split_block (commands.site tx version b) c b coin item numbers
split_is tx version c b b1 b2 b3 coin item left numbers row is_left is_row put raised added =
    added
    ∙ ap (λ (x : block.Block). with_row c row x) (raised ∙ ap (λ (x : block.Block). record x { made = b.made + length numbers }) (put ∙ ap (λ (n : ℕ). commands.put_back coin (holding n item) b) is_left))
    ∙ ap (λ (l : List block.Slot). record { slots = (commands.put_back coin (holding (amount_of item.content - sum numbers) item) b).slots ++ l; placed = b.placed; made = b.made + length numbers })
    (ap (λ (r : List (Option Value)). result_row c 0 r) (is_row ∙ coins_from tx b.made (currency_of item.content) [] 0 numbers)
    ∙ numbered_row tx version b c (currency_of item.content) 0 0 numbers)

-- places that are spent do not touch what left the block
pub spent_beside : (b : block.Block) (placed : List Placed) (args : List Argument) → commands.spend_all args (record b { placed = placed }) ≡ record (commands.spend_all args b) { placed = placed }
spent_beside b placed [] = refl
spent_beside b placed (a ∷ rest) = spent_beside (commands.spend a b) placed rest

pub transfer_is : (b b1 b2 b3 : block.Block) (values : List Argument) (who : Owner)
    → b1 ≡ record b { placed = b.placed ++ map (commands.placed_at who) (commands.items_in b values) }
    → b2 ≡ commands.spend_all values b1
    → b3 ≡ b2
    → b3 ≡ record (commands.spend_all values b) { placed = b.placed ++ map (commands.placed_at who) (commands.items_in b values) }
transfer_is b b1 b2 b3 values who placed spent added =
    added ∙ spent ∙ ap (λ (x : block.Block). commands.spend_all values x) placed
    ∙ spent_beside b (b.placed ++ map (commands.placed_at who) (commands.items_in b values)) values

pub vector_is : (c : ℕ) (b b1 b2 : block.Block) (kind : Kind) (args : List Argument) (items : List Item) (row : List (Option Value))
    → items ≡ commands.items_in b args
    → row ≡ Some (values.Vector kind items) ∷ []
    → b1 ≡ commands.spend_all args b
    → b2 ≡ with_row c row b1
    → b2 ≡ commands.vector_block c b kind args
vector_is c b b1 b2 kind args items row are is spent added =
    added
    ∙ ap (λ (x : block.Block). with_row c row x) spent
    ∙ ap (λ (r : List (Option Value)). with_row c r (commands.spend_all args b)) (is ∙ ap (λ (l : List Item). Some (values.Vector kind l) ∷ []) are)

pub none_leaves : (placed : List Placed) → placed ≡ placed ++ []
none_leaves placed = sym (append-nil placed)

-- the row of items is the list of their places
items_cells : List Item → List (Option Value)
items_cells [] = []
items_cells (i ∷ rest) = Some (values.Object i) ∷ items_cells rest

items_from : (row : List (Option Value)) (items : List Item) → items_row_after row items ≡ row ++ items_cells items
unfolding items_cells
items_from row [] = sym (append-nil row)
items_from row (i ∷ rest) = items_from (row ++ Some (values.Object i) ∷ []) rest ∙ append_assoc row (Some (values.Object i) ∷ []) (items_cells rest)

items_slots : (c j : ℕ) (items : List Item) → result_row c j (items_cells items) ≡ map (λ (v : ℕ × block.Value). record { place = block.result c v.0; value = Some v.1 }) (enumerate_from j (map block.object items))
unfolding items_cells
items_slots c j [] = refl
items_slots c j (i ∷ rest) = ap (λ (l : List block.Slot). record { place = block.result c j; value = Some (block.object i) } ∷ l) (items_slots c (j + 1) rest)

spent_placed : (needs : List (Argument × commands.Need)) (b : block.Block) → (commands.spend_taken needs b).placed ≡ b.placed
spent_placed [] b = refl
spent_placed (x ∷ rest) b = go (λ (d : block.Block). spent_placed rest d) (commands.takes_value x.1)
  where
    go : ((d : block.Block) → (commands.spend_taken rest d).placed ≡ d.placed) → (t : Bool) → (commands.spend_taken rest (if t then commands.spend x.0 b else b)).placed ≡ b.placed
    go others true = others (commands.spend x.0 b)
    go others false = others b

changed_placed : (needs : List (Argument × commands.Need)) (changed : Option Item) (b : block.Block) → (commands.put_changed needs changed b).placed ≡ b.placed
changed_placed [] changed b = refl
changed_placed (x ∷ rest) None b = refl
changed_placed (x ∷ rest) (Some item) b = refl

pub called_is : (c : ℕ) (b b1 b2 b3 b4 b5 : block.Block) (needs : List (Argument × commands.Need)) (results : List Item) (changed : Option Item) (left : Option Placed) (made : ℕ) (row : List (Option Value))
    → b1 ≡ commands.spend_taken needs b
    → b2 ≡ commands.put_changed needs changed b1
    → b3 ≡ record b2 { placed = b2.placed ++ commands.placed_list left }
    → b4 ≡ record b3 { made = made }
    → row ≡ items_row_after [] results
    → b5 ≡ with_row c row b4
    → b5 ≡ commands.called_block c b needs results changed left made
called_is c b b1 b2 b3 b4 b5 needs results changed left made row spent put left_it raised is_row added =
    added
    ∙ ap (λ (x : block.Block). with_row c row x) (raised ∙ ap (λ (x : block.Block). record x { made = made }) (left_it ∙ ap (λ (x : block.Block). record x { placed = x.placed ++ commands.placed_list left }) (put ∙ ap (λ (x : block.Block). commands.put_changed needs changed x) spent)))
    ∙ ap (λ (l : List Placed). record { slots = (commands.put_changed needs changed (commands.spend_taken needs b)).slots ++ result_row c 0 row; placed = l ++ commands.placed_list left; made = made })
    (changed_placed needs changed (commands.spend_taken needs b) ∙ spent_placed needs b)
    ∙ ap (λ (l : List block.Slot). record { slots = (commands.put_changed needs changed (commands.spend_taken needs b)).slots ++ l; placed = b.placed ++ commands.placed_list left; made = made })
    (ap (λ (r : List (Option Value)). result_row c 0 r) (is_row ∙ items_from [] results) ∙ items_slots c 0 results)
