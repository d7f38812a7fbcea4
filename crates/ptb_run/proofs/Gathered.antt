-- What is gathered one after the other is what the definitions list.
use Rattle.std.proofs.Common.{◌≡◌, ℕ, zero, suc, ◌+◌, List, [], ◌∷◌, ◌++◌, map, drop, Option, Some, None, refl, ap, sym, ◌∙◌, append-nil, append_assoc, add-one}
use Rattle.std.specs.Prelude.{slice_get}
use Rattle.std.specs.List.{cons_option}
use Rattle.chain_types.specs.declared.transactions.Argument.{Argument}
use Rattle.protocol_spec.specs.declared.pieces.Item.{Item}
use Rattle.chain_types.specs.declared.natives.Mode.{Mode}
use Rattle.chain_types.specs.declared.natives.Mode.TheVariants as modes
use Rattle.protocol_spec.specs.Block.Natives.{parameters_of, mode_of}
use Rattle.protocol_spec.specs.Block.Block as block
use Rattle.protocol_spec.specs.Block.Commands as commands
use Rattle.ptb_run.specs.declared.needs.Need.{Need}
use Rattle.ptb_run.specs.declared.needs.Wanted.{Wanted}
use Rattle.ptb_run.specs.Needs.{all_after, need_meant, need_now, pair_then, pairs_after, wanted_of}
use Rattle.ptb_run.specs.Gathering.{items_after, numbers_after, with_item}

items_from : (b : block.Block) (items : List Item) (args : List Argument) → items_after b items args ≡ items ++ commands.items_in b args
items_from b items [] = sym (append-nil items)
items_from b items (a ∷ rest) = items_from b (with_item items (commands.item_in b a)) rest ∙ go (commands.item_in b a)
  where
    go : (found : Option Item) → with_item items found ++ commands.items_in b rest ≡ items ++ cons_option found (commands.items_in b rest)
    go None = refl
    go (Some item) = append_assoc items (item ∷ []) (commands.items_in b rest)

pub items_are : (b : block.Block) (args : List Argument) → items_after b [] args ≡ commands.items_in b args
items_are b args = items_from b [] args

numbers_from : (b : block.Block) (numbers : List ℕ) (args : List Argument) → numbers_after b numbers args ≡ numbers ++ map (commands.number_in b) args
numbers_from b numbers [] = sym (append-nil numbers)
numbers_from b numbers (a ∷ rest) = numbers_from b (numbers ++ commands.number_in b a ∷ []) rest ∙ append_assoc numbers (commands.number_in b a ∷ []) (map (commands.number_in b) rest)

pub numbers_are : (b : block.Block) (args : List Argument) → numbers_after b [] args ≡ map (commands.number_in b) args
numbers_are b args = numbers_from b [] args

map_last : (xs : List Wanted) (x : Wanted) → map wanted_of (xs ++ x ∷ []) ≡ map wanted_of xs ++ wanted_of x ∷ []
map_last [] x = refl
map_last (y ∷ ys) x = ap (λ l. wanted_of y ∷ l) (map_last ys x)

pub all_before : (wanted : List Wanted) (need : Need) (args : List Argument) → map wanted_of (all_after wanted need args) ≡ map wanted_of wanted ++ commands.all_by (need_meant need) args
all_before wanted need [] = sym (append-nil (map wanted_of wanted))
all_before wanted need (a ∷ rest) =
    all_before (wanted ++ record { argument = a; need = need } ∷ []) need rest
    ∙ ap (λ l. l ++ commands.all_by (need_meant need) rest) (map_last wanted (record { argument = a; need = need }))
    ∙ append_assoc (map wanted_of wanted) ((a, need_meant need) ∷ []) (commands.all_by (need_meant need) rest)

pub all_alone : (need : Need) (args : List Argument) → map wanted_of (all_after [] need args) ≡ commands.all_by (need_meant need) args
all_alone need args = all_before [] need args

pub all_behind : (need : Need) (args : List Argument) (x : Wanted) → map wanted_of (all_after [] need args ++ x ∷ []) ≡ commands.all_by (need_meant need) args ++ wanted_of x ∷ []
all_behind need args x = map_last (all_after [] need args) x ∙ ap (λ l. l ++ wanted_of x ∷ []) (all_alone need args)

-- modes from a place on
dropped_some : (ms : List Mode) (place : ℕ) (m : Mode) → slice_get ms place ≡ Some m → drop place ms ≡ m ∷ drop (suc place) ms
dropped_some [] place m e = absurd (cc)
dropped_some (x ∷ ms) zero m e = let same : x ≡ m = cc in ap (λ (y : Mode). y ∷ ms) same
dropped_some (x ∷ ms) (suc place) m e = dropped_some ms place m e

dropped_none : (ms : List Mode) (place : ℕ) → slice_get ms place ≡ None → drop place ms ≡ []
dropped_none [] zero e = refl
dropped_none [] (suc place) e = refl
dropped_none (x ∷ ms) zero e = absurd (cc)
dropped_none (x ∷ ms) (suc place) e = dropped_none ms place e

meant_now : (m : Mode) → need_meant (need_now m) ≡ commands.need_of m
meant_now modes.Number = refl
meant_now (modes.ByValue k) = refl
meant_now (modes.ByMut k) = refl
meant_now (modes.ByRef k) = refl
meant_now modes.Coins = refl

pairs_from : (wanted : List Wanted) (native place : ℕ) (args : List Argument) → map wanted_of (pairs_after wanted native place args) ≡ map wanted_of wanted ++ commands.paired args (drop place (parameters_of native))
unfolding mode_of
pairs_from wanted native place [] = sym (append-nil (map wanted_of wanted))
pairs_from wanted native place (a ∷ rest) = go (mode_of native place) refl (λ more. pairs_from more native (place + 1) rest)
  where
    go : (found : Option Mode) → mode_of native place ≡ found
        → ((more : List Wanted) → map wanted_of (pairs_after more native (place + 1) rest) ≡ map wanted_of more ++ commands.paired rest (drop (place + 1) (parameters_of native)))
        → map wanted_of (pair_then wanted a (λ (more : List Wanted). pairs_after more native (place + 1) rest) found) ≡ map wanted_of wanted ++ commands.paired (a ∷ rest) (drop place (parameters_of native))
    go None e next =
        sym (append-nil (map wanted_of wanted))
        ∙ ap (λ l. map wanted_of wanted ++ l) (sym (ap (λ (ms : List Mode). commands.paired (a ∷ rest) ms) (dropped_none (parameters_of native) place e)))
    go (Some m) e next =
        next (wanted ++ record { argument = a; need = need_now m } ∷ [])
        ∙ ap (λ l. l ++ commands.paired rest (drop (place + 1) (parameters_of native))) (map_last wanted (record { argument = a; need = need_now m }))
        ∙ append_assoc (map wanted_of wanted) ((a, need_meant (need_now m)) ∷ []) (commands.paired rest (drop (place + 1) (parameters_of native)))
        ∙ ap (λ (n : commands.Need). map wanted_of wanted ++ (a, n) ∷ commands.paired rest (drop (place + 1) (parameters_of native))) (meant_now m)
        ∙ ap (λ (n : ℕ). map wanted_of wanted ++ (a, commands.need_of m) ∷ commands.paired rest (drop n (parameters_of native))) (add-one place)
        ∙ ap (λ (ms : List Mode). map wanted_of wanted ++ commands.paired (a ∷ rest) ms) (sym (dropped_some (parameters_of native) place m e))

pub pairs_are : (native : ℕ) (args : List Argument) → map wanted_of (pairs_after [] native 0 args) ≡ commands.paired args (parameters_of native)
pairs_are native args = pairs_from [] native 0 args
