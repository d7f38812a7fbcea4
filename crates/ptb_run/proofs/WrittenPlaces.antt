-- The objects that are written are those of the definition.
use Rattle.std.proofs.Common.{◌≡◌, ℕ, suc, ◌+◌, Bool, true, false, List, [], ◌∷◌, ◌++◌, map, refl, ap, sym, ◌∙◌, append-nil, append_assoc, add-one}
use Rattle.std.specs.Prelude.{if◌then◌else◌}
use Rattle.chain_types.specs.declared.objects.Object.{Object}
use Rattle.chain_types.specs.declared.transactions.Input.{Input}
use Rattle.chain_types.specs.declared.transactions.Input.TheVariants as inputs
use Rattle.chain_types.specs.declared.transactions.Transaction.{Transaction}
use Rattle.protocol_spec.specs.Block.Block as block
use Rattle.protocol_spec.specs.Block.Execution as execution
use Rattle.ptb_run.specs.declared.value.Spot.TheVariants as spots
use Rattle.ptb_run.specs.declared.written.Moved.{Moved}
use Rattle.ptb_run.specs.Written.{moved_after, moved_of, with_written}

map_last : (xs : List Moved) (x : Moved) → map moved_of (xs ++ x ∷ []) ≡ map moved_of xs ++ moved_of x ∷ []
map_last [] x = refl
map_last (y ∷ ys) x = ap (λ l. moved_of y ∷ l) (map_last ys x)

one_more : (t : Bool) (n : ℕ) (o : Object) (moved : List Moved) (rest : List (block.Place × Object))
    → map moved_of (if t then moved ++ record { spot = spots.Input n; object = o } ∷ [] else moved) ++ rest ≡ map moved_of moved ++ (if t then (block.input n, o) ∷ rest else rest)
one_more true n o moved rest =
    ap (λ (l : List (block.Place × Object)). l ++ rest) (map_last moved (record { spot = spots.Input n; object = o })) ∙ append_assoc (map moved_of moved) ((block.input n, o) ∷ []) rest
one_more false n o moved rest = refl

next : (i : Input) (n : ℕ) (o : Object) (moved : List Moved) (is : List Input) (os : List Object)
    → ((more : List Moved) → map moved_of (moved_after more (n + 1) is os) ≡ map moved_of more ++ execution.written_inputs (n + 1) is os)
    → map moved_of (moved_after (with_written i n o moved) (n + 1) is os)
    ≡ map moved_of moved ++ (if execution.is_written i then (block.input n, o) ∷ execution.written_inputs (suc n) is os else execution.written_inputs (suc n) is os)
next i n o moved is os further =
    further (with_written i n o moved)
    ∙ one_more (execution.is_written i) n o moved (execution.written_inputs (n + 1) is os)
    ∙ ap (λ (m : ℕ). map moved_of moved ++ (if execution.is_written i then (block.input n, o) ∷ execution.written_inputs m is os else execution.written_inputs m is os)) (add-one n)

places_from : (moved : List Moved) (n : ℕ) (is : List Input) (os : List Object) → map moved_of (moved_after moved n is os) ≡ map moved_of moved ++ execution.written_inputs n is os
places_from moved n [] os = sym (append-nil (map moved_of moved))
places_from moved n (inputs.Pure bytes ∷ is) os = places_from moved (n + 1) is os ∙ ap (λ (m : ℕ). map moved_of moved ++ execution.written_inputs m is os) (add-one n)
places_from moved n (inputs.Owned r ∷ is) [] = sym (append-nil (map moved_of moved))
places_from moved n (inputs.Immutable r ∷ is) [] = sym (append-nil (map moved_of moved))
places_from moved n (inputs.Shared id initial mutable ∷ is) [] = sym (append-nil (map moved_of moved))
places_from moved n (inputs.Owned r ∷ is) (o ∷ os) = next (inputs.Owned r) n o moved is os (λ more. places_from more (n + 1) is os)
places_from moved n (inputs.Immutable r ∷ is) (o ∷ os) = next (inputs.Immutable r) n o moved is os (λ more. places_from more (n + 1) is os)
places_from moved n (inputs.Shared id initial mutable ∷ is) (o ∷ os) = next (inputs.Shared id initial mutable) n o moved is os (λ more. places_from more (n + 1) is os)

pub places_are : (t : Transaction) (gas : Object) (others : List Object)
    → map moved_of (moved_after (record { spot = spots.Gas; object = gas } ∷ []) 0 t.inputs others) ≡ execution.written_places t (gas ∷ others)
places_are t gas others = places_from (record { spot = spots.Gas; object = gas } ∷ []) 0 t.inputs others
