-- The objects among the inputs of a transaction.
use Rattle.std.proofs.Common.{◌≡◌, ℕ, ◌≤◌, ◌||◌, List, [], ◌∷◌, length, take, take_all, refl, ap, sym, ◌∙◌}
use Rattle.std.specs.Prelude.{filter, filter_map}
use Rattle.std.specs.List.{list_any}
use Rattle.chain_types.specs.declared.transactions.Input.{Input}
use Rattle.chain_types.specs.declared.transactions.Input.TheVariants as input
use Rattle.chain_types.specs.declared.transactions.Transaction.{Transaction}
use Rattle.chain_types.specs.declared.objects.ObjectId.{ObjectId}
use Rattle.chain_types.specs.Equal.{id_eq}
use Rattle.chain_types.specs.Digests.{is_object}
use Rattle.protocol_spec.specs.Chain.Keys.{named_id, named_ids, objects_of}
use Rattle.protocol_spec.specs.Chain.Shape.{is_bad_version, names_bad_version}
use Rattle.protocol_spec.specs.Chain.Words.{repeats}
use Rattle.tx_check.specs.Parts.{names_id, two_named}

bad_kept : (xs : List Input) → list_any names_bad_version (filter is_object xs) ≡ list_any names_bad_version xs
bad_kept [] = refl
bad_kept (input.Pure bytes ∷ xs) = bad_kept xs
bad_kept (input.Owned r ∷ xs) = ap (λ b. is_bad_version r.version || b) (bad_kept xs)
bad_kept (input.Immutable r ∷ xs) = ap (λ b. is_bad_version r.version || b) (bad_kept xs)
bad_kept (input.Shared id initial mutable ∷ xs) = ap (λ b. is_bad_version initial || b) (bad_kept xs)

pub bad_among_objects : (t : Transaction) → list_any names_bad_version (objects_of t) ≡ (is_bad_version t.gas.version || list_any names_bad_version t.inputs)
bad_among_objects t = ap (λ b. is_bad_version t.gas.version || b) (bad_kept t.inputs)

ids_kept : (xs : List Input) → filter_map named_id (filter is_object xs) ≡ filter_map named_id xs
ids_kept [] = refl
ids_kept (input.Pure bytes ∷ xs) = ids_kept xs
ids_kept (input.Owned r ∷ xs) = ap (λ ids. r.id ∷ ids) (ids_kept xs)
ids_kept (input.Immutable r ∷ xs) = ap (λ ids. r.id ∷ ids) (ids_kept xs)
ids_kept (input.Shared id initial mutable ∷ xs) = ap (λ ids. id ∷ ids) (ids_kept xs)

ids_among_inputs : (t : Transaction) → named_ids t ≡ t.gas.id ∷ filter_map named_id t.inputs
ids_among_inputs t = ap (λ ids. t.gas.id ∷ ids) (ids_kept t.inputs)

-- the ids, if all inputs were gone through
pub ids_all : (t : Transaction) (ids : List ObjectId) (place : ℕ) → length t.inputs ≤ place → ids ≡ t.gas.id ∷ filter_map named_id (take place t.inputs) → ids ≡ named_ids t
ids_all t ids place end e = e ∙ ap (λ inputs. t.gas.id ∷ filter_map named_id inputs) (take_all place t.inputs end) ∙ sym (ids_among_inputs t)

-- an id is named by one of the inputs if it is among their ids
named_kept : (id : ObjectId) (xs : List Input) → list_any (names_id id) xs ≡ list_any (id_eq id) (filter_map named_id xs)
named_kept id [] = refl
named_kept id (input.Pure bytes ∷ xs) = named_kept id xs
named_kept id (input.Owned r ∷ xs) = ap (λ b. id_eq id r.id || b) (named_kept id xs)
named_kept id (input.Immutable r ∷ xs) = ap (λ b. id_eq id r.id || b) (named_kept id xs)
named_kept id (input.Shared other initial mutable ∷ xs) = ap (λ b. id_eq id other || b) (named_kept id xs)

two_kept : (xs : List Input) → two_named xs ≡ repeats id_eq (filter_map named_id xs)
two_kept [] = refl
two_kept (input.Pure bytes ∷ xs) = two_kept xs
two_kept (input.Owned r ∷ xs) = ap (λ b. b || two_named xs) (named_kept r.id xs) ∙ ap (λ b. list_any (id_eq r.id) (filter_map named_id xs) || b) (two_kept xs)
two_kept (input.Immutable r ∷ xs) = ap (λ b. b || two_named xs) (named_kept r.id xs) ∙ ap (λ b. list_any (id_eq r.id) (filter_map named_id xs) || b) (two_kept xs)
two_kept (input.Shared id initial mutable ∷ xs) = ap (λ b. b || two_named xs) (named_kept id xs) ∙ ap (λ b. list_any (id_eq id) (filter_map named_id xs) || b) (two_kept xs)

-- an id comes twice if an input names the gas coin's, or two inputs name one
pub ids_repeat : (t : Transaction) → repeats id_eq (named_ids t) ≡ (list_any (names_id t.gas.id) t.inputs || two_named t.inputs)
ids_repeat t =
    ap (repeats id_eq) (ids_among_inputs t)
    ∙ ap (λ b. b || repeats id_eq (filter_map named_id t.inputs)) (sym (named_kept t.gas.id t.inputs))
    ∙ ap (λ b. list_any (names_id t.gas.id) t.inputs || b) (sym (two_kept t.inputs))
