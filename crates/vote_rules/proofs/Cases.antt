-- The cases over all objects of a transaction, and who made a version.
use Rattle.std.proofs.Common.{◌≡◌, ℕ, List, [], ◌∷◌, Option, Some, None, refl, ap, sym, ◌∙◌, option_map}
use Rattle.std.specs.Prelude.{filter}
use Rattle.digest_core.specs.declared.Digest.{Digest}
use Rattle.chain_types.specs.declared.objects.ObjectKey.{ObjectKey}
use Rattle.chain_types.specs.declared.refusals.DecideRefusal.{DecideRefusal}
use Rattle.chain_types.specs.declared.transactions.Input.{Input}
use Rattle.chain_types.specs.declared.transactions.Input.TheVariants as inputs
use Rattle.chain_types.specs.declared.transactions.Transaction.{Transaction}
use Rattle.chain_types.specs.Digests.{is_object}
use Rattle.protocol_spec.specs.Chain.Words.{first_of, first_some}
use Rattle.protocol_spec.specs.Chain.Keys.{objects_of}
use Rattle.protocol_spec.specs.Member.Versions.{Version}
use Rattle.protocol_spec.specs.Member.Votes.{Ballot, locked, made_by}
use Rattle.vote_rules.specs.declared.case.Case.{Case}
use Rattle.vote_rules.specs.declared.case.Case.TheVariants as case
use Rattle.vote_rules.specs.Cases.{made_in, says}

pub made_by_is : (v : Option Version) → made_in (option_map (λ (x : Version). x.producer) v) ≡ made_by v
made_by_is None = refl
made_by_is (Some v) = refl

-- without votes nothing is locked
pub none_locked : (keys : List ObjectKey) (tx : Digest) → first_of (locked [] tx) keys ≡ None
none_locked [] tx = refl
none_locked (k ∷ ks) tx = ap (λ o. first_some (None ∷ o ∷ [])) (none_locked ks tx)

nothing_of_bytes : (c : Case) (b : Ballot) (t : Transaction) (bytes : List ℕ) → says c b t (inputs.Pure bytes) ≡ None
nothing_of_bytes case.Absent b t bytes = refl
nothing_of_bytes case.WrongDigest b t bytes = refl
nothing_of_bytes case.WrongOwner b t bytes = refl
nothing_of_bytes case.WrongKind b t bytes = refl

-- inputs that name no object do not matter
among_objects : (c : Case) (b : Ballot) (t : Transaction) (xs : List Input) → first_of (says c b t) (filter is_object xs) ≡ first_of (says c b t) xs
among_objects c b t [] = refl
among_objects c b t (inputs.Pure bytes ∷ xs) = among_objects c b t xs ∙ sym (ap (λ o. first_some (o ∷ first_of (says c b t) xs ∷ [])) (nothing_of_bytes c b t bytes) ∙ one (first_of (says c b t) xs))
  where
    one : (o : Option DecideRefusal) → first_some (None ∷ o ∷ []) ≡ o
    one None = refl
    one (Some r) = refl
among_objects c b t (inputs.Owned r ∷ xs) = ap (λ o. first_some (says c b t (inputs.Owned r) ∷ o ∷ [])) (among_objects c b t xs)
among_objects c b t (inputs.Immutable r ∷ xs) = ap (λ o. first_some (says c b t (inputs.Immutable r) ∷ o ∷ [])) (among_objects c b t xs)
among_objects c b t (inputs.Shared id initial mutable ∷ xs) = ap (λ o. first_some (says c b t (inputs.Shared id initial mutable) ∷ o ∷ [])) (among_objects c b t xs)

-- gas first, and then the inputs
pub gas_first : (c : Case) (b : Ballot) (t : Transaction) → first_some (says c b t (inputs.Owned t.gas) ∷ first_of (says c b t) t.inputs ∷ []) ≡ first_of (says c b t) (objects_of t)
gas_first c b t = ap (λ o. first_some (says c b t (inputs.Owned t.gas) ∷ o ∷ [])) (sym (among_objects c b t t.inputs))
