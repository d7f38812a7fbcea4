-- Lemmas on executions.
use Rattle.std.proofs.Common.{◌≡◌, List, refl, sym, ap, ◌∙◌, append_assoc}
use Rattle.std.specs.List.{list_any}
use Rattle.std.specs.Prelude.{Result, Ok, Err, ◌++◌, map, flat_map, false, [], ◌∷◌, filter, zip, Option, true, None, Bool, cond, Some, is_some}
use Rattle.chain_types.specs.Digests.{transaction_digest, is_object}
use Rattle.chain_types.specs.Equal.{digest_eq}
use Rattle.chain_types.specs.declared.objects.Object.{Object}
use Rattle.chain_types.specs.declared.transactions.Input.{Input}
use Rattle.chain_types.specs.declared.transactions.Transaction.{Transaction}
use Rattle.protocol_spec.proofs.ListLemmas.{flat_append}
use Rattle.protocol_spec.specs.Block.Block.{Block}
use Rattle.protocol_spec.specs.Block.Execution.{Failure, executed_by, execution, outcome}
use Rattle.protocol_spec.specs.Chain.Keys.{is_shared_input}
use Rattle.protocol_spec.specs.Member.Rounds.{wanted_by, Books, ready}
use Rattle.protocol_spec.specs.Member.Versions.{Execution, opened, written_by, versions, is_executed, execution_of}
use Rattle.digest_core.specs.declared.Digest.{Digest}
use Rattle.protocol_spec.specs.declared.answers.Assigned.{Assigned}
use Rattle.protocol_spec.specs.declared.answers.Held.{Held}
use Rattle.chain_types.specs.declared.transactions.Input.TheVariants as inputs

pub effects_tx : (t : Transaction) (objects : List Object) → (execution t objects).effects.tx ≡ transaction_digest t
unfolding execution
effects_tx t objects = go (outcome t (transaction_digest t) objects)
  where
    go : (r : Result Block Failure) → (executed_by t (transaction_digest t) objects r).effects.tx ≡ transaction_digest t
    go (Ok b) = refl
    go (Err f) = refl

pub versions_more : (opening : List Object) (before more : List Execution) → versions opening (before ++ more) ≡ versions opening before ++ flat_map written_by more
unfolding versions
versions_more opening before more = ap (λ vs. map opened opening ++ vs) (flat_append written_by before more) ∙ sym (append_assoc (map opened opening) (flat_map written_by before) (flat_map written_by more))

pub same_wants : (is : List Input) (os : List (Option Digest)) (a b : Option (List Assigned)) → list_any is_shared_input is ≡ false → map (wanted_by a) (zip (filter is_object is) os) ≡ map (wanted_by b) (zip (filter is_object is) os)
same_wants [] os a b none = refl
same_wants (inputs.Pure bytes ∷ is) os a b none = same_wants is os a b none
same_wants (inputs.Owned r ∷ is) [] a b none = refl
same_wants (inputs.Owned r ∷ is) (o ∷ os) a b none = ap (λ ws. wanted_by a (inputs.Owned r, o) ∷ ws) (same_wants is os a b none)
same_wants (inputs.Immutable r ∷ is) [] a b none = refl
same_wants (inputs.Immutable r ∷ is) (o ∷ os) a b none = ap (λ ws. wanted_by a (inputs.Immutable r, o) ∷ ws) (same_wants is os a b none)
same_wants (inputs.Shared id initial mutable ∷ is) os a b none = absurd (cc)

pub ready_once : (b : Books) (executed : List Execution) (h : Held) → is_executed executed h.digest ≡ true → ready b executed h ≡ None
unfolding ready
ready_once b executed h is = rw is refl

pub stays_executed : (xs ys : List Execution) (d : Digest) → is_executed xs d ≡ true → is_executed (xs ++ ys) d ≡ true
stays_executed [] ys d is = absurd (cc)
stays_executed (x ∷ xs) ys d is = go (digest_eq x.digest d) is (stays_executed xs ys d)
  where
    go : (b : Bool) → is_some (cond b (Some x) (execution_of xs d)) ≡ true → (is_executed xs d ≡ true → is_executed (xs ++ ys) d ≡ true) → is_some (cond b (Some x) (execution_of (xs ++ ys) d)) ≡ true
    go true is more = refl
    go false is more = more is
