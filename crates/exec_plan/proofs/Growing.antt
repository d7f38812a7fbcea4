-- What more admitted transactions change: nothing for a certificate that may run already.
use Rattle.std.proofs.Common.{◌≡◌, Bool, true, false, cond, not, ◌||◌, List, [], ◌∷◌, ◌++◌, map, Option, Some, is_some, refl, ap, sym, ◌∙◌}
use Rattle.std.specs.Prelude.{find, option_map, zip}
use Rattle.digest_core.specs.declared.Digest.{Digest}
use Rattle.chain_types.specs.declared.transactions.Input.TheVariants as inputs
use Rattle.chain_types.specs.declared.transactions.Transaction.{Transaction}
use Rattle.chain_types.specs.Equal.{digest_eq}
use Rattle.protocol_spec.specs.declared.answers.Assigned.{Assigned}
use Rattle.protocol_spec.specs.declared.answers.Held.{Held}
use Rattle.protocol_spec.proofs.Executions.{same_wants}
use Rattle.protocol_spec.proofs.Truth.{some_mapped}
use Rattle.protocol_spec.specs.Chain.Keys.{has_shared_input, objects_of}
use Rattle.protocol_spec.specs.Member.Admission.{Admission, Admitted, assigned_in, assigned_of, digest_of_admitted, is_admitted, joined_inputs}
use Rattle.protocol_spec.specs.Member.Rounds.{wanted_by, wants_of}
use Rattle.version_store.proofs.Based.{any_both}
use Rattle.exec_plan.specs.Behind.{is_among}
use Rattle.exec_plan.specs.Books.{is_let}
use Rattle.exec_plan.specs.Waits.{Admits}

-- ---- what is admitted

abbrev of_tx : Digest → Admitted → Bool
of_tx tx x = digest_eq x.digest tx

found_any : (tx : Digest) (admitted : List Admitted) → is_some (find (of_tx tx) admitted) ≡ is_admitted admitted tx
found_any tx [] = refl
found_any tx (x ∷ xs) = go (of_tx tx x) (found_any tx xs)
  where
    go : (b : Bool) → is_some (find (of_tx tx) xs) ≡ is_admitted xs tx → is_some (cond b (Some x) (find (of_tx tx) xs)) ≡ (b || is_admitted xs tx)
    go true rest = refl
    go false rest = rest

-- versions are assigned to exactly those that are admitted
pub assigned_is : (a : Admission) (tx : Digest) → is_some (assigned_of a tx) ≡ is_admitted a.admitted tx
unfolding assigned_of
assigned_is a tx = some_mapped assigned_in (find (of_tx tx) a.admitted) ∙ found_any tx a.admitted

-- one that names a shared object may run if versions are assigned to it
pub let_is : (a : Admission) (h : Held) {b : Bool} → has_shared_input h.cert.tx ≡ true → b ≡ is_some (assigned_of a h.digest) → b ≡ is_let a h
let_is a h shared is = is ∙ assigned_is a h.digest ∙ ap (λ s. not s || is_admitted a.admitted h.digest) (sym shared)

-- ---- what is wanted

found_more : (tx : Digest) (xs ys : List Admitted) → is_admitted xs tx ≡ true → find (of_tx tx) (xs ++ ys) ≡ find (of_tx tx) xs
found_more tx [] ys there = absurd (cc)
found_more tx (x ∷ xs) ys there = go (of_tx tx x) there (found_more tx xs ys)
  where
    go : (b : Bool) → (b || is_admitted xs tx) ≡ true → (is_admitted xs tx ≡ true → find (of_tx tx) (xs ++ ys) ≡ find (of_tx tx) xs) → cond b (Some x) (find (of_tx tx) (xs ++ ys)) ≡ cond b (Some x) (find (of_tx tx) xs)
    go true there rest = refl
    go false there rest = rest there

-- whether a transaction is named among these
named_any : (tx : Digest) (more : List Admitted) → is_among (map digest_of_admitted more) tx ≡ is_admitted more tx
named_any tx [] = refl
named_any tx (x ∷ xs) = ap (λ b. digest_eq x.digest tx || b) (named_any tx xs)

module _ (before after : Admission) (txs : List Digest) (admits : Admits before after txs) where
  -- what is assigned to an admitted transaction stays
  assigned_grow : (tx : Digest) → is_admitted before.admitted tx ≡ true → assigned_of after tx ≡ assigned_of before tx
  unfolding assigned_of
  assigned_grow tx there =
      ap (λ (admitted : List Admitted). option_map assigned_in (find (of_tx tx) admitted)) admits.admitted
      ∙ ap (option_map assigned_in) (found_more tx before.admitted admits.more there)

  admitted_grow : (tx : Digest) → is_admitted after.admitted tx ≡ (is_admitted before.admitted tx || is_among txs tx)
  admitted_grow tx =
      ap (λ (admitted : List Admitted). is_admitted admitted tx) admits.admitted
      ∙ any_both (of_tx tx) before.admitted admits.more
      ∙ ap (λ b. is_admitted before.admitted tx || b) (sym (ap (λ ds. is_among ds tx) admits.named ∙ named_any tx admits.more))

  -- a certificate may run if it might before, or is newly admitted
  pub let_grow : (h : Held) → is_let before h ≡ true → is_let after h ≡ true
  let_grow h may = go (not (has_shared_input h.cert.tx)) (is_admitted before.admitted h.digest) refl may
    where
      go : (n d : Bool) → is_admitted before.admitted h.digest ≡ d → (n || d) ≡ true → (n || is_admitted after.admitted h.digest) ≡ true
      go true d there e = refl
      go false true there e = admitted_grow h.digest ∙ ap (λ b. b || is_among txs h.digest) there
      go false false there e = absurd (cc)

  pub still_out : (h : Held) → is_let before h ≡ false → is_among txs h.digest ≡ false → is_let after h ≡ false
  still_out h out none = go (not (has_shared_input h.cert.tx)) (is_admitted before.admitted h.digest) refl out
    where
      go : (n d : Bool) → is_admitted before.admitted h.digest ≡ d → (n || d) ≡ false → (n || is_admitted after.admitted h.digest) ≡ false
      go true d there e = absurd (cc)
      go false true there e = absurd (cc)
      go false false there e = admitted_grow h.digest ∙ ap (λ b. b || is_among txs h.digest) there ∙ none

  -- a certificate that might run before wants what it wanted then
  pub wants_grow : (h : Held) → is_let before h ≡ true → wants_of after h ≡ wants_of before h
  unfolding wants_of
  wants_grow h may = go (has_shared_input h.cert.tx) refl (is_admitted before.admitted h.digest) refl may
    where
      owned : (t : Transaction) (os : List (Option Digest)) (a b : Option (List Assigned)) → has_shared_input t ≡ false → map (wanted_by a) (zip (objects_of t) os) ≡ map (wanted_by b) (zip (objects_of t) os)
      owned t [] a b none = refl
      owned t (o ∷ os) a b none = ap (λ ws. wanted_by a (inputs.Owned t.gas, o) ∷ ws) (same_wants t.inputs os a b none)

      go : (s : Bool) → has_shared_input h.cert.tx ≡ s → (d : Bool) → is_admitted before.admitted h.digest ≡ d → (not s || d) ≡ true
          → map (wanted_by (assigned_of after h.digest)) (joined_inputs h.cert) ≡ map (wanted_by (assigned_of before h.digest)) (joined_inputs h.cert)
      go false none d there e = owned h.cert.tx h.cert.origins (assigned_of after h.digest) (assigned_of before h.digest) none
      go true some true there e = ap (λ (assigned : Option (List Assigned)). map (wanted_by assigned) (joined_inputs h.cert)) (assigned_grow h.digest there)
      go true some false there e = absurd (cc)
