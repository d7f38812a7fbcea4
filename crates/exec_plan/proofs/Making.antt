-- What a certificate waits for: it is not ready, and not left, before the transactions that make what it wants are executed.
use Rattle.std.proofs.Common.{◌≡◌, Bool, true, false, cond, not, ◌&&◌, List, [], ◌∷◌, map, Option, Some, None, is_some, inl, inr, refl, ap, sym, ◌∙◌, option_map}
use Rattle.std.specs.Prelude.{find}
use Rattle.std.specs.List.{list_all}
use Rattle.digest_core.specs.declared.Digest.{Digest}
use Rattle.chain_types.specs.declared.objects.Object.{Object}
use Rattle.chain_types.specs.declared.objects.Producer.{Producer}
use Rattle.chain_types.specs.declared.objects.Producer.TheVariants as producers
use Rattle.protocol_spec.specs.declared.answers.Held.{Held}
use Rattle.protocol_spec.specs.declared.answers.Left.{Left}
use Rattle.protocol_spec.proofs.Truth.{both_true}
use Rattle.protocol_spec.specs.Chain.Words.{Has, all_some, first_of, first_some, onto_some, where_true}
use Rattle.protocol_spec.specs.Member.Versions.{Execution, is_executed, object_in, versions}
use Rattle.protocol_spec.specs.Member.Admission.{Admission}
use Rattle.protocol_spec.specs.Member.Rounds.{Wanted, found, is_maker_done, is_origin_done, is_wanted, left_as, present, ready, ready_on, wants_of}
use Rattle.version_store.specs.Stores.{Stored}
use Rattle.exec_plan.specs.Books.{books_of, is_let, left_in, ready_in}
use Rattle.exec_plan.specs.Makers.{Makes, are_made, awaited_of, is_made, producer_in, unmade, unmade_by}
use Rattle.exec_plan.proofs.Settling.{not_made}

alone : {A : Type 0} (o x : Option A) → first_some (o ∷ []) ≡ x → o ≡ x
alone None x e = e
alone (Some y) x e = e

any_and_false : (a b : Bool) → b ≡ false → (a && b) ≡ false
any_and_false true b e = e
any_and_false false b e = refl

-- ---- the first that was not made

module _ (executed : List Execution) where
  made_by : (p : Option Producer) → unmade_by executed p ≡ None → is_maker_done executed p ≡ true
  made_by None e = refl
  made_by (Some producers.Opening) e = refl
  made_by (Some (producers.Tx tx)) e = go (is_executed executed tx) e
    where
      go : (b : Bool) → where_true (not b) tx ≡ None → b ≡ true
      go true e = refl
      go false e = absurd (cc)

  unmade_is : (p : Option Producer) (d : Digest) → unmade_by executed p ≡ Some d → (p ≡ Some (producers.Tx d)) × (is_executed executed d ≡ false)
  unmade_is None d e = absurd (cc)
  unmade_is (Some producers.Opening) d e = absurd (cc)
  unmade_is (Some (producers.Tx tx)) d e = go (is_executed executed tx) refl e
    where
      go : (b : Bool) → is_executed executed tx ≡ b → where_true (not b) tx ≡ Some d → (Some (producers.Tx tx) ≡ Some (producers.Tx d)) × (is_executed executed d ≡ false)
      go true is e = absurd (cc)
      go false is e =
          let same : tx ≡ d = cc in
          (ap (λ (t : Digest). Some (producers.Tx t)) same, ap (is_executed executed) (sym same) ∙ is)

  all_made : (ws : List Wanted) → first_of (unmade executed) ws ≡ None → list_all (is_made executed) ws ≡ true
  all_made [] e = refl
  all_made (w ∷ ws) e = go (unmade executed w) refl (first_of (unmade executed) ws) e (all_made ws)
    where
      go : (o : Option Digest) → unmade executed w ≡ o → (later : Option Digest) → first_some (o ∷ later ∷ []) ≡ None → (later ≡ None → list_all (is_made executed) ws ≡ true)
          → list_all (is_made executed) (w ∷ ws) ≡ true
      go None is later e more = both_true (is_made executed w) (list_all (is_made executed) ws) (made_by w.producer is) (more (alone later None e))
      go (Some d) is later e more = absurd (cc)

  first_makes : (ws : List Wanted) (d : Digest) → first_of (unmade executed) ws ≡ Some d → Has (map producer_in ws) (Some (producers.Tx d)) × (is_executed executed d ≡ false)
  first_makes [] d e = absurd (cc)
  first_makes (w ∷ ws) d e = go (unmade executed w) refl (first_of (unmade executed) ws) e (first_makes ws d)
    where
      Makers : Type 0
      Makers = Has (map producer_in ws) (Some (producers.Tx d)) × (is_executed executed d ≡ false)

      go : (o : Option Digest) → unmade executed w ≡ o → (later : Option Digest) → first_some (o ∷ later ∷ []) ≡ Some d → (later ≡ Some d → Makers)
          → Has (map producer_in (w ∷ ws)) (Some (producers.Tx d)) × (is_executed executed d ≡ false)
      go None is later e more =
          let rest : Makers = more (alone later (Some d) e) in
          (inr rest.0, rest.1)
      go (Some x) is later e more =
          let here : (w.producer ≡ Some (producers.Tx d)) × (is_executed executed d ≡ false) = unmade_is w.producer d (is ∙ e) in
          (inl here.0, here.1)

  not_all_made : (ws : List Wanted) (d : Digest) → Has (map producer_in ws) (Some (producers.Tx d)) → is_executed executed d ≡ false → list_all (is_made executed) ws ≡ false
  not_all_made [] d has first = absurd has
  not_all_made (w ∷ ws) d (inl is) first = ap (λ (b : Bool). b && list_all (is_made executed) ws) (ap (is_maker_done executed) is ∙ first)
  not_all_made (w ∷ ws) d (inr has) first = any_and_false (is_made executed w) (list_all (is_made executed) ws) (not_all_made ws d has first)

module _ (executed : List Execution) (a : Admission) (h : Held) where
  -- if a certificate waits for nothing, all is made
  pub waits_for_none : awaited_of executed a h ≡ None → are_made executed a h ≡ true
  waits_for_none e = all_made executed (wants_of a h) e

  -- what it waits for makes what it wants, and is not executed
  pub waits_for : (d : Digest) → awaited_of executed a h ≡ Some d → Makes d a h × (is_executed executed d ≡ false)
  waits_for d e = first_makes executed (wants_of a h) d e

  pub makes_not : (d : Digest) → Makes d a h → is_executed executed d ≡ false → are_made executed a h ≡ false
  makes_not d makes first = not_all_made executed (wants_of a h) d makes first

  -- it waits for a transaction exactly if not all is made
  pub waits_where : are_made executed a h ≡ not (is_some (awaited_of executed a h))
  waits_where = go (awaited_of executed a h) refl
    where
      go : (o : Option Digest) → awaited_of executed a h ≡ o → are_made executed a h ≡ not (is_some o)
      go None e = waits_for_none e
      go (Some d) e =
          let waits : Makes d a h × (is_executed executed d ≡ false) = waits_for d e in
          makes_not d waits.0 waits.1

-- ---- what is not made

module _ (opening : List Object) (executed : List Execution) where
  not_found : (w : Wanted) → is_made executed w ≡ false → found (versions opening executed) w ≡ None
  not_found w none = go w.producer none
    where
      go : (p : Option Producer) → is_maker_done executed p ≡ false → option_map object_in (find (is_wanted w.key p) (versions opening executed)) ≡ None
      go None none = absurd (cc)
      go (Some producers.Opening) none = absurd (cc)
      go (Some (producers.Tx tx)) none = not_made opening executed w.key tx none

  pub not_all_found : (ws : List Wanted) → list_all (is_made executed) ws ≡ false → all_some (map (found (versions opening executed)) ws) ≡ None
  not_all_found [] none = absurd (cc)
  not_all_found (w ∷ ws) none = go (is_made executed w) refl none (not_all_found ws)
    where
      Rest : Type 0
      Rest = all_some (map (found (versions opening executed)) ws) ≡ None

      behind : (o : Option Object) → Rest → all_some (o ∷ map (found (versions opening executed)) ws) ≡ None
      behind None rest = refl
      behind (Some o) rest = ap (onto_some o) rest

      go : (b : Bool) → is_made executed w ≡ b → (b && list_all (is_made executed) ws) ≡ false → (list_all (is_made executed) ws ≡ false → Rest)
          → all_some (found (versions opening executed) w ∷ map (found (versions opening executed)) ws) ≡ None
      go true is none rest = behind (found (versions opening executed) w) (rest none)
      go false is none rest = ap (λ (o : Option Object). all_some (o ∷ map (found (versions opening executed)) ws)) (not_found w is)

-- a certificate is not ready while it waits
pub unmade_rests : (s : Stored) (a : Admission) (h : Held) → are_made s.executed a h ≡ false → ready_in s a h ≡ None
unfolding ready present
unmade_rests s a h none =
    ap (λ (p : Option (List Object)). cond (not (is_executed s.executed h.digest) && is_let a h) (ready_on (books_of s a []) s.executed h p) None)
    (not_all_found s.opening s.executed (wants_of a h) none)
    ∙ neither (not (is_executed s.executed h.digest) && is_let a h) None refl
  where
    neither : (b : Bool) (o : Option Execution) → o ≡ None → cond b o None ≡ None
    neither true o none = none
    neither false o none = refl

-- a certificate is not left while it waits
pub unmade_stays : (s : Stored) (a : Admission) (h : Held) → are_made s.executed a h ≡ false → left_in s a h ≡ None
unmade_stays s a h none =
    ap (λ (m : Bool). where_true (not (is_executed s.executed h.digest) && is_let a h && list_all (is_origin_done s.executed) h.cert.origins && m) (left_as (books_of s a []) s.executed h)) none
    ∙ go (not (is_executed s.executed h.digest)) (is_let a h) (list_all (is_origin_done s.executed) h.cert.origins) (left_as (books_of s a []) s.executed h)
  where
    go : (x y z : Bool) (l : Left) → where_true (x && y && z && false) l ≡ None
    go false y z l = refl
    go true false z l = refl
    go true true false l = refl
    go true true true l = refl
