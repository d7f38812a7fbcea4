-- A caller that looks the transactions of a checkpoint up by digest, among those that the lines of the run made, hands in
-- transactions of the run.
use Rattle.std.proofs.Common.{refl, sym, subst, ap, ◌∙◌}
use Rattle.std.specs.Prelude.{◌≡◌, List, [], ◌∷◌, find, map, Option, Some, None, option_map}
use Rattle.digest_core.specs.declared.Digest.{Digest}
use Rattle.chain_types.specs.declared.transactions.Transaction.{Transaction}
use Rattle.chain_types.specs.Equal.{digest_eq}
use Rattle.chain_types.specs.Digests.{transaction_digest}
use Rattle.checkpoint_core.specs.declared.checkpoints.Checkpoint.{Checkpoint}
use Rattle.checkpoint_core.specs.declared.checkpoints.Item.{Item}
use Rattle.schedule_text.specs.declared.words.Event.{Event}
use Rattle.protocol_spec.proofs.Equality.{digest_same}
use Rattle.protocol_spec.specs.Chain.Words.{Each, Has}
use Rattle.protocol_spec.proofs.ListLemmas.{find-test, find_has, has_left, has_map}
use Rattle.world_spec.specs.Setting.{Setting}
use Rattle.world_spec.specs.World.{Made}
use Rattle.world_spec.specs.Run.{world_after}
use Rattle.world_spec.specs.Assumptions.{all_transactions}
use Rattle.safety_law.proofs.Totals.{sound-after}
use Rattle.headline_law.specs.Followed.{IsHandedFrom, tx_listed, made_as}

module _ (s : Setting) (events : List Event) where
  -- a made transaction is one of the run
  pub made-is-of-run : (t : Made) → Has (world_after s events).txs t → Has (all_transactions s events) t.signed.tx
  unfolding all_transactions
  made-is-of-run t h = has_left (map (λ (x : Made). x.signed.tx) (world_after s events).txs) _ t.signed.tx (has_map (λ (x : Made). x.signed.tx) (world_after s events).txs t h)

  record IsOfRun (d : Digest) (t : Transaction) : Type 0 where
    digest : transaction_digest t ≡ d
    known : Has (all_transactions s events) t

  looked-up : (d : Digest) (t : Transaction) → made_as (world_after s events) d ≡ Some t → IsOfRun d t
  looked-up d t e = go (find (λ (x : Made). digest_eq x.digest d) (world_after s events).txs) refl e
    where
      go : (o : Option Made) → find (λ (x : Made). digest_eq x.digest d) (world_after s events).txs ≡ o → option_map (λ (x : Made). x.signed.tx) o ≡ Some t → IsOfRun d t
      go None h q = absurd (cc)
      go (Some x) h q =
          let there = find_has (λ (y : Made). digest_eq y.digest d) (world_after s events).txs x h in
          let same : x.signed.tx ≡ t = cc in
          subst (IsOfRun d) same (record {
            digest = sym ((sound-after s events).made x there) ∙ digest_same x.digest d (find-test (λ (y : Made). digest_eq y.digest d) (world_after s events).txs x h);
            known = made-is-of-run x there;
          })

  all-looked-up : (items : List Item) (ts : List Transaction) → map (λ (i : Item). made_as (world_after s events) i.tx) items ≡ map Some ts
      → (map transaction_digest ts ≡ map tx_listed items) × Each (Has (all_transactions s events)) ts
  all-looked-up [] [] e = (refl, tt)
  all-looked-up [] (t ∷ ts) e = absurd (cc)
  all-looked-up (i ∷ items) [] e = absurd (cc)
  all-looked-up (i ∷ items) (t ∷ ts) e = both (looked-up i.tx t (head (map (λ (j : Item). made_as (world_after s events) j.tx) items) (map Some ts) e)) (all-looked-up items ts (tail (map (λ (j : Item). made_as (world_after s events) j.tx) items) (map Some ts) e))
    where
      head : (us vs : List (Option Transaction)) → made_as (world_after s events) i.tx ∷ us ≡ Some t ∷ vs → made_as (world_after s events) i.tx ≡ Some t
      head us vs q = cc

      tail : (us vs : List (Option Transaction)) → made_as (world_after s events) i.tx ∷ us ≡ Some t ∷ vs → us ≡ vs
      tail us vs q = cc

      both : IsOfRun i.tx t → (map transaction_digest ts ≡ map tx_listed items) × Each (Has (all_transactions s events)) ts
          → (map transaction_digest (t ∷ ts) ≡ map tx_listed (i ∷ items)) × Each (Has (all_transactions s events)) (t ∷ ts)
      both one rest = (ap (λ (d : Digest). d ∷ map transaction_digest ts) one.digest ∙ ap (λ (ds : List Digest). i.tx ∷ ds) rest.0, (one.known, rest.1))

  pub looked-up-is-handed : (c : Checkpoint) (ts : List Transaction) → map (λ (i : Item). made_as (world_after s events) i.tx) c.items ≡ map Some ts → IsHandedFrom (all_transactions s events) (record { checkpoint = c; txs = ts })
  looked-up-is-handed c ts e = let all = all-looked-up c.items ts e in record { listed = all.0; known = all.1 }
