-- The next epoch of a member.
use Rattle.std.proofs.Common.{◌≡◌, ◌∙◌, ap, ℕ, ◌+◌, false, not, List, [], Option, map, filter}
use Rattle.std.specs.List.{list_any}
use Rattle.digest_core.specs.declared.Digest.{Digest}
use Rattle.chain_types.specs.declared.objects.Object.{Object}
use Rattle.chain_types.specs.Equal.{digest_eq}
use Rattle.checkpoint_core.specs.declared.checkpoints.Checkpoint.{Checkpoint}
use Rattle.protocol_spec.specs.declared.answers.Held.{Held}
use Rattle.protocol_spec.specs.Member.Admission.{Admission, nothing_admitted}
use Rattle.protocol_spec.specs.Member.Checkpoints.{cut_digests, is_cut}
use Rattle.protocol_spec.specs.Member.Sequence.{Sequence}
use Rattle.protocol_spec.specs.Member.Versions.{Execution, live_list}
use Rattle.epoch_turn.specs.Chains.{AreCut, Chaining, turned}
use Rattle.epoch_turn.specs.Dues.{cuts_of}
use Rattle.version_assign.specs.Calls.{Admitting}
use Rattle.version_store.specs.Reverts.{is_kept, reverted_to, undone}
use Rattle.version_store.specs.Stores.{Stored, next_epoch}
use Rattle.validator_core.specs.declared.epoch_state.EpochState.{EpochState}
use Rattle.validator_core.specs.Courses.{Coursed, IsSound, coursed, reverted_in, sequence_in, turned_in}
use Rattle.validator_core.proofs.Coursing.{built_is}

abbrev pub course_of : Option ℕ → ℕ → List Object → List Execution → List Held → Sequence → List Checkpoint → Coursed
course_of writers epoch opening executed held sequence past = record { writers = writers; epoch = epoch; opening = opening; executed = executed; held = held; sequence = sequence; past = past }

module _ (old : EpochState) (sound : IsSound old) (txs : List Digest) (cut : AreCut old.chain txs) where
  cut_is : txs ≡ cut_digests (sequence_in old).cuts
  cut_is = cut old.held old.admission.admission.admitted sound.unbuilt.told

  kept_is : filter (is_kept txs) old.store.executed ≡ filter (λ (x : Execution). is_cut (sequence_in old).cuts x.digest) old.store.executed
  kept_is = ap (λ (ds : List Digest). filter (λ (x : Execution). list_any (digest_eq x.digest) ds) old.store.executed) cut_is

  pub reverted_are : (answer : List Digest) → answer ≡ undone txs old.store → answer ≡ reverted_in (coursed old)
  reverted_are answer is = is ∙ ap (λ (ds : List Digest). map (λ (x : Execution). x.digest) (filter (λ (x : Execution). not (list_any (digest_eq x.digest) ds)) old.store.executed)) cut_is

  pub turned_is : (mid store : Stored) (next : ℕ) (adm : Admitting) (chain : Chaining) (held : List Held) (members : List ℕ) → mid ≡ reverted_to txs old.store → store ≡ next_epoch mid → next ≡ old.epoch + 1 → adm.admission ≡ nothing_admitted
      → adm.writers ≡ old.admission.writers → chain ≡ turned old.chain → held ≡ [] → members ≡ []
      → course_of adm.writers next store.opening store.executed held (record { number = 0; admission = adm.admission; cuts = cuts_of adm.admission.admitted chain.marks; counted = members; ended = false }) chain.past ≡ turned_in (coursed old)
  turned_is mid store next adm chain held members reverts turns epoch nothing limit chained none nobody =
      ap (λ w. course_of w next store.opening store.executed held (seen adm.admission chain members) chain.past) limit
      ∙ ap (λ e. course_of writers e store.opening store.executed held (seen adm.admission chain members) chain.past) epoch
      ∙ ap (λ (st : Stored). course_of writers (old.epoch + 1) st.opening st.executed held (seen adm.admission chain members) chain.past) turns
      ∙ ap (λ (st : Stored). course_of writers (old.epoch + 1) (live_list st.opening st.executed) [] held (seen adm.admission chain members) chain.past) reverts
      ∙ ap (λ (xs : List Execution). course_of writers (old.epoch + 1) (live_list old.store.opening xs) [] held (seen adm.admission chain members) chain.past) kept_is
      ∙ ap (λ (hs : List Held). course_of writers (old.epoch + 1) opens [] hs (seen adm.admission chain members) chain.past) none
      ∙ ap (λ (a : Admission). course_of writers (old.epoch + 1) opens [] [] (seen a chain members) chain.past) nothing
      ∙ ap (λ (ch : Chaining). course_of writers (old.epoch + 1) opens [] [] (seen nothing_admitted ch members) ch.past) chained
      ∙ ap (λ (ms : List ℕ). course_of writers (old.epoch + 1) opens [] [] (seen nothing_admitted (turned old.chain) ms) old.chain.built) nobody
      ∙ ap (λ (cs : List Checkpoint). course_of writers (old.epoch + 1) opens [] [] (seen nothing_admitted (turned old.chain) []) cs) (built_is old sound)
    where
      writers : Option ℕ
      writers = old.admission.writers

      opens : List Object
      opens = live_list old.store.opening (filter (λ (x : Execution). is_cut (sequence_in old).cuts x.digest) old.store.executed)

      seen : Admission → Chaining → List ℕ → Sequence
      seen a ch ms = record { number = 0; admission = a; cuts = cuts_of a.admitted ch.marks; counted = ms; ended = false }
