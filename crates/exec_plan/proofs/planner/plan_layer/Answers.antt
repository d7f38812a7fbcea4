use Rattle.std.proofs.Common.{[], ◌∙◌, ◌++◌, List, ℕ, ap, map, subst, sym}
use Rattle.indexmap.specs.IndexSet.{insert_all}
use Rattle.digest_core.specs.declared.Digest.{Digest}
use Rattle.chain_types.specs.Equal.{digest_eq}
use Rattle.protocol_spec.specs.declared.answers.Held.{Held}
use Rattle.version_store.specs.Stores.{Stored}
use Rattle.exec_plan.specs.Ahead.{AreTaken, joining}
use Rattle.exec_plan.specs.Behind.{Frees}
use Rattle.exec_plan.specs.Books.{digest_of_held}
use Rattle.exec_plan.specs.Drafts.{picked}
use Rattle.exec_plan.specs.Past.{as_if}
use Rattle.exec_plan.specs.Waits.{IsFiled}
use Rattle.exec_plan.proofs.Looking.{empty_named, layer_filed, layer_found, layer_taken, picked_join}
use Rattle.exec_plan.proofs.planner.plan_layer.Goals as goal

pub file_each-requires : goal.file_each-requires
file_each-requires c =
    let s = as_if c.args.ahead.now.planned.keys c.args.store.now in
    let layer = layer_found s c.args.admission.now.admission c.args.held.now c.args.waiting.now c.new.result c.in_ok-looked.looked.items c.as_slice.result.now c.in_ok-layer.layer c.new.ensures c.as_slice.ensures.value
    c.in_ok-layer.ensures c.requires.filed c.in_ok-looked.ensures.ordered c.in_ok-looked.ensures.places in
    let txs = c.in_ok-txs.ensures ∙ ap (λ ps. map digest_of_held (picked c.args.held.now ps)) c.as_slice-2.ensures.value ∙ ap (map digest_of_held) layer in
    let keys = c.in_ok-add.ensures.planned ∙ ap (insert_all digest_eq c.args.ahead.now.planned.keys) (c.as_slice-5.ensures.value ∙ txs) in
    subst (λ (t : Stored). IsFiled t c.args.admission.now.admission c.as_slice-7.result.now c.args.held.now c.free.new.self) (sym (c.new-past.ensures ∙ ap (λ ks. as_if ks c.args.store.now) keys))
    (subst (λ (ps : List ℕ). IsFiled (as_if (insert_all digest_eq c.args.ahead.now.planned.keys (map digest_of_held (joining s c.args.admission.now.admission c.args.held.now))) c.args.store.now) c.args.admission.now.admission ps c.args.held.now c.free.new.self) (sym c.as_slice-7.ensures.value)
    (layer_filed c.args.store.now c.args.admission.now.admission c.args.held.now c.args.ahead.now.planned.keys c.args.waiting.now c.take_open.new.self c.free.new.self c.in_ok-freed.freed c.requires.filed
    c.in_ok-looked.ensures.unadmitted c.in_ok-looked.ensures.behind c.in_ok-freed.ensures.unadmitted
    (subst (λ (ds : List Digest). Frees c.take_open.new.self.behind.entries c.free.new.self.behind.entries c.in_ok-freed.freed [] ds) (c.as_slice-6.ensures.value ∙ txs) c.in_ok-freed.ensures.freed)))

pub returns-clause-last : goal.returns-clause-last
returns-clause-last c =
    let s = as_if c.args.ahead.now.planned.keys c.args.store.now in
    let layer = layer_found s c.args.admission.now.admission c.args.held.now c.args.waiting.now c.new.result c.in_ok-looked.looked.items c.as_slice.result.now c.in_ok-layer.layer c.new.ensures c.as_slice.ensures.value
    c.in_ok-layer.ensures c.requires.filed c.in_ok-looked.ensures.ordered c.in_ok-looked.ensures.places in
    c.is_empty.ensures
    ∙ empty_named _ _ (c.in_ok-txs.ensures ∙ ap (λ ps. map digest_of_held (picked c.args.held.now ps)) c.as_slice-2.ensures.value ∙ ap (map digest_of_held) layer)

pub returns-clause-places : goal.returns-clause-places
returns-clause-places c =
    let s = as_if c.args.ahead.now.planned.keys c.args.store.now in
    let layer = layer_found s c.args.admission.now.admission c.args.held.now c.args.waiting.now c.new.result c.in_ok-looked.looked.items c.as_slice.result.now c.in_ok-layer.layer c.new.ensures c.as_slice.ensures.value
    c.in_ok-layer.ensures c.requires.filed c.in_ok-looked.ensures.ordered c.in_ok-looked.ensures.places in
    ap (picked c.args.held.now) (c.in_ok-add.ensures.places ∙ ap (λ ps. c.args.ahead.now.places ++ ps) c.as_slice-4.ensures.value)
    ∙ picked_join c.args.held.now c.args.ahead.now.places c.in_ok-layer.layer
    ∙ ap (λ (hs : List Held). picked c.args.held.now c.args.ahead.now.places ++ hs) layer

pub returns-clause-planned : goal.returns-clause-planned
returns-clause-planned c =
    let s = as_if c.args.ahead.now.planned.keys c.args.store.now in
    let layer = layer_found s c.args.admission.now.admission c.args.held.now c.args.waiting.now c.new.result c.in_ok-looked.looked.items c.as_slice.result.now c.in_ok-layer.layer c.new.ensures c.as_slice.ensures.value
    c.in_ok-layer.ensures c.requires.filed c.in_ok-looked.ensures.ordered c.in_ok-looked.ensures.places in
    c.in_ok-add.ensures.planned
    ∙ ap (insert_all digest_eq c.args.ahead.now.planned.keys)
    (c.as_slice-5.ensures.value ∙ c.in_ok-txs.ensures ∙ ap (λ ps. map digest_of_held (picked c.args.held.now ps)) c.as_slice-2.ensures.value ∙ ap (map digest_of_held) layer)

pub returns-clause-taken : goal.returns-clause-taken
returns-clause-taken c =
    let s = as_if c.args.ahead.now.planned.keys c.args.store.now in
    let layer = layer_found s c.args.admission.now.admission c.args.held.now c.args.waiting.now c.new.result c.in_ok-looked.looked.items c.as_slice.result.now c.in_ok-layer.layer c.new.ensures c.as_slice.ensures.value
    c.in_ok-layer.ensures c.requires.filed c.in_ok-looked.ensures.ordered c.in_ok-looked.ensures.places in
    let txs = c.in_ok-txs.ensures ∙ ap (λ ps. map digest_of_held (picked c.args.held.now ps)) c.as_slice-2.ensures.value ∙ ap (map digest_of_held) layer in
    let keys = c.in_ok-add.ensures.planned ∙ ap (insert_all digest_eq c.args.ahead.now.planned.keys) (c.as_slice-5.ensures.value ∙ txs) in
    subst (λ (ks : List Digest). AreTaken c.args.held.now ks c.add.new.self.taken) (sym keys)
    (subst (λ (ps : List ℕ). AreTaken c.args.held.now (insert_all digest_eq c.args.ahead.now.planned.keys (map digest_of_held (joining s c.args.admission.now.admission c.args.held.now))) ps) (sym (c.in_ok-add.ensures.taken ∙ ap (λ ps. c.args.ahead.now.taken ++ ps) c.as_slice-3.ensures.value))
    (layer_taken c.args.store.now c.args.admission.now.admission c.args.held.now c.args.ahead.now.planned.keys c.requires.apart c.args.waiting.now c.args.ahead.now.taken c.in_ok-looked.looked.items c.requires.filed
    c.in_ok-looked.ensures.places c.requires.taken))
