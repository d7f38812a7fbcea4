-- Lines that order entries, and what can be kept of them.
use Rattle.std.proofs.Common.{◌≡◌, ◌∙◌, ap, sym, subst, Bool, cond, Option, Some, None}
use Rattle.std.proofs.lemmas.Bool.{eq-eqb, ne_eqb}
use Rattle.chain_messages.specs.declared.messages.Certificate.{Certificate}
use Rattle.chain_messages.specs.declared.messages.Entry.TheVariants as entry
use Rattle.chain_messages.specs.Messages as messages
use Rattle.world_spec.specs.Step.{appended_entry, ordered}
use Rattle.world_lines.specs.Orders.{Orders, with_entry}
use Rattle.world_spec.specs.Scene.{Scene, post_world}
use Rattle.world_core.specs.Steps.{with_order}
use Rattle.world_spec.specs.SceneWorlds.{AreKeepable}
use Rattle.world_core.specs.Cuts.{still_in}

pub short_mark : messages.entry.short entry.Commit
unfolding messages.entry
short_mark = tt

-- the sequences of a scene
abbrev pub orders_in : Scene → Orders
orders_in sc = record { sequences = sc.sequences; epoch = sc.epoch }

abbrev pub with_orders : Scene → Orders → Scene
with_orders sc o = record sc { sequences = o.sequences; epoch = o.epoch }

pub orders_mark : (v sc : Scene) (new : Orders) → v ≡ sc → new ≡ with_entry (orders_in v) entry.Commit → with_orders v new ≡ with_order sc (appended_entry (post_world sc) entry.Commit)
orders_mark v sc new view is = ap (with_orders v) is ∙ ap (λ (x : Scene). with_order x (appended_entry (post_world x) entry.Commit)) view

-- no entry more
pub order_kept : (v sc : Scene) (new : Orders) → v ≡ sc → new ≡ orders_in v → still_in (with_orders v new) ≡ still_in sc
order_kept v sc new view same = ap (λ (o : Orders). still_in (with_orders v o)) same ∙ ap (λ (x : Scene). still_in x) view

pub orders_none : (sc : Scene) (c : Option Certificate) → None ≡ c → sc ≡ with_order sc (ordered (post_world sc) c)
orders_none sc c none = ap (λ (x : Option Certificate). with_order sc (ordered (post_world sc) x)) none

module _ (sc : Scene) (c : Option Certificate) (cert : Certificate) (is : Some cert ≡ c) where
  pub orders_late : (cert.tx.epoch ≡ sc.epoch → ⊥) → sc ≡ with_order sc (ordered (post_world sc) c)
  orders_late other =
      sym (ap (λ (b : Bool). with_order sc (cond b (appended_entry (post_world sc) (entry.Cert cert)) (post_world sc))) (ne_eqb cert.tx.epoch sc.epoch other))
      ∙ ap (λ (x : Option Certificate). with_order sc (ordered (post_world sc) x)) is

  pub orders_one : (new : Orders) → cert.tx.epoch ≡ sc.epoch → new ≡ with_entry (orders_in sc) (entry.Cert cert) → with_orders sc new ≡ with_order sc (ordered (post_world sc) c)
  orders_one new same pushed =
      ap (with_orders sc) pushed
      ∙ sym (ap (λ (b : Bool). with_order sc (cond b (appended_entry (post_world sc) (entry.Cert cert)) (post_world sc))) (eq-eqb cert.tx.epoch sc.epoch same))
      ∙ ap (λ (x : Option Certificate). with_order sc (ordered (post_world sc) x)) is

pub can_keep : (v sc : Scene) → v ≡ sc → AreKeepable v.sequences → AreKeepable sc.sequences
can_keep v sc view is = subst (λ (x : Scene). AreKeepable x.sequences) view is
