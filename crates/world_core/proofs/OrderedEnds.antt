-- Ends that lines order, and the epochs that open after them.
use Rattle.std.proofs.Common.{◌≡◌, ◌⊎◌, inl, inr, ◌∙◌, ap, sym, refl, ℕ, Bool, true, false, cond, List, length, Option, Some, None, Result, Ok, Err, OnErr}
use Rattle.std.specs.Prelude.{slice_get}
use Rattle.std.proofs.lemmas.Bool.{eq-eqb, ne_eqb}
use Rattle.chain_messages.specs.declared.messages.Entry.{Entry}
use Rattle.chain_messages.specs.declared.messages.Statement.TheVariants as statement
use Rattle.report_text.specs.declared.lines.OrderEndText.{OrderEndText}
use Rattle.report_text.specs.declared.lines.OrderEndText.TheVariants as order_end_text
use Rattle.world_spec.specs.Setting.{Trust}
use Rattle.world_spec.specs.World.{Said, WorldOf, honest_in}
use Rattle.world_spec.specs.Step.{end_in, end_by, honest_end, last_said, open_entries, ordered_end, says}
use Rattle.world_spec.specs.Report.{honest_end_said, order_end_by}
use Rattle.world_spec.specs.Posts.{Post, post_honest}
use Rattle.world_spec.specs.Scene.{Scene, bare_setting, post_world}
use Rattle.world_core.specs.Steps.{with_order}
use Rattle.world_lines.specs.Orders.{Orders, sealed_end_by, with_entry}
use Rattle.world_core.specs.Crews.{honest_flags}
use Rattle.world_core.specs.Cuts.{SeenCut, end_appended, still_in}
use Rattle.world_core.specs.Votes.{flag_at}
use Rattle.world_core.proofs.Ordered.{orders_in, with_orders}
use Rattle.world_core.proofs.Voting.{honest_same}

-- ---- whose End it is

module _ (trust : Trust) (v sc : Scene) (m : ℕ) (view : v ≡ sc) where
  abbrev ordered_by : Bool → Option ℕ → Scene → WorldOf Post
  ordered_by honest said x = cond honest (honest_end (bare_setting trust x) (post_world x) m said) (ordered_end (bare_setting trust x) (says trust.seal (post_world x) m (statement.End x.epoch)) m x.epoch)

  abbrev said_by : Bool → Option ℕ → Scene → OrderEndText
  said_by honest said x = cond honest (honest_end_said (post_world x) said) (order_end_text.Entry (length (open_entries (post_world x))))

  as_ordered : (honest : Bool) (said : Option ℕ) (flags : List Bool) → honest ≡ flag_at (slice_get flags m) → flags ≡ honest_flags v.posts → said ≡ last_said end_in m v.said
      → with_order sc (ordered_by honest said sc) ≡ with_order sc (end_by post_honest (bare_setting trust sc) (post_world sc) m)
  as_ordered honest said flags flag are last =
      ap (λ (b : Bool). with_order sc (ordered_by b said sc)) (flag ∙ ap (λ (fs : List Bool). flag_at (slice_get fs m)) (are ∙ ap (λ (x : Scene). honest_flags x.posts) view) ∙ honest_same sc.posts m)
      ∙ ap (λ (o : Option ℕ). with_order sc (ordered_by (honest_in post_honest (post_world sc) m) o sc)) (last ∙ ap (λ (x : Scene). last_said end_in m x.said) view)

  as_said : (honest : Bool) (said : Option ℕ) (flags : List Bool) → honest ≡ flag_at (slice_get flags m) → flags ≡ honest_flags v.posts → said ≡ last_said end_in m v.said
      → said_by honest said sc ≡ order_end_by post_honest (post_world sc) m
  as_said honest said flags flag are last =
      ap (λ (b : Bool). said_by b said sc) (flag ∙ ap (λ (fs : List Bool). flag_at (slice_get fs m)) (are ∙ ap (λ (x : Scene). honest_flags x.posts) view) ∙ honest_same sc.posts m)
      ∙ ap (λ (o : Option ℕ). said_by (honest_in post_honest (post_world sc) m) o sc) (last ∙ ap (λ (x : Scene). last_said end_in m x.said) view)

  -- a faulty member's
  pub faulty_end : (honest : Bool) (flags : List Bool) → honest ≡ flag_at (slice_get flags m) → flags ≡ honest_flags v.posts → honest ≡ false
      → with_order sc (ordered_end (bare_setting trust sc) (says trust.seal (post_world sc) m (statement.End sc.epoch)) m sc.epoch) ≡ with_order sc (end_by post_honest (bare_setting trust sc) (post_world sc) m)
  faulty_end honest flags flag are is = as_ordered false (last_said end_in m v.said) flags (sym is ∙ flag) are refl

  pub faulty_said : (honest : Bool) (flags : List Bool) → honest ≡ flag_at (slice_get flags m) → flags ≡ honest_flags v.posts → honest ≡ false
      → order_end_text.Entry (length (open_entries (post_world sc))) ≡ order_end_by post_honest (post_world sc) m
  faulty_said honest flags flag are is = as_said false (last_said end_in m v.said) flags (sym is ∙ flag) are refl

  -- an honest member's that stated none
  pub no_end : (honest : Bool) (flags : List Bool) (said : Option ℕ) → honest ≡ flag_at (slice_get flags m) → flags ≡ honest_flags v.posts → honest ≡ true → said ≡ last_said end_in m v.said → said ≡ None
      → sc ≡ with_order sc (end_by post_honest (bare_setting trust sc) (post_world sc) m)
  no_end honest flags said flag are is last none = as_ordered true None flags (sym is ∙ flag) are (sym none ∙ last)

  pub no_end_said : (honest : Bool) (flags : List Bool) (said : Option ℕ) → honest ≡ flag_at (slice_get flags m) → flags ≡ honest_flags v.posts → honest ≡ true → said ≡ last_said end_in m v.said → said ≡ None
      → order_end_text.NoStatement ≡ order_end_by post_honest (post_world sc) m
  no_end_said honest flags said flag are is last none = as_said true None flags (sym is ∙ flag) are (sym none ∙ last)

  -- one of an epoch before
  pub late_end : (honest : Bool) (flags : List Bool) (said : Option ℕ) (epoch now : ℕ) → honest ≡ flag_at (slice_get flags m) → flags ≡ honest_flags v.posts → honest ≡ true → said ≡ last_said end_in m v.said → said ≡ Some epoch
      → now ≡ v.epoch → (epoch ≡ now → ⊥) → sc ≡ with_order sc (end_by post_honest (bare_setting trust sc) (post_world sc) m)
  late_end honest flags said epoch now flag are is last some present other =
      let apart = ne_eqb epoch sc.epoch (λ e. other (e ∙ sym (present ∙ ap (λ (x : Scene). x.epoch) view))) in
      ap (λ (b : Bool). with_order sc (cond b (ordered_end (bare_setting trust sc) (post_world sc) m epoch) (post_world sc))) (sym apart)
      ∙ as_ordered true (Some epoch) flags (sym is ∙ flag) are (sym some ∙ last)

  pub late_said : (honest : Bool) (flags : List Bool) (said : Option ℕ) (epoch now : ℕ) → honest ≡ flag_at (slice_get flags m) → flags ≡ honest_flags v.posts → honest ≡ true → said ≡ last_said end_in m v.said → said ≡ Some epoch
      → now ≡ v.epoch → (epoch ≡ now → ⊥) → order_end_text.NotTaken ≡ order_end_by post_honest (post_world sc) m
  late_said honest flags said epoch now flag are is last some present other =
      let apart = ne_eqb epoch sc.epoch (λ e. other (e ∙ sym (present ∙ ap (λ (x : Scene). x.epoch) view))) in
      ap (λ (b : Bool). cond b (order_end_text.Entry (length (open_entries (post_world sc)))) order_end_text.NotTaken) (sym apart)
      ∙ as_said true (Some epoch) flags (sym is ∙ flag) are (sym some ∙ last)

  -- one of the open epoch
  pub own_end : (honest : Bool) (flags : List Bool) (said : Option ℕ) (epoch now : ℕ) → honest ≡ flag_at (slice_get flags m) → flags ≡ honest_flags v.posts → honest ≡ true → said ≡ last_said end_in m v.said → said ≡ Some epoch
      → now ≡ v.epoch → epoch ≡ now → with_order sc (ordered_end (bare_setting trust sc) (post_world sc) m sc.epoch) ≡ with_order sc (end_by post_honest (bare_setting trust sc) (post_world sc) m)
  own_end honest flags said epoch now flag are is last some present same =
      let open_one : epoch ≡ sc.epoch = same ∙ present ∙ ap (λ (x : Scene). x.epoch) view in
      ap (λ (n : ℕ). with_order sc (ordered_end (bare_setting trust sc) (post_world sc) m n)) (sym open_one)
      ∙ ap (λ (b : Bool). with_order sc (cond b (ordered_end (bare_setting trust sc) (post_world sc) m epoch) (post_world sc))) (sym (eq-eqb epoch sc.epoch open_one))
      ∙ as_ordered true (Some epoch) flags (sym is ∙ flag) are (sym some ∙ last)

  pub own_said : (honest : Bool) (flags : List Bool) (said : Option ℕ) (epoch now : ℕ) → honest ≡ flag_at (slice_get flags m) → flags ≡ honest_flags v.posts → honest ≡ true → said ≡ last_said end_in m v.said → said ≡ Some epoch
      → now ≡ v.epoch → epoch ≡ now → order_end_text.Entry (length (open_entries (post_world sc))) ≡ order_end_by post_honest (post_world sc) m
  own_said honest flags said epoch now flag are is last some present same =
      let open_one : epoch ≡ sc.epoch = same ∙ present ∙ ap (λ (x : Scene). x.epoch) view in
      ap (λ (b : Bool). cond b (order_end_text.Entry (length (open_entries (post_world sc)))) order_end_text.NotTaken) (sym (eq-eqb epoch sc.epoch open_one))
      ∙ as_said true (Some epoch) flags (sym is ∙ flag) are (sym some ∙ last)

-- ---- if memory is refused

-- nothing was done
pub end_undone : {A E : Type 0} (trust : Trust) (sc : Scene) (m : ℕ) (result : Result A E) → OnErr result (SeenCut still_in trust sc (Some m) sc)
end_undone trust sc m (Ok a) = tt
end_undone trust sc m (Err e) = inl refl

-- its End stands, or not
pub end_broken : (trust : Trust) (v sc : Scene) (m n : ℕ) (e : Entry) (new : Orders) → v ≡ sc → e ≡ sealed_end_by trust.seal m n → n ≡ v.epoch → (new ≡ orders_in v) ⊎ (new ≡ with_entry (orders_in v) e)
    → SeenCut still_in trust sc (Some m) (with_orders v new)
end_broken trust v sc m n e new view is open_ (inl same) = inl (ap (λ (o : Orders). still_in (with_orders v o)) same ∙ ap (λ (x : Scene). still_in x) view)
end_broken trust v sc m n e new view is open_ (inr more) =
    let this : e ≡ sealed_end_by trust.seal m v.epoch = is ∙ ap (λ (k : ℕ). sealed_end_by trust.seal m k) open_ in
    inr (ap (λ (o : Orders). still_in (with_orders v o)) (more ∙ ap (λ (x : Entry). with_entry (orders_in v) x) this) ∙ ap (λ (x : Scene). still_in (end_appended trust x m)) view)

-- what was stated before plays no part in it
abbrev pub saying : Scene → List Said → Scene
saying sc said = record sc { said = said }

pub end_unsaid : (trust : Trust) (v sc : Scene) (m : ℕ) (said : List Said) → v ≡ sc → SeenCut still_in trust sc (Some m) (saying v said)
end_unsaid trust v sc m said view = inl (ap (λ (x : Scene). still_in x) view)

pub end_stated : {A E : Type 0} (trust : Trust) (v sc : Scene) (m : ℕ) (said : List Said) (new : Scene) (result : Result A E) → v ≡ sc → OnErr result (SeenCut still_in trust (saying v said) (Some m) new)
    → OnErr result (SeenCut still_in trust sc (Some m) new)
end_stated trust v sc m said new (Ok a) view is = tt
end_stated trust v sc m said new (Err e) view (inl same) = inl (same ∙ ap (λ (x : Scene). still_in x) view)
end_stated trust v sc m said new (Err e) view (inr more) = inr (more ∙ ap (λ (x : Scene). still_in (end_appended trust x m)) view)
