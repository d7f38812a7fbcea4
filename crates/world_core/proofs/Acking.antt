-- The lines of acknowledgements and of what they make final, in each of their ways.
use Rattle.std.proofs.Common.{◌≡◌, ◌∙◌, ap, sym, ℕ, Bool, true, false, cond, List, [], ◌∷◌, ◌++◌, map, Option, Some, None, Result, subst}
use Rattle.std.proofs.lemmas.Result.{IfOk-weaker}
use Rattle.std.specs.Prelude.{IfOk, OnOk, slice_get}
use Rattle.chain_messages.specs.declared.messages.Statement.{Statement}
use Rattle.chain_types.specs.Equal.{digest_eq}
use Rattle.protocol_spec.specs.Chain.Certificates.{Rules}
use Rattle.protocol_spec.specs.Chain.Collecting.{Collected, collected}
use Rattle.protocol_spec.specs.Member.Calls.{acks}
use Rattle.report_text.specs.declared.lines.Line.{Line}
use Rattle.report_text.specs.declared.lines.Line.TheVariants as line
use Rattle.report_text.specs.declared.lines.AckText.{AckText}
use Rattle.report_text.specs.declared.lines.AckText.TheVariants as ack_text
use Rattle.report_text.specs.declared.lines.FinalText.{FinalText}
use Rattle.report_text.specs.declared.lines.FinalText.TheVariants as final_text
use Rattle.world_spec.specs.Setting.{Name, Trust}
use Rattle.world_spec.specs.World.{Made, Said, honest_in, said_by}
use Rattle.world_spec.specs.Names.{made_named}
use Rattle.world_spec.specs.Step.{ack_in, last_said}
use Rattle.world_spec.specs.Report.{ack_reached, acks_collected, final_collected, final_lines}
use Rattle.world_spec.specs.Posts.{post_honest}
use Rattle.world_spec.specs.Scene.{Scene, bare_setting, post_world, rules_in}
use Rattle.world_spec.specs.SceneSteps.{called_scene, state_at}
use Rattle.world_core.specs.Steps.{ack_lines_in, acked_in, comes_to}
use Rattle.world_core.specs.Crews.{honest_flags}
use Rattle.world_core.specs.Epochs.{ack_statements, ack_text_by, false_ack_by}
use Rattle.world_core.specs.Votes.{flag_at}
use Rattle.world_core.proofs.Silent.{ack_scene, ack_text_is, saying}
use Rattle.world_core.proofs.Sound.{on_ok}
use Rattle.world_core.proofs.Voting.{honest_same}

module _ (trust : Trust) (sc : Scene) (m : ℕ) (tx : Name) (spoiled : Bool) (t : Option Made) where
  abbrev r : Rules
  r = rules_in trust.accepts sc

  pub unnamed_acks : None ≡ t → sc ≡ acked_in r sc m spoiled t
  unnamed_acks none = ap (λ (x : Option Made). acked_in r sc m spoiled x) none

  pub unnamed_lines : (lines : List Line) → None ≡ t → lines ≡ line.Ack m tx ack_text.Down ∷ [] → lines ≡ ack_lines_in trust sc m tx t
  unnamed_lines lines none is = is ∙ ap (λ (x : Option Made). ack_lines_in trust sc m tx x) none

  module _ (made : Made) (is : Some made ≡ t) (honest : Bool) (flag : flag_at (slice_get (honest_flags sc.posts) m) ≡ honest) where
    honest_is : honest_in post_honest (post_world sc) m ≡ honest
    honest_is = sym (honest_same sc.posts m) ∙ flag

    acked_as : cond honest (called_scene r sc m (acks made.digest)) (record sc { said = sc.said ++ said_by m (false_ack_by sc.posts made spoiled) ∷ [] }) ≡ acked_in r sc m spoiled t
    acked_as =
        sym (ap (λ (b : Bool). cond b (called_scene r sc m (acks made.digest)) (record sc { said = sc.said ++ said_by m (false_ack_by sc.posts made spoiled) ∷ [] })) honest_is)
        ∙ ap (λ (x : Option Made). acked_in r sc m spoiled x) is

    lines_as : line.Ack m tx (cond honest (ack_reached (bare_setting trust sc) (post_world sc) made.digest (comes_to trust sc m (acks made.digest))) ack_text.Said) ∷ [] ≡ ack_lines_in trust sc m tx t
    lines_as =
        sym (ap (λ (b : Bool). line.Ack m tx (cond b (ack_reached (bare_setting trust sc) (post_world sc) made.digest (comes_to trust sc m (acks made.digest))) ack_text.Said) ∷ []) honest_is)
        ∙ ap (λ (x : Option Made). ack_lines_in trust sc m tx x) is

  module _ (made : Made) (is : Some made ≡ t) where
    pub honest_acks : (said : List Said) → flag_at (slice_get (honest_flags sc.posts) m) ≡ true → saying sc said ≡ called_scene r sc m (acks made.digest) → saying sc said ≡ acked_in r sc m spoiled t
    honest_acks said flag now = now ∙ acked_as made is true flag

    pub honest_lines : (text : AckText) (lines : List Line) → flag_at (slice_get (honest_flags sc.posts) m) ≡ true → text ≡ ack_reached (bare_setting trust sc) (post_world sc) made.digest (comes_to trust sc m (acks made.digest))
        → lines ≡ line.Ack m tx text ∷ [] → lines ≡ ack_lines_in trust sc m tx t
    honest_lines text lines flag said now = now ∙ ap (λ (x : AckText). line.Ack m tx x ∷ []) said ∙ lines_as made is true flag

    pub faulty_acks : (st : Statement) (said : List Said) → flag_at (slice_get (honest_flags sc.posts) m) ≡ false → st ≡ false_ack_by sc.posts made spoiled → said ≡ sc.said ++ said_by m st ∷ [] → saying sc said ≡ acked_in r sc m spoiled t
    faulty_acks st said flag lie now = ap (saying sc) (now ∙ ap (λ (x : Statement). sc.said ++ said_by m x ∷ []) lie) ∙ acked_as made is false flag

    pub faulty_lines : (lines : List Line) → flag_at (slice_get (honest_flags sc.posts) m) ≡ false → lines ≡ line.Ack m tx ack_text.Said ∷ [] → lines ≡ ack_lines_in trust sc m tx t
    faulty_lines lines flag now = now ∙ lines_as made is false flag

-- ---- an acknowledgement of a transaction that is known, said of the world as it was

module _ {E : Type 0} (trust : Trust) (v sc : Scene) (m : ℕ) (tx : Name) (spoiled : Bool) (made : Made) (result : Result (List Line) E) (view : v ≡ sc) (is : Some made ≡ made_named (post_world v) tx) where
  -- the world after the line
  abbrev IsAcked : List Said → Scene → Type 0
  IsAcked said x = saying v said ≡ acked_in (rules_in trust.accepts x) x m spoiled (made_named (post_world x) tx)

  pub honest_told : (said : List Said) → flag_at (slice_get (honest_flags v.posts) m) ≡ true → said ≡ v.said ++ map (said_by m) (ack_statements (rules_in trust.accepts v) made.digest (state_at v m)) → OnOk result (IsAcked said sc)
  honest_told said flag told =
      on_ok (IsAcked said sc) result
      (subst (IsAcked said) view (honest_acks trust v m tx spoiled (made_named (post_world v) tx) made is said flag (ack_scene trust v m made.digest said told)))

  pub faulty_told : (st : Statement) (said : List Said) → flag_at (slice_get (honest_flags v.posts) m) ≡ false → st ≡ false_ack_by v.posts made spoiled → said ≡ v.said ++ said_by m st ∷ [] → OnOk result (IsAcked said sc)
  faulty_told st said flag lie told =
      on_ok (IsAcked said sc) result (subst (IsAcked said) view (faulty_acks trust v m tx spoiled (made_named (post_world v) tx) made is st said flag lie told))

  pub honest_lines_told : (text : AckText) → flag_at (slice_get (honest_flags v.posts) m) ≡ true → text ≡ ack_text_by v.known (rules_in trust.accepts v) made.digest (state_at v m)
      → IfOk result (λ lines. lines ≡ line.Ack m tx text ∷ []) → IfOk result (λ lines. lines ≡ ack_lines_in trust sc m tx (made_named (post_world sc) tx))
  honest_lines_told text flag said told =
      subst (λ (x : Scene). IfOk result (λ lines. lines ≡ ack_lines_in trust x m tx (made_named (post_world x) tx))) view
      (IfOk-weaker result (λ lines. lines ≡ line.Ack m tx text ∷ []) (λ lines. lines ≡ ack_lines_in trust v m tx (made_named (post_world v) tx))
      (λ lines now. honest_lines trust v m tx spoiled (made_named (post_world v) tx) made is text lines flag (said ∙ ack_text_is trust v m made.digest) now) told)

-- ---- final

module _ (trust : Trust) (sc : Scene) (tx : Name) (ms : List ℕ) (t : Option Made) where
  pub unnamed_final : (lines : List Line) → None ≡ t → lines ≡ line.Final tx (final_text.NoAck 0) ∷ [] → lines ≡ final_lines (bare_setting trust sc) (post_world sc) tx ms t
  unnamed_final lines none is = is ∙ ap (λ (x : Option Made). final_lines (bare_setting trust sc) (post_world sc) tx ms x) none

  pub named_final : (made : Made) (found : Collected) (text : FinalText) (lines : List Line) → Some made ≡ t
      → found ≡ collected digest_eq sc.terms.stakes (λ (m : ℕ). last_said (ack_in made.signed.tx.epoch made.digest) m sc.said) ms → text ≡ final_collected ms found
      → lines ≡ line.Final tx text ∷ [] → lines ≡ final_lines (bare_setting trust sc) (post_world sc) tx ms t
  unfolding acks_collected
  named_final made found text lines is gave said now =
      now
      ∙ ap (λ (x : FinalText). line.Final tx x ∷ []) (said ∙ ap (λ (c : Collected). final_collected ms c) gave)
      ∙ ap (λ (x : Option Made). final_lines (bare_setting trust sc) (post_world sc) tx ms x) is

pub final_told : {E : Type 0} (trust : Trust) (v sc : Scene) (tx : Name) (ms : List ℕ) (made : Made) (found : Collected) (text : FinalText) (result : Result (List Line) E) → v ≡ sc → Some made ≡ made_named (post_world v) tx
    → found ≡ collected digest_eq v.terms.stakes (λ (m : ℕ). last_said (ack_in made.signed.tx.epoch made.digest) m v.said) ms → text ≡ final_collected ms found → IfOk result (λ lines. lines ≡ line.Final tx text ∷ [])
    → IfOk result (λ lines. lines ≡ final_lines (bare_setting trust sc) (post_world sc) tx ms (made_named (post_world sc) tx))
final_told trust v sc tx ms made found text result view is gave said told =
    subst (λ (x : Scene). IfOk result (λ lines. lines ≡ final_lines (bare_setting trust x) (post_world x) tx ms (made_named (post_world x) tx))) view
    (IfOk-weaker result (λ lines. lines ≡ line.Final tx text ∷ []) (λ lines. lines ≡ final_lines (bare_setting trust v) (post_world v) tx ms (made_named (post_world v) tx))
    (λ lines now. named_final trust v tx ms (made_named (post_world v) tx) made found text lines is gave said now) told)
