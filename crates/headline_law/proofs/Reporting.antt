-- Each line of the report that says that a transaction is final comes of a `final` line of the schedule, and holds for good.
use Rattle.std.proofs.Common.{inl, inr, sym, subst, ap, append_assoc, ◌∙◌}
use Rattle.std.specs.Prelude.{◌≡◌, ◌⊎◌, ℕ, true, List, [], ◌∷◌, ◌++◌, Ok}
use Rattle.chain_messages.specs.declared.messages.Statement.TheVariants as statement
use Rattle.schedule_text.specs.declared.words.Event.{Event}
use Rattle.schedule_text.specs.declared.words.Event.TheVariants as event
use Rattle.schedule_text.specs.declared.words.Schedule.{Schedule}
use Rattle.schedule_text.specs.Schedule.{schedule_of}
use Rattle.protocol_spec.proofs.ListLemmas.{has_parts, each_has}
use Rattle.protocol_spec.specs.Chain.Words.{Each, Has}
use Rattle.protocol_spec.specs.Chain.Committee.{is_roll}
use Rattle.world_spec.specs.Setting.{Name, Setting, Trust, setting_of}
use Rattle.world_spec.specs.World.{World, new_world}
use Rattle.world_spec.specs.Step.{happens}
use Rattle.world_spec.specs.Report.{lines_of}
use Rattle.world_spec.specs.Run.{report, report_from, report_of, run, world_after}
use Rattle.world_spec.specs.Assumptions.{IsHonestRun, HasSaid}
use Rattle.safety_law.proofs.Grown.{statement-grows}
use Rattle.block_law.specs.Orderly.{AreApart}
use Rattle.safety_law.proofs.SetUp.{set-up-apart}
use Rattle.headline_law.specs.Final.{StandsForGood}
use Rattle.headline_law.specs.Printed.{IsFinalHere, WasFinal, final_by}
use Rattle.headline_law.proofs.Printing.{printed-asked, printed-is-final}
use Rattle.headline_law.proofs.Rolls.{read-roll}
use Rattle.headline_law.proofs.Standing.{stands}
use Rattle.headline_law.proofs.Telling.{IsAsking, IsOther, asks-or-other}

-- ---- where a line of the report comes from

-- after these events the schedule asks, and the answer is this line
record IsTold (s : Setting) (events : List Event) (w : World) (name : Name) (members : List ℕ) : Type 0 where
  front : List Event
  back : List Event
  split : events ≡ front ++ (event.Final name members ∷ back)
  says : Has (lines_of s (run s front w) (event.Final name members)) (final_by name members)

module _ (s : Setting) (name : Name) (members : List ℕ) where
  told-here : (e : Event) (events : List Event) (w : World) → Has (lines_of s w e) (final_by name members) → IsTold s (e ∷ events) w name members
  told-here e events w h = go (asks-or-other s w e)
    where
      go : IsAsking e ⊎ Each IsOther (lines_of s w e) → IsTold s (e ∷ events) w name members
      go (inr others) = absurd (let no = each_has IsOther (lines_of s w e) (final_by name members) others h in cc)
      go (inl asking) =
          let asked = printed-asked s w name asking.name asking.members members (subst (λ (x : Event). Has (lines_of s w x) (final_by name members)) asking.is h) in
          let is : e ≡ event.Final name members = asking.is ∙ ap (λ (n : Name). event.Final n asking.members) asked.0 ∙ ap (λ (ms : List ℕ). event.Final name ms) asked.1 in
          record {
            front = [];
            back = events;
            split = ap (λ (x : Event). x ∷ events) is;
            says = subst (λ (x : Event). Has (lines_of s w x) (final_by name members)) is h;
          }

  told-in : (events : List Event) (w : World) → Has (report_from s events w) (final_by name members) → IsTold s events w name members
  told-in [] w h = absurd h
  told-in (e ∷ events) w h = go (has_parts (lines_of s w e) (report_from s events (happens s w e)) (final_by name members) h) (told-in events (happens s w e))
    where
      go : Has (lines_of s w e) (final_by name members) ⊎ Has (report_from s events (happens s w e)) (final_by name members)
          → (Has (report_from s events (happens s w e)) (final_by name members) → IsTold s events (happens s w e) name members) → IsTold s (e ∷ events) w name members
      go (inl k) rest = told-here e events w k
      go (inr k) rest = let it = rest k in record { front = e ∷ it.front; back = it.back; split = ap (λ (es : List Event). e ∷ es) it.split; says = it.says }

  told : (events : List Event) → Has (report s events) (final_by name members) → IsTold s events (new_world s) name members
  unfolding report
  told events h = told-in events (new_world s) h

-- ---- what it says holds for good

module _ (s : Setting) (events : List Event) (run_is : IsHonestRun s events) (distinct : AreApart s.opening) (name : Name) (members : List ℕ) where
  -- what is final after a prefix stands
  stays : (front back : List Event) → events ≡ front ++ back → (it : IsFinalHere s (world_after s front) name members) → StandsForGood s events it.made.signed.tx.epoch it.made.digest it.effects
  stays front back whole it early late split =
      stands s early late (subst (IsHonestRun s) split run_is) distinct it.made.signed.tx.epoch it.made.digest it.effects members it.final.quorum (λ k h.
      subst (λ (es : List Event). HasSaid (world_after s es) k (statement.Ack it.made.signed.tx.epoch it.made.digest it.effects)) (sym whole ∙ split)
      (statement-grows s front back k (statement.Ack it.made.signed.tx.epoch it.made.digest it.effects)
      (each_has (λ (n : ℕ). HasSaid (world_after s front) n (statement.Ack it.made.signed.tx.epoch it.made.digest it.effects)) members k it.final.said h)))

  was-final : is_roll s.rules.stakes members ≡ true → (it : IsTold s events (new_world s) name members) → WasFinal s events name members
  unfolding world_after
  was-final known it =
      let here = printed-is-final s (world_after s it.front) name members members known it.says in
      record { front = it.front; back = it.back; split = it.split; here = here; stands = stays it.front (event.Final name members ∷ it.back) it.split here }

pub reported-stands : (s : Setting) (events : List Event) → IsHonestRun s events → AreApart s.opening
    → (name : Name) (members : List ℕ) → is_roll s.rules.stakes members ≡ true → Has (report s events) (final_by name members) → WasFinal s events name members
reported-stands s events run_is distinct name members known h = was-final s events run_is distinct name members known (told s name members events h)

pub read-reports : (text : List ℕ) (t : Schedule) → schedule_of text ≡ Ok t → (trust : Trust) → IsHonestRun (setting_of trust t.setup) t.events
    → (name : Name) (members : List ℕ) → Has (report_of trust t) (final_by name members) → WasFinal (setting_of trust t.setup) t.events name members
unfolding report_of
read-reports text t read trust run_is name members h =
    let it = told (setting_of trust t.setup) name members t.events h in
    was-final (setting_of trust t.setup) t.events run_is (set-up-apart trust t.setup) name members (read-roll text t read trust it.front name members it.back it.split) it

-- what is final by a line stands in the report of each prefix of a schedule that a text says
pub read-front : (text : List ℕ) (t : Schedule) → schedule_of text ≡ Ok t → (trust : Trust) → (front back : List Event) → t.events ≡ front ++ back → IsHonestRun (setting_of trust t.setup) front
    → (name : Name) (members : List ℕ) → Has (report (setting_of trust t.setup) front) (final_by name members) → WasFinal (setting_of trust t.setup) front name members
read-front text t read trust front back cut honest name members h =
    let it = told (setting_of trust t.setup) name members front h in
    let whole : t.events ≡ it.front ++ (event.Final name members ∷ (it.back ++ back)) = cut ∙ ap (λ (es : List Event). es ++ back) it.split ∙ append_assoc it.front (event.Final name members ∷ it.back) back in
    was-final (setting_of trust t.setup) front honest (set-up-apart trust t.setup) name members (read-roll text t read trust it.front name members (it.back ++ back) whole) it
