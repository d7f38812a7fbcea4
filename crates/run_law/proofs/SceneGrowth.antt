-- The sequences of a world only grow: entries that can be kept at the end of a run could be kept before.
use Rattle.std.proofs.Common.{subst}
use Rattle.std.specs.Prelude.{ℕ, zero, suc, List, [], ◌∷◌}
use Rattle.chain_messages.specs.declared.messages.Entry.{Entry}
use Rattle.schedule_text.specs.declared.words.Event.{Event}
use Rattle.protocol_spec.proofs.ListLemmas.{each_front}
use Rattle.protocol_spec.specs.Chain.Words.{Each, IsFront}
use Rattle.world_spec.specs.Setting.{Setting}
use Rattle.world_spec.specs.World.{World, entries_at}
use Rattle.world_spec.specs.Run.{run}
use Rattle.world_spec.specs.SceneWorlds.{AreKeepable, IsKeepable}
use Rattle.safety_law.proofs.Growth.{Grown, grows-run}

entries-of : (qs : List (List Entry)) (n : ℕ) → AreKeepable qs → Each IsKeepable (entries_at qs n)
entries-of [] n all = tt
entries-of (q ∷ qs) zero all = all.0
entries-of (q ∷ qs) (suc n) all = entries-of qs n all.1

by-entries : (qs : List (List Entry)) → ((n : ℕ) → Each IsKeepable (entries_at qs n)) → AreKeepable qs
by-entries [] each = tt
by-entries (q ∷ qs) each = (each zero, by-entries qs (λ n. each (suc n)))

front-keepable : (old new : List Entry) → IsFront old new → Each IsKeepable new → Each IsKeepable old
front-keepable old new (rest, is) all = each_front IsKeepable old rest (subst (λ (es : List Entry). Each IsKeepable es) is all)

grown-keepable : (old new : List (List Entry)) → Grown old new → AreKeepable new → AreKeepable old
grown-keepable old new grown all = by-entries old (λ n. front-keepable (entries_at old n) (entries_at new n) (grown n) (entries-of new n all))

pub run-keepable : (s : Setting) (events : List Event) (w : World) → AreKeepable (run s events w).sequences → AreKeepable w.sequences
run-keepable s events w keepable = grown-keepable w.sequences (run s events w).sequences (grows-run s events w) keepable
