-- A life of a process that serves.
use Rattle.std.proofs.Common.{◌≡◌, ◌∙◌, inl, inr, ℕ, List, [], Option, Result, Err, ap, refl}
use Rattle.std.specs.Io.KnownBytes.{Appends}
use Rattle.std.proofs.KnownBytes.{Appends-nil}
use Rattle.outside.specs.Lists.{Journals, KeepsJournals}
use Rattle.outside.specs.Streams.{AppendsFront}
use Rattle.world_spec.specs.Seats.{Seated}
use Rattle.world_core.specs.Replies.{Accepting}
use Rattle.validator_process.specs.declared.stop.Stop.{Stop}
use Rattle.validator_process.specs.declared.stop.Stop.TheVariants as stop
use Rattle.validator_process.specs.Genesis.{ready_line}
use Rattle.validator_process.specs.Serving.{ServesAll, ServesSome, around}
use Rattle.validator_process.specs.Starting.{IsOfLine, LivesCut, LivesWhole, start_bytes}

module _ (accepts : Accepting) (seat last : Seated) (left left' held said held' : Option (List ℕ)) (kept kept' : Option Journals) (pending : List ℕ) where
  pub whole : Appends held said (start_bytes (ready_line seat)) → ServesAll accepts (around [] left said kept seat) (around pending left' held' kept' last) → LivesWhole accepts seat left left' held held' kept kept'
  whole ready serves = record { said = said; pending = pending; last = last; ready = ready; serves = serves }

  pub some : (why : Stop) → Appends held said (start_bytes (ready_line seat)) → ServesSome accepts why (around [] left said kept seat) (around pending left' held' kept' last) → LivesCut accepts why seat left left' held held' kept kept'
  some why ready serves = inr (record { said = said; pending = pending; last = last; ready = ready; serves = serves })

of-line : (why : Stop) → (why ≡ stop.ReadFault → ⊥) → (why ≡ stop.KeepFault → ⊥) → IsOfLine why
of-line stop.ReadFault unread unkept = unread refl
of-line stop.WriteFault unread unkept = tt
of-line stop.KeepFault unread unkept = unkept refl
of-line stop.OutOfMemory unread unkept = tt

module _ (accepts : Accepting) (seat : Seated) (left held held' : Option (List ℕ)) (kept kept' : Option Journals) where
  pub unready : (why : Stop) (given : Result (Unit {0}) Stop) → given ≡ Err why → (given ≡ Err stop.ReadFault → ⊥) × (given ≡ Err stop.KeepFault → ⊥) → AppendsFront held held' (start_bytes (ready_line seat)) → KeepsJournals kept kept'
      → LivesCut accepts why seat left left held held' kept kept'
  unready why given is only writes keeps = inl (record {
    by = of-line why (λ e. only.0 (is ∙ ap (λ (s : Stop). Err s) e)) (λ e. only.1 (is ∙ ap (λ (s : Stop). Err s) e));
    unread = refl;
    writes = writes;
    keeps = keeps;
  })

-- nothing is written yet
pub unsaid : (accepts : Accepting) (seat : Seated) (left held : Option (List ℕ)) (kept kept' : Option Journals) → KeepsJournals kept kept' → LivesCut accepts stop.OutOfMemory seat left left held held kept kept'
unsaid accepts seat left held kept kept' keeps = inl (record { by = tt; unread = refl; writes = ([], start_bytes (ready_line seat), refl, Appends-nil held); keeps = keeps })
