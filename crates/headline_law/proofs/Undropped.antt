-- No admitted transaction was to be dropped.
use Rattle.std.proofs.Common.{refl, sym, subst}
use Rattle.std.specs.Prelude.{◌≡◌, ℕ, zero, suc, Bool, true, false, cond, List, [], ◌∷◌, ◌++◌, fold, map, find, length, slice_get, Option, Some, None}
use Rattle.chain_types.specs.declared.objects.Object.{Object}
use Rattle.chain_messages.specs.Messages as messages
use Rattle.protocol_spec.specs.declared.answers.Held.{Held}
use Rattle.schedule_text.specs.declared.words.Event.{Event}
use Rattle.protocol_spec.specs.Chain.Words.{Along}
use Rattle.protocol_spec.specs.Chain.Certificates.{Rules}
use Rattle.protocol_spec.proofs.ListLemmas.{along-push}
use Rattle.protocol_spec.specs.Member.Admission.{Admitted, Admission, is_free, admit, taken_as, taken, is_dropped, taken_next, take_free, entered, passed_mark}
use Rattle.protocol_spec.specs.Member.Sequence.{Sequence, What, takes, commits, counts, ignores, nothing_seen, what_of, counted_as, ends_with_member, with_what, with_entry, saw, seen}
use Rattle.world_spec.specs.Setting.{Setting}
use Rattle.world_spec.specs.World.{Seat, member_in}
use Rattle.world_spec.specs.Run.{world_after}
use Rattle.safety_law.proofs.Prefixes.{follows}

abbrev pub IsKept : List Object → List Admitted → Admitted → Type 0
IsKept opening before a = is_dropped opening before a.cert ≡ false

abbrev AllKept : List Object → Admission → Type 0
AllKept opening a = Along (IsKept opening) [] a.admitted

module _ (opening : List Object) where
  kept-taken_as : (b : Bool) (a : Admission) (h : Held) → is_dropped opening a.admitted h.cert ≡ b → AllKept opening a → AllKept opening (taken_as b opening a h)
  unfolding admit
  kept-taken_as true a h e kept = kept
  kept-taken_as false a h e kept = along-push (IsKept opening) [] a.admitted (admit opening a.admitted h) kept e

  kept-next : (next : Admission → Admission) → ((a : Admission) → AllKept opening a → AllKept opening (next a)) → (a : Admission) (h : Option Held) → AllKept opening a → AllKept opening (taken_next next opening a h)
  kept-next next keeps a None kept = kept
  kept-next next keeps a (Some h) kept = keeps (taken opening a h) (kept-taken_as (is_dropped opening a.admitted h.cert) a h refl kept)

  kept-free : (writers : Option ℕ) (n : ℕ) (a : Admission) → AllKept opening a → AllKept opening (take_free writers opening n a)
  kept-free writers zero a kept = kept
  kept-free writers (suc n) a kept = kept-next (take_free writers opening n) (kept-free writers n) a (find (is_free writers a) a.pending) kept

  kept-what : (r : Rules) (q : Sequence) (what : What) → AllKept opening q.admission → AllKept opening (with_what r opening q what).admission
  unfolding entered passed_mark
  kept-what r q (takes h) kept = kept-free r.writers (length (q.admission.pending ++ h ∷ [])) (record q.admission { pending = q.admission.pending ++ h ∷ [] }) kept
  kept-what r q commits kept = kept-free r.writers (length q.admission.pending) (record q.admission { marked = length q.admission.admitted }) kept
  kept-what r q (counts m) kept = go (ends_with_member r q m)
    where
      go : (b : Bool) → AllKept opening (counted_as b q m).admission
      go true = kept
      go false = kept
  kept-what r q (ignores cause) kept = kept

  kept-saw : (r : Rules) (epoch : ℕ) (q : Sequence) (bytes : List ℕ) → AllKept opening q.admission → AllKept opening (saw r opening epoch q bytes).admission
  unfolding saw with_entry
  kept-saw r epoch q bytes kept = go q.ended
    where
      go : (b : Bool) → AllKept opening (cond b q (with_entry r opening q (what_of r epoch q bytes))).admission
      go true = kept
      go false = kept-what r q (what_of r epoch q bytes) kept

  kept-fold : (r : Rules) (epoch : ℕ) (entries : List (List ℕ)) (q : Sequence) → AllKept opening q.admission → AllKept opening (fold (saw r opening epoch) q entries).admission
  kept-fold r epoch [] q kept = kept
  kept-fold r epoch (bytes ∷ entries) q kept = kept-fold r epoch entries (saw r opening epoch q bytes) (kept-saw r epoch q bytes kept)

  kept-seen : (r : Rules) (epoch : ℕ) (entries : List (List ℕ)) → AllKept opening (seen r opening epoch entries).admission
  unfolding seen
  kept-seen r epoch entries = kept-fold r epoch entries nothing_seen tt

pub none-dropped : (s : Setting) (events : List Event) (m : ℕ) (seat : Seat) → slice_get (world_after s events).seats m ≡ Some seat → Along (IsKept (member_in s seat).opening) [] (member_in s seat).sequence.admission.admitted
none-dropped s events m seat at =
    let taken = follows s events m seat at in
    subst (λ (q : Sequence). Along (IsKept (member_in s seat).opening) [] q.admission.admitted) (sym taken.gives)
    (kept-seen (member_in s seat).opening s.rules (member_in s seat).epoch (map messages.entry.spell taken.front))
