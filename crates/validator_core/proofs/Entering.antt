-- What an entry leaves of an admission: what was admitted stays a prefix, and whatever is admitted or waits is held.
use Rattle.std.proofs.Common.{◌≡◌, ◌∙◌, ℕ, zero, suc, Bool, true, false, List, [], ◌∷◌, ◌++◌, length, refl, sym, append-nil}
use Rattle.std.specs.Prelude.{Option, Some, None, find}
use Rattle.chain_types.specs.declared.objects.Object.{Object}
use Rattle.protocol_spec.specs.declared.answers.Held.{Held}
use Rattle.protocol_spec.specs.Chain.Words.{Each, IsFront}
use Rattle.protocol_spec.proofs.ListLemmas.{find-each, front_then, each_filter, each_push}
use Rattle.protocol_spec.specs.Member.Admission.{Admission, admit, entered, is_dropped, is_free, not_of, passed_mark, take_free, taken, taken_as, taken_next}
use Rattle.validator_core.specs.Courses.{AreHeld, IsHeldIn, WaitsIn}

-- what one certificate that is taken leaves
record Leaves (held : List Held) (old new : Admission) : Type 0 where
  front : IsFront old.admitted new.admitted
  marked : new.marked ≡ old.marked
  known : AreHeld held new

one_taken : (opening : List Object) (held : List Held) (a : Admission) (h : Held) → AreHeld held a → WaitsIn held h → Leaves held a (taken opening a h)
unfolding admit
one_taken opening held a h known here = by (is_dropped opening a.admitted h.cert)
  where
    by : (b : Bool) → Leaves held a (taken_as b opening a h)
    by true = record {
      front = ([], sym (append-nil a.admitted));
      marked = refl;
      known = record { admitted = known.admitted; pending = each_filter (WaitsIn held) (not_of h) a.pending known.pending };
    }
    by false = record {
      front = (admit opening a.admitted h ∷ [], refl);
      marked = refl;
      known = record { admitted = last; pending = each_filter (WaitsIn held) (not_of h) a.pending known.pending };
    }
      where
        last : Each (IsHeldIn held) (a.admitted ++ admit opening a.admitted h ∷ [])
        last = each_push (IsHeldIn held) a.admitted (admit opening a.admitted h) known.admitted here

all_taken : (writers : Option ℕ) (opening : List Object) (held : List Held) (n : ℕ) (a : Admission) → AreHeld held a → Leaves held a (take_free writers opening n a)
all_taken writers opening held zero a known = record { front = ([], sym (append-nil a.admitted)); marked = refl; known = known }
all_taken writers opening held (suc n) a known = by (find (is_free writers a) a.pending) refl (all_taken writers opening held n)
  where
    by : (o : Option Held) → find (is_free writers a) a.pending ≡ o → ((b : Admission) → AreHeld held b → Leaves held b (take_free writers opening n b)) → Leaves held a (taken_next (take_free writers opening n) opening a o)
    by None e next = record { front = ([], sym (append-nil a.admitted)); marked = refl; known = known }
    by (Some h) e next =
        let one = one_taken opening held a h known (find-each (WaitsIn held) (is_free writers a) a.pending h known.pending e) in
        let rest = next (taken opening a h) one.known in
        record {
          front = front_then a.admitted (taken opening a h).admitted (take_free writers opening n (taken opening a h)).admitted one.front rest.front;
          marked = rest.marked ∙ one.marked;
          known = rest.known;
        }

module _ (writers : Option ℕ) (opening : List Object) (held : List Held) (a : Admission) (known : AreHeld held a) where
  module _ (h : Held) (here : WaitsIn held h) where
    leaves : Leaves held (record a { pending = a.pending ++ h ∷ [] }) (entered writers opening a h)
    unfolding entered
    leaves = all_taken writers opening held _ (record a { pending = a.pending ++ h ∷ [] }) (record { admitted = known.admitted; pending = each_push (WaitsIn held) a.pending h known.pending here })

    pub entered_front : IsFront a.admitted (entered writers opening a h).admitted
    entered_front = leaves.front

    pub entered_marked : (entered writers opening a h).marked ≡ a.marked
    entered_marked = leaves.marked

    pub entered_held : AreHeld held (entered writers opening a h)
    entered_held = leaves.known

  behind_mark : Leaves held (record a { marked = length a.admitted }) (passed_mark writers opening a)
  unfolding passed_mark
  behind_mark = all_taken writers opening held _ (record a { marked = length a.admitted }) (record { admitted = known.admitted; pending = known.pending })

  pub passed_front : IsFront a.admitted (passed_mark writers opening a).admitted
  passed_front = behind_mark.front

  pub passed_marked : (passed_mark writers opening a).marked ≡ length a.admitted
  passed_marked = behind_mark.marked

  pub passed_held : AreHeld held (passed_mark writers opening a)
  passed_held = behind_mark.known
