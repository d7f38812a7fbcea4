-- Which cut of an epoch is its last: if the epoch has ended the last one, else none.
use Rattle.std.proofs.Common.{refl}
use Rattle.std.specs.Prelude.{◌≡◌, ℕ, Bool, true, false, cond, List, [], ◌∷◌, ◌++◌, fold}
use Rattle.chain_types.specs.declared.objects.Object.{Object}
use Rattle.protocol_spec.proofs.ListLemmas.{each_join}
use Rattle.protocol_spec.specs.Chain.Words.{Each}
use Rattle.protocol_spec.specs.Chain.Certificates.{Rules}
use Rattle.protocol_spec.specs.Member.Admission.{Admitted, since_mark}
use Rattle.protocol_spec.specs.Member.Sequence.{Cut, Sequence, What, takes, commits, counts, ignores, nothing_seen, what_of, cut_of, last_cut, counted_as, ends_with_member, with_what, with_entry, saw, seen}

abbrev pub IsNotLast : Cut → Type 0
IsNotLast c = c.last ≡ false

-- the cuts of an epoch that has ended: the last one, and those before it
pub record HasLast (cuts : List Cut) : Type 0 where
  pub before : List Cut
  pub cut : Cut
  pub are : cuts ≡ before ++ cut ∷ []
  pub others : Each IsNotLast before
  pub last : cut.last ≡ true

pub record IsFlagged (q : Sequence) : Type 0 where
  pub going : q.ended ≡ false → Each IsNotLast q.cuts
  pub ended : q.ended ≡ true → HasLast q.cuts

cut-flag : (txs : List Admitted) → Each IsNotLast (cut_of txs)
cut-flag [] = tt
cut-flag (a ∷ more) = (refl, tt)

module _ (r : Rules) (opening : List Object) (epoch : ℕ) where
  counted-flag : (b : Bool) (q : Sequence) (m : ℕ) → q.ended ≡ false → IsFlagged q → IsFlagged (counted_as b q m)
  counted-flag true q m open_yet is = record { going = λ e. absurd (cc); ended = λ e. record { before = q.cuts; cut = last_cut (since_mark q.admission); are = refl; others = is.going open_yet; last = refl } }
  counted-flag false q m open_yet is = record { going = is.going; ended = is.ended }

  what-flag : (q : Sequence) (what : What) → q.ended ≡ false → IsFlagged q → IsFlagged (with_what r opening q what)
  what-flag q (takes h) open_yet is = record { going = is.going; ended = is.ended }
  what-flag q commits open_yet is = record { going = λ e. each_join IsNotLast q.cuts (cut_of (since_mark q.admission)) (is.going open_yet) (cut-flag (since_mark q.admission)); ended = λ e. absurd (cc) }
  what-flag q (counts m) open_yet is = counted-flag (ends_with_member r q m) q m open_yet is
  what-flag q (ignores cause) open_yet is = is

  saw-flag : (q : Sequence) (bytes : List ℕ) → IsFlagged q → IsFlagged (saw r opening epoch q bytes)
  unfolding saw with_entry
  saw-flag q bytes is = go q.ended refl
    where
      taken : IsFlagged (with_what r opening q (what_of r epoch q bytes)) → IsFlagged (with_entry r opening q (what_of r epoch q bytes))
      taken it = record { going = it.going; ended = it.ended }

      go : (b : Bool) → q.ended ≡ b → IsFlagged (cond b q (with_entry r opening q (what_of r epoch q bytes)))
      go true e = is
      go false e = taken (what-flag q (what_of r epoch q bytes) e is)

  fold-flag : (entries : List (List ℕ)) (q : Sequence) → IsFlagged q → IsFlagged (fold (saw r opening epoch) q entries)
  fold-flag [] q is = is
  fold-flag (bytes ∷ entries) q is = fold-flag entries (saw r opening epoch q bytes) (saw-flag q bytes is)

  pub seen-flag : (entries : List (List ℕ)) → IsFlagged (seen r opening epoch entries)
  unfolding seen
  seen-flag entries = fold-flag entries nothing_seen (record { going = λ e. tt; ended = λ e. absurd (cc) })
