-- What a disk that holds some lists leaves of one of them.
use Rattle.std.proofs.Common.{inl, inr, refl, sym, subst, ap, ◌∙◌, arith, append-nil}
use Rattle.std.specs.Prelude.{◌≡◌, ◌<◌, ℕ, zero, suc, List, [], ◌∷◌, ◌++◌, length, replicate, slice_set, Some}
use Rattle.outside.specs.Lists.{Journals, journal_of}
use Rattle.disk_log.specs.Disk.{History}
use Rattle.disk_log.specs.Records.{Record, journals_of}
use Rattle.disk_log.specs.Running.{HasRecords, HoldsLists}
use Rattle.disk_log.proofs.Listing.{added_to-push, length-journals}
use Rattle.protocol_spec.specs.Chain.Words.{IsFront}
use Rattle.lives_law.specs.Files.{IsLeft, kept_of}
use Rattle.run_law.proofs.SceneRecords.{front-set}

pub own-set : (lists : Journals) (m : ℕ) (kept : List (List ℕ)) → m < length lists → journal_of (slice_set lists m kept) m ≡ kept
own-set [] m kept few = absurd (omega (arith, few))
own-set (l ∷ ls) zero kept few = refl
own-set (l ∷ ls) (suc m) kept few = own-set ls m kept (omega (arith, few))

-- one record more, of whatever member, leaves each list first
front-more : (width m : ℕ) (records : List Record) (x : Record) → IsFront (journal_of (journals_of width records) m) (journal_of (journals_of width (records ++ x ∷ [])) m)
front-more width m records x =
    let lists = journals_of width records in
    subst (λ (l : Journals). IsFront (journal_of lists m) (journal_of l m)) (sym (added_to-push (replicate width []) records x))
    (front-set lists x.member (journal_of lists x.member ++ x.bytes ∷ []) (x.bytes ∷ [], refl) m)

some-lists : (a b : Journals) → Some a ≡ Some b → a ≡ b
some-lists a b e = cc

module _ (width m faults : ℕ) (h : History) (lists : Journals) (many : length lists ≡ width) (files : ℕ) (holds : HoldsLists files faults (Some h) (Some lists)) where
  abbrev records : List Record
  records = holds.0

  same-width : files ≡ width
  same-width = sym (length-journals files records) ∙ ap (λ (l : Journals). length l) (sym (some-lists lists (journals_of files records) holds.1)) ∙ many

  these : lists ≡ journals_of width records
  these = some-lists lists (journals_of files records) holds.1 ∙ ap (λ (n : ℕ). journals_of n records) same-width

  in-file : (file : List ℕ) → HasRecords faults records file → IsFront (journal_of lists m) (kept_of width m file)
  in-file file (inl e) = ([], ap (λ (l : List Record). journal_of (journals_of width l) m) e ∙ ap (λ (l : Journals). journal_of l m) (sym these) ∙ sym (append-nil (journal_of lists m)))
  in-file file (inr (failed, x, e)) =
      subst (λ (l : List Record). IsFront (journal_of lists m) (journal_of (journals_of width l) m)) (sym e)
      (subst (λ (l : Journals). IsFront (journal_of l m) (journal_of (journals_of width (records ++ x ∷ [])) m)) (sym these) (front-more width m records x))

  pub held-left : (file : List ℕ) → IsLeft h file → IsFront (journal_of lists m) (kept_of width m file)
  held-left file (inl e) = in-file file (subst (HasRecords faults records) (sym e) holds.2.reads)
  held-left file (inr image) = in-file file (holds.2.crash file image)
