-- What is said of bytes, and how it ends.
use Rattle.std.proofs.Common.{◌≡◌, ◌∙◌, ◌⊎◌, inl, inr, ◌<◌, ◌≤◌, ℕ, Bool, true, false, nat_lt, List, [], ◌∷◌, ◌++◌, length, Option, Result, Ok, Err, if◌then◌else◌, refl, sym, ap, subst, arith}
use Rattle.std.proofs.lemmas.Bool.{ltb-true}
use Rattle.std.proofs.lemmas.Bool.Decides.{nat_tests}
use Rattle.std.proofs.KnownBytes.{Appends-nil}
use Rattle.std.specs.Io.KnownBytes.{Appends}
use Rattle.digest_core.specs.declared.Digest.{Digest}
use Rattle.wire_bcs.specs.Place.{IsBytes, Stop}
use Rattle.wire_bcs.specs.Whole.{whole, whole-found}
use Rattle.light_check.specs.declared.chain.Chain.{Chain}
use Rattle.light_check.specs.declared.verdict.Verdict.{Verdict}
use Rattle.light_check.specs.declared.verdict.Verdict.TheVariants as verdict
use Rattle.light_check.specs.Chains as codecs
use Rattle.light_check.specs.Certified.{Accepting, IsCertified}
use Rattle.light_check.specs.Verdicts.{SpellsCertified, number_with, verdict_on, verdict_on_read}
use Rattle.light_check.proofs.Judging.{called_certified, is_called}
use Rattle.light_check.specs.declared.said.Finding.{Finding}
use Rattle.light_check.specs.declared.said.Finding.TheVariants as finding
use Rattle.light_check.specs.Said.{IsCheckCut, Says, SaysCertified, SaysRefused, WritesCertified, finding_body, finding_on, finding_status, finding_text, longest_chain, verdict_body, verdict_status}
use Rattle.outside.specs.Streams.{AppendsFront, ReadsText}

-- ---- the status

abbrev IsKnown : ℕ → Type 0
IsKnown n = (n ≡ 0) ⊎ (n ≡ 5) ⊎ (n ≡ 7) ⊎ (n ≡ 8)

judged_known : (v : Verdict) → IsKnown (verdict_status v)
judged_known (verdict.Certified links included) = inl refl
judged_known (verdict.Malformed at why) = inr (inr (inr refl))
judged_known (verdict.Bad place cause) = inr (inr (inr refl))

pub status_known : (f : Finding) (status : ℕ) → status ≡ finding_status f → IsKnown status
status_known f status is = subst IsKnown (sym is) (known f)
  where
    known : (f : Finding) → IsKnown (finding_status f)
    known finding.TooLarge = inr (inr (inr refl))
    known (finding.Judged v) = judged_known v

other_status : (f : Finding) → (finding_status f ≡ 5) ⊎ (finding_status f ≡ 7) → ⊥
other_status finding.TooLarge (inl e) = absurd (cc)
other_status finding.TooLarge (inr e) = absurd (cc)
other_status (finding.Judged (verdict.Certified links included)) (inl e) = absurd (cc)
other_status (finding.Judged (verdict.Certified links included)) (inr e) = absurd (cc)
other_status (finding.Judged (verdict.Malformed at why)) (inl e) = absurd (cc)
other_status (finding.Judged (verdict.Malformed at why)) (inr e) = absurd (cc)
other_status (finding.Judged (verdict.Bad place cause)) (inl e) = absurd (cc)
other_status (finding.Judged (verdict.Bad place cause)) (inr e) = absurd (cc)

-- a status whose line was written whole is not another one
pub never_cut : {A : Type 0} (f : Finding) (status : ℕ) → status ≡ finding_status f → (status ≡ 5) ⊎ (status ≡ 7) → A
never_cut f status is e = absurd (other_status f (moved e))
  where
    moved : (status ≡ 5) ⊎ (status ≡ 7) → (finding_status f ≡ 5) ⊎ (finding_status f ≡ 7)
    moved (inl e) = inl (sym is ∙ e)
    moved (inr e) = inr (sym is ∙ e)

pub never_five : {A : Type 0} (f : Finding) (status : ℕ) → status ≡ finding_status f → status ≡ 5 → A
never_five f status is e = absurd (other_status f (inl (sym is ∙ e)))

-- nothing was written
pub nothing_said : (held : Option (List ℕ)) (whole : List ℕ) → AppendsFront held held whole
nothing_said held whole = ([], whole, refl, Appends-nil held)

-- ---- a certified chain

spells : (stakes : List ℕ) (accepts : Accepting) (tx : Digest) (bytes : List ℕ) → IsBytes bytes → (links : ℕ) (included : Option ℕ)
    → verdict_on stakes accepts tx bytes ≡ verdict.Certified links included → SpellsCertified stakes accepts tx bytes links included
unfolding verdict_on
spells stakes accepts tx bytes fits links included is = go (whole codecs.chain bytes) refl is
  where
    go : (read : Result Chain Stop) → whole codecs.chain bytes ≡ read → verdict_on_read stakes accepts tx read ≡ verdict.Certified links included → SpellsCertified stakes accepts tx bytes links included
    go (Err stop) e is = absurd (cc)
    go (Ok c) e is = let found = whole-found codecs.chain bytes c fits e in called_certified stakes accepts tx bytes c found.0 found.1 links included is

module _ (stakes : List ℕ) (accepts : Accepting) (tx : Digest) (text : List ℕ) where
  abbrev read_as : Verdict
  read_as = verdict_on stakes accepts tx text

  abbrev with_length : Bool → Finding
  with_length long = if long then finding.TooLarge else finding.Judged read_as

  -- status 0 is that of a certified chain
  pub certified_said : IsBytes text → (held held' : Option (List ℕ)) → 0 ≡ finding_status (finding_on stakes accepts tx text) → Appends held held' (finding_text (finding_on stakes accepts tx text)) → WritesCertified stakes accepts tx text held held'
  unfolding finding_on finding_text verdict_body
  certified_said fits held held' is written = go (nat_lt longest_chain (length text)) is written
    where
      judged : (v : Verdict) → read_as ≡ v → 0 ≡ verdict_status v → Appends held held' (verdict_body v ++ 10 ∷ []) → WritesCertified stakes accepts tx text held held'
      judged (verdict.Malformed at why) e is written = absurd (cc)
      judged (verdict.Bad place cause) e is written = absurd (cc)
      judged (verdict.Certified links included) e is written = record {
        links = links;
        included = included;
        spelled = spells stakes accepts tx text fits links included e;
        written = written;
      }

      go : (long : Bool) → 0 ≡ finding_status (with_length long) → Appends held held' (finding_body (with_length long) ++ 10 ∷ []) → WritesCertified stakes accepts tx text held held'
      go true is written = absurd (cc)
      go false is written = judged read_as refl is written

  -- status 8 is that of none
  pub refused_said : 8 ≡ finding_status (finding_on stakes accepts tx text) → (c : Chain) → codecs.chain.fits c → text ≡ codecs.chain.spell c → IsCertified stakes accepts c.links → longest_chain < length text
  unfolding finding_on
  refused_said is c fits spelled certified = go (nat_lt longest_chain (length text)) refl is
    where
      other : (v : Verdict) → v ≡ verdict.Certified (length c.links) (number_with tx c.links) → 8 ≡ verdict_status v → ⊥
      other v e is = let zero_is = is ∙ ap verdict_status e in absurd (cc)

      go : (long : Bool) → nat_lt longest_chain (length text) ≡ long → 8 ≡ finding_status (with_length long) → longest_chain < length text
      go true long is = ltb-true longest_chain (length text) long
      go false long is = absurd (other read_as (is_called stakes accepts tx text c fits spelled certified) is)

  -- a certified chain is no longer than the limit
  pub certified_short : 0 ≡ finding_status (finding_on stakes accepts tx text) → length text ≤ longest_chain
  unfolding finding_on
  certified_short is = go (nat_lt longest_chain (length text)) refl is
    where
      go : (long : Bool) → nat_lt longest_chain (length text) ≡ long → 0 ≡ finding_status (with_length long) → length text ≤ longest_chain
      go true long is = absurd (cc)
      go false long is = grind (arith, nat_tests)

-- ---- a source that was read

module _ (stakes : List ℕ) (accepts : Accepting) (tx : Digest) (left left' held held' : Option (List ℕ)) (text : List ℕ) (read : ReadsText longest_chain left left' text) (status : ℕ) where
  abbrev IsWritten : Type 0
  IsWritten = (status ≡ 0) ⊎ (status ≡ 8) → (status ≡ finding_status (finding_on stakes accepts tx text)) × Appends held held' (finding_text (finding_on stakes accepts tx text))

  pub says : IsWritten → (status ≡ 0) ⊎ (status ≡ 8) → Says stakes accepts tx left left' held held' status
  says done h = record { text = text; read = read; is = (done h).0; written = (done h).1 }

  pub says_certified : IsWritten → (status ≡ 0 → WritesCertified stakes accepts tx text held held') → status ≡ 0 → SaysCertified stakes accepts tx left left' held held'
  says_certified done certified h = record {
    text = text;
    read = read.read;
    ended = read.ended (certified_short stakes accepts tx text (sym h ∙ (done (inl h)).0));
    says = certified h;
  }

  pub says_refused : IsWritten → status ≡ 8 → SaysRefused stakes accepts tx left left' held held'
  says_refused done h = record {
    text = text;
    read = read;
    none = refused_said stakes accepts tx text (sym h ∙ (done (inr h)).0);
    written = (done (inr h)).1;
  }

  pub says_front : AppendsFront held held' (finding_text (finding_on stakes accepts tx text)) → IsCheckCut stakes accepts tx left left' held held'
  says_front front = inr (record { text = text; read = read; cut = front })
