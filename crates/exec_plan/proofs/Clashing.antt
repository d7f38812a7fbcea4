-- A certificate that is ready before a round is executed by it, or clashes with what did.
use Rattle.std.proofs.Common.{◌≡◌, ℕ, zero, suc, Bool, true, false, cond, ◌||◌, List, [], ◌∷◌, ◌++◌, Option, Some, None, is_some, inl, inr, refl, ap, sym, subst, ◌∙◌}
use Rattle.std.specs.Prelude.{◌⊎◌, slice_get}
use Rattle.std.specs.List.{list_any}
use Rattle.digest_core.specs.declared.Digest.{Digest}
use Rattle.chain_types.specs.declared.objects.Object.{Object}
use Rattle.chain_types.specs.declared.objects.ObjectKey.{ObjectKey}
use Rattle.protocol_spec.specs.declared.answers.Held.{Held}
use Rattle.chain_types.specs.Equal.{digest_eq}
use Rattle.protocol_spec.proofs.Equality.{digest_self}
use Rattle.protocol_spec.proofs.Truth.{or_right, or_left}
use Rattle.protocol_spec.specs.Chain.Tests.{has_key}
use Rattle.protocol_spec.specs.Block.Execution.{written_keys}
use Rattle.protocol_spec.specs.Member.Versions.{Execution, is_executed, versions}
use Rattle.protocol_spec.specs.Member.Rounds.{Books, clashes, holds_key, ready, round_add, round_among}
use Rattle.version_store.proofs.Based.{any_both}
use Rattle.exec_plan.specs.Written.{writes}
use Rattle.exec_plan.proofs.Following.{executed_join, holds_join}
use Rattle.exec_plan.proofs.Readying.{is_ready}

-- ---- keys that more executions write

more_writes : (round more : List Execution) (keys : List ObjectKey) → list_any (writes round) keys ≡ true → list_any (writes (round ++ more)) keys ≡ true
more_writes round more [] some = absurd (cc)
more_writes round more (k ∷ ks) some = go (writes round k) refl some (more_writes round more ks)
  where
    go : (b : Bool) → writes round k ≡ b → (b || list_any (writes round) ks) ≡ true → (list_any (writes round) ks ≡ true → list_any (writes (round ++ more)) ks ≡ true)
        → (writes (round ++ more) k || list_any (writes (round ++ more)) ks) ≡ true
    go true is some rest =
        or_left (writes (round ++ more) k) (list_any (writes (round ++ more)) ks)
        (any_both (λ (y : Execution). has_key (written_keys y.gave) k) round more ∙ or_left (writes round k) (writes more k) is)
    go false is some rest = or_right (writes (round ++ more) k) (list_any (writes (round ++ more)) ks) (rest some)

pub now_held : (opening : List Object) (before more : List Execution) (keys : List ObjectKey) → list_any (writes more) keys ≡ true → list_any (holds_key (versions opening (before ++ more))) keys ≡ true
now_held opening before more [] some = absurd (cc)
now_held opening before more (k ∷ ks) some = go (writes more k) refl some (now_held opening before more ks)
  where
    go : (b : Bool) → writes more k ≡ b → (b || list_any (writes more) ks) ≡ true → (list_any (writes more) ks ≡ true → list_any (holds_key (versions opening (before ++ more))) ks ≡ true)
        → (holds_key (versions opening (before ++ more)) k || list_any (holds_key (versions opening (before ++ more))) ks) ≡ true
    go true is some rest =
        or_left (holds_key (versions opening (before ++ more)) k) (list_any (holds_key (versions opening (before ++ more))) ks)
        (holds_join opening before more k ∙ or_right (holds_key (versions opening before) k) (writes more k) is)
    go false is some rest = or_right (holds_key (versions opening (before ++ more)) k) (list_any (holds_key (versions opening (before ++ more))) ks) (rest some)

-- ---- a round has each ready certificate, or one that writes what it writes

abbrev pub IsCovered : List Execution → Held → Execution → Type 0
IsCovered round h x = (is_executed round h.digest ≡ true) ⊎ (clashes round x ≡ true)

module _ (b : Books) (executed : List Execution) where
  covered_more : (h : Held) (x : Execution) (round more : List Execution) → IsCovered round h x → IsCovered (round ++ more) h x
  covered_more h x round more (inl ran) = inl (executed_join round more h.digest ∙ or_left (is_executed round h.digest) (is_executed more h.digest) ran)
  covered_more h x round more (inr clash) = inr (more_writes round more (written_keys x.gave) clash)

  covered_add : (h : Held) (x : Execution) (round : List Execution) (o : Option Execution) → IsCovered round h x → IsCovered (round_add round o) h x
  covered_add h x round None covered = covered
  covered_add h x round (Some y) covered = go (clashes round y)
    where
      go : (c : Bool) → IsCovered (cond c round (round ++ y ∷ [])) h x
      go true = covered
      go false = covered_more h x round (y ∷ []) covered

  covered_later : (h : Held) (x : Execution) (hs : List Held) (round : List Execution) → IsCovered round h x → IsCovered (round_among b executed round hs) h x
  covered_later h x [] round covered = covered
  covered_later h x (k ∷ ks) round covered = covered_later h x ks (round_add round (ready b executed k)) (covered_add h x round (ready b executed k) covered)

  covered_here : (h : Held) (x : Execution) (round : List Execution) → ready b executed h ≡ Some x → IsCovered (round_add round (Some x)) h x
  covered_here h x round is = go (clashes round x) refl
    where
      itself : digest_eq x.digest h.digest ≡ true
      itself = ap (λ (d : Digest). digest_eq d h.digest) (is_ready b executed h x is).named ∙ digest_self h.digest

      go : (c : Bool) → clashes round x ≡ c → IsCovered (cond c round (round ++ x ∷ [])) h x
      go true clash = inr clash
      go false clash = inl (
          executed_join round (x ∷ []) h.digest
          ∙ or_right (is_executed round h.digest) (is_executed (x ∷ []) h.digest) (ap (λ (c : Bool). is_some (cond c (Some x) None)) itself)
          )

  pub covered_at : (hs : List Held) (round : List Execution) (place : ℕ) (h : Held) (x : Execution) → slice_get hs place ≡ Some h → ready b executed h ≡ Some x → IsCovered (round_among b executed round hs) h x
  covered_at [] round place h x at is = absurd (cc)
  covered_at (k ∷ ks) round zero h x at is =
      covered_later h x ks (round_add round (ready b executed k))
      (subst (λ (o : Option Execution). IsCovered (round_add round o) h x) (sym (ap (ready b executed) same ∙ is)) (covered_here h x round is))
    where
      same : k ≡ h
      same = cc
  covered_at (k ∷ ks) round (suc n) h x at is = covered_at ks (round_add round (ready b executed k)) n h x at is
