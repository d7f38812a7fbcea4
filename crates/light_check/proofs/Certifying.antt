-- A chain in which no link is bad is certified, and no link of a certified one is bad.
use Rattle.std.proofs.Common.{◌≡◌, ◌∙◌, ℕ, Bool, true, false, List, [], ◌∷◌, Option, Some, None, Ok, Err, refl, sym, ap, subst}
use Rattle.std.specs.Prelude.{◌+◌, IfOk, IsErrOf, Result, bytes_eq, ◌==◌, not, option_map, if◌then◌else◌}
use Rattle.std.proofs.lemmas.Bool.{eqb-true, eq-eqb}
use Rattle.std.proofs.lemmas.Slice.Eq.{bytes_eq-Decides}
use Rattle.digest_core.specs.declared.Digest.{Digest}
use Rattle.quorum_core.specs.declared.signer.Signer.TheVariants as signers
use Rattle.quorum_core.specs.Committee.{is_quorum, is_roll, weight}
use Rattle.chain_messages.specs.declared.messages.MemberSeal.{MemberSeal}
use Rattle.checkpoint_core.specs.declared.checkpoints.Checkpoint.{Checkpoint}
use Rattle.checkpoint_core.specs.declared.links.LinkRefusal.TheVariants as link_refused
use Rattle.checkpoint_core.specs.Links.{link_answer, wanted_number, wanted_parent}
use Rattle.protocol_spec.specs.Chain.Words.{Each, first_some, where_true}
use Rattle.protocol_spec.proofs.ListLemmas.{and-first, and-second, all_none}
use Rattle.protocol_spec.proofs.Truth.{where_not_true}
use Rattle.light_check.specs.declared.cause.LinkCause.{LinkCause}
use Rattle.light_check.specs.declared.cause.LinkCause.TheVariants as link_cause
use Rattle.light_check.specs.declared.chain.Link.{Link}
use Rattle.light_check.specs.declared.link.Tip.{Tip}
use Rattle.light_check.specs.declared.chain.ChainRefusal.{ChainRefusal}
use Rattle.light_check.specs.declared.chain.ChainRefusal.TheVariants as refused
use Rattle.light_check.specs.Certified.{Accepting, IsAccepted, IsCertifiedBehind, IsLinked, members_in, stated, tip_of, wanted_epoch}
use Rattle.light_check.specs.Causes.{all_accepted, cause_of, cause_of_link, epoch_behind, first_bad_from, place_of_tip}
use Rattle.light_check.specs.Causes as causes

-- ---- lists of cases

first_none : {A : Type 0} (cases : List (Option A)) → Each (λ (x : Option A). x ≡ None) cases → first_some cases ≡ None
first_none [] e = refl
first_none (None ∷ cases) e = first_none cases e.1
first_none (Some x ∷ cases) e = absurd (no_some x e.0)
  where
    no_some : {A : Type 0} (x : A) → Some x ≡ None → ⊥
    no_some x h = absurd (cc)

is_no_case : {A : Type 0} (b : Bool) (x : A) → b ≡ true → where_true (not b) x ≡ None
is_no_case true x h = refl
is_no_case false x h = absurd (cc)

-- ---- one link

same_digest : (a b : Digest) → bytes_eq a.0 b.0 ≡ true → a ≡ b
same_digest a b h = ap (λ (x : List ℕ). let d : Digest = record { 0 = x } in d) ((bytes_eq-Decides a.0 b.0).0 h)

goes_on : (before : Option (ℕ × Digest)) (c : Checkpoint) → cause_of_link (link_answer before c) ≡ None → (c.number ≡ wanted_number before) × (c.parent ≡ wanted_parent before)
unfolding link_answer
goes_on before c h = go (c.number == wanted_number before) refl (bytes_eq c.parent.0 (wanted_parent before).0) refl h
  where
    go : (a : Bool) → (c.number == wanted_number before) ≡ a → (b : Bool) → bytes_eq c.parent.0 (wanted_parent before).0 ≡ b
        → cause_of_link (if not a then Err (link_refused.WrongNumber c.number (wanted_number before)) else (if not b then Err (link_refused.WrongParent c.parent (wanted_parent before)) else Ok tt)) ≡ None
        → (c.number ≡ wanted_number before) × (c.parent ≡ wanted_parent before)
    go true e true f h = (eqb-true c.number (wanted_number before) e, same_digest c.parent (wanted_parent before) f)
    go true e false f h = absurd (cc)
    go false e b f h = absurd (cc)

goes_on_back : (before : Option (ℕ × Digest)) (c : Checkpoint) → c.number ≡ wanted_number before → c.parent ≡ wanted_parent before → cause_of_link (link_answer before c) ≡ None
unfolding link_answer
goes_on_back before c n p = go (c.number == wanted_number before) (eq-eqb c.number (wanted_number before) n) (bytes_eq c.parent.0 (wanted_parent before).0) ((bytes_eq-Decides c.parent.0 (wanted_parent before).0).1 (ap (λ (d : Digest). d.0) p))
  where
    go : (a : Bool) → a ≡ true → (b : Bool) → b ≡ true
        → cause_of_link (if not a then Err (link_refused.WrongNumber c.number (wanted_number before)) else (if not b then Err (link_refused.WrongParent c.parent (wanted_parent before)) else Ok tt)) ≡ None
    go true e true f = refl
    go true e false f = absurd (cc)
    go false e b f = absurd (cc)

accepted_each : (accepts : Accepting) (bytes : List ℕ) (seals : List MemberSeal) → all_accepted accepts bytes seals ≡ true → Each (IsAccepted accepts bytes) seals
accepted_each accepts bytes [] h = tt
accepted_each accepts bytes (s ∷ seals) h =
    let one = accepts (signers.Member s.member) bytes s.seal in
    (and-first one (all_accepted accepts bytes seals) h, accepted_each accepts bytes seals (and-second one (all_accepted accepts bytes seals) h))

each_accepted : (accepts : Accepting) (bytes : List ℕ) (seals : List MemberSeal) → Each (IsAccepted accepts bytes) seals → all_accepted accepts bytes seals ≡ true
each_accepted accepts bytes [] e = refl
each_accepted accepts bytes (s ∷ seals) e = rw (e.0, each_accepted accepts bytes seals e.1) refl

same_tip : (before : Option Checkpoint) → option_map place_of_tip (option_map causes.tip_of before) ≡ option_map tip_of before
same_tip None = refl
same_tip (Some c) = refl

same_epoch : (before : Option Checkpoint) → epoch_behind (option_map causes.tip_of before) ≡ wanted_epoch before
same_epoch None = refl
same_epoch (Some c) = refl

pub number_goes_on : (stakes : List ℕ) (accepts : Accepting) (before : Option Tip) (l : Link) → cause_of stakes accepts before l ≡ None → l.checkpoint.number ≡ wanted_number (option_map place_of_tip before)
unfolding cause_of
number_goes_on stakes accepts before l h =
    (goes_on (option_map place_of_tip before) l.checkpoint
    (all_none
    (cause_of_link (link_answer (option_map place_of_tip before) l.checkpoint) ∷
    where_true (not (l.checkpoint.epoch == epoch_behind before)) link_cause.WrongEpoch ∷
    where_true (not (is_roll stakes (members_in l))) link_cause.Order ∷
    where_true (not (is_quorum stakes (weight stakes (members_in l)))) link_cause.ShortStake ∷
    where_true (not (all_accepted accepts (stated l.checkpoint) l.seals)) link_cause.BadSeal ∷ []) h).0).0

linked : (stakes : List ℕ) (accepts : Accepting) (before : Option Checkpoint) (l : Link) → cause_of stakes accepts (option_map causes.tip_of before) l ≡ None → IsLinked stakes accepts before l
unfolding cause_of
linked stakes accepts before l h =
    let cases = all_none
    (cause_of_link (link_answer (option_map place_of_tip (option_map causes.tip_of before)) l.checkpoint) ∷
    where_true (not (l.checkpoint.epoch == epoch_behind (option_map causes.tip_of before))) link_cause.WrongEpoch ∷
    where_true (not (is_roll stakes (members_in l))) link_cause.Order ∷
    where_true (not (is_quorum stakes (weight stakes (members_in l)))) link_cause.ShortStake ∷
    where_true (not (all_accepted accepts (stated l.checkpoint) l.seals)) link_cause.BadSeal ∷ []) h in
    let on = goes_on (option_map tip_of before) l.checkpoint (subst (λ t. cause_of_link (link_answer t l.checkpoint) ≡ None) (same_tip before) cases.0) in
    record {
      number = on.0;
      parent = on.1;
      epoch = eqb-true l.checkpoint.epoch (epoch_behind (option_map causes.tip_of before)) (where_not_true (l.checkpoint.epoch == epoch_behind (option_map causes.tip_of before)) link_cause.WrongEpoch cases.1.0) ∙ same_epoch before;
      roll = where_not_true (is_roll stakes (members_in l)) link_cause.Order cases.1.1.0;
      quorum = where_not_true (is_quorum stakes (weight stakes (members_in l))) link_cause.ShortStake cases.1.1.1.0;
      sealed = accepted_each accepts (stated l.checkpoint) l.seals (where_not_true (all_accepted accepts (stated l.checkpoint) l.seals) link_cause.BadSeal cases.1.1.1.1.0);
    }

without_cause : (stakes : List ℕ) (accepts : Accepting) (before : Option Checkpoint) (l : Link) → IsLinked stakes accepts before l → cause_of stakes accepts (option_map causes.tip_of before) l ≡ None
unfolding cause_of
without_cause stakes accepts before l is =
    first_none
    (cause_of_link (link_answer (option_map place_of_tip (option_map causes.tip_of before)) l.checkpoint) ∷
    where_true (not (l.checkpoint.epoch == epoch_behind (option_map causes.tip_of before))) link_cause.WrongEpoch ∷
    where_true (not (is_roll stakes (members_in l))) link_cause.Order ∷
    where_true (not (is_quorum stakes (weight stakes (members_in l)))) link_cause.ShortStake ∷
    where_true (not (all_accepted accepts (stated l.checkpoint) l.seals)) link_cause.BadSeal ∷ []) (
      subst (λ t. cause_of_link (link_answer t l.checkpoint) ≡ None) (sym (same_tip before)) (goes_on_back (option_map tip_of before) l.checkpoint is.number is.parent),
      (
        is_no_case (l.checkpoint.epoch == epoch_behind (option_map causes.tip_of before)) link_cause.WrongEpoch (eq-eqb l.checkpoint.epoch (epoch_behind (option_map causes.tip_of before)) (is.epoch ∙ sym (same_epoch before))),
        (
          is_no_case (is_roll stakes (members_in l)) link_cause.Order is.roll,
          (
            is_no_case (is_quorum stakes (weight stakes (members_in l))) link_cause.ShortStake is.quorum,
            (is_no_case (all_accepted accepts (stated l.checkpoint) l.seals) link_cause.BadSeal (each_accepted accepts (stated l.checkpoint) l.seals is.sealed), tt),
          ),
        ),
      ),
    )

-- ---- all links

none_first : (place : ℕ) (cause : Option LinkCause) (rest : Option (ℕ × ℕ)) → first_some (causes.at_place place cause ∷ rest ∷ []) ≡ None → (cause ≡ None) × (rest ≡ None)
none_first place None None h = (refl, refl)
none_first place None (Some x) h = absurd (cc)
none_first place (Some c) rest h = absurd (cc)

pub certifies : (stakes : List ℕ) (accepts : Accepting) (place : ℕ) (before : Option Checkpoint) (ls : List Link) → first_bad_from stakes accepts place (option_map causes.tip_of before) ls ≡ None → IsCertifiedBehind stakes accepts before ls
certifies stakes accepts place before [] h = tt
certifies stakes accepts place before (l ∷ ls) h =
    let both = none_first place (cause_of stakes accepts (option_map causes.tip_of before) l) (first_bad_from stakes accepts (place + 1) (Some (causes.tip_of l.checkpoint)) ls) h in
    (linked stakes accepts before l both.0, certifies stakes accepts (place + 1) (Some l.checkpoint) ls both.1)

pub certified_is_good : (stakes : List ℕ) (accepts : Accepting) (place : ℕ) (before : Option Checkpoint) (ls : List Link) → IsCertifiedBehind stakes accepts before ls → first_bad_from stakes accepts place (option_map causes.tip_of before) ls ≡ None
certified_is_good stakes accepts place before [] is = refl
certified_is_good stakes accepts place before (l ∷ ls) is =
    rw (without_cause stakes accepts before l is.0, certified_is_good stakes accepts (place + 1) (Some l.checkpoint) ls is.1) refl

-- ---- answers

pub if_checked : (stakes : List ℕ) (accepts : Accepting) (links : List Link) (result : Result (Unit {0}) ChainRefusal) → causes.Checks result (causes.first_bad stakes accepts links)
    → IfOk result (λ _. IsCertifiedBehind stakes accepts None links)
if_checked stakes accepts links (Ok done) h = certifies stakes accepts 0 None links h
if_checked stakes accepts links (Err (refused.Bad place cause)) h = tt
if_checked stakes accepts links (Err refused.OutOfMemory) h = tt

pub if_bad : (stakes : List ℕ) (accepts : Accepting) (links : List Link) (result : Result (Unit {0}) ChainRefusal) → causes.Checks result (causes.first_bad stakes accepts links)
    → (place cause : ℕ) → IsErrOf result (refused.Bad place cause) → IsCertifiedBehind stakes accepts None links → ⊥
if_bad stakes accepts links (Ok done) h place cause e is = absurd (cc)
if_bad stakes accepts links (Err (refused.Bad at why)) h place cause e is = clash (sym h ∙ certified_is_good stakes accepts 0 None links is)
  where
    clash : {x : ℕ × ℕ} → Some x ≡ None → ⊥
    clash h = absurd (cc)
if_bad stakes accepts links (Err refused.OutOfMemory) h place cause e is = absurd (cc)
