-- The first reason of all, from the first of each part.
use Rattle.std.proofs.Common.{◌≡◌, ℕ, suc, true, false, ◌≤◌, List, [], ◌∷◌, length, Option, Some, None, refl, ap, sym, ◌∙◌, subst, arith}
use Rattle.std.specs.Prelude.{Bool, not, cond, ◌==◌, Result, Ok, Err, filter, option_map}
use Rattle.std.proofs.lemmas.Bool.{eqb-true}
use Rattle.digest_core.specs.declared.Digest.{Digest}
use Rattle.wire_bcs.specs.Digests.{digest}
use Rattle.chain_types.specs.declared.refusals.CertRefusal.{CertRefusal}
use Rattle.chain_types.specs.declared.refusals.CertRefusal.TheVariants as refused
use Rattle.chain_messages.specs.Messages as messages
use Rattle.chain_messages.specs.declared.messages.Statement.TheVariants as statement
use Rattle.chain_messages.specs.declared.messages.Certificate.{Certificate}
use Rattle.quorum_core.specs.Committee.{is_quorum, is_roll, total_of, weight}
use Rattle.chain_types.specs.Digests.{is_object}
use Rattle.chain_types.specs.declared.transactions.Input.{Input}
use Rattle.chain_types.specs.declared.transactions.Transaction.{Transaction}
use Rattle.protocol_spec.proofs.Checked.{origin_short}
use Rattle.protocol_spec.specs.Chain.Keys.{objects_of}
use Rattle.protocol_spec.specs.Chain.Shape.{shape_fault}
use Rattle.protocol_spec.specs.Chain.Words.{first_of, first_some, unless_refused, where_true}
use Rattle.protocol_spec.specs.Chain.Certificates.{Rules, cert_refusal, members_of, vote_of}
use Rattle.cert_rules.specs.Answers.{Checks}
use Rattle.cert_rules.specs.Parts.{member_refusal, object_refusal, refused_seal}

abbrev pub or_else : Option CertRefusal → Option CertRefusal → Option CertRefusal
or_else None y = y
or_else (Some x) y = Some x

split : (a b c d e : Option CertRefusal) → first_some (a ∷ b ∷ c ∷ d ∷ e ∷ []) ≡ or_else (first_some (a ∷ b ∷ [])) (or_else (first_some (c ∷ d ∷ [])) e)
split (Some x) b c d e = refl
split None (Some x) c d e = refl
split None None (Some x) d e = refl
split None None None (Some x) e = refl
split None None None None None = refl
split None None None None (Some x) = refl

abbrev pub seals_refusal : Rules → Certificate → Option CertRefusal
seals_refusal rules c = first_of (refused_seal rules.accepts (messages.statement.spell (vote_of c))) c.seals

parts : (rules : Rules) (c : Certificate) → cert_refusal rules c ≡ or_else (object_refusal c) (or_else (member_refusal rules.stakes (members_of c)) (seals_refusal rules c))
unfolding cert_refusal object_refusal member_refusal
parts rules c =
    split
    (option_map refused.Shape (shape_fault c.tx))
    (where_true (not (length c.origins == length (objects_of c.tx))) (refused.Shape 13))
    (where_true (not (is_roll rules.stakes (members_of c))) refused.Order)
    (where_true (not (is_quorum rules.stakes (weight rules.stakes (members_of c)))) (refused.ShortStake (weight rules.stakes (members_of c)) (total_of rules.stakes)))
    (seals_refusal rules c)

-- the first part's reason is the whole's
first_part : (e : CertRefusal) (a b : Option CertRefusal) → Checks {X = Unit {0}} (Err e) a → Checks {X = Unit {0}} (Err e) (or_else a b)
first_part (refused.Shape n) a b h = ap (λ o. or_else o b) h
first_part refused.Order a b h = ap (λ o. or_else o b) h
first_part (refused.ShortStake w t) a b h = ap (λ o. or_else o b) h
first_part (refused.BadSeal m) a b h = ap (λ o. or_else o b) h
first_part refused.OutOfMemory a b h = tt

-- if the first part has none, it is the second's
second_part : (r : Result (Unit {0}) CertRefusal) (a b : Option CertRefusal) → a ≡ None → Checks r b → Checks r (or_else a b)
second_part r a b none h = subst (λ o. Checks r (or_else o b)) (sym none) h

said : (m : Option CertRefusal) → Checks {X = Unit {0}} (unless_refused m tt) m
said None = refl
said (Some (refused.Shape n)) = refl
said (Some refused.Order) = refl
said (Some (refused.ShortStake w t)) = refl
said (Some (refused.BadSeal m)) = refl
said (Some refused.OutOfMemory) = tt

checks_from : (r : Result (Unit {0}) CertRefusal) (m : Option CertRefusal) → r ≡ unless_refused m tt → Checks r m
checks_from r m e = subst (λ x. Checks x m) (sym e) (said m)

none_from : (m : Option CertRefusal) (u : Unit {0}) → Ok u ≡ unless_refused m tt → m ≡ None
none_from None u e = refl
none_from (Some x) u e = absurd (cc)

-- what each step of the check answers for the whole
pub at_objects : (rules : Rules) (c : Certificate) (e : CertRefusal) → Checks {X = Unit {0}} (Err e) (object_refusal c) → Checks {X = Unit {0}} (Err e) (cert_refusal rules c)
at_objects rules c e h = subst (λ o. Checks {X = Unit {0}} (Err e) o) (sym (parts rules c)) (first_part e (object_refusal c) _ h)

pub at_members : (rules : Rules) (c : Certificate) (members : List ℕ) (e : CertRefusal) → object_refusal c ≡ None → members ≡ members_of c
    → (let r : Result (Unit {0}) CertRefusal = Err e in r ≡ unless_refused (member_refusal rules.stakes members) tt) → Checks {X = Unit {0}} (Err e) (cert_refusal rules c)
at_members rules c members e none same h =
    let m = member_refusal rules.stakes (members_of c) in
    let said : (let r : Result (Unit {0}) CertRefusal = Err e in r ≡ unless_refused m tt) = h ∙ ap (λ ms. unless_refused (member_refusal rules.stakes ms) tt) same in
    subst (λ o. Checks {X = Unit {0}} (Err e) o) (sym (parts rules c)) (second_part (Err e) (object_refusal c) _ none (first_part e m _ (checks_from (Err e) m said)))

pub at_seals : (rules : Rules) (c : Certificate) (members bytes : List ℕ) (r : Result (Unit {0}) CertRefusal) (u : Unit {0}) → object_refusal c ≡ None → members ≡ members_of c
    → Ok u ≡ unless_refused (member_refusal rules.stakes members) tt → bytes ≡ messages.statement.spell (vote_of c) → r ≡ unless_refused (first_of (refused_seal rules.accepts bytes) c.seals) tt
    → Checks r (cert_refusal rules c)
at_seals rules c members bytes r u none same h spelled last =
    let m = member_refusal rules.stakes (members_of c) in
    let rolled : Ok u ≡ unless_refused m tt = h ∙ ap (λ ms. unless_refused (member_refusal rules.stakes ms) tt) same in
    let sealed : r ≡ unless_refused (seals_refusal rules c) tt = last ∙ ap (λ bs. unless_refused (first_of (refused_seal rules.accepts bs) c.seals) tt) spelled in
    subst (λ o. Checks r o) (sym (parts rules c)) (second_part r (object_refusal c) _ none (second_part r m _ (none_from m u rolled) (checks_from r (seals_refusal rules c) sealed)))

-- there are as many objects as inputs and one at most
few_kept : (xs : List Input) → length (filter is_object xs) ≤ length xs
few_kept [] = omega arith
few_kept (x ∷ xs) = go (is_object x) (few_kept xs)
  where
    go : (b : Bool) → length (filter is_object xs) ≤ length xs → length (cond b (x ∷ filter is_object xs) (filter is_object xs)) ≤ suc (length xs)
    go true h = omega arith
    go false h = omega arith

pub few_objects : (t : Transaction) → length t.inputs ≤ 256 → length (objects_of t) ≤ 257
few_objects t few = let kept = few_kept t.inputs in omega arith

pub same_few : (c : Certificate) → length c.tx.inputs ≤ 256 → true ≡ (length c.origins == length (objects_of c.tx)) → length c.origins ≤ 257
same_few c few e = let objects = few_objects c.tx few in let same = eqb-true (length c.origins) (length (objects_of c.tx)) (sym e) in omega arith

-- a vote with few origins may be encoded
pub vote_short : (epoch : ℕ) (tx : Digest) (origins : List (Option Digest)) → length origins ≤ 257 → messages.statement.short (statement.Vote epoch tx origins)
unfolding messages.statement digest
vote_short epoch tx origins few = (tt, (tt, (omega arith, λ k d l. origin_short _)))
