-- Two quorums have more than a third of the stake in common.
use Rattle.std.proofs.Common.{if◌then◌else◌, ◌≡◌, ◌∙◌, ◌<◌, ◌≤◌, ◌+◌, ◌*◌, ℕ, suc, Bool, true, false, List, [], ◌∷◌, Some, None, refl, sym, ap, subst, filter, cond, arith}
use Rattle.std.specs.Prelude.{◌==◌, ◌&&◌, ◌||◌}
use Rattle.std.proofs.lemmas.Bool.{eqb-true, ltb-true}
use Rattle.chain_messages.specs.declared.messages.Certificate.{Certificate}
use Rattle.quorum_core.specs.Committee.{is_among, is_quorum, total_of, weight, weight_from, weight_of}
use Rattle.protocol_spec.specs.Chain.Certificates.{Rules, cert_refusal}
use Rattle.protocol_spec.proofs.ListLemmas.{and-first, and-second}
use Rattle.safety_law.proofs.Voted.{valid-quorum}
use Rattle.light_check.specs.declared.rivals.DoubleVote.{DoubleVote}
use Rattle.light_check.specs.Blamed.{blamed, sealers}
use Rattle.headline_law.proofs.Blaming.{blamed-is}

one : (x y z : Bool) (stake : ℕ) → ((x && y) ≡ true → z ≡ true) → (if x then stake else 0) + (if y then stake else 0) ≤ stake + (if z then stake else 0)
one true true true stake more = omega arith
one true true false stake more = absurd (clash (more refl))
  where
    clash : false ≡ true → ⊥
    clash h = absurd (cc)
one true false true stake more = omega arith
one true false false stake more = omega arith
one false true true stake more = omega arith
one false true false stake more = omega arith
one false false true stake more = omega arith
one false false false stake more = omega arith

-- two sets weigh no more than all and what they have in common
in_common : (member : ℕ) (stakes : List ℕ) (a b both : ℕ → Bool) → ((m : ℕ) → (a m && b m) ≡ true → both m ≡ true)
    → weight_from member stakes a + weight_from member stakes b ≤ weight_from member stakes (λ _. true) + weight_from member stakes both
in_common member [] a b both more = omega arith
in_common member (stake ∷ stakes) a b both more =
    let here = one (a member) (b member) (both member) stake (more member) in
    let rest = in_common (suc member) stakes a b both more in
    omega (arith, here, rest)

kept_among : (test : ℕ → Bool) (xs : List ℕ) (m : ℕ) → is_among xs m ≡ true → test m ≡ true → is_among (filter test xs) m ≡ true
kept_among test [] m e t = e
kept_among test (x ∷ xs) m e t = go (x == m) refl (test x) refl e (kept_among test xs m)
  where
    or-right : (b c : Bool) → c ≡ true → (b || c) ≡ true
    or-right true c h = refl
    or-right false c h = h

    clash : true ≡ false → ⊥
    clash h = absurd (cc)

    go : (b : Bool) → (x == m) ≡ b → (k : Bool) → test x ≡ k → (b || is_among xs m) ≡ true → (is_among xs m ≡ true → test m ≡ true → is_among (filter test xs) m ≡ true) → is_among (cond k (x ∷ filter test xs) (filter test xs)) m ≡ true
    go true is true k e rest = ap (λ (y : Bool). y || is_among (filter test xs) m) is
    go true is false k e rest = absurd (clash (sym t ∙ (ap test (sym (eqb-true x m is)) ∙ k)))
    go false is true k e rest = or-right (x == m) (is_among (filter test xs) m) (rest e t)
    go false is false k e rest = rest e t

heavy : (stakes members others : List ℕ) → is_quorum stakes (weight stakes members) ≡ true → is_quorum stakes (weight stakes others) ≡ true
    → total_of stakes < 3 * weight stakes (filter (is_among members) others)
unfolding weight_of total_of
heavy stakes members others one other =
    let above = ltb-true (2 * total_of stakes) (3 * weight stakes members) one in
    let besides = ltb-true (2 * total_of stakes) (3 * weight stakes others) other in
    let common = in_common 0 stakes (is_among members) (is_among others) (is_among (filter (is_among members) others))
    (λ m both. kept_among (is_among members) others m (and-second (is_among members m) (is_among others m) both) (and-first (is_among members m) (is_among others m) both)) in
    omega (arith, above, besides, common)

pub more-than-a-third : (r : Rules) (c d : Certificate) → cert_refusal r c ≡ None → cert_refusal r d ≡ None → (b : DoubleVote) → blamed c d ≡ Some b → total_of r.stakes < 3 * weight r.stakes b.members
more-than-a-third r c d one other b e =
    subst (λ (ms : List ℕ). total_of r.stakes < 3 * weight r.stakes ms) (sym (blamed-is c d b e).members)
    (heavy r.stakes (sealers c) (sealers d) (valid-quorum r c one) (valid-quorum r d other))
