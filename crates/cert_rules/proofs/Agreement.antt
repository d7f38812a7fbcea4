-- Votes that agree, and the certificate that they make.
use Rattle.std.proofs.Common.{◌≡◌, ℕ, List, [], ◌∷◌, length, Option, Some, None, Bool, true, false, refl, ap, sym, ◌∙◌, subst}
use Rattle.std.specs.Prelude.{◌==◌, not, map, option_map}
use Rattle.std.proofs.lemmas.Bool.{and_parts, eq-eqb}
use Rattle.digest_core.specs.declared.Digest.{Digest}
use Rattle.wire_bcs.specs.Ascending.{ascends}
use Rattle.quorum_core.specs.Committee.{all_known, is_quorum, is_roll, total_of, weight}
use Rattle.chain_types.specs.Digests.{transaction_digest}
use Rattle.chain_types.specs.declared.refusals.CertRefusal.TheVariants as refused
use Rattle.chain_types.specs.declared.transactions.Transaction.{Transaction}
use Rattle.chain_messages.specs.declared.messages.Statement.{Statement}
use Rattle.chain_messages.specs.declared.messages.Statement.TheVariants as statement
use Rattle.chain_messages.specs.declared.messages.Sealed.{Sealed}
use Rattle.chain_messages.specs.declared.messages.MemberSeal.{MemberSeal}
use Rattle.chain_messages.specs.declared.messages.Certificate.{Certificate}
use Rattle.protocol_spec.proofs.Equality.{origins_same}
use Rattle.protocol_spec.specs.Chain.Words.{Each, first_of, first_some, where_true}
use Rattle.protocol_spec.specs.Chain.Keys.{objects_of}
use Rattle.protocol_spec.specs.Chain.Shape.{shape_fault}
use Rattle.protocol_spec.specs.Chain.Certificates.{Rules, accepts_statement, bad_seal, cert_refusal, members_of, vote_of}
use Rattle.protocol_spec.specs.Chain.Collecting.{Collected, lacks, differ, whole, whole_or}
use Rattle.cert_rules.specs.Collect.{AreSound, IsVoteFor, certificate_of, same_vote, seal_of, sealed_collected, voted_origins, voters}
use Rattle.cert_rules.proofs.Words.{differs_from, first_differing, lack_none, none_differs, quorum_true}

-- ---- votes that are collected

pub lacks_none : (stakes : List ℕ) (votes : List Sealed) (m : ℕ) → is_roll stakes (voters votes) ≡ true → sealed_collected stakes votes ≡ lacks m → ⊥
unfolding sealed_collected
lacks_none stakes votes m roll e = lack_none same_vote stakes votes m roll e

enough : (stakes : List ℕ) (votes : List Sealed) → ascends (voters votes) ≡ true → sealed_collected stakes votes ≡ whole → is_quorum stakes (weight stakes (voters votes)) ≡ true
unfolding sealed_collected
enough stakes votes up e = quorum_true same_vote stakes votes up e

alike : (stakes : List ℕ) (votes : List Sealed) → ascends (voters votes) ≡ true → sealed_collected stakes votes ≡ whole → whole_or (first_differing same_vote votes) ≡ whole
unfolding sealed_collected
alike stakes votes up e = none_differs same_vote stakes votes up e

-- ---- votes that agree are one statement

abbrev vote_as : Transaction → List (Option Digest) → Statement
vote_as t origins = statement.Vote t.epoch (transaction_digest t) origins

others_agree : (t : Transaction) (v : Sealed) (votes : List Sealed) → whole_or (first_of (differs_from same_vote v) votes) ≡ whole → Each (IsVoteFor t) votes
    → Each (λ (w : Sealed). w.statement ≡ vote_as t (voted_origins v.statement)) votes
others_agree t v [] all each = tt
others_agree t v (w ∷ votes) all each = go (same_vote v w) refl all (λ h. others_agree t v votes h each.1)
  where
    go : (b : Bool) → same_vote v w ≡ b
        → whole_or (first_some (where_true (not b) (differ v.member w.member) ∷ first_of (differs_from same_vote v) votes ∷ [])) ≡ whole
        → (whole_or (first_of (differs_from same_vote v) votes) ≡ whole → Each (λ (w : Sealed). w.statement ≡ vote_as t (voted_origins v.statement)) votes)
        → Each (λ (w : Sealed). w.statement ≡ vote_as t (voted_origins v.statement)) (w ∷ votes)
    go true is h more = (each.0 ∙ ap (vote_as t) (sym (origins_same (voted_origins v.statement) (voted_origins w.statement) is)), more (rest (first_of (differs_from same_vote v) votes) h))
      where
        rest : (x : Option Collected) → whole_or (first_some (None ∷ x ∷ [])) ≡ whole → whole_or x ≡ whole
        rest None e = refl
        rest (Some c) e = e
    go false is h more = absurd (cc)

agree : (t : Transaction) (votes : List Sealed) → whole_or (first_differing same_vote votes) ≡ whole → Each (IsVoteFor t) votes → Each (λ (v : Sealed). v.statement ≡ vote_of (certificate_of t votes)) votes
agree t [] all each = tt
agree t (v ∷ votes) all each = (each.0, others_agree t v votes all each.1)

-- ---- the certificate is valid

members_same : (votes : List Sealed) → map (λ (s : MemberSeal). s.member) (map seal_of votes) ≡ voters votes
members_same [] = refl
members_same (v ∷ votes) = ap (λ (ms : List ℕ). v.member ∷ ms) (members_same votes)

seals_good : (rules : Rules) (c : Certificate) (votes : List Sealed) → Each (λ (v : Sealed). v.statement ≡ vote_of c) votes
    → Each (λ (v : Sealed). accepts_statement rules v.member v.statement v.seal ≡ true) votes → first_of (bad_seal rules c) (map seal_of votes) ≡ None
seals_good rules c [] same accepted = refl
seals_good rules c (v ∷ votes) same accepted =
    let good : accepts_statement rules v.member (vote_of c) v.seal ≡ true = subst (λ (st : Statement). accepts_statement rules v.member st v.seal ≡ true) same.0 accepted.0 in
    ap (λ b. first_some (where_true (not b) (refused.BadSeal v.member) ∷ first_of (bad_seal rules c) (map seal_of votes) ∷ [])) good
    ∙ ap (λ rest. first_some (rest ∷ [])) (seals_good rules c votes same.1 accepted.1)

all_none : {A : Type 0} (a b c d e : Option A) → a ≡ None → b ≡ None → c ≡ None → d ≡ None → e ≡ None → first_some (a ∷ b ∷ c ∷ d ∷ e ∷ []) ≡ None
all_none a b c d e na nb nc nd ne = rw (na, nb, nc, nd, ne) refl

valid_from : (rules : Rules) (t : Transaction) (votes : List Sealed) → is_roll rules.stakes (voters votes) ≡ true → is_quorum rules.stakes (weight rules.stakes (voters votes)) ≡ true
    → Each (λ (v : Sealed). v.statement ≡ vote_of (certificate_of t votes)) votes → AreSound rules t votes → cert_refusal rules (certificate_of t votes) ≡ None
unfolding cert_refusal
valid_from rules t votes roll enough same sound =
    let c = certificate_of t votes in
    let ms : members_of c ≡ voters votes = members_same votes in
    let rolled : is_roll rules.stakes (members_of c) ≡ true = ap (is_roll rules.stakes) ms ∙ roll in
    let heavy : is_quorum rules.stakes (weight rules.stakes (members_of c)) ≡ true = ap (λ xs. is_quorum rules.stakes (weight rules.stakes xs)) ms ∙ enough in
    all_none
    (option_map refused.Shape (shape_fault c.tx))
    (where_true (not (length c.origins == length (objects_of c.tx))) (refused.Shape 13))
    (where_true (not (is_roll rules.stakes (members_of c))) refused.Order)
    (where_true (not (is_quorum rules.stakes (weight rules.stakes (members_of c)))) (refused.ShortStake (weight rules.stakes (members_of c)) (total_of rules.stakes)))
    (first_of (bad_seal rules c) c.seals)
    (ap (option_map refused.Shape) sound.shape)
    (ap (λ b. where_true (not b) (refused.Shape 13)) (eq-eqb (length c.origins) (length (objects_of c.tx)) sound.origins))
    (ap (λ b. where_true (not b) refused.Order) rolled)
    (ap (λ b. where_true (not b) (refused.ShortStake (weight rules.stakes (members_of c)) (total_of rules.stakes))) heavy)
    (seals_good rules c votes same sound.seals)

-- ---- likewise for what the call found

ascending : (stakes : List ℕ) (votes : List Sealed) → is_roll stakes (voters votes) ≡ true → ascends (voters votes) ≡ true
ascending stakes votes roll = (and_parts (ascends (voters votes)) (all_known stakes (voters votes)) roll).0

pub agreed : (stakes : List ℕ) (t : Transaction) (votes : List Sealed) (c : Certificate) → Each (IsVoteFor t) votes → is_roll stakes (voters votes) ≡ true → sealed_collected stakes votes ≡ whole
    → c ≡ certificate_of t votes → Each (λ (v : Sealed). v.statement ≡ vote_of c) votes
agreed stakes t votes c each roll all made =
    subst (λ (d : Certificate). Each (λ (v : Sealed). v.statement ≡ vote_of d) votes) (sym made) (agree t votes (alike stakes votes (ascending stakes votes roll) all) each)

pub valid : (rules : Rules) (t : Transaction) (votes : List Sealed) (c : Certificate) → Each (IsVoteFor t) votes → is_roll rules.stakes (voters votes) ≡ true → sealed_collected rules.stakes votes ≡ whole
    → c ≡ certificate_of t votes → AreSound rules t votes → cert_refusal rules c ≡ None
valid rules t votes c each roll all made sound =
    let up = ascending rules.stakes votes roll in
    ap (cert_refusal rules) made ∙ valid_from rules t votes roll (enough rules.stakes votes up all) (agree t votes (alike rules.stakes votes up all) each) sound
