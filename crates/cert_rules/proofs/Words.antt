-- What sealed words of members in order give together, whatever makes two of them the same: each is found under its member, so
-- none lacks one, and the first two that differ are the first word and another.
use Rattle.std.proofs.Common.{◌≡◌, ℕ, ◌<◌, ◌≤◌, List, [], ◌∷◌, Option, Some, None, Bool, true, false, refl, ap, sym, ◌∙◌, arith}
use Rattle.std.specs.Prelude.{◌==◌, nat_lt, not}
use Rattle.std.proofs.lemmas.Bool.{and_parts, eq-eqb, ltb-true}
use Rattle.wire_bcs.specs.Ascending.{ascends}
use Rattle.wire_bcs.proofs.InOrder.{apart, ascends_after}
use Rattle.quorum_core.specs.Committee.{all_known, is_quorum, is_roll, total_of, weight}
use Rattle.chain_messages.specs.declared.messages.Sealed.{Sealed}
use Rattle.protocol_spec.specs.Chain.Words.{Each, first_of, first_some, where_true}
use Rattle.protocol_spec.specs.Chain.Collecting.{Collected, collected, lacks, short, differ, whole, differ_from, differs_among, lacks_where, too_short, whole_or}
use Rattle.cert_rules.specs.Collect.{vote_by, voters}

-- ---- each member has its word

-- words that ascend from a member are none of one up to it
others : (m n : ℕ) (votes : List Sealed) → m ≤ n → ascends (n ∷ voters votes) ≡ true → Each (λ (w : Sealed). (m == w.member) ≡ false) votes
others m n [] most up = tt
others m n (w ∷ votes) most up =
    let parts = and_parts (nat_lt n w.member) (ascends (w.member ∷ voters votes)) up in
    let next : n < w.member = ltb-true n w.member parts.0 in
    (apart m w.member (omega arith), others m w.member votes (omega arith) parts.1)

-- each of these is found under its member
abbrev AreFound : List Sealed → List Sealed → Type 0
AreFound votes = Each (λ (w : Sealed). vote_by votes w.member ≡ Some w)

-- votes stay found under their members if a vote of another member is put before them
found_behind : (v : Sealed) (votes ws : List Sealed) → Each (λ (w : Sealed). (v.member == w.member) ≡ false) ws → AreFound votes ws → AreFound (v ∷ votes) ws
found_behind v votes [] other found = tt
found_behind v votes (w ∷ ws) other found =
    ((ap (λ b. first_some (where_true b v ∷ vote_by votes w.member ∷ [])) other.0 ∙ ap (λ (o : Option Sealed). first_some (o ∷ [])) found.0), found_behind v votes ws other.1 found.1)

pub all_found : (votes : List Sealed) → ascends (voters votes) ≡ true → AreFound votes votes
all_found [] up = tt
all_found (v ∷ votes) up = (
  ap (λ b. first_some (where_true b v ∷ vote_by votes v.member ∷ [])) (eq-eqb v.member v.member refl),
  found_behind v votes votes (others v.member v.member votes (omega arith) up) (all_found votes (ascends_after v.member (voters votes) up)),
)

module _ (same : Sealed → Sealed → Bool) where
  -- ---- what they give together

  -- two words differ
  abbrev pub differs_from : Sealed → Sealed → Option Collected
  differs_from v w = where_true (not (same v w)) (differ v.member w.member)

  abbrev pub first_differing : List Sealed → Option Collected
  first_differing [] = None
  first_differing (v ∷ votes) = first_of (differs_from v) votes

  none_lacks : (votes ws : List Sealed) → AreFound votes ws → first_of (λ m. lacks_where m (vote_by votes m)) (voters ws) ≡ None
  none_lacks votes [] found = refl
  none_lacks votes (w ∷ ws) found =
      ap (λ (o : Option Sealed). first_some (lacks_where w.member o ∷ first_of (λ m. lacks_where m (vote_by votes m)) (voters ws) ∷ [])) found.0
      ∙ ap (λ (o : Option Collected). first_some (o ∷ [])) (none_lacks votes ws found.1)

  same_others : (votes ws : List Sealed) (v : Sealed) → vote_by votes v.member ≡ Some v → AreFound votes ws
      → first_of (λ b. differ_from same v.member (vote_by votes v.member) b (vote_by votes b)) (voters ws) ≡ first_of (differs_from v) ws
  same_others votes [] v here found = refl
  same_others votes (w ∷ ws) v here found =
      ap (λ (o : Option Sealed). first_some (differ_from same v.member o w.member (vote_by votes w.member) ∷ rest ∷ [])) here
      ∙ ap (λ (o : Option Sealed). first_some (differ_from same v.member (Some v) w.member o ∷ rest ∷ [])) found.0
      ∙ ap (λ (o : Option Collected). first_some (differs_from v w ∷ o ∷ [])) (same_others votes ws v here found.1)
    where
      rest : Option Collected
      rest = first_of (λ b. differ_from same v.member (vote_by votes v.member) b (vote_by votes b)) (voters ws)

  same_differing : (votes ws : List Sealed) → AreFound votes ws → differs_among same (vote_by votes) (voters ws) ≡ first_differing ws
  same_differing votes [] found = refl
  same_differing votes (v ∷ ws) found = same_others votes ws v found.0 found.1

  -- too little stake, the first word and the first other that differs from it, or a whole
  is_collected : (stakes : List ℕ) (votes : List Sealed) → ascends (voters votes) ≡ true
      → collected same stakes (vote_by votes) (voters votes) ≡ whole_or (first_some (too_short stakes (voters votes) ∷ first_differing votes ∷ []))
  is_collected stakes votes up =
      let found = all_found votes up in
      ap (λ (o : Option Collected). whole_or (first_some (o ∷ too_short stakes (voters votes) ∷ differs_among same (vote_by votes) (voters votes) ∷ []))) (none_lacks votes votes found)
      ∙ ap (λ (o : Option Collected). whole_or (first_some (too_short stakes (voters votes) ∷ o ∷ []))) (same_differing votes votes found)

  others_lack_none : (v : Sealed) (votes : List Sealed) (m : ℕ) → whole_or (first_of (differs_from v) votes) ≡ lacks m → ⊥
  others_lack_none v [] m e = cc
  others_lack_none v (w ∷ votes) m e = go (not (same v w)) (first_of (differs_from v) votes) e (others_lack_none v votes m)
    where
      go : (b : Bool) (x : Option Collected) → whole_or (first_some (where_true b (differ v.member w.member) ∷ x ∷ [])) ≡ lacks m → (whole_or x ≡ lacks m → ⊥) → ⊥
      go true x e more = cc
      go false None e more = more e
      go false (Some c) e more = more e

  pub lack_none : (stakes : List ℕ) (votes : List Sealed) (m : ℕ) → is_roll stakes (voters votes) ≡ true → collected same stakes (vote_by votes) (voters votes) ≡ lacks m → ⊥
  lack_none stakes votes m roll e =
      go (not (is_quorum stakes (weight stakes (voters votes)))) votes (sym (is_collected stakes votes (and_parts (ascends (voters votes)) (all_known stakes (voters votes)) roll).0) ∙ e)
    where
      go : (b : Bool) (ws : List Sealed) → whole_or (first_some (where_true b (short (weight stakes (voters votes)) (total_of stakes)) ∷ first_differing ws ∷ [])) ≡ lacks m → ⊥
      go true ws e = cc
      go false [] e = cc
      go false (v ∷ ws) e = last (first_of (differs_from v) ws) e (others_lack_none v ws m)
        where
          last : (x : Option Collected) → whole_or (first_some (None ∷ x ∷ [])) ≡ lacks m → (whole_or x ≡ lacks m → ⊥) → ⊥
          last None e none = none e
          last (Some c) e none = none e

  -- if all agree, the stake is a quorum
  pub quorum_true : (stakes : List ℕ) (votes : List Sealed) → ascends (voters votes) ≡ true → collected same stakes (vote_by votes) (voters votes) ≡ whole → is_quorum stakes (weight stakes (voters votes)) ≡ true
  quorum_true stakes votes up e = go (is_quorum stakes (weight stakes (voters votes))) refl (sym (is_collected stakes votes up) ∙ e)
    where
      go : (b : Bool) → is_quorum stakes (weight stakes (voters votes)) ≡ b
          → whole_or (first_some (where_true (not b) (short (weight stakes (voters votes)) (total_of stakes)) ∷ first_differing votes ∷ [])) ≡ whole → is_quorum stakes (weight stakes (voters votes)) ≡ true
      go true is h = is
      go false is h = absurd (cc)

  -- if collecting finds the votes whole, none differs from the first
  pub none_differs : (stakes : List ℕ) (votes : List Sealed) → ascends (voters votes) ≡ true → collected same stakes (vote_by votes) (voters votes) ≡ whole → whole_or (first_differing votes) ≡ whole
  none_differs stakes votes up e = go (not (is_quorum stakes (weight stakes (voters votes)))) (first_differing votes) (sym (is_collected stakes votes up) ∙ e)
    where
      go : (b : Bool) (x : Option Collected) → whole_or (first_some (where_true b (short (weight stakes (voters votes)) (total_of stakes)) ∷ x ∷ [])) ≡ whole → whole_or x ≡ whole
      go true x e = absurd (cc)
      go false None e = refl
      go false (Some c) e = e
