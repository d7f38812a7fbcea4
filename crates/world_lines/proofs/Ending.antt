-- An epoch has ended exactly if the members of its accepted Ends are a quorum.
use Rattle.std.proofs.Common.{◌≡◌, ◌∙◌, ap, sym, refl, subst, inl, inr, arith, append_assoc, ℕ, suc, ◌+◌, ◌*◌, ◌<◌, ◌≤◌, Bool, true, false, cond, ◌||◌, List, [], ◌∷◌, ◌++◌, length, map, Option, Some, None, Result, Ok, Err}
use Rattle.std.specs.Prelude.{◌⊎◌, ◌==◌, ◌&&◌, not, nat_lt, fold}
use Rattle.std.specs.List.{cons_option, filter, list_any}
use Rattle.std.proofs.lemmas.Bool.{and_parts, eqb-true, le-ltb, lt-ltb, ltb-true}
use Rattle.std.proofs.lemmas.List.Folds.{list_any-append}
use Rattle.wire_bcs.specs.declared.fault.WireFault.{WireFault}
use Rattle.quorum_core.specs.Committee.{is_among, is_quorum, total_of, weight, weight_from, weight_of}
use Rattle.chain_types.specs.declared.objects.Object.{Object}
use Rattle.chain_messages.specs.declared.messages.Entry.{Entry}
use Rattle.chain_messages.specs.declared.messages.Entry.TheVariants as entry
use Rattle.chain_messages.specs.declared.messages.MemberSeal.{MemberSeal}
use Rattle.chain_messages.specs.declared.messages.Sealed.{Sealed}
use Rattle.chain_messages.specs.declared.messages.Statement.{Statement}
use Rattle.chain_messages.specs.declared.messages.Statement.TheVariants as statement
use Rattle.protocol_spec.specs.declared.answers.Held.{Held}
use Rattle.protocol_spec.specs.declared.answers.Ignore.{Ignore}
use Rattle.protocol_spec.specs.declared.answers.Ignore.TheVariants as ignore
use Rattle.chain_types.specs.Digests.{transaction_digest}
use Rattle.protocol_spec.specs.Chain.Certificates.{Rules, read_entry}
use Rattle.protocol_spec.specs.Chain.Words.{first_some, where_true}
use Rattle.protocol_spec.specs.Member.Sequence.{Sequence, What, certificate_cases, counts, held_as, ignored_or, nothing_seen, saw, seen, takes, what_of, what_read, what_stated, with_entry}
use Rattle.world_lines.specs.Ends.{are_an_end, end_of_read, end_read, end_stated, ended_by, ends_read, is_accepted}

-- ---- weights of sets of members

-- sets that have the same members of the committee weigh the same
same_from : (member : ℕ) (stakes : List ℕ) (f g : ℕ → Bool) → ((m : ℕ) → m < member + length stakes → f m ≡ g m) → weight_from member stakes f ≡ weight_from member stakes g
same_from member [] f g same = refl
same_from member (stake ∷ stakes) f g same =
    ap (λ (b : Bool). cond b stake 0 + weight_from (suc member) stakes f) (same member (omega arith))
    ∙ ap (λ (n : ℕ). cond (g member) stake 0 + n) (same_from (suc member) stakes f g (λ m less. same m (omega (arith, less))))

same_weight : (stakes : List ℕ) (f g : ℕ → Bool) → ((m : ℕ) → nat_lt m (length stakes) ≡ true → f m ≡ g m) → weight_of stakes f ≡ weight_of stakes g
unfolding weight_of
same_weight stakes f g same = same_from 0 stakes f g (λ m less. same m (lt-ltb m (length stakes) (omega (arith, less))))

-- a set with more members weighs no less
part_less : (a b : Bool) (stake : ℕ) → (a ≡ true → b ≡ true) → cond a stake 0 ≤ cond b stake 0
part_less false b stake more = omega arith
part_less true false stake more = absurd (let e = more refl in cc)
part_less true true stake more = omega arith

more_from : (member : ℕ) (stakes : List ℕ) (f g : ℕ → Bool) → ((m : ℕ) → f m ≡ true → g m ≡ true) → weight_from member stakes f ≤ weight_from member stakes g
more_from member [] f g more = omega arith
more_from member (stake ∷ stakes) f g more = let a = part_less (f member) (g member) stake (more member) in let b = more_from (suc member) stakes f g more in omega arith

more_weight : (stakes : List ℕ) (f g : ℕ → Bool) → ((m : ℕ) → f m ≡ true → g m ≡ true) → weight_of stakes f ≤ weight_of stakes g
unfolding weight_of
more_weight stakes f g more = more_from 0 stakes f g more

quorum_more : (stakes : List ℕ) (v w : ℕ) → v ≤ w → is_quorum stakes v ≡ true → is_quorum stakes w ≡ true
quorum_more stakes v w more e = let less = ltb-true (2 * total_of stakes) (3 * v) e in lt-ltb (2 * total_of stakes) (3 * w) (omega (arith, less, more))

nobody_from : (member : ℕ) (stakes : List ℕ) → weight_from member stakes (is_among []) ≡ 0
nobody_from member [] = refl
nobody_from member (stake ∷ stakes) = let rest = nobody_from (suc member) stakes in omega arith

-- an empty set of members is not a quorum
nobody : (stakes : List ℕ) → is_quorum stakes (weight stakes []) ≡ false
unfolding weight_of
nobody stakes = le-ltb (2 * total_of stakes) (3 * weight_from 0 stakes (is_among [])) (let e = nobody_from 0 stakes in omega arith)

-- ---- the members of accepted Ends

or_false : (b : Bool) → (b || false) ≡ b
or_false true = refl
or_false false = refl

module _ (r : Rules) (opening : List Object) (epoch : ℕ) where
  abbrev accepted : MemberSeal → Bool
  accepted x = is_accepted r.accepts epoch x

  abbrev is_of : ℕ → MemberSeal → Bool
  is_of m x = accepted x && (x.member == m)

  abbrev among : List MemberSeal → ℕ → Bool
  among ends m = list_any (is_of m) ends

  among_head : (a : Bool) (x : MemberSeal) (ends : List MemberSeal) (m : ℕ) → is_among (map (λ (y : MemberSeal). y.member) (filter accepted ends)) m ≡ among ends m
      → is_among (map (λ (y : MemberSeal). y.member) (cond a (x ∷ filter accepted ends) (filter accepted ends))) m ≡ ((a && (x.member == m)) || among ends m)
  among_head true x ends m e = ap (λ (b : Bool). (x.member == m) || b) e
  among_head false x ends m e = e

  among_is : (ends : List MemberSeal) (m : ℕ) → is_among (ended_by r.accepts epoch ends) m ≡ among ends m
  among_is [] m = refl
  among_is (x ∷ ends) m = among_head (accepted x) x ends m (among_is ends m)

  -- one End more
  among_more : (ends : List MemberSeal) (x : MemberSeal) (m : ℕ) → among (ends ++ x ∷ []) m ≡ (among ends m || is_of m x)
  among_more ends x m = list_any-append (is_of m) ends (x ∷ []) ∙ ap (λ (b : Bool). among ends m || b) (or_false (is_of m x))

  -- ---- a sequence in which this many Ends were read

  -- the epoch goes on: the members counted are those of accepted Ends, and are not a quorum
  record IsGoing (q : Sequence) (ends : List MemberSeal) : Type 0 where
    going : q.ended ≡ false
    counted : (m : ℕ) → nat_lt m (length r.stakes) ≡ true → is_among q.counted m ≡ among ends m
    light : is_quorum r.stakes (weight r.stakes q.counted) ≡ false

  -- it has ended
  record IsOver (q : Sequence) (ends : List MemberSeal) : Type 0 where
    over : q.ended ≡ true
    heavy : are_an_end r.stakes r.accepts epoch ends ≡ true

  abbrev Stands : Sequence → List MemberSeal → Type 0
  Stands q ends = IsGoing q ends ⊎ IsOver q ends

  end_as : (members : List ℕ) (ends : List MemberSeal) → ((m : ℕ) → nat_lt m (length r.stakes) ≡ true → is_among members m ≡ among ends m)
      → is_quorum r.stakes (weight r.stakes members) ≡ are_an_end r.stakes r.accepts epoch ends
  unfolding are_an_end
  end_as members ends same =
      ap (λ (w : ℕ). is_quorum r.stakes w) (same_weight r.stakes (is_among members) (is_among (ended_by r.accepts epoch ends)) (λ m known. same m known ∙ sym (among_is ends m)))

  says : (q : Sequence) (ends : List MemberSeal) → Stands q ends → q.ended ≡ are_an_end r.stakes r.accepts epoch ends
  says q ends (inl g) = g.going ∙ sym g.light ∙ end_as q.counted ends g.counted
  says q ends (inr o) = o.over ∙ sym o.heavy

  more_ends : (ends : List MemberSeal) (x : MemberSeal) → are_an_end r.stakes r.accepts epoch ends ≡ true → are_an_end r.stakes r.accepts epoch (ends ++ x ∷ []) ≡ true
  unfolding are_an_end
  more_ends ends x e =
      quorum_more r.stakes (weight r.stakes (ended_by r.accepts epoch ends)) (weight r.stakes (ended_by r.accepts epoch (ends ++ x ∷ [])))
      (more_weight r.stakes (is_among (ended_by r.accepts epoch ends)) (is_among (ended_by r.accepts epoch (ends ++ x ∷ []))) still) e
    where
      still : (m : ℕ) → is_among (ended_by r.accepts epoch ends) m ≡ true → is_among (ended_by r.accepts epoch (ends ++ x ∷ [])) m ≡ true
      still m h = among_is (ends ++ x ∷ []) m ∙ among_more ends x m ∙ ap (λ (b : Bool). b || is_of m x) (sym (among_is ends m) ∙ h)

  -- ---- one entry more

  abbrev behind : List MemberSeal → Option MemberSeal → List MemberSeal
  behind ends None = ends
  behind ends (Some x) = ends ++ x ∷ []

  -- an End that is not heard of
  unheard : (a same : Bool) (x m : ℕ) → (x == m) ≡ same → nat_lt m (length r.stakes) ≡ true → (nat_lt x (length r.stakes) && a) ≡ false → (a && same) ≡ false
  unheard false same x m e known not_ok = refl
  unheard true false x m e known not_ok = refl
  unheard true true x m e known not_ok =
      let same_member : x ≡ m = eqb-true x m e in
      let here : nat_lt x (length r.stakes) ≡ true = ap (λ (n : ℕ). nat_lt n (length r.stakes)) same_member ∙ known in
      absurd (let no : (nat_lt x (length r.stakes) && true) ≡ true = ap (λ (b : Bool). b && true) here in let e2 : true ≡ false = sym no ∙ not_ok in cc)

  -- an End of a member that is counted already
  again : (q : Sequence) (ends : List MemberSeal) (x : MemberSeal) (m : ℕ) (same : Bool) → (x.member == m) ≡ same → among ends x.member ≡ true → (among ends m || (accepted x && same)) ≡ among ends m
  again q ends x m false e had = or_and (among ends m) (accepted x)
    where
      or_and : (b a : Bool) → (b || (a && false)) ≡ b
      or_and true a = refl
      or_and false true = refl
      or_and false false = refl
  again q ends x m true e had =
      let here : among ends m ≡ true = ap (λ (n : ℕ). among ends n) (sym (eqb-true x.member m e)) ∙ had in
      ap (λ (b : Bool). b || (accepted x && true)) here ∙ sym here

  abbrev what_end : Bool → Bool → Bool → ℕ → What
  what_end right ok repeat member = ignored_or (first_some (where_true (not right) ignore.Epoch ∷ where_true (not ok) ignore.Seal ∷ where_true repeat ignore.Repeat ∷ [])) (counts member)

  -- what a passed-over entry leaves
  same_counted : (q : Sequence) (ends : List MemberSeal) (x : MemberSeal) → IsGoing q ends → ((m : ℕ) → nat_lt m (length r.stakes) ≡ true → among (ends ++ x ∷ []) m ≡ among ends m) → (m : ℕ) → nat_lt m (length r.stakes) ≡ true → is_among q.counted m ≡ among (ends ++ x ∷ []) m
  same_counted q ends x g same m known = g.counted m known ∙ sym (same m known)

  counts_more : (q : Sequence) (ends : List MemberSeal) (x : MemberSeal) → IsGoing q ends → accepted x ≡ true → (m : ℕ) → nat_lt m (length r.stakes) ≡ true → is_among (q.counted ++ x.member ∷ []) m ≡ among (ends ++ x ∷ []) m
  counts_more q ends x g ok m known =
      list_any-append (λ (n : ℕ). n == m) q.counted (x.member ∷ [])
      ∙ ap (λ (b : Bool). b || ((x.member == m) || false)) (g.counted m known)
      ∙ ap (λ (b : Bool). among ends m || b) (or_false (x.member == m) ∙ ap (λ (b : Bool). b && (x.member == m)) (sym ok))
      ∙ sym (among_more ends x m)

  counted_end : (q : Sequence) (ends : List MemberSeal) (x : MemberSeal) (quorum : Bool) → IsGoing q ends → accepted x ≡ true → is_quorum r.stakes (weight r.stakes (q.counted ++ x.member ∷ [])) ≡ quorum
      → Stands (with_entry r opening q (counts x.member)) (ends ++ x ∷ [])
  unfolding with_entry
  counted_end q ends x true g ok quorum = inr (rw quorum (record { over = refl; heavy = sym (end_as (q.counted ++ x.member ∷ []) (ends ++ x ∷ []) (counts_more q ends x g ok)) ∙ quorum }))
  counted_end q ends x false g ok quorum = inl (rw quorum (record { going = g.going; counted = counts_more q ends x g ok; light = quorum }))

  ended_step : (q : Sequence) (ends : List MemberSeal) (x : MemberSeal) (right ok repeat : Bool) → IsGoing q ends → (nat_lt x.member (length r.stakes) && accepted x) ≡ ok → is_among q.counted x.member ≡ repeat
      → Stands (with_entry r opening q (what_end right ok repeat x.member)) (behind ends (where_true right x))
  unfolding with_entry
  ended_step q ends x false ok repeat g is_ok is_repeat = inl (record { going = g.going; counted = g.counted; light = g.light })
  ended_step q ends x true false repeat g is_ok is_repeat = inl (record {
    going = g.going;
    counted = same_counted q ends x g (λ m known. among_more ends x m ∙ ap (λ (b : Bool). among ends m || b) (unheard (accepted x) (x.member == m) x.member m refl known is_ok) ∙ or_false (among ends m));
    light = g.light;
  })
  ended_step q ends x true true true g is_ok is_repeat =
      let known_it = (and_parts (nat_lt x.member (length r.stakes)) (accepted x) is_ok).0 in
      inl (record {
        going = g.going;
        counted = same_counted q ends x g (λ m known. among_more ends x m ∙ again q ends x m (x.member == m) refl (sym (g.counted x.member known_it) ∙ is_repeat));
        light = g.light;
      })
  ended_step q ends x true true false g is_ok is_repeat =
      counted_end q ends x (is_quorum r.stakes (weight r.stakes (q.counted ++ x.member ∷ []))) g (and_parts (nat_lt x.member (length r.stakes)) (accepted x) is_ok).1 refl

  stated_step : (q : Sequence) (ends : List MemberSeal) (s : Sealed) (st : Statement) → IsGoing q ends → s.statement ≡ st → Stands (with_entry r opening q (what_stated r epoch q s st)) (behind ends (end_stated epoch s st))
  unfolding with_entry
  stated_step q ends s (statement.Vote e tx origins) g is = inl (record { going = g.going; counted = g.counted; light = g.light })
  stated_step q ends s (statement.Checkpoint e number digest) g is = inl (record { going = g.going; counted = g.counted; light = g.light })
  stated_step q ends s (statement.Ack e tx effects) g is = inl (record { going = g.going; counted = g.counted; light = g.light })
  stated_step q ends s (statement.End e) g is = by_epoch (e == epoch) refl
    where
      x : MemberSeal
      x = record { member = s.member; seal = s.seal }

      by_epoch : (right : Bool) → (e == epoch) ≡ right → Stands (with_entry r opening q (what_stated r epoch q s (statement.End e))) (behind ends (end_stated epoch s (statement.End e)))
      by_epoch false right = rw right (inl (record { going = g.going; counted = g.counted; light = g.light }))
      by_epoch true right =
          let same : s.statement ≡ statement.End epoch = is ∙ ap statement.End (eqb-true e epoch right) in
          rw right (rw same (ended_step q ends x true (nat_lt s.member (length r.stakes) && accepted x) (is_among q.counted s.member) g refl refl))

  cert_step : (q : Sequence) (ends : List MemberSeal) (cause : Option Ignore) (held : Held) → IsGoing q ends → Stands (with_entry r opening q (ignored_or cause (takes held))) ends
  unfolding with_entry
  cert_step q ends None held g = inl (record { going = g.going; counted = g.counted; light = g.light })
  cert_step q ends (Some cause) held g = inl (record { going = g.going; counted = g.counted; light = g.light })

  read_step : (q : Sequence) (ends : List MemberSeal) (read : Result Entry WireFault) → IsGoing q ends → Stands (with_entry r opening q (what_read r epoch q read)) (behind ends (end_of_read epoch read))
  unfolding with_entry
  read_step q ends (Err fault) g = inl (record { going = g.going; counted = g.counted; light = g.light })
  read_step q ends (Ok (entry.Cert c)) g = cert_step q ends (first_some (certificate_cases r epoch q c (transaction_digest c.tx))) (held_as c) g
  read_step q ends (Ok (entry.End s)) g = stated_step q ends s s.statement g refl
  read_step q ends (Ok entry.Commit) g = inl (record { going = g.going; counted = g.counted; light = g.light })

  over_step : (q : Sequence) (ends : List MemberSeal) (x : Option MemberSeal) → IsOver q ends → Stands q (behind ends x)
  over_step q ends None o = inr o
  over_step q ends (Some x) o = inr (record { over = o.over; heavy = more_ends ends x o.heavy })

  goes_on : (b : Bool) (q next : Sequence) → b ≡ false → next ≡ cond b q next
  goes_on false q next e = refl
  goes_on true q next e = absurd (cc)

  stays : (b : Bool) (q next : Sequence) → b ≡ true → q ≡ cond b q next
  stays true q next e = refl
  stays false q next e = absurd (cc)

  step : (q : Sequence) (ends : List MemberSeal) (bytes : List ℕ) → Stands q ends → Stands (saw r opening epoch q bytes) (behind ends (end_read epoch bytes))
  unfolding saw what_of end_read
  step q ends bytes (inl g) =
      let now = behind ends (end_of_read epoch (read_entry bytes)) in
      let next = with_entry r opening q (what_read r epoch q (read_entry bytes)) in
      subst (λ (p : Sequence). Stands p now) (goes_on q.ended q next g.going) (read_step q ends (read_entry bytes) g)
  step q ends bytes (inr o) =
      let now = behind ends (end_of_read epoch (read_entry bytes)) in
      let next = with_entry r opening q (what_read r epoch q (read_entry bytes)) in
      subst (λ (p : Sequence). Stands p now) (stays q.ended q next o.over) (over_step q ends (end_of_read epoch (read_entry bytes)) o)

  -- ---- all of them

  behind_then : (ends more : List MemberSeal) (x : Option MemberSeal) → ends ++ cons_option x more ≡ behind ends x ++ more
  behind_then ends more None = refl
  behind_then ends more (Some x) = sym (append_assoc ends (x ∷ []) more)

  steps : (q : Sequence) (ends : List MemberSeal) (entries : List (List ℕ)) → Stands q ends → (fold (saw r opening epoch) q entries).ended ≡ are_an_end r.stakes r.accepts epoch (ends ++ ends_read epoch entries)
  steps q ends [] s = says q ends s ∙ ap (λ (es : List MemberSeal). are_an_end r.stakes r.accepts epoch es) (sym (nothing_more ends))
    where
      nothing_more : (es : List MemberSeal) → es ++ [] ≡ es
      nothing_more [] = refl
      nothing_more (e ∷ es) = ap (λ (rest : List MemberSeal). e ∷ rest) (nothing_more es)
  steps q ends (bytes ∷ entries) s =
      steps (saw r opening epoch q bytes) (behind ends (end_read epoch bytes)) entries (step q ends bytes s)
      ∙ ap (λ (es : List MemberSeal). are_an_end r.stakes r.accepts epoch es) (sym (behind_then ends (ends_read epoch entries) (end_read epoch bytes)))

  -- whether the epoch has ended is said only by the Ends among its entries
  pub ended_is : (entries : List (List ℕ)) → (seen r opening epoch entries).ended ≡ are_an_end r.stakes r.accepts epoch (ends_read epoch entries)
  unfolding seen
  ended_is entries = steps nothing_seen [] entries (inl (record { going = refl; counted = λ m known. refl; light = nobody r.stakes }))

  -- Ends that pass the same tests end an epoch alike
  pub same_end : (one others : List MemberSeal) → ((test : MemberSeal → Bool) → list_any test one ≡ list_any test others) → are_an_end r.stakes r.accepts epoch one ≡ are_an_end r.stakes r.accepts epoch others
  same_end one others same = sym (end_as (ended_by r.accepts epoch one) one (λ m known. among_is one m)) ∙ end_as (ended_by r.accepts epoch one) others (λ m known. among_is one m ∙ same (is_of m))
