-- What a caller has made of its requests, as it goes through all of them.
use Rattle.std.proofs.Common.{◌≡◌, ℕ, suc, ◌+◌, ◌<◌, ◌≤◌, ◌%◌, List, [], ◌∷◌, ◌++◌, length, true, Some, Result, Ok, Err, sym, refl, ap, ◌∙◌, subst, arith}
use Rattle.std.specs.Prelude.{slice_get}
use Rattle.std.specs.Bool.{OnTrue}
use Rattle.std.proofs.lemmas.Bool.{OnTrue_from}
use mathlib.Core.Logic.{dite, inl, inr}
use native.Mathlib.Decide.{ℕ_discrete}
use Rattle.outside.specs.declared.keeper.Keeper.{Ghosts as Keeping}
use Rattle.quorum_core.specs.declared.sealer.Checker.{Ghosts as Sealing}
use Rattle.protocol_spec.specs.declared.answers.Voted.{Voted}
use Rattle.protocol_spec.specs.declared.refusals.VoteRefusal.{VoteRefusal}
use Rattle.vote_desk.specs.declared.desk.Desk.{Desk}
use Rattle.vote_desk.specs.declared.desk.DeskPass.{DeskPass}
use Rattle.vote_desk.specs.declared.desk.DeskRefusal.{DeskRefusal}
use Rattle.vote_desk.specs.declared.desk.DeskRefusal.TheVariants as no_answer
use Rattle.vote_desk.specs.declared.entry.DeskEntry.{DeskEntry}
use Rattle.vote_desk.specs.Callers.{asked_in, was_asked}
use Rattle.vote_desk.specs.Counts.{times, merged}
use Rattle.vote_desk.specs.Dealt.{AreMadeBy, HaveMade, IsDue}
use Rattle.vote_desk.specs.Desks.{Answers, Asks, IsOf, mine, seen}
use Rattle.vote_desk.specs.Histories.{IsFront}
use Rattle.vote_desk.proofs.Dealing.{made_all, made_both, made_further, made_push, made_same}

asked-many : (entries : List DeskEntry) → length (asked_in entries) ≡ length entries
asked-many [] = refl
asked-many (e ∷ entries) = ap suc (asked-many entries)

asked-both : (front back : List DeskEntry) → asked_in (front ++ back) ≡ asked_in front ++ asked_in back
asked-both [] back = refl
asked-both (e ∷ front) back = ap (λ l. e.bytes ∷ l) (asked-both front back)

pub asked_front : (xs ys : List DeskEntry) → IsFront xs ys → IsFront (asked_in xs) (asked_in ys)
asked_front xs ys p = (asked_in p.0, ap asked_in p.1 ∙ asked-both xs p.0)

pub asked_below : (entries : List DeskEntry) (places : List ℕ) → ((p : ℕ) → 0 < times p places → p < length entries) → (p : ℕ) → 0 < times p places → p < length (asked_in entries)
asked_below entries places below p h = let l = below p h in let m = asked-many entries in omega (arith, l, m)

-- the callers below a number, and the one of that number
pub both_made : (callers number n : ℕ) (requests : List (List ℕ)) (one other new : List DeskEntry) (own also : List ℕ) → ((p : ℕ) → 0 < times p own → p < length one) → ((p : ℕ) → 0 < times p also → p < length other) → IsFront one new → IsFront other new → ((p : ℕ) → times p own + times p also ≤ 1)
    → HaveMade (IsDue callers 0 number n) callers requests (asked_in one) own → HaveMade (IsDue callers number (number + 1) n) callers requests (asked_in other) also → HaveMade (IsDue callers 0 (number + 1) n) callers requests (asked_in new) (merged own also)
both_made callers number n requests one other new own also below under front behind apart made too =
    made_both callers requests number n (asked_in new) own also apart
    (made_further callers requests (IsDue callers 0 number n) (asked_in one) (asked_in new) own (asked_below one own below) (asked_front one new front) made)
    (made_further callers requests (IsDue callers number (number + 1) n) (asked_in other) (asked_in new) also (asked_below other also under) (asked_front other new behind) too)

-- all callers, if all calls are theirs
pub all_made : (callers : ℕ) (requests : List (List ℕ)) (seen history : List DeskEntry) (own : List ℕ) → 0 < callers → ((p : ℕ) → 0 < times p own → p < length seen) → IsFront seen history → ((p : ℕ) → p < length history → times p own ≡ 1)
    → HaveMade (IsDue callers 0 callers (length requests)) callers requests (asked_in seen) own → AreMadeBy callers requests (asked_in history)
all_made callers requests seen history own some below front all made =
    let many = asked-many history in
    made_all callers requests (asked_in seen) (asked_in history) own some (asked_below seen own below) (asked_front seen history front) (λ p lt. all p (omega (arith, lt, many))) made

module _ (callers number place : ℕ) where
  -- the next request is another caller's
  pub made_else : (requests calls : List (List ℕ)) (own : List ℕ) → (place % callers ≡ number → ⊥) → HaveMade (IsDue callers number (number + 1) place) callers requests calls own → HaveMade (IsDue callers number (number + 1) (place + 1)) callers requests calls own
  made_else requests calls own else = made_same callers requests (IsDue callers number (number + 1) place) (IsDue callers number (number + 1) (place + 1)) calls own
      (λ i d. let b = d.before in record { before = omega (arith, b); from = d.from; to = d.to })
      (λ i d. let b = d.before in dite (ℕ_discrete i place)
      (λ e. absurd (let f = d.from in let t = d.to in let r : i % callers ≡ place % callers = ap (λ k. k % callers) e in else (sym r ∙ one (i % callers) f t)))
      (λ ne. record { before = omega (arith, b, ne); from = d.from; to = d.to }))
    where
      one : (r : ℕ) → number ≤ r → r < number + 1 → r ≡ number
      one r from to = omega (arith, from, to)

  -- the next request is this caller's, and was asked for
  pub made_own : (requests : List (List ℕ)) (old before new : List DeskEntry) (own own' : List ℕ) (entry : DeskEntry) → ((p : ℕ) → 0 < times p own → p < length old) → IsFront old before → slice_get requests place ≡ Some entry.bytes → place % callers ≡ number → new ≡ before ++ entry ∷ [] → own' ≡ own ++ length before ∷ []
      → HaveMade (IsDue callers number (number + 1) place) callers requests (asked_in old) own → HaveMade (IsDue callers number (number + 1) (place + 1)) callers requests (asked_in new) own'
  made_own requests old before new own own' entry below front is mine_is saw places made =
      let calls : asked_in new ≡ asked_in before ++ entry.bytes ∷ [] = ap asked_in saw ∙ asked-both before (entry ∷ []) in
      let at : own' ≡ own ++ length (asked_in before) ∷ [] = places ∙ ap (λ n. own ++ n ∷ []) (sym (asked-many before)) in
      subst (λ l. HaveMade (IsDue callers number (number + 1) (place + 1)) callers requests l own') (sym calls)
      (subst (λ l. HaveMade (IsDue callers number (number + 1) (place + 1)) callers requests (asked_in before ++ entry.bytes ∷ []) l) (sym at)
      (made_push callers requests (IsDue callers number (number + 1) place) (IsDue callers number (number + 1) (place + 1)) place (asked_in old) (asked_in before) entry.bytes own (asked_below old own below) (asked_front old before front) is
      (λ i d. d.before) (record { before = omega arith; from = from; to = to })
      (λ i d. let b = d.before in record { before = omega (arith, b); from = d.from; to = d.to })
      (λ i d. let b = d.before in dite (ℕ_discrete i place) (λ e. inr e) (λ ne. inl (record { before = omega (arith, b, ne); from = d.from; to = d.to })))
      made))
    where
      from : number ≤ place % callers
      from = omega (arith, mine_is)

      to : place % callers < number + 1
      to = omega (arith, mine_is)

  module _ {D S : Type 0} {k : Keeping D} {z : Sealing S} where
    -- as a call of the desk has it
    pub made_asks : (requests : List (List ℕ)) (desk : Desk D S k z) (old new : DeskPass D S k z) (bytes : List ℕ) (reply : Result Voted VoteRefusal) → IsOf desk old → slice_get requests place ≡ Some bytes → place % callers ≡ number → Asks desk old new bytes reply
        → HaveMade (IsDue callers number (number + 1) place) callers requests (asked_in (seen old)) (mine old) → HaveMade (IsDue callers number (number + 1) (place + 1)) callers requests (asked_in (seen new)) (mine new)
    made_asks requests desk old new bytes reply of is mine_is asks made = made_own requests (seen old) asks.before (seen new) (mine old) (mine new) (record { bytes = bytes; reply = reply; faults = asks.faults }) of.below asks.front is mine_is asks.saw asks.places made

    pub made_answer : (requests : List (List ℕ)) (desk : Desk D S k z) (old new : DeskPass D S k z) (bytes : List ℕ) (answer : Result Voted DeskRefusal) → IsOf desk old → slice_get requests place ≡ Some bytes → place % callers ≡ number → Answers desk old new bytes answer
        → HaveMade (IsDue callers number (number + 1) place) callers requests (asked_in (seen old)) (mine old) → OnTrue (was_asked answer) (HaveMade (IsDue callers number (number + 1) (place + 1)) callers requests (asked_in (seen new)) (mine new))
    made_answer requests desk old new bytes (Ok v) of is mine_is asks made = OnTrue_from true _ (λ _. made_asks requests desk old new bytes (Ok v) of is mine_is asks made)
    made_answer requests desk old new bytes (Err (no_answer.Vote refusal)) of is mine_is asks made = OnTrue_from true _ (λ _. made_asks requests desk old new bytes (Err refusal) of is mine_is asks made)
    made_answer requests desk old new bytes (Err no_answer.OutOfMemory) of is mine_is asks made = tt
