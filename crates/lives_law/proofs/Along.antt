-- The answers of some lives, in order: what each found, and what the last file has of it.
use Rattle.std.proofs.Common.{inl, inr, refl, sym, subst, ap, ◌∙◌, append_assoc, append-nil}
use Rattle.std.specs.Prelude.{◌≡◌, ◌⊎◌, ℕ, suc, Bool, true, false, cond, List, [], ◌∷◌, ◌++◌, Option, Some, None, Ok, Err}
use Rattle.chain_types.specs.declared.objects.Object.{Object}
use Rattle.journal_core.specs.declared.records.Record.{Record}
use Rattle.protocol_spec.proofs.ListLemmas.{along-push, front_then, front_whole, has_parts}
use Rattle.protocol_spec.specs.Chain.Words.{Along, Has, IsFront}
use Rattle.protocol_spec.specs.Chain.Certificates.{Rules}
use Rattle.protocol_spec.specs.Member.Member.{Member, after, state}
use Rattle.protocol_spec.specs.Member.Calls.{Call, due}
use Rattle.protocol_spec.specs.Member.Replay.{is_allowed, replayed, replayed_from}
use Rattle.world_spec.specs.World.{appended}
use Rattle.safety_law.proofs.Apart.{state-push}
use Rattle.safety_law.proofs.Allowed.{due-allowed}
use Rattle.lives_law.specs.Lives.{Answered, AreLives, IsLived, IsUnlived, Life, all_answered, answered_from, last_records, records_after, records_behind}
use Rattle.lives_law.proofs.Voting.{AreAgreed, AreCast, agreed-after, cast-after}

module _ (r : Rules) (opening : List Object) where
  abbrev pub IsAllowedBehind : List Record → Record → Type 0
  IsAllowedBehind before x = is_allowed r (state r opening before) x ≡ true

  -- each record is allowed after those before it
  abbrev pub IsSound : List Record → Type 0
  IsSound records = Along IsAllowedBehind [] records

  -- ---- a start finds such records

  replayed-along : (xs before : List Record) (place : ℕ) (m : Member) → replayed_from r (state r opening before) place xs ≡ Ok m → Along IsAllowedBehind before xs
  replayed-along [] before place m e = tt
  replayed-along (x ∷ xs) before place m e = go (is_allowed r (state r opening before) x) refl e (λ q. replayed-along xs (before ++ x ∷ []) (suc place) m q)
    where
      go : (b : Bool) → is_allowed r (state r opening before) x ≡ b → cond b (replayed_from r (after r (state r opening before) x) (suc place) xs) (Err place) ≡ Ok m
          → (replayed_from r (state r opening (before ++ x ∷ [])) (suc place) xs ≡ Ok m → Along IsAllowedBehind (before ++ x ∷ []) xs) → Along IsAllowedBehind before (x ∷ xs)
      go true is e rest = (is, rest (ap (λ (n : Member). replayed_from r n (suc place) xs) (state-push r opening before x) ∙ e))
      go false is e rest = absurd (cc)

  pub replayed-sound : (records : List Record) (m : Member) → replayed r opening records ≡ Ok m → IsSound records
  unfolding replayed state
  replayed-sound records m e = replayed-along records [] 0 m e

  pub sound-appended : (records : List Record) (call : Call) (x : Option Record) → due r (state r opening records) call ≡ x → IsSound records → IsSound (appended records x)
  sound-appended records call None d sound = sound
  sound-appended records call (Some x) d sound = along-push IsAllowedBehind [] records x sound (due-allowed r (state r opening records) x call d)

  -- ---- what holds of them

  abbrev pub Facts : List Record → Type 0
  Facts records = AreCast records (state r opening records) × AreAgreed records

  facts-along : (xs before : List Record) → Along IsAllowedBehind before xs → Facts before → Facts (before ++ xs)
  facts-along [] before along facts = subst Facts (sym (append-nil before)) facts
  facts-along (x ∷ xs) before along facts =
      let cast = subst (λ (m : Member). AreCast (before ++ x ∷ []) m) (sym (state-push r opening before x)) (cast-after r (state r opening before) before x along.0 facts.0) in
      let agreed = agreed-after r (state r opening before) before x along.0 facts.0 facts.1 in
      subst Facts (append_assoc before (x ∷ []) xs) (facts-along xs (before ++ x ∷ []) along.1 (cast, agreed))

  no-facts : Facts []
  unfolding state
  no-facts = (record { epochs = λ t o h. absurd h; cast = λ t o h e. absurd h; kept = λ v h. absurd h }, λ t u o p h k e. absurd h)

  pub facts-of : (records : List Record) → IsSound records → Facts records
  facts-of records sound = facts-along records [] sound no-facts

  -- ---- the answers of one life

  abbrev pub behind : Answered → List Record
  behind a = records_behind r opening a.before a.call

  before-behind : (before : List Record) (x : Option Record) → IsFront before (appended before x)
  before-behind before None = front_whole before
  before-behind before (Some x) = (x ∷ [], refl)

  -- its records begin with those of the life's start, and those after it begin with those of its end
  pub record IsWithin (first : List Record) (last : List Record) (a : Answered) : Type 0 where
    pub from : IsFront first a.before
    pub to : IsFront (behind a) last
    pub sound : IsSound first → IsSound a.before

  to-end : (calls : List Call) (before : List Record) → IsFront before (records_after r opening before calls)
  to-end [] before = front_whole before
  to-end (call ∷ calls) before =
      front_then before (records_behind r opening before call) (records_after r opening (records_behind r opening before call) calls)
      (before-behind before (due r (state r opening before) call)) (to-end calls (records_behind r opening before call))

  within : (calls : List Call) (before : List Record) (a : Answered) → Has (answered_from r opening before calls) a → IsWithin before (records_after r opening before calls) a
  within [] before a h = absurd h
  within (call ∷ calls) before a (inl e) = subst (IsWithin before (records_after r opening (records_behind r opening before call) calls)) e (record {
    from = front_whole before;
    to = to-end calls (records_behind r opening before call);
    sound = λ sound. sound;
  })
  within (call ∷ calls) before a (inr h) =
      let rest = within calls (records_behind r opening before call) a h in
      record {
        from = front_then before (records_behind r opening before call) a.before (before-behind before (due r (state r opening before) call)) rest.from;
        to = rest.to;
        sound = λ sound. rest.sound (sound-appended before call (due r (state r opening before) call) refl sound);
      }

  -- of two answers one comes after the other, or they are one
  abbrev pub AreOrdered : Answered → Answered → Type 0
  AreOrdered a b = IsFront (behind a) b.before ⊎ IsFront (behind b) a.before ⊎ (a ≡ b)

  ordered-in : (calls : List Call) (before : List Record) (a b : Answered) → Has (answered_from r opening before calls) a → Has (answered_from r opening before calls) b → AreOrdered a b
  ordered-in [] before a b h k = absurd h
  ordered-in (call ∷ calls) before a b (inl e) (inl q) = inr (inr (sym e ∙ q))
  ordered-in (call ∷ calls) before a b (inl e) (inr k) = inl (subst (λ (c : Answered). IsFront (behind c) b.before) e (within calls (records_behind r opening before call) b k).from)
  ordered-in (call ∷ calls) before a b (inr h) (inl q) = inr (inl (subst (λ (c : Answered). IsFront (behind c) a.before) q (within calls (records_behind r opening before call) a h).from))
  ordered-in (call ∷ calls) before a b (inr h) (inr k) = ordered-in calls (records_behind r opening before call) a b h k

  -- ---- the answers of some lives

  life-front : (life : Life) → IsLived r opening life ⊎ IsUnlived life → IsFront (records_after r opening life.start life.calls) life.last
  life-front life (inl lived) = lived.leaves
  life-front life (inr none) = subst (λ (calls : List Call). IsFront (records_after r opening life.start calls) life.last) (sym none.calls) ([], none.last ∙ sym (append-nil life.start))

  -- an answer of a life found sound records
  life-sound : (life : Life) → IsLived r opening life ⊎ IsUnlived life → (a : Answered) → Has (answered_from r opening life.start life.calls) a → IsSound a.before
  life-sound life (inl lived) a h = (within life.calls life.start a h).sound (replayed-sound life.start lived.member lived.starts)
  life-sound life (inr none) a h = absurd (subst (λ (calls : List Call). Has (answered_from r opening life.start calls) a) none.calls h)

  start-front : (life : Life) → IsLived r opening life ⊎ IsUnlived life → IsFront life.start life.last
  start-front life lives = front_then life.start (records_after r opening life.start life.calls) life.last (to-end life.calls life.start) (life-front life lives)

  pub to-last : (lives : List Life) (records : List Record) → AreLives r opening records lives → IsFront records (last_records records lives)
  to-last [] records are = front_whole records
  to-last (life ∷ lives) records are =
      front_then records life.last (last_records life.last lives)
      (subst (λ (xs : List Record). IsFront xs life.last) are.0 (start-front life are.1)) (to-last lives life.last are.2)

  -- it found sound records that begin with these, and the records after it are the first in the last file
  pub record IsAmong (first last : List Record) (a : Answered) : Type 0 where
    pub from : IsFront first a.before
    pub to : IsFront (behind a) last
    pub sound : IsSound a.before

  pub among : (lives : List Life) (records : List Record) → AreLives r opening records lives → (a : Answered) → Has (all_answered r opening lives) a → IsAmong records (last_records records lives) a
  among [] records are a h = absurd h
  among (life ∷ lives) records are a h = go (has_parts (answered_from r opening life.start life.calls) (all_answered r opening lives) a h) (λ k. among lives life.last are.2 a k)
    where
      first : IsFront records life.last
      first = subst (λ (xs : List Record). IsFront xs life.last) are.0 (start-front life are.1)

      go : Has (answered_from r opening life.start life.calls) a ⊎ Has (all_answered r opening lives) a → (Has (all_answered r opening lives) a → IsAmong life.last (last_records life.last lives) a) → IsAmong records (last_records life.last lives) a
      go (inl h) rest =
          let at = within life.calls life.start a h in
          record {
            from = subst (λ (xs : List Record). IsFront xs a.before) are.0 at.from;
            to = front_then (behind a) (records_after r opening life.start life.calls) (last_records life.last lives) at.to
                (front_then (records_after r opening life.start life.calls) life.last (last_records life.last lives) (life-front life are.1) (to-last lives life.last are.2));
            sound = life-sound life are.1 a h;
          }
      go (inr h) rest = let at = rest h in record { from = front_then records life.last a.before first at.from; to = at.to; sound = at.sound }

  pub ordered : (lives : List Life) (records : List Record) → AreLives r opening records lives → (a b : Answered) → Has (all_answered r opening lives) a → Has (all_answered r opening lives) b → AreOrdered a b
  ordered [] records are a b h k = absurd h
  ordered (life ∷ lives) records are a b h k =
      go (has_parts (answered_from r opening life.start life.calls) (all_answered r opening lives) a h) (has_parts (answered_from r opening life.start life.calls) (all_answered r opening lives) b k)
      (λ x y. ordered lives life.last are.2 a b x y)
    where
      cross : (c d : Answered) → Has (answered_from r opening life.start life.calls) c → Has (all_answered r opening lives) d → IsFront (behind c) d.before
      cross c d x y =
          front_then (behind c) life.last d.before
          (front_then (behind c) (records_after r opening life.start life.calls) life.last (within life.calls life.start c x).to (life-front life are.1))
          (among lives life.last are.2 d y).from

      go : Has (answered_from r opening life.start life.calls) a ⊎ Has (all_answered r opening lives) a → Has (answered_from r opening life.start life.calls) b ⊎ Has (all_answered r opening lives) b
          → (Has (all_answered r opening lives) a → Has (all_answered r opening lives) b → AreOrdered a b) → AreOrdered a b
      go (inl x) (inl y) rest = ordered-in life.calls life.start a b x y
      go (inl x) (inr y) rest = inl (cross a b x y)
      go (inr x) (inl y) rest = inr (inl (cross b a y x))
      go (inr x) (inr y) rest = rest x y
