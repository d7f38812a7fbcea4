-- A run without raw certificates meets the run assumptions if its transactions are among a few, whose digests differ,
-- and so do the ids that these can draw and those of the set-up: what a computed run can show.
use Rattle.std.proofs.Common.{inl, inr, refl, sym, subst, ap, ◌∙◌}
use Rattle.std.specs.Prelude.{◌≡◌, ◌⊎◌, ◌<◌, ℕ, Bool, true, false, List, [], ◌∷◌, ◌++◌, map, flat_map, slice_get, Option, Some, Ok}
use Rattle.std.specs.List.{list_any}
use Rattle.chain_types.specs.declared.objects.ObjectId.{ObjectId}
use Rattle.chain_types.specs.declared.objects.Object.{Object}
use Rattle.chain_types.specs.declared.transactions.SignedTx.{SignedTx}
use Rattle.chain_types.specs.declared.transactions.Transaction.{Transaction}
use Rattle.chain_messages.specs.declared.messages.Certificate.{Certificate}
use Rattle.chain_types.specs.Equal.{digest_eq, id_eq}
use Rattle.chain_types.specs.Digests.{transaction_digest}
use Rattle.schedule_text.specs.declared.words.Event.{Event}
use Rattle.schedule_text.specs.declared.words.Schedule.{Schedule}
use Rattle.schedule_text.specs.Schedule.{schedule_of}
use Rattle.protocol_spec.proofs.Equality.{digest_self}
use Rattle.protocol_spec.proofs.ListLemmas.{flat_has, is_below, has_parts, has_map, has_mapped, has_right}
use Rattle.protocol_spec.proofs.Truth.{or_false_left, or_false_right}
use Rattle.protocol_spec.specs.Chain.Words.{Each, Has, numbers_below, repeats}
use Rattle.world_spec.specs.Setting.{Setting, setting_of}
use Rattle.world_spec.specs.Keyed.{keyed, program_secret}
use Rattle.world_spec.specs.World.{Made, new_world}
use Rattle.world_spec.specs.Names.{draws}
use Rattle.world_spec.specs.Run.{world_after}
use Rattle.world_spec.specs.Assumptions.{FewFaulty, IdsApart, IsHonestRun, TransactionsApart, all_delivered, all_formed, all_of, all_transactions, asked, created}
use Rattle.safety_law.specs.Owners.{is_raw_hold}
use Rattle.safety_law.proofs.Sound.{get-has}
use Rattle.run_law.proofs.Honest.{read-unforged}

-- ---- values that differ

module _ {A B : Type 0} (f : A → B) (same : B → B → Bool) (self : (x : B) → same x x ≡ true) where
  no-other : (x : B) (ys : List B) (y : B) → list_any (same x) ys ≡ false → Has ys y → x ≡ y → ⊥
  no-other x [] y e h q = h
  no-other x (z ∷ ys) y e (inl p) q = absurd (let yes = subst (λ (w : B). same x w ≡ true) (q ∙ sym p) (self x) in let no = or_false_left (same x z) (list_any (same x) ys) e in cc)
  no-other x (z ∷ ys) y e (inr h) q = no-other x ys y (or_false_right (same x z) (list_any (same x) ys) e) h q

  -- of one list
  one-of : (xs : List A) → repeats same (map f xs) ≡ false → (x y : A) → Has xs x → Has xs y → f x ≡ f y → x ≡ y
  one-of [] e x y h k r = absurd h
  one-of (z ∷ zs) e x y (inl p) (inl q) r = sym p ∙ q
  one-of (z ∷ zs) e x y (inl p) (inr k) r = absurd (no-other (f z) (map f zs) (f y) (or_false_left (list_any (same (f z)) (map f zs)) (repeats same (map f zs)) e) (has_map f zs y k) (ap f p ∙ r))
  one-of (z ∷ zs) e x y (inr h) (inl q) r = absurd (no-other (f z) (map f zs) (f x) (or_false_left (list_any (same (f z)) (map f zs)) (repeats same (map f zs)) e) (has_map f zs x h) (ap f q ∙ sym r))
  one-of (z ∷ zs) e x y (inr h) (inr k) r = one-of zs (or_false_right (list_any (same (f z)) (map f zs)) (repeats same (map f zs)) e) x y h k r

  -- what is not among two lists, one after the other, is not among the first
  any-front : (x : B) (xs ys : List B) → list_any (same x) (xs ++ ys) ≡ false → list_any (same x) xs ≡ false
  any-front x [] ys e = refl
  any-front x (z ∷ xs) ys e = rw (or_false_left (same x z) (list_any (same x) (xs ++ ys)) e) (any-front x xs ys (or_false_right (same x z) (list_any (same x) (xs ++ ys)) e))

  repeats-front : (xs ys : List B) → repeats same (xs ++ ys) ≡ false → repeats same xs ≡ false
  repeats-front [] ys e = refl
  repeats-front (x ∷ xs) ys e =
      rw (any-front x xs ys (or_false_left (list_any (same x) (xs ++ ys)) (repeats same (xs ++ ys)) e))
      (repeats-front xs ys (or_false_right (list_any (same x) (xs ++ ys)) (repeats same (xs ++ ys)) e))

  not-behind : (xs ys : List B) → repeats same (xs ++ ys) ≡ false → (x y : B) → Has xs x → Has ys y → x ≡ y → ⊥
  not-behind [] ys e x y h k r = h
  not-behind (z ∷ xs) ys e x y (inl p) k r = no-other z (xs ++ ys) y (or_false_left (list_any (same z) (xs ++ ys)) (repeats same (xs ++ ys)) e) (has_right xs ys y k) (p ∙ r)
  not-behind (z ∷ xs) ys e x y (inr h) k r = not-behind xs ys (or_false_right (list_any (same z) (xs ++ ys)) (repeats same (xs ++ ys)) e) x y h k r

-- ---- what a run shows by computing

-- a transaction with each number that its commands can draw
abbrev pub numbered : Transaction → List (Transaction × ℕ)
numbered t = map (λ n. (t, n)) (numbers_below (draws t.commands))

abbrev pub created_id : (Transaction × ℕ) → ObjectId
created_id x = created x.0 x.1

abbrev pub opened_id : Object → ObjectId
opened_id o = o.id

-- each of the transactions is the one at some place of a list
pub record IsAmong (known txs : List Transaction) : Type 0 where
  pub places : List ℕ
  pub there : map (λ (t : Transaction). Some t) txs ≡ map (slice_get known) places

has-place : (known txs : List Transaction) → IsAmong known txs → (t : Transaction) → Has txs t → Has known t
has-place known txs it t h =
    let there = subst (λ (xs : List (Option Transaction)). Has xs (Some t)) it.there (has_map (λ (t : Transaction). Some t) txs t h) in
    let n = has_mapped (slice_get known) it.places (Some t) there in
    get-has known n.0 t n.2

-- the transactions that its lines made, those that were handed over, and those of the certificates that were formed and
-- delivered are among these, of which no two digests and no two ids are the same
pub record IsComputed (s : Setting) (events : List Event) : Type 0 where
  pub known : List Transaction
  pub made : IsAmong known (map (λ (t : Made). t.signed.tx) (world_after s events).txs)
  pub handed : IsAmong known (map (λ (x : SignedTx). x.tx) (all_of asked s events (new_world s)))
  pub formed : IsAmong known (map (λ (c : Certificate). c.tx) (all_formed s events))
  pub came : IsAmong known (map (λ (c : Certificate). c.tx) (all_delivered s events))
  pub digests : repeats digest_eq (map transaction_digest known) ≡ false
  pub ids : repeats id_eq (map created_id (flat_map numbered known) ++ map opened_id s.opening) ≡ false

module _ (s : Setting) (events : List Event) (it : IsComputed s events) where
  id-self : (x : ObjectId) → id_eq x x ≡ true
  id-self x = digest_self x.0

  is-known : (t : Transaction) → Has (all_transactions s events) t → Has it.known t
  unfolding all_transactions
  is-known t h = go (has_parts (map (λ (t : Made). t.signed.tx) (world_after s events).txs) _ t h)
    where
      with_cert : Certificate → Transaction
      with_cert c = c.tx

      of_certificate : (c : Certificate) → (with_cert c ≡ t) → Has (all_formed s events) c ⊎ Has (all_delivered s events) c → Has it.known t
      of_certificate c e (inl k) = has-place it.known (map (λ (c : Certificate). c.tx) (all_formed s events)) it.formed t (subst (Has (map (λ (c : Certificate). c.tx) (all_formed s events))) e (has_map (λ (c : Certificate). c.tx) (all_formed s events) c k))
      of_certificate c e (inr k) = has-place it.known (map (λ (c : Certificate). c.tx) (all_delivered s events)) it.came t (subst (Has (map (λ (c : Certificate). c.tx) (all_delivered s events))) e (has_map (λ (c : Certificate). c.tx) (all_delivered s events) c k))

      rest : Has (map (λ (x : SignedTx). x.tx) (all_of asked s events (new_world s))) t ⊎ Has (map (λ (c : Certificate). c.tx) (all_formed s events ++ all_delivered s events)) t → Has it.known t
      rest (inl k) = has-place it.known (map (λ (x : SignedTx). x.tx) (all_of asked s events (new_world s))) it.handed t k
      rest (inr k) = let c = has_mapped (λ (c : Certificate). c.tx) (all_formed s events ++ all_delivered s events) t k in of_certificate c.0 c.2 (has_parts (all_formed s events) (all_delivered s events) c.0 c.1)

      go : Has (map (λ (t : Made). t.signed.tx) (world_after s events).txs) t ⊎ Has (map (λ (x : SignedTx). x.tx) (all_of asked s events (new_world s)) ++ map (λ (c : Certificate). c.tx) (all_formed s events ++ all_delivered s events)) t → Has it.known t
      go (inl k) = has-place it.known (map (λ (t : Made). t.signed.tx) (world_after s events).txs) it.made t k
      go (inr k) = rest (has_parts (map (λ (x : SignedTx). x.tx) (all_of asked s events (new_world s))) (map (λ (c : Certificate). c.tx) (all_formed s events ++ all_delivered s events)) t k)

  transactions-apart : TransactionsApart (all_transactions s events)
  transactions-apart t u h k e = one-of transaction_digest digest_eq digest_self it.known it.digests t u (is-known t h) (is-known u k) e

  drawn : (t : Transaction) → Has (all_transactions s events) t → (n : ℕ) → n < draws t.commands → Has (flat_map numbered it.known) (t, n)
  drawn t h n less = flat_has numbered it.known t (t, n) (is-known t h) (has_map (λ (n : ℕ). (t, n)) (numbers_below (draws t.commands)) n (is_below (draws t.commands) n less))

  ids-apart : IdsApart s (all_transactions s events)
  ids-apart = record {
    drawn = λ t u h k n m less under e.
        let same = one-of created_id id_eq id-self (flat_map numbered it.known) (repeats-front created_id id_eq id-self (map created_id (flat_map numbered it.known)) (map opened_id s.opening) it.ids) (t, n) (u, m) (drawn t h n less) (drawn u k m under) e in
        (ap (λ (x : Transaction × ℕ). transaction_digest x.0) same, ap (λ (x : Transaction × ℕ). x.1) same);
    opened = λ t h n less o there e.
        not-behind created_id id_eq id-self (map created_id (flat_map numbered it.known)) (map opened_id s.opening) it.ids (created t n) o.id
        (has_map created_id (flat_map numbered it.known) (t, n) (drawn t h n less)) (has_map opened_id s.opening o there) (sym e);
  }

-- a computed run meets the run assumptions, if it is that of a text without raw certificates, and few are faulty
pub meets-all : (text : List ℕ) (t : Schedule) → schedule_of text ≡ Ok t → Each (λ (e : Event). is_raw_hold e ≡ false) t.events → FewFaulty (setting_of (keyed program_secret) t.setup)
    → IsComputed (setting_of (keyed program_secret) t.setup) t.events → IsHonestRun (setting_of (keyed program_secret) t.setup) t.events
meets-all text t read raw few it = record {
  few_faulty = few;
  no_forgery = read-unforged text t read program_secret raw;
  transactions = transactions-apart (setting_of (keyed program_secret) t.setup) t.events it;
  ids = ids-apart (setting_of (keyed program_secret) t.setup) t.events it;
}
