-- A run as steps: a call of a member, a statement of a faulty one, a seat that is armed or started, an entry, the
-- rise of the epoch, a transaction made, a certificate formed. What each step keeps, each move keeps, and a run.
use Rattle.std.proofs.Common.{refl, subst, inl, inr, ◌∙◌}
use Rattle.std.proofs.lemmas.Bool.{eqb-true}
use Rattle.std.specs.Prelude.{◌≡◌, ℕ, zero, suc, min, Bool, true, false, cond, ◌==◌, List, [], ◌∷◌, ◌++◌, slice_get, Option, Some, None, option_map, bytes_eq}
use Rattle.chain_types.specs.Digests.{transaction_digest}
use Rattle.chain_messages.specs.declared.messages.Statement.{Statement}
use Rattle.chain_messages.specs.declared.messages.Statement.TheVariants as statement
use Rattle.chain_messages.specs.declared.messages.Certificate.{Certificate}
use Rattle.chain_messages.specs.declared.messages.Entry.{Entry}
use Rattle.chain_messages.specs.declared.messages.Entry.TheVariants as entry
use Rattle.schedule_text.specs.declared.words.Event.{Event}
use Rattle.schedule_text.specs.declared.words.Event.TheVariants as event
use Rattle.protocol_spec.proofs.ListLemmas.{each_front, each_back, find_has}
use Rattle.protocol_spec.specs.Chain.Collecting.{Collected, lacks, short, differ, whole}
use Rattle.protocol_spec.specs.Chain.Words.{Has, Each, first_some, where_true, last_where}
use Rattle.protocol_spec.specs.Member.Calls.{Call, sees, acks}
use Rattle.world_spec.specs.Setting.{Name, Setting}
use Rattle.world_spec.specs.World.{Seat, Said, Made, Formed, World, with_seat, by_records, called_in, called_if, sees_on, is_honest, member_at, next_call, armed_seat, started_seat}
use Rattle.world_spec.specs.Names.{made_named, cert_named, cert_in}
use Rattle.world_spec.specs.Making.{TxLine, made_over, made_as, transaction_of, with_made}
use Rattle.world_spec.specs.Moves.{Move, looks_on, makes_tx, requests, delivers, claims, certifies, submits, submits_end, arms_stop, starts_again, direct, claims_vote, claims_ack, cert_submitted, mark_submitted, requested, move_of}
use Rattle.world_spec.specs.Step.{happens, says, fvoted, fvote_origins, formed, formed_as, first_origins, certificate_of, votes_collected, ordered, honest_end, ordered_end, risen_if, has_ended, appended_entry, sealed_end, acked, false_ack, on_seat, entries_left, end_in, says_of, last_said, moved, happens_over, of_statement, last_read}
use Rattle.world_spec.specs.Run.{run}
use Rattle.world_spec.specs.Assumptions.{call_list, see_calls, ack_call, calls_by, calls_of, HasSaid}
use Rattle.safety_law.specs.Owners.{callee, callee_of}
use Rattle.digest_core.specs.declared.Digest.{Digest}

-- what was found last is an element
pub last-has : {A : Type 0} (test : A → Bool) (xs : List A) (x : A) → last_where test xs ≡ Some x → Has xs x
last-has test [] x e = absurd (cc)
last-has {A} test (y ∷ ys) x e = go (last_where test ys) refl (test y) e (last-has test ys x)
  where
    same : (z : A) → Some z ≡ Some x → z ≡ x
    same z e = cc

    go : (o : Option A) → last_where test ys ≡ o → (b : Bool) → first_some (o ∷ where_true b y ∷ []) ≡ Some x → (last_where test ys ≡ Some x → Has ys x) → Has (y ∷ ys) x
    go (Some z) q b e rest = inr (rest (q ∙ e))
    go None q true e rest = inl (same y e)
    go None q false e rest = absurd (cc)

-- a statement of a member in which this is read, with the seal that was kept of it
abbrev pub IsIn : {A : Type 0} → (Statement → Option A) → ℕ → List Said → A → Type 0
IsIn reads m xs a = (st : Statement) × (seal : Option Digest) × Has xs (record { member = m; statement = st; seal = seal }) × (reads st ≡ Some a)

-- what a member stated last it stated
pub last-read : {A : Type 0} (reads : Said → Option A) (m : ℕ) (xs : List Said) (a : A) → last_read reads m xs ≡ Some a → (x : Said) × Has xs x × (x.member ≡ m) × (reads x ≡ Some a)
last-read reads m [] a e = absurd (cc)
last-read {A} reads m (x ∷ xs) a e = go (last_read reads m xs) refl e (last-read reads m xs a)
  where
    IsThere : List Said → Type 0
    IsThere ys = (y : Said) × Has ys y × (y.member ≡ m) × (reads y ≡ Some a)

    only : (o : Option A) → first_some (o ∷ []) ≡ Some a → o ≡ Some a
    only None e = e
    only (Some b) e = e

    one : (b : Bool) → (x.member == m) ≡ b → first_some (cond b (reads x) None ∷ []) ≡ Some a → IsThere (x ∷ xs)
    one true t e = (x, inl refl, eqb-true x.member m t, only (reads x) e)
    one false t e = absurd (cc)

    longer : IsThere xs → IsThere (x ∷ xs)
    longer (y, h, n, r) = (y, inr h, n, r)

    go : (o : Option A) → last_read reads m xs ≡ o → first_some (o ∷ says_of reads m x ∷ []) ≡ Some a → (last_read reads m xs ≡ Some a → IsThere xs) → IsThere (x ∷ xs)
    go (Some b) q e rest = longer (rest (q ∙ e))
    go None q e rest = one (x.member == m) refl e

pub last-said : {A : Type 0} (reads : Statement → Option A) (m : ℕ) (xs : List Said) (a : A) → last_said reads m xs ≡ Some a → IsIn reads m xs a
last-said reads m xs a e = go (last-read (of_statement reads) m xs a e)
  where
    go : (x : Said) × Has xs x × (x.member ≡ m) × (reads x.statement ≡ Some a) → IsIn reads m xs a
    go (x, h, n, r) = (x.statement, x.seal, subst (λ (k : ℕ). Has xs (record { member = k; statement = x.statement; seal = x.seal })) n h, r)

-- what stands after an entry: a certificate was formed, an End of an honest member was stated
abbrev pub IsBacked : World → Entry → Type 0
IsBacked w (entry.Cert c) = (f : Formed) × Has w.certs f × (f.cert ≡ c)
IsBacked w (entry.End x) = is_honest w x.member ≡ true → HasSaid w x.member x.statement
IsBacked w entry.Commit = Unit {0}

-- a vote is for a transaction that was made
abbrev pub IsOfMade : World → Statement → Type 0
IsOfMade w (statement.Vote epoch tx origins) = (t : Made) × Has w.txs t × (t.digest ≡ tx) × (t.signed.tx.epoch ≡ epoch)
IsOfMade w (statement.End epoch) = Unit {0}
IsOfMade w (statement.Checkpoint epoch number digest) = Unit {0}
IsOfMade w (statement.Ack epoch tx effects) = Unit {0}

abbrev pub with_formed : World → Made → List ℕ → World
with_formed w t ms = record w { certs = w.certs ++ record { name = t.name; cert = certificate_of w.said t (first_origins w t ms) ms } ∷ [] }

-- a certificate that a line names was formed
pub named-backed : (w : World) (name : Name) (x : Certificate) → cert_named w name ≡ Some x → IsBacked w (entry.Cert x)
named-backed w name x e = go (last_where (λ (f : Formed). bytes_eq f.name name) w.certs) refl e
  where
    same : (f : Formed) → Some (cert_in f) ≡ Some x → f.cert ≡ x
    same f e = cc

    go : (o : Option Formed) → last_where (λ (f : Formed). bytes_eq f.name name) w.certs ≡ o → option_map cert_in o ≡ Some x → IsBacked w (entry.Cert x)
    go None q e = absurd (cc)
    go (Some f) q e = (f, last-has (λ (f : Formed). bytes_eq f.name name) w.certs f q, same f e)

-- each step keeps Q; Given is what is known of the calls, with the member that each is made on
pub record Keeps (s : Setting) (Given : Option ℕ → Call → Type 0) (Q : World → Type 0) : Type 0 where
  pub calls : (w : World) (m : ℕ) (call : Call) → Given (Some m) call → Q w → Q (called_in s w m call)
  pub lies : (w : World) (m : ℕ) (st : Statement) → is_honest w m ≡ false → IsOfMade w st → Q w → Q (says s.seal w m st)
  pub seats : (w : World) (m : ℕ) (seat new : Seat) → slice_get w.seats m ≡ Some seat → new.honest ≡ seat.honest → new.records ≡ seat.records → Q w → Q (with_seat w m new)
  pub enters : (w : World) (e : Entry) → IsBacked w e → Q w → Q (appended_entry w e)
  pub rises : (w : World) → Q w → Q (risen_if true w)
  pub makes : (w : World) (l : TxLine) (t : Made) → t.digest ≡ transaction_digest t.signed.tx → Q w → Q (with_made w l t)
  pub forms : (w : World) (t : Made) (ms : List ℕ) → Has w.txs t → votes_collected s w t ms ≡ whole → Q w → Q (with_formed w t ms)

-- no entry but the next one of its sequence is handed to a member
abbrev pub HandsNoEntry : Move → Type 0
HandsNoEntry (requests m (direct (sees number bytes))) = ⊥
HandsNoEntry mv = Unit {0}

pub no-entry : (e : Event) → HandsNoEntry (move_of e)
no-entry event.OrderCommit = tt
no-entry e = tt

-- each call of the run is as given
abbrev pub AllGiven : Setting → (Option ℕ → Call → Type 0) → List Event → World → Type 0
AllGiven s Given [] w = Unit {0}
AllGiven s Given (e ∷ events) w = Each (Given (callee e)) (calls_of s w e) × AllGiven s Given events (happens s w e)

module _ (s : Setting) (Given : Option ℕ → Call → Type 0) (Q : World → Type 0) (k : Keeps s Given Q) where
  step-called_if : (w : World) (m : ℕ) (call : Option Call) → Each (Given (Some m)) (call_list call) → Q w → Q (called_if s w m call)
  step-called_if w m None g q = q
  step-called_if w m (Some call) g q = k.calls w m call g.0 q

  step-sees : (n : ℕ) (w : World) (m : ℕ) → Each (Given (Some m)) (see_calls s n w m) → Q w → Q (sees_on s n w m)
  step-sees zero w m g q = q
  step-sees (suc n) w m g q = step-sees n (called_if s w m (next_call s w m)) m (each_back (Given (Some m)) (call_list (next_call s w m)) _ g) (step-called_if w m (next_call s w m) (each_front (Given (Some m)) (call_list (next_call s w m)) _ g) q)

  -- a test with its answer
  step-if : (b : Bool) (v w : World) → (b ≡ true → Q v) → (b ≡ false → Q w) → Q (cond b v w)
  step-if true v w one other = one refl
  step-if false v w one other = other refl

  step-fvoted : (w : World) (m : ℕ) (words : List (Option Name)) (t : Option Made) → ((x : Made) → t ≡ Some x → Has w.txs x) → Q w → Q (fvoted s w m words t)
  step-fvoted w m words None has q = q
  step-fvoted w m words (Some t) has q = step-if (is_honest w m) w (says s.seal w m (statement.Vote t.signed.tx.epoch t.digest (fvote_origins w t words))) (λ _. q)
      (λ faulty. k.lies w m (statement.Vote t.signed.tx.epoch t.digest (fvote_origins w t words)) faulty (t, has t refl, refl, refl) q)

  step-formed_as : (w : World) (t : Made) (ms : List ℕ) (c : Collected) → Has w.txs t → votes_collected s w t ms ≡ c → Q w → Q (formed_as w t ms c)
  step-formed_as w t ms (lacks m) h e q = q
  step-formed_as w t ms (short weight total) h e q = q
  step-formed_as w t ms (differ a b) h e q = q
  step-formed_as w t ms whole h e q = k.forms w t ms h e q

  step-formed : (w : World) (ms : List ℕ) (t : Option Made) → ((x : Made) → t ≡ Some x → Has w.txs x) → Q w → Q (formed s w ms t)
  step-formed w ms None has q = q
  step-formed w ms (Some t) has q = step-formed_as w t ms (votes_collected s w t ms) (has t refl) refl q

  step-ordered : (w : World) (c : Option Certificate) → ((x : Certificate) → c ≡ Some x → IsBacked w (entry.Cert x)) → Q w → Q (ordered w c)
  step-ordered w None backed q = q
  step-ordered w (Some c) backed q = step-if (c.tx.epoch == w.epoch) (appended_entry w (entry.Cert c)) w (λ _. k.enters w (entry.Cert c) (backed c refl) q) (λ _. q)

  step-risen : (b : Bool) (w : World) → Q w → Q (risen_if b w)
  step-risen true w q = k.rises w q
  step-risen false w q = q

  step-end : (w : World) (m epoch : ℕ) → IsBacked w (sealed_end s m epoch) → Q w → Q (ordered_end s w m epoch)
  step-end w m epoch backed q = step-risen (has_ended s (appended_entry w (sealed_end s m epoch))) (appended_entry w (sealed_end s m epoch)) (k.enters w (sealed_end s m epoch) backed q)

  step-honest_end : (w : World) (m : ℕ) (epoch : Option ℕ) → ((x : ℕ) → epoch ≡ Some x → IsBacked w (sealed_end s m x)) → Q w → Q (honest_end s w m epoch)
  step-honest_end w m None backed q = q
  step-honest_end w m (Some epoch) backed q = step-if (epoch == w.epoch) (ordered_end s w m epoch) w (λ _. step-end w m epoch (backed epoch refl) q) (λ _. q)

  step-on_seat : (w : World) (m : ℕ) (change : Seat → Seat) → ((seat : Seat) → (change seat).honest ≡ seat.honest) → ((seat : Seat) → (change seat).records ≡ seat.records) → (seat : Option Seat) → slice_get w.seats m ≡ seat → Q w → Q (on_seat w m change seat)
  step-on_seat w m change honest records None at q = q
  step-on_seat w m change honest records (Some seat) at q = k.seats w m seat (change seat) at (honest seat) (records seat) q

  step-acked : (w : World) (m : ℕ) (spoiled : Bool) (t : Option Made) → Each (Given (Some m)) (ack_call t) → Q w → Q (acked s w m spoiled t)
  step-acked w m spoiled None g q = q
  step-acked w m spoiled (Some t) g q = step-if (is_honest w m) (called_in s w m (acks t.digest)) (says s.seal w m (false_ack s w t spoiled)) (λ _. k.calls w m (acks t.digest) g.0 q) (λ faulty. k.lies w m (false_ack s w t spoiled) faulty tt q)

  -- ---- what the lines name is there

  named-has : (w : World) (name : Name) (x : Made) → made_named w name ≡ Some x → Has w.txs x
  named-has w name x e = find_has (λ (t : Made). bytes_eq t.name name) w.txs x e

  is-end : (st : Statement) (epoch : ℕ) → end_in st ≡ Some epoch → st ≡ statement.End epoch
  is-end (statement.Vote e t origins) epoch q = absurd (cc)
  is-end (statement.End e) epoch q = cc
  is-end (statement.Checkpoint e number digest) epoch q = absurd (cc)
  is-end (statement.Ack e t effects) epoch q = absurd (cc)

  stated-end : (w : World) (m epoch : ℕ) → last_said end_in m w.said ≡ Some epoch → IsBacked w (sealed_end s m epoch)
  stated-end w m epoch e _ = go (last-said end_in m w.said epoch e)
    where
      go : IsIn end_in m w.said epoch → HasSaid w m (statement.End epoch)
      go (st, seal, h, r) = subst (HasSaid w m) (is-end st epoch r) (seal, h)

  lied-end : (w : World) (m : ℕ) → is_honest w m ≡ false → IsBacked (says s.seal w m (statement.End w.epoch)) (sealed_end s m w.epoch)
  lied-end w m faulty honest = absurd (cc)

  -- ---- a move, and a line

  pub step-move : (w : World) (mv : Move) → Each (Given (callee_of mv)) (calls_by s w mv) → Q w → Q (moved (by_records s) s w mv)
  unfolding made_over
  step-move w looks_on g q = q
  step-move w (makes_tx l) g q = k.makes w l (made_as s l.name l.spoiled (transaction_of s w l)) refl q
  step-move w (requests m ask) g q = step-called_if w m (requested w ask) g q
  step-move w (delivers m entries) g q = step-sees (min entries (entries_left w (member_at s w m))) w m g q
  step-move w (claims m tx (claims_vote origins)) g q = step-fvoted w m origins (made_named w tx) (named-has w tx) q
  step-move w (claims m tx (claims_ack spoiled)) g q = step-acked w m spoiled (made_named w tx) g q
  step-move w (certifies tx members) g q = step-formed w members (made_named w tx) (named-has w tx) q
  step-move w (submits (cert_submitted tx)) g q = step-ordered w (cert_named w tx) (named-backed w tx) q
  step-move w (submits mark_submitted) g q = k.enters w entry.Commit tt q
  step-move w (submits_end m) g q =
      step-if (is_honest w m) (honest_end s w m (last_said end_in m w.said)) (ordered_end s (says s.seal w m (statement.End w.epoch)) m w.epoch)
      (λ _. step-honest_end w m (last_said end_in m w.said) (stated-end w m) q)
      (λ faulty. step-end (says s.seal w m (statement.End w.epoch)) m w.epoch (lied-end w m faulty) (k.lies w m (statement.End w.epoch) faulty tt q))
  step-move w (arms_stop m kept) g q = step-on_seat w m (armed_seat kept) (λ seat. refl) (λ seat. refl) (slice_get w.seats m) refl q
  step-move w (starts_again m) g q = step-on_seat w m started_seat (λ seat. refl) (λ seat. refl) (slice_get w.seats m) refl q

  pub step-line : (w : World) (e : Event) → Each (Given (callee e)) (calls_of s w e) → Q w → Q (happens s w e)
  unfolding happens_over
  step-line w e g q = step-move w (move_of e) g q

  pub step-run : (events : List Event) (w : World) → AllGiven s Given events w → Q w → Q (run s events w)
  step-run [] w g q = q
  step-run (e ∷ events) w g q = step-run events (happens s w e) g.1 (step-line w e g.0 q)
