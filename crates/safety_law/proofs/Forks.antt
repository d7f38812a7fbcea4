-- The certificates that a member holds are valid, of its epoch, and of different transactions; so by the theorem of one
-- owner no two of them consume one version.
use Rattle.std.proofs.Common.{inl, inr, refl, sym, subst, ap, ◌∙◌}
use Rattle.std.proofs.lemmas.Bool.{eqb-true}
use Rattle.std.specs.Prelude.{◌≡◌, ◌⊎◌, ℕ, Bool, true, false, cond, not, ◌||◌, ◌==◌, ◌+◌, List, [], ◌∷◌, ◌++◌, find, flat_map, slice_get, Option, Some, None, option_map, is_some, Result, Ok, Err, bytes_eq}
use Rattle.wire_bcs.specs.declared.fault.WireFault.{WireFault}
use Rattle.digest_core.specs.declared.Digest.{Digest}
use Rattle.chain_types.specs.Equal.{digest_eq, key_eq}
use Rattle.chain_types.specs.declared.objects.ObjectId.{ObjectId}
use Rattle.chain_types.specs.declared.objects.ObjectKey.{ObjectKey}
use Rattle.chain_types.specs.declared.objects.Object.{Object}
use Rattle.chain_types.specs.declared.transactions.SignedTx.{SignedTx}
use Rattle.chain_types.specs.declared.refusals.CertRefusal.{CertRefusal}
use Rattle.chain_types.specs.Digests.{transaction_digest, consumed_keys}
use Rattle.chain_messages.specs.declared.messages.Statement.{Statement}
use Rattle.chain_messages.specs.declared.messages.Statement.TheVariants as statement
use Rattle.chain_messages.specs.declared.messages.Sealed.{Sealed}
use Rattle.chain_messages.specs.declared.messages.Certificate.{Certificate}
use Rattle.chain_messages.specs.declared.messages.Entry.{Entry}
use Rattle.chain_messages.specs.declared.messages.Entry.TheVariants as entry
use Rattle.journal_core.specs.declared.records.RanItem.{RanItem}
use Rattle.journal_core.specs.declared.records.Record.{Record}
use Rattle.journal_core.specs.declared.records.Record.TheVariants as record_as
use Rattle.protocol_spec.specs.declared.answers.Held.{Held}
use Rattle.protocol_spec.specs.declared.answers.Ignore.{Ignore}
use Rattle.protocol_spec.specs.declared.answers.Ignore.TheVariants as ignore
use Rattle.protocol_spec.specs.declared.answers.Ran.{Ran}
use Rattle.protocol_spec.specs.declared.refusals.VoteRefusal.{VoteRefusal}
use Rattle.protocol_spec.specs.declared.refusals.HoldRefusal.{HoldRefusal}
use Rattle.protocol_spec.specs.declared.refusals.HoldRefusal.TheVariants as no_hold
use Rattle.protocol_spec.specs.declared.refusals.SeeRefusal.{SeeRefusal}
use Rattle.protocol_spec.specs.declared.refusals.RunRefusal.{RunRefusal}
use Rattle.protocol_spec.specs.declared.refusals.CloseRefusal.{CloseRefusal}
use Rattle.protocol_spec.specs.declared.refusals.TurnRefusal.{TurnRefusal}
use Rattle.schedule_text.specs.declared.words.Event.{Event}
use Rattle.protocol_spec.proofs.Equality.{bytes_same, digest_self}
use Rattle.protocol_spec.specs.Chain.Words.{Has, Each, Along, first_some, first_of, where_true, refused_or, unless_refused}
use Rattle.protocol_spec.specs.Chain.Tests.{has_key}
use Rattle.protocol_spec.specs.Chain.Certificates.{Rules, read_signed, read_certificate, read_entry, cert_refusal}
use Rattle.protocol_spec.proofs.ListLemmas.{along-push, and-first, and-second, each_join, flat_has, has_parts, each_has, has_left, has_right}
use Rattle.protocol_spec.proofs.Truth.{where_not_true}
use Rattle.protocol_spec.specs.Member.Sequence.{What, takes, commits, counts, ignores, ignored_or, certificate_cases, end_cases, what_stated, what_read, what_of, held_as}
use Rattle.protocol_spec.specs.Member.Checkpoints.{held_of}
use Rattle.protocol_spec.specs.Member.Member.{Member, Fork, consumes, fork_at, fork_with, fork_in, fork_of, held_with, after, state}
use Rattle.protocol_spec.specs.Member.Calls.{Call, votes, holds, sees, runs, closes, ends, turns, acks, Voted, new_hold, hold_certificate, hold_read, hold_stopped, hold_answer, see_cases, vote_answer, run_answer, close_answer, turn_answer, kept_vote, vote_record, is_hold_kept, hold_record, see_record, ran_items, ran_record, run_record, close_record, turn_record, due, after_due, called}
use Rattle.world_spec.specs.Setting.{Setting}
use Rattle.world_spec.specs.World.{Seat, World, new_world, member_in}
use Rattle.world_spec.specs.Step.{happens}
use Rattle.world_spec.specs.Run.{run, world_after}
use Rattle.world_spec.specs.Assumptions.{calls_of, read_list, entry_certificates, certificates_read, delivered, all_of, all_delivered, IsHonestRun}
use Rattle.safety_law.proofs.InWorld.{in_world_given}
use Rattle.safety_law.proofs.Apart.{none-each, none-found, state-push}
use Rattle.safety_law.proofs.Once.{has-push}
use Rattle.safety_law.specs.Owners.{IsFormedOrValid}
use Rattle.safety_law.proofs.Totals.{each-all, flat-each}
use Rattle.safety_law.proofs.Owner.{owner}

-- ---- lists

pub has-key : (keys : List ObjectKey) (key : ObjectKey) → has_key keys key ≡ true → Has keys key
has-key [] key e = absurd (cc)
has-key (k ∷ keys) key e = go (key_eq key k) refl e (has-key keys key)
  where
    alike : key_eq key k ≡ true → k ≡ key
    alike q = both (bytes_same key.id.0.0 k.id.0.0 (and-first (bytes_eq key.id.0.0 k.id.0.0) (key.version == k.version) q)) (eqb-true key.version k.version (and-second (bytes_eq key.id.0.0 k.id.0.0) (key.version == k.version) q))
      where
        both : key.id.0.0 ≡ k.id.0.0 → key.version ≡ k.version → k ≡ key
        both p q =
            let ids : k.id ≡ key.id = ap (λ (bytes : List ℕ). record { 0 = record { 0 = bytes } }) (sym p) in
            ap (λ (i : ObjectId). record { id = i; version = k.version }) ids ∙ ap (λ (n : ℕ). record { id = key.id; version = n }) (sym q)

    go : (b : Bool) → key_eq key k ≡ b → (b || has_key keys key) ≡ true → (has_key keys key ≡ true → Has keys key) → Has (k ∷ keys) key
    go true q e rest = inl (alike q)
    go false q e rest = inr (rest e)

none-first : {A B : Type 0} (says : A → Option B) (xs : List A) → ((x : A) → Has xs x → says x ≡ None) → first_of says xs ≡ None
none-first says [] none = refl
none-first says (x ∷ xs) none = rw (none x (inl refl)) (rw (none-first says xs (λ y h. none y (inr h))) refl)

none-find : {A : Type 0} (test : A → Bool) (xs : List A) → ((x : A) → Has xs x → test x ≡ false) → find test xs ≡ None
none-find test [] none = refl
none-find test (x ∷ xs) none = rw (none x (inl refl)) (none-find test xs (λ y h. none y (inr h)))

-- ---- which record each call appends

data Kind : Type 0 where
  of_vote : Kind
  of_hold : Kind
  of_see : Kind
  of_close : Kind
  of_run : Kind
  of_turn : Kind

abbrev kind_of : Record → Kind
kind_of (record_as.Vote tx o) = of_vote
kind_of (record_as.Hold c) = of_hold
kind_of (record_as.See bytes) = of_see
kind_of record_as.Close = of_close
kind_of (record_as.Ran txs) = of_run
kind_of record_as.Turn = of_turn
kind_of (record_as.Ran2 items) = of_run

kind-same : (x y : Record) (k : Kind) → kind_of x ≡ k → Some x ≡ Some y → kind_of y ≡ k
kind-same x y k e q = subst (λ (z : Record). kind_of z ≡ k) (same q) e
  where
    same : Some x ≡ Some y → x ≡ y
    same q = cc

vote-kind : (read : Result SignedTx WireFault) (answer : Result Voted VoteRefusal) (x : Record) → vote_record read answer ≡ Some x → kind_of x ≡ of_vote
vote-kind (Err fault) answer x e = absurd (cc)
vote-kind (Ok s) (Err refusal) x e = absurd (cc)
vote-kind (Ok s) (Ok v) x e = go v.fresh v.statement e
  where
    go : (b : Bool) (st : Statement) → cond b (kept_vote s.tx st) None ≡ Some x → kind_of x ≡ of_vote
    go false st e = absurd (cc)
    go true (statement.Vote epoch tx o) e = kind-same (record_as.Vote s.tx o) x of_vote refl e
    go true (statement.End epoch) e = absurd (cc)
    go true (statement.Checkpoint epoch number digest) e = absurd (cc)
    go true (statement.Ack epoch tx effects) e = absurd (cc)

hold-kind : (read : Result Certificate WireFault) (answer : Result Bool HoldRefusal) (x : Record) → hold_record read answer ≡ Some x → kind_of x ≡ of_hold
hold-kind (Err fault) answer x e = absurd (cc)
hold-kind (Ok c) answer x e = go (is_hold_kept answer) e
  where
    go : (b : Bool) → where_true b (record_as.Hold c) ≡ Some x → kind_of x ≡ of_hold
    go true e = kind-same (record_as.Hold c) x of_hold refl e
    go false e = absurd (cc)

see-kind : (m : Member) (number : ℕ) (bytes : List ℕ) (refusal : Option SeeRefusal) (x : Record) → see_record m number bytes refusal ≡ Some x → kind_of x ≡ of_see
see-kind m number bytes None x e = kind-same (record_as.See bytes) x of_see refl e
see-kind m number bytes (Some refusal) x e = absurd (cc)

run-kind : (m : Member) (answer : Result Ran RunRefusal) (x : Record) → run_record m answer ≡ Some x → kind_of x ≡ of_run
run-kind m (Err refusal) x e = absurd (cc)
run-kind m (Ok ran) x e = go (ran_items m) e
  where
    go : (items : List RanItem) → ran_record items ≡ Some x → kind_of x ≡ of_run
    go [] e = absurd (cc)
    go (item ∷ items) e = kind-same (record_as.Ran2 (item ∷ items)) x of_run refl e

close-kind : (answer : Result Bool CloseRefusal) (x : Record) → close_record answer ≡ Some x → kind_of x ≡ of_close
close-kind (Err refusal) x e = absurd (cc)
close-kind (Ok true) x e = kind-same record_as.Close x of_close refl e
close-kind (Ok false) x e = absurd (cc)

turn-kind : (answer : Result (List Digest) TurnRefusal) (x : Record) → turn_record answer ≡ Some x → kind_of x ≡ of_turn
turn-kind (Err refusal) x e = absurd (cc)
turn-kind (Ok txs) x e = kind-same record_as.Turn x of_turn refl e

-- ---- what a member holds

pub record IsGood (total : List Certificate) (r : Rules) (epoch : ℕ) (h : Held) : Type 0 where
  pub comes : Has total h.cert
  pub valid : cert_refusal r h.cert ≡ None
  pub of_epoch : h.cert.tx.epoch ≡ epoch
  pub named : h.digest ≡ transaction_digest h.cert.tx

abbrev IsOther : List Held → Held → Type 0
IsOther before h = Each (λ (e : Held). digest_eq e.digest h.digest ≡ false) before

record AreGood (total : List Certificate) (r : Rules) (epoch : ℕ) (held : List Held) : Type 0 where
  good : (h : Held) → Has held h → IsGood total r epoch h
  other : Along IsOther [] held

not-held : (held : List Held) (tx : Digest) → held_of held tx ≡ None → Each (λ (e : Held). digest_eq e.digest tx ≡ false) held
not-held [] tx e = tt
not-held (h ∷ held) tx e = let both = none-found (λ (y : Held). digest_eq y.digest tx) h held e in (both.0, not-held held tx both.1)

module _ (total : List Certificate) (r : Rules) where
  good-push : (epoch : ℕ) (held : List Held) (h : Held) → held_of held h.digest ≡ None → IsGood total r epoch h → AreGood total r epoch held → AreGood total r epoch (held ++ h ∷ [])
  good-push epoch held h new good all = record {
    good = λ x k. one x (has-push held h x k);
    other = along-push IsOther [] held h all.other (not-held held h.digest new);
  }
    where
      one : (x : Held) → Has held x ⊎ (h ≡ x) → IsGood total r epoch x
      one x (inl k) = all.good x k
      one x (inr e) = subst (IsGood total r epoch) e good

  none-held : (epoch : ℕ) → AreGood total r epoch []
  none-held epoch = record { good = λ h k. absurd k; other = tt }

  -- ---- a certificate is held newly, or as the evidence of a fork

  -- new, valid and of the epoch
  record IsNewlyHeld (m : Member) (c : Certificate) : Type 0 where
    given : Has total c
    valid : cert_refusal r c ≡ None
    of_epoch : c.tx.epoch ≡ m.epoch
    new : held_of m.held (transaction_digest c.tx) ≡ None

  module _ (m : Member) where
    stopped-first : (o : Option Fork) (b : Bool) (rest : Result Bool HoldRefusal) → is_hold_kept (refused_or (first_some (option_map (λ (f : Fork). no_hold.Halted f.first f.second) o ∷ where_true b no_hold.Full ∷ [])) rest) ≡ true → is_hold_kept rest ≡ true
    stopped-first (Some f) b rest e = absurd (cc)
    stopped-first None true rest e = absurd (cc)
    stopped-first None false rest e = e

    valid-kept : (closed : Bool) (refusal : Option CertRefusal) (forks : Option HoldRefusal) → is_hold_kept (unless_refused (first_some (where_true closed no_hold.Closed ∷ option_map no_hold.Cert refusal ∷ forks ∷ [])) true) ≡ true → refusal ≡ None
    valid-kept true refusal forks e = absurd (cc)
    valid-kept false (Some x) forks e = absurd (cc)
    valid-kept false None forks e = refl

    newly : (c : Certificate) → Has total c → is_hold_kept (hold_certificate r m c) ≡ true → IsNewlyHeld m c
    newly c t e = go (c.tx.epoch == m.epoch) refl (held_of m.held (transaction_digest c.tx)) refl e
      where
        go : (b : Bool) → (c.tx.epoch == m.epoch) ≡ b → (o : Option Held) → held_of m.held (transaction_digest c.tx) ≡ o
            → is_hold_kept (refused_or (where_true (not b) (no_hold.WrongEpoch c.tx.epoch m.epoch)) (cond (is_some o) (Ok false) (new_hold r m c))) ≡ true → IsNewlyHeld m c
        go false q o p e = absurd (cc)
        go true q (Some h) p e = absurd (cc)
        go true q None p e = record {
          given = t;
          valid = valid-kept m.closed (cert_refusal r c) (option_map (λ (f : Fork). no_hold.Fork f.key f.first f.second) (fork_with m.held (held_as c))) e;
          of_epoch = eqb-true c.tx.epoch m.epoch q;
          new = p;
        }

    -- ---- the record of a held certificate, and of a seen entry

    read-hold : (read : Result Certificate WireFault) (c : Certificate) → Each (Has total) (read_list read) → hold_record read (refused_or (hold_stopped m) (hold_read r m read)) ≡ Some (record_as.Hold c) → IsNewlyHeld m c
    read-hold (Err fault) c g e = absurd (cc)
    read-hold (Ok d) c g e = go (is_hold_kept (refused_or (hold_stopped m) (hold_certificate r m d))) refl e
      where
        same : Some (record_as.Hold d) ≡ Some (record_as.Hold c) → d ≡ c
        same e = cc

        go : (b : Bool) → is_hold_kept (refused_or (hold_stopped m) (hold_certificate r m d)) ≡ b → where_true b (record_as.Hold d) ≡ Some (record_as.Hold c) → IsNewlyHeld m c
        go false k e = absurd (cc)
        go true k e = subst (IsNewlyHeld m) (same e) (newly d g.0 (stopped-first (fork_of m) _ (hold_certificate r m d) k))

    due-hold : (call : Call) (c : Certificate) → Each (Has total) (certificates_read r call) → due r m call ≡ Some (record_as.Hold c) → IsNewlyHeld m c
    unfolding due hold_answer
    due-hold (votes bytes) c g e = absurd (let k = vote-kind _ _ (record_as.Hold c) e in cc)
    due-hold (holds bytes) c g e = read-hold (read_certificate bytes) c g e
    due-hold (sees number bytes) c g e = absurd (let k = see-kind m number bytes (first_some (see_cases m number)) (record_as.Hold c) e in cc)
    due-hold runs c g e = absurd (let k = run-kind m (run_answer r m) (record_as.Hold c) e in cc)
    due-hold closes c g e = absurd (let k = close-kind (close_answer r m) (record_as.Hold c) e in cc)
    due-hold ends c g e = absurd (cc)
    due-hold turns c g e = absurd (let k = turn-kind (turn_answer r m) (record_as.Hold c) e in cc)
    due-hold (acks tx) c g e = absurd (cc)

    abbrev EntryGiven : List ℕ → Type 0
    EntryGiven bytes = Each (Has total) (flat_map entry_certificates (read_list (read_entry bytes)))

    due-see : (call : Call) (bytes : List ℕ) → Each (Has total) (certificates_read r call) → due r m call ≡ Some (record_as.See bytes) → EntryGiven bytes
    unfolding due
    due-see (votes given) bytes g e = absurd (let k = vote-kind (read_signed given) (vote_answer r m given) (record_as.See bytes) e in cc)
    due-see (holds given) bytes g e = absurd (let k = hold-kind (read_certificate given) (hold_answer r m given) (record_as.See bytes) e in cc)
    due-see (sees number given) bytes g e = go (first_some (see_cases m number)) e
      where
        same : Some (record_as.See given) ≡ Some (record_as.See bytes) → given ≡ bytes
        same e = cc

        go : (refusal : Option SeeRefusal) → see_record m number given refusal ≡ Some (record_as.See bytes) → EntryGiven bytes
        go (Some refusal) e = absurd (cc)
        go None e = subst EntryGiven (same e) g
    due-see runs bytes g e = absurd (let k = run-kind m (run_answer r m) (record_as.See bytes) e in cc)
    due-see closes bytes g e = absurd (let k = close-kind (close_answer r m) (record_as.See bytes) e in cc)
    due-see ends bytes g e = absurd (cc)
    due-see turns bytes g e = absurd (let k = turn-kind (turn_answer r m) (record_as.See bytes) e in cc)
    due-see (acks tx) bytes g e = absurd (cc)

    -- ---- an entry that is taken

    same-held : (x y : Held) → takes x ≡ takes y → x ≡ y
    same-held x y e = cc

    is-none : {A : Type 0} (o : Option A) → is_some o ≡ false → o ≡ None
    is-none None e = refl
    is-none (Some x) e = absurd (cc)

    not-none : {E : Type 0} (b : Bool) (cause : E) → where_true b cause ≡ None → b ≡ false
    not-none false cause e = refl
    not-none true cause e = absurd (cc)

    taken-certificate : (c : Certificate) (h : Held) (cause : Option Ignore) → first_some (certificate_cases r m.epoch m.sequence c (transaction_digest c.tx)) ≡ cause → Has total c → ignored_or cause (takes (held_as c)) ≡ takes h → IsGood total r m.epoch h
    taken-certificate c h (Some cause) q g e = absurd (cc)
    taken-certificate c h None q g e =
        let cases = none-each (certificate_cases r m.epoch m.sequence c (transaction_digest c.tx)) q in
        subst (IsGood total r m.epoch) (same-held (held_as c) h e) (record {
          comes = g;
          valid = is-none (cert_refusal r c) (not-none (is_some (cert_refusal r c)) ignore.Cert cases.1.0);
          of_epoch = eqb-true c.tx.epoch m.epoch (where_not_true (c.tx.epoch == m.epoch) ignore.Epoch cases.0);
          named = refl;
        })

    not-stated : (x : Sealed) (st : Statement) (h : Held) → what_stated r m.epoch m.sequence x st ≡ takes h → ⊥
    not-stated x (statement.Vote epoch tx o) h e = cc
    not-stated x (statement.Checkpoint epoch number digest) h e = cc
    not-stated x (statement.Ack epoch tx effects) h e = cc
    not-stated x (statement.End epoch) h e = go (first_some (end_cases r m.epoch m.sequence x epoch)) e
      where
        go : (cause : Option Ignore) → ignored_or cause (counts x.member) ≡ takes h → ⊥
        go None e = cc
        go (Some cause) e = cc

    taken-read : (read : Result Entry WireFault) (h : Held) → Each (Has total) (flat_map entry_certificates (read_list read)) → what_read r m.epoch m.sequence read ≡ takes h → IsGood total r m.epoch h
    taken-read (Err fault) h g e = absurd (cc)
    taken-read (Ok (entry.Cert c)) h g e = taken-certificate c h (first_some (certificate_cases r m.epoch m.sequence c (transaction_digest c.tx))) refl g.0 e
    taken-read (Ok (entry.End x)) h g e = absurd (not-stated x x.statement h e)
    taken-read (Ok entry.Commit) h g e = absurd (cc)

    good-seen : (bytes : List ℕ) → EntryGiven bytes → AreGood total r m.epoch m.held → AreGood total r m.epoch (held_with m.held (what_of r m.epoch m.sequence bytes))
    unfolding what_of
    good-seen bytes g all = go (what_read r m.epoch m.sequence (read_entry bytes)) refl
      where
        taken : (h : Held) → IsGood total r m.epoch h → (o : Option Held) → held_of m.held h.digest ≡ o → AreGood total r m.epoch (cond (is_some o) m.held (m.held ++ h ∷ []))
        taken h good (Some x) q = all
        taken h good None q = good-push m.epoch m.held h q good all

        go : (what : What) → what_read r m.epoch m.sequence (read_entry bytes) ≡ what → AreGood total r m.epoch (held_with m.held what)
        go (takes h) q = taken h (taken-read (read_entry bytes) h g q) (held_of m.held h.digest) refl
        go commits q = all
        go (counts member) q = all
        go (ignores cause) q = all

  good-after : (m : Member) (call : Call) (x : Record) → Each (Has total) (certificates_read r call) → due r m call ≡ Some x → AreGood total r m.epoch m.held → AreGood total r (after r m x).epoch (after r m x).held
  unfolding after
  good-after m call (record_as.Vote tx o) g d all = all
  good-after m call (record_as.Hold c) g d all = hold (due-hold m call c g d)
    where
      hold : IsNewlyHeld m c → AreGood total r m.epoch (m.held ++ held_as c ∷ [])
      hold n = good-push m.epoch m.held (held_as c) n.new (record { comes = n.given; valid = n.valid; of_epoch = n.of_epoch; named = refl }) all
  good-after m call (record_as.See bytes) g d all = good-seen m bytes (due-see m call bytes g d) all
  good-after m call record_as.Close g d all = all
  good-after m call (record_as.Ran txs) g d all = all
  good-after m call record_as.Turn g d all = none-held (m.epoch + 1)
  good-after m call (record_as.Ran2 items) g d all = all

  good-fresh : (opening : List Object) → AreGood total r (state r opening []).epoch (state r opening []).held
  unfolding state
  good-fresh opening = none-held 0

-- ---- what the run delivers

module _ (s : Setting) (total : List Certificate) where
  abbrev IsDelivered : Call → Type 0
  IsDelivered call = Each (Has total) (certificates_read s.rules call)

  delivered-given : (events : List Event) (w : World) → ((c : Certificate) → Has (all_of delivered s events w) c → Has total c) → Each IsDelivered (all_of calls_of s events w)
  unfolding delivered
  delivered-given [] w sub = tt
  delivered-given (e ∷ events) w sub = each_join IsDelivered (calls_of s w e) (all_of calls_of s events (happens s w e))
      (flat-each (certificates_read s.rules) (Has total) (calls_of s w e) (λ c h. sub c (has_left (flat_map (certificates_read s.rules) (calls_of s w e)) _ c h)))
      (delivered-given events (happens s w e) (λ c h. sub c (has_right (flat_map (certificates_read s.rules) (calls_of s w e)) _ c h)))

  held-good : (events : List Event) → ((c : Certificate) → Has (all_of delivered s events (new_world s)) c → Has total c) → (m : ℕ) (seat : Seat) → slice_get (world_after s events).seats m ≡ Some seat
      → AreGood total s.rules (member_in s seat).epoch (member_in s seat).held
  held-good events sub m seat at =
      in_world_given s IsDelivered (λ records. AreGood total s.rules (state s.rules s.opening records).epoch (state s.rules s.opening records).held)
      (λ records call x g d all. subst (λ (n : Member). AreGood total s.rules n.epoch n.held) (sym (state-push s.rules s.opening records x)) (good-after total s.rules (state s.rules s.opening records) call x g d all))
      (good-fresh total s.rules s.opening) events (delivered-given events (new_world s) sub) m seat at

pub all-front : {A : Type 0} (says : Setting → World → Event → List A) (s : Setting) (front back : List Event) (w : World) (x : A) → Has (all_of says s front w) x → Has (all_of says s (front ++ back) w) x
all-front says s [] back w x h = absurd h
all-front says s (e ∷ front) back w x h = go (has_parts (says s w e) (all_of says s front (happens s w e)) x h) (all-front says s front back (happens s w e) x)
  where
    go : Has (says s w e) x ⊎ Has (all_of says s front (happens s w e)) x → (Has (all_of says s front (happens s w e)) x → Has (all_of says s (front ++ back) (happens s w e)) x) → Has (all_of says s (e ∷ (front ++ back)) w) x
    go (inl h) rest = has_left (says s w e) (all_of says s (front ++ back) (happens s w e)) x h
    go (inr h) rest = has_right (says s w e) (all_of says s (front ++ back) (happens s w e)) x (rest h)

all-at : {A : Type 0} (says : Setting → World → Event → List A) (s : Setting) (front back : List Event) (e : Event) (w : World) (x : A) → Has (says s (run s front w) e) x → Has (all_of says s (front ++ e ∷ back) w) x
all-at says s [] back e w x h = has_left (says s w e) (all_of says s back (happens s w e)) x h
all-at says s (f ∷ front) back e w x h = has_right (says s w f) (all_of says s (front ++ e ∷ back) (happens s w f)) x (all-at says s front back e (happens s w f) x h)

-- what a call of a line reads is delivered in the run
call-given : (s : Setting) (front back : List Event) (e : Event) (call : Call) → Has (calls_of s (world_after s front) e) call → Each (Has (all_of delivered s (front ++ e ∷ back) (new_world s))) (certificates_read s.rules call)
unfolding delivered world_after
call-given s front back e call h = each-all (Has (all_of delivered s (front ++ e ∷ back) (new_world s))) (certificates_read s.rules call)
    (λ c k. all-at delivered s front back e (new_world s) c (flat_has (certificates_read s.rules) (calls_of s (run s front (new_world s)) e) call c h k))

-- ---- no fork

module _ (s : Setting) (events : List Event) (run_is : IsHonestRun s events) (epoch : ℕ) where
  abbrev Good : Held → Type 0
  Good = IsGood (all_delivered s events) s.rules epoch

  certified : (h : Held) → Good h → IsFormedOrValid s events h.cert
  certified h good = inr (good.comes, good.valid)

  no-key : (e h : Held) → Good e → Good h → digest_eq e.digest h.digest ≡ false → (key : ObjectKey) → Has (consumed_keys h.cert.tx) key → consumes key e ≡ false
  no-key e h good_e good_h other key k = go (has_key (consumed_keys e.cert.tx) key) refl
    where
      one : has_key (consumed_keys e.cert.tx) key ≡ true → e.digest ≡ h.digest
      one q = good_e.named ∙ (ap transaction_digest (owner s events run_is e.cert h.cert (certified e good_e) (certified h good_h) (good_e.of_epoch ∙ sym good_h.of_epoch) key (has-key (consumed_keys e.cert.tx) key q) k) ∙ sym good_h.named)

      go : (b : Bool) → has_key (consumed_keys e.cert.tx) key ≡ b → has_key (consumed_keys e.cert.tx) key ≡ false
      go false q = q
      go true q = absurd (let is = subst (λ (d : Digest). digest_eq e.digest d ≡ true) (one q) (digest_self e.digest) in cc)

  no-fork-with : (earlier : List Held) (h : Held) → ((e : Held) → Has earlier e → Good e) → Good h → IsOther earlier h → fork_with earlier h ≡ None
  no-fork-with earlier h good good_h other = none-first (fork_at earlier h) (consumed_keys h.cert.tx) (λ key k. none key (none-find (consumes key) earlier (λ e l. no-key e h (good e l) good_h (each_has (λ (x : Held). digest_eq x.digest h.digest ≡ false) earlier e other l) key k)))
    where
      none : (key : ObjectKey) → find (consumes key) earlier ≡ None → fork_at earlier h key ≡ None
      none key e = rw e refl

  no-fork-in : (earlier held : List Held) → ((e : Held) → Has earlier e → Good e) → ((h : Held) → Has held h → Good h) → Along IsOther earlier held → fork_in earlier held ≡ None
  no-fork-in earlier [] good_e good_h along = refl
  no-fork-in earlier (h ∷ held) good_e good_h along =
      rw (no-fork-with earlier h good_e (good_h h (inl refl)) along.0)
      (rw (no-fork-in (earlier ++ h ∷ []) held (λ e l. either e (has-push earlier h e l)) (λ x l. good_h x (inr l)) along.1) refl)
    where
      either : (e : Held) → Has earlier e ⊎ (h ≡ e) → Good e
      either e (inl l) = good_e e l
      either e (inr q) = subst Good q (good_h h (inl refl))

pub no-fork : (s : Setting) (front back : List Event) → IsHonestRun s (front ++ back) → (m : ℕ) (seat : Seat) → slice_get (world_after s front).seats m ≡ Some seat → fork_of (member_in s seat) ≡ None
unfolding all_delivered fork_of
no-fork s front back run_is m seat at =
    let all = held-good s (all_of delivered s (front ++ back) (new_world s)) front (λ c h. all-front delivered s front back (new_world s) c h) m seat at in
    no-fork-in s (front ++ back) run_is (member_in s seat).epoch [] (member_in s seat).held (λ e l. absurd l) all.good all.other

pub no-fork-called : (s : Setting) (front back : List Event) (e : Event) → IsHonestRun s (front ++ e ∷ back) → (m : ℕ) (seat : Seat) → slice_get (world_after s front).seats m ≡ Some seat
    → (call : Call) → Has (calls_of s (world_after s front) e) call → fork_of (called s.rules (member_in s seat) call) ≡ None
unfolding all_delivered fork_of
no-fork-called s front back e run_is m seat at call h = go (due s.rules (member_in s seat) call) refl
  where
    total : List Certificate
    total = all_of delivered s (front ++ e ∷ back) (new_world s)

    before : AreGood total s.rules (member_in s seat).epoch (member_in s seat).held
    before = held-good s total front (λ c k. all-front delivered s front (e ∷ back) (new_world s) c k) m seat at

    none : (n : Member) → AreGood total s.rules n.epoch n.held → fork_of n ≡ None
    none n all = no-fork-in s (front ++ e ∷ back) run_is n.epoch [] n.held (λ x l. absurd l) all.good all.other

    go : (x : Option Record) → due s.rules (member_in s seat) call ≡ x → fork_of (after_due s.rules (member_in s seat) x) ≡ None
    go None d = none (member_in s seat) before
    go (Some x) d = none (after s.rules (member_in s seat) x) (good-after total s.rules (member_in s seat) call x (call-given s front back e call h) d before)
