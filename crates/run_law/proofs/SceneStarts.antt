-- A record that is due is read back from its encoding and taken, so each member starts from its journal.
use Rattle.std.proofs.Common.{refl, sym, subst, ap, ◌∙◌, append-nil, append_assoc, arith}
use Rattle.std.proofs.lemmas.Bool.{leb-false}
use Rattle.std.proofs.lemmas.List.{length-map}
use Rattle.std.proofs.lemmas.List.Elements.{All-from_recursion}
use Rattle.std.specs.Prelude.{◌≡◌, ℕ, ◌+◌, ◌<◌, suc, min, Bool, true, false, cond, nat_le, List, [], ◌∷◌, ◌++◌, map, length, slice_get, Option, Some, None, option_map, Result, Ok, Err}
use Rattle.std.specs.List.{AllByRecursion}
use Rattle.wire_bcs.specs.declared.fault.WireFault.{WireFault}
use Rattle.wire_bcs.specs.Codec.{Codec}
use Rattle.wire_bcs.specs.Digests.{digest}
use Rattle.wire_bcs.specs.Items.{length_limit}
use Rattle.wire_bcs.specs.Place.{IsBytes, Stop}
use Rattle.wire_bcs.specs.Whole.{whole, whole-found, whole-only}
use Rattle.digest_core.specs.declared.Digest.{Digest}
use Rattle.chain_types.specs.declared.objects.Object.{Object}
use Rattle.chain_types.specs.declared.transactions.Transaction.{Transaction}
use Rattle.chain_types.specs.declared.transactions.SignedTx.{SignedTx}
use Rattle.chain_types.specs.Transactions as transactions
use Rattle.chain_messages.specs.declared.messages.Certificate.{Certificate}
use Rattle.chain_messages.specs.declared.messages.Statement.{Statement}
use Rattle.chain_messages.specs.declared.messages.Statement.TheVariants as statement
use Rattle.chain_messages.specs.declared.messages.Entry.{Entry}
use Rattle.chain_messages.specs.Messages as messages
use Rattle.effects_core.specs.declared.effects.Effects.{Effects}
use Rattle.effects_core.specs.Effects.{digest_of_effects}
use Rattle.journal_core.specs.declared.records.RanItem.{RanItem}
use Rattle.journal_core.specs.declared.records.Record.{Record}
use Rattle.journal_core.specs.declared.records.Record.TheVariants as record_as
use Rattle.journal_core.specs.Records as journals
use Rattle.protocol_spec.specs.declared.answers.Ran.{Ran}
use Rattle.protocol_spec.specs.declared.refusals.VoteRefusal.{VoteRefusal}
use Rattle.protocol_spec.specs.declared.refusals.HoldRefusal.{HoldRefusal}
use Rattle.protocol_spec.specs.declared.refusals.SeeRefusal.{SeeRefusal}
use Rattle.protocol_spec.specs.declared.refusals.RunRefusal.{RunRefusal}
use Rattle.protocol_spec.specs.declared.refusals.RunRefusal.TheVariants as no_run
use Rattle.protocol_spec.specs.declared.refusals.CloseRefusal.{CloseRefusal}
use Rattle.protocol_spec.specs.declared.refusals.TurnRefusal.{TurnRefusal}
use Rattle.protocol_spec.specs.declared.refusals.StartRefusal.{StartRefusal}
use Rattle.protocol_spec.specs.declared.refusals.StartRefusal.TheVariants as no_start
use Rattle.protocol_spec.specs.Chain.Words.{Along, Each, and_then, first_some, unless_refused, where_true}
use Rattle.protocol_spec.specs.Chain.Certificates.{Rules, read_as, read_certificate, read_entry, read_signed}
use Rattle.protocol_spec.proofs.ListLemmas.{along-push, each_back, each_front, each_at, each_join}
use Rattle.protocol_spec.specs.Member.Versions.{Execution}
use Rattle.protocol_spec.specs.Member.Rounds.{rounds}
use Rattle.protocol_spec.specs.Member.Member.{Member, after, books, fresh, state, with_rounds}
use Rattle.protocol_spec.specs.Member.Calls.{Call, votes, holds, sees, runs, closes, ends, turns, acks, Voted, close_answer, close_record, due, halted, hold_answer, hold_record, is_hold_kept, kept_vote, ran_as, ran_item, ran_items, ran_record, record_limit, run_answer, run_record, see_cases, see_record, turn_answer, turn_record, vote_answer, vote_record}
use Rattle.protocol_spec.specs.Member.Replay.{is_allowed}
use Rattle.schedule_text.specs.declared.words.Event.{Event}
use Rattle.world_spec.specs.Setting.{Trust, Setting}
use Rattle.world_spec.specs.World as worlds
use Rattle.world_spec.specs.World.{Made, World, honest_in, member_at, new_world, stated, voted_statement}
use Rattle.world_spec.specs.Names.{cert_named, made_named}
use Rattle.world_spec.specs.Moves.{Move, requests, delivers, claims, vote_named, hold_named, direct, claims_ack, held_call, move_of, signed_call}
use Rattle.world_spec.specs.Step.{entries_left, happens}
use Rattle.world_spec.specs.Run.{run, world_after}
use Rattle.world_spec.specs.Assumptions.{ack_call, all_of, calls_by, calls_of, see_calls, send_call, vote_call}
use Rattle.world_spec.specs.Starts.{read_record, started, started_from, taken_at}
use Rattle.protocol_spec.specs.Member.Due.{IsDueBehind}
use Rattle.safety_law.proofs.Apart.{state-push}
use Rattle.safety_law.proofs.InWorld.{in_world_given, kept-line, new-seats}
use Rattle.safety_law.proofs.Allowed.{due-allowed}
use Rattle.safety_law.proofs.Steps.{HandsNoEntry, no-entry}
use Rattle.run_law.proofs.Members.{AreOrigins, IsDigest, IsFitMember, IsFitStatement, fit-none, fit-step, stated-fit, tagged-digest}
use Rattle.run_law.proofs.Fits.{origins-fit}
use Rattle.world_spec.specs.Posts.{post_honest}
use Rattle.world_spec.specs.Scene.{Scene, post_world}
use Rattle.world_spec.specs.SceneSteps.{idle, asks, ack_work, asked, work_by, work_of}
use Rattle.world_spec.specs.SceneWorlds.{AreKeepable, IsKeepable, ReadsFit, Restarts, Shows, WorkReadsFit, scene_of, spelled}
use Rattle.run_law.proofs.SceneCounted.{few-rounds, holds-few}
use Rattle.run_law.proofs.SceneRecords.{spelled-push}
use Rattle.run_law.proofs.SceneSees.{see-each}
use Rattle.run_law.proofs.SceneGrowth.{run-keepable}

-- ---- what is read fits

read-whole : {A : Type 0} (r : Result A Stop) (x : A) → read_as r ≡ Ok x → r ≡ Ok x
read-whole (Ok y) x e = cc
read-whole (Err stop) x e = absurd (cc)

read-fits : {A : Type 0} (c : Codec A) (bytes : List ℕ) (x : A) → IsBytes bytes → read_as (whole c bytes) ≡ Ok x → c.fits x
read-fits c bytes x are e = (whole-found c bytes x are (read-whole (whole c bytes) x e)).1

spelled-read : {A : Type 0} (c : Codec A) (x : A) → c.fits x → read_as (whole c (c.spell x)) ≡ Ok x
spelled-read {A} c x fits = ap (λ (r : Result A Stop). read_as r) (whole-only c (c.spell x) x fits refl)

abbrev read_ok : {A : Type 0} → A → Result A WireFault
read_ok x = Ok x

same-read : {A : Type 0} (x y : A) → read_ok x ≡ read_ok y → x ≡ y
same-read x y e = cc

spelled-fits : {A : Type 0} (c : Codec A) (x y : A) → c.fits x → read_as (whole c (c.spell x)) ≡ Ok y → c.fits y
spelled-fits {A} c x y fits e = subst (λ (z : A). c.fits z) (same-read x y (sym (spelled-read c x fits) ∙ e)) fits

pub vote-bytes : (bytes : List ℕ) → IsBytes bytes → ReadsFit (votes bytes)
unfolding read_signed
vote-bytes bytes are x e = read-fits transactions.signed bytes x are e

pub hold-bytes : (bytes : List ℕ) → IsBytes bytes → ReadsFit (holds bytes)
unfolding read_certificate
hold-bytes bytes are x e = read-fits messages.certificate bytes x are e

pub vote-spelled : (x : SignedTx) → transactions.signed.fits x → ReadsFit (votes (transactions.signed.spell x))
unfolding read_signed
vote-spelled x fits y e = spelled-fits transactions.signed x y fits e

pub hold-spelled : (c : Certificate) → messages.certificate.fits c → ReadsFit (holds (messages.certificate.spell c))
unfolding read_certificate
hold-spelled c fits d e = spelled-fits messages.certificate c d fits e

pub entry-spelled : (number : ℕ) (e : Entry) → messages.entry.fits e → ReadsFit (sees number (messages.entry.spell e))
unfolding read_entry
entry-spelled number e fits x is = spelled-fits messages.entry e x fits is

-- ---- records that are taken back

abbrev started_as : Member → Result Member StartRefusal
started_as m = Ok m

pub same-start : (m n : Member) → started_as m ≡ started_as n → m ≡ n
same-start m n e = cc

-- one more record, which is read as x and taken
start-push : (r : Rules) (kept : List (List ℕ)) (m : Member) (place : ℕ) (bytes : List ℕ) (n : Member) (x : Record)
    → started_from r m place kept ≡ Ok n → read_record bytes ≡ Ok x → is_allowed r n x ≡ true → started_from r m place (kept ++ bytes ∷ []) ≡ Ok (after r n x)
start-push r [] m place bytes n x e read taken =
    let same = same-start m n e in
    ap (λ (b : Result Record WireFault). and_then (taken_at r m place b) (λ next. Ok next)) read
    ∙ ap (λ (k : Member). and_then (taken_at r k place (Ok x)) (λ next. Ok next)) same
    ∙ ap (λ (b : Bool). and_then (cond b (started_as (after r n x)) (Err (no_start.BadRecord place 2))) (λ next. Ok next)) taken
start-push r (b ∷ kept) m place bytes n x e read taken = go (taken_at r m place (read_record b)) e (λ next. start-push r kept next (place + 1) bytes n x)
  where
    go : (t : Result Member StartRefusal) → and_then t (λ next. started_from r next (place + 1) kept) ≡ Ok n
        → ((next : Member) → started_from r next (place + 1) kept ≡ Ok n → read_record bytes ≡ Ok x → is_allowed r n x ≡ true → started_from r next (place + 1) (kept ++ bytes ∷ []) ≡ Ok (after r n x))
        → and_then t (λ next. started_from r next (place + 1) (kept ++ bytes ∷ [])) ≡ Ok (after r n x)
    go (Ok next) e more = more next e read taken
    go (Err refusal) e more = absurd (cc)

-- ---- what is due can be encoded

fit-along : (r : Rules) (opening : List Object) (before xs : List Record) → Along (IsDueBehind r opening) before xs → IsFitMember (state r opening before) → IsFitMember (state r opening (before ++ xs))
fit-along r opening before [] along fit = subst (λ (rs : List Record). IsFitMember (state r opening rs)) (sym (append-nil before)) fit
fit-along r opening before (x ∷ xs) along fit =
    subst (λ (rs : List Record). IsFitMember (state r opening rs)) (append_assoc before (x ∷ []) xs)
    (fit-along r opening (before ++ x ∷ []) xs along.1 (fit-step r opening before along.0.0 x tt along.0.1 fit))

pub signed-fits : (s : SignedTx) → transactions.signed.fits s → transactions.transaction.fits s.tx
unfolding transactions.signed
signed-fits s fits = fits.0

pub vote-record : (t : Transaction) (origins : List (Option Digest)) → transactions.transaction.fits t → AreOrigins origins → journals.journal_record.fits (record_as.Vote t origins)
unfolding journals.journal_record
vote-record t origins fits are = (fits, origins-fit origins are)

pub hold-record : (c : Certificate) → messages.certificate.fits c → journals.journal_record.fits (record_as.Hold c)
unfolding journals.journal_record
hold-record c fits = fits

pub see-record : (bytes : List ℕ) → length bytes < length_limit → journals.journal_record.fits (record_as.See bytes)
unfolding journals.journal_record
see-record bytes few = few

pub close-record : journals.journal_record.fits record_as.Close
unfolding journals.journal_record
close-record = tt

pub turn-fits : journals.journal_record.fits record_as.Turn
unfolding journals.journal_record
turn-fits = tt

effects-digest : (e : Effects) → IsDigest (digest_of_effects e)
unfolding digest_of_effects
effects-digest e = tagged-digest _ _

pub items-fit : (xs : List Execution) → Each (λ (x : Execution). IsDigest x.digest) xs → AllByRecursion journals.ran_item.fits (map ran_item xs)
unfolding journals.ran_item digest
items-fit [] each = tt
items-fit (x ∷ xs) each = ((each.0, effects-digest x.gave.effects), items-fit xs each.1)

pub run-record : (items : List RanItem) → length items < length_limit → AllByRecursion journals.ran_item.fits items → journals.journal_record.fits (record_as.Ran2 items)
unfolding journals.journal_record
run-record items few each = (few, All-from_recursion journals.ran_item.fits items each)

-- a call whose record can be read back: what is read from its bytes fits, and an entry's bytes can be kept
abbrev pub Given : Call → Type 0
Given (votes bytes) = ReadsFit (votes bytes)
Given (holds bytes) = ReadsFit (holds bytes)
Given (sees number bytes) = length bytes < length_limit
Given runs = Unit {0}
Given closes = Unit {0}
Given ends = Unit {0}
Given turns = Unit {0}
Given (acks tx) = Unit {0}

module _ (r : Rules) (opening : List Object) (records : List Record) (fit : IsFitMember (state r opening records)) (x : Record) where
  abbrev m : Member
  m = state r opening records

  abbrev IsGood : Record → Type 0
  IsGood y = journals.journal_record.fits y

  some-record : (y : Record) → Some y ≡ Some x → y ≡ x
  some-record y e = cc

  good-of : (y : Record) → Some y ≡ Some x → IsGood y → IsGood x
  good-of y e good = subst IsGood (some-record y e) good

  vote-good : (read : Result SignedTx WireFault) (answer : Result Voted VoteRefusal) → ((s : SignedTx) → read ≡ Ok s → transactions.signed.fits s) → Each IsFitStatement (voted_statement answer)
      → vote_record read answer ≡ Some x → IsGood x
  vote-good (Err fault) answer fits said e = absurd (cc)
  vote-good (Ok s) (Err refusal) fits said e = absurd (cc)
  vote-good (Ok s) (Ok v) fits said e = go v.fresh v.statement said.0 e
    where
      go : (b : Bool) (st : Statement) → IsFitStatement st → cond b (kept_vote s.tx st) None ≡ Some x → IsGood x
      go false st is e = absurd (cc)
      go true (statement.Vote epoch tx origins) is e = good-of (record_as.Vote s.tx origins) e (vote-record s.tx origins (signed-fits s (fits s refl)) is)
      go true (statement.End epoch) is e = absurd (cc)
      go true (statement.Checkpoint epoch number digest) is e = absurd (cc)
      go true (statement.Ack epoch tx effects) is e = absurd (cc)

  hold-good : (read : Result Certificate WireFault) (answer : Result Bool HoldRefusal) → ((c : Certificate) → read ≡ Ok c → messages.certificate.fits c) → hold_record read answer ≡ Some x → IsGood x
  hold-good (Err fault) answer fits e = absurd (cc)
  hold-good (Ok c) answer fits e = go (is_hold_kept answer) e
    where
      go : (b : Bool) → where_true b (record_as.Hold c) ≡ Some x → IsGood x
      go true e = good-of (record_as.Hold c) e (hold-record c (fits c refl))
      go false e = absurd (cc)

  -- a run that answers finds room for a record
  has-room : (ran : Ran) → run_answer r m ≡ Ok ran → nat_le record_limit m.records ≡ false
  unfolding run_answer
  has-room ran e = go (halted no_run.Halted m) (nat_le record_limit m.records) (ran_as m (rounds (books m) m.executed) (with_rounds m)) e
    where
      go : (a : Option RunRefusal) (b : Bool) (y : Ran) → unless_refused (first_some (a ∷ where_true b no_run.Full ∷ [])) y ≡ Ok ran → b ≡ false
      go (Some q) b y e = absurd (cc)
      go None true y e = absurd (cc)
      go None false y e = refl

  few-items : (ran : Ran) → run_answer r m ≡ Ok ran → length (ran_items m) < length_limit
  few-items ran e =
      let room = leb-false record_limit m.records (has-room ran e) in
      let held = holds-few r opening records in
      let more = few-rounds (books m) m.executed in
      let same = length-map (rounds (books m) m.executed) ran_item in
      omega (arith, room, held, more, same)

  ran-digests : (items : List RanItem) → due r m runs ≡ Some (record_as.Ran2 items) → Each (λ (y : Execution). IsDigest y.digest) (rounds (books m) m.executed)
  unfolding after
  ran-digests items d =
      let next : IsFitMember (after r m (record_as.Ran2 items)) = subst IsFitMember (state-push r opening records (record_as.Ran2 items)) (fit-step r opening records runs (record_as.Ran2 items) tt d fit) in
      each_back (λ (y : Execution). IsDigest y.digest) m.executed (rounds (books m) m.executed) next.executed

  run-good : (answer : Result Ran RunRefusal) → run_answer r m ≡ answer → due r m runs ≡ Some x → run_record m answer ≡ Some x → IsGood x
  run-good (Err refusal) answers d e = absurd (cc)
  run-good (Ok ran) answers d e = go (ran_items m) refl e
    where
      go : (items : List RanItem) → ran_items m ≡ items → ran_record items ≡ Some x → IsGood x
      go [] are e = absurd (cc)
      go (i ∷ is) are e =
          let due_ : due r m runs ≡ Some (record_as.Ran2 (i ∷ is)) = d ∙ sym e in
          let few : length (i ∷ is) < length_limit = subst (λ (l : List RanItem). length l < length_limit) are (few-items ran answers) in
          let each : AllByRecursion journals.ran_item.fits (i ∷ is) = subst (λ (l : List RanItem). AllByRecursion journals.ran_item.fits l) are (items-fit (rounds (books m) m.executed) (ran-digests (i ∷ is) due_)) in
          good-of (record_as.Ran2 (i ∷ is)) e (run-record (i ∷ is) few each)

  see-good : (number : ℕ) (bytes : List ℕ) (refusal : Option SeeRefusal) → length bytes < length_limit → see_record m number bytes refusal ≡ Some x → IsGood x
  see-good number bytes (Some refusal) few e = absurd (cc)
  see-good number bytes None few e = good-of (record_as.See bytes) e (see-record bytes few)

  close-good : (answer : Result Bool CloseRefusal) → close_record answer ≡ Some x → IsGood x
  close-good (Err refusal) e = absurd (cc)
  close-good (Ok true) e = good-of record_as.Close e close-record
  close-good (Ok false) e = absurd (cc)

  turn-good : (answer : Result (List Digest) TurnRefusal) → turn_record answer ≡ Some x → IsGood x
  turn-good (Err refusal) e = absurd (cc)
  turn-good (Ok txs) e = good-of record_as.Turn e turn-fits

  stated-vote : (bytes : List ℕ) → Each IsFitStatement (voted_statement (vote_answer r m bytes))
  unfolding stated
  stated-vote bytes = stated-fit r m (votes bytes) fit

  run-due : due r m runs ≡ Some x → IsGood x
  unfolding due
  run-due d = run-good (run_answer r m) refl d d

  pub due-good : (call : Call) → Given call → due r (state r opening records) call ≡ Some x → journals.journal_record.fits x
  unfolding due
  due-good (votes bytes) given d = vote-good (read_signed bytes) (vote_answer r m bytes) given (stated-vote bytes) d
  due-good (holds bytes) given d = hold-good (read_certificate bytes) (hold_answer r m bytes) given d
  due-good (sees number bytes) given d = see-good number bytes (first_some (see_cases m number)) given d
  due-good runs given d = run-due d
  due-good closes given d = close-good (close_answer r m) d
  due-good ends given d = absurd (cc)
  due-good turns given d = turn-good (turn_answer r m) d
  due-good (acks tx) given d = absurd (cc)

-- ---- one record more

module _ (s : Setting) where
  abbrev Starts : List Record → Type 0
  Starts records = (started s.rules s.opening (spelled records) ≡ Ok (state s.rules s.opening records)) × Along (IsDueBehind s.rules s.opening) [] records

  start-more : (records : List Record) (x : Record) → journals.journal_record.fits x → is_allowed s.rules (state s.rules s.opening records) x ≡ true
      → started s.rules s.opening (spelled records) ≡ Ok (state s.rules s.opening records) → started s.rules s.opening (spelled (records ++ x ∷ [])) ≡ Ok (state s.rules s.opening (records ++ x ∷ []))
  unfolding started
  start-more records x fits taken starts =
      ap (λ (kept : List (List ℕ)). started_from s.rules (fresh s.opening) 0 kept) (spelled-push records x)
      ∙ start-push s.rules (spelled records) (fresh s.opening) 0 (journals.journal_record.spell x) (state s.rules s.opening records) x starts (spelled-read journals.journal_record x fits) taken
      ∙ ap started_as (sym (state-push s.rules s.opening records x))

  start-step : (records : List Record) (call : Call) (x : Record) → Given call → due s.rules (state s.rules s.opening records) call ≡ Some x → Starts records → Starts (records ++ x ∷ [])
  start-step records call x given d starts =
      let fit = fit-along s.rules s.opening [] records starts.1 (fit-none s.rules s.opening) in
      let good = due-good s.rules s.opening records fit x call given d in
      let taken = due-allowed s.rules (state s.rules s.opening records) x call d in
      (start-more records x good taken starts.0, along-push (IsDueBehind s.rules s.opening) [] records x starts.1 (call, d))

  no-start : Starts []
  unfolding started state
  no-start = (refl, tt)

  -- ---- the seats of a world

  abbrev SeatStarts : worlds.Seat → Type 0
  SeatStarts seat = Starts seat.records

  each-from : (seats : List worlds.Seat) → ((m : ℕ) (seat : worlds.Seat) → slice_get seats m ≡ Some seat → SeatStarts seat) → Each SeatStarts seats
  each-from [] at = tt
  each-from (x ∷ xs) at = (at 0 x refl, each-from xs (λ m seat is. at (suc m) seat is))

  each-starts : (w : World) → Restarts s w → Each SeatStarts w.seats
  each-starts w restarts = each-from w.seats (λ m seat at. (restarts.starts m seat at, restarts.due m seat at))

  all-start : (w : World) → Each SeatStarts w.seats → Restarts s w
  all-start w each = record {
    starts = λ m seat at. (each_at SeatStarts w.seats m seat each at).0;
    due = λ m seat at. (each_at SeatStarts w.seats m seat each at).1;
  }

  -- ---- the calls of a line

  vote-given : (m : ℕ) (t : Option Made) → WorkReadsFit (asked m (option_map signed_call t)) → Each Given (vote_call t)
  vote-given m None fits = tt
  vote-given m (Some t) fits = (fits, tt)

  send-given : (m : ℕ) (c : Option Certificate) → WorkReadsFit (asked m (option_map held_call c)) → Each Given (send_call c)
  send-given m None fits = tt
  send-given m (Some c) fits = (fits, tt)

  see-given : (w : World) (m n : ℕ) → AreKeepable w.sequences → Each Given (see_calls s n w m)
  see-given w m n keepable = see-each s IsKeepable Given (λ number e few. few) n w m keepable

  ack-given : (t : Option Made) → Each Given (ack_call t)
  ack-given None = tt
  ack-given (Some t) = (tt, tt)

  move-given : (w : World) (mv : Move) → HandsNoEntry mv → WorkReadsFit (work_by (scene_of s w) mv) → AreKeepable w.sequences → Each Given (calls_by s w mv)
  move-given w (requests m (vote_named tx)) own fits keepable = vote-given m (made_named w tx) fits
  move-given w (requests m (hold_named tx)) own fits keepable = send-given m (cert_named w tx) fits
  move-given w (requests m (direct (sees number bytes))) own fits keepable = absurd own
  move-given w (requests m (direct call)) own fits keepable = (fits, tt)
  move-given w (delivers m entries) own fits keepable = see-given w m (min entries (entries_left w (member_at s w m))) keepable
  move-given w (claims m tx (claims_ack spoiled)) own fits keepable = ack-given (made_named w tx)
  move-given w mv own fits keepable = tt

  line-given : (w : World) (e : Event) → WorkReadsFit (work_of (scene_of s w) e) → AreKeepable w.sequences → Each Given (calls_of s w e)
  unfolding work_of
  line-given w e fits keepable = move-given w (move_of e) (no-entry e) fits keepable

  pub first-starts : Restarts s (new_world s)
  unfolding new_world
  first-starts = all-start (new_world s) (new-seats s Given Starts start-step s.honest no-start)

pub line-starts : (trust : Trust) (s : Setting) (w : World) (sc : Scene) (e : Event) → Shows trust s w sc → WorkReadsFit (work_of sc e) → AreKeepable w.sequences → Restarts s w → Restarts s (happens s w e)
line-starts trust s w sc e shows fits keepable restarts =
    all-start s (happens s w e)
    (kept-line s Given (Starts s) (start-step s) w e (line-given s w e (subst (λ (x : Scene). WorkReadsFit (work_of x e)) shows.scene fits) keepable) (each-starts s w restarts))

-- ---- a run

-- what a line hands to a member is read from its calls
module _ (s : Setting) where
  vote-work : (m : ℕ) (t : Option Made) → Each ReadsFit (vote_call t) → WorkReadsFit (asked m (option_map signed_call t))
  vote-work m None fits = tt
  vote-work m (Some t) fits = fits.0

  send-work : (m : ℕ) (c : Option Certificate) → Each ReadsFit (send_call c) → WorkReadsFit (asked m (option_map held_call c))
  send-work m None fits = tt
  send-work m (Some c) fits = fits.0

  ack-if : (m : ℕ) (tx : Digest) (b : Bool) → WorkReadsFit (cond b (asks m (acks tx)) idle)
  ack-if m tx true = tt
  ack-if m tx false = tt

  ack-work : (w : World) (m : ℕ) (t : Option Made) → WorkReadsFit (ack_work (scene_of s w) m t)
  ack-work w m None = tt
  ack-work w m (Some t) = ack-if m t.digest (honest_in post_honest (post_world (scene_of s w)) m)

  move-reads : (w : World) (mv : Move) → Each ReadsFit (calls_by s w mv) → WorkReadsFit (work_by (scene_of s w) mv)
  move-reads w (requests m (vote_named tx)) fits = vote-work m (made_named w tx) fits
  move-reads w (requests m (hold_named tx)) fits = send-work m (cert_named w tx) fits
  move-reads w (requests m (direct call)) fits = fits.0
  move-reads w (claims m tx (claims_ack spoiled)) fits = ack-work w m (made_named w tx)
  move-reads w mv fits = tt

  work-reads : (w : World) (e : Event) → Each ReadsFit (calls_of s w e) → WorkReadsFit (work_of (scene_of s w) e)
  unfolding work_of
  work-reads w e fits = move-reads w (move_of e) fits

  run-given : (events : List Event) (w : World) → Each ReadsFit (all_of calls_of s events w) → AreKeepable (run s events w).sequences → Each Given (all_of calls_of s events w)
  run-given [] w fits keepable = tt
  run-given (e ∷ events) w fits keepable =
      each_join Given (calls_of s w e) (all_of calls_of s events (happens s w e))
      (line-given s w e (work-reads w e (each_front ReadsFit (calls_of s w e) _ fits)) (run-keepable s (e ∷ events) w keepable))
      (run-given events (happens s w e) (each_back ReadsFit (calls_of s w e) _ fits) keepable)

  all-given : (events : List Event) → Each ReadsFit (all_of calls_of s events (new_world s)) → AreKeepable (world_after s events).sequences → Each Given (all_of calls_of s events (new_world s))
  unfolding world_after
  all-given events fits keepable = run-given events (new_world s) fits keepable

pub run-starts : (s : Setting) (events : List Event) → Each ReadsFit (all_of calls_of s events (new_world s)) → AreKeepable (world_after s events).sequences → Restarts s (world_after s events)
run-starts s events fits keepable =
    let all = in_world_given s Given (Starts s) (start-step s) (no-start s) events (all-given s events fits keepable) in
    record { starts = λ m seat at. (all m seat at).0; due = λ m seat at. (all m seat at).1 }
