-- What the call says of one process is a life of its member, and the processes on one file have lives.
use Rattle.std.proofs.Common.{inl, inr, refl, sym, subst, ap, ◌∙◌, append_assoc, append-nil, arith}
use Rattle.std.proofs.lemmas.List.{length-append}
use Rattle.std.specs.Prelude.{◌≡◌, ◌⊎◌, ◌<◌, ◌≤◌, ℕ, List, [], ◌∷◌, ◌++◌, map, length, Option, Some, None, Result, Ok, Err}
use Rattle.std.specs.List.{flat_map}
use Rattle.std.specs.Io.KnownBytes.{Appends, Keeps, append_known}
use Rattle.std.proofs.KnownBytes.{Appends-kept, Appends-trans}
use Rattle.outside.specs.Lists.{AddsRecord, Journals, KeepsJournals, journal_of, with_record}
use Rattle.outside.specs.Streams.{AppendsFront, ReadsText}
use Rattle.disk_log.specs.Disk.{History, IsImage, IsQuiet}
use Rattle.disk_log.specs.Records.{Record as Kept, counted, journals_of}
use Rattle.disk_log.specs.Running.{HoldsLists, IsUnchanged, Unchanged}
use Rattle.disk_log.proofs.Listing.{length-journals}
use Rattle.schedule_text.specs.Schedule.{longest_text}
use Rattle.chain_types.specs.declared.objects.Object.{Object}
use Rattle.journal_core.specs.declared.records.Record.{Record}
use Rattle.journal_core.specs.Records as journals
use Rattle.protocol_spec.specs.declared.refusals.StartRefusal.{StartRefusal}
use Rattle.protocol_spec.specs.declared.refusals.StartRefusal.TheVariants as no_start
use Rattle.protocol_spec.proofs.ListLemmas.{each_join, front_then, front_whole, set_length}
use Rattle.protocol_spec.specs.Chain.Words.{Each, IsFront}
use Rattle.protocol_spec.specs.Chain.Certificates.{Rules}
use Rattle.protocol_spec.specs.Member.Member.{Member}
use Rattle.protocol_spec.specs.Member.Calls.{Call, due}
use Rattle.world_spec.specs.Posts.{AddsLeft, MayAddLeft, list_of, seat_at}
use Rattle.world_spec.specs.Scene.{Scene, rules_in}
use Rattle.world_spec.specs.Seats.{Seated, rules_of_seat}
use Rattle.world_spec.specs.Starts.{started}
use Rattle.world_spec.specs.SceneWorlds as worlds
use Rattle.world_core.specs.Replies.{Accepting}
use Rattle.process_lines.specs.declared.request.Request.{Request}
use Rattle.process_lines.specs.declared.request.Request.TheVariants as request
use Rattle.process_lines.specs.declared.starts.StartLine.{StartLine}
use Rattle.validator_process.specs.declared.stop.Stop.{Stop}
use Rattle.validator_process.specs.declared.stop.Stop.TheVariants as stop
use Rattle.validator_process.specs.declared.words.Task.TheVariants as task
use Rattle.validator_process.specs.Ending.{EndsJournal, EndsLife, EndsText, IsLife, IsUnopened, kept_in, program_trust}
use Rattle.validator_process.specs.Genesis.{genesis_of, member_started, ready_line, started_in}
use Rattle.validator_process.specs.Handing.{IsAnswerHanded, IsFirstHanded}
use Rattle.validator_process.specs.Living.{AreProcesses, AreRunsOf, HasAnswered, HasNotAnswered, HaveLives, IsProcess, IsRunOf, Process, asked_in, calls_of}
use Rattle.validator_process.specs.Serving.{AddsRecords, AreAnswered, Around, Exchange, IsCutAt, IsCutBy, Serves, ServesAll, ServesOne, ServesSome, around, due_for_request, records_left, request_in, seat_behind_line, seat_behind_request, spelled, with_records}
use Rattle.validator_process.specs.Starting.{LivesCut, LivesSome, LivesWhole, StartsAs, start_bytes}
use Rattle.validator_process.proofs.Along.{same_member, serves_push, texts_push}
use Rattle.validator_process.proofs.Readable.{line-readable}
use Rattle.lives_law.specs.Files.{AreLivesOf, AreRunsOn, Follows, IsIdleOn, IsLeft, IsLifeOn, IsReadable, Run, dues, kept_of, records_of}
use Rattle.lives_law.proofs.Held.{held-left, own-set}
use Rattle.lives_law.proofs.OnFiles.{files-live}

-- ---- lists that grow

-- observable lists of a journal, of which the member's is this
record Stands (now : Option Journals) (m : ℕ) (kept : List (List ℕ)) : Type 0 where
  lists : Journals
  is : now ≡ Some lists
  width : length lists ≡ 65
  own : journal_of lists m ≡ kept

module _ (m : ℕ) (few : m ≤ 63) where
  stands-same : (now next : Option Journals) (kept : List (List ℕ)) → Stands now m kept → KeepsJournals now next → Stands next m kept
  stands-same now next kept s keeps = record { lists = s.lists; is = subst (λ (l : Option Journals). KeepsJournals l next) s.is keeps; width = s.width; own = s.own }

  within : (lists : Journals) → length lists ≡ 65 → m < length lists
  within lists width = omega (arith, few, width)

  stands-record : (now next : Option Journals) (kept : List (List ℕ)) (bytes : List ℕ) → Stands now m kept → AddsRecord now next m bytes → Stands next m (kept ++ bytes ∷ [])
  stands-record now next kept bytes s adds = record {
    lists = with_record s.lists m bytes;
    is = subst (λ (l : Option Journals). AddsRecord l next m bytes) s.is adds;
    width = set_length s.lists m (journal_of s.lists m ++ bytes ∷ []) ∙ s.width;
    own = own-set s.lists m (journal_of s.lists m ++ bytes ∷ []) (within s.lists s.width) ∙ ap (λ (k : List (List ℕ)). k ++ bytes ∷ []) s.own;
  }

  stands-left : (now next : Option Journals) (kept : List (List ℕ)) (x : Option Record) → Stands now m kept → AddsLeft now next m x → Stands next m (kept ++ spelled x)
  stands-left now next kept None s adds = subst (Stands next m) (sym (append-nil kept)) (stands-same now next kept s adds)
  stands-left now next kept (Some x) s adds = stands-record now next kept (journals.journal_record.spell x) s adds

  all-width : (records : List (List ℕ)) (lists : Journals) → length (with_records lists m records) ≡ length lists
  all-width [] lists = refl
  all-width (bytes ∷ records) lists = all-width records (with_record lists m bytes) ∙ set_length lists m (journal_of lists m ++ bytes ∷ [])

  all-own : (records : List (List ℕ)) (lists : Journals) → m < length lists → journal_of (with_records lists m records) m ≡ journal_of lists m ++ records
  all-own [] lists lt = sym (append-nil (journal_of lists m))
  all-own (bytes ∷ records) lists lt =
      all-own records (with_record lists m bytes) (subst (λ (n : ℕ). m < n) (sym (set_length lists m (journal_of lists m ++ bytes ∷ []))) lt)
      ∙ ap (λ (k : List (List ℕ)). k ++ records) (own-set lists m (journal_of lists m ++ bytes ∷ []) lt)
      ∙ append_assoc (journal_of lists m) (bytes ∷ []) records

  stands-all : (now next : Option Journals) (kept records : List (List ℕ)) → Stands now m kept → AddsRecords now next m records → Stands next m (kept ++ records)
  stands-all now next kept records s adds = record {
    lists = with_records s.lists m records;
    is = subst (λ (l : Option Journals). AddsRecords l next m records) s.is adds;
    width = all-width records s.lists ∙ s.width;
    own = all-own records s.lists (within s.lists s.width) ∙ ap (λ (k : List (List ℕ)). k ++ records) s.own;
  }

  -- what such a disk leaves
  stands-front : (now : Option Journals) (kept : List (List ℕ)) (files faults : ℕ) (h : History) → Stands now m kept → HoldsLists files faults (Some h) now → (file : List ℕ) → IsLeft h file → IsFront kept (kept_of 65 m file)
  stands-front now kept files faults h s holds file left =
      subst (λ (k : List (List ℕ)). IsFront k (kept_of 65 m file)) s.own
      (held-left 65 m faults h s.lists s.width files (subst (λ (l : Option Journals). HoldsLists files faults (Some h) l) s.is holds) file left)

stands-first : (m : ℕ) (h : History) → Stands (kept_in (Some h)) m (kept_of 65 m h.now.reads)
stands-first m h = record { lists = journals_of 65 (counted h.now.reads); is = refl; width = length-journals 65 (counted h.now.reads); own = refl }

-- ---- the calls of lines

spelled-list : (x : Option Record) (more : List Record) → worlds.spelled (list_of x ++ more) ≡ spelled x ++ worlds.spelled more
spelled-list None more = refl
spelled-list (Some x) more = refl

module _ (accepts : Accepting) where
  abbrev rules : Seated → Rules
  rules seat = rules_of_seat seat accepts

  same-rules : (seat : Seated) (q : Option Request) → rules (seat_behind_request accepts seat q) ≡ rules seat
  same-rules seat None = refl
  same-rules seat (Some (request.Vote bytes)) = refl
  same-rules seat (Some (request.Hold bytes)) = refl
  same-rules seat (Some (request.See number entry)) = refl
  same-rules seat (Some (request.Run workers)) = refl
  same-rules seat (Some request.Close) = refl
  same-rules seat (Some request.End) = refl
  same-rules seat (Some request.Turn) = refl
  same-rules seat (Some (request.Ack tx)) = refl
  same-rules seat (Some (request.Checkpoint number)) = refl
  same-rules seat (Some (request.Object id)) = refl
  same-rules seat (Some (request.Version id version)) = refl
  same-rules seat (Some (request.Effects tx)) = refl
  same-rules seat (Some request.State) = refl

  -- a request leaves what its call does
  one-due : (seat : Seated) (q : Option Request) (calls : List Call)
      → dues (rules seat) seat.state (asked_in q ++ calls) ≡ list_of (due_for_request accepts seat q) ++ dues (rules seat) (seat_behind_request accepts seat q).state calls
  unfolding due
  one-due seat None calls = refl
  one-due seat (Some (request.Vote bytes)) calls = refl
  one-due seat (Some (request.Hold bytes)) calls = refl
  one-due seat (Some (request.See number entry)) calls = refl
  one-due seat (Some (request.Run workers)) calls = refl
  one-due seat (Some request.Close) calls = refl
  one-due seat (Some request.End) calls = refl
  one-due seat (Some request.Turn) calls = refl
  one-due seat (Some (request.Ack tx)) calls = refl
  one-due seat (Some (request.Checkpoint number)) calls = refl
  one-due seat (Some (request.Object id)) calls = refl
  one-due seat (Some (request.Version id version)) calls = refl
  one-due seat (Some (request.Effects tx)) calls = refl
  one-due seat (Some request.State) calls = refl

  lines-left : (xs : List Exchange) (seat : Seated) → records_left accepts seat xs ≡ worlds.spelled (dues (rules seat) seat.state (calls_of xs))
  lines-left [] seat = refl
  lines-left (x ∷ xs) seat =
      let q = request_in x.line in
      let next = seat_behind_request accepts seat q in
      ap (λ (l : List (List ℕ)). spelled (due_for_request accepts seat q) ++ l) (lines-left xs next)
      ∙ ap (λ (r : Rules). spelled (due_for_request accepts seat q) ++ worlds.spelled (dues r next.state (calls_of xs))) (same-rules seat q)
      ∙ sym (spelled-list (due_for_request accepts seat q) (dues (rules seat) next.state (calls_of xs)))
      ∙ ap (λ (l : List Record). worlds.spelled l) (sym (one-due seat q (calls_of xs)))

calls-readable : (xs : List Exchange) → Each IsReadable (calls_of xs)
calls-readable [] = tt
calls-readable (x ∷ xs) = each_join IsReadable (asked_in (request_in x.line)) (calls_of xs) (line-readable x.line) (calls-readable xs)

-- ---- what was served

-- lines were answered, a prefix of the answers was written, and the member's list has their records, and perhaps more
record Did (accepts : Accepting) (m : ℕ) (seat : Seated) (held held' : Option (List ℕ)) (kept : List (List ℕ)) (now : Option Journals) : Type 0 where
  exchanges : List Exchange
  answers : AreAnswered accepts seat exchanges
  writes : AppendsFront held held' (flat_map (λ (x : Exchange). x.text) exchanges)
  more : List (List ℕ)
  stands : Stands now m ((kept ++ records_left accepts seat exchanges) ++ more)

append-known : (held : Option (List ℕ)) (text : List ℕ) → Appends held (append_known held text) text
append-known None text = tt
append-known (Some bytes) text = refl

module _ (accepts : Accepting) (m : ℕ) (few : m ≤ 63) (kept : List (List ℕ)) where
  abbrev texts : List Exchange → List ℕ
  texts xs = flat_map (λ (x : Exchange). x.text) xs

  whole-front : (held held' : Option (List ℕ)) (text : List ℕ) → Appends held held' text → AppendsFront held held' text
  whole-front held held' text writes = (text, [], sym (append-nil text), writes)

  served : (xs : List Exchange) (a b : Around) → a.seat.member ≡ m → Stands a.kept m kept → Serves accepts xs a b → Stands b.kept m (kept ++ records_left accepts a.seat xs)
  served xs a b own s serves = stands-all m few a.kept b.kept kept (records_left accepts a.seat xs) s (subst (λ (n : ℕ). AddsRecords a.kept b.kept n (records_left accepts a.seat xs)) own serves.keeps)

  no-more : (now : Option Journals) (records : List (List ℕ)) → Stands now m (kept ++ records) → Stands now m ((kept ++ records) ++ [])
  no-more now records s = subst (Stands now m) (sym (append-nil (kept ++ records))) s

  did-all : (a b : Around) → a.seat.member ≡ m → Stands a.kept m kept → ServesAll accepts a b → Did accepts m a.seat a.held b.held kept b.kept
  did-all a b own s all = record {
    exchanges = all.exchanges;
    answers = all.serves.answers;
    writes = whole-front a.held b.held (texts all.exchanges) (subst (λ (h : Option (List ℕ)). Appends a.held h (texts all.exchanges)) (sym all.writes) all.serves.writes);
    more = [];
    stands = no-more b.kept (records_left accepts a.seat all.exchanges)
        (subst (λ (l : Option Journals). Stands l m (kept ++ records_left accepts a.seat all.exchanges)) (sym all.keeps) (served all.exchanges a all.last own s all.serves));
  }

  module _ (a b : Around) (own : a.seat.member ≡ m) (s : Stands a.kept m kept) (xs : List Exchange) (last : Around) (serves : Serves accepts xs a last) where
    last-own : last.seat.member ≡ m
    last-own = same_member accepts xs a last serves ∙ own

    -- nothing more was written
    did-some : (more : List (List ℕ)) → Keeps last.held b.held → Stands b.kept m ((kept ++ records_left accepts a.seat xs) ++ more) → Did accepts m a.seat a.held b.held kept b.kept
    did-some more keeps stands = record {
      exchanges = xs;
      answers = serves.answers;
      writes = whole-front a.held b.held (texts xs) (Appends-kept a.held last.held b.held (texts xs) serves.writes keeps);
      more = more;
      stands = stands;
    }

    did-unread : Keeps last.held b.held → KeepsJournals last.kept b.kept → Did accepts m a.seat a.held b.held kept b.kept
    did-unread writes keeps = did-some [] writes (no-more b.kept (records_left accepts a.seat xs) (stands-same m few last.kept b.kept (kept ++ records_left accepts a.seat xs) (served xs a last own s serves) keeps))

    did-unanswered : (x : Option Record) → Keeps last.held b.held → MayAddLeft last.kept b.kept last.seat.member x → Did accepts m a.seat a.held b.held kept b.kept
    did-unanswered x writes (inl adds) =
        did-some (spelled x) writes
        (stands-left m few last.kept b.kept (kept ++ records_left accepts a.seat xs) x (served xs a last own s serves) (subst (λ (n : ℕ). AddsLeft last.kept b.kept n x) last-own adds))
    did-unanswered x writes (inr keeps) = did-unread writes keeps

    -- the last answer was written in part: the lists and the answers are as if it was written whole
    did-unwritten : (x : Exchange) (c : Around) → ServesOne accepts x last c → c.kept ≡ b.kept → AppendsFront last.held b.held x.text → Did accepts m a.seat a.held b.held kept b.kept
    did-unwritten x c one same (front, rest, e, writes) =
        let all = serves_push accepts xs a last serves x c one in
        record {
          exchanges = xs ++ x ∷ [];
          answers = all.answers;
          writes = (
            texts xs ++ front,
            rest,
            texts_push (λ (y : Exchange). y.text) xs x ∙ ap (λ (t : List ℕ). texts xs ++ t) e ∙ sym (append_assoc (texts xs) front rest),
            Appends-trans a.held last.held b.held (texts xs) front serves.writes writes,
          );
          more = [];
          stands = no-more b.kept (records_left accepts a.seat (xs ++ x ∷ []))
              (subst (λ (l : Option Journals). Stands l m (kept ++ records_left accepts a.seat (xs ++ x ∷ []))) same (served (xs ++ x ∷ []) a c own s all));
        }

    did-cut : IsCutAt accepts last b → Did accepts m a.seat a.held b.held kept b.kept
    did-cut (inl cut) = did-unread cut.writes cut.keeps
    did-cut (inr (inl cut)) = did-unanswered (due_for_request accepts last.seat (request_in cut.line)) cut.writes cut.keeps
    did-cut (inr (inr cut)) =
        did-unwritten cut.exchange
        (record { pending = b.pending; left = b.left; held = append_known last.held cut.exchange.text; kept = b.kept; seat = seat_behind_line accepts last.seat cut.exchange.line })
        (record { reads = cut.reads; answers = cut.answers; writes = append-known last.held cut.exchange.text; keeps = cut.keeps; seat = refl })
        refl
        cut.writes

    did-cut-by : (why : Stop) → IsCutBy accepts why last b → Did accepts m a.seat a.held b.held kept b.kept
    did-cut-by stop.ReadFault cut = did-cut (inl cut)
    did-cut-by stop.WriteFault cut = did-cut (inr (inr cut))
    did-cut-by stop.KeepFault cut = did-unanswered (due_for_request accepts last.seat (request_in cut.line)) cut.writes cut.keeps
    did-cut-by stop.OutOfMemory cut = did-cut cut

-- ---- a start

abbrev seat_ok : Seated → Result Seated StartLine
seat_ok seat = Ok seat

same-seat : (a b : Seated) → seat_ok a ≡ seat_ok b → b ≡ a
same-seat a b e = cc

started-of : (scene : Scene) (m : ℕ) (s : Result Member StartRefusal) (seat : Seated) → member_started scene m s ≡ Ok seat → (state : Member) × (s ≡ Ok state) × (seat ≡ seat_at scene.terms m state)
started-of scene m (Ok state) seat e = (state, refl, same-seat (seat_at scene.terms m state) seat e)
started-of scene m (Err (no_start.BadRecord place why)) seat e = absurd (cc)
started-of scene m (Err no_start.OutOfMemory) seat e = absurd (cc)

-- ---- one process

abbrev run_of : Process → List Call → Run
run_of p calls = record { first = p.first; last = p.last; calls = calls }

-- what one process did
record Done (scene : Scene) (m : ℕ) (p : Process) : Type 0 where
  run : Run
  is : IsRunOf scene m p run
  on : IsLifeOn (rules_in program_trust.accepts scene) scene.opening 65 m run ⊎ IsIdleOn (rules_in program_trust.accepts scene) scene.opening 65 m run

module _ (scene : Scene) (m : ℕ) (few : m ≤ 63) (p : Process) where
  abbrev accepts : Accepting
  accepts = program_trust.accepts

  abbrev first_kept : List (List ℕ)
  first_kept = kept_of 65 m p.first.now.reads

  -- in each file that is left stands what a file had that was left before
  abbrev IsIdle : Type 0
  IsIdle = (file : List ℕ) → IsLeft p.last file → (old : List ℕ) × IsLeft p.first old × IsFront (kept_of 65 m old) (kept_of 65 m file)

  idle : p.unread ≡ p.asked → IsIdle → Done scene m p
  idle unread leaves = record { run = run_of p []; is = record { first = refl; last = refl; said = inr (record { none = refl; unread = unread }) }; on = inr (record { calls = refl; leaves = leaves }) }

  some-history : (a b : History) → Some a ≡ Some b → a ≡ b
  some-history a b e = cc

  same-idle : p.last ≡ p.first → IsIdle
  same-idle same file left = (file, subst (λ (h : History). IsLeft h file) same left, front_whole (kept_of 65 m file))

  as-before : (file : List ℕ) → counted file ≡ counted p.first.now.reads → (old : List ℕ) × IsLeft p.first old × IsFront (kept_of 65 m old) (kept_of 65 m file)
  as-before file e = (p.first.now.reads, inl refl, subst (λ (k : List (List ℕ)). IsFront first_kept k) (ap (λ (c : List Kept). journal_of (journals_of 65 c) m) (sym e)) (front_whole first_kept))

  unchanged-idle : IsUnchanged p.first p.last → IsIdle
  unchanged-idle stays file (inl e) = as-before file (ap (λ (f : List ℕ). counted f) e ∙ stays.reads)
  unchanged-idle stays file (inr image) = go stays.crash
    where
      go : (p.last ≡ p.first) ⊎ ((f : List ℕ) → IsImage p.last.now f → counted f ≡ counted p.first.now.reads) → (old : List ℕ) × IsLeft p.first old × IsFront (kept_of 65 m old) (kept_of 65 m file)
      go (inl same) = same-idle same file (inr image)
      go (inr leaves) = as-before file (leaves file image)

  unopened-idle : Unchanged (Some p.first) (Some p.last) → IsIdle
  unopened-idle (h, same, stays) = unchanged-idle (subst (λ (x : History). IsUnchanged p.first x) (sym (some-history p.last h same)) stays)

  module _ (files faults : ℕ) (now : Option Journals) (holds : HoldsLists files faults (Some p.last) now) where
    kept-idle : KeepsJournals (kept_in (Some p.first)) now → IsIdle
    kept-idle keeps file left =
        (p.first.now.reads, inl refl, stands-front m few now first_kept files faults p.last (stands-same m few (kept_in (Some p.first)) now first_kept (stands-first m p.first) keeps) holds file left)

    -- the member started, said so, and answered lines
    lived : (seat : Seated) (said : Option (List ℕ)) → StartsAs accepts scene m (kept_in (Some p.first)) (Ok seat) → Appends p.held said (start_bytes (ready_line seat)) → Did accepts m seat said p.holds first_kept now → Done scene m p
    lived seat said (records, are, starts) ready did = record {
      run = run_of p calls;
      is = record {
        first = refl;
        last = refl;
        said = inl (record { seat = seat; exchanges = did.exchanges; starts = starts_here; answers = did.answers; writes = writes did.writes; are = refl });
      };
      on = inl (record { member = member.0; starts = member.1; leaves = leaves; readable = calls-readable did.exchanges });
    }
      where
        calls : List Call
        calls = calls_of did.exchanges

        starts_here : started_in accepts scene m first_kept ≡ Ok seat
        starts_here = subst (λ (k : List (List ℕ)). started_in accepts scene m k ≡ Ok seat) are starts

        member : (state : Member) × (started (rules_in accepts scene) scene.opening first_kept ≡ Ok state) × (seat ≡ seat_at scene.terms m state)
        member = started-of scene m (started (rules_in accepts scene) scene.opening first_kept) seat starts_here

        left : records_left accepts seat did.exchanges ≡ worlds.spelled (dues (rules_in accepts scene) member.0 calls)
        left = lines-left accepts did.exchanges seat ∙ ap (λ (s : Seated). worlds.spelled (dues (rules_of_seat s accepts) s.state calls)) member.2

        leaves : (file : List ℕ) → IsLeft p.last file → IsFront (first_kept ++ worlds.spelled (dues (rules_in accepts scene) member.0 calls)) (kept_of 65 m file)
        leaves file is =
            let all = stands-front m few now ((first_kept ++ records_left accepts seat did.exchanges) ++ did.more) files faults p.last did.stands holds file is in
            subst (λ (l : List (List ℕ)). IsFront (first_kept ++ l) (kept_of 65 m file)) left
            (front_then (first_kept ++ records_left accepts seat did.exchanges) ((first_kept ++ records_left accepts seat did.exchanges) ++ did.more) (kept_of 65 m file) (did.more, refl) all)

        writes : AppendsFront said p.holds (flat_map (λ (x : Exchange). x.text) did.exchanges) → AppendsFront p.held p.holds (start_bytes (ready_line seat) ++ flat_map (λ (x : Exchange). x.text) did.exchanges)
        writes (front, rest, e, more) = (
          start_bytes (ready_line seat) ++ front,
          rest,
          ap (λ (t : List ℕ). start_bytes (ready_line seat) ++ t) e ∙ sym (append_assoc (start_bytes (ready_line seat)) front rest),
          Appends-trans p.held said p.holds (start_bytes (ready_line seat)) front ready more,
        )

    own-member : (seat : Seated) → StartsAs accepts scene m (kept_in (Some p.first)) (Ok seat) → seat.member ≡ m
    own-member seat (records, are, starts) =
        ap (λ (s : Seated). s.member) (started-of scene m (started (rules_in accepts scene) scene.opening records) seat starts).2

    mid-stands : (mid : Option Journals) → KeepsJournals (kept_in (Some p.first)) mid → Stands mid m first_kept
    mid-stands mid same = stands-same m few (kept_in (Some p.first)) mid first_kept (stands-first m p.first) same

    lived-whole : (seat : Seated) (mid : Option Journals) → StartsAs accepts scene m (kept_in (Some p.first)) (Ok seat) → KeepsJournals (kept_in (Some p.first)) mid → LivesWhole accepts seat p.asked p.unread p.held p.holds mid now → Done scene m p
    lived-whole seat mid starts same lives = lived seat lives.said starts lives.ready (did-all accepts m few first_kept (around [] p.asked lives.said mid seat) (around lives.pending p.unread p.holds now lives.last) (own-member seat starts) (mid-stands mid same) lives.serves)

    lived-some : (why : Stop) (seat : Seated) (mid : Option Journals) → StartsAs accepts scene m (kept_in (Some p.first)) (Ok seat) → KeepsJournals (kept_in (Some p.first)) mid → LivesSome accepts why seat p.asked p.unread p.held p.holds mid now → Done scene m p
    lived-some why seat mid starts same lives =
        lived seat lives.said starts lives.ready
        (did-cut-by accepts m few first_kept (around [] p.asked lives.said mid seat) (around lives.pending p.unread p.holds now lives.last) (own-member seat starts) (mid-stands mid same) lives.serves.exchanges lives.serves.last lives.serves.serves why lives.serves.cut)

    -- the sink did not take an answer
    answer-handed : (seat : Seated) (mid : Option Journals) → StartsAs accepts scene m (kept_in (Some p.first)) (Ok seat) → KeepsJournals (kept_in (Some p.first)) mid → LivesSome accepts stop.WriteFault seat p.asked p.unread p.held p.holds mid now → IsAnswerHanded scene m p
    answer-handed seat mid starts same lives =
        let a : Around = around [] p.asked lives.said mid seat in
        let last : Around = lives.serves.last in
        let xs : List Exchange = lives.serves.exchanges in
        let x : Exchange = lives.serves.cut.exchange in
        let c : Around = record { pending = lives.pending; left = p.unread; held = append_known last.held x.text; kept = now; seat = seat_behind_line accepts last.seat x.line } in
        let one : ServesOne accepts x last c = record { reads = lives.serves.cut.reads; answers = lives.serves.cut.answers; writes = append-known last.held x.text; keeps = lives.serves.cut.keeps; seat = refl } in
        let all : Serves accepts (xs ++ x ∷ []) a c = serves_push accepts xs a last lives.serves.serves x c one in
        let stand : Stands now m (first_kept ++ records_left accepts seat (xs ++ x ∷ [])) = served accepts m few first_kept (xs ++ x ∷ []) a c (own-member seat starts) (mid-stands mid same) all in
        record {
          seat = seat;
          before = xs;
          handed = x;
          said = last.held;
          starts = subst (λ (k : List (List ℕ)). started_in accepts scene m k ≡ Ok seat) starts.1 starts.2;
          answers = all.answers;
          written = Appends-trans p.held lives.said last.held (start_bytes (ready_line seat)) (flat_map (λ (y : Exchange). y.text) xs) lives.ready lives.serves.serves.writes;
          writes = lives.serves.cut.writes;
          stands = λ file left. stands-front m few now (first_kept ++ records_left accepts seat (xs ++ x ∷ [])) files faults p.last stand holds file left;
        }

    pub line-handed : (seat : Seated) (mid : Option Journals) → StartsAs accepts scene m (kept_in (Some p.first)) (Ok seat) → KeepsJournals (kept_in (Some p.first)) mid → LivesCut accepts stop.WriteFault seat p.asked p.unread p.held p.holds mid now → IsFirstHanded p ⊎ IsAnswerHanded scene m p
    line-handed seat mid starts same (inl front) = inl (record { line = ready_line seat; writes = front.writes; unread = front.unread })
    line-handed seat mid starts same (inr lives) = inr (answer-handed seat mid starts same lives)

    then-keeps : (mid : Option Journals) → KeepsJournals (kept_in (Some p.first)) mid → KeepsJournals mid now → KeepsJournals (kept_in (Some p.first)) now
    then-keeps mid same keeps = subst (λ (l : Option Journals). KeepsJournals l now) same keeps

    lived-cut : (why : Stop) (seat : Seated) (mid : Option Journals) → StartsAs accepts scene m (kept_in (Some p.first)) (Ok seat) → KeepsJournals (kept_in (Some p.first)) mid → LivesCut accepts why seat p.asked p.unread p.held p.holds mid now → Done scene m p
    lived-cut why seat mid starts same (inl front) = idle front.unread (kept-idle (then-keeps mid same front.keeps))
    lived-cut why seat mid starts same (inr lives) = lived-some why seat mid starts same lives

    life-done : (k : ℕ) → EndsLife accepts scene m p.asked p.unread p.held p.holds (kept_in (Some p.first)) now p.read_before p.read_faults p.write_before p.write_faults k faults p.status → Done scene m p
    life-done k (inl life) = lived-whole life.seat life.mid life.starts life.same life.lives
    life-done k (inr (inl life)) = lived-cut life.why life.seat life.mid life.starts life.same life.lives
    life-done k (inr (inr (inl life))) = idle life.unread (kept-idle life.same)
    life-done k (inr (inr (inr life))) = idle life.unread (kept-idle life.same)

  journal-done : (k : ℕ) → EndsJournal accepts scene m (Some p.first) (Some p.last) p.asked p.unread p.held p.holds p.read_before p.read_faults p.write_before p.write_faults k p.disk_faults p.status → Done scene m p
  journal-done k (inl life) = life-done life.over.width p.disk_faults life.over.lists life.over.holds life.opened life.over.ends
  journal-done k (inr none) = idle none.unread (unopened-idle none.stays)

  -- ---- from the text

  abbrev scene_ok : Scene → Result Scene StartLine
  scene_ok s = Ok s

  pub same-scene : (a b : Scene) → scene_ok a ≡ scene_ok b → a ≡ b
  same-scene a b e = cc

  text-done : (text : List ℕ) → genesis_of program_trust m text ≡ Ok scene → EndsText program_trust accepts m text (Some p.first) (Some p.last) p.asked p.unread p.held p.holds p.read_before p.read_faults p.write_before p.write_faults p.disk_before p.disk_faults p.status → Done scene m p
  text-done text genesis (inl none) = idle none.unread (same-idle (some-history p.last p.first none.disk))
  text-done text genesis (inr (inl none)) = idle none.unread (same-idle (some-history p.last p.first none.disk))
  text-done text genesis (inr (inr begun)) =
      let same : begun.scene ≡ scene = same-scene begun.scene scene (sym begun.genesis ∙ genesis) in
      journal-done begun.mid
      (subst (λ (s : Scene). EndsJournal accepts s m (Some p.first) (Some p.last) p.asked p.unread p.held p.holds p.read_before p.read_faults p.write_before p.write_faults begun.mid p.disk_faults p.status) same begun.ends)

-- the text that was read is all of it, if it is not too long
pub whole-text : (text read : List ℕ) (left : Option (List ℕ)) → length text ≤ longest_text → ReadsText longest_text (Some text) left read → read ≡ text
whole-text text read None short reads = absurd reads.read
whole-text text read (Some rest) short reads =
    let parts : text ≡ read ++ rest = reads.read in
    let total : length text ≡ length (read ++ rest) = ap (λ (l : List ℕ). length l) parts in
    let few : length read ≤ longest_text = omega (arith, total, short, length-append read rest) in
    sym (parts ∙ ap (λ (l : List ℕ). read ++ l) (reads.ended few) ∙ append-nil read)

process-done : (scene : Scene) (m : ℕ) → m ≤ 63 → (text : List ℕ) → length text ≤ longest_text → genesis_of program_trust m text ≡ Ok scene → (p : Process) → IsProcess m text p → Done scene m p
process-done scene m few text short genesis p (inl unread) = idle scene m few p unread.unread (same-idle scene m few p (some-history scene m few p p.last p.first unread.disk))
process-done scene m few text short genesis p (inr done) =
    text-done scene m few p done.text (subst (λ (t : List ℕ). genesis_of program_trust m t ≡ Ok scene) (sym (whole-text text done.text p.setup short done.reads)) genesis) done.does

-- ---- one after the other

module _ (scene : Scene) (m : ℕ) (few : m ≤ 63) (text : List ℕ) (short : length text ≤ longest_text) (genesis : genesis_of program_trust m text ≡ Ok scene) where
  abbrev r : Rules
  r = rules_in program_trust.accepts scene

  record All (h : History) (ps : List Process) (file : List ℕ) : Type 0 where
    runs : List Run
    are : AreRunsOf scene m ps runs
    on : AreRunsOn r scene.opening 65 m h runs file

  all-done : (ps : List Process) (h : History) (file : List ℕ) → AreProcesses m text h ps file → All h ps file
  all-done [] h file left = record { runs = []; are = tt; on = left }
  all-done (p ∷ ps) h file are =
      let one = process-done scene m few text short genesis p are.1 in
      let rest = all-done ps p.last file are.2 in
      record {
        runs = one.run ∷ rest.runs;
        are = (one.is, rest.are);
        on = (
          subst (λ (x : History). Follows h x) (sym one.is.first) are.0,
          one.on,
          subst (λ (x : History). AreRunsOn r scene.opening 65 m x rest.runs file) (sym one.is.last) rest.on,
        );
      }

  have-lives : (h : History) (ps : List Process) (file : List ℕ) → IsQuiet h → AreProcesses m text h ps file → HaveLives scene m h ps file
  have-lives h ps file quiet are =
      let all = all-done ps h file are in
      let lives = files-live r scene.opening 65 m h all.runs file quiet all.on in
      record { ran = all.runs; are = all.are; lives = lives.0; stand = lives.1 }

pub processes-live : (m : ℕ) (text : List ℕ) (scene : Scene) → m ≤ 63 → length text ≤ longest_text → genesis_of program_trust m text ≡ Ok scene
    → (h : History) (ps : List Process) (file : List ℕ) → IsQuiet h → AreProcesses m text h ps file → HaveLives scene m h ps file
processes-live m text scene few short genesis h ps file quiet are = have-lives scene m few text short genesis h ps file quiet are
