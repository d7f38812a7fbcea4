-- Lines that are served one after the other.
use Rattle.std.proofs.Common.{◌≡◌, inl, ℕ, List, [], ◌∷◌, ◌++◌, fold, Option, Some, None, refl, sym, ap, ◌∙◌, subst, append_assoc, append-nil}
use Rattle.std.specs.List.{flat_map}
use Rattle.std.specs.Io.KnownBytes.{Appends, Keeps}
use Rattle.std.proofs.KnownBytes.{Appends-nil, Appends-trans, Consumes-nil, Consumes-trans}
use Rattle.outside.specs.Lists.{Journals, with_record}
use Rattle.journal_core.specs.declared.records.Record.{Record}
use Rattle.journal_core.specs.Records as journals
use Rattle.protocol_spec.proofs.ListLemmas.{each_push}
use Rattle.world_spec.specs.Posts.{AddsLeft}
use Rattle.world_spec.specs.Seats.{Seated}
use Rattle.validator_core.proofs.Settling.{keeps_same}
use Rattle.world_core.specs.Replies.{Accepting}
use Rattle.process_lines.specs.declared.request.Request.{Request}
use Rattle.process_lines.specs.declared.request.Request.TheVariants as request
use Rattle.process_lines.specs.Lines.{HasNoEnd, ReadsLine}
use Rattle.validator_process.specs.declared.stop.Stop.{Stop}
use Rattle.validator_process.specs.declared.stop.Stop.TheVariants as stop
use Rattle.validator_process.specs.Moves.{moved}
use Rattle.validator_process.specs.Serving.{AddsRecords, Answers, AreAnswered, Around, Exchange, IsCutBy, ReadsLines, Serves, ServesOne, ServesSome, due_for_line, ended, records_left, request_in, seat_behind_line, seat_behind_lines, seat_behind_request, spelled, with_records}

module _ (accepts : Accepting) where
  -- ---- one exchange more at the end

  seat_push : (seat : Seated) (xs : List Exchange) (x : Exchange) → seat_behind_lines accepts seat (xs ++ x ∷ []) ≡ seat_behind_line accepts (seat_behind_lines accepts seat xs) x.line
  seat_push seat [] x = refl
  seat_push seat (y ∷ xs) x = seat_push (seat_behind_line accepts seat y.line) xs x

  answers_push : (seat : Seated) (xs : List Exchange) (x : Exchange) → AreAnswered accepts seat xs → Answers accepts (seat_behind_lines accepts seat xs) x → AreAnswered accepts seat (xs ++ x ∷ [])
  answers_push seat [] x before last = (last, tt)
  answers_push seat (y ∷ xs) x before last = (before.0, answers_push (seat_behind_line accepts seat y.line) xs x before.1 last)

  records_push : (seat : Seated) (xs : List Exchange) (x : Exchange) → records_left accepts seat (xs ++ x ∷ []) ≡ records_left accepts seat xs ++ spelled (due_for_line accepts (seat_behind_lines accepts seat xs) x.line)
  records_push seat [] x = append-nil (spelled (due_for_line accepts seat x.line))
  records_push seat (y ∷ xs) x =
      let first = spelled (due_for_line accepts seat y.line) in
      let next = seat_behind_line accepts seat y.line in
      ap (λ rs. first ++ rs) (records_push next xs x) ∙ sym (append_assoc first (records_left accepts next xs) (spelled (due_for_line accepts (seat_behind_lines accepts next xs) x.line)))

pub texts_push : {A : Type 0} (f : A → List ℕ) (xs : List A) (x : A) → flat_map f (xs ++ x ∷ []) ≡ flat_map f xs ++ f x
texts_push f [] x = append-nil (f x)
texts_push f (y ∷ xs) x = ap (λ t. f y ++ t) (texts_push f xs x) ∙ sym (append_assoc (f y) (flat_map f xs) (f x))

-- ---- records

fold_then : {A B : Type 0} (f : B → A → B) (b : B) (xs ys : List A) → fold f b (xs ++ ys) ≡ fold f (fold f b xs) ys
fold_then f b [] ys = refl
fold_then f b (x ∷ xs) ys = fold_then f (f b x) xs ys

adds_none : (kept : Option Journals) (m : ℕ) → AddsRecords kept kept m []
adds_none None m = tt
adds_none (Some lists) m = refl

adds_push : (kept mid now : Option Journals) (m : ℕ) (records : List (List ℕ)) (x : Option Record) → AddsRecords kept mid m records → AddsLeft mid now m x → AddsRecords kept now m (records ++ spelled x)
adds_push None mid now m records x before last = tt
adds_push (Some lists) mid now m records x before last = go x (subst (λ (k : Option Journals). AddsLeft k now m x) before last)
  where
    go : (x : Option Record) → AddsLeft (Some (with_records lists m records)) now m x → now ≡ Some (with_records lists m (records ++ spelled x))
    go None last = last ∙ ap (λ rs. Some (with_records lists m rs)) (sym (append-nil records))
    go (Some r) last = last ∙ ap (λ ls. Some ls) (sym (fold_then (λ (l : Journals) bytes. with_record l m bytes) lists records (journals.journal_record.spell r ∷ [])))

-- ---- what is read

reads_none : (pending : List ℕ) (left : Option (List ℕ)) → ReadsLines pending pending left left []
reads_none pending left = record { bytes = []; read = Consumes-nil left; parts = append-nil pending; whole = tt }

reads_push : (pending mid now : List ℕ) (left left' left'' : Option (List ℕ)) (xs : List Exchange) (x : Exchange) → ReadsLines pending mid left left' xs → ReadsLine mid now left' left'' x.line → ReadsLines pending now left left'' (xs ++ x ∷ [])
reads_push pending mid now left left' left'' xs x before last = record {
  bytes = before.bytes ++ last.bytes;
  read = Consumes-trans left left' left'' before.bytes last.bytes before.read last.read;
  parts = sym (append_assoc pending before.bytes last.bytes)
      ∙ ap (λ t. t ++ last.bytes) before.parts
      ∙ append_assoc texts mid last.bytes
      ∙ ap (λ t. texts ++ t) (last.parts ∙ sym (append_assoc x.line (10 ∷ []) now))
      ∙ sym (append_assoc texts (ended x.line) now)
      ∙ ap (λ t. t ++ now) (sym (texts_push (λ (y : Exchange). ended y.line) xs x));
  whole = each_push (λ (y : Exchange). HasNoEnd y.line) xs x before.whole last.whole;
}
  where
    texts : List ℕ
    texts = flat_map (λ (y : Exchange). ended y.line) xs

-- ---- all of it

pub serves_none : (accepts : Accepting) (a : Around) → Serves accepts [] a a
serves_none accepts a = record {
  reads = reads_none a.pending a.left;
  answers = tt;
  writes = Appends-nil a.held;
  keeps = adds_none a.kept a.seat.member;
  seat = refl;
}

-- ---- the member stays the one that it is, and up

module _ (accepts : Accepting) where
  call_stays : (seat : Seated) (q : Request) → ((moved accepts seat q).member ≡ seat.member) × ((moved accepts seat q).up ≡ seat.up)
  call_stays seat (request.Vote bytes) = (refl, refl)
  call_stays seat (request.Hold bytes) = (refl, refl)
  call_stays seat (request.See number entry) = (refl, refl)
  call_stays seat (request.Run workers) = (refl, refl)
  call_stays seat request.Close = (refl, refl)
  call_stays seat request.End = (refl, refl)
  call_stays seat request.Turn = (refl, refl)
  call_stays seat (request.Ack tx) = (refl, refl)
  call_stays seat (request.Checkpoint number) = (refl, refl)
  call_stays seat (request.Object id) = (refl, refl)
  call_stays seat (request.Version id version) = (refl, refl)
  call_stays seat (request.Effects tx) = (refl, refl)
  call_stays seat request.State = (refl, refl)

  request_stays : (seat : Seated) (q : Option Request) → ((seat_behind_request accepts seat q).member ≡ seat.member) × ((seat_behind_request accepts seat q).up ≡ seat.up)
  request_stays seat None = (refl, refl)
  request_stays seat (Some q) = call_stays seat q

  lines_stay : (seat : Seated) (xs : List Exchange) → ((seat_behind_lines accepts seat xs).member ≡ seat.member) × ((seat_behind_lines accepts seat xs).up ≡ seat.up)
  lines_stay seat [] = (refl, refl)
  lines_stay seat (x ∷ xs) =
      let one = request_stays seat (request_in x.line) in
      let more = lines_stay (seat_behind_line accepts seat x.line) xs in
      (more.0 ∙ one.0, more.1 ∙ one.1)

  module _ (xs : List Exchange) (a b : Around) (served : Serves accepts xs a b) where
    pub same_member : b.seat.member ≡ a.seat.member
    same_member = ap (λ (s : Seated). s.member) served.seat ∙ (lines_stay a.seat xs).0

    pub same_up : b.seat.up ≡ a.seat.up
    same_up = ap (λ (s : Seated). s.up) served.seat ∙ (lines_stay a.seat xs).1

    pub serves_push : (x : Exchange) (c : Around) → ServesOne accepts x b c → Serves accepts (xs ++ x ∷ []) a c
    serves_push x c one = record {
      reads = reads_push a.pending b.pending c.pending a.left b.left c.left xs x served.reads one.reads;
      answers = answers_push accepts a.seat xs x served.answers (subst (λ (s : Seated). Answers accepts s x) served.seat one.answers);
      writes = subst (Appends a.held c.held) (sym (texts_push (λ (y : Exchange). y.text) xs x)) (Appends-trans a.held b.held c.held (flat_map (λ (y : Exchange). y.text) xs) x.text served.writes one.writes);
      keeps = subst (AddsRecords a.kept c.kept a.seat.member) (sym (records_push accepts a.seat xs x))
          (adds_push a.kept b.kept c.kept a.seat.member (records_left accepts a.seat xs) (due_for_line accepts (seat_behind_lines accepts a.seat xs) x.line) served.keeps
          (subst (λ (s : Seated). AddsLeft b.kept c.kept a.seat.member (due_for_line accepts s x.line)) served.seat
          (subst (λ (m : ℕ). AddsLeft b.kept c.kept m (due_for_line accepts b.seat x.line)) same_member one.keeps)));
      seat = one.seat ∙ ap (λ (s : Seated). seat_behind_line accepts s x.line) served.seat ∙ sym (seat_push accepts a.seat xs x);
    }

-- ---- until a stop

module _ (accepts : Accepting) (xs : List Exchange) (a mid : Around) (served : Serves accepts xs a mid) where
  pub some_served : (why : Stop) (now : Around) → IsCutBy accepts why mid now → ServesSome accepts why a now
  some_served why now cut = record { exchanges = xs; last = mid; serves = served; cut = cut }

  pub none_more : ServesSome accepts stop.OutOfMemory a mid
  none_more = some_served stop.OutOfMemory mid (inl (record { writes = same-held mid.held; keeps = keeps_same mid.kept }))
    where
      same-held : (held : Option (List ℕ)) → Keeps held held
      same-held None = tt
      same-held (Some bytes) = refl
