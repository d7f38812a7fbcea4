-- Where those that wait are filed, as certificates are put aside, taken and cut.
use Rattle.std.proofs.Common.{◌≡◌, ℕ, zero, suc, Bool, true, false, ◌||◌, List, [], ◌∷◌, Option, Some, None, length, map, refl, ap, sym, subst, ◌∙◌, inl, inr, ◌+◌, ◌<◌, slice_get, slice_set, drop, add-one}
use Rattle.std.specs.Prelude.{◌⊎◌, count_by, nat_lt}
use Rattle.digest_core.specs.declared.Digest.{Digest}
use Rattle.chain_types.specs.declared.objects.ObjectId.{ObjectId}
use Rattle.chain_types.specs.Equal.{digest_eq}
use Rattle.chain_messages.specs.declared.messages.Certificate.{Certificate}
use Rattle.protocol_spec.specs.declared.answers.Held.{Held}
use Rattle.protocol_spec.proofs.Equality.{digest_same}
use Rattle.protocol_spec.specs.Chain.Words.{Has}
use Rattle.protocol_spec.specs.Member.Admission.{has_room, is_admitted, mutable_ids, writes}
use Rattle.version_assign.specs.declared.book.AdmittedCertificate.{AdmittedCertificate}
use Rattle.version_assign.specs.declared.book.AdmissionTables.{AdmissionTables}
use Rattle.version_assign.specs.declared.book.PendingCertificate.{PendingCertificate}
use Rattle.version_assign.specs.declared.waits.PendingIndex.{PendingIndex}
use Rattle.version_assign.specs.Books.{admission_of, admitted_as, row_at}
use Rattle.version_assign.specs.Steps.{TakesOut}
use Rattle.version_assign.specs.Waiting.{Aside, Frees, IsFiled, IsFiledIn, Opens, OpensFound, OpensSince, Reason, Rests, Turn, admits_also, admits_in, aside_behind, aside_queued, has_turn, is_awake, is_full, is_open, is_queued, is_under, may_be_free, none_open, or_one_of, room_in, stands_behind, writes_at, writes_row, wrote_one}
use Rattle.version_assign.proofs.Filed.{filed_due, written_is}
use Rattle.version_assign.proofs.Listing.{next_at, some_at}
use Rattle.version_assign.proofs.Rows.{clash}

-- ---- one is put aside

module _ (rows : List (Option PendingCertificate)) (admits : Digest → Bool) (room : ObjectId → Bool) (place : ℕ) where
  -- no certificate waits at the place
  pub rests_none : (old new : PendingIndex) → Rests old new place → row_at rows place ≡ None → IsFiled rows old admits room none_open → IsFiled rows new admits room none_open
  rests_none old new r none filed = record { at = λ whole q x here. go q x here (filed.at (r.whole whole) q x here) }
    where
      some : (q : ℕ) (x : PendingCertificate) → row_at rows q ≡ Some x → q ≡ place → ⊥
      some q x here is = absurd (no (sym none ∙ ap (row_at rows) (sym is) ∙ here))
        where
          no : None ≡ Some x → ⊥
          no f = cc

      turn_of : (id : ObjectId) (q : ℕ) → Turn rows old room none_open id q → Turn rows new room none_open id q
      turn_of id q (is_full full) = is_full full
      turn_of id q (is_open e) = is_open e
      turn_of id q (has_turn p awake before writes) = by (r.awake p awake)
        where
          by : (p ≡ place) ⊎ (is_awake new p ≡ true) → Turn rows new room none_open id q
          by (inl is) = absurd (clash (sym writes ∙ ap (λ o. writes_row o id) (ap (row_at rows) is ∙ none)))
          by (inr still) = has_turn p still before writes

      go : (q : ℕ) (x : PendingCertificate) → row_at rows q ≡ Some x → Reason rows old admits room none_open q x.held.cert → Reason rows new admits room none_open q x.held.cert
      go q x here (stands_behind tx has off under) = stands_behind tx has off (r.behind tx q under)
      go q x here (is_queued id named under turn) = is_queued id named (r.queues id.0 q under) (turn_of id q turn)
      go q x here (may_be_free awake) = by (r.awake q awake)
        where
          by : (q ≡ place) ⊎ (is_awake new q ≡ true) → Reason rows new admits room none_open q x.held.cert
          by (inl is) = absurd (some q x here is)
          by (inr still) = may_be_free still

  -- one waits there, and is filed: the queues of what it writes are due
  pub rests_aside : (old new : PendingIndex) (y : PendingCertificate) → Rests old new place → row_at rows place ≡ Some y → (new.whole ≡ true → Aside new admits room place y.held.cert) → IsFiled rows old admits room none_open
      → IsFiled rows new admits room (or_one_of (mutable_ids y.held.cert) none_open)
  rests_aside old new y r there aside filed = record { at = λ whole q x here. go whole q x here (filed.at (r.whole whole) q x here) }
    where
      named : (p : ℕ) (id : ObjectId) → p ≡ place → writes_at rows p id ≡ true → or_one_of (mutable_ids y.held.cert) none_open id ≡ true
      named p id is writes = written_is (mutable_ids y.held.cert) id ∙ sym (ap (λ o. writes_row o id) (ap (row_at rows) is ∙ there)) ∙ writes

      turn_of : (id : ObjectId) (q : ℕ) → Turn rows old room none_open id q → Turn rows new room (or_one_of (mutable_ids y.held.cert) none_open) id q
      turn_of id q (is_full full) = is_full full
      turn_of id q (is_open e) = absurd (clash (sym e))
      turn_of id q (has_turn p awake before writes) = by (r.awake p awake)
        where
          by : (p ≡ place) ⊎ (is_awake new p ≡ true) → Turn rows new room (or_one_of (mutable_ids y.held.cert) none_open) id q
          by (inl is) = is_open (named p id is writes)
          by (inr still) = has_turn p still before writes

      put : (x : PendingCertificate) → y ≡ x → Aside new admits room place y.held.cert → Reason rows new admits room (or_one_of (mutable_ids y.held.cert) none_open) place x.held.cert
      put x is (aside_behind tx has off under) = subst (λ (z : PendingCertificate). Reason rows new admits room (or_one_of (mutable_ids y.held.cert) none_open) place z.held.cert) is (stands_behind tx has off under)
      put x is (aside_queued id has under full) = subst (λ (z : PendingCertificate). Reason rows new admits room (or_one_of (mutable_ids y.held.cert) none_open) place z.held.cert) is (is_queued id has under (is_full full))

      go : new.whole ≡ true → (q : ℕ) (x : PendingCertificate) → row_at rows q ≡ Some x → Reason rows old admits room none_open q x.held.cert → Reason rows new admits room (or_one_of (mutable_ids y.held.cert) none_open) q x.held.cert
      go whole q x here (stands_behind tx has off under) = stands_behind tx has off (r.behind tx q under)
      go whole q x here (is_queued id has under turn) = is_queued id has (r.queues id.0 q under) (turn_of id q turn)
      go whole q x here (may_be_free awake) = by (r.awake q awake)
        where
          same : Some y ≡ Some x → y ≡ x
          same f = cc

          by : (q ≡ place) ⊎ (is_awake new q ≡ true) → Reason rows new admits room (or_one_of (mutable_ids y.held.cert) none_open) q x.held.cert
          by (inl is) = subst (λ k. Reason rows new admits room (or_one_of (mutable_ids y.held.cert) none_open) k x.held.cert) (sym is) (put x (same (sym there ∙ ap (row_at rows) (sym is) ∙ here)) (aside whole))
          by (inr still) = may_be_free still

pub aside_rests : (admits : Digest → Bool) (room : ObjectId → Bool) (place : ℕ) (c : Certificate) (mid new : PendingIndex) → Rests mid new place → Aside mid admits room place c → Aside new admits room place c
aside_rests admits room place c mid new r (aside_behind tx has off under) = aside_behind tx has off (r.behind tx place under)
aside_rests admits room place c mid new r (aside_queued id has under full) = aside_queued id has (r.queues id.0 place under) full

-- ---- one is taken

module _ (before mid : AdmissionTables) (place : ℕ) (r : PendingCertificate) (t : TakesOut before mid place r) where
  gone : row_at mid.rows.items place ≡ None
  gone = ap (λ rows. row_at rows place) t.rows ∙ none_there before.rows.items place
    where
      none_there : (xs : List (Option PendingCertificate)) (i : ℕ) → row_at (slice_set xs i None) i ≡ None
      none_there [] zero = refl
      none_there [] (suc i) = refl
      none_there (x ∷ xs) zero = refl
      none_there (x ∷ xs) (suc i) = none_there xs i

  others : (q : ℕ) → (q ≡ place) ⊎ (row_at mid.rows.items q ≡ row_at before.rows.items q)
  others q = by (set_at before.rows.items place q)
    where
      set_at : (xs : List (Option PendingCertificate)) (i k : ℕ) → (k ≡ i) ⊎ (row_at (slice_set xs i None) k ≡ row_at xs k)
      set_at [] i k = inr refl
      set_at (x ∷ xs) zero zero = inl refl
      set_at (x ∷ xs) zero (suc k) = inr refl
      set_at (x ∷ xs) (suc i) zero = inr refl
      set_at (x ∷ xs) (suc i) (suc k) = next (set_at xs i k)
        where
          next : (k ≡ i) ⊎ (row_at (slice_set xs i None) k ≡ row_at xs k) → (suc k ≡ suc i) ⊎ (row_at (slice_set xs i None) k ≡ row_at xs k)
          next (inl is) = inl (ap suc is)
          next (inr same) = inr same

      by : (q ≡ place) ⊎ (row_at (slice_set before.rows.items place None) q ≡ row_at before.rows.items q) → (q ≡ place) ⊎ (row_at mid.rows.items q ≡ row_at before.rows.items q)
      by (inl is) = inl is
      by (inr same) = inr (ap (λ rows. row_at rows q) t.rows ∙ same)

  pub same_room : (id : ObjectId) → room_in mid id ≡ room_in before id
  same_room id =
      ap (λ (w : Option ℕ). has_room w (admission_of mid) id) t.writers
      ∙ go before.writers
    where
      go : (w : Option ℕ) → has_room w (admission_of mid) id ≡ has_room w (admission_of before) id
      go None = refl
      go (Some n) =
          ap (λ (es : List (Digest × AdmittedCertificate)). nat_lt (count_by (writes id) (drop mid.marked (map admitted_as es))) n) (ap (λ m. m.entries) t.admitted)
          ∙ ap (λ k. nat_lt (count_by (writes id) (drop k (map admitted_as before.admitted.entries))) n) t.marked

  pub same_admits : (tx : Digest) → admits_in mid tx ≡ admits_in before tx
  same_admits tx = ap (λ (es : List (Digest × AdmittedCertificate)). is_admitted (map admitted_as es) tx) (ap (λ m. m.entries) t.admitted)

  abbrev due : ObjectId → Bool
  due = or_one_of (mutable_ids r.held.cert) none_open

  -- its place rests, and whatever stood after it may be free
  pub taken_out : (old mid_w new : PendingIndex) → Rests old mid_w place → Frees mid_w new r.held.digest → IsFiledIn before old → IsFiled mid.rows.items new (admits_also (admits_in mid) r.held.digest) (room_in mid) due
  taken_out old mid_w new rests frees filed = record { at = λ whole q x here. at whole q x here (others q) }
    where
      writes_now : (p : ℕ) (id : ObjectId) → writes_at before.rows.items p id ≡ true → (due id ≡ true) ⊎ (writes_at mid.rows.items p id ≡ true)
      writes_now p id writes = by (others p)
        where
          by : (p ≡ place) ⊎ (row_at mid.rows.items p ≡ row_at before.rows.items p) → (due id ≡ true) ⊎ (writes_at mid.rows.items p id ≡ true)
          by (inl is) = inl (written_is (mutable_ids r.held.cert) id ∙ sym (ap (λ o. writes_row o id) (ap (row_at before.rows.items) is ∙ t.row)) ∙ writes)
          by (inr same) = inr (ap (λ o. writes_row o id) same ∙ writes)

      awake_now : (p : ℕ) → is_awake old p ≡ true → (p ≡ place) ⊎ (is_awake new p ≡ true)
      awake_now p awake = by (rests.awake p awake)
        where
          by : (p ≡ place) ⊎ (is_awake mid_w p ≡ true) → (p ≡ place) ⊎ (is_awake new p ≡ true)
          by (inl is) = inl is
          by (inr still) = inr (frees.awake p still)

      turn_of : (id : ObjectId) (q : ℕ) → Turn before.rows.items old (room_in before) none_open id q → Turn mid.rows.items new (room_in mid) due id q
      turn_of id q (is_full full) = is_full (same_room id ∙ full)
      turn_of id q (is_open e) = absurd (clash (sym e))
      turn_of id q (has_turn p awake before_ writes) = by (awake_now p awake) (writes_now p id writes)
        where
          by : (p ≡ place) ⊎ (is_awake new p ≡ true) → (due id ≡ true) ⊎ (writes_at mid.rows.items p id ≡ true) → Turn mid.rows.items new (room_in mid) due id q
          by a (inl d) = is_open d
          by (inl is) (inr w) = absurd (clash (sym w ∙ ap (λ o. writes_row o id) (ap (row_at mid.rows.items) is ∙ gone)))
          by (inr a) (inr w) = has_turn p a before_ w

      behind : new.whole ≡ true → (q : ℕ) (x : PendingCertificate) (tx : Digest) → Has x.held.cert.origins (Some tx) → admits_in before tx ≡ false → is_under old.behind.entries tx q ≡ true
          → (b : Bool) → digest_eq r.held.digest tx ≡ b → Reason mid.rows.items new (admits_also (admits_in mid) r.held.digest) (room_in mid) due q x.held.cert
      behind whole q x tx has off under true same =
          may_be_free (frees.freed whole q (subst (λ (d : Digest). is_under mid_w.behind.entries d q ≡ true) (sym (digest_same r.held.digest tx same)) (rests.behind tx q under)))
      behind whole q x tx has off under false apart =
          stands_behind tx has (ap (λ b. b || digest_eq r.held.digest tx) (same_admits tx ∙ off) ∙ apart) (frees.others tx q apart (rests.behind tx q under))

      go : new.whole ≡ true → (q : ℕ) (x : PendingCertificate) → (q ≡ place → ⊥) → Reason before.rows.items old (admits_in before) (room_in before) none_open q x.held.cert
          → Reason mid.rows.items new (admits_also (admits_in mid) r.held.digest) (room_in mid) due q x.held.cert
      go whole q x away (may_be_free awake) = by (awake_now q awake)
        where
          by : (q ≡ place) ⊎ (is_awake new q ≡ true) → Reason mid.rows.items new (admits_also (admits_in mid) r.held.digest) (room_in mid) due q x.held.cert
          by (inl is) = absurd (away is)
          by (inr still) = may_be_free still
      go whole q x away (stands_behind tx has off under) = behind whole q x tx has off under (digest_eq r.held.digest tx) refl
      go whole q x away (is_queued id named under turn) = is_queued id named (frees.queues id.0 q (rests.queues id.0 q under)) (turn_of id q turn)

      at : new.whole ≡ true → (q : ℕ) (x : PendingCertificate) → row_at mid.rows.items q ≡ Some x → (q ≡ place) ⊎ (row_at mid.rows.items q ≡ row_at before.rows.items q)
          → Reason mid.rows.items new (admits_also (admits_in mid) r.held.digest) (room_in mid) due q x.held.cert
      at whole q x here (inl is) = absurd (no (sym gone ∙ ap (row_at mid.rows.items) (sym is) ∙ here))
        where
          no : None ≡ Some x → ⊥
          no f = cc
      at whole q x here (inr same) = go whole q x away (filed.at (rests.whole (frees.whole whole)) q x (sym same ∙ here))
        where
          no : None ≡ Some x → ⊥
          no f = cc

          away : q ≡ place → ⊥
          away is = absurd (no (sym gone ∙ ap (row_at mid.rows.items) (sym is) ∙ here))

-- then the queues of what it writes are opened
pub released : (before mid : AdmissionTables) (place : ℕ) (r : PendingCertificate) (h : Held) → h ≡ r.held → TakesOut before mid place r → (old w1 w2 new : PendingIndex) (tx : Digest) (ids : List ObjectId) → tx ≡ h.digest → ids ≡ mutable_ids h.cert → Rests old w1 place → Frees w1 w2 tx
    → Opens mid.rows.items (room_in mid) w2 new ids [] → IsFiledIn before old → IsFiled mid.rows.items new (admits_also (admits_in mid) h.digest) (room_in mid) none_open
released before mid place r h same t old w1 w2 new tx ids digest written rests frees opens filed =
    subst (λ (x : Held). IsFiled mid.rows.items new (admits_also (admits_in mid) x.digest) (room_in mid) none_open) (sym same)
    ((subst (λ (js : List ObjectId). Opens mid.rows.items (room_in mid) w2 new js []) (written ∙ ap (λ (x : Held). mutable_ids x.cert) same) opens).at (admits_also (admits_in mid) r.held.digest) none_open
    (taken_out before mid place r t old w1 w2 rests (subst (λ (d : Digest). Frees w1 w2 d) (digest ∙ ap (λ (x : Held). x.digest) same) frees) filed))

-- ---- admitted transactions that are cut

pub opens_next : (rows : List (Option PendingCertificate)) (room : ObjectId → Bool) (a b c : PendingIndex) (entries all : List (Digest × AdmittedCertificate)) (i : ℕ) → i < length entries → OpensFound rows room b c (slice_get entries i) → OpensSince rows room a b all (drop i entries)
    → OpensSince rows room a c all (drop (i + 1) entries)
opens_next rows room a b c entries all i within found done = go (slice_get entries i) refl found
  where
    go : (o : Option (Digest × AdmittedCertificate)) → slice_get entries i ≡ o → OpensFound rows room b c o → OpensSince rows room a c all (drop (i + 1) entries)
    go None e f = absurd (some_at entries i within e)
    go (Some e) at f =
        subst (λ k. OpensSince rows room a c all (drop k entries)) (sym (add-one i))
        (record {
          at = λ admits filed.
              f.at admits (wrote_one (drop (suc i) entries))
              (filed_due rows admits room (wrote_one (e ∷ drop (suc i) entries)) (or_one_of (mutable_ids e.1.cert) (wrote_one (drop (suc i) entries))) b (λ id w. inl w)
              (subst (λ (es : List (Digest × AdmittedCertificate)). IsFiled rows b admits room (wrote_one es)) (next_at entries i e at) (done.at admits filed)));
        })
