-- All that a run of fitting lines makes, forms and orders can be encoded.
use Rattle.std.proofs.Common.{refl, ap, sym, subst, arith, ◌∙◌}
use Rattle.std.proofs.lemmas.Bool.{eqb-true}
use Rattle.std.proofs.lemmas.List.{length-map}
use Rattle.std.proofs.lemmas.List.Elements.{All-from_recursion}
use Rattle.std.specs.Prelude.{◌≡◌, ℕ, ◌+◌, ◌≤◌, zero, suc, min, Bool, true, false, cond, ◌&&◌, ◌==◌, List, [], ◌∷◌, ◌++◌, map, length, slice_get, Option, Some, None, option_map, bytes_eq, option_and_then}
use Rattle.std.specs.List.{AllByRecursion, enumerate_from}
use Rattle.wire_bcs.specs.Digests.{digest}
use Rattle.digest_core.specs.declared.Digest.{Digest}
use Rattle.quorum_core.specs.declared.signer.Signer.{Signer}
use Rattle.quorum_core.specs.declared.signer.Signer.TheVariants as signers
use Rattle.chain_types.specs.Equal.{digest_eq}
use Rattle.chain_types.specs.Digests.{is_object}
use Rattle.chain_types.specs.Transactions.{signed}
use Rattle.chain_types.specs.Transactions as transactions
use Rattle.chain_types.specs.declared.transactions.Input.{Input}
use Rattle.chain_types.specs.declared.transactions.Transaction.{Transaction}
use Rattle.chain_messages.specs.Messages.{statement as statement_codec, sealed, member_seal, certificate, entry as entry_codec}
use Rattle.chain_messages.specs.declared.messages.Statement.{Statement}
use Rattle.chain_messages.specs.declared.messages.Statement.TheVariants as statement
use Rattle.chain_messages.specs.declared.messages.Certificate.{Certificate}
use Rattle.chain_messages.specs.declared.messages.Entry.{Entry}
use Rattle.chain_messages.specs.declared.messages.Entry.TheVariants as entry
use Rattle.journal_core.specs.declared.records.Record.{Record}
use Rattle.schedule_text.specs.declared.words.Event.{Event}
use Rattle.schedule_text.specs.declared.words.Event.TheVariants as event
use Rattle.protocol_spec.proofs.ListLemmas.{each_at, each_has, find_has, each_join}
use Rattle.protocol_spec.specs.Chain.Collecting.{Collected, lacks, short, differ, whole}
use Rattle.protocol_spec.specs.Chain.Words.{Each, first_some, first_of, where_true, last_where}
use Rattle.protocol_spec.specs.Chain.Keys.{objects_of}
use Rattle.protocol_spec.specs.Member.Member.{Member, state}
use Rattle.protocol_spec.specs.Member.Calls.{Call, acks, due}
use Rattle.world_spec.specs.Setting.{Name, Setting, member_seal as statement_seal, sender_seal}
use Rattle.world_spec.specs.World.{Seat, Said, Made, Formed, World, Reached, finds_down, stops, answers, new_world, by_records, member_in, reached_up, reached_seat, behind, called_seat, called_in, called_if, sees_on, stated, is_honest, member_at, next_call, entries_at, list_or_none, called_over, armed_seat, started_seat, sealed_by, kept_seal}
use Rattle.world_spec.specs.Names.{made_named, cert_named, cert_in}
use Rattle.world_spec.specs.Making.{made_by_line, made_as, transaction_of, spoiled_if, TxLine, made_over, digest_or_zero}
use Rattle.world_spec.specs.Moves.{Move, looks_on, makes_tx, requests, delivers, claims, certifies, submits, submits_end, arms_stop, starts_again, claims_vote, claims_ack, cert_submitted, mark_submitted, move_of, requested}
use Rattle.world_spec.specs.Step.{happens, says, vote_in, end_in, last_said, moved, origin_word, no_origins, origins_or, honest_vote, fvote_origins, fvoted, first_origins, certificate_of, votes_collected, formed_as, formed, open_entries, ordered, sealed_end, appended_entry, has_ended, risen_if, ordered_end, honest_end, end_ordered, on_seat, entries_left, false_ack, acked, happens_over, collected_seal, last_seal, last_read, seal_in, the_seal}
use Rattle.world_spec.specs.Run.{run, world_after}
use Rattle.run_law.specs.Sayable.{IsMember, IsEvent}
use Rattle.safety_law.proofs.InWorld.{each-set, kept-called, new-seats}
use Rattle.safety_law.proofs.Steps.{last-said, last-has, last-read}
use Rattle.run_law.proofs.Members.{IsDigest, IsOrigin, AreOrigins, IsFitStatement, IsFitMember, digest-of, filter-short, stated-fit, fit-step, fit-none}
use Rattle.run_law.proofs.Texts.{most_words, IsShortEvent}
use Rattle.run_law.proofs.Fits.{IsFitMade, AreThings, IsFitLine, spoiled-digest, named-digest, few-made, transaction-fits, signed-fits, origins-fit}

-- an event that a text can say, of at most this many words
abbrev pub IsFitEvent : Event → Type 0
IsFitEvent e = IsEvent e × IsShortEvent most_words e

-- what is known of a move of such an event
abbrev IsFitMove : Move → Type 0
IsFitMove (makes_tx l) = IsFitLine l
IsFitMove (claims m tx (claims_vote origins)) = length origins ≤ most_words
IsFitMove (certifies tx members) = AllByRecursion IsMember members × (length members ≤ most_words)
IsFitMove (submits_end m) = IsMember m
IsFitMove mv = Unit {0}

fit-move : (e : Event) → IsFitEvent e → IsFitMove (move_of e)
fit-move (event.Tx name sender spoiled epoch gas budget inputs commands) is = record {
  epoch = is.0.2;
  gas = is.0.3;
  budget = is.0.4;
  inputs = is.0.5;
  commands = is.0.6;
  few_inputs = is.1.0;
  short_inputs = is.1.1;
  few_commands = is.1.2;
  short_commands = is.1.3;
}
fit-move (event.Fvote m tx origins) is = is.1
fit-move (event.Cert tx members) is = (is.0.2, is.1)
fit-move (event.OrderEnd m) is = is.0
fit-move e is = tt

abbrev pub AreSeals : (Signer → List ℕ → Digest) → Type 0
AreSeals seal = (signer : Signer) (bytes : List ℕ) → IsDigest (seal signer bytes)

-- a statement, and a kept seal, that can be encoded
abbrev pub IsFitSaid : Said → Type 0
IsFitSaid x = IsFitStatement x.statement × IsOrigin x.seal

-- what a world has can be encoded, after this many lines
pub record IsFit (s : Setting) (lines : ℕ) (w : World) : Type 0 where
  pub txs : Each IsFitMade w.txs
  pub said : Each IsFitSaid w.said
  pub certs : Each (λ (f : Formed). certificate.fits f.cert) w.certs
  pub entries : Each (λ (es : List Entry). Each entry_codec.fits es) w.sequences
  pub seats : Each (λ (seat : Seat). IsFitMember (state s.rules s.opening seat.records)) w.seats
  pub epoch : w.epoch ≤ lines

-- no origin for an input
abbrev none_at : Input → Option Digest
none_at i = None

module _ (s : Setting) (seals : AreSeals s.seal) (things : AreThings s.things) where
  kept-fit : (m : ℕ) (st : Statement) → IsOrigin (kept_seal st (statement_seal s m st))
  kept-fit m (statement.Vote epoch tx origins) = seals (signers.Member m) (statement_codec.spell (statement.Vote epoch tx origins))
  kept-fit m (statement.End epoch) = tt
  kept-fit m (statement.Checkpoint epoch number sum) = tt
  kept-fit m (statement.Ack epoch tx effects) = tt

  each-said : (m : ℕ) (sts : List Statement) → Each IsFitStatement sts → Each IsFitSaid (map (sealed_by s.seal m) sts)
  each-said m [] each = tt
  each-said m (st ∷ sts) each = ((each.0, kept-fit m st), each-said m sts each.1)

  abbrev Seats : World → Type 0
  Seats w = Each (λ (seat : Seat). IsFitMember (state s.rules s.opening seat.records)) w.seats

  weaker : (n : ℕ) (w : World) → IsFit s n w → IsFit s (suc n) w
  weaker n w f = let le = f.epoch in record { txs = f.txs; said = f.said; certs = f.certs; entries = f.entries; seats = f.seats; epoch = omega (arith, le) }

  -- ---- calls

  answers-as : (seat : Seat) (call : Call) (m : Member) (x : Option Record) → reached_seat s call seat ≡ answers m x → member_in s seat ≡ m
  answers-as seat call m x e = go seat.up seat.armed (due s.rules (member_in s seat) call) e
    where
      same : (n : Member) (y : Option Record) → answers n y ≡ answers m x → n ≡ m
      same n y e = cc

      go : (up : Bool) (armed : Option Bool) (y : Option Record) → cond up (reached_up (member_in s seat) armed y) finds_down ≡ answers m x → member_in s seat ≡ m
      go false armed y e = absurd (cc)
      go true None y e = same (member_in s seat) y e
      go true (Some k) None e = same (member_in s seat) None e
      go true (Some k) (Some z) e = absurd (cc)

  behind-fit : (n : ℕ) (w : World) (m : ℕ) (call : Call) (seat : Seat) (r : Reached) → reached_seat s call seat ≡ r → IsFitMember (member_in s seat) → IsFit s n w → Seats (behind s w m call seat r) → IsFit s n (behind s w m call seat r)
  behind-fit n w m call seat finds_down e fit f seats = f
  behind-fit n w m call seat (stops kept x) e fit f seats = record { txs = f.txs; said = f.said; certs = f.certs; entries = f.entries; seats = seats; epoch = f.epoch }
  behind-fit n w m call seat (answers before x) e fit f seats = record {
    txs = f.txs;
    said = each_join IsFitSaid w.said (map (sealed_by s.seal m) (stated s.rules before call)) f.said
        (each-said m (stated s.rules before call) (stated-fit s.rules before call (subst IsFitMember (answers-as seat call before x e) fit)));
    certs = f.certs;
    entries = f.entries;
    seats = seats;
    epoch = f.epoch;
  }

  seat-fit : (n : ℕ) (w : World) (m : ℕ) (call : Call) (seat : Option Seat) → slice_get w.seats m ≡ seat → IsFit s n w → Seats (called_seat s w m call seat) → IsFit s n (called_seat s w m call seat)
  seat-fit n w m call None e f seats = f
  seat-fit n w m call (Some seat) e f seats =
      behind-fit n w m call seat (reached_seat s call seat) refl (each_at (λ (y : Seat). IsFitMember (state s.rules s.opening y.records)) w.seats m seat f.seats e) f seats

  call-fit : (n : ℕ) (w : World) (m : ℕ) (call : Call) → IsFit s n w → IsFit s n (called_in s w m call)
  unfolding called_over
  call-fit n w m call f =
      seat-fit n w m call (slice_get w.seats m) refl f
      (kept-called s (λ _. Unit {0}) (λ records. IsFitMember (state s.rules s.opening records)) (fit-step s.rules s.opening) w m call tt f.seats)

  call-if-fit : (n : ℕ) (w : World) (m : ℕ) (call : Option Call) → IsFit s n w → IsFit s n (called_if s w m call)
  call-if-fit n w m None f = f
  call-if-fit n w m (Some call) f = call-fit n w m call f

  sees-fit : (n count : ℕ) (w : World) (m : ℕ) → IsFit s n w → IsFit s n (sees_on s count w m)
  sees-fit n zero w m f = f
  sees-fit n (suc count) w m f = sees-fit n count (called_if s w m (next_call s w m)) m (call-if-fit n w m (next_call s w m) f)

  -- ---- statements

  says-fit : (n : ℕ) (w : World) (m : ℕ) (st : Statement) → IsFitStatement st → IsFit s n w → IsFit s n (says s.seal w m st)
  says-fit n w m st is f = record {
    txs = f.txs;
    said = each_join IsFitSaid w.said (sealed_by s.seal m st ∷ []) f.said ((is, kept-fit m st), tt);
    certs = f.certs;
    entries = f.entries;
    seats = f.seats;
    epoch = f.epoch;
  }

  if-fit : (n : ℕ) (b : Bool) (v w : World) → IsFit s n v → IsFit s n w → IsFit s n (cond b v w)
  if-fit n true v w one other = one
  if-fit n false v w one other = other

  -- what a member stated last of a transaction
  voted-origins : (epoch : ℕ) (tx : Digest) (st : Statement) (os : List (Option Digest)) → vote_in epoch tx st ≡ Some os → IsFitStatement st → AreOrigins os
  voted-origins epoch tx (statement.Vote n t origins) os e is = go ((n == epoch) && digest_eq t tx) e
    where
      go : (b : Bool) → where_true b origins ≡ Some os → AreOrigins os
      go true e = subst AreOrigins (same e) is
        where
          same : Some origins ≡ Some os → origins ≡ os
          same e = cc
      go false e = absurd (cc)
  voted-origins epoch tx (statement.End n) os e is = absurd (cc)
  voted-origins epoch tx (statement.Checkpoint n number digest) os e is = absurd (cc)
  voted-origins epoch tx (statement.Ack n t effects) os e is = absurd (cc)

  last-origins : (said : List Said) (epoch : ℕ) (tx : Digest) (m : ℕ) (os : List (Option Digest)) → Each IsFitSaid said → last_said (vote_in epoch tx) m said ≡ Some os → AreOrigins os
  last-origins said epoch tx m os each e =
      let last = last-said (vote_in epoch tx) m said os e in
      voted-origins epoch tx last.0 os last.3 (each_has IsFitSaid said (record { member = m; statement = last.0; seal = last.1 }) each last.2).0

  -- ---- fvote

  none-origins : (is : List Input) → Each IsOrigin (map none_at is) × (length (map none_at is) ≡ length is)
  none-origins [] = (tt, refl)
  none-origins (i ∷ is) = let rest = none-origins is in let same = rest.1 in ((tt, rest.0), omega (arith, same))

  no-origins : (t : Transaction) → length t.inputs ≤ most_words → AreOrigins (no_origins t)
  no-origins t few =
      let all = none-origins (objects_of t) in
      let same = all.1 in
      let less = filter-short is_object t.inputs in
      (omega (arith, same, less, few), all.0)

  word-origins : (w : World) (words : List (Option Name)) → Each IsFitMade w.txs → Each IsOrigin (map (origin_word w) words) × (length (map (origin_word w) words) ≡ length words)
  word-origins w [] txs = (tt, refl)
  word-origins w (None ∷ words) txs = let rest = word-origins w words txs in let same = rest.1 in ((tt, rest.0), omega (arith, same))
  word-origins w (Some name ∷ words) txs = let rest = word-origins w words txs in let same = rest.1 in ((named-digest w name txs, rest.0), omega (arith, same))

  first-found : {A B : Type 0} (P : B → Type 0) (tells : A → Option B) (xs : List A) (y : B) → ((x : A) (z : B) → tells x ≡ Some z → P z) → first_of tells xs ≡ Some y → P y
  first-found P tells [] y each e = absurd (cc)
  first-found {A} {B} P tells (x ∷ xs) y each e = go (tells x) refl (first_of tells xs) refl e (first-found P tells xs y each)
    where
      same : (z : B) → Some z ≡ Some y → z ≡ y
      same z e = cc

      go : (o : Option B) → tells x ≡ o → (rest : Option B) → first_of tells xs ≡ rest → first_some (o ∷ rest ∷ []) ≡ Some y → (first_of tells xs ≡ Some y → P y) → P y
      go (Some z) q rest r e more = subst P (same z e) (each x z q)
      go None q (Some z) r e more = more (r ∙ ap (λ (b : B). Some b) (same z e))
      go None q None r e more = absurd (cc)

  honest-origins : (w : World) (t : Made) (x : ℕ × Seat) (os : List (Option Digest)) → Each IsFitSaid w.said → honest_vote w t x ≡ Some os → AreOrigins os
  honest-origins w t x os each e = go x.1.honest e
    where
      go : (b : Bool) → cond b (last_said (vote_in t.signed.tx.epoch t.digest) x.0 w.said) None ≡ Some os → AreOrigins os
      go true e = last-origins w.said t.signed.tx.epoch t.digest x.0 os each e
      go false e = absurd (cc)

  or-origins : (none : List (Option Digest)) (o : Option (List (Option Digest))) → AreOrigins none → ((os : List (Option Digest)) → o ≡ Some os → AreOrigins os) → AreOrigins (origins_or none o)
  or-origins none None are some = are
  or-origins none (Some os) are some = some os refl

  fvote-origins : (w : World) (t : Made) (words : List (Option Name)) → length words ≤ most_words → IsFitMade t → Each IsFitMade w.txs → Each IsFitSaid w.said → AreOrigins (fvote_origins w t words)
  fvote-origins w t [] few made txs said =
      or-origins (no_origins t.signed.tx) (first_of (honest_vote w t) (enumerate_from 0 w.seats)) (no-origins t.signed.tx made.2)
      (λ os e. first-found AreOrigins (honest_vote w t) (enumerate_from 0 w.seats) os (λ x ps q. honest-origins w t x ps said q) e)
  fvote-origins w t (word ∷ words) few made txs said = let all = word-origins w (word ∷ words) txs in let same = all.1 in (omega (arith, same, few), all.0)

  fvoted-fit : (n : ℕ) (w : World) (m : ℕ) (words : List (Option Name)) (t : Option Made) → length words ≤ most_words → ((x : Made) → t ≡ Some x → IsFitMade x) → IsFit s n w → IsFit s n (fvoted s w m words t)
  fvoted-fit n w m words None few made f = f
  fvoted-fit n w m words (Some t) few made f =
      if-fit n (is_honest w m) w (says s.seal w m (statement.Vote t.signed.tx.epoch t.digest (fvote_origins w t words))) f
      (says-fit n w m (statement.Vote t.signed.tx.epoch t.digest (fvote_origins w t words)) (fvote-origins w t words few (made t refl) f.txs f.said) f)

  -- ---- cert

  list-origins : (o : Option (List (Option Digest))) → ((os : List (Option Digest)) → o ≡ Some os → AreOrigins os) → AreOrigins (list_or_none o)
  list-origins None some = (omega arith, tt)
  list-origins (Some os) some = some os refl

  first-origins : (w : World) (t : Made) (ms : List ℕ) → Each IsFitSaid w.said → AreOrigins (first_origins w t ms)
  first-origins w t [] said = (omega arith, tt)
  first-origins w t (m ∷ ms) said = list-origins (last_said (vote_in t.signed.tx.epoch t.digest) m w.said) (λ os e. last-origins w.said t.signed.tx.epoch t.digest m os said e)

  -- a collected seal is a digest
  kept-digest : (x : Said) (vote : Option (List (Option Digest))) (seal : Option Digest) → option_map (λ _. x.seal) vote ≡ Some seal → IsFitSaid x → IsDigest (digest_or_zero seal)
  kept-digest x None seal e is = absurd (cc)
  kept-digest x (Some origins) None e is = refl
  kept-digest x (Some origins) (Some d) e is = subst IsOrigin (same e) is.1
    where
      same : Some x.seal ≡ Some (let o : Option Digest = Some d in o) → x.seal ≡ Some d
      same e = cc

  last-digest : (said : List Said) (epoch : ℕ) (tx : Digest) (m : ℕ) → Each IsFitSaid said → IsDigest (digest_or_zero (last_seal epoch tx m said))
  last-digest said epoch tx m each = by (last_read (seal_in epoch tx) m said) refl
    where
      by : (o : Option (Option Digest)) → last_read (seal_in epoch tx) m said ≡ o → IsDigest (digest_or_zero (option_and_then the_seal o))
      by None e = refl
      by (Some seal) e =
          let last = last-read (seal_in epoch tx) m said seal e in
          kept-digest last.0 (vote_in epoch tx last.0.statement) seal last.3 (each_has IsFitSaid said last.0 each last.1)

  seals-fit : (said : List Said) (t : Made) (ms : List ℕ) → Each IsFitSaid said → AllByRecursion IsMember ms → AllByRecursion member_seal.fits (map (collected_seal said t) ms)
  unfolding member_seal digest
  seals-fit said t [] each is = tt
  seals-fit said t (m ∷ ms) each is = ((is.0, last-digest said t.signed.tx.epoch t.digest m each), seals-fit said t ms each is.1)

  certificate-fits : (said : List Said) (t : Made) (os : List (Option Digest)) (ms : List ℕ) → Each IsFitSaid said → IsFitMade t → AreOrigins os → AllByRecursion IsMember ms → length ms ≤ most_words → certificate.fits (certificate_of said t os ms)
  unfolding certificate signed
  certificate-fits said t os ms each made are is few =
      let same = length-map ms (collected_seal said t) in
      (made.0.0, (origins-fit os are, (omega (arith, same, few), All-from_recursion member_seal.fits (map (collected_seal said t) ms) (seals-fit said t ms each is))))

  formed-as-fit : (n : ℕ) (w : World) (t : Made) (ms : List ℕ) (c : Collected) → IsFitMade t → AllByRecursion IsMember ms → length ms ≤ most_words → IsFit s n w → IsFit s n (formed_as w t ms c)
  formed-as-fit n w t ms (lacks m) made is few f = f
  formed-as-fit n w t ms (short weight total) made is few f = f
  formed-as-fit n w t ms (differ a b) made is few f = f
  formed-as-fit n w t ms whole made is few f = record {
    txs = f.txs;
    said = f.said;
    certs = each_join (λ (x : Formed). certificate.fits x.cert) w.certs (record { name = t.name; cert = certificate_of w.said t (first_origins w t ms) ms } ∷ []) f.certs
        (certificate-fits w.said t (first_origins w t ms) ms f.said made (first-origins w t ms f.said) is few, tt);
    entries = f.entries;
    seats = f.seats;
    epoch = f.epoch;
  }

  formed-fit : (n : ℕ) (w : World) (ms : List ℕ) (t : Option Made) → ((x : Made) → t ≡ Some x → IsFitMade x) → AllByRecursion IsMember ms → length ms ≤ most_words → IsFit s n w → IsFit s n (formed s w ms t)
  formed-fit n w ms None made is few f = f
  formed-fit n w ms (Some t) made is few f = formed-as-fit n w t ms (votes_collected s w t ms) (made t refl) is few f

  -- ---- entries

  at-fit : (qs : List (List Entry)) (n : ℕ) → Each (λ (es : List Entry). Each entry_codec.fits es) qs → Each entry_codec.fits (entries_at qs n)
  at-fit qs n each = go (slice_get qs n) refl
    where
      go : (o : Option (List Entry)) → slice_get qs n ≡ o → Each entry_codec.fits (list_or_none o)
      go None e = tt
      go (Some es) e = each_at (λ (x : List Entry). Each entry_codec.fits x) qs n es each e

  enter-fit : (n : ℕ) (w : World) (e : Entry) → entry_codec.fits e → IsFit s n w → IsFit s n (appended_entry w e)
  enter-fit n w e is f = record {
    txs = f.txs;
    said = f.said;
    certs = f.certs;
    entries = each-set (λ (es : List Entry). Each entry_codec.fits es) w.sequences w.epoch (open_entries w ++ e ∷ []) f.entries
        (each_join entry_codec.fits (open_entries w) (e ∷ []) (at-fit w.sequences w.epoch f.entries) (is, tt));
    seats = f.seats;
    epoch = f.epoch;
  }

  certificate-entry : (c : Certificate) → certificate.fits c → entry_codec.fits (entry.Cert c)
  unfolding entry_codec
  certificate-entry c fits = fits

  commit-entry : entry_codec.fits entry.Commit
  unfolding entry_codec
  commit-entry = tt

  end-entry : (m epoch : ℕ) → IsMember m → epoch ≤ most_words → entry_codec.fits (sealed_end s m epoch)
  unfolding entry_codec sealed statement_codec digest
  end-entry m epoch is le = (is, (omega (arith, le), seals (signers.Member m) (statement_codec.spell (statement.End epoch))))

  ordered-fit : (n : ℕ) (w : World) (c : Option Certificate) → ((x : Certificate) → c ≡ Some x → certificate.fits x) → IsFit s n w → IsFit s n (ordered w c)
  ordered-fit n w None fits f = f
  ordered-fit n w (Some c) fits f = if-fit n (c.tx.epoch == w.epoch) (appended_entry w (entry.Cert c)) w (enter-fit n w (entry.Cert c) (certificate-entry c (fits c refl)) f) f

  risen-fit : (n : ℕ) (b : Bool) (w : World) → IsFit s n w → IsFit s (suc n) (risen_if b w)
  risen-fit n true w f =
      let le = f.epoch in
      record {
        txs = f.txs;
        said = f.said;
        certs = f.certs;
        entries = each_join (λ (es : List Entry). Each entry_codec.fits es) w.sequences ([] ∷ []) f.entries (tt, tt);
        seats = f.seats;
        epoch = omega (arith, le);
      }
  risen-fit n false w f = weaker n w f

  end-fit : (n : ℕ) (w : World) (m epoch : ℕ) → IsMember m → epoch ≤ most_words → IsFit s n w → IsFit s (suc n) (ordered_end s w m epoch)
  end-fit n w m epoch is le f =
      risen-fit n (has_ended s (appended_entry w (sealed_end s m epoch))) (appended_entry w (sealed_end s m epoch)) (enter-fit n w (sealed_end s m epoch) (end-entry m epoch is le) f)

  honest-end-fit : (n : ℕ) (w : World) (m : ℕ) (epoch : Option ℕ) → IsMember m → n ≤ most_words → IsFit s n w → IsFit s (suc n) (honest_end s w m epoch)
  honest-end-fit n w m None is few f = weaker n w f
  honest-end-fit n w m (Some epoch) is few f = go (epoch == w.epoch) refl
    where
      go : (b : Bool) → (epoch == w.epoch) ≡ b → IsFit s (suc n) (cond b (ordered_end s w m epoch) w)
      go true e = let same = eqb-true epoch w.epoch e in let le = f.epoch in end-fit n w m epoch is (omega (arith, same, le, few)) f
      go false e = weaker n w f

  end-ordered-fit : (n : ℕ) (w : World) (m : ℕ) → IsMember m → n ≤ most_words → IsFit s n w → IsFit s (suc n) (end_ordered s w m)
  end-ordered-fit n w m is few f =
      let le = f.epoch in
      if-fit (suc n) (is_honest w m) (honest_end s w m (last_said end_in m w.said)) (ordered_end s (says s.seal w m (statement.End w.epoch)) m w.epoch)
      (honest-end-fit n w m (last_said end_in m w.said) is few f)
      (end-fit n (says s.seal w m (statement.End w.epoch)) m w.epoch is (omega (arith, le, few)) (says-fit n w m (statement.End w.epoch) tt f))

  -- ---- the other lines

  make-fit : (n : ℕ) (w : World) (l : TxLine) → IsFitLine l → IsFit s n w → IsFit s n (made_by_line s w l)
  unfolding made_over
  make-fit n w l is f =
      let t = made_as s l.name l.spoiled (transaction_of s w l) in
      record {
        txs = each_join IsFitMade w.txs (t ∷ []) f.txs (made-fits w l is f.txs, tt);
        said = f.said;
        certs = f.certs;
        entries = f.entries;
        seats = f.seats;
        epoch = f.epoch;
      }
    where
      made-fits : (w : World) (l : TxLine) → IsFitLine l → Each IsFitMade w.txs → IsFitMade (made_as s l.name l.spoiled (transaction_of s w l))
      made-fits w l is txs =
          let tx = transaction_of s w l in
          (signed-fits tx (spoiled_if l.spoiled (sender_seal s tx)) (transaction-fits s w l things txs is) (spoiled-digest l.spoiled (sender_seal s tx) (seals (signers.User tx.sender.0) (transactions.transaction.spell tx))), digest-of tx, few-made s w l is)

  on-seat-fit : (n : ℕ) (w : World) (m : ℕ) (change : Seat → Seat) → ((seat : Seat) → (change seat).records ≡ seat.records) → (seat : Option Seat) → slice_get w.seats m ≡ seat → IsFit s n w → IsFit s n (on_seat w m change seat)
  on-seat-fit n w m change same None e f = f
  on-seat-fit n w m change same (Some seat) e f =
      let P : Seat → Type 0 = λ x. IsFitMember (state s.rules s.opening x.records) in
      record {
        txs = f.txs;
        said = f.said;
        certs = f.certs;
        entries = f.entries;
        seats = each-set P w.seats m (change seat) f.seats (subst (λ (rs : List Record). IsFitMember (state s.rules s.opening rs)) (sym (same seat)) (each_at P w.seats m seat f.seats e));
        epoch = f.epoch;
      }

  acked-fit : (n : ℕ) (w : World) (m : ℕ) (spoiled : Bool) (t : Option Made) → IsFit s n w → IsFit s n (acked s w m spoiled t)
  acked-fit n w m spoiled None f = f
  acked-fit n w m spoiled (Some t) f =
      if-fit n (is_honest w m) (called_in s w m (acks t.digest)) (says s.seal w m (false_ack s w t spoiled)) (call-fit n w m (acks t.digest) f) (says-fit n w m (false_ack s w t spoiled) tt f)

  made-named : (n : ℕ) (w : World) (name : Name) (x : Made) → IsFit s n w → made_named w name ≡ Some x → IsFitMade x
  made-named n w name x f e = each_has IsFitMade w.txs x f.txs (find_has (λ (t : Made). bytes_eq t.name name) w.txs x e)

  cert-named : (n : ℕ) (w : World) (name : Name) (x : Certificate) → IsFit s n w → cert_named w name ≡ Some x → certificate.fits x
  cert-named n w name x f e = go (last_where (λ (y : Formed). bytes_eq y.name name) w.certs) refl e
    where
      same : (y : Formed) → Some (cert_in y) ≡ Some x → y.cert ≡ x
      same y e = cc

      go : (o : Option Formed) → last_where (λ (y : Formed). bytes_eq y.name name) w.certs ≡ o → option_map cert_in o ≡ Some x → certificate.fits x
      go None q e = absurd (cc)
      go (Some y) q e = subst (λ (c : Certificate). certificate.fits c) (same y e) (each_has (λ (z : Formed). certificate.fits z.cert) w.certs y f.certs (last-has (λ (z : Formed). bytes_eq z.name name) w.certs y q))

  -- ---- each line, and all

  move-fit : (n : ℕ) (w : World) (mv : Move) → n ≤ most_words → IsFitMove mv → IsFit s n w → IsFit s (suc n) (moved (by_records s) s w mv)
  move-fit n w looks_on few is f = weaker n w f
  move-fit n w (makes_tx l) few is f = weaker n (made_by_line s w l) (make-fit n w l is f)
  move-fit n w (requests m ask) few is f = weaker n _ (call-if-fit n w m (requested w ask) f)
  move-fit n w (delivers m entries) few is f = weaker n _ (sees-fit n (min entries (entries_left w (member_at s w m))) w m f)
  move-fit n w (claims m tx (claims_vote origins)) few is f = weaker n _ (fvoted-fit n w m origins (made_named w tx) is (λ x e. made-named n w tx x f e) f)
  move-fit n w (claims m tx (claims_ack spoiled)) few is f = weaker n _ (acked-fit n w m spoiled (made_named w tx) f)
  move-fit n w (certifies tx members) few is f = weaker n _ (formed-fit n w members (made_named w tx) (λ x e. made-named n w tx x f e) is.0 is.1 f)
  move-fit n w (submits (cert_submitted tx)) few is f = weaker n _ (ordered-fit n w (cert_named w tx) (λ x e. cert-named n w tx x f e) f)
  move-fit n w (submits mark_submitted) few is f = weaker n _ (enter-fit n w entry.Commit commit-entry f)
  move-fit n w (submits_end m) few is f = end-ordered-fit n w m is few f
  move-fit n w (arms_stop m kept) few is f = weaker n _ (on-seat-fit n w m (armed_seat kept) (λ seat. refl) (slice_get w.seats m) refl f)
  move-fit n w (starts_again m) few is f = weaker n _ (on-seat-fit n w m started_seat (λ seat. refl) (slice_get w.seats m) refl f)

  line-fit : (n : ℕ) (w : World) (e : Event) → n ≤ most_words → IsFitEvent e → IsFit s n w → IsFit s (suc n) (happens s w e)
  unfolding happens_over
  line-fit n w e few is f = move-fit n w (move_of e) few (fit-move e is) f

  run-fit : (n : ℕ) (events : List Event) (w : World) → n + length events ≤ most_words → AllByRecursion IsFitEvent events → IsFit s n w → IsFit s (n + length events) (run s events w)
  run-fit n [] w few is f = let same : n ≡ n + 0 = omega arith in subst (λ (k : ℕ). IsFit s k w) same f
  run-fit n (e ∷ events) w few is f =
      let same : suc n + length events ≡ n + suc (length events) = omega arith in
      subst (λ (k : ℕ). IsFit s k (run s events (happens s w e))) same (run-fit (suc n) events (happens s w e) (omega (arith, few)) is.1 (line-fit n w e (omega (arith, few)) is.0 f))

  new-fit : IsFit s 0 (new_world s)
  unfolding new_world
  new-fit = record {
    txs = tt;
    said = tt;
    certs = tt;
    entries = (tt, tt);
    seats = new-seats s (λ _. Unit {0}) (λ records. IsFitMember (state s.rules s.opening records)) (fit-step s.rules s.opening) s.honest (fit-none s.rules s.opening);
    epoch = omega arith;
  }

  pub world-fit : (events : List Event) → length events ≤ most_words → AllByRecursion IsFitEvent events → IsFit s (0 + length events) (world_after s events)
  unfolding world_after
  world-fit events few is = run-fit 0 events (new_world s) (omega (arith, few)) is new-fit

  pub entries-fit : (n : ℕ) (w : World) (epoch : ℕ) → IsFit s n w → Each entry_codec.fits (entries_at w.sequences epoch)
  entries-fit n w epoch f = at-fit w.sequences epoch f.entries
