-- Each honest member whose End was counted stated that its epoch is to end.
use Rattle.std.proofs.Common.{inl, inr, refl, sym, subst, ◌∙◌}
use Rattle.std.proofs.lemmas.Bool.{eqb-true}
use Rattle.std.specs.Prelude.{◌≡◌, ◌⊎◌, ℕ, Bool, true, false, cond, not, nat_lt, ◌&&◌, ◌==◌, List, [], ◌∷◌, ◌++◌, flat_map, length, slice_get, Option, Some, None, Result, Ok, Err}
use Rattle.wire_bcs.specs.declared.fault.WireFault.{WireFault}
use Rattle.chain_types.specs.declared.objects.Object.{Object}
use Rattle.chain_messages.specs.declared.messages.Statement.{Statement}
use Rattle.chain_messages.specs.declared.messages.Statement.TheVariants as statement
use Rattle.chain_messages.specs.declared.messages.Sealed.{Sealed}
use Rattle.chain_messages.specs.declared.messages.Entry.{Entry}
use Rattle.chain_messages.specs.declared.messages.Entry.TheVariants as entry
use Rattle.journal_core.specs.declared.records.Record.{Record}
use Rattle.journal_core.specs.declared.records.Record.TheVariants as record_as
use Rattle.protocol_spec.specs.declared.answers.Ignore.{Ignore}
use Rattle.protocol_spec.specs.declared.answers.Ignore.TheVariants as ignore
use Rattle.schedule_text.specs.declared.words.Event.{Event}
use Rattle.chain_types.specs.Digests.{transaction_digest}
use Rattle.protocol_spec.specs.Chain.Words.{Has, Each, first_some, where_true}
use Rattle.protocol_spec.specs.Chain.Committee.{is_among}
use Rattle.protocol_spec.specs.Chain.Certificates.{Rules, accepts_statement, read_entry}
use Rattle.protocol_spec.proofs.ListLemmas.{and-second, has_parts, each_has, has_left, has_right, each_join}
use Rattle.protocol_spec.specs.Member.Sequence.{Sequence, What, takes, commits, counts, ignores, ignored_or, certificate_cases, held_as, what_stated, what_read, what_of, counted_as, ends_with_member, with_what, with_entry, saw}
use Rattle.protocol_spec.specs.Member.Member.{Member, after, state}
use Rattle.protocol_spec.specs.Member.Calls.{Call, votes, holds, sees, runs, closes, ends, turns, acks, due}
use Rattle.world_spec.specs.Setting.{Setting}
use Rattle.world_spec.specs.World.{Seat, World, new_world, member_in, is_honest}
use Rattle.world_spec.specs.Step.{happens}
use Rattle.world_spec.specs.Run.{run, world_after}
use Rattle.world_spec.specs.Assumptions.{calls_of, read_list, entry_ends, ends_read, delivered_ends, all_of, IsUnforgedEnd, NoForgery, HasSaid}
use Rattle.safety_law.proofs.InWorld.{in_world_given}
use Rattle.safety_law.proofs.Apart.{state-push}
use Rattle.safety_law.proofs.Once.{has-push}
use Rattle.safety_law.proofs.Totals.{each-all}
use Rattle.safety_law.proofs.Grown.{IsGrown, grown-run, said-on}
use Rattle.safety_law.proofs.Prefixes.{IsSee, due-see}

-- the sealed statements that are read from a call were delivered
abbrev BringsEnds : Rules → List Sealed → Call → Type 0
BringsEnds r total call = Each (Has total) (ends_read r call)

module _ (r : Rules) (total : List Sealed) where
  -- an End of the member in this epoch was delivered, with a seal that is accepted
  record IsEndGiven (epoch member : ℕ) : Type 0 where
    of : Sealed
    comes : Has total of
    by : of.member ≡ member
    states : of.statement ≡ statement.End epoch
    sealed : accepts_statement r of.member of.statement of.seal ≡ true

  -- ---- an entry

  ends-stated : (epoch : ℕ) (q : Sequence) (x : Sealed) (st : Statement) (member : ℕ) → x.statement ≡ st → Has total x → what_stated r epoch q x st ≡ counts member → IsEndGiven epoch member
  ends-stated epoch q x (statement.Vote of_epoch tx origins) member s h e = absurd (cc)
  ends-stated epoch q x (statement.Checkpoint of_epoch number digest) member s h e = absurd (cc)
  ends-stated epoch q x (statement.Ack of_epoch tx effects) member s h e = absurd (cc)
  ends-stated epoch q x (statement.End of_epoch) member s h e = go (of_epoch == epoch) refl (nat_lt x.member (length r.stakes) && accepts_statement r x.member x.statement x.seal) refl (is_among q.counted x.member) e
    where
      it : counts x.member ≡ counts member → x.member ≡ member
      it e = cc

      go : (same : Bool) → (of_epoch == epoch) ≡ same → (sealed : Bool) → (nat_lt x.member (length r.stakes) && accepts_statement r x.member x.statement x.seal) ≡ sealed → (again : Bool)
          → ignored_or (first_some (where_true (not same) ignore.Epoch ∷ where_true (not sealed) ignore.Seal ∷ where_true again ignore.Repeat ∷ [])) (counts x.member) ≡ counts member → IsEndGiven epoch member
      go false p sealed q again e = absurd (cc)
      go true p false q again e = absurd (cc)
      go true p true q true e = absurd (cc)
      go true p true q false e = record {
        of = x;
        comes = h;
        by = it e;
        states = s ∙ subst (λ (n : ℕ). statement.End of_epoch ≡ statement.End n) (eqb-true of_epoch epoch p) refl;
        sealed = and-second (nat_lt x.member (length r.stakes)) (accepts_statement r x.member x.statement x.seal) q;
      }

  ends-read : (epoch : ℕ) (q : Sequence) (read : Result Entry WireFault) (member : ℕ) → Each (Has total) (flat_map entry_ends (read_list read)) → what_read r epoch q read ≡ counts member → IsEndGiven epoch member
  ends-read epoch q (Err fault) member h e = absurd (cc)
  ends-read epoch q (Ok (entry.Cert c)) member h e = absurd (go (first_some (certificate_cases r epoch q c (transaction_digest c.tx))) e)
    where
      go : (cause : Option Ignore) → ignored_or cause (takes (held_as c)) ≡ counts member → ⊥
      go None e = cc
      go (Some cause) e = cc
  ends-read epoch q (Ok (entry.End x)) member h e = ends-stated epoch q x x.statement member refl h.0 e
  ends-read epoch q (Ok entry.Commit) member h e = absurd (cc)

  abbrev AllGiven : ℕ → List ℕ → Type 0
  AllGiven epoch counted = (member : ℕ) → Has counted member → IsEndGiven epoch member

  given-what : (epoch : ℕ) (opening : List Object) (q : Sequence) (what : What) → AllGiven epoch q.counted → ((member : ℕ) → what ≡ counts member → IsEndGiven epoch member) → AllGiven epoch (with_what r opening q what).counted
  given-what epoch opening q (takes h) all new = all
  given-what epoch opening q commits all new = all
  given-what epoch opening q (counts m) all new = go (ends_with_member r q m)
    where
      one : AllGiven epoch (q.counted ++ m ∷ [])
      one member h = which (has-push q.counted m member h)
        where
          which : Has q.counted member ⊎ (m ≡ member) → IsEndGiven epoch member
          which (inl k) = all member k
          which (inr e) = subst (IsEndGiven epoch) e (new m refl)

      go : (b : Bool) → AllGiven epoch (counted_as b q m).counted
      go true = one
      go false = one
  given-what epoch opening q (ignores cause) all new = all

  given-saw : (epoch : ℕ) (opening : List Object) (q : Sequence) (bytes : List ℕ) → AllGiven epoch q.counted → Each (Has total) (flat_map entry_ends (read_list (read_entry bytes))) → AllGiven epoch (saw r opening epoch q bytes).counted
  unfolding saw with_entry what_of
  given-saw epoch opening q bytes all h = go q.ended
    where
      go : (b : Bool) → AllGiven epoch (cond b q (with_entry r opening q (what_of r epoch q bytes))).counted
      go true = all
      go false = given-what epoch opening q (what_of r epoch q bytes) all (λ member e. ends-read epoch q (read_entry bytes) member h e)

  -- ---- a member

  abbrev HasGiven : Member → Type 0
  HasGiven m = AllGiven m.epoch m.sequence.counted

  call-given : (m : Member) (bytes : List ℕ) (call : Call) → BringsEnds r total call → IsSee m bytes call → HasGiven m → HasGiven (after r m (record_as.See bytes))
  unfolding after
  call-given m bytes (votes b) k see all = absurd see
  call-given m bytes (holds b) k see all = absurd see
  call-given m bytes (sees number b) k see all = given-saw m.epoch m.opening m.sequence bytes all (subst (λ (z : List ℕ). Each (Has total) (flat_map entry_ends (read_list (read_entry z)))) see.0 k)
  call-given m bytes runs k see all = absurd see
  call-given m bytes closes k see all = absurd see
  call-given m bytes ends k see all = absurd see
  call-given m bytes turns k see all = absurd see
  call-given m bytes (acks tx) k see all = absurd see

  after-given : (m : Member) (call : Call) (x : Record) → BringsEnds r total call → due r m call ≡ Some x → HasGiven m → HasGiven (after r m x)
  unfolding after
  after-given m call (record_as.Vote tx origins) k d all = all
  after-given m call (record_as.Hold c) k d all = all
  after-given m call (record_as.See bytes) k d all = call-given m bytes call k (due-see r m bytes call d) all
  after-given m call record_as.Close k d all = all
  after-given m call (record_as.Ran txs) k d all = all
  after-given m call record_as.Turn k d all = λ member h. absurd h
  after-given m call (record_as.Ran2 items) k d all = all

  none-given : (opening : List Object) → HasGiven (state r opening [])
  unfolding state
  none-given opening = λ member h. absurd h

-- ---- a run

brings-calls : (r : Rules) (total : List Sealed) (calls : List Call) → ((x : Sealed) → Has (flat_map (ends_read r) calls) x → Has total x) → Each (BringsEnds r total) calls
brings-calls r total [] h = tt
brings-calls r total (call ∷ calls) h = (
  each-all (Has total) (ends_read r call) (λ x k. h x (has_left (ends_read r call) (flat_map (ends_read r) calls) x k)),
  brings-calls r total calls (λ x k. h x (has_right (ends_read r call) (flat_map (ends_read r) calls) x k)),
)

module _ (s : Setting) where
  brings-run : (total : List Sealed) (events : List Event) (w : World) → ((x : Sealed) → Has (all_of delivered_ends s events w) x → Has total x) → Each (BringsEnds s.rules total) (all_of calls_of s events w)
  unfolding delivered_ends
  brings-run total [] w h = tt
  brings-run total (e ∷ events) w h = each_join (BringsEnds s.rules total) (calls_of s w e) (all_of calls_of s events (happens s w e))
      (brings-calls s.rules total (calls_of s w e) (λ x k. h x (has_left (delivered_ends s w e) (all_of delivered_ends s events (happens s w e)) x k)))
      (brings-run total events (happens s w e) (λ x k. h x (has_right (delivered_ends s w e) (all_of delivered_ends s events (happens s w e)) x k)))

  counted-given : (events : List Event) (m : ℕ) (seat : Seat) → slice_get (world_after s events).seats m ≡ Some seat → HasGiven s.rules (all_of delivered_ends s events (new_world s)) (member_in s seat)
  counted-given events m seat at =
      let total = all_of delivered_ends s events (new_world s) in
      in_world_given s (BringsEnds s.rules total) (λ (records : List Record). HasGiven s.rules total (state s.rules s.opening records))
      (λ records call x k d all. subst (HasGiven s.rules total) (sym (state-push s.rules s.opening records x)) (after-given s.rules total (state s.rules s.opening records) call x k d all))
      (none-given s.rules total s.opening) events (brings-run total events (new_world s) (λ x h. h)) m seat at

  -- if it was delivered it was unforged, and the world grew on
  unforged-at : (x : Sealed) (events : List Event) (w : World) → NoForgery s events w → Has (all_of delivered_ends s events w) x → (v : World) × IsUnforgedEnd s v x × IsGrown v (run s events w)
  unforged-at x [] w none h = absurd h
  unforged-at x (e ∷ events) w none h = go (has_parts (delivered_ends s w e) (all_of delivered_ends s events (happens s w e)) x h) (unforged-at x events (happens s w e) none.2)
    where
      go : Has (delivered_ends s w e) x ⊎ Has (all_of delivered_ends s events (happens s w e)) x → (Has (all_of delivered_ends s events (happens s w e)) x → (v : World) × IsUnforgedEnd s v x × IsGrown v (run s events (happens s w e))) → (v : World) × IsUnforgedEnd s v x × IsGrown v (run s (e ∷ events) w)
      go (inl h) rest = (w, each_has (IsUnforgedEnd s w) (delivered_ends s w e) x none.1 h, grown-run s (e ∷ events) w)
      go (inr h) rest = rest h

  pub counted-stated : (events : List Event) → NoForgery s events (new_world s) → (m : ℕ) (seat : Seat) → slice_get (world_after s events).seats m ≡ Some seat
      → (member : ℕ) → Has (member_in s seat).sequence.counted member → is_honest (world_after s events) member ≡ true → HasSaid (world_after s events) member (statement.End (member_in s seat).epoch)
  unfolding world_after
  counted-stated events none m seat at member h honest = go (counted-given events m seat at member h)
    where
      go : IsEndGiven s.rules (all_of delivered_ends s events (new_world s)) (member_in s seat).epoch member → HasSaid (run s events (new_world s)) member (statement.End (member_in s seat).epoch)
      go it = told (unforged-at it.of events (new_world s) none it.comes)
        where
          told : (v : World) × IsUnforgedEnd s v it.of × IsGrown v (run s events (new_world s)) → HasSaid (run s events (new_world s)) member (statement.End (member_in s seat).epoch)
          told (v, unforged, grown) =
              let is = sym (grown.honest it.of.member) ∙ subst (λ (n : ℕ). is_honest (run s events (new_world s)) n ≡ true) (sym it.by) honest in
              subst (λ (n : ℕ). HasSaid (run s events (new_world s)) n (statement.End (member_in s seat).epoch)) it.by
              (subst (HasSaid (run s events (new_world s)) it.of.member) it.states (said-on v (run s events (new_world s)) grown it.of.member it.of.statement (unforged is it.sealed)))
