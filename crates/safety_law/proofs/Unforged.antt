-- What a line without raw bytes delivers was formed of stated votes, or is an End that its member stated.
use Rattle.std.proofs.Common.{refl, sym, subst, ap, ◌∙◌}
use Rattle.std.specs.Prelude.{◌≡◌, ℕ, zero, suc, min, Bool, true, false, cond, List, [], ◌∷◌, flat_map, slice_get, Option, Some, None, option_map, option_and_then, Result, Ok}
use Rattle.wire_bcs.specs.declared.fault.WireFault.{WireFault}
use Rattle.wire_bcs.specs.Whole.{whole-only}
use Rattle.chain_messages.specs.Messages as messages
use Rattle.chain_messages.specs.declared.messages.MemberSeal.{MemberSeal}
use Rattle.chain_messages.specs.declared.messages.Certificate.{Certificate}
use Rattle.chain_messages.specs.declared.messages.Entry.{Entry}
use Rattle.chain_messages.specs.declared.messages.Entry.TheVariants as entry
use Rattle.schedule_text.specs.declared.words.Event.{Event}
use Rattle.protocol_spec.proofs.ListLemmas.{each_has, has_left, has_map, each_join}
use Rattle.protocol_spec.specs.Chain.Words.{Has, Each, IsFront}
use Rattle.protocol_spec.specs.Chain.Certificates.{read_as, read_certificate, read_entry, vote_of}
use Rattle.protocol_spec.specs.Member.Member.{Member}
use Rattle.protocol_spec.specs.Member.Calls.{Call, holds, sees}
use Rattle.world_spec.specs.Setting.{Setting}
use Rattle.world_spec.specs.World.{Made, Formed, World, new_world, called_if, entries_at, member_at, next_entry, next_call_of, next_call, numbered_call}
use Rattle.world_spec.specs.Names.{made_named, cert_named}
use Rattle.world_spec.specs.Moves.{Move, requests, delivers, claims, vote_named, hold_named, direct, claims_ack, move_of}
use Rattle.world_spec.specs.Step.{happens, entries_left}
use Rattle.world_spec.specs.Run.{run, world_after}
use Rattle.world_spec.specs.Assumptions.{vote_call, send_call, call_list, see_calls, ack_call, calls_by, calls_of, read_list, entry_certificates, entry_ends, certificates_read, ends_read, delivered, delivered_ends, all_formed, IsStated, IsUnforged, IsUnforgedEnd, NoForgery}
use Rattle.safety_law.proofs.InWorld.{each-any}
use Rattle.safety_law.specs.Owners.{holds_raw, is_raw_hold, AreSpellable}
use Rattle.safety_law.proofs.Steps.{HandsNoEntry, IsBacked, named-backed, no-entry, step-line}
use Rattle.safety_law.proofs.Grown.{IsGrown, grown-run}
use Rattle.safety_law.proofs.Growth.{called_if-same, grows-run}
use Rattle.safety_law.proofs.Sound.{IsSound, sound-keeps, entry-in, get-has}
use Rattle.safety_law.proofs.Totals.{each-all, sound-new}

each-flat : {A B : Type 0} (f : A → List B) (P : B → Type 0) (xs : List A) → Each (λ (x : A). Each P (f x)) xs → Each P (flat_map f xs)
each-flat f P [] each = tt
each-flat f P (x ∷ xs) each = each_join P (f x) (flat_map f xs) each.0 (each-flat f P xs each.1)

-- ---- what is encoded is read back

back-certificate : (c : Certificate) → messages.certificate.fits c → read_certificate (messages.certificate.spell c) ≡ Ok c
unfolding read_certificate
back-certificate c fits = ap read_as (whole-only messages.certificate (messages.certificate.spell c) c fits refl)

back-entry : (e : Entry) → messages.entry.fits e → read_entry (messages.entry.spell e) ≡ Ok e
unfolding read_entry
back-entry e fits = ap read_as (whole-only messages.entry (messages.entry.spell e) e fits refl)

-- ---- sequences only grow

abbrev IsLonger : World → World → Type 0
IsLonger w v = (n : ℕ) (x : Entry) → Has (entries_at w.sequences n) x → Has (entries_at v.sequences n) x

longer-run : (s : Setting) (events : List Event) (w : World) → IsLonger w (run s events w)
longer-run s events w n x h = go (grows-run s events w n)
  where
    go : IsFront (entries_at w.sequences n) (entries_at (run s events w).sequences n) → Has (entries_at (run s events w).sequences n) x
    go (rest, is) = subst (λ (es : List Entry). Has es x) (sym is) (has_left (entries_at w.sequences n) rest x h)

-- ---- one world of the run

module _ (s : Setting) (all : List Event) (spellable : AreSpellable s all) (w : World)
    (sound : IsSound s w) (grown : IsGrown w (world_after s all)) (longer : IsLonger w (world_after s all)) where
  formed-among : (f : Formed) → Has w.certs f → Has (all_formed s all) f.cert
  unfolding all_formed
  formed-among f h = has_map (λ (g : Formed). g.cert) (world_after s all).certs f (grown.certs f h)

  backed-unforged : (c : Certificate) → IsBacked w (entry.Cert c) → IsUnforged s w c
  backed-unforged c (f, h, q) = subst (IsUnforged s w) q (each-all (λ (x : MemberSeal). IsStated s w x.member (vote_of f.cert) x.seal) f.cert.seals (λ x k honest accepted. (Some x.seal, sound.voted f h x k)))

  abbrev pub IsHonestCall : Call → Type 0
  IsHonestCall call = Each (IsUnforged s w) (certificates_read s.rules call) × Each (IsUnforgedEnd s w) (ends_read s.rules call)

  -- a certificate that is sent
  honest-hold : (c : Certificate) → IsBacked w (entry.Cert c) → IsHonestCall (holds (messages.certificate.spell c))
  honest-hold c backed = (subst (λ (read : Result Certificate WireFault). Each (IsUnforged s w) (read_list read)) (sym (back-certificate c (fits backed))) (backed-unforged c backed, tt), tt)
    where
      fits : IsBacked w (entry.Cert c) → messages.certificate.fits c
      fits (f, h, q) = subst (λ (d : Certificate). messages.certificate.fits d) q (each_has (λ (d : Certificate). messages.certificate.fits d) (all_formed s all) f.cert spellable.certificates (formed-among f h))

  -- an entry that is seen
  honest-entry : (e : Entry) → IsBacked w e → Each (IsUnforged s w) (entry_certificates e) × Each (IsUnforgedEnd s w) (entry_ends e)
  honest-entry (entry.Cert c) backed = ((backed-unforged c backed, tt), tt)
  honest-entry (entry.End x) backed = (tt, (λ honest accepted. backed honest, tt))
  honest-entry entry.Commit backed = (tt, tt)

  honest-read : (e : Entry) → IsBacked w e → (read : Result Entry WireFault) → read ≡ Ok e → Each (IsUnforged s w) (flat_map entry_certificates (read_list read)) × Each (IsUnforgedEnd s w) (flat_map entry_ends (read_list read))
  honest-read e backed read q =
      let both = honest-entry e backed in
      subst (λ (r : Result Entry WireFault). Each (IsUnforged s w) (flat_map entry_certificates (read_list r)) × Each (IsUnforgedEnd s w) (flat_map entry_ends (read_list r))) (sym q)
      (each_join (IsUnforged s w) (entry_certificates e) [] both.0 tt, each_join (IsUnforgedEnd s w) (entry_ends e) [] both.1 tt)

  honest-see : (number n : ℕ) (e : Entry) → Has (entries_at w.sequences n) e → IsHonestCall (sees number (messages.entry.spell e))
  honest-see number n e h =
      let at = entry-in w.sequences n e h in
      honest-read e (sound.backed at.0 at.1 e at.2) (read_entry (messages.entry.spell e)) (back-entry e (each_has (λ (x : Entry). messages.entry.fits x) (entries_at (world_after s all).sequences n) e (spellable.entries n) (longer n e h)))

  -- the next entry of a member, in a world with the same sequences
  honest-next : (v : World) → v.sequences ≡ w.sequences → (m : ℕ) → Each IsHonestCall (call_list (next_call s v m))
  honest-next v same m = of_member (member_at s v m)
    where
      of_entry : (k : Member) (o : Option Entry) → next_entry v k ≡ o → Each IsHonestCall (call_list (option_map (numbered_call k.sequence.number) o))
      of_entry k None q = tt
      of_entry k (Some e) q = (honest-see k.sequence.number k.epoch e (subst (λ (qs : List (List Entry)). Has (entries_at qs k.epoch) e) same (found k.sequence.ended q)), tt)
        where
          found : (b : Bool) → cond b None (slice_get (entries_at v.sequences k.epoch) k.sequence.number) ≡ Some e → Has (entries_at v.sequences k.epoch) e
          found true q = absurd (cc)
          found false q = get-has (entries_at v.sequences k.epoch) k.sequence.number e q

      of_member : (o : Option Member) → Each IsHonestCall (call_list (option_and_then (next_call_of v) o))
      of_member None = tt
      of_member (Some k) = of_entry k (next_entry v k) refl

  honest-sees : (n : ℕ) (v : World) → v.sequences ≡ w.sequences → (m : ℕ) → Each IsHonestCall (see_calls s n v m)
  honest-sees zero v same m = tt
  honest-sees (suc n) v same m = each_join IsHonestCall (call_list (next_call s v m)) _ (honest-next v same m) (honest-sees n (called_if s v m (next_call s v m)) (called_if-same s v m (next_call s v m) ∙ same) m)

  honest-vote : (t : Option Made) → Each IsHonestCall (vote_call t)
  honest-vote None = tt
  honest-vote (Some t) = ((tt, tt), tt)

  honest-send : (c : Option Certificate) → ((x : Certificate) → c ≡ Some x → IsBacked w (entry.Cert x)) → Each IsHonestCall (send_call c)
  honest-send None backed = tt
  honest-send (Some c) backed = (honest-hold c (backed c refl), tt)

  honest-ack : (t : Option Made) → Each IsHonestCall (ack_call t)
  honest-ack None = tt
  honest-ack (Some t) = ((tt, tt), tt)

  honest-calls : (mv : Move) → HandsNoEntry mv → holds_raw mv ≡ false → Each IsHonestCall (calls_by s w mv)
  honest-calls (requests m (vote_named tx)) own raw = honest-vote (made_named w tx)
  honest-calls (requests m (hold_named tx)) own raw = honest-send (cert_named w tx) (named-backed w tx)
  honest-calls (requests m (direct (holds bytes))) own raw = absurd (cc)
  honest-calls (requests m (direct (sees number bytes))) own raw = absurd own
  honest-calls (requests m (direct call)) own raw = ((tt, tt), tt)
  honest-calls (delivers m entries) own raw = honest-sees (min entries (entries_left w (member_at s w m))) w refl m
  honest-calls (claims m tx (claims_ack spoiled)) own raw = honest-ack (made_named w tx)
  honest-calls mv own raw = tt

  firsts : (calls : List Call) → Each IsHonestCall calls → Each (λ (call : Call). Each (IsUnforged s w) (certificates_read s.rules call)) calls
  firsts [] each = tt
  firsts (call ∷ calls) each = (each.0.0, firsts calls each.1)

  seconds : (calls : List Call) → Each IsHonestCall calls → Each (λ (call : Call). Each (IsUnforgedEnd s w) (ends_read s.rules call)) calls
  seconds [] each = tt
  seconds (call ∷ calls) each = (each.0.1, seconds calls each.1)

  line-unforged : (e : Event) → is_raw_hold e ≡ false → Each (IsUnforged s w) (delivered s w e) × Each (IsUnforgedEnd s w) (delivered_ends s w e)
  unfolding delivered delivered_ends
  line-unforged e raw =
      let each = honest-calls (move_of e) (no-entry e) raw in
      (each-flat (certificates_read s.rules) (IsUnforged s w) (calls_of s w e) (firsts (calls_of s w e) each), each-flat (ends_read s.rules) (IsUnforgedEnd s w) (calls_of s w e) (seconds (calls_of s w e) each))

-- ---- the whole run

module _ (s : Setting) (all : List Event) (spellable : AreSpellable s all) where
  unforged-from : (events : List Event) (w : World) → run s events w ≡ world_after s all → IsSound s w → Each (λ (e : Event). is_raw_hold e ≡ false) events → NoForgery s events w
  unforged-from [] w is sound raw = tt
  unforged-from (e ∷ events) w is sound raw =
      let line = line-unforged s all spellable w sound (subst (IsGrown w) is (grown-run s (e ∷ events) w)) (subst (IsLonger w) is (longer-run s (e ∷ events) w)) e raw.0 in
      (line.0, line.1, unforged-from events (happens s w e) is (step-line s (λ _ _. Unit {0}) (IsSound s) (sound-keeps s) w e (each-any (calls_of s w e)) sound) raw.1)

after-is : (s : Setting) (events : List Event) → run s events (new_world s) ≡ world_after s events
unfolding world_after
after-is s events = refl

pub unforged : (s : Setting) (events : List Event) → Each (λ (e : Event). is_raw_hold e ≡ false) events → AreSpellable s events → NoForgery s events (new_world s)
unforged s events raw spellable = unforged-from s events spellable events (new_world s) (after-is s events) (sound-new s) raw
