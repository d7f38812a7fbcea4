-- Each certified transaction was voted for: a formed certificate by each of its members, a delivered one by each
-- honest one; and an honest member's vote stands in its journal.
use Rattle.std.proofs.Common.{inl, inr, refl, sym, subst, ◌∙◌}
use Rattle.std.specs.Prelude.{◌≡◌, ◌⊎◌, ℕ, true, List, [], ◌∷◌, slice_get, Option, Some, None}
use Rattle.chain_types.specs.declared.transactions.Transaction.{Transaction}
use Rattle.chain_types.specs.declared.refusals.CertRefusal.TheVariants as refused
use Rattle.chain_types.specs.Digests.{transaction_digest}
use Rattle.chain_messages.specs.declared.messages.MemberSeal.{MemberSeal}
use Rattle.chain_messages.specs.declared.messages.Certificate.{Certificate}
use Rattle.journal_core.specs.declared.records.Record.TheVariants as record_as
use Rattle.schedule_text.specs.declared.words.Event.{Event}
use Rattle.protocol_spec.proofs.ListLemmas.{has_parts, each_has, has_left, has_right, has_mapped}
use Rattle.protocol_spec.proofs.Truth.{where_not_true}
use Rattle.protocol_spec.specs.Chain.Words.{Has, Each}
use Rattle.protocol_spec.specs.Chain.Committee.{weight, total_of, is_quorum}
use Rattle.protocol_spec.specs.Chain.Certificates.{Rules, accepts_statement, vote_of, members_of, bad_seal, cert_cases, cert_refusal}
use Rattle.world_spec.specs.Setting.{Setting, member_seal}
use Rattle.world_spec.specs.World.{Seat, Formed, World, new_world, said_under, honest_seat, is_honest}
use Rattle.world_spec.specs.Step.{happens}
use Rattle.world_spec.specs.Run.{run, world_after}
use Rattle.world_spec.specs.Assumptions.{delivered, all_of, all_formed, all_delivered, all_transactions, IsCertified, IsUnforged, NoForgery, IsHonestRun, IsStated}
use Rattle.safety_law.proofs.Apart.{none-each, none-of}
use Rattle.safety_law.proofs.Kept.{IsKept, every-vote}
use Rattle.safety_law.specs.Owners.{IsFormedOrValid, HasStated, IsCollected, HasKept, all_handed}
use Rattle.safety_law.proofs.Grown.{IsGrown, grown-run, said-on}
use Rattle.safety_law.proofs.Totals.{each-all, sound-after, given-among, certificate-among, handed-among}
use Rattle.safety_law.proofs.Quorate.{quorate-after}
use Rattle.safety_law.proofs.Handed.{WasHanded, voted-handed}

-- ---- valid certificates

pub valid-quorum : (r : Rules) (c : Certificate) → cert_refusal r c ≡ None → is_quorum r.stakes (weight r.stakes (members_of c)) ≡ true
unfolding cert_refusal
valid-quorum r c e = where_not_true (is_quorum r.stakes (weight r.stakes (members_of c))) (refused.ShortStake (weight r.stakes (members_of c)) (total_of r.stakes)) (none-each (cert_cases r c) e).1.1.1.0

pub valid-sealed : (r : Rules) (c : Certificate) → cert_refusal r c ≡ None → (x : MemberSeal) → Has c.seals x → accepts_statement r x.member (vote_of c) x.seal ≡ true
unfolding cert_refusal
valid-sealed r c e x h = where_not_true (accepts_statement r x.member (vote_of c) x.seal) (refused.BadSeal x.member) (none-of (bad_seal r c) c.seals x (none-each (cert_cases r c) e).1.1.1.1.0 h)

-- ---- formed certificates

formed-of : (s : Setting) (events : List Event) (c : Certificate) → Has (all_formed s events) c → (f : Formed) × Has (world_after s events).certs f × (f.cert ≡ c)
unfolding all_formed
formed-of s events c h = has_mapped (λ (f : Formed). f.cert) (world_after s events).certs c h

-- its member stated the vote under this seal
formed-collected : (s : Setting) (events : List Event) (c : Certificate) → Has (all_formed s events) c → (x : MemberSeal) → Has c.seals x → Has (world_after s events).said (said_under x.seal x.member (vote_of c))
formed-collected s events c h x k = go (formed-of s events c h)
  where
    go : (f : Formed) × Has (world_after s events).certs f × (f.cert ≡ c) → Has (world_after s events).said (said_under x.seal x.member (vote_of c))
    go (f, l, q) =
        subst (λ (d : Certificate). Has (world_after s events).said (said_under x.seal x.member (vote_of d))) q
        ((sound-after s events).voted f l x (subst (λ (d : Certificate). Has d.seals x) (sym q) k))

pub formed-stated : (s : Setting) (events : List Event) (c : Certificate) → Has (all_formed s events) c → (x : MemberSeal) → Has c.seals x → HasStated (world_after s events) c x.member
formed-stated s events c h x k = (Some x.seal, formed-collected s events c h x k)

-- each seal of a certificate that a line formed is its member's own on the vote
formed-sealed : (s : Setting) (events : List Event) (c : Certificate) → Has (all_formed s events) c → (x : MemberSeal) → Has c.seals x → x.seal ≡ member_seal s x.member (vote_of c)
formed-sealed s events c h x k = go (formed-of s events c h)
  where
    go : (f : Formed) × Has (world_after s events).certs f × (f.cert ≡ c) → x.seal ≡ member_seal s x.member (vote_of c)
    go (f, l, q) =
        subst (λ (d : Certificate). x.seal ≡ member_seal s x.member (vote_of d)) q
        ((sound-after s events).sealed f l x (subst (λ (d : Certificate). Has d.seals x) (sym q) k))

pub each-formed : (s : Setting) (events : List Event) (c : Certificate) → Has (all_formed s events) c → Each (IsCollected s (world_after s events) c) c.seals
each-formed s events c h = each-all (IsCollected s (world_after s events) c) c.seals (λ x k. (formed-collected s events c h x k, formed-sealed s events c h x k))

-- ---- delivered certificates

-- if it was delivered it was unforged, and the world grew on
unforged-at : (s : Setting) (c : Certificate) (events : List Event) (w : World) → NoForgery s events w → Has (all_of delivered s events w) c → (v : World) × IsUnforged s v c × IsGrown v (run s events w)
unforged-at s c [] w none h = absurd h
unforged-at s c (e ∷ events) w none h = go (has_parts (delivered s w e) (all_of delivered s events (happens s w e)) c h) (unforged-at s c events (happens s w e) none.2)
  where
    go : Has (delivered s w e) c ⊎ Has (all_of delivered s events (happens s w e)) c → (Has (all_of delivered s events (happens s w e)) c → (v : World) × IsUnforged s v c × IsGrown v (run s events (happens s w e))) → (v : World) × IsUnforged s v c × IsGrown v (run s (e ∷ events) w)
    go (inl h) rest = (w, each_has (IsUnforged s w) (delivered s w e) c none.0 h, grown-run s (e ∷ events) w)
    go (inr h) rest = rest h

pub delivered-stated : (s : Setting) (events : List Event) → NoForgery s events (new_world s) → (c : Certificate) → Has (all_delivered s events) c → cert_refusal s.rules c ≡ None
    → (x : MemberSeal) → Has c.seals x → is_honest (world_after s events) x.member ≡ true → HasStated (world_after s events) c x.member
unfolding all_delivered world_after
delivered-stated s events none c h valid x k honest = go (unforged-at s c events (new_world s) none h)
  where
    go : (v : World) × IsUnforged s v c × IsGrown v (run s events (new_world s)) → HasStated (run s events (new_world s)) c x.member
    go (v, each, grown) = said-on v (run s events (new_world s)) grown x.member (vote_of c) (each_has (λ (y : MemberSeal). IsStated s v y.member (vote_of c) y.seal) c.seals x each k (sym (grown.honest x.member) ∙ honest) (valid-sealed s.rules c valid x k))

-- ---- certified transactions

module _ (s : Setting) (events : List Event) (run_is : IsHonestRun s events) where
  pub certified-among : (c : Certificate) → IsFormedOrValid s events c → Has (all_transactions s events) c.tx
  certified-among c (inl h) = certificate-among s events c (has_left (all_formed s events) (all_delivered s events) c h)
  certified-among c (inr d) = certificate-among s events c (has_right (all_formed s events) (all_delivered s events) c d.0)

  pub certified-quorum : (c : Certificate) → IsFormedOrValid s events c → is_quorum s.rules.stakes (weight s.rules.stakes (members_of c)) ≡ true
  certified-quorum c (inr d) = valid-quorum s.rules c d.1
  certified-quorum c (inl h) = go (formed-of s events c h)
    where
      go : (f : Formed) × Has (world_after s events).certs f × (f.cert ≡ c) → is_quorum s.rules.stakes (weight s.rules.stakes (members_of c)) ≡ true
      go (f, l, q) = subst (λ (d : Certificate). is_quorum s.rules.stakes (weight s.rules.stakes (members_of d)) ≡ true) q (quorate-after s events f l)

  pub certified-stated : (c : Certificate) → IsFormedOrValid s events c → (x : MemberSeal) → Has c.seals x → is_honest (world_after s events) x.member ≡ true → HasStated (world_after s events) c x.member
  certified-stated c (inl h) x k honest = formed-stated s events c h x k
  certified-stated c (inr d) x k honest = delivered-stated s events run_is.no_forgery c d.0 d.1 x k honest

  -- the vote stands in the member's journal
  pub stated-kept : (c : Certificate) → IsFormedOrValid s events c → (m : ℕ) (seat : Seat) → slice_get (world_after s events).seats m ≡ Some seat → seat.honest ≡ true → HasStated (world_after s events) c m → Has seat.records (record_as.Vote c.tx c.origins)
  stated-kept c certified m seat at honest told = go (every-vote s events m seat at honest c.tx.epoch (transaction_digest c.tx) c.origins told)
    where
      among : (t : Transaction) → WasHanded s (all_handed s events) m t → Has (all_transactions s events) t
      among t (x, h, e, a) = given-among s events t (inr (x, handed-among s m events (new_world s) x h, e))

      go : IsKept seat.records c.tx.epoch (transaction_digest c.tx) c.origins → Has seat.records (record_as.Vote c.tx c.origins)
      go (t, h, e, d) = subst (λ (y : Transaction). Has seat.records (record_as.Vote y c.origins)) (run_is.transactions t c.tx (among t (voted-handed s events m seat at t c.origins h)) (certified-among c certified) d) h

  pub seat-of : (m : ℕ) → is_honest (world_after s events) m ≡ true → (seat : Seat) × (slice_get (world_after s events).seats m ≡ Some seat) × (seat.honest ≡ true)
  seat-of m honest = go (slice_get (world_after s events).seats m) refl honest
    where
      go : (o : Option Seat) → slice_get (world_after s events).seats m ≡ o → honest_seat o ≡ true → (seat : Seat) × (slice_get (world_after s events).seats m ≡ Some seat) × (seat.honest ≡ true)
      go None e h = absurd (cc)
      go (Some seat) e h = (seat, e, h)

  pub certified-voted : (c : Certificate) → IsFormedOrValid s events c → (x : MemberSeal) → Has c.seals x → is_honest (world_after s events) x.member ≡ true
      → HasStated (world_after s events) c x.member × HasKept (world_after s events) c x.member
  certified-voted c certified x k honest =
      let told = certified-stated c certified x k honest in
      let at = seat-of x.member honest in
      (told, (at.0, at.1, stated-kept c certified x.member at.0 at.1 at.2 told))

pub certified-is : (s : Setting) (events : List Event) (c : Certificate) → IsCertified s events c → IsFormedOrValid s events c
certified-is s events c certified = go (has_parts (all_formed s events) (all_delivered s events) c certified.comes)
  where
    go : Has (all_formed s events) c ⊎ Has (all_delivered s events) c → IsFormedOrValid s events c
    go (inl h) = inl h
    go (inr h) = inr (h, certified.valid)
