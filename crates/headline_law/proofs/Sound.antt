-- No honest member is blamed.
use Rattle.std.proofs.Common.{◌≡◌, ℕ, Bool, true, false, List, Option, Some, None, refl, sym, subst, inl, inr}
use Rattle.std.specs.Prelude.{slice_get}
use Rattle.chain_types.specs.declared.transactions.Transaction.{Transaction}
use Rattle.chain_types.specs.Digests.{transaction_digest}
use Rattle.chain_messages.specs.declared.messages.MemberSeal.{MemberSeal}
use Rattle.chain_messages.specs.declared.messages.Certificate.{Certificate}
use Rattle.journal_core.specs.declared.records.Record.TheVariants as record_as
use Rattle.schedule_text.specs.declared.words.Event.{Event}
use Rattle.protocol_spec.proofs.ListLemmas.{has_left, has_mapped, has_right}
use Rattle.protocol_spec.specs.Chain.Words.{Has}
use Rattle.world_spec.specs.Setting.{Setting}
use Rattle.world_spec.specs.World.{Seat, is_honest, new_world, honest_seat}
use Rattle.world_spec.specs.Run.{world_after}
use Rattle.world_spec.specs.Assumptions.{NoForgery, TransactionsApart, all_delivered, all_formed, all_transactions}
use Rattle.safety_law.specs.Owners.{HasStated, IsFormedOrValid, all_handed}
use Rattle.safety_law.proofs.Once.{voted-once}
use Rattle.safety_law.proofs.Kept.{IsKept, every-vote}
use Rattle.safety_law.proofs.Totals.{certificate-among, given-among, handed-among}
use Rattle.safety_law.proofs.Handed.{WasHanded, voted-handed}
use Rattle.safety_law.proofs.Voted.{delivered-stated, formed-stated}
use Rattle.light_check.specs.declared.rivals.DoubleVote.{DoubleVote}
use Rattle.light_check.specs.Blamed.{blamed, sealers}
use Rattle.headline_law.proofs.Blaming.{IsDouble, blamed-is, sealed-first, sealed-second}

module _ (s : Setting) (events : List Event) (none : NoForgery s events (new_world s)) (apart : TransactionsApart (all_transactions s events)) where
  among : (c : Certificate) → IsFormedOrValid s events c → Has (all_transactions s events) c.tx
  among c (inl h) = certificate-among s events c (has_left (all_formed s events) (all_delivered s events) c h)
  among c (inr d) = certificate-among s events c (has_right (all_formed s events) (all_delivered s events) c d.0)

  stated : (c : Certificate) → IsFormedOrValid s events c → (m : ℕ) → Has (sealers c) m → is_honest (world_after s events) m ≡ true → HasStated (world_after s events) c m
  stated c is m h honest = go (has_mapped (λ (x : MemberSeal). x.member) c.seals m h) is
    where
      go : (x : MemberSeal) × Has c.seals x × (x.member ≡ m) → IsFormedOrValid s events c → HasStated (world_after s events) c m
      go (x, k, e) (inl h) = subst (HasStated (world_after s events) c) e (formed-stated s events c h x k)
      go (x, k, e) (inr d) = subst (HasStated (world_after s events) c) e (delivered-stated s events none c d.0 d.1 x k (subst (λ (n : ℕ). is_honest (world_after s events) n ≡ true) (sym e) honest))

  kept : (c : Certificate) → IsFormedOrValid s events c → (m : ℕ) (seat : Seat) → slice_get (world_after s events).seats m ≡ Some seat → seat.honest ≡ true → HasStated (world_after s events) c m
      → Has seat.records (record_as.Vote c.tx c.origins)
  kept c is m seat at honest told = go (every-vote s events m seat at honest c.tx.epoch (transaction_digest c.tx) c.origins told)
    where
      given : (t : Transaction) → WasHanded s (all_handed s events) m t → Has (all_transactions s events) t
      given t (x, h, e, a) = given-among s events t (inr (x, handed-among s m events (new_world s) x h, e))

      go : IsKept seat.records c.tx.epoch (transaction_digest c.tx) c.origins → Has seat.records (record_as.Vote c.tx c.origins)
      go (t, h, e, d) = subst (λ (y : Transaction). Has seat.records (record_as.Vote y c.origins)) (apart t c.tx (given t (voted-handed s events m seat at t c.origins h)) (among c is) d) h

  pub none-honest : (c d : Certificate) → IsFormedOrValid s events c → IsFormedOrValid s events d → (b : DoubleVote) → blamed c d ≡ Some b → (m : ℕ) → Has b.members m → is_honest (world_after s events) m ≡ false
  none-honest c d one other b e m h = go (is_honest (world_after s events) m) refl (slice_get (world_after s events).seats m) refl
    where
      double : IsDouble c d b
      double = blamed-is c d b e

      two : (seat : Seat) → slice_get (world_after s events).seats m ≡ Some seat → seat.honest ≡ true → is_honest (world_after s events) m ≡ true → ⊥
      two seat at honest is =
          let in_both = subst (λ (ms : List ℕ). Has ms m) double.members h in
          voted-once s events m seat at c.tx d.tx c.origins d.origins
          (kept c one m seat at honest (stated c one m (sealed-first c d m in_both) is))
          (kept d other m seat at honest (stated d other m (sealed-second c d m in_both) is))
          double.epoch double.differ b.key double.first double.second

      seated : (o : Option Seat) → slice_get (world_after s events).seats m ≡ o → honest_seat o ≡ true → is_honest (world_after s events) m ≡ true → ⊥
      seated None at honest is = absurd (cc)
      seated (Some seat) at honest is = two seat at honest is

      go : (x : Bool) → is_honest (world_after s events) m ≡ x → (o : Option Seat) → slice_get (world_after s events).seats m ≡ o → is_honest (world_after s events) m ≡ false
      go false is o at = is
      go true is o at = absurd (seated o at (subst (λ (p : Option Seat). honest_seat p ≡ true) at is) is)
