-- Held certificates of one digest have one transaction.
use Rattle.std.proofs.Common.{sym, ◌∙◌}
use Rattle.std.specs.Prelude.{◌≡◌, ℕ, List, ◌++◌, map, slice_get, Some}
use Rattle.chain_types.specs.declared.transactions.SignedTx.{SignedTx}
use Rattle.chain_messages.specs.declared.messages.Certificate.{Certificate}
use Rattle.protocol_spec.specs.declared.answers.Held.{Held}
use Rattle.schedule_text.specs.declared.words.Event.{Event}
use Rattle.protocol_spec.proofs.ListLemmas.{each_has, has_map, has_right}
use Rattle.protocol_spec.specs.Chain.Words.{Has}
use Rattle.world_spec.specs.Setting.{Setting}
use Rattle.world_spec.specs.World.{Seat, Made, new_world, member_in}
use Rattle.world_spec.specs.Run.{world_after}
use Rattle.world_spec.specs.Assumptions.{IsHonestRun, asked, all_of, all_formed, all_delivered, all_transactions}
use Rattle.safety_law.specs.Agreed.{IsHeldAsGiven}
use Rattle.safety_law.proofs.Supply.{every-held}

-- the transaction of a delivered certificate is one of the run
pub of-run : (s : Setting) (events : List Event) (c : Certificate) → Has (all_delivered s events) c → Has (all_transactions s events) c.tx
unfolding all_transactions
of-run s events c h =
    has_right (map (λ (t : Made). t.signed.tx) (world_after s events).txs) (map (λ (x : SignedTx). x.tx) (all_of asked s events (new_world s)) ++ map (λ (d : Certificate). d.tx) (all_formed s events ++ all_delivered s events)) c.tx
    (has_right (map (λ (x : SignedTx). x.tx) (all_of asked s events (new_world s))) (map (λ (d : Certificate). d.tx) (all_formed s events ++ all_delivered s events)) c.tx
    (has_map (λ (d : Certificate). d.tx) (all_formed s events ++ all_delivered s events) c (has_right (all_formed s events) (all_delivered s events) c h)))

pub one-transaction : (s : Setting) (events : List Event) → IsHonestRun s events → (m n : ℕ) (a b : Seat) → slice_get (world_after s events).seats m ≡ Some a → slice_get (world_after s events).seats n ≡ Some b
    → (h k : Held) → Has (member_in s a).held h → Has (member_in s b).held k → h.digest ≡ k.digest → h.cert.tx ≡ k.cert.tx
one-transaction s events honest m n a b at by h k there also e =
    let one = each_has (IsHeldAsGiven s.rules (all_delivered s events) (member_in s a).epoch) (member_in s a).held h (every-held s events m a at) there in
    let two = each_has (IsHeldAsGiven s.rules (all_delivered s events) (member_in s b).epoch) (member_in s b).held k (every-held s events n b by) also in
    honest.transactions h.cert.tx k.cert.tx (of-run s events h.cert one.comes) (of-run s events k.cert two.comes) (sym one.digest_is ∙ e ∙ two.digest_is)
