-- What it means to be blamed for two certificates that consume one version. Source: Sui Lutris (an honest member votes
-- for one transaction of each owned version; quorum intersection).
use Rattle.std.specs.Prelude.{◌≡◌, ◌<◌, ◌*◌, ℕ, false, List, Some, None}
use Rattle.chain_messages.specs.declared.messages.Certificate.{Certificate}
use Rattle.quorum_core.specs.Committee.{total_of, weight}
use Rattle.schedule_text.specs.declared.words.Event.{Event}
use Rattle.protocol_spec.specs.Chain.Words.{Has}
use Rattle.protocol_spec.specs.Chain.Certificates.{Rules, cert_refusal}
use Rattle.world_spec.specs.Setting.{Setting}
use Rattle.world_spec.specs.World.{is_honest, new_world}
use Rattle.world_spec.specs.Run.{world_after}
use Rattle.world_spec.specs.Assumptions.{NoForgery, TransactionsApart, all_transactions}
use Rattle.safety_law.specs.Owners.{IsFormedOrValid}
use Rattle.light_check.specs.declared.rivals.DoubleVote.{DoubleVote}
use Rattle.light_check.specs.Blamed.{blamed}

-- a member that is blamed for two certified transactions of a run is not honest, whatever stake is faulty
abbrev pub NoneIsHonest : Type 0
NoneIsHonest = (s : Setting) (events : List Event) → NoForgery s events (new_world s) → TransactionsApart (all_transactions s events)
    → (c d : Certificate) → IsFormedOrValid s events c → IsFormedOrValid s events d → (b : DoubleVote) → blamed c d ≡ Some b
    → (m : ℕ) → Has b.members m → is_honest (world_after s events) m ≡ false

-- those who are blamed for two valid certificates have more than a third of the stake
abbrev pub TheyHaveMoreThanAThird : Type 0
TheyHaveMoreThanAThird = (r : Rules) (c d : Certificate) → cert_refusal r c ≡ None → cert_refusal r d ≡ None → (b : DoubleVote) → blamed c d ≡ Some b
    → total_of r.stakes < 3 * weight r.stakes b.members
