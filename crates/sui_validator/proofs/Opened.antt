-- A member that was opened from its records.
use Rattle.std.proofs.Common.{◌≡◌, ◌∙◌, ℕ, Bool, true, List, Option, Some, None, Result, Ok, sym, ap}
use Rattle.digest_core.specs.declared.Digest.{Digest}
use Rattle.quorum_core.specs.declared.signer.Signer.{Signer}
use Rattle.chain_types.specs.declared.objects.Object.{Object}
use Rattle.protocol_spec.specs.declared.refusals.StartRefusal.{StartRefusal}
use Rattle.protocol_spec.specs.Member.Member.{Member}
use Rattle.world_spec.specs.Seats.{Seated}
use Rattle.world_spec.specs.Starts.{started}
use Rattle.world_spec.specs.Terms.{Terms, rules_for}
use Rattle.sui_validator.specs.Journals.{AreAll, Records, Stays}
use Rattle.sui_validator.specs.Members.{IsOpened, StartsFrom}

from_all : (terms : Terms) (accepts : Signer → List ℕ → Digest → Bool) (opening : List Object) (before : Option Records) (kept : Records) (said : Result Member StartRefusal) → AreAll before kept
    → started (rules_for terms accepts) opening kept ≡ said → StartsFrom (rules_for terms accepts) opening before said
from_all terms accepts opening None kept said all is = tt
from_all terms accepts opening (Some records) kept said all is = ap (started (rules_for terms accepts) opening) (sym all) ∙ is

pub is_opened : (terms : Terms) (accepts : Signer → List ℕ → Digest → Bool) (opening : List Object) (number : ℕ) (kept : Records) (seat : Seated)
    → (started (rules_for terms accepts) opening kept ≡ Ok seat.state) × (seat.member ≡ number) × (seat.terms ≡ terms) × (seat.up ≡ true)
    → (before now : Option Records) → AreAll before kept → Stays before now → IsOpened terms accepts opening number before now seat
is_opened terms accepts opening number kept seat starts before now all stays = record {
  state = from_all terms accepts opening before kept (Ok seat.state) all starts.0;
  member = starts.1;
  of = starts.2;
  up = starts.3;
  journal = stays;
}
