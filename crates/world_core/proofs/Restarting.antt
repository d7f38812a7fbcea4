-- A member that starts among the others.
use Rattle.std.proofs.Common.{◌≡◌, ℕ, ◌<◌, true, List, length, get_or, set, Option, Some, None, ap, sym, ◌∙◌, subst}
use Rattle.std.specs.Prelude.{Bool, Ok, slice_get}
use Rattle.std.proofs.lemmas.Option.{slice_get_read}
use Rattle.chain_types.specs.declared.objects.Object.{Object}
use Rattle.outside.specs.Lists.{Journals}
use Rattle.protocol_spec.specs.Chain.Certificates.{Rules}
use Rattle.world_spec.specs.Seats.{Seated}
use Rattle.validator_core.specs.Starts.{Starts}
use Rattle.world_spec.specs.Starts.{started}
use Rattle.world_spec.specs.Terms.{Terms}
use Rattle.world_spec.specs.Posts.{Post, seat_at, starting}
use Rattle.world_core.specs.Crews.{IsPlaced}
use Rattle.world_core.specs.SeatRestarts.{IsJournal, Restarted}
use Rattle.world_core.proofs.Placing.{AreWhole, changed_is, whole_with}

placed_start : (terms : Terms) (m : ℕ) (seat : Seated) → seat.member ≡ m → seat.terms ≡ terms → seat.up ≡ true → seat ≡ seat_at terms m seat.state
placed_start terms m seat number same up =
    ap (λ (n : ℕ). record seat { member = n }) number
    ∙ ap (λ (s : Terms). record seat { member = m; terms = s }) same
    ∙ ap (λ (b : Bool). record seat { member = m; terms = terms; up = b }) up

pub whole_restarted : (r : Rules) (opening : List Object) (kept : List (List ℕ)) (terms : Terms) (flags : List Bool) (posts : List Post) (n m : ℕ) (old p : Post) (seat : Seated) → n ≡ length posts → m < n → old ≡ get_or posts m old → AreWhole terms flags posts
    → Starts (started r opening kept) m terms (Ok seat) → p ≡ record { honest = old.honest; standing = Some seat; armed = None } → AreWhole terms flags (set posts m p)
whole_restarted r opening kept terms flags posts n m old p seat count low is whole starts e =
    whole_with terms flags posts n m old p count low is whole (subst (λ (q : Post). IsPlaced terms m q.standing) (sym e) (placed_start terms m seat starts.1 starts.2 starts.3)) (ap (λ (q : Post). q.honest) e)

pub restarted : (r : Rules) (opening : List Object) (told : Option Journals) (kept : List (List ℕ)) (terms : Terms) (posts : List Post) (n m : ℕ) (old p : Post) (seat : Seated) (count : ℕ) → n ≡ length posts → m < n → old ≡ get_or posts m old
    → IsJournal told m kept → count ≡ length kept → Starts (started r opening kept) m terms (Ok seat) → p ≡ record { honest = old.honest; standing = Some seat; armed = None } → Restarted r opening told terms m posts (set posts m p) (slice_get posts m) count
restarted r opening told kept terms posts n m old p seat count size low is journal many starts e =
    subst (λ (o : Option Post). Restarted r opening told terms m posts (set posts m p) o count) (sym (slice_get_read posts n m old size low is))
    (record {
      kept = kept;
      state = seat.state;
      is = journal;
      many = many;
      starts = starts.0;
      posts = changed_is (starting terms m seat.state) posts n m old p size low is (e ∙ ap (λ (s : Seated). record old { standing = Some s; armed = None }) (placed_start terms m seat starts.1 starts.2 starts.3));
    })
