-- How ids, transactions and users are named: a name counts from its line on, and a transaction goes by the
-- first name of its digest. Source: this profile.
use Rattle.std.specs.Prelude.{ℕ, ◌+◌, Bool, ◌&&◌, ◌==◌, nat_lt, List, [], ◌∷◌, ◌++◌, map, find, length, fold, position, Option, Some, None, option_map, bytes_eq, decimal, if◌then◌else◌}
use Rattle.digest_core.specs.declared.Digest.{Digest}
use Rattle.digest_core.specs.Tagged.{created_id_of}
use Rattle.chain_types.specs.declared.objects.ObjectId.{ObjectId}
use Rattle.chain_types.specs.declared.objects.ObjectKey.{ObjectKey}
use Rattle.chain_types.specs.declared.objects.Address.{Address}
use Rattle.chain_types.specs.declared.objects.Object.{Object}
use Rattle.chain_types.specs.declared.transactions.Command.{Command}
use Rattle.chain_types.specs.declared.transactions.Command.TheVariants as command
use Rattle.chain_types.specs.declared.transactions.Transaction.{Transaction}
use Rattle.chain_messages.specs.declared.messages.Certificate.{Certificate}
use Rattle.chain_types.specs.Equal.{digest_eq, id_eq}
use Rattle.protocol_spec.specs.Chain.Words.{first_some, first_of, where_true, last_where, numbers_below}
use Rattle.world_spec.specs.Setting.{Name, User, Thing, Setting}
use Rattle.world_spec.specs.World.{WorldOf, Made, Formed, Drawn}

-- ---- by name

abbrev pub made_named : {S : Type 0} → WorldOf S → Name → Option Made
made_named w name = find (λ (t : Made). bytes_eq t.name name) w.txs

abbrev pub cert_in : Formed → Certificate
cert_in f = f.cert

-- the certificate that was formed last for this name
abbrev pub cert_named : {S : Type 0} → WorldOf S → Name → Option Certificate
cert_named w name = option_map cert_in (last_where (λ (f : Formed). bytes_eq f.name name) w.certs)

-- ---- names

-- ?
abbrev pub unnamed : Name
unnamed = 63 ∷ []

abbrev pub name_or : Option Name → Name
name_or None = unnamed
name_or (Some name) = name

abbrev pub made_name : Made → Name
made_name t = t.name

-- a transaction by its first name
abbrev pub tx_name : {S : Type 0} → WorldOf S → Digest → Name
tx_name w tx = name_or (option_map made_name (find (λ (t : Made). digest_eq t.digest tx) w.txs))

abbrev pub thing_name : ObjectId → Thing → Option Name
thing_name id t = where_true (id_eq t.id id) t.name

-- T.N
abbrev pub drawn_name : {S : Type 0} → WorldOf S → ObjectId → Drawn → Option Name
drawn_name w id d = where_true (id_eq d.id id) (tx_name w d.tx ++ 46 ∷ decimal d.number)

-- a set-up object by its name, a created one as T.N
abbrev pub object_name : {S : Type 0} → Setting → WorldOf S → ObjectId → Name
object_name s w id = name_or (first_some (first_of (thing_name id) s.things ∷ first_of (drawn_name w id) w.drawn ∷ []))

-- OBJ@V
abbrev pub key_name : {S : Type 0} → Setting → WorldOf S → ObjectKey → Name
key_name s w key = object_name s w key.id ++ 64 ∷ decimal key.version

abbrev pub user_name : Address → User → Option Name
user_name a u = where_true (digest_eq u.address a.0) u.name

abbrev pub address_name : {S : Type 0} → WorldOf S → Address → Name
address_name w a = name_or (first_of (user_name a) w.users)

-- ---- the ids that a transaction's line names

-- a Split draws one for each amount, and a Call two at most
abbrev pub draws_of : Command → ℕ
draws_of (command.Call native args) = 2
draws_of (command.Transfer values to) = 0
draws_of (command.Split coin amounts) = length amounts
draws_of (command.Merge target sources) = 0
draws_of (command.MakeVec kind values) = 0

abbrev pub draws : List Command → ℕ
draws [] = 0
draws (c ∷ cs) = draws_of c + draws cs

abbrev pub drawn_as : Digest → ℕ → Drawn
drawn_as tx number = record { id = record { 0 = created_id_of tx number }; tx = tx; number = number }

abbrev pub drawn_by : Digest → Transaction → List Drawn
drawn_by tx t = map (drawn_as tx) (numbers_below (draws t.commands))

-- ---- the order in which objects are shown

abbrev pub place_or : ℕ → Option ℕ → ℕ
place_or none None = none
place_or none (Some n) = n

abbrev pub drawn_rank : {S : Type 0} → WorldOf S → Option Drawn → ℕ × ℕ
drawn_rank w None = (length w.txs, 0)
drawn_rank w (Some d) = (place_or (length w.txs) (position (λ (t : Made). digest_eq t.digest d.tx) w.txs), d.number)

abbrev pub rank_or : {S : Type 0} → WorldOf S → ObjectId → Option ℕ → (ℕ × ℕ) × ℕ
rank_or w id (Some n) = ((0, n), 0)
rank_or w id None = ((1, (drawn_rank w (find (λ (d : Drawn). id_eq d.id id) w.drawn)).0), (drawn_rank w (find (λ (d : Drawn). id_eq d.id id) w.drawn)).1)

-- set-up objects by their lines, then created ones by the line that first made their transaction and by number
abbrev pub rank : {S : Type 0} → Setting → WorldOf S → Object → (ℕ × ℕ) × ℕ
rank s w o = rank_or w o.id (position (λ (t : Thing). id_eq t.id o.id) s.things)

abbrev pub pair_lt : (ℕ × ℕ) → (ℕ × ℕ) → Bool
pair_lt a b = if a.0 == b.0 then nat_lt a.1 b.1 else nat_lt a.0 b.0

abbrev pub rank_lt : ((ℕ × ℕ) × ℕ) → ((ℕ × ℕ) × ℕ) → Bool
rank_lt a b = if (a.0.0 == b.0.0) && (a.0.1 == b.0.1) then nat_lt a.1 b.1 else pair_lt a.0 b.0

-- the list with this object put in before the first that comes after it
abbrev pub shown_among : {S : Type 0} → Setting → WorldOf S → Object → List Object → List Object
shown_among s w o [] = o ∷ []
shown_among s w o (p ∷ ps) = if rank_lt (rank s w o) (rank s w p) then o ∷ p ∷ ps else p ∷ shown_among s w o ps

-- unnamed ones come last, by ascending id as the list has them
abbrev pub shown_order : {S : Type 0} → Setting → WorldOf S → List Object → List Object
shown_order s w objects = fold (λ (done : List Object) (o : Object). shown_among s w o done) [] objects
