-- What the set-up lines of a schedule fix for its whole run. Source: this profile.
use Rattle.std.specs.Prelude.{ℕ, ◌+◌, Bool, List, [], ◌∷◌, ◌++◌, fold, Option, Some, None, if◌then◌else◌}
use Rattle.std.specs.List.{list_any}
use Rattle.digest_core.specs.declared.Digest.{Digest}
use Rattle.digest_core.specs.Tagged.{genesis_id_of, address_of_name}
use Rattle.quorum_core.specs.declared.signer.Signer.{Signer}
use Rattle.quorum_core.specs.declared.signer.Signer.TheVariants as signers
use Rattle.chain_types.specs.Transactions as transactions
use Rattle.chain_messages.specs.Messages as messages
use Rattle.chain_types.specs.declared.objects.ObjectId.{ObjectId}
use Rattle.chain_types.specs.declared.objects.Owner.TheVariants as owner
use Rattle.chain_types.specs.declared.objects.Content.{Content}
use Rattle.chain_types.specs.declared.objects.Content.TheVariants as content
use Rattle.chain_types.specs.declared.objects.Object.{Object}
use Rattle.chain_types.specs.declared.transactions.Transaction.{Transaction}
use Rattle.chain_messages.specs.declared.messages.Statement.{Statement}
use Rattle.schedule_text.specs.declared.words.Setup.{Setup}
use Rattle.schedule_text.specs.declared.words.Setup.TheVariants as line
use Rattle.chain_types.specs.Equal.{id_eq}
use Rattle.protocol_spec.specs.Chain.Certificates.{Rules}

-- a name, which is a list of bytes
abbrev pub Name : Type 0
Name = List ℕ

-- a user's name and address
pub record User : Type 0 where
  pub name : Name
  pub address : Digest

-- a set-up object's name and id
pub record Thing : Type 0 where
  pub name : Name
  pub id : ObjectId

-- how seals are made and accepted
pub record Trust : Type 0 where
  pub seal : Signer → List ℕ → Digest
  pub accepts : Signer → List ℕ → Digest → Bool

-- the committee's rules, which members are honest, the opening objects, the names of the set-up, and how seals are made
pub record Setting : Type 0 where
  pub rules : Rules
  pub honest : List Bool
  pub opening : List Object
  pub things : List Thing
  pub users : List User
  pub seal : Signer → List ℕ → Digest

abbrev pub user_of : Name → User
user_of name = record { name = name; address = address_of_name name }

-- ---- set-up lines

abbrev pub stakes_of : List Setup → List ℕ
stakes_of [] = []
stakes_of (line.Member stake honest ∷ lines) = stake ∷ stakes_of lines
stakes_of (line.Coin name who balance ∷ lines) = stakes_of lines
stakes_of (line.Counter name value ∷ lines) = stakes_of lines
stakes_of (line.Cap name who currency ∷ lines) = stakes_of lines
stakes_of (line.Writers n ∷ lines) = stakes_of lines

abbrev pub honest_of : List Setup → List Bool
honest_of [] = []
honest_of (line.Member stake honest ∷ lines) = honest ∷ honest_of lines
honest_of (line.Coin name who balance ∷ lines) = honest_of lines
honest_of (line.Counter name value ∷ lines) = honest_of lines
honest_of (line.Cap name who currency ∷ lines) = honest_of lines
honest_of (line.Writers n ∷ lines) = honest_of lines

-- the limit of writers, none without such a line
abbrev pub writers_of : List Setup → Option ℕ
writers_of [] = None
writers_of (line.Member stake honest ∷ lines) = writers_of lines
writers_of (line.Coin name who balance ∷ lines) = writers_of lines
writers_of (line.Counter name value ∷ lines) = writers_of lines
writers_of (line.Cap name who currency ∷ lines) = writers_of lines
writers_of (line.Writers n ∷ lines) = Some n

-- the id of the n-th object, coins, counters and caps counted together
abbrev pub thing_id : ℕ → ObjectId
thing_id n = record { 0 = genesis_id_of n }

abbrev pub owned_thing : ℕ → Name → Content → Object
owned_thing n who what = record { id = thing_id n; version = 1; owner = owner.Address (record { 0 = address_of_name who }); content = what }

abbrev pub shared_thing : ℕ → Content → Object
shared_thing n what = record { id = thing_id n; version = 1; owner = owner.Shared 1; content = what }

-- the objects of the lines, numbered from n
abbrev pub objects_from : ℕ → List Setup → List Object
objects_from n [] = []
objects_from n (line.Member stake honest ∷ lines) = objects_from n lines
objects_from n (line.Coin name who balance ∷ lines) = owned_thing n who (content.Coin 0 balance) ∷ objects_from (n + 1) lines
objects_from n (line.Counter name value ∷ lines) = shared_thing n (content.Counter value) ∷ objects_from (n + 1) lines
objects_from n (line.Cap name who currency ∷ lines) = owned_thing n who (content.Cap currency 0) ∷ objects_from (n + 1) lines
objects_from n (line.Writers w ∷ lines) = objects_from n lines

-- the objects with this one at the end; left out if an earlier one has its id
abbrev pub with_new : List Object → Object → List Object
with_new objects o = if list_any (λ (p : Object). id_eq p.id o.id) objects then objects else objects ++ o ∷ []

abbrev pub things_from : ℕ → List Setup → List Thing
things_from n [] = []
things_from n (line.Member stake honest ∷ lines) = things_from n lines
things_from n (line.Coin name who balance ∷ lines) = record { name = name; id = thing_id n } ∷ things_from (n + 1) lines
things_from n (line.Counter name value ∷ lines) = record { name = name; id = thing_id n } ∷ things_from (n + 1) lines
things_from n (line.Cap name who currency ∷ lines) = record { name = name; id = thing_id n } ∷ things_from (n + 1) lines
things_from n (line.Writers w ∷ lines) = things_from n lines

abbrev pub owners_of : List Setup → List User
owners_of [] = []
owners_of (line.Member stake honest ∷ lines) = owners_of lines
owners_of (line.Coin name who balance ∷ lines) = user_of who ∷ owners_of lines
owners_of (line.Counter name value ∷ lines) = owners_of lines
owners_of (line.Cap name who currency ∷ lines) = user_of who ∷ owners_of lines
owners_of (line.Writers w ∷ lines) = owners_of lines

abbrev pub rules_of : Trust → List Setup → Rules
rules_of trust lines = record {
  stakes = stakes_of lines;
  writers = writers_of lines;
  accepts = trust.accepts;
}

-- what the set-up lines fix
unfoldable pub setting_of : Trust → List Setup → Setting
setting_of trust lines = record {
  rules = rules_of trust lines;
  honest = honest_of lines;
  opening = fold with_new [] (objects_from 0 lines);
  things = things_from 0 lines;
  users = owners_of lines;
  seal = trust.seal;
}

-- a member's seal on a statement, if seals are made so
abbrev pub seal_of_member : (Signer → List ℕ → Digest) → ℕ → Statement → Digest
seal_of_member seal m st = seal (signers.Member m) (messages.statement.spell st)

-- a member's seal on a statement, and a sender's on its transaction
abbrev pub member_seal : Setting → ℕ → Statement → Digest
member_seal s m st = seal_of_member s.seal m st

abbrev pub sender_seal : Setting → Transaction → Digest
sender_seal s t = s.seal (signers.User t.sender.0) (transactions.transaction.spell t)
