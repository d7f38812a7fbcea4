-- The run assumptions, and what is certified, delivered and final in a run. Source: Sui Lutris (under a third
-- of the stake is faulty, signatures are not forged, digests do not collide).
use Rattle.std.specs.Prelude.{◌≡◌, ◌<◌, ℕ, zero, suc, ◌*◌, min, Bool, true, not, List, [], ◌∷◌, ◌++◌, map, flat_map, slice_get, Option, Some, None, option_map, Result, Ok, Err}
use Rattle.wire_bcs.specs.declared.fault.WireFault.{WireFault}
use Rattle.digest_core.specs.declared.Digest.{Digest}
use Rattle.digest_core.specs.Tagged.{created_id_of}
use Rattle.chain_types.specs.declared.objects.ObjectId.{ObjectId}
use Rattle.chain_types.specs.declared.objects.Object.{Object}
use Rattle.chain_types.specs.declared.transactions.Transaction.{Transaction}
use Rattle.chain_types.specs.declared.transactions.SignedTx.{SignedTx}
use Rattle.chain_messages.specs.declared.messages.Statement.{Statement}
use Rattle.chain_messages.specs.declared.messages.Statement.TheVariants as statement
use Rattle.chain_messages.specs.declared.messages.Sealed.{Sealed}
use Rattle.chain_messages.specs.declared.messages.MemberSeal.{MemberSeal}
use Rattle.chain_messages.specs.declared.messages.Certificate.{Certificate}
use Rattle.chain_messages.specs.declared.messages.Entry.{Entry}
use Rattle.chain_messages.specs.declared.messages.Entry.TheVariants as entry
use Rattle.schedule_text.specs.declared.words.Event.{Event}
use Rattle.chain_types.specs.Digests.{transaction_digest}
use Rattle.protocol_spec.specs.Chain.Words.{Has, Each}
use Rattle.protocol_spec.specs.Chain.Committee.{weight, weight_of, total_of, is_quorum, is_roll}
use Rattle.protocol_spec.specs.Chain.Certificates.{Rules, accepts_statement, read_signed, read_certificate, read_entry, vote_of, cert_refusal}
use Rattle.protocol_spec.specs.Member.Calls.{Call, votes, holds, sees, runs, closes, ends, turns, acks}
use Rattle.world_spec.specs.Setting.{Setting}
use Rattle.world_spec.specs.World.{Made, Formed, World, new_world, called_if, is_honest, member_at, next_call}
use Rattle.world_spec.specs.Names.{made_named, draws}
use Rattle.world_spec.specs.Moves.{Move, requests, delivers, claims, Claim, claims_vote, claims_ack, signed_call, held_call, requested, move_of}
use Rattle.world_spec.specs.Step.{happens, entries_left}
use Rattle.world_spec.specs.Run.{world_after}

-- ---- what reaches the members

abbrev pub call_list : Option Call → List Call
call_list None = []
call_list (Some call) = call ∷ []

abbrev pub vote_call : Option Made → List Call
vote_call t = call_list (option_map signed_call t)

abbrev pub send_call : Option Certificate → List Call
send_call c = call_list (option_map held_call c)

-- the entries that a member takes, one after the other
abbrev pub see_calls : Setting → ℕ → World → ℕ → List Call
see_calls s zero w m = []
see_calls s (suc n) w m = call_list (next_call s w m) ++ see_calls s n (called_if s w m (next_call s w m)) m

abbrev pub ack_call : Option Made → List Call
ack_call None = []
ack_call (Some t) = acks t.digest ∷ []

-- an acknowledgement is asked for by a call, which a faulty member answers as it likes; a false vote is no call
abbrev pub claim_calls : Claim → Option Made → List Call
claim_calls (claims_vote origins) t = []
claim_calls (claims_ack spoiled) t = ack_call t

-- the calls that a move makes on its member, in order
abbrev pub calls_by : Setting → World → Move → List Call
calls_by s w (requests m ask) = call_list (requested w ask)
calls_by s w (delivers m entries) = see_calls s (min entries (entries_left w (member_at s w m))) w m
calls_by s w (claims m tx claim) = claim_calls claim (made_named w tx)
calls_by s w mv = []

-- the calls that a line makes on its member, in order
abbrev pub calls_of : Setting → World → Event → List Call
calls_of s w e = calls_by s w (move_of e)

abbrev pub read_list : {A : Type 0} → Result A WireFault → List A
read_list (Ok x) = x ∷ []
read_list (Err fault) = []

abbrev pub entry_certificates : Entry → List Certificate
entry_certificates (entry.Cert c) = c ∷ []
entry_certificates (entry.End s) = []
entry_certificates entry.Commit = []

abbrev pub entry_ends : Entry → List Sealed
entry_ends (entry.Cert c) = []
entry_ends (entry.End s) = s ∷ []
entry_ends entry.Commit = []

-- the certificates, the sealed statements and the transactions that are read from the bytes of a call
abbrev pub certificates_read : Rules → Call → List Certificate
certificates_read r (votes bytes) = []
certificates_read r (holds bytes) = read_list (read_certificate bytes)
certificates_read r (sees number bytes) = flat_map entry_certificates (read_list (read_entry bytes))
certificates_read r runs = []
certificates_read r closes = []
certificates_read r ends = []
certificates_read r turns = []
certificates_read r (acks tx) = []

abbrev pub ends_read : Rules → Call → List Sealed
ends_read r (votes bytes) = []
ends_read r (holds bytes) = []
ends_read r (sees number bytes) = flat_map entry_ends (read_list (read_entry bytes))
ends_read r runs = []
ends_read r closes = []
ends_read r ends = []
ends_read r turns = []
ends_read r (acks tx) = []

abbrev pub signed_read : Rules → Call → List SignedTx
signed_read r (votes bytes) = read_list (read_signed bytes)
signed_read r (holds bytes) = []
signed_read r (sees number bytes) = []
signed_read r runs = []
signed_read r closes = []
signed_read r ends = []
signed_read r turns = []
signed_read r (acks tx) = []

-- ---- delivered, formed, certified

-- the certificates that a line delivers, even if the call is refused or the entry is ignored
unfoldable pub delivered : Setting → World → Event → List Certificate
delivered s w e = flat_map (certificates_read s.rules) (calls_of s w e)

unfoldable pub delivered_ends : Setting → World → Event → List Sealed
delivered_ends s w e = flat_map (ends_read s.rules) (calls_of s w e)

-- the signed transactions that a line hands to a member
unfoldable pub asked : Setting → World → Event → List SignedTx
asked s w e = flat_map (signed_read s.rules) (calls_of s w e)

-- over a whole run
abbrev pub all_of : {A : Type 0} → (Setting → World → Event → List A) → Setting → List Event → World → List A
all_of says s [] w = []
all_of says s (e ∷ events) w = says s w e ++ all_of says s events (happens s w e)

unfoldable pub all_delivered : Setting → List Event → List Certificate
all_delivered s events = all_of delivered s events (new_world s)

-- the certificates that the lines formed
unfoldable pub all_formed : Setting → List Event → List Certificate
all_formed s events = map (λ (f : Formed). f.cert) (world_after s events).certs

-- a valid certificate that was formed or delivered
pub record IsCertified (s : Setting) (events : List Event) (c : Certificate) : Type 0 where
  pub comes : Has (all_formed s events ++ all_delivered s events) c
  pub valid : cert_refusal s.rules c ≡ None

-- the transactions that were made or read
unfoldable pub all_transactions : Setting → List Event → List Transaction
all_transactions s events =
    map (λ (t : Made). t.signed.tx) (world_after s events).txs
    ++ (map (λ (x : SignedTx). x.tx) (all_of asked s events (new_world s)) ++ map (λ (c : Certificate). c.tx) (all_formed s events ++ all_delivered s events))

-- ---- the assumptions

abbrev pub is_faulty_one : Option Bool → Bool
is_faulty_one None = true
is_faulty_one (Some honest) = not honest

abbrev pub is_faulty_in : List Bool → ℕ → Bool
is_faulty_in honest m = is_faulty_one (slice_get honest m)

-- under a third of the stake is faulty
abbrev pub FewFaulty : Setting → Type 0
FewFaulty s = 3 * weight_of s.rules.stakes (is_faulty_in s.honest) < total_of s.rules.stakes

-- a member made this statement, whichever seal was kept of it
abbrev pub HasSaid : World → ℕ → Statement → Type 0
HasSaid w m st = (seal : Option Digest) × Has w.said (record { member = m; statement = st; seal = seal })

-- if the member is honest and the seal is accepted as its own, then it has made this statement in this world
abbrev pub IsStated : Setting → World → ℕ → Statement → Digest → Type 0
IsStated s w m st seal = is_honest w m ≡ true → accepts_statement s.rules m st seal ≡ true → HasSaid w m st

abbrev pub IsUnforged : Setting → World → Certificate → Type 0
IsUnforged s w c = Each (λ (x : MemberSeal). IsStated s w x.member (vote_of c) x.seal) c.seals

abbrev pub IsUnforgedEnd : Setting → World → Sealed → Type 0
IsUnforgedEnd s w x = IsStated s w x.member x.statement x.seal

-- each accepted seal of an honest member, in a certificate or an End that is delivered, is over a statement
-- that it made before
abbrev pub NoForgery : Setting → List Event → World → Type 0
NoForgery s [] w = Unit {0}
NoForgery s (e ∷ events) w = Each (IsUnforged s w) (delivered s w e) × Each (IsUnforgedEnd s w) (delivered_ends s w e) × NoForgery s events (happens s w e)

-- different transactions of the run have different digests
abbrev pub TransactionsApart : List Transaction → Type 0
TransactionsApart txs = (t u : Transaction) → Has txs t → Has txs u → transaction_digest t ≡ transaction_digest u → t ≡ u

abbrev pub created : Transaction → ℕ → ObjectId
created t n = record { 0 = created_id_of (transaction_digest t) n }

-- all ids that the commands of transactions can draw are different, within one transaction too, and none is an id of
-- the set-up
pub record IdsApart (s : Setting) (txs : List Transaction) : Type 0 where
  pub drawn : (t u : Transaction) → Has txs t → Has txs u → (n k : ℕ) → n < draws t.commands → k < draws u.commands → created t n ≡ created u k → (transaction_digest t ≡ transaction_digest u) × (n ≡ k)
  pub opened : (t : Transaction) → Has txs t → (n : ℕ) → n < draws t.commands → (o : Object) → Has s.opening o → o.id ≡ created t n → ⊥

-- the premises of the promises over whole runs
pub record IsHonestRun (s : Setting) (events : List Event) : Type 0 where
  pub few_faulty : FewFaulty s
  pub no_forgery : NoForgery s events (new_world s)
  pub transactions : TransactionsApart (all_transactions s events)
  pub ids : IdsApart s (all_transactions s events)

-- ---- finality

-- members of a quorum acknowledged one effects digest of a transaction, in its epoch
pub record IsFinal (s : Setting) (w : World) (epoch : ℕ) (tx effects : Digest) (members : List ℕ) : Type 0 where
  pub known : is_roll s.rules.stakes members ≡ true
  pub quorum : is_quorum s.rules.stakes (weight s.rules.stakes members) ≡ true
  pub said : Each (λ m. HasSaid w m (statement.Ack epoch tx effects)) members
