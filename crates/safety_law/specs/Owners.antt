-- What the certified transactions of an epoch have in common, in every run under the run assumptions: under a
-- third of the stake is faulty, no statement is forged, no digests collide. Source: Sui Lutris.
use Rattle.std.specs.Prelude.{◌≡◌, ◌⊎◌, ℕ, Bool, true, false, ◌==◌, List, [], ◌∷◌, ◌++◌, slice_get, Option, Some, None, if◌then◌else◌}
use Rattle.chain_types.specs.declared.objects.ObjectKey.{ObjectKey}
use Rattle.chain_types.specs.declared.transactions.SignedTx.{SignedTx}
use Rattle.chain_types.specs.Digests.{transaction_digest, consumed_keys}
use Rattle.chain_messages.specs.Messages as messages
use Rattle.chain_messages.specs.declared.messages.MemberSeal.{MemberSeal}
use Rattle.chain_messages.specs.declared.messages.Certificate.{Certificate}
use Rattle.journal_core.specs.declared.records.Record.TheVariants as record_as
use Rattle.schedule_text.specs.declared.words.Event.{Event}
use Rattle.protocol_spec.specs.Chain.Words.{Has, Each}
use Rattle.protocol_spec.specs.Chain.Certificates.{accepts_sender, vote_of, cert_refusal}
use Rattle.protocol_spec.specs.Member.Member.{fork_of}
use Rattle.protocol_spec.specs.Member.Calls.{Call, holds, called}
use Rattle.world_spec.specs.Setting.{Setting, member_seal}
use Rattle.world_spec.specs.World.{Seat, Said, World, new_world, said_under, member_in, is_honest, entries_at}
use Rattle.world_spec.specs.Moves.{Move, requests, delivers, claims, direct, claims_ack, move_of}
use Rattle.world_spec.specs.Run.{world_after}
use Rattle.world_spec.specs.Assumptions.{calls_of, asked, all_of, all_formed, all_delivered, HasSaid, IsCertified, NoForgery, IsHonestRun}

-- ---- statements

-- what was stated after some events is stated after more
abbrev pub StatementsOnlyGrow : Type 0
StatementsOnlyGrow = (s : Setting) (front back : List Event) (x : Said) → Has (world_after s front).said x → Has (world_after s (front ++ back)).said x

-- the member stated the vote that the certificate's seals are over
abbrev pub HasStated : World → Certificate → ℕ → Type 0
HasStated w c m = HasSaid w m (vote_of c)

-- the seal with which its member stated the vote, which is the member's own
abbrev pub IsCollected : Setting → World → Certificate → MemberSeal → Type 0
IsCollected s w c x = Has w.said (said_under x.seal x.member (vote_of c)) × (x.seal ≡ member_seal s x.member (vote_of c))

-- each member whose seal stands in a certificate that a line formed stated that vote under this seal, which is its own
abbrev pub FormedIsVotedFor : Type 0
FormedIsVotedFor = (s : Setting) (events : List Event) (c : Certificate) → Has (all_formed s events) c → Each (IsCollected s (world_after s events) c) c.seals

-- a certificate that a line formed, valid or not, or a valid one that a line delivered
abbrev pub IsFormedOrValid : Setting → List Event → Certificate → Type 0
IsFormedOrValid s events c = Has (all_formed s events) c ⊎ (Has (all_delivered s events) c × (cert_refusal s.rules c ≡ None))

-- each certificate that is certified was formed by a line, or is a valid one that a line delivered; the theorems
-- below hold of all of these
abbrev pub CertifiedIsFormedOrValid : Type 0
CertifiedIsFormedOrValid = (s : Setting) (events : List Event) (c : Certificate) → IsCertified s events c → IsFormedOrValid s events c

-- the member's journal has a vote for the certificate's transaction, with its origins
abbrev pub HasKept : World → Certificate → ℕ → Type 0
HasKept w c m = (seat : Seat) × (slice_get w.seats m ≡ Some seat) × Has seat.records (record_as.Vote c.tx c.origins)

-- for each certified transaction, each honest member whose seal stands in the certificate stated that vote, and has it
-- in its journal
abbrev pub CertifiedIsVotedFor : Type 0
CertifiedIsVotedFor = (s : Setting) (events : List Event) → IsHonestRun s events → (c : Certificate) → IsFormedOrValid s events c
    → (x : MemberSeal) → Has c.seals x → is_honest (world_after s events) x.member ≡ true
    → HasStated (world_after s events) c x.member × HasKept (world_after s events) c x.member

-- ---- one owner of each version

-- two certificates of one epoch that consume one version are of one transaction
abbrev pub OneOwner : Type 0
OneOwner = (s : Setting) (events : List Event) → IsHonestRun s events → (c d : Certificate) → IsFormedOrValid s events c → IsFormedOrValid s events d
    → c.tx.epoch ≡ d.tx.epoch → (key : ObjectKey) → Has (consumed_keys c.tx) key → Has (consumed_keys d.tx) key → c.tx ≡ d.tx

-- two certificates of one transaction name the same origins
abbrev pub OneListOfOrigins : Type 0
OneListOfOrigins = (s : Setting) (events : List Event) → IsHonestRun s events → (c d : Certificate) → IsFormedOrValid s events c → IsFormedOrValid s events d
    → transaction_digest c.tx ≡ transaction_digest d.tx → c.origins ≡ d.origins

-- ---- the sender

-- the member that a move calls
abbrev pub callee_of : Move → Option ℕ
callee_of (requests m ask) = Some m
callee_of (delivers m entries) = Some m
callee_of (claims m tx (claims_ack spoiled)) = Some m
callee_of mv = None

-- the member that a line calls
abbrev pub callee : Event → Option ℕ
callee e = callee_of (move_of e)

abbrev pub is_member : ℕ → Option ℕ → Bool
is_member m None = false
is_member m (Some n) = n == m

-- the signed transactions that a line hands to a member
unfoldable pub handed : ℕ → Setting → World → Event → List SignedTx
handed m s w e = if is_member m (callee e) then asked s w e else []

-- the signed transactions that the lines of a whole run hand to a member
abbrev pub all_handed : Setting → List Event → ℕ → List SignedTx
all_handed s events m = all_of (handed m) s events (new_world s)

-- for each certified transaction, some honest member was handed the transaction with a seal of its sender that is
-- accepted
abbrev pub SenderHasSigned : Type 0
SenderHasSigned = (s : Setting) (events : List Event) → IsHonestRun s events → (c : Certificate) → IsFormedOrValid s events c
    → (m : ℕ) × (x : SignedTx) × (is_honest (world_after s events) m ≡ true) × Has (all_handed s events m) x × (x.tx ≡ c.tx) × (accepts_sender s.rules x.tx x.seal ≡ true)

-- ---- forks

-- after each prefix of the events no member holds two certificates that consume one version; so none is halted
abbrev pub NoForkIsMet : Type 0
NoForkIsMet = (s : Setting) (front back : List Event) → IsHonestRun s (front ++ back) → (m : ℕ) (seat : Seat) → slice_get (world_after s front).seats m ≡ Some seat
    → fork_of (member_in s seat) ≡ None

-- no call of the next line leads a member to two such certificates, even if it stops at the append
abbrev pub NoCallMeetsAFork : Type 0
NoCallMeetsAFork = (s : Setting) (front back : List Event) (e : Event) → IsHonestRun s (front ++ e ∷ back) → (m : ℕ) (seat : Seat) → slice_get (world_after s front).seats m ≡ Some seat
    → (call : Call) → Has (calls_of s (world_after s front) e) call → fork_of (called s.rules (member_in s seat) call) ≡ None

-- ---- schedules without raw certificates

-- whether a move hands a member bytes of its own as a certificate
abbrev pub holds_raw : Move → Bool
holds_raw (requests m (direct (holds bytes))) = true
holds_raw mv = false

-- whether a line does
abbrev pub is_raw_hold : Event → Bool
is_raw_hold e = holds_raw (move_of e)

-- the certificates that the lines formed and the entries that they ordered are values of their Rust types, with no
-- list too long to be encoded
pub record AreSpellable (s : Setting) (events : List Event) : Type 0 where
  pub certificates : Each messages.certificate.fits (all_formed s events)
  pub entries : (epoch : ℕ) → Each messages.entry.fits (entries_at (world_after s events).sequences epoch)

-- without such lines no statement is forged: what the lines deliver was formed of votes that were stated, or is an
-- End that its member stated
abbrev pub NothingIsForged : Type 0
NothingIsForged = (s : Setting) (events : List Event) → Each (λ (e : Event). is_raw_hold e ≡ false) events
    → AreSpellable s events → NoForgery s events (new_world s)

-- ---- prefixes

-- the assumptions on a run hold for each prefix of its events
abbrev pub FrontsAreHonest : Type 0
FrontsAreHonest = (s : Setting) (front back : List Event) → IsHonestRun s (front ++ back) → IsHonestRun s front
