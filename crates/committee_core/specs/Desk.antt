-- What the program promises of `desk N`: N callers ask member 0 of the schedule's set-up for its votes, each for the
-- transactions of its `tx` lines, and one history of their calls is written.
use Rattle.std.specs.Prelude.{◌≡◌, ◌⊎◌, ℕ, Bool, true, false, List, [], ◌∷◌, ◌++◌, Option, Some, Result, Ok, Err, codes, decimal, length, map, replicate}
use Rattle.std.specs.List.{flat_map, list_all}
use Rattle.std.specs.Io.KnownBytes.{Appends, Keeps}
use Rattle.digest_core.specs.declared.Digest.{Digest}
use Rattle.wire_bcs.specs.declared.fault.WireFault.{WireFault}
use Rattle.outside.specs.Causes.{Rose}
use Rattle.outside.specs.Streams.{AppendsFront, ReadsText}
use Rattle.chain_types.specs.declared.transactions.SignedTx.{SignedTx}
use Rattle.chain_types.specs.Digests.{transaction_digest}
use Rattle.chain_types.specs.Transactions as transactions
use Rattle.report_text.specs.declared.lines.Line.{Line}
use Rattle.report_text.specs.declared.lines.Line.TheVariants as line
use Rattle.report_text.specs.Text.{text_of}
use Rattle.schedule_text.specs.declared.words.Event.{Event}
use Rattle.schedule_text.specs.declared.words.Schedule.{Schedule}
use Rattle.schedule_text.specs.Schedule.{Refused, longest_text, schedule_of}
use Rattle.protocol_spec.specs.Chain.Certificates.{read_signed}
use Rattle.protocol_spec.specs.Member.Checkpoints.{zero_digest}
use Rattle.protocol_spec.specs.Member.Member.{fresh}
use Rattle.world_spec.specs.Setting.{Setting, Trust}
use Rattle.world_spec.specs.World.{Made, World, is_honest, new_world}
use Rattle.world_spec.specs.Names.{tx_name}
use Rattle.world_spec.specs.Moves.{Move, makes_tx, move_of}
use Rattle.world_spec.specs.Report.{vote_answered}
use Rattle.world_spec.specs.Run.{world_after}
use Rattle.world_spec.specs.Known.{Known}
use Rattle.world_spec.specs.Posts.{seat_at}
use Rattle.world_spec.specs.Terms.{terms_of}
use Rattle.world_lines.specs.Answers.{vote_as}
use Rattle.world_core.specs.Looks.{vote_line_by}
use Rattle.vote_desk.specs.declared.entry.DeskEntry.{DeskEntry}
use Rattle.vote_desk.specs.declared.standing.DeskView.{DeskView}
use Rattle.vote_desk.specs.Callers.{AreAnswered, asked_in}
use Rattle.vote_desk.specs.Dealt.{AreMadeBy}
use Rattle.vote_desk.specs.Histories.{IsLegal}
use Rattle.vote_desk.specs.Votes.{Accepts, FollowsUnder, standing}
use Rattle.committee_core.specs.Headline.{program_trust}
use Rattle.committee_core.specs.Outside.{Outside}
use Rattle.committee_core.specs.Replay.{Writing}
use Rattle.committee_core.specs.Report.{refusal_text, setting_in}

-- ---- what is asked for

abbrev pub makes_only : Move → Bool
makes_only (makes_tx l) = true
makes_only mv = false

abbrev pub is_tx : Event → Bool
is_tx e = makes_only (move_of e)

abbrev pub are_txs : Schedule → Bool
are_txs s = list_all is_tx s.events

-- the world after the lines, in which each `tx` line has made its transaction
abbrev pub desk_world : Trust → Schedule → World
desk_world trust s = world_after (setting_in trust s) s.events

-- the bytes of a transaction that a line made
abbrev pub signed_bytes : Made → List ℕ
signed_bytes t = transactions.signed.spell t.signed

-- ---- the history

-- member 0 as the set-up has it, behind a desk over the seals that are accepted and a keeper in memory with an empty
-- list for each of 64 members
abbrev pub desk_opening : Trust → Schedule → DeskView Accepts
desk_opening trust s = standing (seat_at (terms_of (setting_in trust s).rules) 0 (fresh (setting_in trust s).opening)) trust.accepts 0 (Some (replicate 64 []))

-- a history of the desk: this many callers ask, in turns, for the transactions of the lines. Each call is answered as
-- if one member answered the calls one after the other
pub record AreVotes (trust : Trust) (callers : ℕ) (s : Schedule) (entries : List DeskEntry) : Type 0 where
  pub legal : IsLegal FollowsUnder (desk_opening trust s) entries
  pub made : AreMadeBy callers (map signed_bytes (desk_world trust s).txs) (asked_in entries)
  pub answered : AreAnswered entries

-- ---- what is written of it

-- the digest of the transaction that the bytes encode
abbrev pub digest_read : Result SignedTx WireFault → Digest
digest_read (Ok x) = transaction_digest x.tx
digest_read (Err fault) = zero_digest

-- the line of a vote of member 0, by the name of the transaction that was asked for
abbrev pub call_line : Setting → World → DeskEntry → Line
call_line s w e = line.Vote 0 (tx_name w (digest_read (read_signed e.bytes))) (vote_answered s w (vote_as e.reply))

-- the line of a vote of member 0, in terms of the directory of names (no whole world)
abbrev pub call_line_by : Known → DeskEntry → Line
call_line_by k e = vote_line_by k 0 (digest_read (read_signed e.bytes)) (vote_as e.reply)

-- the bytes of the line of a call: two spaces, then the line
abbrev pub call_text : Line → List ℕ
call_text l = 32 ∷ 32 ∷ text_of l

-- `desk 0: calls C`
abbrev pub desk_head : ℕ → List ℕ
desk_head calls = codes "desk 0: calls " ++ decimal calls ++ 10 ∷ []

-- the bytes that `desk` writes for a history: the line `desk 0: calls C`, then the line of each call in order
abbrev pub text_by : (DeskEntry → Line) → List DeskEntry → List ℕ
text_by line_of entries = desk_head (length entries) ++ flat_map (λ (e : DeskEntry). call_text (line_of e)) entries

abbrev pub desk_text : Setting → World → List DeskEntry → List ℕ
desk_text s w entries = text_by (call_line s w) entries

-- `desk: only tx lines`
abbrev pub only_tx_text : List ℕ
only_tx_text = codes "desk: only tx lines" ++ 10 ∷ []

-- `desk: no honest member`
abbrev pub none_honest_text : List ℕ
none_honest_text = codes "desk: no honest member" ++ 10 ∷ []

-- ---- how it ends if nothing fails: a status, and the bytes that it writes

-- one history of the callers is written, with status 0
pub record IsVoted (trust : Trust) (callers : ℕ) (s : Schedule) (status : ℕ) (text : List ℕ) : Type 0 where
  pub entries : List DeskEntry
  pub votes : AreVotes trust callers s entries
  pub nil : status ≡ 0
  pub is : text ≡ desk_text (setting_in trust s) (desk_world trust s) entries

-- how `desk` ends for a schedule: refused if not all its lines are `tx`, then if member 0 is not honest, and else with
-- a history
abbrev pub EndsBy : Bool → Bool → Trust → ℕ → Schedule → ℕ → List ℕ → Type 0
EndsBy false honest trust callers s status text = (status ≡ 8) × (text ≡ only_tx_text)
EndsBy true false trust callers s status text = (status ≡ 8) × (text ≡ none_honest_text)
EndsBy true true trust callers s status text = IsVoted trust callers s status text

-- how it ends for any text: one that is not a schedule is refused
abbrev pub EndsAs : Trust → ℕ → Result Schedule Refused → ℕ → List ℕ → Type 0
EndsAs trust callers (Ok s) status text = EndsBy (are_txs s) (is_honest (new_world (setting_in trust s)) 0) trust callers s status text
EndsAs trust callers (Err r) status text = (status ≡ 3) × (text ≡ refusal_text r)

-- bytes with which `desk` may end were written, in the way that `Writes` says (all of them, or a prefix)
pub record IsSaid (trust : Trust) (callers : ℕ) (read : Result Schedule Refused) (Writes : Writing) (status : ℕ) (held held' : Option (List ℕ)) : Type 0 where
  pub said : List ℕ
  pub ends : EndsAs trust callers read status said
  pub written : Writes held held' said

-- nothing was written, or a prefix of bytes with which `desk` may end
abbrev pub IsSaidCut : Trust → ℕ → Result Schedule Refused → Option (List ℕ) → Option (List ℕ) → Type 0
IsSaidCut trust callers read held held' = Keeps held held' ⊎ ((status : ℕ) × IsSaid trust callers read AppendsFront status held held')

-- the text was read, to the end of the source or to one byte past the limit, and this was written for it
pub record SaysOfDesk (callers : ℕ) (Writes : Writing) (status : ℕ) (left left' held held' : Option (List ℕ)) : Type 0 where
  pub text : List ℕ
  pub read : ReadsText longest_text left left' text
  pub says : IsSaid program_trust callers (schedule_of text) Writes status held held'

-- nothing was written, or a prefix of what may be written for the text
abbrev pub IsDeskCut : ℕ → Option (List ℕ) → Option (List ℕ) → Option (List ℕ) → Option (List ℕ) → Type 0
IsDeskCut callers left left' held held' = Keeps held held' ⊎ ((status : ℕ) × SaysOfDesk callers AppendsFront status left left' held held')

-- how `desk N` may end, by its status; the keeper stays as it was
pub record DeskEnds (callers : ℕ) (before now : Outside) (status : ℕ) : Type 0 where
  pub known : (status ≡ 0) ⊎ (status ≡ 3) ⊎ (status ≡ 4) ⊎ (status ≡ 5) ⊎ (status ≡ 7) ⊎ (status ≡ 8)
  pub whole : (status ≡ 0) ⊎ (status ≡ 3) ⊎ (status ≡ 8) → SaysOfDesk callers Appends status before.left now.left before.held now.held
  pub read_fault : status ≡ 4 → Rose before.read_faults now.read_faults
  pub unwritten : status ≡ 4 → Keeps before.held now.held
  pub write_fault : status ≡ 5 → Rose before.write_faults now.write_faults
  pub cut : (status ≡ 5) ⊎ (status ≡ 7) → IsDeskCut callers before.left now.left before.held now.held
  pub kept : now.kept ≡ before.kept
