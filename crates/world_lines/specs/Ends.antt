-- The Ends of an epoch among the entries of its sequence, and whether they end it. Source: Sui Lutris.
use Rattle.std.specs.Prelude.{ℕ, ◌==◌, ◌&&◌, Bool, List, [], ◌∷◌, ◌++◌, map, Option, Some, None, Result, Ok, Err, if◌then◌else◌}
use Rattle.std.specs.List.{filter, filter_map, list_any}
use Rattle.digest_core.specs.declared.Digest.{Digest}
use Rattle.wire_bcs.specs.declared.fault.WireFault.{WireFault}
use Rattle.quorum_core.specs.Committee.{is_quorum, weight}
use Rattle.quorum_core.specs.declared.signer.Signer.{Signer}
use Rattle.quorum_core.specs.declared.signer.Signer.TheVariants as signers
use Rattle.chain_types.specs.Equal.{digest_eq}
use Rattle.chain_messages.specs.Messages as messages
use Rattle.chain_messages.specs.declared.messages.Entry.{Entry}
use Rattle.chain_messages.specs.declared.messages.Entry.TheVariants as entry
use Rattle.chain_messages.specs.declared.messages.MemberSeal.{MemberSeal}
use Rattle.chain_messages.specs.declared.messages.Sealed.{Sealed}
use Rattle.chain_messages.specs.declared.messages.Statement.{Statement}
use Rattle.chain_messages.specs.declared.messages.Statement.TheVariants as statement
use Rattle.protocol_spec.specs.Chain.Certificates.{read_entry}
use Rattle.protocol_spec.specs.Chain.Words.{where_true}

-- ---- the Ends of an epoch

-- the member and seal of a sealed statement that is an End of this epoch; none for any other statement
abbrev pub end_stated : ℕ → Sealed → Statement → Option MemberSeal
end_stated epoch s (statement.Vote of_epoch tx origins) = None
end_stated epoch s (statement.End of_epoch) = where_true (of_epoch == epoch) (record { member = s.member; seal = s.seal })
end_stated epoch s (statement.Checkpoint of_epoch number digest) = None
end_stated epoch s (statement.Ack of_epoch tx effects) = None

-- the member and seal of an entry that is an End of this epoch; none for any other entry
abbrev pub end_in : ℕ → Entry → Option MemberSeal
end_in epoch (entry.Cert c) = None
end_in epoch (entry.End s) = end_stated epoch s s.statement
end_in epoch entry.Commit = None

abbrev pub end_of_read : ℕ → Result Entry WireFault → Option MemberSeal
end_of_read epoch (Ok e) = end_in epoch e
end_of_read epoch (Err fault) = None

-- the member and seal of an End of this epoch among the bytes of an entry, as a member reads them; none if they are
-- anything else
unfoldable pub end_read : ℕ → List ℕ → Option MemberSeal
end_read epoch bytes = end_of_read epoch (read_entry bytes)

-- the Ends of an epoch among the bytes of entries
abbrev pub ends_read : ℕ → List (List ℕ) → List MemberSeal
ends_read epoch entries = filter_map (end_read epoch) entries

-- ---- whether they end it

-- whether a seal is accepted as its member's on an End of this epoch
abbrev pub is_accepted : (Signer → List ℕ → Digest → Bool) → ℕ → MemberSeal → Bool
is_accepted accepts epoch x = accepts (signers.Member x.member) (messages.statement.spell (statement.End epoch)) x.seal

-- the members of those Ends whose seal is accepted, one for each such End
abbrev pub ended_by : (Signer → List ℕ → Digest → Bool) → ℕ → List MemberSeal → List ℕ
ended_by accepts epoch ends = map (λ (x : MemberSeal). x.member) (filter (is_accepted accepts epoch) ends)

-- whether these Ends end the epoch: the members whose seal is accepted are a quorum, each counted once
unfoldable pub are_an_end : List ℕ → (Signer → List ℕ → Digest → Bool) → ℕ → List MemberSeal → Bool
are_an_end stakes accepts epoch ends = is_quorum stakes (weight stakes (ended_by accepts epoch ends))

-- ---- kept Ends

-- whether two Ends are of one member and have one seal
abbrev pub is_same : MemberSeal → MemberSeal → Bool
is_same x y = (x.member == y.member) && digest_eq x.seal y.seal

-- the Ends with this one at the end, if there is one and it is not there already
abbrev pub with_end : List MemberSeal → Option MemberSeal → List MemberSeal
with_end ends None = ends
with_end ends (Some x) = if list_any (is_same x) ends then ends else ends ++ x ∷ []
