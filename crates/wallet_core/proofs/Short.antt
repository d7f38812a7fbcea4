-- A value none of whose lists is too long has bytes.
use Rattle.std.proofs.Common.{◌≡◌, ℕ, ◌<◌, Bool, false, ◌||◌, List, length, arith}
use Rattle.std.specs.Prelude.{All, slice_index_or}
use Rattle.std.proofs.lemmas.Bool.{ltb-false}
use Rattle.wire_bcs.specs.Items.{length_limit}
use Rattle.wire_bcs.specs.Digests.{digest}
use Rattle.wire_bcs.specs.Shapes.{option}
use Rattle.chain_types.specs.Objects.{address, object_id, owner}
use Rattle.chain_types.specs.Transactions as txs
use Rattle.chain_types.specs.declared.objects.ObjectId.{ObjectId}
use Rattle.chain_types.specs.declared.objects.Owner.{Owner}
use Rattle.chain_types.specs.declared.objects.Owner.TheVariants as owners
use Rattle.chain_types.specs.declared.transactions.Transaction.{Transaction}
use Rattle.chain_types.specs.declared.transactions.SignedTx.{SignedTx}
use Rattle.chain_types.proofs.Spelled.{short_lists}
use Rattle.protocol_spec.proofs.Checked.{origin_short}
use Rattle.protocol_spec.proofs.Truth.{or_false}
use Rattle.chain_messages.specs.Messages as messages
use Rattle.chain_messages.specs.declared.messages.Statement.{Statement}
use Rattle.chain_messages.specs.declared.messages.Statement.TheVariants as statements
use Rattle.chain_messages.specs.declared.messages.Sealed.{Sealed}
use Rattle.chain_messages.specs.declared.messages.MemberSeal.{MemberSeal}
use Rattle.chain_messages.specs.declared.messages.Certificate.{Certificate}
use Rattle.chain_messages.specs.declared.messages.Entry.{Entry}
use Rattle.chain_messages.specs.declared.messages.Entry.TheVariants as entries
use Rattle.checkpoint_core.specs.Checkpoints as checkpoints
use Rattle.checkpoint_core.specs.declared.checkpoints.Checkpoint.{Checkpoint}
use Rattle.checkpoint_core.specs.declared.checkpoints.Item.{Item}
use Rattle.effects_core.specs.Effects as effects
use Rattle.effects_core.specs.declared.effects.Effects.{Effects}
use Rattle.effects_core.specs.declared.effects.Status.{Status}
use Rattle.effects_core.specs.declared.effects.Status.TheVariants as statuses
use Rattle.effects_core.specs.declared.effects.Written.{Written}
use Rattle.wallet_core.specs.Lengths.{certificate_long, checkpoint_long, effects_long, entry_long, is_long, sealed_long, signed_long, statement_long, tx_long}

-- a list that is not too long, of items that have bytes
list_short : {A : Type 0} (P : A → Type 0) → ((x : A) → P x) → (xs : List A) → is_long xs ≡ false → (length xs < length_limit) × All P xs
list_short P each xs e = let a = ltb-false 2147483647 (length xs) e in (omega (arith, a), λ k d l. each (slice_index_or xs k d))

pub tx_short : (t : Transaction) → tx_long t ≡ false → txs.transaction.short t
tx_short t e = short_lists 2147483647 (omega arith) t e

pub signed_short : (s : SignedTx) → signed_long s ≡ false → txs.signed.short s
unfolding txs.signed digest
signed_short s e = (tx_short s.tx e, tt)

pub statement_short : (s : Statement) → statement_long s ≡ false → messages.statement.short s
unfolding messages.statement digest
statement_short (statements.Vote epoch tx origins) e = (tt, (tt, list_short (option digest).short origin_short origins e))
statement_short (statements.End epoch) e = tt
statement_short (statements.Checkpoint epoch number of) e = (tt, (tt, tt))
statement_short (statements.Ack epoch tx of) e = (tt, (tt, tt))

pub sealed_short : (s : Sealed) → sealed_long s ≡ false → messages.sealed.short s
unfolding messages.sealed digest
sealed_short s e = (tt, (statement_short s.statement e, tt))

seal_short : (s : MemberSeal) → messages.member_seal.short s
unfolding messages.member_seal digest
seal_short s = (tt, tt)

pub certificate_short : (c : Certificate) → certificate_long c ≡ false → messages.certificate.short c
unfolding messages.certificate
certificate_short c e =
    let one = or_false (tx_long c.tx) (is_long c.origins || is_long c.seals) e in
    let two = or_false (is_long c.origins) (is_long c.seals) one.1 in
    (tx_short c.tx one.0, (list_short (option digest).short origin_short c.origins two.0, list_short messages.member_seal.short seal_short c.seals two.1))

pub entry_short : (x : Entry) → entry_long x ≡ false → messages.entry.short x
unfolding messages.entry
entry_short (entries.Cert cert) e = certificate_short cert e
entry_short (entries.End said) e = sealed_short said e
entry_short entries.Commit e = tt

owner_short : (o : Owner) → owner.short o
unfolding owner address digest
owner_short (owners.Address a) = tt
owner_short (owners.Shared v) = tt
owner_short owners.Immutable = tt

written_short : (w : Written) → effects.written.short w
unfolding effects.written object_id digest
written_short w = (tt, (owner_short w.owner, tt))

id_short : (i : ObjectId) → object_id.short i
unfolding object_id digest
id_short i = tt

status_short : (s : Status) → effects.status.short s
unfolding effects.status
status_short statuses.Done = tt
status_short (statuses.Failed command cause) = (tt, tt)
status_short (statuses.Aborted command code) = (tt, tt)

pub effects_short : (e : Effects) → effects_long e ≡ false → effects.effects.short e
unfolding effects.effects digest
effects_short e is =
    let two = or_false (is_long e.written) (is_long e.deleted) is in
    (tt, (status_short e.status, (tt, (tt, (tt, (list_short effects.written.short written_short e.written two.0, list_short object_id.short id_short e.deleted two.1))))))

item_short : (i : Item) → checkpoints.item.short i
unfolding checkpoints.item digest
item_short i = (tt, tt)

pub checkpoint_short : (c : Checkpoint) → checkpoint_long c ≡ false → checkpoints.checkpoint.short c
unfolding checkpoints.checkpoint digest
checkpoint_short c e = (tt, (tt, (tt, (list_short checkpoints.item.short item_short c.items e, tt))))
