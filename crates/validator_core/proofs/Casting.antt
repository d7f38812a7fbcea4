-- What may be kept, and the state after it.
use Rattle.std.proofs.Common.{◌≡◌, ◌≤◌, ℕ, true, cond, List, Option, Some, None, is_some, length, ap, sym, ◌∙◌, subst}
use Rattle.std.specs.Prelude.{Bool, Ok}
use Rattle.digest_core.specs.declared.Digest.{Digest}
use Rattle.chain_types.specs.declared.objects.ObjectKey.{ObjectKey}
use Rattle.chain_types.specs.declared.transactions.Transaction.{Transaction}
use Rattle.chain_types.specs.Digests.{transaction_digest}
use Rattle.chain_types.specs.Transactions.{transaction}
use Rattle.chain_messages.specs.declared.messages.Certificate.{Certificate}
use Rattle.chain_messages.specs.declared.messages.Statement.TheVariants as statements
use Rattle.chain_messages.specs.Messages.{certificate, statement}
use Rattle.protocol_spec.specs.Chain.Certificates.{Rules}
use Rattle.journal_core.specs.declared.records.Record.{Record}
use Rattle.journal_core.specs.declared.records.Record.TheVariants as record_as
use Rattle.journal_core.specs.Records.{journal_record}
use Rattle.cert_rules.proofs.Whole.{vote_short}
use Rattle.protocol_spec.specs.Member.Member.{Member, after}
use Rattle.protocol_spec.specs.Member.Calls.{Call, after_due, called, due}
use Rattle.validator_core.specs.Answers.{HoldDue, IsFree, MayHold}
use Rattle.validator_core.specs.declared.holds.CertificateOutcome.{CertificateOutcome}
use Rattle.validator_core.specs.declared.holds.CertificateOutcome.TheVariants as holdings
use Rattle.validator_core.specs.Steps.{holding, voted}
use Rattle.validator_core.specs.declared.votes.DecidedVote.{DecidedVote}
use Rattle.validator_core.specs.Taking.{MayCast, MayTake}

-- ---- what may be kept

pub vote_may : (m : Member) (t : Transaction) (d : DecidedVote) → IsFree m t d → d.fresh ≡ true → transaction.short t → MayCast m t d.digest d.origins
vote_may m t d free fresh short = record { is = free.digest; new = free.new fresh; few = free.few; free = free.free fresh; spelled = short }

pub hold_may : (m : Member) (c : Certificate) (digest : Digest) → MayHold m c digest → certificate.short c → MayTake m digest (record_as.Hold c)
hold_may m c digest may short = (may, short)

pub statement_short : (epoch : ℕ) (tx : Digest) (origins : List (Option Digest)) → length origins ≤ 257 → statement.short (statements.Vote epoch tx origins)
statement_short epoch tx origins few = vote_short _ _ _ few

pub kept_vote_short : (t : Transaction) (origins : List (Option Digest)) → transaction.short t → length origins ≤ 257 → journal_record.short (record_as.Vote t origins)
unfolding journal_record statement
kept_vote_short t origins short few = (short, (vote_short 0 (transaction_digest t) origins few).1.1)

pub hold_short : (c : Certificate) → certificate.short c → journal_record.short (record_as.Hold c)
unfolding journal_record
hold_short c short = short

-- ---- the record that is due

pub new_due : (d : Option Record) (c : Certificate) (h : CertificateOutcome) (digest : Digest) → HoldDue d (Ok (c, h)) → h ≡ holdings.New digest → d ≡ Some (record_as.Hold c)
new_due d c h digest due_ is = subst (λ (x : CertificateOutcome). HoldDue d (Ok (c, x))) is due_

pub fork_due : (d : Option Record) (c : Certificate) (h : CertificateOutcome) (key : ObjectKey) (first digest : Digest) → HoldDue d (Ok (c, h)) → h ≡ holdings.Fork key first digest → d ≡ Some (record_as.Hold c)
fork_due d c h key first digest due_ is = subst (λ (x : CertificateOutcome). HoldDue d (Ok (c, x))) is due_

pub fresh_due : (d x : Option Record) (b : Bool) → d ≡ cond b x None → b ≡ true → d ≡ x
fresh_due d x b due_ fresh = due_ ∙ ap (λ (f : Bool). cond f x None) fresh

pub new_owed : (d : Option Record) (c : Certificate) (h : CertificateOutcome) (digest : Digest) → HoldDue d (Ok (c, h)) → h ≡ holdings.New digest → is_some d ≡ true
new_owed d c h digest due_ is = ap (λ (o : Option Record). is_some o) (new_due d c h digest due_ is)

pub fork_owed : (d : Option Record) (c : Certificate) (h : CertificateOutcome) (key : ObjectKey) (first digest : Digest) → HoldDue d (Ok (c, h)) → h ≡ holdings.Fork key first digest → is_some d ≡ true
fork_owed d c h key first digest due_ is = ap (λ (o : Option Record). is_some o) (fork_due d c h key first digest due_ is)

-- ---- the state after a call

pub idle_called : (r : Rules) (m : Member) (call : Call) → due r m call ≡ None → m ≡ called r m call
idle_called r m call none = ap (after_due r m) (sym none)

pub vote_called : (r : Rules) (m next : Member) (call : Call) (t : Transaction) (origins : List (Option Digest)) → due r m call ≡ Some (record_as.Vote t origins) → next ≡ voted m t origins → next ≡ called r m call
unfolding after
vote_called r m next call t origins this step = step ∙ ap (after_due r m) (sym this)

pub hold_called : (r : Rules) (m next : Member) (call : Call) (c : Certificate) → due r m call ≡ Some (record_as.Hold c) → next ≡ holding m c → next ≡ called r m call
unfolding after
hold_called r m next call c this step = step ∙ ap (after_due r m) (sym this)
