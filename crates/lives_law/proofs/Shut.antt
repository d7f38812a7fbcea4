-- What an End says holds in its epoch from then on, and what was executed in an epoch stays.
use Rattle.std.proofs.Common.{inl, inr, refl, sym, subst, ap, ◌∙◌, append_assoc, append-nil}
use Rattle.std.specs.Prelude.{◌≡◌, ◌⊎◌, ◌<◌, ◌+◌, ℕ, Bool, true, false, not, List, [], ◌∷◌, ◌++◌, Option, Some, None, Result, Ok}
use native.Mathlib.Omega.{arith}
use Rattle.digest_core.specs.declared.Digest.{Digest}
use Rattle.chain_types.specs.Equal.{digest_eq}
use Rattle.chain_types.specs.declared.objects.Object.{Object}
use Rattle.chain_messages.specs.declared.messages.Statement.{Statement}
use Rattle.chain_messages.specs.declared.messages.Statement.TheVariants as statement
use Rattle.journal_core.specs.declared.records.Record.{Record}
use Rattle.journal_core.specs.declared.records.Record.TheVariants as record_as
use Rattle.effects_core.specs.Effects.{digest_of_effects}
use Rattle.protocol_spec.specs.declared.refusals.EndRefusal.{EndRefusal}
use Rattle.protocol_spec.specs.declared.refusals.EndRefusal.TheVariants as no_end
use Rattle.protocol_spec.specs.declared.refusals.AckRefusal.{AckRefusal}
use Rattle.protocol_spec.specs.declared.refusals.AckRefusal.TheVariants as no_ack
use Rattle.protocol_spec.proofs.ListLemmas.{find_front}
use Rattle.protocol_spec.specs.Chain.Words.{first_some, first_of, where_true, refused_or, unless_refused}
use Rattle.protocol_spec.specs.Chain.Certificates.{Rules}
use Rattle.protocol_spec.specs.Member.Versions.{Execution, execution_of}
use Rattle.protocol_spec.specs.Member.Rounds.{rounds}
use Rattle.protocol_spec.specs.Member.Member.{Member, after, books, state}
use Rattle.protocol_spec.specs.Member.Calls.{acknowledged, ack_answer, end_answer, halted, unseen}
use Rattle.protocol_spec.specs.Member.Replay.{is_allowed}
use Rattle.safety_law.proofs.Apart.{state-push}
use Rattle.lives_law.specs.Lives.{Binds}
use Rattle.lives_law.proofs.Voting.{allowed-hold, allowed-vote}

-- ---- a member and what it becomes

-- in the same epoch it has executed the same, and perhaps more, and what it closed stays closed; or its epoch is a later one
pub record IsOn (m n : Member) : Type 0 where
  pub epoch_is : n.epoch ≡ m.epoch
  pub more : List Execution
  pub executed : n.executed ≡ m.executed ++ more
  pub closed : m.closed ≡ true → n.closed ≡ true

abbrev pub IsLater : Member → Member → Type 0
IsLater m n = IsOn m n ⊎ (m.epoch < n.epoch)

later-same : (m : Member) → IsLater m m
later-same m = inl (record { epoch_is = refl; more = []; executed = sym (append-nil m.executed); closed = λ e. e })

on-then : (m n k : Member) → IsOn m n → IsOn n k → IsOn m k
on-then m n k a b = record {
  epoch_is = b.epoch_is ∙ a.epoch_is;
  more = a.more ++ b.more;
  executed = b.executed ∙ ap (λ (xs : List Execution). xs ++ b.more) a.executed ∙ append_assoc m.executed a.more b.more;
  closed = λ e. b.closed (a.closed e);
}

later-then : (m n k : Member) → IsLater m n → IsLater n k → IsLater m k
later-then m n k (inl a) (inl b) = inl (on-then m n k a b)
later-then m n k (inl a) (inr b) = let same = a.epoch_is in inr (omega (arith, same, b))
later-then m n k (inr a) (inl b) = let same = b.epoch_is in inr (omega (arith, same, a))
later-then m n k (inr a) (inr b) = inr (omega (arith, a, b))

alike : (m n : Member) → n.epoch ≡ m.epoch → n.executed ≡ m.executed → (m.closed ≡ true → n.closed ≡ true) → IsLater m n
alike m n epoch executed closed = inl (record { epoch_is = epoch; more = []; executed = executed ∙ sym (append-nil m.executed); closed = closed })

ran : (m n : Member) → n.epoch ≡ m.epoch → n.executed ≡ m.executed ++ rounds (books m) m.executed → n.closed ≡ m.closed → IsLater m n
ran m n epoch executed closed = inl (record { epoch_is = epoch; more = rounds (books m) m.executed; executed = executed; closed = λ e. closed ∙ e })

turned-later : (m n : Member) → n.epoch ≡ m.epoch + 1 → IsLater m n
turned-later m n e = inr (omega (arith, e))

one-later : (r : Rules) (m : Member) (x : Record) → IsLater m (after r m x)
unfolding after
one-later r m (record_as.Vote tx origins) = alike m (after r m (record_as.Vote tx origins)) refl refl (λ e. e)
one-later r m (record_as.Hold c) = alike m (after r m (record_as.Hold c)) refl refl (λ e. e)
one-later r m (record_as.See bytes) = alike m (after r m (record_as.See bytes)) refl refl (λ e. e)
one-later r m record_as.Close = alike m (after r m record_as.Close) refl refl (λ e. refl)
one-later r m (record_as.Ran txs) = ran m (after r m (record_as.Ran txs)) refl refl refl
one-later r m record_as.Turn = turned-later m (after r m record_as.Turn) refl
one-later r m (record_as.Ran2 items) = ran m (after r m (record_as.Ran2 items)) refl refl refl

module _ (r : Rules) (opening : List Object) where
  pub state-later : (more before : List Record) → IsLater (state r opening before) (state r opening (before ++ more))
  state-later [] before = subst (λ (xs : List Record). IsLater (state r opening before) (state r opening xs)) (sym (append-nil before)) (later-same (state r opening before))
  state-later (x ∷ more) before =
      let one = subst (λ (n : Member). IsLater (state r opening before) n) (sym (state-push r opening before x)) (one-later r (state r opening before) x) in
      let rest = subst (λ (xs : List Record). IsLater (state r opening (before ++ x ∷ [])) (state r opening xs)) (append_assoc before (x ∷ []) more) (state-later more (before ++ x ∷ [])) in
      later-then (state r opening before) (state r opening (before ++ x ∷ [])) (state r opening (before ++ (x ∷ more))) one rest

-- ---- Ends

abbrev end_ok : Statement → Result Statement EndRefusal
end_ok st = Ok st

end-epoch : (e f : ℕ) → end_ok (statement.End e) ≡ end_ok (statement.End f) → e ≡ f
end-epoch e f q = cc

end-first : (closed : Bool) (a b : Option EndRefusal) (e f : ℕ) → unless_refused (first_some (a ∷ where_true (not closed) no_end.NotClosed ∷ b ∷ [])) (statement.End e) ≡ Ok (statement.End f) → (closed ≡ true) × (e ≡ f)
end-first closed (Some q) b e f says = absurd (cc)
end-first false None b e f says = absurd (cc)
end-first true None (Some q) e f says = absurd (cc)
end-first true None None e f says = (refl, end-epoch e f says)

-- a member that states an End of an epoch is in it, and has closed it
pub ended-closed : (r : Rules) (m : Member) (epoch : ℕ) → end_answer r m ≡ Ok (statement.End epoch) → (m.closed ≡ true) × (m.epoch ≡ epoch)
unfolding end_answer
ended-closed r m epoch says = end-first m.closed (halted no_end.Halted m) (first_of (unseen m) m.held) m.epoch epoch says

-- so no record that binds it in this epoch is allowed from then on
module _ (r : Rules) (m n : Member) (epoch : ℕ) (closed : m.closed ≡ true) (is : m.epoch ≡ epoch) where
  shut : (k : ℕ) → k ≡ n.epoch → k ≡ epoch → n.closed ≡ false → IsLater m n → ⊥
  shut k at of none (inl on) = let still = on.closed closed in cc
  shut k at of none (inr more) = omega (arith, at, of, is, more)

  pub unbound : (x : Record) → IsLater m n → is_allowed r n x ≡ true → Binds epoch x → ⊥
  unbound (record_as.Vote t origins) later allowed binds = let free = allowed-vote r n t origins allowed in shut t.epoch free.epoch binds free.closed later
  unbound (record_as.Hold c) later allowed binds = let free = allowed-hold r n c allowed in shut c.tx.epoch free.0 binds free.1 later
  unbound (record_as.See bytes) later allowed binds = binds
  unbound record_as.Close later allowed binds = binds
  unbound (record_as.Ran txs) later allowed binds = binds
  unbound record_as.Turn later allowed binds = binds
  unbound (record_as.Ran2 items) later allowed binds = binds

-- ---- acknowledgements

abbrev ack_ok : Statement → Result Statement AckRefusal
ack_ok st = Ok st

record IsOfExecution (m : Member) (epoch : ℕ) (tx effects : Digest) (x : Execution) : Type 0 where
  epoch_is : m.epoch ≡ epoch
  effects_are : digest_of_effects x.gave.effects ≡ effects

ack-parts : (m : Member) (epoch : ℕ) (tx effects : Digest) (x : Execution) → ack_ok (statement.Ack m.epoch tx (digest_of_effects x.gave.effects)) ≡ ack_ok (statement.Ack epoch tx effects) → IsOfExecution m epoch tx effects x
ack-parts m epoch tx effects x e = record { epoch_is = cc; effects_are = cc }

record IsExecuted (m : Member) (epoch : ℕ) (tx effects : Digest) : Type 0 where
  by : Execution
  found : execution_of m.executed tx ≡ Some by
  parts : IsOfExecution m epoch tx effects by

ack-executed : (r : Rules) (m : Member) (epoch : ℕ) (tx effects : Digest) → ack_answer r m tx ≡ Ok (statement.Ack epoch tx effects) → IsExecuted m epoch tx effects
unfolding ack_answer
ack-executed r m epoch tx effects says = go (halted no_ack.Halted m) (execution_of m.executed tx) refl says
  where
    go : (stopped : Option AckRefusal) (x : Option Execution) → execution_of m.executed tx ≡ x → refused_or stopped (acknowledged m tx x) ≡ Ok (statement.Ack epoch tx effects) → IsExecuted m epoch tx effects
    go (Some q) x found e = absurd (cc)
    go None None found e = absurd (cc)
    go None (Some x) found e = record { by = x; found = found; parts = ack-parts m epoch tx effects x e }

same-execution : (x y : Execution) → Some x ≡ Some y → x ≡ y
same-execution x y e = cc

-- two acknowledgements of one epoch, the one not after the other, name the same effects
pub acks-agree : (r : Rules) (m n : Member) (epoch : ℕ) (tx effects others : Digest) → IsLater m n → ack_answer r m tx ≡ Ok (statement.Ack epoch tx effects) → ack_answer r n tx ≡ Ok (statement.Ack epoch tx others) → effects ≡ others
acks-agree r m n epoch tx effects others later first second = go later (ack-executed r m epoch tx effects first) (ack-executed r n epoch tx others second)
  where
    go : IsLater m n → IsExecuted m epoch tx effects → IsExecuted n epoch tx others → effects ≡ others
    go (inr more) a b = let one = a.parts.epoch_is in let two = b.parts.epoch_is in absurd (omega (arith, more, one, two))
    go (inl on) a b =
        let still : execution_of n.executed tx ≡ Some a.by = ap (λ (xs : List Execution). execution_of xs tx) on.executed ∙ find_front (λ (x : Execution). digest_eq x.digest tx) m.executed on.more a.by a.found in
        let same = same-execution a.by b.by (sym still ∙ b.found) in
        sym a.parts.effects_are ∙ ap (λ (x : Execution). digest_of_effects x.gave.effects) same ∙ b.parts.effects_are
