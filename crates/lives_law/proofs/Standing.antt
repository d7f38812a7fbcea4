-- No answer of any life is taken back.
use Rattle.std.proofs.Common.{inl, inr, refl, sym, subst, ap, ◌∙◌}
use Rattle.std.proofs.lemmas.List.{length-append}
use Rattle.std.specs.Prelude.{◌≡◌, ◌⊎◌, ◌<◌, ℕ, List, [], ◌∷◌, ◌++◌, length, Option, Some, None}
use native.Mathlib.Omega.{arith}
use Rattle.digest_core.specs.declared.Digest.{Digest}
use Rattle.chain_types.specs.declared.objects.Object.{Object}
use Rattle.journal_core.specs.declared.records.Record.{Record}
use Rattle.journal_core.specs.declared.records.Record.TheVariants as record_as
use Rattle.protocol_spec.proofs.ListLemmas.{front_then, front_whole, has_left}
use Rattle.protocol_spec.specs.Chain.Words.{Has, IsFront}
use Rattle.protocol_spec.specs.Chain.Certificates.{Rules}
use Rattle.protocol_spec.specs.Member.Member.{Member, state}
use Rattle.protocol_spec.specs.Member.Calls.{Call, due, ends}
use Rattle.world_spec.specs.World.{appended}
use Rattle.safety_law.proofs.Allowed.{due-allowed}
use Rattle.lives_law.specs.Lives.{Answered, AreLives, AreTwoVotes, Binds, IsAck, IsEnd, IsKeptVote, IsVote, Life, NothingIsTakenBack, all_answered, last_records, member_at, records_behind}
use Rattle.lives_law.proofs.Voting.{answer-stands}
use Rattle.lives_law.proofs.Shut.{IsLater, acks-agree, ended-closed, state-later, unbound}
use Rattle.lives_law.proofs.Along.{AreOrdered, IsAmong, IsSound, among, behind, facts-of, ordered, sound-appended}

module _ (r : Rules) (opening : List Object) where
  kept-on : (records last : List Record) (epoch : ℕ) (tx : Digest) (o : List (Option Digest)) → IsFront records last → (k : IsKeptVote records epoch tx o) → Has last (record_as.Vote k.transaction o)
  kept-on records last epoch tx o (more, e) k = subst (λ (xs : List Record). Has xs (record_as.Vote k.transaction o)) (sym e) (has_left records more (record_as.Vote k.transaction o) k.stands)

  kept-in : (records last : List Record) (epoch : ℕ) (tx : Digest) (o : List (Option Digest)) → IsFront records last → IsKeptVote records epoch tx o → IsKeptVote last epoch tx o
  kept-in records last epoch tx o front k = record { transaction = k.transaction; stands = kept-on records last epoch tx o front k; epoch_is = k.epoch_is; digest_is = k.digest_is }

  -- ---- votes

  vote-kept : (a : Answered) (epoch : ℕ) (tx : Digest) (o : List (Option Digest)) → IsSound r opening a.before → IsVote r opening a epoch tx o → IsKeptVote (behind r opening a) epoch tx o
  vote-kept a epoch tx o sound v =
      subst (λ (call : Call). IsKeptVote (records_behind r opening a.before call) epoch tx o) (sym v.call)
      (answer-stands r (state r opening a.before) a.before (facts-of r opening a.before sound).0 epoch tx o v.fresh v.bytes v.says)

  two-in : (records last : List Record) → IsSound r opening records → IsFront records last → (epoch : ℕ) (tx ux : Digest) (o p : List (Option Digest)) → IsKeptVote records epoch tx o → IsKeptVote records epoch ux p → AreTwoVotes last epoch tx ux o p
  two-in records last sound front epoch tx ux o p k l =
      let agree = (facts-of r opening records sound).1 k.transaction l.transaction o p k.stands l.stands (k.epoch_is ∙ sym l.epoch_is) in
      record {
        first = record { transaction = k.transaction; stands = kept-on records last epoch tx o front k; epoch_is = k.epoch_is; digest_is = k.digest_is };
        second = record { transaction = l.transaction; stands = kept-on records last epoch ux p front l; epoch_is = l.epoch_is; digest_is = l.digest_is };
        apart = λ other. agree.apart (λ e. other (sym k.digest_is ∙ e ∙ l.digest_is));
        same = λ e. agree.same (k.digest_is ∙ e ∙ sym l.digest_is);
      }

  -- ---- order

  before-of : (before : List Record) (x : Option Record) (later : List Record) → IsFront (appended before x) later → IsFront before later
  before-of before None later front = front
  before-of before (Some x) later front = front_then before (before ++ x ∷ []) later (x ∷ [], refl) front

  abbrev before-front : Answered → Answered → Type 0
  before-front a b = IsFront a.before b.before

  either-front : (a b : Answered) → AreOrdered r opening a b → before-front a b ⊎ before-front b a
  either-front a b (inl front) = inl (before-of a.before (due r (member_at r opening a) a.call) b.before front)
  either-front a b (inr (inl front)) = inr (before-of b.before (due r (member_at r opening b) b.call) a.before front)
  either-front a b (inr (inr same)) = inl (subst (λ (c : Answered). before-front a c) same (front_whole a.before))

  later-of : (a b : Answered) → before-front a b → IsLater (member_at r opening a) (member_at r opening b)
  later-of a b (more, e) = subst (λ (xs : List Record). IsLater (state r opening a.before) (state r opening xs)) (sym e) (state-later r opening more a.before)

  -- ---- Ends

  none-due : (m : Member) (x : Record) → due r m ends ≡ Some x → ⊥
  unfolding due
  none-due m x d = cc

  end-due : (m : Member) (call : Call) (x : Record) → call ≡ ends → due r m call ≡ Some x → ⊥
  end-due m call x is d = none-due m x (subst (λ (c : Call). due r m c ≡ Some x) is d)

  after-end : (a b : Answered) (epoch : ℕ) → IsEnd r opening a epoch → (x : Record) → due r (member_at r opening b) b.call ≡ Some x → Binds epoch x → before-front a b → ⊥
  after-end a b epoch end x d binds front =
      let closed = ended-closed r (member_at r opening a) epoch end.says in
      unbound r (member_at r opening a) (member_at r opening b) epoch closed.0 closed.1 x (later-of a b front) (due-allowed r (member_at r opening b) x b.call d) binds

  shorter : (records last : List Record) (x : Record) (due : Option Record) → due ≡ Some x → IsFront (appended records due) last → length records < length last
  shorter records last x None d front = absurd (cc)
  shorter records last x (Some y) d (more, e) =
      let total : length last ≡ length ((records ++ y ∷ []) ++ more) = ap (λ (xs : List Record). length xs) e in
      omega (arith, total, length-append (records ++ y ∷ []) more, length-append records (y ∷ []))

  before-end : (a b : Answered) (epoch : ℕ) → IsEnd r opening a epoch → (x : Record) → due r (member_at r opening b) b.call ≡ Some x → Binds epoch x → AreOrdered r opening a b → length b.before < length a.before
  before-end a b epoch end x d binds (inl front) = absurd (after-end a b epoch end x d binds (before-of a.before (due r (member_at r opening a) a.call) b.before front))
  before-end a b epoch end x d binds (inr (inl front)) = shorter b.before a.before x (due r (member_at r opening b) b.call) d front
  before-end a b epoch end x d binds (inr (inr same)) = absurd (end-due (member_at r opening b) b.call x (subst (λ (c : Answered). c.call ≡ ends) same end.call) d)

  -- ---- acknowledgements

  acks-same : (a b : Answered) (epoch : ℕ) (tx effects others : Digest) → IsAck r opening a epoch tx effects → IsAck r opening b epoch tx others → before-front a b ⊎ before-front b a → effects ≡ others
  acks-same a b epoch tx effects others k l (inl front) = acks-agree r (member_at r opening a) (member_at r opening b) epoch tx effects others (later-of a b front) k.says l.says
  acks-same a b epoch tx effects others k l (inr front) = sym (acks-agree r (member_at r opening b) (member_at r opening a) epoch tx others effects (later-of b a front) l.says k.says)

  -- ---- all of them

  module _ (records : List Record) (lives : List Life) (are : AreLives r opening records lives) where
    abbrev last : List Record
    last = last_records records lives

    at : (a : Answered) → Has (all_answered r opening lives) a → IsAmong r opening records last a
    at a h = among r opening lives records are a h

    sound-behind : (a : Answered) → Has (all_answered r opening lives) a → IsSound r opening (behind r opening a)
    sound-behind a h = sound-appended r opening a.before a.call (due r (member_at r opening a) a.call) refl (at a h).sound

    onto-behind : (a b : Answered) → IsFront (behind r opening a) b.before → IsFront (behind r opening a) (behind r opening b)
    onto-behind a b front = front_then (behind r opening a) b.before (behind r opening b) front (before-of b.before (due r (member_at r opening b) b.call) (behind r opening b) (front_whole (behind r opening b)))

    two-votes : (a b : Answered) → Has (all_answered r opening lives) a → Has (all_answered r opening lives) b → (epoch : ℕ) (tx ux : Digest) (o p : List (Option Digest))
        → IsVote r opening a epoch tx o → IsVote r opening b epoch ux p → AreTwoVotes last epoch tx ux o p
    two-votes a b h k epoch tx ux o p v w = go (ordered r opening lives records are a b h k)
      where
        first : IsKeptVote (behind r opening a) epoch tx o
        first = vote-kept a epoch tx o (at a h).sound v

        second : IsKeptVote (behind r opening b) epoch ux p
        second = vote-kept b epoch ux p (at b k).sound w

        go : AreOrdered r opening a b → AreTwoVotes last epoch tx ux o p
        go (inl front) = two-in (behind r opening b) last (sound-behind b k) (at b k).to epoch tx ux o p (kept-in (behind r opening a) (behind r opening b) epoch tx o (onto-behind a b front) first) second
        go (inr (inl front)) = two-in (behind r opening a) last (sound-behind a h) (at a h).to epoch tx ux o p first (kept-in (behind r opening b) (behind r opening a) epoch ux p (onto-behind b a front) second)
        go (inr (inr same)) = two-in (behind r opening b) last (sound-behind b k) (at b k).to epoch tx ux o p (subst (λ (c : Answered). IsKeptVote (behind r opening c) epoch tx o) same first) second

    pub nothing-back : NothingIsTakenBack r opening lives last
    nothing-back = record {
      votes = two-votes;
      ends = λ a b h k epoch end x d binds. before-end a b epoch end x d binds (ordered r opening lives records are a b h k);
      acks = λ a b h k epoch tx effects others x y. acks-same a b epoch tx effects others x y (either-front a b (ordered r opening lives records are a b h k));
    }
