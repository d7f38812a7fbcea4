-- What the sequence of an ended epoch gives stays as it is while the sequences grow; so do the openings after it.
use Rattle.std.proofs.Common.{refl, sym, subst, ap, ◌∙◌, arith}
use Rattle.std.specs.Prelude.{◌≡◌, ◌<◌, ℕ, zero, suc, Bool, true, false, cond, List, [], ◌∷◌, ◌++◌, map, fold}
use Rattle.std.specs.FinMap.{values}
use Rattle.chain_types.specs.declared.objects.Object.{Object}
use Rattle.chain_messages.specs.declared.messages.Entry.{Entry}
use Rattle.chain_messages.specs.Messages as messages
use Rattle.protocol_spec.specs.Chain.Words.{IsFront}
use Rattle.protocol_spec.specs.Chain.Certificates.{Rules}
use Rattle.protocol_spec.specs.Member.Sequence.{Sequence, nothing_seen, what_of, with_entry, saw, seen}
use Rattle.protocol_spec.specs.Member.Sequential.{map_of, fold_all}
use Rattle.protocol_spec.specs.Member.Member.{Member}
use Rattle.world_spec.specs.Setting.{Setting}
use Rattle.world_spec.specs.World.{entries_at}
use Rattle.world_spec.specs.Openings.{checkpointed, sequence_of, opening_at}
use Rattle.safety_law.proofs.Growth.{Grown}
use Rattle.safety_law.specs.Past.{checkpoints_of_thread, past_at}
use Rattle.safety_law.specs.Opened.{IsOver, IsPast, OpensAsLeft}

module _ (r : Rules) (opening : List Object) (epoch : ℕ) where
  saw-ended : (q : Sequence) (bytes : List ℕ) → q.ended ≡ true → saw r opening epoch q bytes ≡ q
  unfolding saw
  saw-ended q bytes e = go q.ended e
    where
      go : (b : Bool) → b ≡ true → cond b q (with_entry r opening q (what_of r epoch q bytes)) ≡ q
      go true e = refl
      go false e = absurd (cc)

  fold-ended : (q : Sequence) (entries : List Entry) → q.ended ≡ true → fold (saw r opening epoch) q (map messages.entry.spell entries) ≡ q
  fold-ended q [] e = refl
  fold-ended q (entry ∷ entries) e =
      ap (λ (p : Sequence). fold (saw r opening epoch) p (map messages.entry.spell entries)) (saw-ended q (messages.entry.spell entry) e) ∙ fold-ended q entries e

  fold-append : (q : Sequence) (front back : List Entry) → fold (saw r opening epoch) q (map messages.entry.spell (front ++ back)) ≡ fold (saw r opening epoch) (fold (saw r opening epoch) q (map messages.entry.spell front)) (map messages.entry.spell back)
  fold-append q [] back = refl
  fold-append q (entry ∷ front) back = fold-append (saw r opening epoch q (messages.entry.spell entry)) front back

  -- entries after the end give nothing more
  pub seen-ended : (front longer : List Entry) → IsFront front longer → (seen r opening epoch (map messages.entry.spell front)).ended ≡ true
      → seen r opening epoch (map messages.entry.spell longer) ≡ seen r opening epoch (map messages.entry.spell front)
  unfolding seen
  seen-ended front longer (rest, e) ended =
      ap (λ (entries : List Entry). fold (saw r opening epoch) nothing_seen (map messages.entry.spell entries)) e
      ∙ fold-append nothing_seen front rest
      ∙ fold-ended (fold (saw r opening epoch) nothing_seen (map messages.entry.spell front)) rest ended

module _ (s : Setting) (old new : List (List Entry)) (grown : Grown old new) where
  same-sequence : (epoch : ℕ) → IsPast s old epoch → opening_at s new epoch ≡ opening_at s old epoch → sequence_of s new epoch (opening_at s new epoch) ≡ sequence_of s old epoch (opening_at s old epoch)
  same-sequence epoch past same =
      ap (sequence_of s new epoch) same
      ∙ seen-ended s.rules (opening_at s old epoch) epoch (entries_at old epoch) (entries_at new epoch) (grown epoch) past.ended

  pub same-opening : (epoch : ℕ) → ((e : ℕ) → e < epoch → IsPast s old e) → opening_at s new epoch ≡ opening_at s old epoch
  unfolding opening_at
  same-opening zero past = refl
  same-opening (suc epoch) past =
      let before = same-opening epoch (λ e less. past e (omega (arith, less))) in
      let given = same-sequence epoch (past epoch (omega arith)) before in
      ap (λ (os : List Object). values (fold_all (map_of os) (checkpointed (sequence_of s new epoch (opening_at s new epoch)))).map) before
      ∙ ap (λ (q : Sequence). values (fold_all (map_of (opening_at s old epoch)) (checkpointed q)).map) given

  pub same-past : (epoch : ℕ) → ((e : ℕ) → e < epoch → IsPast s old e) → past_at s new epoch ≡ past_at s old epoch
  unfolding past_at
  same-past zero past = refl
  same-past (suc epoch) past =
      let before = same-opening epoch (λ e less. past e (omega (arith, less))) in
      let given = same-sequence epoch (past epoch (omega arith)) before in
      ap (λ (os : List Object). checkpoints_of_thread epoch os (sequence_of s new epoch (opening_at s new epoch)).cuts (past_at s new epoch)) before
      ∙ ap (λ (q : Sequence). checkpoints_of_thread epoch (opening_at s old epoch) q.cuts (past_at s new epoch)) given
      ∙ ap (checkpoints_of_thread epoch (opening_at s old epoch) (sequence_of s old epoch (opening_at s old epoch)).cuts) (same-past epoch (λ e less. past e (omega (arith, less))))

  still-past : (epoch : ℕ) → ((e : ℕ) → e < suc epoch → IsPast s old e) → IsPast s new epoch
  still-past epoch past =
      let before = same-opening epoch (λ e less. past e (omega (arith, less))) in
      let given = same-sequence epoch (past epoch (omega arith)) before in
      subst (IsOver (opening_at s new epoch)) (sym given)
      (subst (λ (os : List Object). IsOver os (sequence_of s old epoch (opening_at s old epoch))) (sym before) (past epoch (omega arith)))

  pub more-left : (m : Member) → OpensAsLeft s old m → OpensAsLeft s new m
  more-left m left = record {
    opening = left.opening ∙ sym (same-opening m.epoch left.past);
    past = λ epoch less. still-past epoch (λ e below. left.past e (omega (arith, less, below)));
    checkpoints = left.checkpoints ∙ sym (same-past m.epoch left.past);
  }
