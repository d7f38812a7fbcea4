-- What a member has built stays, whatever else it holds, executes, admits and cuts.
use Rattle.std.proofs.Common.{◌≡◌, ◌∙◌, sym, ap, subst, arith, ℕ, ◌≤◌, List, [], ◌++◌, length}
use Rattle.std.specs.Prelude.{map}
use Rattle.std.proofs.lemmas.List.{append-nil, length-map, map-append}
use Rattle.checkpoint_core.specs.declared.checkpoints.Checkpoint.{Checkpoint}
use Rattle.protocol_spec.specs.declared.answers.Held.{Held}
use Rattle.protocol_spec.proofs.ListLemmas.{front_then}
use Rattle.protocol_spec.specs.Chain.Words.{IsFront}
use Rattle.protocol_spec.specs.Member.Versions.{Execution}
use Rattle.protocol_spec.specs.Member.Admission.{Admitted}
use Rattle.protocol_spec.specs.Member.Checkpoints.{chained}
use Rattle.epoch_turn.specs.declared.due.Due.{Due}
use Rattle.epoch_turn.specs.declared.due.CutMark.{CutMark}
use Rattle.epoch_turn.specs.Dues.{cuts_of, due_of, front_length, is_due_done, size_of}
use Rattle.epoch_turn.specs.Chains.{AreHeld, Chaining, IsBehind, IsBuilt, IsTold, due_chain}
use Rattle.epoch_turn.proofs.Behind.{behind_executed, chain_due, chain_executed, chain_marks}
use Rattle.epoch_turn.proofs.Told.{all_found, chained_is, told_held}

-- all that can be built, by what was said to the chain
built_due : (epoch : ℕ) (held : List Held) (executed : List Execution) (admitted : List Admitted) (c : Chaining) → IsTold held admitted c → chained epoch held executed c.past (cuts_of admitted c.marks) ≡ due_chain epoch executed c.past c.due c.marks
built_due epoch held executed admitted c told = sym (ap (λ (ds : List Due). due_chain epoch executed c.past ds c.marks) told ∙ chained_is held executed epoch c.past admitted c.marks)

pub built_held : (epoch : ℕ) (held more : List Held) (executed : List Execution) (admitted : List Admitted) (c : Chaining) → AreHeld held admitted → IsBuilt epoch held executed admitted c → IsBuilt epoch (held ++ more) executed admitted c
built_held epoch held more executed admitted c are is = record {
  told = told;
  built = is.built ∙ built_due epoch held executed admitted c is.told ∙ sym (built_due epoch (held ++ more) executed admitted c told);
  found =
      is.found ∙ sym (all_found held executed admitted)
      ∙ ap (front_length (is_due_done executed)) (sym (told_held held more admitted are)) ∙ all_found (held ++ more) executed admitted;
}
  where
    told : c.due ≡ map (due_of (held ++ more)) admitted
    told = is.told ∙ sym (told_held held more admitted are)

pub built_executed : (epoch : ℕ) (held : List Held) (executed more : List Execution) (admitted : List Admitted) (c : Chaining) → IsBuilt epoch held executed admitted c → IsBehind epoch (executed ++ more) c
built_executed epoch held executed more admitted c is = behind_executed epoch executed more c (record {
  front = ([], sym (is.built ∙ built_due epoch held executed admitted c is.told) ∙ sym (append-nil c.built));
  found =
      let same : front_length (is_due_done executed) c.due ≡ c.done = ap (front_length (is_due_done executed)) is.told ∙ all_found held executed admitted ∙ sym is.found in
      omega (arith, same);
})

pub chained_grows : (epoch : ℕ) (held more_held : List Held) (executed more : List Execution) (past : List Checkpoint) (admitted more_admitted : List Admitted) (marks more_marks : List CutMark)
    → AreHeld held admitted → size_of marks ≤ length admitted
    → IsFront (chained epoch held executed past (cuts_of admitted marks)) (chained epoch (held ++ more_held) (executed ++ more) past (cuts_of (admitted ++ more_admitted) (marks ++ more_marks)))
chained_grows epoch held more_held executed more past admitted more_admitted marks more_marks are few =
    subst (λ (xs : List Checkpoint). IsFront xs (chained epoch (held ++ more_held) (executed ++ more) past (cuts_of (admitted ++ more_admitted) (marks ++ more_marks)))) (chained_is held executed epoch past admitted marks)
    (subst (IsFront (due_chain epoch executed past old marks)) (sym last ∙ chained_is (held ++ more_held) (executed ++ more) epoch past (admitted ++ more_admitted) (marks ++ more_marks))
    (front_then (due_chain epoch executed past old marks) (due_chain epoch (executed ++ more) past old marks) (due_chain epoch (executed ++ more) past (old ++ others) (marks ++ more_marks))
    (chain_executed epoch executed more past old marks)
    (subst (λ (xs : List Checkpoint). IsFront xs (due_chain epoch (executed ++ more) past (old ++ others) (marks ++ more_marks))) (chain_due epoch (executed ++ more) past old others marks (let l = length-map admitted (due_of held) in omega (arith, few, l)))
    (chain_marks epoch (executed ++ more) past (old ++ others) marks more_marks))))
  where
    old : List Due
    old = map (due_of held) admitted

    others : List Due
    others = map (due_of (held ++ more_held)) more_admitted

    dues : map (due_of (held ++ more_held)) (admitted ++ more_admitted) ≡ old ++ others
    dues = map-append (due_of (held ++ more_held)) admitted more_admitted ∙ ap (λ (ds : List Due). ds ++ others) (told_held held more_held admitted are)

    last : due_chain epoch (executed ++ more) past (map (due_of (held ++ more_held)) (admitted ++ more_admitted)) (marks ++ more_marks) ≡ due_chain epoch (executed ++ more) past (old ++ others) (marks ++ more_marks)
    last = ap (λ (ds : List Due). due_chain epoch (executed ++ more) past ds (marks ++ more_marks)) dues
