use Rattle.std.proofs.Common.{arith, ap, subst, sym, ◌∙◌, ◌≡◌, ◌-◌, length, length-append, take, List, [], ◌∷◌, ◌++◌}
use Rattle.std.proofs.lemmas.List.{take-append-le}
use Rattle.epoch_turn.specs.declared.due.CutMark.{CutMark}
use Rattle.epoch_turn.specs.Chains.{Chaining, IsBehind, uncut, with_cut}
use Rattle.epoch_turn.specs.Dues.{cuts_of, size_of}
use Rattle.epoch_turn.specs.Kept.{shown}
use Rattle.epoch_turn.proofs.Behind.{behind_cut}
use Rattle.epoch_turn.proofs.Growing.{sizes_more}
use Rattle.epoch_turn.proofs.Told.{adds_cuts}
use Rattle.epoch_turn.proofs.rows.Rows.cut.Goals as goal

marks_are : (c : goal.After-self-1) → c.push.new.self.items ≡ (with_cut c.args.last (shown c.args.self.now)).marks
marks_are c =
    let len = c.len.ensures in
    let ok = c.args.self.now.due.ok.0 in
    let sized = c.requires.sized in
    let size : c.len.result - c.args.self.now.cut ≡ uncut (shown c.args.self.now) = omega (arith, len, ok, sized) in
    c.in_ok-push.ensures.items ∙ ap (λ n. c.args.self.now.marks.items ++ record { size = n; last = c.args.last } ∷ []) size

pub returns-clause-cuts : goal.returns-clause-cuts
returns-clause-cuts c held admitted told = ap (cuts_of admitted) (marks_are c) ∙ adds_cuts c.args.last (shown c.args.self.now) held admitted told

pub returns-clause-behind : goal.returns-clause-behind
returns-clause-behind c epoch executed behind =
    let old : Chaining = shown c.args.self.now in
    let seen : List CutMark → Chaining = λ marks. record { past = old.past; built = old.built; due = old.due; marks = marks; done = old.done } in
    subst (λ (ms : List CutMark). IsBehind epoch executed (seen ms)) (sym (marks_are c)) (behind_cut epoch executed old c.args.last behind)

pub returns-clause-kept : goal.returns-clause-kept
returns-clause-kept c =
    let old = c.args.self.now in
    let pushed = c.in_ok-push.ensures.items in
    let mark : CutMark = record { size = c.len.result - old.cut; last = c.args.last } in
    let k = c.requires in
    let few = k.few in
    let many : c.len.result ≡ length old.due.items = let len = c.len.ensures in let ok = old.due.ok.0 in omega (arith, len, ok) in
    let same : c.len-self.result ≡ length old.due.items = let len = c.len-self.ensures in let ok = old.due.ok.0 in omega (arith, len, ok) in
    record {
      ends = k.ends;
      split = k.split;
      few = let l = ap length pushed in let m = length-append old.marks.items (mark ∷ []) in omega (arith, few, l, m);
      begins = k.begins ∙ ap size_of (sym (take-append-le old.tip.cuts old.marks.items (mark ∷ []) few)) ∙ ap (λ (ms : List CutMark). size_of (take old.tip.cuts ms)) (sym pushed);
      sized = let s = ap size_of pushed in let m = sizes_more old.marks.items (mark ∷ []) in let sized = k.sized in let room = k.room in omega (arith, s, m, sized, room, many, same);
      room = omega (arith, same);
      ahead = k.ahead;
    }
