use Rattle.std.proofs.Common.{◌∙◌, ◌+◌, Some, refl, sym, ap, length, subst}
use Rattle.std.specs.Bool.{OnTrue}
use Rattle.std.proofs.lemmas.Option.{slice_get_read}
use Rattle.vote_desk.specs.Callers.{asked_in}
use Rattle.vote_desk.specs.Dealt.{HaveMade, IsDue}
use Rattle.vote_desk.specs.Desks.{mine, seen}
use Rattle.vote_desk.proofs.Asking.{made_answer, made_else}
use Rattle.vote_desk.proofs.callers.ask_in_turn.Goals as goal

pub returns-then-place-crew-clause-asked : goal.returns-then-place-crew-clause-asked
returns-then-place-crew-clause-asked g c = made_else c.args.crew.now.callers c.args.number c.args.place _ _ _ c.if-place-crew.true c.requires.asked

pub returns-clause-asked : goal.returns-clause-asked
returns-clause-asked g c =
    let crew = c.args.crew.now in
    let stands = slice_get_read crew.requests.now (length crew.requests.now) c.args.place c.index-crew-place.result refl c.requires.inside c.index-crew-place.is ∙ ap Some (c.index-crew-place.is ∙ sym c.as_slice.ensures.value) in
    subst (λ b. OnTrue b (HaveMade (IsDue crew.callers c.args.number (c.args.number + 1) (c.args.place + 1)) crew.callers crew.requests.now (asked_in (seen c.vote-answer.new.pass)) (mine c.vote-answer.new.pass))) (sym c.was_asked.ensures)
    (made_answer crew.callers c.args.number c.args.place crew.requests.now crew.desk.now c.args.pass.now c.vote-answer.new.pass c.as_slice.result.now c.vote-answer.result c.requires.of stands c.if-place-crew.false c.vote-answer.ensures.answer c.requires.asked)
