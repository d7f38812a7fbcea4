use Rattle.report_text.specs.Text.{vote_text}
use Rattle.report_text.proofs.Appends.{writes_then}
use Rattle.report_text.proofs.texts.print_vote_text.Goals as goal

pub returns-in-WrongEpoch : goal.returns-in-WrongEpoch
unfolding vote_text
returns-in-WrongEpoch c = rw c.in-WrongEpoch.is c.print_two_numbers-in-WrongEpoch.ensures

pub returns-in-WrongDigest : goal.returns-in-WrongDigest
unfolding vote_text
returns-in-WrongDigest c = rw c.in-WrongDigest.is c.print_with_name-in-WrongDigest.ensures

pub returns-in_ok-extend-in-Voted : goal.returns-in_ok-extend-in-Voted
unfolding vote_text
returns-in_ok-extend-in-Voted c =
    rw c.in-Voted.is (writes_then c.print_origins.result c.args.out.now c.extend.new.self c.print_origins.new.out _ _ c.in_ok-extend-in-Voted.ensures.ok c.print_origins.ensures)

pub returns-in_ok-extend-in-Again : goal.returns-in_ok-extend-in-Again
unfolding vote_text
returns-in_ok-extend-in-Again c =
    rw c.in-Again.is (writes_then c.print_origins-in-Again.result c.args.out.now c.extend-in-Again.new.self c.print_origins-in-Again.new.out _ _ c.in_ok-extend-in-Again.ensures.ok c.print_origins-in-Again.ensures)
