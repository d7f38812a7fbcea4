use Rattle.report_text.specs.Text.{body_of}
use Rattle.report_text.proofs.Appends.{writes_part, writes_then}
use Rattle.report_text.proofs.printer.print_vote_line.Goals as goal

pub returns-in_err-print_pair_head-in-Vote : goal.returns-in_err-print_pair_head-in-Vote
unfolding body_of
returns-in_err-print_pair_head-in-Vote c = rw c.in-Vote.is (writes_part _ c.from_residual.result c.args.out.now c.print_pair_head.new.out _ _ c.from_residual.ensures.1 c.in_err-print_pair_head-in-Vote.ensures)

pub returns-in_ok-print_pair_head-in-Vote : goal.returns-in_ok-print_pair_head-in-Vote
unfolding body_of
returns-in_ok-print_pair_head-in-Vote c = rw c.in-Vote.is (writes_then c.print_vote_text.result c.args.out.now c.print_pair_head.new.out c.print_vote_text.new.out _ _ c.in_ok-print_pair_head-in-Vote.ensures c.print_vote_text.ensures)

pub returns-in_err-print_pair_head-in-Fvote : goal.returns-in_err-print_pair_head-in-Fvote
unfolding body_of
returns-in_err-print_pair_head-in-Fvote c = rw c.in-Fvote.is (writes_part _ c.from_residual-in_err-print_pair_head-in-Fvote.result c.args.out.now c.print_pair_head-in-Fvote.new.out _ _ c.from_residual-in_err-print_pair_head-in-Fvote.ensures.1 c.in_err-print_pair_head-in-Fvote.ensures)

pub returns-in_ok-print_pair_head-in-Fvote : goal.returns-in_ok-print_pair_head-in-Fvote
unfolding body_of
returns-in_ok-print_pair_head-in-Fvote c = rw c.in-Fvote.is (writes_then c.print_origins.result c.args.out.now c.print_pair_head-in-Fvote.new.out c.print_origins.new.out _ _ c.in_ok-print_pair_head-in-Fvote.ensures c.print_origins.ensures)

pub returns-in_err-print_member_head-in-RawVote : goal.returns-in_err-print_member_head-in-RawVote
unfolding body_of
returns-in_err-print_member_head-in-RawVote c = rw c.in-RawVote.is (writes_part _ c.from_residual-in_err-print_member_head-in-RawVote.result c.args.out.now c.print_member_head.new.out _ _ c.from_residual-in_err-print_member_head-in-RawVote.ensures.1 c.in_err-print_member_head-in-RawVote.ensures)

pub returns-in_ok-print_member_head-in-RawVote : goal.returns-in_ok-print_member_head-in-RawVote
unfolding body_of
returns-in_ok-print_member_head-in-RawVote c = rw c.in-RawVote.is (writes_then c.print_vote_text-in-RawVote.result c.args.out.now c.print_member_head.new.out c.print_vote_text-in-RawVote.new.out _ _ c.in_ok-print_member_head-in-RawVote.ensures c.print_vote_text-in-RawVote.ensures)
