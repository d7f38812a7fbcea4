use Rattle.vote_rules.proofs.Voting.{unlocked, voted}
use Rattle.vote_rules.specs.Casts.{casts}
use Rattle.vote_rules.proofs.vote_store.VoteStore.cast.Goals as goal

pub lock_free-requires : goal.lock_free-requires
lock_free-requires c = unlocked c.self.inside.locks (casts c.self.inside.given.entries) c.args.self.now c.args.digest c.args.consumed c.self.invariant c.self.view_is c.requires.free

pub invariant_of-self-2 : goal.invariant_of-self-2
invariant_of-self-2 c =
    (voted c.self.inside.locks c.self.inside.given.entries c.args.self.now c.args.digest (record { consumed = c.args.consumed; origins = c.args.origins })
    c.self.invariant c.self.view_is c.in_ok-reserve.ensures.entries c.in_ok-lock_free.ensures.ok c.insert_in_room.ensures.entries c.requires.new c.requires.free).0

pub returns-clause-ok : goal.returns-clause-ok
returns-clause-ok c =
    (voted c.self.inside.locks c.self.inside.given.entries c.args.self.now c.args.digest (record { consumed = c.args.consumed; origins = c.args.origins })
    c.self.invariant c.self.view_is c.in_ok-reserve.ensures.entries c.in_ok-lock_free.ensures.ok c.insert_in_room.ensures.entries c.requires.new c.requires.free).1
