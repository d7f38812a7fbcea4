use Rattle.std.proofs.Common.{◌≡◌, ◌∙◌, Bool, List, ℕ, ap, sym}
use Rattle.journal_core.specs.declared.records.Record.{Record}
use Rattle.journal_core.specs.declared.records.Record.TheVariants as record_as
use Rattle.protocol_spec.specs.Member.Replay.{is_allowed}
use Rattle.world_spec.specs.Terms.{rules_for}
use Rattle.validator_core.specs.Limits.{terms_at}
use Rattle.validator_core.proofs.Coursing.{ok_as}
use Rattle.validator_core.proofs.state.State.take.Goals as goal

pub returns-in-See-clause-taken : goal.returns-in-See-clause-taken
unfolding is_allowed
returns-in-See-clause-taken g c =
    let r = rules_for (terms_at c.args.self.now c.args.committee.now) (g.S.Checker.accepts c.args.sealer.now) in
    let m = c.args.self.now.member in
    ok_as c.take_see_back.result (λ (taken : Bool). taken ≡ is_allowed r m (record_as.See c.as_slice.result.now)) (λ (taken : Bool). taken ≡ is_allowed r m c.args.kept)
    (λ (taken : Bool) is. is ∙ ap (λ (bytes : List ℕ). is_allowed r m (record_as.See bytes)) c.as_slice.ensures.value ∙ ap (λ (x : Record). is_allowed r m x) (sym c.in-See.is)) c.take_see_back.ensures.taken
