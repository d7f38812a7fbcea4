use Rattle.std.proofs.Common.{◌∙◌, None, Some, ap, option_copied, sym}
use Rattle.version_store.proofs.Based.{live_is, merge_none}
use Rattle.version_store.proofs.Newest.{newer_some}
use Rattle.version_store.proofs.store.Store.live_hashed.Goals as goal

pub returns-in-Some-Some : goal.returns-in-Some-Some
returns-in-Some-Some c =
    ap Some c.newer.ensures
    ∙ newer_some (Some c.in-Some-Some.held.now) c.in-Some-Some.object.now
    ∙ live_is c.self.invariant c.self.view_is c.args.id.now (Some c.in-Some-Some.held.now) (Some c.in-Some-Some.object.now) (sym c.contains.ensures ∙ c.if-contains.false) c.in-Some-Some.ensures.value c.in-Some-Some.ensures'.value

pub returns-in-Some-None : goal.returns-in-Some-None
returns-in-Some-None c =
    live_is c.self.invariant c.self.view_is c.args.id.now (Some c.in-Some-None.held.now) None (sym c.contains.ensures ∙ c.if-contains.false) c.in-Some-None.ensures.value c.in-Some-None.ensures'.value

pub returns-in-None-default : goal.returns-in-None-default
returns-in-None-default c =
    sym (merge_none (option_copied c.get-2.result))
    ∙ live_is c.self.invariant c.self.view_is c.args.id.now None (option_copied c.get-2.result) (sym c.contains.ensures ∙ c.if-contains.false) c.in-None-default.ensures.value c.get-2.ensures.value
