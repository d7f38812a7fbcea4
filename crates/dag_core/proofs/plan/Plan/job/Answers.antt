use Rattle.std.proofs.Common.{◌≡◌, get_or, refl, subst}
use Rattle.std.proofs.lemmas.Option.{slice_get_read}
use Rattle.dag_core.proofs.plan.Plan.job.Goals as goal

pub returns : goal.returns
returns g c =
    let job = c.index-as_slice-task.result in
    slice_get_read c.args.self.now.jobs _ c.args.task job refl c.requires (subst (λ jobs. job ≡ get_or jobs c.args.task job) c.as_slice.ensures.value c.index-as_slice-task.is)
