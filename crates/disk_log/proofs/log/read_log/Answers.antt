use Rattle.std.proofs.Common.{◌≡◌, ℕ, length, refl, sym, ◌∙◌, ap, subst, arith, [], replicate}
use Rattle.std.proofs.lemmas.List.{length-replicate}
use Rattle.disk_log.specs.Log.{Rows}
use Rattle.disk_log.proofs.Opening.{synced-told, refused-later, refused-at-gate, told-opens, cause-told, read-to}
use Rattle.disk_log.proofs.log.read_log.Goals as goal

as-many : (n : ℕ) (rows : Rows) → rows ≡ replicate n [] → length rows ≡ n
as-many n rows is = ap length is ∙ length-replicate n []

pub returns-in-Err-new-clause-not_opened : goal.returns-in-Err-new-clause-not_opened
returns-in-Err-new-clause-not_opened g c = refused-later _ (g.K.Disk.history c.sync.new.self) _ (synced-told _ _ c.in-Ok.ensures.synced) refl

pub mend-requires-clause-read : goal.mend-requires-clause-read
mend-requires-clause-read g c =
    read-to (g.K.Disk.history c.args.disk.now) (g.K.Disk.history c.sync.new.self) _ _ _ (synced-told _ _ c.in-Ok.ensures.synced) c.in-Ok-walk.ensures.history c.in-Ok-walk.ensures.through

pub returns-in-Err-walk-clause-not_opened : goal.returns-in-Err-walk-clause-not_opened
returns-in-Err-walk-clause-not_opened g c = refused-later _ (g.K.Disk.history c.sync.new.self) _ (synced-told _ _ c.in-Ok.ensures.synced) c.in-Err-walk.ensures.history

pub returns-in-Err-walk-clause-cause : goal.returns-in-Err-walk-clause-cause
returns-in-Err-walk-clause-cause g c =
    cause-told (g.K.Disk.failed c.args.disk.now) (g.K.Disk.failed c.sync.new.self) (g.K.Disk.failed c.walk.new.disk) (g.K.Disk.history c.args.disk.now) (g.K.Disk.history c.sync.new.self) (length c.in-Ok-new.index) c.args.members c.in-Err-walk.refusal
    c.in-Ok.ensures.later (as-many c.args.members c.in-Ok-new.index c.in-Ok-new.ensures) (synced-told _ _ c.in-Ok.ensures.synced) c.in-Err-walk.ensures.cause

pub returns-in-Ok-mend-clause-good : goal.returns-in-Ok-mend-clause-good
returns-in-Ok-mend-clause-good g c =
    let width : length c.walk.new.index ≡ c.args.members = c.in-Ok-walk.ensures.width ∙ as-many c.args.members c.in-Ok-new.index c.in-Ok-new.ensures in
    let all = told-opens (g.K.Disk.history c.args.disk.now) (g.K.Disk.history c.sync.new.self) (g.K.Disk.history c.walk.new.disk) (g.K.Disk.history c.mend.new.disk) c.in-Ok-walk.end c.args.members c.walk.new.index (synced-told _ _ c.in-Ok.ensures.synced) c.in-Ok-walk.ensures.history width c.in-Ok-walk.ensures.through c.in-Ok-mend.ensures.mended in
    record {
      width = width;
      inside = c.in-Ok-walk.ensures.within.1;
      gate = c.in-Ok-mend.ensures.inside;
      limit = c.in-Ok-mend.ensures.limit;
      kept = all.1;
      ready = λ _. all.2;
    }

pub returns-in-Ok-mend-clause-opened : goal.returns-in-Ok-mend-clause-opened
returns-in-Ok-mend-clause-opened g c =
    let width : length c.walk.new.index ≡ c.args.members = c.in-Ok-walk.ensures.width ∙ as-many c.args.members c.in-Ok-new.index c.in-Ok-new.ensures in
    (told-opens (g.K.Disk.history c.args.disk.now) (g.K.Disk.history c.sync.new.self) (g.K.Disk.history c.walk.new.disk) (g.K.Disk.history c.mend.new.disk) c.in-Ok-walk.end c.args.members c.walk.new.index (synced-told _ _ c.in-Ok.ensures.synced) c.in-Ok-walk.ensures.history width c.in-Ok-walk.ensures.through c.in-Ok-mend.ensures.mended).0

pub returns-in-Err-Failed-clause-not_opened : goal.returns-in-Err-Failed-clause-not_opened
returns-in-Err-Failed-clause-not_opened g c =
    refused-at-gate _ (g.K.Disk.history c.sync.new.self) (g.K.Disk.history c.walk.new.disk) _ _ _ (synced-told _ _ c.in-Ok.ensures.synced) c.in-Ok-walk.ensures.history c.in-Err-Failed.ensures.mended

pub returns-clause-not_opened : goal.returns-clause-not_opened
returns-clause-not_opened g c =
    refused-at-gate _ (g.K.Disk.history c.sync.new.self) (g.K.Disk.history c.walk.new.disk) _ _ _ (synced-told _ _ c.in-Ok.ensures.synced) c.in-Ok-walk.ensures.history c.in-Err-OutOfMemory.ensures.mended
