use Rattle.std.proofs.Common.{◌≡◌, ◌<◌, ◌++◌, List, ℕ, length, map, drop, sym, ◌∙◌, ap, subst, arith}
use Rattle.std.proofs.lemmas.List.{length-map, take_at}
use Rattle.disk_log.specs.Disk.{IsGiven}
use Rattle.disk_log.proofs.Reading.{read-is}
use Rattle.disk_log.proofs.log.DiskLog.read_record.Goals as goal

pub returns-clause-record : goal.returns-clause-record
returns-clause-record g c =
    let known : c.args.member < length c.self.inside.index = omega (arith, length-map c.self.inside.index length, rw (← c.self.view_is) at c.requires.known) in
    let filled : length c.read_at.new.buffer ≡ length c.as_mut_slice.result.now = c.read_at.auto.buffer in
    let long : length c.read_at.new.buffer ≡ c.in-Ok.bytes.len = filled ∙ c.as_mut_slice.ensures.len in
    let same : c.from_vec.result ≡ c.read_at.new.buffer =
    c.from_vec.ensures ∙ take_at c.read_at.new.buffer (drop (length c.read_at.new.buffer) c.in-Ok.bytes.items) c.in-Ok.bytes.len long in
    let size : length c.from_vec.result ≡ c.span-span.result.count =
    ap length same ∙ filled ∙ ap length c.as_mut_slice.ensures.value ∙ c.in-Ok.ensures in
    let given : IsGiven (g.K.Disk.history c.self.inside.disk) c.span-span.result.at c.from_vec.result =
    subst (IsGiven (g.K.Disk.history c.self.inside.disk) c.span-span.result.at) (sym same) c.in-Ok-read_at.ensures.given in
    rw (← c.self.view_is) (read-is (g.K.Disk.history c.self.inside.disk) c.self.inside.end (length (map length c.self.inside.index)) c.self.inside.index c.args.member c.args.place c.span-span.result c.from_vec.result (sym (length-map c.self.inside.index length)) known c.span-span.ensures c.self.invariant.inside c.self.invariant.kept size given)
