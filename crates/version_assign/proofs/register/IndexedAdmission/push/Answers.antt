use Rattle.version_assign.proofs.Entering.{room_made}
use Rattle.version_assign.proofs.Registering.{filed_same}
use Rattle.version_assign.proofs.register.IndexedAdmission.push.Goals as goal

pub returns-in_err-make_room-clause-kept : goal.returns-in_err-make_room-clause-kept
returns-in_err-make_room-clause-kept c =
    let m = room_made c.args.self.now.book c.make_room.new.self c.requires.kept.kept c.make_room.ensures.kept in
    record { kept = m.0; filed = filed_same c.args.self.now.book c.make_room.new.self c.args.self.now.waits m.1 c.make_room.ensures.kept.rows c.requires.kept.filed }

pub returns-in_err-admitted-clause-kept : goal.returns-in_err-admitted-clause-kept
returns-in_err-admitted-clause-kept c =
    let m = room_made c.args.self.now.book c.make_room.new.self c.requires.kept.kept c.make_room.ensures.kept in
    record { kept = m.0; filed = filed_same c.args.self.now.book c.make_room.new.self c.args.self.now.waits m.1 c.make_room.ensures.kept.rows c.requires.kept.filed }

pub returns-in_err-dropped-clause-kept : goal.returns-in_err-dropped-clause-kept
returns-in_err-dropped-clause-kept c =
    let m = room_made c.args.self.now.book c.make_room.new.self c.requires.kept.kept c.make_room.ensures.kept in
    record { kept = m.0; filed = filed_same c.args.self.now.book c.make_room.new.self c.args.self.now.waits m.1 c.make_room.ensures.kept.rows c.requires.kept.filed }

pub enter-requires-clause-kept : goal.enter-requires-clause-kept
enter-requires-clause-kept c =
    let m = room_made c.args.self.now.book c.make_room.new.self c.requires.kept.kept c.make_room.ensures.kept in
    record { kept = m.0; filed = filed_same c.args.self.now.book c.make_room.new.self c.args.self.now.waits m.1 c.make_room.ensures.kept.rows c.requires.kept.filed }
