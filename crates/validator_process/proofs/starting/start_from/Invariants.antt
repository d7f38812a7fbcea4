use Rattle.validator_process.proofs.starting.start_from.Given as goal

abbrev pub ghosts-start_over : goal.ghosts-start_over
ghosts-start_over g a = record { history = g.F.Disk.history a.log.disk; end = a.log.end; counts = a.log.counts; shut = a.log.shut }
