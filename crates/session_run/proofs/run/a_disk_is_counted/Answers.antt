use Rattle.session_run.proofs.run.a_disk_is_counted.Goals as goal

pub returns : goal.returns
returns g c = g.met.D.Disk.counted
