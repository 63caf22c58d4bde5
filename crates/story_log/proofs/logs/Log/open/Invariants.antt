-- whether the disk models its device
use Rattle.story_log.proofs.logs.Log.open.Given as goal

abbrev pub ghost-opening : goal.ghost-opening
ghost-opening g a = g.D.Disk.tells
