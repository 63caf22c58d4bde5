use Rattle.session_run.proofs.threads.run_on_threads.Given as goal

-- the core as its phase had begun
abbrev pub ghosts-run_lanes_at : goal.ghosts-run_lanes_at
ghosts-run_lanes_at g a = record { at = a.core }
