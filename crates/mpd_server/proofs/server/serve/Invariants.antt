use Rattle.mpd_server.proofs.server.serve.Given as goal

abbrev pub ghosts-host-L-Opening : goal.ghosts-host-L-Opening
ghosts-host-L-Opening g a = record { program = a.session.trail.program; mode = a.session.trail.mode }

abbrev pub ghosts-host-L-Ledger : goal.ghosts-host-L-Ledger
ghosts-host-L-Ledger g a = record { name = a.blank.name; parts = a.blank.parts }
