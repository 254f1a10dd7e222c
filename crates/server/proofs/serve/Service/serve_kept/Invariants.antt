use Rattle.server.proofs.serve.Service.serve_kept.Given as goal

-- the register is that of the planned rooms
abbrev pub ghosts-serve_in_files : goal.ghosts-serve_in_files
ghosts-serve_in_files g a = record { limits = a.planned.limits; register = a.planned.register }
