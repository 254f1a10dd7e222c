use Rattle.server.proofs.serve.Service.serve.Given as goal

-- the register is that of the planned rooms
abbrev pub ghosts-serve_in_memory : goal.ghosts-serve_in_memory
ghosts-serve_in_memory g a = record { limits = a.planned.limits; register = a.planned.register }
