use Rattle.channel_link.proofs.server_line.spare.Given as goal

abbrev pub ghosts-another_said : goal.ghosts-another_said
ghosts-another_said a = record { endpoint = a._endpoint }
