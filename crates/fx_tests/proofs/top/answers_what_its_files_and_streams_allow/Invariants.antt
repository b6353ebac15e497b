use Rattle.fx_tests.proofs.top.answers_what_its_files_and_streams_allow.Given as goal

abbrev pub ghosts-call : goal.ghosts-call
ghosts-call g a = record { name = a.blank.name; parts = a.blank.parts }
