use Rattle.frame_words.proofs.loans.borrow.Given as goal

abbrev pub ghosts-load_loans : goal.ghosts-load_loans
ghosts-load_loans a = record { most = a.lend }
