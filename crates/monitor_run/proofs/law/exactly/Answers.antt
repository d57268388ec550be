use Rattle.monitor_run.proofs.Statuses.{words_status, only_words_status, told_status, absent_status, only_read_status, only_write_status, only_asm_status, only_litmus_status}
use Rattle.monitor_run.proofs.MadeRuns.{made_status}
use Rattle.monitor_run.proofs.law.exactly.Goals as goal

pub returns-clause-words : goal.returns-clause-words
returns-clause-words c = words_status

pub returns-clause-only_words : goal.returns-clause-only_words
returns-clause-only_words c = λ w a b x y out status answers. only_words_status w a b x y out status answers (λ files. c.told.ensures.words w files)

pub returns-clause-told : goal.returns-clause-told
returns-clause-told c = λ w a b x y out status files answers. told_status w a b x y out status answers (c.steady.ensures w) files

pub returns-clause-made : goal.returns-clause-made
returns-clause-made c = λ w a b x y out status answers. made_status w a b x y out status answers c.made_accepted.ensures

pub returns-clause-absent : goal.returns-clause-absent
returns-clause-absent c = λ w a b x y out status files name answers are. absent_status w a b x y out status answers (c.steady.ensures w) files are name

pub returns-clause-only_read : goal.returns-clause-only_read
returns-clause-only_read c = only_read_status

pub returns-clause-only_write : goal.returns-clause-only_write
returns-clause-only_write c = only_write_status

pub returns-clause-only_asm : goal.returns-clause-only_asm
returns-clause-only_asm c = λ w a b x y out status answers. only_asm_status w a b x y out status answers (λ files line cause. (c.told.ensures.lines w files line cause).0)

pub returns-clause-only_litmus : goal.returns-clause-only_litmus
returns-clause-only_litmus c = only_litmus_status
