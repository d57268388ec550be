use Rattle.std.proofs.Common.{subst, sym, ℕ, ◌<◌, length, arith}
use Rattle.frame_words.specs.declared.terms.Terms.{Terms}
use Rattle.node_frames.specs.Scans.{GivesNone}
use Rattle.node_frames.specs.declared.answers.Shown.{Shown}
use Rattle.node_frames.proofs.SeekLemmas.{gives_frame_outside, gives_none_outside, gives_none_lost}
use Rattle.node_frames.proofs.nodes.seek_outside.Goals as goal
use Rattle.node_frames.specs.Layout.{layout_of}

-- a cell with a lend is one of eight
low : (c : ℕ) (t : Terms) → c < length t.lends → c < 8
low c t within = let few = t.few_cells in omega arith

pub returns-in-Some-clause-sought : goal.returns-in-Some-clause-sought
returns-in-Some-clause-sought c =
    gives_frame_outside c.holds_and_looks_add_up.ensures.holds c.holds_and_looks_add_up.ensures.looks c.holds_and_looks_add_up.ensures.tell _ _ _ _ _ _ _ _ _ _ _ _ c.args.shape.now.has_frames c.frames_of-first.ensures.first c.frames_of-first.ensures.last (low c.args.cell.0 c.args.table.now.terms c.requires.lends) c.requires.outside.0 c.requires.outside.1 c.in-Lent.ensures.answer c.in-Some.ensures.scanned

pub returns-in-None-clause-sought : goal.returns-in-None-clause-sought
returns-in-None-clause-sought c =
    subst (λ (x : Shown). GivesNone (layout_of c.args.shape.now) c.args.table.now.terms.lends c.args.home.0 c.args.node.0 x c.args.holder.now.view c.give_up.new.holder.view) (sym c.give_up.ensures.shown)
    (gives_none_outside c.holds_and_looks_add_up.ensures.holds c.holds_and_looks_add_up.ensures.looks c.holds_and_looks_add_up.ensures.tell _ _ _ _ _ _ _ _ _ _ _ _ c.args.shape.now.has_frames c.frames_of-first.ensures.first c.frames_of-first.ensures.last (low c.args.cell.0 c.args.table.now.terms c.requires.lends) c.in-Lent.ensures.answer c.in-None.ensures.scanned c.give_up.ensures.repaid)

pub returns-in-Lost-clause-sought : goal.returns-in-Lost-clause-sought
returns-in-Lost-clause-sought c = gives_none_lost c.holds_and_looks_add_up.ensures.looks c.holds_and_looks_add_up.ensures.tell _ _ _ _ _ _ _ _ c.requires.outside.0 c.requires.outside.1 c.in-Lost.ensures.answer
