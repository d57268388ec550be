use Rattle.isolation_law.specs.Start.{start}
use Rattle.guest_core.proofs.laws.laws.Goals as goal

pub returns-clause-rows : goal.returns-clause-rows
returns-clause-rows c = record {
  halts = c.halts_stay.ensures.row;
  count = c.halts_stay.ensures.count;
  processors = c.halts_stay.ensures.processors;
  loaded = c.halts_stay.ensures.loaded;
  grows = c.run_grows.ensures.row;
  around = c.row_keeps.ensures.around;
  skips = c.entries_tell.ensures.skips;
  stays_dead = c.failures_stay.ensures.stays;
  fails = c.failures_stay.ensures.once;
  ends = c.entries_tell.ensures.ends;
  outlives = c.entries_tell.ensures.outlives;
  alive = c.goes_on_alive.ensures.loaded;
}

pub returns-clause-moves : goal.returns-clause-moves
returns-clause-moves c = record {
  loads = c.moves_counted.ensures.loads;
  unloads = c.moves_counted.ensures.unloads;
  steps = c.moves_counted.ensures.steps;
  refills = c.moves_counted.ensures.refills;
  emulates = c.moves_counted.ensures.emulates;
  begins = c.moves_counted.ensures.begins;
  ends_read = c.moves_counted.ensures.ends_read;
  acks = c.moves_counted.ensures.acks;
  finishes = c.moves_counted.ensures.finishes;
  comes_to_hand = c.moves_counted.ensures.comes_to_hand;
  lets_go = c.moves_counted.ensures.lets_go;
  receives = c.moves_counted.ensures.receives;
  ends_delivery = c.moves_counted.ensures.ends_delivery;
  skips = c.moves_counted.ensures.skips;
  discards = c.moves_counted.ensures.discards;
  fails = c.moves_counted.ensures.fails;
  ends = c.moves_counted.ensures.ends;
}

pub returns-clause-runs : goal.returns-clause-runs
returns-clause-runs c = record {
  live = λ b journal t run. c.isolation_from.ensures.uses_live (start b) t journal (c.start_holds.ensures.uses_live b) run;
  skips = c.journals_tell.ensures.skips;
  ended = c.journals_tell.ensures.ended;
}

pub returns-clause-sends : goal.returns-clause-sends
returns-clause-sends c = record { accepted = c.sends.ensures.accepted; full = c.sends.ensures.full }

pub returns-clause-takes : goal.returns-clause-takes
returns-clause-takes c = record {
  same = c.takes.ensures.same;
  tells_same = c.takes.ensures.tells_same;
  comes = c.takes.ensures.comes;
  received = c.takes.ensures.received;
  tells = c.takes.ensures.tells;
  ended = c.takes.ensures.ended;
  tells_ended = c.takes.ensures.tells_ended;
  discarded = c.takes.ensures.discarded;
  tells_discarded = c.takes.ensures.tells_discarded;
}
