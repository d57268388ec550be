pub mod StandInLemmas
