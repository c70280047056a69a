-- The table has the faults of the words that were passed, and those left decide the rest.
use Rattle.std.proofs.Common.{◌≡◌, ◌+◌, drop}
use Rattle.tick_runs.specs.FaultWords.{faults_from, faults_of}
use Rattle.tick_runs.proofs.rehearse.fault_words.set_faults.Given as goal

abbrev pub invariant-loop-word : goal.invariant-loop-word
invariant-loop-word l = record {
  place : l.place ≡ l.word-index;
  rest : faults_of l.words ≡ faults_from l.table.faults (l.place + 1) (drop l.word-index l.words);
  table : l.table ≡ record l.fn.table { faults = l.table.faults };
}
