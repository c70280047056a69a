-- To take the records that are left gives what it gives to take all of them.
use Rattle.std.proofs.Common.{◌≡◌, drop}
use Rattle.state_changes.specs.Replay.{replay_begun, replay_from}
use Rattle.state_changes.proofs.replaying.replay.Given as goal

abbrev pub invariant-loop-at : goal.invariant-loop-at
invariant-loop-at l = replay_from l.file l.at l.state (drop l.at l.records) ≡ replay_from l.file 0 (replay_begun l.file) l.records
