-- The text so far is whole chunks within the room, which hold the body so far.
use Rattle.std.proofs.Common.{◌-◌, ◌≤◌, length}
use Rattle.vault_http.specs.Chunks.{HasChunks}
use Rattle.vault_http.proofs.chunk.judge_chunks.Given as goal

abbrev pub invariant-loop-start : goal.invariant-loop-start
invariant-loop-start l = record {
  within : l.at ≤ length l.text;
  fits : l.at ≤ l.room;
  so_far : HasChunks l.text l.at l.body.items;
}

abbrev pub decreases-loop-start : goal.decreases-loop-start
decreases-loop-start l = length l.text - l.at
