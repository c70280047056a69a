-- The entries of the requests so far are in the list, and there is room for those of the others.
use Rattle.std.proofs.Common.{◌≡◌, ◌≤◌, length, map, take}
use Rattle.std.specs.Vec.{vec_capacity, vec_len}
use Rattle.watch_machine.specs.declared.lanes.Out.{Out}
use Rattle.agent_turns.proofs.changing.entries_in.Given as goal

abbrev pub invariant-loop-request : goal.invariant-loop-request
invariant-loop-request l = record {
  so_far : l.entries.items ≡ map (λ (r : Out). r.entry) (take l.request-index l.out);
  count : vec_len l.entries ≡ l.request-index;
  room : length l.out ≤ vec_capacity l.entries;
}
