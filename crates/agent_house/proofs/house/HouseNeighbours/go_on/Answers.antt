-- It goes on by what it calls, one after another.
use Rattle.std.proofs.Common.{◌∙◌, true, false, ap, sym}
use Rattle.std.specs.Prelude.{◌||◌}
use Rattle.agent_house.proofs.house.HouseNeighbours.go_on.Goals as goal

pub returns-then-goes_on-clause-does : goal.returns-then-goes_on-clause-does
returns-then-goes_on-clause-does g c =
    let first = c.if-goes_on.true in
    record {
      kept = c.agent_ends.new.self;
      looked = c.look-goes_on.new.self;
      goes_on = c.look-goes_on.result;
      is_more = c.attend-is_busy.result;
      ends = c.agent_ends.ensures;
      look = c.look-goes_on.ensures;
      attend = c.attend-is_busy.ensures;
      busy = first ∙ sym (ap (λ b. b || c.attend-is_busy.result) first);
    }

pub returns-else-goes_on-clause-does : goal.returns-else-goes_on-clause-does
returns-else-goes_on-clause-does g c = record {
  kept = c.agent_ends.new.self;
  looked = c.look-goes_on.new.self;
  goes_on = c.look-goes_on.result;
  is_more = c.attend-is_busy.result;
  ends = c.agent_ends.ensures;
  look = c.look-goes_on.ensures;
  attend = c.attend-is_busy.ensures;
  busy = sym (ap (λ b. b || c.attend-is_busy.result) c.if-goes_on.false);
}
