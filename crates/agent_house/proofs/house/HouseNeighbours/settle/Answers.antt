-- What is served is heard of first, where that was made; then the change is settled.
use Rattle.std.proofs.Common.{◌≡◌, ◌∙◌, Bool, true, false, ap, refl, subst, sym}
use Rattle.std.specs.Prelude.{◌&&◌}
use Rattle.agent_house.specs.{Commands.is_served, Doing.HearsServedIf, Ends.HearsServed, declared.house.House.House}
use Rattle.agent_house.proofs.house.HouseNeighbours.settle.Goals as goal
use Rattle.agent_house.proofs.house.HouseNeighbours.settle.Goals.{then-is_made+then-is_served, else-is_made, else-is_made-via-then-is_made+else-is_served, else-is_made-via-else-is_made}

heard : {S T D K E : Type 0} (is : Bool) (old new : House S T D K E) → is ≡ true → HearsServed old new → HearsServedIf is old new
heard is old new e h = subst (λ b. HearsServedIf b old new) (sym e) h

unheard : {S T D K E : Type 0} (is : Bool) (old new : House S T D K E) → is ≡ false → new ≡ old → HearsServedIf is old new
unheard is old new e h = subst (λ b. HearsServedIf b old new) (sym e) h

pub returns-clause-does : goal.returns-clause-does
returns-clause-does g c =
    let old = c.args.self.now in
    let new = c.if-is_made.self in
    let is = c.args.is_made && is_served old.given in
    record {
      heard = new;
      settled = c.settle_given.new.self;
      served = elim c.if-is_made.branch [
        | then-is_made+then-is_served w ↦
            heard is old new (ap (λ b. b && is_served old.given) w.if-is_made.true ∙ sym w.is_served.ensures ∙ w.if-is_served.true) (subst (λ h. HearsServed old h) (sym w.self-is) w.hear_served.ensures)
        | else-is_made w ↦ elim w.else-is_made.branch [
          | else-is_made-via-then-is_made+else-is_served x ↦ unheard is old new (ap (λ b. b && is_served old.given) x.if-is_made.true ∙ sym x.is_served.ensures ∙ x.if-is_served.false) w.self-is
          | else-is_made-via-else-is_made x ↦ unheard is old new (ap (λ b. b && is_served old.given) x.if-is_made.false) w.self-is
        ]
      ];
      settles = c.settle_given.ensures;
      unmade = c.hear_unmade.ensures;
      rest = refl;
    }
