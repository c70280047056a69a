-- The Watch goes on over the forest of what is served from then on, and what is said of its entries follows.
use Rattle.std.proofs.Common.{◌≡◌, ◌∙◌, ap, length, map, refl, subst, sym}
use Rattle.std.specs.List.{range_with_len}
use Rattle.watch_machine.specs.{Change.IsChange, Change.changed, History.IsChanged, State.WatchState}
use Rattle.agent_standing.specs.{Agent.Agent, Agent.IsAgent, Changed.all_was, Changed.carried_standing}
use Rattle.agent_standing.proofs.{Onward.changed_is_agent, WasOf.all_was_is_change}
use Rattle.agent_standing.proofs.agent.Agent.change.Goals as goal

pub change-requires : goal.change-requires
change-requires c =
    let w = c.self.inside in
    let s = c.args.inventory in
    let n = length w.watch.forest.entries in
    let forest : c.in_ok-forest.forest ≡ s.forest = c.in_ok-forest.ensures ∙ c.forest.ensures.value in
    let was : c.deref.result.now ≡ all_was w.inventory s = c.deref.ensures.value ∙ c.in_ok-was.ensures ∙ ap (λ (a : Agent). all_was a.inventory s) (sym c.self.view_is) in
    subst (λ g. IsChange n g c.deref.result.now) (sym forest)
    (subst (IsChange n s.forest) (sym was) (all_was_is_change w.inventory s n c.forest.ensures.sound.forest (sym c.self.invariant.entries)))

pub invariant_of-self-2 : goal.invariant_of-self-2
invariant_of-self-2 c =
    let w = c.self.inside in
    let s = c.args.inventory in
    let old : Agent = record { machine = w.watch; inventory = w.inventory; standings = w.standings.items; beginnings = w.beginnings } in
    let xs = c.in_ok-standings.standings.items in
    let forest : c.in_ok-forest.forest ≡ s.forest = c.in_ok-forest.ensures ∙ c.forest.ensures.value in
    let was : c.deref.result.now ≡ all_was w.inventory s = c.deref.ensures.value ∙ c.in_ok-was.ensures ∙ ap (λ (a : Agent). all_was a.inventory s) (sym c.self.view_is) in
    let is : c.change.new.self ≡ changed w.watch s.forest (all_was w.inventory s) =
    c.in_ok-change.ensures.changed ∙ ap (λ g. changed w.watch g c.deref.result.now) forest ∙ ap (changed w.watch s.forest) was in
    let standings : xs ≡ map (carried_standing old s) (range_with_len 0 (length s.forest.entries)) =
    c.in_ok-standings.ensures.value ∙ ap (λ (a : Agent). map (carried_standing a s) (range_with_len 0 (length s.forest.entries))) (sym c.self.view_is) in
    subst (λ (m : WatchState). IsAgent (record { machine = m; inventory = s; standings = xs; beginnings = w.beginnings })) (sym is)
    (changed_is_agent old s c.self.invariant xs w.beginnings standings c.in_ok-standings.ensures.bounds)

pub returns-clause-changed : goal.returns-clause-changed
returns-clause-changed c =
    let w = c.self.inside in
    let s = c.args.inventory in
    let forest : c.in_ok-forest.forest ≡ s.forest = c.in_ok-forest.ensures ∙ c.forest.ensures.value in
    let was : c.deref.result.now ≡ all_was w.inventory s = c.deref.ensures.value ∙ c.in_ok-was.ensures ∙ ap (λ (a : Agent). all_was a.inventory s) (sym c.self.view_is) in
    let is : c.change.new.self ≡ changed w.watch s.forest (all_was w.inventory s) =
    c.in_ok-change.ensures.changed ∙ ap (λ g. changed w.watch g c.deref.result.now) forest ∙ ap (changed w.watch s.forest) was in
    record {
      inventory = refl;
      standings = c.in_ok-standings.ensures.value;
      machine = subst (λ (a : Agent). IsChanged a.machine (record { forest = s.forest; was = all_was a.inventory s; state = c.change.new.self })) c.self.view_is
          (record { may = all_was_is_change w.inventory s (length w.watch.forest.entries) c.forest.ensures.sound.forest (sym c.self.invariant.entries); state = is });
      beginnings = ap (λ (a : Agent). a.beginnings) c.self.view_is;
    }
