-- Passing: what a call does to the others and to the lookout. For `behind`.
use Rattle.std.proofs.Common.{◌≡◌, ◌∙◌, ℕ, ◌||◌, Bool, true, false, List, Option, Some, None, ap, refl, subst, sym}
use Rattle.agent_standing.specs.Agent.{Agent}
use Rattle.base_clock.specs.declared.reading.Reading.{Reading}
use Rattle.agent_turns.specs.declared.change.AgentChange.{AgentChange}
use Rattle.agent_turns.specs.Neighbours.{GoOn, Hear, NeighbourCall, Step, Thing}
use Rattle.watch_machine.specs.declared.command.WatchRequest.{WatchRequest}
use Rattle.agent_behind.specs.declared.behind.Behind.{Behind}
use Rattle.agent_behind.specs.Behinds.{HearsBy, OneGives, OneGoesAhead, PassesBehind, StepsBy, StepsIf, lead_ahead, renews, requests_at}
use Rattle.agent_behind.specs.Lookouts.{Ahead, GivesAhead, GoesAhead}

-- ---- the lookout, where there is one

pub none_goes : {L : Type 0} (a : Agent) (r : Reading) (o : Option (Ahead L)) → o ≡ None → OneGoesAhead a r o false o
none_goes a r o none = subst (λ x. OneGoesAhead a r x false x) (sym none) (refl, refl)

pub one_goes : {L : Type 0} (o : Option (Ahead L)) (a : Agent) (r : Reading) (l m : Ahead L) (waits : Bool) → o ≡ Some l → GoesAhead a r l waits m → OneGoesAhead a r o waits (Some m)
one_goes o a r l m waits is h = subst (λ x. OneGoesAhead a r x waits (Some m)) (sym is) (m, (refl, h))

pub none_gives : {L : Type 0} (a : Agent) (o : Option (Ahead L)) → o ≡ None → OneGives a o None o
none_gives a o none = subst (λ x. OneGives a x None x) (sym none) (refl, refl)

pub one_gives : {L : Type 0} (o : Option (Ahead L)) (a : Agent) (l m : Ahead L) (change : Option AgentChange) → o ≡ Some l → GivesAhead a l change m → OneGives a o change (Some m)
one_gives o a l m change is h = subst (λ x. OneGives a x change (Some m)) (sym is) (m, (refl, h))

-- ---- the others

module _ {N : Type 0} (does : NeighbourCall → N → N → Type 0) (a : Agent) where
  pub steps_taken :
      (asked : Option (List WatchRequest)) (ahead : Option ℕ) (requests : List WatchRequest) (lead : ℕ) (old new : N) → asked ≡ Some requests → ahead ≡ Some lead → renews requests ≡ true → does (Hear a (Step lead requests)) old new →
      StepsBy does a asked ahead old new
  steps_taken asked ahead requests lead old new out stands is hears =
      subst (λ x. StepsBy does a x ahead old new) (sym out) (subst (λ l. StepsBy does a (Some requests) l old new) (sym stands) (subst (λ b. StepsIf does b a lead requests old new) (sym is) hears))

  pub none_renewed :
      (asked : Option (List WatchRequest)) (ahead : Option ℕ) (requests : List WatchRequest) (lead : ℕ) (old new : N) → asked ≡ Some requests → ahead ≡ Some lead → renews requests ≡ false → new ≡ old → StepsBy does a asked ahead old new
  none_renewed asked ahead requests lead old new out stands is same =
      subst (λ x. StepsBy does a x ahead old new) (sym out) (subst (λ l. StepsBy does a (Some requests) l old new) (sym stands) (subst (λ b. StepsIf does b a lead requests old new) (sym is) same))

  pub none_ahead : (asked : Option (List WatchRequest)) (ahead : Option ℕ) (old new : N) → ahead ≡ None → new ≡ old → StepsBy does a asked ahead old new
  none_ahead None ahead old new none same = same
  none_ahead (Some requests) ahead old new none same = subst (λ l. StepsBy does a (Some requests) l old new) (sym none) same

  pub none_out : (asked : Option (List WatchRequest)) (ahead : Option ℕ) (old new : N) → asked ≡ None → new ≡ old → StepsBy does a asked ahead old new
  none_out asked ahead old new none same = subst (λ x. StepsBy does a x ahead old new) (sym none) same

module _ {N L : Type 0} (does : NeighbourCall → N → N → Type 0) (a : Agent) where
  pub hears_by :
      (thing : Thing) (old mid new : Behind N L) (asked : Option (List WatchRequest)) → does (Hear a thing) old.others mid.others → mid ≡ record old { others = mid.others } → asked ≡ requests_at thing →
      StepsBy does a asked (lead_ahead a.machine mid.lookout) mid.others new.others → new ≡ record mid { others = new.others } → HearsBy does a thing old new
  hears_by thing old mid new asked hears kept is steps rest = record {
    others = mid.others;
    hears = hears;
    steps = subst (λ x. StepsBy does a x (lead_ahead a.machine old.lookout) mid.others new.others) is (subst (λ o. StepsBy does a asked (lead_ahead a.machine o) mid.others new.others) (ap (λ (x : Behind N L). x.lookout) kept) steps);
    rest = rest ∙ ap (λ (x : Behind N L). record x { others = new.others }) kept;
  }

  pub goes_on_by :
      (due_by : ℕ → ℕ → L → ℕ) (now : Reading) (theirs waits is_busy : Bool) (old mid new : Behind N L) → does (GoOn a now theirs) old.others mid.others → mid.lookout ≡ old.lookout → OneGoesAhead a now mid.lookout waits new.lookout →
      new ≡ record mid { lookout = new.lookout } → is_busy ≡ theirs || waits → PassesBehind due_by does (GoOn a now is_busy) old new
  goes_on_by due_by now theirs waits is_busy old mid new went same goes rest is = (
    theirs,
    (
      subst (λ (x : N). does (GoOn a now theirs) old.others x) (sym (ap (λ (x : Behind N L). x.others) rest)) went,
      (waits, (subst (λ o. OneGoesAhead a now o waits new.lookout) same goes, is)),
    ),
  )
