-- RunOfWatch: the law that all that happens to the Watch of an agent from its start on is one run of it.
use Rattle.std.proofs.Common.{◌≡◌, ◌++◌, true, List, [], ◌∷◌, ℕ, filter, ap, refl, subst}
use Rattle.agent_standing.specs.Agent.{Agent, fresh}
use Rattle.watch_machine.specs.{declared.event.WatchEvent.WatchEvent, State.opened}
use Rattle.watch_machine.specs.declared.event.WatchEvent.TheVariants as events
use Rattle.agent_turns.specs.{Happenings.happenings_of, Held.Held, Held.ServingSide, Laws.Lead, Resuming.AreResumed, Resuming.IsResumed}
use Rattle.agent_turns.specs.Apart.{Ending, EndsBy, Spent, Unread, Over, Changed}
use Rattle.agent_turns.specs.RunOfWatch.{ResumedLaw, ServingLaw, events_of, happenings_of_known, happenings_of_resuming, happenings_of_wait, is_told_before}
use Rattle.agent_turns.proofs.Stretch.{and_then, by_change, by_event, nowhere, stretch_law}

-- ---- what it is handed first

same_machine : (old new : Agent) → new ≡ old → Lead old.machine [] new.machine
same_machine old new same = nowhere old.machine new.machine (ap (λ (a : Agent). a.machine) same)

known_leads : (e : WatchEvent) (old new : Agent) (h : IsResumed e old new) → Lead old.machine (happenings_of_known e old new h) new.machine
known_leads (events.Known i end renewable) old new h = by_event (events.Known i end renewable) old new h.0 h.1
known_leads _ old new h = same_machine old new h

resuming_leads : (es : List WatchEvent) (old new : Agent) (h : AreResumed es old new) → Lead old.machine (happenings_of_resuming es old new h) new.machine
resuming_leads [] old new h = same_machine old new h
resuming_leads (e ∷ rest) old new h =
    and_then old.machine h.0.machine new.machine (happenings_of_known e old h.0 h.1.0) (happenings_of_resuming rest h.0 new h.1.1) (known_leads e old h.0 h.1.0) (resuming_leads rest h.0 new h.1.1)

-- ---- a start that waits

stays : (old new : ServingSide) → new ≡ old → Lead old.held.agent.machine [] new.held.agent.machine
stays old new same = nowhere old.held.agent.machine new.held.agent.machine (ap (λ (s : ServingSide). s.held.agent.machine) same)

wait_leads : (until : ℕ) (ending : Ending) (old new : ServingSide) (h : EndsBy until ending old new) → Lead old.held.agent.machine (happenings_of_wait until ending old new h) new.held.agent.machine
wait_leads until Spent old new h = stays old new h
wait_leads until Unread old new h = stays old new h
wait_leads until (Over r) old new h = stays old new h.1
wait_leads until (Changed r shown is_busy change) old new h = by_change change true old new h.1.1

-- ---- laws

pub serving_law : ServingLaw
serving_law port width until most known s agent shown start begun new w turns resumed is waited are =
    let waits = happenings_of_wait until w.ending start begun waited.ends in
    let goes = happenings_of port begun turns new are in
    let later = and_then start.held.agent.machine begun.held.agent.machine new.held.agent.machine waits goes (wait_leads until w.ending start begun waited.ends) (stretch_law port begun new turns are) in
    and_then (opened s.forest width) agent.machine new.held.agent.machine (happenings_of_resuming known (fresh s width) agent resumed) (waits ++ goes) (resuming_leads known (fresh s width) agent resumed)
    (subst (λ (h : Held). Lead h.agent.machine (waits ++ goes) new.held.agent.machine) is later)

resumed_events : (es : List WatchEvent) (old new : Agent) (h : AreResumed es old new) → events_of (happenings_of_resuming es old new h) ≡ filter is_told_before es
resumed_events [] old new h = refl
resumed_events (events.Clock wall elapsed ∷ rest) old new h = resumed_events rest h.0 new h.1.1
resumed_events (events.Looked i reply terms ∷ rest) old new h = resumed_events rest h.0 new h.1.1
resumed_events (events.Renewed i reply ∷ rest) old new h = resumed_events rest h.0 new h.1.1
resumed_events (events.Need i until ∷ rest) old new h = resumed_events rest h.0 new h.1.1
resumed_events (events.Begin ∷ rest) old new h = resumed_events rest h.0 new h.1.1
resumed_events (events.Known i end renewable ∷ rest) old new h = ap (λ es. events.Known i end renewable ∷ es) (resumed_events rest h.0 new h.1.1)

pub resumed_law : ResumedLaw
resumed_law es s width new h = resumed_events es (fresh s width) new h
