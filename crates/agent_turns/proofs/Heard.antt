-- Heard: turns for which memory sufficed are what follows from their words.
use Rattle.std.proofs.Common.{◌≡◌, ◌∙◌, ℕ, ◌-◌, Bool, true, false, List, [], ◌∷◌, ◌++◌, Option, Some, None, append-nil, ap, refl, sym, subst, inl, inr}
use Rattle.std.proofs.lemmas.List.Elements.{All-head, All-tail}
use Rattle.agent_standing.specs.Agent.{Agent}
use Rattle.base_clock.specs.declared.reading.Reading.{Reading}
use Rattle.vault_lanes.specs.declared.lanes.Answered.{Answered}
use Rattle.watch_machine.specs.declared.command.WatchRequest.{WatchRequest}
use Rattle.agent_turns.specs.{Held.Held, Held.ServingSide, Laws.WordsLaw}
use Rattle.agent_turns.specs.Stages.{AnswersAreTaken, AnswersCome, Commands, HandsInAnswers as HandsStage, HaveTaken, LeftOverGoesFirst, OnHeld, SendsRequests, ShortsAreSaid, TakesAnswers, TakesReadings, TakesUp, Then, TimeIsHandedIn}
use Rattle.agent_turns.specs.Turns.{IsServingTurn, ServingTurn, TurnHears}
use Rattle.agent_turns.specs.Words.{SaysBy, Suffices, SufficesBy, TurnFollowsWords, Words, WordsHandIn}

taken_join : (xs ys : List Answered) (a b c : Agent) → AnswersAreTaken xs a b → AnswersAreTaken ys b c → AnswersAreTaken (xs ++ ys) a c
taken_join [] ys a b c h k = subst (λ (x : Agent). AnswersAreTaken ys x c) h k
taken_join (x ∷ xs) ys a b c h k = (h.0, (h.1.0, taken_join xs ys h.0 b c h.1.1 k))

-- where nothing is left, all were taken
all_taken : (old new : Held) → HaveTaken old new → new.pending ≡ [] → AnswersAreTaken old.pending old.agent new.agent
all_taken old new h none =
    let all : old.pending ≡ h.taken = h.parts ∙ ap (λ xs. h.taken ++ xs) none ∙ append-nil h.taken in
    subst (λ xs. AnswersAreTaken xs old.agent new.agent) (sym all) h.agent

says_by : (old new : Agent) → ShortsAreSaid old new → (is_said : Bool) × SaysBy is_said old new
says_by old new (inl same) = (false, same)
says_by old new (inr said) = (true, said)

-- ---- the stages of a turn, put together

module _ (r : Reading) (old first second third fourth fifth new : Held) (sends : first ≡ record old { unsent = [] }) (takes : AnswersAreTaken first.pending first.agent second.agent) (comes : third.agent ≡ second.agent)
    (takes_up : AnswersAreTaken third.pending third.agent fourth.agent) (none : fourth.pending ≡ []) (reads : TimeIsHandedIn r fourth fifth) (is_said : Bool) (says : SaysBy is_said reads.mid fifth.agent)
    (sends_on : new ≡ record fifth { unsent = [] }) where
  left : AnswersAreTaken old.pending old.agent second.agent
  left = subst (λ (x : Held). AnswersAreTaken x.pending x.agent second.agent) sends takes

  came : AnswersAreTaken third.pending second.agent fourth.agent
  came = subst (λ (x : Agent). AnswersAreTaken third.pending x fourth.agent) comes takes_up

  agent : new.agent ≡ fifth.agent
  agent = ap (λ (x : Held). x.agent) sends_on

  pub hands_in : WordsHandIn r third.pending is_said old (old.unsent ++ fifth.unsent) new
  hands_in = record {
    told = fourth.agent;
    taken = taken_join old.pending third.pending old.agent second.agent fourth.agent left came;
    commanded = fifth.unsent;
    until = reads.until;
    notes = reads.notes;
    mid = reads.mid;
    turn = reads.turn;
    said = subst (SaysBy is_said reads.mid) (sym agent) says;
    sent_is = refl;
    held = sends_on ∙ ap (λ (x : Held). record x { unsent = [] }) reads.held
        ∙ ap (λ ps. record { agent = fifth.agent; pending = ps; unsent = []; asked = r; until = reads.until - reads.mid.machine.clocks.phase }) none
        ∙ ap (λ (a : Agent). record { agent = a; pending = []; unsent = []; asked = r; until = reads.until - reads.mid.machine.clocks.phase }) (sym agent);
  }

-- what a turn at readings hears of others, and what it then gives
abbrev Heard : Reading → Held → Held → Type 0
Heard r old new = (came : List Answered) × ((is_said : Bool) × ((sent : List WatchRequest) × WordsHandIn r came is_said old sent new))

-- a chain of stages goes on where memory sufficed
both : (first second : ServingSide → Bool → ServingSide → Type 0) (old new : ServingSide) → Then first second old true new → (mid : ServingSide) × (first old true mid × second mid true new)
both first second old new (inl h) = h
both first second old new (inr h) = absurd (let e = h.1 in cc)

sent_all : (port : ℕ) (old new : ServingSide) → SendsRequests port old true new → new.held ≡ record old.held { unsent = [] }
sent_all port old new h = h.0.held ∙ ap (λ rs. record old.held { unsent = rs }) h.1

heard : (port : ℕ) (r : Reading) (old new : ServingSide) → LeftOverGoesFirst port r old true new → Heard r old.held new.held
heard port r old new h =
    let a = both (SendsRequests port) (Then (OnHeld TakesAnswers) (TakesUp port r)) old new h in
    let b = both (OnHeld TakesAnswers) (TakesUp port r) a.0 new a.1.1 in
    let c = both (AnswersCome r.elapsed) (HandsStage port r) b.0 new b.1.1 in
    let d = both (OnHeld TakesAnswers) (Commands port r) c.0 new c.1.1 in
    let e = both (OnHeld (TakesReadings r)) (SendsRequests port) d.0 new d.1.1 in
    let says = says_by e.1.0.0.mid e.0.held.agent e.1.0.0.said in (
      c.0.held.pending,
      (
        says.0,
        (
          old.held.unsent ++ e.0.held.unsent,
          hands_in r old.held a.0.held b.0.held c.0.held d.0.held e.0.held new.held (sent_all port old a.0 a.1.0) (all_taken a.0.held b.0.held b.1.0.0.0 b.1.0.0.1) (ap (λ (x : Held). x.agent) c.1.0.held)
              (all_taken c.0.held d.0.held d.1.0.0.0 d.1.0.0.1) d.1.0.0.1 e.1.0.0 says.0 says.1 (sent_all port e.0 new e.1.1),
        ),
      ),
    )

-- ---- turns

abbrev Given : ServingTurn → Option Reading → ServingSide → ServingSide → Type 0
Given t reading old new = (came : List Answered) × ((is_said : Bool) × ((sent : List WatchRequest) × TurnFollowsWords (record { reading = reading; came = came; is_said = is_said; made = t.made }) old.held sent new.held))

one_turn_by : (port : ℕ) (old new : ServingSide) (t : ServingTurn) (h : IsServingTurn port old t new) (reading : Option Reading) → TurnHears port reading old t.is_whole h.mid → SufficesBy reading t.is_whole → Given t reading old new
one_turn_by port old new t h None hears enough = ([], (false, ([], record { mid = h.mid.held; hands = (refl, ap (λ (x : ServingSide). x.held) hears.1); before = h.mid.lanes; after = new.lanes; made = h.made })))
one_turn_by port old new t h (Some r) hears enough =
    let it = heard port r old h.mid (subst (λ b. LeftOverGoesFirst port r old b h.mid) enough hears) in
    (it.0, (it.1.0, (it.1.1.0, record { mid = h.mid.held; hands = it.1.1.1; before = h.mid.lanes; after = new.lanes; made = h.made })))

pub words_law : WordsLaw
words_law port old new [] h enough = ([], ([], (tt, (refl, ap (λ (x : ServingSide). x.held) h))))
words_law port old new (t ∷ rest) h enough =
    let one = one_turn_by port old h.0 t h.1.0 t.reading h.1.0.hears (All-head Suffices t rest enough) in
    let more = words_law port h.0 new rest h.1.1 (All-tail Suffices t rest enough) in
    let w : Words = record { reading = t.reading; came = one.0; is_said = one.1.0; made = t.made } in
    (w ∷ more.0, (one.1.1.0 ∷ more.1.0, ((record { reading = refl; made = refl }, more.1.1.0), (h.0.held, (one.1.1.1, more.1.1.1)))))
