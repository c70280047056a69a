-- Steps: what a lookout does with its scout are steps of it. For the laws.
use Rattle.std.proofs.Common.{◌≡◌, ◌∙◌, ℕ, zero, suc, Bool, true, false, if◌then◌else◌, [], ◌∷◌, Option, Some, None, refl, sym, ap, subst, inl, inr}
use Rattle.agent_standing.specs.Agent.{Agent}
use Rattle.vault_asking.specs.Sending.{Lanes}
use Rattle.base_clock.specs.declared.reading.Reading.{Reading}
use Rattle.vault_lanes.specs.declared.lanes.Answered.{Answered}
use Rattle.agent_turns.specs.declared.change.AgentChange.{AgentChange}
use Rattle.agent_turns.specs.declared.change.AgentChange.TheVariants as changes
use Rattle.plan_forest.specs.Forest.{Forest}
use Rattle.watch_scout_laws.specs.Behind.{IsLaterEnd}
use Rattle.watch_scout_laws.specs.Steps.{AllSteps, ScoutStep, Hears, Seeks, scout_after}
use Rattle.watch_scout_laws.proofs.Handing.{hands}
use Rattle.watch_machine.specs.{declared.event.WatchEvent.WatchEvent, declared.event.WatchReply.WatchReply, declared.event.WatchReply.TheVariants.Lost, State.WatchState}
use Rattle.watch_machine.proofs.Cases.{value_is}
use Rattle.watch_scout.specs.{Hearing.event_of, Hearing.freed, Looking.found, State.ScoutState}
use Rattle.agent_behind.specs.Laws.{Follows, GivesLaw, GoesLaw, IsFirstScout, IsLaterKnown, ToldLaw}
use Rattle.agent_behind.specs.Lookouts.{Ahead, HandsInBy, IsHandedIn, IsMade, LooksBy, StandsBeside, change_of, is_of_served}
use Rattle.agent_behind.specs.Lookups.{AreLookedUp, ByFound, IsLookedUp, Side, asked_from, side}

-- ---- one step after another

stays : (s : ScoutState) → Follows s s
stays s = ([], (tt, refl))

-- a step, and then more
then_more : (s t : ScoutState) (x : ScoutStep) → AllSteps s (x ∷ []) → Follows (scout_after x) t → Follows s t
then_more s t x one rest = (x ∷ rest.0, ((one.0, rest.1.0), rest.1.1))

-- it is asked for an entry
sought : (s : ScoutState) (w : WatchState) (from : ℕ) (t : ScoutState) → Follows (found s w from).state t → Follows s t
sought s w from t rest =
    then_more s t (Seeks (record { watch = w; from = from; entry = (found s w from).entry; state = (found s w from).state })) ((refl, refl), tt) rest

-- an answer is handed to it
heard : (s : ScoutState) (w : WatchState) (i : ℕ) (reply : WatchReply) (t : ScoutState) → Follows (freed s i) t → Follows s t
heard s w i reply t rest =
    then_more s t (Hears (record { watch = w; entry = i; reply = reply; event = event_of s w i reply; state = freed s i })) ((refl, refl), tt) rest

-- ---- lookups

looked_up : (port : ℕ) (a : Agent) (r : Reading) (i : ℕ) (old new : Side) (t : ScoutState) → IsLookedUp port a r i old new → Follows new.scout t → Follows old.scout t
looked_up port a r i old new t (inl sent) rest = subst (λ s. Follows s t) sent.scout rest
looked_up port a r i old new t (inr unsent) rest = heard old.scout a.machine i Lost t (subst (λ s. Follows s t) unsent.scout rest)

all_looked_up : (port : ℕ) (a : Agent) (r : Reading) (n from : ℕ) (old new : Side) → AreLookedUp port a r n from old new → Follows old.scout new.scout
all_looked_up port a r zero from old new h = subst (λ (x : Side). Follows old.scout x.scout) (sym h) (stays old.scout)
all_looked_up port a r (suc n) from old new h =
    sought old.scout a.machine from new.scout (by (found old.scout a.machine from).entry (λ i mid k. all_looked_up port a r n i mid new k) h) where
      by : (o : Option ℕ) → ((i : ℕ) (mid : Side) → AreLookedUp port a r n i mid new → Follows mid.scout new.scout) →
          ByFound o (new ≡ asked_from a from old) (λ i. (mid : Side) × (IsLookedUp port a r i (asked_from a from old) mid × AreLookedUp port a r n i mid new)) → Follows (found old.scout a.machine from).state new.scout
      by None rest k = subst (λ (x : Side). Follows (found old.scout a.machine from).state x.scout) (sym k) (stays (found old.scout a.machine from).state)
      by (Some i) rest k = looked_up port a r i (asked_from a from old) k.0 new.scout k.1.0 (rest i k.0 k.1.1)

-- ---- a turn

-- the scout that looks is the one that there was, or a new one
first_scout : {L : Type 0} (g : Forest) (old beside : Ahead L) (s : ScoutState) → StandsBeside g old beside → beside.scout ≡ Some s → IsFirstScout g old s
first_scout {L} g old beside s (inl kept) is = inl (subst (λ (x : Ahead L). x.scout ≡ Some s) kept.1 is)
first_scout g old beside s (inr anew) is = inr (subst (IsMade g old.number old.width) is anew.scout)

looks_by : (a : Agent) (r : Reading) (port free : ℕ) (o p : Option ScoutState) (l m : Lanes) (t : ScoutState) → LooksBy a r port free o l p m → p ≡ Some t → (s : ScoutState) × ((o ≡ Some s) × Follows s t)
looks_by a r port free None p l m t h is = absurd (let bad : None ≡ Some t = sym h.0 ∙ is in cc)
looks_by a r port free (Some s) p l m t h is =
    let same : h.0 ≡ t = value_is h.0 t (sym h.1.0 ∙ is) in
    (s, (refl, subst (λ x. Follows s x) same (all_looked_up port a r free 0 (side s l) (side h.0 m) h.1.1)))

module _ {L : Type 0} where
  pub goes_law : GoesLaw L
  goes_law a r old new waits t h is =
      let looked : h.looked.scout ≡ Some t = sym (ap (λ (x : Ahead L). x.scout) h.due) ∙ is in
      let looks = looks_by a r h.off.port _ h.off.scout h.looked.scout h.off.lanes h.looked.lanes t h.looks.looks looked in
      (looks.0, (first_scout a.machine.forest old h.beside looks.0 h.stands (sym h.comes.scout ∙ looks.1.0), looks.1.1))

-- ---- an answer

handed_by : (a : Agent) (s : ScoutState) (i : ℕ) (reply : WatchReply) (served : Bool) → Follows s (if served then freed s i else s)
handed_by a s i reply true = heard s a.machine i reply (freed s i) (stays (freed s i))
handed_by a s i reply false = stays s

handed : (a : Agent) (x : Answered) (s t : ScoutState) (event : Option WatchEvent) → IsHandedIn a x s event t → Follows s t
handed a x s t event h = subst (λ y. Follows s y) (sym h.scout) (handed_by a s x.index h.reply (is_of_served a s x.index))

module _ {L : Type 0} where
  pub gives_law : GivesLaw L
  gives_law a old new change s (inl none) is = (s, (ap (λ (x : Ahead L). x.scout) none.same ∙ is, stays s))
  gives_law a old new change s (inr hands) is =
      let by = subst (λ o. HandsInBy a hands.answer o change new.scout) is hands.scout in
      (by.0, (by.1.0, handed a hands.answer s by.0 by.1.1.0 by.1.1.1.0))

-- ---- what the agent is told

served_event : (a : Agent) (s : ScoutState) (i : ℕ) (reply : WatchReply) (event : WatchEvent) (served : Bool) → Some event ≡ (if served then event_of s a.machine i reply else None) → event_of s a.machine i reply ≡ Some event
served_event a s i reply event true is = sym is
served_event a s i reply event false is = absurd cc

later_known : (a : Agent) (i : ℕ) (event : WatchEvent) (change : AgentChange) → IsLaterEnd a.machine i event → Some change ≡ change_of (Some event) → IsLaterKnown a change
later_known a i event change later is = record {
  entry = i;
  end = later.end;
  renewable = later.renewable;
  is = value_is change (changes.Known i later.end later.renewable) (is ∙ ap (λ e. change_of (Some e)) later.is);
  later = subst (IsLaterEnd a.machine i) later.is later;
}

told_by : (a : Agent) (x : Answered) (s t : ScoutState) (event : Option WatchEvent) (change : AgentChange) → IsHandedIn a x s event t → Some change ≡ change_of event → IsLaterKnown a change
told_by a x s t None change h is = absurd cc
told_by a x s t (Some event) change h is =
    later_known a x.index event change (hands s a.machine x.index h.reply event (served_event a s x.index h.reply event (is_of_served a s x.index) h.event_is)) is

told_in : (a : Agent) (x : Answered) (o p : Option ScoutState) (change : AgentChange) → HandsInBy a x o (Some change) p → IsLaterKnown a change
told_in a x None p change h = absurd (let bad : Some change ≡ None = h.0 in cc)
told_in a x (Some s) p change h = told_by a x s h.0 h.1.1.0 change h.1.1.1.0 h.1.1.1.1

module _ {L : Type 0} where
  pub told_law : ToldLaw L
  told_law a old new change (inl none) = absurd (let bad : Some change ≡ None = none.gives_none in cc)
  told_law a old new change (inr hands) = told_in a hands.answer old.scout new.scout change hands.scout
