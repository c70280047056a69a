-- Turned: after a turn, an agent is one. For `turn`.
use Rattle.std.proofs.Common.{◌≡◌, ◌∙◌, ℕ, zero, suc, ◌<◌, ◌≤◌, List, [], ◌∷◌, Ok, All, length, refl, sym, ap, subst, arith, inl, inr}
use Rattle.std.proofs.lemmas.Bool.{cases_eq, cases_lt}
use Rattle.std.proofs.lemmas.List.{get_or_past, get_or-set_other, get_or-set_same, length-set, set_past}
use Rattle.std.specs.Prelude.{slice_set}
use Rattle.vault_inventory.specs.Inventories.{Inventory, inventory_with_need}
use Rattle.watch_machine.specs.{declared.command.WatchOutput.WatchOutput, declared.event.WatchEvent.WatchEvent, declared.track.Track.Track, History.Turn}
use Rattle.watch_machine.specs.declared.event.WatchEvent.TheVariants.{Clock, Looked, Renewed, Need, Begin, Known}
use Rattle.watch_machine.specs.declared.event.WatchReply.TheVariants.{Told, Refused, Busy, Lost}
use Rattle.watch_machine.specs.State.{WatchState, no_track, track_at}
use Rattle.agent_standing.specs.{declared.standing.EntryStanding.EntryStanding, Turns.EventIsTaken, Turns.inventory_after}
use Rattle.agent_standing.specs.Agent.{Agent, Believes, IsAgent, IsStanding}
use Rattle.agent_standing.specs.Standings.{fresh_standing, standing_in, standings_after, told_of}
use Rattle.agent_standing.proofs.Believing.{still_believed, told_believed}
use Rattle.agent_standing.proofs.Left.{IsLeft, TellsOf, left_turn}

-- ---- what was told of an entry of which an event tells nothing

set_told : (xs : List EntryStanding) (j : ℕ) (y : EntryStanding) → y.told ≡ (standing_in xs j).told → (i : ℕ) → (standing_in (slice_set xs j y) i).told ≡ (standing_in xs i).told
set_told [] j y made i = refl
set_told (x ∷ xs) zero y made zero = made
set_told (x ∷ xs) (suc j) y made (suc i) = set_told xs j y made i
set_told (x ∷ xs) _ y made _ = refl

other_told : (xs : List EntryStanding) (j : ℕ) (y : EntryStanding) (i : ℕ) → (i ≡ j → ⊥) → (standing_in (slice_set xs j y) i).told ≡ (standing_in xs i).told
other_told xs j y i other = ap (λ (x : EntryStanding). x.told) (get_or-set_other xs j i y fresh_standing other)

told_same : (m : WatchState) (event : WatchEvent) (xs : List EntryStanding) (i : ℕ) → (TellsOf event i → ⊥) → (standing_in (standings_after m event xs) i).told ≡ (standing_in xs i).told
told_same m (Looked j (Told seconds renewable date) terms) xs i other = other_told xs j _ i other
told_same m (Looked j (Refused status date) terms) xs i other = set_told xs j _ refl i
told_same m (Looked j Busy terms) xs i other = set_told xs j _ refl i
told_same m (Looked j Lost terms) xs i other = set_told xs j _ refl i
told_same m (Renewed j (Told seconds renewable date)) xs i other = other_told xs j _ i other
told_same m (Renewed j (Refused status date)) xs i other = set_told xs j _ refl i
told_same m (Renewed j Busy) xs i other = set_told xs j _ refl i
told_same m (Renewed j Lost) xs i other = set_told xs j _ refl i
told_same m (Known j end renewable) xs i other = other_told xs j _ i other
told_same m _ xs i other = refl

-- ---- what is believed after a turn

abbrev pub Believed : WatchState → List EntryStanding → ℕ → Type 0
Believed m xs i = Believes (track_at m i).end (track_at m i).renewable (standing_in xs i).told

-- of an entry of which nothing is told
rest_believed : (old new : WatchState) (event : WatchEvent) (xs : List EntryStanding) (i : ℕ) → IsLeft old event new → (TellsOf event i → ⊥) → Believed old xs i → Believed new (standings_after new event xs) i
rest_believed old new event xs i left other h =
    subst (λ t. Believes (track_at new i).end (track_at new i).renewable t) (sym (told_same new event xs i other)) (still_believed (track_at new i) (track_at old i) _ (left.words i other) h)

-- of one of which a standing says what was told just now
own_believed : (new : WatchState) (xs : List EntryStanding) (j : ℕ) (y : EntryStanding) → new.clocks.phase < 1000 → j < length xs → y.told ≡ told_of new j → Believed new (slice_set xs j y) j
own_believed new xs j y below within is =
    subst (λ t. Believes (track_at new j).end (track_at new j).renewable t) (sym (ap (λ (x : EntryStanding). x.told) (get_or-set_same xs j y fresh_standing within) ∙ is)) (told_believed new j below)

-- of one that is no more nothing is believed, and nothing is said
past_believed : (new : WatchState) (xs : List EntryStanding) (j : ℕ) (y : EntryStanding) → length new.tracks ≤ j → length xs ≤ j → Believed new (slice_set xs j y) j
past_believed new xs j y tracks past =
    subst (λ ys. Believed new ys j) (sym (set_past xs j y past))
    (subst (λ (x : Track). Believes x.end x.renewable (standing_in xs j).told) (sym (get_or_past new.tracks j no_track tracks))
    (ap (λ (x : EntryStanding). x.told) (get_or_past xs j fresh_standing past)))

-- of one of which an answer tells
answer_believed :
    (old new : WatchState) (event : WatchEvent) (xs : List EntryStanding) (j : ℕ) (y : EntryStanding) → IsLeft old event new → length xs ≡ length old.forest.entries →
    length old.tracks ≡ length old.forest.entries → new.clocks.phase < 1000 → y.told ≡ told_of new j → Believed new (slice_set xs j y) j
answer_believed old new event xs j y left few tracked below is = elim (cases_lt j (length xs)) [
  | inl within ↦ own_believed new xs j y below within is
  | inr past ↦ past_believed new xs j y (let count = left.tracks in omega (arith, count, tracked, few, past)) past
]

one_or_other : (old new : WatchState) (event : WatchEvent) (xs : List EntryStanding) (j i : ℕ) → IsLeft old event new → ((i ≡ j → ⊥) → TellsOf event i → ⊥) → Believed new (standings_after new event xs) j → Believed old xs i → Believed new (standings_after new event xs) i
one_or_other old new event xs j i left others own h =
    elim (cases_eq i j) [
      | inl same ↦ subst (λ k. Believed new (standings_after new event xs) k) (sym same) own
      | inr other ↦ rest_believed old new event xs i left (others other) h
    ]

turn_believed : (old new : WatchState) (event : WatchEvent) (output : WatchOutput) (xs : List EntryStanding) → length xs ≡ length old.forest.entries → length old.tracks ≡ length old.forest.entries → old.clocks.phase < 1000 →
    Turn old event (Ok output) new → (i : ℕ) → Believed old xs i → Believed new (standings_after new event xs) i
turn_believed old new (Clock wall elapsed) output xs few tracked below turn i h = rest_believed old new (Clock wall elapsed) xs i (left_turn old new (Clock wall elapsed) output turn) (λ no. no) h
turn_believed old new (Looked j (Told seconds renewable date) terms) output xs few tracked below turn i h =
    let event = Looked j (Told seconds renewable date) terms in
    let left = left_turn old new event output turn in
    one_or_other old new event xs j i left (λ other. other) (answer_believed old new event xs j _ left few tracked (left.phase below) refl) h
turn_believed old new (Looked j (Refused status date) terms) output xs few tracked below turn i h = rest_believed old new _ xs i (left_turn old new (Looked j (Refused status date) terms) output turn) (λ no. no) h
turn_believed old new (Looked j Busy terms) output xs few tracked below turn i h = rest_believed old new _ xs i (left_turn old new (Looked j Busy terms) output turn) (λ no. no) h
turn_believed old new (Looked j Lost terms) output xs few tracked below turn i h = rest_believed old new _ xs i (left_turn old new (Looked j Lost terms) output turn) (λ no. no) h
turn_believed old new (Renewed j (Told seconds renewable date)) output xs few tracked below turn i h =
    let event = Renewed j (Told seconds renewable date) in
    let left = left_turn old new event output turn in
    one_or_other old new event xs j i left (λ other. other) (answer_believed old new event xs j _ left few tracked (left.phase below) refl) h
turn_believed old new (Renewed j (Refused status date)) output xs few tracked below turn i h = rest_believed old new _ xs i (left_turn old new (Renewed j (Refused status date)) output turn) (λ no. no) h
turn_believed old new (Renewed j Busy) output xs few tracked below turn i h = rest_believed old new _ xs i (left_turn old new (Renewed j Busy) output turn) (λ no. no) h
turn_believed old new (Renewed j Lost) output xs few tracked below turn i h = rest_believed old new _ xs i (left_turn old new (Renewed j Lost) output turn) (λ no. no) h
turn_believed old new (Need j until) output xs few tracked below turn i h = rest_believed old new (Need j until) xs i (left_turn old new (Need j until) output turn) (λ no. no) h
turn_believed old new Begin output xs few tracked below turn i h = rest_believed old new Begin xs i (left_turn old new Begin output turn) (λ no. no) h
turn_believed old new (Known j end renewable) output xs few tracked below turn i h =
    let event = Known j end renewable in
    let left = left_turn old new event output turn in
    one_or_other old new event xs j i left (λ other. other) (answer_believed old new event xs j _ left few tracked (left.phase below) refl) h

-- ---- the counts

standings_count : (m : WatchState) (event : WatchEvent) (xs : List EntryStanding) → length (standings_after m event xs) ≡ length xs
standings_count m (Looked j reply terms) xs = length-set xs j _
standings_count m (Renewed j reply) xs = length-set xs j _
standings_count m (Known j end renewable) xs = length-set xs j _
standings_count m _ xs = refl

with_need_count : (s : Inventory) (i need : ℕ) → length (inventory_with_need s i need).forest.entries ≡ length s.forest.entries
unfolding inventory_with_need
with_need_count s i need = length-set s.forest.entries i _

inventory_count : (event : WatchEvent) (s : Inventory) → length (inventory_after event s).forest.entries ≡ length s.forest.entries
inventory_count (Need j until) s = with_need_count s j _
inventory_count _ s = refl

pub turned_is_agent : (old new : Agent) (event : WatchEvent) (output : WatchOutput) → IsAgent old → EventIsTaken old event output new → All IsStanding new.standings → IsAgent new
turned_is_agent old new event output agent taken bounded =
    let left = left_turn old.machine new.machine event output taken.machine in
    let same : length new.inventory.forest.entries ≡ length old.inventory.forest.entries = ap (λ (s : Inventory). length s.forest.entries) taken.inventory ∙ inventory_count event old.inventory in
    record {
      entries = left.entries ∙ agent.entries ∙ sym same;
      tracks = left.tracks ∙ agent.tracks ∙ sym left.entries;
      standings = ap length taken.standings ∙ standings_count new.machine event old.standings ∙ agent.standings ∙ sym same;
      phase = left.phase agent.phase;
      bounded = bounded;
      believed = λ i. subst (λ xs. Believed new.machine xs i) (sym taken.standings)
          (turn_believed old.machine new.machine event output old.standings (agent.standings ∙ sym agent.entries) agent.tracks agent.phase taken.machine i (agent.believed i));
    }
