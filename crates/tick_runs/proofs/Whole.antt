-- The laws of the run without faults.
use Rattle.std.proofs.Common.{◌≡◌, ℕ, ◌+◌, ◌<◌, ◌≤◌, true, false, List, [], ◌∷◌, ◌++◌, Option, Some, None, IfSome, Result, Ok, Err, filter, is_some, length, map, nat_le, refl, sym, ap, ◌∙◌, subst, arith}
use Rattle.std.proofs.lemmas.{Bool.cond-false, Bool.Decides.nat_tests}
use Rattle.std.proofs.lemmas.List.{append-nil, length-append, length-map}
use Rattle.std.proofs.lemmas.List.Elements.{All-cons, All-nil, All-head, All-tail}
use Rattle.std.specs.List.{All, flat_map}
use Rattle.base_moment.specs.declared.moment.TheConstants.{LAST}
use Rattle.plan_forest.specs.declared.entry.Entry.{Entry}
use Rattle.plan_forest.specs.Forest.{Forest, end_of, entry_at}
use Rattle.plan_rule.specs.{declared.wake.Wake.Wake, Asks.with_asks, Ends.ends_after, Keeps.ends_at, Plans.moments, declared.limit.TheConstants.LIMIT, Runs.moments_of, declared.force.Force.Force}
use Rattle.plan_rule.proofs.{Alive.last_from_alive, Keeping.one_least}
use Rattle.vault_inventory.specs.Inventories.{IsInventory, Inventory}
use Rattle.broker_rule.specs.{Rows.broker_rows, Rows.row_named, Sweep.swept, Listed.is_entry_alive, Listed.rows_listed}
use Rattle.tick_keeper.specs.{declared.event.Event.Event, declared.event.Event.TheVariants.Tick, declared.event.Output.Output, declared.fault.StepFault.StepFault, declared.shortened.ShortNeed.ShortNeed}
use Rattle.tick_keeper.specs.{Replan.IsPlanOf, Replan.ReplanTooLong, History.CoreTurn, Shorten.pairs, State.CoreState}
use Rattle.tick_keeper.specs.declared.fault.StepFault.TheVariants.{ClockBack, RoundOpen, NotAsked, BadIndex, OutOfRange, TooLong, OutOfMemory}
use Rattle.plan_search.specs.Planned.{to_come}
use Rattle.tick_keeper.specs.declared.event.Output.TheVariants as out
use Rattle.tick_keeper.proofs.{Kept.keepable, Once.once, Shortening.needed_within, Standing.best_from, Standing.best_keepable}
use Rattle.tick_runs.specs.{Replies.event_for, Stops.StepIsTaken, Mirrors.with_forest}
use Rattle.tick_runs.specs.Closed.{Beat, IsRunOpening, World, request_count, rounds, shorts_taken, Played}
use Rattle.tick_runs.specs.Text.{beat_text, course_text, done_text, short_need_lines}
use Rattle.tick_runs.specs.Laws.{AnswersTakenLaw, PlannedRunLaw, RehearsalLaw, SoFarLaw, StandsLaw}
use Rattle.tick_runs.proofs.{Midway.settled, Mirroring.mirrors_first}
use Rattle.tick_runs.proofs.Round.{AtRest, InRound, next_turn, part_goes}
use Rattle.tick_runs.proofs.Running.{Awaits, asks_left, asks_open, requests_from, run_goes, tick_leaves, tick_says, tick_turn}
use Rattle.vault_start.proofs.Started.{start_law}
use Rattle.broker_table.proofs.Sweeping.{named_among}

-- ---- the opening

opened_as : (inventory : Inventory) (start : ℕ) (ts : List ℕ) (short : List ShortNeed) (w : World) → IsPlanOf inventory.forest start ts → (o : IsRunOpening inventory [] start short w) → o.keeper ≡ settled inventory.forest start ts
opened_as inventory start ts short w plan o =
    let g = inventory.forest in
    let same = keepable g start (best_keepable g start ts plan) in
    let best : IsPlanOf g start o.planned.moments = subst (λ h. IsPlanOf h start o.planned.moments) same.0 o.planned.best in
    let moments_are = one_least g.entries g.margin start (end_of g.entries) o.planned.moments ts best plan in
    o.planned.is
    ∙ ap (λ h. record (settled h start o.planned.moments) { shortened = pairs g start }) same.0
    ∙ ap (λ ps. record (settled g start o.planned.moments) { shortened = ps }) same.1
    ∙ ap (λ us. settled g start us) moments_are

opening_rests : (inventory : Inventory) (start : ℕ) (ts : List ℕ) (short : List ShortNeed) (w : World) → IsInventory inventory → start ≤ LAST → IsPlanOf inventory.forest start ts → length ts ≤ LIMIT → IsRunOpening inventory [] start short w → AtRest inventory w start ts
opening_rests inventory start ts short w supplied late plan few o = record {
  g = inventory.forest;
  keeper = ap (λ (x : World). x.keeper) o.is ∙ ap shorts_taken (opened_as inventory start ts short w plan o);
  plan = plan;
  few = few;
  late = late;
  same = λ i. refl;
  supplied = supplied;
  behind = record { table = record { rows = broker_rows inventory; faults = []; count = 0 }; wire = [] };
  known = ap (λ (x : World). x.behind) o.is;
  mirrors = λ m from. mirrors_first inventory supplied.forest start m from;
  none = refl;
}

-- ---- who stands

none_yet : (m : ℕ) (ws : List Wake) → All (λ u. m < u) (moments ws) → filter (λ (w : Wake). nat_le w.at m) ws ≡ []
none_yet m [] later = refl
none_yet m (w ∷ ws) later =
    let first : m < w.at = All-head (λ u. m < u) w.at (moments ws) later in
    let miss : nat_le w.at m ≡ false = grind (arith, nat_tests) in
    cond-false (nat_le w.at m) (w ∷ filter (λ (v : Wake). nat_le v.at m) ws) (filter (λ (v : Wake). nat_le v.at m) ws) miss ∙ none_yet m ws (All-tail (λ u. m < u) w.at (moments ws) later)

-- before the first moment that is left, what is needed is alive by the ends as told
alive_now : (g : Forest) (t : ℕ) (ts : List ℕ) → IsPlanOf g t ts → (m i : ℕ) → t ≤ m → All (λ u. m < u) ts → m < (entry_at g.entries i).need → is_entry_alive g m i ≡ true
unfolding is_entry_alive ends_at ends_after
alive_now g t ts plan m i from later needed =
    let none = none_yet m plan.plan (subst (λ us. All (λ u. m < u) us) (sym plan.at_these) later) in
    last_from_alive g.entries (end_of g.entries) m i (λ a over.
    subst (λ ws. m < ends_after g.entries g.margin (end_of g.entries) ws a) none (plan.kept i m from needed a over))

all_later : (m u : ℕ) (xs : List ℕ) → m < u → All (λ v. u ≤ v) xs → All (λ v. m < v) xs
all_later m u [] h all = All-nil (λ v. m < v)
all_later m u (x ∷ xs) h all =
    let l : u ≤ x = All-head (λ v. u ≤ v) x xs all in
    All-cons (λ v. m < v) x xs (omega arith) (all_later m u xs h (All-tail (λ v. u ≤ v) x xs all))

left_later : (t m : ℕ) (rest : List ℕ) (next : Option ℕ) → Awaits t rest next → IfSome next (λ u. m < u) → All (λ u. m < u) rest
left_later t m rest None none later = subst (λ xs. All (λ u. m < u) xs) (sym none) (All-nil (λ u. m < u))
left_later t m rest (Some u) awaits later = all_later m u rest later awaits.1.1

stands :
    (inventory : Inventory) (w : World) (t : ℕ) (rest : List ℕ) (next : Option ℕ) → (r : AtRest inventory w t rest) → Awaits t rest next → (m i : ℕ) → t ≤ m → IfSome next (λ u. m < u) →
    m < (entry_at inventory.forest.entries i).need → is_some (row_named (swept m r.behind.table.rows) (entry_at inventory.forest.entries i).name) ≡ true
unfolding rows_listed
stands inventory w t rest next r awaits m i from later needed =
    let g = r.g in
    let s = with_forest inventory g in
    let need : (entry_at g.entries i).need ≡ (entry_at inventory.forest.entries i).need = ap (λ (e : Entry). e.need) (r.same i) in
    let now : m < (entry_at g.entries i).need = omega arith in
    let alive = alive_now g t rest r.plan m i from (left_later t m rest next awaits later) now in
    let within = needed_within g.entries m i now in
    ap (λ rows. is_some (row_named rows (entry_at inventory.forest.entries i).name)) (r.mirrors m from)
    ∙ ap (λ n. is_some (row_named (rows_listed s m) n)) (sym (ap (λ (e : Entry). e.name) (r.same i)))
    ∙ ap is_some (named_among s r.supplied.forest (is_entry_alive g m) i within alive)

-- ---- the next tick

-- an event that may give a step is refused for lack of memory alone
taken_turn : (old new other : CoreState) (event : Event) (output : Output) → CoreTurn old event (Ok output) other → (result : Result Output StepFault) → CoreTurn old event result new → StepIsTaken result
taken_turn old new other event output known (Ok x) turn = tt
taken_turn old new other event output known (Err OutOfMemory) turn = tt
taken_turn old new other event output known (Err ClockBack) turn = let one = once old new other event (Err ClockBack) (Ok output) (λ bad. cc) (λ bad. cc) turn known in absurd (let bad = one.0 in cc)
taken_turn old new other event output known (Err RoundOpen) turn = let one = once old new other event (Err RoundOpen) (Ok output) (λ bad. cc) (λ bad. cc) turn known in absurd (let bad = one.0 in cc)
taken_turn old new other event output known (Err NotAsked) turn = let one = once old new other event (Err NotAsked) (Ok output) (λ bad. cc) (λ bad. cc) turn known in absurd (let bad = one.0 in cc)
taken_turn old new other event output known (Err BadIndex) turn = let one = once old new other event (Err BadIndex) (Ok output) (λ bad. cc) (λ bad. cc) turn known in absurd (let bad = one.0 in cc)
taken_turn old new other event output known (Err OutOfRange) turn = let one = once old new other event (Err OutOfRange) (Ok output) (λ bad. cc) (λ bad. cc) turn known in absurd (let bad = one.0 in cc)
taken_turn old new other event output known (Err TooLong) turn = let one = once old new other event (Err TooLong) (Ok output) (λ bad. cc) (λ bad. cc) turn known in absurd (let bad = one.0 in cc)

not_refused : (g : Forest) (t u : ℕ) (ts : List ℕ) → IsPlanOf g t ts → length ts ≤ LIMIT → Awaits t ts (Some u) → (result : Result Output StepFault) (new : CoreState) → CoreTurn (settled g t ts) (Tick u) result new → StepIsTaken result
not_refused g t u ts plan few awaits result new turn =
    taken_turn (settled g t ts) new (tick_leaves g u ts) (Tick u) (tick_says g u ts) (tick_turn g t u ts plan few awaits.0 awaits.1.0 awaits.1.1) result turn

no_shorts : (g : Forest) (text : List ℕ) → short_need_lines g [] ++ text ≡ text
unfolding short_need_lines
no_shorts g text = refl

-- ---- the laws

ended_rest : (t : ℕ) (rest : List ℕ) (next : Option ℕ) → Awaits t rest next → next ≡ None → rest ≡ []
ended_rest t rest None none e = none
ended_rest t rest (Some u) awaits e = absurd cc

nothing_left : (g : Forest) (t : ℕ) → requests_from g t [] ≡ 0
unfolding with_asks
nothing_left g t = refl

pub so_far : SoFarLaw
unfolding opening_rests
so_far inventory start ts supplied late plan few short opening final beats next o played =
    let begins = opening_rests inventory start ts short opening supplied late plan few o in
    let first : Awaits start ts (Some start) = (omega arith, (late, best_from inventory.forest start ts plan)) in
    let done = run_goes inventory 8200 beats opening final start ts begins (Some start) next first played in
    let r = done.rests in (
      o.short_is ∙ ap (λ (q : CoreState). q.shortened) (opened_as inventory start ts short opening plan o),
      record {
        rest = done.rest;
        moments = done.moments;
        ended = λ none. ended_rest done.last done.rest next done.awaits none;
        asked = λ none.
            let over = ended_rest done.last done.rest next done.awaits none in
            let all : requests_from inventory.forest start ts ≡ request_count beats + requests_from r.g done.last done.rest = done.requests in
            let left = ap (requests_from r.g done.last) over in
            let zero' = nothing_left r.g done.last in
            omega arith;
        quiet = done.quiet;
        taken = λ t result new is turn.
            not_refused r.g done.last t done.rest r.plan r.few (subst (Awaits done.last done.rest) is done.awaits) result new
            (subst (λ (q : CoreState). CoreTurn q (Tick t) result new) r.keeper turn);
        behind = r.behind;
        known = r.known;
        stands = λ m i from all later needed. stands inventory final done.last done.rest next r done.awaits m i (done.bound m from all) later needed;
      },
    )

pub rehearsal : RehearsalLaw
rehearsal inventory start ts supplied late plan few course final run =
    let all = so_far inventory start ts supplied late plan (omega arith) course.short run.opening final course.beats None run.opened run.played in
    let goes = all.1 in
    let none = goes.ended refl in (
      sym (goes.moments ∙ ap (λ xs. map (λ (b : Beat). b.at) (rounds course.beats) ++ xs) none ∙ append-nil (map (λ (b : Beat). b.at) (rounds course.beats))),
      (goes.asked refl, (all.0, goes.quiet)),
    )

pub answers_taken : AnswersTakenLaw
answers_taken inventory start ts supplied late plan few short opening final beats t o played asked keeper ticked xs now i others who answers =
    let begins = opening_rests inventory start ts short opening supplied late plan few o in
    let first : Awaits start ts (Some start) = (omega arith, (late, best_from inventory.forest start ts plan)) in
    let done = run_goes inventory 8200 beats opening final start ts begins (Some start) (Some t) first played in
    let r = done.rests in
    let start' : World = record { keeper = shorts_taken keeper; behind = final.behind } in
    let open' = asks_open inventory final done.last done.rest t r done.awaits asked keeper ticked in
    let part = part_goes inventory 8200 r.g t open'.0 xs i others start' now r.g (subst (InRound inventory start' r.g r.g t open'.0) (sym who) open'.1) answers in
    let round = part.1 in (
      round.behind,
      (
        round.known,
        λ reply left result new served turn.
            let next = next_turn inventory 8200 r.g t open'.0 i others now part.0 round reply left served in
            taken_turn now.keeper new next.1.0 (event_for inventory.credentials now.keeper.forest i reply) next.0 next.1.1 result turn,
      ),
    )

pub planned_run : PlannedRunLaw
unfolding course_text
planned_run bytes inventory start p read late decides few course final run =
    let ts = moments_of (to_come p) in
    let plan : IsPlanOf inventory.forest start ts = decides.best.least in
    let count : length ts ≡ length (to_come p) = length-map (to_come p) (λ (x : Force). x.at) in
    let is = rehearsal inventory start ts (start_law start bytes inventory read) late plan (omega arith) course final run in
    let rounds_are : length (rounds course.beats) ≡ length (to_come p) = sym (length-map (rounds course.beats) (λ (b : Beat). b.at)) ∙ ap length is.0 ∙ count in
    let text = flat_map (beat_text inventory) course.beats in (
      is.0,
      ap (λ ps. short_need_lines inventory.forest ps ++ (text ++ done_text (length (rounds course.beats)) (request_count course.beats))) is.1.1.0
          ∙ no_shorts inventory.forest (text ++ done_text (length (rounds course.beats)) (request_count course.beats))
          ∙ ap (λ n. text ++ done_text n (request_count course.beats)) rounds_are
          ∙ ap (λ n. text ++ done_text (length (to_come p)) n) is.1.0,
    )

comes_later : (port : ℕ) (cs : List (List ℕ)) (w v : World) (due : Option ℕ) (after : List Beat) (m : ℕ) → Played port cs w due after v None → All (λ (b : Beat). m < b.at) after → IfSome due (λ u. m < u)
comes_later port cs w v None after m played later = tt
comes_later port cs w v (Some u) [] m played later = absurd (let bad = played.1 in cc)
comes_later port cs w v (Some u) (b ∷ bs) m played later =
    let first : m < b.at = All-head (λ (c : Beat). m < c.at) b bs later in
    let at : b.at ≡ u = played.0 in
    omega arith

pub all_stand : StandsLaw
all_stand inventory start ts supplied late plan few short opening mid final before after due o first then' m i from up later needed =
    let goes = (so_far inventory start ts supplied late plan few short opening mid before due o first).1 in
    (goes.behind, (goes.known, goes.stands m i from up (comes_later 8200 inventory.credentials mid final due after m then' later) needed))

-- ---- one wake-up more than the plan has

pub more_to_come :
    (inventory : Inventory) (start : ℕ) (ts : List ℕ) → IsInventory inventory → start ≤ LAST → IsPlanOf inventory.forest start ts → length ts ≤ LIMIT → (short : List ShortNeed) (opening final : World) (beats : List Beat) (t : ℕ) →
    IsRunOpening inventory [] start short opening → Played 8200 inventory.credentials opening (Some start) beats final (Some t) → (asked : List ℕ) (keeper : CoreState) → CoreTurn final.keeper (Tick t) (Ok (out.Ask asked)) keeper →
    length (rounds beats) < length ts
unfolding opening_rests
more_to_come inventory start ts supplied late plan few short opening final beats t o played asked keeper turn =
    let begins = opening_rests inventory start ts short opening supplied late plan few o in
    let first : Awaits start ts (Some start) = (omega arith, (late, best_from inventory.forest start ts plan)) in
    let done = run_goes inventory 8200 beats opening final start ts begins (Some start) (Some t) first played in
    let some = asks_left inventory final done.last done.rest t done.rests done.awaits asked keeper turn in
    let count = ap length done.moments ∙ length-append (map (λ (c : Beat). c.at) (rounds beats)) done.rest in
    let same = length-map (rounds beats) (λ (b : Beat). b.at) in
    omega arith

-- nor is the opening too long
pub opening_fits : (g : Forest) (start : ℕ) (ts : List ℕ) → IsPlanOf g start ts → length ts ≤ LIMIT → ReplanTooLong g start → ⊥
opening_fits g start ts plan few long =
    let same = keepable g start (best_keepable g start ts plan) in
    let best : IsPlanOf g start long.moments = subst (λ h. IsPlanOf h start long.moments) same.0 long.best in
    let moments_are = ap length (one_least g.entries g.margin start (end_of g.entries) long.moments ts best plan) in
    let many = long.many in
    omega arith
