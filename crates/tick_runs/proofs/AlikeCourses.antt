-- Alike courses: two inventories that differ in credentials alone have closed runs of one text, runs that stop have one text too,
-- and the one never ends where the other stops.
use Rattle.std.proofs.Common.{◌≡◌, ◌∙◌, ℕ, zero, suc, ◌+◌, ◌<◌, ◌≤◌, List, [], ◌∷◌, ◌++◌, Option, Some, None, Result, Ok, append-nil, arith, flat_map, inl, inr, length, map, refl, sym, ap, subst}
use Rattle.std.specs.List.{AllZip, range_with_len}
use Rattle.plan_forest.specs.Forest.{Forest}
use Rattle.vault_inventory.specs.declared.terms.Terms.{Terms}
use Rattle.vault_inventory.specs.Inventories.{IsInventory, Inventory, credential_at}
use Rattle.broker_rule.specs.{declared.fault.NumberedFault.NumberedFault, Rows.broker_row, Rows.broker_rows, Table.BrokerTable}
use Rattle.tick_keeper.specs.{declared.event.Event.TheVariants.Tick, declared.event.Output.Output, declared.fault.StepFault.StepFault, declared.shortened.ShortNeed.ShortNeed, History.CoreTurn, State.CoreState, State.unplanned}
use Rattle.tick_keeper.specs.declared.event.Output.TheVariants as out
use Rattle.tick_keeper.proofs.{Once.once, Orders.replan_once, Shaped.replanned, Shaped.same as same_shape}
use Rattle.broker_alike.specs.Alike.{AreBrokersAlike, AreRowsAlike, AreTablesAlike, KeepsSupplied}
use Rattle.tick_runs.specs.Stops.{RunIsStopped, both}
use Rattle.tick_runs.specs.Closed.{Beat, IsClosedRun, IsRunOpening, Played, RunCourse, World, request_count, rounds, shorts_taken}
use Rattle.tick_runs.specs.Text.{beat_text, course_text, done_text, short_need_lines}
use Rattle.broker_alike.proofs.Kept.{kept_itself}
use Rattle.tick_runs.proofs.{Shaped.kept_shaped, AlikeRuns.Compared, AlikeRuns.compare, Goes.joins, Goes.wakes_join, NextAsks.no_more, NextAsks.round_more}

-- ---- where no tick is next, none comes

pub ended : (port : ℕ) (cs : List (List ℕ)) (old new : World) (next : Option ℕ) (xs : List Beat) → Played port cs old None xs new next → (xs ≡ []) × (next ≡ None)
ended port cs old new next [] played = (refl, played.1)
ended port cs old new next (x ∷ xs) played = absurd played

pub whole : (xs front more : List Beat) → xs ≡ front ++ more → more ≡ [] → xs ≡ front
whole xs front more parts none = parts ∙ ap (λ bs. front ++ bs) none ∙ append-nil front

-- where one is next that asks, it does
asks_next :
    (port : ℕ) (cs : List (List ℕ)) (old new : World) (at : ℕ) (xs : List Beat) (asked : List ℕ) (keeper : CoreState) → Played port cs old (Some at) xs new None → CoreTurn old.keeper (Tick at) (Ok (out.Ask asked)) keeper →
    1 ≤ length (rounds xs)
asks_next port cs old new at [] asked keeper played turn = absurd (let bad : None ≡ Some at = played.1 in cc)
asks_next port cs old new at (b ∷ bs) asked keeper played turn =
    let beat = played.1.1.0 in
    let turns = once old.keeper beat.keeper keeper (Tick at) (Ok b.output) (Ok (out.Ask asked)) (λ bad. cc) (λ bad. cc) (subst (λ t. CoreTurn old.keeper (Tick t) (Ok b.output) beat.keeper) played.0 beat.turn) turn in
    let output : b.output ≡ out.Ask asked = (let same : ◌≡◌ {A = Result Output StepFault} (Ok b.output) (Ok (out.Ask asked)) = turns.0 in cc) in
    let count = round_more asked b bs output in
    omega arith

module _ (g : Forest) (cs ds : List (List ℕ)) (ts : List Terms) (one : IsInventory (record { forest = g; credentials = cs; terms = ts })) (two : IsInventory (record { forest = g; credentials = ds; terms = ts })) where
  abbrev s : Inventory
  s = record { forest = g; credentials = cs; terms = ts }

  abbrev u : Inventory
  u = record { forest = g; credentials = ds; terms = ts }

  -- ---- the opening

  row_both : (i : ℕ) → i < length g.entries → AreRowsAlike g cs ds (broker_row s i) (broker_row u i)
  unfolding broker_row
  row_both i low = record {
    same = refl;
    found = λ j high kinds. (
      λ same. ap (credential_at ds) (one.apart i j low high (sym kinds) same),
      λ same. ap (credential_at cs) (two.apart i j low high (sym kinds) same),
    );
  }

  rows_from : (a n : ℕ) → a + n ≤ length g.entries → AllZip (AreRowsAlike g cs ds) (map (broker_row s) (range_with_len a n)) (map (broker_row u) (range_with_len a n))
  rows_from a zero within = tt
  rows_from a (suc n) within = (row_both a (omega arith), rows_from (a + 1) n (omega arith))

  rows_both : AllZip (AreRowsAlike g cs ds) (broker_rows s) (broker_rows u)
  unfolding broker_rows
  rows_both = rows_from 0 (length g.entries) (omega arith)

  module _ (faults : List NumberedFault) (start : ℕ) where
    table_of : Inventory → BrokerTable
    table_of v = record { rows = broker_rows v; faults = faults; count = 0 }

    tables_both : AreTablesAlike g cs ds (table_of s) (table_of u)
    unfolding table_of
    tables_both = record { rows = rows_both; faults = refl; count = refl }

    pub record AreOpeningsAlike (short shorter : List ShortNeed) (w v : World) : Type 0 where
      pub same : shorter ≡ short
      pub keeper : v.keeper ≡ w.keeper
      pub brokers : AreBrokersAlike g cs ds w.behind v.behind
      pub kept : KeepsSupplied g w.keeper.forest

    pub openings_both : (short shorter : List ShortNeed) (w v : World) → IsRunOpening s faults start short w → IsRunOpening u faults start shorter v → AreOpeningsAlike short shorter w v
    unfolding table_of
    openings_both short shorter w v o p =
        let same = replan_once (unplanned g) start o.keeper p.keeper o.planned p.planned in
        let first : w.keeper ≡ shorts_taken o.keeper = ap (λ (x : World). x.keeper) o.is in
        record {
          same = p.short_is ∙ ap (λ (k : CoreState). k.shortened) (sym same) ∙ sym o.short_is;
          keeper = ap (λ (x : World). x.keeper) p.is ∙ ap shorts_taken (sym same) ∙ sym first;
          brokers = record {
            behind = record { table = table_of s; wire = [] };
            known = ap (λ (x : World). x.behind) o.is;
            other_behind = record { table = table_of u; wire = [] };
            other_known = ap (λ (x : World). x.behind) p.is;
            tables = tables_both;
          };
          kept = subst (λ (k : CoreState). KeepsSupplied g k.forest) (sym first) (kept_shaped g g o.keeper.forest (kept_itself g) (replanned g (unplanned g) start o.keeper (same_shape g) o.planned));
        }

    pub compare_from : (short shorter : List ShortNeed) (w v : World) (xs ys : List Beat) (new last : World) (next then' : Option ℕ) → IsRunOpening s faults start short w → IsRunOpening u faults start shorter v →
        Played 8200 cs w (Some start) xs new next → Played 8200 ds v (Some start) ys last then' → Compared g cs ds ts one two g ts (kept_itself g) 8200 8200 w (both w.keeper v.behind) (Some start) xs ys new last next then'
    compare_from short shorter w v xs ys new last next then' o p first second =
        let begun = openings_both short shorter w v o p in
        compare g cs ds ts one two g ts (kept_itself g) 8200 8200 w.keeper w.behind v.behind (Some start) xs ys new last next then' begun.kept begun.brokers first
        (subst (λ (k : CoreState). Played 8200 ds (both k v.behind) (Some start) ys last then') begun.keeper second)

    -- ---- two runs that end

    course_same : (course more : RunCourse) → more.short ≡ course.short → flat_map (beat_text u) more.beats ≡ flat_map (beat_text s) course.beats → length (rounds more.beats) ≡ length (rounds course.beats) →
        request_count more.beats ≡ request_count course.beats → course_text u more ≡ course_text s course
    unfolding course_text
    course_same course more short text wakes asked =
        ap (λ ps. short_need_lines g ps ++ (flat_map (beat_text u) more.beats ++ done_text (length (rounds more.beats)) (request_count more.beats))) short
        ∙ ap (λ l. short_need_lines g course.short ++ (l ++ done_text (length (rounds more.beats)) (request_count more.beats))) text
        ∙ ap (λ n. short_need_lines g course.short ++ (flat_map (beat_text s) course.beats ++ done_text n (request_count more.beats))) wakes
        ∙ ap (λ n. short_need_lines g course.short ++ (flat_map (beat_text s) course.beats ++ done_text (length (rounds course.beats)) n)) asked

    pub courses_both : (course more : RunCourse) (final last : World) → IsClosedRun s faults start course final → IsClosedRun u faults start more last → course_text u more ≡ course_text s course
    courses_both course more final last a b =
        let begun = openings_both course.short more.short a.opening b.opening a.opened b.opened in
        elim (compare_from course.short more.short a.opening b.opening course.beats more.beats final last None None a.opened b.opened a.played b.played) [
          | inl z ↦
              let none = ended 8200 ds z.mid last None z.more (subst (λ o. Played 8200 ds z.mid o z.more last None) z.alike.next_is z.goes_on) in
              let all : more.beats ≡ z.front = whole more.beats z.front z.more z.parts none.0 in
              course_same course more begun.same (ap (flat_map (beat_text u)) all ∙ z.alike.text) (ap (λ bs. length (rounds bs)) all ∙ z.alike.wakes) (ap request_count all ∙ z.alike.asked)
          | inr z ↦
              let none = ended 8200 cs z.mid final None z.more (subst (λ o. Played 8200 cs z.mid o z.more final None) (sym z.alike.next_is) z.goes_on) in
              let all : course.beats ≡ z.front = whole course.beats z.front z.more z.parts none.0 in
              course_same course more begun.same (z.alike.text ∙ ap (flat_map (beat_text s)) (sym all)) (z.alike.wakes ∙ ap (λ bs. length (rounds bs)) (sym all)) (z.alike.asked ∙ ap request_count (sym all))
        ]

    -- ---- one that ends, and one that stops

    pub not_stopped : (course : RunCourse) (final last : World) (text : List ℕ) → IsClosedRun s faults start course final → RunIsStopped u faults start last text → ⊥
    not_stopped course final last text a b =
        let so = b.so_far in
        let due = b.more in
        let zs = so.beats ++ due.beats in
        let goes = joins 8200 ds so.opening last due.mid (Some start) (Some b.due) (Some due.at) so.beats due.beats so.played due.played in
        elim (compare_from course.short so.short a.opening so.opening course.beats zs final due.mid None (Some due.at) a.opened so.opened a.played goes) [
          | inl z ↦
              let none = ended 8200 ds z.mid due.mid (Some due.at) z.more (subst (λ o. Played 8200 ds z.mid o z.more due.mid (Some due.at)) z.alike.next_is z.goes_on) in
              (let bad : Some due.at ≡ None = none.1 in cc)
          | inr z ↦
              let on = subst (λ o. Played 8200 cs z.mid o z.more final None) (sym z.alike.next_is) z.goes_on in
              let asks = asks_next 8200 cs z.mid final due.at z.more due.asked due.keeper on (subst (λ (k : CoreState). CoreTurn k (Tick due.at) (Ok (out.Ask due.asked)) due.keeper) z.alike.keeper due.turn) in
              let wakes = z.alike.wakes in
              let join = wakes_join so.beats due.beats in
              let most = so.wakes_are in
              let quiet = ap length due.none_asked in
              let all = ap (λ bs. length (rounds bs)) z.parts in
              let split = wakes_join z.front z.more in
              let few = a.few in
              omega arith
        ]

    -- ---- two that stop

    pub stops_both : (new last : World) (text other : List ℕ) → RunIsStopped s faults start new text → RunIsStopped u faults start last other → other ≡ text
    stops_both new last text other a b =
        let first = a.so_far in
        let second = b.so_far in
        let begun = openings_both first.short second.short first.opening second.opening first.opened second.opened in
        let most = first.wakes_are in
        let most' = second.wakes_are in
        elim (compare_from first.short second.short first.opening second.opening first.beats second.beats new last (Some a.due) (Some b.due) first.opened second.opened first.played second.played) [
          | inl z ↦
              let wakes = z.alike.wakes in
              let all = ap (λ bs. length (rounds bs)) z.parts in
              let none = no_more 8200 ds z.front z.more (both first.opening.keeper second.opening.behind) z.mid last (Some start) z.at (Some b.due) (omega arith) z.played z.goes_on (omega arith) in
              let same : second.beats ≡ z.front = whole second.beats z.front z.more z.parts none in
              second.text_is ∙ ap (λ ps. short_need_lines g ps ++ flat_map (beat_text u) second.beats) begun.same
              ∙ ap (λ l. short_need_lines g first.short ++ l) (ap (flat_map (beat_text u)) same ∙ z.alike.text) ∙ sym first.text_is
          | inr z ↦
              let wakes = z.alike.wakes in
              let all = ap (λ bs. length (rounds bs)) z.parts in
              let none = no_more 8200 cs z.front z.more first.opening z.mid new (Some start) z.at (Some a.due) (omega arith) z.played z.goes_on (omega arith) in
              let same : first.beats ≡ z.front = whole first.beats z.front z.more z.parts none in
              second.text_is ∙ ap (λ ps. short_need_lines g ps ++ flat_map (beat_text u) second.beats) begun.same
              ∙ ap (λ l. short_need_lines g first.short ++ l) (z.alike.text ∙ ap (flat_map (beat_text s)) (sym same)) ∙ sym first.text_is
        ]
