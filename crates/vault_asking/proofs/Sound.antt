-- Sound: what every turn keeps of the requests that the machine has out: of an entry one at most, and only where its track says so.
-- For all that is done with lanes.
use Rattle.std.proofs.Common.{◌≡◌, ◌≢◌, ◌∙◌, ℕ, zero, suc, ◌+◌, ◌-◌, ◌<◌, ◌≤◌, Bool, true, false, cond, not, ◌&&◌, ◌||◌, ◌==◌, if◌then◌else◌, List, [], ◌∷◌, ◌++◌, Option, Some, None, Result, Ok, Err, All, IsPermutation, filter, length, map, nat_lt, take, zero-add, refl, sym, ap, subst, arith, inl, inr}
use Rattle.std.proofs.lemmas.{Bool.Decides.nat_tests, List.Sums.sum_by-cons, List.Sums.sum_by-take-le}
use Rattle.std.proofs.lemmas.Bool.{and_parts, cases_Bool, cases_lt, cond-false, cond-true, eqb-true}
use Rattle.std.proofs.lemmas.List.{get_or-map, get_or_past, get_or-set_other, length-append, length-map, length-set, length-take, take-map}
use Rattle.std.proofs.lemmas.List.Elements.{All-cons, All-filter, All-nil, All-take, filter_passes}
use Rattle.std.proofs.lemmas.List.Sorted.{All-permutation, IsPermutation-map, sum_by-IsPermutation}
use Rattle.std.specs.List.{list_any, range_with_len}
use Rattle.std.specs.Prelude.{slice_set}
use Rattle.plan_forest.specs.{declared.entry.Entry.Entry, Forest.Forest, Forest.entry_at}
use Rattle.watch_machine.specs.{declared.command.WatchCommand.WatchCommand, declared.command.WatchOutput.WatchOutput, declared.command.WatchRequest.WatchRequest, declared.event.WatchEvent.WatchEvent, declared.event.WatchReply.WatchReply}
use Rattle.watch_machine.specs.{declared.event.WatchReply.TheVariants.Told, declared.event.WatchTerms.WatchTerms, declared.fault.WatchFault.WatchFault, declared.fault.WatchFault.TheVariants.OutOfMemory, declared.lanes.Out.Out}
use Rattle.watch_machine.specs.{declared.lanes.Presence.Presence, declared.notes.BeginReason.BeginReason, declared.track.Track.Track, declared.track.Try.Try, Clocks.sec, History.Turn, Lines.is_due, Lines.is_due_try}
use Rattle.watch_machine.specs.{Looked.looked, Looked.told_state, Refusal.request_out, Renewed.state_renewed, Round.asked_by_round as round_of}
use Rattle.watch_machine.specs.declared.command.WatchCommand.TheVariants.{Go, Taken}
use Rattle.watch_machine.specs.declared.event.WatchEvent.TheVariants.{Clock, Looked, Renewed, Need, Begin, Known}
use Rattle.watch_machine.specs.declared.event.Operation.TheVariants.{Look, Renew}
use Rattle.watch_machine.specs.Answers.{answers_all, back_track, heard, lane_freed, noted, replied, silent, without_request}
use Rattle.watch_machine.specs.Beginning.{begun, is_called, is_start, owing, owing_lookup, owing_past, soon, sooner_try, untopped, untopped_track}
use Rattle.watch_machine.specs.Press.{asked_track, dropped, is_fresh, press, pressed, pressed_alone, pressed_track, track_asked_in}
use Rattle.watch_machine.specs.Sending.{IsGoing, Place, due, is_partial, out_at, place, place_of, request, request_of, sent, sent_in, sent_track}
use Rattle.watch_machine.specs.Settling.{is_real, settled, settled_track, timed}
use Rattle.watch_machine.specs.State.{WatchState, each, no_track, track_at, track_in}
use Rattle.watch_machine.specs.Step.{Step, StepClock, StepCommand, StepLooked, StepRenewed, known, readied, told_earlier, why, with_need_until}
use Rattle.watch_machine.specs.Wanted.{is_alive, is_open, need_of, wants}
use Rattle.watch_machine.proofs.{Cases.if_both, Cases.if_cases, Seeing.each_past, Seeing.each_read, Within.out_entry, Written.each_length}
use Rattle.vault_asking.specs.InStep.{MachineIsSound, entries_out, seats_of, times}

-- ---- how often an entry is among some

pub times_cons : (i j : ℕ) (xs : List ℕ) → times i (j ∷ xs) ≡ cond (j == i) 1 0 + times i xs
times_cons i j xs = sum_by-cons (λ k. cond (k == i) 1 0) j xs

pub counts : (i j : ℕ) (xs : List ℕ) → (j == i) ≡ true → times i (j ∷ xs) ≡ 1 + times i xs
counts i j xs same = times_cons i j xs ∙ ap (λ (b : Bool). cond b 1 0 + times i xs) same

pub skips : (i j : ℕ) (xs : List ℕ) → (j == i) ≡ false → times i (j ∷ xs) ≡ times i xs
skips i j xs other = times_cons i j xs ∙ ap (λ (b : Bool). cond b 1 0 + times i xs) other ∙ zero-add (times i xs)

pub times_append : (i : ℕ) (xs ys : List ℕ) → times i (xs ++ ys) ≡ times i xs + times i ys
times_append i [] ys = sym (zero-add (times i ys))
times_append i (x ∷ xs) ys =
    let all = times_cons i x (xs ++ ys) in
    let first = times_cons i x xs in
    let rest = times_append i xs ys in
    omega (arith, all, first, rest)

pub same_index : (i : ℕ) → (i == i) ≡ true
same_index i = grind (arith, nat_tests)

times_range : (n a i : ℕ) → (i < a → times i (range_with_len a n) ≡ 0) × (times i (range_with_len a n) ≤ 1)
times_range zero a i = ((λ h. refl), omega arith)
times_range (suc n) a i =
    let rest = times_range n (a + 1) i in
    elim (cases_Bool (a == i)) as (λ _. (i < a → times i (range_with_len a (suc n)) ≡ 0) × (times i (range_with_len a (suc n)) ≤ 1)) [
      | inl same ↦
          let more = counts i a (range_with_len (a + 1) n) same in
          let is : a ≡ i = grind (arith, nat_tests) in
          let none : times i (range_with_len (a + 1) n) ≡ 0 = rest.0 (omega arith) in
          ((λ h. absurd (omega arith)), omega arith)
      | inr other ↦
          let more = skips i a (range_with_len (a + 1) n) other in
          let below = rest.0 in
          let few = rest.1 in
          ((λ h. (let b : times i (range_with_len (a + 1) n) ≡ 0 = below (omega arith) in omega arith)), omega arith)
    ]

times_filter : (p : ℕ → Bool) (i : ℕ) (xs : List ℕ) → times i (filter p xs) ≤ times i xs
times_filter p i [] = omega arith
times_filter p i (x ∷ xs) =
    let rest = times_filter p i xs in
    let more = times_cons i x xs in
    if_cases (λ (ys : List ℕ). times i ys ≤ times i (x ∷ xs)) (p x) (x ∷ filter p xs) (filter p xs) (λ e. (let here = times_cons i x (filter p xs) in omega (arith, rest, more, here)))
    (λ e. omega (arith, rest, more))

-- ---- how many requests may be out under an index

-- one of an entry whose track says so
entry_seats : (m : WatchState) (i : ℕ) → i < length m.forest.entries → seats_of m i ≡ (if (track_at m i).out then 1 else 0)
entry_seats m i within =
    let here : nat_lt i (length m.forest.entries) ≡ true = grind (arith, nat_tests) in
    cond-true (nat_lt i (length m.forest.entries)) (if (track_at m i).out then 1 else 0) 1 here

-- one past the last entry
other_seats : (m : WatchState) (i : ℕ) → length m.forest.entries ≤ i → seats_of m i ≡ 1
other_seats m i past =
    let there : nat_lt i (length m.forest.entries) ≡ false = grind (arith, nat_tests) in
    cond-false (nat_lt i (length m.forest.entries)) (if (track_at m i).out then 1 else 0) 1 there

-- as many as before of as many entries, where the track says what it said
same_seats : (m k : WatchState) (i : ℕ) → length m.forest.entries ≡ length k.forest.entries → (track_at m i).out ≡ (track_at k i).out → seats_of m i ≡ seats_of k i
same_seats m k i many flags =
    ap {B = ℕ} (λ n. if nat_lt i n then (if (track_at m i).out then 1 else 0) else 1) many
    ∙ ap {B = ℕ} (λ (b : Bool). if nat_lt i (length k.forest.entries) then (if b then 1 else 0) else 1) flags

-- and one at most
pub at_most_one : (m : WatchState) (i : ℕ) → seats_of m i ≤ 1
at_most_one m i = by (nat_lt i (length m.forest.entries)) (track_at m i).out where
  by : (is_entry is_out : Bool) → (if is_entry then (if is_out then 1 else 0) else 1) ≤ 1
  by true true = omega arith
  by true false = omega arith
  by false is_out = omega arith

-- ---- who goes out at a clock: entries that are due, each once

range_below : (n a m : ℕ) → a + n ≤ m → All (λ i. i < m) (range_with_len a n)
range_below zero a m h = All-nil (λ i. i < m)
range_below (suc n) a m h = All-cons (λ i. i < m) a (range_with_len (a + 1) n) (omega arith) (range_below n (a + 1) m (omega arith))

placed_by : (margin : ℕ) (e : Entry) (away : Bool) (now i : ℕ) (x : Track) (o : Option Try) → (place_of margin e away now i x o).entry ≡ i
placed_by margin e away now i x None = refl
placed_by margin e away now i x (Some t) = refl

placed : (g : Forest) (away : Bool) (now : ℕ) (xs : List Track) (i : ℕ) → (place g away now xs i).entry ≡ i
placed g away now xs i = placed_by g.margin (entry_at g.entries i) away now i (track_in xs i) (track_in xs i).attempt

placed_all : (g : Forest) (away : Bool) (now : ℕ) (xs : List Track) (is : List ℕ) → map (λ (q : Place). q.entry) (map (place g away now xs) is) ≡ is
placed_all g away now xs [] = refl
placed_all g away now xs (i ∷ is) =
    ap (λ n. n ∷ map (λ (q : Place). q.entry) (map (place g away now xs) is)) (placed g away now xs i) ∙ ap (λ js. i ∷ js) (placed_all g away now xs is)

entry_by : (p : Presence) (now : ℕ) (xs : List Track) (i : ℕ) (o : Option Try) → (request_of p.away (is_partial now xs) p.pace i o).entry ≡ i
entry_by p now xs i None = refl
entry_by p now xs i (Some t) = refl

entries_by : (p : Presence) (now : ℕ) (xs : List Track) (qs : List Place) → map (λ (r : WatchRequest). r.entry) (map (request p now xs) qs) ≡ map (λ (q : Place). q.entry) qs
unfolding request
entries_by p now xs [] = refl
entries_by p now xs (q ∷ qs) =
    ap (λ n. n ∷ map (λ (r : WatchRequest). r.entry) (map (request p now xs) qs)) (entry_by p now xs q.entry (track_in xs q.entry).attempt) ∙ ap (λ ns. q.entry ∷ ns) (entries_by p now xs qs)

abbrev pub entries_asked : List WatchRequest → List ℕ
entries_asked requests = map (λ (r : WatchRequest). r.entry) requests

pub record Goes (p : Presence) (at : ℕ) (xs : List Track) (lanes : ℕ) (requests : List WatchRequest) : Type 0 where
  pub due : All (λ i. (i < length xs) × (is_due p at (track_in xs i) ≡ true)) (entries_asked requests)
  pub once : (i : ℕ) → times i (entries_asked requests) ≤ 1
  pub few : length requests ≤ lanes

goes : (g : Forest) (p : Presence) (at : ℕ) (xs : List Track) (lanes : ℕ) (requests : List WatchRequest) → IsGoing g p at xs lanes requests → Goes p at xs lanes requests
goes g p at xs lanes requests h =
    let test : ℕ → Bool = λ i. is_due p at (track_in xs i) in
    let n = length xs in
    let these = filter test (range_with_len 0 n) in
    let line = h.is_picked.0 in
    let named = map (λ (q : Place). q.entry) line in
    let all : IsPermutation these named =
    subst (λ is. IsPermutation is named) (placed_all g p.away (sec at) xs these) (IsPermutation-map (λ (q : Place). q.entry) (due g p at xs) line h.is_picked.1.0.all) in
    let front : entries_asked requests ≡ take lanes named =
    ap entries_asked h.requests_are ∙ entries_by p (sec at) xs h.picked ∙ ap (map (λ (q : Place). q.entry)) h.is_picked.1.1 ∙ sym (take-map (λ (q : Place). q.entry) lanes line) in
    let P : ℕ → Type 0 = λ i. (i < n) × (test i ≡ true) in
    let each : All P these = λ k d within. (All-filter test (λ i. i < n) (range_with_len 0 n) (range_below n 0 n (omega arith)) k d within, filter_passes test (range_with_len 0 n) k d within) in
    record {
      due = subst (All P) (sym front) (All-take P lanes named (All-permutation P these named all each));
      once = λ i.
          let is : ℕ → ℕ = λ j. cond (j == i) 1 0 in
          let range = (times_range n 0 i).1 in
          let kept = times_filter test i (range_with_len 0 n) in
          let same = sum_by-IsPermutation is these named all in
          let some = sum_by-take-le is named lanes in
          let there : times i (entries_asked requests) ≡ times i (take lanes named) = ap (times i) front in
          omega (arith, range, kept, same, some, there);
      few =
          let there = ap length front in
          let most = length-take lanes named in
          let many = length-map requests (λ (r : WatchRequest). r.entry) in
          omega (arith, there, most, many);
    }

-- ---- the flag of a track, which the parts of a clock leave as it is

abbrev pub Flag : Track → Track → Type 0
Flag y x = y.out ≡ x.out

each_kept :
    (R : Track → Track → Type 0) → R no_track no_track → (f : ℕ → Track → Track) (xs : List Track) → ((i : ℕ) (x : Track) → R (f i x) x) → (i : ℕ) →
    R (track_in (each f xs) i) (track_in xs i)
each_kept R none f xs made i =
    elim (cases_lt i (length xs)) [
      | inl within ↦ subst (λ y. R y (track_in xs i)) (sym (each_read f xs i within)) (made i (track_in xs i))
      | inr past ↦ subst (λ y. R y (track_in xs i)) (sym (each_past f xs i past)) (subst (λ x. R no_track x) (sym (get_or_past xs i no_track past)) none)
    ]

set_kept : (R : Track → Track → Type 0) → ((x : Track) → R x x) → (xs : List Track) (j : ℕ) (y : Track) → R y (track_in xs j) → (i : ℕ) → R (track_in (slice_set xs j y) i) (track_in xs i)
set_kept R same [] j y made i = same no_track
set_kept R same (x ∷ xs) zero y made zero = made
set_kept R same (x ∷ xs) zero y made (suc i) = same (track_in xs i)
set_kept R same (x ∷ xs) (suc j) y made zero = same x
set_kept R same (x ∷ xs) (suc j) y made (suc i) = set_kept R same xs j y made i

pub lookup_flag : (at : ℕ) (x : Track) → Flag (owing_lookup at x) x
lookup_flag at x = if_both (λ y. Flag y x) x.out (record x { owes = true }) (record x { owes = true; attempt = Some (sooner_try (soon at x) x.attempt) }) refl refl

owing_flag : (at : ℕ) (first called : Bool) (x : Track) → Flag (owing at first called x) x
unfolding owing
owing_flag at first called x = if_both (λ y. Flag y x) (called && (first || is_open (sec at) x)) (owing_lookup at x) x (lookup_flag at x) refl

past_flag : (at : ℕ) (x : Track) → Flag (owing_past at x) x
unfolding owing_past
past_flag at x = if_both (λ y. Flag y x) (is_alive (sec at) x) x (owing_lookup at x) refl (lookup_flag at x)

pressed_flag : (margin : ℕ) (e : Entry) (need at : ℕ) (x : Track) → Flag (pressed_track margin e need at x) x
unfolding pressed_track
pressed_flag margin e need at x =
    if_both (λ y. Flag y x) (is_fresh margin e x need (sec at)) (record x { attempt = Some (press at x) }) (if wants x need || x.out then x else record x { attempt = dropped x x.attempt }) refl
    (if_both (λ y. Flag y x) (wants x need || x.out) x (record x { attempt = dropped x x.attempt }) refl refl)

asked_flag : (at : ℕ) (round : List ℕ) (i : ℕ) (x : Track) → Flag (track_asked_in at round i x) x
unfolding asked_track
asked_flag at round i x =
    if_both (λ y. Flag y x) (list_any (λ j. j == i) round) (asked_track at x) x
    (if_both (λ y. Flag y x) x.out x (record x { attempt = Some (press at x) }) refl refl) refl

settled_flag : (margin at : ℕ) (x : Track) → Flag (settled_track margin at x) x
unfolding settled_track
settled_flag margin at x = refl

back_flag : (x : Track) → Flag (back_track x) x
unfolding back_track
back_flag x = refl

begun_flag : (s : WatchState) (w : Option BeginReason) (i : ℕ) → Flag (track_at (begun s w) i) (track_at s i)
begun_flag s None i = refl
begun_flag s (Some w) i =
    let xs = untopped s.tracks in
    each_kept Flag refl (λ j. owing s.clocks.at (is_start w) (is_called s.forest xs s.clocks j)) xs (λ j x. owing_flag s.clocks.at (is_start w) (is_called s.forest xs s.clocks j) x) i
    ∙ each_kept Flag refl (λ j. untopped_track) s.tracks (λ j x. refl) i

mid_flag : (s : WatchState) (wall elapsed : ℕ) (round : List ℕ) (i : ℕ) → Flag (track_at (pressed (readied s wall elapsed) round) i) (track_at s i)
unfolding readied
mid_flag s wall elapsed round i =
    let t = timed s wall elapsed in
    let u = begun (settled t) (why s wall elapsed) in
    let c = u.clocks in
    let g = u.forest in
    let alone = pressed_alone g c u.tracks in
    each_kept Flag refl (track_asked_in c.at round) alone (asked_flag c.at round) i
    ∙ each_kept Flag refl (λ j. pressed_track g.margin (entry_at g.entries j) (need_of g.entries u.tracks c j) c.at) u.tracks
    (λ j x. pressed_flag g.margin (entry_at g.entries j) (need_of g.entries u.tracks c j) c.at x) i
    ∙ begun_flag (settled t) (why s wall elapsed) i ∙ each_kept Flag refl (λ j. settled_track t.forest.margin t.clocks.at) s.tracks (λ j x. settled_flag t.forest.margin t.clocks.at x) i

-- ---- the rest of a state before requests go out

begun_count : (s : WatchState) (w : Option BeginReason) → length (begun s w).tracks ≡ length s.tracks
begun_count s None = refl
begun_count s (Some w) =
    let xs = untopped s.tracks in
    each_length (λ j. owing s.clocks.at (is_start w) (is_called s.forest xs s.clocks j)) xs ∙ each_length (λ j. untopped_track) s.tracks

mid_count : (s : WatchState) (wall elapsed : ℕ) (round : List ℕ) → length (pressed (readied s wall elapsed) round).tracks ≡ length s.tracks
unfolding readied
mid_count s wall elapsed round =
    let t = timed s wall elapsed in
    let u = begun (settled t) (why s wall elapsed) in
    let c = u.clocks in
    let g = u.forest in
    each_length (track_asked_in c.at round) (pressed_alone g c u.tracks)
    ∙ each_length (λ j. pressed_track g.margin (entry_at g.entries j) (need_of g.entries u.tracks c j) c.at) u.tracks
    ∙ begun_count (settled t) (why s wall elapsed) ∙ each_length (λ j. settled_track t.forest.margin t.clocks.at) s.tracks

-- all but what a clock writes first
abbrev Left : WatchState → WatchState → Type 0
Left new old = (new.out ≡ old.out) × ((new.width ≡ old.width) × (new.forest ≡ old.forest))

begun_left : (s : WatchState) (w : Option BeginReason) → Left (begun s w) s
begun_left s None = (refl, (refl, refl))
begun_left s (Some w) = (refl, (refl, refl))

pub readied_left : (s : WatchState) (wall elapsed : ℕ) → Left (readied s wall elapsed) s
unfolding readied
readied_left s wall elapsed = begun_left (settled (timed s wall elapsed)) (why s wall elapsed)

-- ---- a clock

-- what the requests of a clock make of what is out
pub record Gone (old : WatchState) (requests : List WatchRequest) (new : WatchState) : Type 0 where
  pub entries : entries_out new ≡ entries_out old ++ entries_asked requests
  pub count : length new.out ≡ length old.out + length requests
  pub few : length requests ≤ old.width - length old.out
  pub within : All (λ (r : WatchRequest). r.entry < length new.forest.entries) requests
  pub width : new.width ≡ old.width
  pub sound : MachineIsSound new

entries_more : (at : ℕ) (out : List Out) (requests : List WatchRequest) → map (λ (r : Out). r.entry) (out ++ map (out_at at) requests) ≡ map (λ (r : Out). r.entry) out ++ entries_asked requests
entries_more at [] [] = refl
entries_more at [] (r ∷ requests) = ap (λ ns. r.entry ∷ ns) (entries_more at [] requests)
entries_more at (r ∷ out) requests = ap (λ ns. r.entry ∷ ns) (entries_more at out requests)

-- an entry that goes out is named, and one that does not is not
is_named : (i : ℕ) (requests : List WatchRequest) → times i (entries_asked requests) ≢ 0 → list_any (λ (r : WatchRequest). r.entry == i) requests ≡ true
is_named i [] some = absurd (some refl)
is_named i (r ∷ requests) some =
    elim (cases_Bool (r.entry == i)) [
      | inl same ↦ ap (λ b. b || list_any (λ (q : WatchRequest). q.entry == i) requests) same
      | inr other ↦
          let more = skips i r.entry (entries_asked requests) other in
          ap (λ b. b || list_any (λ (q : WatchRequest). q.entry == i) requests) other ∙ is_named i requests (λ none. some (more ∙ none))
    ]

not_so : (b : Bool) → not b ≡ true → b ≡ false
not_so true h = absurd cc
not_so false h = refl

due_free : (p : Presence) (at : ℕ) (x : Track) → is_due p at x ≡ true → x.out ≡ false
unfolding is_due
due_free p at x due = not_so x.out (and_parts (not x.out) (is_due_try p at x x.attempt) due).0

-- what holds of all holds of one that is among them
among : (P : ℕ → Type 0) (i : ℕ) (is : List ℕ) → All P is → times i is ≢ 0 → P i
among P i [] all some = absurd (some refl)
among P i (j ∷ js) all some =
    elim (cases_Bool (j == i)) [
      | inl same ↦ subst P (eqb-true j i same) (all 0 j (omega arith))
      | inr other ↦ among P i js (λ k d within. all (suc k) d (omega arith)) (λ none. some (skips i j js other ∙ none))
    ]

-- the mark of an entry that goes out, and of any other
sent_mark : (s : WatchState) (requests : List WatchRequest) (i : ℕ) → (track_at s i).out ≡ true → i < length s.tracks → (track_at (sent s requests) i).out ≡ true
sent_mark s requests i marked within =
    ap (λ (x : Track). x.out) (each_read (sent_in s.clocks.at requests) s.tracks i within)
    ∙ if_both (λ (x : Track). x.out ≡ true) (list_any (λ (r : WatchRequest). r.entry == i) requests) (sent_track s.clocks.at (track_at s i)) (track_at s i) refl marked

went_mark : (s : WatchState) (requests : List WatchRequest) (i : ℕ) → list_any (λ (r : WatchRequest). r.entry == i) requests ≡ true → i < length s.tracks → (track_at (sent s requests) i).out ≡ true
went_mark s requests i named within =
    ap (λ (x : Track). x.out)
    (each_read (sent_in s.clocks.at requests) s.tracks i within ∙ cond-true (list_any (λ (r : WatchRequest). r.entry == i) requests) (sent_track s.clocks.at (track_at s i)) (track_at s i) named)

-- an entry whose track says that a request of it is out is one
marked_within : (xs : List Track) (i : ℕ) → (track_in xs i).out ≡ true → i < length xs
marked_within xs i marked =
    elim (cases_lt i (length xs)) [
      | inl within ↦ within
      | inr past ↦ absurd (let e : false ≡ true = sym (ap (λ (x : Track). x.out) (get_or_past xs i no_track past)) ∙ marked in cc)
    ]

sent_once : (s : WatchState) (requests : List WatchRequest) (i : ℕ) → Goes s.presence s.clocks.at s.tracks (s.width - length s.out) requests → times i (entries_out s) ≤ (if (track_at s i).out then 1 else 0) →
    times i (entries_out s ++ entries_asked requests) ≤ (if (track_at (sent s requests) i).out then 1 else 0)
sent_once s requests i h once =
    let new = sent s requests in
    let all = times_append i (entries_out s) (entries_asked requests) in
    let one = h.once i in
    elim (cases_lt 0 (times i (entries_asked requests))) [
      | inl some ↦
          let named = among (λ j. (j < length s.tracks) × (is_due s.presence s.clocks.at (track_in s.tracks j) ≡ true)) i (entries_asked requests) h.due (λ none. omega (arith, some, none)) in
          let free = due_free s.presence s.clocks.at (track_at s i) named.1 in
          let before : times i (entries_out s) ≤ 0 = subst (λ (b : Bool). times i (entries_out s) ≤ (if b then 1 else 0)) free once in
          let mark = went_mark s requests i (is_named i requests (λ none. omega (arith, some, none))) named.0 in
          subst (λ (b : Bool). times i (entries_out s ++ entries_asked requests) ≤ (if b then 1 else 0)) (sym mark) (omega (arith, all, one, before))
      | inr none ↦
          elim (cases_Bool (track_at s i).out) [
            | inl marked ↦
                let before : times i (entries_out s) ≤ 1 = subst (λ (b : Bool). times i (entries_out s) ≤ (if b then 1 else 0)) marked once in
                let mark = sent_mark s requests i marked (marked_within s.tracks i marked) in
                subst (λ (b : Bool). times i (entries_out s ++ entries_asked requests) ≤ (if b then 1 else 0)) (sym mark) (omega (arith, all, none, before))
            | inr free ↦
                let before : times i (entries_out s) ≤ 0 = subst (λ (b : Bool). times i (entries_out s) ≤ (if b then 1 else 0)) free once in
                omega (arith, all, none, before)
          ]
    ]

-- nothing goes out under an index past the last entry
none_past : (s : WatchState) (requests : List WatchRequest) (i : ℕ) → Goes s.presence s.clocks.at s.tracks (s.width - length s.out) requests → length s.tracks ≤ i → times i (entries_asked requests) ≡ 0
none_past s requests i h past = elim (cases_lt 0 (times i (entries_asked requests))) [
  | inl some ↦
      let named = among (λ j. (j < length s.tracks) × (is_due s.presence s.clocks.at (track_in s.tracks j) ≡ true)) i (entries_asked requests) h.due (λ none. omega (arith, some, none)) in
      let within = named.0 in
      omega (arith, within, past)
  | inr none ↦ omega (arith, none)
]

sent_seats :
    (s : WatchState) (requests : List WatchRequest) (i : ℕ) → length s.tracks ≡ length s.forest.entries → Goes s.presence s.clocks.at s.tracks (s.width - length s.out) requests →
    times i (entries_out s) ≤ seats_of s i → times i (entries_out s ++ entries_asked requests) ≤ seats_of (sent s requests) i
sent_seats s requests i count h once =
    elim (cases_lt i (length s.forest.entries)) as (λ _. times i (entries_out s ++ entries_asked requests) ≤ seats_of (sent s requests) i) [
      | inl within ↦
          subst (λ n. times i (entries_out s ++ entries_asked requests) ≤ n) (sym (entry_seats (sent s requests) i within))
          (sent_once s requests i h (subst (λ n. times i (entries_out s) ≤ n) (entry_seats s i within) once))
      | inr past ↦
          let all = times_append i (entries_out s) (entries_asked requests) in
          let before = other_seats s i past in
          let after = other_seats (sent s requests) i past in
          let none = none_past s requests i h (omega (arith, count, past)) in
          omega (arith, all, before, after, none, once)
    ]

sent_gone : (s : WatchState) (requests : List WatchRequest) → MachineIsSound s → Goes s.presence s.clocks.at s.tracks (s.width - length s.out) requests → Gone s requests (sent s requests)
sent_gone s requests sound h =
    let new = sent s requests in
    let entries = entries_more s.clocks.at s.out requests in
    record {
      entries = entries;
      count = (let a = length-append s.out (map (out_at s.clocks.at) requests) in let b = length-map requests (out_at s.clocks.at) in omega (arith, a, b));
      few = h.few;
      within = λ k d below.
          let n = sound.count in
          let many = length-map requests (λ (r : WatchRequest). r.entry) in
          let here = h.due k d.entry (omega (arith, below, many)) in
          subst (λ m. m < length s.forest.entries) (get_or-map (λ (r : WatchRequest). r.entry) requests k d d.entry below) (omega (arith, n, here.0));
      width = refl;
      sound = record {
        count = each_length (sent_in s.clocks.at requests) s.tracks ∙ sound.count;
        once = λ i. subst (λ es. times i es ≤ seats_of new i) (sym entries) (sent_seats s requests i sound.count h (sound.once i));
      };
    }

clock_gone : (old new : WatchState) (wall elapsed : ℕ) (output : WatchOutput) (requests : List WatchRequest) (until : ℕ) → StepClock old wall elapsed output new → output.command ≡ Go requests until → MachineIsSound old → Gone old requests new
clock_gone old new wall elapsed output requests until step is sound =
    let round = round_of step.round in
    let mid = pressed (readied old wall elapsed) round in
    let left = readied_left old wall elapsed in
    let command : StepCommand mid (Go requests until) new = subst (λ c. StepCommand mid c new) is step.command in
    let same : entries_out mid ≡ entries_out old = ap (λ (out : List Out). map (λ (r : Out). r.entry) out) left.0 in
    let mid_sound : MachineIsSound mid = record {
      count = mid_count old wall elapsed round ∙ sound.count ∙ ap (λ (g : Forest). length g.entries) (sym left.1.1);
      once = λ i.
          subst (λ n. times i (entries_out mid) ≤ n) (sym (same_seats mid old i (ap (λ (g : Forest). length g.entries) left.1.1) (mid_flag old wall elapsed round i)))
          (subst (λ es. times i es ≤ seats_of old i) (sym same) (sound.once i));
    } in
    let gone = sent_gone mid requests mid_sound (goes mid.forest mid.presence mid.clocks.at mid.tracks (mid.width - length mid.out) requests command.0.0) in
    let at : Gone mid requests new = subst (Gone mid requests) (sym command.0.1) gone in
    record {
      entries = at.entries ∙ ap (λ es. es ++ entries_asked requests) same;
      count = at.count ∙ ap (λ (out : List Out). length out + length requests) left.0;
      few = (let f = at.few in let w = left.1.0 in let l = ap length left.0 in omega (arith, f, w, l));
      within = at.within;
      width = at.width ∙ left.1.0;
      sound = at.sound;
    }

pub turn_gone : (old new : WatchState) (wall elapsed : ℕ) (output : WatchOutput) (requests : List WatchRequest) (until : ℕ) → Turn old (Clock wall elapsed) (Ok output) new → output.command ≡ Go requests until → MachineIsSound old → Gone old requests new
turn_gone old new wall elapsed output requests until turn is sound = clock_gone old new wall elapsed output requests until turn.1 is sound

-- ---- an answer

-- the requests that are out but for those of j
none_without : (j : ℕ) (out : List Out) → times j (map (λ (r : Out). r.entry) (without_request j out)) ≡ 0
unfolding without_request
none_without j [] = refl
none_without j (r ∷ out) =
    let rest = none_without j out in
    if_cases (λ (xs : List Out). times j (map (λ (q : Out). q.entry) xs) ≡ 0) (not (r.entry == j)) (r ∷ filter (λ q. not (q.entry == j)) out) (filter (λ q. not (q.entry == j)) out)
    (λ e. skips j r.entry (map (λ (q : Out). q.entry) (filter (λ q. not (q.entry == j)) out)) (not_so (r.entry == j) e) ∙ rest) (λ e. rest)

other_without : (i j : ℕ) (out : List Out) → (j == i) ≡ false → times i (map (λ (r : Out). r.entry) (without_request j out)) ≡ times i (map (λ (r : Out). r.entry) out)
unfolding without_request
other_without i j [] other = refl
other_without i j (r ∷ out) other =
    let rest = other_without i j out other in
    let kept = map (λ (q : Out). q.entry) (filter (λ q. not (q.entry == j)) out) in
    let all = map (λ (q : Out). q.entry) out in
    if_cases (λ (xs : List Out). times i (map (λ (q : Out). q.entry) xs) ≡ times i (r.entry ∷ all)) (not (r.entry == j)) (r ∷ filter (λ q. not (q.entry == j)) out) (filter (λ q. not (q.entry == j)) out)
    (λ e. (let a = times_cons i r.entry kept in let b = times_cons i r.entry all in omega (arith, a, b, rest)))
    (λ e. rest ∙ sym (skips i r.entry all (subst (λ n. (n == i) ≡ false) (sym (eqb-true r.entry j (so (r.entry == j) e))) other))) where
      so : (b : Bool) → not b ≡ false → b ≡ true
      so true h = refl
      so false h = absurd cc

count_without : (j : ℕ) (out : List Out) → length (without_request j out) + times j (map (λ (r : Out). r.entry) out) ≡ length out
unfolding without_request
count_without j [] = refl
count_without j (r ∷ out) =
    let rest = count_without j out in
    let all = map (λ (q : Out). q.entry) out in
    if_cases (λ (xs : List Out). length xs + times j (r.entry ∷ all) ≡ suc (length out)) (not (r.entry == j)) (r ∷ filter (λ q. not (q.entry == j)) out) (filter (λ q. not (q.entry == j)) out)
    (λ e. (let a = skips j r.entry all (not_so (r.entry == j) e) in omega (arith, a, rest)))
    (λ e. (let a = counts j r.entry all (so (r.entry == j) e) in omega (arith, a, rest))) where
      so : (b : Bool) → not b ≡ false → b ≡ true
      so true h = refl
      so false h = absurd cc

-- those that are out after an answer, whatever it says of the broker
abbrev SameEntries : List Out → List Out → Type 0
SameEntries xs ys = (map (λ (r : Out). r.entry) xs ≡ map (λ (r : Out). r.entry) ys) × (length xs ≡ length ys)

heard_entries : (out : List Out) → SameEntries (map heard out) out
heard_entries [] = (refl, refl)
heard_entries (r ∷ out) = let rest = heard_entries out in (ap (λ ns. r.entry ∷ ns) rest.0, ap suc rest.1)

replied_out : (s : WatchState) (r : Out) (reply : WatchReply) → SameEntries (replied s r reply).out (without_request r.entry s.out)
replied_out s r reply =
    let free = lane_freed s r in
    let P : WatchState → Type 0 = λ t. SameEntries t.out (without_request r.entry s.out) in
    let all = heard_entries (without_request r.entry s.out) in
    if_both P (is_real reply) (answers_all free) (if r.heard then free else silent free)
    (if_both P s.presence.away _ _ all all)
    (if_both P r.heard free (silent free) (refl, refl) (if_both P s.presence.away _ _ (refl, refl) (refl, refl)))

-- what an answer leaves
abbrev pub IsKeptBy : WatchState → WatchState → Type 0
IsKeptBy new old = (new.width ≡ old.width) × ((length new.tracks ≡ length old.tracks) × (length new.forest.entries ≡ length old.forest.entries))

replied_kept : (s : WatchState) (r : Out) (reply : WatchReply) → IsKeptBy (replied s r reply) s
replied_kept s r reply =
    let free = lane_freed s r in
    let P : WatchState → Type 0 = λ t. IsKeptBy t s in
    if_both P (is_real reply) (answers_all free) (if r.heard then free else silent free)
    (if_both P s.presence.away _ _ (refl, (each_length (λ j. back_track) s.tracks, refl)) (refl, (refl, refl)))
    (if_both P r.heard free (silent free) (refl, (refl, refl)) (if_both P s.presence.away _ _ (refl, (refl, refl)) (refl, (refl, refl))))

replied_flag : (s : WatchState) (r : Out) (reply : WatchReply) (i : ℕ) → Flag (track_at (replied s r reply) i) (track_at s i)
replied_flag s r reply i =
    let free = lane_freed s r in
    let P : WatchState → Type 0 = λ t. Flag (track_at t i) (track_at s i) in
    if_both P (is_real reply) (answers_all free) (if r.heard then free else silent free)
    (if_both P s.presence.away _ _ (each_kept Flag refl (λ j. back_track) s.tracks (λ j x. back_flag x) i) refl)
    (if_both P r.heard free (silent free) refl (if_both P s.presence.away _ _ refl refl))

-- an answer to j: what is out is what was, but for j
pub record Answered (old : WatchState) (j : ℕ) (new : WatchState) : Type 0 where
  pub width : new.width ≡ old.width
  pub others : (i : ℕ) → (j == i) ≡ false → times i (entries_out new) ≡ times i (entries_out old)
  pub own : times j (entries_out new) ≡ 0
  pub count : length new.out + times j (entries_out old) ≡ length old.out
  pub sound : MachineIsSound new

answered : (old mid new : WatchState) (q : Out) (reply : WatchReply) → new ≡ replied mid q reply → mid.out ≡ old.out → IsKeptBy mid old → ((i : ℕ) → (q.entry == i) ≡ false → track_at mid i ≡ track_at old i) → MachineIsSound old → Answered old q.entry new
answered old mid new q reply is out kept others sound =
    let left = replied_out mid q reply in
    let entries : entries_out new ≡ map (λ (r : Out). r.entry) (without_request q.entry old.out) =
    ap entries_out is ∙ left.0 ∙ ap (λ (o : List Out). map (λ (r : Out). r.entry) (without_request q.entry o)) out in
    let own : times q.entry (entries_out new) ≡ 0 = ap (times q.entry) entries ∙ none_without q.entry old.out in
    let rest : (i : ℕ) → (q.entry == i) ≡ false → times i (entries_out new) ≡ times i (entries_out old) = λ i other. ap (times i) entries ∙ other_without i q.entry old.out other in
    let after = replied_kept mid q reply in
    let length_is : length new.out ≡ length (without_request q.entry old.out) = ap (λ (s : WatchState). length s.out) is ∙ left.1 ∙ ap (λ (o : List Out). length (without_request q.entry o)) out in
    let whole = count_without q.entry old.out in
    record {
      width = ap (λ (s : WatchState). s.width) is ∙ after.0 ∙ kept.0;
      others = rest;
      own = own;
      count = omega (arith, length_is, whole);
      sound = record {
        count = ap (λ (s : WatchState). length s.tracks) is ∙ after.1.0 ∙ kept.1.0 ∙ sound.count ∙ sym kept.1.1 ∙ sym after.1.1 ∙ sym (ap (λ (s : WatchState). length s.forest.entries) is);
        once = λ i. elim (cases_Bool (q.entry == i)) [
          | inl same ↦ (let none : times i (entries_out new) ≡ 0 = subst (λ n. times n (entries_out new) ≡ 0) (eqb-true q.entry i same) own in omega (arith, none))
          | inr other ↦
              let flags : (track_at new i).out ≡ (track_at old i).out =
              ap (λ (s : WatchState). (track_at s i).out) is ∙ replied_flag mid q reply i ∙ ap (λ (x : Track). x.out) (others i other) in
              let many : length new.forest.entries ≡ length old.forest.entries = ap (λ (s : WatchState). length s.forest.entries) is ∙ after.1.1 ∙ kept.1.1 in
              subst (λ n. times i (entries_out new) ≤ n) (sym (same_seats new old i many flags)) (subst (λ n. n ≤ seats_of old i) (sym (rest i other)) (sound.once i))
        ];
      };
    }

apart : (i j : ℕ) → (j == i) ≡ false → (i ≡ j → ⊥)
apart i j other same = let both : false ≡ true = sym other ∙ ap (λ n. j == n) same ∙ same_index j in cc

looked_other : (s : WatchState) (q : Out) (reply : WatchReply) (terms : WatchTerms) (i : ℕ) → (i ≡ q.entry → ⊥) → track_at (looked s q reply terms) i ≡ track_at s i
looked_other s q (Told seconds renewable date) terms i other =
    get_or-set_other (told_state s q.entry q.since seconds renewable terms).tracks q.entry i _ no_track other ∙ get_or-set_other s.tracks q.entry i _ no_track other
looked_other s q _ terms i other = get_or-set_other s.tracks q.entry i _ no_track other

pub looked_out : (s : WatchState) (q : Out) (reply : WatchReply) (terms : WatchTerms) → (looked s q reply terms).out ≡ s.out
looked_out s q (Told seconds renewable date) terms = refl
looked_out s q _ terms = refl

looked_kept : (s : WatchState) (q : Out) (reply : WatchReply) (terms : WatchTerms) → IsKeptBy (looked s q reply terms) s
looked_kept s q (Told seconds renewable date) terms = (refl, (length-set _ q.entry _ ∙ length-set s.tracks q.entry _, length-set s.forest.entries q.entry _))
looked_kept s q _ terms = (refl, (length-set s.tracks q.entry _, refl))

looked_answered : (old new : WatchState) (j : ℕ) (found : Option Out) (reply : WatchReply) (terms : WatchTerms) (output : WatchOutput) → request_out old.out j Look ≡ found → StepLooked old found reply terms output new → MachineIsSound old → Answered old j new
looked_answered old new j None reply terms output is step sound = absurd step
looked_answered old new j (Some q) reply terms output is step sound =
    let s = noted old q reply in
    subst (λ k. Answered old k new) (out_entry old.out j Look q is)
    (answered old (looked s q reply terms) new q reply step.1 (looked_out s q reply terms) (looked_kept s q reply terms) (λ i other. looked_other s q reply terms i (apart i q.entry other)) sound)

renewed_answered : (old new : WatchState) (j : ℕ) (found : Option Out) (reply : WatchReply) (output : WatchOutput) → request_out old.out j Renew ≡ found → StepRenewed old found reply output new → MachineIsSound old → Answered old j new
renewed_answered old new j None reply output is step sound = absurd step
renewed_answered old new j (Some q) reply output is step sound =
    let s = noted old q reply in
    subst (λ k. Answered old k new) (out_entry old.out j Renew q is)
    (answered old (state_renewed s q reply) new q reply step.1 refl (refl, (length-set s.tracks q.entry _, refl)) (λ i other. get_or-set_other s.tracks q.entry i _ no_track (apart i q.entry other)) sound)

pub turn_looked : (old new : WatchState) (j : ℕ) (reply : WatchReply) (terms : WatchTerms) (output : WatchOutput) → Turn old (Looked j reply terms) (Ok output) new → MachineIsSound old → Answered old j new
turn_looked old new j reply terms output turn sound = looked_answered old new j (request_out old.out j Look) reply terms output refl turn.1 sound

pub turn_renewed : (old new : WatchState) (j : ℕ) (reply : WatchReply) (output : WatchOutput) → Turn old (Renewed j reply) (Ok output) new → MachineIsSound old → Answered old j new
turn_renewed old new j reply output turn sound = renewed_answered old new j (request_out old.out j Renew) reply output refl turn.1 sound

-- ---- the other events

-- nothing goes out, and nothing comes
pub record IsQuiet (old new : WatchState) : Type 0 where
  pub out : new.out ≡ old.out
  pub width : new.width ≡ old.width
  pub sound : MachineIsSound new

pub turn_need : (old new : WatchState) (i until : ℕ) (output : WatchOutput) → Turn old (Need i until) (Ok output) new → MachineIsSound old → IsQuiet old new
turn_need old new i until output turn sound =
    subst (IsQuiet old) (sym turn.1.1)
    (record {
      out = refl;
      width = refl;
      sound = record {
        count = sound.count ∙ sym (length-set old.forest.entries i _);
        once = λ k. subst (λ n. times k (entries_out old) ≤ n) (sym (same_seats (with_need_until old i until) old k (length-set old.forest.entries i _) refl)) (sound.once k);
      };
    })

pub turn_begin : (old new : WatchState) (output : WatchOutput) → Turn old Begin (Ok output) new → MachineIsSound old → IsQuiet old new
turn_begin old new output turn sound = subst (IsQuiet old) (sym turn.1.1) (record { out = refl; width = refl; sound = record { count = sound.count; once = sound.once } })

known_flag : (old : WatchState) (i end : ℕ) (renewable : Bool) (k : ℕ) → Flag (track_at (known old i end renewable) k) (track_at old k)
known_flag old i end renewable k =
    let x = told_earlier end renewable (track_at old i) in
    set_kept Flag (λ y. refl) old.tracks i (owing_past old.clocks.at x) (past_flag old.clocks.at x) k

pub turn_known : (old new : WatchState) (i end : ℕ) (renewable : Bool) (output : WatchOutput) → Turn old (Known i end renewable) (Ok output) new → MachineIsSound old → IsQuiet old new
turn_known old new i end renewable output turn sound =
    subst (IsQuiet old) (sym turn.1.1)
    (record {
      out = refl;
      width = refl;
      sound = record {
        count = length-set old.tracks i _ ∙ sound.count;
        once = λ k. subst (λ n. times k (entries_out old) ≤ n) (sym (same_seats (known old i end renewable) old k refl (known_flag old i end renewable k))) (sound.once k);
      };
    })

-- ---- and any event leaves as many entries

clock_entries : (old new : WatchState) (wall elapsed : ℕ) (round : List ℕ) (command : WatchCommand) → StepCommand (pressed (readied old wall elapsed) round) command new → length new.forest.entries ≡ length old.forest.entries
clock_entries old new wall elapsed round (Go requests until) h =
    ap (λ (s : WatchState). length s.forest.entries) h.0.1 ∙ ap (λ (g : Forest). length g.entries) (readied_left old wall elapsed).1.1
clock_entries old new wall elapsed round Taken h = absurd h

looked_entries : (old new : WatchState) (found : Option Out) (reply : WatchReply) (terms : WatchTerms) (output : WatchOutput) → StepLooked old found reply terms output new → length new.forest.entries ≡ length old.forest.entries
looked_entries old new None reply terms output step = absurd step
looked_entries old new (Some q) reply terms output step =
    ap (λ (s : WatchState). length s.forest.entries) step.1 ∙ (replied_kept (looked (noted old q reply) q reply terms) q reply).1.1 ∙ (looked_kept (noted old q reply) q reply terms).1.1

renewed_entries : (old new : WatchState) (found : Option Out) (reply : WatchReply) (output : WatchOutput) → StepRenewed old found reply output new → length new.forest.entries ≡ length old.forest.entries
renewed_entries old new None reply output step = absurd step
renewed_entries old new (Some q) reply output step = ap (λ (s : WatchState). length s.forest.entries) step.1 ∙ (replied_kept (state_renewed (noted old q reply) q reply) q reply).1.1

step_entries : (old new : WatchState) (event : WatchEvent) (output : WatchOutput) → Step old event output new → length new.forest.entries ≡ length old.forest.entries
step_entries old new (Clock wall elapsed) output step = clock_entries old new wall elapsed (round_of step.round) output.command step.command
step_entries old new (Looked i reply terms) output step = looked_entries old new (request_out old.out i Look) reply terms output step
step_entries old new (Renewed i reply) output step = renewed_entries old new (request_out old.out i Renew) reply output step
step_entries old new (Need i until) output step = ap (λ (s : WatchState). length s.forest.entries) step.1 ∙ length-set old.forest.entries i _
step_entries old new _ output step = ap (λ (s : WatchState). length s.forest.entries) step.1

pub refused_stays : (old new : WatchState) (event : WatchEvent) (fault : WatchFault) → Turn old event (Err fault) new → new ≡ old
refused_stays old new event OutOfMemory h = h.1.1
refused_stays old new event _ h = h.1
