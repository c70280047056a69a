-- Fronts: while the broker is there, what goes out at a clock before a first try that is an entry's own is such a first try, of an end no
-- later, and keeps a lane for its patience at most. For the law of partial outages.
use Rattle.std.proofs.Common.{◌≡◌, ◌≢◌, ◌∙◌, ℕ, zero, suc, ◌+◌, ◌-◌, ◌*◌, ◌^◌, ◌<◌, ◌≤◌, Bool, true, false, not, ◌&&◌, ◌||◌, ◌==◌, if◌then◌else◌, List, [], ◌∷◌, Option, Some, None, is_some, length, max, min, nat_lt, refl, sym, ap, arith, inl, inr}
use Rattle.std.proofs.lemmas.Bool.Decides.{nat_tests}
use Rattle.std.proofs.lemmas.Bool.{and_parts, cases_Bool, cond-false, cond-true, eqb-true, or_left, or_right}
use Rattle.std.specs.List.{list_any}
use Rattle.plan_forest.specs.{declared.entry.Entry.Entry, Forest.Forest, Forest.entry_at}
use Rattle.watch_machine.specs.{declared.command.WatchRequest.WatchRequest, declared.event.Operation.TheVariants.Renew, declared.lanes.Presence.Presence, declared.track.End.End, declared.track.Track.Track, declared.track.Try.Try}
use Rattle.watch_machine.specs.{Clocks.sec, Refusal.is_same}
use Rattle.watch_machine.specs.declared.command.Patience.TheVariants.{Full, AtMost}
use Rattle.watch_machine.specs.Lines.{asked_rank, is_along, is_due, is_first, rank}
use Rattle.watch_machine.specs.Margins.{asking_margin, has_come, own_margin, time}
use Rattle.watch_machine.specs.Sending.{is_alone, is_alone_try, is_before, is_partial, patience, place, place_of, request_of, sent, sent_in, sent_track}
use Rattle.watch_machine.specs.State.{WatchState, entry_of, track_at, track_in}
use Rattle.watch_machine.specs.Wanted.{believed, is_alive, is_unknown}
use Rattle.watch_machine.proofs.{Cases.if_both, Written.each_length}
use Rattle.watch_laws.specs.Partial.{Partial, is_own_try, keeps_lane, longest, may_take}
use Rattle.watch_laws.proofs.{Going.request_at, Owed.due_some, Tracking.each_kept}

-- an entry's own first try, and whether it stands before that of i, by the tracks
abbrev pub own_at : Forest → ℕ → List Track → ℕ → Bool
own_at g now xs j = is_own_try (has_come g.margin (entry_at g.entries j) (track_in xs j) now) (track_in xs j).attempt && is_alive now (track_in xs j)

abbrev pub front_at : Forest → ℕ → List Track → ℕ → ℕ → Bool
front_at g now xs i k =
    own_at g now xs k && (nat_lt (believed (track_in xs k).end) (believed (track_in xs i).end) || (believed (track_in xs k).end == believed (track_in xs i).end && nat_lt k i))

-- the place of such a try, by its tests
own_place :
    (f a l p : Bool) (r q : ℕ) → (f && not a) && l ≡ true →
    ((if f then (if a then 4 else ((if false then 2 else 0) + (if l then 0 else 1))) else ((if false then 0 else 2) + (if p then 0 else 1))) ≡ 0) × ((if f then r else q) ≡ r)
own_place true false true p r q h = (refl, refl)
own_place true false false p r q h = absurd cc
own_place true true l p r q h = absurd cc
own_place false a l p r q h = absurd cc

-- and of whoever is not after it
not_after :
    (f a l p : Bool) (r q e i k : ℕ) → k ≢ i →
    is_before (record { part = 0; rank = e; entry = i })
    (record { part = if f then (if a then 4 else ((if false then 2 else 0) + (if l then 0 else 1))) else ((if false then 0 else 2) + (if p then 0 else 1)); rank = if f then r else q; entry = k })
    ≡ false →
    ((f && not a) && l) && (nat_lt r e || (r == e && nat_lt k i)) ≡ true
not_after true false true p r q e i k other h = grind (arith, nat_tests)
not_after true false false p r q e i k other h = absurd cc
not_after true true l p r q e i k other h = absurd cc
not_after false a l true r q e i k other h = absurd cc
not_after false a l false r q e i k other h = absurd cc

before_own :
    (margin : ℕ) (e f : Entry) (now i k : ℕ) (x y : Track) (o u : Option Try) → is_own_try (has_come margin e x now) o && is_alive now x ≡ true → is_some u ≡ true → k ≢ i →
    is_before (place_of margin e false now i x o) (place_of margin f false now k y u) ≡ false →
    (is_own_try (has_come margin f y now) u && is_alive now y) && (nat_lt (believed y.end) (believed x.end) || (believed y.end == believed x.end && nat_lt k i)) ≡ true
before_own margin e f now i k x y None u own some other h = absurd cc
before_own margin e f now i k x y (Some t) None own some other h = absurd cc
before_own margin e f now i k x y (Some t) (Some u) own some other h =
    let there = own_place (is_first t) (is_along margin e now x t) (is_alive now x) t.pressed (believed x.end) (asked_rank x.last) own in
    let q = place_of margin f false now k y (Some u) in
    not_after (is_first u) (is_along margin f now y u) (is_alive now y) u.pressed (believed y.end) (asked_rank y.last) (believed x.end) i k other
    (sym (ap (λ n. is_before (record { part = n; rank = rank x t; entry = i }) q) there.0 ∙ ap (λ n. is_before (record { part = 0; rank = n; entry = i }) q) there.1) ∙ h)

pub fronts :
    (g : Forest) (p : Presence) (at : ℕ) (xs : List Track) (i k : ℕ) → p.away ≡ false → own_at g (sec at) xs i ≡ true → is_due p at (track_in xs k) ≡ true → k ≢ i →
    is_before (place g p.away (sec at) xs i) (place g p.away (sec at) xs k) ≡ false → front_at g (sec at) xs i k ≡ true
fronts g p at xs i k there own due other h =
    let x = track_in xs i in
    let y = track_in xs k in
    before_own g.margin (entry_at g.entries i) (entry_at g.entries k) (sec at) i k x y x.attempt y.attempt own (due_some p at y due) other
    (sym (ap (λ b. is_before (place g b (sec at) xs i) (place g b (sec at) xs k)) there) ∙ h)

-- going out leaves the tries and the ends
abbrev Stays : Track → Track → Type 0
Stays y x = (y.attempt ≡ x.attempt) × (y.end ≡ x.end)

pub sent_stays : (s : WatchState) (rs : List WatchRequest) (j : ℕ) → Stays (track_at (sent s rs) j) (track_at s j)
sent_stays s rs j =
    each_kept Stays (refl, refl) (sent_in s.clocks.at rs) s.tracks
    (λ k x. if_both (λ y. Stays y x) (list_any (λ (r : WatchRequest). r.entry == k) rs) (sent_track s.clocks.at x) x (refl, refl) (refl, refl)) j

-- and whether a time has come
pub sent_come : (s : WatchState) (rs : List WatchRequest) (margin : ℕ) (e : Entry) (now j : ℕ) → has_come margin e (track_at (sent s rs) j) now ≡ has_come margin e (track_at s j) now
unfolding has_come time asking_margin own_margin
sent_come s rs margin e now j =
    let R : Track → Track → Type 0 = λ y x. has_come margin e y now ≡ has_come margin e x now in
    each_kept R refl (sent_in s.clocks.at rs) s.tracks (λ k x. if_both (λ y. R y x) (list_any (λ (r : WatchRequest). r.entry == k) rs) (sent_track s.clocks.at x) x refl refl) j

abbrev own_by : ℕ → Bool → Option Try → End → Bool
own_by now come o e = is_own_try come o && nat_lt now (believed e)

pub sent_own : (s : WatchState) (rs : List WatchRequest) (now j : ℕ) → own_at s.forest now (sent s rs).tracks j ≡ own_at s.forest now s.tracks j
sent_own s rs now j =
    let h = sent_stays s rs j in
    let come = has_come s.forest.margin (entry_of s j) (track_at s j) now in
    ap (λ b. own_by now b (track_at (sent s rs) j).attempt (track_at (sent s rs) j).end) (sent_come s rs s.forest.margin (entry_of s j) now j)
    ∙ ap (λ o. own_by now come o (track_at (sent s rs) j).end) h.0 ∙ ap (own_by now come (track_at s j).attempt) h.1

pub sent_front : (s : WatchState) (rs : List WatchRequest) (now i k : ℕ) → front_at s.forest now (sent s rs).tracks i k ≡ front_at s.forest now s.tracks i k
sent_front s rs now i k =
    let h = sent_stays s rs k in
    let e = sent_stays s rs i in
    let test : Bool → End → End → Bool = λ b y x. b && (nat_lt (believed y) (believed x) || (believed y == believed x && nat_lt k i)) in
    ap (λ b. test b (track_at (sent s rs) k).end (track_at (sent s rs) i).end) (sent_own s rs now k)
    ∙ ap (λ y. test (own_at s.forest now s.tracks k) y (track_at (sent s rs) i).end) h.1 ∙ ap (λ x. test (own_at s.forest now s.tracks k) (track_at s k).end x) e.1

-- somebody is alone before the requests go out, if so after it
pub alone_index : (test : Track → Bool) (xs : List Track) → list_any test xs ≡ true → (j : ℕ) × ((j < length xs) × (test (track_in xs j) ≡ true))
alone_index test [] h = absurd cc
alone_index test (x ∷ xs) h =
    elim (cases_Bool (test x)) [
      | inl here ↦ (0, (omega arith, here))
      | inr there ↦
          let rest = alone_index test xs (sym (ap (λ b. b || list_any test xs) there) ∙ h) in
          let within = rest.1.0 in
          (suc rest.0, (omega (arith, within), rest.1.1))
    ]

pub index_alone : (test : Track → Bool) (xs : List Track) (j : ℕ) → j < length xs → test (track_in xs j) ≡ true → list_any test xs ≡ true
index_alone test [] j within h = absurd (omega (arith, within))
index_alone test (x ∷ xs) zero within h = or_left (test x) (list_any test xs) h
index_alone test (x ∷ xs) (suc j) within h = or_right (test x) (list_any test xs) (index_alone test xs j (omega (arith, within)) h)

abbrev alone_by : ℕ → Option Try → End → Bool
alone_by now o e = is_alone_try o && (is_unknown e || nat_lt now (believed e))

pub sent_partial : (s : WatchState) (rs : List WatchRequest) (now : ℕ) → is_partial now (sent s rs).tracks ≡ true → is_partial now s.tracks ≡ true
unfolding is_partial
sent_partial s rs now h =
    let there = alone_index (is_alone now) (sent s rs).tracks h in
    let j = there.0 in
    let within = there.1.0 in
    let count = each_length (sent_in s.clocks.at rs) s.tracks in
    let same = sent_stays s rs j in
    index_alone (is_alone now) s.tracks j (omega (arith, within, count))
    (sym (ap (λ o. alone_by now o (track_at (sent s rs) j).end) same.0 ∙ ap (λ e. alone_by now (track_at s j).attempt e) same.1) ∙ there.1.1)

-- how long a first try may be silent while somebody is alone
patience_first : (away partial : Bool) (pace : ℕ) (t : Try) → away ≡ false → partial ≡ true → t.fails ≡ 0 → patience away partial pace t ≡ AtMost (max 1000 (2 * pace))
unfolding patience
patience_first away partial pace t there alone none =
    let n = max 1000 (2 * pace) in
    ap (λ a. if a && is_first t then AtMost 250 else (if partial then AtMost (n * 2 ^ (min 20 t.fails - 1)) else Full)) there
    ∙ ap (λ b. if b then AtMost (n * 2 ^ (min 20 t.fails - 1)) else Full) alone ∙ ap (λ m. AtMost (n * 2 ^ (min 20 m - 1))) none ∙ ap AtMost (let e : n * 1 ≡ n = omega arith in e)

-- so a request of it keeps a lane as long as is said
pub keeps_short :
    (o : Partial) (g : Forest) (p : Presence) (now : ℕ) (xs : List Track) (k at : ℕ) → p.away ≡ false → is_partial now xs ≡ true → max 1000 (2 * p.pace) ≤ o.patience → own_at g now xs k ≡ true →
    o.takes k at ≤ longest o (request_at p now xs k) → o.takes k at + o.late ≤ keeps_lane o k
keeps_short o g p now xs k at there alone fits own h =
    let come = has_come g.margin (entry_at g.entries k) (track_in xs k) now in
    by come (track_in xs k).attempt (and_parts (is_own_try come (track_in xs k).attempt) (is_alive now (track_in xs k)) own).0 h where
      by : (come : Bool) (a : Option Try) → is_own_try come a ≡ true → o.takes k at ≤ longest o (request_of p.away (is_partial now xs) p.pace k a) → o.takes k at + o.late ≤ keeps_lane o k
      by come None mine h' = absurd cc
      by come (Some t) mine h' =
          let first = (and_parts (is_first t) (not (is_same t.operation Renew && not come)) mine).0 in
          let none : t.fails ≡ 0 = eqb-true t.fails 0 (and_parts t.pressed (t.fails == 0) first).1 in
          let short = patience_first p.away (is_partial now xs) p.pace t there alone none in
          let most = ap (may_take o.slow) short in
          elim (cases_Bool (o.hung k)) as (λ _. o.takes k at + o.late ≤ keeps_lane o k) [
            | inl hung ↦
                let takes = cond-true (o.hung k) (may_take o.slow (patience p.away (is_partial now xs) p.pace t)) o.quick hung in
                let keeps = cond-true (o.hung k) o.patience o.quick hung in
                omega (arith, h', takes, most, keeps, fits)
            | inr other ↦
                let takes = cond-false (o.hung k) (may_take o.slow (patience p.away (is_partial now xs) p.pace t)) o.quick other in
                let keeps = cond-false (o.hung k) o.patience o.quick other in
                omega (arith, h', takes, keeps)
          ]
