-- Lookups: what coming up leaves of what was seen of an entry, and whose lookups go out. For the laws of looks.
use Rattle.std.proofs.Common.{◌≡◌, ◌≢◌, ◌⊎◌, ◌∙◌, ℕ, zero, suc, ◌+◌, ◌-◌, ◌<◌, ◌≤◌, Bool, true, false, not, ◌&&◌, ◌==◌, ◌*◌, List, [], ◌∷◌, Option, Some, None, is_none, length, nat_le, nat_lt, refl, sym, ap, subst, arith, inl, inr}
use Rattle.std.proofs.lemmas.Bool.Decides.{nat_tests}
use Rattle.std.proofs.lemmas.Bool.{and_parts, cases_Bool, cases_eq, cases_lt, cond-true, eqb-true, false_from_ne_true}
use Rattle.std.proofs.lemmas.List.{get_or-set_other, get_or-set_same, get_or_past, length-set}
use Rattle.watch_machine.specs.{declared.track.End.End, declared.track.End.TheVariants.At, Clocks.ms, Outlook.time_of, Wanted.is_wanted}
use Rattle.watch_machine.specs.State.{WatchState, second, track_at}
use Rattle.watch_machine.proofs.Cases.{if_both, if_cases, not_both, value_is}
use Rattle.watch_laws.specs.Outage.{one_where}
use Rattle.watch_scout.specs.{declared.scout.Seen.Seen, Hearing.freed, Hearing.freed_where}
use Rattle.watch_scout.specs.Looking.{Found, awaits, came_up, first_from, found, goes_out, had_look, is_at_hand, is_for, is_new, known_end, look_moment, looked_up, passed_over, with_seen}
use Rattle.watch_scout.specs.State.{ScoutState, seen_at, unseen}
use Rattle.watch_scout.proofs.Coming.{all_seen}
use Rattle.watch_scout_laws.specs.Looks.{AllBelieve, IsLook, LookLaw, OnceLaw, is_entry, looks_of}
use Rattle.watch_scout_laws.specs.Steps.{AllSteps, Hears, IsStep, ScoutStep, Seeks, Sought, scout_after, watch_beside}

pub same_entry : (i : ℕ) → (i == i) ≡ true
same_entry i = grind (arith, nat_tests)

-- ---- what was seen of an entry

seen_there : (s : ScoutState) (i : ℕ) (x : Seen) → i < length s.seen → seen_at (with_seen s i x) i ≡ x
seen_there s i x within = get_or-set_same s.seen i x unseen within

pub seen_elsewhere : (s : ScoutState) (i k : ℕ) (x : Seen) → k ≢ i → seen_at (with_seen s i x) k ≡ seen_at s k
seen_elsewhere s i k x apart = get_or-set_other s.seen i k x unseen apart

-- the end for which k had its look, after something else is seen of i
looked_of : (s : ScoutState) (i k end : ℕ) (x : Seen) → (k ≡ i → x.looked ≡ Some end) → (seen_at s k).looked ≡ Some end → (seen_at (with_seen s i x) k).looked ≡ Some end
looked_of s i k end x written before =
    elim (cases_eq k i) as (λ _. (seen_at (with_seen s i x) k).looked ≡ Some end) [
      | inl same ↦
          elim (cases_lt k (length s.seen)) as (λ _. (seen_at (with_seen s i x) k).looked ≡ Some end) [
            | inl within ↦
                subst (λ j. (seen_at (with_seen s j x) k).looked ≡ Some end) same
                (ap (λ (y : Seen). y.looked) (seen_there s k x within) ∙ written same)
            | inr past ↦ absurd (none_past past)
          ]
      | inr apart ↦ ap (λ (y : Seen). y.looked) (seen_elsewhere s i k x apart) ∙ before
    ] where
      none_past : length s.seen ≤ k → ⊥
      none_past past = let bad : None ≡ Some end = ap (λ (y : Seen). y.looked) (sym (get_or_past s.seen k unseen past)) ∙ before in cc

-- it had it already, or has it now
had_before : (s : ScoutState) (w : WatchState) (i k end : ℕ) → (track_at w k).end ≡ At end → (seen_at s k).looked ≡ Some end → (seen_at (came_up s w i) k).looked ≡ Some end
had_before s w i k end is before =
    let P : ScoutState → Type 0 = λ t. (seen_at t k).looked ≡ Some end in
    let now : k ≡ i → known_end (track_at w i).end ≡ Some end = λ same. subst (λ j. known_end (track_at w j).end ≡ Some end) same (ap known_end is) in
    if_both P (is_at_hand s w i) (had_look s w i) s
    (if_both P (is_wanted w i) (looked_up s w i) (passed_over s w i)
    (looked_of s i k end (record { looked = known_end (track_at w i).end; since = Some w.clocks.at }) now before)
    (looked_of s i k end (record (seen_at s i) { looked = known_end (track_at w i).end }) now before)) before

-- ---- an entry that had its look for the end that it has does not come up again
for_itself : (looked : Option ℕ) (end : ℕ) → looked ≡ Some end → is_for looked end ≡ true
for_itself looked end is = ap (λ o. is_for o end) is ∙ same_entry end

not_new : (now : ℕ) (looked : Option ℕ) (e : End) (end : ℕ) → e ≡ At end → looked ≡ Some end → is_new now looked e ≡ false
not_new now looked e end is had =
    ap (is_new now looked) is ∙ ap (λ b. nat_lt now end && not b) (for_itself looked end had) ∙ and_false (nat_lt now end) where
      and_false : (b : Bool) → (b && false) ≡ false
      and_false true = refl
      and_false false = refl

not_again : (s : ScoutState) (w : WatchState) (k end : ℕ) → (track_at w k).end ≡ At end → (seen_at s k).looked ≡ Some end → goes_out s w k ≡ true → ⊥
unfolding is_at_hand awaits
not_again s w k end is had goes =
    let at_hand = (and_parts (is_at_hand s w k) (is_wanted w k) goes).0 in
    let waits = (and_parts (awaits s w k) (nat_le (look_moment s w k) w.clocks.at && nat_lt (second w) (time_of w k)) at_hand).0 in
    let new = (and_parts (is_new (second w) (seen_at s k).looked (track_at w k).end) (not (track_at w k).out && is_none (seen_at s k).since) waits).0 in
    not_both new (not_new (second w) (seen_at s k).looked (track_at w k).end end is had)

-- ---- all that come up
-- what is found keeps what each that comes up keeps
pub all_keep : (P : ScoutState → Type 0) (w : WatchState) → ((s : ScoutState) (i : ℕ) → P s → P (came_up s w i)) → (n i : ℕ) (s : ScoutState) → P s → P (first_from w i n s).state
all_keep P w each' zero i s h = h
all_keep P w each' (suc n) i s h =
    if_both (λ (f : Found). P f.state) (goes_out s w i) (record { entry = Some i; state = came_up s w i }) (first_from w (suc i) n (came_up s w i)) (each' s i h)
    (all_keep P w each' n (suc i) (came_up s w i) (each' s i h))

pub found_keeps : (P : ScoutState → Type 0) (w : WatchState) → ((s : ScoutState) (i : ℕ) → P s → P (came_up s w i)) → (s : ScoutState) (from : ℕ) → P s → P (found s w from).state
unfolding found
found_keeps P w each' s from h =
    if_both (λ (f : Found). P f.state) (nat_lt s.out s.width) (first_from w from (length w.forest.entries - from) s) (record { entry = None; state = s })
    (all_keep P w each' (length w.forest.entries - from) from s h) h

-- and whose lookup goes out, is at hand and wanted, as the scout was then
pub goes_then : (P : ScoutState → Type 0) (w : WatchState) (k : ℕ) → ((s : ScoutState) (i : ℕ) → P s → P (came_up s w i)) → (n i : ℕ) (s : ScoutState) → P s → (first_from w i n s).entry ≡ Some k →
    (t : ScoutState) × (P t × ((goes_out t w k ≡ true) × ((first_from w i n s).state ≡ came_up t w k)))
goes_then P w k each' zero i s h is = absurd cc
goes_then P w k each' (suc n) i s h is =
    let here : Found = record { entry = Some i; state = came_up s w i } in
    let there = first_from w (suc i) n (came_up s w i) in
    let Q : Found → Type 0 = λ f. f.entry ≡ Some k → (t : ScoutState) × (P t × ((goes_out t w k ≡ true) × (f.state ≡ came_up t w k))) in
    if_cases Q (goes_out s w i) here there
    (λ goes e. let same = value_is i k e in (s, (h, (subst (λ j. goes_out s w j ≡ true) same goes, ap (came_up s w) same))))
    (λ stays e. goes_then P w k each' n (suc i) (came_up s w i) (each' s i h) e) is

pub found_goes : (P : ScoutState → Type 0) (w : WatchState) (k : ℕ) → ((s : ScoutState) (i : ℕ) → P s → P (came_up s w i)) → (s : ScoutState) (from : ℕ) → P s → (found s w from).entry ≡ Some k →
    (t : ScoutState) × (P t × ((goes_out t w k ≡ true) × ((found s w from).state ≡ came_up t w k)))
unfolding found
found_goes P w k each' s from h is =
    let many = first_from w from (length w.forest.entries - from) s in
    let none : Found = record { entry = None; state = s } in
    let Q : Found → Type 0 = λ f. f.entry ≡ Some k → (t : ScoutState) × (P t × ((goes_out t w k ≡ true) × (f.state ≡ came_up t w k))) in
    if_both Q (nat_lt s.out s.width) many none (λ e. goes_then P w k each' (length w.forest.entries - from) from s h e) (λ e. absurd cc) is

-- ---- one look for one end
entry_is : (k : ℕ) (o : Option ℕ) → is_entry k o ≡ true → o ≡ Some k
entry_is k None h = absurd cc
entry_is k (Some i) h = ap Some (eqb-true i k h)

-- an answer leaves the end for which an entry had its look
freed_looked : (s : ScoutState) (i k : ℕ) (since : Option ℕ) → (seen_at (freed_where s i since) k).looked ≡ (seen_at s k).looked
freed_looked s i k None = refl
freed_looked s i k (Some since) =
    elim (cases_eq k i) as (λ _. (seen_at (freed_where s i (Some since)) k).looked ≡ (seen_at s k).looked) [
      | inl same ↦ subst (λ j. (seen_at (freed_where s j (Some since)) k).looked ≡ (seen_at s k).looked) same (own (cases_lt k (length s.seen)))
      | inr apart ↦ ap (λ (y : Seen). y.looked) (seen_elsewhere s i k (record (seen_at s i) { since = None }) apart)
    ] where
      own : (k < length s.seen) ⊎ (length s.seen ≤ k) → (seen_at (with_seen s k (record (seen_at s k) { since = None })) k).looked ≡ (seen_at s k).looked
      own (inl within) = ap (λ (y : Seen). y.looked) (seen_there s k (record (seen_at s k) { since = None }) within)
      own (inr past) =
          let many : length (with_seen s k (record (seen_at s k) { since = None })).seen ≡ length s.seen = length-set s.seen k _ in
          ap (λ (y : Seen). y.looked) (get_or_past (with_seen s k (record (seen_at s k) { since = None })).seen k unseen (omega (arith, many, past)) ∙ sym (get_or_past s.seen k unseen past))

step_looked : (s : ScoutState) (x : ScoutStep) (k end : ℕ) → IsStep s x → (track_at (watch_beside x) k).end ≡ At end → (seen_at s k).looked ≡ Some end → (seen_at (scout_after x) k).looked ≡ Some end
unfolding freed
step_looked s (Seeks x) k end step is had =
    ap (λ (t : ScoutState). (seen_at t k).looked) step.1 ∙ found_keeps (λ t. (seen_at t k).looked ≡ Some end) x.watch (λ t i h. had_before t x.watch i k end is h) s x.from had
step_looked s (Hears x) k end step is had = ap (λ (t : ScoutState). (seen_at t k).looked) step.1 ∙ freed_looked s x.entry k (seen_at s x.entry).since ∙ had

-- all are still seen
came_many : (s : ScoutState) (w : WatchState) (i n : ℕ) → length s.seen ≡ n → length (came_up s w i).seen ≡ n
came_many s w i n h = all_seen s w i ∙ h

step_many : (s : ScoutState) (x : ScoutStep) → IsStep s x → length (scout_after x).seen ≡ length s.seen
unfolding freed
step_many s (Seeks x) step =
    ap (λ (t : ScoutState). length t.seen) step.1 ∙ found_keeps (λ t. length t.seen ≡ length s.seen) x.watch (λ t i h. came_many t x.watch i (length s.seen) h) s x.from refl
step_many s (Hears x) step = ap (λ (t : ScoutState). length t.seen) step.1 ∙ by (seen_at s x.entry).since where
  by : (since : Option ℕ) → length (freed_where s x.entry since).seen ≡ length s.seen
  by None = refl
  by (Some since) = length-set s.seen x.entry _

-- what goes out has its look
has_look : (t : ScoutState) (w : WatchState) (k end : ℕ) → k < length t.seen → (track_at w k).end ≡ At end → goes_out t w k ≡ true → (seen_at (came_up t w k) k).looked ≡ Some end
has_look t w k end within is goes =
    let both = and_parts (is_at_hand t w k) (is_wanted w k) goes in
    let P : ScoutState → Type 0 = λ u. (seen_at u k).looked ≡ Some end in
    subst P (sym (cond-true (is_at_hand t w k) (had_look t w k) t both.0 ∙ cond-true (is_wanted w k) (looked_up t w k) (passed_over t w k) both.1))
    (ap (λ (y : Seen). y.looked) (seen_there t k (record { looked = known_end (track_at w k).end; since = Some w.clocks.at }) within) ∙ ap known_end is)

step_has_look : (s : ScoutState) (x : Sought) (k end : ℕ) → k < length s.seen → IsStep s (Seeks x) → (track_at x.watch k).end ≡ At end → x.entry ≡ Some k → (seen_at x.state k).looked ≡ Some end
step_has_look s x k end within step is found' =
    let P : ScoutState → Type 0 = λ t. length t.seen ≡ length s.seen in
    let then' = found_goes P x.watch k (λ t i h. came_many t x.watch i (length s.seen) h) s x.from refl (sym step.0 ∙ found') in
    let t = then'.0 in
    let many = then'.1.0 in
    ap (λ (u : ScoutState). (seen_at u k).looked) (step.1 ∙ then'.1.1.1) ∙ has_look t x.watch k end (omega (arith, many, within)) is then'.1.1.0

-- where k had its look for the end that it has, none goes out
none_again : (s : ScoutState) (x : Sought) (k end : ℕ) → IsStep s (Seeks x) → (track_at x.watch k).end ≡ At end → (seen_at s k).looked ≡ Some end → is_entry k x.entry ≡ false
none_again s x k end step is had =
    false_from_ne_true (is_entry k x.entry)
    (λ yes'.
    let P : ScoutState → Type 0 = λ t. (seen_at t k).looked ≡ Some end in
    let then' = found_goes P x.watch k (λ t i h. had_before t x.watch i k end is h) s x.from had (sym step.0 ∙ entry_is k x.entry yes') in
    not_again then'.0 x.watch k end is then'.1.0 then'.1.1.0)

none_left : (s : ScoutState) (xs : List ScoutStep) (k end : ℕ) → AllSteps s xs → AllBelieve k end xs → (seen_at s k).looked ≡ Some end → looks_of k xs ≡ 0
none_left s [] k end steps believed had = refl
none_left s (Seeks x ∷ xs) k end steps believed had =
    let rest = none_left x.state xs k end steps.1 believed.1 (step_looked s (Seeks x) k end steps.0 believed.0 had) in
    let here = ap one_where (none_again s x k end steps.0 believed.0 had) in
    omega (arith, rest, here)
none_left s (Hears x ∷ xs) k end steps believed had = none_left x.state xs k end steps.1 believed.1 (step_looked s (Hears x) k end steps.0 believed.0 had)

pub once : OnceLaw
once s [] k end within steps believed = omega arith
once s (Seeks x ∷ xs) k end within steps believed =
    let many = step_many s (Seeks x) steps.0 in
    elim (cases_Bool (is_entry k x.entry)) as (λ _. one_where (is_entry k x.entry) + looks_of k xs ≤ 1) [
      | inl here ↦
          let rest = none_left x.state xs k end steps.1 believed.1 (step_has_look s x k end within steps.0 believed.0 (entry_is k x.entry here)) in
          let one = ap one_where here in
          omega (arith, rest, one)
      | inr other ↦
          let rest = once x.state xs k end (omega (arith, many, within)) steps.1 believed.1 in
          let none = ap one_where other in
          omega (arith, rest, none)
    ]
once s (Hears x ∷ xs) k end within steps believed =
    let many = step_many s (Hears x) steps.0 in
    once x.state xs k end (omega (arith, many, within)) steps.1 believed.1

-- ---- a lookup goes out rightly
lt_from : (m n : ℕ) → nat_lt m n ≡ true → m < n
lt_from m n h = grind (arith, nat_tests)

new_end : (now : ℕ) (looked : Option ℕ) (e : End) → is_new now looked e ≡ true → (end : ℕ) × ((e ≡ At end) × (now < end))
new_end now looked (At end) h = (end, (refl, lt_from now end (and_parts (nat_lt now end) (not (is_for looked end)) h).0))
new_end now looked _ h = absurd cc

free_from : (b c : Bool) → (not b && c) ≡ true → b ≡ false
free_from true c h = absurd cc
free_from false c h = refl

le_from : (m n : ℕ) → nat_le m n ≡ true → m ≤ n
le_from m n h = grind (arith, nat_tests)

look_rightly : (s t : ScoutState) (w : WatchState) (i : ℕ) → t.margin ≡ s.margin → goes_out t w i ≡ true → IsLook s w i
unfolding is_at_hand awaits
look_rightly s t w i same goes =
    let both = and_parts (is_at_hand t w i) (is_wanted w i) goes in
    let parts = and_parts (awaits t w i) (nat_le (look_moment t w i) w.clocks.at && nat_lt (second w) (time_of w i)) both.0 in
    let window = and_parts (nat_le (look_moment t w i) w.clocks.at) (nat_lt (second w) (time_of w i)) parts.1 in
    let waits = and_parts (is_new (second w) (seen_at t i).looked (track_at w i).end) (not (track_at w i).out && is_none (seen_at t i).since) parts.0 in
    let new = new_end (second w) (seen_at t i).looked (track_at w i).end waits.0 in
    let moment = le_from (look_moment t w i) w.clocks.at window.0 in
    record {
      end = new.0;
      end_is = new.1.0;
      ahead = new.1.1;
      free = free_from (track_at w i).out (is_none (seen_at t i).since) waits.1;
      wanted = both.1;
      moment = subst (λ m. ms (time_of w i) - (m - w.forest.margin) * 500 ≤ w.clocks.at) same moment;
      before = lt_from (second w) (time_of w i) window.1;
    }

came_margin : (s : ScoutState) (w : WatchState) (i n : ℕ) → s.margin ≡ n → (came_up s w i).margin ≡ n
came_margin s w i n h =
    if_both (λ (t : ScoutState). t.margin ≡ n) (is_at_hand s w i) (had_look s w i) s
    (if_both (λ (t : ScoutState). t.margin ≡ n) (is_wanted w i) (looked_up s w i) (passed_over s w i) h h) h

pub looks_rightly : LookLaw
looks_rightly s x i step found' =
    let then' = found_goes (λ t. t.margin ≡ s.margin) x.watch i (λ t j h. came_margin t x.watch j s.margin h) s x.from refl (sym step.0 ∙ found') in
    look_rightly s then'.0 x.watch i then'.1.0 then'.1.1.0
