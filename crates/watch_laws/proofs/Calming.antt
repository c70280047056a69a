-- Calming: what is believed but for ends, and what is known of an entry that nobody asks, stays while time passes and others are answered.
-- For the law of calm.
use Rattle.std.proofs.Common.{◌≡◌, ◌∙◌, ℕ, ◌*◌, ◌/◌, ◌<◌, ◌≤◌, Bool, true, false, cond, not, ◌&&◌, ◌==◌, if◌then◌else◌, List, [], ◌∷◌, Option, None, filter, length, map, max, min, option_map, refl, sym, ap, ap₂, arith, inl, inr}
use Rattle.std.proofs.lemmas.Bool.{cases_Bool}
use Rattle.std.proofs.Math.Path.{fun_ext}
use Rattle.std.specs.List.{range_with_len}
use Rattle.base_moment.specs.declared.moment.TheConstants.{LAST}
use Rattle.plan_forest.specs.{declared.entry.Entry.Entry, declared.forest.TheConstants.END_MAX, Carried.carried, Forest.Forest, Forest.entry_at, Over.chain, Push.IsForest}
use Rattle.plan_rule.specs.Unkeepable.{AllKeepable}
use Rattle.watch_machine.specs.{declared.clocks.BrokerOffset.BrokerOffset, declared.clocks.WallOffset.WallOffset, declared.track.Grant.Grant, declared.track.Track.Track, Beginning.is_pressed, Beginning.is_pressed_try}
use Rattle.watch_machine.specs.{Clocks.of_wall, Clocks.to_here}
use Rattle.watch_machine.specs.Margins.{is_in_plan, lead, own_margin}
use Rattle.watch_machine.specs.State.{WatchState, attempt_at, entry_of, has_last_try, second, track_at}
use Rattle.watch_machine.specs.Wanted.{believed, free_need, is_fixed, is_wanted, least, least_over, limit, need_here, seen_entry, wanted_need, wants}
use Rattle.watch_machine.proofs.Carries.{carried_less, carried_same}
use Rattle.watch_laws.specs.Calm.{believed_forest, ends, in_plan_at, lead_at, planned_need, terms}
use Rattle.watch_laws.proofs.{Believed.carried_believed, Opener.bearing, Opener.wants_same, Trying.need_free}
use Rattle.watch_laws.proofs.Foreseen.{IsLed, led_by, wanted_short}
use Rattle.watch_laws.proofs.Needing.{tries_last, wants_by, wants_parts}

-- two states in which as much is believed of each entry, but for the ends of those that may be led further
pub record AreAlike (new old : WatchState) : Type 0 where
  pub forest : new.forest ≡ old.forest
  pub broker : new.clocks.broker ≡ old.clocks.broker
  pub wall : new.clocks.wall ≡ old.clocks.wall
  pub renewable : (i : ℕ) → (track_at new i).renewable ≡ (track_at old i).renewable
  pub top : (i : ℕ) → (track_at new i).top ≡ (track_at old i).top
  pub fixed : (i : ℕ) → is_fixed (track_at new i) ≡ is_fixed (track_at old i)
  pub held : (i : ℕ) → is_fixed (track_at old i) ≡ true → believed (track_at new i).end ≡ believed (track_at old i).end

-- the least of some numbers that a test finds
pub least_same :
    (f h : ℕ → Bool) (b c : ℕ → ℕ) → ((i : ℕ) → f i ≡ h i) → ((i : ℕ) → h i ≡ true → b i ≡ c i) → (xs : List ℕ) (m : ℕ) →
    least m (map b (filter f xs)) ≡ least m (map c (filter h xs))
least_same f h b c same held [] m = refl
least_same f h b c same held (x ∷ xs) m =
    elim (cases_Bool (h x)) as (λ _. least m (map b (filter f (x ∷ xs))) ≡ least m (map c (filter h (x ∷ xs)))) [
      | inl yes' ↦
          ap (λ d. least m (map b (cond d (x ∷ filter f xs) (filter f xs)))) (same x ∙ yes')
          ∙ ap (λ n. least (min m n) (map b (filter f xs))) (held x yes')
          ∙ least_same f h b c same held xs (min m (c x))
          ∙ sym (ap (λ d. least m (map c (cond d (x ∷ filter h xs) (filter h xs)))) yes')
      | inr no' ↦
          ap (λ d. least m (map b (cond d (x ∷ filter f xs) (filter f xs)))) (same x ∙ no')
          ∙ least_same f h b c same held xs m
          ∙ sym (ap (λ d. least m (map c (cond d (x ∷ filter h xs) (filter h xs)))) no')
    ]

unfoldable pub limit_at : WatchState → ℕ → ℕ
limit_at s i = limit s.forest.entries s.tracks i

limit_alike : (new old : WatchState) → AreAlike new old → (i : ℕ) → limit_at new i ≡ limit_at old i
unfolding least_over limit_at
limit_alike new old a i =
    least_same (λ k. is_fixed (track_at new k)) (λ k. is_fixed (track_at old k)) (λ k. believed (track_at new k).end) (λ k. believed (track_at old k).end) a.fixed a.held (chain new.forest.entries i) END_MAX
    ∙ ap (λ (g : Forest). least END_MAX (map (λ k. believed (track_at old k).end) (filter (λ k. is_fixed (track_at old k)) (chain g.entries i)))) a.forest

-- an entry by its parts
unfoldable pub term_of : Entry → BrokerOffset → WallOffset → ℕ → Bool → Entry
term_of e broker wall most led = record e {
  end = 0;
  renewable = led;
  ceiling = option_map (λ t. min END_MAX (to_here broker t)) e.ceiling;
  need = min (if e.need == 0 then 0 else min LAST (max (to_here broker e.need) (to_here (of_wall wall) e.need))) most;
}

terms_are : (s : WatchState) (i : ℕ) → terms s i ≡ term_of (entry_of s i) s.clocks.broker s.clocks.wall (limit_at s i) ((track_at s i).renewable && not (track_at s i).top)
unfolding terms seen_entry need_here term_of limit_at
terms_are s i = refl

pub terms_alike : (new old : WatchState) → AreAlike new old → (i : ℕ) → terms new i ≡ terms old i
terms_alike new old a i =
    let e : entry_of new i ≡ entry_of old i = ap (λ (g : Forest). entry_at g.entries i) a.forest in
    let l = limit_alike new old a i in
    let led : (track_at new i).renewable && not (track_at new i).top ≡ (track_at old i).renewable && not (track_at old i).top = ap₂ (λ b t. b && not t) (a.renewable i) (a.top i) in
    terms_are new i
    ∙ ap (λ x. term_of x new.clocks.broker new.clocks.wall (limit_at new i) ((track_at new i).renewable && not (track_at new i).top)) e
    ∙ ap₂ (λ b w. term_of (entry_of old i) b w (limit_at new i) ((track_at new i).renewable && not (track_at new i).top)) a.broker a.wall
    ∙ ap₂ (λ n b. term_of (entry_of old i) old.clocks.broker old.clocks.wall n b) l led
    ∙ sym (terms_are old i)

pub forest_alike : (new old : WatchState) → AreAlike new old → believed_forest new ≡ believed_forest old
unfolding believed_forest
forest_alike new old a =
    ap (λ (f : ℕ → Entry). record { entries = map f (range_with_len 0 (length new.forest.entries)); margin = new.forest.margin }) (fun_ext (terms_alike new old a))
    ∙ ap (λ (g : Forest). record { entries = map (terms old) (range_with_len 0 (length g.entries)); margin = g.margin }) a.forest

-- while time passes, no more is carried
pub need_less : (new old : WatchState) → IsForest new.forest → IsForest old.forest → AreAlike new old → second old ≤ second new → (i : ℕ) → planned_need new i ≤ planned_need old i
need_less new old forest forest' a later i =
    let n = carried_believed new forest i in
    let o = carried_believed old forest' i in
    let same = ap (λ (g : Forest). carried g.entries (second new) i) (forest_alike new old a) in
    let less = carried_less (believed_forest old).entries (second old) (second new) i later in
    omega arith

-- and as much, as long as the need is ahead
pub need_kept :
    (new old : WatchState) → IsForest new.forest → IsForest old.forest → AreAlike new old → second old ≤ second new → (i : ℕ) → second new < planned_need old i →
    planned_need new i ≡ planned_need old i
need_kept new old forest forest' a later i ahead =
    let n = carried_believed new forest i in
    let o = carried_believed old forest' i in
    let same = ap (λ (g : Forest). carried g.entries (second new) i) (forest_alike new old a) in
    let kept = carried_same (believed_forest old).entries (second old) (second new) i later (omega arith) in
    omega arith

-- nor would more be with no limit at all
abbrev free_entries : List Entry → BrokerOffset → WallOffset → List Entry
free_entries es broker wall =
    map (λ k. record (entry_at es k) { need = if (entry_at es k).need == 0 then 0 else min LAST (max (to_here broker (entry_at es k).need) (to_here (of_wall wall) (entry_at es k).need)) }) (range_with_len 0 (length es))

unfoldable pub free_by : List Entry → BrokerOffset → WallOffset → ℕ → ℕ → ℕ
free_by es broker wall now i = carried (free_entries es broker wall) now i

pub free_is : (s : WatchState) (i : ℕ) → free_need s.forest.entries s.clocks i ≡ free_by s.forest.entries s.clocks.broker s.clocks.wall (second s) i
unfolding free_need need_here free_by
free_is s i = refl

pub free_alike :
    (new old : WatchState) → new.forest ≡ old.forest → new.clocks.broker ≡ old.clocks.broker → new.clocks.wall ≡ old.clocks.wall → (i : ℕ) →
    free_need new.forest.entries new.clocks i ≡ free_by old.forest.entries old.clocks.broker old.clocks.wall (second new) i
free_alike new old forest broker wall i =
    free_is new i ∙ ap (λ (g : Forest). free_by g.entries new.clocks.broker new.clocks.wall (second new) i) forest ∙ ap₂ (λ b w. free_by old.forest.entries b w (second new) i) broker wall

later_less : (es : List Entry) (broker : BrokerOffset) (wall : WallOffset) (now then' i : ℕ) → now ≤ then' → free_by es broker wall then' i ≤ free_by es broker wall now i
unfolding free_by
later_less es broker wall now then' i later = carried_less (free_entries es broker wall) now then' i later

free_less : (new old : WatchState) → AreAlike new old → second old ≤ second new → (i : ℕ) → free_need new.forest.entries new.clocks i ≤ free_need old.forest.entries old.clocks i
free_less new old a later i =
    let n = free_alike new old a.forest a.broker a.wall i in
    let o = free_is old i in
    let less = later_less old.forest.entries old.clocks.broker old.clocks.wall (second old) (second new) i later in
    omega (arith, n, o, less)

-- so whoever is at its top is wanted only where it was before
wants_more : (x : Track) (m n : ℕ) → m ≤ n → wants x m ≡ true → wants x n ≡ true
wants_more x m n more h = wants_by x m n h (let last = (wants_parts x m h).1.1.1 in omega (arith, more, last))

pub untopped_on :
    (new old : WatchState) → AreAlike new old → second old ≤ second new → (i : ℕ) → bearing (track_at new i) ≡ bearing (track_at old i) → (is_wanted old i ≡ true → (track_at old i).top ≡ false) →
    is_wanted new i ≡ true → (track_at new i).top ≡ false
untopped_on new old a later i same untopped wanted =
    let y = track_at new i in
    let x = track_at old i in
    elim (cases_Bool y.top) as (λ _. y.top ≡ false) [
      | inr led ↦ led
      | inl topped ↦
          let tries : has_last_try y ≡ true = tries_last y (wanted_need new i) topped wanted in
          let n = need_free new.forest.entries new.tracks new.clocks i tries in
          let o = need_free old.forest.entries old.tracks old.clocks i (sym (ap has_last_try same) ∙ tries) in
          let less = free_less new old a later i in
          let before : is_wanted old i ≡ true = sym (wants_same y x (wanted_need old i) same) ∙ wants_more y (wanted_need new i) (wanted_need old i) (omega (arith, n, o, less)) wanted in
          ap (λ (z : Track). z.top) same ∙ untopped before
    ]

pub lead_alike : (new old : WatchState) → new.forest ≡ old.forest → (i : ℕ) → (track_at new i).grant ≡ (track_at old i).grant → lead_at new i ≡ lead_at old i
lead_alike new old forest i same = ap₂ (λ (g : Forest) (o : Option Grant). lead (entry_at g.entries i).step o) forest same

pub entry_step : (new old : WatchState) → new.forest ≡ old.forest → (i : ℕ) → (entry_of new i).step ≡ (entry_of old i).step
entry_step new old forest i = ap (λ (g : Forest). (entry_at g.entries i).step) forest

pub plan_alike : (new old : WatchState) → new.forest ≡ old.forest → (i : ℕ) → lead_at new i ≡ lead_at old i → in_plan_at new i ≡ in_plan_at old i
unfolding is_in_plan own_margin
plan_alike new old forest i same = ap₂ (λ (g : Forest) (n : ℕ). min g.margin (3 * n / 4) == g.margin) forest same

pub ends_alike : (new old : WatchState) (i : ℕ) → bearing (track_at new i) ≡ bearing (track_at old i) → ends new i ≡ ends old i
unfolding ends
ends_alike new old i same = ap (λ (x : Track). believed x.end) same

-- an entry of which nothing is asked: it ends as it should, and if it is wanted it is not at its top, and a renewal leads it as far as its step
pub record IsIdle (s : WatchState) (e : ℕ → ℕ) (i : ℕ) : Type 0 where
  pub none : attempt_at s i ≡ None
  pub end : ends s i ≡ e i
  pub owes : (track_at s i).owes ≡ false
  pub out : (track_at s i).out ≡ false
  pub in_plan : is_wanted s i ≡ true → in_plan_at s i ≡ true
  pub led : is_wanted s i ≡ true → lead_at s i ≡ (entry_of s i).step
  pub untopped : is_wanted s i ≡ true → (track_at s i).top ≡ false

pub unpressed : (s : WatchState) (i : ℕ) → attempt_at s i ≡ None → is_pressed (track_at s i) ≡ false
unpressed s i none = ap is_pressed_try none

-- what is seen of a track and what asks it stay
pub record IsKept (y x : Track) : Type 0 where
  pub bears : bearing y ≡ bearing x
  pub attempt : y.attempt ≡ x.attempt
  pub owes : y.owes ≡ x.owes

pub kept_same : (y x : Track) → y ≡ x → IsKept y x
kept_same y x same = record { bears = ap bearing same; attempt = ap (λ (z : Track). z.attempt) same; owes = ap (λ (z : Track). z.owes) same }

-- so it stays while time passes and while others are answered, as long as there is a plan for the ends as they should be
pub idle_on :
    (new old : WatchState) (e : ℕ → ℕ) → IsForest new.forest → IsForest old.forest → AreAlike new old → second old ≤ second new → AllKeepable (believed_forest old) (second old) e →
    (i : ℕ) → IsKept (track_at new i) (track_at old i) → (track_at new i).out ≡ false → IsIdle old e i → IsIdle new e i
idle_on new old e forest forest' a later keepable i same out idle =
    let less = need_less new old forest forest' a later i in
    let end = ends_alike new old i same.bears in
    let l = lead_alike new old a.forest i (ap (λ (x : Track). x.grant) same.bears) in
    let plan = plan_alike new old a.forest i l in
    let step : (entry_of new i).step ≡ (entry_of old i).step = entry_step new old a.forest i in
    let untopped : is_wanted new i ≡ true → (track_at new i).top ≡ false = untopped_on new old a later i same.bears idle.untopped in
    let was : is_wanted new i ≡ true → IsLed old i = λ wanted. led_by old forest' e keepable i (sym idle.end) (let h = wanted_short new i wanted (untopped wanted) in omega arith) in
    record {
      none = same.attempt ∙ idle.none;
      end = end ∙ idle.end;
      owes = same.owes ∙ idle.owes;
      out = out;
      in_plan = λ wanted. plan ∙ idle.in_plan (was wanted).wanted;
      led = λ wanted. l ∙ idle.led (was wanted).wanted ∙ sym step;
      untopped = untopped;
    }
