-- Rounds: when a round opens and whom it names. For the laws of rounds, of Asks and of hope.
use Rattle.std.proofs.Common.{◌≡◌, ◌∙◌, ℕ, ◌+◌, ◌*◌, ◌/◌, ◌<◌, Bool, true, false, cond, not, ◌&&◌, ◌||◌, List, [], Option, Some, None, Result, is_some, length, map, min, nat_le, nat_lt, refl, sym, ap, ap₂, subst, arith, inl, inr, if◌then◌else◌}
use Rattle.std.proofs.lemmas.Bool.Decides.{nat_tests}
use Rattle.std.proofs.lemmas.Bool.{and_parts, cases_Bool, cond-false, cond-true}
use Rattle.std.proofs.Math.Path.{fun_ext}
use Rattle.std.specs.List.{range_with_len}
use Rattle.plan_forest.specs.{declared.entry.Entry.Entry, declared.forest.TheConstants.END_MAX, Carried.carried, Over.chain, Push.IsForest, Renewal.capped, Renewal.renewal}
use Rattle.plan_forest.specs.Forest.{Forest, end_of, entry_at}
use Rattle.plan_rule.specs.Asks.{asks}
use Rattle.watch_machine.specs.{declared.command.WatchOutput.WatchOutput, declared.command.WatchRequest.WatchRequest, declared.event.WatchEvent.WatchEvent, declared.fault.WatchFault.WatchFault, declared.track.End.End}
use Rattle.watch_machine.specs.{declared.track.Track.Track, Beginning.is_pressed, History.Turn, Press.is_fresh, Press.pressed, Sending.sent, Step.readied}
use Rattle.watch_machine.specs.declared.track.End.TheVariants.{Unknown, At}
use Rattle.watch_machine.specs.Margins.{asking_margin, has_come, own_margin, time, time_before}
use Rattle.watch_machine.specs.Round.{IsRound, IsSecond, RoundAsks, asked_by_round, is_hoped, opens, opens_some, plan_view}
use Rattle.watch_machine.specs.State.{WatchState, entry_of, has_last_try, second, track_at}
use Rattle.watch_machine.specs.Wanted.{believed, free_need, is_alive, is_fixed, is_known, is_unknown, is_wanted, least_over, limit, need_here, need_of, seen_entry, wanted_need, wants}
use Rattle.watch_laws.specs.Calm.{ends, in_plan_at, lead_at, planned_need}
use Rattle.watch_laws.specs.Rounds.{AreAsks, AsksLaw, FindAllSame, HopeLaw, IsOpener, RoundLaw, granted_forest, granted_terms, hoped_ends, is_hidden, is_hoped_for}
use Rattle.watch_laws.specs.Time.{round_of}
use Rattle.watch_laws.proofs.{Forested.readied_forest, Needing.is_not, Needing.wants_parts, OnPlan.bears_alike, Opener.mid_bears, Opener.opened_at_clock}
use Rattle.watch_laws.proofs.Calming.{AreAlike, ends_alike, free_alike, free_by, free_is, lead_alike, least_same, limit_at, plan_alike, term_of, terms_alike}
use Rattle.watch_laws.proofs.Hoping.{asks_hoped, hopes, needs_view}
use Rattle.watch_laws.proofs.OfPlan.{all_six, come_at, hoped_at, hoped_entry, no_hope, none_opens, opens_at, own_entry, planned_at, planned_is, some_opens}
use Rattle.watch_laws.proofs.Presses.{clock_of, come_is, readied_keeps, wanted_is}

-- what is known of an entry that opens one
record IsFitToOpen (s : WatchState) (i : ℕ) : Type 0 where
  pub wanted : is_wanted s i ≡ true
  pub come : come_at s i ≡ true
  pub unpressed : is_pressed (track_at s i) ≡ false
  pub unasked : (track_at s i).out ≡ false
  pub in_plan : in_plan_at s i ≡ true
  pub alive : is_alive (second s) (track_at s i) ≡ true

open_parts : (s : WatchState) (i : ℕ) → opens_at s i ≡ true → IsFitToOpen s i
unfolding opens is_fresh
open_parts s i opens' =
    let x = track_at s i in
    let both = and_parts (is_wanted s i && (come_at s i && (not (is_pressed x) && not x.out))) (in_plan_at s i && is_alive (second s) x) opens' in
    let fresh = and_parts (is_wanted s i) (come_at s i && (not (is_pressed x) && not x.out)) both.0 in
    let come = and_parts (come_at s i) (not (is_pressed x) && not x.out) fresh.1 in
    let free = and_parts (not (is_pressed x)) (not x.out) come.1 in
    let rest = and_parts (in_plan_at s i) (is_alive (second s) x) both.1 in
    record {
      wanted = fresh.0;
      come = come.0;
      unpressed = is_not (is_pressed x) free.0;
      unasked = is_not x.out free.1;
      in_plan = rest.0;
      alive = rest.1;
    }

opens_by : (s : WatchState) (i : ℕ) → IsFitToOpen s i → opens_at s i ≡ true
unfolding opens is_fresh
opens_by s i h = all_six (is_wanted s i) (come_at s i) (is_pressed (track_at s i)) (track_at s i).out (in_plan_at s i) (is_alive (second s) (track_at s i)) h.wanted h.come h.unpressed h.unasked h.in_plan h.alive

-- ---- what a clock leaves, said of the state that it has readied

module _ (old : WatchState) (wall elapsed : ℕ) (round : List ℕ) (requests : List WatchRequest) where
  abbrev pub ready : WatchState
  ready = readied old wall elapsed

  abbrev pub after : WatchState
  after = sent (pressed ready round) requests

  alike : AreAlike after ready
  alike = bears_alike after ready refl refl refl (mid_bears ready round requests)

  lead_is : (i : ℕ) → lead_at after i ≡ lead_at ready i
  lead_is i = lead_alike after ready refl i (ap (λ (x : Track). x.grant) (mid_bears ready round requests i))

  plan_is : (i : ℕ) → in_plan_at after i ≡ in_plan_at ready i
  plan_is i = plan_alike after ready refl i (lead_is i)

  hoped_is : (i : ℕ) → is_hoped_for old after i ≡ hoped_at ready i
  unfolding is_hoped
  hoped_is i =
      let kept = readied_keeps old wall elapsed i in
      let w : is_wanted after i ≡ is_wanted ready i = wanted_is old wall elapsed round requests i in
      let p = plan_is i in
      let u : is_unknown (track_at after i).end ≡ is_unknown (track_at ready i).end = ap (λ (x : Track). is_unknown x.end) (mid_bears ready round requests i) in
      let b = kept.pressed in
      let o = kept.out in
      ap₂ (λ c d. c && (not d || (is_unknown (track_at after i).end || (is_pressed (track_at old i) || (track_at old i).out)))) w p
      ∙ ap (λ c. is_wanted ready i && (not (in_plan_at ready i) || (c || (is_pressed (track_at old i) || (track_at old i).out)))) u
      ∙ ap₂ (λ c d. is_wanted ready i && (not (in_plan_at ready i) || (is_unknown (track_at ready i).end || (c || d)))) (sym b) (sym o)

  hidden_is : (i : ℕ) → is_hidden old after i ≡ (hoped_at ready i && not (track_at ready i).top)
  hidden_is i = ap₂ (λ b t. b && not t) (hoped_is i) (ap (λ (x : Track). x.top) (mid_bears ready round requests i))

  granted_is : (i : ℕ) → granted_terms after i ≡ granted_terms ready i
  unfolding granted_terms
  granted_is i = ap₂ (λ (e : Entry) (n : ℕ). record e { step = n }) (terms_alike after ready alike i) (lead_is i)

  forest_is : granted_forest after ≡ granted_forest ready
  unfolding granted_forest
  forest_is = ap (λ (f : ℕ → Entry). record { entries = map f (range_with_len 0 (length ready.forest.entries)); margin = ready.forest.margin }) (fun_ext granted_is)

  hopes_are : hoped_ends old after ≡ hopes ready
  hopes_are =
      fun_ext
      (λ i. ap (λ b. cond b (renewal (granted_terms after i) (second after)) (ends after i)) (hoped_is i)
      ∙ ap₂ (λ (e : Entry) (n : ℕ). cond (hoped_at ready i) (renewal e (second ready)) n) (granted_is i) (ends_alike after ready i (mid_bears ready round requests i)))

  -- and who opens a round
  alive_is : (i : ℕ) → is_alive (second after) (track_at after i) ≡ is_alive (second ready) (track_at ready i)
  alive_is i = ap (λ (y : Track). is_alive (second ready) y) (mid_bears ready round requests i)

  opener_is : (i : ℕ) → i < length ready.forest.entries → opens_at ready i ≡ true → IsOpener old after i
  opener_is i within opens' =
      let kept = readied_keeps old wall elapsed i in
      let o = open_parts ready i opens' in
      record {
        within = within;
        wanted = wanted_is old wall elapsed round requests i ∙ o.wanted;
        in_plan = plan_is i ∙ o.in_plan;
        come = come_is old wall elapsed round requests i ∙ o.come;
        alive = alive_is i ∙ o.alive;
        unpressed = sym kept.pressed ∙ o.unpressed;
        unasked = sym kept.out ∙ o.unasked;
      }

  opens_is : (i : ℕ) → IsOpener old after i → opens_at ready i ≡ true
  opens_is i h =
      let kept = readied_keeps old wall elapsed i in
      opens_by ready i (
      record {
        wanted = sym (wanted_is old wall elapsed round requests i) ∙ h.wanted;
        come = sym (come_is old wall elapsed round requests i) ∙ h.come;
        unpressed = kept.pressed ∙ h.unpressed;
        unasked = kept.out ∙ h.unasked;
        in_plan = sym (plan_is i) ∙ h.in_plan;
        alive = sym (alive_is i) ∙ h.alive;
      }
      )

-- ---- when a round opens

-- a turn at which a round opens
turn_round :
    (P : WatchState → Type 0) (old new : WatchState) (event : WatchEvent) (result : Result WatchOutput WatchFault) (asked : List ℕ) → Turn old event result new → round_of result ≡ Some asked →
    ((wall elapsed : ℕ) (requests : List WatchRequest) → IsRound (readied old wall elapsed).forest (readied old wall elapsed).tracks (readied old wall elapsed).clocks (Some asked) → P (sent (pressed (readied old wall elapsed) asked) requests)) → P new
turn_round P old new event result asked turn is each =
    opened_at_clock old new event result asked turn is
    (λ wall elapsed at taken'.
    let r = readied old wall elapsed in
    clock_of (λ n w. w ≡ Some asked → P n) old new event result wall elapsed turn at taken'
    (λ round requests h same. subst (λ w. P (sent (pressed r (asked_by_round w)) requests)) (sym same) (each wall elapsed requests (subst (IsRound r.forest r.tracks r.clocks) same h))) is)

turn_opener : (old new : WatchState) (event : WatchEvent) (result : Result WatchOutput WatchFault) (asked : List ℕ) → Turn old event result new → round_of result ≡ Some asked → (i : ℕ) × IsOpener old new i
turn_opener old new event result asked turn is =
    turn_round (λ n. (i : ℕ) × IsOpener old n i) old new event result asked turn is
    (λ wall elapsed requests h.
    let some = some_opens (readied old wall elapsed) h.0 in
    let low = some.1.0 in
    (some.0, opener_is old wall elapsed asked requests some.0 (omega (arith, low)) some.1.1))

clock_opens : (old : WatchState) (wall elapsed : ℕ) (requests : List WatchRequest) (i : ℕ) (round : Option (List ℕ)) → IsRound (readied old wall elapsed).forest (readied old wall elapsed).tracks (readied old wall elapsed).clocks round → IsOpener old (sent (pressed (readied old wall elapsed) (asked_by_round round)) requests) i → is_some round ≡ true
clock_opens old wall elapsed requests i (Some asked) h opener = refl
clock_opens old wall elapsed requests i None h opener = absurd (none_opens (readied old wall elapsed) h i opener.within (opens_is old wall elapsed [] requests i opener))

pub opened_rightly : RoundLaw
opened_rightly = record {
  only = λ old turn asked h is. turn_opener old turn.state turn.event turn.result asked h.0 is;
  opens = λ old turn wall elapsed i h clock.
      clock_of (λ n w. IsOpener old n i → is_some w ≡ true) old turn.state turn.event turn.result wall elapsed h.0 clock.0 clock.1
      (λ round requests is opener. clock_opens old wall elapsed requests i round is opener);
}

-- ---- whom it names

turn_asks : (old new : WatchState) (event : WatchEvent) (result : Result WatchOutput WatchFault) (asked : List ℕ) → Turn old event result new → IsForest old.forest → round_of result ≡ Some asked → AreAsks (granted_forest new) (second new) (hoped_ends old new) asked
turn_asks old new event result asked turn forest is =
    turn_round (λ n. AreAsks (granted_forest n) (second n) (hoped_ends old n) asked) old new event result asked turn is
    (λ wall elapsed requests h.
    let r = readied old wall elapsed in
    let forest' = subst IsForest (sym (readied_forest old wall elapsed)) forest in
    subst (λ g. AreAsks g (second r) (hoped_ends old (after old wall elapsed asked requests)) asked) (sym (forest_is old wall elapsed asked requests))
    (subst (λ e. AreAsks (granted_forest r) (second r) e asked) (sym (hopes_are old wall elapsed asked requests)) (asks_hoped r forest' asked h.1)))

pub names_asks : AsksLaw
names_asks old turn asked forest h is = turn_asks old turn.state turn.event turn.result asked h.0 forest is

-- ---- what it does not depend on

-- the moment after a round is one
second_once : (es : List Entry) (margin now : ℕ) (a b : Option ℕ) → IsSecond es margin now a → IsSecond es margin now b → a ≡ b
second_once es margin now None None h k = refl
second_once es margin now None (Some u) h k = absurd (let s = k.short in let l = h k.entry in omega arith)
second_once es margin now (Some t) None h k = absurd (let s = h.short in let l = k h.entry in omega arith)
second_once es margin now (Some t) (Some u) h k =
    let a = h.earliest k.entry k.short in
    let b = k.earliest h.entry h.short in
    let m = h.moment in
    let n = k.moment in
    let same : t ≡ u = omega arith in
    ap (λ v. Some v) same

asks_once : (es : List Entry) (margin now : ℕ) (asked asked' : List ℕ) → RoundAsks es margin now asked → RoundAsks es margin now asked' → asked ≡ asked'
asks_once es margin now asked asked' h k = h.1.1 ∙ ap (asks es margin now (end_of es) now) (second_once es margin now h.0 k.0 h.1.0 k.1.0) ∙ sym k.1.1

-- nobody who is wanted is led no further, but at its top
unfixed : (e : End) (renewable top : Bool) → renewable || is_unknown e ≡ true → top ≡ false → is_known e && (not renewable || top) ≡ false
unfixed Unknown renewable top led low = refl
unfixed (At end) true true led low = absurd cc
unfixed (At end) false top led low = absurd cc
unfixed _ _ _ led low = refl

-- an entry that is hoped for and not at its top
abbrev hidden_at : WatchState → ℕ → Bool
hidden_at s i = hoped_at s i && not (track_at s i).top

hidden_unfixed : (s : WatchState) (i : ℕ) → hidden_at s i ≡ true → is_fixed (track_at s i) ≡ false
unfolding is_hoped
hidden_unfixed s i hidden =
    let x = track_at s i in
    let both = and_parts (hoped_at s i) (not x.top) hidden in
    let wanted = wants_parts x (wanted_need s i) (and_parts (is_wanted s i) (not (in_plan_at s i) || (is_unknown x.end || (is_pressed x || x.out))) both.0).0 in
    unfixed x.end x.renewable x.top wanted.0 (is_not x.top both.1)

not_hidden : (s : WatchState) (i : ℕ) → hoped_at s i ≡ false → hidden_at s i ≡ false
not_hidden s i other = ap (λ b. b && not (track_at s i).top) other

-- what the Asks take an entry for, by its parts
abbrev hoped_from : Entry → ℕ → Entry
hoped_from e to = record e { end = capped e.ceiling to }

hoped_are : (s : WatchState) (i : ℕ) → hoped_entry s i ≡ hoped_from (term_of (entry_of s i) s.clocks.broker s.clocks.wall (limit_at s i) false) (second s + lead_at s i)
unfolding seen_entry need_here term_of limit_at
hoped_are s i = refl

abbrev own_from : Entry → ℕ → ℕ → Entry
own_from e end step = record e { end = end; step = step }

own_are :
    (s : WatchState) (i : ℕ) →
    own_entry s i ≡ own_from (term_of (entry_of s i) s.clocks.broker s.clocks.wall (limit_at s i) ((track_at s i).renewable && not (track_at s i).top)) (believed (track_at s i).end) (cond (in_plan_at s i) (lead_at s i) (entry_of s i).step)
unfolding seen_entry need_here term_of limit_at
own_are s i = refl

-- an entry that opens a round is not hoped for
known_alive : (now : ℕ) (e : End) → nat_lt now (believed e) ≡ true → is_unknown e ≡ false
known_alive now Unknown alive = absurd (let l : now < 0 = grind (arith, nat_tests) in omega arith)
known_alive now _ alive = refl

unhoped : (s : WatchState) (i : ℕ) → IsFitToOpen s i → hoped_at s i ≡ false
unfolding is_hoped
unhoped s i o =
    let x = track_at s i in
    no_hope (is_wanted s i) (in_plan_at s i) (is_unknown x.end) (is_pressed x) x.out o.in_plan (known_alive (second s) x.end o.alive) o.unpressed o.unasked

-- and whoever is wanted and not hoped for is not being asked
free_of_hope : (w p u b o : Bool) → w ≡ true → w && (not p || (u || (b || o))) ≡ false → (b ≡ false) × (o ≡ false)
free_of_hope true true false false false h e = (refl, refl)
free_of_hope true true false false true h e = absurd cc
free_of_hope true true false true o h e = absurd cc
free_of_hope true true true b o h e = absurd cc
free_of_hope true false u b o h e = absurd cc
free_of_hope false p u b o h e = absurd cc

wants_of : (x y : Track) (m n : ℕ) → x.end ≡ y.end → x.renewable ≡ y.renewable → x.top ≡ y.top → x.last_try ≡ y.last_try → m ≡ n → wants x m ≡ wants y n
unfolding wants
wants_of x y m n end renewable top last same = cc

abbrev halved : Bool → ℕ → ℕ
halved b n = if b then n / 2 else n

come_are : (s : WatchState) (i : ℕ) → come_at s i ≡ nat_le (time_before (track_at s i).end (halved (has_last_try (track_at s i)) (min s.forest.margin (3 * lead_at s i / 4)))) (second s)
unfolding has_come time asking_margin own_margin
come_are s i = refl

-- two states that a clock has readied, of which the same is found
record AreReadiedSame (r q : WatchState) : Type 0 where
  pub forest : r.forest ≡ q.forest
  pub broker : r.clocks.broker ≡ q.clocks.broker
  pub wall : r.clocks.wall ≡ q.clocks.wall
  pub now : second r ≡ second q
  pub hoped : (i : ℕ) → hoped_at r i ≡ hoped_at q i
  pub hidden : (i : ℕ) → hidden_at r i ≡ hidden_at q i
  pub lead : (i : ℕ) → lead_at r i ≡ lead_at q i
  pub end : (i : ℕ) → hidden_at r i ≡ false → (track_at r i).end ≡ (track_at q i).end
  pub renewable : (i : ℕ) → hidden_at r i ≡ false → (track_at r i).renewable ≡ (track_at q i).renewable
  pub top : (i : ℕ) → hidden_at r i ≡ false → (track_at r i).top ≡ (track_at q i).top
  pub last_try : (i : ℕ) → hidden_at r i ≡ false → (track_at r i).last_try ≡ (track_at q i).last_try

module _ (r q : WatchState) (h : AreReadiedSame r q) where
  fixed_same : (i : ℕ) → is_fixed (track_at r i) ≡ is_fixed (track_at q i)
  fixed_same i =
      elim (cases_Bool (hidden_at r i)) as (λ _. is_fixed (track_at r i) ≡ is_fixed (track_at q i)) [
        | inl hidden ↦ hidden_unfixed r i hidden ∙ sym (hidden_unfixed q i (sym (h.hidden i) ∙ hidden))
        | inr other ↦
            ap₂ (λ (e : End) b. is_known e && (not b || (track_at r i).top)) (h.end i other) (h.renewable i other)
            ∙ ap (λ t. is_known (track_at q i).end && (not (track_at q i).renewable || t)) (h.top i other)
      ]

  held_same : (i : ℕ) → is_fixed (track_at q i) ≡ true → believed (track_at r i).end ≡ believed (track_at q i).end
  held_same i fixed =
      elim (cases_Bool (hidden_at r i)) as (λ _. believed (track_at r i).end ≡ believed (track_at q i).end) [
        | inl hidden ↦ absurd (let no = hidden_unfixed q i (sym (h.hidden i) ∙ hidden) in cc)
        | inr other ↦ ap believed (h.end i other)
      ]

  limits_same : (i : ℕ) → limit_at r i ≡ limit_at q i
  unfolding least_over limit_at
  limits_same i =
      least_same (λ k. is_fixed (track_at r k)) (λ k. is_fixed (track_at q k)) (λ k. believed (track_at r k).end) (λ k. believed (track_at q k).end) fixed_same held_same (chain r.forest.entries i) END_MAX
      ∙ limit_of i h.forest where
        limit_of : (i : ℕ) → r.forest ≡ q.forest → limit r.forest.entries q.tracks i ≡ limit q.forest.entries q.tracks i
        limit_of i same = ap (λ (g : Forest). limit g.entries q.tracks i) same

  entries_same : (i : ℕ) → entry_of r i ≡ entry_of q i
  entries_same i = ap (λ (g : Forest). entry_at g.entries i) h.forest

  plans_same : (i : ℕ) → in_plan_at r i ≡ in_plan_at q i
  plans_same i = plan_alike r q h.forest i (h.lead i)

  term_same : (i : ℕ) (b c : Bool) → b ≡ c → term_of (entry_of r i) r.clocks.broker r.clocks.wall (limit_at r i) b ≡ term_of (entry_of q i) q.clocks.broker q.clocks.wall (limit_at q i) c
  term_same i b c same =
      ap (λ (e : Entry). term_of e r.clocks.broker r.clocks.wall (limit_at r i) b) (entries_same i)
      ∙ ap₂ (λ o w. term_of (entry_of q i) o w (limit_at r i) b) h.broker h.wall
      ∙ ap₂ (λ n d. term_of (entry_of q i) q.clocks.broker q.clocks.wall n d) (limits_same i) same

  hoped_same : (i : ℕ) → hoped_entry r i ≡ hoped_entry q i
  hoped_same i = hoped_are r i ∙ ap₂ hoped_from (term_same i false false refl) (ap₂ (λ m n. m + n) h.now (h.lead i)) ∙ sym (hoped_are q i)

  own_same : (i : ℕ) → hoped_at r i ≡ false → own_entry r i ≡ own_entry q i
  own_same i unhoped' =
      let other = not_hidden r i unhoped' in
      let led : (track_at r i).renewable && not (track_at r i).top ≡ (track_at q i).renewable && not (track_at q i).top = ap₂ (λ b t. b && not t) (h.renewable i other) (h.top i other) in
      let step : cond (in_plan_at r i) (lead_at r i) (entry_of r i).step ≡ cond (in_plan_at q i) (lead_at q i) (entry_of q i).step =
      ap₂ (λ b n. cond b n (entry_of r i).step) (plans_same i) (h.lead i) ∙ ap (λ (e : Entry). cond (in_plan_at q i) (lead_at q i) e.step) (entries_same i) in
      own_are r i
      ∙ ap (λ (e : Entry). own_from e (believed (track_at r i).end) (cond (in_plan_at r i) (lead_at r i) (entry_of r i).step)) (term_same i _ _ led)
      ∙ ap₂ (own_from (term_of (entry_of q i) q.clocks.broker q.clocks.wall (limit_at q i) ((track_at q i).renewable && not (track_at q i).top))) (ap believed (h.end i other)) step
      ∙ sym (own_are q i)

  planned_is_same : (i : ℕ) → planned_at r i ≡ planned_at q i
  planned_is_same i =
      planned_is r i
      ∙ elim (cases_Bool (hoped_at r i)) as (λ _. cond (hoped_at r i) (hoped_entry r i) (own_entry r i) ≡ cond (hoped_at q i) (hoped_entry q i) (own_entry q i)) [
        | inl hoped ↦ cond-true (hoped_at r i) (hoped_entry r i) (own_entry r i) hoped ∙ hoped_same i ∙ sym (cond-true (hoped_at q i) (hoped_entry q i) (own_entry q i) (sym (h.hoped i) ∙ hoped))
        | inr other ↦ cond-false (hoped_at r i) (hoped_entry r i) (own_entry r i) other ∙ own_same i other ∙ sym (cond-false (hoped_at q i) (hoped_entry q i) (own_entry q i) (sym (h.hoped i) ∙ other))
      ]
      ∙ sym (planned_is q i)

  views_same : plan_view r.forest r.tracks r.clocks ≡ plan_view q.forest q.tracks q.clocks
  views_same = ap₂ (λ (f : ℕ → Entry) (g : Forest). map f (range_with_len 0 (length g.entries))) (fun_ext planned_is_same) h.forest

  names_same : (asked asked' : List ℕ) → RoundAsks (plan_view r.forest r.tracks r.clocks) r.forest.margin (second r) asked → RoundAsks (plan_view q.forest q.tracks q.clocks) q.forest.margin (second q) asked' → asked ≡ asked'
  names_same asked asked' these those =
      asks_once (plan_view q.forest q.tracks q.clocks) q.forest.margin (second q) asked asked'
      (subst (λ es. RoundAsks es q.forest.margin (second q) asked) views_same (subst (λ (g : Forest). RoundAsks (plan_view r.forest r.tracks r.clocks) g.margin (second q) asked) h.forest (subst (λ n. RoundAsks (plan_view r.forest r.tracks r.clocks) r.forest.margin n asked) h.now these)))
      those

  -- and whether a round opens
  cuts_same : IsForest r.forest → (i : ℕ) → planned_need r i ≡ planned_need q i
  cuts_same forest i =
      sym (needs_view r forest i) ∙ ap₂ (λ es n. carried es n i) views_same h.now ∙ needs_view q (subst IsForest h.forest forest) i

  frees_same : (i : ℕ) → free_need r.forest.entries r.clocks i ≡ free_need q.forest.entries q.clocks i
  frees_same i = free_alike r q h.forest h.broker h.wall i ∙ ap (λ n. free_by q.forest.entries q.clocks.broker q.clocks.wall n i) h.now ∙ sym (free_is q i)

  tries_same : (i : ℕ) → hidden_at r i ≡ false → has_last_try (track_at r i) ≡ has_last_try (track_at q i)
  tries_same i other = ap₂ (λ t l. t && l) (h.top i other) (h.last_try i other)

  needs_same : IsForest r.forest → (i : ℕ) → hidden_at r i ≡ false → wanted_need r i ≡ wanted_need q i
  unfolding need_of
  needs_same forest i other =
      ap (λ b. if b then free_need r.forest.entries r.clocks i else planned_need r i) (tries_same i other)
      ∙ ap₂ (λ m n. if has_last_try (track_at q i) then m else n) (frees_same i) (cuts_same forest i)

  comes_same : (i : ℕ) → hidden_at r i ≡ false → come_at r i ≡ come_at q i
  comes_same i other =
      come_are r i ∙ ap₂ (λ (e : End) n. nat_le (time_before e (halved (has_last_try (track_at r i)) (min r.forest.margin (3 * n / 4)))) (second r)) (h.end i other) (h.lead i)
      ∙ ap (λ b. nat_le (time_before (track_at q i).end (halved b (min r.forest.margin (3 * lead_at q i / 4)))) (second r)) (tries_same i other)
      ∙ ap₂ (λ (g : Forest) t. nat_le (time_before (track_at q i).end (halved (has_last_try (track_at q i)) (min g.margin (3 * lead_at q i / 4)))) t) h.forest h.now ∙ sym (come_are q i)

  opens_on : IsForest r.forest → (i : ℕ) → opens_at r i ≡ true → opens_at q i ≡ true
  unfolding is_hoped
  opens_on forest i opens' =
      let x = track_at q i in
      let o = open_parts r i opens' in
      let none = unhoped r i o in
      let other = not_hidden r i none in
      let wanted : is_wanted q i ≡ true =
      sym (wants_of (track_at r i) x (wanted_need r i) (wanted_need q i) (h.end i other) (h.renewable i other) (h.top i other) (h.last_try i other) (needs_same forest i other)) ∙ o.wanted in
      let free = free_of_hope (is_wanted q i) (in_plan_at q i) (is_unknown x.end) (is_pressed x) x.out wanted (sym (h.hoped i) ∙ none) in
      opens_by q i (
      record {
        wanted = wanted;
        come = sym (comes_same i other) ∙ o.come;
        unpressed = free.0;
        unasked = free.1;
        in_plan = sym (plans_same i) ∙ o.in_plan;
        alive = sym (ap₂ (λ t (e : End). nat_lt t (believed e)) h.now (h.end i other)) ∙ o.alive;
      }
      )

same_back : (r q : WatchState) → AreReadiedSame r q → AreReadiedSame q r
same_back r q h = record {
  forest = sym h.forest;
  broker = sym h.broker;
  wall = sym h.wall;
  now = sym h.now;
  hoped = λ i. sym (h.hoped i);
  hidden = λ i. sym (h.hidden i);
  lead = λ i. sym (h.lead i);
  end = λ i other. sym (h.end i (h.hidden i ∙ other));
  renewable = λ i other. sym (h.renewable i (h.hidden i ∙ other));
  top = λ i other. sym (h.top i (h.hidden i ∙ other));
  last_try = λ i other. sym (h.last_try i (h.hidden i ∙ other));
}

none_opens_on : (r q : WatchState) → AreReadiedSame r q → IsForest r.forest → opens_some r.forest r.tracks r.clocks ≡ true → opens_some q.forest q.tracks q.clocks ≡ false → ⊥
none_opens_on r q h forest some none =
    let opener = some_opens r some in
    let low = opener.1.0 in
    let count = ap (λ (g : Forest). length g.entries) h.forest in
    none_opens q none opener.0 (omega (arith, low, count)) (opens_on r q h forest opener.0 opener.1.1)

rounds_same :
    (r q : WatchState) → AreReadiedSame r q → IsForest r.forest → (round round' : Option (List ℕ)) → IsRound r.forest r.tracks r.clocks round → IsRound q.forest q.tracks q.clocks round' → round ≡ round'
rounds_same r q h forest None None these those = refl
rounds_same r q h forest None (Some asked') these those = absurd (none_opens_on q r (same_back r q h) (subst IsForest h.forest forest) those.0 these)
rounds_same r q h forest (Some asked) None these those = absurd (none_opens_on r q h forest these.0 those)
rounds_same r q h forest (Some asked) (Some asked') these those = ap (λ is. Some is) (names_same r q h asked asked' these.1 those.1)

readied_same :
    (old : WatchState) (wall elapsed : ℕ) (asked : List ℕ) (requests : List WatchRequest) (old' : WatchState) (wall' elapsed' : ℕ) (asked' : List ℕ) (requests' : List WatchRequest) →
    FindAllSame old (after old wall elapsed asked requests) old' (after old' wall' elapsed' asked' requests') → AreReadiedSame (readied old wall elapsed) (readied old' wall' elapsed')
readied_same old wall elapsed asked requests old' wall' elapsed' asked' requests' h =
    let r = readied old wall elapsed in
    let q = readied old' wall' elapsed' in
    let a = mid_bears r asked requests in
    let b = mid_bears q asked' requests' in
    let w = hidden_is old wall elapsed asked requests in
    let v = hidden_is old' wall' elapsed' asked' requests' in
    record {
      forest = h.forest;
      broker = h.broker;
      wall = h.wall;
      now = h.now;
      hoped = λ i. sym (hoped_is old wall elapsed asked requests i) ∙ (h.each i).hoped ∙ hoped_is old' wall' elapsed' asked' requests' i;
      hidden = λ i. sym (w i) ∙ (h.each i).hidden ∙ v i;
      lead = λ i. sym (lead_is old wall elapsed asked requests i) ∙ (h.each i).lead ∙ lead_is old' wall' elapsed' asked' requests' i;
      end = λ i other. sym (ap (λ (x : Track). x.end) (a i)) ∙ (h.each i).end (w i ∙ other) ∙ ap (λ (x : Track). x.end) (b i);
      renewable = λ i other. sym (ap (λ (x : Track). x.renewable) (a i)) ∙ (h.each i).renewable (w i ∙ other) ∙ ap (λ (x : Track). x.renewable) (b i);
      top = λ i other. sym (ap (λ (x : Track). x.top) (a i)) ∙ (h.each i).top (w i ∙ other) ∙ ap (λ (x : Track). x.top) (b i);
      last_try = λ i other. sym (ap (λ (x : Track). x.last_try) (a i)) ∙ (h.each i).last_try (w i ∙ other) ∙ ap (λ (x : Track). x.last_try) (b i);
    }

pub hope_hides : HopeLaw
hope_hides old old' turn turn' wall elapsed wall' elapsed' forest h h' clock clock' =
    let r = readied old wall elapsed in
    let q = readied old' wall' elapsed' in
    clock_of (λ n w. FindAllSame old n old' turn'.state → w ≡ round_of turn'.result) old turn.state turn.event turn.result wall elapsed h.0 clock.0 clock.1
    (λ round requests is.
    clock_of (λ n w. FindAllSame old (after old wall elapsed (asked_by_round round) requests) old' n → round ≡ w) old' turn'.state turn'.event turn'.result wall' elapsed' h'.0 clock'.0 clock'.1
    (λ round' requests' is' same.
    rounds_same r q (readied_same old wall elapsed (asked_by_round round) requests old' wall' elapsed' (asked_by_round round') requests' same) (subst IsForest (sym (readied_forest old wall elapsed)) forest) round round' is is'))
