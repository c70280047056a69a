-- CalmGrant: a renewal that is granted by the rule keeps a watch on its plan. For the law of calm.
use Rattle.std.proofs.Common.{◌≡◌, ◌≢◌, ◌⊎◌, ◌∙◌, ℕ, ◌+◌, ◌<◌, Bool, true, false, cond, not, ◌&&◌, ◌||◌, ◌==◌, if◌then◌else◌, List, [], ◌∷◌, Option, Some, None, filter, map, min, nat_le, nat_lt, refl, sym, ap, ap₂, subst, arith, inl, inr}
use Rattle.std.proofs.lemmas.Bool.Decides.{nat_tests}
use Rattle.std.proofs.lemmas.Bool.{and_parts, cases_Bool, cases_eq, cases_lt, cond-false, cond-true, or_left}
use Rattle.std.proofs.lemmas.List.{get_or-set_other, get_or-set_same, length-set}
use Rattle.std.specs.List.{find, list_any}
use Rattle.plan_forest.specs.{Forest.Forest, Renewal.capped, Renewal.renewal}
use Rattle.plan_forest.proofs.Carrying.{or_parts}
use Rattle.plan_rule.specs.declared.wake.Wake.{Wake}
use Rattle.watch_machine.specs.{declared.event.WatchReply.TheVariants.Told, declared.lanes.LaneAnswer.LaneAnswer, declared.lanes.Out.Out, declared.track.End.End, declared.track.Grant.Grant, declared.track.Track.Track}
use Rattle.watch_machine.specs.{declared.track.Try.Try, Beginning.owed, Clocks.sec, Margins.lead, Refusal.is_same, Refusal.request_out}
use Rattle.watch_machine.specs.declared.event.Operation.TheVariants.{Look, Renew}
use Rattle.watch_machine.specs.declared.track.End.TheVariants.{Unknown, At, Never}
use Rattle.watch_machine.specs.Answers.{failing, heard, lane_freed, noted, replied, with_track, without_request}
use Rattle.watch_machine.specs.Renewed.{from_base, from_try, granted, granted_from, granted_try, is_no_further, renewed_track, state_renewed, time_from}
use Rattle.watch_machine.specs.State.{WatchState, attempt_at, entry_of, no_track, track_at}
use Rattle.watch_machine.specs.Wanted.{believed, is_fixed, is_wanted, seen_entry}
use Rattle.watch_machine.proofs.{Cases.if_both, Within.out_entry}
use Rattle.watch_laws.specs.Calm.{GrantIsByRule, ends, in_plan_at, lead_at, terms}
use Rattle.watch_laws.proofs.{CalmClock.keepable_of, Foreseen.wanted_short}
use Rattle.watch_laws.proofs.Calming.{AreAlike, IsIdle, entry_step, forest_alike, idle_on, kept_same, plan_alike}
use Rattle.watch_laws.proofs.OnPlan.{Goes, IsTried, need_alike, tried_on}

-- ---- what a grant comes to

-- the second from which a grant of so many seconds to this request counts, and the end to which it leads
abbrev counts_from : WatchState → Out → ℕ → ℕ
counts_from s q seconds = sec (from_try s.forest.margin (entry_of s q.entry).step seconds s.clocks.at q.since (attempt_at s q.entry))

abbrev end_granted : WatchState → Out → ℕ → ℕ
end_granted s q seconds = counts_from s q seconds + seconds

-- by the rule it counts from the second of the round
from_round :
    (margin step seconds at since base opened : ℕ) → sec base ≡ opened → (sec since ≡ opened) ⊎ (sec at + 1 < time_from margin step seconds opened) →
    sec (from_base margin step seconds at since (Some base)) ≡ opened
from_round margin step seconds at since base opened is (inl same) = if_both (λ n. sec n ≡ opened) (nat_lt (sec at + 1) (time_from margin step seconds (sec base))) base since is same
from_round margin step seconds at since base opened is (inr ahead) =
    let late : nat_lt (sec at + 1) (time_from margin step seconds opened) ≡ true = grind (arith, nat_tests, ahead) in
    let test : nat_lt (sec at + 1) (time_from margin step seconds (sec base)) ≡ true = subst (λ n. nat_lt (sec at + 1) (time_from margin step seconds n) ≡ true) (sym is) late in
    ap sec (cond-true (nat_lt (sec at + 1) (time_from margin step seconds (sec base))) base since test) ∙ is

counts_is :
    (s : WatchState) (e : ℕ → ℕ) (last : Wake) (ts : List ℕ) (q : Out) (seconds : ℕ) → IsTried s e last ts q.entry → GrantIsByRule s last.at q.entry seconds q → counts_from s q seconds ≡ last.at
counts_is s e last ts q seconds tried rule =
    let margin = s.forest.margin in
    let step = (entry_of s q.entry).step in
    ap (λ o. sec (from_try margin step seconds s.clocks.at q.since o)) tried.is ∙ ap (λ b. sec (from_base margin step seconds s.clocks.at q.since b)) tried.base_is
    ∙ from_round margin step seconds s.clocks.at q.since tried.base last.at tried.base_now rule.in_time

-- a grant by the rule is of a whole step, or up to the ceiling
by_rule : (ceiling : Option ℕ) (now step seconds : ℕ) → now + seconds ≡ capped ceiling (now + step) → (seconds ≡ step) ⊎ ((seconds < step) × (ceiling ≡ Some (now + seconds)))
unfolding capped
by_rule None now step seconds is = inl (omega arith)
by_rule (Some c) now step seconds is =
    elim (cases_lt c (now + step)) as (λ _. (seconds ≡ step) ⊎ ((seconds < step) × (Some c ≡ Some (now + seconds)))) [
      | inl low ↦ (let e : c ≡ now + seconds = omega arith in inr (omega arith, ap (λ n. Some n) e))
      | inr high ↦ inl (omega arith)
    ]

not_topped : (step seconds from : ℕ) (before : Option Grant) (end : End) → lead step before ≡ step → is_no_further step seconds from before end ≡ false
not_topped step seconds from None end h = refl
not_topped step seconds from (Some before) (At end) h =
    let more : nat_lt before.seconds step ≡ false = (let l : min step before.seconds ≡ step = h in grind (arith, nat_tests)) in
    never (nat_le (sec before.from + 2) (sec from)) (nat_lt before.seconds step) (nat_lt seconds step && nat_le (sec from + seconds) (min end (sec before.from + before.seconds) + 1)) more where
      never : (a b c : Bool) → b ≡ false → a && (b && c) ≡ false
      never true true c h = absurd cc
      never true false c h = refl
      never false b c h = refl
not_topped step seconds from (Some before) _ h = refl

pub no_try : (at end : ℕ) (owes : Bool) (o : Option Try) → sec at < end → owes ≡ false → granted_try at owes end o ≡ None
no_try at end owes None ahead none = refl
no_try at end owes (Some t) ahead none =
    let test : nat_lt (sec at) end ≡ true = grind (arith, nat_tests) in
    cond-true (nat_lt (sec at) end) (if owes then Some (owed (at + 30000)) else None) (Some (failing t Look false false)) test ∙ cond-false owes (Some (owed (at + 30000))) None none

-- the track of an entry that was granted a renewal
record IsGranted (s : WatchState) (x : Track) (i end seconds : ℕ) : Type 0 where
  pub end' : x.end ≡ At end
  pub renewable : x.renewable ≡ true
  pub top : x.top ≡ false
  pub seconds' : lead (entry_of s i).step x.grant ≡ min (entry_of s i).step seconds
  pub owes : x.owes ≡ false
  pub attempt : x.attempt ≡ None
  pub out : x.out ≡ false

-- the track after a grant to the request q
abbrev granted_track : WatchState → Out → ℕ → Track
granted_track s q seconds = granted s.forest.margin (entry_of s q.entry).step s.clocks.at q.since seconds true (track_at s q.entry)

is_granted : (s : WatchState) (e : ℕ → ℕ) (last : Wake) (ts : List ℕ) (q : Out) (seconds : ℕ) → IsTried s e last ts q.entry → end_granted s q seconds ≡ e q.entry → IsGranted s (granted_track s q seconds) q.entry (e q.entry) seconds
unfolding granted_from
is_granted s e last ts q seconds tried is =
    let i = q.entry in
    let step = (entry_of s i).step in
    let from = from_try s.forest.margin step seconds s.clocks.at q.since (attempt_at s i) in
    let a = tried.ahead in
    let more = tried.grows in
    record {
      end' = ap (λ n. At n) is;
      renewable = refl;
      top = not_topped step seconds from (track_at s i).grant (track_at s i).end tried.led;
      seconds' = refl;
      owes = tried.owes;
      attempt = no_try s.clocks.at (end_granted s q seconds) (track_at s i).owes (attempt_at s i) (omega arith) tried.owes;
      out = refl;
    }

not_fixed : (x : Track) → x.renewable ≡ true → x.top ≡ false → is_fixed x ≡ false
not_fixed x renewable top = by x.end where
  by : (e : End) → is_fixed (record x { end = e }) ≡ false
  by Unknown = refl
  by (At end) = ap₂ (λ r t. not r || t) renewable top
  by Never = refl

-- ---- the state after it

-- the broker is there, and all hear of it
replied_there : (s : WatchState) (q : Out) (seconds : ℕ) (date : Option ℕ) → s.presence.away ≡ false → replied s q (Told seconds true date) ≡ record s { out = map heard (without_request q.entry s.out) }
replied_there s q seconds date there =
    let free = lane_freed s q in
    let all : WatchState = record free { out = map heard free.out } in
    cond-false s.presence.away _ all there

-- those whom nobody has answered now
left_out : (xs : List Out) (i j : ℕ) → list_any (λ (r : Out). r.entry == i) (map heard (without_request j xs)) ≡ true → (i ≢ j) × (list_any (λ (r : Out). r.entry == i) xs ≡ true)
unfolding without_request
left_out [] i j h = absurd cc
left_out (x ∷ xs) i j h =
    let kept = filter (λ (r : Out). not (r.entry == j)) xs in
    elim (cases_Bool (x.entry == j)) as (λ _. (i ≢ j) × ((x.entry == i) || list_any (λ (r : Out). r.entry == i) xs ≡ true)) [
      | inl same ↦
          let rest = left_out xs i j (sym (ap (λ b. list_any (λ (r : Out). r.entry == i) (map heard (cond (not b) (x ∷ kept) kept))) same) ∙ h) in
          (rest.0, later (x.entry == i) (list_any (λ (r : Out). r.entry == i) xs) rest.1)
      | inr other ↦
          or_parts (x.entry == i) (list_any (λ (r : Out). r.entry == i) (map heard kept)) ((i ≢ j) × ((x.entry == i) || list_any (λ (r : Out). r.entry == i) xs ≡ true))
          (sym (ap (λ b. list_any (λ (r : Out). r.entry == i) (map heard (cond (not b) (x ∷ kept) kept))) other) ∙ h)
          (λ here. ((λ same. (let bad : true ≡ false = sym (subst (λ k. (x.entry == k) ≡ true) same here) ∙ other in cc)), ap (λ b. b || list_any (λ (r : Out). r.entry == i) xs) here))
          (λ there. (let rest = left_out xs i j there in (rest.0, later (x.entry == i) (list_any (λ (r : Out). r.entry == i) xs) rest.1)))
    ] where
      later : (a b : Bool) → b ≡ true → a || b ≡ true
      later true b h = refl
      later false b h = h

module _ (s : WatchState) (g : Forest) (e : ℕ → ℕ) (last : Wake) (ts : List ℕ) (goes : Goes s g e last ts) (q : Out) (seconds : ℕ) (tried : IsTried s e last ts q.entry) (rule : GrantIsByRule s last.at q.entry seconds q) (answers : List LaneAnswer) where
  abbrev j : ℕ
  j = q.entry

  abbrev x : Track
  x = granted_track s q seconds

  abbrev pub granted_state : WatchState
  granted_state = record (with_track s j x) { out = map heard (without_request j s.out); answers = answers }

  abbrev new : WatchState
  new = granted_state

  counted : end_granted s q seconds ≡ last.at + seconds
  counted = ap (λ n. n + seconds) (counts_is s e last ts q seconds tried rule)

  granted_is : IsGranted s x j (e j) seconds
  granted_is = is_granted s e last ts q seconds tried (counted ∙ rule.leads ∙ sym tried.gains)

  own : track_at new j ≡ x
  own = get_or-set_same s.tracks j x no_track (let c = goes.count in let w = tried.within in omega (arith, c, w))

  other : (i : ℕ) → i ≢ j → track_at new i ≡ track_at s i
  other i apart = get_or-set_other s.tracks j i x no_track apart

  field : {X : Type 0} (f : Track → X) → f x ≡ f (track_at s j) → (i : ℕ) → f (track_at new i) ≡ f (track_at s i)
  field f same i =
      elim (cases_eq i j) as (λ _. f (track_at new i) ≡ f (track_at s i)) [
        | inl here ↦ subst (λ k. f (track_at new k) ≡ f (track_at s k)) (sym here) (ap f own ∙ same)
        | inr there ↦ ap f (other i there)
      ]

  fixed_before : is_fixed (track_at s j) ≡ false
  fixed_before = not_fixed (track_at s j) tried.renewable tried.top

  alike : AreAlike new s
  alike = record {
    forest = refl;
    broker = refl;
    wall = refl;
    renewable = field (λ (y : Track). y.renewable) (granted_is.renewable ∙ sym tried.renewable);
    top = field (λ (y : Track). y.top) (granted_is.top ∙ sym tried.top);
    fixed = field is_fixed (not_fixed x granted_is.renewable granted_is.top ∙ sym fixed_before);
    held = λ i fixed. ap (λ (y : Track). believed y.end) (other i (λ same. absurd (let f : is_fixed (track_at s j) ≡ true = subst (λ k. is_fixed (track_at s k) ≡ true) same fixed in let b = fixed_before in cc)));
  }

  new_end : ends new j ≡ e j
  unfolding ends
  new_end = ap (λ (y : Track). believed y.end) own ∙ ap believed granted_is.end'

  new_lead : lead_at new j ≡ min (entry_of s j).step seconds
  new_lead = ap (λ (y : Track). lead (entry_of s j).step y.grant) own ∙ granted_is.seconds'

  step_is : (terms s j).step ≡ (entry_of s j).step
  unfolding terms seen_entry
  step_is = refl

  none : attempt_at new j ≡ None
  none = ap (λ (y : Track). y.attempt) own ∙ granted_is.attempt

  idle_own : IsIdle new e j
  unfolding renewal
  idle_own =
      let now = last.at in
      let from : end_granted s q seconds ≡ now + seconds = counted in
      let to : end_granted s q seconds ≡ renewal (terms s j) now = counted ∙ rule.leads in
      let is : now + seconds ≡ capped (terms s j).ceiling (now + (entry_of s j).step) = sym from ∙ to ∙ ap (λ n. capped (terms s j).ceiling (now + n)) step_is in
      let need = need_alike new s goes.forest goes.forest alike refl j in
      let owes = ap (λ (y : Track). y.owes) own ∙ granted_is.owes in
      let out = ap (λ (y : Track). y.out) own ∙ granted_is.out in
      let end : e j ≡ now + seconds = tried.gains ∙ sym to ∙ from in
      let end' = new_end in
      let led = new_lead in
      let top = ap (λ (y : Track). y.top) own ∙ granted_is.top in
      elim (by_rule (terms s j).ceiling now (entry_of s j).step seconds is) as (λ _. IsIdle new e j) [
        | inl whole ↦
            let same_lead : lead_at new j ≡ (entry_of s j).step = omega arith in
            let planned' : in_plan_at new j ≡ true = plan_alike new s refl j (same_lead ∙ sym tried.led) ∙ tried.in_plan in
            record {
              none = none;
              end = new_end;
              owes = owes;
              out = out;
              in_plan = λ wanted. planned';
              led = λ wanted. same_lead ∙ sym (entry_step new s refl j);
              untopped = λ wanted. top;
            }
        | inr short ↦
            let c = now + seconds in
            let high = tried.more c short.1 in
            let less = short.0 in
            let never : is_wanted new j ≡ true → ⊥ = λ wanted. (let w = wanted_short new j wanted top in omega arith) in
            record {
              none = none;
              end = new_end;
              owes = owes;
              out = out;
              in_plan = λ wanted. absurd (never wanted);
              led = λ wanted. absurd (never wanted);
              untopped = λ wanted. top;
            }
      ]

  each_new : (i : ℕ) → IsIdle new e i ⊎ IsTried new e last ts i
  each_new i =
      elim (cases_eq i j) as (λ _. IsIdle new e i ⊎ IsTried new e last ts i) [
        | inl here ↦ inl (subst (IsIdle new e) (sym here) idle_own)
        | inr there ↦ elim (goes.each i) as (λ _. IsIdle new e i ⊎ IsTried new e last ts i) [
          | inl idle ↦
              inl (idle_on new s e goes.forest goes.forest alike (omega arith) (keepable_of s g e last ts goes) i (kept_same (track_at new i) (track_at s i) (other i there)) (ap (λ (y : Track). y.out) (other i there) ∙ idle.out) idle)
          | inr tried' ↦ inr (tried_on new s e last ts goes.forest goes.forest alike (omega arith) i (kept_same (track_at new i) (track_at s i) (other i there)) tried'.ahead tried')
        ]
      ]

  pub granted_goes : Goes new g e last ts
  unfolding without_request
  granted_goes = record {
    forest = goes.forest;
    count = length-set s.tracks j x ∙ goes.count;
    begun = goes.begun;
    there = goes.there;
    same = forest_alike new s alike ∙ goes.same;
    plan = goes.plan;
    each = each_new;
    waits = λ i waiting none'. (let l = left_out s.out i j waiting in goes.waits i l.1 (sym (ap (λ (y : Track). y.attempt) (other i l.0)) ∙ none'));
  }

-- a request that is found is among those that are out
found_any : (test : Out → Bool) (out : List Out) (i : ℕ) (q : Out) → ((r : Out) → test r ≡ true → r.entry == i ≡ true) → find test out ≡ Some q → list_any (λ (r : Out). r.entry == i) out ≡ true
found_any test [] i q own is = absurd cc
found_any test (r ∷ out) i q own is =
    elim (cases_Bool (test r)) [
      | inl passes ↦ or_left (r.entry == i) (list_any (λ (x : Out). x.entry == i) out) (own r passes)
      | inr fails ↦ later (r.entry == i) (list_any (λ (x : Out). x.entry == i) out) (found_any test out i q own (sym (cond-false (test r) (Some r) (find test out) fails) ∙ is))
    ] where
      later : (a b : Bool) → b ≡ true → a || b ≡ true
      later true b h = refl
      later false b h = h

asked_any : (out : List Out) (i : ℕ) (q : Out) → request_out out i Renew ≡ Some q → list_any (λ (r : Out). r.entry == i) out ≡ true
unfolding request_out
asked_any out i q is = found_any (λ (r : Out). r.entry == i && is_same r.operation Renew) out i q (λ r passes. (and_parts (r.entry == i) (is_same r.operation Renew) passes).0) is

-- the state after an answer by the rule
pub answer_goes :
    (s : WatchState) (g : Forest) (e : ℕ → ℕ) (last : Wake) (ts : List ℕ) → Goes s g e last ts → (q : Out) (i seconds : ℕ) (date : Option ℕ) → request_out s.out i Renew ≡ Some q →
    GrantIsByRule s last.at i seconds q → Goes (replied (state_renewed (noted s q (Told seconds true date)) q (Told seconds true date)) q (Told seconds true date)) g e last ts
unfolding renewed_track
answer_goes s g e last ts goes q i seconds date is rule =
    let own : q.entry ≡ i = out_entry s.out i Renew q is in
    let named : list_any (λ (r : Out). r.entry == q.entry) s.out ≡ true = subst (λ k. list_any (λ (r : Out). r.entry == k) s.out ≡ true) (sym own) (asked_any s.out i q is) in
    let rule' = subst (λ k. GrantIsByRule s last.at k seconds q) (sym own) rule in
    let tried : IsTried s e last ts q.entry = elim (goes.each q.entry) as (λ _. IsTried s e last ts q.entry) [
      | inl idle ↦ absurd (goes.waits q.entry named idle.none)
      | inr tried' ↦ tried'
    ] in
    let after = state_renewed (noted s q (Told seconds true date)) q (Told seconds true date) in
    subst (λ n. Goes n g e last ts) (sym (replied_there after q seconds date goes.there)) (granted_goes s g e last ts goes q seconds tried rule' after.answers)
