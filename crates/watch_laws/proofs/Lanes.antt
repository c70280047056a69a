-- Lanes: what a turn makes of the requests that are out, and of the entries that wait. For the law of outages.
use Rattle.std.proofs.Common.{◌≡◌, ◌≢◌, ◌⊎◌, ◌∙◌, ℕ, ◌-◌, ◌<◌, ◌≤◌, Bool, true, false, not, ◌&&◌, ◌||◌, ◌==◌, if◌then◌else◌, List, [], ◌∷◌, ◌++◌, Option, Some, None, All, Result, Ok, Err, filter, get_or, length, map, nat_le, refl, sym, ap, subst, arith, inl, inr}
use Rattle.std.proofs.lemmas.Bool.{and_from, and_parts, cases_Bool, cond-false, cond-true, eqb-true}
use Rattle.std.proofs.lemmas.List.Elements.{All-append, All-cons, All-filter, All-head, All-map, All-nil, All-tail, All-weaker}
use Rattle.std.specs.List.{list_any}
use Rattle.watch_machine.specs.{declared.command.WatchCommand.WatchCommand, declared.command.WatchOutput.WatchOutput, declared.command.WatchRequest.WatchRequest, declared.event.WatchEvent.WatchEvent, declared.event.WatchReply.WatchReply}
use Rattle.watch_machine.specs.{declared.event.WatchTerms.WatchTerms, declared.fault.WatchFault.WatchFault, declared.lanes.Out.Out, declared.lanes.Presence.Presence, declared.track.Track.Track, Clocks.sec, History.Turn, Lines.is_due}
use Rattle.watch_machine.specs.{Looked.looked, Press.pressed, Press.pressed_alone, Refusal.request_out, Renewed.state_renewed, Round.asked_by_round as round_of, Settling.is_real, Wait.wait}
use Rattle.watch_machine.specs.declared.command.WatchCommand.TheVariants.{Go, Taken}
use Rattle.watch_machine.specs.declared.event.WatchEvent.TheVariants.{Clock, Looked, Renewed}
use Rattle.watch_machine.specs.declared.event.Operation.TheVariants.{Look, Renew}
use Rattle.watch_machine.specs.Answers.{answers_all, heard, lane_freed, noted, replied, silent, without_request}
use Rattle.watch_machine.specs.Sending.{out_at, sent, sent_in}
use Rattle.watch_machine.specs.State.{WatchState, track_at, track_in}
use Rattle.watch_machine.specs.Step.{Step, StepClock, StepCommand, StepLooked, StepRenewed, readied}
use Rattle.watch_machine.proofs.{Cases.if_both, Cases.not_both, Written.each_length}
use Rattle.watch_laws.specs.Outage.{Outage, is_request_served, is_request_whole, is_tried}
use Rattle.watch_laws.proofs.{Alone.IsAlone, Alone.flag, Clocking.refused_stays, Counting.no_lane, Owed.AllTry, Topping.readied_count}
use Rattle.watch_laws.proofs.Going.{Goes, entry_by, goes, request_at}
use Rattle.watch_laws.proofs.Spacing.{free_of, looked_out, mid_flag, passed_over, readied_out, replied_out, same_index, went}

-- a test of a request by its entry and by when it went out
abbrev pub passes : (ℕ → ℕ → Bool) → Out → Bool
passes f q = f q.entry q.since

-- what of the requests that are out passes was out, or goes out now of an entry that was not out
abbrev pub Sends : WatchState → WatchState → ℕ → Type 0
Sends old new n = (f : ℕ → ℕ → Bool) → list_any (passes f) new.out ≡ true → (list_any (passes f) old.out ≡ true) ⊎ ((k : ℕ) × ((f k new.clocks.at ≡ true) × ((k < n) × ((track_at old k).out ≡ false))))

-- an answer leaves some of them
or_left : (a b : Bool) → a ≡ true → a || b ≡ true
or_left true b h = refl
or_left false b h = absurd cc

or_more : (a b c : Bool) → (b ≡ true → c ≡ true) → a || b ≡ true → a || c ≡ true
or_more true b c more h = refl
or_more false b c more h = more h

or_last : (a b : Bool) → b ≡ true → a || b ≡ true
or_last true b h = refl
or_last false b h = h

kept_or : (b a c d : Bool) (k m : Bool) → (b ≡ true → k ≡ (a || c)) → (b ≡ false → k ≡ c) → (c ≡ true → d ≡ true) → k ≡ true → a || d ≡ true
kept_or true a c d k m first last more h = or_more a c d more (sym (first refl) ∙ h)
kept_or false a c d k m first last more h = or_last a d (more (sym (last refl) ∙ h))

left_any : (f : ℕ → ℕ → Bool) (e : ℕ) (out : List Out) → list_any (passes f) (without_request e out) ≡ true → list_any (passes f) out ≡ true
unfolding without_request
left_any f e [] h = absurd cc
left_any f e (q ∷ out) h =
    let rest = filter (λ (r : Out). not (r.entry == e)) out in
    let b = not (q.entry == e) in
    kept_or b (passes f q) (list_any (passes f) rest) (list_any (passes f) out) (list_any (passes f) (if b then q ∷ rest else rest)) b
    (λ yes'. ap (list_any (passes f)) (cond-true b (q ∷ rest) rest yes')) (λ no'. ap (list_any (passes f)) (cond-false b (q ∷ rest) rest no')) (left_any f e out) h

heard_any : (f : ℕ → ℕ → Bool) (out : List Out) → list_any (passes f) (map heard out) ≡ list_any (passes f) out
heard_any f [] = refl
heard_any f (q ∷ out) = ap (λ b. passes f q || b) (heard_any f out)

pub replied_any : (f : ℕ → ℕ → Bool) (s : WatchState) (q : Out) (reply : WatchReply) → list_any (passes f) (replied s q reply).out ≡ true → list_any (passes f) s.out ≡ true
replied_any f s q reply =
    let free = lane_freed s q in
    let P : WatchState → Type 0 = λ t. list_any (passes f) t.out ≡ true → list_any (passes f) s.out ≡ true in
    let left = left_any f q.entry s.out in
    let hears : list_any (passes f) (map heard (without_request q.entry s.out)) ≡ true → list_any (passes f) s.out ≡ true = λ h. left (sym (heard_any f (without_request q.entry s.out)) ∙ h) in
    if_both P (is_real reply) (answers_all free) (if q.heard then free else silent free)
    (if_both P s.presence.away _ _ hears hears) (if_both P q.heard free (silent free) left (if_both P s.presence.away _ _ left left))

-- those of another entry all remain
abbrev pub is_of : ℕ → (ℕ → Bool) → Out → Bool
is_of i test q = q.entry == i && test q.since

kept_any : (i e : ℕ) (test : ℕ → Bool) (out : List Out) → e ≢ i → list_any (is_of i test) out ≡ true → list_any (is_of i test) (without_request e out) ≡ true
unfolding without_request
kept_any i e test [] apart h = absurd cc
kept_any i e test (q ∷ out) apart h =
    let rest = filter (λ (r : Out). not (r.entry == e)) out in
    elim (cases_Bool (q.entry == e)) as (λ _. list_any (is_of i test) (if not (q.entry == e) then q ∷ rest else rest) ≡ true) [
      | inl gone ↦
          let other : (q.entry == i) ≡ false = by (q.entry == i) (λ is. apart (sym (eqb-true q.entry e gone) ∙ eqb-true q.entry i is)) in
          ap (λ b. list_any (is_of i test) (if not b then q ∷ rest else rest)) gone ∙ kept_any i e test out apart (sym (ap (λ b. (b && test q.since) || list_any (is_of i test) out) other) ∙ h)
      | inr kept ↦
          ap (λ b. list_any (is_of i test) (if not b then q ∷ rest else rest)) kept
          ∙ or_more (is_of i test q) (list_any (is_of i test) out) (list_any (is_of i test) rest) (kept_any i e test out apart) h
    ] where
      by : (b : Bool) → (b ≡ true → ⊥) → b ≡ false
      by true no' = absurd (no' refl)
      by false no' = refl

pub replied_lane : (i : ℕ) (test : ℕ → Bool) (s : WatchState) (q : Out) (reply : WatchReply) → q.entry ≢ i → list_any (is_of i test) s.out ≡ true → list_any (is_of i test) (replied s q reply).out ≡ true
replied_lane i test s q reply apart h =
    let free = lane_freed s q in
    let P : WatchState → Type 0 = λ t. list_any (is_of i test) t.out ≡ true in
    let left = kept_any i q.entry test s.out apart h in
    let hears : list_any (is_of i test) (map heard (without_request q.entry s.out)) ≡ true = heard_any (λ k since. k == i && test since) (without_request q.entry s.out) ∙ left in
    if_both P (is_real reply) (answers_all free) (if q.heard then free else silent free)
    (if_both P s.presence.away _ _ hears hears) (if_both P q.heard free (silent free) left (if_both P s.presence.away _ _ left left))

-- those that are out stay out at a clock, and what is named goes out
first_any : (test : Out → Bool) (xs ys : List Out) → list_any test xs ≡ true → list_any test (xs ++ ys) ≡ true
first_any test [] ys h = absurd cc
first_any test (x ∷ xs) ys h = or_more (test x) (list_any test xs) (list_any test (xs ++ ys)) (first_any test xs ys) h

last_any : (test : Out → Bool) (xs ys : List Out) → list_any test ys ≡ true → list_any test (xs ++ ys) ≡ true
last_any test [] ys h = h
last_any test (x ∷ xs) ys h = or_last' (test x) (list_any test (xs ++ ys)) (last_any test xs ys h) where
  or_last' : (a b : Bool) → b ≡ true → a || b ≡ true
  or_last' true b e = refl
  or_last' false b e = e

named_any : (i at : ℕ) (test : ℕ → Bool) (rs : List WatchRequest) → test at ≡ true → list_any (λ (r : WatchRequest). r.entry == i) rs ≡ true → list_any (is_of i test) (map (out_at at) rs) ≡ true
named_any i at test [] yes' h = absurd cc
named_any i at test (r ∷ rs) yes' h =
    elim (cases_Bool (r.entry == i)) as (λ _. (r.entry == i && test at) || list_any (is_of i test) (map (out_at at) rs) ≡ true) [
      | inl here ↦ or_left (r.entry == i && test at) (list_any (is_of i test) (map (out_at at) rs)) (and_from (r.entry == i) (test at) here yes')
      | inr there ↦
          ap (λ b. (b && test at) || list_any (is_of i test) (map (out_at at) rs)) there
          ∙ named_any i at test rs yes' (sym (ap (λ b. b || list_any (λ (q : WatchRequest). q.entry == i) rs) there) ∙ h)
    ]

-- what goes out at a clock
appended_any : (f : ℕ → ℕ → Bool) (xs ys : List Out) → list_any (passes f) (xs ++ ys) ≡ true → (list_any (passes f) xs ≡ true) ⊎ (list_any (passes f) ys ≡ true)
appended_any f [] ys h = inr h
appended_any f (x ∷ xs) ys h =
    elim (cases_Bool (passes f x)) as (λ _. (passes f x || list_any (passes f) xs ≡ true) ⊎ (list_any (passes f) ys ≡ true)) [
      | inl here ↦ inl (or_left (passes f x) (list_any (passes f) xs) here)
      | inr there ↦
          elim (appended_any f xs ys (sym (ap (λ b. b || list_any (passes f) (xs ++ ys)) there) ∙ h)) as (λ _. (passes f x || list_any (passes f) xs ≡ true) ⊎ (list_any (passes f) ys ≡ true)) [
            | inl first ↦ inl (ap (λ b. b || list_any (passes f) xs) there ∙ first)
            | inr last ↦ inr last
          ]
    ]

some_sent :
    (f : ℕ → ℕ → Bool) (P : ℕ → Type 0) (p : Presence) (now at : ℕ) (xs : List Track) (is : List ℕ) → All P is → list_any (passes f) (map (out_at at) (map (request_at p now xs) is)) ≡ true →
    (k : ℕ) × ((f k at ≡ true) × P k)
some_sent f P p now at xs [] all h = absurd cc
some_sent f P p now at xs (j ∷ js) all h =
    let rest = list_any (passes f) (map (out_at at) (map (request_at p now xs) js)) in
    let e = ap (λ k. f k at) (entry_by p now xs j) in
    elim (cases_Bool (f j at)) [
      | inl here ↦ (j, (here, All-head P j js all))
      | inr there ↦ some_sent f P p now at xs js (All-tail P j js all) (sym (ap (λ b. b || rest) (e ∙ there)) ∙ h)
    ]

pub pressed_count : (s : WatchState) (round : List ℕ) → length (pressed s round).tracks ≡ length s.tracks
pressed_count s round = each_length _ (pressed_alone s.forest s.clocks s.tracks) ∙ each_length _ s.tracks

-- a clock: the state in which all are pressed, and what goes out of it
pub record Ticks (old new : WatchState) (wall elapsed : ℕ) (output : WatchOutput) : Type 0 where
  pub round : List ℕ
  pub requests : List WatchRequest
  pub command : output.command ≡ Go requests (wait new)
  pub going :
      Goes (pressed (readied old wall elapsed) round).forest (pressed (readied old wall elapsed) round).presence (pressed (readied old wall elapsed) round).clocks.at (pressed (readied old wall elapsed) round).tracks
      ((readied old wall elapsed).width - length (readied old wall elapsed).out) requests
  pub new_is : new ≡ sent (pressed (readied old wall elapsed) round) requests

commanded :
    (s new : WatchState) (command : WatchCommand) → StepCommand s command new →
    (requests : List WatchRequest) × ((command ≡ Go requests (wait new)) × (Goes s.forest s.presence s.clocks.at s.tracks (s.width - length s.out) requests × (new ≡ sent s requests)))
commanded s new (Go requests until) h = (requests, (ap (λ n. Go requests n) h.1, (goes s.forest s.presence s.clocks.at s.tracks (s.width - length s.out) requests h.0.0, h.0.1)))
commanded s new Taken h = absurd h

pub ticks : (old new : WatchState) (wall elapsed : ℕ) (output : WatchOutput) → StepClock old wall elapsed output new → Ticks old new wall elapsed output
ticks old new wall elapsed output step =
    let go = commanded (pressed (readied old wall elapsed) (round_of step.round)) new output.command step.command in
    record { round = round_of step.round; requests = go.0; command = go.1.0; going = go.1.1.0; new_is = go.1.1.1 }

pub still_out : (old new : WatchState) (wall elapsed : ℕ) (output : WatchOutput) (test : Out → Bool) → Ticks old new wall elapsed output → list_any test old.out ≡ true → list_any test new.out ≡ true
still_out old new wall elapsed output test h any =
    let mid = pressed (readied old wall elapsed) h.round in
    ap (λ (x : WatchState). list_any test x.out) h.new_is
    ∙ first_any test mid.out (map (out_at mid.clocks.at) h.requests) (ap (list_any test) (readied_out old wall elapsed) ∙ any)

-- who was not out and is out now went out now
pub goes_out_now :
    (old new : WatchState) (wall elapsed : ℕ) (output : WatchOutput) (i : ℕ) (test : ℕ → Bool) (h : Ticks old new wall elapsed output) → (track_at old i).out ≡ false → (track_at new i).out ≡ true →
    test (pressed (readied old wall elapsed) h.round).clocks.at ≡ true → list_any (is_of i test) new.out ≡ true
goes_out_now old new wall elapsed output i test h free out yes' =
    let mid = pressed (readied old wall elapsed) h.round in
    let before : (track_at mid i).out ≡ false = mid_flag old wall elapsed h.round i ∙ free in
    let after : (track_at (sent mid h.requests) i).out ≡ true = ap (λ (x : WatchState). (track_at x i).out) (sym h.new_is) ∙ out in
    let named : list_any (λ (r : WatchRequest). r.entry == i) h.requests ≡ true =
    elim (cases_Bool (list_any (λ (r : WatchRequest). r.entry == i) h.requests)) [
      | inl yes'' ↦ yes''
      | inr none ↦ absurd (not_both after (ap (λ (x : Track). x.out) (passed_over mid h.requests i none) ∙ before))
    ] in
    ap (λ (x : WatchState). list_any (is_of i test) x.out) h.new_is ∙ last_any (is_of i test) mid.out (map (out_at mid.clocks.at) h.requests) (named_any i mid.clocks.at test h.requests yes' named)

-- who is not out after a clock has the track with which all were pressed
pub stays_free : (old new : WatchState) (wall elapsed : ℕ) (output : WatchOutput) (i : ℕ) (h : Ticks old new wall elapsed output) → i < length old.tracks → (track_at new i).out ≡ false → track_at new i ≡ track_at (pressed (readied old wall elapsed) h.round) i
stays_free old new wall elapsed output i h within free =
    let mid = pressed (readied old wall elapsed) h.round in
    let after : (track_at (sent mid h.requests) i).out ≡ false = ap (λ (x : WatchState). (track_at x i).out) (sym h.new_is) ∙ free in
    let none : list_any (λ (r : WatchRequest). r.entry == i) h.requests ≡ false =
    elim (cases_Bool (list_any (λ (r : WatchRequest). r.entry == i) h.requests)) [
      | inl named ↦ absurd (not_both (each_holds_out mid h.requests i named (mid_within old wall elapsed h.round i within)) after)
      | inr none' ↦ none'
    ] in
    ap (λ (x : WatchState). track_at x i) h.new_is ∙ passed_over mid h.requests i none where
      each_holds_out : (s : WatchState) (rs : List WatchRequest) (k : ℕ) → list_any (λ (r : WatchRequest). r.entry == k) rs ≡ true → k < length s.tracks → (track_at (sent s rs) k).out ≡ true
      each_holds_out s rs k named low = ap (λ (x : Track). x.out) (went s rs k named low)

      mid_within : (s : WatchState) (w e : ℕ) (round : List ℕ) (k : ℕ) → k < length s.tracks → k < length (pressed (readied s w e) round).tracks
      mid_within s w e round k low =
          let a = pressed_count (readied s w e) round in
          let b = readied_count s w e in
          omega (arith, low, a, b)

clock_sends : (old new : WatchState) (wall elapsed : ℕ) (output : WatchOutput) (n : ℕ) → Ticks old new wall elapsed output → length new.tracks ≤ n → Sends old new n
clock_sends old new wall elapsed output n h many f any =
    let mid = pressed (readied old wall elapsed) h.round in
    let p = mid.presence in
    let at = mid.clocks.at in
    let xs = mid.tracks in
    let count = ap (λ (x : WatchState). length x.tracks) h.new_is in
    let out : new.out ≡ old.out ++ map (out_at at) (map (request_at p (sec at) xs) h.going.entries) =
    ap (λ (x : WatchState). x.out) h.new_is ∙ ap (λ os. os ++ map (out_at at) h.requests) (readied_out old wall elapsed) ∙ ap (λ rs. old.out ++ map (out_at at) rs) h.going.requests_are in
    let clock : new.clocks.at ≡ at = ap (λ (x : WatchState). x.clocks.at) h.new_is in
    elim (appended_any f old.out (map (out_at at) (map (request_at p (sec at) xs) h.going.entries)) (sym (ap (list_any (passes f)) out) ∙ any))
    as (λ _. (list_any (passes f) old.out ≡ true) ⊎ ((k : ℕ) × ((f k new.clocks.at ≡ true) × ((k < n) × ((track_at old k).out ≡ false))))) [
      | inl before ↦ inl before
      | inr now ↦
          let one = some_sent f (λ k. (k < length xs) × (is_due p at (track_in xs k) ≡ true)) p (sec at) at xs h.going.entries h.going.due now in
          let k = one.0 in
          let free = (free_of p at (track_in xs k) one.1.1.1).0 in
          let low = one.1.1.0 in
          let same = each_length' mid h.requests in
          inr (k, (subst (λ c. f k c ≡ true) (sym clock) one.1.0, (omega (arith, low, many, count, same), sym (mid_flag old wall elapsed h.round k) ∙ free)))
    ] where
      each_length' : (s : WatchState) (rs : List WatchRequest) → length (sent s rs).tracks ≡ length s.tracks
      each_length' s rs = each_length (sent_in s.clocks.at rs) s.tracks

looked_sends : (old new : WatchState) (found : Option Out) (reply : WatchReply) (terms : WatchTerms) (output : WatchOutput) (n : ℕ) → StepLooked old found reply terms output new → Sends old new n
looked_sends old new None reply terms output n step f any = absurd step
looked_sends old new (Some q) reply terms output n step f any =
    let s = noted old q reply in
    let mid = looked s q reply terms in
    inl (sym (ap (list_any (passes f)) (looked_out s q reply terms)) ∙ replied_any f mid q reply (sym (ap (λ (x : WatchState). list_any (passes f) x.out) step.1) ∙ any))

renewed_sends : (old new : WatchState) (found : Option Out) (reply : WatchReply) (output : WatchOutput) (n : ℕ) → StepRenewed old found reply output new → Sends old new n
renewed_sends old new None reply output n step f any = absurd step
renewed_sends old new (Some q) reply output n step f any =
    inl (replied_any f (state_renewed (noted old q reply) q reply) q reply (sym (ap (λ (x : WatchState). list_any (passes f) x.out) step.1) ∙ any))

step_sends : (old new : WatchState) (event : WatchEvent) (output : WatchOutput) (n : ℕ) → length new.tracks ≤ n → Step old event output new → Sends old new n
step_sends old new (Clock wall elapsed) output n many step f any = clock_sends old new wall elapsed output n (ticks old new wall elapsed output step) many f any
step_sends old new (Looked j reply terms) output n many step f any = looked_sends old new (request_out old.out j Look) reply terms output n step f any
step_sends old new (Renewed j reply) output n many step f any = renewed_sends old new (request_out old.out j Renew) reply output n step f any
step_sends old new _ output n many step f any = inl (sym (ap (λ (x : WatchState). list_any (passes f) x.out) step.1) ∙ any)

pub turn_sends : (old new : WatchState) (event : WatchEvent) (result : Result WatchOutput WatchFault) (n : ℕ) → length new.tracks ≤ n → Turn old event result new → Sends old new n
turn_sends old new event (Ok output) n many turn f any = step_sends old new event output n many turn.1 f any
turn_sends old new event (Err fault) n many turn f any = inl (subst (λ (x : WatchState). list_any (passes f) x.out ≡ true) (refused_stays old new event fault turn) any)

-- a request of j that is whole, and went out at a moment or later, is out
abbrev pub is_anew : Outage → ℕ → WatchState → ℕ → Bool
is_anew o from s j = list_any (λ (q : Out). q.entry == j && (is_request_whole o q.since && nat_le from q.since)) s.out

-- whose request is out is marked as out, and has something to be asked
pub no_lane_free : (s : WatchState) (j : ℕ) (test : Out → Bool) → j < length s.tracks → IsAlone s → (track_at s j).out ≡ false → list_any (λ (q : Out). q.entry == j && test q) s.out ≡ false
no_lane_free s j test low alone free = no_lane j test s.out (let once = alone.once j low in let e = ap flag free in omega (arith, once, e))

marked : (s : WatchState) (j : ℕ) (test : Out → Bool) → j < length s.tracks → IsAlone s → list_any (λ (q : Out). q.entry == j && test q) s.out ≡ true → (track_at s j).out ≡ true
marked s j test low alone any =
    elim (cases_Bool (track_at s j).out) [
      | inl out ↦ out
      | inr free ↦ absurd (not_both any (no_lane_free s j test low alone free))
    ]

pub served_marked : (o : Outage) (s : WatchState) (j : ℕ) → j < length s.tracks → IsAlone s → is_request_served o s j ≡ true → (track_at s j).out ≡ true
served_marked o s j low alone served = marked s j (λ q. is_request_whole o q.since) low alone served

pub served_tried : (o : Outage) (s : WatchState) (j : ℕ) → j < length s.tracks → IsAlone s → AllTry s → is_request_served o s j ≡ true → is_tried s j ≡ true
served_tried o s j low alone tries served = (tries j).out (served_marked o s j low alone served)

weaker_any : (p q : Out → Bool) (out : List Out) → ((r : Out) → p r ≡ true → q r ≡ true) → list_any p out ≡ true → list_any q out ≡ true
weaker_any p q [] h any = absurd cc
weaker_any p q (r ∷ out) h any =
    elim (cases_Bool (p r)) as (λ _. q r || list_any q out ≡ true) [
      | inl here ↦ or_left (q r) (list_any q out) (h r here)
      | inr there ↦ or_last (q r) (list_any q out) (weaker_any p q out h (sym (ap (λ b. b || list_any p out) there) ∙ any))
    ] where
      or_last : (a b : Bool) → b ≡ true → a || b ≡ true
      or_last true b e = refl
      or_last false b e = e

pub anew_served : (o : Outage) (from : ℕ) (s : WatchState) (j : ℕ) → is_anew o from s j ≡ true → is_request_served o s j ≡ true
anew_served o from s j anew =
    weaker_any (λ (q : Out). q.entry == j && (is_request_whole o q.since && nat_le from q.since)) (λ (q : Out). q.entry == j && is_request_whole o q.since) s.out
    (λ r h.
    let both = and_parts (r.entry == j) (is_request_whole o r.since && nat_le from r.since) h in
    and_from (r.entry == j) (is_request_whole o r.since) both.0 (and_parts (is_request_whole o r.since) (nat_le from r.since) both.1).0) anew

-- what holds of the requests that are out, and of those that go out, holds of all after a clock
pub each_named : (p : Presence) (now : ℕ) (xs : List Track) (is : List ℕ) → All (λ k. list_any (λ (r : WatchRequest). r.entry == k) (map (request_at p now xs) is) ≡ true) is
each_named p now xs [] = All-nil (λ k. list_any (λ (r : WatchRequest). r.entry == k) [] ≡ true)
each_named p now xs (j ∷ js) =
    let rs = map (request_at p now xs) js in
    let P : ℕ → Type 0 = λ k. ((request_at p now xs j).entry == k) || list_any (λ (r : WatchRequest). r.entry == k) rs ≡ true in
    All-cons P j js (or_left ((request_at p now xs j).entry == j) (list_any (λ (r : WatchRequest). r.entry == j) rs) (ap (λ k. k == j) (entry_by p now xs j) ∙ same_index j))
    (All-weaker (λ k. list_any (λ (r : WatchRequest). r.entry == k) rs ≡ true) P (λ k h. or_last' ((request_at p now xs j).entry == k) (list_any (λ (r : WatchRequest). r.entry == k) rs) h) js (each_named p now xs js)) where
      or_last' : (a b : Bool) → b ≡ true → a || b ≡ true
      or_last' true b e = refl
      or_last' false b e = e

pub all_sent :
    (P : Out → Type 0) (old new : WatchState) (wall elapsed : ℕ) (output : WatchOutput) (h : Ticks old new wall elapsed output) → All P old.out →
    ((k : ℕ) → k < length (pressed (readied old wall elapsed) h.round).tracks →
    is_due (pressed (readied old wall elapsed) h.round).presence (pressed (readied old wall elapsed) h.round).clocks.at (track_at (pressed (readied old wall elapsed) h.round) k) ≡ true →
    list_any (λ (r : WatchRequest). r.entry == k) h.requests ≡ true →
    P (out_at (pressed (readied old wall elapsed) h.round).clocks.at (request_at (pressed (readied old wall elapsed) h.round).presence (sec (pressed (readied old wall elapsed) h.round).clocks.at) (pressed (readied old wall elapsed) h.round).tracks k))) →
    All P new.out
all_sent P old new wall elapsed output h all made =
    let mid = pressed (readied old wall elapsed) h.round in
    let p = mid.presence in
    let at = mid.clocks.at in
    let is = h.going.entries in
    let rq : ℕ → WatchRequest = request_at p (sec at) mid.tracks in
    let out : new.out ≡ old.out ++ map (out_at at) (map rq is) =
    ap (λ (x : WatchState). x.out) h.new_is ∙ ap (λ os. os ++ map (out_at at) h.requests) (readied_out old wall elapsed) ∙ ap (λ rs. old.out ++ map (out_at at) rs) h.going.requests_are in
    let named : All (λ k. list_any (λ (r : WatchRequest). r.entry == k) h.requests ≡ true) is =
    subst (λ rs. All (λ k. list_any (λ (r : WatchRequest). r.entry == k) rs ≡ true) is) (sym h.going.requests_are) (each_named p (sec at) mid.tracks is) in
    let due = h.going.due in
    subst (All P) (sym out)
    (All-append P old.out (map (out_at at) (map rq is)) all
    (All-map P (out_at at) (map rq is) (All-map (λ r. P (out_at at r)) rq is (λ k d below. made (get_or is k d) (due k d below).0 (due k d below).1 (named k d below)))))

-- and of those that an answer leaves
pub all_left : (P : Out → Type 0) → ((q : Out) → P q → P (heard q)) → (s : WatchState) (q : Out) (reply : WatchReply) → All P s.out → All P (replied s q reply).out
unfolding without_request
all_left P hears s q reply all = replied_out P hears s q reply (All-filter (λ r. not (r.entry == q.entry)) P s.out all)
