-- Lookups: how many lookups of an entry are out, and what the parts of a turn make of one whose lookup was told. For the law of lookups.
use Rattle.std.proofs.Common.{◌≡◌, ◌≢◌, ◌∙◌, ℕ, suc, ◌+◌, ◌<◌, ◌≤◌, Bool, true, false, cond, not, ◌&&◌, ◌||◌, ◌==◌, if◌then◌else◌, List, [], ◌∷◌, Option, Some, None, IfSome, filter, length, map, max, nat_le, nat_lt, refl, sym, ap, subst, arith, inl, inr, true≢false}
use Rattle.std.proofs.lemmas.Bool.{and_parts, cases_Bool, cond-false, eqb-true}
use Rattle.std.specs.List.{find, list_any}
use Rattle.plan_forest.specs.{declared.entry.Entry.Entry, Forest.entry_at}
use Rattle.watch_machine.specs.{declared.command.WatchRequest.WatchRequest, declared.event.Operation.Operation, declared.event.WatchReply.WatchReply, declared.lanes.Out.Out, declared.lanes.Presence.Presence, declared.track.Track.Track}
use Rattle.watch_machine.specs.{declared.track.Try.Try, Beginning.owed, Clocks.sec, Lines.rested, Pauses.pause, Refusal.is_same, Refusal.request_out, Renewed.granted_from, Renewed.granted_try}
use Rattle.watch_machine.specs.declared.event.Operation.TheVariants.{Look, Renew}
use Rattle.watch_machine.specs.declared.track.End.TheVariants.{At, Never}
use Rattle.watch_machine.specs.Answers.{answers_all, back_track, back_try, due_again, failing, heard, lane_freed, replied, silent, without_request}
use Rattle.watch_machine.specs.Looked.{at_once, told_track, told_try}
use Rattle.watch_machine.specs.Press.{asked_track, dropped, is_fresh, let_go, press, pressed, pressed_alone, pressed_track, track_asked_in}
use Rattle.watch_machine.specs.Sending.{out_at, sent, sent_in, sent_track}
use Rattle.watch_machine.specs.Settling.{is_real, settled_track, settled_try}
use Rattle.watch_machine.specs.State.{WatchState, each, entry_of, second, track_at, track_in}
use Rattle.watch_machine.specs.Wanted.{is_alive, is_unknown, need_of, wanted_need, wants}
use Rattle.watch_machine.proofs.{Cases.if_both, Cases.if_cases, Seeing.each_read, Written.each_length}
use Rattle.watch_laws.specs.Beginnings.{is_lookup, is_loose_look, looks}
use Rattle.watch_laws.proofs.{Alone.lanes_of, Spacing.same_is, Tracking.each_kept}
use Rattle.watch_laws.proofs.Going.{asks_by, counts, entry_by, operation_of, request_at, skips, times}

-- ---- how many lookups of an entry are out

abbrev is_look : ℕ → Out → Bool
is_look i q = q.entry == i && is_same q.operation Look

same_by : (b : Bool) (q : Out) (xs ys : List Out) → length xs ≡ length ys → length (cond b (q ∷ xs) xs) ≡ length (cond b (q ∷ ys) ys)
same_by true q xs ys h = ap (λ n. suc n) h
same_by false q xs ys h = h

few_by : (a b : Bool) (q : Out) (xs ys : List Out) → length xs ≤ length ys → length (cond (a && b) (q ∷ xs) xs) ≤ length (cond a (q ∷ ys) ys)
few_by true true q xs ys h = omega (arith, h)
few_by true false q xs ys h = omega (arith, h)
few_by false b q xs ys h = h

-- a lookup takes a lane
pub looks_few : (i : ℕ) (out : List Out) → looks i out ≤ lanes_of i out
looks_few i [] = omega arith
looks_few i (q ∷ out) = few_by (q.entry == i) (is_same q.operation Look) q (filter (is_look i) out) (filter (λ (o : Out). o.entry == i) out) (looks_few i out)

-- its own answer leaves none, and that of another all
looks_none : (i : ℕ) (out : List Out) → looks i (without_request i out) ≡ 0
unfolding without_request
looks_none i [] = refl
looks_none i (q ∷ out) =
    let rest = filter (λ (o : Out). not (o.entry == i)) out in
    elim (cases_Bool (q.entry == i)) [
      | inl here ↦ ap (λ b. looks i (cond (not b) (q ∷ rest) rest)) here ∙ looks_none i out
      | inr other ↦
          ap (λ b. looks i (cond (not b) (q ∷ rest) rest)) other
          ∙ ap (λ b. length (cond (b && is_same q.operation Look) (q ∷ filter (is_look i) rest) (filter (is_look i) rest))) other ∙ looks_none i out
    ]

looks_other : (i e : ℕ) (out : List Out) → e ≢ i → looks i (without_request e out) ≡ looks i out
unfolding without_request
looks_other i e [] apart = refl
looks_other i e (q ∷ out) apart =
    let rest = filter (λ (o : Out). not (o.entry == e)) out in
    elim (cases_Bool (q.entry == e)) [
      | inl gone ↦
          let other : (q.entry == i) ≡ false = no_test (q.entry == i) (λ is. apart (sym (eqb-true q.entry e gone) ∙ eqb-true q.entry i is)) in
          ap (λ b. looks i (cond (not b) (q ∷ rest) rest)) gone ∙ looks_other i e out apart
          ∙ sym (ap (λ b. length (cond (b && is_same q.operation Look) (q ∷ filter (is_look i) out) (filter (is_look i) out))) other)
      | inr kept ↦
          ap (λ b. looks i (cond (not b) (q ∷ rest) rest)) kept ∙ same_by (is_look i q) q (filter (is_look i) rest) (filter (is_look i) out) (looks_other i e out apart)
    ] where
      no_test : (b : Bool) → (b ≡ true → ⊥) → b ≡ false
      no_test true h = absurd (h refl)
      no_test false h = refl

heard_by : (b : Bool) (q : Out) (xs ys : List Out) → length xs ≡ length ys → length (cond b (heard q ∷ xs) xs) ≡ length (cond b (q ∷ ys) ys)
heard_by true q xs ys h = ap (λ n. suc n) h
heard_by false q xs ys h = h

looks_heard : (i : ℕ) (out : List Out) → looks i (map heard out) ≡ looks i out
looks_heard i [] = refl
looks_heard i (q ∷ out) = heard_by (is_look i q) q (filter (is_look i) (map heard out)) (filter (is_look i) out) (looks_heard i out)

replied_looks : (s : WatchState) (q : Out) (reply : WatchReply) (i : ℕ) → looks i (replied s q reply).out ≡ looks i (without_request q.entry s.out)
replied_looks s q reply i =
    let free = lane_freed s q in
    let P : WatchState → Type 0 = λ t. looks i t.out ≡ looks i (without_request q.entry s.out) in
    if_both P (is_real reply) (answers_all free) (if q.heard then free else silent free)
    (if_both P s.presence.away _ _ (looks_heard i (without_request q.entry s.out)) (looks_heard i (without_request q.entry s.out)))
    (if_both P q.heard free (silent free) refl (if_both P s.presence.away _ _ refl refl))

pub own_looks : (s : WatchState) (q : Out) (reply : WatchReply) → looks q.entry (replied s q reply).out ≡ 0
own_looks s q reply = replied_looks s q reply q.entry ∙ looks_none q.entry s.out

pub other_looks : (s : WatchState) (q : Out) (reply : WatchReply) (i : ℕ) → q.entry ≢ i → looks i (replied s q reply).out ≡ looks i s.out
other_looks s q reply i apart = replied_looks s q reply i ∙ looks_other i q.entry s.out apart

-- the request that is answered is out
some_by : (b : Bool) (q : Out) (xs : List Out) → b ≡ true → 1 ≤ length (cond b (q ∷ xs) xs)
some_by true q xs h = omega arith
some_by false q xs h = absurd cc

more_by : (b : Bool) (q : Out) (xs : List Out) → length xs ≤ length (cond b (q ∷ xs) xs)
more_by true q xs = omega arith
more_by false q xs = omega arith

found_any : (i : ℕ) (out : List Out) (q : Out) → find (is_look i) out ≡ Some q → 1 ≤ looks i out
found_any i [] q found = absurd cc
found_any i (o ∷ out) q found =
    elim (cases_Bool (is_look i o)) as (λ _. 1 ≤ looks i (o ∷ out)) [
      | inl here ↦ some_by (is_look i o) o (filter (is_look i) out) here
      | inr other ↦
          let there = found_any i out q (sym (cond-false (is_look i o) (Some o) (find (is_look i) out) other) ∙ found) in
          let more = more_by (is_look i o) o (filter (is_look i) out) in
          omega (arith, there, more)
    ]

pub found_looks : (i : ℕ) (out : List Out) (q : Out) → request_out out i Look ≡ Some q → 1 ≤ looks i out
unfolding request_out
found_looks i out q found = found_any i out q found

apart_by :
    (a : Bool) (x : Operation) (q : Out) (xs ys : List Out) → length xs ≤ length ys → ((a && is_same x Renew) ≡ false → 1 + length xs ≤ length ys) →
    1 + length (cond (a && is_same x Look) (q ∷ xs) xs) ≤ length (cond a (q ∷ ys) ys)
apart_by true Look q xs ys few more = let m = more refl in omega (arith, m)
apart_by true Renew q xs ys few more = omega (arith, few)
apart_by false x q xs ys few more = more refl

-- beside a renewal no lookup is out
pub renewal_looks : (i : ℕ) (out : List Out) (q : Out) → request_out out i Renew ≡ Some q → 1 + looks i out ≤ lanes_of i out
unfolding request_out
renewal_looks i [] q found = absurd cc
renewal_looks i (o ∷ out) q found =
    let test = o.entry == i && is_same o.operation Renew in
    apart_by (o.entry == i) o.operation o (filter (is_look i) out) (filter (λ (p : Out). p.entry == i) out) (looks_few i out)
    (λ other. renewal_looks i out q (sym (cond-false test (Some o) (find (λ (p : Out). p.entry == i && is_same p.operation Renew) out) other) ∙ found))

-- those that go out
sent_by : (b : Bool) (q : Out) (r : WatchRequest) (xs : List Out) (ys : List WatchRequest) → length xs ≡ length ys → length (cond b (q ∷ xs) xs) ≡ length (cond b (r ∷ ys) ys)
sent_by true q r xs ys h = ap (λ n. suc n) h
sent_by false q r xs ys h = h

pub sent_looks : (i at : ℕ) (rs : List WatchRequest) → looks i (map (out_at at) rs) ≡ length (filter (is_lookup i) rs)
sent_looks i at [] = refl
sent_looks i at (r ∷ rs) = sent_by (is_lookup i r) (out_at at r) r (filter (is_look i) (map (out_at at) rs)) (filter (is_lookup i) rs) (sent_looks i at rs)

one_by : (b : Bool) (r : WatchRequest) (xs : List WatchRequest) → length (cond b (r ∷ xs) xs) ≤ 1 + length xs
one_by true r xs = omega arith
one_by false r xs = omega arith

module _ (p : Presence) (now : ℕ) (xs : List Track) (i : ℕ) where
  abbrev rq : ℕ → WatchRequest
  rq j = request_at p now xs j

  pub few_go : (is : List ℕ) → length (filter (is_lookup i) (map rq is)) ≤ times i is
  few_go [] = omega arith
  few_go (j ∷ js) =
      let rest = few_go js in
      let these = filter (is_lookup i) (map rq js) in
      elim (cases_Bool (j == i)) as (λ _. length (filter (is_lookup i) (map rq (j ∷ js))) ≤ times i (j ∷ js)) [
        | inl same ↦
            let more = counts i j js same in
            let one = one_by (is_lookup i (rq j)) (rq j) these in
            omega (arith, rest, more, one)
        | inr other ↦
            let more = skips i j js other in
            let none = ap (λ b. length (cond (b && is_same (rq j).operation Look) (rq j ∷ these) these)) (ap (λ n. n == i) (entry_by p now xs j) ∙ other) in
            omega (arith, rest, more, none)
      ]

  pub look_goes : (is : List ℕ) → 1 ≤ length (filter (is_lookup i) (map rq is)) → operation_of (track_in xs i).attempt ≡ Look
  look_goes [] some = absurd (omega (arith, some))
  look_goes (j ∷ js) some =
      let these = filter (is_lookup i) (map rq js) in
      elim (cases_Bool (is_lookup i (rq j))) [
        | inl here ↦
            let both = and_parts ((rq j).entry == i) (is_same (rq j).operation Look) here in
            let is : j ≡ i = sym (entry_by p now xs j) ∙ eqb-true (rq j).entry i both.0 in
            ap (λ k. operation_of (track_in xs k).attempt) (sym is) ∙ sym (asks_by p now xs j) ∙ same_is (rq j).operation Look both.1
        | inr other ↦ (let left = ap length (cond-false (is_lookup i (rq j)) (rq j ∷ these) these other) in look_goes js (omega (arith, some, left)))
      ]

-- ---- an entry whose lookup was told

-- a try, if there is one, is of a renewal
abbrev pub AsksRenewal : Option Try → Type 0
AsksRenewal o = IfSome o (λ t. t.operation ≡ Renew)

-- one that is not pressed is
abbrev pub LooseAsks : Option Try → Type 0
LooseAsks o = IfSome o (λ t. t.pressed ≡ false → t.operation ≡ Renew)

pub asks_loose : (o : Option Try) → AsksRenewal o → LooseAsks o
asks_loose None h = tt
asks_loose (Some t) h = λ loose. h

renews : (o : Operation) → is_same o Look ≡ false → o ≡ Renew
renews Look h = absurd cc
renews Renew h = refl

pub loose_asks : (o : Option Try) → is_loose_look o ≡ false → LooseAsks o
loose_asks None h = tt
loose_asks (Some t) h = λ loose. renews t.operation (ap (λ b. not b && is_same t.operation Look) (sym loose) ∙ h)

settled_loose : (margin at : ℕ) (x : Track) (o : Option Try) → LooseAsks o → LooseAsks (settled_try margin at x o)
settled_loose margin at x None h = tt
settled_loose margin at x (Some t) h =
    if_both LooseAsks t.failed (Some (record t { at = at + pause margin at x t; alone = t.alone && nat_le (rested x.last) at; failed = false })) (Some t) h h

pub loose_settled : (margin at : ℕ) (x : Track) → LooseAsks x.attempt → LooseAsks (settled_track margin at x).attempt
unfolding settled_track
loose_settled margin at x h = settled_loose margin at x x.attempt h

-- no lookup is owed, the end is known or there is none, and what is to be asked is a renewal
pub record IsTold (x : Track) : Type 0 where
  pub owes : x.owes ≡ false
  pub known : is_unknown x.end ≡ false
  pub asks : x.out ≡ false → AsksRenewal x.attempt

abbrev Still : Track → Track → Type 0
Still y x = IsTold x → IsTold y

-- the parts of a turn
settled_asks : (margin at : ℕ) (x : Track) (o : Option Try) → AsksRenewal o → AsksRenewal (settled_try margin at x o)
settled_asks margin at x None h = tt
settled_asks margin at x (Some t) h =
    if_both AsksRenewal t.failed (Some (record t { at = at + pause margin at x t; alone = t.alone && nat_le (rested x.last) at; failed = false })) (Some t) h h

pub settled_told : (margin at : ℕ) (x : Track) → Still (settled_track margin at x) x
unfolding settled_track
settled_told margin at x h = record { owes = h.owes; known = h.known; asks = λ free. settled_asks margin at x x.attempt (h.asks free) }

-- of a try that is pressed of an entry that is wanted no more nothing is left, since no lookup is owed
let_go_asks : (x : Track) (t : Try) → x.owes ≡ false → AsksRenewal (let_go x t)
let_go_asks x t free = subst (λ b. AsksRenewal (if b then Some (record t { at = max t.at (rested x.last); operation = Look; pressed = false }) else None)) (sym free) tt

pub dropped_asks : (x : Track) (o : Option Try) → x.owes ≡ false → LooseAsks o → AsksRenewal (dropped x o)
dropped_asks x None free h = tt
dropped_asks x (Some t) free h = if_cases AsksRenewal t.pressed (let_go x t) (Some t) (λ e. let_go_asks x t free) h

-- an entry that is pressed while its end is ahead is renewed
press_asks : (at : ℕ) (x : Track) → is_alive (sec at) x ≡ true → (press at x).operation ≡ Renew
unfolding press
press_asks at x alive = ap (λ b. if b then Renew else Look) alive

-- told, with an end that is ahead
abbrev pub Ahead : ℕ → Track → Type 0
Ahead now x = IsTold x × (is_alive now x ≡ true)

press_told : (at : ℕ) (x : Track) → x.owes ≡ false → is_unknown x.end ≡ false → is_alive (sec at) x ≡ true → Ahead (sec at) (record x { attempt = Some (press at x) })
press_told at x owes known alive = (record { owes = owes; known = known; asks = λ free. press_asks at x alive }, alive)

pub pressed_told :
    (margin : ℕ) (e : Entry) (need at : ℕ) (x : Track) → x.owes ≡ false → is_unknown x.end ≡ false → is_alive (sec at) x ≡ true → (wants x need || x.out ≡ true → x.out ≡ false → AsksRenewal x.attempt) →
    (x.out ≡ false → LooseAsks x.attempt) → Ahead (sec at) (pressed_track margin e need at x)
unfolding pressed_track
pressed_told margin e need at x owes known alive h k =
    if_both (Ahead (sec at)) (is_fresh margin e x need (sec at)) (record x { attempt = Some (press at x) }) (if wants x need || x.out then x else record x { attempt = dropped x x.attempt })
    (press_told at x owes known alive)
    (if_cases (Ahead (sec at)) (wants x need || x.out) x (record x { attempt = dropped x x.attempt }) (λ yes'. (record { owes = owes; known = known; asks = h yes' }, alive))
    (λ no'. (record { owes = owes; known = known; asks = λ free. dropped_asks x x.attempt owes (k free) }, alive)))

asked_told : (at : ℕ) (round : List ℕ) (i : ℕ) (x : Track) → Ahead (sec at) x → Ahead (sec at) (track_asked_in at round i x)
unfolding asked_track
asked_told at round i x h =
    if_both (Ahead (sec at)) (list_any (λ j. j == i) round) (asked_track at x) x
    (if_both (Ahead (sec at)) x.out x (record x { attempt = Some (press at x) }) h (press_told at x h.0.owes h.0.known h.1)) h

-- what is made of the track of an entry
each_in : (P : Track → Type 0) (f : ℕ → Track → Track) (xs : List Track) (i : ℕ) → i < length xs → P (f i (track_in xs i)) → P (track_in (each f xs) i)
each_in P f xs i within made = subst P (sym (each_read f xs i within)) made

pub mid_told :
    (s : WatchState) (round : List ℕ) (i : ℕ) → i < length s.tracks → Ahead (second s) (pressed_track s.forest.margin (entry_of s i) (wanted_need s i) s.clocks.at (track_at s i)) →
    Ahead (second s) (track_at (pressed s round) i)
mid_told s round i within told =
    let c = s.clocks in
    let g = s.forest in
    let alone = pressed_alone g c s.tracks in
    let count = each_length (λ j. pressed_track g.margin (entry_at g.entries j) (need_of g.entries s.tracks c j) c.at) s.tracks in
    each_in (Ahead (sec c.at)) (track_asked_in c.at round) alone i (omega (arith, count, within))
    (asked_told c.at round i (track_in alone i)
    (each_in (Ahead (sec c.at)) (λ j. pressed_track g.margin (entry_at g.entries j) (need_of g.entries s.tracks c j) c.at) s.tracks i within told))

pub sent_told : (s : WatchState) (requests : List WatchRequest) (i : ℕ) → Still (track_at (sent s requests) i) (track_at s i)
sent_told s requests i h =
    each_kept Still (λ k. k) (sent_in s.clocks.at requests) s.tracks
    (λ j x k. if_both IsTold (list_any (λ (r : WatchRequest). r.entry == j) requests) (sent_track s.clocks.at x) x (record { owes = k.owes; known = k.known; asks = λ free. absurd (true≢false free) }) k) i h

-- the broker's return
back_asks : (x : Track) (o : Option Try) → AsksRenewal o → AsksRenewal (back_try x o)
back_asks x None h = tt
back_asks x (Some t) h =
    if_both AsksRenewal x.out (Some (record t { fails = 0 })) (if t.lost then Some (due_again t (rested x.last)) else Some t) h (if_both AsksRenewal t.lost (Some (due_again t (rested x.last))) (Some t) h h)

pub back_told : (x : Track) → Still (back_track x) x
unfolding back_track
back_told x h = record { owes = h.owes; known = h.known; asks = λ free. back_asks x x.attempt (h.asks free) }

-- an answer to a lookup
at_once_asks : (at : ℕ) (t : Try) → (at_once at t).operation ≡ Renew
unfolding at_once
at_once_asks at t =
    if_both (λ (u : Try). u.operation ≡ Renew) t.pressed (record t { at = at; operation = Renew; failed = false }) (record { at = at; operation = Renew; pressed = true; base = Some at; fails = 0; lost = false; alone = false; failed = false }) refl refl

told_asks : (at : ℕ) (due : Bool) (x : Track) (o : Option Try) → is_alive (sec at) x ≡ true → AsksRenewal (told_try at due x o)
told_asks at due x None alive = tt
told_asks at due x (Some t) alive =
    if_both AsksRenewal due (Some (at_once at t)) (if is_alive (sec at) x then None else Some (failing t Look false false)) (at_once_asks at t)
    (subst (λ b. AsksRenewal (if b then None else Some (failing t Look false false))) (sym alive) tt)

end_known : (endless : Bool) (end : ℕ) → is_unknown (if endless then Never else At end) ≡ false
end_known true end = refl
end_known false end = refl

-- what a lookup tells, but for the try
pub told_rid : (since seconds : ℕ) (renewable endless : Bool) (x : Track) → ((told_track since seconds renewable endless x).owes ≡ false) × (is_unknown (told_track since seconds renewable endless x).end ≡ false)
unfolding told_track
told_rid since seconds renewable endless x = (refl, end_known endless (sec since + seconds))

pub looked_told : (at : ℕ) (due : Bool) (x : Track) → (x.owes ≡ false) × (is_unknown x.end ≡ false) → is_alive (sec at) x ≡ true → IsTold (record x { attempt = told_try at due x x.attempt })
looked_told at due x rid alive = record { owes = rid.0; known = rid.1; asks = λ free. told_asks at due x x.attempt alive }

-- and to a renewal
granted_asks : (at : ℕ) (owes : Bool) (end : ℕ) (o : Option Try) → owes ≡ false → nat_lt (sec at) end ≡ true → AsksRenewal (granted_try at owes end o)
granted_asks at owes end None free ahead = tt
granted_asks at owes end (Some t) free ahead =
    subst (λ b. AsksRenewal (if b then (if owes then Some (owed (at + 30000)) else None) else Some (failing t Look false false))) (sym ahead)
    (subst (λ b. AsksRenewal (if b then Some (owed (at + 30000)) else None)) (sym free) tt)

pub granted_told : (step at seconds : ℕ) (renewable : Bool) (from : ℕ) (x : Track) → is_alive (sec at) (granted_from step at seconds renewable from x) ≡ true → Still (granted_from step at seconds renewable from x) x
unfolding granted_from
granted_told step at seconds renewable from x alive h = record { owes = h.owes; known = refl; asks = λ free. granted_asks at x.owes (sec from + seconds) x.attempt h.owes alive }

pub granted_owes : (step at seconds : ℕ) (renewable : Bool) (from : ℕ) (x : Track) → (granted_from step at seconds renewable from x).owes ≡ x.owes
unfolding granted_from
granted_owes step at seconds renewable from x = refl
