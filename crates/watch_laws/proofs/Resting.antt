-- Resting: after a request of an entry its try is a second away, or is the renewal right after its lookup. What every part of a step
-- keeps of that. For the laws of load.
use Rattle.std.proofs.Common.{◌≡◌, ◌⊎◌, ◌∙◌, ℕ, ◌+◌, ◌-◌, ◌*◌, ◌^◌, ◌/◌, ◌<◌, ◌≤◌, min, max, Bool, true, false, ◌&&◌, ◌||◌, ◌==◌, if◌then◌else◌, List, Option, Some, None, IfSome, nat_le, nat_lt, refl, sym, ap, arith, inl, inr, true≢false}
use Rattle.std.proofs.Math.Nat.{le-max_left, le-max_right}
use Rattle.std.proofs.lemmas.{Bool.cond-true, Nat.pow_pos}
use Rattle.std.specs.List.{list_any}
use Rattle.plan_forest.specs.declared.entry.Entry.{Entry}
use Rattle.watch_machine.specs.{declared.event.WatchReply.WatchReply, declared.track.Track.Track, declared.track.Try.Try, Clocks.ms, Clocks.sec, Lines.rested, Settling.settled_track, Settling.settled_try, Step.told_earlier}
use Rattle.watch_machine.specs.declared.event.Operation.TheVariants.{Look, Renew}
use Rattle.watch_machine.specs.declared.event.WatchReply.TheVariants.{Told, Refused}
use Rattle.watch_machine.specs.Answers.{back_track, back_try, due_again, failing}
use Rattle.watch_machine.specs.Beginning.{hastened, owed, owing, owing_lookup, owing_past, soon, sooner_try, untopped_track}
use Rattle.watch_machine.specs.Looked.{at_once, refused_try, told_try, untold, untold_track, untold_try}
use Rattle.watch_machine.specs.Pauses.{cap, cap_of, doubled, left_to, pause}
use Rattle.watch_machine.specs.Press.{asked_track, dropped, is_fresh, let_go, press, pressed_track, track_asked_in}
use Rattle.watch_machine.specs.Renewed.{granted_from, granted_try, ungranted, ungranted_track}
use Rattle.watch_machine.specs.Wanted.{is_alive, is_open, wants}
use Rattle.watch_machine.proofs.Cases.{if_both, if_cases}
use Rattle.watch_laws.specs.Load.{Sent}
use Rattle.watch_laws.proofs.Tracking.{known_is}

-- a try that may go out after the request r
abbrev pub Follows : Sent → Try → Type 0
Follows r t = (r.at + 1000 ≤ t.at) ⊎ ((r.operation ≡ Look) × (t.operation ≡ Renew))

-- or that failed and has no pause yet
abbrev pub MayFollow : Sent → Try → Type 0
MayFollow r t = (t.failed ≡ true) ⊎ Follows r t

-- a track whose last request is r: while that is not out, its try may follow
pub record Rests (r : Sent) (x : Track) : Type 0 where
  pub last : x.last ≡ Some r.at
  pub attempt : x.out ≡ false → IfSome x.attempt (MayFollow r)

-- and after the clock that sets the pause
pub record IsReady (r : Sent) (x : Track) : Type 0 where
  pub last : x.last ≡ Some r.at
  pub attempt : x.out ≡ false → IfSome x.attempt (Follows r)

-- r is a second ago when the entry has rested
pub rested_is : (r : Sent) (o : Option ℕ) → o ≡ Some r.at → rested o ≡ r.at + 1000
rested_is r o is = ap rested is

-- a pause is a second or more
pub doubled_above : (n : ℕ) → 1000 ≤ doubled n
doubled_above n = let p : 0 < 2 ^ (min 20 n - 1) = pow_pos (min 20 n - 1) in omega (arith, p)

pub cap_above : (twice : ℕ) (lost : Bool) (left : Option ℕ) → 1000 ≤ cap_of twice lost left
cap_above twice lost None = omega arith
cap_above twice lost (Some left) =
    let m = le-max_left 1000 (left / 16) in
    if_cases (λ most. 1000 ≤ min most (max 1000 (left / 16))) (lost && nat_le left twice) 30000 300000 (λ e. omega (arith, m)) (λ e. omega (arith, m))

pub pause_above : (margin at : ℕ) (x : Track) (t : Try) → 1000 ≤ pause margin at x t
unfolding pause cap
pause_above margin at x t =
    let d = doubled_above t.fails in
    let c = cap_above (ms (2 * margin)) t.lost (left_to at (ms (2 * margin)) x.end t.lost) in
    omega (arith, d, c)

-- a try that is made at once asks for a renewal
renews : (at : ℕ) (t : Try) → (at_once at t).operation ≡ Renew
unfolding at_once
renews at t =
    if_cases (λ (u : Try). u.operation ≡ Renew) t.pressed (record t { at = at; operation = Renew; failed = false })
    (record { at = at; operation = Renew; pressed = true; base = Some at; fails = 0; lost = false; alone = false; failed = false }) (λ e. refl) (λ e. refl)

-- a reply that tells nothing
abbrev pub IsUntold : WatchReply → Type 0
IsUntold (Told seconds renewable date) = ⊥
IsUntold _ = Unit {0}

module _ (r : Sent) where
  -- the clock sets it
  settled_follows : (margin at : ℕ) (x : Track) (o : Option Try) → r.at ≤ at → IfSome o (MayFollow r) → IfSome (settled_try margin at x o) (Follows r)
  settled_follows margin at x None past h = tt
  settled_follows margin at x (Some t) past h =
      let p = pause_above margin at x t in
      if_cases (λ o. IfSome o (Follows r)) t.failed (Some (record t { at = at + pause margin at x t; alone = t.alone && nat_le (rested x.last) at; failed = false })) (Some t)
      (λ e. inl (omega (arith, p, past)))
      (λ e. elim h as (λ _. Follows r t) [ inl failed ↦ absurd (true≢false (sym failed ∙ e)) | inr follows ↦ follows ])

  pub settled_ready : (margin at : ℕ) (x : Track) → r.at ≤ at → Rests r x → IsReady r (settled_track margin at x)
  unfolding settled_track
  settled_ready margin at x past h = record { last = h.last; attempt = λ free. settled_follows margin at x x.attempt past (h.attempt free) }

  -- a beginning: its tries are no sooner than a second after r
  soon_rests : (at : ℕ) (x : Track) → x.last ≡ Some r.at → r.at + 1000 ≤ soon at x
  soon_rests at x last = let is = rested_is r x.last last in let m = le-max_right at (rested x.last) in omega (arith, is, m)

  sooner_follows : (at : ℕ) (o : Option Try) → r.at + 1000 ≤ at → IfSome o (Follows r) → Follows r (sooner_try at o)
  sooner_follows at None later h = inl later
  sooner_follows at (Some t) later h = elim h as (λ _. Follows r (hastened t at)) [ inl after ↦ inl (omega (arith, after, later)) | inr renewal ↦ inr renewal ]

  pub untopped_ready : (x : Track) → IsReady r x → IsReady r (untopped_track x)
  untopped_ready x h = record { last = h.last; attempt = h.attempt }

  pub owing_ready : (at : ℕ) (first called : Bool) (x : Track) → IsReady r x → IsReady r (owing at first called x)
  unfolding owing
  owing_ready at first called x h =
      if_cases (IsReady r) (called && (first || is_open (sec at) x)) (owing_lookup at x) x
      (λ e. if_cases (IsReady r) x.out (record x { owes = true }) (record x { owes = true; attempt = Some (sooner_try (soon at x) x.attempt) })
      (λ out. record { last = h.last; attempt = h.attempt })
      (λ free. record { last = h.last; attempt = λ f. sooner_follows (soon at x) x.attempt (soon_rests at x h.last) (h.attempt free) }))
      (λ e. h)

  -- and an end that is handed in, which is past
  sooner_may : (at : ℕ) (o : Option Try) → r.at + 1000 ≤ at → IfSome o (MayFollow r) → MayFollow r (sooner_try at o)
  sooner_may at None later h = inr (inl later)
  sooner_may at (Some t) later h = elim h as (λ _. MayFollow r (hastened t at)) [ inl failed ↦ inl failed | inr follows ↦ inr (sooner_follows at (Some t) later follows) ]

  pub known_rests : (at end : ℕ) (renewable : Bool) (x : Track) → Rests r x → Rests r (owing_past at (told_earlier end renewable x))
  known_rests at end renewable x h =
      known_is (Rests r) at end renewable x (record { last = h.last; attempt = h.attempt }) (λ out. record { last = h.last; attempt = h.attempt })
      (λ free. record { last = h.last; attempt = λ f. sooner_may (soon at x) x.attempt (soon_rests at x h.last) (h.attempt free) })

  -- and one that owes a lookup after a change
  pub owed_rests : (at : ℕ) (x : Track) → Rests r x → Rests r (owing_lookup at (untopped_track x))
  owed_rests at x h =
      if_cases (Rests r) x.out (record (untopped_track x) { owes = true }) (record (untopped_track x) { owes = true; attempt = Some (sooner_try (soon at x) x.attempt) })
      (λ out. record { last = h.last; attempt = h.attempt }) (λ free. record { last = h.last; attempt = λ f. sooner_may (soon at x) x.attempt (soon_rests at x h.last) (h.attempt free) })

  -- pressing: a new try is no sooner, and what is let go neither
  let_go_follows : (x : Track) (t : Try) → x.last ≡ Some r.at → IfSome (let_go x t) (Follows r)
  let_go_follows x t last =
      let is = rested_is r x.last last in
      let m = le-max_right t.at (rested x.last) in
      if_cases (λ o. IfSome o (Follows r)) x.owes (Some (record t { at = max t.at (rested x.last); operation = Look; pressed = false })) None (λ e. inl (omega (arith, is, m))) (λ e. tt)

  dropped_follows : (x : Track) (o : Option Try) → x.last ≡ Some r.at → IfSome o (Follows r) → IfSome (dropped x o) (Follows r)
  dropped_follows x None last h = tt
  dropped_follows x (Some t) last h = if_cases (λ o. IfSome o (Follows r)) t.pressed (let_go x t) (Some t) (λ e. let_go_follows x t last) (λ e. h)

  press_follows : (at : ℕ) (x : Track) → x.last ≡ Some r.at → Follows r (press at x)
  unfolding press
  press_follows at x last = inl (soon_rests at x last)

  pub pressed_ready : (margin : ℕ) (e : Entry) (need at : ℕ) (x : Track) → IsReady r x → IsReady r (pressed_track margin e need at x)
  unfolding pressed_track
  pressed_ready margin e need at x h =
      if_cases (IsReady r) (is_fresh margin e x need (sec at)) (record x { attempt = Some (press at x) }) (if wants x need || x.out then x else record x { attempt = dropped x x.attempt })
      (λ fresh. record { last = h.last; attempt = λ free. press_follows at x h.last })
      (λ other. if_cases (IsReady r) (wants x need || x.out) x (record x { attempt = dropped x x.attempt }) (λ e. h)
      (λ e. record { last = h.last; attempt = λ free. dropped_follows x x.attempt h.last (h.attempt free) }))

  pub asked_ready : (at : ℕ) (round : List ℕ) (i : ℕ) (x : Track) → IsReady r x → IsReady r (track_asked_in at round i x)
  unfolding asked_track
  asked_ready at round i x h =
      if_cases (IsReady r) (list_any (λ j. j == i) round) (asked_track at x) x
      (λ named. if_cases (IsReady r) x.out x (record x { attempt = Some (press at x) }) (λ out. h)
      (λ free. record { last = h.last; attempt = λ f. press_follows at x h.last }))
      (λ e. h)

  -- the broker is back: a try that was lost goes out a second after r, also one that has no pause yet
  due_follows : (x : Track) (t : Try) → x.last ≡ Some r.at → MayFollow r t → Follows r (due_again t (rested x.last))
  due_follows x t last h =
      let is = rested_is r x.last last in
      elim h as (λ _. Follows r (due_again t (rested x.last))) [
        | inl failed ↦ (let now = cond-true t.failed (rested x.last) (min t.at (rested x.last)) failed in inl (omega (arith, now, is)))
        | inr follows ↦
            elim follows as (λ _. Follows r (due_again t (rested x.last))) [
              | inl after ↦
                  inl (if_both (λ n. r.at + 1000 ≤ n) t.failed (rested x.last) (min t.at (rested x.last)) (omega (arith, is)) (omega (arith, after, is)))
              | inr renewal ↦ inr renewal
            ]
      ]

  back_follows : (x : Track) (o : Option Try) → x.last ≡ Some r.at → x.out ≡ false → IfSome o (MayFollow r) → IfSome (back_try x o) (MayFollow r)
  back_follows x None last free h = tt
  back_follows x (Some t) last free h =
      if_cases (λ o. IfSome o (MayFollow r)) x.out (Some (record t { fails = 0 })) (if t.lost then Some (due_again t (rested x.last)) else Some t)
      (λ out. absurd (true≢false (sym out ∙ free)))
      (λ e. if_cases (λ o. IfSome o (MayFollow r)) t.lost (Some (due_again t (rested x.last))) (Some t) (λ lost. inr (due_follows x t last h)) (λ kept. h))

  pub back_rests : (x : Track) → Rests r x → Rests r (back_track x)
  unfolding back_track
  back_rests x h = record { last = h.last; attempt = λ free. back_follows x x.attempt h.last free (h.attempt free) }

  -- the answer to a lookup
  told_follows : (at : ℕ) (due : Bool) (x : Track) (o : Option Try) → r.operation ≡ Look → IfSome (told_try at due x o) (MayFollow r)
  told_follows at due x None look = tt
  told_follows at due x (Some t) look =
      if_cases (λ o. IfSome o (MayFollow r)) due (Some (at_once at t)) (if is_alive (sec at) x then None else Some (failing t Look false false)) (λ e. inr (inr (look, renews at t)))
      (λ e. if_cases (λ o. IfSome o (MayFollow r)) (is_alive (sec at) x) None (Some (failing t Look false false)) (λ alive. tt) (λ past. inl refl))

  pub told_rests : (at : ℕ) (due : Bool) (x y : Track) → r.operation ≡ Look → x.last ≡ Some r.at → Rests r (record x { attempt = told_try at due y x.attempt })
  told_rests at due x y look last = record { last = last; attempt = λ free. told_follows at due y x.attempt look }

  refused_follows : (at : ℕ) (x : Track) (t : Try) → r.operation ≡ Look → MayFollow r (refused_try at x t)
  refused_follows at x t look =
      if_cases (MayFollow r) (is_open (sec at) x) (if t.pressed then failing t Renew false false else record (failing t Renew false false) { at = at; failed = false }) (failing t Look false false)
      (λ open'. if_cases (MayFollow r) t.pressed (failing t Renew false false) (record (failing t Renew false false) { at = at; failed = false }) (λ e. inl refl) (λ e. inr (inr (look, refl)))) (λ e. inl refl)

  untold_follows : (at : ℕ) (heard : Bool) (reply : WatchReply) (x : Track) (t : Try) → r.operation ≡ Look → IsUntold reply → MayFollow r (untold_try at heard reply x t)
  untold_follows at heard (Told seconds renewable date) x t look none = absurd none
  untold_follows at heard (Refused status date) x t look none = refused_follows at x t look
  untold_follows at heard _ x t look none = inl refl

  untold_all : (at : ℕ) (heard : Bool) (reply : WatchReply) (x : Track) (o : Option Try) → r.operation ≡ Look → IsUntold reply → IfSome (untold at heard reply x o) (MayFollow r)
  untold_all at heard reply x None look none = tt
  untold_all at heard reply x (Some t) look none = untold_follows at heard reply x t look none

  pub untold_rests : (at : ℕ) (heard : Bool) (reply : WatchReply) (x : Track) → r.operation ≡ Look → IsUntold reply → x.last ≡ Some r.at → Rests r (untold_track at heard reply x)
  unfolding untold_track
  untold_rests at heard reply x look none last = record { last = last; attempt = λ free. untold_all at heard reply x x.attempt look none }

  -- the answer to a renewal
  granted_follows : (at : ℕ) (owes : Bool) (end : ℕ) (o : Option Try) → r.at ≤ at → IfSome (granted_try at owes end o) (MayFollow r)
  granted_follows at owes end None past = tt
  granted_follows at owes end (Some t) past =
      if_cases (λ o. IfSome o (MayFollow r)) (nat_lt (sec at) end) (if owes then Some (owed (at + 30000)) else None) (Some (failing t Look false false))
      (λ alive. if_cases (λ o. IfSome o (MayFollow r)) owes (Some (owed (at + 30000))) None (λ e. inr (inl (omega (arith, past)))) (λ e. tt)) (λ past'. inl refl)

  pub granted_rests : (step at seconds : ℕ) (renewable : Bool) (from : ℕ) (x : Track) → r.at ≤ at → x.last ≡ Some r.at → Rests r (granted_from step at seconds renewable from x)
  unfolding granted_from
  granted_rests step at seconds renewable from x past last = record { last = last; attempt = λ free. granted_follows at x.owes (sec from + seconds) x.attempt past }

  ungranted_all : (at : ℕ) (heard : Bool) (reply : WatchReply) (x : Track) (o : Option Try) → IsUntold reply → IfSome (ungranted at heard reply x o) (MayFollow r)
  ungranted_all at heard reply x None none = tt
  ungranted_all at heard (Told seconds renewable date) x (Some t) none = absurd none
  ungranted_all at heard _ x (Some t) none = inl refl

  pub ungranted_rests : (at : ℕ) (heard : Bool) (reply : WatchReply) (x : Track) → IsUntold reply → x.last ≡ Some r.at → Rests r (ungranted_track at heard reply x)
  unfolding ungranted_track
  ungranted_rests at heard reply x none last = record { last = last; attempt = λ free. ungranted_all at heard reply x x.attempt none }
