-- Postponing: a time that comes later leaves an entry as well off in an outage, if what is left from then on outlasts that. For the laws of
-- outages.
use Rattle.std.proofs.Common.{◌≡◌, ◌⊎◌, ℕ, ◌+◌, ◌-◌, ◌*◌, ◌<◌, ◌≤◌, max, arith, inl, inr}
use Rattle.std.proofs.lemmas.Bool.{cases_lt}
use Rattle.watch_machine.specs.{Clocks.ms, State.WatchState}
use Rattle.watch_laws.specs.Outage.{IsShortFor, Outage, breath, sweep}
use Rattle.watch_laws.proofs.Enduring.{Endures, later_endures}
use Rattle.watch_laws.proofs.Stages.{Facts, IsPlanned, IsThrough, free_from, margin_holds}

-- what does not change, with a later moment from which on the entry may be asked
abbrev pub postponed : Facts → ℕ → Facts
postponed f then' = record f { time = then'; left = ms f.end - then' }

pub short_more : (o : Outage) (a b : ℕ) → a ≤ b → IsShortFor o a → IsShortFor o b
short_more o a b le short =
    let least : (o.until - o.from) + o.slow + 2 * (o.quick + o.late) + sweep o + breath o ≤ a = short in
    let more : (o.until - o.from) + o.slow + 2 * (o.quick + o.late) + sweep o + breath o ≤ b = omega (arith, least, le) in
    more

-- an outage that something outlasts leaves a second, at least
pub short_some : (o : Outage) (a : ℕ) → IsShortFor o a → 0 < a
short_some o a short =
    let least : (o.until - o.from) + o.slow + 2 * (o.quick + o.late) + sweep o + breath o ≤ a = short in
    let second' : 1000 ≤ breath o = omega arith in
    omega (arith, least, second')

pub postponed_planned : (f : Facts) (then' : ℕ) → f.time ≤ then' → IsPlanned f → (f.time < then' → IsShortFor f.o (ms f.end - then')) → IsPlanned (postponed f then')
postponed_planned f then' le planned long =
    let sum = planned.end_is in
    elim (cases_lt f.time then') as (λ _. IsPlanned (postponed f then')) [
      | inl later ↦
          let some = short_some f.o (ms f.end - then') (long later) in
          record { wide = planned.wide; within = planned.within; order = planned.order; short = long later; end_is = omega (arith, some) }
      | inr sooner ↦
          record {
            wide = planned.wide;
            within = planned.within;
            order = planned.order;
            short = short_more f.o f.left (ms f.end - then') (omega (arith, sooner, sum)) planned.short;
            end_is = omega (arith, sooner, le, sum);
          }
    ]

-- what is endured by some moment is by a later one
endures_longer : (o : Outage) (i end bound more due : ℕ) (miss : Type 0) (s : WatchState) → bound ≤ more → Endures o i end bound due miss s → Endures o i end more due miss s
endures_longer o i end bound more due miss s le h = later_endures o i end bound more due miss miss s le (λ may. may) h

-- every stage
pub postponed_through : (f : Facts) (then' due k : ℕ) (s : WatchState) → f.time ≤ then' → IsPlanned (postponed f then') → IsThrough f due k s → IsThrough (postponed f then') due k s
postponed_through f then' due k s le planned (inl (inl h)) =
    let reach = h.reach in
    let ahead = h.base_ahead in
    let by = h.base_by in
    let start = h.start in
    let next = h.next in
    let holds = margin_holds (postponed f then') planned in
    inl (inl (record {
      endures = endures_longer f.o f.i f.end f.time then' due ⊥ s le h.endures;
      idle = h.idle;
      whole = h.whole;
      r = h.r;
      from = h.from;
      count = h.count;
      fewer = h.fewer;
      base = max h.base then';
      reach = omega (arith, reach);
      over = elim h.over as (λ _. (max h.base then' ≡ then') ⊎ (f.o.until ≤ s.clocks.at)) [ inl same ↦ inl (omega (arith, same, le)) | inr late ↦ inr late ];
      base_ahead = omega (arith, ahead, holds);
      base_by = omega (arith, by, le);
      start = omega (arith, start);
      next = omega (arith, next);
    }))
postponed_through f then' due k s le planned (inl (inr h)) =
    let room = h.room in
    let next = h.next in
    inl (inr (record {
      endures = endures_longer f.o f.i f.end (free_from f) (free_from (postponed f then')) due Unit s (omega (arith, le)) h.endures;
      unserved = h.unserved;
      r = h.r;
      count = h.count;
      fewer = h.fewer;
      room = omega (arith, room, le);
      next = omega (arith, next, le);
    }))
postponed_through f then' due k s le planned (inr (inl h)) =
    let room = h.room in
    let by = h.last_by in
    inr (inl (record {
      endures = endures_longer f.o f.i f.end (free_from f) (free_from (postponed f then')) due Unit s (omega (arith, le)) h.endures;
      unserved = h.unserved;
      back = h.back;
      r = h.r;
      from = h.from;
      last = h.last;
      count = h.count;
      fewer = h.fewer;
      room = omega (arith, room, le);
      start = h.start;
      last_ahead = h.last_ahead;
      last_by = omega (arith, by, le);
      since = h.since;
      now = h.now;
      next = h.next;
    }))
postponed_through f then' due k s le planned (inr (inr (inl h))) =
    let by = h.last_by in
    inr (inr (inl (record { served = h.served; sent = h.sent; whole = h.whole; next = h.next; last_ahead = h.last_ahead; last_by = omega (arith, by, le) })))
postponed_through f then' due k s le planned (inr (inr (inr h))) =
    let soon = h.soon in
    inr (inr (inr (record {
      endures = endures_longer f.o f.i f.end f.time then' due ⊥ s le h.endures;
      unserved = h.unserved;
      over = h.over;
      soon = omega (arith, soon, le);
      from = h.from;
      count = h.count;
      next = h.next;
    })))
