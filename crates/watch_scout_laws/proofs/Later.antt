-- Later: an end that is later leaves an entry as well off in an outage, with that end in the place of the one before. For the law of outages
-- of an agent that stands behind another.
use Rattle.std.proofs.Common.{◌≡◌, ◌⊎◌, ◌∙◌, ℕ, ◌+◌, ◌-◌, ◌<◌, ◌≤◌, Bool, true, max, All, List, [], ◌∷◌, Result, Ok, Err, length, refl, sym, ap, subst, arith, inl, inr}
use Rattle.std.proofs.lemmas.{Bool.cases_lt, List.Elements.All-weaker}
use Rattle.watch_machine.specs.{declared.command.WatchOutput.WatchOutput, declared.event.WatchEvent.TheVariants.Known, declared.fault.WatchFault.WatchFault, declared.lanes.Out.Out, declared.track.Track.Track, Answers.with_track}
use Rattle.watch_machine.specs.{Beginning.is_pressed, Clocks.ms, Lines.is_first, Lines.rested, Outlook.time_of, State.WatchState, State.track_at, Wanted.believed}
use Rattle.watch_machine.specs.History.{AllHappen, Changes, Happening, Hands, Turn, Turned}
use Rattle.watch_laws.specs.Outage.{IsShortFor, Outage, again, comes, coming_through, granted_by, how_many, outage_next_after, outage_next_after_command, outage_settled_by, waiting}
use Rattle.watch_laws.proofs.{Lasting.turn_same, Postponing.short_more, Postponing.short_some}
use Rattle.watch_laws.proofs.Enduring.{Cutting, Endures, Kept, Missed, cut}
use Rattle.watch_laws.proofs.Grounds.{IsBase, fewer_wait, turn_base}
use Rattle.watch_laws.proofs.Lanes.{Sends, is_anew, turn_sends}
use Rattle.watch_laws.proofs.Outliving.{Stays, changed_stays, facts_after, turn_stays}
use Rattle.watch_laws.proofs.Stages.{Facts, IsPlanned, IsThrough, free_from, margin_holds}
use Rattle.watch_scout_laws.specs.Behind.{later_track}
use Rattle.watch_scout_laws.specs.Resting.{AllAhead, AreLivedBehind, EndIsAhead, IsToldByScout}
use Rattle.watch_scout_laws.proofs.Handing.{end_in, hands, keeps, track_kept}

-- what does not change, with a later end, and a moment from which on the entry may be asked, at which its time has come
abbrev with_end : Facts → ℕ → ℕ → Facts
with_end f end time = record f { end = end; time = max f.time time; left = ms end - max f.time time }

later_planned : (f : Facts) (end time : ℕ) → IsPlanned f → f.end ≤ end → IsShortFor f.o (ms end - time) → IsPlanned (with_end f end time)
later_planned f end time planned le long =
    let sum = planned.end_is in
    let some = short_some f.o (ms end - time) long in
    record {
      wide = planned.wide;
      within = planned.within;
      order = planned.order;
      short = elim (cases_lt f.time time) as (λ _. IsShortFor f.o (ms end - max f.time time)) [
        | inl less ↦ short_more f.o (ms end - time) (ms end - max f.time time) (omega (arith, less)) long
        | inr more ↦ short_more f.o f.left (ms end - max f.time time) (omega (arith, more, sum, le)) planned.short
      ];
      end_is = omega (arith, sum, le, some);
    }

-- later ends lead no moment earlier
again_more : (end more at : ℕ) → end ≤ more → again end at ≤ again more at
again_more end more at le = omega (arith, le)

granted_more : (o : Outage) (from then' end more : ℕ) → from ≤ then' → end ≤ more → granted_by o from end ≤ granted_by o then' more
granted_more o from then' end more le further = let a = again_more end more (o.until + o.slow + o.late) further in omega (arith, le, a)

free_more : (f : Facts) (end time : ℕ) → f.end ≤ end → free_from f ≤ free_from (with_end f end time)
free_more f end time le = let a = again_more f.end end (cut f.o) le in omega (arith, a)

-- what holds of the entry between two clocks
either_held : (miss : Type 0) (A : Type 0) (hold bound more : ℕ) → bound ≤ more → A ⊎ (miss × (hold ≤ bound)) → A ⊎ (miss × (hold ≤ more))
either_held miss A hold bound more le (inl a) = inl a
either_held miss A hold bound more le (inr h) = let l = h.1 in inr (h.0, omega (arith, l, le))

held_or : (A : Type 0) (hold bound more : ℕ) → bound ≤ more → (hold ≤ bound) ⊎ A → (hold ≤ more) ⊎ A
held_or A hold bound more le (inl h) = inl (omega (arith, h, le))
held_or A hold bound more le (inr a) = inr a

later_endures :
    (o : Outage) (i end more bound further due : ℕ) (renewable : Bool) (miss : Type 0) (s : WatchState) → i < length s.tracks → bound ≤ further → Endures o i end bound due miss s →
    Endures o i more further due miss (with_track s i (later_track more renewable (track_at s i)))
unfolding Kept Missed
later_endures o i end more bound further due renewable miss s within le h =
    let y = later_track more renewable (track_at s i) in
    let new = with_track s i y in
    let there : track_at new i ≡ y = track_kept s i y within in
    let last = h.last in
    let rest = ap (λ (x : Track). rested x.last) there in
    record {
      end_is = ap (λ (x : Track). x.end) there;
      last = omega (arith, last, rest, le);
      tries = λ u is pressed'.
          elim (h.tries u (sym (ap (λ (x : Track). x.attempt) there) ∙ is) pressed') as (λ _. Kept i further miss new u ⊎ Missed i further due (cut o) miss new u) [
            | inl kept ↦
                let at = kept.1.0 in
                inl (kept.0, (omega (arith, at, le), λ free. either_held miss (is_first u ≡ true) s.presence.hold bound further le (kept.1.1 (sym (ap (λ (x : Track). x.out) there) ∙ free))))
            | inr missed ↦ inr (missed.0, (ap (λ (x : Track). x.out) there ∙ missed.1.0, (missed.1.1.0, (missed.1.1.1.0, held_or _ s.presence.hold bound further le missed.1.1.1.1))))
          ];
      out =
          All-weaker (Cutting o i bound miss s) (Cutting o i further miss new)
          (λ q k is.
          let cuts = k is in
          (cuts.0, λ pressed'. (let c = cuts.1 (sym (ap is_pressed there) ∙ pressed') in (c.0, λ heard'. (let held = c.1 heard' in omega (arith, held, le)))))) s.out h.out;
      silent' = h.silent';
    }

-- every stage
later_through :
    (f : Facts) (end time due k m : ℕ) (renewable : Bool) (s : WatchState) → f.i < length s.tracks → IsPlanned (with_end f end time) → f.end ≤ end → m ≤ k → IsThrough f due k s →
    IsThrough (with_end f end time) due m (with_track s f.i (later_track end renewable (track_at s f.i)))
later_through f end time due k m renewable s within planned le less (inl (inl h)) =
    let y = later_track end renewable (track_at s f.i) in
    let there = track_kept s f.i y within in
    let count = h.count in
    let reach = h.reach in
    let ahead = h.base_ahead in
    let by = h.base_by in
    let start = h.start in
    let next = h.next in
    let holds = margin_holds (with_end f end time) planned in
    let free = free_more f end time le in
    inl (inl (record {
      endures = later_endures f.o f.i f.end end f.time (max f.time time) due renewable ⊥ s within (omega arith) h.endures;
      idle = ap (λ (x : Track). x.out) there ∙ h.idle;
      whole = h.whole;
      r = h.r;
      from = h.from;
      count = omega (arith, count, less);
      fewer = h.fewer;
      base = max h.base time;
      reach = omega (arith, reach);
      over = elim h.over as (λ _. (max h.base time ≡ max f.time time) ⊎ (f.o.until ≤ s.clocks.at)) [
        | inl same ↦ inl (ap (λ n. max n time) same)
        | inr late ↦ inr late
      ];
      base_ahead = omega (arith, ahead, holds, le);
      base_by = omega (arith, by, free);
      start = omega (arith, start);
      next = omega (arith, next);
    }))
later_through f end time due k m renewable s within planned le less (inl (inr h)) =
    let count = h.count in
    let room = h.room in
    let next = h.next in
    let free = free_more f end time le in
    inl (inr (record {
      endures = later_endures f.o f.i f.end end (free_from f) (free_from (with_end f end time)) due renewable Unit s within free h.endures;
      unserved = h.unserved;
      r = h.r;
      count = omega (arith, count, less);
      fewer = h.fewer;
      room = omega (arith, room);
      next = omega (arith, next, free);
    }))
later_through f end time due k m renewable s within planned le less (inr (inl h)) =
    let count = h.count in
    let room = h.room in
    let ahead = h.last_ahead in
    let by = h.last_by in
    let free = free_more f end time le in
    let more = granted_more f.o f.time (max f.time time) f.end end (omega arith) le in
    inr (inl (record {
      endures = later_endures f.o f.i f.end end (free_from f) (free_from (with_end f end time)) due renewable Unit s within free h.endures;
      unserved = h.unserved;
      back = h.back;
      r = h.r;
      from = h.from;
      last = h.last;
      count = omega (arith, count, less);
      fewer = h.fewer;
      room = omega (arith, room);
      start = h.start;
      last_ahead = omega (arith, ahead, le);
      last_by = omega (arith, by, more);
      since = h.since;
      now = h.now;
      next = h.next;
    }))
later_through f end time due k m renewable s within planned le less (inr (inr (inl h))) =
    let ahead = h.last_ahead in
    let by = h.last_by in
    let more = granted_more f.o f.time (max f.time time) f.end end (omega arith) le in
    inr (inr (inl (record { served = h.served; sent = h.sent; whole = h.whole; next = h.next; last_ahead = omega (arith, ahead, le); last_by = omega (arith, by, more) })))
later_through f end time due k m renewable s within planned le less (inr (inr (inr h))) =
    let count = h.count in
    let soon = h.soon in
    inr (inr (inr (record {
      endures = later_endures f.o f.i f.end end f.time (max f.time time) due renewable ⊥ s within (omega arith) h.endures;
      unserved = h.unserved;
      over = h.over;
      soon = omega (arith, soon);
      from = h.from;
      count = omega (arith, count, less);
      next = h.next;
    })))

-- and after the turn
later_stays :
    (f : Facts) (end due rest : ℕ) (renewable : Bool) (old new : WatchState) → IsPlanned f → new ≡ with_track old f.i (later_track end renewable (track_at old f.i)) → f.end ≤ end →
    IsShortFor f.o (ms end - ms (time_of new f.i)) → IsBase f.width f.n new → Sends old new f.n → Stays f due (waiting f.o f.n old + (how_many f.n (comes f.o old new) + rest)) old →
    IsPlanned (with_end f end (ms (time_of new f.i))) × Stays (with_end f end (ms (time_of new f.i))) due (waiting f.o f.n new + rest) new
later_stays f end due rest renewable old new planned is le long base sends h =
    let y = later_track end renewable (track_at old f.i) in
    let go = h.going in
    let time = ms (time_of new f.i) in
    let planned' = later_planned f end time planned le long in
    let was = go.base.count in
    let within : f.i < length old.tracks = (let low' = planned.within in omega (arith, was, low')) in
    let there = track_kept old f.i y within in
    let clock = ap (λ (x : WatchState). x.clocks.at) is in
    let ahead = go.ahead in
    let by = go.by in
    let more = granted_more f.o f.time (max f.time time) f.end end (omega arith) le in
    let all = fewer_wait f.o 0 f.width f.n old new go.base base sends in
    let outs = ap (λ (x : WatchState). how_many (f.n + f.width) (is_anew f.o 0 x)) is in
    let less : waiting f.o f.n new + rest ≤ waiting f.o f.n old + (how_many f.n (comes f.o old new) + rest) = omega (arith, all, outs) in (
      planned',
      record {
        going = record {
          base = base;
          entries = ap (λ (x : WatchState). length x.forest.entries) is ∙ go.entries;
          time = λ loose. omega arith;
          end_is = ap (λ (x : WatchState). (track_at x f.i).end) is ∙ ap (λ (x : Track). x.end) there;
          timely = subst (λ (x : WatchState). All (λ (q : Out). due ≤ outage_settled_by f.o q.since + f.o.late) x.out) (sym is) go.timely;
          ahead = omega (arith, clock, ahead, le);
          by = omega (arith, clock, by, more);
        };
        through = subst (IsThrough (with_end f end time) due (waiting f.o f.n new + rest)) (sym is)
            (later_through f end time due (waiting f.o f.n old + (how_many f.n (comes f.o old new) + rest)) (waiting f.o f.n new + rest) renewable old within planned' le less h.through);
      },
    )

-- an end that is handed in leaves the moment by which the next clock comes
known_due : (o : Outage) (old new : WatchState) (i end due : ℕ) (renewable : Bool) (result : Result WatchOutput WatchFault) → Turn old (Known i end renewable) result new → outage_next_after o result new due ≡ due
known_due o old new i end due renewable (Ok output) turn = ap (λ (x : WatchOutput). outage_next_after_command o x.command new due) turn.1.0
known_due o old new i end due renewable (Err fault) turn = refl

-- one turn at which the scout hands in an end of the entry
told_stays :
    (f : Facts) (due rest : ℕ) (old : WatchState) (turn : Turned) (t : IsToldByScout f.o old turn f.i) → IsPlanned f → Turn old turn.event turn.result turn.state → IsBase f.width f.n turn.state → Sends old turn.state f.n →
    Stays f due (waiting f.o f.n old + (how_many f.n (comes f.o old turn.state) + rest)) old →
    IsPlanned (with_end f t.end (ms (time_of turn.state f.i)))
    × Stays (with_end f t.end (ms (time_of turn.state f.i))) (outage_next_after f.o turn.result turn.state due) (waiting f.o f.n turn.state + rest) turn.state
told_stays f due rest old turn t planned happens base sends h =
    let later = hands t.scout old f.i t.reply (Known f.i t.end t.renewable) t.handed in
    let same : later.end ≡ t.end = ap end_in (sym later.is) in
    let up = later.later in
    let ahead = later.ahead in
    let known' : f.end ≡ later.believed = ap believed (sym h.going.end_is ∙ later.known) in
    let many = h.going.base.count in
    let low' = planned.within in
    let entries = h.going.entries in
    let kept = keeps old turn f.i t.end t.renewable happens t.event (omega (arith, entries, low')) (omega (arith, many, low')) (omega (arith, ahead, same)) t.few in
    let stays = later_stays f t.end due rest t.renewable old turn.state planned kept.1.state (omega (arith, known', up, same)) t.long base sends h in
    let due' = known_due f.o old turn.state f.i t.end due t.renewable turn.result (subst (λ e. Turn old e turn.result turn.state) t.event happens) in
    (stays.0, subst (λ d. Stays (with_end f t.end (ms (time_of turn.state f.i))) d (waiting f.o f.n turn.state + rest) turn.state) (sym due') stays.1)

stays_ahead : (f : Facts) (due k : ℕ) (s : WatchState) → Stays f due k s → EndIsAhead f.i s
stays_ahead f due k s h = subst (λ n. s.clocks.at < ms n) (sym (ap believed h.going.end_is)) h.going.ahead

-- all that is lived
pub along_behind :
    (f : Facts) → IsPlanned f → (hs : List Happening) (due : ℕ) (old : WatchState) → AllHappen old hs → AreLivedBehind f.o f.i due old hs → Stays f due (waiting f.o f.n old + coming_through f.o old hs) old → AllAhead f.i hs
along_behind f planned [] due old history lived h = tt
along_behind f planned (Hands turn ∷ hs) due old history lived h =
    let rest = coming_through f.o turn.state hs in
    let next = outage_next_after f.o turn.result turn.state due in
    let base = turn_base f.width f.n old turn.state turn.event turn.result history.0 h.going.base in
    let count = base.count in
    let sends = turn_sends old turn.state turn.event turn.result f.n (omega (arith, count)) history.0 in
    let stays = subst (λ n. Stays f due (waiting f.o f.n old + (how_many n (comes f.o old turn.state) + rest)) old) h.going.entries h in
    elim lived.0 as (λ _. EndIsAhead f.i turn.state × AllAhead f.i hs) [
      | inl one ↦
          let same = turn_same f.o f.i due old turn.state turn.event turn.result history.0 one in
          let here = turn_stays f due rest old turn.state turn.event turn.result planned history.0 one lived.1.0 base sends same stays in
          (stays_ahead f next (waiting f.o f.n turn.state + rest) turn.state here, along_behind f planned hs next turn.state history.1 lived.1.1 here)
      | inr told ↦
          let g = with_end f told.end (ms (time_of turn.state f.i)) in
          let here = told_stays f due rest old turn told planned history.0 base sends stays in
          (stays_ahead g next (waiting f.o f.n turn.state + rest) turn.state here.1, along_behind g here.0 hs next turn.state history.1 lived.1.1 here.1)
    ]
along_behind f planned (Changes c ∷ hs) due old history lived h = λ k said.
    let j = lived.0 in
    let change = lived.1.0 in
    let same : j ≡ k = history.0.may.once f.i j k change.kept said in
    let rest = coming_through f.o c.state hs in
    let g = facts_after f c j in
    let here = changed_stays f due rest old c history.0 j planned change h in
    subst (λ m. EndIsAhead m c.state × AllAhead m hs) same
    (stays_ahead g due (waiting f.o (length c.forest.entries) c.state + rest) c.state here.1, along_behind g here.0 hs due c.state history.1 lived.1.1.1 here.1)
