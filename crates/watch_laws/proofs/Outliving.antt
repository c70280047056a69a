-- Outliving: an entry outlives every outage that its margin does. For the laws of outages.
use Rattle.std.proofs.Common.{◌≡◌, ◌⊎◌, ◌∙◌, ℕ, suc, ◌+◌, ◌-◌, ◌*◌, ◌<◌, ◌≤◌, Bool, true, false, not, ◌&&◌, ◌||◌, ◌==◌, List, [], ◌∷◌, Option, Some, None, All, IfSome, Result, Ok, Err, get_or, length, map, max, nat_lt, refl, sym, ap, subst, arith, inl, inr, true≢false}
use Rattle.std.proofs.lemmas.List.Elements.{All-weaker}
use Rattle.std.proofs.lemmas.Bool.{and_parts, cases_Bool, cases_lt, cond-false, eqb-true}
use Rattle.std.specs.List.{list_any}
use Rattle.plan_forest.specs.Forest.{Forest}
use Rattle.watch_machine.specs.{declared.command.WatchCommand.TheVariants.Taken, declared.command.WatchOutput.WatchOutput, declared.event.WatchEvent.WatchEvent, declared.event.WatchReply.WatchReply}
use Rattle.watch_machine.specs.{declared.event.WatchReply.TheVariants.Told, declared.event.WatchTerms.WatchTerms, declared.fault.WatchFault.WatchFault, declared.lanes.Out.Out, declared.track.End.End, declared.track.Track.Track}
use Rattle.watch_machine.specs.{Answers.noted, Beginning.is_pressed, Beginning.is_pressed_try, Clocks.ms, Lines.rested, Looked.looked, Press.pressed, Outlook.time_of, Refusal.request_out, Renewed.state_renewed, Sending.sent}
use Rattle.watch_machine.specs.{Settling.is_real, Settling.is_silent, Wait.wait}
use Rattle.watch_machine.specs.declared.event.WatchEvent.TheVariants.{Clock, Looked, Renewed, Need, Begin, Known}
use Rattle.watch_machine.specs.declared.event.Operation.TheVariants.{Look, Renew}
use Rattle.watch_machine.specs.declared.track.End.TheVariants.{Unknown, At, Never}
use Rattle.watch_machine.specs.History.{AllHappen, Changed, Changes, Hands, Happening, IsChanged, IsReached, Turn, Turned}
use Rattle.watch_machine.specs.Margins.{is_in_plan, own_margin, time, time_before}
use Rattle.watch_machine.specs.State.{WatchState, attempt_at, entry_of, second, track_at, track_in}
use Rattle.watch_machine.specs.Step.{Step, StepLooked, StepRenewed, known, readied, with_need_until}
use Rattle.watch_machine.specs.Wanted.{believed, is_known, is_never, is_unknown, is_wanted, wanted_need, wants}
use Rattle.watch_machine.proofs.Leasts.{least_start}
use Rattle.watch_machine.proofs.Cases.{if_both, if_cases, not_both}
use Rattle.watch_laws.specs.Absence.{is_clock, is_event_taken}
use Rattle.watch_laws.specs.Outage.{AllInTime, AreLived, EndIsInTime, GrantLaw, IsBefore, IsIncident, IsLived, IsLivedChange, IsReplyInOutage, IsShortFor, LeftLaw, MayBeAsked, Outage, OutageLaw, TellsNothing, again, clock_asked_at, comes, comes_over, coming_through, from_over, granted_at, granted_by, granted_next, how_many, in_line, is_request_served, is_request_whole, outage_next_after, outage_next_after_command, outage_next_by, outage_settled_by, tells, waiting}
use Rattle.watch_laws.specs.Presence.{is_told}
use Rattle.watch_laws.proofs.{Bases.last_base, Changing.low, Clocking.refused_stays, Counting.least_all, Retrying.ready_first, Retrying.rises, Minding.end_tended, Minding.tended, Sparing.readied_answers, Trying.asking_own}
use Rattle.watch_laws.proofs.Answered.{IsReplied, goes_on_after, looked_replied, renewed_replied, replied_through}
use Rattle.watch_laws.proofs.Enduring.{Cutting, Endures, Kept, Missed, cut, cut_off, real_away}
use Rattle.watch_laws.proofs.Grounds.{IsBase, fewer_wait, starts, turn_base}
use Rattle.watch_laws.proofs.Lanes.{Sends, Ticks, is_anew, ticks, turn_sends}
use Rattle.watch_laws.proofs.Lasting.{Same, known_other, same_time, turn_same}
use Rattle.watch_laws.proofs.Marked.{none_out, not_out, only_cut, only_whole}
use Rattle.watch_laws.proofs.Moving.{end_kept, facts_over, fewer_over, going_over, pressed_over, through_over}
use Rattle.watch_laws.proofs.Postponing.{postponed, postponed_planned, postponed_through}
use Rattle.watch_laws.proofs.Requests.{any_gives, anew_none, none_passes, quick_if, some_lane}
use Rattle.watch_laws.proofs.Stages.{Facts, IsGoing, IsPlanned, IsServed, IsThrough, due_ahead, free_from, margin_holds, turn_of}
use Rattle.watch_laws.proofs.Ticking.{IsTick, before_second, goes_on, not_so, not_whole, so_whole, ticks_through}

-- what holds after a turn
pub record Stays (f : Facts) (due k : ℕ) (s : WatchState) : Type 0 where
  pub going : IsGoing f due s
  pub through : IsThrough f due k s

-- those that wait after a turn, where rest come to wait later
abbrev After : Facts → WatchState → ℕ → ℕ
After f new rest = waiting f.o f.n new + rest

abbrev Until : Facts → WatchState → WatchState → ℕ → ℕ
Until f old new rest = waiting f.o f.n old + (how_many f.n (comes f.o old new) + rest)

-- a clock
clock_stays :
    (f : Facts) (due rest : ℕ) (old new : WatchState) (wall elapsed : ℕ) (output : WatchOutput) → IsPlanned f → Step old (Clock wall elapsed) output new → IsIncident f.o f.i due old (Clock wall elapsed) →
    is_wanted new f.i ≡ true → IsBase f.width f.n new → Sends old new f.n → Same f.i old new → Stays f due (Until f old new rest) old → Stays f (outage_next_after_command f.o output.command new due) (After f new rest) new
clock_stays f due rest old new wall elapsed output planned step lived wanted base sends same h =
    let go = ticks old new wall elapsed output step in
    let ahead = due_ahead f due (Until f old new rest) old planned h.through in
    let t : IsTick f due old new wall elapsed output = record {
      ticks = go;
      soon = lived;
      rises = rises old wall elapsed h.going.base.past.start;
      planned = planned;
      going = h.going;
      base = base;
      same = same;
      wanted = wanted;
      ahead = ahead.0;
      by = ahead.1;
    } in
    subst (λ c. Stays f (outage_next_after_command f.o c new due) (After f new rest) new) (sym go.command)
    (record { going = goes_on f due old new wall elapsed output t; through = ticks_through f due old new wall elapsed output t sends rest h.through })

-- an answer
taken_due : (o : Outage) (new : WatchState) (due : ℕ) (output out : WatchOutput) → output ≡ out → out.command ≡ Taken → outage_next_after_command o output.command new due ≡ due
taken_due o new due output out is taken' = ap (λ c. outage_next_after_command o c new due) (ap (λ (x : WatchOutput). x.command) is ∙ taken')

replied_stays :
    (f : Facts) (due rest : ℕ) (old mid new : WatchState) (q : Out) (reply : WatchReply) → IsReplied f due old mid new q reply → Sends old new f.n → Stays f due (Until f old new rest) old → Stays f due (After f new rest) new
replied_stays f due rest old mid new q reply t sends h = record { going = goes_on_after f due old mid new q reply t; through = replied_through f due old mid new q reply t rest sends h.through }

looked_stays :
    (f : Facts) (due rest : ℕ) (old new : WatchState) (j : ℕ) (found : Option Out) (reply : WatchReply) (terms : WatchTerms) (output : WatchOutput) → f.i < f.n → request_out old.out j Look ≡ found → StepLooked old found reply terms output new →
    IfSome found (IsReplyInOutage f.o reply) → (j ≡ f.i → IfSome found (TellsNothing f.o reply)) → IsBase f.width f.n new → Sends old new f.n → Same f.i old new → Stays f due (Until f old new rest) old →
    Stays f (outage_next_after_command f.o output.command new due) (After f new rest) new
looked_stays f due rest old new j None reply terms output low is step lived lost base sends same h = absurd step
looked_stays f due rest old new j (Some q) reply terms output low is step lived lost base sends same h =
    subst (λ n. Stays f n (After f new rest) new) (sym (taken_due f.o new due output _ step.0 refl))
    (replied_stays f due rest old (looked (noted old q reply) q reply terms) new q reply (looked_replied f due old new j q reply terms output low is step lived lost h.going base same) sends h)

renewed_stays :
    (f : Facts) (due rest : ℕ) (old new : WatchState) (j : ℕ) (found : Option Out) (reply : WatchReply) (output : WatchOutput) → f.i < f.n → request_out old.out j Renew ≡ found → StepRenewed old found reply output new →
    IfSome found (IsReplyInOutage f.o reply) → (j ≡ f.i → IfSome found (TellsNothing f.o reply)) → IsBase f.width f.n new → Sends old new f.n → Same f.i old new → Stays f due (Until f old new rest) old →
    Stays f (outage_next_after_command f.o output.command new due) (After f new rest) new
renewed_stays f due rest old new j None reply output low is step lived lost base sends same h = absurd step
renewed_stays f due rest old new j (Some q) reply output low is step lived lost base sends same h =
    subst (λ n. Stays f n (After f new rest) new) (sym (taken_due f.o new due output _ step.0 refl))
    (replied_stays f due rest old (state_renewed (noted old q reply) q reply) new q reply (renewed_replied f due old new j q reply output low is step lived lost h.going base same) sends h)

-- what leaves the entry, the requests, the clocks and the presence leaves all of it
abbrev Written : WatchState → Forest → List Track → Bool → WatchState
Written s g ts b = record s { forest = g; tracks = ts; asked = b }

left_endures :
    (o : Outage) (i end bound due : ℕ) (miss : Type 0) (s : WatchState) (g : Forest) (ts : List Track) (b : Bool) → track_in ts i ≡ track_at s i → Endures o i end bound due miss s → Endures o i end bound due miss (Written s g ts b)
unfolding Kept Missed
left_endures o i end bound due miss s g ts b e h = record {
  end_is = ap (λ (x : Track). x.end) e ∙ h.end_is;
  last = let r = ap (λ (x : Track). rested x.last) e in let l = h.last in omega (arith, r, l);
  tries = λ u is pressed'.
      elim (h.tries u (sym (ap (λ (x : Track). x.attempt) e) ∙ is) pressed') as (λ _. Kept i bound miss (Written s g ts b) u ⊎ Missed i bound due (cut o) miss (Written s g ts b) u) [
        | inl kept ↦ inl (kept.0, (kept.1.0, λ free. kept.1.1 (sym (ap (λ (x : Track). x.out) e) ∙ free)))
        | inr missed ↦ inr (missed.0, (ap (λ (x : Track). x.out) e ∙ missed.1.0, missed.1.1))
      ];
  out = All-weaker (Cutting o i bound miss s) (Cutting o i bound miss (Written s g ts b)) (λ r k is. ((k is).0, λ pressed'. (k is).1 (sym (ap is_pressed e) ∙ pressed'))) s.out h.out;
  silent' = h.silent';
}

-- and fewer may wait
left_through :
    (f : Facts) (due k m : ℕ) (s : WatchState) (g : Forest) (ts : List Track) (b : Bool) → track_in ts f.i ≡ track_at s f.i → m ≤ k → IsThrough f due k s → IsThrough f due m (Written s g ts b)
left_through f due k m s g ts b e less (inl (inl h)) = let count = h.count in inl (inl (record {
  endures = left_endures f.o f.i f.end f.time due ⊥ s g ts b e h.endures;
  idle = ap (λ (x : Track). x.out) e ∙ h.idle;
  whole = h.whole;
  r = h.r;
  from = h.from;
  count = omega (arith, count, less);
  fewer = h.fewer;
  base = h.base;
  reach = h.reach;
  over = h.over;
  base_ahead = h.base_ahead;
  base_by = h.base_by;
  start = h.start;
  next = h.next;
}))
left_through f due k m s g ts b e less (inl (inr h)) = let count = h.count in inl (inr (record {
  endures = left_endures f.o f.i f.end (free_from f) due Unit s g ts b e h.endures;
  unserved = h.unserved;
  r = h.r;
  count = omega (arith, count, less);
  fewer = h.fewer;
  room = h.room;
  next = h.next;
}))
left_through f due k m s g ts b e less (inr (inl h)) = let count = h.count in inr (inl (record {
  endures = left_endures f.o f.i f.end (free_from f) due Unit s g ts b e h.endures;
  unserved = h.unserved;
  back = h.back;
  r = h.r;
  from = h.from;
  last = h.last;
  count = omega (arith, count, less);
  fewer = h.fewer;
  room = h.room;
  start = h.start;
  last_ahead = h.last_ahead;
  last_by = h.last_by;
  since = h.since;
  now = h.now;
  next = h.next;
}))
left_through f due k m s g ts b e less (inr (inr (inl h))) =
    inr (inr (inl (record { served = h.served; sent = h.sent; whole = h.whole; next = h.next; last_ahead = h.last_ahead; last_by = h.last_by })))
left_through f due k m s g ts b e less (inr (inr (inr h))) =
    let count = h.count in
    inr (inr (inr (record {
      endures = left_endures f.o f.i f.end f.time due ⊥ s g ts b e h.endures;
      unserved = h.unserved;
      over = h.over;
      soon = h.soon;
      from = h.from;
      count = omega (arith, count, less);
      next = h.next;
    })))

-- a need, a beginning that is asked for, an end of another
left_stays :
    (f : Facts) (due rest : ℕ) (old new : WatchState) (g : Forest) (ts : List Track) (b : Bool) → new ≡ Written old g ts b → track_in ts f.i ≡ track_at old f.i → IsBase f.width f.n new → Sends old new f.n → Same f.i old new →
    Stays f due (Until f old new rest) old → Stays f due (After f new rest) new
left_stays f due rest old new g ts b is e base sends same h =
    let go = h.going in
    let clock = ap (λ (x : WatchState). x.clocks.at) is in
    let ahead = go.ahead in
    let by = go.by in
    let all = fewer_wait f.o 0 f.width f.n old new go.base base sends in
    let outs = ap (λ (x : WatchState). how_many (f.n + f.width) (is_anew f.o 0 x)) is in
    let less : After f new rest ≤ Until f old new rest = omega (arith, all, outs) in
    record {
      going = record {
        base = base;
        entries = same.count ∙ go.entries;
        time = λ loose.
            let e' = same_time f.i old new same in
            let h' = go.time (sym (ap (λ (x : WatchState). is_pressed (track_at x f.i)) is ∙ ap is_pressed e) ∙ loose) in
            omega (arith, e', h');
        end_is = same.ends.0 ∙ go.end_is;
        timely = subst (λ (x : WatchState). All (λ (q : Out). due ≤ outage_settled_by f.o q.since + f.o.late) x.out) (sym is) go.timely;
        ahead = omega (arith, clock, ahead);
        by = omega (arith, clock, by);
      };
      through = subst (IsThrough f due (After f new rest)) (sym is) (left_through f due (Until f old new rest) (After f new rest) old g ts b e less h.through);
    }

-- a turn
step_stays :
    (f : Facts) (due rest : ℕ) (old new : WatchState) (event : WatchEvent) (output : WatchOutput) → IsPlanned f → Step old event output new → IsIncident f.o f.i due old event → is_wanted new f.i ≡ true →
    IsBase f.width f.n new → Sends old new f.n → Same f.i old new → Stays f due (Until f old new rest) old → Stays f (outage_next_after_command f.o output.command new due) (After f new rest) new
step_stays f due rest old new (Clock wall elapsed) output planned step lived wanted base sends same h = clock_stays f due rest old new wall elapsed output planned step lived wanted base sends same h
step_stays f due rest old new (Looked j reply terms) output planned step lived wanted base sends same h =
    looked_stays f due rest old new j (request_out old.out j Look) reply terms output planned.within refl step lived.0 lived.1 base sends same h
step_stays f due rest old new (Renewed j reply) output planned step lived wanted base sends same h =
    renewed_stays f due rest old new j (request_out old.out j Renew) reply output planned.within refl step lived.0 lived.1 base sends same h
step_stays f due rest old new (Need j until) output planned step lived wanted base sends same h =
    subst (λ n. Stays f n (After f new rest) new) (sym (taken_due f.o new due output _ step.0 refl))
    (left_stays f due rest old new (with_need_until old j until).forest old.tracks old.asked step.1 refl base sends same h)
step_stays f due rest old new Begin output planned step lived wanted base sends same h =
    subst (λ n. Stays f n (After f new rest) new) (sym (taken_due f.o new due output _ step.0 refl)) (left_stays f due rest old new old.forest old.tracks true step.1 refl base sends same h)
step_stays f due rest old new (Known j end renewable) output planned step lived wanted base sends same h =
    subst (λ n. Stays f n (After f new rest) new) (sym (taken_due f.o new due output _ step.0 refl))
    (left_stays f due rest old new old.forest (known old j end renewable).tracks old.asked step.1 (known_other old j end renewable f.i lived) base sends same h)

pub turn_stays :
    (f : Facts) (due rest : ℕ) (old new : WatchState) (event : WatchEvent) (result : Result WatchOutput WatchFault) → IsPlanned f → Turn old event result new → IsLived f.o f.i due old event result → is_wanted new f.i ≡ true →
    IsBase f.width f.n new → Sends old new f.n → Same f.i old new → Stays f due (Until f old new rest) old → Stays f (outage_next_after f.o result new due) (After f new rest) new
turn_stays f due rest old new event (Ok output) planned turn lived wanted base sends same h = step_stays f due rest old new event output planned turn.1 lived wanted base sends same h
turn_stays f due rest old new event (Err fault) planned turn lived wanted base sends same h =
    left_stays f due rest old new old.forest old.tracks old.asked (refused_stays old new event fault turn) refl base sends same h

-- every turn is in time
in_time : (f : Facts) (due k : ℕ) (s : WatchState) → Stays f due k s → EndIsInTime f.o f.i f.time s
in_time f due k s h =
    let end = ap believed h.going.end_is in
    let ahead = h.going.ahead in
    let by = h.going.by in
    (subst (λ n. s.clocks.at < ms n) (sym end) ahead, subst (λ n. s.clocks.at ≤ granted_by f.o f.time n) (sym end) by)

-- a change, after which its time may come later
abbrev pub facts_after : Facts → Changed → ℕ → Facts
facts_after f c k = postponed (facts_over f c k) (from_over f.time c k)

from_more : (from : ℕ) (c : Changed) (k : ℕ) → from ≤ from_over from c k
from_more from c k = if_both (λ n. from ≤ n) (is_pressed (track_at c.state k)) from (max from (ms (time_of c.state k))) (omega arith) (omega arith)

from_late : (from : ℕ) (c : Changed) (k : ℕ) → is_pressed (track_at c.state k) ≡ false → ms (time_of c.state k) ≤ from_over from c k
from_late from c k loose = let e = cond-false (is_pressed (track_at c.state k)) from (max from (ms (time_of c.state k))) loose in omega (arith, e)

-- where that is later, it is not pressed and its time comes later
from_later : (from : ℕ) (c : Changed) (k : ℕ) → from < from_over from c k → (is_pressed (track_at c.state k) ≡ false) × ((from_over from c k ≡ ms (time_of c.state k)) × (from < ms (time_of c.state k)))
from_later from c k =
    if_cases (λ n. from < n → (is_pressed (track_at c.state k) ≡ false) × ((n ≡ ms (time_of c.state k)) × (from < ms (time_of c.state k)))) (is_pressed (track_at c.state k)) from (max from (ms (time_of c.state k)))
    (λ is later. absurd (omega (arith, later))) (λ loose later. (loose, (omega (arith, later), omega (arith, later))))

pub changed_stays :
    (f : Facts) (due rest : ℕ) (old : WatchState) (c : Changed) (h : IsChanged old c) (k : ℕ) → IsPlanned f → IsLivedChange f.o old c f.i k →
    Stays f due (waiting f.o f.n old + (how_many (length c.forest.entries) (comes_over old c) + rest)) old →
    IsPlanned (facts_after f c k) × Stays (facts_after f c k) due (waiting f.o (length c.forest.entries) c.state + rest) c.state
changed_stays f due rest old c h k planned lived stays =
    let from = from_over f.time c k in
    let le = from_more f.time c k in
    let same = pressed_over old c h f.i k lived.kept in
    let is : believed (track_at c.state k).end ≡ f.end = ap believed (end_kept f due old c h k lived.kept ∙ stays.going.end_is) in
    let over : IsPlanned (facts_over f c k) = record { wide = planned.wide; within = low old c h f.i k lived.kept; order = planned.order; short = planned.short; end_is = planned.end_is } in
    let planned' : IsPlanned (facts_after f c k) =
    postponed_planned (facts_over f c k) from le over
    (λ later.
    let l = from_later f.time c k later in
    let loose = sym same ∙ l.0 in
    let come = stays.going.time loose in
    let late = l.1.1 in
    let short = lived.left loose (omega (arith, come, late)) in
    subst (λ n. IsShortFor f.o (ms f.end - n)) (sym l.1.0) (subst (λ n. IsShortFor f.o (ms n - ms (time_of c.state k))) is short)) in (
      planned',
      record {
        going = going_over f due old c h k lived.kept from le (from_late f.time c k) stays.going;
        through =
            postponed_through (facts_over f c k) from due (waiting f.o (length c.forest.entries) c.state + rest) c.state le planned'
            (through_over f due old c h k lived.kept (waiting f.o f.n old + (how_many (length c.forest.entries) (comes_over old c) + rest)) (waiting f.o (length c.forest.entries) c.state + rest)
            (fewer_over f.o old c h f.width f.n rest stays.going.entries stays.going.base) stays.through);
      },
    )

along :
    (f : Facts) → IsPlanned f → (hs : List Happening) (due : ℕ) (old : WatchState) → AllHappen old hs → AreLived f.o f.i due old hs → Stays f due (waiting f.o f.n old + coming_through f.o old hs) old →
    AllInTime f.o f.i f.time hs
along f planned [] due old history lived h = tt
along f planned (Hands turn ∷ hs) due old history lived h =
    let rest = coming_through f.o turn.state hs in
    let base = turn_base f.width f.n old turn.state turn.event turn.result history.0 h.going.base in
    let count = base.count in
    let sends = turn_sends old turn.state turn.event turn.result f.n (omega (arith, count)) history.0 in
    let same = turn_same f.o f.i due old turn.state turn.event turn.result history.0 lived.0 in
    let stays = subst (λ n. Stays f due (waiting f.o f.n old + (how_many n (comes f.o old turn.state) + rest)) old) h.going.entries h in
    let here = turn_stays f due rest old turn.state turn.event turn.result planned history.0 lived.0 lived.1.0 base sends same stays in (
      in_time f (outage_next_after f.o turn.result turn.state due) (After f turn.state rest) turn.state here,
      along f planned hs (outage_next_after f.o turn.result turn.state due) turn.state history.1 lived.1.1 here,
    )
along f planned (Changes c ∷ hs) due old history lived h = λ k said.
    let j = lived.0 in
    let change = lived.1.0 in
    let same : j ≡ k = history.0.may.once f.i j k change.kept said in
    let rest = coming_through f.o c.state hs in
    let g = facts_after f c j in
    let here = changed_stays f due rest old c history.0 j planned change h in
    subst (λ m. EndIsInTime f.o m (from_over f.time c m) c.state × AllInTime f.o m (from_over f.time c m) hs) same
    (in_time g due (waiting f.o (length c.forest.entries) c.state + rest) c.state here.1, along g here.0 hs due c.state history.1 lived.1.1.1 here.1)

-- the end that is a margin after the time
end_known : (e : End) (margin n : ℕ) (x : Track) (need : ℕ) → x.end ≡ e → wants x need ≡ true → n < time_before e margin → (k : ℕ) × ((e ≡ At k) × (k ≡ time_before e margin + margin))
unfolding wants
end_known Unknown margin n x need is wanted h = absurd (omega (arith, h))
end_known (At k) margin n x need is wanted h = (k, (refl, omega (arith, h)))
end_known Never margin n x need is wanted h =
    let led = (and_parts (x.renewable || is_unknown x.end) ((not x.top || x.last_try) && (not (is_never x.end) && nat_lt (believed x.end) need)) wanted).1 in
    let ends = (and_parts (not x.top || x.last_try) (not (is_never x.end) && nat_lt (believed x.end) need) led).1 in
    let lasts = (and_parts (not (is_never x.end)) (nat_lt (believed x.end) need) ends).0 in
    absurd (not_both lasts (ap (λ e. not (is_never e)) is))

plan_margin : (s : WatchState) (i : ℕ) → is_in_plan s.forest.margin (entry_of s i) (track_at s i) ≡ true → own_margin s.forest.margin (entry_of s i) (track_at s i) ≡ s.forest.margin
unfolding is_in_plan
plan_margin s i h = eqb-true (own_margin s.forest.margin (entry_of s i) (track_at s i)) s.forest.margin h

time_is : (s : WatchState) (i : ℕ) → is_in_plan s.forest.margin (entry_of s i) (track_at s i) ≡ true → (track_at s i).top ≡ false → time_of s i ≡ time_before (track_at s i).end s.forest.margin
unfolding time
time_is s i h led = ap (time_before (track_at s i).end) (asking_own s.forest.margin (entry_of s i) (track_at s i) led ∙ plan_margin s i h)

record First (s : WatchState) (i : ℕ) : Type 0 where
  end : ℕ
  end_is : (track_at s i).end ≡ At end
  sum : end ≡ time_of s i + s.forest.margin

first_end : (s : WatchState) (i : ℕ) → IsBefore s i → First s i
first_end s i b =
    let t = time_is s i b.in_plan b.not_topped in
    let ahead = b.ahead in
    let k = end_known (track_at s i).end s.forest.margin (second s) (track_at s i) (wanted_need s i) refl b.wanted (omega (arith, t, ahead)) in
    let sum = k.1.1 in
    record { end = k.0; end_is = k.1.0; sum = omega (arith, sum, t) }

-- what is left holds more than a second
left_over : (o : Outage) (end from : ℕ) → IsShortFor o (ms end - from) → ms end ≡ from + (ms end - from)
left_over o end from short = omega (arith, short)

-- the first stage
first_endures :
    (o : Outage) (i from end bound due : ℕ) (miss : Type 0) (s : WatchState) → MayBeAsked s i from → (track_at s i).end ≡ At end → from ≤ bound → rested (track_at s i).last ≤ bound → All (Cutting o i bound miss s) s.out →
    (list_any is_silent s.answers ≡ true → s.presence.away ≡ true → ⊥) → Endures o i end bound due miss s
unfolding Kept Missed
first_endures o i from end bound due miss s b end_is reach low cuts quiet = record {
  end_is = end_is;
  last = low;
  tries = λ u is pressed'. let k = b.first u is pressed' in let at = k.1.1 in inl (k.1.0, (omega (arith, at, reach), λ free. inl k.0));
  out = cuts;
  silent' = λ any away. absurd (quiet any away);
}

-- all that is out is whole, and the next clock comes soon; or the outage has begun; or it is over, and what it cut is settled soon
abbrev Begins : Facts → ℕ → WatchState → Type 0
Begins f due s =
    (All (λ (q : Out). is_request_whole f.o q.since ≡ true) s.out × (due ≤ f.time + turn_of f.o))
    ⊎ (((s.clocks.at < f.o.until) × ((f.o.from < s.clocks.at + f.o.quick) × (due ≤ free_from f + f.o.late))) ⊎ ((f.o.until ≤ s.clocks.at) × (due ≤ cut f.o)))

abbrev pub facts_of : Outage → ℕ → ℕ → ℕ → ℕ → ℕ → Facts
facts_of o i n width from end = record { o = o; i = i; n = n; width = width; time = from; end = end; left = ms end - from }

-- where a request of it is out that is whole
first_served :
    (o : Outage) (width n : ℕ) (s : WatchState) (i from due end : ℕ) → IsPlanned (facts_of o i n width from end) → IsBase width n s → s.clocks.at < from → All (λ (q : Out). due ≤ outage_settled_by o q.since + o.late) s.out →
    is_request_served o s i ≡ true → IsServed (facts_of o i n width from end) due s
first_served o width n s i from due end planned base before timely served =
    let at = s.clocks.at in
    let now = base.since in
    let only = only_whole o i s base.alone served in
    let holds = margin_holds (facts_of o i n width from end) planned in
    record {
      served = served;
      sent = at;
      whole = λ k d below is. (only k d below is, now k d below);
      next =
          any_gives (due ≤ at + turn_of o) (λ (q : Out). q.entry == i && is_request_whole o q.since) s.out served
          (λ k d below yes'.
          let q = get_or s.out k d in
          let both = and_parts (q.entry == i) (is_request_whole o q.since) yes' in
          let e = quick_if o q.since both.1 in
          let l = timely k d below in
          let le = now k d below in
          omega (arith, e, l, le));
      last_ahead = omega (arith, before, holds);
      last_by = omega (arith, before);
    }

first_stays :
    (o : Outage) (width n : ℕ) (s : WatchState) (i from due k end : ℕ) → IsPlanned (facts_of o i n width from end) → IsBase width n s → length s.forest.entries ≡ n → MayBeAsked s i from → (track_at s i).end ≡ At end →
    (list_any is_silent s.answers ≡ true → s.presence.away ≡ true → ⊥) → All (λ (q : Out). due ≤ outage_settled_by o q.since + o.late) s.out →
    k ≤ width * o.rounds → (is_request_served o s i ≡ false → Begins (facts_of o i n width from end) due s) → Stays (facts_of o i n width from end) due k s
first_stays o width n s i from due k end planned base entries b end_is quiet timely few begins =
    let f : Facts = facts_of o i n width from end in
    let at = s.clocks.at in
    let before = b.ahead in
    let sum = planned.end_is in
    let reach : from ≤ free_from f = omega arith in
    let now = base.since in
    record {
      going = record {
        base = base;
        entries = entries;
        time = b.come;
        end_is = end_is;
        timely = timely;
        ahead = omega (arith, before, sum);
        by = omega (arith, before);
      };
      through = elim (cases_Bool (is_request_served o s i)) as (λ _. IsThrough f due k s) [
        | inl served ↦ inr (inr (inl (first_served o width n s i from due end planned base before timely served)))
        | inr unserved ↦
            let only = only_cut o i s unserved in
            elim (begins unserved) as (λ _. IsThrough f due k s) [
              | inl there ↦
                  let zero' = anew_none o (suc at) (n + width) s now (omega arith) in
                  let soon = there.1 in
                  let idle' = not_out o i s base.marked unserved there.0 in
                  inl (inl (record {
                    endures = first_endures o i from end from due ⊥ s b end_is (omega arith) (b.rested (λ pressed'. idle')) (λ k d below is. absurd (not_both (there.0 k d below) (only k d below is))) quiet;
                    idle = idle';
                    whole = there.0;
                    r = o.rounds;
                    from = at;
                    count = omega (arith, few, zero');
                    fewer = omega arith;
                    base = from;
                    reach = omega arith;
                    over = inl refl;
                    base_ahead = (let holds = margin_holds f planned in omega (arith, holds));
                    base_by = reach;
                    start = omega (arith, before);
                    next = omega (arith, soon);
                  }))
              | inr begun' ↦
                  elim begun' as (λ _. IsThrough f due k s) [
                    | inr late ↦
                        let zero' = anew_none o (suc at) (n + width) s now (omega arith) in
                        let over = late.0 in
                        let never : is_pressed (track_at s i) ≡ true → All (λ (q : Out). q.entry ≡ i → ⊥) s.out =
                        λ pressed' k d below is.
                        let c = (not_whole o (get_or s.out k d).since (only k d below is)).1 in
                        let e = (b.fresh k d below is pressed').1 in
                        omega (arith, c, e, over) in
                        inr (inr (inr (record {
                          endures =
                              first_endures o i from end from due ⊥ s b end_is (omega arith) (b.rested (λ pressed'. none_out i s base.marked (never pressed')))
                              (λ k d below is. (only k d below is, λ pressed'. absurd (never pressed' k d below is))) quiet;
                          unserved = unserved;
                          over = over;
                          soon = omega (arith, over, before);
                          from = at;
                          count = omega (arith, few, zero');
                          next = late.1;
                        })))
                    | inl broke ↦
                        let early = broke.0 in
                        let late = broke.1.0 in
                        let last = base.past.last i in
                        let zero' = anew_none o o.until (n + width) s now early in
                        inl (inr (record {
                          endures =
                              first_endures o i from end (free_from f) due Unit s b end_is reach (omega (arith, last, early))
                              (λ k d below is. (only k d below is, λ pressed'. (tt, λ heard'. absurd (not_both heard' (b.fresh k d below is pressed').0)))) quiet;
                          unserved = unserved;
                          r = o.rounds;
                          count = omega (arith, few, zero');
                          fewer = omega arith;
                          room = omega (arith, late, before);
                          next = broke.1.1;
                        }))
                  ]
            ]
      ];
    }

-- all that is out is whole, or the outage has begun, or it is over; and what it cut is settled soon
whole_or_broke :
    (o : Outage) (s : WatchState) (due : ℕ) → All (λ (q : Out). q.since ≤ s.clocks.at) s.out → All (λ (q : Out). due ≤ outage_settled_by o q.since + o.late) s.out →
    All (λ (q : Out). is_request_whole o q.since ≡ true) s.out ⊎ (((s.clocks.at < o.until) × ((o.from < s.clocks.at + o.quick) × (due ≤ cut o))) ⊎ ((o.until ≤ s.clocks.at) × (due ≤ cut o)))
whole_or_broke o s due now timely =
    let at = s.clocks.at in
    elim (cases_Bool (list_any (λ (q : Out). not (is_request_whole o q.since)) s.out))
    as (λ _. All (λ (q : Out). is_request_whole o q.since ≡ true) s.out ⊎ (((at < o.until) × ((o.from < at + o.quick) × (due ≤ cut o))) ⊎ ((o.until ≤ at) × (due ≤ cut o)))) [
      | inr all_whole ↦
          inl (All-weaker (λ (q : Out). not (is_request_whole o q.since) ≡ false) (λ (q : Out). is_request_whole o q.since ≡ true) (λ q h. so_whole (is_request_whole o q.since) h) s.out
          (none_passes (λ (q : Out). not (is_request_whole o q.since)) s.out all_whole))
      | inl broke ↦
          let soon : due ≤ cut o =
          any_gives (due ≤ cut o) (λ (q : Out). not (is_request_whole o q.since)) s.out broke
          (λ j d below no'.
          let q = get_or s.out j d in
          let c = cut_off o q.since (not_so (is_request_whole o q.since) no') in
          let l = timely j d below in
          omega (arith, c, l)) in
          elim (cases_lt at o.until) as (λ _. All (λ (q : Out). is_request_whole o q.since ≡ true) s.out ⊎ (((at < o.until) × ((o.from < at + o.quick) × (due ≤ cut o))) ⊎ ((o.until ≤ at) × (due ≤ cut o)))) [
            | inl early ↦
                let late : o.from < at + o.quick =
                any_gives (o.from < at + o.quick) (λ (q : Out). not (is_request_whole o q.since)) s.out broke
                (λ j d below no'.
                let q = get_or s.out j d in
                let h = not_whole o q.since (not_so (is_request_whole o q.since) no') in
                let l = h.0 in
                let le = now j d below in
                omega (arith, l, le)) in
                inr (inl (early, (late, soon)))
            | inr over ↦ inr (inr (over, soon))
          ]
    ]

-- until then is waited at most, or some request is out
waits_for :
    (old s : WatchState) (wall elapsed : ℕ) (output : WatchOutput) (i from width n : ℕ) → Ticks old s wall elapsed output → 0 < width → IsBase width n s → MayBeAsked s i from → (track_at s i).out ≡ false →
    (wait s ≤ from) ⊎ (1 ≤ length s.out)
waits_for old s wall elapsed output i from width n h wide base b free =
    let ready' = readied old wall elapsed in
    let end = sent (pressed ready' h.round) h.requests in
    let is = h.new_is in
    let there : i < length ready'.forest.entries = subst (λ (x : WatchState). i < length x.forest.entries) is b.within in
    let free' : (track_at end i).out ≡ false = subst (λ (x : WatchState). (track_at x i).out ≡ false) is free in
    subst (λ (x : WatchState). (wait x ≤ from) ⊎ (1 ≤ length x.out)) (sym is)
    (elim (end_tended ready' h.round h.requests i h.going there (subst (λ (x : WatchState). is_wanted x i ≡ true) is b.wanted) free') as (λ _. (wait end ≤ from) ⊎ (1 ≤ length end.out)) [
      | inl pressed' ↦
          let u = pressed'.has.attempt in
          let k = b.first u (subst (λ (x : WatchState). attempt_at x i ≡ Some u) (sym is) pressed'.has.attempt_is) pressed'.pressed in
          elim (tended ready' h.round h.requests i u h.going there free' pressed'.has.attempt_is) as (λ _. (wait end ≤ from) ⊎ (1 ≤ length end.out)) [
            | inl later ↦
                let r = ready_first end.presence (track_at end i) u from k.0 k.1.1 in
                let until = later.1 in
                inl (omega (arith, r, until))
            | inr full ↦ (let w = ap (λ (x : WatchState). x.width) (sym is) ∙ base.fits.0 in inr (omega (arith, full, w, wide)))
          ]
      | inr ahead ↦
          let come : ms (time_of end i) ≤ from =
          subst (λ (x : WatchState). ms (time_of x i) ≤ from) is (b.come (ap (λ (x : WatchState). is_pressed (track_at x i)) is ∙ ahead.0)) in
          let heeded = ahead.1.heeded in
          inl (omega (arith, heeded, come))
    ])

-- an end that is known, of an entry that is wanted
known_end : (e : End) (x : Track) (need : ℕ) → x.end ≡ e → wants x need ≡ true → is_known e ≡ true → (k : ℕ) × (e ≡ At k)
known_end (At k) x need is wanted known' = (k, refl)
known_end _ x need is wanted known' = absurd cc

-- an entry outlives an outage from a state on, where due is by when the next clock comes, and k how many wait or will
pub record WillOutlive (o : Outage) (width i from due k : ℕ) (s : WatchState) : Type 0 where
  pub end : ℕ
  pub planned : IsPlanned (facts_of o i (length s.forest.entries) width from end)
  pub stays : Stays (facts_of o i (length s.forest.entries) width from end) due k s

-- so it does whatever the turn is from which on it is lived
from_there :
    (o : Outage) (old : WatchState) (last : Turned) (hs : List Happening) (i from due : ℕ) → IsReached old → 0 < old.width → AllHappen old (Hands last ∷ hs) → MayBeAsked last.state i from →
    in_line o last.state hs ≤ old.width * o.rounds → o.from ≤ o.until → IsShortFor o (ms (believed (track_at last.state i).end) - from) →
    (list_any is_silent last.state.answers ≡ true → last.state.presence.away ≡ true → ⊥) →
    All (λ (q : Out). due ≤ outage_settled_by o q.since + o.late) last.state.out →
    ((f : Facts) → f.o ≡ o → f.time ≡ from → IsBase old.width (length last.state.forest.entries) last.state → is_request_served o last.state i ≡ false → Begins f due last.state) →
    WillOutlive o old.width i from due (in_line o last.state hs) last.state
from_there o old last hs i from due reached wide history b few order short quiet timely begins =
    let width = old.width in
    let s = last.state in
    let n = length s.forest.entries in
    let base = last_base old last [] reached (history.0, tt) in
    let e = known_end (track_at s i).end (track_at s i) (wanted_need s i) refl b.wanted b.known in
    let f : Facts = facts_of o i n width from e.0 in
    let low = b.within in
    let is : believed (track_at s i).end ≡ e.0 = ap believed e.1 in
    let short' : IsShortFor o (ms e.0 - from) = subst (λ k. IsShortFor o (ms k - from)) is short in
    let planned : IsPlanned f = record { wide = wide; within = low; order = order; short = short'; end_is = left_over o e.0 from short' } in
    record { end = e.0; planned = planned; stays = first_stays o width n s i from due (in_line o s hs) e.0 planned base refl b e.1 quiet timely few (begins f refl refl base) }

lived_there :
    (o : Outage) (width i from due : ℕ) (s : WatchState) (hs : List Happening) → AllHappen s hs → AreLived o i due s hs → WillOutlive o width i from due (in_line o s hs) s → AllInTime o i from hs
lived_there o width i from due s hs history lived h = along (facts_of o i (length s.forest.entries) width from h.end) h.planned hs due s history lived h.stays

pub outlives_from_clock :
    (o : Outage) (old : WatchState) (last : Turned) (hs : List Happening) (i from : ℕ) → IsReached old → 0 < old.width → AllHappen old (Hands last ∷ hs) → is_clock last.event ≡ true →
    is_event_taken last.result ≡ true → MayBeAsked last.state i from → in_line o last.state hs ≤ old.width * o.rounds → o.from ≤ o.until → IsShortFor o (ms (believed (track_at last.state i).end) - from) →
    WillOutlive o old.width i from (outage_next_after o last.result last.state 0) (in_line o last.state hs) last.state
outlives_from_clock o old last hs i from reached wide history clock taken' b few order short =
    let s = last.state in
    let start = starts o old last last.event last.result refl history.0 clock taken' in
    let answers : s.answers ≡ [] = ap (λ (x : WatchState). x.answers) start.ticks'.new_is ∙ readied_answers old start.wall start.elapsed in
    let due = outage_next_by o (wait s) s.out in
    let timely = least_all (λ (q : Out). outage_settled_by o q.since + o.late) (wait s + o.late) s.out in
    subst (λ d. WillOutlive o old.width i from d (in_line o s hs) s) (sym start.due)
    (from_there o old last hs i from due reached wide history b few order short (λ any away. absurd (not_both any (ap (list_any is_silent) answers))) timely
    (λ f same time base unserved.
    let late = ap (λ (x : Outage). x.late) same in
    let quick = ap (λ (x : Outage). x.quick) same in
    let from' = ap (λ (x : Outage). x.from) same in
    let until' = ap (λ (x : Outage). x.until) same in
    let ends : cut f.o ≡ cut o = ap cut same in
    let reach : again f.end (cut f.o) ≤ free_from f = omega arith in
    elim (whole_or_broke o s due base.since timely) as (λ _. Begins f due s) [
      | inl whole ↦
          let free = not_out o i s base.marked unserved whole in
          let least' = least_start (wait s + o.late) (map (λ (q : Out). outage_settled_by o q.since + o.late) s.out) in
          let ahead = b.ahead in
          let now = base.since in
          let soon : due ≤ from + turn_of o =
          elim (waits_for old s start.wall start.elapsed start.output i from old.width (length s.forest.entries) start.ticks' wide base b free) as (λ _. due ≤ from + turn_of o) [
            | inl until ↦ omega (arith, until, least')
            | inr some' ↦
                any_gives (due ≤ from + turn_of o) (λ q. true) s.out (some_lane s.out some')
                (λ k d below yes'.
                let q = get_or s.out k d in
                let e = quick_if o q.since (whole k d below) in
                let l = timely k d below in
                let le = now k d below in
                omega (arith, e, l, le, ahead))
          ] in
          inl (subst (λ (x : Outage). All (λ (q : Out). is_request_whole x q.since ≡ true) s.out) (sym same) whole, omega (arith, soon, late, quick, time))
      | inr begun' ↦
          elim begun' as (λ _. Begins f due s) [
            | inl broke ↦
                let early = broke.0 in
                let gone = broke.1.0 in
                let by' = broke.1.1 in
                inr (inl (omega (arith, early, until'), (omega (arith, gone, from', quick), omega (arith, by', reach, ends))))
            | inr over ↦
                let late' = over.0 in
                let by' = over.1 in
                inr (inr (omega (arith, late', until'), omega (arith, by', ends)))
          ]
    ]))

pub left_from_clock :
    (o : Outage) (old : WatchState) (last : Turned) (hs : List Happening) (i from : ℕ) → IsReached old → 0 < old.width → AllHappen old (Hands last ∷ hs) → is_clock last.event ≡ true →
    is_event_taken last.result ≡ true → MayBeAsked last.state i from → AreLived o i (outage_next_after o last.result last.state 0) last.state hs →
    in_line o last.state hs ≤ old.width * o.rounds → o.from ≤ o.until → IsShortFor o (ms (believed (track_at last.state i).end) - from) → AllInTime o i from hs
left_from_clock o old last hs i from reached wide history clock taken' b lived few order short =
    lived_there o old.width i from (outage_next_after o last.result last.state 0) last.state hs history.1 lived (outlives_from_clock o old last hs i from reached wide history clock taken' b few order short)

-- what tells an end shows that the broker is there
told_real : (reply : WatchReply) → is_told reply ≡ true → is_real reply ≡ true
told_real (Told seconds renewable date) h = refl
told_real _ h = absurd cc

looked_there : (old new : WatchState) (found : Option Out) (reply : WatchReply) (terms : WatchTerms) (output : WatchOutput) → StepLooked old found reply terms output new → is_told reply ≡ true → new.presence.away ≡ false
looked_there old new None reply terms output step told = absurd step
looked_there old new (Some q) reply terms output step told =
    ap (λ (x : WatchState). x.presence.away) step.1 ∙ real_away (looked (noted old q reply) q reply terms) q reply (told_real reply told)

renewed_there : (old new : WatchState) (found : Option Out) (reply : WatchReply) (output : WatchOutput) → StepRenewed old found reply output new → is_told reply ≡ true → new.presence.away ≡ false
renewed_there old new None reply output step told = absurd step
renewed_there old new (Some q) reply output step told = ap (λ (x : WatchState). x.presence.away) step.1 ∙ real_away (state_renewed (noted old q reply) q reply) q reply (told_real reply told)

told_there : (old new : WatchState) (event : WatchEvent) (result : Result WatchOutput WatchFault) (i : ℕ) → Turn old event result new → is_event_taken result ≡ true → tells i event ≡ true → new.presence.away ≡ false
told_there old new (Looked j reply terms) (Ok output) i turn taken' told = looked_there old new (request_out old.out j Look) reply terms output turn.1 (and_parts (j == i) (is_told reply) told).1
told_there old new (Renewed j reply) (Ok output) i turn taken' told = renewed_there old new (request_out old.out j Renew) reply output turn.1 (and_parts (j == i) (is_told reply) told).1
told_there old new event (Err fault) i turn taken' told = absurd (true≢false (sym taken'))
told_there old new _ (Ok output) i turn taken' told = absurd cc

asked_before : (last : Option ℕ) (at : ℕ) → rested last ≤ at + 1000 → clock_asked_at last ≤ at
asked_before None at h = omega arith
asked_before (Some n) at h = omega (arith, h)

pub outlives_from_told :
    (o : Outage) (old : WatchState) (grant : Turned) (hs : List Happening) (i from : ℕ) → IsReached old → 0 < old.width → AllHappen old (Hands grant ∷ hs) → tells i grant.event ≡ true →
    is_event_taken grant.result ≡ true → MayBeAsked grant.state i from → in_line o grant.state hs ≤ old.width * o.rounds → o.from ≤ o.until →
    IsShortFor o (ms (believed (track_at grant.state i).end) - from) → WillOutlive o old.width i from (granted_next o grant.state i) (in_line o grant.state hs) grant.state
outlives_from_told o old grant hs i from reached wide history told taken' b few order short =
    let s = grant.state in
    let at = s.clocks.at in
    let there = told_there old s grant.event grant.result i history.0 taken' told in
    let asked = granted_at s i in
    let due = granted_next o s i in
    let timely = least_all (λ (q : Out). outage_settled_by o q.since + o.late) (outage_settled_by o asked + o.late) s.out in
    from_there o old grant hs i from due reached wide history b few order short (λ any away. absurd (not_both away there)) timely
    (λ f same time base unserved.
    let least' = least_start (outage_settled_by o asked + o.late) (map (λ (q : Out). outage_settled_by o q.since + o.late) s.out) in
    let early = asked_before (track_at s i).last at (base.past.last i) in
    let ahead = b.ahead in
    let late = ap (λ (x : Outage). x.late) same in
    let quick = ap (λ (x : Outage). x.quick) same in
    let from' = ap (λ (x : Outage). x.from) same in
    let until' = ap (λ (x : Outage). x.until) same in
    let reach : again f.end (cut f.o) ≤ free_from f = omega arith in
    let ends : cut f.o ≡ cut o = ap cut same in
    elim (cases_Bool (is_request_whole o asked)) as (λ _. Begins f due s) [
      | inl whole ↦
          let e = quick_if o asked whole in
          let soon : due ≤ at + turn_of o = omega (arith, least', e, early) in
          elim (whole_or_broke o s due base.since timely) as (λ _. Begins f due s) [
            | inl all ↦ inl (subst (λ (x : Outage). All (λ (q : Out). is_request_whole x q.since ≡ true) s.out) (sym same) all, omega (arith, soon, ahead, late, quick, time))
            | inr begun' ↦
                elim begun' as (λ _. Begins f due s) [
                  | inl broke ↦
                      let a = broke.0 in
                      let c = broke.1.0 in
                      let by' = broke.1.1 in
                      inr (inl (omega (arith, a, until'), (omega (arith, c, from', quick), omega (arith, by', reach, ends))))
                  | inr over ↦
                      let late' = over.0 in
                      let by' = over.1 in
                      inr (inr (omega (arith, late', until'), omega (arith, by', ends)))
                ]
          ]
      | inr cut_short ↦
          let h = not_whole o asked cut_short in
          let gone = h.0 in
          let k = cut_off o asked cut_short in
          elim (cases_lt at o.until) as (λ _. Begins f due s) [
            | inl open' ↦ inr (inl (omega (arith, open', until'), (omega (arith, gone, early, from', quick), omega (arith, least', k, reach, ends))))
            | inr over ↦ inr (inr (omega (arith, over, until'), omega (arith, least', k, ends)))
          ]
    ])

left_from_told :
    (o : Outage) (old : WatchState) (grant : Turned) (hs : List Happening) (i from : ℕ) → IsReached old → 0 < old.width → AllHappen old (Hands grant ∷ hs) → tells i grant.event ≡ true →
    is_event_taken grant.result ≡ true → MayBeAsked grant.state i from → AreLived o i (granted_next o grant.state i) grant.state hs →
    in_line o grant.state hs ≤ old.width * o.rounds → o.from ≤ o.until → IsShortFor o (ms (believed (track_at grant.state i).end) - from) → AllInTime o i from hs
left_from_told o old grant hs i from reached wide history told taken' b lived few order short =
    lived_there o old.width i from (granted_next o grant.state i) grant.state hs history.1 lived (outlives_from_told o old grant hs i from reached wide history told taken' b few order short)

pub left : LeftLaw
left o old last hs i from due reached wide history (inl clock) b lived few order short =
    left_from_clock o old last hs i from reached wide history clock.0 clock.1.0 b (subst (λ d. AreLived o i d last.state hs) clock.1.1 lived) few order short
left o old last hs i from due reached wide history (inr told) b lived few order short =
    left_from_told o old last hs i from reached wide history told.0 told.1.0 b (subst (λ d. AreLived o i d last.state hs) told.1.1 lived) few order short

-- in the plan, where the time is ahead: what is left from there on is the margin
pub may_at_time : (s : WatchState) (i : ℕ) → IsBefore s i → MayBeAsked s i (ms (time_of s i)) × (ms (believed (track_at s i).end) - ms (time_of s i) ≡ ms s.forest.margin)
may_at_time s i b =
    let e = first_end s i b in
    let is = ap believed e.end_is in
    let sum = e.sum in (
      record {
        within = b.within;
        wanted = b.wanted;
        known = ap is_known e.end_is;
        first = λ u is' pressed'. absurd (not_both (ap is_pressed_try is' ∙ pressed') b.loose);
        fresh = λ k d below is' pressed'. absurd (not_both pressed' b.loose);
        come = λ loose. omega arith;
        ahead = before_second s (time_of s i) b.ahead;
        rested = λ free. b.rested;
      },
      omega (arith, is, sum),
    )

pub outlives : OutageLaw
outlives o old last hs i reached wide history clock taken' b lived few order short =
    let m = may_at_time last.state i b in
    left_from_clock o old last hs i (ms (time_of last.state i)) reached wide history clock taken' m.0 lived few order (subst (IsShortFor o) (sym m.1) short)

pub outlives_again : GrantLaw
outlives_again o old grant hs i reached wide history b lived few order short =
    let m = may_at_time grant.state i b.before in
    left_from_told o old grant hs i (ms (time_of grant.state i)) reached wide history b.told b.taken m.0 lived few order (subst (IsShortFor o) (sym m.1) short)
