-- Held: who is held up while the broker is there and somebody is alone goes out as soon as the lanes have served whoever stands before it.
-- For the law of partial outages.
use Rattle.std.proofs.Common.{◌≡◌, ◌⊎◌, ◌∙◌, ℕ, ◌+◌, ◌-◌, ◌*◌, ◌<◌, ◌≤◌, Bool, true, false, not, ◌&&◌, ◌||◌, ◌==◌, List, [], ◌∷◌, ◌++◌, Option, Some, None, All, Result, Ok, Err, get_or, length, map, refl, sym, ap, subst, arith, inl, inr, true≢false}
use Rattle.std.proofs.Math.Nat.{mul-add, mul-le-mul_left, mul_comm}
use Rattle.std.proofs.lemmas.{Bool.and_from, Bool.cases_lt, List.Elements.All-weaker}
use Rattle.std.specs.List.{list_any}
use Rattle.watch_machine.specs.{declared.command.WatchOutput.WatchOutput, declared.command.WatchRequest.WatchRequest, declared.event.WatchEvent.WatchEvent, declared.event.WatchReply.WatchReply, declared.event.WatchTerms.WatchTerms}
use Rattle.watch_machine.specs.{declared.fault.WatchFault.WatchFault, declared.lanes.Out.Out, declared.track.Track.Track, Answers.noted, Answers.replied, Clocks.sec, Looked.looked, Press.pressed, Refusal.request_out, Renewed.state_renewed}
use Rattle.watch_machine.specs.{Sending.out_at, Sending.sent, Settling.timed, Wait.wait}
use Rattle.watch_machine.specs.declared.command.WatchCommand.TheVariants.{Go, Taken}
use Rattle.watch_machine.specs.declared.event.WatchEvent.TheVariants.{Clock, Looked, Renewed, Known}
use Rattle.watch_machine.specs.declared.event.Operation.TheVariants.{Look, Renew}
use Rattle.watch_machine.specs.History.{AllHappen, Changed, Changes, Happening, Hands, IsChanged, Turn, Turned, state_after_all}
use Rattle.watch_machine.specs.State.{WatchState, track_at, track_in}
use Rattle.watch_machine.specs.Step.{Step, StepLooked, StepRenewed, readied}
use Rattle.watch_laws.specs.{Absence.is_clock, Absence.is_event_taken, Outage.one_where}
use Rattle.watch_laws.specs.Partial.{AreHolding, AreSettled, ClockIsInTime, IsCarried, IsHeld, IsHeldUp, IsHolding, Partial, PartialLaw, comes_before, comes_before_over, coming_before, due_after, index_over, keeps_lane, longest, outage_then, partial_next_after, partial_next_after_command, partial_next_by, partial_settled_by, stands_before, total, waiting_before, waits_before}
use Rattle.watch_laws.proofs.{Bases.changed_base, Bases.next_base, Carrying.fewer_over, Carrying.late_same, Clocking.readied_clocks, Clocking.refused_stays, Counting.least_all, Following.changed_entries, Foremost.all_front as before}
use Rattle.watch_laws.proofs.{Going.entry_by, Going.request_at, Recovering.full_lanes, Retrying.IsPast, Retrying.rises, Shapes.turn_shape, Topping.readied_count}
use Rattle.watch_laws.proofs.Answering.{looked_leaves, renewed_leaves, rest_of}
use Rattle.watch_laws.proofs.Fronts.{front_at, keeps_short, own_at, sent_front, sent_partial}
use Rattle.watch_laws.proofs.Grounds.{IsBase, first_happen, last_happen, turn_base}
use Rattle.watch_laws.proofs.Lanes.{Ticks, all_left, each_named, pressed_count, ticks}
use Rattle.watch_laws.proofs.Spacing.{free_of, looked_out, mid_flag, readied_out, went}
use Rattle.watch_laws.proofs.Spans.{adds_most, mapped, span, span_append, span_later, span_most, span_replied, span_same, span_sent, timely_same, totals}

-- who goes out between two states and stood before i
abbrev goes_before : ℕ → WatchState → WatchState → ℕ → Bool
goes_before i old new j = stands_before i new j && ((track_at new j).out && not (track_at old j).out)

-- it waited before, or came to
one_each : (stands out stood was : Bool) → one_where (stands && not out) + one_where (stands && (out && not was)) ≤ one_where (stood && not was) + one_where (stands && (not stood || (was && not out)))
one_each false out stood was = omega arith
one_each true true stood true = omega arith
one_each true true true false = omega arith
one_each true true false false = omega arith
one_each true false true true = omega arith
one_each true false true false = omega arith
one_each true false false was = omega arith

fewer : (o : Partial) (n i : ℕ) (old new : WatchState) → waiting_before o n i new + total n (keeps_lane o) (goes_before i old new) ≤ waiting_before o n i old + total n (keeps_lane o) (comes_before i old new)
fewer o n i old new =
    totals n (keeps_lane o) (waits_before i new) (goes_before i old new) (waits_before i old) (comes_before i old new)
    (λ j. one_each (stands_before i new j) (track_at new j).out (stands_before i old j) (track_at old j).out)

-- a clock after which i is held up: whoever goes out stood before it, and keeps its lane as long as is said
module _ (o : Partial) (width n i : ℕ) (old new : WatchState) (wall elapsed : ℕ) (output : WatchOutput) (h : Ticks old new wall elapsed output) (base : IsBase width n old) where
  abbrev mid : WatchState
  mid = pressed (readied old wall elapsed) h.round

  abbrev left : WatchState
  left = sent mid h.requests

  abbrev gone : List ℕ
  gone = h.going.entries

  abbrev at : ℕ
  at = mid.clocks.at

  mid_count : length mid.tracks ≡ n
  mid_count = pressed_count (readied old wall elapsed) h.round ∙ readied_count old wall elapsed ∙ base.count

  all_front : IsHeldUp o left i → All (λ k. front_at mid.forest (sec at) mid.tracks i k ≡ true) gone
  all_front held = before old new wall elapsed output h i held.may held.there held.own

  all_go : IsHeldUp o left i → All (λ k. goes_before i old left k ≡ true) gone
  all_go held =
      let front = all_front held in
      let all = h.going.due in
      let named = subst (λ rs. All (λ k. list_any (λ (r : WatchRequest). r.entry == k) rs ≡ true) gone) (sym h.going.requests_are) (each_named mid.presence (sec at) mid.tracks gone) in
      λ j d below.
      let k = get_or gone j d in
      let stands : stands_before i left k ≡ true = sent_front mid h.requests (sec at) i k ∙ front j d below in
      let out : (track_at left k).out ≡ true = ap (λ (x : Track). x.out) (went mid h.requests k (named j d below) (all j d below).0) in
      let free : (track_at old k).out ≡ false = sym (mid_flag old wall elapsed h.round k) ∙ (free_of mid.presence at (track_in mid.tracks k) (all j d below).1).0 in
      and_from (stands_before i left k) ((track_at left k).out && not (track_at old k).out) stands (and_from (track_at left k).out (not (track_at old k).out) out (ap not free))

  all_short : IsHeldUp o left i → All (λ r. o.takes r.entry at ≤ longest o r) h.requests → All (λ k. o.takes k at + o.late ≤ keeps_lane o k) gone
  all_short held settled =
      let front = all_front held in
      let rq = request_at mid.presence (sec at) mid.tracks in
      let alone = sent_partial mid h.requests (sec at) held.partial in
      let each' = mapped (λ r. o.takes r.entry at ≤ longest o r) rq gone (subst (All (λ r. o.takes r.entry at ≤ longest o r)) h.going.requests_are settled) in
      λ j d below.
      let k = get_or gone j d in
      keeps_short o mid.forest mid.presence (sec at) mid.tracks k at held.there alone held.patience (own_of (own_at mid.forest (sec at) mid.tracks k) _ (front j d below))
      (subst (λ m. o.takes m at ≤ longest o (rq k)) (entry_by mid.presence (sec at) mid.tracks k) (each' j d below)) where
        own_of : (a b : Bool) → a && b ≡ true → a ≡ true
        own_of true b e = refl
        own_of false b e = absurd cc

  -- so the lanes are kept no longer, all in all, than whoever waited or came to wait would keep them
  grown : IsHeldUp o left i → All (λ r. o.takes r.entry at ≤ longest o r) h.requests →
      span o at left.out + waiting_before o n i left ≤ span o at old.out + (waiting_before o n i old + total n (keeps_lane o) (comes_before i old left))
  grown held settled =
      let f = keeps_lane o in
      let rq = request_at mid.presence (sec at) mid.tracks in
      let out : left.out ≡ old.out ++ map (out_at at) (map rq gone) = ap (λ os. os ++ map (out_at at) h.requests) (readied_out old wall elapsed) ∙ ap (λ rs. old.out ++ map (out_at at) rs) h.going.requests_are in
      let both = ap (span o at) out ∙ span_append o at old.out (map (out_at at) (map rq gone)) in
      let new' = span_sent o at f rq gone (entry_by mid.presence (sec at) mid.tracks) (all_short held settled) in
      let count = mid_count in
      let all = h.going.due in
      let most = adds_most n f (goes_before i old left) gone h.going.once (λ k d below. let low = (all k d below).0 in omega (arith, low, count)) (all_go held) in
      let less = fewer o n i old left in
      omega (arith, both, new', most, less)

-- what holds after each turn: the lanes are kept until the next clock, and then as long as those that are out and those that wait and come
-- to wait keep them, and all that is no more than the bound; or the next clock would come before this one
record Timed (o : Partial) (width due bound k : ℕ) (s : WatchState) : Type 0 where
  timely : All (λ (q : Out). due ≤ partial_settled_by o q + o.late) s.out
  area : width * due + span o due s.out + k ≤ bound

record Holds (o : Partial) (width n due bound k : ℕ) (s : WatchState) : Type 0 where
  base : IsBase width n s
  rest : (due < s.clocks.at) ⊎ Timed o width due bound k s

-- from the clock at which all lanes are taken on until the next one
full_on :
    (o : Partial) (width at bound k : ℕ) (s : WatchState) → length s.out ≡ width → width * at + span o at s.out + k ≤ bound →
    (due : ℕ) → All (λ (q : Out). due ≤ partial_settled_by o q + o.late) s.out → at ≤ due → Timed o width due bound k s
full_on o width at bound k s full room due timely later =
    let d = due - at in
    let e : at + d ≡ due = omega (arith, later) in
    let less = span_later o at d s.out (subst (λ m. All (λ (q : Out). m ≤ partial_settled_by o q + o.late) s.out) (sym e) timely) in
    let lanes = ap (λ m. d * m) full in
    let sum = mul-add width at d in
    let turned = mul_comm d width in
    record {
      timely = timely;
      area = subst (λ m. width * m + span o m s.out + k ≤ bound) e (omega (arith, room, less, lanes, sum, turned));
    }

clock_holds :
    (o : Partial) (width n i due bound rest : ℕ) (old new : WatchState) (wall elapsed : ℕ) (output : WatchOutput) → Step old (Clock wall elapsed) output new → IsHolding o i due old (Clock wall elapsed) output new → IsBase width n new →
    Holds o width n due bound (waiting_before o n i old + (total n (keeps_lane o) (comes_before i old new) + rest)) old →
    Holds o width n (partial_next_after_command o output.command new due) bound (waiting_before o n i new + rest) new
clock_holds o width n i due bound rest old new wall elapsed output step holding base p =
    let h = ticks old new wall elapsed output step in
    let e = left o width n i old new wall elapsed output h p.base in
    let at = e.clocks.at in
    let c : at ≡ (timed old wall elapsed).clocks.at = ap (λ x. x.at) (readied_clocks old wall elapsed) in
    let up = rises old wall elapsed p.base.past.start in
    let in_time = holding.0 in
    let is = h.new_is in
    let held : IsHeldUp o e i = subst (λ (x : WatchState). IsHeldUp o x i) is holding.1.1 in
    let settled : All (λ r. o.takes r.entry at ≤ longest o r) h.requests = subst (λ x. AreSettled o (Go h.requests (wait new)) x) is (subst (λ x. AreSettled o x new) h.command holding.1.0) in
    let base' : IsBase width n e = subst (λ (x : WatchState). IsBase width n x) is base in
    let full' = full_lanes old new wall elapsed output i width h holding.1.1.may base.fits.0 in
    let same = ap (λ (x : WatchState). length x.out) is in
    let fits = base'.fits.1 in
    let full : length e.out ≡ width = omega (arith, full', same, fits) in
    subst (λ x. Holds o width n (partial_next_after_command o x new due) bound (waiting_before o n i new + rest) new) (sym h.command)
    (subst (λ (x : WatchState). Holds o width n (partial_next_by o (wait x) x.out) bound (waiting_before o n i x + rest) x) (sym is)
    (record {
      base = base';
      rest = elim p.rest as (λ _. (partial_next_by o (wait e) e.out < at) ⊎ Timed o width (partial_next_by o (wait e) e.out) bound (waiting_before o n i e + rest) e) [
        | inl early ↦ absurd (omega (arith, early, up, in_time))
        | inr t ↦
            let d = due - at in
            let now : at + d ≡ due = omega (arith, c, in_time) in
            let less = span_later o at d old.out (subst (λ m. All (λ (q : Out). m ≤ partial_settled_by o q + o.late) old.out) (sym now) t.timely) in
            let came = total n (keeps_lane o) (comes_before i old new) in
            let area : width * (at + d) + span o (at + d) old.out + (waiting_before o n i old + (came + rest)) ≤ bound =
            subst (λ m. width * m + span o m old.out + (waiting_before o n i old + (came + rest)) ≤ bound) (sym now) t.area in
            let sum = mul-add width at d in
            let few = mul-le-mul_left d p.base.fits.1 in
            let turned = mul_comm d width in
            let more = grown o width n i old new wall elapsed output h p.base held settled in
            let coming = ap (λ (x : WatchState). total n (keeps_lane o) (comes_before i old x)) is in
            let room : width * at + span o at e.out + (waiting_before o n i e + rest) ≤ bound = omega (arith, less, area, sum, few, turned, more, coming) in
            elim (cases_lt (partial_next_by o (wait e) e.out) at) as (λ _. (partial_next_by o (wait e) e.out < at) ⊎ Timed o width (partial_next_by o (wait e) e.out) bound (waiting_before o n i e + rest) e) [
              | inl early ↦ inl early
              | inr later ↦
                  inr (full_on o width at bound (waiting_before o n i e + rest) e full room (partial_next_by o (wait e) e.out) (least_all (λ (q : Out). partial_settled_by o q + o.late) (wait e + o.late) e.out) later)
            ]
      ];
    }))

-- any other event leaves the clock, and some of what is out
abbrev Quiet : Partial → ℕ → WatchState → WatchState → WatchOutput → Type 0
Quiet o due old new output =
    (new.clocks.at ≡ old.clocks.at)
    × ((All (λ (q : Out). due ≤ partial_settled_by o q + o.late) old.out → All (λ (q : Out). due ≤ partial_settled_by o q + o.late) new.out)
    × ((span o due new.out ≤ span o due old.out) × (partial_next_after_command o output.command new due ≡ due)))

answer_quiet :
    (o : Partial) (due : ℕ) (old mid new : WatchState) (q : Out) (reply : WatchReply) (output out : WatchOutput) → new ≡ replied mid q reply → mid.out ≡ old.out → new.clocks ≡ old.clocks → output ≡ out → out.command ≡ Taken →
    Quiet o due old new output
answer_quiet o due old mid new q reply output out is outs clocks made taken' =
    let T : Out → Type 0 = λ r. due ≤ partial_settled_by o r + o.late in
    let less = span_replied o due mid q reply in
    let a = ap (λ (x : WatchState). span o due x.out) is in
    let b = ap (span o due) outs in (
      ap (λ c. c.at) clocks,
      (
        (λ all. subst (λ (x : WatchState). All T x.out) (sym is) (all_left T (λ r h. h) mid q reply (subst (All T) (sym outs) all))),
        (omega (arith, less, a, b), ap (λ c. partial_next_after_command o c new due) (ap (λ (x : WatchOutput). x.command) made ∙ taken')),
      ),
    )

looked_quiet : (o : Partial) (due : ℕ) (old new : WatchState) (found : Option Out) (reply : WatchReply) (terms : WatchTerms) (output : WatchOutput) → StepLooked old found reply terms output new → Quiet o due old new output
looked_quiet o due old new None reply terms output step = absurd step
looked_quiet o due old new (Some q) reply terms output step =
    let s = noted old q reply in
    answer_quiet o due old (looked s q reply terms) new q reply output _ step.1 (looked_out s q reply terms) (ap (λ (x : WatchState). x.clocks) (ap rest_of step.1 ∙ looked_leaves old q reply terms)) step.0 refl

renewed_quiet : (o : Partial) (due : ℕ) (old new : WatchState) (found : Option Out) (reply : WatchReply) (output : WatchOutput) → StepRenewed old found reply output new → Quiet o due old new output
renewed_quiet o due old new None reply output step = absurd step
renewed_quiet o due old new (Some q) reply output step =
    answer_quiet o due old (state_renewed (noted old q reply) q reply) new q reply output _ step.1 refl (ap (λ (x : WatchState). x.clocks) (ap rest_of step.1 ∙ renewed_leaves old q reply)) step.0 refl

same_quiet : (o : Partial) (due : ℕ) (old mid new : WatchState) (output out : WatchOutput) → new ≡ mid → mid.clocks ≡ old.clocks → mid.out ≡ old.out → output ≡ out → out.command ≡ Taken → Quiet o due old new output
same_quiet o due old mid new output out is clocks outs made taken' =
    let T : Out → Type 0 = λ r. due ≤ partial_settled_by o r + o.late in
    let a = ap (λ (x : WatchState). span o due x.out) is in
    let b = ap (span o due) outs in (
      ap (λ (x : WatchState). x.clocks.at) is ∙ ap (λ c. c.at) clocks,
      (
        (λ all. subst (All T) (sym (ap (λ (x : WatchState). x.out) is ∙ outs)) all),
        (omega (arith, a, b), ap (λ c. partial_next_after_command o c new due) (ap (λ (x : WatchOutput). x.command) made ∙ taken')),
      ),
    )

quiet_holds :
    (o : Partial) (width n i due bound rest : ℕ) (old new : WatchState) (output : WatchOutput) → Quiet o due old new output → IsBase width n new →
    Holds o width n due bound (waiting_before o n i old + (total n (keeps_lane o) (comes_before i old new) + rest)) old →
    Holds o width n (partial_next_after_command o output.command new due) bound (waiting_before o n i new + rest) new
quiet_holds o width n i due bound rest old new output quiet base p =
    let c = quiet.0 in
    let span' = quiet.1.1.0 in
    let less = fewer o n i old new in
    subst (λ x. Holds o width n x bound (waiting_before o n i new + rest) new) (sym quiet.1.1.1)
    (record {
      base = base;
      rest = elim p.rest as (λ _. (due < new.clocks.at) ⊎ Timed o width due bound (waiting_before o n i new + rest) new) [
        | inl early ↦ inl (omega (arith, early, c))
        | inr t ↦ inr (record { timely = quiet.1.0 t.timely; area = let area = t.area in omega (arith, area, span', less) })
      ];
    })

step_holds :
    (o : Partial) (width n i due bound rest : ℕ) (old new : WatchState) (event : WatchEvent) (output : WatchOutput) → Step old event output new → IsHolding o i due old event output new → IsBase width n new →
    Holds o width n due bound (waiting_before o n i old + (total n (keeps_lane o) (comes_before i old new) + rest)) old →
    Holds o width n (partial_next_after_command o output.command new due) bound (waiting_before o n i new + rest) new
step_holds o width n i due bound rest old new (Clock wall elapsed) output step holding base p = clock_holds o width n i due bound rest old new wall elapsed output step holding base p
step_holds o width n i due bound rest old new (Looked j reply terms) output step holding base p =
    quiet_holds o width n i due bound rest old new output (looked_quiet o due old new (request_out old.out j Look) reply terms output step) base p
step_holds o width n i due bound rest old new (Renewed j reply) output step holding base p =
    quiet_holds o width n i due bound rest old new output (renewed_quiet o due old new (request_out old.out j Renew) reply output step) base p
step_holds o width n i due bound rest old new (Known j end renewable) output step holding base p =
    quiet_holds o width n i due bound rest old new output (same_quiet o due old _ new output _ step.1 refl refl step.0 refl) base p
step_holds o width n i due bound rest old new _ output step holding base p = quiet_holds o width n i due bound rest old new output (same_quiet o due old _ new output _ step.1 refl refl step.0 refl) base p

turn_holds :
    (o : Partial) (width n i due bound rest : ℕ) (old new : WatchState) (event : WatchEvent) (result : Result WatchOutput WatchFault) → Turn old event result new → IsHeld o i due old event result new → IsBase width n new →
    Holds o width n due bound (waiting_before o n i old + (total n (keeps_lane o) (comes_before i old new) + rest)) old →
    Holds o width n (partial_next_after o result new due) bound (waiting_before o n i new + rest) new
turn_holds o width n i due bound rest old new event (Ok output) turn held base p = step_holds o width n i due bound rest old new event output turn.1 held base p
turn_holds o width n i due bound rest old new event (Err fault) turn held base p =
    let is = refused_stays old new event fault turn in
    let c = ap (λ (x : WatchState). x.clocks.at) is in
    let less = fewer o n i old new in
    let out = ap (λ (x : WatchState). span o due x.out) is in
    record {
      base = base;
      rest = elim p.rest as (λ _. (due < new.clocks.at) ⊎ Timed o width due bound (waiting_before o n i new + rest) new) [
        | inl early ↦ inl (omega (arith, early, c))
        | inr t ↦
            inr (record {
              timely = subst (λ (x : WatchState). All (λ (q : Out). due ≤ partial_settled_by o q + o.late) x.out) (sym is) t.timely;
              area = let area = t.area in omega (arith, area, out, less);
            })
      ];
    }

-- and another forest that is watched leaves the clock and all lanes
change_holds :
    (o p : Partial) (width n i due bound rest : ℕ) (old : WatchState) (c : Changed) → IsChanged old c → IsCarried o p old c → length old.forest.entries ≡ n →
    Holds o width n due bound (waiting_before o n i old + (total (length c.forest.entries) (keeps_lane p) (comes_before_over i old c) + rest)) old →
    Holds p width (length c.forest.entries) due bound (waiting_before p (length c.forest.entries) (index_over c i) c.state + rest) c.state
change_holds o p width n i due bound rest old c h carried entries held =
    let clock = ap (λ (s : WatchState). s.clocks.at) h.state in
    let late = late_same o p old c carried in
    let many = ap (λ m. waiting_before o m i old) entries in
    let less = fewer_over old c h o p carried i in
    record {
      base = changed_base old c h width n entries held.base;
      rest = elim held.rest as (λ _. (due < c.state.clocks.at) ⊎ Timed p width due bound (waiting_before p (length c.forest.entries) (index_over c i) c.state + rest) c.state) [
        | inl early ↦ inl (omega (arith, early, clock))
        | inr t ↦
            let same = span_same o p late due old.out c.state.out carried.settled in
            let area = t.area in
            inr (record { timely = timely_same o p late due old.out c.state.out carried.settled t.timely; area = omega (arith, area, same, less, many) })
      ];
    }

-- what holds of the last state: the next clock comes within the bound, or would come before this one
record Ends (width due bound : ℕ) (s : WatchState) : Type 0 where
  past : IsPast s
  by : (due < s.clocks.at) ⊎ (width * due ≤ bound)

along :
    (hs : List Happening) (o : ℕ → Partial) (width n i due bound : ℕ) (old : WatchState) → AllHappen old hs → AreHolding o i due old hs → length old.forest.entries ≡ n →
    Holds (o 0) width n due bound (waiting_before (o 0) n i old + coming_before o i old hs) old → Ends width (due_after o due hs) bound (state_after_all old hs)
along [] o width n i due bound old happens holding entries p =
    record {
      past = p.base.past;
      by = elim p.rest as (λ _. (due < old.clocks.at) ⊎ (width * due ≤ bound)) [ inl early ↦ inl early | inr t ↦ (let area = t.area in inr (omega (arith, area))) ];
    }
along (Hands turn ∷ hs) o width n i due bound old happens holding entries p =
    let new = turn.state in
    let base = turn_base width n old new turn.event turn.result happens.0 p.base in
    let rest = coming_before o i new hs in
    along hs o width n i (partial_next_after (o 0) turn.result new due) bound new happens.1 holding.1 ((turn_shape old new turn.event turn.result happens.0).0 ∙ entries)
    (turn_holds (o 0) width n i due bound rest old new turn.event turn.result happens.0 holding.0 base
    (subst (λ m. Holds (o 0) width n due bound (waiting_before (o 0) n i old + (total m (keeps_lane (o 0)) (comes_before i old new) + rest)) old) entries p))
along (Changes c ∷ hs) o width n i due bound old happens holding entries p =
    let h = happens.0 in
    along hs (outage_then o) width (length c.forest.entries) (index_over c i) due bound c.state happens.1 holding.1 (changed_entries old c h)
    (change_holds (o 0) (outage_then o 0) width n i due bound (coming_before (outage_then o) (index_over c i) c.state hs) old c h holding.0 entries p)

-- the clock from which on it is held up
record Starts (o : Partial) (old : WatchState) (first : Turned) : Type 0 where
  wall : ℕ
  elapsed : ℕ
  output : WatchOutput
  ticks' : Ticks old first.state wall elapsed output
  due : partial_next_after o first.result first.state 0 ≡ partial_next_by o (wait first.state) first.state.out

starts : (o : Partial) (old : WatchState) (first : Turned) (event : WatchEvent) (result : Result WatchOutput WatchFault) → first.result ≡ result → Turn old event result first.state → is_clock event ≡ true → is_event_taken result ≡ true → Starts o old first
starts o old first (Clock wall elapsed) (Ok output) same turn clock taken' =
    let go = ticks old first.state wall elapsed output turn.1 in
    record {
      wall = wall;
      elapsed = elapsed;
      output = output;
      ticks' = go;
      due = ap (λ r. partial_next_after o r first.state 0) same ∙ ap (λ c. partial_next_after_command o c first.state 0) go.command;
    }
starts o old first event (Err fault) same turn clock taken' = absurd (true≢false (sym taken'))
starts o old first _ (Ok output) same turn clock taken' = absurd (true≢false (sym clock))

-- and the next one, at which it may go out
comes_in_time :
    (due : ℕ) (old new : WatchState) (event : WatchEvent) (result : Result WatchOutput WatchFault) → Turn old event result new → is_clock event ≡ true → is_event_taken result ≡ true → ClockIsInTime due old event → IsPast old →
    (old.clocks.at ≤ new.clocks.at) × (new.clocks.at ≤ due)
comes_in_time due old new (Clock wall elapsed) (Ok output) turn clock taken' in_time past =
    let h = ticks old new wall elapsed output turn.1 in
    let c = ap (λ (x : WatchState). x.clocks.at) h.new_is ∙ ap (λ x. x.at) (readied_clocks old wall elapsed) in
    let up = rises old wall elapsed past.start in
    (omega (arith, c, up), omega (arith, c, in_time))
comes_in_time due old new event (Err fault) turn clock taken' in_time past = absurd (true≢false (sym taken'))
comes_in_time due old new _ (Ok output) turn clock taken' in_time past = absurd (true≢false (sym clock))

ends_by : (width due bound : ℕ) (s new : WatchState) → Ends width due bound s → (s.clocks.at ≤ new.clocks.at) × (new.clocks.at ≤ due) → width * new.clocks.at ≤ bound
ends_by width due bound s new ends between =
    let up = between.0 in
    let in_time = between.1 in
    elim ends.by as (λ _. width * new.clocks.at ≤ bound) [
      | inl early ↦ absurd (omega (arith, early, up, in_time))
      | inr most ↦ (let less = mul-le-mul_left width in_time in omega (arith, most, less))
    ]

pub held_up : PartialLaw
held_up outages old first hs next i reached happens clock taken' may out holding clock' taken'' in_time =
    let o = outages 0 in
    let n = length old.forest.entries in
    let width = old.width in
    let s = first.state in
    let at = s.clocks.at in
    let start = starts o old first first.event first.result refl happens.0 clock taken' in
    let base = next_base old first [] reached (happens.0, tt) in
    let full' = full_lanes old s start.wall start.elapsed start.output i width start.ticks' may base.fits.0 in
    let fits = base.fits.1 in
    let full : length s.out ≡ width = omega (arith, full', fits) in
    let k = waiting_before o n i s + coming_before outages i s hs in
    let bound = width * (at + o.slow + o.late) + k in
    let due = partial_next_by o (wait s) s.out in
    let most = span_most o at (o.slow + o.late) s.out (All-weaker (λ (q : Out). partial_settled_by o q ≤ at + o.slow) (λ (q : Out). partial_settled_by o q + o.late ≤ at + (o.slow + o.late)) (λ q h. omega (arith, h)) s.out out) in
    let lanes = ap (λ m. (o.slow + o.late) * m) full in
    let turned = mul_comm (o.slow + o.late) width in
    let sum = mul-add width at (o.slow + o.late) in
    let all = ap (λ m. width * m) (let e : at + o.slow + o.late ≡ at + (o.slow + o.late) = omega arith in e) in
    let room : width * at + span o at s.out + k ≤ bound = omega (arith, most, lanes, turned, sum, all) in
    let begins : Holds o width n due bound k s = record {
      base = base;
      rest = elim (cases_lt due at) as (λ _. (due < at) ⊎ Timed o width due bound k s) [
        | inl early ↦ inl early
        | inr later ↦ inr (full_on o width at bound k s full room due (least_all (λ (q : Out). partial_settled_by o q + o.late) (wait s + o.late) s.out) later)
      ];
    } in
    let first_due = partial_next_after o first.result s 0 in
    let begins' : Holds o width n first_due bound k s = subst (λ d. Holds o width n d bound k s) (sym start.due) begins in
    let ends = along hs outages width n i first_due bound s (first_happen hs (Hands next ∷ []) s happens.1) holding (turn_shape old s first.event first.result happens.0).0 begins' in
    let last = (last_happen hs (Hands next ∷ []) s happens.1).0 in
    ends_by width (due_after outages first_due hs) bound (state_after_all s hs) next.state ends
    (comes_in_time (due_after outages first_due hs) (state_after_all s hs) next.state next.event next.result last clock' taken'' in_time ends.past)
