-- Recovering: while the broker is there, an entry that may go out is passed over by few rounds. For the law of recovery.
use Rattle.std.proofs.Common.{◌≡◌, ◌∙◌, ℕ, suc, ◌+◌, ◌*◌, ◌<◌, ◌≤◌, true, false, not, ◌&&◌, List, [], ◌∷◌, Option, Some, None, All, Result, Ok, Err, get_or, is_some, length, nat_le, refl, sym, ap, subst, arith, inl, inr}
use Rattle.std.proofs.lemmas.{Bool.and_from, Bool.cases_Bool, Bool.Decides.nat_tests}
use Rattle.std.specs.List.{list_any}
use Rattle.watch_machine.specs.{declared.command.WatchCommand.TheVariants.Taken, declared.command.WatchOutput.WatchOutput, declared.event.WatchEvent.WatchEvent, declared.event.WatchReply.WatchReply, declared.event.WatchTerms.WatchTerms}
use Rattle.watch_machine.specs.{declared.fault.WatchFault.WatchFault, declared.lanes.Out.Out, Answers.noted, Answers.replied, Looked.looked, Press.pressed, Refusal.request_out, Renewed.state_renewed, Sending.sent, Settling.timed}
use Rattle.watch_machine.specs.{State.WatchState, Wait.wait}
use Rattle.watch_machine.specs.declared.event.WatchEvent.TheVariants.{Clock, Looked, Renewed, Need, Begin, Known}
use Rattle.watch_machine.specs.declared.event.Operation.TheVariants.{Look, Renew}
use Rattle.watch_machine.specs.History.{AllHappen, Changed, Changes, Happening, Hands, IsChanged, Turn}
use Rattle.watch_machine.specs.Step.{Step, StepLooked, StepRenewed, readied}
use Rattle.watch_machine.proofs.Cases.{not_both}
use Rattle.watch_laws.specs.Outage.{comes, comes_over, coming_through, how_many, is_request_served, is_tried, is_request_whole, outage_next_after, outage_next_after_command, outage_next_by, outage_settled_by, waiting, waits_to_be_asked}
use Rattle.watch_laws.specs.Recovery.{AllBy, ArePassing, IsPassedBy, IsPassing, MayGo, RecoveryLaw, without_outage}
use Rattle.watch_laws.proofs.{Bases.changed_base, Bases.last_base, Changing.low as low_over, Clocking.readied_clocks, Clocking.refused_stays, Following.changed_entries, Minding.tended, Moving.all_over, Moving.fewer_over, Shapes.turn_shape}
use Rattle.watch_laws.proofs.{Spacing.looked_out}
use Rattle.watch_laws.proofs.Answering.{looked_leaves, renewed_leaves, rest_of}
use Rattle.watch_laws.proofs.Counting.{lanes_apart, least_all, some}
use Rattle.watch_laws.proofs.Grounds.{IsBase, fewer_wait, starts, tracked, turn_base}
use Rattle.watch_laws.proofs.Lanes.{Sends, Ticks, all_left, is_anew, served_marked, ticks, turn_sends}
use Rattle.watch_laws.proofs.Requests.{anew_none, any_gives, later_than, none_passes, one_left, quick_if, round_of_lanes, some_lane, take_one, whole_after}

-- every request is whole
pub all_whole : (quick late since : ℕ) → is_request_whole (without_outage quick late) since ≡ true
all_whole quick late since = whole_after (without_outage quick late) since (omega arith)

pub settles_so : (quick late since : ℕ) → outage_settled_by (without_outage quick late) since ≡ since + quick
settles_so quick late since = quick_if (without_outage quick late) since (all_whole quick late since)

abbrev pub Timely : ℕ → ℕ → ℕ → Out → Type 0
Timely quick late due q = due ≤ outage_settled_by (without_outage quick late) q.since + late

-- after a turn: r rounds hold those that wait, but for those that went out after from; and by is the last moment
pub record Passes (quick late width n i by due k : ℕ) (s : WatchState) : Type 0 where
  pub base : IsBase width n s
  pub timely : All (Timely quick late due) s.out
  pub r : ℕ
  pub from : ℕ
  pub count : k + how_many (n + width) (is_anew (without_outage quick late) (suc from) s) ≤ width * r
  pub start : from + (quick + late) * r ≤ by
  pub next : due ≤ from + (quick + late)
  pub now : s.clocks.at ≤ by

-- who may go out and has not finds all lanes taken
pub full_lanes : (old new : WatchState) (wall elapsed : ℕ) (output : WatchOutput) (i width : ℕ) → Ticks old new wall elapsed output → MayGo new i → new.width ≡ width → width ≤ length new.out
full_lanes old new wall elapsed output i width h m wide =
    let ready' = readied old wall elapsed in
    let end = sent (pressed ready' h.round) h.requests in
    let is = h.new_is in
    let u = m.attempt in
    let go : MayGo end i = subst (λ (x : WatchState). MayGo x i) is m in
    let w : end.width ≡ width = ap (λ (x : WatchState). x.width) (sym is) ∙ wide in
    let all = ap (λ (x : WatchState). length x.out) is in
    elim (tended ready' h.round h.requests i go.attempt h.going go.within go.free go.attempt_is) as (λ _. width ≤ length new.out) [
      | inl later ↦ (let due = go.due in let ahead = later.0 in absurd (omega (arith, due, ahead)))
      | inr full ↦ omega (arith, full, w, all)
    ]

-- so the next clock comes soon
pub soon_next :
    (quick late width n i by due : ℕ) (s : WatchState) → 0 < width → IsBase width n s → All (Timely quick late due) s.out → width ≤ length s.out → due ≤ s.clocks.at + (quick + late)
soon_next quick late width n i by due s wide base timely full =
    let now = base.since in
    any_gives (due ≤ s.clocks.at + (quick + late)) (λ q. true) s.out (some_lane s.out (omega (arith, wide, full)))
    (λ k d below yes'.
    let q = get_or s.out k d in
    let t = timely k d below in
    let e = settles_so quick late q.since in
    let le = now k d below in
    omega (arith, t, e, le))

-- a clock
pub clock_passes :
    (quick late width n i by due rest : ℕ) (old new : WatchState) (wall elapsed : ℕ) (output : WatchOutput) → 0 < width → i < n → Step old (Clock wall elapsed) output new → (timed old wall elapsed).clocks.at ≤ due → MayGo new i →
    IsBase width n new → Sends old new n → Passes quick late width n i by due (waiting (without_outage quick late) n old + (how_many n (comes (without_outage quick late) old new) + rest)) old →
    Passes quick late width n i by (outage_next_after_command (without_outage quick late) output.command new due) (waiting (without_outage quick late) n new + rest) new
clock_passes quick late width n i by due rest old new wall elapsed output wide low step in_time m base sends p =
    let o = without_outage quick late in
    let h = ticks old new wall elapsed output step in
    let at = new.clocks.at in
    let c = ap (λ (x : WatchState). x.clocks.at) h.new_is ∙ ap (λ x. x.at) (readied_clocks old wall elapsed) in
    let k = waiting o n new + rest in
    let full = full_lanes old new wall elapsed output i width h m base.fits.0 in
    let due' = outage_next_by o (wait new) new.out in
    let timely : All (Timely quick late due') new.out = least_all (λ (q : Out). outage_settled_by o q.since + late) (wait new + late) new.out in
    let less = fewer_wait o (suc p.from) width n old new p.base base sends in
    let count = p.count in
    let start = p.start in
    let next = p.next in
    let tried : is_tried new i ≡ true = ap is_some m.attempt_is in
    let unserved : is_request_served o new i ≡ false =
    elim (cases_Bool (is_request_served o new i)) as (λ _. is_request_served o new i ≡ false) [
      | inl served ↦ absurd (not_both (served_marked o new i (tracked width n new i base low) base.alone served) m.free)
      | inr no' ↦ no'
    ] in
    let one = some n i (waits_to_be_asked o new) low (and_from (is_tried new i) (not (is_request_served o new i)) tried (ap not unserved)) in
    let r = one_left width p.r k (omega (arith, less, count)) (omega (arith, one)) in
    let g = round_of_lanes (quick + late) p.r r.0 r.1 in
    let soon = soon_next quick late width n i by due' new wide base timely full in
    subst (λ x. Passes quick late width n i by (outage_next_after_command o x new due) k new) (sym h.command)
    (elim (cases_Bool (list_any (λ (q : Out). nat_le q.since p.from) new.out)) as (λ _. Passes quick late width n i by due' k new) [
      | inl some' ↦
          let before : due' ≤ p.from + (quick + late) =
          any_gives (due' ≤ p.from + (quick + late)) (λ (q : Out). nat_le q.since p.from) new.out some'
          (λ j d below yes'.
          let q = get_or new.out j d in
          let t = timely j d below in
          let e = settles_so quick late q.since in
          let le : q.since ≤ p.from = grind (arith, nat_tests) in
          omega (arith, t, e, le)) in
          record { base = base; timely = timely; r = p.r; from = p.from; count = omega (arith, less, count); start = start; next = before; now = omega (arith, c, in_time, next, start, g) }
      | inr none' ↦
          let late' = none_passes (λ (q : Out). nat_le q.since p.from) new.out none' in
          let within = base.within in
          let anew = lanes_apart (n + width) (λ (q : Out). is_request_whole o q.since && nat_le (suc p.from) q.since) new.out base.alone.single
          (λ j d below.
          let q = get_or new.out j d in
          let l = later_than p.from q.since (late' j d below) in
          let test : nat_le (suc p.from) q.since ≡ true = grind (arith, nat_tests) in
          (within j d below, and_from (is_request_whole o q.since) (nat_le (suc p.from) q.since) (all_whole quick late q.since) test)) in
          let q = take_one width p.r (k + how_many (n + width) (is_anew o (suc p.from) new)) k wide (omega (arith, full, anew)) (omega (arith, less, count)) in
          let e = round_of_lanes (quick + late) p.r q.0 q.1.0 in
          let zero' = anew_none o (suc at) (n + width) new base.since (omega arith) in
          let fits = q.1.1 in
          record {
            base = base;
            timely = timely;
            r = q.0;
            from = at;
            count = omega (arith, fits, zero');
            start = omega (arith, c, in_time, next, start, e);
            next = soon;
            now = omega (arith, c, in_time, next, start, g);
          }
    ])

-- any other event leaves the clock, and what is out
abbrev pub Quiet : ℕ → ℕ → ℕ → WatchState → WatchState → WatchOutput → Type 0
Quiet quick late due old new output =
    (new.clocks.at ≡ old.clocks.at) × ((All (Timely quick late due) old.out → All (Timely quick late due) new.out) × (outage_next_after_command (without_outage quick late) output.command new due ≡ due))

answer_quiet : (quick late due : ℕ) (old mid new : WatchState) (q : Out) (reply : WatchReply) (output out : WatchOutput) → new ≡ replied mid q reply → mid.out ≡ old.out → new.clocks ≡ old.clocks → output ≡ out → out.command ≡ Taken → Quiet quick late due old new output
answer_quiet quick late due old mid new q reply output out is outs clocks made taken' = (
  ap (λ c. c.at) clocks,
  (
    (λ all. subst (λ (x : WatchState). All (Timely quick late due) x.out) (sym is) (all_left (Timely quick late due) (λ r h. h) mid q reply (subst (All (Timely quick late due)) (sym outs) all))),
    ap (λ c. outage_next_after_command (without_outage quick late) c new due) (ap (λ (x : WatchOutput). x.command) made ∙ taken'),
  ),
)

pub looked_quiet : (quick late due : ℕ) (old new : WatchState) (found : Option Out) (reply : WatchReply) (terms : WatchTerms) (output : WatchOutput) → StepLooked old found reply terms output new → Quiet quick late due old new output
looked_quiet quick late due old new None reply terms output step = absurd step
looked_quiet quick late due old new (Some q) reply terms output step =
    let s = noted old q reply in
    answer_quiet quick late due old (looked s q reply terms) new q reply output _ step.1 (looked_out s q reply terms) (ap (λ (x : WatchState). x.clocks) (ap rest_of step.1 ∙ looked_leaves old q reply terms)) step.0 refl

pub renewed_quiet : (quick late due : ℕ) (old new : WatchState) (found : Option Out) (reply : WatchReply) (output : WatchOutput) → StepRenewed old found reply output new → Quiet quick late due old new output
renewed_quiet quick late due old new None reply output step = absurd step
renewed_quiet quick late due old new (Some q) reply output step =
    answer_quiet quick late due old (state_renewed (noted old q reply) q reply) new q reply output _ step.1 refl (ap (λ (x : WatchState). x.clocks) (ap rest_of step.1 ∙ renewed_leaves old q reply)) step.0 refl

pub same_quiet : (quick late due : ℕ) (old mid new : WatchState) (output out : WatchOutput) → new ≡ mid → mid.clocks ≡ old.clocks → mid.out ≡ old.out → output ≡ out → out.command ≡ Taken → Quiet quick late due old new output
same_quiet quick late due old mid new output out is clocks outs made taken' = (
  ap (λ (x : WatchState). x.clocks.at) is ∙ ap (λ c. c.at) clocks,
  (
    (λ all. subst (All (Timely quick late due)) (sym (ap (λ (x : WatchState). x.out) is ∙ outs)) all),
    ap (λ c. outage_next_after_command (without_outage quick late) c new due) (ap (λ (x : WatchOutput). x.command) made ∙ taken'),
  ),
)

pub quiet_passes :
    (quick late width n i by due rest : ℕ) (old new : WatchState) (output : WatchOutput) → Quiet quick late due old new output → IsBase width n new → Sends old new n →
    Passes quick late width n i by due (waiting (without_outage quick late) n old + (how_many n (comes (without_outage quick late) old new) + rest)) old →
    Passes quick late width n i by (outage_next_after_command (without_outage quick late) output.command new due) (waiting (without_outage quick late) n new + rest) new
quiet_passes quick late width n i by due rest old new output quiet base sends p =
    let o = without_outage quick late in
    let less = fewer_wait o (suc p.from) width n old new p.base base sends in
    let count = p.count in
    let now = p.now in
    let c = quiet.0 in
    subst (λ x. Passes quick late width n i by x (waiting o n new + rest) new) (sym quiet.1.1)
    (record { base = base; timely = quiet.1.0 p.timely; r = p.r; from = p.from; count = omega (arith, less, count); start = p.start; next = p.next; now = omega (arith, c, now) })

step_passes :
    (quick late width n i by due rest : ℕ) (old new : WatchState) (event : WatchEvent) (output : WatchOutput) → 0 < width → i < n → Step old event output new → IsPassing i due old event new → IsBase width n new → Sends old new n →
    Passes quick late width n i by due (waiting (without_outage quick late) n old + (how_many n (comes (without_outage quick late) old new) + rest)) old →
    Passes quick late width n i by (outage_next_after_command (without_outage quick late) output.command new due) (waiting (without_outage quick late) n new + rest) new
step_passes quick late width n i by due rest old new (Clock wall elapsed) output wide low step passing base sends p =
    clock_passes quick late width n i by due rest old new wall elapsed output wide low step passing.0 passing.1 base sends p
step_passes quick late width n i by due rest old new (Looked j reply terms) output wide low step passing base sends p =
    quiet_passes quick late width n i by due rest old new output (looked_quiet quick late due old new (request_out old.out j Look) reply terms output step) base sends p
step_passes quick late width n i by due rest old new (Renewed j reply) output wide low step passing base sends p =
    quiet_passes quick late width n i by due rest old new output (renewed_quiet quick late due old new (request_out old.out j Renew) reply output step) base sends p
step_passes quick late width n i by due rest old new (Need j until) output wide low step passing base sends p =
    quiet_passes quick late width n i by due rest old new output (same_quiet quick late due old _ new output _ step.1 refl refl step.0 refl) base sends p
step_passes quick late width n i by due rest old new Begin output wide low step passing base sends p =
    quiet_passes quick late width n i by due rest old new output (same_quiet quick late due old _ new output _ step.1 refl refl step.0 refl) base sends p
step_passes quick late width n i by due rest old new (Known j end renewable) output wide low step passing base sends p =
    quiet_passes quick late width n i by due rest old new output (same_quiet quick late due old _ new output _ step.1 refl refl step.0 refl) base sends p

turn_passes :
    (quick late width n i by due rest : ℕ) (old new : WatchState) (event : WatchEvent) (result : Result WatchOutput WatchFault) → 0 < width → i < n → Turn old event result new → IsPassedBy i due old event result new → IsBase width n new →
    Sends old new n → Passes quick late width n i by due (waiting (without_outage quick late) n old + (how_many n (comes (without_outage quick late) old new) + rest)) old →
    Passes quick late width n i by (outage_next_after (without_outage quick late) result new due) (waiting (without_outage quick late) n new + rest) new
turn_passes quick late width n i by due rest old new event (Ok output) wide low turn passing base sends p = step_passes quick late width n i by due rest old new event output wide low turn.1 passing base sends p
turn_passes quick late width n i by due rest old new event (Err fault) wide low turn passing base sends p =
    let o = without_outage quick late in
    let is = refused_stays old new event fault turn in
    let less = fewer_wait o (suc p.from) width n old new p.base base sends in
    let count = p.count in
    let now = p.now in
    let c = ap (λ (x : WatchState). x.clocks.at) is in
    record {
      base = base;
      timely = subst (λ (x : WatchState). All (Timely quick late due) x.out) (sym is) p.timely;
      r = p.r;
      from = p.from;
      count = omega (arith, less, count);
      start = p.start;
      next = p.next;
      now = omega (arith, c, now);
    }

-- and another forest that is watched leaves the clock and all lanes
pub change_passes :
    (quick late width n i k by due rest : ℕ) (old : WatchState) (c : Changed) → IsChanged old c → length old.forest.entries ≡ n →
    Passes quick late width n i by due (waiting (without_outage quick late) n old + (how_many (length c.forest.entries) (comes_over old c) + rest)) old →
    Passes quick late width (length c.forest.entries) k by due (waiting (without_outage quick late) (length c.forest.entries) c.state + rest) c.state
change_passes quick late width n i k by due rest old c h entries p =
    let less = fewer_over (without_outage quick late) old c h width n rest entries p.base (suc p.from) in
    let count = p.count in
    let now = p.now in
    let clock = ap (λ (x : WatchState). x.clocks.at) h.state in
    record {
      base = changed_base old c h width n entries p.base;
      timely = all_over old c h (Timely quick late due) (λ r m le. le) p.timely;
      r = p.r;
      from = p.from;
      count = omega (arith, less, count);
      start = p.start;
      next = p.next;
      now = omega (arith, now, clock);
    }

along :
    (hs : List Happening) (quick late width n i by due : ℕ) (old : WatchState) → 0 < width → i < n → length old.forest.entries ≡ n → AllHappen old hs → ArePassing (without_outage quick late) i due old hs →
    Passes quick late width n i by due (waiting (without_outage quick late) n old + coming_through (without_outage quick late) old hs) old → AllBy by hs
along [] quick late width n i by due old wide low entries happens passing p = tt
along (Hands turn ∷ hs) quick late width n i by due old wide low entries happens passing p =
    let o = without_outage quick late in
    let new = turn.state in
    let rest = coming_through o new hs in
    let base = turn_base width n old new turn.event turn.result happens.0 p.base in
    let count = base.count in
    let sends = turn_sends old new turn.event turn.result n (omega (arith, count)) happens.0 in
    let many : length new.forest.entries ≡ n = (turn_shape old new turn.event turn.result happens.0).0 ∙ entries in
    let here = turn_passes quick late width n i by due rest old new turn.event turn.result wide low happens.0 passing.0 base sends
    (subst (λ m. Passes quick late width n i by due (waiting o n old + (how_many m (comes o old new) + rest)) old) entries p) in
    (here.now, along hs quick late width n i by (outage_next_after o turn.result new due) new wide low many happens.1 passing.1 here)
along (Changes c ∷ hs) quick late width n i by due old wide low entries happens passing p =
    let k = passing.0 in
    let said = passing.1.0 in
    let here = change_passes quick late width n i k by due (coming_through (without_outage quick late) c.state hs) old c happens.0 entries p in
    (here.now, along hs quick late width (length c.forest.entries) k by due c.state wide (low_over old c happens.0 i k said) (changed_entries old c happens.0) happens.1 passing.1.1 here)

pub recovers : RecoveryLaw
recovers quick late rounds old last hs i reached wide happens clock taken' m passing few =
    let o = without_outage quick late in
    let width = old.width in
    let s = last.state in
    let n = length s.forest.entries in
    let start = starts o old last last.event last.result refl happens.0 clock taken' in
    let base = last_base old last [] reached (happens.0, tt) in
    let due = outage_next_by o (wait s) s.out in
    let timely : All (Timely quick late due) s.out = least_all (λ (q : Out). outage_settled_by o q.since + late) (wait s + late) s.out in
    let full = full_lanes old s start.wall start.elapsed start.output i width start.ticks' m base.fits.0 in
    let at = s.clocks.at in
    let by = at + (quick + late) * rounds in
    let zero' = anew_none o (suc at) (n + width) s base.since (omega arith) in
    along hs quick late width n i by due s wide m.within refl happens.1 (subst (λ d. ArePassing o i d s hs) start.due passing)
    (record {
      base = base;
      timely = timely;
      r = rounds;
      from = at;
      count = omega (arith, few, zero');
      start = omega arith;
      next = soon_next quick late width n i by due s wide base timely full;
      now = omega arith;
    })
