-- Working: while the broker is there, an entry that is being asked or may go out is answered within few rounds. For the law of a start.
use Rattle.std.proofs.Common.{◌≡◌, ◌≢◌, ◌⊎◌, ◌∙◌, ℕ, suc, ◌+◌, ◌*◌, ◌<◌, ◌≤◌, Bool, true, false, not, ◌&&◌, ◌||◌, ◌==◌, if◌then◌else◌, List, [], ◌∷◌, Option, Some, None, All, Result, Ok, Err, get_or, length, nat_le, refl, sym, ap, subst, arith, inl, inr}
use Rattle.std.proofs.Math.Nat.{mul-suc}
use Rattle.std.proofs.lemmas.{Bool.Decides.nat_tests, List.Elements.All-head, List.Elements.All-tail}
use Rattle.std.proofs.lemmas.Bool.{and_from, and_parts, cases_Bool, eqb-true}
use Rattle.std.specs.List.{list_any}
use Rattle.watch_machine.specs.{declared.command.WatchOutput.WatchOutput, declared.event.WatchEvent.WatchEvent, declared.event.WatchReply.WatchReply, declared.fault.WatchFault.WatchFault, declared.lanes.Out.Out, Change.former_at}
use Rattle.watch_machine.specs.{Looked.looked, Refusal.request_out, Renewed.state_renewed, Settling.timed, State.WatchState, Wait.wait}
use Rattle.watch_machine.specs.declared.event.WatchEvent.TheVariants.{Clock, Looked, Renewed, Need, Begin, Known}
use Rattle.watch_machine.specs.declared.event.Operation.TheVariants.{Look, Renew}
use Rattle.watch_machine.specs.Answers.{noted, replied, without_request}
use Rattle.watch_machine.specs.History.{AllHappen, Changed, Changes, Happening, Hands, IsChanged, Turn, Turned}
use Rattle.watch_machine.specs.Step.{Step, StepLooked, StepRenewed}
use Rattle.watch_machine.proofs.{Cases.not_both, Within.out_entry}
use Rattle.watch_laws.specs.{Absence.is_event_taken, Recovery.without_outage}
use Rattle.watch_laws.specs.Outage.{Outage, comes, comes_over, coming_through, how_many, is_request_served, is_tried, is_request_whole, outage_next_after, outage_next_after_command, outage_next_by, outage_settled_by, waiting, waits_to_be_asked}
use Rattle.watch_laws.specs.Starts.{AllSoon, AreWorked, IsAtWork, IsWorked, IsWorking, is_answer_to, later_by}
use Rattle.watch_laws.proofs.{Bases.changed_base, Changing.low as low_over, Clocking.readied_clocks, Clocking.refused_stays, Following.any_over, Following.changed_entries, Requests.any_gives, Requests.one_left, Shapes.turn_shape}
use Rattle.watch_laws.proofs.{Spacing.looked_out, Spacing.same_index}
use Rattle.watch_laws.proofs.Alone.{lanes_of, none_left, replied_lanes}
use Rattle.watch_laws.proofs.Counting.{least_all, more as more_pass, no_lane, some}
use Rattle.watch_laws.proofs.Grounds.{IsBase, fewer_wait, tracked, turn_base}
use Rattle.watch_laws.proofs.Lanes.{Sends, Ticks, is_anew, is_of, passes, replied_any, replied_lane, served_tried, still_out, ticks, turn_sends}
use Rattle.watch_laws.proofs.Moving.{all_over, fewer_over, served_over}
use Rattle.watch_laws.proofs.Recovering.{Passes, Quiet, Timely, change_passes, clock_passes, looked_quiet, quiet_passes, renewed_quiet, same_quiet, settles_so}

-- a request of i is out that went out by then
abbrev pub since_by : ℕ → ℕ → List Out → Bool
since_by i sent out = list_any (is_of i (λ since. nat_le since sent)) out

-- after a turn, where k may still go out: i waits, and r rounds hold them, but for those that went out after from
pub record Waits (quick late width n i by due k : ℕ) (s : WatchState) : Type 0 where
  pub passing : Passes quick late width n i by due k s
  pub unserved : is_request_served (without_outage quick late) s i ≡ false

-- or it is being asked: r rounds hold those that wait, but for those that went out at anew or later; and after its answer they begin at turn
pub record Serves (quick late width n i by due k : ℕ) (s : WatchState) : Type 0 where
  pub base : IsBase width n s
  pub timely : All (Timely quick late due) s.out
  pub r : ℕ
  pub anew : ℕ
  pub turn : ℕ
  pub sent : ℕ
  pub served : since_by i sent s.out ≡ true
  pub count : k + how_many (n + width) (is_anew (without_outage quick late) anew s) ≤ width * r
  pub order : anew ≤ suc turn
  pub start : turn + (quick + late) * r ≤ by + (quick + late)
  pub sent_turn : sent ≤ turn
  pub sent_by : sent ≤ by
  pub next : due ≤ sent + (quick + late)
  pub now : s.clocks.at ≤ by + (quick + late)

abbrev pub Stage : ℕ → ℕ → ℕ → ℕ → ℕ → ℕ → ℕ → ℕ → WatchState → Type 0
Stage quick late width n i by due k s = Waits quick late width n i by due k s ⊎ Serves quick late width n i by due k s

-- in either no clock comes later than that
stage_now : (quick late width n i by due k : ℕ) (s : WatchState) → Stage quick late width n i by due k s → s.clocks.at ≤ by + (quick + late)
stage_now quick late width n i by due k s (inl w) = let now = w.passing.now in omega (arith, now)
stage_now quick late width n i by due k s (inr v) = v.now

-- a later moment serves as well
later_passes : (quick late width n i by more due k : ℕ) (s : WatchState) → by ≤ more → Passes quick late width n i by due k s → Passes quick late width n i more due k s
later_passes quick late width n i by more due k s le p =
    let start = p.start in
    let now = p.now in
    record { base = p.base; timely = p.timely; r = p.r; from = p.from; count = p.count; start = omega (arith, start, le); next = p.next; now = omega (arith, now, le) }

later_serves : (quick late width n i by more due k : ℕ) (s : WatchState) → by ≤ more → Serves quick late width n i by due k s → Serves quick late width n i more due k s
later_serves quick late width n i by more due k s le v =
    let start = v.start in
    let sent_by = v.sent_by in
    let now = v.now in
    record {
      base = v.base;
      timely = v.timely;
      r = v.r;
      anew = v.anew;
      turn = v.turn;
      sent = v.sent;
      served = v.served;
      count = v.count;
      order = v.order;
      start = omega (arith, start, le);
      sent_turn = v.sent_turn;
      sent_by = omega (arith, sent_by, le);
      next = v.next;
      now = omega (arith, now, le);
    }

later_stage : (quick late width n i by more due k : ℕ) (s : WatchState) → by ≤ more → Stage quick late width n i by due k s → Stage quick late width n i more due k s
later_stage quick late width n i by more due k s le (inl w) = inl (record { passing = later_passes quick late width n i by more due k s le w.passing; unserved = w.unserved })
later_stage quick late width n i by more due k s le (inr v) = inr (later_serves quick late width n i by more due k s le v)

-- and so do fewer that may go out
fewer_stage : (quick late width n i by due k more : ℕ) (s : WatchState) → k ≤ more → Stage quick late width n i by due more s → Stage quick late width n i by due k s
fewer_stage quick late width n i by due k more s le (inl w) =
    let p = w.passing in
    let count = p.count in
    inl (record { passing = record { base = p.base; timely = p.timely; r = p.r; from = p.from; count = omega (arith, count, le); start = p.start; next = p.next; now = p.now }; unserved = w.unserved })
fewer_stage quick late width n i by due k more s le (inr v) =
    let count = v.count in
    inr (record {
      base = v.base;
      timely = v.timely;
      r = v.r;
      anew = v.anew;
      turn = v.turn;
      sent = v.sent;
      served = v.served;
      count = omega (arith, count, le);
      order = v.order;
      start = v.start;
      sent_turn = v.sent_turn;
      sent_by = v.sent_by;
      next = v.next;
      now = v.now;
    })

-- fewer are out anew after a later moment
fewer_anew : (o : Outage) (from more n : ℕ) (s : WatchState) → from ≤ more → how_many n (is_anew o more s) ≤ how_many n (is_anew o from s)
fewer_anew o from more n s le = more_pass n (is_anew o more s) (is_anew o from s) (λ j h. weaker j s.out h) where
  weaker : (j : ℕ) (out : List Out) → list_any (λ (q : Out). q.entry == j && (is_request_whole o q.since && nat_le more q.since)) out ≡ true →
      list_any (λ (q : Out). q.entry == j && (is_request_whole o q.since && nat_le from q.since)) out ≡ true
  weaker j [] h = absurd cc
  weaker j (q ∷ out) h =
      let rest = list_any (λ (p : Out). p.entry == j && (is_request_whole o p.since && nat_le from p.since)) out in
      elim (cases_Bool (q.entry == j && (is_request_whole o q.since && nat_le more q.since))) as (λ _. (q.entry == j && (is_request_whole o q.since && nat_le from q.since)) || rest ≡ true) [
        | inl here ↦
            let one = and_parts (q.entry == j) (is_request_whole o q.since && nat_le more q.since) here in
            let two = and_parts (is_request_whole o q.since) (nat_le more q.since) one.1 in
            let late : nat_le from q.since ≡ true = (let a = two.1 in grind (arith, nat_tests)) in
            first (q.entry == j && (is_request_whole o q.since && nat_le from q.since)) rest (and_from (q.entry == j) (is_request_whole o q.since && nat_le from q.since) one.0 (and_from (is_request_whole o q.since) (nat_le from q.since) two.0 late))
        | inr there ↦
            last (q.entry == j && (is_request_whole o q.since && nat_le from q.since)) rest
            (weaker j out (sym (ap (λ b. b || list_any (λ (p : Out). p.entry == j && (is_request_whole o p.since && nat_le more p.since)) out) there) ∙ h))
      ] where
        first : (a b : Bool) → a ≡ true → a || b ≡ true
        first true b e = refl
        first false b e = absurd cc

        last : (a b : Bool) → b ≡ true → a || b ≡ true
        last true b e = refl
        last false b e = e

-- a request that is out went out by now
pub served_now : (o : Outage) (i at : ℕ) (out : List Out) → All (λ (q : Out). q.since ≤ at) out → list_any (λ (q : Out). q.entry == i && is_request_whole o q.since) out ≡ true → since_by i at out ≡ true
served_now o i at [] all h = absurd cc
served_now o i at (q ∷ out) all h =
    let rest = since_by i at out in
    elim (cases_Bool (q.entry == i && is_request_whole o q.since)) as (λ _. (q.entry == i && nat_le q.since at) || rest ≡ true) [
      | inl here ↦
          let before = All-head (λ (p : Out). p.since ≤ at) q out all in
          let test : nat_le q.since at ≡ true = grind (arith, nat_tests) in
          first (q.entry == i && nat_le q.since at) rest (and_from (q.entry == i) (nat_le q.since at) (and_parts (q.entry == i) (is_request_whole o q.since) here).0 test)
      | inr there ↦
          last (q.entry == i && nat_le q.since at) rest
          (served_now o i at out (All-tail (λ (p : Out). p.since ≤ at) q out all) (sym (ap (λ b. b || list_any (λ (p : Out). p.entry == i && is_request_whole o p.since) out) there) ∙ h))
    ] where
      first : (a b : Bool) → a ≡ true → a || b ≡ true
      first true b e = refl
      first false b e = absurd cc

      last : (a b : Bool) → b ≡ true → a || b ≡ true
      last true b e = refl
      last false b e = e

-- the next clock comes soon after it
pub soon_after : (quick late i due sent : ℕ) (out : List Out) → All (Timely quick late due) out → since_by i sent out ≡ true → due ≤ sent + (quick + late)
soon_after quick late i due sent out timely served =
    any_gives (due ≤ sent + (quick + late)) (is_of i (λ since. nat_le since sent)) out served
    (λ k d below yes'.
    let q = get_or out k d in
    let t = timely k d below in
    let e = settles_so quick late q.since in
    let both = and_parts (q.entry == i) (nat_le q.since sent) yes' in
    let le : q.since ≤ sent = (let b = both.1 in grind (arith, nat_tests)) in
    omega (arith, t, e, le))

-- who is not asked and may go out counts among those that wait, or come to wait
one_waits : (o : Outage) (n i : ℕ) (old new : WatchState) → i < n → is_request_served o old i ≡ false → is_tried new i ≡ true → 1 ≤ waiting o n old + how_many n (comes o old new)
one_waits o n i old new low unserved tried =
    elim (cases_Bool (is_tried old i)) as (λ _. 1 ≤ waiting o n old + how_many n (comes o old new)) [
      | inl before ↦ (let one = some n i (waits_to_be_asked o old) low (and_from (is_tried old i) (not (is_request_served o old i)) before (ap not unserved)) in omega (arith, one))
      | inr none ↦
          let one = some n i (comes o old new) low (and_from (is_tried new i) (not (is_tried old i) || (is_request_served o old i && not (is_request_served o new i))) tried (first (not (is_tried old i)) (is_request_served o old i && not (is_request_served o new i)) (ap not none))) in
          omega (arith, one)
    ] where
      first : (a b : Bool) → a ≡ true → a || b ≡ true
      first true b e = refl
      first false b e = absurd cc

-- ---- a clock

module _ (quick late width n i by due rest : ℕ) (old new : WatchState) (wall elapsed : ℕ) (output : WatchOutput) (wide : 0 < width) (low : i < n) (step : Step old (Clock wall elapsed) output new) (in_time : (timed old wall elapsed).clocks.at ≤ due) (base : IsBase width n new) (sends : Sends old new n) where
  abbrev o : Outage
  o = without_outage quick late

  abbrev more : ℕ
  more = waiting o n old + (how_many n (comes o old new) + rest)

  h : Ticks old new wall elapsed output
  h = ticks old new wall elapsed output step

  at_is : new.clocks.at ≡ (timed old wall elapsed).clocks.at
  at_is = ap (λ (x : WatchState). x.clocks.at) h.new_is ∙ ap (λ x. x.at) (readied_clocks old wall elapsed)

  timely_now : All (Timely quick late (outage_next_by o (wait new) new.out)) new.out
  timely_now = least_all (λ (q : Out). outage_settled_by o q.since + late) (wait new + late) new.out

  -- it goes out
  goes : Waits quick late width n i by due more old → is_request_served o new i ≡ true → Stage quick late width n i by (outage_next_after_command o output.command new due) (waiting o n new + rest) new
  goes w served =
      let p = w.passing in
      let less = fewer_wait o (suc p.from) width n old new p.base base sends in
      let count = p.count in
      let start = p.start in
      let next = p.next in
      let tried = served_tried o new i (tracked width n new i base low) base.alone base.tries served in
      let one = one_waits o n i old new low w.unserved tried in
      let r = one_left width p.r more (omega (arith, count)) (omega (arith, one)) in
      let g = ap (λ x. (quick + late) * x) r.1 ∙ mul-suc (quick + late) r.0 in
      let here = served_now o i new.clocks.at new.out base.since served in
      let is = at_is in
      let late' = in_time in
      inr (subst (λ x. Serves quick late width n i by (outage_next_after_command o x new due) (waiting o n new + rest) new) (sym h.command)
      (record {
        base = base;
        timely = timely_now;
        r = p.r;
        anew = suc p.from;
        turn = p.from + (quick + late);
        sent = new.clocks.at;
        served = here;
        count = omega (arith, less, count);
        order = omega arith;
        start = omega (arith, start);
        sent_turn = omega (arith, is, late', next);
        sent_by = omega (arith, is, late', next, start, g);
        next = soon_after quick late i (outage_next_by o (wait new) new.out) new.clocks.at new.out timely_now here;
        now = omega (arith, is, late', next, start, g);
      }))

  clock_waits : Waits quick late width n i by due more old → IsAtWork o new i → Stage quick late width n i by (outage_next_after_command o output.command new due) (waiting o n new + rest) new
  clock_waits w (inr m) =
      elim (cases_Bool (is_request_served o new i)) as (λ _. Stage quick late width n i by (outage_next_after_command o output.command new due) (waiting o n new + rest) new) [
        | inl served ↦ goes w served
        | inr unserved ↦ inl (record { passing = clock_passes quick late width n i by due rest old new wall elapsed output wide low step in_time m base sends w.passing; unserved = unserved })
      ]
  clock_waits w (inl served) = goes w served

  clock_serves : Serves quick late width n i by due more old → Stage quick late width n i by (outage_next_after_command o output.command new due) (waiting o n new + rest) new
  clock_serves v =
      let less = fewer_wait o v.anew width n old new v.base base sends in
      let count = v.count in
      let next = v.next in
      let sent_by = v.sent_by in
      let here = still_out old new wall elapsed output (is_of i (λ since. nat_le since v.sent)) h v.served in
      let is = at_is in
      let late' = in_time in
      inr (subst (λ x. Serves quick late width n i by (outage_next_after_command o x new due) (waiting o n new + rest) new) (sym h.command)
      (record {
        base = base;
        timely = timely_now;
        r = v.r;
        anew = v.anew;
        turn = v.turn;
        sent = v.sent;
        served = here;
        count = omega (arith, less, count);
        order = v.order;
        start = v.start;
        sent_turn = v.sent_turn;
        sent_by = v.sent_by;
        next = soon_after quick late i (outage_next_by o (wait new) new.out) v.sent new.out timely_now here;
        now = omega (arith, is, late', next, sent_by);
      }))

-- ---- any other event

-- what is out of i stays out, and nothing of it goes out
record Leaves (o : Outage) (i : ℕ) (old new : WatchState) : Type 0 where
  served : (sent : ℕ) → since_by i sent old.out ≡ true → since_by i sent new.out ≡ true
  unserved : is_request_served o old i ≡ false → is_request_served o new i ≡ false

quiet_stage :
    (quick late width n i by due rest : ℕ) (old new : WatchState) (output : WatchOutput) → Quiet quick late due old new output → IsBase width n new → Sends old new n → Leaves (without_outage quick late) i old new →
    Stage quick late width n i by due (waiting (without_outage quick late) n old + (how_many n (comes (without_outage quick late) old new) + rest)) old →
    Stage quick late width n i by (outage_next_after_command (without_outage quick late) output.command new due) (waiting (without_outage quick late) n new + rest) new
quiet_stage quick late width n i by due rest old new output quiet base sends leaves (inl w) =
    inl (record { passing = quiet_passes quick late width n i by due rest old new output quiet base sends w.passing; unserved = leaves.unserved w.unserved })
quiet_stage quick late width n i by due rest old new output quiet base sends leaves (inr v) =
    let o = without_outage quick late in
    let less = fewer_wait o v.anew width n old new v.base base sends in
    let count = v.count in
    let now = v.now in
    let c = quiet.0 in
    inr (subst (λ x. Serves quick late width n i by x (waiting o n new + rest) new) (sym quiet.1.1)
    (record {
      base = base;
      timely = quiet.1.0 v.timely;
      r = v.r;
      anew = v.anew;
      turn = v.turn;
      sent = v.sent;
      served = leaves.served v.sent v.served;
      count = omega (arith, less, count);
      order = v.order;
      start = v.start;
      sent_turn = v.sent_turn;
      sent_by = v.sent_by;
      next = v.next;
      now = omega (arith, c, now);
    }))

same_leaves : (o : Outage) (i : ℕ) (old new : WatchState) → new.out ≡ old.out → Leaves o i old new
same_leaves o i old new is = record {
  served = λ sent any. ap (since_by i sent) is ∙ any;
  unserved = λ none'. ap (list_any (λ (q : Out). q.entry == i && is_request_whole o q.since)) is ∙ none';
}

-- its own answer: it may wait anew, one round later
own_stage :
    (quick late width n i by due rest : ℕ) (old new : WatchState) (output : WatchOutput) → Quiet quick late due old new output → IsBase width n new → Sends old new n → is_request_served (without_outage quick late) new i ≡ false →
    Stage quick late width n i by due (waiting (without_outage quick late) n old + (how_many n (comes (without_outage quick late) old new) + rest)) old →
    Stage quick late width n i (by + (quick + late)) (outage_next_after_command (without_outage quick late) output.command new due) (waiting (without_outage quick late) n new + rest) new
own_stage quick late width n i by due rest old new output quiet base sends unserved (inl w) =
    inl (record {
      passing = later_passes quick late width n i by (by + (quick + late)) _ (waiting (without_outage quick late) n new + rest) new (omega arith) (quiet_passes quick late width n i by due rest old new output quiet base sends w.passing);
      unserved = unserved;
    })
own_stage quick late width n i by due rest old new output quiet base sends unserved (inr v) =
    let o = without_outage quick late in
    let less = fewer_wait o v.anew width n old new v.base base sends in
    let fewer = fewer_anew o v.anew (suc v.turn) (n + width) new v.order in
    let count = v.count in
    let now = v.now in
    let next = v.next in
    let sent_turn = v.sent_turn in
    let c = quiet.0 in
    inl (record {
      passing = subst (λ x. Passes quick late width n i (by + (quick + late)) x (waiting o n new + rest) new) (sym quiet.1.1)
          (record {
            base = base;
            timely = quiet.1.0 v.timely;
            r = v.r;
            from = v.turn;
            count = omega (arith, less, count, fewer);
            start = v.start;
            next = omega (arith, next, sent_turn);
            now = omega (arith, c, now);
          });
      unserved = unserved;
    })

-- an answer, where mid is the state before what it says of the broker
module _ (o : Outage) (i : ℕ) (old mid new : WatchState) (q : Out) (reply : WatchReply) (is : new ≡ replied mid q reply) (outs : mid.out ≡ old.out) where
  shrinks : is_request_served o old i ≡ false → is_request_served o new i ≡ false
  shrinks unserved =
      let p : ℕ → ℕ → Bool = λ k since. k == i && is_request_whole o since in
      elim (cases_Bool (is_request_served o new i)) as (λ _. is_request_served o new i ≡ false) [
        | inl served ↦ absurd (not_both (sym (ap (list_any (passes p)) outs) ∙ replied_any p mid q reply (sym (ap (λ (x : WatchState). list_any (passes p) x.out) is) ∙ served)) unserved)
        | inr no' ↦ no'
      ]

  other_leaves : q.entry ≢ i → Leaves o i old new
  other_leaves apart = record {
    served = λ sent any.
        ap (λ (x : WatchState). since_by i sent x.out) is ∙ replied_lane i (λ since. nat_le since sent) mid q reply apart (ap (since_by i sent) outs ∙ any);
    unserved = shrinks;
  }

  own_unserved : q.entry ≡ i → is_request_served o new i ≡ false
  own_unserved same =
      let less = replied_lanes mid q reply i in
      let none' = none_left i mid.out in
      let e = ap (λ k. lanes_of i (without_request k mid.out)) same in
      let here : lanes_of i (replied mid q reply).out ≡ 0 = omega (arith, less, none', e) in
      ap (λ (x : WatchState). is_request_served o x i) is ∙ no_lane i (λ q'. is_request_whole o q'.since) (replied mid q reply).out here

answer_stage :
    (quick late width n i by more due rest j : ℕ) (old mid new : WatchState) (q : Out) (reply : WatchReply) (output : WatchOutput) → by ≤ more → (j == i ≡ true → by + (quick + late) ≤ more) → new ≡ replied mid q reply → mid.out ≡ old.out →
    q.entry ≡ j → Quiet quick late due old new output → IsBase width n new → Sends old new n →
    Stage quick late width n i by due (waiting (without_outage quick late) n old + (how_many n (comes (without_outage quick late) old new) + rest)) old →
    Stage quick late width n i more (outage_next_after_command (without_outage quick late) output.command new due) (waiting (without_outage quick late) n new + rest) new
answer_stage quick late width n i by more due rest j old mid new q reply output le own is outs entry quiet base sends stage =
    let o = without_outage quick late in
    let d = outage_next_after_command o output.command new due in
    let k = waiting o n new + rest in
    elim (cases_Bool (j == i)) as (λ _. Stage quick late width n i more d k new) [
      | inl same ↦
          let so : q.entry ≡ i = entry ∙ eqb-true j i same in
          later_stage quick late width n i (by + (quick + late)) more d k new (own same) (own_stage quick late width n i by due rest old new output quiet base sends (own_unserved o i old mid new q reply is outs so) stage)
      | inr other ↦
          let apart : q.entry ≢ i = λ e. not_both (subst (λ m. (m == i) ≡ true) (sym e ∙ entry) (same_index i)) other in
          later_stage quick late width n i by more d k new le (quiet_stage quick late width n i by due rest old new output quiet base sends (other_leaves o i old mid new q reply is outs apart) stage)
    ]

step_stage :
    (quick late width n i by more due rest : ℕ) (old new : WatchState) (event : WatchEvent) (output : WatchOutput) → 0 < width → i < n → by ≤ more → (is_answer_to i event ≡ true → by + (quick + late) ≤ more) → Step old event output new →
    IsWorking (without_outage quick late) i due old event new → IsBase width n new → Sends old new n →
    Stage quick late width n i by due (waiting (without_outage quick late) n old + (how_many n (comes (without_outage quick late) old new) + rest)) old →
    Stage quick late width n i more (outage_next_after_command (without_outage quick late) output.command new due) (waiting (without_outage quick late) n new + rest) new
step_stage quick late width n i by more due rest old new (Clock wall elapsed) output wide low le own step working base sends (inl w) =
    later_stage quick late width n i by more _ (waiting (without_outage quick late) n new + rest) new le (clock_waits quick late width n i by due rest old new wall elapsed output wide low step working.0 base sends w working.1)
step_stage quick late width n i by more due rest old new (Clock wall elapsed) output wide low le own step working base sends (inr v) =
    later_stage quick late width n i by more _ (waiting (without_outage quick late) n new + rest) new le (clock_serves quick late width n i by due rest old new wall elapsed output wide low step working.0 base sends v)
step_stage quick late width n i by more due rest old new (Looked j reply terms) output wide low le own step working base sends stage = turned (request_out old.out j Look) refl step where
  turned : (found : Option Out) → request_out old.out j Look ≡ found → StepLooked old found reply terms output new → Stage quick late width n i more (outage_next_after_command (without_outage quick late) output.command new due) (waiting (without_outage quick late) n new + rest) new
  turned None is step' = absurd step'
  turned (Some q) is step' =
      let s = noted old q reply in
      answer_stage quick late width n i by more due rest j old (looked s q reply terms) new q reply output le own step'.1 (looked_out s q reply terms) (out_entry old.out j Look q is)
      (looked_quiet quick late due old new (Some q) reply terms output step') base sends stage
step_stage quick late width n i by more due rest old new (Renewed j reply) output wide low le own step working base sends stage = turned (request_out old.out j Renew) refl step where
  turned : (found : Option Out) → request_out old.out j Renew ≡ found → StepRenewed old found reply output new → Stage quick late width n i more (outage_next_after_command (without_outage quick late) output.command new due) (waiting (without_outage quick late) n new + rest) new
  turned None is step' = absurd step'
  turned (Some q) is step' =
      let s = noted old q reply in
      answer_stage quick late width n i by more due rest j old (state_renewed s q reply) new q reply output le own step'.1 refl (out_entry old.out j Renew q is)
      (renewed_quiet quick late due old new (Some q) reply output step') base sends stage
step_stage quick late width n i by more due rest old new (Need j until) output wide low le own step working base sends stage =
    later_stage quick late width n i by more _ (waiting (without_outage quick late) n new + rest) new le
    (quiet_stage quick late width n i by due rest old new output (same_quiet quick late due old _ new output _ step.1 refl refl step.0 refl) base sends (same_leaves (without_outage quick late) i old new (ap (λ (x : WatchState). x.out) step.1)) stage)
step_stage quick late width n i by more due rest old new Begin output wide low le own step working base sends stage =
    later_stage quick late width n i by more _ (waiting (without_outage quick late) n new + rest) new le
    (quiet_stage quick late width n i by due rest old new output (same_quiet quick late due old _ new output _ step.1 refl refl step.0 refl) base sends (same_leaves (without_outage quick late) i old new (ap (λ (x : WatchState). x.out) step.1)) stage)
step_stage quick late width n i by more due rest old new (Known j end renewable) output wide low le own step working base sends stage =
    later_stage quick late width n i by more _ (waiting (without_outage quick late) n new + rest) new le
    (quiet_stage quick late width n i by due rest old new output (same_quiet quick late due old _ new output _ step.1 refl refl step.0 refl) base sends (same_leaves (without_outage quick late) i old new (ap (λ (x : WatchState). x.out) step.1)) stage)

-- what is refused leaves everything
same_stage :
    (quick late width n i by due k more : ℕ) (old new : WatchState) → new ≡ old → IsBase width n new → waiting (without_outage quick late) n new + k ≤ more → Stage quick late width n i by due more old → Stage quick late width n i by due (waiting (without_outage quick late) n new + k) new
same_stage quick late width n i by due k more old new is base le stage =
    subst (λ (x : WatchState). Stage quick late width n i by due (waiting (without_outage quick late) n new + k) x) (sym is) (fewer_stage quick late width n i by due (waiting (without_outage quick late) n new + k) more old le stage)

turn_stage :
    (quick late width n i by due rest : ℕ) (old : WatchState) (turn : Turned) → 0 < width → i < n → Turn old turn.event turn.result turn.state → IsWorked (without_outage quick late) i due old turn.event turn.result turn.state →
    IsBase width n turn.state → Sends old turn.state n → IsBase width n old →
    Stage quick late width n i by due (waiting (without_outage quick late) n old + (how_many n (comes (without_outage quick late) old turn.state) + rest)) old →
    Stage quick late width n i (by + later_by i (quick + late) turn) (outage_next_after (without_outage quick late) turn.result turn.state due) (waiting (without_outage quick late) n turn.state + rest) turn.state
turn_stage quick late width n i by due rest old turn wide low step working base sends old_base stage = by_result turn.result refl step working where
  by_result :
      (result : Result WatchOutput WatchFault) → turn.result ≡ result → Turn old turn.event result turn.state → IsWorked (without_outage quick late) i due old turn.event result turn.state →
      Stage quick late width n i (by + later_by i (quick + late) turn) (outage_next_after (without_outage quick late) turn.result turn.state due) (waiting (without_outage quick late) n turn.state + rest) turn.state
  by_result (Ok output) is step' working' =
      let taken' : is_event_taken turn.result ≡ true = ap is_event_taken is in
      subst (λ r. Stage quick late width n i (by + later_by i (quick + late) turn) (outage_next_after (without_outage quick late) r turn.state due) (waiting (without_outage quick late) n turn.state + rest) turn.state) (sym is)
      (step_stage quick late width n i by (by + later_by i (quick + late) turn) due rest old turn.state turn.event output wide low (omega arith)
      (λ answer. (let e : later_by i (quick + late) turn ≡ quick + late = ap (λ b. if b then quick + late else 0) (and_from (is_event_taken turn.result) (is_answer_to i turn.event) taken' answer) in omega (arith, e)))
      step'.1 working' base sends stage)
  by_result (Err fault) is step' working' =
      let same = refused_stays old turn.state turn.event fault step' in
      let less = fewer_wait (without_outage quick late) 0 width n old turn.state old_base base sends in
      let anew = ap (λ (x : WatchState). how_many (n + width) (is_anew (without_outage quick late) 0 x)) same in
      subst (λ r. Stage quick late width n i (by + later_by i (quick + late) turn) (outage_next_after (without_outage quick late) r turn.state due) (waiting (without_outage quick late) n turn.state + rest) turn.state) (sym is)
      (later_stage quick late width n i by (by + later_by i (quick + late) turn) due (waiting (without_outage quick late) n turn.state + rest) turn.state (omega arith)
      (same_stage quick late width n i by due rest (waiting (without_outage quick late) n old + (how_many n (comes (without_outage quick late) old turn.state) + rest)) old turn.state same base (omega (arith, less, anew)) stage))

-- and another forest that is watched leaves the clock and all lanes
change_stage :
    (quick late width n i k by due rest : ℕ) (old : WatchState) (c : Changed) → IsChanged old c → former_at c.was k ≡ Some i → length old.forest.entries ≡ n →
    Stage quick late width n i by due (waiting (without_outage quick late) n old + (how_many (length c.forest.entries) (comes_over old c) + rest)) old →
    Stage quick late width (length c.forest.entries) k by due (waiting (without_outage quick late) (length c.forest.entries) c.state + rest) c.state
change_stage quick late width n i k by due rest old c h said entries (inl w) =
    inl (record { passing = change_passes quick late width n i k by due rest old c h entries w.passing; unserved = served_over old c h i k said (without_outage quick late) ∙ w.unserved })
change_stage quick late width n i k by due rest old c h said entries (inr v) =
    let less = fewer_over (without_outage quick late) old c h width n rest entries v.base v.anew in
    let count = v.count in
    let now = v.now in
    let clock = ap (λ (x : WatchState). x.clocks.at) h.state in
    inr (record {
      base = changed_base old c h width n entries v.base;
      timely = all_over old c h (Timely quick late due) (λ r m le. le) v.timely;
      r = v.r;
      anew = v.anew;
      turn = v.turn;
      sent = v.sent;
      served = any_over old c h i k (λ since. nat_le since v.sent) said ∙ v.served;
      count = omega (arith, less, count);
      order = v.order;
      start = v.start;
      sent_turn = v.sent_turn;
      sent_by = v.sent_by;
      next = v.next;
      now = omega (arith, now, clock);
    })

pub along :
    (hs : List Happening) (quick late width n i by due : ℕ) (old : WatchState) → 0 < width → i < n → length old.forest.entries ≡ n → AllHappen old hs → AreWorked (without_outage quick late) i due old hs →
    Stage quick late width n i by due (waiting (without_outage quick late) n old + coming_through (without_outage quick late) old hs) old → IsBase width n old → AllSoon i (quick + late) (by + (quick + late)) hs
along [] quick late width n i by due old wide low entries happens working stage base = tt
along (Hands turn ∷ hs) quick late width n i by due old wide low entries happens working stage base =
    let o = without_outage quick late in
    let span = quick + late in
    let new = turn.state in
    let come = coming_through o new hs in
    let next = turn_base width n old new turn.event turn.result happens.0 base in
    let count = next.count in
    let sends = turn_sends old new turn.event turn.result n (omega (arith, count)) happens.0 in
    let many : length new.forest.entries ≡ n = (turn_shape old new turn.event turn.result happens.0).0 ∙ entries in
    let here = turn_stage quick late width n i by due come old turn wide low happens.0 working.0 next sends base
    (subst (λ m. Stage quick late width n i by due (waiting o n old + (how_many m (comes o old new) + come)) old) entries stage) in
    let now = stage_now quick late width n i (by + later_by i span turn) (outage_next_after o turn.result new due) (waiting o n new + come) new here in
    let rest = along hs quick late width n i (by + later_by i span turn) (outage_next_after o turn.result new due) new wide low many happens.1 working.1 here next in
    (omega (arith, now), subst (λ b. AllSoon i span b hs) (let e : by + later_by i span turn + span ≡ by + span + later_by i span turn = omega arith in e) rest)
along (Changes c ∷ hs) quick late width n i by due old wide low entries happens working stage base = λ m told.
    let o = without_outage quick late in
    let span = quick + late in
    let h = happens.0 in
    let k = working.0 in
    let said = working.1.0 in
    let same : k ≡ m = h.may.once i k m said told in
    let come = coming_through o c.state hs in
    let n' = length c.forest.entries in
    let here = change_stage quick late width n i k by due come old c h said entries stage in
    let now = stage_now quick late width n' k by due (waiting o n' c.state + come) c.state here in
    let rest = along hs quick late width n' k by due c.state wide (low_over old c h i k said) (changed_entries old c h) happens.1 working.1.1 here (changed_base old c h width n entries base) in
    subst (λ j. (c.state.clocks.at ≤ by + span) × AllSoon j span (by + span) hs) same (now, rest)
