-- Starting: from a clock on at which an entry is at work, it is answered within few rounds. For the law of a start.
use Rattle.std.proofs.Common.{◌≡◌, ◌∙◌, ℕ, suc, ◌+◌, ◌*◌, ◌<◌, ◌≤◌, Bool, true, false, cond, not, ◌&&◌, List, [], ◌∷◌, Result, All, filter, get_or, is_some, length, nat_le, refl, ap, subst, arith, inl, inr}
use Rattle.std.proofs.Math.Nat.{mul-suc}
use Rattle.std.proofs.lemmas.{Bool.cases_Bool, Bool.Decides.nat_tests}
use Rattle.std.proofs.lemmas.List.Elements.{All-head, All-nil, All-tail}
use Rattle.watch_machine.specs.{declared.lanes.Out.Out, declared.command.WatchOutput.WatchOutput, declared.event.WatchEvent.WatchEvent, declared.fault.WatchFault.WatchFault, History.Turn, History.after_all, State.WatchState, State.opened}
use Rattle.watch_machine.specs.{Wait.wait}
use Rattle.watch_laws.specs.Recovery.{without_outage}
use Rattle.watch_laws.specs.Outage.{Outage, coming_through, how_many, is_request_served, is_request_whole, is_tried, one_where, outage_next_by, outage_settled_by, waiting, waits_to_be_asked}
use Rattle.watch_laws.specs.Starts.{AllSoon, AreWorked, NobodyLaw, StartLaw, all_asked, of_nobody}
use Rattle.watch_laws.proofs.{Bases.last_base, Reached.ran_keeps, Retrying.IsPast, Retrying.turn_past, Shapes.ran_shape, Topping.turn_count}
use Rattle.watch_laws.proofs.Counting.{lanes_apart, lanes_past, least_all, more, none, some, sums}
use Rattle.watch_laws.proofs.Grounds.{Bounds, IsBase, opened_base, starts, tracked, turn_bounds}
use Rattle.watch_laws.proofs.Lanes.{anew_served, is_anew, served_tried}
use Rattle.watch_laws.proofs.Recovering.{Timely, all_whole, full_lanes, soon_next}
use Rattle.watch_laws.proofs.Requests.{anew_none, one_left, take_one}
use Rattle.watch_laws.proofs.Working.{Stage, along, served_now, soon_after}

-- whoever waits or is being asked has something to be asked
both_tried : (tried served : Bool) → (served ≡ true → tried ≡ true) → one_where (tried && not served) + one_where served ≤ one_where tried + one_where false + one_where false
both_tried true true h = omega arith
both_tried true false h = omega arith
both_tried false false h = omega arith
both_tried false true h = absurd (let bad = h refl in cc)

all_tried : (o : Outage) (width n : ℕ) (s : WatchState) → length s.forest.entries ≡ n → IsBase width n s → waiting o n s + how_many (n + width) (is_request_served o s) ≤ of_nobody s + how_many n (is_tried s)
all_tried o width n s entries base =
    let sum =
    sums n (waits_to_be_asked o s) (is_request_served o s) (is_tried s) (λ j. false) (λ j. false)
    (λ j low. both_tried (is_tried s j) (is_request_served o s j) (served_tried o s j (tracked width n s j base low) base.alone base.tries)) in
    let zero' = none n (λ j. false) (λ j. refl) in
    let past = lanes_past n width (λ (q : Out). is_request_whole o q.since) s.out in
    let nobody = ap (λ m. length (filter (λ (q : Out). nat_le m q.entry) s.out)) entries in
    omega (arith, sum, zero', past, nobody)

-- every lane that is taken holds a request of another entry
lanes_tried : (quick late width n : ℕ) (s : WatchState) → IsBase width n s → length s.out ≤ how_many (n + width) (is_request_served (without_outage quick late) s)
lanes_tried quick late width n s base =
    let within = base.within in
    lanes_apart (n + width) (λ (q : Out). is_request_whole (without_outage quick late) q.since) s.out base.alone.single
    (λ k d below. (within k d below, all_whole quick late (get_or s.out k d).since))

pub starts_soon : StartLaw
starts_soon quick late rounds old last hs i reached wide happens clock taken' low work working few =
    let o = without_outage quick late in
    let width = old.width in
    let s = last.state in
    let n = length s.forest.entries in
    let start = starts o old last last.event last.result refl happens.0 clock taken' in
    let base = last_base old last [] reached (happens.0, tt) in
    let due = outage_next_by o (wait s) s.out in
    let timely : All (Timely quick late due) s.out = least_all (λ (q : Out). outage_settled_by o q.since + late) (wait s + late) s.out in
    let at = s.clocks.at in
    let waits' = waiting o n s in
    let k = waits' + coming_through o s hs in
    let all = all_tried o width n s refl base in
    let zero' = anew_none o (suc at) (n + width) s base.since (omega arith) in
    let tried : is_tried s i ≡ true = elim work as (λ _. is_tried s i ≡ true) [
      | inl any ↦ served_tried o s i (tracked width n s i base low) base.alone base.tries any
      | inr m ↦ ap is_some m.attempt_is
    ] in
    let one = some n i (is_tried s) low tried in
    let q = one_left width rounds (all_asked o s hs) few (omega (arith, one)) in
    let by = at + (quick + late) * q.0 in
    let g' = ap (λ x. (quick + late) * x) q.1 ∙ mul-suc (quick + late) q.0 in
    let served : is_request_served o s i ≡ true → Stage quick late width n i by due k s =
    λ any.
    let here = served_now o i at s.out base.since any in
    let fewer = more (n + width) (is_anew o 0 s) (is_request_served o s) (λ j. anew_served o 0 s j) in
    inr (record {
      base = base;
      timely = timely;
      r = rounds;
      anew = 0;
      turn = at;
      sent = at;
      served = here;
      count = omega (arith, few, all, fewer);
      order = omega arith;
      start = omega (arith, g');
      sent_turn = omega arith;
      sent_by = omega arith;
      next = soon_after quick late i due at s.out timely here;
      now = omega arith;
    }) in
    let stage : Stage quick late width n i by due k s = elim work as (λ _. Stage quick late width n i by due k s) [
      | inl any ↦ served any
      | inr m ↦ elim (cases_Bool (is_request_served o s i)) as (λ _. Stage quick late width n i by due k s) [
        | inl any ↦ served any
        | inr none' ↦
            let full = full_lanes old s start.wall start.elapsed start.output i width start.ticks' m base.fits.0 in
            let lanes = lanes_tried quick late width n s base in
            let less = take_one width rounds (all_asked o s hs) k wide (omega (arith, all, full, lanes)) few in
            let same = ap (λ x. (quick + late) * x) less.1.0 ∙ mul-suc (quick + late) less.0 in
            let fits = less.1.1 in
            inl (record {
              passing = record {
                base = base;
                timely = timely;
                r = less.0;
                from = at;
                count = omega (arith, fits, zero');
                start = omega (arith, same, g');
                next = soon_next quick late width n i by due s wide base timely full;
                now = omega arith;
              };
              unserved = none';
            })
      ]
    ] in
    subst (λ b. AllSoon i (quick + late) b hs) (let e : by + (quick + late) ≡ at + (quick + late) * rounds = omega (arith, g') in e)
    (along hs quick late width n i by due s wide low refl happens.1 (subst (λ d. AreWorked o i d s hs) start.due working) stage base)

-- a turn leaves none out of an index at which there is no entry, where none was
abbrev OfEntries : ℕ → WatchState → Type 0
OfEntries n s = (length s.tracks ≡ n) × (IsPast s × Bounds n s)

turn_entries : (n : ℕ) (old new : WatchState) (event : WatchEvent) (result : Result WatchOutput WatchFault) → Turn old event result new → OfEntries n old → OfEntries n new
turn_entries n old new event result turn h =
    let count = h.0 in
    (turn_count old new event result turn ∙ h.0, (turn_past old new event result turn h.1.0, turn_bounds n old new event result turn (omega (arith, count)) h.1.0 h.1.1))

none_past : (n : ℕ) (out : List Out) → All (λ (q : Out). q.entry < n) out → length (filter (λ (q : Out). nat_le n q.entry) out) ≡ 0
none_past n [] all = refl
none_past n (q ∷ out) all =
    let low = All-head (λ (r : Out). r.entry < n) q out all in
    let rest = filter (λ (r : Out). nat_le n r.entry) out in
    let test : nat_le n q.entry ≡ false = grind (arith, nat_tests) in
    ap (λ b. length (cond b (q ∷ rest) rest)) test ∙ none_past n out (All-tail (λ (r : Out). r.entry < n) q out all)

pub nobody_out : NobodyLaw
nobody_out g width turns run =
    let n = length g.entries in
    let base = opened_base g width in
    let last = after_all (opened g width) turns in
    let all = ran_keeps (OfEntries n) (turn_entries n) turns (opened g width) run (base.count, (base.past, (All-nil (λ (q : Out). q.entry < n), All-nil (λ (q : Out). q.since ≤ 0)))) in
    let entries = (ran_shape turns (opened g width) run).0 in
    ap (λ m. length (filter (λ (q : Out). nat_le m q.entry) last.out)) entries ∙ none_past n last.out all.1.1.0
