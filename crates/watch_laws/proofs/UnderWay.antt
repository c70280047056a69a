-- UnderWay: while the broker is there, an entry that is wanted and on its first try is being asked or may go out after each clock. For the
-- law of a wanted entry's start.
use Rattle.std.proofs.Common.{◌≡◌, ◌≢◌, ◌∙◌, ℕ, ◌+◌, ◌<◌, ◌≤◌, Bool, true, false, max, min, not, ◌&&◌, ◌||◌, ◌==◌, if◌then◌else◌, List, [], ◌∷◌, Option, Some, None, IfSome, Result, Ok, Err, length, map, nat_lt, refl, sym, ap, subst, arith, inl, inr}
use Rattle.std.proofs.lemmas.Bool.Decides.{nat_tests}
use Rattle.std.proofs.lemmas.Bool.{and_parts, cases_Bool, cond-false, cond-true, eqb-true}
use Rattle.std.proofs.lemmas.List.{get_or-set_other, get_or-set_same, length-set}
use Rattle.std.specs.List.{list_any}
use Rattle.plan_forest.specs.declared.entry.Entry.{Entry}
use Rattle.watch_machine.specs.{declared.command.WatchOutput.WatchOutput, declared.event.WatchEvent.WatchEvent, declared.event.Operation.Operation, declared.event.WatchReply.WatchReply, declared.event.WatchTerms.WatchTerms}
use Rattle.watch_machine.specs.{declared.fault.WatchFault.WatchFault, declared.lanes.Out.Out, declared.lanes.Presence.Presence, declared.notes.BeginReason.BeginReason, declared.track.Track.Track, declared.track.Try.Try, Clocks.sec}
use Rattle.watch_machine.specs.{Change.former_at, Margins.has_come, Press.is_fresh, Press.pressed, Refusal.request_out, Round.asked_by_round as round_of, Sending.sent}
use Rattle.watch_machine.specs.declared.event.WatchEvent.TheVariants.{Clock, Looked, Renewed, Need, Begin, Known}
use Rattle.watch_machine.specs.declared.event.Operation.TheVariants.{Look, Renew}
use Rattle.watch_machine.specs.declared.event.WatchReply.TheVariants.{Told, Refused, Busy, Lost}
use Rattle.watch_machine.specs.Answers.{failing, heard, lane_freed, noted, replied, with_track, without_request}
use Rattle.watch_machine.specs.Beginning.{begun, hastened, is_called, is_pressed, is_pressed_try, is_start, owed, owing, owing_lookup, owing_past, soon, sooner_try, untopped, untopped_track}
use Rattle.watch_machine.specs.History.{AllHappen, Changed, Changes, Happening, Hands, IsChanged, Turn}
use Rattle.watch_machine.specs.Lines.{is_first, later_at, ready}
use Rattle.watch_machine.specs.Looked.{after_look, at_once, is_called_for, looked, refused_try, told_state, told_track, told_try, untold, untold_track}
use Rattle.watch_machine.specs.Renewed.{after_renewal, from_try, granted_from, granted_try, renewed_track, state_renewed, track_renewed, ungranted, ungranted_track}
use Rattle.watch_machine.specs.Settling.{is_real, settled, settled_track, settled_try, timed}
use Rattle.watch_machine.specs.State.{WatchState, attempt_at, entry_of, no_track, second, track_at}
use Rattle.watch_machine.specs.Step.{Step, StepClock, StepLooked, StepRenewed, known, readied, told_earlier, why, with_need_until}
use Rattle.watch_machine.specs.Wanted.{is_alive, is_open, is_wanted, need_of, wanted_need, wants}
use Rattle.watch_machine.proofs.{Cases.if_both, Cases.not_both, Unseen.pressed_seen, Unseen.sent_seen}
use Rattle.watch_machine.proofs.Seeing.{SameSeen, both_seen, need_same}
use Rattle.watch_laws.specs.Recovery.{without_outage}
use Rattle.watch_laws.specs.Outage.{IsReplyInOutage, Outage, is_request_served, is_request_whole, outage_next_after}
use Rattle.watch_laws.specs.Starts.{AreUnderWay, AreWorked, BrokerIsThere, FirstTryIsUnderWay, IsAtWork, IsThereAt, IsWorked, IsWorking, SoonLaw, is_first_try}
use Rattle.watch_laws.proofs.{Answering.looked_rest, Changing.low as low_over, Grounds.IsBase, Grounds.turn_base, Holding.looked_presence, Holding.ready_presence, Minding.some_within, Moving.served_over, Once.names_none, Opener.mid_bears}
use Rattle.watch_laws.proofs.{Recovering.all_whole, Resting.IsUntold, Retrying.rises, Shapes.turn_shape, Starting.starts_soon}
use Rattle.watch_laws.proofs.Bases.{changed_base, kept_flag, last_base}
use Rattle.watch_laws.proofs.Clocking.{readied_clocks, refused_stays, sent_by}
use Rattle.watch_laws.proofs.Following.{changed_entries, kept_over, owed_is}
use Rattle.watch_laws.proofs.Lanes.{goes_out_now, replied_lane, still_out, ticks}
use Rattle.watch_laws.proofs.OnPlan.{attempt_sent, presence_away, stays}
use Rattle.watch_laws.proofs.Spacing.{looked_other, looked_out, same_index}
use Rattle.watch_laws.proofs.Tracking.{each_kept, known_is, known_out, set_kept}

-- ---- a first try

-- there is one that has not failed, and may go out by that moment
record Runs (at : ℕ) (o : Option Try) : Type 0 where
  try : Try
  is : o ≡ Some try
  first : is_first try ≡ true
  settled' : try.failed ≡ false
  soon' : try.at ≤ at

some_runs : (at : ℕ) (t : Try) → is_first t ≡ true → t.failed ≡ false → t.at ≤ at → Runs at (Some t)
some_runs at t first settled'' le = record { try = t; is = refl; first = first; settled' = settled''; soon' = le }

later_runs : (a b : ℕ) (o : Option Try) → a ≤ b → Runs a o → Runs b o
later_runs a b o le r = let s = r.soon' in record { try = r.try; is = r.is; first = r.first; settled' = r.settled'; soon' = omega (arith, s, le) }

-- a failure leaves none
failed_first : (t : Try) (next : Operation) (lost alone : Bool) → is_first (failing t next lost alone) ≡ false
failed_first t next lost alone = ap (λ b. t.pressed && b) (never t.fails) ∙ none t.pressed where
  never : (n : ℕ) → (min 20 (n + 1) == 0) ≡ false
  never n = grind (arith, nat_tests)

  none : (b : Bool) → b && false ≡ false
  none true = refl
  none false = refl

refused_first : (at : ℕ) (x : Track) (t : Try) → is_first (refused_try at x t) ≡ false
refused_first at x t =
    let P : Try → Type 0 = λ u. is_first u ≡ false in
    if_both P (is_open (sec at) x) (if t.pressed then failing t Renew false false else record (failing t Renew false false) { at = at; failed = false }) (failing t Look false false)
    (if_both P t.pressed (failing t Renew false false) (record (failing t Renew false false) { at = at; failed = false }) (failed_first t Renew false false) (failed_first t Renew false false))
    (failed_first t Look false false)

-- nor does an answer to a renewal
granted_first : (at end : ℕ) (owes : Bool) (o : Option Try) → is_first_try (granted_try at owes end o) ≡ false
granted_first at end owes None = refl
granted_first at end owes (Some t) =
    let P : Option Try → Type 0 = λ o. is_first_try o ≡ false in
    if_both P (nat_lt (sec at) end) (if owes then Some (owed (at + 30000)) else None) (Some (failing t Look false false)) (if_both P owes (Some (owed (at + 30000))) None refl refl) (failed_first t Look false false)

ungranted_first : (at : ℕ) (heard' : Bool) (reply : WatchReply) (x : Track) (o : Option Try) → IsUntold reply → is_first_try (ungranted at heard' reply x o) ≡ false
ungranted_first at heard' reply x None none = refl
ungranted_first at heard' (Told seconds renewable date) x (Some t) none = absurd none
ungranted_first at heard' (Refused status date) x (Some t) none = failed_first t Look false false
ungranted_first at heard' Busy x (Some t) none = failed_first t (after_renewal (sec at) x) true false
ungranted_first at heard' Lost x (Some t) none = failed_first t (after_renewal (sec at) x) true heard'

untold_first : (at : ℕ) (heard' : Bool) (reply : WatchReply) (x : Track) (o : Option Try) → IsUntold reply → is_first_try (untold at heard' reply x o) ≡ false
untold_first at heard' reply x None none = refl
untold_first at heard' (Told seconds renewable date) x (Some t) none = absurd none
untold_first at heard' (Refused status date) x (Some t) none = refused_first at x t
untold_first at heard' Busy x (Some t) none = failed_first t (after_look (sec at) x t) true false
untold_first at heard' Lost x (Some t) none = failed_first t (after_look (sec at) x t) true heard'

-- one that is told goes on at once
once : (at : ℕ) (t : Try) → is_first t ≡ true → t.failed ≡ false → (is_first (at_once at t) ≡ true) × (((at_once at t).failed ≡ false) × ((at_once at t).at ≤ at))
unfolding at_once
once at t first settled'' =
    if_both (λ (u : Try). (is_first u ≡ true) × ((u.failed ≡ false) × (u.at ≤ at))) t.pressed (record t { at = at; operation = Renew; failed = false })
    (record { at = at; operation = Renew; pressed = true; base = Some at; fails = 0; lost = false; alone = false; failed = false }) (first, (refl, omega arith)) (refl, (refl, omega arith))

told_runs : (at : ℕ) (due : Bool) (x : Track) (t : Try) → is_first t ≡ true → t.failed ≡ false → is_first_try (told_try at due x (Some t)) ≡ true → Runs at (told_try at due x (Some t))
told_runs at due x t first settled'' =
    let P : Option Try → Type 0 = λ o. is_first_try o ≡ true → Runs at o in
    let on = once at t first settled'' in
    if_both P due (Some (at_once at t)) (if is_alive (sec at) x then None else Some (failing t Look false false)) (λ h. some_runs at (at_once at t) on.0 on.1.0 on.1.1)
    (if_both P (is_alive (sec at) x) None (Some (failing t Look false false)) (λ h. absurd cc) (λ h. absurd (not_both h (failed_first t Look false false))))

-- ---- a state

to_way :
    (o : Outage) (s : WatchState) (i : ℕ) → Runs s.clocks.at (attempt_at s i) → ((track_at s i).out ≡ true → is_request_served o s i ≡ true) → s.presence.away ≡ false →
    FirstTryIsUnderWay o s i
to_way o s i r lane there = record { attempt = r.try; attempt_is = r.is; first = r.first; settled = r.settled'; soon = r.soon'; lane = lane; there = there }

of_way : (o : Outage) (s : WatchState) (i : ℕ) → FirstTryIsUnderWay o s i → Runs s.clocks.at (attempt_at s i)
of_way o s i way = record { try = way.attempt; is = way.attempt_is; first = way.first; settled' = way.settled; soon' = way.soon }

-- it is being asked, or may go out
ready_now : (p : Presence) (at : ℕ) (x : Track) (t : Try) → is_first t ≡ true → t.at ≤ at → ready p x t ≤ at
unfolding ready
ready_now p at x t first soon'' = let e = cond-true (is_first t) t.at (max p.hold (later_at p.away x t)) first in omega (arith, e, soon'')

at_work : (o : Outage) (s : WatchState) (i : ℕ) → i < length s.forest.entries → FirstTryIsUnderWay o s i → IsAtWork o s i
at_work o s i within way =
    elim (cases_Bool (track_at s i).out) as (λ _. IsAtWork o s i) [
      | inl out ↦ inl (way.lane out)
      | inr free ↦ inr (record { within = within; free = free; attempt = way.attempt; attempt_is = way.attempt_is; due = ready_now s.presence s.clocks.at (track_at s i) way.attempt way.first way.soon })
    ]

same_way :
    (o : Outage) (i : ℕ) (old new : WatchState) → attempt_at new i ≡ attempt_at old i → (track_at new i).out ≡ (track_at old i).out → new.out ≡ old.out → new.presence ≡ old.presence →
    new.clocks ≡ old.clocks → FirstTryIsUnderWay o old i → FirstTryIsUnderWay o new i
same_way o i old new tried flag outs presence clocks way =
    let at = ap (λ c. c.at) clocks in
    let soon'' = way.soon in
    record {
      attempt = way.attempt;
      attempt_is = tried ∙ way.attempt_is;
      first = way.first;
      settled = way.settled;
      soon = omega (arith, at, soon'');
      lane = λ out. ap (list_any (λ (q : Out). q.entry == i && is_request_whole o q.since)) outs ∙ way.lane (sym flag ∙ out);
      there = ap (λ (p : Presence). p.away) presence ∙ way.there;
    }

-- ---- an answer

there_replied : (s : WatchState) (q : Out) (reply : WatchReply) → is_real reply ≡ true → s.presence.away ≡ false → replied s q reply ≡ record s { out = map heard (without_request q.entry s.out) }
there_replied s q Lost real there = absurd cc
there_replied s q _ real there = let free = lane_freed s q in let all : WatchState = record free { out = map heard free.out } in cond-false s.presence.away _ all there

real_of : (quick late : ℕ) (q : Out) (reply : WatchReply) → IsReplyInOutage (without_outage quick late) reply q → is_real reply ≡ true
real_of quick late q Lost h = absurd (not_both (all_whole quick late q.since) h)
real_of quick late q _ h = refl

-- what an answer leaves before what it says of the broker
record Leaves (i : ℕ) (old mid : WatchState) (q : Out) (reply : WatchReply) : Type 0 where
  outs : mid.out ≡ old.out
  presence : mid.presence ≡ old.presence
  clocks : mid.clocks ≡ old.clocks
  own : q.entry ≡ i → is_first_try (attempt_at mid i) ≡ true → Runs mid.clocks.at (attempt_at mid i) × ((track_at mid i).out ≡ false)
  other : q.entry ≢ i → track_at mid i ≡ track_at old i

answer_way :
    (quick late i : ℕ) (old mid new : WatchState) (q : Out) (reply : WatchReply) → new ≡ replied mid q reply → IsReplyInOutage (without_outage quick late) reply q → Leaves i old mid q reply → is_first_try (attempt_at new i) ≡ true →
    FirstTryIsUnderWay (without_outage quick late) old i → FirstTryIsUnderWay (without_outage quick late) new i
answer_way quick late i old mid new q reply made is_reply h first way =
    let o = without_outage quick late in
    let real = real_of quick late q reply is_reply in
    let left : WatchState = record mid { out = map heard (without_request q.entry mid.out) } in
    let away : mid.presence.away ≡ false = ap (λ (p : Presence). p.away) h.presence ∙ way.there in
    let to = there_replied mid q reply real away in
    let is : new ≡ left = made ∙ to in
    let at = ap (λ c. c.at) h.clocks in
    subst (λ (x : WatchState). FirstTryIsUnderWay o x i) (sym is)
    (elim (cases_Bool (q.entry == i)) as (λ _. FirstTryIsUnderWay o left i) [
      | inl same ↦
          let own = h.own (eqb-true q.entry i same) (sym (ap (λ (x : WatchState). is_first_try (attempt_at x i)) is) ∙ first) in
          to_way o left i own.0 (λ out. absurd (not_both out own.1)) away
      | inr different ↦
          let apart : q.entry ≢ i = λ e. not_both (subst (λ n. (n == i) ≡ true) (sym e) (same_index i)) different in
          let track = h.other apart in
          let runs : Runs left.clocks.at (attempt_at left i) =
          later_runs old.clocks.at left.clocks.at (attempt_at left i) (omega (arith, at)) (subst (Runs old.clocks.at) (sym (ap (λ (x : Track). x.attempt) track)) (of_way o old i way)) in
          let lane : (track_at left i).out ≡ true → is_request_served o left i ≡ true =
          λ out.
          let before = way.lane (sym (ap (λ (x : Track). x.out) track) ∙ out) in
          let there = ap (list_any (λ (r : Out). r.entry == i && is_request_whole o r.since)) h.outs ∙ before in
          sym (ap (λ (x : WatchState). is_request_served o x i) to) ∙ replied_lane i (is_request_whole o) mid q reply apart there in
          to_way o left i runs lane away
    ])

-- what tells nothing leaves none
untold_left :
    (s : WatchState) (q : Out) (reply : WatchReply) → q.entry < length s.tracks → IsUntold reply →
    is_first_try (attempt_at (with_track s q.entry (untold_track s.clocks.at q.heard reply (track_at s q.entry))) q.entry) ≡ false
unfolding untold_track
untold_left s q reply within none =
    let x = track_at s q.entry in
    ap (λ (w : Track). is_first_try w.attempt) (get_or-set_same s.tracks q.entry (untold_track s.clocks.at q.heard reply x) no_track within) ∙ untold_first s.clocks.at q.heard reply x x.attempt none

-- the answer to a lookup of the entry, where it leaves a first try
looked_runs :
    (s : WatchState) (q : Out) (reply : WatchReply) (terms : WatchTerms) (t : Try) → attempt_at s q.entry ≡ Some t → is_first t ≡ true → t.failed ≡ false →
    is_first_try (attempt_at (looked s q reply terms) q.entry) ≡ true →
    Runs s.clocks.at (attempt_at (looked s q reply terms) q.entry) × ((track_at (looked s q reply terms) q.entry).out ≡ false)
unfolding told_track
looked_runs s q (Told seconds renewable date) terms t is first settled'' given =
    let i = q.entry in
    let within = some_within s.tracks i t is in
    let y = told_track q.since seconds renewable terms.endless (track_at s i) in
    let mid = told_state s i q.since seconds renewable terms in
    let x = track_at mid i in
    let here : x ≡ y = get_or-set_same s.tracks i y no_track within in
    let called = is_called_for mid i in
    let z : Track = record x { attempt = told_try s.clocks.at called x x.attempt } in
    let count = length-set s.tracks i y in
    let last : track_at (looked s q (Told seconds renewable date) terms) i ≡ z = get_or-set_same mid.tracks i z no_track (omega (arith, count, within)) in
    let tried : x.attempt ≡ Some t = ap (λ (w : Track). w.attempt) here ∙ is in
    let made : attempt_at (looked s q (Told seconds renewable date) terms) i ≡ told_try s.clocks.at called x (Some t) = ap (λ (w : Track). w.attempt) last ∙ ap (told_try s.clocks.at called x) tried in (
      subst (Runs s.clocks.at) (sym made) (told_runs s.clocks.at called x t first settled'' (sym (ap is_first_try made) ∙ given)),
      ap (λ (w : Track). w.out) last ∙ ap (λ (w : Track). w.out) here,
    )
looked_runs s q (Refused status date) terms t is first settled'' given = absurd (not_both given (untold_left s q (Refused status date) (some_within s.tracks q.entry t is) tt))
looked_runs s q Busy terms t is first settled'' given = absurd (not_both given (untold_left s q Busy (some_within s.tracks q.entry t is) tt))
looked_runs s q Lost terms t is first settled'' given = absurd (not_both given (untold_left s q Lost (some_within s.tracks q.entry t is) tt))

-- and that to a renewal leaves none
ungranted_left :
    (s : WatchState) (q : Out) (reply : WatchReply) → q.entry < length s.tracks → IsUntold reply →
    is_first_try (attempt_at (with_track s q.entry (ungranted_track s.clocks.at q.heard reply (track_at s q.entry))) q.entry) ≡ false
unfolding ungranted_track
ungranted_left s q reply within none =
    let x = track_at s q.entry in
    ap (λ (w : Track). is_first_try w.attempt) (get_or-set_same s.tracks q.entry (ungranted_track s.clocks.at q.heard reply x) no_track within) ∙ ungranted_first s.clocks.at q.heard reply x x.attempt none

renewed_first : (s : WatchState) (q : Out) (reply : WatchReply) → q.entry < length s.tracks → is_first_try (attempt_at (state_renewed s q reply) q.entry) ≡ false
unfolding renewed_track granted_from
renewed_first s q (Told seconds renewable date) within =
    let x = track_at s q.entry in
    let step = (entry_of s q.entry).step in
    let from = from_try s.forest.margin step seconds s.clocks.at q.since x.attempt in
    ap (λ (w : Track). is_first_try w.attempt) (get_or-set_same s.tracks q.entry (track_renewed s q (Told seconds renewable date)) no_track within) ∙ granted_first s.clocks.at (sec from + seconds) x.owes x.attempt
renewed_first s q (Refused status date) within = ungranted_left s q (Refused status date) within tt
renewed_first s q Busy within = ungranted_left s q Busy within tt
renewed_first s q Lost within = ungranted_left s q Lost within tt

looked_way :
    (quick late i j : ℕ) (old new : WatchState) (found : Option Out) (reply : WatchReply) (terms : WatchTerms) (output : WatchOutput) → StepLooked old found reply terms output new → IfSome found (IsReplyInOutage (without_outage quick late) reply) →
    is_first_try (attempt_at new i) ≡ true → FirstTryIsUnderWay (without_outage quick late) old i → FirstTryIsUnderWay (without_outage quick late) new i
looked_way quick late i j old new None reply terms output step is_reply first way = absurd step
looked_way quick late i j old new (Some q) reply terms output step is_reply first way =
    let s = noted old q reply in
    let mid = looked s q reply terms in
    answer_way quick late i old mid new q reply step.1 is_reply
    (record {
      outs = looked_out s q reply terms;
      presence = looked_presence s q reply terms;
      clocks = ap (λ (x : WatchState). x.clocks) (looked_rest s q reply terms);
      own = λ same left.
          let at = ap (λ (x : WatchState). x.clocks.at) (looked_rest s q reply terms) in
          let runs = looked_runs s q reply terms way.attempt (subst (λ k. attempt_at old k ≡ Some way.attempt) (sym same) way.attempt_is) way.first way.settled (subst (λ k. is_first_try (attempt_at mid k) ≡ true) (sym same) left) in (
            later_runs s.clocks.at mid.clocks.at (attempt_at mid i) (omega (arith, at)) (subst (λ k. Runs s.clocks.at (attempt_at mid k)) same runs.0),
            subst (λ k. (track_at mid k).out ≡ false) same runs.1,
          );
      other = λ apart. looked_other s q reply terms i apart;
    })
    first way

renewed_way :
    (quick late i : ℕ) (old new : WatchState) (found : Option Out) (reply : WatchReply) (output : WatchOutput) → StepRenewed old found reply output new → IfSome found (IsReplyInOutage (without_outage quick late) reply) →
    is_first_try (attempt_at new i) ≡ true → FirstTryIsUnderWay (without_outage quick late) old i → FirstTryIsUnderWay (without_outage quick late) new i
renewed_way quick late i old new None reply output step is_reply first way = absurd step
renewed_way quick late i old new (Some q) reply output step is_reply first way =
    let s = noted old q reply in
    let mid = state_renewed s q reply in
    answer_way quick late i old mid new q reply step.1 is_reply
    (record {
      outs = refl;
      presence = refl;
      clocks = refl;
      own = λ same left.
          let within = some_within old.tracks i way.attempt way.attempt_is in
          absurd (not_both left (subst (λ k. is_first_try (attempt_at mid k) ≡ false) same (renewed_first s q reply (subst (λ k. k < length old.tracks) (sym same) within))));
      other = λ apart. get_or-set_other s.tracks q.entry i _ no_track (λ e. apart (sym e));
    })
    first way

-- ---- a clock

settled_runs : (margin at b : ℕ) (x : Track) → Runs b x.attempt → Runs b (settled_track margin at x).attempt
unfolding settled_track
settled_runs margin at b x r = record {
  try = r.try;
  is = ap (settled_try margin at x) r.is ∙ cond-false r.try.failed _ (Some r.try) r.settled';
  first = r.first;
  settled' = r.settled';
  soon' = r.soon';
}

sooner_runs : (from b : ℕ) (o : Option Try) → Runs b o → Runs b (Some (sooner_try from o))
sooner_runs from b o r = let s = r.soon' in record { try = hastened r.try from; is = ap (λ p. Some (sooner_try from p)) r.is; first = r.first; settled' = r.settled'; soon' = omega (arith, s) }

-- an entry that owes a lookup
lookup_runs : (at b : ℕ) (x : Track) → Runs b x.attempt → Runs b (owing_lookup at x).attempt
lookup_runs at b x r = owed_is (λ (y : Track). Runs b y.attempt) at x (λ out. r) (λ free. sooner_runs (soon at x) b x.attempt r)

owing_runs : (at b : ℕ) (first called : Bool) (x : Track) → Runs b x.attempt → Runs b (owing at first called x).attempt
unfolding owing
owing_runs at b first called x r =
    let P : Track → Type 0 = λ y. Runs b y.attempt in
    if_both P (called && (first || is_open (sec at) x)) (owing_lookup at x) x (lookup_runs at b x r) r

begun_runs : (s : WatchState) (w : Option BeginReason) (b i : ℕ) → Runs b (attempt_at s i) → Runs b (attempt_at (begun s w) i)
begun_runs s None b i r = r
begun_runs s (Some w) b i r =
    let R : Track → Track → Type 0 = λ y x. Runs b x.attempt → Runs b y.attempt in
    let xs = untopped s.tracks in
    each_kept R (λ k. k) (λ k. owing s.clocks.at (is_start w) (is_called s.forest xs s.clocks k)) xs (λ k x. owing_runs s.clocks.at b (is_start w) (is_called s.forest xs s.clocks k) x) i (each_kept R (λ k. k) (λ k. untopped_track) s.tracks (λ k x h. h) i r)

ready_runs : (s : WatchState) (wall elapsed b i : ℕ) → Runs b (attempt_at s i) → Runs b (attempt_at (readied s wall elapsed) i)
unfolding readied
ready_runs s wall elapsed b i r =
    let R : Track → Track → Type 0 = λ y x. Runs b x.attempt → Runs b y.attempt in
    let t = timed s wall elapsed in
    begun_runs (settled t) (why s wall elapsed) b i (each_kept R (λ k. k) (λ k. settled_track t.forest.margin t.clocks.at) s.tracks (λ k x. settled_runs t.forest.margin t.clocks.at b x) i r)

none_fresh : (w c p o : Bool) → p ≡ true → w && (c && (not p && not o)) ≡ false
none_fresh true true true o h = refl
none_fresh true true false o h = absurd cc
none_fresh true false p o h = refl
none_fresh false c p o h = refl

not_fresh : (margin : ℕ) (e : Entry) (x : Track) (need now : ℕ) → is_pressed x ≡ true → is_fresh margin e x need now ≡ false
unfolding is_fresh
not_fresh margin e x need now h = none_fresh (wants x need) (has_come margin e x now) (is_pressed x) x.out h

clock_way :
    (quick late width n i : ℕ) (old new : WatchState) (wall elapsed : ℕ) (output : WatchOutput) → StepClock old wall elapsed output new → IsBase width n old → is_wanted new i ≡ true → FirstTryIsUnderWay (without_outage quick late) old i →
    FirstTryIsUnderWay (without_outage quick late) new i
unfolding wants
clock_way quick late width n i old new wall elapsed output step base wanted way =
    let o = without_outage quick late in
    let s = readied old wall elapsed in
    let round = step.round in
    let mid = pressed s (round_of round) in
    let made = sent_by mid new output.command step.command in
    let rs = made.0 in
    let end' = sent mid rs in
    let c = s.clocks in
    let g = s.forest in
    let h = ticks old new wall elapsed output step in
    let clock : end'.clocks.at ≡ (timed old wall elapsed).clocks.at = ap (λ x. x.at) (readied_clocks old wall elapsed) in
    let up = rises old wall elapsed base.past.start in
    let seen : SameSeen end'.tracks s.tracks = both_seen end'.tracks mid.tracks s.tracks (sent_seen c.at rs mid.tracks) (pressed_seen g c (round_of round) s.tracks) in
    let needs = need_same end'.tracks s.tracks seen g.entries c i in
    let wanted' : wants (track_at end' i) (need_of g.entries end'.tracks c i) ≡ true = subst (λ (x : WatchState). is_wanted x i ≡ true) made.1 wanted in
    let bears = mid_bears s (round_of round) rs i in
    let before : is_wanted s i ≡ true = sym (ap (λ (x : Track). wants x (need_of g.entries s.tracks c i)) bears) ∙ sym (ap (λ k. wants (track_at end' i) k) needs) ∙ wanted' in
    let le : old.clocks.at ≤ end'.clocks.at = omega (arith, up, clock) in
    let runs = ready_runs old wall elapsed end'.clocks.at i (later_runs old.clocks.at end'.clocks.at (attempt_at old i) le (of_way o old i way)) in
    let is_pressed' : is_pressed (track_at s i) ≡ true = ap is_pressed_try runs.is ∙ (and_parts runs.try.pressed (runs.try.fails == 0) runs.first).0 in
    let apart = names_none g s.tracks c round i step.is_round is_pressed' before in
    let same : attempt_at mid i ≡ attempt_at s i = stays s (round_of round) rs i (not_fresh g.margin (entry_of s i) (track_at s i) (wanted_need s i) (second s) is_pressed') apart (inr before) in
    let tried : Runs end'.clocks.at (attempt_at end' i) = subst (Runs end'.clocks.at) (sym (attempt_sent s (round_of round) rs i)) (subst (Runs end'.clocks.at) (sym same) runs) in
    let presence = ap (λ (x : WatchState). x.presence) made.1 ∙ ready_presence old wall elapsed in
    let away : new.presence.away ≡ false = ap (λ (p : Presence). p.away) presence ∙ presence_away old.forest.margin (timed old wall elapsed).clocks.at old.tracks old.answers old.presence ∙ way.there in
    to_way o new i (subst (λ (x : WatchState). Runs x.clocks.at (attempt_at x i)) (sym made.1) tried)
    (λ out. elim (cases_Bool (track_at old i).out) as (λ _. is_request_served o new i ≡ true) [
      | inl was ↦ still_out old new wall elapsed output (λ (q : Out). q.entry == i && is_request_whole o q.since) h (way.lane was)
      | inr free ↦ goes_out_now old new wall elapsed output i (is_request_whole o) h free out (all_whole quick late (pressed (readied old wall elapsed) h.round).clocks.at)
    ])
    away

-- an end that is handed in
known_runs : (at b end : ℕ) (renewable : Bool) (x : Track) → Runs b x.attempt → Runs b (owing_past at (told_earlier end renewable x)).attempt
known_runs at b end renewable x r = known_is (λ (y : Track). Runs b y.attempt) at end renewable x r (λ out. r) (λ free. sooner_runs (soon at x) b x.attempt r)

-- ---- a step, a turn

step_way :
    (quick late width n i due : ℕ) (old new : WatchState) (event : WatchEvent) (output : WatchOutput) → Step old event output new → BrokerIsThere (without_outage quick late) due old event → IsBase width n old → is_wanted new i ≡ true →
    is_first_try (attempt_at new i) ≡ true → FirstTryIsUnderWay (without_outage quick late) old i → FirstTryIsUnderWay (without_outage quick late) new i
step_way quick late width n i due old new (Clock wall elapsed) output step there base wanted first way = clock_way quick late width n i old new wall elapsed output step base wanted way
step_way quick late width n i due old new (Looked j reply terms) output step there base wanted first way = looked_way quick late i j old new (request_out old.out j Look) reply terms output step there first way
step_way quick late width n i due old new (Renewed j reply) output step there base wanted first way = renewed_way quick late i old new (request_out old.out j Renew) reply output step there first way
step_way quick late width n i due old new (Need j until) output step there base wanted first way =
    subst (λ (x : WatchState). FirstTryIsUnderWay (without_outage quick late) x i) (sym step.1) (same_way (without_outage quick late) i old (with_need_until old j until) refl refl refl refl refl way)
step_way quick late width n i due old new Begin output step there base wanted first way =
    subst (λ (x : WatchState). FirstTryIsUnderWay (without_outage quick late) x i) (sym step.1) (same_way (without_outage quick late) i old (record old { asked = true }) refl refl refl refl refl way)
step_way quick late width n i due old new (Known j end renewable) output step there base wanted first way =
    let o = without_outage quick late in
    let b = old.clocks.at in
    let runs = set_kept (λ y x. Runs b x.attempt → Runs b y.attempt) (λ x k. k) old.tracks j _ (known_runs b b end renewable (track_at old j)) i (of_way o old i way) in
    let out = set_kept (λ (y x : Track). y.out ≡ x.out) (λ x. refl) old.tracks j _ (known_out b end renewable (track_at old j)) i in
    subst (λ (x : WatchState). FirstTryIsUnderWay o x i) (sym step.1) (to_way o (known old j end renewable) i runs (λ now. way.lane (sym out ∙ now)) way.there)

turn_way :
    (quick late width n i due : ℕ) (old new : WatchState) (event : WatchEvent) (result : Result WatchOutput WatchFault) → Turn old event result new → IsThereAt (without_outage quick late) due old event result → IsBase width n old →
    is_wanted new i ≡ true → is_first_try (attempt_at new i) ≡ true → FirstTryIsUnderWay (without_outage quick late) old i → FirstTryIsUnderWay (without_outage quick late) new i
turn_way quick late width n i due old new event (Ok output) turn there base wanted first way = step_way quick late width n i due old new event output turn.1 there base wanted first way
turn_way quick late width n i due old new event (Err fault) turn there base wanted first way = subst (λ (x : WatchState). FirstTryIsUnderWay (without_outage quick late) x i) (sym (refused_stays old new event fault turn)) way

-- another forest that is watched lets it go out no later
changed_way : (o : Outage) (old : WatchState) (c : Changed) → IsChanged old c → (i k : ℕ) → former_at c.was k ≡ Some i → FirstTryIsUnderWay o old i → FirstTryIsUnderWay o c.state k
changed_way o old c h i k said way =
    let b = old.clocks.at in
    let clock = ap (λ (x : WatchState). x.clocks.at) h.state in
    let runs : Runs b (attempt_at c.state k) =
    kept_over old c h (λ y x. Runs b x.attempt → Runs b y.attempt) (λ x r. r) (λ x r. lookup_runs b b (untopped_track x) r) i k said (of_way o old i way) in
    to_way o c.state k (later_runs b c.state.clocks.at (attempt_at c.state k) (omega (arith, clock)) runs)
    (λ out. served_over old c h i k said o ∙ way.lane (sym (kept_flag old c h i k said) ∙ out)) (ap (λ (x : WatchState). x.presence.away) h.state ∙ way.there)

-- ---- so it is at work at each clock

works : (o : Outage) (i due : ℕ) (old new : WatchState) (event : WatchEvent) → BrokerIsThere o due old event → IsAtWork o new i → IsWorking o i due old event new
works o i due old new (Clock wall elapsed) there work = (there, work)
works o i due old new _ there work = tt

works_at : (o : Outage) (i due : ℕ) (old new : WatchState) (event : WatchEvent) (result : Result WatchOutput WatchFault) → IsThereAt o due old event result → IsAtWork o new i → IsWorked o i due old event result new
works_at o i due old new event (Ok output) there work = works o i due old new event there work
works_at o i due old new event (Err fault) there work = tt

all_work :
    (hs : List Happening) (quick late width n i due : ℕ) (old : WatchState) → i < n → length old.forest.entries ≡ n → AllHappen old hs → IsBase width n old → FirstTryIsUnderWay (without_outage quick late) old i →
    AreUnderWay (without_outage quick late) i due old hs → AreWorked (without_outage quick late) i due old hs
all_work [] quick late width n i due old low entries happens base way under = tt
all_work (Hands turn ∷ hs) quick late width n i due old low entries happens base way under =
    let o = without_outage quick late in
    let new = turn.state in
    let next = turn_base width n old new turn.event turn.result happens.0 base in
    let many : length new.forest.entries ≡ n = (turn_shape old new turn.event turn.result happens.0).0 ∙ entries in
    let on = turn_way quick late width n i due old new turn.event turn.result happens.0 under.0 base under.1.0 under.1.1.0 way in (
      works_at o i due old new turn.event turn.result under.0 (at_work o new i (omega (arith, low, many)) on),
      all_work hs quick late width n i (outage_next_after o turn.result new due) new low many happens.1 next on under.1.1.1,
    )
all_work (Changes c ∷ hs) quick late width n i due old low entries happens base way under =
    let h = happens.0 in
    let k = under.0 in
    let said = under.1.0 in
    let on = changed_way (without_outage quick late) old c h i k said way in
    (k, (said, all_work hs quick late width (length c.forest.entries) k due c.state (low_over old c h i k said) (changed_entries old c h) happens.1 (changed_base old c h width n entries base) on under.1.1))

pub wanted_soon : SoonLaw
wanted_soon quick late rounds old last hs i reached wide happens clock taken' way under few =
    let o = without_outage quick late in
    let s = last.state in
    let n = length s.forest.entries in
    let base = last_base old last [] reached (happens.0, tt) in
    let inside = some_within s.tracks i way.attempt way.attempt_is in
    let count = base.count in
    let low : i < n = omega (arith, inside, count) in
    starts_soon quick late rounds old last hs i reached wide happens clock taken' low (at_work o s i low way)
    (all_work hs quick late old.width n i (outage_next_after o last.result s 0) s low refl happens.1 base way under) few
