-- Answered: what an answer makes of the stages of an outage. For the law of outages.
use Rattle.std.proofs.Common.{◌≡◌, ◌≢◌, ◌⊎◌, ◌∙◌, ℕ, suc, ◌+◌, ◌<◌, ◌≤◌, Bool, true, false, ◌&&◌, ◌==◌, List, Some, All, length, refl, sym, ap, subst, arith, inl, inr, true≢false}
use Rattle.std.proofs.lemmas.{Bool.cases_Bool, Bool.eqb-true, List.get_or-set_other, List.get_or-set_same}
use Rattle.std.specs.List.{list_any}
use Rattle.std.specs.Prelude.{slice_set}
use Rattle.watch_machine.specs.{declared.command.WatchOutput.WatchOutput, declared.event.Operation.Operation, declared.event.WatchReply.WatchReply, declared.event.WatchTerms.WatchTerms, declared.lanes.Out.Out, declared.track.Track.Track}
use Rattle.watch_machine.specs.{Answers.heard, Answers.noted, Beginning.is_pressed, Looked.looked, Refusal.request_out, Renewed.renewed_track, Renewed.state_renewed, Settling.is_real, Step.StepLooked, Step.StepRenewed}
use Rattle.watch_machine.specs.declared.event.Operation.TheVariants.{Look, Renew}
use Rattle.watch_machine.specs.declared.event.WatchReply.TheVariants.{Told, Refused, Busy, Lost}
use Rattle.watch_machine.specs.State.{WatchState, no_track, track_at, track_in}
use Rattle.watch_machine.proofs.{Cases.not_both, Cases.of_value, Within.out_all, Within.out_entry}
use Rattle.watch_laws.specs.Presence.{is_told}
use Rattle.watch_laws.specs.Outage.{IsReplyInOutage, TellsNothing, comes, how_many, is_request_served, is_request_whole, outage_settled_by, waiting}
use Rattle.watch_laws.proofs.{Alone.flag, Holding.looked_presence, Lasting.Same, Lasting.same_time, Sparing.found_lane, Sparing.looked_answers}
use Rattle.watch_laws.proofs.Answering.{looked_leaves, renewed_leaves, rest_of}
use Rattle.watch_laws.proofs.Enduring.{Cutting, Endures, IsAnswered, IsFailed, lost_endures, new_backs, own_endures, real_endures, refused_endures, ungranted_failed, untold_failed}
use Rattle.watch_laws.proofs.Lanes.{Sends, all_left, is_of, passes, replied_any, replied_lane}
use Rattle.watch_laws.proofs.Spacing.{after_flag, looked_other, looked_out, same_index}
use Rattle.watch_laws.proofs.Grounds.{IsBase, fewer_wait, tracked}
use Rattle.watch_laws.proofs.Stages.{Facts, IsGoing, IsThrough, free_from}

-- an answer that was lived
pub record IsReplied (f : Facts) (due : ℕ) (old mid new : WatchState) (q : Out) (reply : WatchReply) : Type 0 where
  pub answered : IsAnswered old mid new q reply
  pub j : ℕ
  pub operation : Operation
  pub found : request_out old.out j operation ≡ Some q
  pub reply_is : IsReplyInOutage f.o reply q
  pub other : q.entry ≢ f.i → track_at mid f.i ≡ track_at old f.i
  pub own : q.entry ≡ f.i → TellsNothing f.o reply q × IsFailed (track_at mid f.i) (track_at old f.i)
  pub low : f.i < f.n
  pub going : IsGoing f due old
  pub base : IsBase f.width f.n new
  pub same : Same f.i old new

module _ (f : Facts) (due : ℕ) (old mid new : WatchState) (q : Out) (reply : WatchReply) (t : IsReplied f due old mid new q reply) where
  of_this : (P : Out → Type 0) → All P old.out → P q
  of_this P all = of_value P (request_out old.out t.j t.operation) q (out_all P old.out t.j t.operation all) t.found

  timely : due ≤ outage_settled_by f.o q.since + f.o.late
  timely = of_this (λ (r : Out). due ≤ outage_settled_by f.o r.since + f.o.late) t.going.timely

  lost_broke : reply ≡ Lost → is_request_whole f.o q.since ≡ false
  lost_broke is = subst (λ r. IsReplyInOutage f.o r q) is t.reply_is

  -- the entry endures it
  by_real : (bound : ℕ) (miss : Type 0) → is_real reply ≡ true → Endures f.o f.i f.end bound due miss old → Endures f.o f.i f.end bound due miss new
  by_real bound miss real h =
      elim (cases_Bool (q.entry == f.i)) as (λ _. Endures f.o f.i f.end bound due miss new) [
        | inl here ↦
            let mine = eqb-true q.entry f.i here in
            let own = t.own mine in
            refused_endures f.o f.i f.end bound due miss old mid new q reply t.answered real t.going.base.past.hold own.0.1 timely (of_this (Cutting f.o f.i bound miss old) h.out) mine own.1 h
        | inr different ↦
            let apart : q.entry ≢ f.i = λ e. not_both (subst (λ n. (n == f.i) ≡ true) (sym e) (same_index f.i)) different in
            real_endures f.o f.i f.end bound due miss old mid new q reply t.answered (t.other apart) real t.going.base.past.hold h
      ]

  by_reply : (bound : ℕ) (miss : Type 0) → (w : WatchReply) → reply ≡ w → Endures f.o f.i f.end bound due miss old → Endures f.o f.i f.end bound due miss new
  by_reply bound miss Lost is h =
      let broke = lost_broke is in
      let a : IsAnswered old mid new q Lost = subst (IsAnswered old mid new q) is t.answered in
      elim (cases_Bool (q.entry == f.i)) as (λ _. Endures f.o f.i f.end bound due miss new) [
        | inl here ↦
            let mine = eqb-true q.entry f.i here in
            own_endures f.o f.i f.end bound due miss old mid new q a broke timely h (of_this (Cutting f.o f.i bound miss old) h.out) mine (t.own mine).1
        | inr different ↦
            let apart : q.entry ≢ f.i = λ e. not_both (subst (λ n. (n == f.i) ≡ true) (sym e) (same_index f.i)) different in
            lost_endures f.o f.i f.end bound due miss old mid new q a broke timely h (t.other apart)
      ]
  by_reply bound miss _ is h = by_real bound miss (ap is_real is) h

  pub endures_reply : (bound : ℕ) (miss : Type 0) → Endures f.o f.i f.end bound due miss old → Endures f.o f.i f.end bound due miss new
  endures_reply bound miss h = by_reply bound miss reply refl h

  kept_all : (P : Out → Type 0) → ((r : Out) → P r → P (heard r)) → All P old.out → All P new.out
  kept_all P hears all = subst (λ (x : WatchState). All P x.out) (sym t.answered.is) (all_left P hears mid q reply (subst (All P) (sym t.answered.outs) all))

  -- no answer presses it, nor lets it go
  pressed_as : is_pressed (track_at new f.i) ≡ is_pressed (track_at old f.i)
  pressed_as =
      (new_backs old mid new q reply t.answered f.i).pressed
      ∙ elim (cases_Bool (q.entry == f.i)) as (λ _. is_pressed (track_at mid f.i) ≡ is_pressed (track_at old f.i)) [
        | inl here ↦ (t.own (eqb-true q.entry f.i here)).1.pressed
        | inr different ↦ ap is_pressed (t.other (λ e. not_both (subst (λ n. (n == f.i) ≡ true) (sym e) (same_index f.i)) different))
      ]

  pub goes_on_after : IsGoing f due new
  goes_on_after =
      let clock = ap (λ c. c.at) t.answered.clocks in
      let ahead = t.going.ahead in
      let by = t.going.by in
      record {
        base = t.base;
        entries = t.same.count ∙ t.going.entries;
        time = λ loose.
            let e = same_time f.i old new t.same in
            let h = t.going.time (sym pressed_as ∙ loose) in
            omega (arith, e, h);
        end_is = t.same.ends.0 ∙ t.going.end_is;
        timely = kept_all (λ (r : Out). due ≤ outage_settled_by f.o r.since + f.o.late) (λ r h. h) t.going.timely;
        ahead = omega (arith, clock, ahead);
        by = omega (arith, clock, by);
      }

  stays_unserved : is_request_served f.o old f.i ≡ false → is_request_served f.o new f.i ≡ false
  stays_unserved unserved =
      elim (cases_Bool (is_request_served f.o new f.i)) as (λ _. is_request_served f.o new f.i ≡ false) [
        | inl served ↦
            let p : ℕ → ℕ → Bool = λ k since. k == f.i && is_request_whole f.o since in
            let there = replied_any p mid q reply (sym (ap (λ (x : WatchState). list_any (passes p) x.out) t.answered.is) ∙ served) in
            absurd (not_both (sym (ap (list_any (passes p)) t.answered.outs) ∙ there) unserved)
        | inr no' ↦ no'
      ]

  apart_of : (track_at old f.i).out ≡ false → q.entry ≢ f.i
  unfolding request_out
  apart_of free is =
      let entry = out_entry old.out t.j t.operation q t.found in
      let lane = found_lane t.j t.operation old.out q t.found in
      let same = sym is ∙ entry in
      let once = t.going.base.alone.once t.j (subst (λ k. k < length old.tracks) same (tracked f.width f.n old f.i t.going.base t.low)) in
      let e = ap flag (subst (λ k. (track_at old k).out ≡ false) (sym is ∙ entry) free) in
      omega (arith, lane, once, e)

  pub replied_through : (rest : ℕ) → Sends old new f.n → IsThrough f due (waiting f.o f.n old + (how_many f.n (comes f.o old new) + rest)) old → IsThrough f due (waiting f.o f.n new + rest) new
  replied_through rest sends (inl (inl h)) =
      let all = fewer_wait f.o (suc h.from) f.width f.n old new t.going.base t.base sends in
      let count = h.count in
      let apart = apart_of h.idle in
      let clock = ap (λ c. c.at) t.answered.clocks in
      inl (inl (record {
        endures = endures_reply f.time ⊥ h.endures;
        idle = after_flag old mid new q reply f.i t.answered.is t.answered.outs t.other apart ∙ h.idle;
        whole = kept_all (λ (r : Out). is_request_whole f.o r.since ≡ true) (λ r k. k) h.whole;
        r = h.r;
        from = h.from;
        count = omega (arith, all, count);
        fewer = h.fewer;
        base = h.base;
        reach = h.reach;
        over = elim h.over as (λ _. (h.base ≡ f.time) ⊎ (f.o.until ≤ new.clocks.at)) [ inl yes' ↦ inl yes' | inr no' ↦ inr (omega (arith, clock, no')) ];
        base_ahead = h.base_ahead;
        base_by = h.base_by;
        start = h.start;
        next = h.next;
      }))
  replied_through rest sends (inl (inr h)) =
      let all = fewer_wait f.o f.o.until f.width f.n old new t.going.base t.base sends in
      let count = h.count in
      inl (inr (record {
        endures = endures_reply (free_from f) Unit h.endures;
        unserved = stays_unserved h.unserved;
        r = h.r;
        count = omega (arith, all, count);
        fewer = h.fewer;
        room = h.room;
        next = h.next;
      }))
  replied_through rest sends (inr (inl h)) =
      let all = fewer_wait f.o (suc h.from) f.width f.n old new t.going.base t.base sends in
      let count = h.count in
      let clock = ap (λ c. c.at) t.answered.clocks in
      let now = h.now in
      inr (inl (record {
        endures = endures_reply (free_from f) Unit h.endures;
        unserved = stays_unserved h.unserved;
        back = kept_all (λ (r : Out). f.o.until ≤ r.since) (λ r k. k) h.back;
        r = h.r;
        from = h.from;
        last = h.last;
        count = omega (arith, all, count);
        fewer = h.fewer;
        room = h.room;
        start = h.start;
        last_ahead = h.last_ahead;
        last_by = h.last_by;
        since = h.since;
        now = omega (arith, clock, now);
        next = h.next;
      }))
  replied_through rest sends (inr (inr (inl h))) =
      let P : Out → Type 0 = λ r. r.entry ≡ f.i → (is_request_whole f.o r.since ≡ true) × (r.since ≤ h.sent) in
      let apart : q.entry ≢ f.i = λ is. not_both (of_this P h.whole is).0 (t.own is).0.1 in
      inr (inr (inl (record {
        served =
            ap (λ (x : WatchState). is_request_served f.o x f.i) t.answered.is
            ∙ replied_lane f.i (is_request_whole f.o) mid q reply apart (ap (list_any (is_of f.i (is_request_whole f.o))) t.answered.outs ∙ h.served);
        sent = h.sent;
        whole = kept_all P (λ r k. k) h.whole;
        next = h.next;
        last_ahead = h.last_ahead;
        last_by = h.last_by;
      })))
  replied_through rest sends (inr (inr (inr h))) =
      let all = fewer_wait f.o (suc h.from) f.width f.n old new t.going.base t.base sends in
      let count = h.count in
      let clock = ap (λ c. c.at) t.answered.clocks in
      let over = h.over in
      inr (inr (inr (record {
        endures = endures_reply f.time ⊥ h.endures;
        unserved = stays_unserved h.unserved;
        over = omega (arith, clock, over);
        soon = h.soon;
        from = h.from;
        count = omega (arith, all, count);
        next = h.next;
      })))

-- what an answer makes of the track that tells nothing
set_failed : (xs : List Track) (k : ℕ) (y : Track) → k < length xs → IsFailed y (track_in xs k) → IsFailed (track_in (slice_set xs k y) k) (track_in xs k)
set_failed xs k y below' h = subst (λ x. IsFailed x (track_in xs k)) (sym (get_or-set_same xs k y no_track below')) h

looked_at : (t : WatchState) (r : Out) (w : WatchReply) (terms : WatchTerms) → is_told w ≡ false → r.entry < length t.tracks → IsFailed (track_at (looked (noted t r w) r w terms) r.entry) (track_at t r.entry)
looked_at t r (Told seconds renewable date) terms untold' below' = absurd (true≢false untold')
looked_at t r (Refused status date) terms untold' below' = set_failed t.tracks r.entry _ below' (untold_failed t.clocks.at r.heard (Refused status date) (track_at t r.entry) refl)
looked_at t r Busy terms untold' below' = set_failed t.tracks r.entry _ below' (untold_failed t.clocks.at r.heard Busy (track_at t r.entry) refl)
looked_at t r Lost terms untold' below' = set_failed t.tracks r.entry _ below' (untold_failed t.clocks.at r.heard Lost (track_at t r.entry) refl)

looked_made : (t : WatchState) (r : Out) (w : WatchReply) (terms : WatchTerms) (i : ℕ) → r.entry ≡ i → is_told w ≡ false → i < length t.tracks → IsFailed (track_at (looked (noted t r w) r w terms) i) (track_at t i)
looked_made t r w terms i is untold' below' = subst (λ k. IsFailed (track_at (looked (noted t r w) r w terms) k) (track_at t k)) is (looked_at t r w terms untold' (omega (arith, is, below')))

renewed_at : (t : WatchState) (r : Out) (w : WatchReply) → is_told w ≡ false → r.entry < length t.tracks → IsFailed (track_at (state_renewed (noted t r w) r w) r.entry) (track_at t r.entry)
unfolding renewed_track
renewed_at t r (Told seconds renewable date) untold' below' = absurd (true≢false untold')
renewed_at t r (Refused status date) untold' below' = set_failed t.tracks r.entry _ below' (ungranted_failed t.clocks.at r.heard (Refused status date) (track_at t r.entry) refl)
renewed_at t r Busy untold' below' = set_failed t.tracks r.entry _ below' (ungranted_failed t.clocks.at r.heard Busy (track_at t r.entry) refl)
renewed_at t r Lost untold' below' = set_failed t.tracks r.entry _ below' (ungranted_failed t.clocks.at r.heard Lost (track_at t r.entry) refl)

renewed_made : (t : WatchState) (r : Out) (w : WatchReply) (i : ℕ) → r.entry ≡ i → is_told w ≡ false → i < length t.tracks → IsFailed (track_at (state_renewed (noted t r w) r w) i) (track_at t i)
renewed_made t r w i is untold' below' = subst (λ k. IsFailed (track_at (state_renewed (noted t r w) r w) k) (track_at t k)) is (renewed_at t r w untold' (omega (arith, is, below')))

pub looked_replied :
    (f : Facts) (due : ℕ) (old new : WatchState) (j : ℕ) (q : Out) (reply : WatchReply) (terms : WatchTerms) (output : WatchOutput) → f.i < f.n → request_out old.out j Look ≡ Some q → StepLooked old (Some q) reply terms output new →
    IsReplyInOutage f.o reply q → (j ≡ f.i → TellsNothing f.o reply q) → IsGoing f due old → IsBase f.width f.n new → Same f.i old new → IsReplied f due old (looked (noted old q reply) q reply terms) new q reply
looked_replied f due old new j q reply terms output low found step reply_is untold' going base same =
    let s = noted old q reply in
    let entry = out_entry old.out j Look q found in
    let count = going.base.count in
    let below : f.i < length old.tracks = omega (arith, low, count) in
    record {
      answered = record {
        is = step.1;
        presence = looked_presence s q reply terms;
        clocks = ap (λ (x : WatchState). x.clocks) (ap rest_of step.1 ∙ looked_leaves old q reply terms);
        outs = looked_out s q reply terms;
        answers = looked_answers s q reply terms;
      };
      j = j;
      operation = Look;
      found = found;
      reply_is = reply_is;
      other = looked_other s q reply terms f.i;
      own = λ is.
          let nothing = untold' (sym entry ∙ is) in
          (nothing, looked_made old q reply terms f.i is nothing.0 below);
      low = low;
      going = going;
      base = base;
      same = same;
    }

pub renewed_replied :
    (f : Facts) (due : ℕ) (old new : WatchState) (j : ℕ) (q : Out) (reply : WatchReply) (output : WatchOutput) → f.i < f.n → request_out old.out j Renew ≡ Some q → StepRenewed old (Some q) reply output new →
    IsReplyInOutage f.o reply q → (j ≡ f.i → TellsNothing f.o reply q) → IsGoing f due old → IsBase f.width f.n new → Same f.i old new → IsReplied f due old (state_renewed (noted old q reply) q reply) new q reply
renewed_replied f due old new j q reply output low found step reply_is untold' going base same =
    let s = noted old q reply in
    let entry = out_entry old.out j Renew q found in
    let count = going.base.count in
    let below : f.i < length old.tracks = omega (arith, low, count) in
    record {
      answered = record {
        is = step.1;
        presence = refl;
        clocks = ap (λ (x : WatchState). x.clocks) (ap rest_of step.1 ∙ renewed_leaves old q reply);
        outs = refl;
        answers = refl;
      };
      j = j;
      operation = Renew;
      found = found;
      reply_is = reply_is;
      other = λ apart. get_or-set_other s.tracks q.entry f.i _ no_track (λ e. apart (sym e));
      own = λ is.
          let nothing = untold' (sym entry ∙ is) in
          (nothing, renewed_made old q reply f.i is nothing.0 below);
      low = low;
      going = going;
      base = base;
      same = same;
    }
