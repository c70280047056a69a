-- Told: what a lookup that tells makes of its entry, and what writes the forest. For the laws of what is told.
use Rattle.std.proofs.Common.{◌≡◌, ◌∙◌, ℕ, ◌+◌, ◌<◌, ◌≤◌, Bool, true, false, ◌&&◌, if◌then◌else◌, Option, Some, None, Result, Ok, Err, is_some, length, min, nat_lt, option_map, refl, slice_set, sym, ap, subst, arith, true≢false}
use Rattle.std.proofs.lemmas.{Bool.cond-false, Bool.cond-true, Bool.Decides.nat_tests, List.get_or-set_same, List.length-set}
use Rattle.base_moment.specs.declared.moment.TheConstants.{LAST}
use Rattle.plan_forest.specs.{declared.entry.Entry.Entry, declared.forest.TheConstants.END_MAX, Forest.Forest, Forest.entry_at}
use Rattle.plan_forest.proofs.Entries.{entry_at_set_other, entry_at_set_same}
use Rattle.watch_machine.specs.{declared.clocks.Clocks.Clocks, declared.command.WatchOutput.WatchOutput, declared.event.WatchEvent.WatchEvent, declared.event.WatchReply.WatchReply, declared.event.WatchReply.TheVariants.Told}
use Rattle.watch_machine.specs.{declared.event.WatchTerms.WatchTerms, declared.fault.WatchFault.WatchFault, declared.lanes.Out.Out, declared.notes.BeginReason.BeginReason, declared.track.Track.Track, declared.track.Try.Try, Clocks.sec}
use Rattle.watch_machine.specs.{History.Turn, Lines.rested, Press.pressed, Refusal.request_out, Round.asked_by_round, Settling.settled, Settling.timed}
use Rattle.watch_machine.specs.declared.event.WatchEvent.TheVariants.{Clock, Looked, Renewed, Need, Known}
use Rattle.watch_machine.specs.declared.event.Operation.TheVariants.{Look, Renew}
use Rattle.watch_machine.specs.declared.track.End.TheVariants.{At, Never}
use Rattle.watch_machine.specs.Answers.{back_track, back_try, due_again, failing, noted, replied}
use Rattle.watch_machine.specs.Beginning.{begun, owed, owing_lookup, owing_past, soon, sooner_try}
use Rattle.watch_machine.specs.Looked.{at_once, by_terms, is_called_for, looked, step_told, told_state, told_track, told_try, with_told_try}
use Rattle.watch_machine.specs.Renewed.{granted_from, granted_try, state_renewed}
use Rattle.watch_machine.specs.State.{WatchState, attempt_at, entry_of, no_track, second, track_at}
use Rattle.watch_machine.specs.Step.{Step, StepClock, StepLooked, StepRenewed, readied, told_earlier, why}
use Rattle.watch_machine.specs.Wanted.{believed, is_alive, is_wanted, need_of, wanted_need, wants}
use Rattle.watch_machine.proofs.Within.{out_entry}
use Rattle.watch_machine.proofs.Cases.{if_both, not_both, value_is}
use Rattle.watch_machine.proofs.Seeing.{SameSeen, need_same, sight}
use Rattle.watch_laws.specs.{Absence.is_event_taken, Time.is_come}
use Rattle.watch_laws.specs.Told.{DoneLaw, EndsTooSoon, ForestWrittenLaw, GoesOnAsRenewal, IsHandedIn, IsToldByLookup, OneIs, OwesLater, ToldLaw, ceiling_by, entry_by, step_by, writes}
use Rattle.watch_laws.proofs.{Answering.replied_rest, CalmGrant.no_try, Clocking.refused_stays, Clocking.sent_by, Opener.bearing, Opener.wants_same, Presses.again_is, Reasons.told_come}
use Rattle.watch_laws.proofs.Failures.{Free, back_free, set_free}
use Rattle.watch_laws.proofs.GrantedFrom.{back_end, counts_from, made, turn_holds}
use Rattle.watch_laws.proofs.Tracking.{back_kept, known_is, replied_forest, set_kept}

-- what is wanted and whose time has come is so with or without a try
back_sight : (x : Track) → sight (back_track x) ≡ sight x
unfolding back_track
back_sight x = refl

back_bears : (x : Track) → bearing (back_track x) ≡ bearing x
unfolding back_track
back_bears x = refl

module _ (mid : WatchState) (q : Out) (reply : WatchReply) (i : ℕ) where
  abbrev tried : WatchState
  tried = with_told_try mid i

  abbrev replied_to : WatchState
  replied_to = replied tried q reply

  seen : SameSeen replied_to.tracks mid.tracks
  seen = record {
    tracks = λ j. back_kept (λ y x. sight y ≡ sight x) (λ x. refl) (λ x. back_sight x) tried q reply j ∙ set_kept (λ y x. sight y ≡ sight x) (λ x. refl) mid.tracks i _ refl j;
  }

  bears : bearing (track_at replied_to i) ≡ bearing (track_at mid i)
  bears = back_kept (λ y x. bearing y ≡ bearing x) (λ x. refl) (λ x. back_bears x) tried q reply i ∙ set_kept (λ y x. bearing y ≡ bearing x) (λ x. refl) mid.tracks i _ refl i

  told_clocks : replied_to.clocks ≡ mid.clocks
  told_clocks = ap (λ (x : WatchState). x.clocks) (replied_rest tried q reply)

  told_wanted : is_wanted replied_to i ≡ is_wanted mid i
  told_wanted =
      ap (λ (g : Forest). wants (track_at replied_to i) (need_of g.entries replied_to.tracks replied_to.clocks i)) (replied_forest tried q reply)
      ∙ ap (λ c. wants (track_at replied_to i) (need_of mid.forest.entries replied_to.tracks c i)) told_clocks
      ∙ ap (wants (track_at replied_to i)) (need_same replied_to.tracks mid.tracks seen mid.forest.entries mid.clocks i) ∙ wants_same (track_at replied_to i) (track_at mid i) (wanted_need mid i) bears

  told_due : is_wanted replied_to i && is_come replied_to i ≡ is_called_for mid i
  told_due = ap (λ b. b && is_come replied_to i) told_wanted ∙ ap (λ b. is_wanted mid i && b) (told_come mid q reply i)

  told_alive : is_alive (second replied_to) (track_at replied_to i) ≡ is_alive (second mid) (track_at mid i)
  told_alive = ap (λ (c : Clocks). is_alive (sec c.at) (track_at replied_to i)) told_clocks ∙ ap (is_alive (second mid)) bears

-- the try after it
goes_on_again : (now : ℕ) (t u : Try) (from : ℕ) → u.lost ≡ true → GoesOnAsRenewal now t u → GoesOnAsRenewal now t (due_again u from)
goes_on_again now t u from lost h =
    let l = h.at in
    let at = cond-false u.failed from (min u.at from) h.failed in
    record { at = omega (arith, l, at); operation = h.operation; pressed = h.pressed; failed = refl; same = h.same; anew = h.anew }

past_again : (t u : Try) (from : ℕ) → u.lost ≡ true → EndsTooSoon t u → EndsTooSoon t (due_again u from)
past_again t u from lost h = absurd (not_both lost h.lost)

once_goes : (now : ℕ) (t : Try) → GoesOnAsRenewal now t (at_once now t)
unfolding at_once
once_goes now t = by t.pressed refl where
  by : (b : Bool) → t.pressed ≡ b → GoesOnAsRenewal now t (if b then record t { at = now; operation = Renew; failed = false } else record { at = now; operation = Renew; pressed = true; base = Some now; fails = 0; lost = false; alone = false; failed = false })
  by true is = record { at = omega arith; operation = refl; pressed = is; failed = refl; same = λ yes'. (refl, refl); anew = λ no'. absurd (true≢false (sym is ∙ no')) }
  by false is = record { at = omega arith; operation = refl; pressed = refl; failed = refl; same = λ yes'. absurd (true≢false (sym yes' ∙ is)); anew = λ no'. (refl, refl) }

due_try : (now : ℕ) (due : Bool) (x : Track) (t : Try) → due ≡ true → told_try now due x (Some t) ≡ Some (at_once now t)
due_try now due x t yes' = cond-true due (Some (at_once now t)) (if is_alive (sec now) x then None else Some (failing t Look false false)) yes'

done_try : (now : ℕ) (due : Bool) (x : Track) (o : Option Try) → due ≡ false → is_alive (sec now) x ≡ true → told_try now due x o ≡ None
done_try now due x None no' alive = refl
done_try now due x (Some t) no' alive =
    cond-false due (Some (at_once now t)) (if is_alive (sec now) x then None else Some (failing t Look false false)) no'
    ∙ cond-true (is_alive (sec now) x) None (Some (failing t Look false false)) alive

past_try : (now : ℕ) (due : Bool) (x : Track) (t : Try) → due ≡ false → is_alive (sec now) x ≡ false → told_try now due x (Some t) ≡ Some (failing t Look false false)
past_try now due x t no' past =
    cond-false due (Some (at_once now t)) (if is_alive (sec now) x then None else Some (failing t Look false false)) no'
    ∙ cond-false (is_alive (sec now) x) None (Some (failing t Look false false)) past

back_some : (x : Track) (o : Option Try) → is_some (back_try x o) ≡ is_some o
back_some x None = refl
back_some x (Some t) =
    if_both (λ (o : Option Try). is_some o ≡ true) x.out (Some (record t { fails = 0 })) (if t.lost then Some (due_again t (rested x.last)) else Some t) refl
    (if_both (λ (o : Option Try). is_some o ≡ true) t.lost (Some (due_again t (rested x.last))) (Some t) refl refl)

back_is_some : (x : Track) → is_some x.attempt ≡ true → is_some (back_track x).attempt ≡ true
unfolding back_track
back_is_some x h = back_some x x.attempt ∙ h

back_is_none : (x : Track) → x.attempt ≡ None → (back_track x).attempt ≡ None
unfolding back_track
back_is_none x h = ap (back_try x) h

-- what is told of the entry
record Says (seconds since : ℕ) (renewable endless : Bool) (x : Track) : Type 0 where
  end : x.end ≡ (if endless then Never else At (sec since + seconds))
  goes_on : x.renewable ≡ renewable
  owes : x.owes ≡ false
  out : x.out ≡ false

told_says : (since seconds : ℕ) (renewable endless : Bool) (x : Track) → Says seconds since renewable endless (told_track since seconds renewable endless x)
unfolding told_track
told_says since seconds renewable endless x = record { end = refl; goes_on = refl; owes = refl; out = refl }

told_attempt : (since seconds : ℕ) (renewable endless : Bool) (x : Track) → (told_track since seconds renewable endless x).attempt ≡ x.attempt
unfolding told_track
told_attempt since seconds renewable endless x = refl

back_says : (seconds since : ℕ) (renewable endless : Bool) (x : Track) → Says seconds since renewable endless x → Says seconds since renewable endless (back_track x)
unfolding back_track
back_says seconds since renewable endless x h = record { end = h.end; goes_on = h.goes_on; owes = h.owes; out = h.out }

module _ (old : WatchState) (q : Out) (seconds : ℕ) (renewable : Bool) (date : Option ℕ) (terms : WatchTerms) (within : q.entry < length old.tracks) where
  abbrev i : ℕ
  i = q.entry

  abbrev telling : WatchReply
  telling = Told seconds renewable date

  abbrev s : WatchState
  s = noted old q telling

  abbrev told_mid : WatchState
  told_mid = told_state s i q.since seconds renewable terms

  abbrev y : Track
  y = told_track q.since seconds renewable terms.endless (track_at old i)

  abbrev last : WatchState
  last = replied (looked s q telling terms) q telling

  abbrev z : Track
  z = record (track_at told_mid i) { attempt = told_try told_mid.clocks.at (is_called_for told_mid i) (track_at told_mid i) (track_at told_mid i).attempt }

  there : track_at told_mid i ≡ y
  there = get_or-set_same s.tracks i y no_track within

  many : i < length told_mid.tracks
  many = let count = length-set s.tracks i y in omega (arith, count, within)

  final : track_at (with_told_try told_mid i) i ≡ z
  final = get_or-set_same told_mid.tracks i z no_track many

  kept : (P : Track → Type 0) → ((x : Track) → P x → P (back_track x)) → P z → P (track_at last i)
  kept P back h = back_kept (λ w v. P v → P w) (λ v k. k) (λ v. back v) (with_told_try told_mid i) q telling i (subst P (sym final) h)

  says : Says seconds q.since renewable terms.endless (track_at last i)
  says =
      let h = subst (Says seconds q.since renewable terms.endless) (sym there) (told_says q.since seconds renewable terms.endless (track_at old i)) in
      kept (Says seconds q.since renewable terms.endless) (λ x. back_says seconds q.since renewable terms.endless x) (record { end = h.end; goes_on = h.goes_on; owes = h.owes; out = h.out })

  z_out : z.out ≡ false
  z_out = ap (λ (x : Track). x.out) there ∙ (told_says q.since seconds renewable terms.endless (track_at old i)).out

  z_try : (o : Option Try) → attempt_at old i ≡ o → z.attempt ≡ told_try told_mid.clocks.at (is_called_for told_mid i) (track_at told_mid i) o
  z_try o is = ap (told_try told_mid.clocks.at (is_called_for told_mid i) (track_at told_mid i)) (ap (λ (x : Track). x.attempt) there ∙ told_attempt q.since seconds renewable terms.endless (track_at old i) ∙ is)

  -- by what the answer leaves of its try
  try_holds : (Q : Try → Type 0) → ((v : Try) (from : ℕ) → v.lost ≡ true → Q v → Q (due_again v from)) → (v : Try) → z.attempt ≡ Some v → Q v → (u : Try) → attempt_at last i ≡ Some u → Q u
  try_holds Q again v is h = (set_free Q again told_mid q telling z (z_out, λ w some. subst Q (value_is v w (sym is ∙ some)) h)).1

  is_told : IsToldByLookup old last i seconds renewable terms q
  is_told =
      let due = told_due told_mid q telling i in
      let alive = told_alive told_mid q telling i in
      let clock = ap (λ (c : Clocks). c.at) (told_clocks told_mid q telling i) in
      record {
        end = says.end;
        goes_on = says.goes_on;
        owes = says.owes;
        tried = λ yes' t is.
            kept (λ (x : Track). is_some x.attempt ≡ true) (λ x. back_is_some x)
            (ap is_some (z_try (Some t) is ∙ due_try told_mid.clocks.at (is_called_for told_mid i) (track_at told_mid i) t (sym due ∙ yes')));
        renews = λ yes' t u is after.
            subst (λ n. GoesOnAsRenewal n t u) (sym clock)
            (try_holds (GoesOnAsRenewal told_mid.clocks.at t) (goes_on_again told_mid.clocks.at t) (at_once told_mid.clocks.at t) (z_try (Some t) is ∙ due_try told_mid.clocks.at (is_called_for told_mid i) (track_at told_mid i) t (sym due ∙ yes'))
            (once_goes told_mid.clocks.at t) u after);
        done = λ no' ahead.
            kept (λ (x : Track). x.attempt ≡ None) (λ x. back_is_none x)
            (z_try (attempt_at old i) refl ∙ done_try told_mid.clocks.at (is_called_for told_mid i) (track_at told_mid i) (attempt_at old i) (sym due ∙ no') (sym alive ∙ ahead));
        past = λ no' over t u is after.
            try_holds (EndsTooSoon t) (past_again t) (failing t Look false false) (z_try (Some t) is ∙ past_try told_mid.clocks.at (is_called_for told_mid i) (track_at told_mid i) t (sym due ∙ no') (sym alive ∙ over))
            (record { failed = refl; lost = refl; operation = refl; fails = refl }) u after;
      }

told_turn :
    (old new : WatchState) (event : WatchEvent) (result : Result WatchOutput WatchFault) (i seconds : ℕ) (renewable : Bool) (date : Option ℕ) (terms : WatchTerms) (q : Out) → Turn old event result new → i < length old.tracks →
    event ≡ Looked i (Told seconds renewable date) terms → is_event_taken result ≡ true → request_out old.out i Look ≡ Some q → IsToldByLookup old new i seconds renewable terms q
told_turn old new event (Err fault) i seconds renewable date terms q turn within is taken' asked = absurd (true≢false (sym taken'))
told_turn old new event (Ok output) i seconds renewable date terms q turn within is taken' asked =
    let step : StepLooked old (request_out old.out i Look) (Told seconds renewable date) terms output new = subst (λ e. Step old e output new) is turn.1 in
    let step' : StepLooked old (Some q) (Told seconds renewable date) terms output new = subst (λ o. StepLooked old o (Told seconds renewable date) terms output new) asked step in
    let own = out_entry old.out i Look q asked in
    subst (λ k. IsToldByLookup old new k seconds renewable terms q) own
    (subst (λ x. IsToldByLookup old x q.entry seconds renewable terms q) (sym step'.1) (is_told old q seconds renewable date terms (omega (arith, own, within))))

pub told_so : ToldLaw
told_so old turn i seconds renewable date terms q h within is taken' asked = told_turn old turn.state turn.event turn.result i seconds renewable date terms q h.0 within is taken' asked

-- what a grant leaves to be asked
later_again : (now : ℕ) (u : Try) (from : ℕ) → u.lost ≡ true → OwesLater now u → OwesLater now (due_again u from)
later_again now u from lost h = absurd (not_both lost h.lost)

owed_try : (at end : ℕ) (o : Option Try) (u : Try) → sec at < end → granted_try at true end o ≡ Some u → OwesLater at u
owed_try at end None u ahead is = absurd cc
owed_try at end (Some t) u ahead is =
    let test : nat_lt (sec at) end ≡ true = grind (arith, nat_tests, ahead) in
    let same = value_is (owed (at + 30000)) u (sym (cond-true (nat_lt (sec at) end) (Some (owed (at + 30000))) (Some (failing t Look false false)) test) ∙ is) in
    subst (OwesLater at) same (record { at = omega arith; lost = refl; operation = refl; pressed = refl })

over_try : (at end : ℕ) (owes : Bool) (t u : Try) → end ≤ sec at → granted_try at owes end (Some t) ≡ Some u → EndsTooSoon t u
over_try at end owes t u over is =
    let test : nat_lt (sec at) end ≡ false = grind (arith, nat_tests, over) in
    let same = value_is (failing t Look false false) u (sym (cond-false (nat_lt (sec at) end) (if owes then Some (owed (at + 30000)) else None) (Some (failing t Look false false)) test) ∙ is) in
    subst (EndsTooSoon t) same (record { failed = refl; lost = refl; operation = refl; fails = refl })

module _ (old : WatchState) (i seconds : ℕ) (renewable : Bool) where
  record IsLeft (q : Out) (x : Track) : Type 0 where
    end : x.end ≡ At (sec (counts_from old i seconds q) + seconds)
    done : second old < sec (counts_from old i seconds q) + seconds → (track_at old i).owes ≡ false → x.attempt ≡ None
    owes : second old < sec (counts_from old i seconds q) + seconds → (track_at old i).owes ≡ true → Free (OwesLater old.clocks.at) (later_again old.clocks.at) x
    past : sec (counts_from old i seconds q) + seconds ≤ second old → (t : Try) → attempt_at old i ≡ Some t → Free (EndsTooSoon t) (past_again t) x

  left_made : (q : Out) → IsLeft q (made old i seconds renewable q)
  unfolding granted_from
  left_made q =
      let at = old.clocks.at in
      let end = sec (counts_from old i seconds q) + seconds in
      record {
        end = refl;
        done = λ ahead none. no_try at end (track_at old i).owes (attempt_at old i) ahead none;
        owes = λ ahead some. (refl, λ u is. owed_try at end (attempt_at old i) u ahead (ap (λ b. granted_try at b end (attempt_at old i)) (sym some) ∙ is));
        past = λ over t there. (refl, λ u is. over_try at end (track_at old i).owes t u over (ap (granted_try at (track_at old i).owes end) (sym there) ∙ is));
      }

  back_left : (q : Out) (x : Track) → IsLeft q x → IsLeft q (back_track x)
  back_left q x h = record {
    end = back_end (At (sec (counts_from old i seconds q) + seconds)) x h.end;
    done = λ ahead none. back_is_none x (h.done ahead none);
    owes = λ ahead some. back_free (OwesLater old.clocks.at) (later_again old.clocks.at) x (h.owes ahead some);
    past = λ over t is. back_free (EndsTooSoon t) (past_again t) x (h.past over t is);
  }

pub done_so : DoneLaw
done_so old turn i seconds renewable date h within is taken' =
    let there =
    turn_holds (IsLeft old i seconds renewable) (back_left old i seconds renewable) old turn.state turn.event turn.result i seconds renewable date h.0 within is taken' (left_made old i seconds renewable) in
    let left = there.1.1 in
    let end = ap believed left.end in
    record {
      done = λ ahead none. left.done (omega (arith, ahead, end)) none;
      owes = λ ahead some u after. (left.owes (omega (arith, ahead, end)) some).1 u after;
      past = λ over t u before after. (left.past (omega (arith, over, end)) t before).1 u after;
    }

-- what writes the forest
ceiling_is : (o : Option ℕ) → option_map (λ t. min END_MAX t) o ≡ ceiling_by o
ceiling_is None = refl
ceiling_is (Some ceiling) = refl

step_is : (margin step : ℕ) (o : Option ℕ) → step_told margin step o ≡ step_by margin step o
step_is margin step None = refl
step_is margin step (Some told) = refl

terms_is : (margin : ℕ) (terms : WatchTerms) (e : Entry) → by_terms margin terms e ≡ entry_by margin terms e
unfolding by_terms
terms_is margin terms e =
    ap (λ n. record (entry_by margin terms e) { step = n; ceiling = option_map (λ t. min END_MAX t) terms.ceiling }) (step_is margin e.step terms.step)
    ∙ ap (λ o. record (entry_by margin terms e) { ceiling = o }) (ceiling_is terms.ceiling)

one_is : (old new : WatchState) (i : ℕ) (e : Entry) → i < length old.forest.entries → new.forest ≡ record old.forest { entries = slice_set old.forest.entries i e } → OneIs old new i e
one_is old new i e within is = record {
  own = ap (λ (g : Forest). entry_at g.entries i) is ∙ entry_at_set_same old.forest.entries i e within;
  others = λ j apart. ap (λ (g : Forest). entry_at g.entries j) is ∙ entry_at_set_other old.forest.entries i j e apart;
  margin = ap (λ (g : Forest). g.margin) is;
}

terms_turn :
    (old new : WatchState) (event : WatchEvent) (result : Result WatchOutput WatchFault) (i seconds : ℕ) (renewable : Bool) (date : Option ℕ) (terms : WatchTerms) → Turn old event result new → i < length old.forest.entries →
    event ≡ Looked i (Told seconds renewable date) terms → is_event_taken result ≡ true → OneIs old new i (entry_by old.forest.margin terms (entry_of old i))
terms_turn old new event (Err fault) i seconds renewable date terms turn within is taken' = absurd (true≢false (sym taken'))
terms_turn old new event (Ok output) i seconds renewable date terms turn within is taken' = by (request_out old.out i Look) refl (subst (λ e. Step old e output new) is turn.1) where
  by : (found : Option Out) → request_out old.out i Look ≡ found → StepLooked old found (Told seconds renewable date) terms output new → OneIs old new i (entry_by old.forest.margin terms (entry_of old i))
  by None asked step = absurd step
  by (Some q) asked step =
      let reply = Told seconds renewable date in
      let s = noted old q reply in
      let own = out_entry old.out i Look q asked in
      let e : ℕ → Entry = λ k. by_terms old.forest.margin terms (entry_of old k) in
      let forest : new.forest ≡ record old.forest { entries = slice_set old.forest.entries q.entry (e q.entry) } =
      ap (λ (x : WatchState). x.forest) step.1 ∙ replied_forest (looked s q reply terms) q reply in
      one_is old new i (entry_by old.forest.margin terms (entry_of old i)) within
      (subst (λ k. new.forest ≡ record old.forest { entries = slice_set old.forest.entries k (e k) }) own forest
      ∙ ap (λ v. record old.forest { entries = slice_set old.forest.entries i v }) (terms_is old.forest.margin terms (entry_of old i)))

need_turn :
    (old new : WatchState) (event : WatchEvent) (result : Result WatchOutput WatchFault) (i until : ℕ) → Turn old event result new → i < length old.forest.entries → event ≡ Need i until → is_event_taken result ≡ true →
    OneIs old new i (record (entry_of old i) { need = min LAST until })
need_turn old new event (Err fault) i until turn within is taken' = absurd (true≢false (sym taken'))
need_turn old new event (Ok output) i until turn within is taken' =
    let step = subst (λ e. Step old e output new) is turn.1 in
    one_is old new i (record (entry_of old i) { need = min LAST until }) within (ap (λ (x : WatchState). x.forest) step.1)

begun_forest : (s : WatchState) (w : Option BeginReason) → (begun s w).forest ≡ s.forest
begun_forest s None = refl
begun_forest s (Some w) = refl

clock_forest : (old new : WatchState) (wall elapsed : ℕ) (output : WatchOutput) → StepClock old wall elapsed output new → new.forest ≡ old.forest
unfolding readied
clock_forest old new wall elapsed output step =
    ap (λ (x : WatchState). x.forest) (sent_by (pressed (readied old wall elapsed) (asked_by_round step.round)) new output.command step.command).1
    ∙ begun_forest (settled (timed old wall elapsed)) (why old wall elapsed)

untold_forest : (s : WatchState) (q : Out) (reply : WatchReply) (terms : WatchTerms) → writes (Looked q.entry reply terms) ≡ false → (looked s q reply terms).forest ≡ s.forest
untold_forest s q (Told seconds renewable date) terms none = absurd cc
untold_forest s q _ terms none = refl

no_writing : (i j : ℕ) (reply : WatchReply) (terms : WatchTerms) → writes (Looked i reply terms) ≡ false → writes (Looked j reply terms) ≡ false
no_writing i j (Told seconds renewable date) terms none = none
no_writing i j _ terms none = refl

looked_forest : (old new : WatchState) (i : ℕ) (found : Option Out) (reply : WatchReply) (terms : WatchTerms) (output : WatchOutput) → StepLooked old found reply terms output new → writes (Looked i reply terms) ≡ false → new.forest ≡ old.forest
looked_forest old new i None reply terms output step none = absurd step
looked_forest old new i (Some q) reply terms output step none =
    let s = noted old q reply in
    ap (λ (x : WatchState). x.forest) step.1 ∙ replied_forest (looked s q reply terms) q reply ∙ untold_forest s q reply terms (no_writing i q.entry reply terms none)

renewed_forest : (old new : WatchState) (found : Option Out) (reply : WatchReply) (output : WatchOutput) → StepRenewed old found reply output new → new.forest ≡ old.forest
renewed_forest old new None reply output step = absurd step
renewed_forest old new (Some q) reply output step = ap (λ (x : WatchState). x.forest) step.1 ∙ replied_forest (state_renewed (noted old q reply) q reply) q reply

step_forest : (old new : WatchState) (event : WatchEvent) (output : WatchOutput) → Step old event output new → writes event ≡ false → new.forest ≡ old.forest
step_forest old new (Clock wall elapsed) output step none = clock_forest old new wall elapsed output step
step_forest old new (Looked i reply terms) output step none = looked_forest old new i (request_out old.out i Look) reply terms output step none
step_forest old new (Renewed i reply) output step none = renewed_forest old new (request_out old.out i Renew) reply output step
step_forest old new (Need i until) output step none = absurd cc
step_forest old new _ output step none = ap (λ (x : WatchState). x.forest) step.1

turn_forest : (old new : WatchState) (event : WatchEvent) (result : Result WatchOutput WatchFault) → Turn old event result new → is_event_taken result && writes event ≡ false → new.forest ≡ old.forest
turn_forest old new event (Ok output) turn none = step_forest old new event output turn.1 none
turn_forest old new event (Err fault) turn none = ap (λ (x : WatchState). x.forest) (refused_stays old new event fault turn)

-- an end that is handed in
sooner_at : (from : ℕ) (o : Option Try) → (sooner_try from o).at ≤ from
sooner_at from None = omega arith
sooner_at from (Some t) = omega arith

known_turn :
    (old new : WatchState) (event : WatchEvent) (result : Result WatchOutput WatchFault) (i end : ℕ) (renewable : Bool) → Turn old event result new → i < length old.tracks → event ≡ Known i end renewable → is_event_taken result ≡ true →
    IsHandedIn old new i end renewable
unfolding owing_past
known_turn old new event (Err fault) i end renewable turn within is taken' = absurd (true≢false (sym taken'))
known_turn old new event (Ok output) i end renewable turn within is taken' =
    let step = subst (λ e. Step old e output new) is turn.1 in
    let x = track_at old i in
    let at = old.clocks.at in
    let y = told_earlier end renewable x in
    let z = owing_past at y in
    let there : track_at new i ≡ z = ap (λ (s : WatchState). track_at s i) step.1 ∙ get_or-set_same old.tracks i z no_track within in
    let clock : new.clocks.at ≡ at = ap (λ (s : WatchState). s.clocks.at) step.1 in
    let now : second new ≡ sec at = ap sec clock in
    let owed = owing_lookup at y in
    let tried : Track = record y { owes = true; attempt = Some (sooner_try (soon at x) x.attempt) } in
    record {
      end_is = ap (λ (t : Track). t.end) there ∙ known_is (λ t. t.end ≡ At (min END_MAX end)) at end renewable x refl (λ out. refl) (λ free. refl);
      goes_on = ap (λ (t : Track). t.renewable) there ∙ known_is (λ t. t.renewable ≡ renewable) at end renewable x refl (λ out. refl) (λ free. refl);
      ahead = λ low.
          let before : sec at < min END_MAX end = omega (arith, low, now) in
          let alive : is_alive (sec at) y ≡ true = grind (arith, nat_tests, before) in
          let kept = there ∙ cond-true (is_alive (sec at) y) y owed alive in
          (ap (λ (t : Track). t.attempt) kept, ap (λ (t : Track). t.owes) kept);
      past = λ high.
          let after : min END_MAX end ≤ sec at = omega (arith, high, now) in
          let dead : is_alive (sec at) y ≡ false = grind (arith, nat_tests, after) in
          let made = there ∙ cond-false (is_alive (sec at) y) y owed dead in (
            ap (λ (t : Track). t.owes) made ∙ if_both (λ (t : Track). t.owes ≡ true) x.out (record y { owes = true }) tried refl refl,
            λ free. (
              sooner_try (soon at x) x.attempt,
              (
                ap (λ (t : Track). t.attempt) (made ∙ cond-false x.out (record y { owes = true }) tried free),
                (let low = sooner_at (soon at x) x.attempt in let again = again_is x.last in omega (arith, low, again, clock)),
              ),
            ),
          );
    }

pub written_so : ForestWrittenLaw
written_so = record {
  terms = λ old turn i seconds renewable date terms h within is taken'. terms_turn old turn.state turn.event turn.result i seconds renewable date terms h.0 within is taken';
  need = λ old turn i until h within is taken'. need_turn old turn.state turn.event turn.result i until h.0 within is taken';
  others = λ old turn h none. turn_forest old turn.state turn.event turn.result h.0 none;
  known = λ old turn i end renewable h within is taken'. known_turn old turn.state turn.event turn.result i end renewable h.0 within is taken';
}
