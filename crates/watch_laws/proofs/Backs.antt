-- Backs: what a reply makes of the entries that it is not for. For the law of the broker's return.
use Rattle.std.proofs.Common.{◌≡◌, ◌≢◌, ◌∙◌, ℕ, Bool, true, false, ◌&&◌, if◌then◌else◌, Option, Some, None, Result, Ok, Err, refl, sym, ap, subst, true≢false}
use Rattle.std.proofs.lemmas.List.{get_or-set_other}
use Rattle.std.proofs.lemmas.Bool.{cond-false, cond-true, eqb-true}
use Rattle.watch_machine.specs.{declared.command.WatchOutput.WatchOutput, declared.event.WatchEvent.WatchEvent, declared.event.WatchReply.WatchReply, declared.event.WatchTerms.WatchTerms, declared.fault.WatchFault.WatchFault}
use Rattle.watch_machine.specs.{declared.lanes.Out.Out, declared.lanes.Presence.Presence, declared.track.Track.Track, declared.track.Try.Try, History.Turn, Lines.rested, Looked.looked, Looked.told_state, Refusal.request_out}
use Rattle.watch_machine.specs.{Renewed.state_renewed, Step.StepLooked, Step.StepRenewed}
use Rattle.watch_machine.specs.declared.event.WatchEvent.TheVariants.{Clock, Looked, Renewed, Need, Begin, Known}
use Rattle.watch_machine.specs.declared.event.Operation.TheVariants.{Look, Renew}
use Rattle.watch_machine.specs.declared.event.WatchReply.TheVariants.{Told, Lost}
use Rattle.watch_machine.specs.Answers.{answers_all, back_track, back_try, due_again, lane_freed, noted, replied, silent}
use Rattle.watch_machine.specs.State.{WatchState, attempt_at, each, no_track, track_at, track_in}
use Rattle.watch_machine.proofs.{Cases.if_both, Cases.if_cases, Seeing.each_read, Within.out_entry}
use Rattle.watch_laws.specs.{Absence.is_event_taken, Presence.answers, Presence.is_answered}
use Rattle.watch_laws.specs.Backs.{BackLaw, due_after_absence, replies_to}
use Rattle.watch_laws.proofs.{Holding.looked_presence, Minding.some_within, Presses.again_is}

-- a reply leaves the tracks of others, but for the broker's return
looked_others : (s : WatchState) (q : Out) (reply : WatchReply) (terms : WatchTerms) (j : ℕ) → j ≢ q.entry → track_at (looked s q reply terms) j ≡ track_at s j
looked_others s q (Told seconds renewable date) terms j apart =
    get_or-set_other (told_state s q.entry q.since seconds renewable terms).tracks q.entry j _ no_track apart ∙ get_or-set_other s.tracks q.entry j _ no_track apart
looked_others s q _ terms j apart = get_or-set_other s.tracks q.entry j _ no_track apart

renewed_others : (s : WatchState) (q : Out) (reply : WatchReply) (j : ℕ) → j ≢ q.entry → track_at (state_renewed s q reply) j ≡ track_at s j
renewed_others s q reply j apart = get_or-set_other s.tracks q.entry j _ no_track apart

module _ (mid : WatchState) (q : Out) where
  all_back : mid.presence.away ≡ true → (answers_all (lane_freed mid q)).tracks ≡ each (λ i. back_track) mid.tracks
  all_back away = if_cases (λ (t : WatchState). t.tracks ≡ each (λ i. back_track) mid.tracks) mid.presence.away _ _ (λ e. refl) (λ e. absurd (true≢false (sym away ∙ e)))

  none_back : mid.presence.away ≡ false → (answers_all (lane_freed mid q)).tracks ≡ mid.tracks
  none_back there = if_cases (λ (t : WatchState). t.tracks ≡ mid.tracks) mid.presence.away _ _ (λ e. absurd (true≢false (sym e ∙ there))) (λ e. refl)

  back_tracks : (reply : WatchReply) → is_answered reply ≡ true → mid.presence.away ≡ true → (replied mid q reply).tracks ≡ each (λ i. back_track) mid.tracks
  back_tracks Lost yes' away = absurd cc
  back_tracks _ yes' away = all_back away

  same_tracks : (reply : WatchReply) → is_answered reply && mid.presence.away ≡ false → (replied mid q reply).tracks ≡ mid.tracks
  same_tracks Lost none =
      let P : WatchState → Type 0 = λ t. t.tracks ≡ mid.tracks in
      if_both P q.heard (lane_freed mid q) (silent (lane_freed mid q)) refl (if_both P mid.presence.away _ _ refl refl)
  same_tracks _ none = none_back none

-- a turn that is a reply to i
record Replies (old : WatchState) (i : ℕ) (reply : WatchReply) (new : WatchState) : Type 0 where
  mid : WatchState
  q : Out
  is : new ≡ replied mid q reply
  away : mid.presence.away ≡ old.presence.away
  others : (j : ℕ) → j ≢ i → track_at mid j ≡ track_at old j

looked_replies : (old new : WatchState) (i : ℕ) (reply : WatchReply) (terms : WatchTerms) (output : WatchOutput) (found : Option Out) → request_out old.out i Look ≡ found → StepLooked old found reply terms output new → Replies old i reply new
looked_replies old new i reply terms output None is step = absurd step
looked_replies old new i reply terms output (Some q) is step =
    let s = noted old q reply in
    record {
      mid = looked s q reply terms;
      q = q;
      is = step.1;
      away = ap (λ (p : Presence). p.away) (looked_presence s q reply terms);
      others = λ j apart. looked_others s q reply terms j (λ e. apart (e ∙ out_entry old.out i Look q is));
    }

renewed_replies : (old new : WatchState) (i : ℕ) (reply : WatchReply) (output : WatchOutput) (found : Option Out) → request_out old.out i Renew ≡ found → StepRenewed old found reply output new → Replies old i reply new
renewed_replies old new i reply output None is step = absurd step
renewed_replies old new i reply output (Some q) is step =
    let s = noted old q reply in
    record { mid = state_renewed s q reply; q = q; is = step.1; away = refl; others = λ j apart. renewed_others s q reply j (λ e. apart (e ∙ out_entry old.out i Renew q is)) }

record Taken (old new : WatchState) (i : ℕ) (answered : Bool) : Type 0 where
  reply : WatchReply
  answered_is : answered ≡ is_answered reply
  replies : Replies old i reply new

turn_replies : (old new : WatchState) (event : WatchEvent) (result : Result WatchOutput WatchFault) (i : ℕ) → Turn old event result new → is_event_taken result && replies_to i event ≡ true → Taken old new i (is_event_taken result && answers event)
turn_replies old new (Clock wall elapsed) (Ok output) i turn of = absurd cc
turn_replies old new (Looked k reply terms) (Ok output) i turn of =
    record { reply = reply; answered_is = refl; replies = subst (λ n. Replies old n reply new) (eqb-true k i of) (looked_replies old new k reply terms output (request_out old.out k Look) refl turn.1) }
turn_replies old new (Renewed k reply) (Ok output) i turn of =
    record { reply = reply; answered_is = refl; replies = subst (λ n. Replies old n reply new) (eqb-true k i of) (renewed_replies old new k reply output (request_out old.out k Renew) refl turn.1) }
turn_replies old new (Need k until) (Ok output) i turn of = absurd cc
turn_replies old new Begin (Ok output) i turn of = absurd cc
turn_replies old new (Known k end renewable) (Ok output) i turn of = absurd cc
turn_replies old new event (Err fault) i turn of = absurd cc

-- the broker's return
back_is : (old new : WatchState) (i j : ℕ) (t : Try) (answered : Bool) → Taken old new i answered → answered ≡ true → old.presence.away ≡ true → j ≢ i → attempt_at old j ≡ Some t → attempt_at new j ≡ back_try (track_at old j) (Some t)
unfolding back_track
back_is old new i j t answered h yes' away apart is =
    let r = h.replies in
    let same = r.others j apart in
    let within = some_within r.mid.tracks j t (ap (λ (x : Track). x.attempt) same ∙ is) in
    ap (λ (x : WatchState). attempt_at x j) r.is
    ∙ ap (λ xs. (track_in xs j).attempt) (back_tracks r.mid r.q h.reply (sym h.answered_is ∙ yes') (r.away ∙ away))
    ∙ ap (λ (x : Track). x.attempt) (each_read (λ k. back_track) r.mid.tracks j within)
    ∙ ap (λ (x : Track). back_try x x.attempt) same ∙ ap (back_try (track_at old j)) is

back_out : (x : Track) (t : Try) → x.out ≡ true → back_try x (Some t) ≡ Some (record t { fails = 0 })
back_out x t out = cond-true x.out (Some (record t { fails = 0 })) (if t.lost then Some (due_again t (rested x.last)) else Some t) out

back_lost : (x : Track) (t : Try) → x.out ≡ false → t.lost ≡ true → back_try x (Some t) ≡ Some (due_after_absence t x.last)
back_lost x t free lost =
    cond-false x.out (Some (record t { fails = 0 })) (if t.lost then Some (due_again t (rested x.last)) else Some t) free
    ∙ cond-true t.lost (Some (due_again t (rested x.last))) (Some t) lost ∙ ap (λ n. Some (due_again t n)) (again_is x.last)

back_other : (x : Track) (t : Try) → x.out ≡ false → t.lost ≡ false → back_try x (Some t) ≡ Some t
back_other x t free kept =
    cond-false x.out (Some (record t { fails = 0 })) (if t.lost then Some (due_again t (rested x.last)) else Some t) free ∙ cond-false t.lost (Some (due_again t (rested x.last))) (Some t) kept

stays_so : (old new : WatchState) (i j : ℕ) (answered : Bool) → Taken old new i answered → answered && old.presence.away ≡ false → j ≢ i → track_at new j ≡ track_at old j
stays_so old new i j answered h none apart =
    let r = h.replies in
    ap (λ (x : WatchState). track_at x j) r.is
    ∙ ap (λ xs. track_in xs j) (same_tracks r.mid r.q h.reply (ap (λ b. b && r.mid.presence.away) (sym h.answered_is) ∙ ap (λ b. answered && b) r.away ∙ none)) ∙ r.others j apart

pub backs_so : BackLaw
backs_so = record {
  out = λ old turn i j t h of yes' away apart is out.
      back_is old turn.state i j t _ (turn_replies old turn.state turn.event turn.result i h.0 of) yes' away apart is ∙ back_out (track_at old j) t out;
  lost = λ old turn i j t h of yes' away apart is free lost'.
      back_is old turn.state i j t _ (turn_replies old turn.state turn.event turn.result i h.0 of) yes' away apart is ∙ back_lost (track_at old j) t free lost';
  other = λ old turn i j t h of yes' away apart is free kept.
      back_is old turn.state i j t _ (turn_replies old turn.state turn.event turn.result i h.0 of) yes' away apart is ∙ back_other (track_at old j) t free kept;
  stays = λ old turn i j h of none apart. stays_so old turn.state i j _ (turn_replies old turn.state turn.event turn.result i h.0 of) none apart;
}
