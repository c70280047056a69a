-- Failures: what a reply that tells nothing makes of a try. For the law of what is asked after a failure.
use Rattle.std.proofs.Common.{◌≡◌, ◌∙◌, ℕ, ◌<◌, Bool, true, false, not, ◌&&◌, if◌then◌else◌, Option, Some, None, Result, Ok, Err, length, refl, sym, ap, subst, true≢false}
use Rattle.std.proofs.lemmas.List.{get_or-set_same}
use Rattle.watch_machine.specs.{declared.command.WatchOutput.WatchOutput, declared.event.WatchEvent.WatchEvent, declared.event.Operation.Operation, declared.event.WatchReply.WatchReply, declared.event.WatchTerms.WatchTerms}
use Rattle.watch_machine.specs.{declared.fault.WatchFault.WatchFault, declared.lanes.Out.Out, declared.track.Track.Track, declared.track.Try.Try, Clocks.sec, History.Turn, Lines.rested, Refusal.request_out, Wanted.is_alive, Wanted.is_open}
use Rattle.watch_machine.specs.declared.event.WatchEvent.TheVariants.{Looked, Renewed}
use Rattle.watch_machine.specs.declared.event.Operation.TheVariants.{Look, Renew}
use Rattle.watch_machine.specs.declared.event.WatchReply.TheVariants.{Told, Refused, Busy, Lost}
use Rattle.watch_machine.specs.Answers.{back_track, back_try, due_again, failing, noted, replied, with_track}
use Rattle.watch_machine.specs.Looked.{looked, untold, untold_track, untold_try}
use Rattle.watch_machine.specs.Renewed.{renewed_track, state_renewed, ungranted, ungranted_track, ungranted_try}
use Rattle.watch_machine.specs.State.{WatchState, attempt_at, no_track, second, track_at}
use Rattle.watch_machine.specs.Step.{Step, StepLooked, StepRenewed}
use Rattle.watch_machine.proofs.Within.{out_entry}
use Rattle.watch_machine.proofs.Cases.{if_cases, not_both, value_is}
use Rattle.watch_laws.specs.{Absence.is_event_taken, Presence.is_told}
use Rattle.watch_laws.specs.Failures.{FailureLaw, IsFailure, asked_after_lookup, asked_after_renewal, is_refused}
use Rattle.watch_laws.proofs.{Minding.some_within, Tracking.back_kept, Tracking.set_holds}

-- what holds of the try of an entry that is not out holds when the broker is back, if it holds of one that was lost and is due again
module _ (Q : Try → Type 0) (again : (t : Try) (from : ℕ) → t.lost ≡ true → Q t → Q (due_again t from)) where
  abbrev pub Free : Track → Type 0
  Free x = (x.out ≡ false) × ((u : Try) → x.attempt ≡ Some u → Q u)

  none_free : Free no_track
  none_free = (refl, λ u is. absurd cc)

  back_some : (x : Track) (o : Option Try) → x.out ≡ false → ((u : Try) → o ≡ Some u → Q u) → (u : Try) → back_try x o ≡ Some u → Q u
  back_some x None free h u = λ is. absurd cc
  back_some x (Some t) free h u =
      if_cases (λ (o : Option Try). o ≡ Some u → Q u) x.out (Some (record t { fails = 0 })) (if t.lost then Some (due_again t (rested x.last)) else Some t) (λ out. absurd (not_both out free))
      (λ _. if_cases (λ (o : Option Try). o ≡ Some u → Q u) t.lost (Some (due_again t (rested x.last))) (Some t)
      (λ lost is. subst Q (value_is (due_again t (rested x.last)) u is) (again t (rested x.last) lost (h t refl))) (λ kept. h u))

  pub back_free : (x : Track) → Free x → Free (back_track x)
  unfolding back_track
  back_free x h = (h.0, back_some x x.attempt h.0 h.1)

  pub set_free : (s : WatchState) (q : Out) (reply : WatchReply) (y : Track) → Free y → Free (track_at (replied (with_track s q.entry y) q reply) q.entry)
  set_free s q reply y h = back_kept (λ z x. Free x → Free z) (λ x k. k) (λ x. back_free x) (with_track s q.entry y) q reply q.entry (set_holds Free none_free s.tracks q.entry y h)

-- a failure, by what is asked next
again_failure : (t : Try) (reply : WatchReply) (heard : Bool) (next : Operation) (u : Try) (from : ℕ) → u.lost ≡ true → IsFailure t u reply heard next → IsFailure t (due_again u from) reply heard next
again_failure t reply heard next u from lost h = record { fails = h.fails; base = h.base; alone = h.alone; pressed = h.pressed; operation = h.operation }

-- a renewal
ungranted_fails :
    (at : ℕ) (heard : Bool) (reply : WatchReply) (x : Track) (t : Try) → is_told reply ≡ false → IsFailure t (ungranted_try at heard reply x t) reply heard (asked_after_renewal reply (is_alive (sec at) x))
ungranted_fails at heard (Told seconds renewable date) x t none = absurd cc
ungranted_fails at heard _ x t none = record { fails = refl; base = refl; alone = refl; pressed = refl; operation = refl }

ungranted_some :
    (at : ℕ) (heard : Bool) (reply : WatchReply) (x : Track) (t u : Try) → is_told reply ≡ false → x.attempt ≡ Some t → ungranted at heard reply x x.attempt ≡ Some u →
    IsFailure t u reply heard (asked_after_renewal reply (is_alive (sec at) x))
ungranted_some at heard reply x t u none is there =
    subst (λ v. IsFailure t v reply heard (asked_after_renewal reply (is_alive (sec at) x)))
    (value_is (ungranted_try at heard reply x t) u (sym (ap (ungranted at heard reply x) is) ∙ there)) (ungranted_fails at heard reply x t none)

renewed_fails :
    (margin step at : ℕ) (q : Out) (reply : WatchReply) (x : Track) (t : Try) → is_told reply ≡ false → x.attempt ≡ Some t →
    Free (λ u. IsFailure t u reply q.heard (asked_after_renewal reply (is_alive (sec at) x))) (again_failure t reply q.heard (asked_after_renewal reply (is_alive (sec at) x))) (renewed_track margin step at q reply x)
unfolding renewed_track ungranted_track
renewed_fails margin step at q (Told seconds renewable date) x t none is = absurd cc
renewed_fails margin step at q (Refused status date) x t none is = (refl, λ u there. ungranted_some at q.heard (Refused status date) x t u none is there)
renewed_fails margin step at q Busy x t none is = (refl, λ u there. ungranted_some at q.heard Busy x t u none is there)
renewed_fails margin step at q Lost x t none is = (refl, λ u there. ungranted_some at q.heard Lost x t u none is there)

renewed_owes : (margin step at : ℕ) (q : Out) (reply : WatchReply) (x : Track) → is_told reply ≡ false → (renewed_track margin step at q reply x).owes ≡ x.owes
unfolding renewed_track ungranted_track
renewed_owes margin step at q (Told seconds renewable date) x none = absurd cc
renewed_owes margin step at q _ x none = refl

back_owes : (owes : Bool) (x : Track) → x.owes ≡ owes → (back_track x).owes ≡ owes
unfolding back_track
back_owes owes x h = h

-- what is owed of an entry after the answer, by what is owed of the track that it makes
replied_owes : (s : WatchState) (q : Out) (reply : WatchReply) (y : Track) (owes : Bool) → q.entry < length s.tracks → y.owes ≡ owes → (track_at (replied (with_track s q.entry y) q reply) q.entry).owes ≡ owes
replied_owes s q reply y owes within is =
    back_kept (λ z w. w.owes ≡ owes → z.owes ≡ owes) (λ w k. k) (λ w. back_owes owes w) (with_track s q.entry y) q reply q.entry
    (ap (λ (w : Track). w.owes) (get_or-set_same s.tracks q.entry y no_track within) ∙ is)

abbrev LeftByRenewal : WatchState → ℕ → Try → Try → WatchReply → Bool → WatchState → Type 0
LeftByRenewal old i t u reply heard new =
    IsFailure t u reply heard (asked_after_renewal reply (is_alive (second old) (track_at old i))) × ((track_at new i).owes ≡ (track_at old i).owes)

renewal_step :
    (old new : WatchState) (found : Option Out) (i : ℕ) (reply : WatchReply) (output : WatchOutput) (t u : Try) (q : Out) → request_out old.out i Renew ≡ found → found ≡ Some q → StepRenewed old found reply output new → is_told reply ≡ false →
    attempt_at old i ≡ Some t → attempt_at new i ≡ Some u → LeftByRenewal old i t u reply q.heard new
renewal_step old new None i reply output t u q is some step none before after = absurd step
renewal_step old new (Some r) i reply output t u q is some step none before after =
    let same : r ≡ q = value_is r q some in
    let own = out_entry old.out i Renew r is in
    let next = asked_after_renewal reply (is_alive (second old) (track_at old r.entry)) in
    let Q : Try → Type 0 = λ v. IsFailure t v reply r.heard next in
    let before' = subst (λ k. attempt_at old k ≡ Some t) (sym own) before in
    let h = set_free Q (again_failure t reply r.heard next) (noted old r reply) r reply _ (renewed_fails old.forest.margin _ old.clocks.at r reply (track_at old r.entry) t none before') in
    let owes = replied_owes (noted old r reply) r reply _ (track_at old r.entry).owes (some_within old.tracks r.entry t before') (renewed_owes old.forest.margin _ old.clocks.at r reply (track_at old r.entry) none) in
    let there : attempt_at (replied (state_renewed (noted old r reply) r reply) r reply) r.entry ≡ Some u =
    ap (λ (x : WatchState). attempt_at x r.entry) (sym step.1) ∙ subst (λ k. attempt_at new k ≡ Some u) (sym own) after in
    subst (λ (o : Out). LeftByRenewal old i t u reply o.heard new) same
    (subst (λ k. LeftByRenewal old k t u reply r.heard new) own (h.1 u there, ap (λ (x : WatchState). (track_at x r.entry).owes) step.1 ∙ owes))

renewal_turn :
    (old new : WatchState) (event : WatchEvent) (result : Result WatchOutput WatchFault) (i : ℕ) (reply : WatchReply) (t u : Try) (q : Out) → Turn old event result new → event ≡ Renewed i reply → is_event_taken result ≡ true → is_told reply ≡ false →
    request_out old.out i Renew ≡ Some q → attempt_at old i ≡ Some t → attempt_at new i ≡ Some u → LeftByRenewal old i t u reply q.heard new
renewal_turn old new event (Err fault) i reply t u q turn is taken' none asked before after = absurd (true≢false (sym taken'))
renewal_turn old new event (Ok output) i reply t u q turn is taken' none asked before after =
    renewal_step old new (request_out old.out i Renew) i reply output t u q refl asked (subst (λ e. Step old e output new) is turn.1) none before after

-- and a lookup
by_refusal : (lives pressed : Bool) (at : ℕ) (t : Try) → pressed ≡ t.pressed → (status : ℕ) (date : Option ℕ) (heard : Bool) →
    IsFailure t (if lives then (if pressed then failing t Renew false false else record (failing t Renew false false) { at = at; failed = false }) else failing t Look false false) (Refused status date) heard
    (asked_after_lookup (Refused status date) t.pressed lives)
by_refusal true true at t is status date heard = record { fails = refl; base = refl; alone = refl; pressed = refl; operation = refl }
by_refusal true false at t is status date heard = record { fails = refl; base = refl; alone = refl; pressed = refl; operation = refl }
by_refusal false pressed at t is status date heard = record { fails = refl; base = refl; alone = refl; pressed = refl; operation = refl }

untold_fails :
    (at : ℕ) (heard : Bool) (reply : WatchReply) (x : Track) (t : Try) → is_told reply ≡ false → IsFailure t (untold_try at heard reply x t) reply heard (asked_after_lookup reply t.pressed (is_open (sec at) x))
untold_fails at heard (Told seconds renewable date) x t none = absurd cc
untold_fails at heard (Refused status date) x t none = by_refusal (is_open (sec at) x) t.pressed at t refl status date heard
untold_fails at heard _ x t none = record { fails = refl; base = refl; alone = refl; pressed = refl; operation = refl }

untold_some :
    (at : ℕ) (heard : Bool) (reply : WatchReply) (x : Track) (t u : Try) → is_told reply ≡ false → x.attempt ≡ Some t → untold at heard reply x x.attempt ≡ Some u →
    IsFailure t u reply heard (asked_after_lookup reply t.pressed (is_open (sec at) x))
untold_some at heard reply x t u none is there =
    subst (λ v. IsFailure t v reply heard (asked_after_lookup reply t.pressed (is_open (sec at) x)))
    (value_is (untold_try at heard reply x t) u (sym (ap (untold at heard reply x) is) ∙ there)) (untold_fails at heard reply x t none)

untold_free :
    (at : ℕ) (heard : Bool) (reply : WatchReply) (x : Track) (t : Try) → is_told reply ≡ false → x.attempt ≡ Some t →
    Free (λ u. IsFailure t u reply heard (asked_after_lookup reply t.pressed (is_open (sec at) x))) (again_failure t reply heard (asked_after_lookup reply t.pressed (is_open (sec at) x))) (untold_track at heard reply x)
unfolding untold_track
untold_free at heard reply x t none is = (refl, λ u there. untold_some at heard reply x t u none is there)

untold_owes : (at : ℕ) (heard : Bool) (reply : WatchReply) (x : Track) → is_told reply ≡ false → (untold_track at heard reply x).owes ≡ x.owes && not (is_refused reply)
unfolding untold_track
untold_owes at heard (Told seconds renewable date) x none = absurd cc
untold_owes at heard _ x none = refl

untold_is : (s : WatchState) (r : Out) (reply : WatchReply) (terms : WatchTerms) → is_told reply ≡ false → looked s r reply terms ≡ with_track s r.entry (untold_track s.clocks.at r.heard reply (track_at s r.entry))
untold_is s r (Told seconds renewable date) terms none = absurd cc
untold_is s r _ terms none = refl

abbrev Left : WatchState → ℕ → Try → Try → WatchReply → Bool → WatchState → Type 0
Left old i t u reply heard new =
    IsFailure t u reply heard (asked_after_lookup reply t.pressed (is_open (second old) (track_at old i))) × ((track_at new i).owes ≡ (track_at old i).owes && not (is_refused reply))

lookup_made :
    (old : WatchState) (r : Out) (reply : WatchReply) (t u : Try) → is_told reply ≡ false → attempt_at old r.entry ≡ Some t →
    attempt_at (replied (with_track (noted old r reply) r.entry (untold_track old.clocks.at r.heard reply (track_at old r.entry))) r reply) r.entry ≡ Some u →
    Left old r.entry t u reply r.heard (replied (with_track (noted old r reply) r.entry (untold_track old.clocks.at r.heard reply (track_at old r.entry))) r reply)
lookup_made old r reply t u none before after =
    let s = noted old r reply in
    let x = track_at old r.entry in
    let y = untold_track old.clocks.at r.heard reply x in
    let next = asked_after_lookup reply t.pressed (is_open (second old) x) in
    let owes = x.owes && not (is_refused reply) in
    let free = set_free (λ v. IsFailure t v reply r.heard next) (again_failure t reply r.heard next) s r reply y (untold_free old.clocks.at r.heard reply x t none before) in (
      free.1 u after,
      replied_owes s r reply y owes (some_within old.tracks r.entry t before) (untold_owes old.clocks.at r.heard reply x none),
    )

lookup_step :
    (old new : WatchState) (found : Option Out) (i : ℕ) (reply : WatchReply) (terms : WatchTerms) (output : WatchOutput) (t u : Try) (q : Out) → request_out old.out i Look ≡ found → found ≡ Some q →
    StepLooked old found reply terms output new → is_told reply ≡ false → attempt_at old i ≡ Some t → attempt_at new i ≡ Some u → Left old i t u reply q.heard new
lookup_step old new None i reply terms output t u q is some step none before after = absurd step
lookup_step old new (Some r) i reply terms output t u q is some step none before after =
    let same : r ≡ q = value_is r q some in
    let own = out_entry old.out i Look r is in
    let made : new ≡ replied (with_track (noted old r reply) r.entry (untold_track old.clocks.at r.heard reply (track_at old r.entry))) r reply =
    step.1 ∙ ap (λ (x : WatchState). replied x r reply) (untold_is (noted old r reply) r reply terms none) in
    let there = ap (λ (x : WatchState). attempt_at x r.entry) (sym made) ∙ subst (λ k. attempt_at new k ≡ Some u) (sym own) after in
    subst (λ (o : Out). Left old i t u reply o.heard new) same
    (subst (λ k. Left old k t u reply r.heard new) own
    (subst (λ (x : WatchState). Left old r.entry t u reply r.heard x) (sym made) (lookup_made old r reply t u none (subst (λ k. attempt_at old k ≡ Some t) (sym own) before) there)))

lookup_turn :
    (old new : WatchState) (event : WatchEvent) (result : Result WatchOutput WatchFault) (i : ℕ) (reply : WatchReply) (terms : WatchTerms) (t u : Try) (q : Out) → Turn old event result new → event ≡ Looked i reply terms → is_event_taken result ≡ true →
    is_told reply ≡ false → request_out old.out i Look ≡ Some q → attempt_at old i ≡ Some t → attempt_at new i ≡ Some u → Left old i t u reply q.heard new
lookup_turn old new event (Err fault) i reply terms t u q turn is taken' none asked before after = absurd (true≢false (sym taken'))
lookup_turn old new event (Ok output) i reply terms t u q turn is taken' none asked before after =
    lookup_step old new (request_out old.out i Look) i reply terms output t u q refl asked (subst (λ e. Step old e output new) is turn.1) none before after

pub failures_so : FailureLaw
failures_so = record {
  renewal = λ old turn i reply t u q h is taken' none asked before after. renewal_turn old turn.state turn.event turn.result i reply t u q h.0 is taken' none asked before after;
  lookup = λ old turn i reply terms t u q h is taken' none asked before after. lookup_turn old turn.state turn.event turn.result i reply terms t u q h.0 is taken' none asked before after;
}
