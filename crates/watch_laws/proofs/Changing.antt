-- Changing: another forest that is watched costs no entry anything that is known of it. For the law of a change.
use Rattle.std.proofs.Common.{◌≡◌, ◌∙◌, ◌&&◌, ℕ, suc, ◌<◌, ◌≤◌, true, false, cond, if◌then◌else◌, List, [], ◌∷◌, Option, Some, None, Result, Ok, Err, IfSome, length, min, not, is_none, nat_lt, option_map, refl, sym, ap, subst, arith}
use Rattle.std.proofs.lemmas.{Bool.cond-true, Bool.eqb-true, Bool.Decides.nat_tests}
use Rattle.plan_forest.specs.{declared.entry.Entry.Entry, declared.forest.TheConstants.END_MAX, Forest.entry_at, Push.IsForest, Push.is_lease}
use Rattle.plan_forest.proofs.Placed.{range_parts}
use Rattle.watch_machine.specs.{declared.command.WatchOutput.WatchOutput, declared.event.WatchEvent.WatchEvent, declared.event.WatchReply.WatchReply, declared.event.WatchTerms.WatchTerms, declared.fault.WatchFault.WatchFault}
use Rattle.watch_machine.specs.{declared.lanes.Out.Out, declared.notes.Link.Link, declared.notes.Notes.Notes, declared.track.Track.Track, declared.track.Try.Try, Looked.by_terms, Looked.looked, Refusal.request_out, Renewed.state_renewed}
use Rattle.watch_machine.specs.{Settling.is_real}
use Rattle.watch_machine.specs.declared.change.Was.TheVariants.{New, Same, Retold}
use Rattle.watch_machine.specs.declared.event.WatchEvent.TheVariants.{Clock, Looked, Renewed, Need, Begin, Known}
use Rattle.watch_machine.specs.declared.event.Operation.TheVariants.{Look, Renew}
use Rattle.watch_machine.specs.Answers.{answers_all, lane_freed, link, noted, replied, silent}
use Rattle.watch_machine.specs.Beginning.{owing_lookup, soon, sooner_try, untopped_track}
use Rattle.watch_machine.specs.Change.{entry_by, former, former_at, index_or, out_after, place_now, terms_left, track_by, was_at}
use Rattle.watch_machine.specs.History.{Changed, IsChanged, Turn}
use Rattle.watch_machine.specs.State.{WatchState, entry_of, fresh_track, track_at}
use Rattle.watch_machine.specs.Step.{StepLooked, StepRenewed, nothing_noted, notes_top, with_link}
use Rattle.watch_machine.proofs.{Cases.if_both, Cases.if_cases, View.ceiling_low, Within.out_entry}
use Rattle.watch_machine.proofs.Moved.{changed_entry, changed_track, place_there, request_moved, said_within}
use Rattle.watch_machine.proofs.Nobody.{looked_past, notes_past, renewed_past, top_past}
use Rattle.watch_laws.specs.{Absence.is_event_taken, Backs.replies_to, Presence.IsIndexNow}
use Rattle.watch_laws.specs.Changes.{AreMoved, IsOfNobody, IsSoonerThan, IsWatchedAnew, KeepsAll, KeepsButTop, KeepsRequest, KeepsTerms, NothingElse}
use Rattle.watch_laws.proofs.Tracking.{replied_forest}

-- ---- an entry that owes a lookup at once

owed_at_once : (at : ℕ) (x : Track) → x.out ≡ false → (owing_lookup at x).attempt ≡ Some (sooner_try (soon at x) x.attempt)
owed_at_once at x free = if_cases (λ (y : Track). y.attempt ≡ Some (sooner_try (soon at x) x.attempt)) x.out _ _ (λ bad. absurd (let no' : true ≡ false = sym bad ∙ free in cc)) (λ e. refl)

owed_out : (at : ℕ) (x : Track) → x.out ≡ true → (owing_lookup at x).attempt ≡ x.attempt
owed_out at x is = if_cases (λ (y : Track). y.attempt ≡ x.attempt) x.out _ _ (λ e. refl) (λ bad. absurd (let no' : true ≡ false = sym is ∙ bad in cc))

-- all else of it
pub record OwesOnly (y x : Track) : Type 0 where
  pub end : y.end ≡ x.end
  pub renewable : y.renewable ≡ x.renewable
  pub top : y.top ≡ x.top
  pub last_try : y.last_try ≡ x.last_try
  pub grant : y.grant ≡ x.grant
  pub owes : y.owes ≡ true
  pub last : y.last ≡ x.last
  pub out : y.out ≡ x.out

owes_only : (at : ℕ) (x : Track) → OwesOnly (owing_lookup at x) x
owes_only at x =
    if_cases (λ (y : Track). OwesOnly y x) x.out _ _
    (λ e. record { end = refl; renewable = refl; top = refl; last_try = refl; grant = refl; owes = refl; last = refl; out = refl })
    (λ e. record { end = refl; renewable = refl; top = refl; last_try = refl; grant = refl; owes = refl; last = refl; out = refl })

sooner : (from : ℕ) (o : Option Try) → IsSoonerThan from o (Some (sooner_try from o))
sooner from None = record { at = refl; operation = refl; pressed = refl; fails = refl; lost = refl; alone = refl; failed = refl }
sooner from (Some t) = record { at = refl; rest = refl }

capped : (o : Option ℕ) → IfSome o (λ t. t ≤ END_MAX) → option_map (λ t. min END_MAX t) o ≡ o
capped None low = refl
capped (Some t) low = ap (λ n. Some n) (omega (arith, low))

-- ---- a change

module _ (old : WatchState) (c : Changed) (h : IsChanged old c) where
  n : ℕ
  n = length c.forest.entries

  pub its_track : (j : ℕ) → j < length c.forest.entries → track_at c.state j ≡ track_by old.clocks.at old.tracks (entry_at c.forest.entries j) (was_at c.was j)
  its_track j within = ap (λ (s : WatchState). track_at s j) h.state ∙ changed_track old c.forest c.was j within

  its_entry : (j : ℕ) → j < length c.forest.entries → entry_of c.state j ≡ entry_by c.forest.margin old.forest.entries (entry_at c.forest.entries j) (was_at c.was j)
  its_entry j within = ap (λ (s : WatchState). entry_of s j) h.state ∙ changed_entry old c.forest c.was j within

  pub low : (i j : ℕ) → former_at c.was j ≡ Some i → j < length c.forest.entries
  low i j said = said_within c.was j (length c.forest.entries) h.may.count (λ new. let bad : None ≡ Some i = sym (ap former new) ∙ said in cc)

  its_request : (i j : ℕ) → former_at c.was j ≡ Some i → KeepsRequest old c.state i j
  its_request i j said operation =
      ap (λ (s : WatchState). request_out s.out j operation) h.state
      ∙ request_moved (length c.forest.entries) (length c.forest.entries) c.was i j operation old.out (omega arith) (low i j said) said
      (place_there c.was i j said (λ k other. h.may.once i j k said other))

  its_terms : (i j : ℕ) → IsForest old.forest → was_at c.was j ≡ Same i → KeepsTerms old c.forest c.state i j
  unfolding by_terms
  its_terms i j forest said =
      let said' : former_at c.was j ≡ Some i = ap former said in
      let e = entry_at c.forest.entries j in
      let was = entry_of old i in
      let is : entry_of c.state j ≡ by_terms c.forest.margin (terms_left was) e = its_entry j (low i j said') ∙ ap (entry_by c.forest.margin old.forest.entries e) said in
      let there = h.may.within i j said' in
      let high = (range_parts was (forest.placed i there).in_range).ceiling in
      record {
        step = λ more. ap (λ (x : Entry). x.step) is ∙ cond-true (nat_lt c.forest.margin was.step) was.step e.step (grind (arith, nat_tests));
        ceiling = ap (λ (x : Entry). x.ceiling) is ∙ capped was.ceiling (ceiling_low was.ceiling high);
        orphan = λ token alone. ap (λ (x : Entry). x.parent) is ∙ orphaned_is e was token alone;
        need = ap (λ (x : Entry). x.need) is;
      } where
        orphaned_is : (e was : Entry) → is_lease e.kind ≡ false → was.parent ≡ None → cond (is_none was.parent && not (is_lease e.kind)) None e.parent ≡ None
        orphaned_is e was token alone = ap (λ o. cond (is_none o && not (is_lease e.kind)) None e.parent) alone ∙ ap (λ b. cond (not b) None e.parent) token

  pub keeps_all : (i j : ℕ) → IsForest old.forest → was_at c.was j ≡ Same i → KeepsAll old c i j
  keeps_all i j forest said =
      let said' : former_at c.was j ≡ Some i = ap former said in
      record {
        track = its_track j (low i j said') ∙ ap (track_by old.clocks.at old.tracks (entry_at c.forest.entries j)) said;
        request = its_request i j said';
        terms = its_terms i j forest said;
      }

  pub keeps_but_top : (i j : ℕ) → was_at c.was j ≡ Retold i → KeepsButTop old.clocks.at (track_at old i) (track_at c.state j)
  keeps_but_top i j said =
      let x = track_at old i in
      let at = old.clocks.at in
      let is : track_at c.state j ≡ owing_lookup at (untopped_track x) =
      its_track j (low i j (ap former said)) ∙ ap (track_by at old.tracks (entry_at c.forest.entries j)) said in
      let rest = owes_only at (untopped_track x) in
      subst (KeepsButTop at x) (sym is) (record {
        end = rest.end;
        renewable = rest.renewable;
        top = rest.top;
        last_try = rest.last_try;
        grant = rest.grant;
        owes = rest.owes;
        last = rest.last;
        out = rest.out;
        is_out = λ out. owed_out at (untopped_track x) out;
        free = λ free. subst (IsSoonerThan (soon at x) x.attempt) (sym (owed_at_once at (untopped_track x) free)) (sooner (soon at x) x.attempt);
      })

  pub keeps_request : (i j : ℕ) → was_at c.was j ≡ Retold i → KeepsRequest old c.state i j
  keeps_request i j said = its_request i j (ap former said)

  pub watched_anew : (j : ℕ) → j < length c.forest.entries → was_at c.was j ≡ New → IsWatchedAnew old.clocks.at (entry_at c.forest.entries j) (track_at c.state j)
  watched_anew j within said =
      let at = old.clocks.at in
      let e = entry_at c.forest.entries j in
      let is : track_at c.state j ≡ owing_lookup at (fresh_track e) = its_track j within ∙ ap (track_by at old.tracks e) said in
      subst (IsWatchedAnew at e) (sym is) (record {
        end = refl;
        renewable = refl;
        top = refl;
        last_try = refl;
        grant = refl;
        owes = refl;
        last = refl;
        out = refl;
        attempt = (sooner_try (soon at (fresh_track e)) None, (refl, record { at = omega arith; operation = refl; pressed = refl; fails = refl; lost = refl; alone = refl; failed = refl }));
      })

  index_now : (m : ℕ) (o : Option ℕ) → length c.forest.entries ≤ m → IsIndexNow (length c.forest.entries) o (index_or m o)
  index_now m None le = le
  index_now m (Some k) le = refl

  all_moved : (m : ℕ) (out : List Out) → length c.forest.entries ≤ m → AreMoved c out (out_after c.was m out)
  all_moved m [] le = refl
  all_moved m (r ∷ rest) le = (record { entry = index_now m (place_now c.was r.entry) le; rest = refl }, all_moved (suc m) rest (omega (arith, le)))

  pub are_moved : AreMoved c old.out c.state.out
  are_moved = subst (AreMoved c old.out) (sym (ap (λ (s : WatchState). s.out) h.state)) (all_moved (length c.forest.entries) old.out (omega arith))

  pub nothing_else : NothingElse old c.state
  nothing_else = subst (NothingElse old) (sym h.state) (record { width = refl; answers = refl; clocks = refl; presence = refl; begun = refl; asked = refl; stepped = refl })

-- ---- an answer to a request whose entry is no more

replied_tracks : (s : WatchState) (r : Out) (reply : WatchReply) → s.presence.away ≡ false → (replied s r reply).tracks ≡ s.tracks
replied_tracks s r reply there =
    let free = lane_freed s r in
    let P : WatchState → Type 0 = λ (t : WatchState). t.tracks ≡ s.tracks in
    if_both P (is_real reply) (answers_all free) (if r.heard then free else silent free)
    (if_cases P s.presence.away _ _ (λ bad. absurd (let no' : true ≡ false = sym bad ∙ there in cc)) (λ e. refl))
    (if_both P r.heard free (silent free) refl (if_both P s.presence.away _ _ refl refl))

notes_of_nobody : (notes : Notes) (l : Option Link) → notes ≡ record nothing_noted { link = l } → notes ≡ record nothing_noted { link = notes.link }
notes_of_nobody notes l is = is ∙ ap (λ (m : Option Link). record nothing_noted { link = m }) (sym (ap (λ (x : Notes). x.link) is))

looked_nobody :
    (old new : WatchState) (j : ℕ) (found : Option Out) (reply : WatchReply) (terms : WatchTerms) (output : WatchOutput) → request_out old.out j Look ≡ found → StepLooked old found reply terms output new →
    length old.tracks ≡ length old.forest.entries → length old.forest.entries ≤ j → IsOfNobody old (record { event = Looked j reply terms; result = Ok output; state = new })
looked_nobody old new j None reply terms output found step count past = absurd step
looked_nobody old new j (Some r) reply terms output found step count past =
    let s = noted old r reply in
    let entry = out_entry old.out j Look r found in
    let past' : length old.forest.entries ≤ r.entry = omega (arith, entry, past) in
    let none : looked s r reply terms ≡ s = looked_past s r reply terms (record { entries = past'; tracks = omega (arith, count, past') }) in
    let is : new ≡ replied s r reply = step.1 ∙ ap (λ (t : WatchState). replied t r reply) none in
    let l = link (looked s r reply terms) r reply in
    record {
      forest = ap (λ (t : WatchState). t.forest) is ∙ replied_forest s r reply;
      tracks = λ there. ap (λ (t : WatchState). t.tracks) is ∙ replied_tracks s r reply there;
      notes = notes_of_nobody output.notes l (ap (λ (o : WatchOutput). o.notes) step.0 ∙ ap (λ (x : Notes). with_link x l) (notes_past s r reply terms past'));
    }

renewed_nobody :
    (old new : WatchState) (j : ℕ) (found : Option Out) (reply : WatchReply) (output : WatchOutput) → request_out old.out j Renew ≡ found → StepRenewed old found reply output new →
    length old.tracks ≡ length old.forest.entries → length old.forest.entries ≤ j → IsOfNobody old (record { event = Renewed j reply; result = Ok output; state = new })
renewed_nobody old new j None reply output found step count past = absurd step
renewed_nobody old new j (Some r) reply output found step count past =
    let s = noted old r reply in
    let entry = out_entry old.out j Renew r found in
    let past' : length old.tracks ≤ r.entry = omega (arith, entry, past, count) in
    let is : new ≡ replied s r reply = step.1 ∙ ap (λ (t : WatchState). replied t r reply) (renewed_past s r reply past') in
    let l = link (state_renewed s r reply) r reply in
    record {
      forest = ap (λ (t : WatchState). t.forest) is ∙ replied_forest s r reply;
      tracks = λ there. ap (λ (t : WatchState). t.tracks) is ∙ replied_tracks s r reply there;
      notes = notes_of_nobody output.notes l (ap (λ (o : WatchOutput). o.notes) step.0 ∙ ap (λ (e : Option ℕ). with_link (notes_top e) l) (top_past s r reply past'));
    }

pub nobody :
    (old new : WatchState) (event : WatchEvent) (result : Result WatchOutput WatchFault) (i : ℕ) → Turn old event result new → length old.tracks ≡ length old.forest.entries →
    length old.forest.entries ≤ i → is_event_taken result && replies_to i event ≡ true → IsOfNobody old (record { event = event; result = result; state = new })
nobody old new (Looked j reply terms) (Ok output) i turn count past is =
    let same = eqb-true j i is in
    looked_nobody old new j (request_out old.out j Look) reply terms output refl turn.1 count (omega (arith, past, same))
nobody old new (Renewed j reply) (Ok output) i turn count past is =
    let same = eqb-true j i is in
    renewed_nobody old new j (request_out old.out j Renew) reply output refl turn.1 count (omega (arith, past, same))
nobody old new (Clock wall elapsed) (Ok output) i turn count past is = absurd cc
nobody old new (Need j until) (Ok output) i turn count past is = absurd cc
nobody old new Begin (Ok output) i turn count past is = absurd cc
nobody old new (Known j end renewable) (Ok output) i turn count past is = absurd cc
nobody old new event (Err fault) i turn count past is = absurd cc
