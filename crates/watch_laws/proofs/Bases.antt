-- Bases: another forest that is watched keeps what holds of every state, so it holds of each that a run leads to. For the laws over whole runs.
use Rattle.std.proofs.Common.{◌≡◌, ◌∙◌, ℕ, suc, ◌+◌, ◌<◌, ◌≤◌, true, false, ◌==◌, List, [], ◌∷◌, Option, Some, None, Result, is_none, length, refl, sym, ap, subst, arith, inl, inr, true≢false}
use Rattle.std.proofs.lemmas.{Bool.cases_lt, List.Elements.All-cons, List.Elements.All-nil, List.Sums.length-filter}
use Rattle.std.specs.List.{All, list_any}
use Rattle.watch_machine.specs.{declared.change.Was.Was, declared.command.WatchOutput.WatchOutput, declared.event.WatchEvent.WatchEvent, declared.fault.WatchFault.WatchFault, declared.lanes.Out.Out, declared.track.Track.Track}
use Rattle.watch_machine.specs.{Beginning.owing_lookup, Beginning.untopped_track, Lines.rested}
use Rattle.watch_machine.specs.Change.{former_at, index_or, out_after, place_now}
use Rattle.watch_machine.specs.History.{Changed, History, IsChanged, IsReached, Turn, Turned}
use Rattle.watch_machine.specs.State.{WatchState, fresh_track, track_at}
use Rattle.watch_machine.proofs.Changing.{all_after, out_length}
use Rattle.watch_machine.proofs.Moved.{former_low, place_said, times_moved, times_new, times_nobody}
use Rattle.watch_laws.proofs.{Lanes.is_of, Marked.AllMarked, Marked.any_time, Reached.reached_has, Retrying.IsPast, Shapes.turn_shape, Width.Fits}
use Rattle.watch_laws.proofs.Alone.{IsAlone, flag, lanes_of}
use Rattle.watch_laws.proofs.Following.{any_over, changed_entries, changed_out, changed_tracks, each_over, kept_over, new_over, owed_is, past_over, place_over}
use Rattle.watch_laws.proofs.Grounds.{IsBase, opened_base, turn_base}
use Rattle.watch_laws.proofs.Owed.{AllTry, Tries, none_tries}

-- an entry that owes a lookup is out as it was, and was last asked as it was
pub owing_out : (at : ℕ) (x : Track) → (owing_lookup at x).out ≡ x.out
owing_out at x = owed_is (λ (y : Track). y.out ≡ x.out) at x (λ out. refl) (λ free. refl)

pub owing_last : (at : ℕ) (x : Track) → (owing_lookup at x).last ≡ x.last
owing_last at x = owed_is (λ (y : Track). y.last ≡ x.last) at x (λ out. refl) (λ free. refl)

owing_tries : (at : ℕ) (x : Track) → (x.out ≡ true → Tries x) → Tries (owing_lookup at x)
owing_tries at x h = owed_is Tries at x (λ out. record { owed = λ o. (h out).out out; out = (h out).out }) (λ free. record { owed = λ o. refl; out = λ o. refl })

-- no index is higher than by the number of requests
all_below : (many bound : ℕ) (was : List Was) → ((i j : ℕ) → former_at was j ≡ Some i → j < many) → many ≤ bound → (n : ℕ) (out : List Out) → n + length out ≤ bound → All (λ (q : Out). q.entry < bound) (out_after was n out)
all_below many bound was low le n [] few = All-nil (λ (q : Out). q.entry < bound)
all_below many bound was low le n (r ∷ rest) few =
    All-cons (λ (q : Out). q.entry < bound) _ (out_after was (suc n) rest) (by (place_now was r.entry) refl) (all_below many bound was low le (suc n) rest (omega (arith, few))) where
      by : (o : Option ℕ) → place_now was r.entry ≡ o → index_or n o < bound
      by None place = omega (arith, few)
      by (Some k) place = let l = low r.entry k (place_said was r.entry k place) in omega (arith, l, le)

module _ (old : WatchState) (c : Changed) (h : IsChanged old c) where
  many : ℕ
  many = length c.forest.entries

  pub kept_flag : (i j : ℕ) → former_at c.was j ≡ Some i → (track_at c.state j).out ≡ (track_at old i).out
  kept_flag i j said = kept_over old c h (λ (y x : Track). y.out ≡ x.out) (λ x. refl) (λ x. owing_out old.clocks.at (untopped_track x)) i j said

  pub new_free : (j : ℕ) → former_at c.was j ≡ None → (track_at c.state j).out ≡ false
  new_free j said =
      elim (cases_lt j (length c.forest.entries)) as (λ _. (track_at c.state j).out ≡ false) [
        | inl within ↦ new_over old c h (λ (y : Track). y.out ≡ false) (λ e. refl) j within said
        | inr past ↦ ap (λ (y : Track). y.out) (past_over old c h j past)
      ]

  lanes_is : (j : ℕ) → lanes_of j c.state.out ≡ lanes_of j (out_after c.was (length c.forest.entries) old.out)
  lanes_is j = ap (lanes_of j) (changed_out old c h)

  pub lanes_kept : (i j : ℕ) → former_at c.was j ≡ Some i → lanes_of j c.state.out ≡ lanes_of i old.out
  lanes_kept i j said =
      lanes_is j ∙ length-filter (λ (q : Out). q.entry == j) (out_after c.was (length c.forest.entries) old.out)
      ∙ times_moved (length c.forest.entries) (length c.forest.entries) c.was i j old.out (omega arith) (former_low (length old.forest.entries) c.forest c.was h.may i j said) said (place_over old c h i j said)
      ∙ sym (length-filter (λ (q : Out). q.entry == i) old.out)

  pub lanes_new : (j : ℕ) → j < length c.forest.entries → former_at c.was j ≡ None → lanes_of j c.state.out ≡ 0
  lanes_new j within said =
      lanes_is j ∙ length-filter (λ (q : Out). q.entry == j) (out_after c.was (length c.forest.entries) old.out)
      ∙ times_new (length c.forest.entries) (length c.forest.entries) c.was j old.out (omega arith) within said

  lanes_nobody : (j : ℕ) → length c.forest.entries ≤ j → lanes_of j c.state.out ≤ 1
  lanes_nobody j past =
      let is = lanes_is j ∙ length-filter (λ (q : Out). q.entry == j) (out_after c.was (length c.forest.entries) old.out) in
      let few = times_nobody (length c.forest.entries) c.was (former_low (length old.forest.entries) c.forest c.was h.may) (length c.forest.entries) j old.out past in
      omega (arith, is, few)

  pub changed_alone : length old.tracks ≡ length old.forest.entries → IsAlone old → IsAlone c.state
  changed_alone count alone = record {
    once = λ j low. once_of j (let n = changed_tracks old c h in omega (arith, n, low)) (former_at c.was j) refl;
    single = λ j. elim (cases_lt j (length c.forest.entries)) as (λ _. lanes_of j c.state.out ≤ 1) [ inl within ↦ single_of j within (former_at c.was j) refl | inr past ↦ lanes_nobody j past ];
  } where
    once_of : (j : ℕ) → j < length c.forest.entries → (o : Option ℕ) → former_at c.was j ≡ o → lanes_of j c.state.out ≤ flag (track_at c.state j).out
    once_of j within None said = let none = lanes_new j within said in omega (arith, none)
    once_of j within (Some i) said =
        let same = lanes_kept i j said in
        let mark = ap flag (kept_flag i j said) in
        let there = h.may.within i j said in
        let before = alone.once i (omega (arith, there, count)) in
        omega (arith, same, mark, before)

    single_of : (j : ℕ) → j < length c.forest.entries → (o : Option ℕ) → former_at c.was j ≡ o → lanes_of j c.state.out ≤ 1
    single_of j within None said = let none = lanes_new j within said in omega (arith, none)
    single_of j within (Some i) said = let same = lanes_kept i j said in let before = alone.single i in omega (arith, same, before)

  pub changed_tries : AllTry old → AllTry c.state
  changed_tries all j =
      each_over old c h Tries none_tries (λ e. owing_tries old.clocks.at (fresh_track e) (λ out. absurd cc))
      (λ x tries. owing_tries old.clocks.at (untopped_track x) (λ out. record { owed = tries.owed; out = tries.out })) all j

  pub changed_past : IsPast old → IsPast c.state
  changed_past past = record {
    start = λ none. ap (λ (s : WatchState). s.clocks.at) h.state ∙ past.start (sym (ap (λ (s : WatchState). is_none s.begun) h.state) ∙ none);
    hold = λ there. ap (λ (s : WatchState). s.presence.hold) h.state ∙ past.hold (sym (ap (λ (s : WatchState). s.presence.away) h.state) ∙ there);
    last = λ j.
        let clock = ap (λ (s : WatchState). s.clocks.at) h.state in
        let low = each_over old c h (λ (y : Track). rested y.last ≤ old.clocks.at + 1000) (omega arith) (λ e. omega arith)
        (λ x low'. (let e = ap rested (owing_last old.clocks.at (untopped_track x)) in omega (arith, e, low'))) past.last j in
        omega (arith, clock, low);
  }

  pub changed_marked : AllMarked old → AllMarked c.state
  changed_marked all j out = by (former_at c.was j) refl where
    by : (o : Option ℕ) → former_at c.was j ≡ o → list_any (is_of j any_time) c.state.out ≡ true
    by None said = absurd (true≢false (sym out ∙ new_free j said))
    by (Some i) said = any_over old c h i j any_time said ∙ all i (sym (kept_flag i j said) ∙ out)

  pub changed_since : All (λ (q : Out). q.since ≤ old.clocks.at) old.out → All (λ (q : Out). q.since ≤ c.state.clocks.at) c.state.out
  changed_since all =
      let clock = ap (λ (s : WatchState). s.clocks.at) h.state in
      subst (All (λ (q : Out). q.since ≤ c.state.clocks.at)) (sym (changed_out old c h))
      (subst (λ n. All (λ (q : Out). q.since ≤ n) (out_after c.was (length c.forest.entries) old.out)) (sym clock)
      (all_after c.was (λ (q : Out). q.since ≤ old.clocks.at) (λ k r le. le) (length c.forest.entries) old.out all))

  pub changed_fits : (width : ℕ) → Fits width old → Fits width c.state
  changed_fits width fits =
      let same = ap length (changed_out old c h) ∙ out_length c.was (length c.forest.entries) old.out in
      let few = fits.1 in
      (ap (λ (s : WatchState). s.width) h.state ∙ fits.0, omega (arith, same, few))

  pub changed_base : (width n : ℕ) → length old.forest.entries ≡ n → IsBase width n old → IsBase width (length c.forest.entries) c.state
  changed_base width n entries base =
      let count = base.count in
      let few = base.fits.1 in
      record {
        fits = changed_fits width base.fits;
        alone = changed_alone (omega (arith, count, entries)) base.alone;
        tries = changed_tries base.tries;
        count = changed_tracks old c h;
        past = changed_past base.past;
        within =
            subst (All (λ (q : Out). q.entry < length c.forest.entries + width)) (sym (changed_out old c h))
            (all_below (length c.forest.entries) (length c.forest.entries + width) c.was (former_low (length old.forest.entries) c.forest c.was h.may) (omega arith) (length c.forest.entries) old.out (omega (arith, few)));
        since = changed_since base.since;
        marked = changed_marked base.marked;
      }

-- ---- of a state that a run leads to

abbrev pub Based : WatchState → Type 0
Based s = IsBase s.width (length s.forest.entries) s

pub turn_based : (old new : WatchState) (event : WatchEvent) (result : Result WatchOutput WatchFault) → Turn old event result new → Based old → Based new
turn_based old new event result turn base =
    let next = turn_base old.width (length old.forest.entries) old new event result turn base in
    subst (λ n. IsBase new.width n new) (sym (turn_shape old new event result turn).0) (subst (λ w. IsBase w (length old.forest.entries) new) (sym next.fits.0) next)

pub changed_based : (old : WatchState) (c : Changed) → IsChanged old c → Based old → Based c.state
changed_based old c h base =
    let next = changed_base old c h old.width (length old.forest.entries) refl base in
    subst (λ n. IsBase c.state.width n c.state) (sym (changed_entries old c h)) (subst (λ w. IsBase w (length c.forest.entries) c.state) (sym next.fits.0) next)

pub reached_base : (s : WatchState) → IsReached s → Based s
reached_base s r = reached_has Based turn_based changed_based (λ g width. opened_base g width) s r

-- and of one after a turn more
pub next_base : (old : WatchState) (turn : Turned) (turns : List Turned) → IsReached old → History old (turn ∷ turns) → IsBase old.width (length old.forest.entries) turn.state
next_base old turn turns reached history = turn_base old.width (length old.forest.entries) old turn.state turn.event turn.result history.0 (reached_base old reached)

pub last_base : (old : WatchState) (turn : Turned) (turns : List Turned) → IsReached old → History old (turn ∷ turns) → IsBase old.width (length turn.state.forest.entries) turn.state
last_base old turn turns reached history =
    subst (λ n. IsBase old.width n turn.state) (sym (turn_shape old turn.state turn.event turn.result history.0).0) (next_base old turn turns reached history)
