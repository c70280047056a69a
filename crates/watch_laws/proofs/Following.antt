-- Following: what is known of an entry after a change, by what was known of it, and which requests are out of it. For the laws over whole runs.
use Rattle.std.proofs.Common.{◌≡◌, ◌∙◌, ℕ, suc, ◌<◌, ◌≤◌, Bool, true, false, cond, ◌&&◌, ◌||◌, ◌==◌, List, [], ◌∷◌, Option, Some, None, Result, filter, length, refl, sym, ap, subst, arith, inl, inr}
use Rattle.std.proofs.lemmas.{Bool.cases_lt, Bool.eqb-true, List.get_or_past, List.length-map, List.FromFn.length-map-range_with_len, Bool.Decides.nat_tests}
use Rattle.std.proofs.lemmas.List.Elements.{All-cons, All-head, All-nil, All-tail}
use Rattle.std.specs.List.{All, list_any}
use Rattle.plan_forest.specs.{declared.entry.Entry.Entry, Forest.Forest, Forest.entry_at}
use Rattle.watch_machine.specs.{declared.change.Was.Was, declared.lanes.Out.Out, declared.track.Track.Track, declared.command.WatchOutput.WatchOutput, declared.event.WatchEvent.WatchEvent, declared.fault.WatchFault.WatchFault}
use Rattle.watch_machine.specs.declared.change.Was.TheVariants.{New, Same, Retold}
use Rattle.watch_machine.specs.Beginning.{owing_lookup, soon, sooner_try, untopped_track}
use Rattle.watch_machine.specs.Change.{entry_by, forest_after, former, former_at, index_or, moved_out, out_after, place_now, track_by, tracks_after, was_at}
use Rattle.watch_machine.specs.History.{Changed, Hands, IsChanged, IsReached, Turn, Turned, stood_at_some}
use Rattle.watch_machine.specs.State.{WatchState, fresh_track, no_track, opened, track_at}
use Rattle.watch_machine.proofs.Cases.{if_cases, not_both, value_is}
use Rattle.watch_machine.proofs.Moved.{index_new, index_same, place_there}
use Rattle.watch_laws.proofs.{Changing.its_track, Changing.low, Lanes.is_of, Reached.reached_has, Shapes.turn_shape, Topping.turn_count}

-- an entry that owes a lookup: it is out, or has a try
pub owed_is :
    (P : Track → Type 0) (at : ℕ) (x : Track) → (x.out ≡ true → P (record x { owes = true })) → (x.out ≡ false → P (record x { owes = true; attempt = Some (sooner_try (soon at x) x.attempt) })) →
    P (owing_lookup at x)
owed_is P at x out free = if_cases P x.out (record x { owes = true }) (record x { owes = true; attempt = Some (sooner_try (soon at x) x.attempt) }) out free

module _ (old : WatchState) (c : Changed) (h : IsChanged old c) where
  -- there are as many entries as are told of, and as many tracks
  pub changed_tracks : length c.state.tracks ≡ length c.forest.entries
  unfolding tracks_after
  changed_tracks =
      ap (λ (s : WatchState). length s.tracks) h.state
      ∙ length-map-range_with_len (λ j. track_by old.clocks.at old.tracks (entry_at c.forest.entries j) (was_at c.was j)) 0 (length c.forest.entries)

  pub changed_entries : length c.state.forest.entries ≡ length c.forest.entries
  unfolding forest_after
  changed_entries =
      ap (λ (s : WatchState). length s.forest.entries) h.state
      ∙ length-map-range_with_len (λ j. entry_by c.forest.margin old.forest.entries (entry_at c.forest.entries j) (was_at c.was j)) 0 (length c.forest.entries)

  pub changed_out : c.state.out ≡ out_after c.was (length c.forest.entries) old.out
  changed_out = ap (λ (s : WatchState). s.out) h.state

  -- what holds between the track of an entry that was and the same, and between it and one that is told anew, holds over a change
  pub kept_over : (R : Track → Track → Type 0) → ((x : Track) → R x x) → ((x : Track) → R (owing_lookup old.clocks.at (untopped_track x)) x) → (i j : ℕ) → former_at c.was j ≡ Some i → R (track_at c.state j) (track_at old i)
  kept_over R same retold i j said = subst (λ y. R y (track_at old i)) (sym (its_track old c h j (low old c h i j said))) (by (was_at c.was j) said) where
    by : (w : Was) → former w ≡ Some i → R (track_by old.clocks.at old.tracks (entry_at c.forest.entries j) w) (track_at old i)
    by New is = absurd cc
    by (Same k) is = subst (λ m. R (track_at old k) (track_at old m)) (value_is k i is) (same (track_at old k))
    by (Retold k) is = subst (λ m. R (owing_lookup old.clocks.at (untopped_track (track_at old k))) (track_at old m)) (value_is k i is) (retold (track_at old k))

  -- and one that was not
  pub new_over : (P : Track → Type 0) → ((e : Entry) → P (owing_lookup old.clocks.at (fresh_track e))) → (j : ℕ) → j < length c.forest.entries → former_at c.was j ≡ None → P (track_at c.state j)
  new_over P new j within said = subst P (sym (its_track old c h j within)) (by (was_at c.was j) said) where
    by : (w : Was) → former w ≡ None → P (track_by old.clocks.at old.tracks (entry_at c.forest.entries j) w)
    by New is = new (entry_at c.forest.entries j)
    by (Same k) is = absurd cc
    by (Retold k) is = absurd cc

  pub past_over : (j : ℕ) → length c.forest.entries ≤ j → track_at c.state j ≡ no_track
  past_over j past = get_or_past c.state.tracks j no_track (let count = changed_tracks in omega (arith, count, past))

  -- so of each index
  pub each_over :
      (P : Track → Type 0) → P no_track → ((e : Entry) → P (owing_lookup old.clocks.at (fresh_track e))) → ((x : Track) → P x → P (owing_lookup old.clocks.at (untopped_track x))) → ((i : ℕ) → P (track_at old i)) →
      (j : ℕ) → P (track_at c.state j)
  each_over P none new retold all j =
      elim (cases_lt j (length c.forest.entries)) as (λ _. P (track_at c.state j)) [
        | inr past ↦ subst P (sym (past_over j past)) none
        | inl within ↦ by (former_at c.was j) refl within
      ] where
        by : (o : Option ℕ) → former_at c.was j ≡ o → j < length c.forest.entries → P (track_at c.state j)
        by None said within = new_over P new j within said
        by (Some i) said within = kept_over (λ y x. P x → P y) (λ x p. p) (λ x p. retold x p) i j said (all i)

  pub place_over : (i j : ℕ) → former_at c.was j ≡ Some i → place_now c.was i ≡ Some j
  place_over i j said = place_there c.was i j said (λ k other. h.may.once i j k said other)

-- the requests that are out of an entry are as they were
any_moved :
    (n many : ℕ) (was : List Was) (i j : ℕ) (test : ℕ → Bool) (out : List Out) → many ≤ n → j < many → former_at was j ≡ Some i → place_now was i ≡ Some j →
    list_any (is_of j test) (out_after was n out) ≡ list_any (is_of i test) out
any_moved n many was i j test [] le low' said there = refl
any_moved n many was i j test (r ∷ rest) le low' said there =
    ap (λ b. (b && test r.since) || list_any (is_of j test) (out_after was (suc n) rest)) (index_same n many was i j r.entry le low' said there)
    ∙ ap (λ b. (r.entry == i && test r.since) || b) (any_moved (suc n) many was i j test rest (omega (arith, le)) low' said there)

pub any_over : (old : WatchState) (c : Changed) (h : IsChanged old c) (i j : ℕ) (test : ℕ → Bool) → former_at c.was j ≡ Some i → list_any (is_of j test) c.state.out ≡ list_any (is_of i test) old.out
any_over old c h i j test said =
    ap (list_any (is_of j test)) (changed_out old c h)
    ∙ any_moved (length c.forest.entries) (length c.forest.entries) c.was i j test old.out (omega arith) (low old c h i j said) said (place_over old c h i j said)

-- and what holds of each of them holds of them where the entry is now
module _ (Q : Out → Type 0) (moves : (r : Out) (m : ℕ) → Q r → Q (record r { entry = m })) where
  named_moved :
      (n many : ℕ) (was : List Was) (i j : ℕ) (out : List Out) → many ≤ n → j < many → former_at was j ≡ Some i → place_now was i ≡ Some j → All (λ (q : Out). q.entry ≡ i → Q q) out →
      All (λ (q : Out). q.entry ≡ j → Q q) (out_after was n out)
  named_moved n many was i j [] le low' said there all = All-nil (λ (q : Out). q.entry ≡ j → Q q)
  named_moved n many was i j (r ∷ rest) le low' said there all =
      let k = index_or n (place_now was r.entry) in
      All-cons (λ (q : Out). q.entry ≡ j → Q q) (moved_out was n r) (out_after was (suc n) rest)
      (λ is. moves r k (All-head (λ (q : Out). q.entry ≡ i → Q q) r rest all (eqb-true r.entry i (sym (index_same n many was i j r.entry le low' said there) ∙ same_number k j is))))
      (named_moved (suc n) many was i j rest (omega (arith, le)) low' said there (All-tail (λ (q : Out). q.entry ≡ i → Q q) r rest all)) where
        same_number : (a b : ℕ) → a ≡ b → (a == b) ≡ true
        same_number a b e = grind (arith, nat_tests)

  pub named_over : (old : WatchState) (c : Changed) (h : IsChanged old c) (i j : ℕ) → former_at c.was j ≡ Some i → All (λ (q : Out). q.entry ≡ i → Q q) old.out → All (λ (q : Out). q.entry ≡ j → Q q) c.state.out
  named_over old c h i j said all =
      subst (All (λ (q : Out). q.entry ≡ j → Q q)) (sym (changed_out old c h))
      (named_moved (length c.forest.entries) (length c.forest.entries) c.was i j old.out (omega arith) (low old c h i j said) said (place_over old c h i j said) all)

-- none is out of one that is new
named_none : (Q : Out → Type 0) (n many : ℕ) (was : List Was) (j : ℕ) (out : List Out) → many ≤ n → j < many → former_at was j ≡ None → All (λ (q : Out). q.entry ≡ j → Q q) (out_after was n out)
named_none Q n many was j [] le low' said = All-nil (λ (q : Out). q.entry ≡ j → Q q)
named_none Q n many was j (r ∷ rest) le low' said =
    All-cons (λ (q : Out). q.entry ≡ j → Q q) (moved_out was n r) (out_after was (suc n) rest)
    (λ is. absurd (not_both (same_number (index_or n (place_now was r.entry)) j is) (index_new n many was j r.entry le low' said))) (named_none Q (suc n) many was j rest (omega (arith, le)) low' said) where
      same_number : (a b : ℕ) → a ≡ b → (a == b) ≡ true
      same_number a b e = grind (arith, nat_tests)

pub named_new : (Q : Out → Type 0) (old : WatchState) (c : Changed) (h : IsChanged old c) (j : ℕ) → j < length c.forest.entries → former_at c.was j ≡ None → All (λ (q : Out). q.entry ≡ j → Q q) c.state.out
named_new Q old c h j within said =
    subst (All (λ (q : Out). q.entry ≡ j → Q q)) (sym (changed_out old c h)) (named_none Q (length c.forest.entries) (length c.forest.entries) c.was j old.out (omega arith) within said)

-- as many are out as before that pass a test that does not look at the entry
pub filter_after : (test : Out → Bool) → ((r : Out) (k : ℕ) → test (record r { entry = k }) ≡ test r) → (was : List Was) (m : ℕ) (out : List Out) → length (filter test (out_after was m out)) ≡ length (filter test out)
filter_after test same was m [] = refl
filter_after test same was m (r ∷ rest) =
    let x = moved_out was m r in
    ap (λ b. length (cond b (x ∷ filter test (out_after was (suc m) rest)) (filter test (out_after was (suc m) rest)))) (same r x.entry) ∙ by (test r) (filter_after test same was (suc m) rest) where
      by : (b : Bool) → length (filter test (out_after was (suc m) rest)) ≡ length (filter test rest) →
          length (cond b (moved_out was m r ∷ filter test (out_after was (suc m) rest)) (filter test (out_after was (suc m) rest))) ≡ length (cond b (r ∷ filter test rest) (filter test rest))
      by true h = ap (λ n. suc n) h
      by false h = h

-- ---- where an entry stood

-- no turn moves it
pub stays_there : (turn : Turned) (e : Option ℕ) → stood_at_some (Hands turn) e ≡ e
stays_there turn None = refl
stays_there turn (Some i) = refl

-- there are as many tracks as entries, in every state of a run
abbrev pub IsCounted : WatchState → Type 0
IsCounted s = length s.tracks ≡ length s.forest.entries

pub turn_counted : (old new : WatchState) (event : WatchEvent) (result : Result WatchOutput WatchFault) → Turn old event result new → IsCounted old → IsCounted new
turn_counted old new event result turn count = turn_count old new event result turn ∙ count ∙ sym (turn_shape old new event result turn).0

pub changed_counted : (old : WatchState) (c : Changed) → IsChanged old c → IsCounted c.state
changed_counted old c h = changed_tracks old c h ∙ sym (changed_entries old c h)

pub opened_counted : (g : Forest) (width : ℕ) → IsCounted (opened g width)
opened_counted g width = length-map g.entries fresh_track

pub reached_counted : (s : WatchState) → IsReached s → IsCounted s
reached_counted s r = reached_has IsCounted turn_counted (λ old c h count. changed_counted old c h) opened_counted s r
