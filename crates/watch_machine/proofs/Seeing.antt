-- Seeing: what is seen of entries, and what counts for them, depends on their believed ends, on which of them are renewable, and on which are at
-- their top and have their last try. For the steps of a clock that write none of these.
use Rattle.std.proofs.Common.{◌≡◌, ◌∙◌, ℕ, ◌<◌, ◌≤◌, if◌then◌else◌, List, filter, length, map, sym, ap, ap₂, arith, inl, inr}
use Rattle.std.proofs.Math.Path.{fun_ext}
use Rattle.std.proofs.lemmas.{Bool.cases_lt, List.ext_get_or, List.get_or_past, List.FromFn.get_or-map-range_with_len, List.FromFn.length-map-range_with_len}
use Rattle.std.specs.List.{range_with_len}
use Rattle.plan_needs.specs.Carried.{CarriedNeed, IsCarried, load_at}
use Rattle.plan_forest.specs.{declared.entry.Entry.Entry, declared.forest.TheConstants.END_MAX, Carried.carried, Forest.Forest, Over.chain}
use Rattle.watch_machine.specs.{declared.clocks.Clocks.Clocks, declared.track.Track.Track, Clocks.sec, code.View.Loads, code.View.Sees}
use Rattle.watch_machine.specs.State.{each, has_last_try, no_track, track_in}
use Rattle.watch_machine.specs.Wanted.{believed, cut_need, free_need, is_fixed, least, least_over, limit, need_of, seen_entry, view}
use Rattle.watch_machine.proofs.Written.{each_length}

-- what of a track is seen
abbrev pub sight : Track → Track
sight x = record no_track { end = x.end; renewable = x.renewable; top = x.top; last_try = x.last_try }

-- tracks of which the same is seen
pub record SameSeen (new old : List Track) : Type 0 where
  pub tracks : (i : ℕ) → sight (track_in new i) ≡ sight (track_in old i)

module _ (new old : List Track) (h : SameSeen new old) (es : List Entry) (c : Clocks) where
  believed_same : (i : ℕ) → believed (track_in new i).end ≡ believed (track_in old i).end
  believed_same i = ap (λ (x : Track). believed x.end) (h.tracks i)

  fixed_same : (i : ℕ) → is_fixed (track_in new i) ≡ is_fixed (track_in old i)
  fixed_same i = ap is_fixed (h.tracks i)

  limit_same : (i : ℕ) → limit es new i ≡ limit es old i
  unfolding least_over
  limit_same i =
      ap (λ (f : ℕ → ℕ). least END_MAX (map f (filter (λ a. is_fixed (track_in new a)) (chain es i)))) (fun_ext believed_same)
      ∙ ap (λ p. least END_MAX (map (λ a. believed (track_in old a).end) (filter p (chain es i)))) (fun_ext fixed_same)

  seen_same : (i : ℕ) → seen_entry es new c i ≡ seen_entry es old c i
  unfolding seen_entry
  seen_same i =
      let b = believed_same i in
      let r = ap (λ (x : Track). x.renewable) (h.tracks i) in
      let l = limit_same i in
      cc

  pub view_same : view es new c ≡ view es old c
  view_same = ap (λ (f : ℕ → Entry). map f (range_with_len 0 (length es))) (fun_ext seen_same)

  pub cut_same : (i : ℕ) → cut_need es new c i ≡ cut_need es old c i
  unfolding cut_need
  cut_same i = ap (λ vs. carried vs (sec c.at) i) view_same

  pub need_same : (i : ℕ) → need_of es new c i ≡ need_of es old c i
  unfolding need_of
  need_same i = ap₂ (λ b n. if b then free_need es c i else n) (ap has_last_try (h.tracks i)) (cut_same i)

  pub sees_same : (v g : Forest) (loads : Loads) → g.entries ≡ es → Sees v g old c loads → Sees v g new c loads
  sees_same v g loads = λ entries sees. record {
    seen = sees.seen ∙ ap (λ fs. view fs old c) entries ∙ sym view_same ∙ ap (λ fs. view fs new c) (sym entries);
    cut = sees.cut;
    needs = λ i within. sees.needs i within ∙ ap (λ fs. need_of fs old c i) entries ∙ sym (need_same i) ∙ ap (λ fs. need_of fs new c i) (sym entries);
  }

-- what is read of tracks that are made anew
pub each_read : (f : ℕ → Track → Track) (xs : List Track) (i : ℕ) → i < length xs → track_in (each f xs) i ≡ f i (track_in xs i)
unfolding each
each_read f xs i within = get_or-map-range_with_len (λ j. f j (track_in xs j)) 0 (length xs) i i no_track within (omega arith)

pub each_past : (f : ℕ → Track → Track) (xs : List Track) (i : ℕ) → length xs ≤ i → track_in (each f xs) i ≡ no_track
each_past f xs i past = let count = each_length f xs in get_or_past (each f xs) i no_track (omega (arith, count, past))

-- and of such that write nothing of what is seen
pub each_seen : (f : ℕ → Track → Track) (xs : List Track) → ((i : ℕ) (x : Track) → sight (f i x) ≡ sight x) → SameSeen (each f xs) xs
each_seen f xs same = record {
  tracks = λ i. elim (cases_lt i (length xs)) [
    | inl within ↦ ap sight (each_read f xs i within) ∙ same i (track_in xs i)
    | inr past ↦ ap sight (each_past f xs i past ∙ sym (get_or_past xs i no_track past))
  ];
}

pub both_seen : (new mid old : List Track) → SameSeen new mid → SameSeen mid old → SameSeen new old
both_seen new mid old h k = record { tracks = λ i. h.tracks i ∙ k.tracks i }

-- nothing is made anew
pub each_id : (f : ℕ → Track → Track) (xs : List Track) → ((i : ℕ) (x : Track) → f i x ≡ x) → each f xs ≡ xs
each_id f xs same = ext_get_or no_track (each f xs) xs (each_length f xs) (λ i below. let count = each_length f xs in each_read f xs i (omega (arith, count, below)) ∙ same i (track_in xs i))

-- what a view of tracks carries are the needs that are cut to limits
pub has_cut :
    (v g : Forest) (xs : List Track) (c : Clocks) (cut : List CarriedNeed) → v.entries ≡ view g.entries xs c → IsCarried v (sec c.at) cut →
    (i : ℕ) → i < length g.entries → (load_at cut i).need ≡ cut_need g.entries xs c i
unfolding cut_need
has_cut v g xs c cut seen carries i below =
    let count : length v.entries ≡ length g.entries = ap length seen ∙ length-map-range_with_len (seen_entry g.entries xs c) 0 (length g.entries) in
    carries.need i (omega (arith, count, below)) ∙ ap (λ es. carried es (sec c.at) i) seen
