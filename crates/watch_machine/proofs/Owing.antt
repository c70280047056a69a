-- Owing: by the loads that the entries carry, those are called who are called by the definition; and so with who is pressed. For the steps 3
-- and 4 of a clock.
use Rattle.std.proofs.Common.{◌≡◌, ◌∙◌, ℕ, ◌<◌, Bool, List, [], length, refl, sym, ap, ap₂, subst}
use Rattle.plan_needs.specs.Carried.{CarriedNeed, IsCarried, load_at}
use Rattle.plan_forest.specs.Forest.{Forest, entry_at}
use Rattle.watch_machine.specs.{declared.clocks.Clocks.Clocks, declared.track.Track.Track, State.each, State.track_in, Wanted.cut_need, Wanted.need_of}
use Rattle.watch_machine.specs.Beginning.{called_by, is_called, owing, owing_all}
use Rattle.watch_machine.specs.Press.{pressed_alone, pressed_track, pressed_tracks, track_asked_in}
use Rattle.watch_machine.specs.code.View.{HasNeeds, Loads, Sees, need_at}
use Rattle.watch_machine.proofs.{Unseen.owing_seen, Written.each_same}
use Rattle.watch_machine.proofs.Seeing.{each_id, has_cut, sees_same}

module _ (g : Forest) (xs : List Track) (c : Clocks) (loads : Loads) (beside : length xs ≡ length g.entries) where
  owes_same :
      (first : Bool) (written : List CarriedNeed) → ((i : ℕ) → i < length g.entries → (load_at loads.cut i).need ≡ cut_need g.entries xs c i) → IsCarried g 0 written →
      each (λ i. owing c.at first (called_by c.dated (load_at loads.cut i).need (load_at written i).need)) xs ≡ owing_all g c first xs
  owes_same first written has wrote =
      each_same (λ i. owing c.at first (called_by c.dated (load_at loads.cut i).need (load_at written i).need)) (λ i. owing c.at first (is_called g xs c i)) xs
      (λ i below.
      let within : i < length g.entries = subst (λ n. i < n) beside below in
      ap₂ (λ n w. owing c.at first (called_by c.dated n w) (track_in xs i)) (has i within) (wrote.need i within))

  -- the tracks of a beginning, and what is carried after it
  pub owed_are :
      (first : Bool) (v : Forest) (written : List CarriedNeed) (new : List Track) → Sees v g xs c loads → IsCarried g 0 written →
      new ≡ each (λ i. owing c.at first (called_by c.dated (load_at loads.cut i).need (load_at written i).need)) xs → new ≡ owing_all g c first xs
  owed_are first v written new sees wrote is = is ∙ owes_same first written (has_cut v g xs c loads.cut sees.seen sees.cut) wrote

  pub owed_sees : (first : Bool) (v : Forest) (new : List Track) → Sees v g xs c loads → new ≡ owing_all g c first xs → Sees v g new c loads
  owed_sees first v new sees is = subst (λ ys. Sees v g ys c loads) (sym is) (sees_same (owing_all g c first xs) xs (owing_seen g c first xs) g.entries c v g loads refl sees)

  -- those who are pressed by the loads
  pub pressed_are :
      HasNeeds g.entries xs c loads → each (λ i. pressed_track g.margin (entry_at g.entries i) (need_at loads i) c.at) xs ≡ pressed_alone g c xs
  pressed_are has =
      each_same (λ i. pressed_track g.margin (entry_at g.entries i) (need_at loads i) c.at)
      (λ i. pressed_track g.margin (entry_at g.entries i) (need_of g.entries xs c i) c.at) xs
      (λ i below. ap (λ n. pressed_track g.margin (entry_at g.entries i) n c.at (track_in xs i)) (has i (subst (λ n. i < n) beside below)))

-- where no round opens nobody is asked by one
pub none_asked : (g : Forest) (c : Clocks) (xs : List Track) → pressed_tracks g c [] xs ≡ pressed_alone g c xs
none_asked g c xs = each_id (track_asked_in c.at []) (pressed_alone g c xs) (λ i x. refl)
