-- One more among those that are out: for `place_for` and `put`.
use Rattle.std.proofs.Common.{◌≡◌, ℕ, ◌≤◌, ◌++◌, List, [], ◌∷◌, take, drop, sym, ap, ◌∙◌, All, Option, take-append-drop}
use Rattle.std.proofs.lemmas.{List.map-append, List.Elements.All-map}
use Rattle.vault_lanes.specs.{Seats.out_of_seat, Seats.outs, declared.coming.Coming.Coming, declared.seats.Seat.Seat}
use Rattle.vault_lanes.specs.Out.{IsBelow, Out, OutIsPut}

module _ {T : Type 0} where
  -- the indices are the same whatever is known of what comes
  below_known : (comes other : T → Option Coming) (index : ℕ) (seats : List (Seat T)) → IsBelow index (outs comes seats) → IsBelow index (outs other seats)
  below_known comes other index [] h = h
  below_known comes other index (s ∷ ss) h = h

  pub is_put : (comes other : T → Option Coming) (old new : List (Seat T)) (s : Seat T) (place : ℕ) → All (λ x. x.index ≤ s.index) (take place old) → IsBelow s.index (outs other (drop place old))
      → new ≡ take place old ++ s ∷ drop place old → OutIsPut (out_of_seat comes s) (outs comes old) (outs comes new)
  is_put comes other old new s place lower higher is = record {
    before = outs comes (take place old);
    behind = outs comes (drop place old);
    old_is = ap (outs comes) (sym (take-append-drop place old)) ∙ map-append (out_of_seat comes) (take place old) (drop place old);
    new_is = ap (outs comes) is ∙ map-append (out_of_seat comes) (take place old) (s ∷ drop place old);
    lower = All-map (λ (x : Out). x.index ≤ s.index) (out_of_seat comes) (take place old) lower;
    higher = below_known other comes s.index (drop place old) higher;
  }
