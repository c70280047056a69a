-- What counts for each entry is found after those before it.
use Rattle.std.proofs.Common.{◌≡◌, ◌∙◌, ℕ, ◌++◌, ◌∷◌, [], ap, arith, length, map, sym}
use Rattle.std.proofs.lemmas.{List.get_or_default, List.FromFn.map-range_with_len_more}
use Rattle.std.specs.List.{range_with_len}
use Rattle.plan_needs.specs.Carried.{load_at}
use Rattle.watch_machine.specs.{declared.track.Track.Track, State.no_track, State.track_in, code.View.need_by}
use Rattle.watch_machine.proofs.needs.last_needs.Goals as goal

-- what counts for an entry, by what was read of it
need_read : (x y : Track) (cut free n m : ℕ) → x ≡ y → cut ≡ n → free ≡ m → need_by x cut free ≡ need_by y n m
need_read x y cut free n m tracks cuts frees = cc

pub loop-index-preserved : goal.loop-index-preserved
loop-index-preserved c =
    let xs = c.args.tracks.now in
    let k = c.loop-index.index in
    let f : ℕ → ℕ = λ i. need_by (track_in xs i) (load_at c.args.cut.now i).need (load_at c.args.free.now i).need in
    let made : c.need_by-need.result ≡ f k =
    c.need_by-need.ensures ∙ need_read _ (track_in xs k) _ _ _ _ (get_or_default xs k _ no_track (omega arith)) c.need.ensures c.need-in-loop-index.ensures in
    c.in_ok-push.ensures.items ∙ ap (λ ns. ns ++ c.need_by-need.result ∷ []) c.loop-index.invariant ∙ ap (λ n. map f (range_with_len 0 k) ++ n ∷ []) made
    ∙ sym (map-range_with_len_more f 0 k k (omega arith))

pub returns : goal.returns
returns c =
    let xs = c.args.tracks.now in
    let f : ℕ → ℕ = λ i. need_by (track_in xs i) (load_at c.args.cut.now i).need (load_at c.args.free.now i).need in
    let whole : c.loop-index.index ≡ length xs = omega (arith, c.loop-index-test.false, c.loop-index.auto.index-end) in
    c.loop-index.invariant ∙ ap (λ n. map f (range_with_len 0 n)) whole
