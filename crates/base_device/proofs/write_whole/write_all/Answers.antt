-- The piece that was taken follows on what was written before.
use Rattle.std.proofs.Common.{◌≡◌, ℕ, ◌+◌, ◌-◌, List, length, take, drop, arith, Option, subst, sym, ap, ◌∙◌}
use Rattle.std.proofs.lemmas.{List.take_rest, Grind.common_steps}
use Rattle.std.proofs.{Math.Seq.take-add, KnownBytes.Appends-trans}
use Rattle.std.specs.Io.KnownBytes.{Appends}
use Rattle.base_device.proofs.write_whole.write_all.Goals as goal

next_piece : (a b c : Option (List ℕ)) (bs : List ℕ) (at n : ℕ) → Appends a b (take at bs) → Appends b c (take n (take (length bs - at) (drop at bs)))
    → Appends a c (take (at + n) bs)
next_piece a b c bs at n before piece =
    let here : take n (take (length bs - at) (drop at bs)) ≡ take n (drop at bs) = ap (take n) (take_rest bs at) in
    subst (Appends a c) (sym (take-add at n bs)) (Appends-trans a b c _ _ before (subst (Appends b c) here piece))

pub loop-at-preserved : goal.loop-at-preserved
loop-at-preserved g c =
    let e = c.in_ok-at.ensures in
    let i = c.loop-at.invariant in
    record {
      within = grind (arith, common_steps);
      written = next_piece _ _ _ _ _ _ i.written e.bytes;
      input = e.input ∙ i.input;
      count = e.count ∙ i.count;
    }
