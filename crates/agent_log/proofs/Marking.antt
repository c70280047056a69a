-- Marking: marks that are made anew one after another. For `mark_ended`.
use Rattle.std.proofs.Common.{◌≡◌, ◌∙◌, ℕ, ◌+◌, ◌<◌, ◌≤◌, List, [], ◌∷◌, ◌++◌, get_or, length, map, set, take, refl, sym, ap, arith}
use Rattle.std.proofs.lemmas.List.FromFn.{map-range_with_len_more}
use Rattle.std.proofs.lemmas.List.{get_or-set_other, length-set, take_all, take_more_set}
use Rattle.std.specs.List.{range_with_len}
use Rattle.agent_log.specs.{Marks.fresh_mark, Marks.mark_at, declared.mark.Mark.Mark}

-- those before k are made by f, the others are as they were
pub record Marked (f : ℕ → Mark → Mark) (old now : List Mark) (k : ℕ) : Type 0 where
  pub count : length now ≡ length old
  pub done : take k now ≡ map (λ i. f i (mark_at old i)) (range_with_len 0 k)
  pub rest : (j : ℕ) → k ≤ j → mark_at now j ≡ mark_at old j

pub marked_none : (f : ℕ → Mark → Mark) (old : List Mark) → Marked f old old 0
marked_none f old = record { count = refl; done = refl; rest = λ j past. refl }

pub marked_more : (f : ℕ → Mark → Mark) (old now : List Mark) (k : ℕ) (x : Mark) → Marked f old now k → k < length old → x ≡ f k (mark_at now k) → Marked f old (set now k x) (k + 1)
marked_more f old now k x so within is = let g : ℕ → Mark = λ i. f i (mark_at old i) in record {
  count = length-set now k x ∙ so.count;
  done =
      take_more_set now k x (let count = so.count in omega (arith, count)) ∙ ap (λ xs. xs ++ x ∷ []) so.done
      ∙ ap (λ y. map g (range_with_len 0 k) ++ y ∷ []) (is ∙ ap (f k) (so.rest k (omega arith))) ∙ sym (map-range_with_len_more g 0 k k (omega arith));
  rest = λ j past. get_or-set_other now k j x fresh_mark (λ same. omega (arith, same, past)) ∙ so.rest j (omega (arith, past));
}

pub marked_all : (f : ℕ → Mark → Mark) (old now : List Mark) (k : ℕ) → Marked f old now k → k ≡ length old → now ≡ map (λ i. f i (mark_at old i)) (range_with_len 0 (length old))
marked_all f old now k so whole =
    sym (take_all k now (let count = so.count in omega (arith, count, whole))) ∙ so.done ∙ ap (λ n. map (λ i. f i (mark_at old i)) (range_with_len 0 n)) whole
