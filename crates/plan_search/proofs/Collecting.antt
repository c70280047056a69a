-- Runs that are taken from a schedule one by one: what they are together; for `collect`.
use Rattle.std.proofs.Common.{◌≡◌, ◌∙◌, ℕ, ◌+◌, ◌-◌, ◌<◌, ◌≤◌, ◌++◌, List, [], ◌∷◌, length, sym, ap, subst, arith}
use Rattle.std.proofs.lemmas.List.{append-nil, append_assoc, length-append}
use Rattle.plan_rule.specs.{declared.force.Force.Force, declared.run.Run.Run, Runs.AreRuns, Runs.IsRun, Runs.all_wakes, Runs.wakes}
use Rattle.plan_schedule.specs.Given.{IsFirstRun}
use Rattle.plan_search.specs.{code.Collecting.AreLongestBefore, code.Collecting.ListIsOverlong, code.Collecting.RunsAreTaken, code.Collecting.RunsAreWhole, Decides.AreLongest}
use Rattle.plan_search.proofs.Walking.{length_wakes_of}

-- the wake-ups of one run more
all_more : (rs : List Run) (r : Run) (rest : List Force) → all_wakes (rs ++ r ∷ []) ++ rest ≡ all_wakes rs ++ (wakes r ++ rest)
all_more [] r rest = ap (λ xs. xs ++ rest) (append-nil (wakes r))
all_more (q ∷ rs) r rest =
    append_assoc (wakes q) (all_wakes (rs ++ r ∷ [])) rest ∙ ap (λ xs. wakes q ++ xs) (all_more rs r rest) ∙ sym (append_assoc (wakes q) (all_wakes rs) (wakes r ++ rest))

length_run : (r : Run) (rest : List Force) → length (wakes r ++ rest) ≡ r.count + length rest
length_run r rest = length-append (wakes r) rest ∙ ap (λ k. k + length rest) (length_wakes_of r.first r.step r.count r.entry r.needed)

length_more : (rs : List Run) (r : Run) → length (all_wakes (rs ++ r ∷ [])) ≡ length (all_wakes rs) + r.count
length_more rs r =
    ap length (sym (append-nil (all_wakes (rs ++ r ∷ [])))) ∙ ap length (all_more rs r []) ∙ length-append (all_wakes rs) (wakes r ++ [])
    ∙ ap (λ k. length (all_wakes rs) + k) (ap length (append-nil (wakes r)) ∙ length_wakes_of r.first r.step r.count r.entry r.needed)

runs_more : (rs : List Run) (r : Run) → AreRuns rs → IsRun r → AreRuns (rs ++ r ∷ [])
runs_more [] r runs is = (is, tt)
runs_more (q ∷ rs) r runs is = (runs.0, runs_more rs r runs.1 is)

longest_more : (rs : List Run) (r : Run) (rest : List Force) → AreLongestBefore rs (wakes r ++ rest) → ((other : Run) (ys : List Force) → wakes r ++ rest ≡ wakes other ++ ys → other.count ≤ r.count) → AreLongestBefore (rs ++ r ∷ []) rest
longest_more [] r rest before last = (λ other ys e. last other ys (sym (ap (λ xs. xs ++ rest) (append-nil (wakes r))) ∙ e), tt)
longest_more (q ∷ rs) r rest before last =
    (λ other ys e. before.0 other ys (sym (all_more (q ∷ rs) r rest) ∙ e), longest_more rs r rest before.1 last)

longest_alone : (rs : List Run) → AreLongestBefore rs [] → AreLongest rs
longest_alone [] before = tt
longest_alone (r ∷ rs) before = (λ other rest e. before.0 other rest (append-nil (all_wakes (r ∷ rs)) ∙ e), longest_alone rs before.1)

-- one run more
pub one_more :
    (old mid new : List Force → Type 0) (old_most mid_most new_most : ℕ) (taken : List Run) (room : ℕ) (r : Run) → RunsAreTaken old mid old_most mid_most taken room → IsFirstRun mid new room r → r.count < room → new_most < mid_most →
    RunsAreTaken old new old_most new_most (taken ++ r ∷ []) (room - r.count)
one_more old mid new old_most mid_most new_most taken room r so_far first more fewer =
    let is : IsRun r = first.run in
    let in_all = so_far.filled in
    let most = so_far.most in
    let counted = length_more taken r in
    record {
      runs = runs_more taken r so_far.runs is;
      some = omega arith;
      filled = omega arith;
      joins = λ rest h. subst old (sym (all_more taken r rest)) (so_far.joins (wakes r ++ rest) (first.joins rest h));
      splits = λ xs h.
          let a = so_far.splits xs h in
          let b = first.splits a.0 a.1.1 in
          (b.0, (a.1.0 ∙ ap (λ ys. all_wakes taken ++ ys) b.1.0 ∙ sym (all_more taken r b.0), b.1.1));
      longest = λ rest h short.
          let here = length_run r rest in
          longest_more taken r rest (so_far.longest (wakes r ++ rest) (first.joins rest h) (omega arith))
          (λ other ys e.
          let there = length_run other ys in
          let same = ap length e in
          first.longest other ys (subst mid e (first.joins rest h)) (omega arith));
      most = let one = length-append taken (r ∷ []) in omega arith;
    }

-- all are taken
pub whole : (old mid : List Force → Type 0) (old_most mid_most : ℕ) (taken : List Run) (room : ℕ) → RunsAreTaken old mid old_most mid_most taken room → mid [] → RunsAreWhole old old_most taken
whole old mid old_most mid_most taken room so_far none =
    let some = so_far.some in
    let in_all = so_far.filled in
    let most = so_far.most in
    record {
      runs = so_far.runs;
      all = subst old (append-nil (all_wakes taken)) (so_far.joins [] none);
      longest = longest_alone taken (so_far.longest [] none some);
      few = omega arith;
      few_runs = omega arith;
    }

-- there is no room for the next run
pub overlong : (old mid new : List Force → Type 0) (old_most mid_most : ℕ) (taken : List Run) (room : ℕ) (r : Run) → RunsAreTaken old mid old_most mid_most taken room → IsFirstRun mid new room r → r.count ≡ room → ListIsOverlong old
overlong old mid new old_most mid_most taken room r so_far first full xs h =
    let a = so_far.splits xs h in
    let b = first.splits a.0 a.1.1 in
    let in_all = so_far.filled in
    let long : length xs ≡ length (all_wakes taken) + length a.0 = ap length a.1.0 ∙ length-append (all_wakes taken) a.0 in
    let run : length a.0 ≡ r.count + length b.0 = ap length b.1.0 ∙ length_run r b.0 in
    omega arith
