-- The entries of a forest with another margin that they allow: for `set_margin` and `most_margin`.
use Rattle.std.proofs.Common.{◌≡◌, ℕ, ◌+◌, ◌-◌, ◌<◌, ◌≤◌, List, min, arith, subst, sym, inl, inr}
use Rattle.std.proofs.lemmas.Bool.{cases_lt}
use Rattle.plan_forest.specs.{declared.entry.Entry.Entry, declared.forest.TheConstants.MARGIN_MAX, Forest.Forest, Forest.entry_at, Margins.IsMargin, Push.IsForest, Push.IsPlaced}

-- what is said of each entry does not speak of the margin, but that it is less than each step
placed_with : (g : Forest) (margin i : ℕ) → margin < (entry_at g.entries i).step → IsPlaced g i → IsPlaced (record g { margin = margin }) i
placed_with g margin i below placed =
    record {
      named = placed.named;
      alone = placed.alone;
      parent_first = placed.parent_first;
      parent_is_token = placed.parent_is_token;
      lease_has_token = placed.lease_has_token;
      step_past_margin = below;
      in_range = placed.in_range;
      depth = placed.depth;
    }

pub forest_with : (g : Forest) (margin : ℕ) → IsForest g → IsMargin g.entries margin → IsForest (record g { margin = margin })
forest_with g margin forest allowed =
    record {
      margin_above = allowed.above;
      margin_within = allowed.within;
      few = forest.few;
      placed = λ i within. placed_with g margin i (allowed.below i within) (forest.placed i within);
    }

-- a forest's own margin is allowed
pub own_allowed : (g : Forest) → IsForest g → IsMargin g.entries g.margin
own_allowed g forest = record { above = forest.margin_above; within = forest.margin_within; below = λ i within. (forest.placed i within).step_past_margin }

-- so is each smaller one
pub less_allowed : (es : List Entry) (margin less : ℕ) → 0 < less → less ≤ margin → IsMargin es margin → IsMargin es less
less_allowed es margin less above small allowed =
    record {
      above = above;
      within = (let l = allowed.within in omega arith);
      below = λ i within. (let l = allowed.below i within in omega arith);
    }

-- the greatest margin that the first n entries allow
pub record IsMostOf (es : List Entry) (n most : ℕ) : Type 0 where
  pub above : 0 < most
  pub within : most ≤ MARGIN_MAX
  pub below : (i : ℕ) → i < n → most < (entry_at es i).step
  pub greatest : (other : ℕ) → other ≤ MARGIN_MAX → ((i : ℕ) → i < n → other < (entry_at es i).step) → other ≤ most

pub most_of_more : (es : List Entry) (n most : ℕ) → 1 < (entry_at es n).step → IsMostOf es n most → IsMostOf es (n + 1) (min most ((entry_at es n).step - 1))
most_of_more es n most step so =
    let above = so.above in
    let within = so.within in
    record {
      above = omega arith;
      within = omega arith;
      below = λ i h. elim (cases_lt i n) [
        | inl before ↦ let l = so.below i before in omega arith
        | inr last ↦ let here : i ≡ n = omega arith in subst (λ k. min most ((entry_at es n).step - 1) < (entry_at es k).step) (sym here) (omega arith)
      ];
      greatest = λ other h below. let l = so.greatest other h (λ i before. below i (omega arith)) in let k = below n (omega arith) in omega arith;
    }
