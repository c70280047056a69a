-- Prospect: the terms that a forest and its carried needs give.
-- Source: this project's own.
use Rattle.std.specs.Prelude.{List, unwrap_or}
use Rattle.plan_forest.specs.Forest.{Forest, end_of, entry_at}
use Rattle.plan_needs.specs.Carried.{CarriedNeed, load_at}
use Rattle.plan_schedule.specs.Terms.{Terms}

-- what a schedule looks at: a forest, and what its entries carry
pub record Prospect : Type 0 where
  pub forest : Forest
  pub loads : List CarriedNeed

-- its terms: present ends, steps, carried needs, and the entries that have them (0 where there is none)
unfoldable pub terms_of : Prospect → Terms
terms_of o = record {
  end = end_of o.forest.entries;
  step = λ i. (entry_at o.forest.entries i).step;
  need = λ i. (load_at o.loads i).need;
  from = λ i. unwrap_or (load_at o.loads i).from 0;
  margin = o.forest.margin;
}
