-- Kinds: the words for what an entry is.
-- Source: this project's own.
use Rattle.std.specs.Prelude.{ℕ, List, codes}
use Rattle.plan_forest.specs.declared.entry.Kind.{Kind}
use Rattle.plan_forest.specs.declared.entry.Kind.TheVariants.{Token, Lease}

abbrev pub kind_word : Kind → List ℕ
kind_word Token = codes "token"
kind_word Lease = codes "lease"
