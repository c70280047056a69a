-- Subjects: what an inventory is judged by.
-- Source: this project's own.
use Rattle.std.specs.Prelude.{◌≡◌, ℕ, Bool, List, Ok}
use Rattle.vault_inventory.specs.Inventory.{read_served}
use Rattle.plan_needs.specs.Carried.{IsCarried}
use Rattle.vault_served.specs.ForGood.{served_for_good}
use Rattle.vault_lint.specs.{Marks.marks_of, Places.heads_of, declared.subject.Subject.Subject}

-- what the text writes, and where; and the needs that each entry carries, where one that is `always` lasts to the last moment
pub record IsSubject (text : List ℕ) (open_files : List Bool) (now timeout : ℕ) (s : Subject) : Type 0 where
  pub reads : read_served text ≡ Ok s.served
  pub for_good : s.inventory ≡ served_for_good s.served
  pub carries : IsCarried s.inventory.forest 0 s.carried
  pub files : s.open_files.items ≡ open_files
  pub marks : s.places.marks.items ≡ marks_of text
  pub heads : s.places.heads.items ≡ heads_of (marks_of text)
  pub at_now : s.at ≡ now
  pub by_timeout : s.timeout ≡ timeout
