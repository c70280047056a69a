-- Why what rows say cannot be written, from the steps.
use Rattle.std.proofs.Common.{◌≡◌, ℕ, ◌<◌, ◌≤◌, List, Option, Ok, length, inl, inr}
use Rattle.vault_inventory.specs.{Inventory.read_served, Served.Served, declared.limits.TheConstants.MOST_INVENTORY}
use Rattle.state_changes.specs.{declared.row.Row.Row, Listed.rows_of_served}
use Rattle.state_file.specs.{declared.fault.SettleFault.SettleFault, declared.text.Form.Form, Order.in_order}
use Rattle.state_file.specs.declared.fault.SettleFault.TheVariants.{Differs, OutOfMemory, Refused, TooLong}
use Rattle.state_file.specs.declared.text.Form.TheVariants.{Words, Seconds}
use Rattle.state_file.specs.FileText.{IsFileText, IsPrinted, IsTooLong}
use Rattle.state_file.specs.Unwritten.{IsWhyUnprinted, IsWhyUnread, IsWhyUnwritten}

module _ (margin most : Option ℕ) (rows : List Row) where
  pub too_long : (form : Form) (text : List ℕ) → IsFileText form margin most rows text → MOST_INVENTORY < length text → IsTooLong form margin most rows
  unfolding IsTooLong
  too_long form text is long = (text, is, long)

  pub in_words : (text : List ℕ) → IsFileText Words margin most rows text → length text ≤ MOST_INVENTORY → IsPrinted margin most rows text
  unfolding IsPrinted
  in_words text is short = (short, inl is)

  pub in_seconds : (text : List ℕ) → IsTooLong Words margin most rows → IsFileText Seconds margin most rows text → length text ≤ MOST_INVENTORY → IsPrinted margin most rows text
  unfolding IsPrinted
  in_seconds text words is short = (short, inr (words, is))

  pub both_long : IsTooLong Words margin most rows → IsTooLong Seconds margin most rows → IsWhyUnprinted margin most rows TooLong
  unfolding IsWhyUnprinted
  both_long words seconds = (words, seconds)

  pub no_memory : IsWhyUnprinted margin most rows OutOfMemory
  unfolding IsWhyUnprinted
  no_memory = tt

  pub why_unprinted : (fault : SettleFault) → IsWhyUnprinted margin most (in_order rows) fault → IsWhyUnwritten margin most rows fault
  unfolding IsWhyUnprinted IsWhyUnwritten
  why_unprinted TooLong h = h
  why_unprinted (Refused fault) h = absurd h
  why_unprinted Differs h = absurd h
  why_unprinted OutOfMemory h = tt

  pub why_unread : (text : List ℕ) (fault : SettleFault) → IsPrinted margin most (in_order rows) text → IsWhyUnread margin most text fault → IsWhyUnwritten margin most rows fault
  unfolding IsWhyUnread IsWhyUnwritten
  why_unread text TooLong is h = absurd h
  why_unread text (Refused fault) is h = (text, is, h)
  why_unread text Differs is (v, read, h) = (text, is, (v, read, λ so. h so.margin_is so.has_margin so.most_is))
  why_unread text OutOfMemory is h = tt

  pub why_differs : (text : List ℕ) (v : Served) → IsPrinted margin most (in_order rows) text → read_served text ≡ Ok v → (rows_of_served v ≡ in_order rows → ⊥) → IsWhyUnwritten margin most rows Differs
  unfolding IsWhyUnwritten
  why_differs text v is read h = (text, is, (v, read, λ so. h so.listed))

  pub why_memory : IsWhyUnwritten margin most rows OutOfMemory
  unfolding IsWhyUnwritten
  why_memory = tt

  pub is_short : (text : List ℕ) → IsPrinted margin most rows text → length text ≤ MOST_INVENTORY
  unfolding IsPrinted
  is_short text h = h.0

pub ruleset refusing = (why_unprinted, why_unread, why_differs, why_memory, is_short)

pub ruleset printing = (too_long, in_words, in_seconds, both_long, no_memory)
