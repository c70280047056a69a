-- Untouched: what is kept is as it was.
-- Source: this project's own.
use Rattle.std.specs.Prelude.{◌≡◌}
use Rattle.state_keeping.specs.Keepers.{waiting_in}
use Rattle.state_keeping.specs.States.{Kept, book_in, store_in}
use Rattle.state_store.specs.Stores.{lines_in}

pub record IsAsItWas {D : Type 0} (old new : Kept D) : Type 0 where
  pub book : book_in new ≡ book_in old
  pub lines : lines_in (store_in new) ≡ lines_in (store_in old)
  pub waiting : waiting_in new.keeper ≡ waiting_in old.keeper
