-- Waiting: the agent of a start, and why it waits or does not. For `resumed`, `wait_of` and their parts.
use Rattle.std.proofs.Common.{◌≡◌, ◌≢◌, ◌∙◌, ◌↔◌, ℕ, Bool, true, false, List, Option, Some, None, Result, Ok, Err, ap, arith, inl, inr, refl, subst, sym, true≢false}
use Rattle.std.proofs.lemmas.Bool.Decides.{nat_tests}
use Rattle.std.specs.Prelude.{IfOk, IsTrue, codes, nat_eq}
use Rattle.std.specs.declared.alloc.AllocError.{AllocError}
use Rattle.agent_log.specs.LogDesk.{Desk, HearsAtStart}
use Rattle.agent_standing.specs.Agent.{Agent, fresh}
use Rattle.base_clock.specs.declared.reading.Reading.{Reading}
use Rattle.vault_inventory.specs.Inventories.{Inventory}
use Rattle.base_log.specs.declared.level.Level.TheVariants.{Info}
use Rattle.agent_turns.specs.{Apart.MayWait, Held.Held, Held.held_at_first, Resuming.AreResumed, declared.waiting.Wait.Wait}
use Rattle.watch_machine.specs.{Clocks.second_of_wall, declared.event.WatchEvent.WatchEvent}
use Rattle.agent_run.specs.Waits.{IsNoWait, IsResumedFrom, IsToWait, IsToWaitBy, IsWait, SaysWait, until_of, wait_text}

pub resumed_from : (known : List WatchEvent) (s : Inventory) (width : ℕ) (serving : Held) (agent : Agent) → AreResumed known (fresh s width) agent → serving ≡ held_at_first agent → IsResumedFrom known s width serving
resumed_from known s width serving agent resumed is = record { agent = agent; resumed = resumed; at_first = is }

-- ---- whether it is to wait

pub no_part : (a : Agent) (now : Reading) (part : ℕ) → part ≡ 0 → IsToWait a now part false
no_part a now part none =
    let is : nat_eq part 0 ≡ true = grind (arith, nat_tests) in
    subst (λ b. IsToWaitBy b a now part false) (sym is) refl

pub some_part :
    (a b : Agent) (now : Reading) (part until : ℕ) (result : Result Bool AllocError) → part ≢ 0 → b ≡ a → until ≡ until_of now part → IfOk result (MayWait b (second_of_wall now.wall) until) → IfOk result (IsToWait a now part)
some_part a b now part until (Ok may) some same at h =
    let is : nat_eq part 0 ≡ false = grind (arith, nat_tests) in
    let here : MayWait a (second_of_wall now.wall) until may = subst (λ x. MayWait x (second_of_wall now.wall) until may) same h in
    subst (λ t. IsToWaitBy t a now part may) (sym is) (subst (λ u. MayWait a (second_of_wall now.wall) u may) at here)
some_part a b now part until (Err e) some same at h = tt

-- ---- why it does not, or does

pub not_again : (now : Reading) (part : ℕ) (a : Agent) (again : Option Inventory) (old new : Desk) → again ≡ None → new ≡ old → IsNoWait now part a again old new
not_again now part a again old new none silent = record { why = inl (λ is. let e : Some a.inventory ≡ None = sym is ∙ none in cc); silent = silent }

pub not_same : (now : Reading) (part : ℕ) (a : Agent) (inventory : Inventory) (again : Option Inventory) (serves : Bool) (old new : Desk) → again ≡ Some inventory → IsTrue serves ↔ (inventory ≡ a.inventory) → serves ≡ false → new ≡ old → IsNoWait now part a again old new
not_same now part a inventory again serves old new some same is_not silent =
    record { why = inl (λ is. let e : Some inventory ≡ Some a.inventory = sym some ∙ is in let same_is : inventory ≡ a.inventory = cc in true≢false (sym (same.1 same_is) ∙ is_not)); silent = silent }

pub not_now : (now : Reading) (part : ℕ) (a : Agent) (again : Option Inventory) (is : Bool) (old new : Desk) → IsToWait a now part is → is ≡ false → new ≡ old → IsNoWait now part a again old new
not_now now part a again is old new to_wait is_not silent = record { why = inr (subst (IsToWait a now part) is_not to_wait); silent = silent }

pub says_wait : (now : Reading) (part : ℕ) (text : List ℕ) (old new : Desk) → text ≡ wait_text part → HearsAtStart now Info (codes "start") text old new → SaysWait now part old new
says_wait now part text old new is hears = subst (λ t. HearsAtStart now Info (codes "start") t old new) is hears

pub is_wait :
    (known : List WatchEvent) (width : ℕ) (now : Reading) (part : ℕ) (a : Agent) (inventory : Inventory) (again : Option Inventory) (serves is : Bool) (w : Wait) (old new : Desk) → again ≡ Some inventory → IsTrue serves ↔ (inventory ≡ a.inventory) → serves ≡ true → IsToWait a now part is → is ≡ true → w.until ≡ until_of now part →
    IsResumedFrom known inventory width w.shown → SaysWait now part old new → IsWait known width now part a again w old new
is_wait known width now part a inventory again serves is w old new some same serves_it to_wait is_so until shown said =
    let its = same.0 serves_it in
    record {
      is = some ∙ ap (λ s. Some s) its;
      to_wait = subst (IsToWait a now part) is_so to_wait;
      until = until;
      shown = subst (λ s. IsResumedFrom known s width w.shown) its shown;
      said = said;
    }
