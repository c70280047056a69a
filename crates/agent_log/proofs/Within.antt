-- Within: a connection takes no more than waits for the one who follows. For `feed_one`.
use Rattle.std.proofs.Common.{◌≡◌, ℕ, List, Option, Some, None, Result, Ok, Err, arith, length, length-take, subst, sym, take}
use Rattle.std.specs.{List.position, declared.alloc.AllocError.AllocError}
use Rattle.agent_answers.specs.declared.lines.RequestLines.{RequestLines}
use Rattle.base_clients.specs.{Guests.AddsFront, Guests.IsFedFrom, declared.fed.Fed.Fed, declared.guest.Guest.Guest, declared.stage.GuestStage.GuestStage}
use Rattle.base_clients.specs.Tables.{Feeds, FeedsAt, GuestTable, follows_as}
use Rattle.base_clients.specs.declared.fed.Fed.TheVariants.{Gone, Full, Taken}
use Rattle.base_clients.specs.declared.stage.GuestStage.TheVariants as stages
use Rattle.agent_log.specs.Feeding.{IsFedAtMost}

gone : (most : ℕ) (fed : Result Fed AllocError) → fed ≡ Ok Gone → IsFedAtMost most fed
gone most fed is = subst (IsFedAtMost most) (sym is) tt

adds : (bytes : List ℕ) (fed : Result Fed AllocError) (old new : List ℕ) → AddsFront bytes fed old new → IsFedAtMost (length bytes) fed
adds bytes (Ok Gone) old new h = tt
adds bytes (Ok Full) old new h = tt
adds bytes (Ok (Taken n)) old new h =
    let long = length-take 4096 bytes in
    let is : n ≡ length (take 4096 bytes) = subst (λ l. n ≡ length l) h.1.0 h.1.1 in
    omega (arith, long, is)
adds bytes (Err e) old new h = tt

module _ {T : Type 0} (bytes : List ℕ) (fed : Result Fed AllocError) where
  by_stage : (s : GuestStage) (g n : Guest T) → IsFedFrom s bytes fed g n → IsFedAtMost (length bytes) fed
  by_stage (stages.Reading b) g n h = gone (length bytes) fed h.0
  by_stage (stages.Asked b) g n h = gone (length bytes) fed h.0
  by_stage stages.Waiting g n h = gone (length bytes) fed h.0
  by_stage (stages.Answering left) g n h = gone (length bytes) fed h.0
  by_stage (stages.Following left) g n h = adds bytes fed left h.0 h.1.0
  by_stage stages.Over g n h = gone (length bytes) fed h.0

  by_place : (place : Option ℕ) (before after : GuestTable T RequestLines) → FeedsAt place bytes fed before after → IsFedAtMost (length bytes) fed
  by_place None before after h = gone (length bytes) fed h.0
  by_place (Some i) before after h = by_stage h.0.stage h.0 h.1.0 h.1.1.1.0

  pub fed_within : (id : ℕ) (before after : GuestTable T RequestLines) → Feeds id bytes fed before after → IsFedAtMost (length bytes) fed
  fed_within id before after h = by_place (position (follows_as id) before.guests) before after h
