-- Admits: a client follows the log from now on, or does not. For `follow` and `admit`.
use Rattle.std.proofs.Common.{◌≡◌, ◌<◌, ◌≤◌, ℕ, Bool, Option, Some, None, Err, IfSome, inl, inr, length, subst, sym}
use Rattle.std.specs.Prelude.{codes}
use Rattle.base_clock.specs.declared.reading.Reading.{Reading}
use Rattle.agent_house.specs.{Houses.WillTell, declared.follow_command.TheConstants.MOST_FOLLOWERS, declared.house.House.House}
use Rattle.agent_house.specs.Admitting.{AdmitsIf, FollowsLog, IsAdmitted, asking_in}
use Rattle.agent_words.specs.Outcomes.{Why}

module _ {S T D K E : Type 0} (now : Reading) (alerts : Bool) (old mid new : House S T D K E) where
  pub not_admitted : (why : Why) → MOST_FOLLOWERS ≤ length old.desk.room.followers → IfSome why (λ words. words ≡ codes "8 clients follow the log already")
      → WillTell (Err why) now.elapsed old new → FollowsLog now alerts old new
  not_admitted why many says will = inl (record { many = many; why = why; says = says; will = will })

  pub admitted : length old.desk.room.followers < MOST_FOLLOWERS → AdmitsIf (asking_in old.control) alerts old new → FollowsLog now alerts old new
  admitted few admits = inr (record { few = few; admits = inl admits })

  pub lacking : length old.desk.room.followers < MOST_FOLLOWERS → mid ≡ old → WillTell (Err None) now.elapsed mid new → FollowsLog now alerts old new
  lacking few same will = inr (record { few = few; admits = inr (subst (λ (h : House S T D K E). WillTell (Err None) now.elapsed h new) same will) })

module _ {S T D K E : Type 0} (alerts : Bool) (old new : House S T D K E) (asking : Option ℕ) where
  pub nobody_asks : asking ≡ None → new ≡ old → AdmitsIf asking alerts old new
  nobody_asks is same = subst (λ o. AdmitsIf o alerts old new) (sym is) same

  pub one_asks : (id : ℕ) → asking ≡ Some id → IsAdmitted id alerts old new → AdmitsIf asking alerts old new
  one_asks id is admitted = subst (λ o. AdmitsIf o alerts old new) (sym is) admitted
