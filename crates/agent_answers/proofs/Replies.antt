-- The first of those whose line has ended is answered. For `reply_to_one`.
use Rattle.std.proofs.Common.{◌≡◌, ℕ, ◌/◌, List, Bool, true, Option, Some, None, inl, subst, sym}
use Rattle.agent_standing.specs.Agent.{Agent}
use Rattle.base_clients.specs.declared.guest.Guest.{Guest}
use Rattle.base_clients.specs.Tables.{AnswersFirst, BecomesAt, GuestTable, first_asked, request_asked_at}
use Rattle.base_clock.specs.declared.reading.Reading.{Reading}
use Rattle.agent_pages.specs.Naming.{Around}
use Rattle.agent_answers.specs.{Wanting.ClientWants, declared.lines.RequestLines.RequestLines, declared.wanted.Wanted.Wanted}
use Rattle.agent_answers.specs.Controlling.{FirstIsReplied, OneIsReplied, RepliesTo}

-- where somebody has asked, somebody is given the answer
given_at :
    {T F : Type 0} → (place : Option ℕ) (bytes : List ℕ) (change : Guest T → Guest T) (given : Bool) (old new : GuestTable T F) → request_asked_at place old.guests ≡ Some bytes → BecomesAt place change given old new →
    BecomesAt place change true old new
given_at None bytes change given old new asked becomes = absurd (let e : None ≡ Some bytes = asked in cc)
given_at (Some i) bytes change given old new asked becomes = subst (λ (b : Bool). BecomesAt (Some i) change b old new) becomes.0 becomes

module _ {T : Type 0} (agent : Agent) (around : Around) (now : Reading) (bytes : List ℕ) (old : GuestTable T RequestLines) (asked : first_asked old ≡ Some bytes) where
  pub given : (new : GuestTable T RequestLines) (sent : List ℕ) (there : Bool) → AnswersFirst now.elapsed sent there old new → AnswersFirst now.elapsed sent true old new
  given new sent there answers = given_at _ bytes _ there old new asked answers

  -- what it wants is known
  pub replied :
      (wanted it : Wanted) (enough is_enough : Bool) (new given : GuestTable T RequestLines) → wanted ≡ it → enough ≡ is_enough → new ≡ given → ClientWants (now.wall / 1000) bytes wanted → RepliesTo agent around now it is_enough old given →
      OneIsReplied agent around now enough old new
  replied wanted it enough is_enough new given wants_it sent_it gave_it wants replies =
      subst (λ f. FirstIsReplied agent around now f enough old new) (sym asked)
      (inl (it, (subst (ClientWants (now.wall / 1000) bytes) wants_it wants, subst (λ n. RepliesTo agent around now it enough old n) (sym gave_it) (subst (λ e. RepliesTo agent around now it e old given) (sym sent_it) replies))))
