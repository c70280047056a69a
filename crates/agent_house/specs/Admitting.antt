-- Admitting: a client asks for the log's lines from now on.
-- Source: this project's own.
use Rattle.std.specs.Prelude.{◌≡◌, ◌⊎◌, ◌<◌, ◌≤◌, ℕ, Bool, List, Option, Some, None, IfSome, Err, codes, length}
use Rattle.agent_answers.specs.{Controlling.FollowsAsked, declared.control.Control.Control}
use Rattle.base_clock.specs.declared.reading.Reading.{Reading}
use Rattle.agent_house.specs.{Houses.WillTell, declared.follow_command.TheConstants.MOST_FOLLOWERS, declared.house.House.House}
use Rattle.agent_words.specs.Outcomes.{Why}
use Rattle.agent_log.specs.Rooms.{with_follower}

-- the client's answer begins with this, and goes on
abbrev pub AnswerBeginsWith : {T D : Type 0} → List ℕ → Option (Control T D) → Option (Control T D) → Type 0
AnswerBeginsWith answer None new = new ≡ None
AnswerBeginsWith answer (Some old) None = ⊥
AnswerBeginsWith answer (Some old) (Some new) = (number : Option ℕ) × FollowsAsked answer number old new

-- the client of that number follows the log from now on
pub record IsAdmitted {S T D K E : Type 0} (id : ℕ) (alerts : Bool) (old new : House S T D K E) : Type 0 where
  pub client : AnswerBeginsWith (codes "ok\n") old.control new.control
  pub rest : new ≡ record old { desk = record old.desk { room = with_follower id alerts old.desk.room }; control = new.control }

abbrev pub AdmitsIf : {S T D K E : Type 0} → Option ℕ → Bool → House S T D K E → House S T D K E → Type 0
AdmitsIf None alerts old new = new ≡ old
AdmitsIf (Some id) alerts old new = IsAdmitted id alerts old new

-- the number of the client whose request was taken last, as long as it is not answered
abbrev pub asking_in : {T D : Type 0} → Option (Control T D) → Option ℕ
asking_in None = None
asking_in (Some control) = control.asking

-- there are as many as may be, and the client is to be told so
pub record IsNotAdmitted {S T D K E : Type 0} (now : Reading) (old new : House S T D K E) : Type 0 where
  pub many : MOST_FOLLOWERS ≤ length old.desk.room.followers
  pub why : Why
  pub says : IfSome why (λ words. words ≡ codes "8 clients follow the log already")
  pub will : WillTell (Err why) now.elapsed old new

-- there is a place: the client follows the log from now on; where memory was wanting for it, it is sent nothing, and that is said
pub record HasPlace {S T D K E : Type 0} (now : Reading) (alerts : Bool) (old new : House S T D K E) : Type 0 where
  pub few : length old.desk.room.followers < MOST_FOLLOWERS
  pub admits : AdmitsIf (asking_in old.control) alerts old new ⊎ WillTell (Err None) now.elapsed old new

abbrev pub FollowsLog : {S T D K E : Type 0} → Reading → Bool → House S T D K E → House S T D K E → Type 0
FollowsLog now alerts old new = IsNotAdmitted now old new ⊎ HasPlace now alerts old new
