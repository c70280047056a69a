-- Attended: what each neighbour is given of a turn, step by step. For `attend`.
use Rattle.std.proofs.Common.{◌≡◌, ◌∙◌, ℕ, ◌+◌, ◌≤◌, Bool, List, Option, ap, subst, sym}
use Rattle.std.specs.Prelude.{◌&&◌, ◌||◌}
use Rattle.agent_standing.specs.Agent.{Agent}
use Rattle.agent_answers.specs.{declared.control.Control.Control, declared.onlookers.Onlookers.Onlookers, declared.went.Went.Went}
use Rattle.state_changes.specs.declared.row.Row.{Row}
use Rattle.base_clients.specs.{Doors.DoorLog, declared.talk.TalkCall.TalkCall}
use Rattle.base_clock.specs.declared.reading.Reading.{Reading}
use Rattle.base_device.specs.declared.tried.Tried.{Tried}
use Rattle.base_log.specs.{declared.writing.TheConstants.MOST_TRIES, declared.form.Form.Form}
use Rattle.agent_pages.specs.{declared.board.Surroundings.Surroundings, Naming.beside}
use Rattle.agent_log.specs.{Feeding.FollowersGoOn, Rooms.Rooms}
use Rattle.agent_log.specs.LogDesk.{Desk, HearsWant, ReaderIsGiven}
use Rattle.agent_house.specs.{Retries.folder_in, declared.house.House.House}
use Rattle.agent_house.specs.Houses.{Attends, ClientsGoOn, OnlookersGoOn, around_of, named_in}
use Rattle.agent_words.specs.Moments.{second_of}

-- what is said where something decides it that is the same
pub hears_by : (a b : Bool) (agent : Agent) (old new : Desk) → a ≡ b → HearsWant agent a old new → HearsWant agent b old new
hears_by a b agent old new same heard = subst (λ c. HearsWant agent c old new) same heard

pub follows_by : {T D : Type 0} (f g : Form) (moment : ℕ) (r s new : Rooms) (a b after : Option (Control T D)) → f ≡ g → r ≡ s → a ≡ b → FollowersGoOn f moment r new a after → FollowersGoOn g moment s new b after
follows_by f g moment r s new a b after form rooms control fed =
    subst (λ x. FollowersGoOn x moment s new b after) form (subst (λ x. FollowersGoOn f moment x new b after) rooms (subst (λ x. FollowersGoOn f moment r new x after) control fed))

module _ {S T D K E : Type 0} (given : S → Option (List ℕ)) (failures tries : S → ℕ) (tried : S → Option (List Tried)) (remaining written : T → Option (List ℕ)) (calls : T → Option (List TalkCall)) (log : D → Option (DoorLog T)) (rows : K → List Row) (keeps : K → Bool) where
  pub attended : (agent : Agent) (now : Reading) (is_more goes_on enough : Bool) (shown answered : Went) (old mid fed : House S T D K E) (around : Surroundings) (named : List Row)
      (onlookers : Option (Onlookers T D)) (control : Option (Control T D)) (desk : Desk)
      → ReaderIsGiven old.desk.form (second_of now.wall) old.desk.room.log mid.desk.room.log (given old.sink) (given mid.sink) (failures old.sink) (failures mid.sink) (tried old.sink) (tried mid.sink) is_more
      → tries mid.sink ≤ tries old.sink + MOST_TRIES
      → mid ≡ record old { desk = record old.desk { room = record old.desk.room { log = mid.desk.room.log } }; sink = mid.sink }
      → FollowersGoOn mid.desk.form (second_of now.wall) mid.desk.room fed.desk.room mid.control fed.control
      → fed ≡ record mid { desk = record mid.desk { room = fed.desk.room }; control = fed.control }
      → around ≡ around_of fed.next fed.file (folder_in keeps fed.state) fed.standby fed.desk.room.log.dropped now.wall → named ≡ named_in rows fed.state
      → OnlookersGoOn remaining written calls log agent (beside around named) now shown fed.onlookers onlookers
      → ClientsGoOn remaining written calls log agent (beside around named) now answered fed.control control
      → enough ≡ (shown.is_enough && answered.is_enough) → HearsWant agent enough fed.desk desk → goes_on ≡ (is_more || (shown.is_busy || answered.is_busy))
      → Attends given failures tries tried remaining written calls log rows keeps agent now goes_on old (record fed { desk = desk; control = control; onlookers = onlookers })
  attended agent now is_more goes_on enough shown answered old mid fed around named onlookers control desk gives few first follow second around_is named_is show answer both heard more =
      let sink : fed.sink ≡ mid.sink = ap (λ h. h.sink) second in
      let there : around ≡ around_of old.next old.file (folder_in keeps old.state) old.standby fed.desk.room.log.dropped now.wall =
      around_is ∙ ap (λ n. around_of n fed.file (folder_in keeps fed.state) fed.standby fed.desk.room.log.dropped now.wall) (ap (λ h. h.next) second ∙ ap (λ h. h.next) first)
      ∙ ap (λ f. around_of old.next f (folder_in keeps fed.state) fed.standby fed.desk.room.log.dropped now.wall) (ap (λ h. h.file) second ∙ ap (λ h. h.file) first)
      ∙ ap (λ k. around_of old.next old.file k fed.standby fed.desk.room.log.dropped now.wall) (ap (λ (h : House S T D K E). folder_in keeps h.state) second ∙ ap (λ (h : House S T D K E). folder_in keeps h.state) first)
      ∙ ap (λ s. around_of old.next old.file (folder_in keeps old.state) s fed.desk.room.log.dropped now.wall) (ap (λ h. h.standby) second ∙ ap (λ h. h.standby) first) in
      let there_too : named ≡ named_in rows old.state =
      named_is ∙ ap (λ (h : House S T D K E). named_in rows h.state) second ∙ ap (λ (h : House S T D K E). named_in rows h.state) first in
      let at_desk : fed.desk ≡ record old.desk { room = fed.desk.room } = ap (λ h. h.desk) second ∙ ap (λ h. record h.desk { room = fed.desk.room }) first in
      let given_there = subst (λ s. ReaderIsGiven old.desk.form (second_of now.wall) old.desk.room.log mid.desk.room.log (given old.sink) (given s) (failures old.sink) (failures s) (tried old.sink) (tried s) is_more) (sym sink) gives in
      let few_there = subst (λ s. tries s ≤ tries old.sink + MOST_TRIES) (sym sink) few in
      record {
        room = mid.desk.room.log;
        rooms = fed.desk.room;
        fed = fed.control;
        is_more = is_more;
        shown = shown;
        answered = answered;
        gives = given_there;
        few = few_there;
        follow = follows_by mid.desk.form old.desk.form (second_of now.wall) mid.desk.room (record old.desk.room { log = mid.desk.room.log }) fed.desk.room mid.control old.control fed.control
            (ap (λ h. h.desk.form) first) (ap (λ h. h.desk.room) first) (ap (λ h. h.control) first) follow;
        around = beside around named;
        around_is = ap (λ a. beside a named) there ∙ ap (beside (around_of old.next old.file (folder_in keeps old.state) old.standby fed.desk.room.log.dropped now.wall)) there_too;
        onlookers = subst (λ o. OnlookersGoOn remaining written calls log agent (beside around named) now shown o onlookers) (ap (λ h. h.onlookers) second ∙ ap (λ h. h.onlookers) first) show;
        clients = answer;
        desk = hears_by enough (shown.is_enough && answered.is_enough) agent (record old.desk { room = fed.desk.room }) desk both (subst (λ d. HearsWant agent enough d desk) at_desk heard);
        rest = ap {A = House S T D K E} (λ h. record h { desk = desk; sink = fed.sink; control = control; onlookers = onlookers }) second
            ∙ ap {A = House S T D K E} (λ h. record h { desk = desk; sink = fed.sink; control = control; onlookers = onlookers }) first;
        more = more;
      }
