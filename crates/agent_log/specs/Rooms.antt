-- Rooms: the room of the log, and those who follow it, each with a room of its own.
-- Source: this project's own.
use Rattle.std.specs.Prelude.{ℕ, Bool, true, false, List, [], ◌∷◌, ◌++◌, map, Option, Some, None, option_map}
use Rattle.base_log.specs.{Following.missed_line, Waiting.Waiting, Waiting.dropping, declared.follower.Follower.Follower, declared.level.Level.Level, declared.room.TheConstants.FOLLOWER_ROOM, declared.room.TheConstants.LOG_ROOM}

-- warnings and alerts wait for the first who follows those alone, in the room of one that is not there yet
pub record Rooms : Type 0 where
  pub log : Waiting
  pub followers : List Follower
  pub early : Option Follower

-- nothing waits in a room for so many bytes
abbrev pub empty : ℕ → Waiting
empty room = record { bytes = []; room = room; is_begun = false; notice = None; untold = 0; dropped = 0 }

-- one for whom nothing waits
abbrev pub fresh_follower : ℕ → Bool → Follower
fresh_follower id alerts_alone = record { id = id; alerts_alone = alerts_alone; room = empty FOLLOWER_ROOM; has_gone = false }

-- nobody follows
abbrev pub begun_rooms : Rooms
begun_rooms = record { log = empty LOG_ROOM; followers = []; early = Some (fresh_follower 0 true) }

-- a line of this level that could not be made, for lack of memory, is counted as dropped in each room into which it would have come
abbrev pub misses : Level → Follower → Follower
misses level f = record f { room = missed_line f.alerts_alone level f.room }

abbrev pub missing_in : Level → Rooms → Rooms
missing_in level rooms = record { log = dropping 1 rooms.log; followers = map (misses level) rooms.followers; early = option_map (misses level) rooms.early }

-- one that comes begins with nothing; the first that follows warnings and alerts alone with those that were said so far
abbrev pub newcomer : ℕ → Bool → Option Follower → Follower
newcomer id true (Some early) = record early { id = id }
newcomer id true None = fresh_follower id true
newcomer id false early = fresh_follower id false

-- which is the last that gets them
abbrev pub left_for : Bool → Option Follower → Option Follower
left_for true early = None
left_for false early = early

-- one more follows, over the connection of that number: all lines from now on, or warnings and alerts alone
abbrev pub with_follower : ℕ → Bool → Rooms → Rooms
with_follower id alerts_alone rooms = record rooms { followers = rooms.followers ++ newcomer id alerts_alone rooms.early ∷ []; early = left_for alerts_alone rooms.early }
