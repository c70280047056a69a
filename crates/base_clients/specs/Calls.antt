-- The calls of a guest's connection.
-- Source: this project's own.
use Rattle.std.specs.Prelude.{◌≡◌, List, [], ◌∷◌, ◌++◌, Option, Some, None}
use Rattle.base_clients.specs.declared.talk.TalkCall.{TalkCall}

-- this call more was made, where they are known
abbrev pub Logs : Option (List TalkCall) → Option (List TalkCall) → TalkCall → Type 0
Logs None new call = Unit {0}
Logs (Some old) new call = new ≡ Some (old ++ call ∷ [])
