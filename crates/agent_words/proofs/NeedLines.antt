-- What a client is told of a need.
use Rattle.std.proofs.Common.{◌≡◌, ℕ, List, [], ◌∷◌, ◌++◌, Option, append-nil, false, sym, true}
use Rattle.agent_words.specs.Telling.{AreNeedLines, AreReachLines, unkept_line}

pub kept_lines : (reach : Option ℕ) (line : List ℕ) (first : List (List ℕ)) → AreReachLines reach (line ∷ []) first → AreNeedLines true reach line first
kept_lines reach line first h = (first, (h, sym (append-nil first)))

pub unkept_need_lines : (reach : Option ℕ) (line : List ℕ) (first lines : List (List ℕ)) → AreReachLines reach (line ∷ []) first → lines ≡ first ++ unkept_line ∷ [] → AreNeedLines false reach line lines
unkept_need_lines reach line first lines h e = (first, (h, e))
