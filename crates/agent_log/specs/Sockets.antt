-- Sockets: what is said of the agent's own sockets.
-- Source: docs/running.md, "What the operator sees" and "Changes while it runs".
use Rattle.std.specs.Prelude.{ℕ, ◌==◌, if◌then◌else◌, List, [], ◌∷◌, ◌++◌, codes}
use Rattle.base_log.specs.declared.line.LineWord.{LineWord}
use Rattle.base_log.specs.declared.level.Level.TheVariants.{Info, Alert}
use Rattle.base_log.specs.declared.line.LineWord.TheVariants as words
use Rattle.base_moment.specs.declared.moment.TheConstants.{LAST}
use Rattle.agent_log.specs.Lines.{Line, said_line}
use Rattle.agent_words.specs.Moments.{moment_word}

-- until when an entry is needed, which 0 says of one that is not
abbrev pub need_log_word : ℕ → LineWord
need_log_word until =
    if until == LAST then words.Text (codes "always")
    else (if until == 0 then words.Text (codes "none") else moment_word until)

-- a client has set another need
abbrev pub need_log_line : List ℕ → ℕ → Line
need_log_line name until = said_line Info (codes "need") (words.Text name ∷ need_log_word until ∷ [])

-- a socket cannot be had
abbrev pub socket_log_line : List ℕ → List ℕ → List ℕ → Line
socket_log_line socket why cost = said_line Alert (codes "socket") (words.Text socket ∷ words.Text (codes "cannot be used (" ++ (why ++ codes "):")) ∷ words.Text cost ∷ [])
