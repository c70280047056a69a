-- SecretLines: what is said of files of credentials.
-- Source: docs/running.md, "Secrets by file".
use Rattle.std.specs.Prelude.{ℕ, Bool, if◌then◌else◌, List, [], ◌∷◌, ◌++◌, Option, Some, None, codes}
use Rattle.vault_lanes.specs.declared.loss.Loss.{Loss}
use Rattle.base_log.specs.declared.level.Level.{Level}
use Rattle.base_log.specs.declared.level.Level.TheVariants.{Info, Warning, Alert}
use Rattle.base_log.specs.declared.line.LineWord.TheVariants as words
use Rattle.agent_log.specs.{LinesOfClocks.memory_line, Lines.Line, Lines.said_line, LookupLosses.line_with_loss}
use Rattle.agent_words.specs.VerdictWords.{endless_words, status_words}
use Rattle.state_secrets.specs.{declared.looking.SecretTrouble.SecretTrouble, declared.news.Looked.Looked, declared.news.SecretNews.SecretNews, declared.news.SecretWord.SecretWord}
use Rattle.state_secrets.specs.declared.looking.SecretTrouble.TheVariants.{Unread, NotRegular, NoSecret, Another, TooLong, Endless, Refused}
use Rattle.state_secrets.specs.declared.news.SecretWord.TheVariants.{Taken, Mended, Kept, Without}

abbrev pub trouble_text : SecretTrouble → List ℕ
trouble_text Unread = codes "cannot be read"
trouble_text NotRegular = codes "is not a regular file"
trouble_text NoSecret = codes "holds no secret of 1 to 256 printable ASCII characters"
trouble_text Another = codes "holds what another entry has"
trouble_text TooLong = codes "makes the inventory over 1048576 bytes"
trouble_text Endless = endless_words
trouble_text (Refused status) = status_words status

abbrev pub level_of : SecretWord → Level
level_of Taken = Info
level_of Mended = Info
level_of (Kept trouble) = Warning
level_of (Without trouble) = Alert

abbrev pub event_of_secret : SecretWord → List ℕ
event_of_secret Taken = codes "replace"
event_of_secret Mended = codes "secret-file"
event_of_secret (Kept trouble) = codes "secret-file"
event_of_secret (Without trouble) = codes "secret-file"

-- of a credential that is taken, also why the broker has said nothing of it, where it was asked and has not
abbrev pub text_of : SecretWord → Option Loss → List ℕ
text_of Taken unproved = line_with_loss unproved (codes "by its file")
text_of Mended unproved = codes "holds the old one again"
text_of (Kept trouble) unproved = trouble_text trouble ++ codes ": it keeps the old one"
text_of (Without trouble) unproved = trouble_text trouble ++ codes ": it is not kept until the file holds its secret"

abbrev pub secret_news_line : List ℕ → SecretWord → Option Loss → Line
secret_news_line name what unproved = said_line (level_of what) (event_of_secret what) (words.Text name ∷ words.Text (text_of what unproved) ∷ [])

abbrev pub news_lines : Option SecretNews → Option Loss → List Line
news_lines None unproved = []
news_lines (Some news) unproved = secret_news_line news.name news.what unproved ∷ []

abbrev pub want_lines : Bool → List Line
want_lines is_enough = if is_enough then [] else memory_line ∷ []

-- all that is said of a look
unfoldable pub look_lines : Looked → Option Loss → List Line
look_lines looked unproved = news_lines looked.news unproved ++ want_lines looked.is_enough
