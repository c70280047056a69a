-- Saying: of what a line of the log speaks that is said of a start, or of a state folder that is opened later.
-- Source: docs/troubleshooting.md, "Lines of the log".
use Rattle.std.specs.Prelude.{ℕ, List, codes}
use Rattle.agent_words.specs.declared.said.About.{About}
use Rattle.agent_words.specs.declared.said.About.TheVariants as abouts

abbrev pub about_word : About → List ℕ
about_word abouts.Folder = codes "folder"
about_word abouts.File = codes "file"
about_word abouts.Copy = codes "copy"
about_word abouts.Journal = codes "journal"
about_word abouts.SecretFile = codes "secret-file"
about_word abouts.Log = codes "log"
about_word abouts.Ends = codes "ends"
