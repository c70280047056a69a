-- Answers: what answers a question, byte by byte, and what a client is told.
-- Source: RFC 9112, sections 2, 4, 6.2 and 9.6; RFC 9110, sections 8.6, 9.3.1, 9.3.2, 10.2.1 and 15; RFC 6585, section 5. Media types:
-- Prometheus, "Exposition formats", text format 0.0.4; OpenMetrics 1.0, "Content Type"; RFC 8259, section 11.
use Rattle.std.specs.Prelude.{◌≡◌, ℕ, if◌then◌else◌, List, [], ◌++◌, codes, decimal, length}
use Rattle.agent_pages.specs.{declared.answer.OnlookerAnswer.OnlookerAnswer, declared.asked.Method.Method, declared.asked.Page.Page, declared.asked.Question.Question, declared.board.Board.Board, declared.shown.Code.Code}
use Rattle.agent_pages.specs.{declared.shown.Content.Content, declared.shown.Shown.Shown, Health.is_healthy, Lines.IsHealthText, Lines.IsStandingText, Listing.listing_text, Metrics.metrics_text}
use Rattle.agent_pages.specs.declared.asked.Method.TheVariants.{Get, Head, Other}
use Rattle.agent_pages.specs.declared.asked.Page.TheVariants.{Metrics, Health, Listing, Nowhere}
use Rattle.agent_pages.specs.declared.asked.Question.TheVariants.{Read, Unread, TooLong}
use Rattle.agent_pages.specs.declared.family.Format.TheVariants.{Prometheus, OpenMetrics}
use Rattle.agent_pages.specs.declared.shown.Code.TheVariants as codes_of
use Rattle.agent_pages.specs.declared.shown.Content.TheVariants as contents

-- a status and its phrase
unfoldable pub code_words : Code → List ℕ
code_words codes_of.Good = codes "200 OK"
code_words codes_of.BadRequest = codes "400 Bad Request"
code_words codes_of.NotFound = codes "404 Not Found"
code_words codes_of.MethodNotAllowed = codes "405 Method Not Allowed"
code_words codes_of.HeadTooLong = codes "431 Request Header Fields Too Large"
code_words codes_of.Unavailable = codes "503 Service Unavailable"

unfoldable pub content_words : Content → List ℕ
content_words (contents.Metrics Prometheus) = codes "text/plain; version=0.0.4; charset=utf-8"
content_words (contents.Metrics OpenMetrics) = codes "application/openmetrics-text; version=1.0.0; charset=utf-8"
content_words contents.Json = codes "application/json"
content_words contents.Plain = codes "text/plain; charset=utf-8"

-- the methods that are answered, where another one was asked with
abbrev pub allow_line : Code → List ℕ
allow_line codes_of.MethodNotAllowed = codes "Allow: GET, HEAD\r\n"
allow_line code = []

unfoldable pub head_text : Shown → List ℕ
head_text s =
    codes "HTTP/1.1 " ++ code_words s.code ++ codes "\r\nContent-Type: " ++ content_words s.content ++ codes "\r\n" ++ allow_line s.code
    ++ codes "Content-Length: " ++ decimal (length s.body) ++ codes "\r\nConnection: close\r\n\r\n"

-- ---- what is shown

-- a status by itself
unfoldable pub bare : Code → Shown
bare code = record { code = code; content = contents.Plain; body = code_words code ++ codes "\n" }

-- a body with the status 200
abbrev pub shown_well : Content → List ℕ → Shown
shown_well content body = record { code = codes_of.Good; content = content; body = body }

abbrev pub health_code : Board → Code
health_code b = if is_healthy b then codes_of.Good else codes_of.Unavailable

abbrev pub IsHealthPage : Board → Shown → Type 0
IsHealthPage b shown = (text : List ℕ) × IsHealthText b text × (shown ≡ record { code = health_code b; content = contents.Plain; body = text })

unfoldable pub IsPage : Board → Page → Shown → Type 0
IsPage b (Metrics format) shown = shown ≡ shown_well (contents.Metrics format) (metrics_text format b)
IsPage b Health shown = IsHealthPage b shown
IsPage b Listing shown = shown ≡ shown_well contents.Json (listing_text b)
IsPage b Nowhere shown = shown ≡ bare codes_of.NotFound

-- a page that is there is shown to GET and HEAD alone
unfoldable pub IsShown : Board → Method → Page → Shown → Type 0
IsShown b Get page shown = IsPage b page shown
IsShown b Head page shown = IsPage b page shown
IsShown b Other (Metrics format) shown = shown ≡ bare codes_of.MethodNotAllowed
IsShown b Other Health shown = shown ≡ bare codes_of.MethodNotAllowed
IsShown b Other Listing shown = shown ≡ bare codes_of.MethodNotAllowed
IsShown b Other Nowhere shown = shown ≡ bare codes_of.NotFound

-- ---- what is sent

abbrev pub whole_answer : Shown → OnlookerAnswer
whole_answer s = record { head = head_text s; body = s.body }

-- HEAD gets the head alone, which tells of the body that GET would be sent
abbrev pub sent_to : Method → Shown → OnlookerAnswer
sent_to Get s = whole_answer s
sent_to Head s = record { head = head_text s; body = [] }
sent_to Other s = whole_answer s

unfoldable pub IsAnswer : Board → Question → OnlookerAnswer → Type 0
IsAnswer b (Read method page) answer = (shown : Shown) × IsShown b method page shown × (answer ≡ sent_to method shown)
IsAnswer b Unread answer = answer ≡ whole_answer (bare codes_of.BadRequest)
IsAnswer b TooLong answer = answer ≡ whole_answer (bare codes_of.HeadTooLong)

-- ---- what a client of the control socket is told

abbrev pub IsBody : Board → Page → List ℕ → Type 0
IsBody b page text = (shown : Shown) × IsPage b page shown × (text ≡ shown.body)

-- the status for people, and any other page as it is shown to onlookers
unfoldable pub IsTold : Board → Page → List ℕ → Type 0
IsTold b Listing text = IsStandingText b text
IsTold b (Metrics format) text = IsBody b (Metrics format) text
IsTold b Health text = IsBody b Health text
IsTold b Nowhere text = IsBody b Nowhere text

-- ---- a law: the contract of a public function without a body

-- a board and a question have one answer, and a board and a page one text that a client is told: nothing else shows in it
abbrev pub OneAnswer : Type 0
OneAnswer = (b : Board) (question : Question) (answer other : OnlookerAnswer) → IsAnswer b question answer → IsAnswer b question other → answer ≡ other

abbrev pub OneTold : Type 0
OneTold = (b : Board) (page : Page) (text other : List ℕ) → IsTold b page text → IsTold b page other → text ≡ other
