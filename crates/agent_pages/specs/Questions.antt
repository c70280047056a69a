-- Questions: what the first bytes of an onlooker ask for.
-- Source: RFC 9112, sections 2, 3 and 5; RFC 9110, sections 9.1 and 9.3; RFC 6585, section 5.
use Rattle.std.specs.Prelude.{◌≡◌, ℕ, ◌<◌, ◌≤◌, Bool, true, false, if◌then◌else◌, List, bytes_eq, codes, length, map, take}
use Rattle.httparse.specs.Spans.{RequestOverflows, name_and_value}
use Rattle.httparse.specs.Grammar.{HasNoRequest, MayBecomeRequest, ReadsRequest, RequestHead}
use Rattle.base_words.specs.Pieces.{first, pieces}
use Rattle.agent_pages.specs.{declared.asked.AskedPage.AskedPage, declared.asked.Front.Front, declared.asked.Method.Method, declared.asked.Page.Page, declared.asked.Question.Question}
use Rattle.agent_pages.specs.{declared.asked.TheConstants.FIELDS_MAX, declared.asked.TheConstants.HEAD_MAX, declared.family.Format.Format, Accept.takes_fields}
use Rattle.agent_pages.specs.declared.asked.Method.TheVariants.{Get, Head, Other}
use Rattle.agent_pages.specs.declared.asked.Page.TheVariants.{Metrics, Health, Listing, Nowhere}
use Rattle.agent_pages.specs.declared.family.Format.TheVariants.{Prometheus, OpenMetrics}
use Rattle.agent_pages.specs.declared.asked.AskedPage.TheVariants as asked
use Rattle.agent_pages.specs.declared.asked.Front.TheVariants as fronts
use Rattle.agent_pages.specs.declared.asked.Question.TheVariants as questions

-- methods are told apart by the case of their letters, too
unfoldable pub method_of : List ℕ → Method
method_of method = if bytes_eq method (codes "GET") then Get else (if bytes_eq method (codes "HEAD") then Head else Other)

-- what stands before the first question mark
unfoldable pub path_of : List ℕ → List ℕ
path_of target = first (pieces 63 target)

abbrev pub format_of : Bool → Format
format_of true = OpenMetrics
format_of false = Prometheus

unfoldable pub page_at : List ℕ → Bool → Page
page_at path takes =
    if bytes_eq path (codes "/metrics") then Metrics (format_of takes)
    else (if bytes_eq path (codes "/health") then Health else (if bytes_eq path (codes "/status") then Listing else Nowhere))

abbrev pub page_of : List ℕ → Bool → Page
page_of target takes = page_at (path_of target) takes

-- the bytes begin with a head of at most 64 fields, which asks for that page by that method
pub record AsksForPage (bytes : List ℕ) (method : Method) (page : Page) : Type 0 where
  pub head : RequestHead
  pub rest : List ℕ
  pub reads : ReadsRequest bytes head rest
  pub few : length head.fields ≤ FIELDS_MAX
  pub method_is : method ≡ method_of head.method
  pub page_is : page ≡ page_of head.target (takes_fields (map name_and_value head.fields))

-- what the bytes that may be looked at begin with; the word is the code's own
abbrev pub IsHeadFront : List ℕ → Front → Type 0
IsHeadFront bytes fronts.Open = HasNoRequest bytes × MayBecomeRequest bytes
IsHeadFront bytes fronts.Unread = RequestOverflows FIELDS_MAX bytes
IsHeadFront bytes (fronts.Read method page) = AsksForPage bytes method page

-- of the bytes that may be looked at: a head; none of at most 64 fields, whatever follows; as many as may be, and no head
abbrev pub IsQuestion : List ℕ → Question → Type 0
IsQuestion bytes (questions.Read method page) = AsksForPage (take HEAD_MAX bytes) method page
IsQuestion bytes questions.Unread = RequestOverflows FIELDS_MAX (take HEAD_MAX bytes)
IsQuestion bytes questions.TooLong = (HEAD_MAX ≤ length bytes) × (HasNoRequest (take HEAD_MAX bytes) × MayBecomeRequest (take HEAD_MAX bytes))

-- a question, or no head yet, and one may come
abbrev pub BytesAsk : List ℕ → AskedPage → Type 0
BytesAsk bytes asked.Open = (length bytes < HEAD_MAX) × (HasNoRequest bytes × MayBecomeRequest bytes)
BytesAsk bytes (asked.Whole question) = IsQuestion bytes question
