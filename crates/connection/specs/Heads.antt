-- What the head of a request asks for.
use Rattle.std.specs.Prelude.{◌≡◌, ◌≤◌, ◌<◌, ◌⊎◌, ℕ, List, ◌++◌, Option, Some, None, Ok, length, drop, map}
use Rattle.std.specs.Prelude.{codes, nat_eq, IsTrue}
use Rattle.std.specs.List.{starts_with}
use Rattle.std.specs.Fmt.{decimal}
use Rattle.httparse.specs.Grammar.{HasNoRequest, MayBecomeRequest, ReadsRequest, RequestHead, print_request}
use Rattle.httparse.specs.Spans.{IsWithin, RequestOverflows, name_and_value, span_bytes}
use Rattle.websocket.specs.Handshake.{IsValidKey, accept_key_of, requested_key}
use Rattle.websocket.specs.Headers.{Fields, header_value}
use Rattle.connection.specs.declared.head.Head.{Head}
use Rattle.connection.specs.declared.head.Head.TheVariants.{Partial, Upgrade, Probe, Refused}
use Rattle.connection.specs.declared.head.Page.{Page}
use Rattle.connection.specs.declared.head.Page.TheVariants.{Health, Metrics}
use Rattle.connection.specs.declared.head.TheConstants.{MAX_FIELDS, MAX_HEAD_LEN}

-- the bytes begin with this head of a request, which has so many of them
pub record BeginsWith (bytes : List ℕ) (head : RequestHead) (len : ℕ) : Type 0 where
  pub reads : ReadsRequest bytes head (drop len bytes)
  pub len_is : len ≡ length (print_request head)
  pub is_short : len ≤ MAX_HEAD_LEN

abbrev pub fields_in : RequestHead → Fields
fields_in head = map name_and_value head.fields

-- the opening handshake of a WebSocket (RFC 6455, section 4.2.1), and what answers its key
abbrev pub AsksUpgrade : RequestHead → List ℕ → Type 0
AsksUpgrade head accept_key =
    (key : List ℕ) × (requested_key head.method head.minor (fields_in head) ≡ Ok key)
    × IsValidKey key × (accept_key ≡ accept_key_of key)

-- the bytes begin with this head, which asks no upgrade
abbrev pub AsksNoUpgrade : List ℕ → RequestHead → Type 0
AsksNoUpgrade bytes head =
    (len : ℕ) × BeginsWith bytes head len
    × ((accept_key : List ℕ) → ¬ (AsksUpgrade head accept_key))

abbrev pub request_line_of : Page → List ℕ
request_line_of Health = codes "GET /health HTTP/1."
request_line_of Metrics = codes "GET /metrics HTTP/1."

-- the probe of a monitor: the bytes of a head with these fields ask for this page
abbrev pub IsPageAsked : List ℕ → Fields → Page → Type 0
IsPageAsked bytes fields page =
    IsTrue (starts_with nat_eq bytes (request_line_of page))
    × (header_value fields (codes "Upgrade") ≡ None)

abbrev pub Asks : Head → List ℕ → Type 0
Asks Partial bytes = HasNoRequest bytes × MayBecomeRequest bytes × (length bytes < MAX_HEAD_LEN)
Asks (Upgrade accept_key target len) bytes =
    (head : RequestHead) × BeginsWith bytes head len × AsksUpgrade head accept_key
    × IsWithin (length bytes) target × (span_bytes bytes target ≡ head.target)
Asks (Probe page) bytes =
    (head : RequestHead) × AsksNoUpgrade bytes head × IsPageAsked bytes (fields_in head) page
Asks Refused bytes =
    (MAX_HEAD_LEN ≤ length bytes) ⊎ (RequestOverflows MAX_FIELDS bytes
    ⊎ ((head : RequestHead) × AsksNoUpgrade bytes head
    × ((page : Page) → ¬ (IsPageAsked bytes (fields_in head) page))))

abbrev pub page_response : List ℕ → List ℕ → List ℕ → List ℕ
page_response status kind body =
    codes "HTTP/1.1 " ++ status ++ codes "\r\nContent-Type: " ++ kind ++ codes "\r\nContent-Length: "
    ++ decimal (length body) ++ codes "\r\nCache-Control: no-store\r\nConnection: close\r\n\r\n" ++ body

abbrev pub health_answer : Option (List ℕ) → List ℕ
health_answer None = page_response (codes "200 OK") (codes "text/plain") (codes "ok\n")
health_answer (Some room) =
    page_response (codes "503 Service Unavailable") (codes "text/plain")
    (codes "room " ++ room ++ codes " is not kept\n")

abbrev pub metrics_answer : List ℕ → List ℕ
metrics_answer metrics = page_response (codes "200 OK") (codes "text/plain; version=0.0.4") metrics
