-- A request of a site, as a room is asked it.
use Rattle.std.specs.Prelude.{ℕ}
use Rattle.rules.specs.declared.history.Op.{Op}
use Rattle.wire.specs.declared.request.Request.{Request}
use Rattle.wire.specs.declared.request.Request.TheVariants.{Change}
use Rattle.room_core.specs.declared.site_request.Form.{Form}
use Rattle.room_core.specs.declared.site_request.Form.TheVariants.{Operation, Other}

-- a site, and a request of it
pub record SiteRequest : Type 0 where
  pub site : ℕ
  pub request : Request

-- the request for an operation, of the site in its name
abbrev pub request_for : Op → SiteRequest
request_for op = record { site = op.name.0; request = Change op.name.1 op.seen op.body }

-- the request in this form
abbrev pub request_in : Form → SiteRequest
request_in (Operation op) = request_for op
request_in (Other site request) = record { site = site; request = request.value }
