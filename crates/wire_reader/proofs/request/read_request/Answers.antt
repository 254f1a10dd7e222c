use Rattle.wire_reader.proofs.ByForm.{given_value, given_none, given_ok, given_bad}
use Rattle.wire_reader.proofs.RequestTexts.{request_text_takes, request_text_again}
use Rattle.wire.specs.Form.{IsRequestText}
use Rattle.wire_reader.proofs.request.read_request.Goals as goal

pub returns-clause-ok : goal.returns-clause-ok
returns-clause-ok c = given_ok _ _ (IsRequestText c.args.bytes.now) (request_text_takes c.args.bytes.now) c.request_in_bytes.ensures

pub returns-clause-bad : goal.returns-clause-bad
returns-clause-bad c = given_bad _ _ (IsRequestText c.args.bytes.now) (request_text_again c.args.bytes.now) c.request_in_bytes.ensures

pub returns-clause-value : goal.returns-clause-value
returns-clause-value c = given_value _ _ c.request_in_bytes.ensures

pub returns-clause-none : goal.returns-clause-none
returns-clause-none c = given_none _ _ c.request_in_bytes.ensures
