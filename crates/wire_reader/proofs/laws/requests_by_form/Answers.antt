use Rattle.wire_reader.proofs.RequestTexts as requests
use Rattle.wire_reader.proofs.laws.requests_by_form.Goals as goal

pub returns : goal.returns
returns c = requests.requests_by_form
