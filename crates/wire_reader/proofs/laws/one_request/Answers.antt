use Rattle.wire_reader.proofs.RequestTexts as requests
use Rattle.wire_reader.proofs.laws.one_request.Goals as goal

pub returns : goal.returns
returns c = requests.one_request
