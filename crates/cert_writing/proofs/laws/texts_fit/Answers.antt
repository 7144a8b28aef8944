use Rattle.cert_writing.proofs.Sizes as sizes
use Rattle.cert_writing.proofs.laws.texts_fit.Goals as goal

pub returns : goal.returns
returns c = sizes.texts_fit
