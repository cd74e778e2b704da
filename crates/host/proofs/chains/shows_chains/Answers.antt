use Rattle.host.proofs.Links.{chains_keep}
use Rattle.host.proofs.chains.shows_chains.Goals as goal

pub returns : goal.returns
returns c = chains_keep
