use Rattle.network_bounds.proofs.Fits.{fits_then}
use Rattle.network_bounds.proofs.bounds.fits.Goals as goal

pub returns-then-least-eq0 : goal.returns-then-least-eq0
returns-then-least-eq0 c = fits_then c.node_bounds-least.ensures.least c.node_bounds-least.ensures.greatest c.if-least-eq0.true c.requires.1
