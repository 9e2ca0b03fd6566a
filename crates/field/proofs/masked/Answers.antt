-- `field::masked` meets its contract: a mask of ones or zeros is a product with a bit.
-- Assumes nothing.
use Rattle.field.proofs.ProductLaws.{mask-times}
use Rattle.field.proofs.masked.Goals as goal

pub returns : goal.returns
returns c = mask-times c.args.bit c.args.x c.requires c.ranges.x.fits
