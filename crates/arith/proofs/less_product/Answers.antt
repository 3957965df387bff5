-- `arith::less_product` meets its contract: both products fit a wide number, and the limbs are compared.
-- Assumes nothing.
use native.Mathlib.Omega.{arith}
use Rattle.arith.specs.Limbs.{from_limbs}
use Rattle.arith.proofs.Products.{product-fits}
use Rattle.arith.proofs.less_product.Goals as goal

pub times-requires : goal.times-requires
times-requires c =
    (c.from.ensures.limbs, product-fits (from_limbs c.from.result.limbs) _ (omega arith) (omega arith))

pub times-requires-2 : goal.times-requires-2
times-requires-2 c =
    (c.from-2.ensures.limbs, product-fits (from_limbs c.from-2.result.limbs) _ (omega arith) (omega arith))

pub returns : goal.returns
returns c = cc
