-- `arith::wide::Wide::times` meets its contract: self * k is the product by the low limb of k, added to the product by its high limb, one place up.
-- Assumes nothing.
use native.Mathlib.Omega.{arith}
use Rattle.arith.specs.Limbs.{from_limbs}
use Rattle.arith.proofs.Products.{split-product}
use Rattle.arith.proofs.wide.Wide.times.Goals as goal

pub shifted-requires : goal.shifted-requires
shifted-requires c =
    (c.times_plus-high.ensures.limbs, omega (arith, split-product (from_limbs c.args.self.limbs) c.args.k))

pub times_plus-requires : goal.times_plus-requires
times_plus-requires c =
    let split = split-product (from_limbs c.args.self.limbs) c.args.k in
    (c.requires.0, c.shifted.ensures.limbs, omega arith, omega (arith, split))

pub returns : goal.returns
returns c = record {
  limbs = c.times_plus.ensures.limbs;
  number = omega (arith, split-product (from_limbs c.args.self.limbs) c.args.k);
}
