-- The contract of the listing.
use Rattle.std.specs.Prelude.{◌≡◌, List, ℕ, ◌≤◌, length}
use Rattle.network.specs.Network.{Network}
use Rattle.network.specs.Refusal.{Accepted}
use Rattle.method.specs.Answer.{outcome}
use Rattle.method.specs.Overlaid.{overlaid}
use Rattle.method.specs.Guarantee.{Guarantee}
use Rattle.dimacs.specs.File.{holds, parsed}
use Rattle.report.specs.Listing.{listing, verdict_held}

-- For a file of the bytes text: the number r returned is the listing's length; the lent places, out before, hold the listing first and
-- later places keep their contents; and where the file holds an accepted network, all that holds of its outcome.
pub record Listed (text out : List ℕ) (r : ℕ) (out' : List ℕ) : Type 0 where
  pub count : r ≡ length (listing text)
  pub places : out' ≡ overlaid (listing text) out
  pub within : r ≤ length out'
  pub guarantee : (net : Network) → parsed text ≡ holds net → verdict_held net ≡ Accepted → Guarantee net 4 (outcome net 4)
