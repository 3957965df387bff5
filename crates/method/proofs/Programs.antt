-- An accepted network at its precision is a packing program. Assumes nothing.
use Prim.Native.Nat.{ℕ}
use Rattle.bounds.specs.Bounds.{most_arcs, least_precision, most_precision}
use Rattle.length.specs.Level.{level}
use Rattle.length.proofs.Bounds.{level-positive}
use Rattle.length.proofs.Rule.{level-rule}
use Rattle.length.proofs.Slack.{slack-small, slack-room}
use Rattle.network.specs.Network.{Network}
use Rattle.network.specs.Resources.{resources, resource_capacity}
use Rattle.network.specs.Sound.{Sound, Within}
use Rattle.network.proofs.Sounds.{resources-within, resource-capacity-within}
use Rattle.packing.proofs.Program.{Program}

pub program : (net : Network) (q : ℕ) → Sound net q → Program (resources net) q (level (resources net) q) (resource_capacity net)
program net q s =
    let m : Within 1 most_arcs (resources net) = resources-within net q s in
    let p : Within least_precision most_precision q = s.counts.precision in
    record {
      resources-low = m.least;
      resources-high = m.most;
      precision-low = p.least;
      precision-high = p.most;
      capacity-low = λ e l. (resource-capacity-within net q s e l).least;
      capacity-high = λ e l. (resource-capacity-within net q s e l).most;
      level = level-positive (resources net) q m.least m.most p.least p.most;
      enough = (level-rule (resources net) q m.least m.most p.least p.most).enough;
      room = slack-small (resources net) q m.least m.most p.least p.most;
      slack = slack-room (resources net) q m.least m.most p.least p.most;
    }
