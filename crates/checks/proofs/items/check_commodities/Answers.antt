-- `checks::items::check_commodities` meets its contract: the search from the present commodity on finds what the whole search finds.
-- Assumes nothing.
use mathlib.Core.Path.{◌≡◌, ◌∙◌}
use native.Mathlib.Omega.{arith}
use Rattle.network.specs.Network.{Network, source, sink}
use Rattle.network.specs.Parts.{of_commodities}
use Rattle.network.specs.Verdict.{loose, commodity_conditions}
use Rattle.network.proofs.Bounds.{loose-of}
use Rattle.network.proofs.First.{decides, passes, none_left}
use Rattle.network.proofs.Search.{search-all, search-ends, search-stops, search-goes-on}
use Rattle.checks.proofs.items.check_commodities.Goals as goal
use Rattle.checks.proofs.items.check_commodities.Goals.{After-loose, At-loop-i}

-- the network, and the present commodity's test as the definition has it
abbrev net : At-loop-i → Network
net c =
    let args = c.args in
    of_commodities args.n args.sources.now args.sinks.now

loose-tested : (c : After-loose) →
    c.loose.result ≡ loose (net (goal.at.After-loose c).At-loop-i).nodes (source (net (goal.at.After-loose c).At-loop-i) c.loop-i.i) (sink (net (goal.at.After-loose c).At-loop-i) c.loop-i.i)
loose-tested c = loose-of _ c.loose.ensures c.at.ensures c.at-in-loop-i.ensures

pub loop-i-init : goal.loop-i-init
loop-i-init c = search-all _ _

pub loop-i-preserved : goal.loop-i-preserved
unfolding commodity_conditions
loop-i-preserved c =
    search-goes-on _ _ _ (omega arith) (passes _ _ (loose-tested (goal.at.loop-i-preserved c).After-loose) c.if-loose.false none_left) ∙ c.loop-i.invariant

pub returns-then-i-sources : goal.returns-then-i-sources
returns-then-i-sources c = search-ends _ _ _ c.if-i-sources.true ∙ c.loop-i.invariant

pub returns-then-loose : goal.returns-then-loose
unfolding commodity_conditions
returns-then-loose c = search-stops _ _ _ (omega arith) (decides _ (loose-tested (goal.at.returns-then-loose c).After-loose) c.if-loose.true) ∙ c.loop-i.invariant
