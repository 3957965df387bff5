-- `records::judge::check_copy` meets its contract: what is checked is the network of the copied arcs, the pairs and the limits. Assumes nothing.
use mathlib.Core.Path.{ap, ◌∙◌}
use native.Mathlib.Omega.{arith}
use Rattle.network.specs.Network.{Network}
use Rattle.network.specs.Verdict.{verdict, item_conditions}
use Rattle.records.proofs.Shaped.{packs, completing, copied_is}
use Rattle.records.proofs.judge.check_copy.Goals as goal

pub shape-s-requires : goal.shape-s-requires
shape-s-requires c = let p = c.requires in omega (arith, p.few-nodes, p.few-arcs)

pub complete-requires : goal.complete-requires
complete-requires c =
    completing c.args.pairs.now c.args.limits.now c.shape-s.ensures c.requires c.args.arcs (omega (arith, c.well_formed.1.1.0))

pub check_items-requires : goal.check_items-requires
check_items-requires c =
    packs c.args.pairs.now c.args.limits.now c.shape-s.ensures c.requires _ (omega (arith, c.complete.auto.net, c.well_formed.1.1.0))

pub returns : goal.returns
returns c =
    c.check_items.ensures ∙
    ap (λ (x : Network). verdict (item_conditions x)) (c.complete.ensures ∙ copied_is c.args.pairs.now c.args.limits.now c.shape-s.ensures c.args.arcs)
