-- `host::serve::serve_in` meets its contract: a refusal changes nothing; else the outcome is delivered. Assumes nothing.
use mathlib.Core.Path.{◌≡◌, refl, sym, ap, ◌∙◌}
use native.Mathlib.Omega.{arith}
use Rattle.network.specs.Network.{Network}
use Rattle.network.specs.Refusal.{host_number, Accepted}
use Rattle.network.specs.Resources.{resources}
use Rattle.network.specs.Verdict.{verdict, item_conditions}
use Rattle.network.proofs.First.{handed}
use Rattle.packed.specs.Packed.{net_in, Packed}
use Rattle.call.specs.Deliver.{slices, slices_of}
use Rattle.call.specs.Host.{Slices}
use Rattle.call.proofs.Judged.{lends, judged-of, served-refused, served-accepted}
use Rattle.host.proofs.serve.serve_in.Goals as goal
use Rattle.host.proofs.serve.serve_in.Goals.{After-decode, In_ok-check_items, Start}

-- the slices at entry
abbrev lent : Start → Slices
lent s = slices s.args.tables.now.flow.now s.args.tables.now.lengths.now s.args.tables.now.answer.now s.args.running.now

-- the network as it was read
abbrev net : After-decode → Network
net c = net_in c.args.s c.decode.new.net

packs : (c : After-decode) → Packed c.args.s c.decode.new.net
packs c =
    let p = c.requires.places in
    record { few-nodes = p.few-nodes; few-limits = p.few-limits; few-arcs = p.few-arcs; few-commodities = p.few-commodities; places = omega (arith, p.places, c.decode.auto.net) }

-- its resources are those that the shape counts
counted : (c : After-decode) → c.args.s.resources ≡ resources (net c)
counted c = c.requires.sizes.shaped.counted ∙ ap resources (sym c.decode.ensures)

pub check_items-requires : goal.check_items-requires
check_items-requires c = packs (goal.at.check_items-requires c).After-decode

pub returns-in_err-check_items-clause-judged : goal.returns-in_err-check_items-clause-judged
returns-in_err-check_items-clause-judged c =
    let e = c.check_items.ensures in
    let w = c.in_err-check_items.was in
    judged-of c.decode.ensures
    (served-refused (net (goal.at.returns-in_err-check_items-clause-judged c).After-decode) c.args.q (verdict (item_conditions (net (goal.at.returns-in_err-check_items-clause-judged c).After-decode))) (lent (goal.at.returns-in_err-check_items-clause-judged c).Start) _ _ _ (sym e ∙ w) (ap host_number (handed w c.from_residual.ensures.1 ∙ e)))

-- nothing is refused
accepted : (c : In_ok-check_items) → verdict (item_conditions (net (goal.at.In_ok-check_items c).After-decode)) ≡ Accepted
accepted c = sym c.check_items.ensures ∙ c.in_ok-check_items.was

pub deliver-requires : goal.deliver-requires
deliver-requires c =
    record {
      lent = lends (packs (goal.at.deliver-requires c).After-decode) c.args.q c.requires.sizes.counts (counted (goal.at.deliver-requires c).After-decode) (accepted (goal.at.deliver-requires c).In_ok-check_items);
      room = c.requires.sizes.open-for;
    }

pub returns-clause-judged : goal.returns-clause-judged
returns-clause-judged c =
    judged-of c.decode.ensures
    (served-accepted (net (goal.at.returns-clause-judged c).After-decode) c.args.q (verdict (item_conditions (net (goal.at.returns-clause-judged c).After-decode))) (lent (goal.at.returns-clause-judged c).Start) 0 (slices_of c.deliver.new.tables c.deliver.new.running) (accepted (goal.at.returns-clause-judged c).In_ok-check_items) refl c.deliver.ensures.delivered)
