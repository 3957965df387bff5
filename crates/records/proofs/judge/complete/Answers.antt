-- `records::judge::complete` meets its contract: pairs and limits stand beside the arcs. Assumes nothing.
use mathlib.Core.Path.{◌∙◌}
use native.Mathlib.Omega.{arith}
use Rattle.records.proofs.Completed.{completed}
use Rattle.records.proofs.judge.complete.Goals as goal

pub put_limits-requires : goal.put_limits-requires
put_limits-requires c =
    let p = c.requires in
    record { packed = p.pairing.packed; enough = p.enough }

pub put_pairs-requires : goal.put_pairs-requires
put_pairs-requires c =
    let p = c.requires.pairing in
    let h = p.packed in
    record {
      packed =
          record {
            few-nodes = h.few-nodes;
            few-limits = h.few-limits;
            few-arcs = h.few-arcs;
            few-commodities = h.few-commodities;
            places = omega (arith, h.places, c.put_limits.auto.net);
          };
      each = p.each;
    }

pub returns : goal.returns
returns c =
    c.put_pairs.ensures ∙ completed c.args.pairs.now c.requires.pairing.packed.few-arcs c.put_limits.ensures
