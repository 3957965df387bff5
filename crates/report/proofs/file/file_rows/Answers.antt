-- `report::file::file_rows` meets its contract: the first fault decides; where there is none, the network is solved. Assumes nothing.
use mathlib.Core.Path.{◌≡◌, refl, sym, ◌∙◌}
use Prim.Native.Nat.{ℕ}
use native.Mathlib.Omega.{arith}
use lib.ListN.{length-replicate}
use Rattle.std.proofs.lemmas.Result.{err_from_is_err_and}
use Rattle.packed.specs.Packed.{net_in, net_numbers, Packed}
use Rattle.dimacs.specs.File.{holds, parsed}
use Rattle.dimacs.specs.OneCommodity.{OneCommodity}
use Rattle.dimacs.proofs.Handed.{accepted-holds, refused_why}
use Rattle.dimacs.proofs.Holds.{network-sizes}
use Rattle.dimacs.proofs.Whole.{whole}
use Rattle.report.specs.Shown.{shape_of}
use Rattle.report.proofs.Judged.{judged, sound, counted}
use Rattle.report.proofs.Written.{filed-refused, filed-faulty, filed-held}
use Rattle.report.proofs.file.file_rows.Goals as goal
use Rattle.report.proofs.file.file_rows.Goals.{After-pack}

-- the file holds the network that is packed
held : (c : After-pack) → parsed c.args.text.now ≡ holds (net_in (shape_of c.in_ok-file.file) c.pack.new.net)
held c = rw c.pack.ensures (accepted-holds _ c.in_ok-file.ensures.result)

one : (c : After-pack) → OneCommodity (net_in (shape_of c.in_ok-file.file) c.pack.new.net)
one c = network-sizes _ (held c)

in_place : (c : After-pack) → Packed (shape_of c.in_ok-file.file) c.pack.new.net
unfolding net_in
in_place c =
    let w = whole _ c.in_ok-file.ensures.result in
    record { few-nodes = (one c).of-nodes.most; few-limits = omega arith; few-arcs = w.few; few-commodities = omega arith; places = omega (arith, c.pack.auto.net, length-replicate {A = ℕ} net_numbers 0) }

pub returns-in_err-file-clause-filed : goal.returns-in_err-file-clause-filed
returns-in_err-file-clause-filed c =
    let p = err_from_is_err_and c.from_residual.result c.from_residual.ensures.1 in
    rw (p.1, p.2) (filed-refused _ (refused_why _ c.in_err-file.ensures.result))

pub pack-requires : goal.pack-requires
pack-requires c =
    let w = whole _ c.in_ok-file.ensures.result in
    record { few = w.few; of-tails = w.tails; of-heads = w.heads; of-capacities = w.capacities; places = omega (arith, length-replicate {A = ℕ} net_numbers 0) }

pub check_items-requires : goal.check_items-requires
check_items-requires c = in_place (goal.at.check_items-requires c).After-pack

pub returns-in_err-check_items-clause-filed : goal.returns-in_err-check_items-clause-filed
returns-in_err-check_items-clause-filed c =
    let a = (goal.at.returns-in_err-check_items-clause-filed c).After-pack in
    let p = err_from_is_err_and c.from_residual-in_err-check_items.result c.from_residual-in_err-check_items.ensures.1 in
    rw (p.1, p.2) (filed-faulty _ (held a) (judged _ (one a) ∙ sym c.in_err-check_items.ensures))

pub show-requires : goal.show-requires
show-requires c =
    let a = (goal.at.show-requires c).After-pack in
    record {
      lent = record { sound = sound _ (one a) (sym c.in_ok-check_items.ensures); packed = in_place a; counted = counted (in_place a) (one a) refl };
      one = (one a).of-sources;
      enough = c.requires;
    }

pub returns-clause-filed : goal.returns-clause-filed
returns-clause-filed c =
    let a = (goal.at.returns-clause-filed c).After-pack in
    filed-held _ (held a) (judged _ (one a) ∙ sym c.in_ok-check_items.ensures) c.show.ensures.shown
