-- `records::solve` meets its contract. Sizes and tables are refused, or they pass (`passed`); the loop leaves all records in the array (`copied`), whose
-- arcs, pairs and limits are refused or pass, and then decide what `deliver` leaves. Assumes nothing.
use Rattle.std.proofs.Common.{◌≡◌, ◌≤◌, List, ℕ, length, take, slice_index_or, arith, ap, sym, ◌∙◌}
use Rattle.network.specs.Verdict.{verdict, item_conditions}
use Rattle.records.specs.Parts.{SizesPassed, network_copied}
use Rattle.records.proofs.Copying.{nil, put, filled, filled_none, filled_more}
use Rattle.records.proofs.Judged.{turned_down, replied-same}
use Rattle.records.proofs.Served.{served-refused, sizable, served-loose, served-passed}
use Rattle.records.proofs.Shaped.{checking}
use Rattle.records.proofs.solve.Goals as goal
use Rattle.records.proofs.solve.Goals.{In_ok-check_call, After-loop-e}

passed :
    (c : In_ok-check_call) →
    let a = c.args in
    SizesPassed a.n a.q (length a.arcs.now) a.pairs.now a.limits.now a.flow.now a.lengths.now
passed c = sizable _ _ _ _ _ _ _ (sym c.check_call.ensures ∙ c.in_ok-check_call.was)

few : (c : In_ok-check_call) → length c.args.arcs.now ≤ 256
few c = (passed c).counts.of-arcs.most

all : (c : After-loop-e) → c.loop-e.net ≡ filled c.args.arcs.now (length c.args.arcs.now)
all c = let e : c.loop-e.e ≡ length c.args.arcs.now = omega arith in c.loop-e.invariant ∙ ap (filled c.args.arcs.now) e

pub returns-in_err-check_call : goal.returns-in_err-check_call
returns-in_err-check_call c =
    turned_down c.from_residual.ensures.1 (served-refused _ _ _ _ _ _ _ _ (sym c.check_call.ensures ∙ c.in_err-check_call.was))

pub loop-e-init : goal.loop-e-init
loop-e-init c = filled_none c.args.arcs.now

pub bounds-net-e : goal.bounds-net-e
bounds-net-e c = omega (arith, few (goal.at.bounds-net-e c).In_ok-check_call)

pub bounds-net-e-in-loop-e : goal.bounds-net-e-in-loop-e
bounds-net-e-in-loop-e c = omega (arith, few (goal.at.bounds-net-e-in-loop-e c).In_ok-check_call)

pub bounds-net-e-in-loop-e-2 : goal.bounds-net-e-in-loop-e-2
bounds-net-e-in-loop-e-2 c = omega (arith, few (goal.at.bounds-net-e-in-loop-e-2 c).In_ok-check_call)

pub bounds-net-e-in-loop-e-3 : goal.bounds-net-e-in-loop-e-3
bounds-net-e-in-loop-e-3 c = omega (arith, few (goal.at.bounds-net-e-in-loop-e-3 c).In_ok-check_call)

pub loop-e-preserved : goal.loop-e-preserved
loop-e-preserved c =
    let e = c.loop-e.e in
    let xs = c.args.arcs.now in
    ap (λ (net : List ℕ). put net e (slice_index_or xs e nil)) c.loop-e.invariant ∙ filled_more xs e

pub check_copy-requires : goal.check_copy-requires
check_copy-requires c = checking (passed (goal.at.check_copy-requires c).In_ok-check_call)

pub returns-in_err-check_copy : goal.returns-in_err-check_copy
returns-in_err-check_copy c =
    let a = c.args in
    turned_down c.from_residual-in_err-check_copy.ensures.1
    (served-loose _ _ _ _ _ _ _ (sym c.check_call.ensures ∙ c.in_ok-check_call.was) _
    (ap (λ (net : List ℕ). verdict (item_conditions (network_copied a.n (length a.arcs.now) net a.pairs.now (take a.n a.limits.now))))
    (sym (all (goal.at.returns-in_err-check_copy c).After-loop-e)) ∙ (sym c.check_copy.ensures ∙ c.in_err-check_copy.was)))

pub deliver-requires : goal.deliver-requires
deliver-requires c =
    record { sizes = passed (goal.at.deliver-requires c).In_ok-check_call; items = sym c.check_copy.ensures ∙ c.in_ok-check_copy.was }

pub returns : goal.returns
returns c =
    let a = c.args in
    let full = sym (all (goal.at.returns c).After-loop-e) in
    served-passed _ _ _ _ _ _ _ (sym c.check_call.ensures ∙ c.in_ok-check_call.was)
    (ap (λ (net : List ℕ). verdict (item_conditions (network_copied a.n (length a.arcs.now) net a.pairs.now (take a.n a.limits.now)))) full ∙
    (sym c.check_copy.ensures ∙ c.in_ok-check_copy.was))
    _ _ _
    (replied-same (ap (λ (net : List ℕ). network_copied a.n (length a.arcs.now) net a.pairs.now (take a.n a.limits.now)) (sym full)) c.deliver.ensures)
