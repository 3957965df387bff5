-- `step::step` meets its contract: its parts are those of the method's step. Assumes nothing.
use mathlib.Core.Path.{◌≡◌, refl, ap₂, ◌∙◌}
use mathlib.Core.Bool.{true, false, cond}
use mathlib.Core.List.{List}
use Prim.Native.Nat.{ℕ}
use Rattle.network.specs.Resources.{resource_capacities}
use Rattle.method.specs.Choice.{used_by}
use Rattle.method.specs.Iteration.{draw}
use Rattle.packed.specs.Packed.{net_in, put, loads_from, lengths_in, loads_in, kept_in}
use Rattle.step.specs.Progress.{state_of, state_in}
use Rattle.step.specs.Steps.{chosen_in, Stepped}
use Rattle.step.proofs.Parts.{loading, lengthening}
use Rattle.step.proofs.Stepped.{put-together}
use Rattle.step.proofs.Tabled.{Tabled, tabled, with-lengths, with-loads, keeps, in-slice}
use Rattle.step.proofs.step.Goals as goal
use Rattle.step.proofs.step.Goals.{After-draw-g, Joined-better, After-load-ended, Start, then-better, else-better}

-- The slices of the capacities and of the path hold what the definitions say, so that the draw is the method's.
drawn : (c : After-draw-g) →
    let a = c.args in
    let net = net_in a.net.now.shape a.net.now.numbers.now in
    c.draw-g.result ≡ draw (resource_capacities net) (used_by net (chosen_in a.c a.path.now))
drawn c = c.draw-g.ensures ∙ ap₂ draw c.requires.caps-are c.requires.path-is

-- the tables of the resources at entry
abbrev L : Start → List ℕ
L c = lengths_in c.args.net.now.shape c.args.tables.now

abbrev Y : Start → List ℕ
Y c = loads_in c.args.net.now.shape c.args.tables.now

-- The tables after each step that changes them.
kept : (c : Joined-better) →
    let a = c.args in
    let s = (goal.at.Joined-better c).Start in
    let K = kept_in a.net.now.shape a.tables.now in
    Tabled a.net.now.shape.resources c.if-better.tables (L s) (Y s) (cond c.less_product-better.result (L s) K)
kept c =
    let T = tabled c.args.net.now.shape.resources c.args.tables.now c.requires.few c.requires.places in
    let better = c.less_product-better.result in
    elim c.if-better.branch [
      | then-better w ↦
          let yes : better ≡ true = w.if-better.true in
          rw (w.tables-is, yes) (keeps T w.copy_within.ensures)
      | else-better w ↦ let no : better ≡ false = w.if-better.false in rw (w.tables-is, no) T
    ]

loaded : (c : After-load-ended) →
    let a = c.args in
    let s = (goal.at.After-load-ended c).Start in
    let loads = c.load-ended.new.loads in
    Tabled a.net.now.shape.resources (put loads_from a.net.now.shape.resources c.if-better.tables loads) (L s) loads
    (cond c.less_product-better.result (L s) (kept_in a.net.now.shape a.tables.now))
loaded c = with-loads (kept (goal.at.After-load-ended c).Joined-better) c.load-ended.new.loads c.load-ended.auto.loads

pub load-ended-requires : goal.load-ended-requires
load-ended-requires c =
    let r = c.requires in
    loading r.stepping r.kept (drawn (goal.at.load-ended-requires c).After-draw-g) r.caps-are r.path-is
    (kept (goal.at.load-ended-requires c).Joined-better).loads

pub lengthen-grown-requires : goal.lengthen-grown-requires
lengthen-grown-requires c =
    let r = c.requires in
    lengthening r.stepping r.kept (drawn (goal.at.lengthen-grown-requires c).After-draw-g) r.caps-are r.path-is
    (loaded (goal.at.lengthen-grown-requires c).After-load-ended).lengths

pub returns : goal.returns
returns c =
    let a = c.args in
    let r = c.requires in
    let T = loaded (goal.at.returns c).After-load-ended in
    in-slice (with-lengths T c.lengthen-grown.new.lengths c.lengthen-grown.auto.lengths)
    (λ L' Y' K'.
    Stepped (net_in a.net.now.shape a.net.now.numbers.now) a.q a.threshold (chosen_in a.c a.path.now) (state_in a.net.now.shape a.flow.now a.tables.now a.p)
    (state_of L' c.push.new.flow Y' K' c.counted.result) c.counted.result)
    (put-together _ _ _ _ _ _ _ _ a.p r.stepping.growing.same r.caps-are r.path-is r.kept.weight r.stepping.alpha
    (drawn (goal.at.returns c).After-draw-g) c.less_product-better.ensures refl c.push.ensures
    (kept (goal.at.returns c).Joined-better).loads c.load-ended.ensures T.lengths c.lengthen-grown.ensures
    c.counted.ensures)
