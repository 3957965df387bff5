-- `report::file::pack` meets its contract: each column takes its numbers, and those behind and before it stay. Assumes nothing.
use mathlib.Core.Path.{◌≡◌, refl}
use mathlib.Core.List.{List}
use Prim.Native.Nat.{ℕ}
use native.Mathlib.Omega.{arith}
use lib.ListN.{length, take}
use lib.Seq.{length-take-le}
use Rattle.report.specs.Shown.{shape_of}
use Rattle.report.proofs.Packing.{packed}
use Rattle.report.proofs.file.pack.Goals as goal

pub returns : goal.returns
returns c =
    let f = c.args.file.now in
    let many : (xs : List ℕ) → length xs ≡ 256 → length (take f.arcs xs) ≡ f.arcs = λ xs e. length-take-le f.arcs xs (omega (arith, c.requires.few)) in
    packed (shape_of f) c.requires.few c.args.net.now c.requires.places c.copy_from_slice.ensures.after c.copy_from_slice-2.ensures.after
    c.copy_from_slice-3.ensures.after f.source f.sink (many f.tails c.requires.of-tails) (many f.heads c.requires.of-heads)
    (many f.capacities c.requires.of-capacities) (c.fill.ensures.after (λ y e. cc)) refl refl
