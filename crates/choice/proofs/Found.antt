-- The choice from bounds: where the least bound is the length of a walk, that walk is the choice of document 01.
-- Assumes nothing.
use mathlib.Core.Path.{◌≡◌, refl}
use mathlib.Core.Option.{Option, none, some}
use mathlib.Core.List.{List}
use Prim.Native.Nat.{ℕ, ◌≤◌}
use native.Mathlib.Omega.{arith}
use lib.ListN.{get_or, take}
use Rattle.bounds.specs.Bounds.{most_nodes}
use Rattle.network.specs.Ends.{Ends}
use Rattle.network.specs.Network.{Network, commodities, source, sink}
use Rattle.network.specs.Path.{path_length}
use Rattle.network.specs.Resources.{uses}
use Rattle.network.proofs.Uses.{uses-length}
use Rattle.method.specs.Choice.{Choice, choice_of, choice}
use Rattle.method.proofs.Shortest.{choice-candidate}
use Rattle.method.proofs.Unique.{chosen-choice}
use Rattle.memory.specs.Below.{Below}
use Rattle.memory.specs.Least.{Least}
use Rattle.choice.specs.Closest.{Closest}
use Rattle.paths.specs.Far.{far_length, Bounded}
use Rattle.choice.proofs.Reach.{near-path}
use Rattle.paths.proofs.Simple.{walk-distinct}
use Rattle.paths.proofs.Telling.{walk-length}
use Rattle.paths.proofs.Walks.{walk-key, walk_first}

module _ {net : Network} {l bounds : List ℕ} {i : ℕ} (B : Below net l bounds) (L : Least bounds (commodities net) i) (ends : Ends net) (few : net.nodes ≤ most_nodes) where
  -- Where the least bound is far no commodity has a path as short as any joined one has, so none is joined and nothing is chosen.
  pub closest-none : Bounded net l → far_length ≤ get_or bounds i 0 → choice net l ≡ none
  closest-none lengths b = by-choice (choice net l) refl
    where
      by-choice : (o : Option Choice) → choice net l ≡ o → o ≡ none
      by-choice none h = refl
      by-choice (some c) h =
          let j : ℕ = c.commodity in
          let k = choice-candidate net l c h in
          let q =
          near-path l {far = far_length} ends lengths (omega arith) (source net j) (sink net j) (ends.sources j k.commodity) c.path k.path in
          absurd (omega (arith, q.2, B.lower j k.commodity q.0 q.1, L.least j k.commodity))

  -- Else the walk of its commodity is chosen, and alpha is the least bound. That no path as short
  -- has fewer arcs is the walk's own promise; by its key it is the first that has as few.
  pub closest-choice :
      {d path : List ℕ} {r : ℕ} → Closest net l bounds d i path r →
      (choice net l ≡ some (choice_of i (take r path))) × (path_length l (uses net (source net i) (take r path)) ≡ get_or bounds i 0)
  closest-choice {d} {path} {r} C =
      let p : List ℕ = take r path in
      let A = C.arrived in
      let w = A.walk in
      let F = C.feasible in
      let told = walk-length ends few F (ends.sources i L.among) w in
      let own = uses-length net l (source net i) (sink net i) p A.leads-to in
      let long : path_length l (uses net (source net i) p) ≡ get_or bounds i 0 = omega (arith, own, told, C.own) in (
        chosen-choice net l ends (choice_of i p)
            (record {
              commodity = L.among;
              path = A.leads-to;
              shortest = λ j q c h. omega (arith, L.least j c, B.lower j c q h);
              lowest = λ j q c h. omega (arith, L.lowest j c, B.lower j (omega (arith, L.among)) q h);
              fewest = λ q h e.
                  omega (arith, A.arcs, A.fewest q h (omega (arith, e, own, uses-length net l (source net i) (sink net i) q h)));
              first = λ q h e s b.
                  omega (arith, walk-key w, F.sink, walk_first F w q h b, own, uses-length net l (source net i) (sink net i) q h);
              distinct = walk-distinct F w;
              few = omega (arith, A.arcs, A.few);
            }),
        long,
      )
