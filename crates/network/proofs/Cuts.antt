-- What cutting a loop out of a path does to its arcs and its length.
-- Assumes nothing.
use mathlib.Core.Path.{ap}
use mathlib.Core.List.{List, ◌++◌}
use Prim.Native.Nat.{ℕ, ◌≤◌, ◌<◌}
use native.Mathlib.Omega.{arith}
use lib.ListN.{length, length-append}
use Rattle.network.specs.Network.{Network}
use Rattle.network.specs.Onward.{onward}
use Rattle.network.specs.Path.{Path, path_length}
use Rattle.network.specs.Resources.{uses}
use Rattle.network.proofs.Loops.{Loop}
use Rattle.network.proofs.Paths.{path-append}
use Rattle.network.proofs.Uses.{uses-length, onward-append}

module _ (net : Network) (v t : ℕ) (p : List ℕ) (r : Loop net v t p) where
  -- Without the loop it still leads to the same end,
  pub cut-path : Path net v t (r.front ++ r.back)
  cut-path = path-append net v r.at t r.front r.back r.comes r.leaves

  -- over fewer arcs,
  pub cut-fewer : length (r.front ++ r.back) < length p
  cut-fewer =
      omega (
        arith,
        ap length r.whole,
        r.real,
        length-append r.front r.back,
        length-append r.front (r.loop ++ r.back),
        length-append r.loop r.back,
      )

  -- and is no longer.
  pub cut-onward : (l : List ℕ) → onward net l v (r.front ++ r.back) ≤ onward net l v p
  cut-onward l =
      omega (
        arith,
        ap (onward net l v) r.whole,
        onward-append net l v r.at r.front r.back r.comes,
        onward-append net l v r.at r.front (r.loop ++ r.back) r.comes,
        onward-append net l r.at r.at r.loop r.back r.returns,
      )

  pub cut-no-longer : Path net v t p → (l : List ℕ) → path_length l (uses net v (r.front ++ r.back)) ≤ path_length l (uses net v p)
  cut-no-longer path l = omega (arith, cut-onward l, uses-length net l v t p path, uses-length net l v t (r.front ++ r.back) cut-path)
