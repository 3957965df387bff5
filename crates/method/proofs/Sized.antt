-- The sizes hold at every state of a run, the last included.
-- Assumes nothing.
use mathlib.Core.Path.{◌≡◌, ap}
use mathlib.Core.Option.{some}
use Prim.Native.Nat.{ℕ, ◌+◌, ◌*◌, ◌-◌, ◌^◌, ◌≤◌, ◌<◌}
use native.Mathlib.Nat.{mul-le-mul, mul-pos}
use native.Mathlib.Omega.{arith}
use lib.ListN.{get_or}
use Rattle.length.specs.Level.{level, threshold}
use Rattle.length.proofs.Bounds.{threshold-most}
use Rattle.network.specs.Network.{Network}
use Rattle.network.specs.Resources.{resources, resource_capacities, resource_capacity}
use Rattle.network.specs.Sound.{Sound}
use Rattle.network.proofs.Sounds.{resources-within}
use Rattle.packing.proofs.Count.{count-below}
use Rattle.packing.proofs.Sizes.{length-pos, length-below, volume-below, grown-below, bound-below, alpha-below, total-le}
use Rattle.method.specs.Choice.{Choice, used_by, choice}
use Rattle.method.specs.Iteration.{State, weight, draw, grown, advance}
use Rattle.method.specs.Sizes.{Sizes}
use Rattle.method.proofs.Instance.{seen, iterated, column, after-at}
use Rattle.arith.specs.Times.{times}
use Rattle.method.proofs.Programs.{program}
use Rattle.method.proofs.Reached.{Valid, Reached, valid-step, fair}

module _ (net : Network) (q : ℕ) (sound : Sound net q) where
  mark : q * level (resources net) q ≤ 1472
  unfolding threshold
  mark =
      let m = resources-within net q sound in
      let p = sound.counts.precision in
      threshold-most (resources net) q m.least m.most p.least p.most

  -- m * T iterations are more than enough.
  pub enough : resources net * (q * level (resources net) q - 1) < 0 + resources net * (q * level (resources net) q)
  enough =
      let p = program net q sound in
      let coarse : 0 < q = omega (arith, p.precision-low) in
      omega (arith, ap (λ x. resources net * x) (less_one (q * level (resources net) q) (mul-pos coarse p.level)), p.resources-low)
    where
      less_one : (n : ℕ) → 0 < n → n ≡ n - 1 + 1
      less_one n h = omega arith

  pub reached-count : (s : State) → Reached net q s → s.count < resources net * threshold (resources net) q
  unfolding seen threshold
  reached-count s r = omega (arith, enough, count-below (program net q sound) r.valid.run r.below)

  -- From what is known of the loads and the count.
  sizes :
      (s : State) → Valid net q s → ((e : ℕ) → e < resources net → get_or s.loads e 0 < q * level (resources net) q * resource_capacity net e + resource_capacity net e) →
      s.count ≤ resources net * (q * level (resources net) q - 1) + 1 → Sizes net s
  unfolding seen weight
  sizes s v loads count =
      let p = program net q sound in
      let few : s.count ≤ 376577 = omega (arith, count, mul-le-mul p.resources-high (less mark)) in
      record {
        length-low = length-pos p v.run;
        length_high = length-below p v.run;
        weight-high = volume-below p v.run;
        load-high = λ e l. omega (arith, loads e l, mul-le-mul mark (p.capacity-high e l), p.capacity-high e l);
        total-high = omega (arith, total-le p v.run);
        count-high = few;
        best-high = v.which;
        bound-high = bound-below p v.run;
        alpha-high = alpha-below p v.run;
      }
    where
      less : {n : ℕ} → n ≤ 1472 → n - 1 ≤ 1471
      less h = omega arith

  pub reached-sizes : (s : State) → Reached net q s → Sizes net s
  unfolding seen
  reached-sizes s r =
      sizes s r.valid (λ e l. omega (arith, r.below e l))
      (omega (arith, count-below (program net q sound) r.valid.run r.below))

  -- One iteration further, whether or not the run ends there.
  pub next-sizes : (s : State) → Reached net q s → (c : Choice) → choice net s.lengths ≡ some c → Sizes net (advance net q c s)
  unfolding seen
  next-sizes s r c h =
      let i = iterated net q c s (fair net q sound s r.valid c h) in
      sizes (advance net q c s) (valid-step net q sound s r.valid c h)
      (λ e l. omega (arith, r.below e l, i.load e l, i.column.within e l))
      (omega (arith, i.count, count-below (program net q sound) r.valid.run r.below))

  -- The lengths of an iteration as grown, before any halving.
  pub grown-sizes :
      (s : State) → Valid net q s → (c : Choice) → choice net s.lengths ≡ some c → (e : ℕ) → e < resources net →
      get_or (grown net q (draw (resource_capacities net) (used_by net c)) (used_by net c) s.lengths) e 0 < 2 ^ 41
  unfolding seen
  grown-sizes s v c h e l =
      let f = fair net q sound s v c h in
      rw (after-at net q c s f e l)
      (grown-below (program net q sound) v.run (λ e. times e (used_by net c) * draw (resource_capacities net) (used_by net c)) (column net q c s f).within e l)
