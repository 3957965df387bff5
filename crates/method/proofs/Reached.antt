-- What holds at every state that the run reaches before its end, and after one more iteration.
-- Assumes nothing.
use mathlib.Core.Path.{◌≡◌, refl, ap, ◌∙◌}
use mathlib.Core.Bool.{Bool, true, false, cond}
use mathlib.Core.Option.{some}
use mathlib.Core.List.{List, [], ◌∷◌, map}
use Prim.Native.Nat.{ℕ, suc, ◌*◌, ◌≤◌, ◌<◌}
use native.Mathlib.Nat.{mul-pos}
use native.Mathlib.Omega.{arith}
use borrow.Author.Tests.{leb-false, ltb-false}
use lib.Dec.{leb, ltb}
use lib.ListN.{length, get_or, length-map, length-replicate}
use Rattle.arith.specs.Lists.{exists}
use Rattle.arith.proofs.Exists.{exists-false}
use Rattle.arith.proofs.Lists.{map_at}
use Rattle.length.specs.Level.{level, threshold}
use Rattle.length.specs.Length.{scale, mark, start, halving}
use Rattle.network.specs.Network.{Network}
use Rattle.network.specs.Path.{path_length}
use Rattle.network.specs.Resources.{resources, resource_capacities, resource_capacity}
use Rattle.network.specs.Sound.{Sound}
use Rattle.network.proofs.Paths.{length-le-path_length}
use Rattle.network.proofs.Resources.{resource-capacities-length}
use Rattle.network.proofs.Sounds.{sound-ends, resource-capacity-within}
use Rattle.packing.proofs.Run as packing
use Rattle.packing.proofs.Sizes.{length-pos}
use Rattle.method.specs.Choice.{Choice, used_by, choice}
use Rattle.method.specs.Chosen.{Chosen}
use Rattle.method.specs.Iteration.{State, initial, weight, draw, grown, settled, advance}
use Rattle.method.specs.Run.{ended}
use Rattle.method.proofs.Bound.{Far}
use Rattle.method.proofs.Choosing.{chosen}
use Rattle.method.proofs.Draws.{At, draw-whole}
use Rattle.method.proofs.Instance.{seen, Fair, iterated}
use Rattle.method.proofs.Once.{distinct-once}
use Rattle.method.proofs.Programs.{program}
use Rattle.method.proofs.Table.{Table, zeros, table-start, table_step}
use Rattle.method.proofs.Times.{Below, update-length}
use Rattle.method.proofs.Used.{members-below, chosen-below, chosen-distinct, chosen-some}

-- The kept fraction is 1 over 0, or D over alpha for the kept lengths, by which no path is shorter than alpha.
pub data Best (net : Network) (bound alpha : ℕ) (l : List ℕ) : Type 0 where
  unset : bound ≡ 1 → alpha ≡ 0 → Best net bound alpha l
  kept : bound ≡ weight net l → Far net l alpha → Best net bound alpha l

-- What holds of a state whether or not the run ends there.
pub record Valid (net : Network) (q : ℕ) (s : State) : Type 0 where
  pub run : packing.Run (resources net) q (resource_capacity net) (seen s)
  pub table : Table net s.flow s.loads s.total
  pub lengths : length s.lengths ≡ resources net
  pub bests : length s.best_lengths ≡ resources net
  pub best : Best net s.bound s.alpha s.best_lengths
  pub which : s.best ≤ s.count

-- ... and every load is still below the threshold.
pub record Reached (net : Network) (q : ℕ) (s : State) : Type 0 where
  pub valid : Valid net q s
  pub below : packing.Below (resources net) q (level (resources net) q) (resource_capacity net) (seen s)

module _ (net : Network) (q : ℕ) (sound : Sound net q) where
  positive : (s : State) → Valid net q s → (e : ℕ) → e < resources net → 1 ≤ get_or s.lengths e 0
  unfolding seen
  positive s v e l = length-pos (program net q sound) v.run e l

  pub chosen_at : (s : State) → Valid net q s → (c : Choice) → choice net s.lengths ≡ some c → Chosen net s.lengths c
  chosen_at s v c h = chosen net s.lengths (sound-ends net q sound) c h

  used-below : (s : State) → Valid net q s → (c : Choice) → Chosen net s.lengths c → Below (resources net) (used_by net c)
  used-below s v c x = members-below (used_by net c) (chosen-below net s.lengths c x (sound-ends net q sound))

  whole : (caps p : List ℕ) → 1 ≤ length p → At caps p (draw caps p)
  whole caps [] h = absurd (omega arith)
  whole caps (e ∷ p) h = draw-whole caps e p

  pub fair : (s : State) → Valid net q s → (c : Choice) → choice net s.lengths ≡ some c → Fair net q (used_by net c) s
  fair s v c h =
      let x = chosen_at s v c h in
      record {
        coarse = omega (arith, sound.counts.precision.least);
        positive = λ e l. (resource-capacity-within net q sound e l).least;
        below = used-below s v c x;
        once = distinct-once (chosen-distinct net s.lengths c x);
        whole = whole (resource_capacities net) (used_by net c) (chosen-some net s.lengths c x (sound-ends net q sound));
        lengths = v.lengths;
        loads = v.table.places;
      }

  settled-length : (l : List ℕ) → length (settled net l) ≡ length l
  unfolding settled
  settled-length l = by-test (exists (resources net) (λ e. leb mark (get_or l e 0)))
    where
      by-test : (t : Bool) → length (cond t (map halving l) l) ≡ length l
      by-test true = length-map l halving
      by-test false = refl

  -- A chosen path has length.
  pub chosen-pos : (s : State) → Valid net q s → (c : Choice) → Chosen net s.lengths c → 1 ≤ path_length s.lengths (used_by net c)
  chosen-pos s v c x =
      omega (
        arith,
        chosen-some net s.lengths c x (sound-ends net q sound),
        length-le-path_length s.lengths (used_by net c) (λ e m. positive s v e (chosen-below net s.lengths c x (sound-ends net q sound) e m)),
      )

  -- A smaller fraction is kept with its lengths; else there was one before, since the first is always smaller than 1 over 0.
  best-step :
      (s : State) → Valid net q s → (c : Choice) → Chosen net s.lengths c →
      Best net (advance net q c s).bound (advance net q c s).alpha (advance net q c s).best_lengths
  unfolding advance
  best-step s v c x = by-test (ltb (d * s.alpha) (s.bound * a)) refl v.best
    where
      a : ℕ
      a = path_length s.lengths (used_by net c)

      d : ℕ
      d = weight net s.lengths

      by-test :
          (t : Bool) → ltb (d * s.alpha) (s.bound * a) ≡ t → Best net s.bound s.alpha s.best_lengths →
          Best net (cond t d s.bound) (cond t a s.alpha) (cond t s.lengths s.best_lengths)
      by-test true h b = kept refl (λ i l p r. x.shortest i p l r)
      by-test false h (kept e f) = kept e f
      by-test false h (unset e f) =
          absurd (omega (arith, ltb-false (d * s.alpha) (s.bound * a) h, ap (λ t. t * a) e, ap (λ t. d * t) f, chosen-pos s v c x))

  bests-length :
      (s : State) → Valid net q s → (c : Choice) → length (advance net q c s).best_lengths ≡ resources net
  unfolding advance
  bests-length s v c = by-test (ltb (weight net s.lengths * s.alpha) (s.bound * path_length s.lengths (used_by net c)))
    where
      by-test : (t : Bool) → length (cond t s.lengths s.best_lengths) ≡ resources net
      by-test true = v.lengths
      by-test false = v.bests

  which-step : (s : State) → Valid net q s → (c : Choice) → (advance net q c s).best ≤ (advance net q c s).count
  unfolding advance
  which-step s v c = by-test (ltb (weight net s.lengths * s.alpha) (s.bound * path_length s.lengths (used_by net c))) _ (omega arith)
    where
      -- Only that the number is none of a later iteration: which one it is, is shown in proofs/Tightest.
      by-test : (t : Bool) (x : ℕ) → x ≤ suc s.count → cond t x s.best ≤ suc s.count
      by-test true x h = h
      by-test false x h = omega (arith, v.which)

  lengths-length : (s : State) → Valid net q s → (c : Choice) → length (advance net q c s).lengths ≡ resources net
  unfolding advance grown
  lengths-length s v c = settled-length _ ∙ (update-length _ (used_by net c) s.lengths ∙ v.lengths)

  -- An iteration keeps all this.
  pub valid-step : (s : State) → Valid net q s → (c : Choice) → choice net s.lengths ≡ some c → Valid net q (advance net q c s)
  valid-step s v c h =
      let x = chosen_at s v c h in
      record {
        run = packing.Run.next v.run (iterated net q c s (fair s v c h));
        table = table_step net q c s x (used-below s v c x) ((sound-ends net q sound).apart c.commodity x.commodity) v.table;
        lengths = lengths-length s v c;
        bests = bests-length s v c;
        best = best-step s v c x;
        which = which-step s v c;
      }

  -- The run has not ended, so every load is below the threshold.
  pub not-ended : (s : State) → ended net q s ≡ false → packing.Below (resources net) q (level (resources net) q) (resource_capacity net) (seen s)
  unfolding ended threshold seen
  not-ended s h e l =
      leb-false _ _ (exists-false (resources net) (λ e. leb (q * level (resources net) q * resource_capacity net e) (get_or s.loads e 0)) h e l)

  pub valid-start : Valid net q (initial net)
  unfolding initial seen start scale
  valid-start =
      record {
        run =
            packing.Run.start
            (record {
              length = λ e l. map_at start (resource_capacities net) e (rw (resource-capacities-length net) l);
              load = λ e l. zeros (resources net) e;
              total = refl;
              count = refl;
              bound = refl;
              alpha = refl;
            });
        table = table-start net;
        lengths = length-map (resource_capacities net) start ∙ resource-capacities-length net;
        bests = length-replicate (resources net) 0;
        best = unset refl refl;
        which = omega arith;
      }

  -- Nothing is loaded at the start.
  pub reached-start : Reached net q (initial net)
  unfolding initial seen
  reached-start =
      record {
        valid = valid-start;
        below = λ e l.
            let p = program net q sound in
            let coarse : 0 < q = omega (arith, p.precision-low) in
            omega (arith, zeros (resources net) e, mul-pos (mul-pos coarse p.level) (p.capacity-low e l));
      }
