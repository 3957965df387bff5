-- A flow times a whole number: balance, sizes, uses and total are multiplied by it. Assumes nothing.
use mathlib.Core.Path.{◌≡◌, ap, ◌∙◌}
use mathlib.Core.Bool.{Bool, true, false, cond}
use mathlib.Core.Logic.{⊎_elim}
use Prim.Native.Nat.{ℕ, ◌*◌, ◌≤◌, ◌<◌, max}
use native.Mathlib.Nat.{mul-le-mul_left}
use native.Mathlib.Omega.{arith}
use lib.Dec.{eqb}
use lib.IntN.{ℤ, pos, ◌*ℤ◌}
use Rattle.arith.specs.Sum.{sum}
use Rattle.arith.proofs.Order.{le-or-lt}
use Rattle.arith.proofs.Sums.{sum-cong, sum-scale}
use Rattle.signed.specs.Signed.{ahead, back, size}
use Rattle.signed.proofs.Multiplied.{ahead-times, back-times}
use Rattle.network.specs.Flow.{Flow, Keeps, passing, outflow, inflow, sizes_on, use_of, leaving, entering}
use Rattle.network.specs.Network.{Network, arcs, commodities, tail, head, source}

-- a times the flow f
unfoldable pub scaled : ℕ → (ℕ → ℕ → ℤ) → ℕ → ℕ → ℤ
scaled a f i e = pos a *ℤ f i e

max-times : (a x y : ℕ) → max (a * x) (a * y) ≡ a * max x y
max-times a x y =
    ⊎_elim
    (λ (h : x ≤ y). let m : max x y ≡ y = omega arith in omega (arith, mul-le-mul_left a h, ap (λ t. a * t) m))
    (λ (h : y < x). let m : max x y ≡ x = omega arith in let l : y ≤ x = omega arith in omega (arith, mul-le-mul_left a l, ap (λ t. a * t) m))
    (le-or-lt x y)

sum-times : (n a : ℕ) (f g : ℕ → ℕ) → ((i : ℕ) → g i ≡ a * f i) → sum n g ≡ a * sum n f
sum-times n a f g h = sum-cong n g (λ i. a * f i) (λ i l. h i) ∙ sum-scale n a f

passing-times : (m a : ℕ) (end x y : ℕ → ℕ) (v : ℕ) → ((e : ℕ) → y e ≡ a * x e) → passing m end y v ≡ a * passing m end x v
unfolding passing
passing-times m a end x y v h =
    sum-times m a (λ e. cond (eqb (end e) v) (x e) 0) (λ e. cond (eqb (end e) v) (y e) 0) (λ e. by-test (eqb (end e) v) e)
  where
    by-test : (b : Bool) (e : ℕ) → cond b (y e) 0 ≡ a * cond b (x e) 0
    by-test true e = h e
    by-test false e = omega arith

module _ (net : Network) (a : ℕ) (f : ℕ → ℕ → ℤ) where
  out-times : (i v : ℕ) → outflow net (scaled a f i) v ≡ a * outflow net (f i) v
  unfolding outflow scaled
  out-times i v =
      omega (
        arith,
        passing-times (arcs net) a (tail net) (λ e. ahead (f i e)) (λ e. ahead (pos a *ℤ f i e)) v (λ e. ahead-times a (f i e)),
        passing-times (arcs net) a (head net) (λ e. back (f i e)) (λ e. back (pos a *ℤ f i e)) v (λ e. back-times a (f i e)),
      )

  in-times : (i v : ℕ) → inflow net (scaled a f i) v ≡ a * inflow net (f i) v
  unfolding inflow scaled
  in-times i v =
      omega (
        arith,
        passing-times (arcs net) a (head net) (λ e. ahead (f i e)) (λ e. ahead (pos a *ℤ f i e)) v (λ e. ahead-times a (f i e)),
        passing-times (arcs net) a (tail net) (λ e. back (f i e)) (λ e. back (pos a *ℤ f i e)) v (λ e. back-times a (f i e)),
      )

  pub scaled-flow : Flow net f → Flow net (scaled a f)
  unfolding scaled
  scaled-flow flow =
      record {
        balance = λ i v b low high ns nt. omega (arith, in-times i v, out-times i v, ap (λ x. a * x) (flow.balance i v b low high ns nt));
        one_way = λ i e b l m. omega (arith, back-times a (f i e), ap (λ x. a * x) (flow.one_way i e b l m));
      }

  sizes-times : (e : ℕ) → sizes_on net (scaled a f) e ≡ a * sizes_on net f e
  unfolding sizes_on scaled
  sizes-times e =
      sum-times (commodities net) a (λ i. size (f i e)) (λ i. size (pos a *ℤ f i e)) (λ i. omega (arith, ahead-times a (f i e), back-times a (f i e)))

  use-times : (v : ℕ) → use_of net (scaled a f) v ≡ a * use_of net f v
  unfolding use_of
  use-times v =
      sum-times (commodities net) a (λ i. max (inflow net (f i) v) (outflow net (f i) v))
      (λ i. max (inflow net (scaled a f i) v) (outflow net (scaled a f i) v))
      (λ i. rw (in-times i v, out-times i v) (max-times a (inflow net (f i) v) (outflow net (f i) v)))

  -- What f keeps times a over d, a times f keeps over d.
  pub scaled-keeps : (d : ℕ) → Keeps net a d f → Keeps net 1 d (scaled a f)
  scaled-keeps d keeps =
      record {
        within = λ e l. omega (arith, sizes-times e, keeps.within e l);
        limits = λ v l h. omega (arith, use-times v, keeps.limits v l h);
      }

  pub leaving-times : leaving net (scaled a f) ≡ a * leaving net f
  unfolding leaving
  leaving-times =
      sum-times (commodities net) a (λ i. outflow net (f i) (source net i)) (λ i. outflow net (scaled a f i) (source net i)) (λ i. out-times i (source net i))

  pub entering-times : entering net (scaled a f) ≡ a * entering net f
  unfolding entering
  entering-times =
      sum-times (commodities net) a (λ i. inflow net (f i) (source net i)) (λ i. inflow net (scaled a f i) (source net i)) (λ i. in-times i (source net i))
