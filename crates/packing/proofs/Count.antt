-- The count of iterations: each one draws the whole capacity of some resource
-- (docs/GUARANTEE.md, "The argument", step 6). Assumes nothing.
use mathlib.Core.Path.{◌≡◌, ap}
use Prim.Native.Nat.{ℕ, ◌+◌, ◌*◌, ◌-◌, ◌/◌, ◌≤◌, ◌<◌}
use native.Mathlib.Nat.{le_trans, le-div_iff_mul-le, div-lt_iff_lt-mul, div-mul-le_self, mul-le-mul}
use native.Mathlib.Omega.{arith}
use Rattle.arith.specs.Sum.{sum}
use Rattle.arith.proofs.Sums.{sum-le, sum-const, sum_lt}
use Rattle.packing.proofs.Program.{Program}
use Rattle.packing.proofs.Run.{State, Iteration, Run, Below}

-- one term less, and none greater
quotient-mono : (x y c : ℕ) → 0 < c → x ≤ y → x / c ≤ y / c
quotient-mono x y c p h = (le-div_iff_mul-le p).1 (le_trans (div-mul-le_self x c) h)

quotient-next : (x y c : ℕ) → 0 < c → x + c ≤ y → x / c < y / c
quotient-next x y c p h = (le-div_iff_mul-le p).1 (omega (arith, div-mul-le_self x c))

module _ {m q L : ℕ} {c : ℕ → ℕ} (p : Program m q L c) where
  -- how many whole capacities were drawn of each resource, added up
  drawn : State → ℕ
  drawn s = sum m (λ e. s.load e / c e)

  drawn-grows : {s t : State} → Iteration m q c s t → drawn s < drawn t
  unfolding drawn
  drawn-grows {s} {t} i =
      let k : ℕ = i.column.narrow in
      let b : k < m = i.column.inside in
      sum_lt m (λ e. s.load e / c e) (λ e. t.load e / c e) k b
      (λ e h. quotient-mono (s.load e) (t.load e) (c e) (p.capacity-low e h) (omega (arith, i.load e h)))
      (quotient-next (s.load k) (t.load k) (c k) (p.capacity-low k b) (omega (arith, i.load k b, i.column.used, i.column.full)))

  counted : {s : State} → Run m q c s → s.count ≤ drawn s
  counted (Run.start h) = omega (arith, h.count)
  counted (Run.next r i) = omega (arith, counted r, drawn-grows i, i.count)

  -- While every load is below its mark, there were at most m * (T - 1) iterations.
  pub count-below : {s : State} → Run m q c s → Below m q L c s → s.count ≤ m * (q * L - 1)
  unfolding drawn
  count-below {s} r h =
      le_trans (counted r)
      (le_trans
      (sum-le m (λ e. s.load e / c e) (λ e. q * L - 1)
      (λ e b. let d : s.load e / c e < q * L = (div-lt_iff_lt-mul (p.capacity-low e b)).1 (h e b) in omega arith))
      (omega (arith, sum-const m (q * L - 1))))

  -- One more at the end.
  pub count-last : {s t : State} → Run m q c s → Below m q L c s → Iteration m q c s t → t.count ≤ m * (q * L - 1) + 1
  count-last r h i = omega (arith, count-below r h, i.count)

  -- At most m * T in all.
  pub count-all : {s t : State} → Run m q c s → Below m q L c s → Iteration m q c s t → t.count ≤ m * (q * L)
  count-all r h i =
      let d : 1 ≤ q * L = mul-le-mul {n₁ = 1} {m₁ = 1} (omega (arith, p.precision-low)) p.level in
      omega (arith, count-last r h i, ap (λ x. m * x) (pred-eq (q * L) d), p.resources-low)
    where
      pred-eq : (n : ℕ) → 1 ≤ n → n ≡ n - 1 + 1
      pred-eq n d = omega arith
