-- A draw over one arc of a packed network: what the tail's test says of it. Assumes nothing.
use mathlib.Core.Path.{◌≡◌, refl, sym, ◌∙◌}
use mathlib.Core.Bool.{Bool, true, false, cond}
use mathlib.Core.List.{List}
use Prim.Native.Nat.{ℕ, ◌+◌}
use borrow.Author.Tests.{eq-eqb, ne_eqb}
use lib.IntN.{ℤ, pos, ◌+ℤ◌, ◌-ℤ◌}
use lib.ListN.{get_or, set}
use Rattle.signed.specs.Signed.{moved}
use Rattle.network.specs.Network.{tail, head}
use Rattle.network.specs.Path.{forward, beyond}
use Rattle.packed.specs.Packed.{net_in, tails_from, heads_from}
use Rattle.packed.specs.declared.Shape.{Shape}
use Rattle.packed.proofs.Columns.{part_at}
use Rattle.method.specs.Iteration.{crossed}
use Rattle.tables.specs.Calls.{Crossing}

module _ {s : Shape} {net : List ℕ} {base g e : ℕ} {flow : List ℤ} (C : Crossing s net base g e flow) (v : ℕ) where
  tail-read : tail (net_in s net) e ≡ get_or net (tails_from + e) 0
  unfolding net_in
  tail-read = part_at tails_from s.arcs net e C.arc

  head_read : head (net_in s net) e ≡ get_or net (heads_from + e) 0
  unfolding net_in
  head_read = part_at heads_from s.arcs net e C.arc

  -- Stored at the arc's place and handed back by way b.
  abbrev Crosses : ℤ → ℕ → Type 0
  Crosses y w = (set flow (base + e) y ≡ crossed (net_in s net) base g v e flow) × (w ≡ beyond (net_in s net) v e)

  by_way : (b : Bool) → forward (net_in s net) v e ≡ b → {y : ℤ} → y ≡ moved b g (get_or flow (base + e) (pos 0)) → {w : ℕ} →
      w ≡ cond b (get_or net (heads_from + e) 0) (get_or net (tails_from + e) 0) → Crosses y w
  by_way b f p q = rw (f, p, q, head_read, tail-read) (refl, refl)

  pub from_tail : get_or net (tails_from + e) 0 ≡ v → {y : ℤ} → y ≡ get_or flow (base + e) (pos 0) +ℤ pos g → Crosses y (get_or net (heads_from + e) 0)
  from_tail q p = by_way true (eq-eqb _ _ (tail-read ∙ q)) p refl

  pub from-head : (get_or net (tails_from + e) 0 ≡ v → ⊥) → {y : ℤ} → y ≡ get_or flow (base + e) (pos 0) -ℤ pos g → Crosses y (get_or net (tails_from + e) 0)
  from-head q p = by_way false (ne_eqb _ _ (λ (r : tail (net_in s net) e ≡ v). q (sym tail-read ∙ r))) p refl
