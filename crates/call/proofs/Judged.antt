-- The verdict of a call whose sizes have passed is that on its arcs, limits and commodities, and what each verdict leaves.
-- Assumes nothing.
use mathlib.Core.Path.{◌≡◌, refl, sym, ap, ◌∙◌}
use mathlib.Core.List.{List}
use Prim.Native.Nat.{ℕ, ◌*◌, ◌-◌, ◌^◌, ◌<◌}
use Rattle.network.specs.Network.{Network, arcs, commodities}
use Rattle.network.specs.Refusal.{host_number, Verdict, Accepted, Refused}
use Rattle.network.specs.Resources.{resources}
use Rattle.network.specs.Sound.{Counts}
use Rattle.network.specs.Verdict.{verdict, item_conditions, afterwards}
use Rattle.network.specs.declared.Refusal.{Refusal}
use Rattle.network.proofs.Accepted.{items-accepted}
use Rattle.network.proofs.Decided.{no-refusal}
use Rattle.network.proofs.HostNumber.{items-fit}
use Rattle.numbers.specs.Numbers.{count}
use Rattle.packed.specs.Packed.{put, net_in, Packed, Lent}
use Rattle.packed.specs.declared.Shape.{Shape}
use Rattle.packed.proofs.Columns.{arcs-is, commodities-is}
use Rattle.method.specs.Answer.{outcome}
use Rattle.call.specs.Deliver.{slices, Delivered}
use Rattle.call.specs.Host.{Slices, solved, called, Served}
use Rattle.call.specs.Serve.{Judged}
use Rattle.call.proofs.Offices.{own, own-raised, own-kept}

module _ {s : Shape} {xs : List ℕ} (p : Packed s xs) (q : ℕ) (k : Counts s.nodes s.arcs s.resources s.commodities q)
    (r : s.resources ≡ resources (net_in s xs)) where
  counts : Counts (net_in s xs).nodes (arcs (net_in s xs)) (resources (net_in s xs)) (commodities (net_in s xs)) q
  unfolding net_in
  counts = rw (arcs-is p, commodities-is p, ← r) k

  pub fits : host_number (verdict (item_conditions (net_in s xs))) < 2 ^ 64
  fits = items-fit (net_in s xs) q counts

  -- Accepted: the network is sound.
  pub lends : verdict (item_conditions (net_in s xs)) ≡ Accepted → Lent s q xs
  lends h = record { sound = items-accepted (net_in s xs) q counts h; packed = p; counted = r }

-- The network as it was read is that in the bytes.
pub judged-of : {net net' : Network} {q : ℕ} {old new : Slices} {r : ℕ} → net ≡ net' → Judged net q old new r → Judged net' q old new r
judged-of e h = rw e at h

module _ (net : Network) (q : ℕ) (v : Verdict) (old : Slices) (r : ℕ) where
  -- A refusal leaves everything as it was, whichever the office.
  pub served-refused : (office : ℕ) (w : Refusal) → v ≡ Refused w → r ≡ host_number v → Served net q office v old old r
  unfolding afterwards
  served-refused office w e h =
      record {
        returned = h;
        left = rw e refl;
        guarantee = λ a. absurd (no-refusal (sym a ∙ e));
      }

  pub served-accepted : (new : Slices) → v ≡ Accepted → r ≡ 0 → Delivered net q old new → Served net q 1 v old new r
  unfolding afterwards
  served-accepted new e h d =
      record {
        returned = rw e h;
        left = rw e d.left;
        guarantee = λ a. d.guarantee;
      }

-- Served with the office's own count lent by itself, and put back: served.
module _ (office : ℕ) (s : Slices) (h : office - 1 < count s.counts) where
  abbrev lent : Slices
  lent = slices s.flow s.lengths s.answer (own office s.counts h)

  abbrev back : Slices → Slices
  back t = slices t.flow t.lengths t.answer (put (8 * (office - 1)) 8 s.counts t.counts)

  put_back : (net : Network) (q : ℕ) (v : Verdict) → back (called net q 1 v lent) ≡ called net q office v s
  unfolding afterwards
  put_back net q Accepted =
      let t = solved net q office s in ap (slices t.flow t.lengths t.answer) (own-raised office s.counts h (outcome net q).answer.count)
  put_back net q (Refused w) = ap (slices s.flow s.lengths s.answer) (own-kept office s.counts h)

  pub served-own : {net : Network} {q : ℕ} {v : Verdict} {t : Slices} {r : ℕ} → Served net q 1 v lent t r → Served net q office v s (back t) r
  served-own {net} {q} {v} k = record { returned = k.returned; left = ap back k.left ∙ put_back net q v; guarantee = k.guarantee }
