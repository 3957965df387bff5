-- What a caller of the reader knows: the network that the file holds, or why it is turned down.
-- Assumes nothing.
use mathlib.Core.Path.{◌≡◌, refl, sym, ap, ◌∙◌}
use mathlib.Core.List.{List, [], ◌∷◌}
use Prim.Native.Nat.{ℕ}
use native.Mathlib.Omega.{arith}
use lib.ListN.{length, get_or, take, replicate}
use lib.Seq.{take_at}
use Rattle.network.specs.Network.{Network}
use Rattle.network.specs.declared.Refusal.{Refusal}
use Rattle.std.specs.Prelude.{Result, Ok, Err}
use Rattle.dimacs.specs.File.{File, holds, refused, parsed}
use Rattle.dimacs.specs.OneCommodity.{OneCommodity}
use Rattle.dimacs.specs.Result.{padded, result_of}
use Rattle.dimacs.specs.declared.Parsed.{Parsed}
use Rattle.dimacs.proofs.Holds.{network-sizes}

-- the network that the reader hands over: the first entries of its tables
abbrev pub handed_over : Parsed → Network
handed_over r =
    record {
      nodes = r.nodes;
      tails = take r.arcs r.tails;
      heads = take r.arcs r.heads;
      capacities = take r.arcs r.capacities;
      marks = replicate r.arcs 0;
      limits = [];
      sources = r.source ∷ [];
      sinks = r.sink ∷ [];
    }

cut : {n : ℕ} (xs : List ℕ) → length xs ≡ n → take n (padded xs) ≡ xs
unfolding padded
cut {n} xs e = take_at xs _ n e

one : (xs : List ℕ) → length xs ≡ 1 → get_or xs 0 0 ∷ [] ≡ xs
one [] h = absurd (omega arith)
one (x ∷ []) h = refl
one (x ∷ y ∷ xs) h = absurd (omega arith)

same_Ok : {r p : Parsed} → ◌≡◌ {A = Result Parsed Refusal} (Ok r) (Ok p) → r ≡ p
same_Ok e = cc

unpadded : (net : Network) → OneCommodity net → {r : Parsed} → Ok r ≡ result_of (holds net) → handed_over r ≡ net
unfolding result_of
unpadded net s {r} e =
    rw (same_Ok e)
    (rw (
      cut net.tails refl,
      cut net.heads s.of-heads,
      cut net.capacities s.of-capacities,
      s.of-marks,
      s.of-limits,
      one net.sources s.of-sources,
      one net.sinks s.of-sinks,
    ))

module _ (text : List ℕ) where
  -- Accepted: the file holds the network handed over.
  pub accepted-holds : {r : Parsed} → Ok r ≡ result_of (parsed text) → parsed text ≡ holds (handed_over r)
  unfolding result_of
  accepted-holds {r} e = by (parsed text) refl
    where
      by : (o : File) → parsed text ≡ o → parsed text ≡ holds (handed_over r)
      by (holds net) h = h ∙ ap holds (sym (unpadded net (network-sizes text h) (e ∙ ap result_of h)))
      by (refused w) h = let q : ◌≡◌ {A = Result Parsed Refusal} (Ok r) (Err w) = e ∙ ap result_of h in cc

  -- Refused: the file is turned down for the same reason.
  pub refused_why : {w : Refusal} → Err w ≡ result_of (parsed text) → parsed text ≡ refused w
  unfolding result_of
  refused_why {w} e = by (parsed text) refl
    where
      by : (o : File) → parsed text ≡ o → parsed text ≡ refused w
      by (holds net) h = let q : Err w ≡ result_of (holds net) = e ∙ ap result_of h in cc
      by (refused u) h = let q : ◌≡◌ {A = Result Parsed Refusal} (Err w) (Err u) = e ∙ ap result_of h in cc
