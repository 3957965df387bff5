-- A slice that takes the columns of a network, one after the other, its one source and sink, then marks of 0, holds the network. Assumes nothing.
use mathlib.Core.Path.{◌≡◌, refl, ap, ◌∙◌}
use mathlib.Core.List.{List, [], ◌∷◌}
use Prim.Native.Nat.{ℕ, ◌+◌, ◌-◌, ◌≤◌, ◌<◌}
use native.Mathlib.Omega.{arith}
use lib.ListN.{length, set, take, drop, replicate, length-set, length-drop, length-replicate}
use lib.Seq.{drop-set-add, take-set-le}
use Rattle.packed.specs.Packed.{part, net_in, net_numbers, tails_from, heads_from, capacities_from, sources_from, sinks_from, marks_from, put}
use Rattle.packed.proofs.Columns.{part_length, put-length, part-put, part-before}
use Rattle.packed.specs.declared.Shape.{Shape}

-- A number that is put behind a column
behind : (a n : ℕ) (xs : List ℕ) (i v : ℕ) → n ≤ i → part a n (set xs (a + i) v) ≡ part a n xs
behind a n xs i v l = ap (take (a + n - a)) (drop-set-add a xs i v) ∙ take-set-le (a + n - a) (drop a xs) i v (omega arith)

-- and one that is put at a column of one.
alone : (ys : List ℕ) (v : ℕ) → 0 < length ys → take 1 (set ys 0 v) ≡ v ∷ []
alone [] v h = absurd (omega arith)
alone (y ∷ ys) v h = refl

module _ (s : Shape) (few : s.arcs ≤ 256) (xs : List ℕ) (places : net_numbers ≤ length xs) where
  module _ {t t' h h' c c' : List ℕ} (et : t' ≡ t) (eh : h' ≡ h) (ec : c' ≡ c) (source sink : ℕ)
      (many-t : length t ≡ s.arcs) (many-h : length h ≡ s.arcs) (many-c : length c ≡ s.arcs) where
    abbrev m : ℕ
    m = s.arcs

    abbrev tailed : List ℕ
    tailed = put tails_from m xs t'

    abbrev headed : List ℕ
    headed = put heads_from m tailed h'

    abbrev arced : List ℕ
    arced = put capacities_from m headed c'

    abbrev filled : List ℕ
    filled = set (set arced 768 source) 800 sink

    nt : length t' ≡ m
    nt = ap length et ∙ many-t

    nh : length h' ≡ m
    nh = ap length eh ∙ many-h

    nc : length c' ≡ m
    nc = ap length ec ∙ many-c

    long₁ : net_numbers ≤ length tailed
    long₁ = omega (arith, put-length tails_from m xs t' (omega arith) nt)

    long₂ : net_numbers ≤ length headed
    long₂ = omega (arith, long₁, put-length heads_from m tailed h' (omega (arith, long₁)) nh)

    long : length arced ≡ length xs
    long =
        put-length capacities_from m headed c' (omega (arith, long₂)) nc ∙ put-length heads_from m tailed h' (omega (arith, long₁)) nh ∙
        put-length tails_from m xs t' (omega arith) nt

    -- The slice keeps its length.
    pub filled-length : length filled ≡ length xs
    filled-length = length-set (set arced 768 source) 800 sink ∙ (length-set arced 768 source ∙ long)

    tails-in : part tails_from m filled ≡ t
    tails-in =
        behind tails_from m (set arced 768 source) 800 sink (omega arith) ∙ behind tails_from m arced 768 source (omega arith) ∙
        part-before capacities_from m headed 0 m c' (omega (arith, long₂)) (omega arith) ∙
        part-before heads_from m tailed 0 m h' (omega (arith, long₁)) (omega arith) ∙ part-put tails_from m xs t' (omega arith) nt ∙ et

    heads-in : part heads_from m filled ≡ h
    heads-in =
        behind heads_from m (set arced 768 source) 544 sink (omega arith) ∙ behind heads_from m arced 512 source (omega arith) ∙
        part-before capacities_from m headed 256 m c' (omega (arith, long₂)) (omega arith) ∙ part-put heads_from m tailed h' (omega (arith, long₁)) nh ∙ eh

    capacities-in : part capacities_from m filled ≡ c
    capacities-in =
        behind capacities_from m (set arced 768 source) 288 sink (omega arith) ∙ behind capacities_from m arced 256 source (omega arith) ∙
        part-put capacities_from m headed c' (omega (arith, long₂)) nc ∙ ec

    sources-in : part sources_from 1 filled ≡ source ∷ []
    sources-in =
        behind sources_from 1 (set arced 768 source) 32 sink (omega arith) ∙
        (ap (take 1) (drop-set-add sources_from arced 0 source) ∙ alone (drop sources_from arced) source (omega (arith, long, length-drop sources_from arced)))

    sinks_in : part sinks_from 1 filled ≡ sink ∷ []
    sinks_in =
        ap (take 1) (drop-set-add sinks_from (set arced 768 source) 0 sink) ∙
        alone (drop sinks_from (set arced 768 source)) sink (omega (arith, long, length-set arced 768 source, length-drop sinks_from (set arced 768 source)))

    -- The marks come last, all 0, and leave the other columns alone.
    module _ {z : List ℕ} (ez : z ≡ replicate (length (part marks_from m filled)) 0) where
      abbrev marked : List ℕ
      marked = put marks_from m filled z

      fits : marks_from + m ≤ length filled
      fits = omega (arith, filled-length)

      zeros : z ≡ replicate m 0
      zeros = ez ∙ ap (λ (n : ℕ). replicate {A = ℕ} n 0) (part_length marks_from m filled fits)

      nz : length z ≡ m
      nz = ap length zeros ∙ length-replicate m 0

      stays : (b k : ℕ) → b + k ≤ marks_from → part b k marked ≡ part b k filled
      stays b k past = part-before marks_from m filled b k z (omega (arith, fits)) past

      pub packed :
          s.commodities ≡ 1 → s.limits ≡ 0 →
          net_in s marked ≡
          record { nodes = s.nodes; tails = t; heads = h; capacities = c; marks = replicate m 0; limits = []; sources = source ∷ []; sinks = sink ∷ [] }
      unfolding net_in
      packed one none =
          rw (
            one,
            none,
            stays tails_from m (omega arith) ∙ tails-in,
            stays heads_from m (omega arith) ∙ heads-in,
            stays capacities_from m (omega arith) ∙ capacities-in,
            part-put marks_from m filled z fits nz ∙ zeros,
            stays sources_from 1 (omega arith) ∙ sources-in,
            stays sinks_from 1 (omega arith) ∙ sinks_in,
          )
          refl
