-- One floor: its own call on its parts, put back, is that floor sent. Assumes nothing.
use mathlib.Core.Path.{◌≡◌, ap, ap₂, ◌∙◌}
use mathlib.Core.Bool.{false}
use mathlib.Core.List.{List, ◌++◌}
use Prim.Native.Nat.{ℕ, ◌+◌, ◌*◌, ◌≤◌}
use lib.ListN.{length}
use Rattle.numbers.specs.Digits.{to_bytes}
use Rattle.numbers.specs.Numbers.{put_at}
use Rattle.packed.specs.Part.{part, put}
use Rattle.call.specs.Deliver.{slices}
use Rattle.call.specs.Host.{Slices, Hosted}
use Rattle.call.proofs.Equal.{same-slices}
use Rattle.site.specs.Parts.{told, put_own}
use Rattle.site.specs.Site.{Site, precision_of}
use Rattle.site.specs.Turns.{parts_of, FloorServed}
use Rattle.site.specs.declared.parts.Parts.{Parts}
use Rattle.site.proofs.Eight.{eight}

module _ (t : Site) (i : ℕ) (s : Slices) (room : 64 * i + 64 ≤ length s.answer) where
  -- the call as the code makes it, with its parts p, and the slices once they have come back
  abbrev Called : ℕ → ℕ → Parts → Slices → ℕ → Type 0
  Called n q p x r =
      Hosted false n q t.office (part p.belts.from p.belts.size t.belts) (part p.pairs.from p.pairs.size t.pairs)
      (part p.limits.from p.limits.size t.limits)
      (slices (part p.flow.from p.flow.size s.flow) (part p.lengths.from p.lengths.size s.lengths) (part (64 * i + 8) 56 s.answer) s.counts) x r

  abbrev back : Parts → Slices → List ℕ → Slices
  back p x answers =
      slices (put p.flow.from p.flow.size s.flow x.flow) (put p.lengths.from p.lengths.size s.lengths x.lengths) answers x.counts

  abbrev parts : Parts
  parts = parts_of t.floors i t.belts t.pairs t.limits s.flow s.lengths

  with-parts :
      (x : Slices) (r : ℕ) (answers : List ℕ) → Called (told t.floors i 0) (precision_of t i) parts x r →
      answers ≡ put_at (put (64 * i + 8) 56 s.answer x.answer) (8 * i) r → FloorServed t i s (back parts x answers)
  with-parts x r answers h e =
      record {
        left =
            same-slices (ap (λ y. put_own t.floors 5 i s.flow y.flow) h.left) (ap (λ y. put_own t.floors 6 i s.lengths y.lengths) h.left)
            (e ∙ (eight s.answer i room r x.answer ∙ ap₂ (λ y z. put (64 * i) 64 s.answer (to_bytes 8 y ++ z.answer)) h.returned h.left))
            (ap (λ y. y.counts) h.left);
        guarantee = h.guarantee;
      }

  -- whatever the numbers that were read are called
  pub floor-served :
      {n q : ℕ} {p : Parts} {x : Slices} {r : ℕ} {answers : List ℕ} → n ≡ told t.floors i 0 → q ≡ precision_of t i → p ≡ parts → Called n q p x r →
      answers ≡ put_at (put (64 * i + 8) 56 s.answer x.answer) (8 * i) r → FloorServed t i s (back p x answers)
  floor-served {x = x} {r = r} {answers = answers} en eq ep h e = rw ep (with-parts x r answers (rw (en, eq, ep) at h) e)
