-- `site::parts::of_floor` meets its contract: a part of each slice. Assumes nothing.
use mathlib.Core.Path.{◌≡◌, ap, ap₂, ◌∙◌}
use Rattle.site.specs.declared.parts.Parts.{Parts}
use Rattle.site.specs.declared.parts.Span.{Span}
use Rattle.site.proofs.parts.of_floor.Goals as goal

abbrev parts : Span → Span → Span → Span → Span → Parts
parts belts pairs limits flow lengths = record { belts = belts; pairs = pairs; limits = limits; flow = flow; lengths = lengths }

same_parts :
    {b b' p p' l l' f f' e e' : Span} → b ≡ b' → p ≡ p' → l ≡ l' → f ≡ f' → e ≡ e' → parts b p l f e ≡ parts b' p' l' f' e'
same_parts {b' = b'} {p' = p'} {l = l} {l' = l'} {f = f} {f' = f'} {e = e} hb hp hl hf he =
    ap₂ (λ x y. parts x y l f e) hb hp ∙ (ap₂ (λ x y. parts b' p' x y e) hl hf ∙ ap (parts b' p' l' f') he)

pub returns : goal.returns
returns c =
    same_parts c.part_of.ensures c.part_of-2.ensures c.part_of-3.ensures c.part_of-4.ensures c.part_of-5.ensures
